-- What messages leave in a store of written messages. Assumes nothing.
use Rattle.std.specs.Prelude.{ℕ, suc, ◌≡◌, List, [], ◌∷◌, ◌++◌, ◌+◌, ◌*◌, ◌≤◌, eqb, if◌then◌else◌, T, length, drop}
use Rattle.codec.specs.Plain.{all, is_byte}
use Rattle.codec.specs.Code.{Code}
use Rattle.codec.proofs.Lawful.{Lawful}
use Rattle.machine.specs.Limits.{record_size}
use Rattle.machine.specs.Message.{Rec, clean}
use Rattle.machine.specs.Channel.{Wrote, unless_stopped, write_code, writing}
use Rattle.stores.specs.Written.{written}

-- those held after one message more: it is the last, clean, where its code is 0x00
unfoldable pub queued : ℕ → List Rec → List ℕ → List Rec
queued code held m = if eqb code 0x00 then held ++ clean m ∷ [] else held

-- one message: its code, by a rule for those held, and the bytes of the store after it
pub record Queued (store : Code (List Rec)) (rule : List Rec → List ℕ → ℕ) (before m : List ℕ) (code : ℕ) (after : List ℕ) : Type 0 where
  pub code_is : code ≡ rule (store.get before) m
  pub store_is : after ≡ store.put (queued (rule (store.get before) m) (store.get before) m)

-- the code, the count and the bytes of what a write leaves
pub record Stopped (store : Code (List Rec)) (w : Wrote) (code count : ℕ) (after : List ℕ) : Type 0 where
  pub code_is : code ≡ w.code
  pub count_is : count ≡ w.count
  pub store_is : after ≡ store.put w.held

-- a way of writing: the store, the size of a lent record, the rule of codes, what n records leave
pub record Kind : Type 0 where
  pub store : Code (List Rec)
  pub size : ℕ
  pub rule : List Rec → List ℕ → ℕ
  pub writes : ℕ → List ℕ → List Rec → ℕ → Wrote

-- the part of a region that holds its messages
pub record StorePart (w : Kind) (m : List ℕ) : Type 0 where
  pub long : length m ≡ w.store.size
  pub valid : T (w.store.valid m)

-- the laws of a way of writing: those of its store, what no record and one record leave, and that what is queued can be held
pub record Laws (w : Kind) : Type 0 where
  pub lawful : Lawful w.store
  pub none_left : (b : List ℕ) (held : List Rec) (count : ℕ) → w.writes 0 b held count ≡ record { held = held; count = count; code = 0 }
  pub one_left : (n : ℕ) (b : List ℕ) (held : List Rec) (count : ℕ)
      → w.writes (suc n) b held count ≡ unless_stopped (w.rule held b) held count (w.writes n (drop w.size b) (held ++ clean b ∷ []) (count + 1))
  pub more_ok : (held : List Rec) (m : List ℕ) → w.rule held m ≡ 0 → w.size ≤ length m → T (all is_byte m) → T (w.store.ok held) → T (w.store.ok (held ++ clean m ∷ []))

-- what a write of n records of a size is lent: the messages held, and a buffer that has so many records
pub record Lent (w : Kind) (size n : ℕ) (m b : List ℕ) : Type 0 where
  pub laws : Laws w
  pub sized : w.size ≡ size
  pub part : StorePart w m
  pub whole : size * n ≤ length b

-- that of raw CAN, on a connection of these flags
abbrev pub raw : ℕ → Kind
raw flags = record { store = written flags; size = record_size; rule = write_code flags; writes = writing flags }
