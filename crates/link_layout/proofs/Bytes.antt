-- Where each part of a connection lies: the size of each, and the bytes of a connection in each state. The offsets are the sums of the sizes
-- before: the state at 0, what was asked for at 1, the TX-ID at 14, the opening telegram at 18, the disconnect telegram at 24, the standing connection
-- at 29. Assumes nothing.
use mathlib.Core.Path.{◌≡◌, refl}
use Prim.Native.Nat.{ℕ}
use mathlib.Core.List.{List, [], ◌∷◌, ◌++◌}
use Rattle.codec.specs.Plain.{zeros}
use Rattle.codec.specs.Word.{word}
use Rattle.codec.specs.Code.{byte, word32, both, both_on, via, such, mark, many, present, text}
use lib.ListN.{get_or}
use Rattle.link.specs.Connection.{Asked, Trial, Link, Exit, Connection, state_of, absent, opening, connecting, standing, leaving}
use Rattle.link_layout.specs.Connection.{asked, trial, trials, leaves, wire, block, out, talk, ack, hear, care, link, after, connection_part}

-- ---- sizes

pub asked_size_law : asked.size ≡ 13
unfolding asked both via such word32 byte
asked_size_law = refl

pub trials_size_law : trials.size ≡ 6
unfolding trials trial both via such word32 byte
trials_size_law = refl

pub leaves_size : leaves.size ≡ 5
unfolding leaves both via such word32 byte
leaves_size = refl

pub wire_size : wire.size ≡ 5
unfolding wire both via such word32 byte
wire_size = refl

pub care_size_law : care.size ≡ 7
unfolding care both via such mark word32 byte
care_size_law = refl

pub block_size : block.size ≡ 519
unfolding block both via such text many word32 byte
block_size = refl

pub talk_size_law : talk.size ≡ 529
unfolding talk out block both via such text many word32 byte
talk_size_law = refl

pub hear_size_law : hear.size ≡ 519
unfolding hear ack both via such mark text many word32 byte
hear_size_law = refl

pub link_size_law : link.size ≡ 1062
unfolding link wire care talk out block hear ack both via such mark text many word32 byte
link_size_law = refl

-- ---- a connection's bytes, state by state

pub absent_bytes : connection_part.put absent ≡ zeros 1091
unfolding connection_part after asked trials trial leaves link wire care talk out block hear ack both_on both via such present mark text many word32 byte
absent_bytes = refl

pub opening_bytes : (a : Asked) (n : ℕ) (s : Trial)
    → connection_part.put (opening a n s) ≡ 1 ∷ (asked.put a ++ (zeros 4 ++ (trials.put (n, s) ++ (zeros 5 ++ zeros 1062))))
unfolding connection_part after leaves link wire care talk out block hear ack both_on both via such present mark text many word32 byte
opening_bytes a n s = refl

pub connecting_bytes : (a : Asked) (tx n : ℕ) (s : Trial)
    → connection_part.put (connecting a tx n s) ≡ 2 ∷ (asked.put a ++ (word tx ++ (trials.put (n, s) ++ (zeros 5 ++ zeros 1062))))
unfolding connection_part after leaves link wire care talk out block hear ack both_on both via such present mark text many word32 byte
connecting_bytes a tx n s = refl

pub standing_bytes : (a : Asked) (tx : ℕ) (l : Link)
    → connection_part.put (standing a tx l) ≡ 3 ∷ (asked.put a ++ (word tx ++ (zeros 6 ++ (zeros 5 ++ link.put l))))
unfolding connection_part after trials trial leaves both_on both via such present word32 byte
standing_bytes a tx l = refl

pub leaving_bytes : (tx : ℕ) (e : Exit) → connection_part.put (leaving tx e) ≡ 4 ∷ (zeros 13 ++ (word tx ++ (zeros 6 ++ (leaves.put e ++ zeros 1062))))
unfolding connection_part after asked trials trial link wire care talk out block hear ack both_on both via such present mark text many word32 byte
leaving_bytes tx e = refl

-- the first byte is the state
pub state_byte : (c : Connection) → get_or (connection_part.put c) 0 0 ≡ state_of c
unfolding connection_part after both_on both via such byte state_of
state_byte absent = refl
state_byte (opening a n s) = refl
state_byte (connecting a tx n s) = refl
state_byte (standing a tx l) = refl
state_byte (leaving tx e) = refl
