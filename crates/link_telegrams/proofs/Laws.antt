-- What is written into a frame's room is what is given; the fields of what was asked for in its bytes. Assumes nothing.
use mathlib.Core.Path.{◌≡◌, refl, sym, ap, ◌∙◌}
use Prim.Native.Nat.{ℕ, ◌+◌, ◌-◌, ◌≤◌}
use native.Mathlib.Omega.{arith}
use mathlib.Core.Bool.{Bool, true}
use mathlib.Core.List.{List, [], ◌∷◌, ◌++◌}
use lib.ListN.{length, get_or, drop}
use lib.Dec.{T}
use Rattle.codec.specs.Plain.{zeros}
use Rattle.codec.specs.Word.{word, word_at}
use Rattle.codec.specs.Code.{byte, word32, both, via, such}
use Rattle.codec.proofs.Lists.{drop_zeros}
use Rattle.codec.proofs.Tests.{left, T_true}
use Rattle.codec.proofs.Word.{word_back}
use Rattle.telegram.specs.Telegram.{Opening, set_up, opening_fits, opening_bytes, fits, own_connection}
use Rattle.std.specs.Prelude.{Result, Ok, Err}
use Rattle.std.specs.Result.{result_unwrap_or}
use Rattle.codes.specs.declared.Refusal.{Refusal}
use Rattle.codes.specs.Code.{value_of}
use Rattle.telegram_types.specs.Face.{Wrote, wrote, over, done, written_if}
use Rattle.link.specs.Connection.{Asked, asked_fits, set_up_of, ours}
use Rattle.link_layout.specs.Sizes.{rx_id_in, destination_in, application_in, block_size_in, t1_in, t3_in}
use Rattle.link_layout.specs.Connection.{asked}
use Rattle.link_layout.proofs.Bytes.{asked_size_law}
use Rattle.link_layout.proofs.Lawful.{asked_lawful}
use Rattle.link_layout.proofs.Talking.{asked_fits_law, asked_facts, AskedFacts}
use Rattle.link_layout.proofs.Moves.{ours_fit}
use Rattle.link_telegrams.specs.Given.{frame_room, given, AskedPart}

-- ---- written

zeros_left : (b : List ℕ) → length b ≤ frame_room → drop (length b) (zeros frame_room) ≡ zeros (frame_room - length b)
zeros_left b h =
    let k : frame_room ≡ length b + (frame_room - length b) = omega arith in
    ap (λ (n : ℕ). drop (length b) (zeros n)) k ∙ drop_zeros (length b) (frame_room - length b)

pub written : (id : ℕ) (w : Result ℕ Refusal) (buf b : List ℕ) (fit : Bool) → fit ≡ true → length b ≤ frame_room → wrote w buf ≡ written_if fit b (zeros frame_room)
    → record { there = true; id = id; len = value_of w; bytes = buf } ≡ given id b
unfolding given wrote written_if done over
written id w buf b fit f h e =
    let q : wrote w buf ≡ done b (zeros frame_room) = e ∙ ap (λ (x : Bool). written_if x b (zeros frame_room)) f in
    let n : value_of w ≡ length b = ap (λ (x : Wrote). x.len) q in
    let s : buf ≡ b ++ zeros (frame_room - length b) = ap (λ (x : Wrote). x.buffer) q ∙ ap (λ (x : List ℕ). b ++ x) (zeros_left b h) in
    λ i. record { there = true; id = id; len = n i; bytes = s i }

-- how many bytes were written
pub value_or : (w : Result ℕ Refusal) → result_unwrap_or w 0 ≡ value_of w
value_or (Ok n) = refl
value_or (Err refusal) = refl

pub set_up_short : (d rx app : ℕ) → length (opening_bytes (set_up d rx app)) ≤ frame_room
unfolding opening_bytes
set_up_short d rx app = omega arith

-- ---- what was asked for

asked_bytes : (a : Asked) → asked.put a ≡ word a.own ++ (word a.rx_id ++ a.destination ∷ a.application ∷ a.block_size ∷ a.t1 ∷ a.t3 ∷ [])
unfolding asked via such both byte word32
asked_bytes a = refl

module _ (m : List ℕ) (p : AskedPart m) where
  abbrev pub a : Asked
  a = asked.get m

  pub asked_ok : T (asked.ok a)
  asked_ok = asked_lawful.ok_get m (p.long ∙ sym asked_size_law) p.valid

  is : m ≡ word a.own ++ (word a.rx_id ++ a.destination ∷ a.application ∷ a.block_size ∷ a.t1 ∷ a.t3 ∷ [])
  is = sym (asked_lawful.put_get m (p.long ∙ sym asked_size_law) p.valid) ∙ asked_bytes a

  abbrev facts : AskedFacts a
  facts = asked_facts a (asked_fits_law a asked_ok)

  pub own_is : word_at 0 m ≡ a.own
  own_is = ap (λ (x : List ℕ). word_at 0 x) is ∙ (unfold word word_at in word_back a.own (omega (arith, facts.own_high)))

  pub rx_is : word_at rx_id_in m ≡ a.rx_id
  rx_is = ap (λ (x : List ℕ). word_at rx_id_in x) is ∙ (unfold word word_at in word_back a.rx_id (omega (arith, facts.rx_id_high)))

  pub rx_narrow : word_at rx_id_in m ≤ 0x7FF
  rx_narrow = omega (arith, rx_is, facts.rx_id_high)

  byte_is : (i n : ℕ) → get_or (word a.own ++ (word a.rx_id ++ a.destination ∷ a.application ∷ a.block_size ∷ a.t1 ∷ a.t3 ∷ [])) i 0 ≡ n → get_or m i 0 ≡ n
  byte_is i n e = ap (λ (x : List ℕ). get_or x i 0) is ∙ e

  pub set_up_is : (id rx : ℕ) → id ≡ word_at 0 m → rx ≡ word_at rx_id_in m → ◌≡◌ {A = ℕ × Opening} (id, set_up (get_or m destination_in 0) rx (get_or m application_in 0)) (a.own, set_up_of a)
  unfolding set_up_of word
  set_up_is id rx e f = λ i. ((e ∙ own_is) i, set_up (byte_is destination_in _ refl i) ((f ∙ rx_is) i) (byte_is application_in _ refl i))

  pub set_up_fits : opening_fits a.own (set_up_of a) ≡ true
  set_up_fits = T_true _ (unfold asked_fits in left (opening_fits a.own (set_up_of a)) _ (asked_fits_law a asked_ok))

  pub ours_is : (ack : Bool) → own_connection ack (get_or m block_size_in 0) (get_or m t1_in 0) (get_or m t3_in 0) ≡ ours ack a
  unfolding ours word
  ours_is ack = λ i. own_connection ack (byte_is block_size_in _ refl i) (byte_is t1_in _ refl i) (byte_is t3_in _ refl i)

  pub ours_fits : (ack : Bool) → fits (ours ack a) ≡ true
  ours_fits ack = ours_fit ack a asked_ok
