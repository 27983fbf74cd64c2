-- What a message that was sent tells, in the bytes of a region. Assumes nothing.
use Rattle.std.specs.Prelude.{if◌then◌else◌}
use mathlib.Core.Path.{◌≡◌, refl, sym, ap, ◌∙◌, subst}
use Prim.Native.Nat.{ℕ, ◌+◌, ◌-◌, ◌≤◌}
use native.Mathlib.Omega.{arith}
use mathlib.Core.Bool.{Bool, true, false}
use mathlib.Core.List.{List, [], ◌∷◌, ◌++◌, append-nil}
use lib.ListN.{length, get_or, take, drop}
use lib.Seq.{length-take-le}
use lib.Dec.{T, eqb}
use borrow.Rule.Slice.PartMut.{put_mid, mid_of}
use Rattle.codec.specs.Plain.{all, member}
use Rattle.codec.specs.Word.{word}
use Rattle.codec.specs.Code.{byte, word32, both, via, such, mark, mark_of}
use Rattle.codec.proofs.Tests.{left, right}
use Rattle.codec.proofs.Lists.{of_member}
use Rattle.codec.proofs.Part.{byte_of}
use Rattle.machine.specs.Message.{Rec, received, id_bytes}
use Rattle.machine.specs.Channel.{Receiving, Config}
use Rattle.layout.specs.Memory.{config}
use Rattle.layout.specs.Sizes.{loopback_at}
use Rattle.iso.specs.Limits.{id_size}
use Rattle.iso.specs.Iso.{OpenIso, ready, set_receiving, tx_done, arrive_iso, done_records}
use Rattle.iso_layout.specs.Sizes.{heard_at, heard_size}
use Rattle.iso_layout.specs.Region.{iso_incoming, heard_cell, heard_part, iso_region}
use Rattle.iso_layout.specs.Promise.{IsoOpened}
use Rattle.iso_layout.proofs.Region.{ready_of, kept, lies, config_part, receiving_part_law}
use Rattle.iso_done.specs.Done.{message_of, Tellable}
use Rattle.talk_message.specs.Sent.{messages}
use Rattle.talk_message.specs.declared.Sent.{Sent}
use Rattle.iso_landing.specs.Landing.{channel_in, arrives, Holds}

-- the loopback mark
loop_byte : (c : Config) → get_or (config.put c) 8 0 ≡ mark_of c.loopback
unfolding config via such both word32 mark byte word
loop_byte c = refl

mark_one : (b : Bool) → eqb (mark_of b) 1 ≡ b
mark_one true = refl
mark_one false = refl

module _ (r : List ℕ) (f : IsoOpened r) (clock : ℕ) (m : Sent) (buffer : List ℕ) where
  abbrev o : OpenIso
  o = ready_of r

  abbrev flags : ℕ
  flags = o.config.flags

  abbrev loop : Bool
  loop = o.config.loopback

  abbrev goal : List ℕ
  goal = iso_region.put (ready (arrives clock (channel_in r) (messages m buffer)))

  -- no message
  pub none_done : m.whole ≡ false → r ≡ goal
  unfolding channel_in arrives messages done_records arrive_iso set_receiving
  none_done e =
      sym (kept r f) ∙ ap (λ (b : Bool). iso_region.put (ready (arrives clock o (if b then message_of m.tx m.id (take m.size buffer) ∷ [] else [])))) (sym e)

  -- a message
  abbrev sent : Rec
  sent = message_of m.tx m.id (take m.size buffer)

  module _ (e : m.whole ≡ true) (h : Holds clock (channel_in r) (messages m buffer)) where
    records : done_records clock loop (messages m buffer) ≡ tx_done clock loop sent
    unfolding messages done_records
    records = ap (λ (b : Bool). done_records clock loop (if b then sent ∷ [] else [])) e ∙ append-nil (tx_done clock loop sent)

    fits : T (all (heard_cell flags).ok (tx_done clock loop sent))
    unfolding channel_in
    fits = subst (λ (xs : List Rec). T (all (heard_cell flags).ok xs)) records h

    pub tx_small : m.tx ≤ 0x100
    unfolding tx_done message_of received heard_cell such iso_incoming
    tx_small =
        let done : Rec = received clock (m.tx + 9) (take id_size (id_bytes m.id ++ take m.size buffer)) in
        let t : T ((heard_cell flags).ok done) = left ((heard_cell flags).ok done) _ fits in
        let k : T (member (m.tx + 9) (0 ∷ 1 ∷ 2 ∷ 9 ∷ 0x100 ∷ 0x101 ∷ 0x102 ∷ 0x109 ∷ [])) = search (left, right) depth 8 in
        of_member (λ (n : ℕ). n ≡ m.tx + 9 → m.tx ≤ 0x100) (0 ∷ 1 ∷ 2 ∷ 9 ∷ 0x100 ∷ 0x101 ∷ 0x102 ∷ 0x109 ∷ [])
        ((λ q. omega arith), ((λ q. omega arith), ((λ q. omega arith), ((λ q. omega arith), ((λ q. omega arith), ((λ q. omega arith), ((λ q. omega arith), ((λ q. omega arith), tt)))))))) (m.tx + 9) k refl

    loop_is : eqb (get_or r loopback_at 0) 1 ≡ loop
    loop_is = ap (λ (k : ℕ). eqb k 1) (byte_of (config_part o r (lies r f)) 8 (omega arith) ∙ loop_byte o.config) ∙ mark_one loop

    module _ (l : Bool) (el : l ≡ eqb (get_or r loopback_at 0) 1) (b : List ℕ) (eb : b ≡ take m.size buffer) where
      abbrev q : List ℕ
      q = mid_of heard_at (heard_size + 1) r

      told_is : tx_done clock l (message_of m.tx m.id b) ≡ tx_done clock loop sent
      told_is = λ i. tx_done clock ((el ∙ loop_is) i) (message_of m.tx m.id (eb i))

      pub long : length q ≡ heard_size + 1
      long = (receiving_part_law o r (lies r f)).long

      fits_told : T (all (heard_cell flags).ok (tx_done clock l (message_of m.tx m.id b)))
      fits_told = subst (λ (xs : List Rec). T (all (heard_cell flags).ok xs)) (sym told_is) fits

      pub tellable : Tellable q clock l (message_of m.tx m.id b)
      tellable = record { flags = flags; valid = (receiving_part_law o r (lies r f)).valid; fits = fits_told }

      pub message_done : (ys : List ℕ)
          → ((flags : ℕ) → T ((heard_part flags).valid q) → T (all (heard_cell flags).ok (tx_done clock l (message_of m.tx m.id b))) → ys ≡ (heard_part flags).put (arrive_iso ((heard_part flags).get q) (tx_done clock l (message_of m.tx m.id b))))
          → put_mid heard_at (heard_size + 1) r ys ≡ goal
      unfolding channel_in arrives
      message_done ys y =
          let p = receiving_part_law o r (lies r f) in
          p.becomes ys (arrive_iso o.receiving (done_records clock loop (messages m buffer)))
          (y flags p.valid fits_told ∙ (λ i. (heard_part flags).put (arrive_iso (p.got i) ((told_is ∙ sym records) i))))

-- so many bytes of a buffer
pub lent_is : (n : ℕ) (buffer : List ℕ) → take (n - 0) buffer ≡ take n buffer
lent_is n buffer = let z : n - 0 ≡ n = omega arith in ap (λ (k : ℕ). take k buffer) z

pub lent_short : (n k : ℕ) (buffer : List ℕ) → length buffer ≡ k → n ≤ k → length (take (n - 0) buffer) ≤ k
lent_short n k buffer l h = let e : length (take (n - 0) buffer) ≡ n - 0 = length-take-le (n - 0) buffer (omega arith) in omega arith
