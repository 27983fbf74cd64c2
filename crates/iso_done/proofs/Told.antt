-- What a message that was sent tells, in the bytes of a receiving part. Assumes nothing.
use Rattle.std.specs.Prelude.{if◌then◌else◌}
use mathlib.Core.Path.{◌≡◌, refl, sym, ap, ◌∙◌, subst}
use Prim.Native.Nat.{ℕ, ◌+◌, ◌≤◌}
use mathlib.Core.Bool.{Bool, true, false, ◌&&◌}
use mathlib.Core.List.{List, [], ◌∷◌, ◌++◌, append-nil}
use lib.ListN.{length, get_or, take, drop}
use lib.Seq.{take_at}
use lib.Dec.{T}
use Rattle.codec.specs.Plain.{all}
use Rattle.codec.specs.Code.{both, via, mark, up_to}
use Rattle.codec.proofs.Tests.{left, right, join}
use Rattle.codec.proofs.Lawful.{mark_ok, both_first, both_make}
use Rattle.machine.specs.Message.{Rec, id_bytes, received}
use Rattle.machine.specs.Channel.{Receiving}
use Rattle.iso.specs.Limits.{id_size, most_heard}
use Rattle.iso.specs.Iso.{tx_done, arrive_iso}
use Rattle.iso_layout.specs.Sizes.{heard_size}
use Rattle.iso_layout.specs.Region.{heard_cell, heard_parts, heard_part}
use Rattle.iso_layout.proofs.Sizes.{heard_part_size}
use Rattle.iso_layout.proofs.Lawful.{heard_part_lawful}
use Rattle.iso_layout.proofs.Hearing.{arrive_ok}
use Rattle.iso_queue.proofs.Laws.{count_few}
use Rattle.iso_done.specs.Done.{message_of, Tellable}

id_front : (id : ℕ) (b : List ℕ) → take id_size (id_bytes id ++ b) ≡ id_bytes id
unfolding id_bytes
id_front id b = refl

module _ (clock tx id : ℕ) (b : List ℕ) where
  abbrev done : Rec
  done = received clock (tx + 9) (id_bytes id ++ [])

  abbrev back : Rec
  back = received clock (tx + 1) (id_bytes id ++ b)

  tells : (loopback : Bool) → done ∷ (if loopback then back ∷ [] else []) ≡ tx_done clock loopback (message_of tx id b)
  unfolding tx_done message_of
  tells loopback =
      ap {B = List Rec} (λ (x : List ℕ). received clock (tx + 9) x ∷ (if loopback then back ∷ [] else [])) (append-nil (id_bytes id) ∙ sym (id_front id b))

  module _ (q : List ℕ) (long : length q ≡ heard_size + 1) (flags : ℕ) (v : T ((heard_part flags).valid q)) where
    abbrev now : Receiving
    now = (heard_part flags).get q

    -- with TxDone
    module _ (loopback : Bool) (fits : T (all (heard_cell flags).ok (tx_done clock loopback (message_of tx id b)))) where
      held : T ((heard_part flags).ok (arrive_iso now (done ∷ [])))
      unfolding heard_part via both
      held =
          let t : T (all (heard_cell flags).ok (done ∷ (if loopback then back ∷ [] else []))) = subst (λ (xs : List Rec). T (all (heard_cell flags).ok xs)) (sym (tells loopback)) fits in
          let one : T (all (heard_cell flags).ok (done ∷ [])) = join ((heard_cell flags).ok done) true (left ((heard_cell flags).ok done) (all (heard_cell flags).ok (if loopback then back ∷ [] else [])) t) tt in
          let whole : T ((heard_part flags).ok now) = (heard_part_lawful flags).ok_get q (long ∙ sym (heard_part_size flags)) v in
          join ((up_to most_heard (heard_cell flags)).ok (arrive_iso now (done ∷ [])).queue) (mark.ok (arrive_iso now (done ∷ [])).lost) (arrive_ok flags now (done ∷ []) (left ((up_to most_heard (heard_cell flags)).ok now.queue) (mark.ok now.lost) whole) one) (mark_ok (arrive_iso now (done ∷ [])).lost)

      module _ (ys : List ℕ) (y : ys ≡ (heard_part flags).put (arrive_iso now (done ∷ []))) where
        pub still_long : length ys ≡ heard_size + 1
        still_long = ap length y ∙ (heard_part_lawful flags).long _ held ∙ heard_part_size flags

        still_valid : T ((heard_part flags).valid ys)
        still_valid = subst (λ (m : List ℕ). T ((heard_part flags).valid m)) (sym y) ((heard_part_lawful flags).valid_put _ held)

        pub still_few : get_or ys 0 0 ≤ most_heard
        still_few = count_few flags ys still_long still_valid

        pub alone : loopback ≡ false → ys ≡ (heard_part flags).put (arrive_iso now (tx_done clock loopback (message_of tx id b)))
        alone e = y ∙ ap (λ (xs : List Rec). (heard_part flags).put (arrive_iso now xs)) (ap (λ (l : Bool). done ∷ (if l then back ∷ [] else [])) (sym e) ∙ tells loopback)

        pub followed : loopback ≡ true → (zs : List ℕ) → ((flags : ℕ) → T ((heard_part flags).valid ys) → zs ≡ (heard_part flags).put (arrive_iso ((heard_part flags).get ys) (back ∷ [])))
            → zs ≡ (heard_part flags).put (arrive_iso now (tx_done clock loopback (message_of tx id b)))
        unfolding arrive_iso
        followed e zs z =
            let got : (heard_part flags).get ys ≡ arrive_iso now (done ∷ []) = ap (heard_part flags).get y ∙ (heard_part_lawful flags).get_put _ held in
            z flags still_valid ∙ ap (λ (r : Receiving). (heard_part flags).put (arrive_iso r (back ∷ []))) got
            ∙ ap (λ (xs : List Rec). (heard_part flags).put (arrive_iso now xs)) (ap {B = List Rec} (λ (l : Bool). done ∷ (if l then back ∷ [] else [])) (sym e) ∙ tells loopback)
