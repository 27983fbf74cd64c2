-- What validity is of an open ISO 15765 channel's region and of a region, as code finds it out. Assumes nothing.
use mathlib.Core.Path.{◌≡◌, sym, ap, ap₂, ◌∙◌}
use Prim.Native.Nat.{ℕ, ◌+◌}
use native.Mathlib.Omega.{arith}
use mathlib.Core.Bool.{Bool, true, false, ◌&&◌, not}
use mathlib.Core.Option.{Option}
use mathlib.Core.List.{List, [], ◌∷◌}
use lib.ListN.{get_or, take, drop}
use lib.Seq.{drop-drop, take-take}
use lib.Dec.{leb}
use Rattle.codec.specs.Plain.{member}
use Rattle.codec.specs.Word.{word_at}
use Rattle.codec.specs.Code.{Code, byte, both, both_on, via, such, mark, slot, up_to}
use Rattle.codec.proofs.Tests.{and_assoc}
use Rattle.machine.specs.Filter.{Slots}
use Rattle.machine.specs.Message.{Rec}
use Rattle.machine.specs.Channel.{Receiving, listens}
use Rattle.layout.specs.Sizes.{config_size, flags_at}
use Rattle.layout.specs.Memory.{config}
use Rattle.layout.proofs.Sizes.{config_size_law}
use Rattle.validity.proofs.Region.{config_key}
use Rattle.iso.specs.Limits.{most_messages, most_heard}
use Rattle.iso.specs.Iso.{Talk, Flight, iso_codes}
use Rattle.iso_layout.specs.Sizes.{talk_size, talks_size, messages_size, iso_flight_size, heard_size, talks_at, messages_at, iso_flight_at, heard_at, iso_last_at}
use Rattle.iso_layout.specs.Region.{message_cell, heard_cell, talk_cell, talks_code, flight_code, heard_part, iso_last_part, iso_rest, ready_back, linked_talks, linked, ready_part}
use Rattle.iso_layout.proofs.Sizes.{talks_size_law, messages_size_law, iso_flight_size_law, heards_size, heard_part_size}
use Rattle.stored_records.proofs.Parts.{Bytes, less, part_within, byte_valid, both_is, mark_is, at_rest}
use Rattle.iso_stored.specs.Held.{held}
use Rattle.iso_talks.proofs.Places.{talks_got}

module _ (flags : ℕ) where
  -- the queue and the lost mark
  pub heard_flat : (m : List ℕ) → Bytes m → ((up_to most_heard (held false flags)).valid (take heard_size m) && leb (get_or m heard_size 0) 1) ≡ (heard_part flags).valid m
  unfolding heard_part via held
  heard_flat m t =
      sym (both_is (up_to most_heard (heard_cell flags)) mark heard_size m (heards_size flags)
      ∙ ap (λ (b : Bool). (up_to most_heard (heard_cell flags)).valid (take heard_size m) && b) (mark_is (drop heard_size m) (less heard_size m t) ∙ ap (λ (k : ℕ). leb k 1) (at_rest heard_size m)))

  -- the last code
  last_flat : (m : List ℕ) → Bytes m → iso_last_part.valid (drop iso_last_at m) ≡ member (get_or m iso_last_at 0) iso_codes
  unfolding iso_last_part such byte
  last_flat m t = ap₂ (λ (b : Bool) (k : ℕ). b && member k iso_codes) (byte_valid (drop iso_last_at m) (less iso_last_at m t)) (at_rest iso_last_at m)

  -- ---- what lies behind the configuration, each part where it begins in the region

  abbrev Late : Code (Receiving × ℕ)
  Late = both (heard_part flags) iso_last_part

  abbrev Fly : Code (Option Flight × (Receiving × ℕ))
  Fly = both (slot (flight_code flags)) Late

  abbrev Written : Code (List Rec)
  Written = up_to most_messages (message_cell flags)

  abbrev Behind : Code (List Rec × (Option Flight × (Receiving × ℕ)))
  Behind = both Written Fly

  abbrev pub rest_tests : List ℕ → Bool
  rest_tests m =
      (talks_code flags).valid (take talks_size (drop talks_at m))
      && ((up_to most_messages (held true flags)).valid (take messages_size (drop messages_at m))
      && ((slot (flight_code flags)).valid (take iso_flight_size (drop iso_flight_at m))
      && ((heard_part flags).valid (take (heard_size + 1) (drop heard_at m)) && member (get_or m iso_last_at 0) iso_codes)))

  rest_flat : (m : List ℕ) → Bytes m → (iso_rest flags).valid (drop talks_at m) ≡ rest_tests m
  unfolding iso_rest held
  rest_flat m t =
      both_is (talks_code flags) Behind talks_size (drop talks_at m) (talks_size_law flags)
      ∙ ap (λ (b : Bool). (talks_code flags).valid (take talks_size (drop talks_at m)) && b)
      (ap (λ (x : List ℕ). Behind.valid x) (drop-drop talks_size talks_at m)
      ∙ both_is Written Fly messages_size (drop messages_at m) (messages_size_law flags)
      ∙ ap (λ (b : Bool). Written.valid (take messages_size (drop messages_at m)) && b)
      (ap (λ (x : List ℕ). Fly.valid x) (drop-drop messages_size messages_at m)
      ∙ both_is (slot (flight_code flags)) Late iso_flight_size (drop iso_flight_at m) (iso_flight_size_law flags)
      ∙ ap (λ (b : Bool). (slot (flight_code flags)).valid (take iso_flight_size (drop iso_flight_at m)) && b)
      (ap (λ (x : List ℕ). Late.valid x) (drop-drop iso_flight_size iso_flight_at m)
      ∙ both_is (heard_part flags) iso_last_part (heard_size + 1) (drop heard_at m) (heard_part_size flags)
      ∙ ap (λ (b : Bool). (heard_part flags).valid (take (heard_size + 1) (drop heard_at m)) && b)
      (ap (λ (x : List ℕ). iso_last_part.valid x) (drop-drop (heard_size + 1) heard_at m) ∙ last_flat m t))))

  -- ---- the conversations and the flight that the region holds

  both_first : {A B : Type 0} (a : Code A) (b : Code B) (j : ℕ) (m : List ℕ) → a.size ≡ j → ((both a b).get m).0 ≡ a.get (take j m)
  unfolding both
  both_first a b j m e = ap (λ (k : ℕ). a.get (take k m)) e

  both_second : {A B : Type 0} (a : Code A) (b : Code B) (j : ℕ) (m : List ℕ) → a.size ≡ j → ((both a b).get m).1 ≡ b.get (drop j m)
  unfolding both
  both_second a b j m e = ap (λ (k : ℕ). b.get (drop k m)) e

  abbrev Place : Code (Option Talk)
  Place = slot (talk_cell flags)

  abbrev pub two_talks : List ℕ → Slots Talk
  two_talks m = Place.get (take talk_size (drop talks_at m)) ∷ Place.get (take talk_size (drop (talks_at + talk_size) m)) ∷ []

  two_talks_law : (m : List ℕ) → ((iso_rest flags).get (drop talks_at m)).0 ≡ two_talks m
  unfolding iso_rest
  two_talks_law m =
      both_first (talks_code flags) Behind talks_size (drop talks_at m) (talks_size_law flags)
      ∙ talks_got flags (take talks_size (drop talks_at m))
      ∙ (λ i. Place.get (take-take talk_size talks_size (drop talks_at m) (omega arith) i)
      ∷ Place.get ((part_within talk_size talk_size talks_size (drop talks_at m) (omega arith) ∙ ap (λ (x : List ℕ). take talk_size x) (drop-drop talk_size talks_at m)) i) ∷ [])

  a_flight : (m : List ℕ) → ((iso_rest flags).get (drop talks_at m)).1.1.0 ≡ (slot (flight_code flags)).get (take iso_flight_size (drop iso_flight_at m))
  unfolding iso_rest
  a_flight m =
      ap (λ (p : List Rec × (Option Flight × (Receiving × ℕ))). p.1.0) (both_second (talks_code flags) Behind talks_size (drop talks_at m) (talks_size_law flags) ∙ ap Behind.get (drop-drop talks_size talks_at m))
      ∙ ap (λ (p : Option Flight × (Receiving × ℕ)). p.0) (both_second Written Fly messages_size (drop messages_at m) (messages_size_law flags) ∙ ap Fly.get (drop-drop messages_size messages_at m))
      ∙ both_first (slot (flight_code flags)) Late iso_flight_size (drop iso_flight_at m) (iso_flight_size_law flags)

-- ---- an open channel

module _ (m : List ℕ) where
  key : ℕ
  key = (config.get (take config.size (drop flags_at m))).flags

  key_is : key ≡ word_at flags_at m
  unfolding key
  key_is = ap (λ (k : ℕ). (config.get (take k (drop flags_at m))).flags) config_size_law ∙ config_key m

  rest_at : drop config.size (drop flags_at m) ≡ drop talks_at m
  rest_at = ap (λ (k : ℕ). drop k (drop flags_at m)) config_size_law ∙ drop-drop config_size flags_at m

  parts_flat : Bytes m → (both_on (λ c. c.flags) config iso_rest).valid (drop flags_at m) ≡ (config.valid (take config_size (drop flags_at m)) && rest_tests (word_at flags_at m) m)
  unfolding both_on key
  parts_flat t =
      ap₂ (λ (k : ℕ) (x : List ℕ). config.valid (take k (drop flags_at m)) && (iso_rest key).valid x) config_size_law rest_at
      ∙ ap (λ (b : Bool). config.valid (take config_size (drop flags_at m)) && b) (rest_flat key m t ∙ ap (λ (k : ℕ). rest_tests k m) key_is)

  linked_flat : linked (ready_back ((both_on (λ c. c.flags) config iso_rest).get (drop flags_at m)))
      ≡ (linked_talks (two_talks key m) ((slot (flight_code key)).get (take iso_flight_size (drop iso_flight_at m))) && not (listens (word_at flags_at m)))
  unfolding both_on linked key
  linked_flat =
      let talks : linked_talks _ _ ≡ linked_talks _ _ =
      ap (λ (x : List ℕ). linked_talks ((iso_rest key).get x).0 ((iso_rest key).get x).1.1.0) rest_at
      ∙ ap₂ (λ (ts : Slots Talk) (f : Option Flight). linked_talks ts f) (two_talks_law key m) (a_flight key m) in
      λ j. talks j && not (listens (key_is j))

  pub open_flat : Bytes m → (l : Bool) → ((flags : ℕ) → l ≡ linked_talks (two_talks flags m) ((slot (flight_code flags)).get (take iso_flight_size (drop iso_flight_at m))))
      → (config.valid (take config_size (drop flags_at m)) && rest_tests (word_at flags_at m) m && l && not (listens (word_at flags_at m))) ≡ ready_part.valid (drop flags_at m)
  unfolding ready_part such via
  open_flat t l e =
      let quiet : Bool = not (listens (word_at flags_at m)) in
      let parts : Bool = config.valid (take config_size (drop flags_at m)) && rest_tests (word_at flags_at m) m in
      sym (ap₂ (λ (a b : Bool). a && b) (parts_flat t) (linked_flat ∙ ap (λ (b : Bool). b && quiet) (sym (e key))) ∙ and_assoc parts l quiet)
