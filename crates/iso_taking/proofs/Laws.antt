-- Taking where nothing is in flight: the frame that is chosen, or none. Assumes nothing.
use mathlib.Core.Path.{◌≡◌, refl, sym, ap, ◌∙◌, subst}
use Prim.Native.Nat.{ℕ, ◌*◌, ◌≤◌}
use native.Mathlib.Nat.{suc-ne-zero}
use native.Mathlib.Omega.{arith}
use mathlib.Core.Bool.{Bool, true, false, true≢false}
use mathlib.Core.Option.{Option, none, some}
use mathlib.Core.List.{List}
use lib.ListN.{length, get_or}
use borrow.Author.Tests.{le-ltb}
use Rattle.codec.specs.Code.{slot}
use Rattle.codec.proofs.Part.{byte_of}
use Rattle.machine.specs.Codes.{code_of}
use Rattle.machine.specs.Filter.{Slots}
use Rattle.machine.specs.Channel.{take_next, says}
use Rattle.layout.specs.Promise.{gives}
use Rattle.iso.specs.Limits.{iso_record_size}
use Rattle.iso.specs.Iso.{Talk, Flight, OpenIso, Iso, ready, Chosen, set_talks, set_written, set_flight, choice, on_chosen, iso_taking, on_iso_take, shorter_iso, unless_iso, on_ready, on_iso_call}
use Rattle.iso_layout.specs.Sizes.{iso_flight_at}
use Rattle.iso_layout.specs.Region.{flight_code}
use Rattle.iso_layout.specs.Promise.{IsoOpened, iso_gives, iso_outcome}
use Rattle.iso_layout.proofs.Good.{fli, GoodIso, Linked}
use Rattle.iso_layout.proofs.Taking.{MayChoose, choice_ok}
use Rattle.iso_layout.proofs.Region.{ready_of, is_ready_law, good, stays, lies, flight_part}
use Rattle.iso_giving.specs.Giving.{channel_in, chose, taking, Chose}
use Rattle.iso_giving.proofs.Rules.{unmoved}
use Rattle.iso_sending.proofs.Starting.{chosen_open, chosen_there}

first_byte : (flags : ℕ) (x : Option Flight) → get_or ((slot (flight_code flags)).put x) 0 0 ≡ 0 → x ≡ none
unfolding slot
first_byte flags none e = refl
first_byte flags (some f) e = absurd (suc-ne-zero 0 e)

-- nothing is in flight
pub nothing_flies : (r : List ℕ) → IsoOpened r → get_or r iso_flight_at 0 ≡ 0 → (channel_in r).flight ≡ none
nothing_flies r f z =
    let o : OpenIso = ready_of r in
    let e : get_or r iso_flight_at 0 ≡ get_or ((slot (flight_code (fli o))).put o.flight) 0 0 = byte_of (flight_part o r (lies r f)) 0 (omega arith) in
    first_byte (fli o) o.flight (sym e ∙ z)

-- a frame that is chosen flies, and is the answer
chosen_flies : (o : OpenIso) (x : Option Chosen) → true ≡ chose x → (taking o x).flight ≡ none → ⊥
unfolding chose taking set_talks set_written set_flight
chosen_flies o none e n = true≢false e
chosen_flies o (some x) e n = never n
  where
    there : Option Flight → Bool
    there none = false
    there (some f) = true

    never : {f : Flight} → ◌≡◌ {A = Option Flight} (some f) none → ⊥
    never n = true≢false (ap there n)

as_chosen : (o : OpenIso) (x : Option Chosen) (b : List ℕ) → true ≡ chose x → iso_taking (taking o x) (taking o x).flight b ≡ on_chosen o x b
unfolding chose taking iso_taking on_chosen set_talks set_written set_flight
as_chosen o none b e = absurd (true≢false e)
as_chosen o (some x) b e = refl

none_chosen : (o : OpenIso) (x : Option Chosen) (b : List ℕ) → false ≡ chose x → on_chosen o x b ≡ (ready o, says 0x10 0 b)
unfolding chose on_chosen
none_chosen o none b e = refl
none_chosen o (some x) b e = absurd (true≢false (sym e))

take_long : (rates : List ℕ) (now : ℕ) (o : OpenIso) (b : List ℕ) → iso_record_size ≤ length b → on_ready rates now o (take_next b) ≡ iso_taking o o.flight b
unfolding on_ready on_iso_take unless_iso code_of shorter_iso
take_long rates now o b h = rw (le-ltb (length b) (iso_record_size * 1) h) refl

module _ (r : List ℕ) (f : IsoOpened r) (n : get_or r iso_flight_at 0 ≡ 0) (b : Bool) (u : List ℕ) (p : Chose (choice (channel_in r).talks (channel_in r).written) b r u) where
  abbrev o : OpenIso
  o = ready_of r

  abbrev x : Option Chosen
  x = choice o.talks o.written

  abbrev rests : o.flight ≡ none
  rests = nothing_flies r f n

  may : MayChoose (fli o) x
  may =
      let g : GoodIso o = good r f in
      subst (λ (ts : Slots Talk). MayChoose (fli o) (choice ts o.written)) (sym g.talks_are)
      (choice_ok (fli o) g.one g.two (subst (Linked g.one g.two) rests g.linked_ok) g.one_ok g.two_ok o.written g.written_ok)

  taken : (rates : List ℕ) (now : ℕ) (buffer : List ℕ) → iso_record_size ≤ length buffer → on_ready rates now o (take_next buffer) ≡ on_chosen o x buffer
  unfolding iso_taking
  taken rates now buffer h = take_long rates now o buffer h ∙ ap (λ (y : Option Flight). iso_taking o y buffer) rests

  -- none
  pub none_taken : b ≡ false → (rates : List ℕ) (now : ℕ) (buffer : List ℕ) → iso_record_size ≤ length buffer → gives 0x10 0 buffer u ≡ iso_outcome rates now r (take_next buffer)
  none_taken e rates now buffer h =
      ap (λ (y : List ℕ). gives 0x10 0 buffer y) (unmoved r u f x (sym e ∙ p.0, p.1))
      ∙ stays r f rates now (take_next buffer) 0x10 0 buffer (taken rates now buffer h ∙ none_chosen o x buffer (sym e ∙ p.0))

  -- one
  pub opened_then : IsoOpened u
  opened_then = chosen_open r f x may u p.1

  pub flies_then : b ≡ true → get_or u iso_flight_at 0 ≡ 0 → ⊥
  flies_then e z = chosen_flies o x (sym e ∙ p.0) (ap (λ (y : OpenIso). y.flight) (sym (chosen_there r f x may u p.1)) ∙ nothing_flies u opened_then z)

  pub one_taken : b ≡ true → (rates : List ℕ) (now : ℕ) (buffer : List ℕ) → iso_record_size ≤ length buffer → iso_outcome rates now u (take_next buffer) ≡ iso_outcome rates now r (take_next buffer)
  unfolding iso_outcome on_iso_call
  one_taken e rates now buffer h =
      ap (λ (c : Iso). iso_gives (on_iso_call rates now c (take_next buffer))) (is_ready_law u opened_then)
      ∙ ap iso_gives
      (ap (λ (y : OpenIso). on_ready rates now y (take_next buffer)) (chosen_there r f x may u p.1)
      ∙ take_long rates now (taking o x) buffer h ∙ as_chosen o x buffer (sym e ∙ p.0) ∙ sym (taken rates now buffer h))
      ∙ sym (ap (λ (c : Iso). iso_gives (on_iso_call rates now c (take_next buffer))) (is_ready_law r f))
