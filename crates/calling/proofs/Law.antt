-- What a call on a channel comes to: it is refused where no channel is found, else it is what was done on the region, noted. Assumes nothing.
use mathlib.Core.Path.{◌≡◌, ap, ap₂, ◌∙◌, sym, subst}
use Prim.Native.Nat.{ℕ, ◌+◌, ◌-◌}
use mathlib.Core.List.{List, []}
use lib.ListN.{length}
use lib.Dec.{T}
use mathlib.Core.Bool.{Bool, true, false, ◌&&◌}
use borrow.Rule.Slice.PartMut.{put_mid, mid_of}
use Rattle.std.specs.Prelude.{Result, Err}
use Rattle.codec.specs.Word.{word_at}
use Rattle.codes.specs.Code.{code_of}
use Rattle.codes.specs.declared.Refusal.{Refusal}
use Rattle.machine.specs.Channel.{Call, lent, listens}
use Rattle.machine.specs.Step.{call}
use Rattle.layout.specs.Sizes.{region_size, flags_at}
use Rattle.layout.specs.Promise as raw_promise
use Rattle.layout.specs.Promise.{gives}
use Rattle.iso_layout.specs.Sizes.{iso_region_size, iso_last_at}
use Rattle.memory.specs.Memory.{valid, load}
use Rattle.memory.specs.Promise.{outcome, noted_in, RawSeat, IsoSeat}
use Rattle.memory.proofs.Seats.{raw_lent_law, raw_speaker, raw_called, raw_muted, iso_lent, iso_called}
use Rattle.calling.specs.Calling.{speaks, Serves, DoesRaw, DoesIso}
use Rattle.calling.specs.declared.Listeners.{Listeners}
use Rattle.calling.specs.declared.Listeners.TheVariants.{Serve, Refuse}

-- the region of a raw channel
abbrev here : ℕ → List ℕ → List ℕ
here base m = mid_of base (base + region_size - base) m

-- is it refused there?
abbrev barred : Listeners → ℕ → List ℕ → Bool
barred l base m = speaks l && listens (word_at flags_at (here base m))

module _ (m : List ℕ) (v : T (valid m)) (k base : ℕ) where
  -- a region that serves the call is one as its function asks for
  pub served : RawSeat m k base → (l : Listeners) → barred l base m ≡ false → Serves l (here base m)
  served s Serve h = raw_lent_law m v k base s
  served s Refuse h = raw_speaker m v k base s h

  module _ {A : Type 0} (value : Result A Refusal → ℕ) (rates : List ℕ) (x : Call) where
    -- one that a listener refuses
    pub muted : RawSeat m k base → {Does : List ℕ → Result A Refusal → List ℕ → Type 0} (l : Listeners) → DoesRaw Does l value rates (load m).clock x → barred l base m ≡ true
        → (e : Refusal) → value (Err e) ≡ 0 → lent x ≡ [] → (zs : List ℕ) (n : ℕ) → n ≡ 0x01 → zs ≡ raw_promise.noted_in base n m → gives 0x01 (value (Err e)) [] zs ≡ outcome rates m (call k x)
    muted s Refuse does h e none lends zs n one noted =
        ap₂ (λ (u : ℕ) (b : List ℕ). gives 0x01 u b zs) none (sym lends) ∙ raw_muted m v k base s h rates x does.speaks_so zs (noted ∙ ap (λ (c : ℕ). raw_promise.noted_in base c m) one)
    muted s Serve does h e none lends zs n one noted = absurd (by h)
      where
        by : false ≡ true → ⊥
        by q = subst T (sym q) tt

    module _ (Does : List ℕ → Result A Refusal → List ℕ → Type 0) (a : Result A Refusal) (ys zs : List ℕ) where
      pub raw_done : RawSeat m k base → (l : Listeners) → DoesRaw Does l value rates (load m).clock x → barred l base m ≡ false → Does (here base m) a ys → length ys ≡ region_size → (n : ℕ) → n ≡ code_of a
          → zs ≡ raw_promise.noted_in base n (put_mid base (base + region_size - base) m ys) → gives (code_of a) (value a) [] zs ≡ outcome rates m (call k x)
      raw_done s l does free d long n e noted =
          raw_called m v k base s rates x (ap (λ b. b && listens (word_at flags_at (here base m))) does.speaks_so ∙ free) (code_of a) (value a) [] ys zs long
          (does.done (here base m) ys a (served s l free) d) (noted ∙ ap (λ (c : ℕ). raw_promise.noted_in base c (put_mid base (base + region_size - base) m ys)) e)

      pub iso_done : IsoSeat m k base → DoesIso Does value rates (load m).clock x → Does (mid_of base (base + iso_region_size - base) m) a ys → length ys ≡ iso_region_size → (n : ℕ) → n ≡ code_of a
          → zs ≡ noted_in iso_last_at base n (put_mid base (base + iso_region_size - base) m ys) → gives (code_of a) (value a) [] zs ≡ outcome rates m (call k x)
      iso_done s does d long n e noted =
          iso_called m v k base s rates x (code_of a) (value a) [] ys zs long
          (does.done (mid_of base (base + iso_region_size - base) m) ys a (iso_lent m v k base s) d)
          (noted ∙ ap (λ (c : ℕ). noted_in iso_last_at base c (put_mid base (base + iso_region_size - base) m ys)) e) does.both

    -- one on no channel
    pub on_none : gives 0x02 0 (lent x) m ≡ outcome rates m (call k x) → (e : Refusal) → value (Err e) ≡ 0 → lent x ≡ [] → gives 0x02 (value (Err e)) [] m ≡ outcome rates m (call k x)
    on_none refused e none lends = ap₂ (λ (u : ℕ) (b : List ℕ). gives 0x02 u b m) none (sym lends) ∙ refused
