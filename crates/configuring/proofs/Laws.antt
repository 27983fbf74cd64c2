-- Get and set on the nine bytes of a configuration. Assumes nothing.
use Rattle.std.specs.Prelude.{if◌then◌else◌}
use mathlib.Core.Path.{◌≡◌, refl, sym, ap, ◌∙◌}
use Prim.Native.Nat.{ℕ, zero, suc, ◌≤◌, ◌<◌}
use native.Mathlib.Omega.{arith}
use mathlib.Core.Bool.{Bool, true, false}
use mathlib.Core.List.{List}
use lib.ListN.{length, get_or, set}
use lib.Dec.{T, eqb}
use borrow.Author.Tests.{eq-eqb, ne_eqb}
use borrow.Rule.Slice.PartMut.{put_mid}
use Rattle.codec.specs.Plain.{member}
use Rattle.codec.specs.Word.{word, word_at}
use Rattle.codec.specs.Code.{byte, word32, both, via, such, mark, mark_of}
use Rattle.codec.proofs.Tests.{left, right, above, between}
use Rattle.codec.proofs.Lawful.{ok_word}
use Rattle.codec.proofs.Word.{word_back}
use Rattle.machine.specs.Channel.{Config, get_in, set_in}
use Rattle.layout.specs.Sizes.{config_size, number_size}
use Rattle.layout.specs.Memory.{config}
use Rattle.layout.proofs.Memory.{config_lawful}
use Rattle.layout.proofs.Sizes.{config_size_law}

-- where the rate and the loopback mark stand
abbrev rate_in : ℕ
rate_in = 4

abbrev loopback_in : ℕ
loopback_in = 8

mark_number : (b : Bool) → mark_of b ≡ (if b then 1 else 0)
mark_number true = refl
mark_number false = refl

-- ---- in the bytes of a configuration

rate_small : (c : Config) → T (config.ok c) → T (word32.ok c.rate)
unfolding config such via both
rate_small c t = search (left, right) depth 6

rate_put : (c : Config) → word_at rate_in (config.put c) ≡ word_at 0 (word c.rate)
unfolding config such via both word32 word word_at mark byte
rate_put c = refl

mark_put : (c : Config) → get_or (config.put c) loopback_in 0 ≡ mark_of c.loopback
unfolding config such via both word32 word mark byte
mark_put c = refl

rate_over : (c : Config) (n : ℕ) → put_mid rate_in number_size (config.put c) (word n) ≡ config.put (record { flags = c.flags; rate = n; loopback = c.loopback })
unfolding config such via both word32 word mark byte
rate_over c n = refl

mark_over : (c : Config) (n : ℕ) → n ≤ 1 → set (config.put c) loopback_in n ≡ config.put (record { flags = c.flags; rate = c.rate; loopback = eqb n 1 })
unfolding config such via both word32 word mark byte
mark_over c zero h = refl
mark_over c (suc zero) h = refl
mark_over c (suc (suc n)) h = absurd (omega arith)

module _ (s : List ℕ) (f : (length s ≡ config_size) × T (config.valid s)) where
  abbrev c : Config
  c = config.get s

  same : config.put c ≡ s
  same = config_lawful.put_get s (f.0 ∙ sym config_size_law) f.1

  fits : T (config.ok c)
  fits = config_lawful.ok_get s (f.0 ∙ sym config_size_law) f.1

  rate_is : word_at rate_in s ≡ c.rate
  rate_is = ap (word_at rate_in) (sym same) ∙ rate_put c ∙ word_back c.rate (ok_word c.rate (rate_small c fits))

  mark_is : get_or s loopback_in 0 ≡ (if c.loopback then 1 else 0)
  mark_is = ap (λ (x : List ℕ). get_or x loopback_in 0) (sym same) ∙ mark_put c ∙ mark_number c.loopback

  -- ---- get

  pub get_rate : (p n : ℕ) → p ≡ 1 → n ≡ word_at rate_in s → get_in (config.get s) p ≡ (0, n)
  unfolding get_in
  get_rate p n e g = rw (eq-eqb p 1 e) (ap (λ (x : ℕ). (0, x)) (sym (g ∙ rate_is)))

  pub get_mark : (p n : ℕ) → p ≡ 3 → n ≡ get_or s loopback_in 0 → get_in (config.get s) p ≡ (0, n)
  unfolding get_in
  get_mark p n e g = rw e (ap (λ (x : ℕ). (0, x)) (sym (g ∙ mark_is)))

  pub get_unknown : (p : ℕ) → (p ≡ 1 → ⊥) → (p ≡ 3 → ⊥) → get_in (config.get s) p ≡ (1, 0)
  unfolding get_in
  get_unknown p a b = rw (ne_eqb p 1 a) (rw (ne_eqb p 3 b) refl)

  -- ---- set: the code and the bytes

  module _ (rates : List ℕ) (p v : ℕ) where
    abbrev Sets : ℕ → List ℕ → Type 0
    Sets k ys = (k ≡ (set_in rates (config.get s) p v).0) × (ys ≡ config.put (set_in rates (config.get s) p v).1)

    sets : (k : ℕ) (b : Config) (ys : List ℕ) → set_in rates (config.get s) p v ≡ (k, b) → ys ≡ config.put b → Sets k ys
    sets k b ys e y = (ap (λ (x : ℕ × Config). x.0) (sym e), y ∙ ap (λ (x : ℕ × Config). config.put x.1) (sym e))

    pub set_rate_bad : p ≡ 1 → member v rates ≡ false → Sets 5 s
    unfolding set_in
    set_rate_bad e b = sets 5 c s (rw (eq-eqb p 1 e) (rw b refl)) (sym same)

    pub set_rate : (ys : List ℕ) → p ≡ 1 → member v rates ≡ true → ys ≡ word v → Sets 0 (put_mid rate_in number_size s ys)
    unfolding set_in
    set_rate ys e b y = sets 0 _ _ (rw (eq-eqb p 1 e) (rw b refl)) (ap (λ (x : List ℕ). put_mid rate_in number_size s x) y ∙ ap (λ (x : List ℕ). put_mid rate_in number_size x (word v)) (sym same) ∙ rate_over c v)

    pub set_mark_bad : p ≡ 3 → 1 < v → Sets 5 s
    unfolding set_in
    set_mark_bad e b = sets 5 c s (rw e (rw (above 0 1 v b) refl)) (sym same)

    pub set_mark : p ≡ 3 → v ≤ 1 → Sets 0 (set s loopback_in v)
    unfolding set_in
    set_mark e b = sets 0 _ _ (rw e (rw (between 0 1 v (omega arith) b) refl)) (ap (λ (x : List ℕ). set x loopback_in v) (sym same) ∙ mark_over c v b)

    pub set_unknown : (p ≡ 1 → ⊥) → (p ≡ 3 → ⊥) → Sets 1 s
    unfolding set_in
    set_unknown a b = sets 1 c s (rw (ne_eqb p 1 a) (rw (ne_eqb p 3 b) refl)) (sym same)
