-- What the tag of a part lets its number be. Assumes nothing.
use mathlib.Core.Path.{◌≡◌, refl, sym, ap, ◌∙◌}
use Prim.Native.Nat.{ℕ, zero, suc, ◌≤◌, ◌<◌}
use native.Mathlib.Omega.{arith}
use mathlib.Core.Bool.{Bool, true, false, ◌&&◌, ◌||◌}
use lib.Dec.{eqb, leb}
use borrow.Author.Tests.{ne_eqb, lt-leb}
use Rattle.codec.specs.Plain.{within}
use Rattle.link.specs.Connection.{t_e, Block}
use Rattle.link_layout.specs.Connection.{trial_fits, exit_fits, wire_fits, no_block, out_fits}
use Rattle.link_checks.specs.Tagged.{by_tag}

or_false : (a : Bool) → (a || false) ≡ a
or_false true = refl
or_false false = refl

pub tagged : (k : ℕ) (a b c : Bool) → (eqb k 0 && a || (eqb k 1 && b || eqb k 2 && c)) ≡ by_tag k a b c
unfolding by_tag
tagged zero a b c = or_false a
tagged (suc zero) a b c = or_false b
tagged (suc (suc zero)) a b c = refl
tagged (suc (suc (suc k))) a b c =
    λ j.
    ne_eqb (suc (suc (suc k))) 0 (λ e. absurd (omega arith)) j && a
    || (ne_eqb (suc (suc (suc k))) 1 (λ e. absurd (omega arith)) j && b || ne_eqb (suc (suc (suc k))) 2 (λ e. absurd (omega arith)) j && c)

pub trial_tag : (k us : ℕ) → by_tag k (eqb us 0) (eqb us 0) (within 1 t_e us) ≡ trial_fits k us
unfolding by_tag
trial_tag zero us = refl
trial_tag (suc zero) us = refl
trial_tag (suc (suc zero)) us = refl
trial_tag (suc (suc (suc k))) us = refl

pub exit_tag : (k us : ℕ) → by_tag k (leb us 6300000) (leb us 255) (eqb us 0) ≡ exit_fits k us
unfolding by_tag
exit_tag zero us = refl
exit_tag (suc zero) us = refl
exit_tag (suc (suc zero)) us = refl
exit_tag (suc (suc (suc k))) us = refl

pub out_tag : (k us : ℕ) (b : Block) → by_tag k (eqb us 0 && no_block b) (eqb us 0) true ≡ out_fits k us b
unfolding by_tag
out_tag zero us b = refl
out_tag (suc zero) us b = refl
out_tag (suc (suc zero)) us b = refl
out_tag (suc (suc (suc k))) us b = refl

pub wire_tag : (k us : ℕ) → (eqb k 0 || leb k 3 && eqb us 0) ≡ wire_fits k us
wire_tag zero us = refl
wire_tag (suc zero) us = refl
wire_tag (suc (suc zero)) us = refl
wire_tag (suc (suc (suc zero))) us = refl
wire_tag (suc (suc (suc (suc k)))) us =
    λ j. ne_eqb (suc (suc (suc (suc k)))) 0 (λ e. absurd (omega arith)) j || lt-leb (suc (suc (suc (suc k)))) 3 (omega arith) j && eqb us 0
