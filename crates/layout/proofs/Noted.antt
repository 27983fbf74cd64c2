-- A code that is noted is a byte of the region. Assumes nothing.
use mathlib.Core.Path.{◌≡◌, sym, ap, ◌∙◌}
use Prim.Native.Nat.{ℕ, suc, ◌+◌, ◌-◌, ◌<◌}
use native.Mathlib.Omega.{arith}
use mathlib.Core.List.{List, [], ◌∷◌, ◌++◌, append_assoc}
use lib.ListN.{length, set, length-append}
use lib.Seq.{set-append_left, set-append_seam}
use Rattle.codec.specs.Code.{byte, via, such, both, both_on, slot}
use Rattle.machine.specs.Channel.{opened, Open, with_last}
use Rattle.layout.specs.Memory.{config, mapped, sending_part, receiving_part, last_part, link_part, rest, open_part, region}
use Rattle.layout.specs.Sizes.{region_size, last_at}
use Rattle.link_layout.specs.Connection.{connection_part}
use Rattle.link_layout.specs.Sizes.{link_size}
use Rattle.link_layout.proofs.Lawful.{connection_lawful}
use Rattle.link_layout.proofs.Talking.{Held}
use Rattle.layout.proofs.Sizes.{connection_size}

-- what stands in front of the last code of an open channel
abbrev front : Open → List ℕ
front o =
    1 ∷ (config.put o.config ++ ((mapped o.config.flags).put o.filters ++ ((sending_part o.config.flags).put o.sending ++ (receiving_part o.config.flags).put o.receiving)))

-- then it comes, and behind it the connection
around_last : (o : Open) (k : ℕ) → region.put (with_last o k) ≡ front o ++ k ∷ connection_part.put o.link
unfolding region open_part rest last_part link_part via such both both_on slot byte with_last
around_last o k =
    let f : ℕ = o.config.flags in
    let c : List ℕ = config.put o.config in
    let fs : List ℕ = (mapped f).put o.filters in
    let ss : List ℕ = (sending_part f).put o.sending in
    let rs : List ℕ = (receiving_part f).put o.receiving in
    let ls : List ℕ = k ∷ connection_part.put o.link in
    sym
    (ap {B = List ℕ} (λ (x : List ℕ). 1 ∷ x)
    (append_assoc c (fs ++ (ss ++ rs)) ls
    ∙ ap (λ (x : List ℕ). c ++ x) (append_assoc fs (ss ++ rs) ls ∙ ap (λ (x : List ℕ). fs ++ x) (append_assoc ss rs ls))))

-- another one stored there, whatever else the channel holds, where its connection is within its limits
pub last_stored : (o : Open) (k : ℕ) → Held o.link → length (region.put (opened o)) ≡ region_size → set (region.put (opened o)) last_at k ≡ region.put (with_last o k)
unfolding with_last
last_stored o k t long =
    let ls : List ℕ = connection_part.put o.link in
    let e : region.put (opened o) ≡ front o ++ o.last ∷ ls = around_last o o.last in
    let l : length ls ≡ link_size = connection_lawful.long o.link t ∙ connection_size in
    let n : length (front o) ≡ last_at = omega (arith, ap length e, length-append (front o) (o.last ∷ ls)) in
    ap (λ (r : List ℕ). set r last_at k) e ∙ ap (λ (i : ℕ). set (front o ++ o.last ∷ ls) i k) (sym n) ∙ set-append_seam (front o) o.last ls k ∙ sym (around_last o k)

-- a store into the middle of three
pub set_middle : (xs ys zs : List ℕ) (j v : ℕ) → j < length ys → set (xs ++ (ys ++ zs)) (length xs + j) v ≡ xs ++ (set ys j v ++ zs)
set_middle [] ys zs j v h =
    let n : 0 + j ≡ j = omega arith in
    ap (λ (i : ℕ). set (ys ++ zs) i v) n ∙ set-append_left ys zs j v h
set_middle (x ∷ xs) ys zs j v h =
    let n : suc (length xs) + j ≡ suc (length xs + j) = omega arith in
    ap (λ (i : ℕ). set (x ∷ (xs ++ (ys ++ zs))) i v) n ∙ ap (λ (r : List ℕ). x ∷ r) (set_middle xs ys zs j v h)
