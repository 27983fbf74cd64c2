-- The payload bytes in the lent buffer, and what each meaning tells. Assumes nothing.
use mathlib.Core.Path.{◌≡◌, sym, ap, ap₂, ◌∙◌}
use Prim.Native.Nat.{ℕ, ◌+◌, ◌-◌, ◌≤◌, ◌<◌}
use native.Mathlib.Omega.{arith}
use mathlib.Core.List.{List, ◌++◌, append_assoc}
use lib.ListN.{length, take, drop, length-append, length-drop}
use lib.Seq.{take_at, length-take-le}
use borrow.Rule.Slice.PartMut.{put_mid}
use Rattle.iso.specs.Limits.{most_payload}
use Rattle.iso.specs.Iso.{Talk, becomes, arrived}
use Rattle.talk_head.specs.Headed.{bytes_on, payload_at}
use Rattle.talk_head.specs.declared.Head.{Head}
use Rattle.talk_head.proofs.Bytes.{payload_is}
use Rattle.talk_hearing.specs.declared.Means.{Means}
use Rattle.talk_hearing.specs.declared.Means.TheVariants.{Nothing, Single, Instead, Start as Begin, Refuse, Drop, More, Last, Flow}
use Rattle.talk_hearing.specs.Meaning.{meant}
use Rattle.talk_telling.specs.declared.Told.{Told}
use Rattle.talk_telling.specs.declared.Told.TheVariants.{Silence, Start, Message}
use Rattle.talk_telling.specs.Telling.{told, Readable}

-- ---- bytes in the buffer

part_long : (k n : ℕ) (b : List ℕ) → k + n ≤ length b → length (take n (drop k b)) ≡ n
part_long k n b h = length-take-le n (drop k b) (omega (arith, length-drop k b))

between : (k n : ℕ) → k + n - k ≡ n
between k n = omega arith

-- so many of a frame
pub part_put : (b ys r : List ℕ) (n : ℕ) → n < length b → ys ≡ take (1 + n - 1) (drop 1 b) → take n (ys ++ r) ≡ take n (drop 1 b)
part_put b ys r n h e =
    let is : ys ≡ take n (drop 1 b) = e ∙ ap (λ (k : ℕ). take k (drop 1 b)) (between 1 n) in
    take_at ys r n (ap length is ∙ part_long 1 n b (omega arith)) ∙ is

-- the payload of a place, and so many of a frame behind it
pub whole_put : (t b ys zs r : List ℕ) (held n : ℕ) → Readable t → held ≡ length (payload_at t) → n < length b → ys ≡ take (bytes_on + held - bytes_on) (drop bytes_on t) → zs ≡ take (1 + n - 1) (drop 1 b)
    → take (held + n) (put_mid held (held + n - held) (ys ++ r) zs) ≡ payload_at t ++ take n (drop 1 b)
whole_put t b ys zs r held n f e h ey ez =
    let front : ys ≡ payload_at t = ey ∙ ap (λ (j : ℕ). take j (drop bytes_on t)) (between bytes_on held ∙ e) ∙ payload_is t f.long f.payload in
    let back : zs ≡ take n (drop 1 b) = ez ∙ ap (λ (j : ℕ). take j (drop 1 b)) (between 1 n) in
    let lf : length ys ≡ held = ap length front ∙ sym e in
    let lb : length zs ≡ n = ap length back ∙ part_long 1 n b (omega arith) in
    let rest : List ℕ = drop (held + n - held) (drop held (ys ++ r)) in
    ap (λ (x : List ℕ). take (held + n) (x ++ (zs ++ rest))) (take_at ys r held lf)
    ∙ ap (λ (x : List ℕ). take (held + n) x) (sym (append_assoc ys zs rest))
    ∙ take_at (ys ++ zs) rest (held + n) (length-append ys zs ∙ ap₂ (λ (i j : ℕ). i + j) lf lb)
    ∙ ap₂ (λ (x y : List ℕ). x ++ y) front back

pub whole_fits : (held n p : ℕ) → held ≡ p → p + n ≤ most_payload → held + n ≤ most_payload
whole_fits held n p e h = omega arith

-- ---- what each meaning tells

module _ (m : Means) (p b : List ℕ) where
  abbrev Tells : Told → List ℕ → Type 0
  Tells r s = (clock : ℕ) (c : Talk) → (meant m clock c p b).records ≡ told r clock c s

  pub tells_single : (n : ℕ) (s : List ℕ) → m ≡ Single n → take n s ≡ take n (drop 1 b) → Tells (Message n) s
  unfolding meant told becomes
  tells_single n s e q clock c = ap (λ (x : Means). (meant x clock c p b).records) e ∙ ap (arrived clock c) (sym q)

  pub tells_instead : (n : ℕ) (s : List ℕ) → m ≡ Instead n → take n s ≡ take n (drop 1 b) → Tells (Message n) s
  unfolding meant told becomes
  tells_instead n s e q clock c = ap (λ (x : Means). (meant x clock c p b).records) e ∙ ap (arrived clock c) (sym q)

  pub tells_start : (h : Head) (s : List ℕ) → m ≡ Begin h → Tells Start s
  unfolding meant told becomes
  tells_start h s e clock c = ap (λ (x : Means). (meant x clock c p b).records) e

  pub tells_last : (n k : ℕ) (s : List ℕ) → m ≡ Last n → take k s ≡ p ++ take n (drop 1 b) → Tells (Message k) s
  unfolding meant told becomes
  tells_last n k s e q clock c = ap (λ (x : Means). (meant x clock c p b).records) e ∙ ap (arrived clock c) (sym q)

  pub tells_nothing : (s : List ℕ) → m ≡ Nothing → Tells Silence s
  unfolding meant told becomes
  tells_nothing s e clock c = ap (λ (x : Means). (meant x clock c p b).records) e

  pub tells_refuse : (s : List ℕ) → m ≡ Refuse → Tells Silence s
  unfolding meant told becomes
  tells_refuse s e clock c = ap (λ (x : Means). (meant x clock c p b).records) e

  pub tells_drop : (s : List ℕ) → m ≡ Drop → Tells Silence s
  unfolding meant told becomes
  tells_drop s e clock c = ap (λ (x : Means). (meant x clock c p b).records) e

  pub tells_more : (h : Head) (s : List ℕ) → m ≡ More h → Tells Silence s
  unfolding meant told becomes
  tells_more h s e clock c = ap (λ (x : Means). (meant x clock c p b).records) e

  pub tells_flow : (h : Head) (s : List ℕ) → m ≡ Flow h → Tells Silence s
  unfolding meant told becomes
  tells_flow h s e clock c = ap (λ (x : Means). (meant x clock c p b).records) e
