-- A message's bytes: its block begun anew, the next one, an empty one. Assumes nothing.
use Rattle.std.specs.Prelude.{if◌then◌else◌}
use mathlib.Core.Path.{◌≡◌, refl, sym, ap, ◌∙◌, subst}
use Prim.Native.Nat.{ℕ, ◌+◌, ◌*◌, ◌≤◌, ◌<◌}
use native.Mathlib.Omega.{arith}
use mathlib.Core.Bool.{Bool}
use mathlib.Core.Option.{none, some}
use mathlib.Core.List.{List, [], ◌∷◌}
use lib.ListN.{length, get_or, set, take, drop, length-drop}
use lib.Seq.{length-take-le}
use lib.Dec.{T, ltb, lt→ltb}
use borrow.Author.Tests.{le-leb, lt-leb, lt-ltb, le-ltb}
use borrow.Rule.Slice.PartMut.{put_mid, same_len_mid}
use Rattle.codec.specs.Plain.{zeros}
use Rattle.codec.specs.Word.{word}
use Rattle.codec.specs.Code.{Code, byte, word32, both, via, such, text}
use Rattle.codec.proofs.Tests.{left, right, join}
use Rattle.codec.proofs.Present.{text_lawful}
use Rattle.codec.proofs.Place.{Place, inside, at, in_second, in_via}
use Rattle.codec.proofs.Part.{Part, part}
use Rattle.link.specs.Connection.{longest, Block, new_block, telegrams, Out, idle, sends, asks, next_block}
use Rattle.link_layout.specs.Sizes.{repeats_in, again_in, rest_in, block_in, text_size, out_size}
use Rattle.link_layout.specs.Connection.{block_parts, block_back, block, out_parts, out}
use Rattle.link_layout.proofs.Lawful.{out_code_lawful}
use Rattle.link_layout.proofs.Places.{out_size_law}
use Rattle.link_store.proofs.Stores.{text_size_law, none_put}
use Rattle.link_acknowledging.specs.Acknowledging.{rest_of, restarted, next_of, cutting, cut_of}

-- a number written over the bytes after the first
pub number_long : (x w : List ℕ) → 5 ≤ length x → w ≡ word 0 → length (put_mid 1 4 x w) ≡ length x
unfolding word
number_long x w h q = same_len_mid 1 4 x w (ap length q ∙ sym (length-take-le 4 (drop 1 x) (omega (arith, length-drop 1 x))))

-- begun anew, whatever the message's state
begun : (o : Out) (taken again : ℕ) (w : List ℕ) → w ≡ word 0 → put_mid 1 4 (set (set (set (set (out.put o) 0 1) block_in taken) (block_in + repeats_in) 0) (block_in + again_in) again) w ≡ out.put (restarted taken again o)
unfolding restarted rest_of out via such both byte word32 block word
begun idle taken again w q = ap (λ (x : List ℕ). put_mid 1 4 (set (set (set (set (out.put idle) 0 1) block_in taken) (block_in + repeats_in) 0) (block_in + again_in) again) x) q
begun (sends b) taken again w q = ap (λ (x : List ℕ). put_mid 1 4 (set (set (set (set (out.put (sends b)) 0 1) block_in taken) (block_in + repeats_in) 0) (block_in + again_in) again) x) q
begun (asks b us) taken again w q = ap (λ (x : List ℕ). put_mid 1 4 (set (set (set (set (out.put (asks b us)) 0 1) block_in taken) (block_in + repeats_in) 0) (block_in + again_in) again) x) q

-- ---- the message's bytes in it

abbrev Parts : Code (ℕ × (ℕ × Block))
Parts = both byte (both word32 block)

rest_place : (b : Block) → Place block (text longest) b rest_in b.rest (λ x. record { rest = x; taken = b.taken; repeats = b.repeats; again = b.again })
unfolding block byte
rest_place b =
    at (omega arith)
    (inside (in_via block_parts block_back (both byte (both byte (both byte (text longest)))) b (λ p. refl))
    (inside (in_second byte (both byte (both byte (text longest))) (block_parts b) refl)
    (inside (in_second byte (both byte (text longest)) (block_parts b).1 refl) (in_second byte (text longest) (block_parts b).1.1 refl))))

rest_in_law : (p : ℕ × (ℕ × Block)) → Place Parts (text longest) p (block_in + rest_in) p.1.1.rest
    (λ x. (p.0, (p.1.0, record { rest = x; taken = p.1.1.taken; repeats = p.1.1.repeats; again = p.1.1.again })))
unfolding byte word32 word
rest_in_law p =
    at (omega arith) (inside (in_second byte (both word32 block) p refl) (inside (in_second word32 block p.1 refl) (rest_place p.1.1)))

rest_ok : (o : Out) → T (out.ok o) → T ((text longest).ok (out_parts o).1.1.rest)
unfolding out block such via both
rest_ok idle t = search (left, right) depth 9
rest_ok (sends b) t = search (left, right) depth 9
rest_ok (asks b us) t = search (left, right) depth 9

parts_put : (o : Out) → Parts.put (out_parts o) ≡ out.put o
unfolding out such via
parts_put o = refl

module _ (o : Out) (k : T (out.ok o)) (m : List ℕ) (is : out.put o ≡ m) where
  pub rest_part : Part Parts m (text longest) (block_in + rest_in) text_size (out_parts o).1.1.rest
      (λ x. ((out_parts o).0, ((out_parts o).1.0, record { rest = x; taken = (out_parts o).1.1.taken; repeats = (out_parts o).1.1.repeats; again = (out_parts o).1.1.again })))
  rest_part = part m (parts_put o ∙ is) text_size text_size_law (rest_in_law (out_parts o)) (text_lawful longest) (rest_ok o k)

-- begun anew it can be held
restarted_ok : (o : Out) → T (out.ok o) → (taken again : ℕ) → taken < 256 → again < 256 → T (out.ok (restarted taken again o))
unfolding restarted rest_of out block such via both byte word32
restarted_ok idle t taken again h g = let r = rest_ok idle t in search (join, lt→ltb) depth 9
restarted_ok (sends b) t taken again h g = let r = rest_ok (sends b) t in search (join, lt→ltb) depth 9
restarted_ok (asks b us) t taken again h g = let r = rest_ok (asks b us) t in search (join, lt→ltb) depth 9

rest_is : (o : Out) → rest_of o ≡ (out_parts o).1.1.rest
unfolding rest_of
rest_is idle = refl
rest_is (sends b) = refl
rest_is (asks b us) = refl

-- ---- by its state: a block that was asked for, one empty telegram

next_done : (o : Out) → (out_parts o).0 ≡ 2 → length (out_parts o).1.1.rest ≤ 7 * (out_parts o).1.1.taken → next_of o ≡ idle
unfolding next_of next_block
next_done idle e h = absurd (omega arith)
next_done (sends b) e h = absurd (omega arith)
next_done (asks b us) e h = ap (λ (t : Bool). if t then idle else sends (new_block (drop (7 * b.taken) b.rest))) (le-leb (length b.rest) (7 * b.taken) h)

next_more : (o : Out) → (out_parts o).0 ≡ 2 → 7 * (out_parts o).1.1.taken < length (out_parts o).1.1.rest
    → next_of o ≡ sends (new_block (drop (7 * (out_parts o).1.1.taken) (out_parts o).1.1.rest))
unfolding next_of next_block
next_more idle e h = absurd (omega arith)
next_more (sends b) e h = absurd (omega arith)
next_more (asks b us) e h = ap (λ (t : Bool). if t then idle else sends (new_block (drop (7 * b.taken) b.rest))) (lt-leb (length b.rest) (7 * b.taken) h)

cut_not : (b : Block) → telegrams b.rest ≤ b.taken → cutting b ≡ none
unfolding cutting
cut_not b h = ap (λ (t : Bool). if t then some (sends (new_block [])) else none) (le-ltb b.taken (telegrams b.rest) h)

cut_done : (b : Block) → b.taken < telegrams b.rest → cutting b ≡ some (sends (new_block []))
unfolding cutting
cut_done b h = ap (λ (t : Bool). if t then some (sends (new_block [])) else none) (lt-ltb b.taken (telegrams b.rest) h)

cut_none : (o : Out) → telegrams (out_parts o).1.1.rest ≤ (out_parts o).1.1.taken → cut_of o ≡ none
unfolding cut_of
cut_none idle h = refl
cut_none (sends b) h = cut_not b h
cut_none (asks b us) h = cut_not b h

cut_some : (o : Out) → ((out_parts o).0 ≡ 0 → ⊥) → (out_parts o).1.1.taken < telegrams (out_parts o).1.1.rest → cut_of o ≡ some (sends (new_block []))
unfolding cut_of
cut_some idle n h = absurd (n refl)
cut_some (sends b) n h = cut_done b h
cut_some (asks b us) n h = cut_done b h

cut_idle : (o : Out) → (out_parts o).0 ≡ 0 → cut_of o ≡ none
unfolding cut_of
cut_idle idle e = refl
cut_idle (sends b) e = absurd (omega arith)
cut_idle (asks b us) e = absurd (omega arith)

idle_put : zeros out_size ≡ out.put idle
unfolding out block such via both byte word32 word
idle_put = ap (λ (x : List ℕ). 0 ∷ 0 ∷ 0 ∷ 0 ∷ 0 ∷ 0 ∷ 0 ∷ 0 ∷ x) none_put

-- ---- on its bytes

module _ (m : List ℕ) (long : length m ≡ out_size) (v : T (out.valid m)) where
  abbrev pub held : Out
  held = out.get m

  pub kept : out.put held ≡ m
  kept = out_code_lawful.put_get m (long ∙ sym out_size_law) v

  pub fine : T (out.ok held)
  fine = out_code_lawful.ok_get m (long ∙ sym out_size_law) v

  which_is : get_or m 0 0 ≡ (out_parts held).0
  unfolding out such via both byte
  which_is = ap (λ (x : List ℕ). get_or x 0 0) (sym kept)

  taken_is : get_or m block_in 0 ≡ (out_parts held).1.1.taken
  unfolding out block such via both byte word32 word
  taken_is = ap (λ (x : List ℕ). get_or x block_in 0) (sym kept)

  pub restarts : (taken again : ℕ) (w : List ℕ) → w ≡ word 0 → put_mid 1 4 (set (set (set (set m 0 1) block_in taken) (block_in + repeats_in) 0) (block_in + again_in) again) w ≡ out.put (restarted taken again held)
  restarts taken again w q = ap (λ (x : List ℕ). put_mid 1 4 (set (set (set (set x 0 1) block_in taken) (block_in + repeats_in) 0) (block_in + again_in) again) w) (sym kept) ∙ begun held taken again w q

  pub lent : Part Parts m (text longest) (block_in + rest_in) text_size (out_parts held).1.1.rest
      (λ x. ((out_parts held).0, ((out_parts held).1.0, record { rest = x; taken = (out_parts held).1.1.taken; repeats = (out_parts held).1.1.repeats; again = (out_parts held).1.1.again })))
  lent = rest_part held fine m kept

  -- begun anew, the message's bytes are lent
  module _ (x : List ℕ) (e : x ≡ out.put (restarted 0 0 held)) where
    pub anew : Part Parts x (text longest) (block_in + rest_in) text_size (out_parts held).1.1.rest (λ r. (1, (0, new_block r)))
    unfolding restarted new_block
    anew =
        subst (λ (r : List ℕ). Part Parts x (text longest) (block_in + rest_in) text_size r (λ r. (1, (0, record { rest = r; taken = 0; repeats = 0; again = 0 })))) (rest_is held)
        (rest_part (restarted 0 0 held) (restarted_ok held fine 0 0 (omega arith) (omega arith)) x (sym e))

    pub refilled : (ys r : List ℕ) → ys ≡ (text longest).put r → put_mid (block_in + rest_in) text_size x ys ≡ out.put (sends (new_block r))
    unfolding new_block
    refilled ys r q = anew.becomes ys r q ∙ parts_put (sends (new_block r))

  -- the block was acknowledged: so many bytes are done of so many
  module _ (asked : get_or m 0 0 ≡ 2) (n d : ℕ) (c : n ≡ length ((text longest).get (take text_size (drop (block_in + rest_in) m)))) (t : d ≡ 7 * get_or m block_in 0) where
    counted : n ≡ length (out_parts held).1.1.rest
    counted = c ∙ ap length lent.got

    done : d ≡ 7 * (out_parts held).1.1.taken
    done = t ∙ ap (λ (k : ℕ). 7 * k) taken_is

    pub ends : n ≤ d → (z : List ℕ) → z ≡ zeros (length m) → z ≡ out.put (next_of held)
    ends h z q =
        q ∙ ap (λ (k : ℕ). zeros k) long ∙ idle_put ∙ sym (ap out.put (next_done held (sym which_is ∙ asked) (omega (arith, counted, done))))

    pub follows : d < n → (x : List ℕ) → x ≡ out.put (restarted 0 0 held) → (ys : List ℕ) → ys ≡ (text longest).put (drop d ((text longest).get (take text_size (drop (block_in + rest_in) x))))
        → put_mid (block_in + rest_in) text_size x ys ≡ out.put (next_of held)
    follows h x e ys q =
        refilled x e ys (drop d (out_parts held).1.1.rest) (q ∙ ap (λ (r : List ℕ). (text longest).put (drop d r)) (anew x e).got)
        ∙ ap (λ (k : ℕ). out.put (sends (new_block (drop k (out_parts held).1.1.rest)))) done
        ∙ sym (ap out.put (next_more held (sym which_is ∙ asked) (omega (arith, counted, done))))

    pub enough : d < n → (x : List ℕ) → x ≡ out.put (restarted 0 0 held) → d ≤ length ((text longest).get (take text_size (drop (block_in + rest_in) x)))
    enough h x e = omega (arith, counted, ap length (anew x e).got)

  -- a break
  pub nothing_sent : get_or m 0 0 ≡ 0 → cut_of held ≡ none
  nothing_sent e = cut_idle held (sym which_is ∙ e)

  module _ (n : ℕ) (c : n ≡ telegrams ((text longest).get (take text_size (drop (block_in + rest_in) m)))) where
    pub all_taken : n ≤ get_or m block_in 0 → cut_of held ≡ none
    all_taken h = cut_none held (omega (arith, c ∙ ap telegrams lent.got, taken_is))

    pub is_cut : (get_or m 0 0 ≡ 0 → ⊥) → get_or m block_in 0 < n → cut_of held ≡ some (sends (new_block []))
    is_cut f h = cut_some held (λ e. f (which_is ∙ e)) (omega (arith, c ∙ ap telegrams lent.got, taken_is))
