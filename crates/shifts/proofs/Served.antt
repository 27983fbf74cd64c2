-- SERVING CHANNEL AFTER CHANNEL is an arrangement of a stretch, and of a whole sequence stretch by stretch. Assumes nothing.
use Rattle.std.specs.Prelude.{if◌then◌else◌}
use Prim.Native.Nat.{ℕ, zero, suc, ◌+◌, ◌≤◌, ◌<◌}
use mathlib.Core.Path.{◌≡◌, refl, sym, ap, ap₂, ◌∙◌, subst}
use mathlib.Core.Logic.{◌≢◌}
use mathlib.Core.Bool.{Bool, true, false, true≢false, not, ◌&&◌}
use mathlib.Core.List.{List, [], ◌∷◌, ◌++◌, append-nil, append_assoc}
use native.Mathlib.Omega.{arith}
use borrow.Author.Tests.{eqb-true, eqb-false, ne_eqb}
use lib.Dec.{T, eqb, ltb, eqb→eq}
use lib.ListN.{length, length-append}
use Rattle.codec.specs.Plain.{all}
use Rattle.codec.proofs.Tests.{left, right, join, true_T, T_true, T_false}
use Rattle.codec.proofs.Lists.{all_append}
use Rattle.machine.specs.Step.{Event, connect, call, frame, advance, close}
use Rattle.whole.specs.Device.{channels}
use Rattle.whole.specs.Demands.{names, concerns}
use Rattle.shifts.specs.Shifts.{Numbered, numbered_from, numbered, keep, with_number, of_channel, nobodys, naming_none, is_cut, Stretch, Arrangement, Rearranged, stretch, cut, served_from, served, whole_from, whole_shift}
use Rattle.shifts.proofs.Keep.{keep_append, keep_twice, keep_both, keep_neither, nobodys_none, somebodys}

-- ---- a call or a connect concerns one channel at most

one_by_line : (l p i j : ℕ) → i < channels → j < channels → T (if ltb i 4 then eqb l i && eqb p 5 else eqb (l + 4) i && eqb p 6)
    → T (if ltb j 4 then eqb l j && eqb p 5 else eqb (l + 4) j && eqb p 6) → i ≡ j
one_by_line l p i j h k s t = by (ltb i 4) refl (ltb j 4) refl s t
  where
    by : (a : Bool) → ltb i 4 ≡ a → (b : Bool) → ltb j 4 ≡ b → T (if a then eqb l i && eqb p 5 else eqb (l + 4) i && eqb p 6)
        → T (if b then eqb l j && eqb p 5 else eqb (l + 4) j && eqb p 6) → i ≡ j
    by true x true y s t =
        let a : l ≡ i = eqb→eq l i (left (eqb l i) (eqb p 5) s) in let b : l ≡ j = eqb→eq l j (left (eqb l j) (eqb p 5) t) in omega arith
    by true x false y s t =
        let a : p ≡ 5 = eqb→eq p 5 (right (eqb l i) (eqb p 5) s) in let b : p ≡ 6 = eqb→eq p 6 (right (eqb (l + 4) j) (eqb p 6) t) in absurd (omega arith)
    by false x true y s t =
        let a : p ≡ 6 = eqb→eq p 6 (right (eqb (l + 4) i) (eqb p 6) s) in let b : p ≡ 5 = eqb→eq p 5 (right (eqb l j) (eqb p 5) t) in absurd (omega arith)
    by false x false y s t =
        let a : l + 4 ≡ i = eqb→eq (l + 4) i (left (eqb (l + 4) i) (eqb p 6) s) in let b : l + 4 ≡ j = eqb→eq (l + 4) j (left (eqb (l + 4) j) (eqb p 6) t) in omega arith

one_concerned : (e : Event) (i j : ℕ) → i < channels → j < channels → T (not (is_cut e)) → T (concerns i e) → T (concerns j e) → i ≡ j
unfolding is_cut concerns
one_concerned (connect l p f r) i j h k c s t = one_by_line l p i j h k s t
one_concerned (call n x) i j h k c s t =
    let a : n ≡ i + 1 = eqb→eq n (i + 1) (left (eqb n (i + 1)) (names x n) s) in
    let b : n ≡ j + 1 = eqb→eq n (j + 1) (left (eqb n (j + 1)) (names x n) t) in
    omega arith
one_concerned (frame l w n b) i j h k c s t = absurd c
one_concerned (advance u) i j h k c s t = absurd c
one_concerned close i j h k c s t = absurd c

-- ---- each channel keeps its own order

other_channel : (i j : ℕ) → i < channels → j < channels → i ≢ j → (cs : List Numbered) → Stretch cs → of_channel i (of_channel j cs) ≡ []
unfolding of_channel
other_channel i j h k d cs s =
    keep_neither (λ c. concerns i c.1) (λ c. concerns j c.1) (λ c. not (is_cut c.1)) (λ c n t t'. d (one_concerned c.1 i j h k n t t')) cs s

none_of_channel : (i : ℕ) → i < channels → (cs : List Numbered) → of_channel i (naming_none cs) ≡ []
unfolding of_channel naming_none
none_of_channel i h cs =
    keep_neither (λ c. concerns i c.1) (λ c. nobodys c.1) (λ c. true)
    (λ c n t t'. true≢false (sym (T_true (concerns i c.1) t) ∙ nobodys_none c.1 (T_true (nobodys c.1) t') i h)) cs (every cs)
  where
    every : (cs : List Numbered) → T (all (λ (c : Numbered). true) cs)
    every [] = tt
    every (c ∷ cs) = every cs

channel_append : (i : ℕ) (xs ys : List Numbered) → of_channel i (xs ++ ys) ≡ of_channel i xs ++ of_channel i ys
unfolding of_channel
channel_append i xs ys = keep_append (λ c. concerns i c.1) xs ys

channel_twice : (i : ℕ) (cs : List Numbered) → of_channel i (of_channel i cs) ≡ of_channel i cs
unfolding of_channel
channel_twice i cs = keep_twice (λ c. concerns i c.1) cs

module _ (i : ℕ) (h : i < channels) (cs : List Numbered) (s : Stretch cs) where
  -- n channels from place a on, none of which is i
  served_past : (n a : ℕ) → i < a → a + n ≤ channels → of_channel i (served_from n a cs) ≡ []
  unfolding served_from
  served_past zero a k l = none_of_channel i h cs
  served_past (suc n) a k l =
      channel_append i (of_channel a cs) (served_from n (suc a) cs)
      ∙ ap₂ (λ (x y : List Numbered). x ++ y) (other_channel i a h (omega arith) (λ q. omega arith) cs s) (served_past n (suc a) (omega arith) (omega arith))

  served_to : (n a : ℕ) → a ≤ i → i < a + n → a + n ≤ channels → of_channel i (served_from n a cs) ≡ of_channel i cs
  unfolding served_from
  served_to zero a k m l = absurd (omega arith)
  served_to (suc n) a k m l = by (eqb a i) refl (λ x. served_to n (suc a) x (omega arith) (omega arith))
    where
      by : (b : Bool) → eqb a i ≡ b → (suc a ≤ i → of_channel i (served_from n (suc a) cs) ≡ of_channel i cs)
          → of_channel i (of_channel a cs ++ served_from n (suc a) cs) ≡ of_channel i cs
      by true q more =
          let e : a ≡ i = eqb-true a i q in
          channel_append i (of_channel a cs) (served_from n (suc a) cs)
          ∙ ap₂ (λ (x y : List Numbered). x ++ y) (ap (λ (k : ℕ). of_channel i (of_channel k cs)) e ∙ channel_twice i cs) (served_past n (suc a) (omega arith) (omega arith))
          ∙ append-nil (of_channel i cs)
      by false q more =
          let ne : a ≢ i = eqb-false a i q in
          channel_append i (of_channel a cs) (served_from n (suc a) cs)
          ∙ ap₂ (λ (x y : List Numbered). x ++ y) (other_channel i a h (omega arith) (λ x. ne (sym x)) cs s) (more (omega arith))

  served_order : of_channel i (served cs) ≡ of_channel i cs
  unfolding served
  served_order = served_to channels 0 (omega arith) (omega arith) (omega arith)

-- ---- each number stands for the same event, as often

number_append : (n : ℕ) (xs ys : List Numbered) → with_number n (xs ++ ys) ≡ with_number n xs ++ with_number n ys
unfolding with_number
number_append n xs ys = keep_append (λ c. eqb c.0 n) xs ys

number_channel : (n i : ℕ) (cs : List Numbered) → with_number n (of_channel i cs) ≡ of_channel i (with_number n cs)
unfolding with_number of_channel
number_channel n i cs = keep_both (λ c. eqb c.0 n) (λ c. concerns i c.1) cs

number_none : (n : ℕ) (cs : List Numbered) → with_number n (naming_none cs) ≡ naming_none (with_number n cs)
unfolding with_number naming_none
number_none n cs = keep_both (λ c. eqb c.0 n) (λ c. nobodys c.1) cs

-- of those with a number, the served are served
number_served : (n k a : ℕ) (cs : List Numbered) → with_number n (served_from k a cs) ≡ served_from k a (with_number n cs)
unfolding served_from
number_served n zero a cs = number_none n cs
number_served n (suc k) a cs =
    number_append n (of_channel a cs) (served_from k (suc a) cs) ∙ ap₂ (λ (x y : List Numbered). x ++ y) (number_channel n a cs) (number_served n k (suc a) cs)

-- no event served is none; one event served is that event
served_nothing : (k a : ℕ) → served_from k a [] ≡ []
unfolding served_from of_channel naming_none keep
served_nothing zero a = refl
served_nothing (suc k) a = served_nothing k (suc a)

module _ (c : Numbered) where
  channel_yes : (i : ℕ) → concerns i c.1 ≡ true → of_channel i (c ∷ []) ≡ c ∷ []
  unfolding of_channel keep
  channel_yes i h = rw h refl

  channel_no : (i : ℕ) → concerns i c.1 ≡ false → of_channel i (c ∷ []) ≡ []
  unfolding of_channel keep
  channel_no i h = rw h refl

  none_yes : nobodys c.1 ≡ true → naming_none (c ∷ []) ≡ c ∷ []
  unfolding naming_none keep
  none_yes h = rw h refl

  none_no : nobodys c.1 ≡ false → naming_none (c ∷ []) ≡ []
  unfolding naming_none keep
  none_no h = rw h refl

  -- past all channels of the event, what is left is what names none
  one_past : (k a : ℕ) → ((i : ℕ) → a ≤ i → i < a + k → concerns i c.1 ≡ false) → served_from k a (c ∷ []) ≡ naming_none (c ∷ [])
  unfolding served_from
  one_past zero a out = refl
  one_past (suc k) a out =
      ap₂ (λ (x y : List Numbered). x ++ y) (channel_no a (out a (omega arith) (omega arith))) (one_past k (suc a) (λ i h l. out i (omega arith) (omega arith)))

  module _ (s : T (not (is_cut c.1))) (j : ℕ) (h : j < channels) (mine : concerns j c.1 ≡ true) where
    others_not : (i : ℕ) → i < channels → i ≢ j → concerns i c.1 ≡ false
    others_not i k d = T_false (concerns i c.1) (λ t. d (one_concerned c.1 i j k h s t (true_T (concerns j c.1) mine)))

    not_nobodys : nobodys c.1 ≡ false
    not_nobodys = T_false (nobodys c.1) (λ t. true≢false (sym mine ∙ nobodys_none c.1 (T_true (nobodys c.1) t) j h))

    one_to : (k a : ℕ) → a ≤ j → j < a + k → a + k ≤ channels → served_from k a (c ∷ []) ≡ c ∷ []
    unfolding served_from
    one_to zero a x y l = absurd (omega arith)
    one_to (suc k) a x y l = by (eqb a j) refl (λ z. one_to k (suc a) z (omega arith) (omega arith))
      where
        by : (b : Bool) → eqb a j ≡ b → (suc a ≤ j → served_from k (suc a) (c ∷ []) ≡ c ∷ []) → of_channel a (c ∷ []) ++ served_from k (suc a) (c ∷ []) ≡ c ∷ []
        by true q more =
            let e : a ≡ j = eqb-true a j q in
            ap₂ (λ (x y : List Numbered). x ++ y) (ap (λ (i : ℕ). of_channel i (c ∷ [])) e ∙ channel_yes j mine)
            (one_past k (suc a) (λ i z w. others_not i (omega arith) (λ r. omega arith)) ∙ none_no not_nobodys)
        by false q more =
            let ne : a ≢ j = eqb-false a j q in
            ap₂ (λ (x y : List Numbered). x ++ y) (channel_no a (others_not a (omega arith) ne)) (more (omega arith))

  served_one : T (not (is_cut c.1)) → served (c ∷ []) ≡ c ∷ []
  unfolding served
  served_one s = by (nobodys c.1) refl
    where
      by : (b : Bool) → nobodys c.1 ≡ b → served_from channels 0 (c ∷ []) ≡ c ∷ []
      by true q = one_past channels 0 (λ i z w. nobodys_none c.1 q i (omega arith)) ∙ none_yes q
      by false q = let r = somebodys c.1 q in let l = r.low in one_to s r.place r.low r.it channels 0 (omega arith) (omega arith) (omega arith)

-- ---- numbers that stand for one event each

abbrev pub Once : List Numbered → Type 0
Once cs = (n : ℕ) → length (with_number n cs) ≤ 1

once_first : (xs ys : List Numbered) → Once (xs ++ ys) → Once xs
once_first xs ys o n =
    let h = ap length (number_append n xs ys) ∙ length-append (with_number n xs) (with_number n ys) in let l = o n in omega arith

once_second : (xs ys : List Numbered) → Once (xs ++ ys) → Once ys
once_second xs ys o n =
    let h = ap length (number_append n xs ys) ∙ length-append (with_number n xs) (with_number n ys) in let l = o n in omega arith

-- below the first number there is none
numbers_later : (es : List Event) (n k : ℕ) → n < k → with_number n (numbered_from k es) ≡ []
unfolding with_number numbered_from keep
numbers_later [] n k h = refl
numbers_later (e ∷ es) n k h = rw (ne_eqb k n (λ q. omega arith)) (numbers_later es n (suc k) (omega arith))

pub numbers_once : (es : List Event) (k : ℕ) → Once (numbered_from k es)
unfolding with_number numbered_from keep
numbers_once [] k n = omega arith
numbers_once (e ∷ es) k n = by (eqb k n) refl (numbers_once es (suc k) n)
  where
    by : (b : Bool) → eqb k n ≡ b → length (with_number n (numbered_from (suc k) es)) ≤ 1
        → length (if b then (k, e) ∷ with_number n (numbered_from (suc k) es) else with_number n (numbered_from (suc k) es)) ≤ 1
    by true q h =
        let e : k ≡ n = eqb-true k n q in let none = ap length (numbers_later es n (suc k) (omega arith)) in omega arith
    by false q h = h

-- ---- a stretch

stretch_part : (p : Numbered → Bool) (cs : List Numbered) → Stretch cs → Stretch (keep p cs)
unfolding keep
stretch_part p [] s = tt
stretch_part p (c ∷ cs) s = by (p c) (stretch_part p cs (right (not (is_cut c.1)) _ s))
  where
    by : (b : Bool) → Stretch (keep p cs) → Stretch (if b then c ∷ keep p cs else keep p cs)
    by true h = join (not (is_cut c.1)) _ (left (not (is_cut c.1)) _ s) h
    by false h = h

served_each : (cs : List Numbered) → Stretch cs → Once cs → (n : ℕ) → with_number n (served cs) ≡ with_number n cs
unfolding served with_number
served_each cs s o n = number_served n channels 0 cs ∙ by (with_number n cs) (stretch_part (λ c. eqb c.0 n) cs s) (o n)
  where
    by : (l : List Numbered) → Stretch l → length l ≤ 1 → served_from channels 0 l ≡ l
    by [] t h = served_nothing channels 0
    by (c ∷ []) t h = served_one c (left (not (is_cut c.1)) true t)
    by (c ∷ (c' ∷ l)) t h = absurd (omega arith)

-- SERVED, a stretch is arranged
pub served_arranged : (cs : List Numbered) → Stretch cs → Once cs → Arrangement cs (served cs)
served_arranged cs s o = record { each = served_each cs s o; order = λ i h. served_order i h cs s }

-- ---- whole sequences

-- arrangements one after the other are an arrangement
pub arranged_append : (xs xs' ys ys' : List Numbered) → Arrangement xs xs' → Arrangement ys ys' → Arrangement (xs ++ ys) (xs' ++ ys')
arranged_append xs xs' ys ys' a b =
    record {
      each = λ n. number_append n xs' ys' ∙ ap₂ (λ (x y : List Numbered). x ++ y) (a.each n) (b.each n) ∙ sym (number_append n xs ys);
      order = λ i h. channel_append i xs' ys' ∙ ap₂ (λ (x y : List Numbered). x ++ y) (a.order i h) (b.order i h) ∙ sym (channel_append i xs ys);
    }

pub arranged_same : (cs : List Numbered) → Arrangement cs cs
arranged_same cs = record { each = λ n. refl; order = λ i h. refl }

-- so a sequence whose stretches are arranged is an arrangement of the sequence
pub rearranged_arranged : {cs zs : List Numbered} → Rearranged cs zs → Arrangement cs zs
rearranged_arranged (stretch cs zs s a) = a
rearranged_arranged (cut cs zs c cs' zs' s a t r) =
    arranged_append cs zs (c ∷ cs') (c ∷ zs') a (arranged_append (c ∷ []) (c ∷ []) cs' zs' (arranged_same (c ∷ [])) (rearranged_arranged r))

whole_rearranged : (s cs : List Numbered) → Stretch s → Once (s ++ cs) → Rearranged (s ++ cs) (whole_from s cs)
unfolding whole_from
whole_rearranged s [] t o =
    subst (λ (l : List Numbered). Rearranged l (served s)) (sym (append-nil s)) (stretch s (served s) t (served_arranged s t (once_first s [] o)))
whole_rearranged s (c ∷ cs) t o =
    by (is_cut c.1) refl (whole_rearranged [] cs tt (once_second (c ∷ []) cs (once_second s (c ∷ cs) o))) (whole_rearranged (s ++ c ∷ []) cs)
  where
    by : (b : Bool) → is_cut c.1 ≡ b → Rearranged cs (whole_from [] cs)
        → (Stretch (s ++ c ∷ []) → Once ((s ++ c ∷ []) ++ cs) → Rearranged ((s ++ c ∷ []) ++ cs) (whole_from (s ++ c ∷ []) cs))
        → Rearranged (s ++ c ∷ cs) (if b then served s ++ c ∷ whole_from [] cs else whole_from (s ++ c ∷ []) cs)
    by true q rest more = cut s (served s) c cs (whole_from [] cs) t (served_arranged s t (once_first s (c ∷ cs) o)) (true_T _ q) rest
    by false q rest more =
        let together : (s ++ c ∷ []) ++ cs ≡ s ++ c ∷ cs = append_assoc s (c ∷ []) cs in
        subst (λ (l : List Numbered). Rearranged l (whole_from (s ++ c ∷ []) cs)) together
        (more (all_append (λ (x : Numbered). not (is_cut x.1)) s (c ∷ []) t (join (not (is_cut c.1)) true (subst (λ (b : Bool). T (not b)) (sym q) tt) tt))
        (subst Once (sym together) o))

-- EACH STRETCH SERVED, a sequence is rearranged
pub whole_served : (es : List Event) → Rearranged (numbered es) (whole_shift es)
unfolding numbered whole_shift
whole_served es = whole_rearranged [] (numbered_from 0 es) tt (numbers_once es 0)
