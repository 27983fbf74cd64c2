-- A LOG THAT IS CUT: what is read of it are whole lines, and the line behind them has the number that is told; an import of them that stops is the import
-- of the whole log, whatever stands behind them. Assumes nothing.
use Rattle.std.specs.Prelude.{if◌then◌else◌, Some}
use Prim.Native.Nat.{ℕ, ◌+◌, ◌≤◌, ◌<◌}
use mathlib.Core.Path.{◌≡◌, refl, sym, ap, ◌∙◌, subst}
use mathlib.Core.Bool.{Bool, true, false}
use mathlib.Core.List.{List, [], ◌∷◌, ◌++◌, append_assoc}
use native.Mathlib.Omega.{arith}
use borrow.Author.Tests.{eq-eqb, ne_eqb, eqb-true, eqb-false}
use lib.Dec.{eqb, ltb}
use lib.ListN.{length, take, drop, length-append, length-take, take-append-drop}
use lib.Seq.{take_at, take-take}
use Rattle.candump.specs.Line.{Logged, Said, malformed, unknown, tells, line_in}
use Rattle.candump.specs.Log.{newline, glue, lines_of, bytes_all, line_events, room, goes_back, does_not_fit, Import, whole, stopped, taking, importing, imported}
use Rattle.log_input.specs.Cut.{longest_log, cut_at, whole_from, whole_of, cut_of}
use Rattle.log_input.specs.declared.Cut.{Cut}
use Rattle.log_input.proofs.Cutting.{first_few, part_read_law}

-- ---- the lines of one text behind another

-- it is empty, or ends with a newline
abbrev Closed : List ℕ → Type 0
Closed [] = Unit {0}
Closed (c ∷ []) = c ≡ newline
Closed (c ∷ d ∷ l) = Closed (d ∷ l)

-- it has no newline
abbrev Free : List ℕ → Type 0
Free [] = Unit {0}
Free (c ∷ l) = (c ≡ newline → ⊥) × Free l

glue_append : (c : ℕ) (xs ys : List (List ℕ)) → 0 < length xs → glue c (xs ++ ys) ≡ glue c xs ++ ys
unfolding glue
glue_append c [] ys h = absurd (omega arith)
glue_append c (l ∷ ls) ys h = refl

glue_long : (c : ℕ) (xs : List (List ℕ)) → 0 < length (glue c xs)
unfolding glue
glue_long c [] = omega arith
glue_long c (l ∷ ls) = omega arith

glue_length : (c : ℕ) (xs : List (List ℕ)) → 0 < length xs → length (glue c xs) ≡ length xs
unfolding glue
glue_length c [] h = absurd (omega arith)
glue_length c (l ∷ ls) h = refl

lines_long : (c : ℕ) (cs : List ℕ) → 0 < length (lines_of (c ∷ cs))
unfolding lines_of
lines_long c cs = by (eqb c newline)
  where
    by : (g : Bool) → 0 < length (if◌then◌else◌ {A = List (List ℕ)} g ([] ∷ lines_of cs) (glue c (lines_of cs)))
    by true = omega arith
    by false = glue_long c (lines_of cs)

pub lines_join : (a b : List ℕ) → Closed a → lines_of (a ++ b) ≡ lines_of a ++ lines_of b
unfolding lines_of
lines_join [] b h = refl
lines_join (c ∷ []) b h = rw (eq-eqb c newline h)
lines_join (c ∷ d ∷ l) b h = by (eqb c newline) (lines_join (d ∷ l) b h)
  where
    by : (g : Bool) → lines_of ((d ∷ l) ++ b) ≡ lines_of (d ∷ l) ++ lines_of b
        → if◌then◌else◌ {A = List (List ℕ)} g ([] ∷ lines_of ((d ∷ l) ++ b)) (glue c (lines_of ((d ∷ l) ++ b)))
        ≡ if◌then◌else◌ {A = List (List ℕ)} g ([] ∷ lines_of (d ∷ l)) (glue c (lines_of (d ∷ l))) ++ lines_of b
    by true ih = ap (λ (ls : List (List ℕ)). [] ∷ ls) ih
    by false ih = ap (glue c) ih ∙ glue_append c (lines_of (d ∷ l)) (lines_of b) (lines_long d l)

one_line : (q : List ℕ) (c : ℕ) → Free q → c ≡ newline → length (lines_of (q ++ (c ∷ []))) ≡ 1
unfolding lines_of
one_line [] c f h = rw (eq-eqb c newline h)
one_line (d ∷ q) c f h =
    let ih : length (lines_of (q ++ (c ∷ []))) ≡ 1 = one_line q c f.1 h in
    rw (ne_eqb d newline f.0) (glue_length d (lines_of (q ++ (c ∷ []))) (omega arith) ∙ ih)

closed_end : (x : List ℕ) (c : ℕ) → c ≡ newline → Closed (x ++ (c ∷ []))
closed_end [] c h = h
closed_end (d ∷ []) c h = h
closed_end (d ∷ e ∷ x) c h = closed_end (e ∷ x) c h

free_end : (q : List ℕ) (c : ℕ) → Free q → (c ≡ newline → ⊥) → Free (q ++ (c ∷ []))
free_end [] c f h = (h, tt)
free_end (d ∷ q) c f h = (f.0, free_end q c f.1 h)

-- ---- WHAT IS READ

pub record Whole (log : List ℕ) (c : Cut) : Type 0 where
  pub inside : c.end ≤ length log
  pub closed : Closed (take c.end log)
  pub count : Some (length (lines_of (take c.end log)) + 1) ≡ c.line

module _ (a q : List ℕ) (n i : ℕ) (ends : Closed a) (free : Free q) (lines : length (lines_of a) + 1 ≡ n) (at : i ≡ length a + length q) where
  stop_whole : Whole (a ++ (q ++ [])) (cut_at (length a) (Some n))
  stop_whole =
      let e : take (length a) (a ++ (q ++ [])) ≡ a = take_at a (q ++ []) (length a) refl in
      record {
        inside = omega (arith, length-append a (q ++ []));
        closed = subst Closed (sym e) ends;
        count = ap (λ (l : List ℕ). Some (length (lines_of l) + 1)) e ∙ ap Some lines;
      }

whole_from_law : (l a q : List ℕ) (n i : ℕ) → Closed a → Free q → length (lines_of a) + 1 ≡ n → i ≡ length a + length q → Whole (a ++ (q ++ l)) (whole_from i (length a) n l)
unfolding whole_from
whole_from_law [] a q n i ends free lines at = stop_whole a q n i ends free lines at
whole_from_law (c ∷ cs) a q n i ends free lines at = by (eqb c newline) refl (whole_from_law cs)
  where
    line : List ℕ
    line = q ++ (c ∷ [])

    More : Type 0
    More = (a q : List ℕ) (n i : ℕ) → Closed a → Free q → length (lines_of a) + 1 ≡ n → i ≡ length a + length q → Whole (a ++ (q ++ cs)) (whole_from i (length a) n cs)

    onward : a ++ (line ++ cs) ≡ a ++ (q ++ (c ∷ cs))
    onward = ap (λ (x : List ℕ). a ++ x) (append_assoc q (c ∷ []) cs)

    by : (g : Bool) → eqb c newline ≡ g → More
        → Whole (a ++ (q ++ (c ∷ cs))) (if g then whole_from (i + 1) (i + 1) (n + 1) cs else whole_from (i + 1) (length a) n cs)
    by true e more =
        let is : c ≡ newline = eqb-true c newline e in
        let joined : lines_of (a ++ line) ≡ lines_of a ++ lines_of line = lines_join a line ends in
        let count : length (lines_of (a ++ line)) + 1 ≡ n + 1 = omega (arith, ap length joined, length-append (lines_of a) (lines_of line), one_line q c free is) in
        let far : length (a ++ line) ≡ i + 1 = omega (arith, length-append a line, length-append q (c ∷ [])) in
        let closed : Closed (a ++ line) = subst Closed (append_assoc a q (c ∷ [])) (closed_end (a ++ q) c is) in
        let next : Whole ((a ++ line) ++ cs) (whole_from (i + 1) (length (a ++ line)) (n + 1) cs) = more (a ++ line) [] (n + 1) (i + 1) closed tt count (omega arith) in
        subst (λ (x : List ℕ). Whole x (whole_from (i + 1) (i + 1) (n + 1) cs)) (append_assoc a line cs ∙ onward)
        (subst (λ (k : ℕ). Whole ((a ++ line) ++ cs) (whole_from (i + 1) k (n + 1) cs)) far next)
    by false e more =
        subst (λ (x : List ℕ). Whole x (whole_from (i + 1) (length a) n cs)) onward
        (more a line n (i + 1) ends (free_end q c free (eqb-false c newline e)) lines (omega (arith, length-append q (c ∷ []))))

pub lines_whole : (log : List ℕ) → Whole log (whole_of log)
unfolding whole_of lines_of
lines_whole log = whole_from_law log [] [] 1 0 tt tt refl refl

-- ---- an import that stops

stops_stay : (t n : ℕ) (out : List ℕ) (ls ms : List (List ℕ)) → 0 < (importing t n out ls).line → importing t n out (ls ++ ms) ≡ importing t n out ls
unfolding importing whole taking
stops_stay t n out [] ms h = absurd (omega arith)
stops_stay t n out (l ∷ ls) ms h = by (line_in l) h (λ g k. stops_stay g.time (n + 1) (out ++ bytes_all (line_events t g)) ls ms k)
  where
    on : List (List ℕ) → Logged → Import
    on xs g = importing g.time (n + 1) (out ++ bytes_all (line_events t g)) xs

    tests : (g : Logged) (p q : Bool) → 0 < (if p then stopped out n goes_back else if q then stopped out n does_not_fit else on ls g).line → (0 < (on ls g).line → on (ls ++ ms) g ≡ on ls g)
        → (if p then stopped out n goes_back else if q then stopped out n does_not_fit else on (ls ++ ms) g) ≡ (if p then stopped out n goes_back else if q then stopped out n does_not_fit else on ls g)
    tests g true q k ih = refl
    tests g false true k ih = refl
    tests g false false k ih = ih k

    by : (s : Said) → 0 < (taking t n out s (on ls)).line → ((g : Logged) → 0 < (on ls g).line → on (ls ++ ms) g ≡ on ls g) → taking t n out s (on (ls ++ ms)) ≡ taking t n out s (on ls)
    by malformed k ih = refl
    by unknown k ih = refl
    by (tells g) k ih = tests g (ltb g.time t) (ltb room (length (out ++ bytes_all (line_events t g)))) k (ih g)

-- a log is its first bytes up to a place, and what stands behind them
apart : (log more : List ℕ) (e : ℕ) → log ++ more ≡ take e log ++ (drop e log ++ more)
apart log more e = ap (λ (l : List ℕ). l ++ more) (sym (take-append-drop e log)) ∙ append_assoc (take e log) (drop e log) more

-- lines that are whole stop the import of every log that begins with them
whole_stops : (start : ℕ) (log more : List ℕ) (e : ℕ) → Closed (take e log) → 0 < (imported start (take e log)).line → imported start (log ++ more) ≡ imported start (take e log)
unfolding imported
whole_stops start log more e closed h =
    ap (λ (l : List ℕ). importing start 1 [] (lines_of l)) (apart log more e)
    ∙ ap (importing start 1 []) (lines_join (take e log) (drop e log ++ more) closed)
    ∙ stops_stay start 1 [] (lines_of (take e log)) (lines_of (drop e log ++ more)) h

-- what is whole in the first bytes of a log is whole in the log
longer : (n : ℕ) (log : List ℕ) (c : Cut) → Whole (take n log) c → Whole log c
longer n log c w =
    let few : c.end ≤ n = omega (arith, w.inside, first_few n log) in
    let e : take c.end (take n log) ≡ take c.end log = take-take c.end n log few in
    record {
      inside = omega (arith, w.inside, length-take n log);
      closed = subst Closed e w.closed;
      count = ap (λ (l : List ℕ). Some (length (lines_of l) + 1)) (sym e) ∙ w.count;
    }

-- ---- A LOG THAT IS LONGER THAN ITS ROOM

module _ (log : List ℕ) (long : longest_log < length log) where
  -- what is read of it are its first lines, all of them whole, and the next has the number that is told
  pub cut_whole : Whole log (cut_of log)
  cut_whole = subst (Whole log) (part_read_law log long) (longer longest_log log (whole_of (take longest_log log)) (lines_whole (take longest_log log)))

  -- where one of them stops the import, it stops that of the log, whatever comes behind what was seen of it
  pub cut_stops : (start : ℕ) (more : List ℕ) → 0 < (imported start (take (cut_of log).end log)).line → imported start (log ++ more) ≡ imported start (take (cut_of log).end log)
  cut_stops start more h = whole_stops start log more (cut_of log).end cut_whole.closed h
