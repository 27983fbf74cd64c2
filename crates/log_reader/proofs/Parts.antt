-- A line, part after part. Assumes nothing.
use Rattle.std.specs.Prelude.{if◌then◌else◌, Some, None, Ok, Err}
use Rattle.std.specs.Prelude as std
use Prim.Native.Nat.{ℕ, suc, ◌+◌, ◌-◌, ◌≤◌, ◌<◌}
use mathlib.Core.Path.{◌≡◌, refl, sym, ap, ◌∙◌, subst}
use mathlib.Core.Bool.{Bool, true, false}
use mathlib.Core.List.{List, [], ◌∷◌}
use mathlib.Core.Option.{Option, none, some, map, bind}
use native.Mathlib.Omega.{arith}
use borrow.Author.Tests.{lt-ltb, le-ltb}
use lib.Dec.{ltb}
use lib.ListN.{length, get_or, take, drop, length-take, length-drop}
use lib.Seq.{length-take-le}
use Rattle.text_reader.specs.Reading.{before, valued}
use Rattle.text_reader.proofs.Digits.{valued_some, valued_none}
use Rattle.candump.specs.Line.{blank, cut, behind, only, frame_in, Words, words, name_in, time_in, words_in, bus_in, Said, malformed, unknown, tells, logged, named, said_by, line_in}
use Rattle.log_reader.specs.Reading.{near_time, data_of, timed, nearer, TimeReads, carried, DataThere, FrameThere, FrameReads, frame_told, meaning, near_logged, near_said, Reads}
use Rattle.log_reader.specs.declared.Time.{Time}
use Rattle.log_reader.specs.declared.Identifier.{Identifier}
use Rattle.log_reader.specs.declared.Frame.{Frame}
use Rattle.log_reader.specs.declared.LineError.TheVariants.{Malformed, Unknown}
use Rattle.log_reader.proofs.Cutting.{cut_found, cut_missing, begins, begins_not, begins_nothing}

-- ---- what the reader of a time says

pub record Timed (text : List ℕ) (t next : ℕ) : Type 0 where
  pub exact : ℕ
  pub is : time_in text ≡ some (exact, drop next text)
  pub nears : near_time exact ≡ t

pub time_there : (text : List ℕ) (r : std.Option Time) (t next : ℕ) → TimeReads text r → r ≡ Some (record { time = t; next = next }) → Timed text t next
unfolding timed nearer
time_there text r t next k e = by (time_in text) refl (sym (ap (timed text) e) ∙ k.is)
  where
    by : (o : Option (ℕ × List ℕ)) → time_in text ≡ o → some (t, drop next text) ≡ map nearer o → Timed text t next
    by none q h = let z : ◌≡◌ {A = ℕ} 0 1 = cc in absurd (omega arith)
    by (some p) q h =
        let both : ◌≡◌ {A = ℕ × List ℕ} (t, drop next text) (nearer p) = cc in
        let a : near_time p.0 ≡ t = sym (ap (λ (x : ℕ × List ℕ). x.0) both) in
        let b : p.1 ≡ drop next text = sym (ap (λ (x : ℕ × List ℕ). x.1) both) in
        record { exact = p.0; is = q ∙ ap (λ (l : List ℕ). some (p.0, l)) b; nears = a }

time_missing : (text : List ℕ) (r : std.Option Time) → TimeReads text r → r ≡ None → time_in text ≡ none
unfolding timed
time_missing text r k e = by (time_in text) refl (sym (ap (timed text) e) ∙ k.is)
  where
    by : (o : Option (ℕ × List ℕ)) → time_in text ≡ o → none ≡ map nearer o → time_in text ≡ none
    by none q h = q
    by (some p) q h = let z : ◌≡◌ {A = ℕ} 0 1 = cc in absurd (omega arith)

-- ---- the line

module _ (text : List ℕ) where
  bad : words_in text ≡ none → Reads text (Err Malformed)
  unfolding meaning near_said line_in said_by
  bad e = record { is = sym (ap (λ (o : Option Words). near_said (said_by o)) e); there = tt }

  pub no_time : (r : std.Option Time) → TimeReads text r → r ≡ None → Reads text (Err Malformed)
  unfolding words_in bind
  no_time r k e = bad (rw (time_missing text r k e))

  module _ (t next : ℕ) (k : Timed text t next) where
    pub ends_early : length text ≤ next → Reads text (Err Malformed)
    unfolding words_in bind
    ends_early h = bad (rw (k.is, begins_nothing blank text next h))

    pub no_blank : next < length text → (get_or text next 0 ≡ blank → ⊥) → Reads text (Err Malformed)
    unfolding words_in bind
    no_blank h e = bad (rw (k.is, begins_not blank text next h e))

    module _ (more : next < length text) (first : get_or text next 0 ≡ blank) (end : ℕ) (found : end ≡ next + 1 + before blank (drop (next + 1) text)) where
      name_start : next + 1 ≤ length text
      name_start = omega arith

      pub no_second : length text ≤ end → Reads text (Err Malformed)
      unfolding words_in name_in bind
      no_second h = bad (rw (k.is, begins blank text next more first, cut_missing blank text (next + 1) end name_start found h))

      module _ (inside : end < length text) where
        name_size : length (take (end - (next + 1)) (drop (next + 1) text)) ≡ end - (next + 1)
        name_size = length-take-le (end - (next + 1)) (drop (next + 1) text) (omega (arith, length-drop (next + 1) text))

        pub no_word : end ≤ next + 1 → Reads text (Err Malformed)
        unfolding words_in name_in bind only
        no_word h =
            bad
            (rw (
              k.is,
              begins blank text next more first,
              cut_found blank text (next + 1) end name_start found inside,
              le-ltb 0 (length (take (end - (next + 1)) (drop (next + 1) text))) (omega (arith, name_size)),
            ))

        module _ (word : next + 1 < end) (f : std.Option Frame) (reads : FrameReads text (end + 1) f) where
          name : List ℕ
          name = take (end - (next + 1)) (drop (next + 1) text)

          -- the frame, once the name is there
          on : words_in text ≡ bind (frame_in (drop (end + 1) text)) (λ f. some (words k.exact name f))
          unfolding words_in name_in bind only name
          on =
              rw (
                k.is,
                begins blank text next more first,
                cut_found blank text (next + 1) end name_start found inside,
                lt-ltb 0 (length (take (end - (next + 1)) (drop (next + 1) text))) (omega (arith, name_size)),
              )

          pub no_frame : f ≡ None → Reads text (Err Malformed)
          unfolding bind carried
          no_frame e =
              let missing : frame_in (drop (end + 1) text) ≡ none = sym reads.is ∙ ap (carried text) e in
              bad (on ∙ ap (λ (o : Option (Bool × ℕ × List ℕ)). bind o (λ f. some (words k.exact name f))) missing)

          module _ (whose : Identifier) (from : ℕ) (e : f ≡ Some (record { identifier = whose; digits = from })) where
            said : words_in text ≡ some (words k.exact name (whose.wide, whose.id, data_of (drop from text)))
            unfolding bind carried
            said =
                let there : frame_in (drop (end + 1) text) ≡ some (whose.wide, whose.id, data_of (drop from text)) = sym reads.is ∙ ap (carried text) e in
                on ∙ ap (λ (o : Option (Bool × ℕ × List ℕ)). bind o (λ f. some (words k.exact name f))) there

            line_is : (o : Option ℕ) → bus_in (take (end - (next + 1)) (drop (next + 1) text)) ≡ o → line_in text ≡ named (words k.exact name (whose.wide, whose.id, data_of (drop from text))) o
            unfolding line_in said_by name words
            line_is o q =
                ap said_by said ∙ ap (λ (o : Option ℕ). named (words k.exact name (whose.wide, whose.id, data_of (drop from text))) o) q

            pub unknown_name : None ≡ valued (bus_in (take (end - (next + 1)) (drop (next + 1) text))) → Reads text (Err Unknown)
            unfolding meaning near_said named
            unknown_name h = record { is = sym (ap near_said (line_is none (valued_none _ h))); there = tt }

            pub is_line : (b : ℕ) → Some b ≡ valued (bus_in (take (end - (next + 1)) (drop (next + 1) text))) → Reads text (Ok (record { time = t; line = b; identifier = whose; digits = from }))
            unfolding meaning frame_told near_said near_logged named logged words
            is_line b h =
                record {
                  is = sym (ap near_said (line_is (some b) (valued_some _ b h))
                      ∙ ap (λ (t : ℕ). tells (record { time = t; line = b; wide = whose.wide; id = whose.id; bytes = data_of (drop from text) })) k.nears);
                  there = subst (FrameThere text) e reads.there;
                }
