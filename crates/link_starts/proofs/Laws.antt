-- The bytes of a connection's parts when a telegram was sent. Assumes nothing.
use Rattle.std.specs.Prelude.{if◌then◌else◌}
use mathlib.Core.Path.{◌≡◌, refl, sym, ap, ◌∙◌, subst}
use Prim.Native.Nat.{ℕ, ◌+◌, ◌≤◌, ◌<◌, ◌^◌}
use native.Mathlib.Omega.{arith}
use mathlib.Core.Bool.{Bool}
use mathlib.Core.List.{List, [], ◌∷◌, ◌++◌}
use lib.ListN.{length, get_or, set}
use lib.Dec.{T, eqb, leb→le}
use borrow.Author.Tests.{eq-eqb, ne_eqb}
use borrow.Rule.Slice.PartMut.{put_mid}
use Rattle.codec.specs.Word.{word, word_at}
use Rattle.codec.specs.Code.{Code, byte, word32, both, via, such, mark, many, mark_of, text, text_parts}
use Rattle.codec.proofs.Tests.{left, right}
use Rattle.codec.proofs.Lawful.{Lawful}
use Rattle.codec.proofs.Word.{word_back}
use Rattle.codec.proofs.Present.{text_count}
use Rattle.link.specs.Connection.{longest, t_e, t_test, micros, Trial, waits, flies, runs, trial_sent, Block, block_of, Out, idle, sends, asks, data_sent, Care, Wire, spaced, carries, its_data, its_test, its_other, Exit, due_in, due_behind, goes}
use Rattle.link_layout.specs.Sizes.{trials_size, which_size, care_size, out_size}
use Rattle.link_layout.specs.Connection.{trial_parts, trial, trials, exit_parts, leaves, wire_parts, wire, care, block, out_parts, out}
use Rattle.link_layout.proofs.Lawful.{trials_lawful, leaves_lawful, care_lawful, out_code_lawful}
use Rattle.link_layout.proofs.Bytes.{trials_size_law, leaves_size, care_size_law}
use Rattle.link_layout.proofs.Places.{out_size_law}
use Rattle.link_starts.specs.Started.{trials_sent, behind_sent, test_sent, t1_left}

-- a part's bytes are those of its value
module _ {A : Type 0} {c : Code A} (l : Lawful c) (n : ℕ) (e : c.size ≡ n) (m : List ℕ) (long : length m ≡ n) (v : T (c.valid m)) where
  pub again : c.put (c.get m) ≡ m
  again = l.put_get m (long ∙ sym e) v

  pub fine : T (c.ok (c.get m))
  fine = l.ok_get m (long ∙ sym e) v

-- ---- an opening telegram: its repeats, which, a number

pub trials_tag : (p : ℕ × Trial) → get_or (trials.put p) 1 0 ≡ (trial_parts p.1).0
unfolding trials trial via such both byte
trials_tag (n, waits) = refl
trials_tag (n, flies) = refl
trials_tag (n, (runs us)) = refl

trial_flew : (p : ℕ × Trial) → (trial_parts p.1).0 ≡ 1 → (w : List ℕ) → w ≡ 2 ∷ word t_e → put_mid 1 5 (trials.put p) w ≡ trials.put (trials_sent p)
unfolding trials_sent trial_sent trials trial via such both byte word32 word
trial_flew (n, waits) e w q = absurd (omega arith)
trial_flew (n, flies) e w q = ap (λ (x : List ℕ). put_mid 1 5 (n ∷ 1 ∷ 0 ∷ 0 ∷ 0 ∷ 0 ∷ []) x) q
trial_flew (n, (runs us)) e w q = absurd (omega arith)

trial_kept : (p : ℕ × Trial) → ((trial_parts p.1).0 ≡ 1 → ⊥) → trials.put p ≡ trials.put (trials_sent p)
unfolding trials_sent trial_sent
trial_kept (n, waits) d = refl
trial_kept (n, flies) d = absurd (d refl)
trial_kept (n, (runs us)) d = refl

module _ (m : List ℕ) (long : length m ≡ trials_size) (v : T (trials.valid m)) where
  same : trials.put (trials.get m) ≡ m
  same = again trials_lawful trials_size trials_size_law m long v

  tag : (trial_parts (trials.get m).1).0 ≡ get_or m 1 0
  tag = sym (trials_tag (trials.get m)) ∙ ap (λ (x : List ℕ). get_or x 1 0) same

  pub trials_run : get_or m 1 0 ≡ 1 → (w : List ℕ) → w ≡ 2 ∷ word t_e → put_mid 1 5 m w ≡ trials.put (trials_sent (trials.get m))
  trials_run e w q = ap (λ (x : List ℕ). put_mid 1 5 x w) (sym same) ∙ trial_flew (trials.get m) (tag ∙ e) w q

  pub trials_stay : (get_or m 1 0 ≡ 1 → ⊥) → m ≡ trials.put (trials_sent (trials.get m))
  trials_stay d = sym same ∙ trial_kept (trials.get m) (λ e. d (sym tag ∙ e))

-- ---- a disconnect telegram

pub exit_tag : (x : Exit) → get_or (leaves.put x) 0 0 ≡ (exit_parts x).0
unfolding leaves via such both byte
exit_tag (due_in us) = refl
exit_tag (due_behind t3) = refl
exit_tag goes = refl

low_byte : (n : ℕ) → n ≤ 255 → get_or (word n) 0 0 ≡ n
unfolding word
low_byte n h = omega arith

behind_small : (t3 : ℕ) → T (leaves.ok (due_behind t3)) → t3 ≤ 255
unfolding leaves via such both
behind_small t3 t = leb→le t3 255 (search right)

exit_lands : (x : Exit) → T (leaves.ok x) → (exit_parts x).0 ≡ 1 → (us : ℕ) → us ≡ micros (get_or (leaves.put x) 1 0) → 0 ∷ word us ≡ leaves.put (behind_sent x)
exit_lands (due_in left) t e us q = absurd (omega arith)
exit_lands (due_behind t3) t e us q =
    let h = low_byte t3 (behind_small t3 t) in
    unfold behind_sent leaves via such both byte word32 in
    ap {B = List ℕ} (λ (n : ℕ). 0 ∷ word n) (q ∙ ap micros h)
exit_lands goes t e us q = absurd (omega arith)

exit_kept : (x : Exit) → ((exit_parts x).0 ≡ 1 → ⊥) → leaves.put x ≡ leaves.put (behind_sent x)
unfolding behind_sent
exit_kept (due_in us) d = refl
exit_kept (due_behind t3) d = absurd (d refl)
exit_kept goes d = refl

module _ (m : List ℕ) (long : length m ≡ which_size) (v : T (leaves.valid m)) where
  same_exit : leaves.put (leaves.get m) ≡ m
  same_exit = again leaves_lawful which_size leaves_size m long v

  exit_which : (exit_parts (leaves.get m)).0 ≡ get_or m 0 0
  exit_which = sym (exit_tag (leaves.get m)) ∙ ap (λ (x : List ℕ). get_or x 0 0) same_exit

  pub behind_runs : get_or m 0 0 ≡ 1 → (us : ℕ) → us ≡ micros (get_or m 1 0) → 0 ∷ word us ≡ leaves.put (behind_sent (leaves.get m))
  behind_runs e us q =
      exit_lands (leaves.get m) (fine leaves_lawful which_size leaves_size m long v) (exit_which ∙ e) us
      (q ∙ ap (λ (x : List ℕ). micros (get_or x 1 0)) (sym same_exit))

  pub behind_stays : (get_or m 0 0 ≡ 1 → ⊥) → m ≡ leaves.put (behind_sent (leaves.get m))
  behind_stays d = sym same_exit ∙ exit_kept (leaves.get m) (λ e. d (sym exit_which ∙ e))

-- ---- the line

pub wire_tag : (w : Wire) → get_or (wire.put w) 0 0 ≡ (wire_parts w).0
unfolding wire via such both byte
wire_tag (spaced us) = refl
wire_tag (carries its_data) = refl
wire_tag (carries its_test) = refl
wire_tag (carries its_other) = refl

-- ---- the connection test

first_test : (c : Care) (w : List ℕ) → w ≡ word t_test → get_or (put_mid 3 4 (care.put c) w) 2 0 ≡ 0 → set (put_mid 3 4 (care.put c) w) 2 1 ≡ care.put (test_sent c)
unfolding test_sent care mark via such both byte word32 word
first_test c w q e =
    ap (λ (x : List ℕ). mark_of c.answers ∷ mark_of c.tests ∷ 1 ∷ (x ++ [])) q
    ∙ ap (λ (b : Bool). mark_of c.answers ∷ mark_of c.tests ∷ (if b then 1 else c.unanswered) ∷ word t_test) (sym (eq-eqb c.unanswered 0 e))

next_test : (c : Care) (w : List ℕ) → w ≡ word t_test → (get_or (put_mid 3 4 (care.put c) w) 2 0 ≡ 0 → ⊥) → put_mid 3 4 (care.put c) w ≡ care.put (test_sent c)
unfolding test_sent care mark via such both byte word32 word
next_test c w q d =
    ap (λ (x : List ℕ). mark_of c.answers ∷ mark_of c.tests ∷ c.unanswered ∷ (x ++ [])) q
    ∙ ap (λ (b : Bool). mark_of c.answers ∷ mark_of c.tests ∷ (if b then 1 else c.unanswered) ∷ word t_test) (sym (ne_eqb c.unanswered 0 d))

module _ (m : List ℕ) (long : length m ≡ care_size) (v : T (care.valid m)) (w : List ℕ) (q : w ≡ word t_test) where
  same_care : care.put (care.get m) ≡ m
  same_care = again care_lawful care_size care_size_law m long v

  pub test_first : get_or (put_mid 3 4 m w) 2 0 ≡ 0 → set (put_mid 3 4 m w) 2 1 ≡ care.put (test_sent (care.get m))
  test_first e =
      ap (λ (x : List ℕ). set (put_mid 3 4 x w) 2 1) (sym same_care)
      ∙ first_test (care.get m) w q (ap (λ (x : List ℕ). get_or (put_mid 3 4 x w) 2 0) same_care ∙ e)

  pub test_next : (get_or (put_mid 3 4 m w) 2 0 ≡ 0 → ⊥) → put_mid 3 4 m w ≡ care.put (test_sent (care.get m))
  test_next d =
      ap (λ (x : List ℕ). put_mid 3 4 x w) (sym same_care)
      ∙ next_test (care.get m) w q (λ e. d (ap (λ (x : List ℕ). get_or (put_mid 3 4 x w) 2 0) (sym same_care) ∙ e))

-- ---- what is left of T1 at first

pub never_ends : (t1 : ℕ) → t1 ≡ 0xFF → 0 ≡ t1_left t1
unfolding t1_left
never_ends t1 e = ap (λ (b : Bool). if b then 0 else micros t1) (sym (eq-eqb t1 0xFF e))

pub ends : (t1 us : ℕ) → (t1 ≡ 0xFF → ⊥) → us ≡ micros t1 → us ≡ t1_left t1
unfolding t1_left
ends t1 us d e = e ∙ ap (λ (b : Bool). if b then 0 else micros t1) (sym (ne_eqb t1 0xFF d))

-- ---- a message under way: which, left of T1, taken, repeats, again, how many bytes are left

abbrev pub behind_count : List ℕ → List ℕ
behind_count b = (many longest byte).put (text_parts longest b).1

pub text_bytes : (b : List ℕ) → (text longest).put b ≡ word (length b) ++ behind_count b
unfolding text via such both word32 text_parts
text_bytes b = refl

abbrev pub block_tail : Block → List ℕ
block_tail b = b.taken ∷ b.repeats ∷ b.again ∷ (text longest).put b.rest

pub sends_bytes : (b : Block) → out.put (sends b) ≡ 1 ∷ (word 0 ++ block_tail b)
unfolding out block via such both byte word32
sends_bytes b = refl

pub asks_bytes : (b : Block) (us : ℕ) → out.put (asks b us) ≡ 2 ∷ (word us ++ block_tail b)
unfolding out block via such both byte word32
asks_bytes b us = refl

pub out_tag : (o : Out) → get_or (out.put o) 0 0 ≡ (out_parts o).0
unfolding out via such both byte
out_tag idle = refl
out_tag (sends b) = refl
out_tag (asks b us) = refl

pub rest_ok : (b : Block) → T (out.ok (sends b)) → T ((text longest).ok b.rest)
unfolding out block via such both
rest_ok b t = search (left, right) depth 9

pub rest_most : (b : Block) → T (out.ok (sends b)) → length b.rest ≤ longest
rest_most b t = text_count longest b.rest (rest_ok b t)

pub count_is : (b : Block) → T (out.ok (sends b)) → word_at 8 (out.put (sends b)) ≡ length b.rest
count_is b t =
    let h = rest_most b t in
    let small : length b.rest < 2 ^ 32 = omega arith in
    ap (λ (x : List ℕ). word_at 8 x) (sends_bytes b ∙ ap (λ (x : List ℕ). 1 ∷ (word 0 ++ b.taken ∷ b.repeats ∷ b.again ∷ x)) (text_bytes b.rest))
    ∙ front (length b.rest) small
  where
    front : (n : ℕ) → n < 2 ^ 32 → word_at 8 (1 ∷ (word 0 ++ b.taken ∷ b.repeats ∷ b.again ∷ (word n ++ behind_count b.rest))) ≡ n
    front n h = unfold word word_at in word_back n h

pub taken_is : (b : Block) → get_or (out.put (sends b)) 5 0 ≡ b.taken
taken_is b = ap (λ (x : List ℕ). get_or x 5 0) (sends_bytes b) ∙ (unfold word in refl)

abbrev pub IsSending : Out → Type 0
IsSending o = (b : Block) × (o ≡ sends b)

pub is_sending : (o : Out) → (out_parts o).0 ≡ 1 → IsSending o
is_sending idle e = absurd (omega arith)
is_sending (sends b) e = (b, refl)
is_sending (asks b us) e = absurd (omega arith)

module _ (t1 size : ℕ) where
  asks_now : (b : Block) → b.taken ≡ block_of size b.rest → (w : List ℕ) → w ≡ 2 ∷ word (t1_left t1) → put_mid 0 5 (out.put (sends b)) w ≡ out.put (data_sent t1 size (sends b))
  unfolding data_sent t1_left word
  asks_now b e w q =
      ap (λ (x : List ℕ). put_mid 0 5 x w) (sends_bytes b)
      ∙ ap (λ (x : List ℕ). x ++ block_tail b) q
      ∙ sym (asks_bytes b (t1_left t1))
      ∙ ap (λ (c : Bool). out.put (if c then asks b (if eqb t1 0xFF then 0 else micros t1) else sends b)) (sym (eq-eqb b.taken (block_of size b.rest) e))

  sends_on : (b : Block) → (b.taken ≡ block_of size b.rest → ⊥) → out.put (sends b) ≡ out.put (data_sent t1 size (sends b))
  unfolding data_sent
  sends_on b d =
      ap (λ (c : Bool). out.put (if c then asks b (if eqb t1 0xFF then 0 else micros t1) else sends b)) (sym (ne_eqb b.taken (block_of size b.rest) d))

  out_kept : (o : Out) → ((out_parts o).0 ≡ 1 → ⊥) → out.put o ≡ out.put (data_sent t1 size o)
  unfolding data_sent
  out_kept idle d = refl
  out_kept (sends b) d = absurd (d refl)
  out_kept (asks b us) d = refl

  module _ (m : List ℕ) (long : length m ≡ out_size) (v : T (out.valid m)) where
    same_out : out.put (out.get m) ≡ m
    same_out = again out_code_lawful out_size out_size_law m long v

    pub out_which : (out_parts (out.get m)).0 ≡ get_or m 0 0
    out_which = sym (out_tag (out.get m)) ∙ ap (λ (x : List ℕ). get_or x 0 0) same_out

    pub nothing_asked : (get_or m 0 0 ≡ 1 → ⊥) → m ≡ out.put (data_sent t1 size (out.get m))
    nothing_asked d = sym same_out ∙ out_kept (out.get m) (λ e. d (sym out_which ∙ e))

    module _ (e : get_or m 0 0 ≡ 1) where
      abbrev pub sending : IsSending (out.get m)
      sending = is_sending (out.get m) (out_which ∙ e)

      abbrev pub block_in : Block
      block_in = sending.0

      is : out.put (sends block_in) ≡ m
      is = ap out.put (sym sending.1) ∙ same_out

      ok : T (out.ok (sends block_in))
      ok = subst (λ (o : Out). T (out.ok o)) sending.1 (fine out_code_lawful out_size out_size_law m long v)

      pub counted : length block_in.rest ≡ word_at 8 m
      counted = sym (count_is block_in ok) ∙ ap (λ (x : List ℕ). word_at 8 x) is

      pub counted_most : word_at 8 m ≤ longest
      counted_most = omega (arith, counted, rest_most block_in ok)

      taken : get_or m 5 0 ≡ block_in.taken
      taken = ap (λ (x : List ℕ). get_or x 5 0) (sym is) ∙ taken_is block_in

      pub last_sent : (n : ℕ) → ((rest : List ℕ) → length rest ≡ word_at 8 m → n ≡ block_of size rest) → get_or m 5 0 ≡ n → (w : List ℕ) → w ≡ 2 ∷ word (t1_left t1)
          → put_mid 0 5 m w ≡ out.put (data_sent t1 size (out.get m))
      last_sent n b q w r =
          ap (λ (x : List ℕ). put_mid 0 5 x w) (sym is)
          ∙ asks_now block_in (sym taken ∙ q ∙ b block_in.rest counted) w r
          ∙ ap (λ (o : Out). out.put (data_sent t1 size o)) (sym sending.1)

      pub more_to_send : (n : ℕ) → ((rest : List ℕ) → length rest ≡ word_at 8 m → n ≡ block_of size rest) → (get_or m 5 0 ≡ n → ⊥) → m ≡ out.put (data_sent t1 size (out.get m))
      more_to_send n b d =
          sym is
          ∙ sends_on block_in (λ x. d (taken ∙ x ∙ sym (b block_in.rest counted)))
          ∙ ap (λ (o : Out). out.put (data_sent t1 size o)) (sym sending.1)
