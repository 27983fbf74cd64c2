-- A conversation's place that is taken: its head and its payload are those of its transfer, and with others it holds the conversation with another
-- transfer. A free place stays. Assumes nothing.
use Rattle.std.specs.Prelude.{if◌then◌else◌}
use mathlib.Core.Path.{◌≡◌, refl, sym, ap, ap₂, ◌∙◌, subst}
use Prim.Native.Nat.{ℕ, zero, suc, ◌+◌}
use native.Mathlib.Omega.{arith}
use mathlib.Core.Bool.{Bool, true, false}
use mathlib.Core.Option.{Option, none, some}
use mathlib.Core.List.{List, [], ◌∷◌, ◌++◌, append_assoc}
use lib.ListN.{length, get_or, take, drop, length-append, length-drop}
use lib.Seq.{take_at, drop_at, drop-drop, get_or-take, get_or-drop}
use lib.Dec.{T, eqb, ltb}
use Rattle.codec.specs.Word.{word, word_at}
use Rattle.codec.specs.Code.{byte, word32, both, via, such, mark, mark_of, slot, get_slot, valid_slot}
use Rattle.codec.proofs.Tests.{left, right}
use Rattle.codec.proofs.Word.{word_part, word_drop}
use Rattle.codec.proofs.Many.{slot_lawful}
use Rattle.iso.specs.Iso.{Transfer, Talk, turned, turned_slot}
use Rattle.iso_layout.specs.Sizes.{payload_in, transfer_in, talk_size}
use Rattle.iso_layout.specs.Region.{Transferred, transfer_parts, transfer_back, transfer_fits, transfer_plain, transfer_code, payload508, talk_cell}
use Rattle.iso_layout.proofs.Sizes.{slot_size}
use Rattle.iso_layout.proofs.Lawful.{transfer_back_law, kind_there, talk_lawful}
use Rattle.talk_head.specs.Headed.{head_parts, headed, Held, Tells, remains, payload_on, transfer_at, payload_at, head_at, numbers, head_bytes, with_head, with_payload, settled}
use Rattle.talk_head.specs.declared.Head.{Head}

-- ---- a transfer of which is told, and one that can be held

pub held_tells : (h : Head) (b : List ℕ) → Held h b → Tells h b (headed h b)
unfolding headed transfer_fits
held_tells h b t = kind_there h.kind h.n h.time h.left h.gap h.waits b t

-- a transfer is told of by one head and payload alone
pub tells_headed : (h : Head) (b : List ℕ) (x : Transfer) → Tells h b x → headed h b ≡ x
unfolding headed
tells_headed h b x e = sym (ap transfer_back e) ∙ transfer_back_law x

-- what holds of the head and the payload of a transfer's parts holds of any that tell of it
abbrev pub head_of : Transferred → Head
head_of p = record { kind = p.0; n = p.1.0; time = p.1.1.0; left = p.1.1.1.0; gap = p.1.1.1.1.0; waits = p.1.1.1.1.1.0 }

abbrev pub bytes_of : Transferred → List ℕ
bytes_of p = p.1.1.1.1.1.1

pub told : (P : Head → List ℕ → Type 0) (x : Transfer) → P (head_of (transfer_parts x)) (bytes_of (transfer_parts x)) → (h : Head) (b : List ℕ) → Tells h b x → P h b
told P x q h b e = subst (λ p. P (head_of p) (bytes_of p)) e q

-- ---- the bytes of a taken place

-- what stands in front of the transfer
abbrev names : Talk → List ℕ
names c = 1 ∷ mark_of c.wide ∷ (word c.pattern ++ word c.flow)

names_long : (c : Talk) → length (names c) ≡ transfer_in
unfolding word
names_long c = refl

head_long : (h : Head) → length (head_bytes h) ≡ payload_in
unfolding head_bytes numbers word
head_long h = refl

abbrev lay : Talk → Head → List ℕ → List ℕ
lay c h b = names c ++ (head_bytes h ++ payload508.put b)

plain_put : (h : Head) (b : List ℕ) → transfer_plain.put (head_parts h b) ≡ head_bytes h ++ payload508.put b
unfolding transfer_plain both byte word32 mark via such head_bytes numbers word
plain_put h b = refl

pub told_put : (flags : ℕ) (c : Talk) (h : Head) (b : List ℕ) → Tells h b c.transfer → (slot (talk_cell flags)).put (some c) ≡ lay c h b
unfolding slot talk_cell transfer_code such via both mark byte word32 word
told_put flags c h b e = ap (λ p. names c ++ transfer_plain.put p) e ∙ ap (λ (m : List ℕ). names c ++ m) (plain_put h b)

lay_head : (c : Talk) (h h' : Head) (b : List ℕ) → with_head h' (lay c h b) ≡ lay c h' b
unfolding with_head
lay_head c h h' b =
    ap₂ (λ (x y : List ℕ). x ++ (head_bytes h' ++ y)) (take_at (names c) _ transfer_in (names_long c))
    (sym (drop-drop payload_in transfer_in (lay c h b)) ∙ ap (λ (x : List ℕ). drop payload_in x) (drop_at (names c) _ transfer_in (names_long c)) ∙ drop_at (head_bytes h) _ payload_in (head_long h))

lay_payload : (c : Talk) (h : Head) (b b' : List ℕ) → with_payload b' (lay c h b) ≡ lay c h b'
unfolding with_payload
lay_payload c h b b' =
    let front : length (names c ++ head_bytes h) ≡ payload_on = length-append (names c) (head_bytes h) ∙ ap₂ (λ (x y : ℕ). x + y) (names_long c) (head_long h) in
    ap (λ (x : List ℕ). take payload_on x ++ payload508.put b') (sym (append_assoc (names c) (head_bytes h) (payload508.put b)))
    ∙ ap (λ (x : List ℕ). x ++ payload508.put b') (take_at (names c ++ head_bytes h) (payload508.put b) payload_on front)
    ∙ append_assoc (names c) (head_bytes h) (payload508.put b')

-- ---- what is read of it

module _ (t : List ℕ) where
  number : (k : ℕ) (x : List ℕ) → x ≡ drop k t → word_at 0 (take 4 x) ≡ word_at k t
  number k x e = ap (λ (y : List ℕ). word_at 0 (take 4 y)) e ∙ word_part k t

  one : (k : ℕ) (x : List ℕ) → x ≡ drop k t → get_or (take 1 x) 0 0 ≡ get_or t k 0
  one k x e =
      let z : k + 0 ≡ k = omega arith in
      get_or-take 1 x 0 0 (omega arith) ∙ ap (λ (y : List ℕ). get_or y 0 0) e ∙ get_or-drop k t 0 0 ∙ ap (λ (j : ℕ). get_or t j 0) z

  d11 : drop 1 (drop 10 t) ≡ drop 11 t
  d11 = drop-drop 1 10 t

  d15 : drop 4 (drop 1 (drop 10 t)) ≡ drop 15 t
  d15 = ap (λ (x : List ℕ). drop 4 x) d11 ∙ drop-drop 4 11 t

  d19 : drop 4 (drop 4 (drop 1 (drop 10 t))) ≡ drop 19 t
  d19 = ap (λ (x : List ℕ). drop 4 x) d15 ∙ drop-drop 4 15 t

  d23 : drop 4 (drop 4 (drop 4 (drop 1 (drop 10 t)))) ≡ drop 23 t
  d23 = ap (λ (x : List ℕ). drop 4 x) d19 ∙ drop-drop 4 19 t

  d27 : drop 4 (drop 4 (drop 4 (drop 4 (drop 1 (drop 10 t))))) ≡ drop 27 t
  d27 = ap (λ (x : List ℕ). drop 4 x) d23 ∙ drop-drop 4 23 t

  d28 : drop 1 (drop 4 (drop 4 (drop 4 (drop 4 (drop 1 (drop 10 t)))))) ≡ drop 28 t
  d28 = ap (λ (x : List ℕ). drop 1 x) d27 ∙ drop-drop 1 27 t

  got_parts : transfer_plain.get (drop transfer_in t) ≡ head_parts (head_at t) (payload_at t)
  unfolding transfer_plain both byte word32 mark via such head_at payload_at
  got_parts =
      λ i. (
        one 10 _ refl i,
        (number 11 _ d11 i, (number 15 _ d15 i, (number 19 _ d19 i, (number 23 _ d23 i, (eqb 1 (one 27 _ d27 i), payload508.get (d28 i)))))),
      )

  -- the head and the payload that are read are the transfer that stands there
  pub read_is : headed (head_at t) (payload_at t) ≡ transfer_at t
  unfolding headed transfer_at transfer_code via such
  read_is = sym (ap transfer_back got_parts)

-- ---- a taken place

pub record Taken (flags : ℕ) (t : List ℕ) : Type 0 where
  pub talk : Talk
  pub is : (slot (talk_cell flags)).get t ≡ some talk
  pub held : T ((talk_cell flags).ok talk)
  pub tells : Tells (head_at t) (payload_at t) talk.transfer
  pub fits : Held (head_at t) (payload_at t)
  pub payload : T (payload508.valid (drop payload_on t))
  -- another head; and another payload; a head that leaves what remains of the payload
  pub heads : (h : Head) (x : Transfer) → Tells h (payload_at t) x → with_head h t ≡ (slot (talk_cell flags)).put (some (turned talk x))
  pub becomes : (h : Head) (b : List ℕ) (x : Transfer) → Tells h b x → with_payload b (with_head h t) ≡ (slot (talk_cell flags)).put (some (turned talk x))
  pub settles : (h : Head) (x : Transfer) → Tells h (remains h (payload_at t)) x → settled h t ≡ (slot (talk_cell flags)).put (some (turned talk x))

module _ (flags : ℕ) (t : List ℕ) (l : length t ≡ talk_size) (v : T ((slot (talk_cell flags)).valid t)) where
  -- a place that is left as it is
  pub stays : t ≡ (slot (talk_cell flags)).put ((slot (talk_cell flags)).get t)
  stays = sym ((slot_lawful (talk_lawful flags)).put_get t (l ∙ sym (slot_size flags)) v)

  pub vacant : get_or t 0 0 ≡ 0 → (slot (talk_cell flags)).get t ≡ none
  unfolding slot
  vacant e = ap (λ (k : ℕ). get_slot (talk_cell flags) k (drop 1 t)) e

  module _ (n : get_or t 0 0 ≡ 0 → ⊥) where
    marked : (k : ℕ) → get_or t 0 0 ≡ k → T (valid_slot (talk_cell flags) k (drop 1 t)) → (get_or t 0 0 ≡ 1) × T ((talk_cell flags).valid (drop 1 t))
    marked zero e u = absurd (n e)
    marked (suc zero) e u = (e, u)
    marked (suc (suc k)) e u = absurd u

    on : (get_or t 0 0 ≡ 1) × T ((talk_cell flags).valid (drop 1 t))
    unfolding slot
    on = marked (get_or t 0 0) refl v

    abbrev c : Talk
    c = (talk_cell flags).get (drop 1 t)

    is_some : (slot (talk_cell flags)).get t ≡ some c
    unfolding slot
    is_some = ap (λ (k : ℕ). get_slot (talk_cell flags) k (drop 1 t)) on.0

    d10 : drop 4 (drop 4 (drop 1 (drop 1 t))) ≡ drop 10 t
    d10 =
        ap (λ (x : List ℕ). drop 4 (drop 4 x)) (drop-drop 1 1 t) ∙ ap (λ (x : List ℕ). drop 4 x) (drop-drop 4 2 t) ∙ drop-drop 4 6 t

    transfer_is : c.transfer ≡ transfer_at t
    unfolding talk_cell such via both mark byte word32 transfer_at
    transfer_is = ap transfer_code.get d10

    transfer_valid : T (transfer_code.valid (drop 10 t))
    unfolding talk_cell such via both mark byte word32
    transfer_valid = let u : T ((talk_cell flags).valid (drop 1 t)) = on.1 in subst (λ (x : List ℕ). T (transfer_code.valid x)) d10 (search (left, right) depth 8)

    fits_there : T (transfer_fits (transfer_plain.get (drop 10 t)))
    unfolding transfer_code such via
    fits_there = right (transfer_plain.valid (drop 10 t)) _ transfer_valid

    payload_valid : T (payload508.valid (drop payload_on t))
    unfolding transfer_code transfer_plain such via both mark byte word32
    payload_valid = let u : T (transfer_code.valid (drop 10 t)) = transfer_valid in subst (λ (x : List ℕ). T (payload508.valid x)) (d28 t) (search (left, right) depth 10)

    is_held : Held (head_at t) (payload_at t)
    is_held = subst (λ p. T (transfer_fits p)) (got_parts t) fits_there

    tells_it : Tells (head_at t) (payload_at t) c.transfer
    tells_it = ap transfer_parts (transfer_is ∙ sym (read_is t)) ∙ held_tells (head_at t) (payload_at t) is_held

    laid : t ≡ lay c (head_at t) (payload_at t)
    laid = stays ∙ ap (slot (talk_cell flags)).put is_some ∙ told_put flags c (head_at t) (payload_at t) tells_it

    put_turned : (h : Head) (b : List ℕ) (x : Transfer) → Tells h b x → lay c h b ≡ (slot (talk_cell flags)).put (some (turned c x))
    unfolding turned
    put_turned h b x e = sym (told_put flags (turned c x) h b e)

    with_head_law : (h : Head) → with_head h t ≡ lay c h (payload_at t)
    with_head_law h = ap (with_head h) laid ∙ lay_head c (head_at t) h (payload_at t)

    with_both : (h : Head) (b : List ℕ) → with_payload b (with_head h t) ≡ lay c h b
    with_both h b = ap (with_payload b) (with_head_law h) ∙ lay_payload c h (payload_at t) b

    is_settled : (h : Head) → settled h t ≡ lay c h (remains h (payload_at t))
    unfolding settled remains
    is_settled h = go (ltb h.kind 2)
      where
        go : (bare : Bool) → (if bare then with_payload [] (with_head h t) else with_head h t) ≡ lay c h (if bare then [] else payload_at t)
        go true = with_both h []
        go false = with_head_law h

    rest_long : length (drop 1 t) ≡ (talk_cell flags).size
    unfolding slot
    rest_long = let s : 1 + (talk_cell flags).size ≡ talk_size = slot_size flags in length-drop 1 t ∙ omega arith

    pub taken : Taken flags t
    taken =
        record {
          talk = c;
          is = is_some;
          held = (talk_lawful flags).ok_get (drop 1 t) rest_long on.1;
          tells = tells_it;
          fits = is_held;
          payload = payload_valid;
          heads = λ h x e. with_head_law h ∙ put_turned h (payload_at t) x e;
          becomes = λ h b x e. with_both h b ∙ put_turned h b x e;
          settles = λ h x e. is_settled h ∙ put_turned h (remains h (payload_at t)) x e;
        }

-- ---- a conversation turned: a free place stays, one whose transfer stays does so too, another has its new head and what remains of its payload

module _ (flags : ℕ) (t : List ℕ) (l : length t ≡ talk_size) (v : T ((slot (talk_cell flags)).valid t)) (f : Talk → Transfer) where
  abbrev turning : List ℕ
  turning = (slot (talk_cell flags)).put (turned_slot f ((slot (talk_cell flags)).get t))

  pub free_turns : get_or t 0 0 ≡ 0 → t ≡ turning
  unfolding turned_slot
  free_turns e =
      let g : (slot (talk_cell flags)).get t ≡ none = vacant flags t l v e in
      stays flags t l v ∙ ap (slot (talk_cell flags)).put (g ∙ sym (ap (turned_slot f) g))

  module _ (p : Taken flags t) where
    turning_is : (x : Transfer) → f p.talk ≡ x → (slot (talk_cell flags)).put (some (turned p.talk x)) ≡ turning
    unfolding turned_slot
    turning_is x e = ap (λ y. (slot (talk_cell flags)).put (some (turned p.talk y))) (sym e) ∙ ap (λ y. (slot (talk_cell flags)).put (turned_slot f y)) (sym p.is)

    pub same_turns : f p.talk ≡ p.talk.transfer → t ≡ turning
    unfolding turned
    same_turns e = stays flags t l v ∙ ap (slot (talk_cell flags)).put p.is ∙ turning_is p.talk.transfer e

    pub settled_turns : (h : Head) → Tells h (remains h (payload_at t)) (f p.talk) → settled h t ≡ turning
    settled_turns h e = p.settles h (f p.talk) e ∙ turning_is (f p.talk) refl

    pub both_turn : (h : Head) (b : List ℕ) → Tells h b (f p.talk) → with_payload b (with_head h t) ≡ turning
    both_turn h b e = p.becomes h b (f p.talk) e ∙ turning_is (f p.talk) refl
