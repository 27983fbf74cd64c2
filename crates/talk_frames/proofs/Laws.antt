-- A place after a frame, by the frame's meaning; and what it tells. Assumes nothing.
use mathlib.Core.Path.{◌≡◌, refl, sym, ap, ap₂, ◌∙◌, subst}
use Prim.Native.Nat.{ℕ, zero, suc, ◌+◌, ◌≤◌}
use native.Mathlib.Omega.{arith}
use mathlib.Core.Option.{Option, some}
use mathlib.Core.List.{List, ◌++◌, append_assoc}
use lib.ListN.{length, get_or, take, drop, length-append, length-drop}
use lib.Seq.{drop_at, drop-drop, length-take-le}
use lib.Dec.{T, eqb}
use Rattle.codec.specs.Word.{word, word_at}
use Rattle.codec.specs.Code.{slot, get_slot, byte, word32, both, via, such, mark}
use Rattle.codec.proofs.Word.{word_part}
use Rattle.iso.specs.Limits.{in_first, in_next, most_payload}
use Rattle.iso.specs.Iso.{Talk, Heard, idle, refuses, becomes, turned, turned_slot, news_at, listening}
use Rattle.iso_layout.specs.Sizes.{pattern_in, flow_in, transfer_in, payload_in, talk_size}
use Rattle.iso_layout.specs.Region.{payload508, talk_cell}
use Rattle.iso_layout.proofs.Held.{ReceptionOk, TransferOk, talk_sound}
use Rattle.talk_head.specs.declared.Head.{Head}
use Rattle.talk_head.specs.Headed.{headed, remains, payload_on, payload_at, head_at, head_bytes, numbers, with_head, with_payload, settled}
use Rattle.talk_head.proofs.Bytes.{payload_short}
use Rattle.talk_head.proofs.Taken.{Taken, taken, stays, tells_headed}
use Rattle.talk_hearing.specs.declared.Means.{Means}
use Rattle.talk_hearing.specs.declared.Means.TheVariants.{Nothing, Single, Instead, Start, Refuse, Drop, More, Last, Flow}
use Rattle.talk_hearing.specs.Meaning.{meant, Conversing, Meant, Plain, Sized}
use Rattle.talk_hearing.proofs.ByKind.{receiving}
use Rattle.talk_telling.specs.declared.Told.{Told}
use Rattle.talk_telling.specs.Telling.{told, Readable}
use Rattle.talk_frames.specs.Hearing.{bare_head, Hears}

-- ---- a new head leaves the payload

module _ (h : Head) (t : List ℕ) (l : length t ≡ talk_size) where
  front_long : length (take transfer_in t ++ head_bytes h) ≡ payload_on
  unfolding head_bytes numbers word
  front_long = length-append (take transfer_in t) (head_bytes h) ∙ ap (λ (n : ℕ). n + payload_in) (length-take-le transfer_in t (omega arith))

  pub head_long : length (with_head h t) ≡ talk_size
  unfolding with_head
  head_long =
      ap length (sym (append_assoc (take transfer_in t) (head_bytes h) (drop payload_on t))) ∙ length-append (take transfer_in t ++ head_bytes h) (drop payload_on t)
      ∙ ap₂ (λ (i j : ℕ). i + j) front_long (length-drop payload_on t) ∙ omega arith

  pub payload_behind : drop payload_on (with_head h t) ≡ drop payload_on t
  unfolding with_head
  payload_behind = ap (λ (x : List ℕ). drop payload_on x) (sym (append_assoc (take transfer_in t) (head_bytes h) (drop payload_on t))) ∙ drop_at (take transfer_in t ++ head_bytes h) (drop payload_on t) payload_on front_long

  pub payload_stays : payload_at (with_head h t) ≡ payload_at t
  unfolding payload_at
  payload_stays = ap payload508.get payload_behind

  pub payload_readable : T (payload508.valid (drop payload_on t)) → T (payload508.valid (drop payload_on (with_head h t)))
  payload_readable v = subst (λ (x : List ℕ). T (payload508.valid x)) (sym payload_behind) v

-- seven bytes behind the payload, where the head is another
module _ (h : Head) (t b u : List ℕ) where
  pub room_after : Readable t → 1 + in_next ≤ length b → length (payload_at t) + in_next ≤ most_payload → u ≡ with_head h t
      → (length u ≡ talk_size) × T (payload508.valid (drop payload_on u)) × (length (payload_at u) + length (take in_next (drop 1 b)) ≤ most_payload)
  room_after f g room e =
      let seven : length (take in_next (drop 1 b)) ≡ in_next = length-take-le in_next (drop 1 b) (omega (arith, length-drop 1 b)) in
      let same : length (payload_at (with_head h t)) ≡ length (payload_at t) = ap length (payload_stays h t f.long) in
      let fits : length (payload_at (with_head h t)) + length (take in_next (drop 1 b)) ≤ most_payload = omega arith in
      (ap length e ∙ head_long h t f.long, subst (λ (x : List ℕ). T (payload508.valid (drop payload_on x))) (sym e) (payload_readable h t f.long f.payload), subst (λ (x : List ℕ). length (payload_at x) + length (take in_next (drop 1 b)) ≤ most_payload) (sym e) fits)

  pub more_is : (w : List ℕ) → Readable t → u ≡ with_head h t → w ≡ with_payload (payload_at u ++ take in_next (drop 1 b)) u → w ≡ with_payload (payload_at t ++ take in_next (drop 1 b)) (with_head h t)
  more_is w f e q =
      q ∙ ap (λ (x : List ℕ). with_payload (payload_at x ++ take in_next (drop 1 b)) x) e ∙ ap (λ (x : List ℕ). with_payload (x ++ take in_next (drop 1 b)) (with_head h t)) (payload_stays h t f.long)

-- ---- the place after a frame

module _ (m : Means) (t b : List ℕ) (l : length t ≡ talk_size) (flags : ℕ) (v : T ((slot (talk_cell flags)).valid t)) (n : get_or t 0 0 ≡ 0 → ⊥) (clock : ℕ) where
  abbrev k : Taken flags t
  k = taken flags t l v n

  abbrev After : List ℕ → Type 0
  After u = u ≡ (slot (talk_cell flags)).put (turned_slot (λ c. (meant m clock c (payload_at t) b).transfer) ((slot (talk_cell flags)).get t))

  -- by what the frame means
  by_meaning : (u : List ℕ) (m' : Means) → m ≡ m' → u ≡ (slot (talk_cell flags)).put (some (turned k.talk (meant m' clock k.talk (payload_at t) b).transfer)) → After u
  unfolding turned_slot
  by_meaning u m' e q =
      q ∙ ap (λ (x : Means). (slot (talk_cell flags)).put (turned_slot (λ c. (meant x clock c (payload_at t) b).transfer) (some k.talk))) (sym e)
      ∙ ap (λ (x : Option Talk). (slot (talk_cell flags)).put (turned_slot (λ c. (meant m clock c (payload_at t) b).transfer) x)) (sym k.is)

  -- it stays
  unturned : t ≡ (slot (talk_cell flags)).put (some (turned k.talk k.talk.transfer))
  unfolding turned
  unturned = stays flags t l v ∙ ap (slot (talk_cell flags)).put k.is

  pub after_nothing : m ≡ Nothing → After t
  unfolding meant becomes
  after_nothing e = by_meaning t Nothing e unturned

  pub after_single : (j : ℕ) → m ≡ Single j → After t
  unfolding meant becomes
  after_single j e = by_meaning t (Single j) e unturned

  -- it is idle, or refuses
  idles : (h : Head) → h ≡ bare_head 0 → settled h t ≡ (slot (talk_cell flags)).put (some (turned k.talk idle))
  unfolding remains
  idles h e = ap (λ (x : Head). settled x t) e ∙ k.settles (bare_head 0) idle refl

  refuses_so : (h : Head) → h ≡ bare_head 1 → settled h t ≡ (slot (talk_cell flags)).put (some (turned k.talk refuses))
  unfolding remains
  refuses_so h e = ap (λ (x : Head). settled x t) e ∙ k.settles (bare_head 1) refuses refl

  pub after_instead : (j : ℕ) → m ≡ Instead j → (h : Head) → h ≡ bare_head 0 → (u : List ℕ) → u ≡ settled h t → After u
  unfolding meant becomes
  after_instead j e h q u w = by_meaning u (Instead j) e (w ∙ idles h q)

  pub after_drop : m ≡ Drop → (h : Head) → h ≡ bare_head 0 → (u : List ℕ) → u ≡ settled h t → After u
  unfolding meant becomes
  after_drop e h q u w = by_meaning u Drop e (w ∙ idles h q)

  pub after_last : (j : ℕ) → m ≡ Last j → (h : Head) → h ≡ bare_head 0 → (u : List ℕ) → u ≡ settled h t → After u
  unfolding meant becomes
  after_last j e h q u w = by_meaning u (Last j) e (w ∙ idles h q)

  pub after_refuse : m ≡ Refuse → (h : Head) → h ≡ bare_head 1 → (u : List ℕ) → u ≡ settled h t → After u
  unfolding meant becomes
  after_refuse e h q u w = by_meaning u Refuse e (w ∙ refuses_so h q)

  -- it begins, goes on, or awaits something else
  pub after_start : (h : Head) → m ≡ Start h → Plain h → (u : List ℕ) → u ≡ with_payload (take in_first (drop 2 b)) (with_head h t) → After u
  unfolding meant becomes
  after_start h e p u w = by_meaning u (Start h) e (w ∙ k.becomes h (take in_first (drop 2 b)) (headed h (take in_first (drop 2 b))) (p (take in_first (drop 2 b))))

  pub after_more : (h : Head) → m ≡ More h → Plain h → (u : List ℕ) → u ≡ with_payload (payload_at t ++ take in_next (drop 1 b)) (with_head h t) → After u
  unfolding meant becomes
  after_more h e p u w =
      by_meaning u (More h) e (w ∙ k.becomes h (payload_at t ++ take in_next (drop 1 b)) (headed h (payload_at t ++ take in_next (drop 1 b))) (p (payload_at t ++ take in_next (drop 1 b))))

  pub after_flow : (h : Head) → m ≡ Flow h → Plain h → (u : List ℕ) → u ≡ with_head h t → After u
  unfolding meant becomes
  after_flow h e p u w = by_meaning u (Flow h) e (w ∙ k.heads h (headed h (payload_at t)) (p (payload_at t)))

-- ---- what is read of a place

module _ (flags : ℕ) (t : List ℕ) (l : length t ≡ talk_size) (v : T ((slot (talk_cell flags)).valid t)) (n : get_or t 0 0 ≡ 0 → ⊥) where
  abbrev place : Taken flags t
  place = taken flags t l v n

  is_headed : place.talk.transfer ≡ headed (head_at t) (payload_at t)
  is_headed = sym (tells_headed (head_at t) (payload_at t) place.talk.transfer place.tells)

  -- its payload is that of what it receives, and not all of it
  part_held : TransferOk place.talk.transfer → (head_at t).kind ≡ 2 → (length (payload_at t) ≤ (head_at t).n) × ((head_at t).n ≤ most_payload)
  part_held o e =
      let r : ReceptionOk (record { size = (head_at t).n; bytes = payload_at t; run = (head_at t).time; go_on = (head_at t).waits }) = subst TransferOk (is_headed ∙ receiving (head_at t) (payload_at t) e) o in
      let part = r.part in
      (omega arith, r.most)

  pub sized : (h : Head) (held : ℕ) → h ≡ head_at t → held ≡ length (payload_at t) → Sized h held
  sized h held eh el =
      let o : TransferOk place.talk.transfer = (talk_sound flags place.talk place.held).transfer_ok in
      let s : Sized (head_at t) (length (payload_at t)) = record { most = payload_short t l place.payload; part = λ e. (part_held o e).0; whole = λ e. (part_held o e).1 } in
      subst (λ (x : Head). Sized x held) (sym eh) (subst (λ (x : ℕ). Sized (head_at t) x) (sym el) s)

  -- its pattern and its flow
  talk_is : place.talk ≡ (talk_cell flags).get (drop 1 t)
  unfolding slot
  talk_is = go (get_or t 0 0) n place.is
    where
      go : (j : ℕ) → (j ≡ 0 → ⊥) → get_slot (talk_cell flags) j (drop 1 t) ≡ some place.talk → place.talk ≡ (talk_cell flags).get (drop 1 t)
      go zero f e = absurd (f refl)
      go (suc j) f e = let q : (talk_cell flags).get (drop 1 t) ≡ place.talk = cc e in sym q

  pattern_is : ((talk_cell flags).get (drop 1 t)).pattern ≡ word_at pattern_in t
  unfolding talk_cell such via both mark byte word32
  pattern_is = ap (λ (m : List ℕ). word_at 0 (take 4 m)) (drop-drop 1 1 t) ∙ word_part pattern_in t

  flow_is : ((talk_cell flags).get (drop 1 t)).flow ≡ word_at flow_in t
  unfolding talk_cell such via both mark byte word32
  flow_is = ap (λ (m : List ℕ). word_at 0 (take 4 (drop 4 m))) (drop-drop 1 1 t) ∙ ap (λ (m : List ℕ). word_at 0 (take 4 m)) (drop-drop 4 2 t) ∙ word_part flow_in t

  -- ---- it hears

  module _ (b : List ℕ) (m : Means) (h : Head) (held x y : ℕ) (eh : h ≡ head_at t) (el : held ≡ length (payload_at t)) (ex : x ≡ word_at pattern_in t) (ey : y ≡ word_at flow_in t)
      (f : Meant m h held (eqb x y) b (λ clock c. listening clock c b)) where
    conversing : Conversing place.talk h (payload_at t) held (eqb x y)
    conversing =
        record {
          transfer = is_headed ∙ ap (λ (z : Head). headed z (payload_at t)) (sym eh);
          holds = sym el;
          alike = ap₂ eqb (ap (λ (c : Talk). c.pattern) talk_is ∙ pattern_is ∙ sym ex) (ap (λ (c : Talk). c.flow) talk_is ∙ flow_is ∙ sym ey);
        }

    pub hears : (clock : ℕ) (u s : List ℕ) (r : Told)
        → u ≡ (slot (talk_cell flags)).put (turned_slot (λ c. (meant m clock c (payload_at t) b).transfer) ((slot (talk_cell flags)).get t))
        → ((clock : ℕ) (c : Talk) → (meant m clock c (payload_at t) b).records ≡ told r clock c s) → Hears clock b (slot (talk_cell flags)) t u r s
    unfolding turned_slot news_at
    hears clock u s r e tell =
        let is : listening clock place.talk b ≡ meant m clock place.talk (payload_at t) b = f clock place.talk (payload_at t) conversing in
        record {
          turns =
              e
              ∙ ap (λ (z : Option Talk). (slot (talk_cell flags)).put (turned_slot (λ c. (meant m clock c (payload_at t) b).transfer) z)) place.is
              ∙ ap (λ (z : Heard). (slot (talk_cell flags)).put (some (turned place.talk z.transfer))) (sym is)
              ∙ ap (λ (z : Option Talk). (slot (talk_cell flags)).put (turned_slot (λ c. (listening clock c b).transfer) z)) (sym place.is);
          tells =
              ap (news_at (λ c. (listening clock c b).records)) place.is
              ∙ ap (λ (z : Heard). z.records) is
              ∙ tell clock place.talk
              ∙ ap (news_at (λ c. told r clock c s)) (sym place.is);
        }
