-- What a transmission gives, a conversation hears: the frames of a message of 8 to 508 bytes, one after the other, give the partner that message back.
-- Assumes nothing.
use Rattle.std.specs.Prelude.{if◌then◌else◌}
use Prim.Native.Nat.{ℕ, zero, suc, ◌+◌, ◌*◌, ◌-◌, ◌/◌, ◌%◌, ◌≤◌, ◌<◌, min}
use mathlib.Core.Path.{◌≡◌, refl, sym, ap, ◌∙◌}
use mathlib.Core.Bool.{Bool, true, false}
use mathlib.Core.Option.{Option, none, some}
use mathlib.Core.List.{List, [], ◌∷◌, ◌++◌, map}
use native.Mathlib.Omega.{arith}
use borrow.Author.Tests.{ltb-false, eq-eqb, ne_eqb, lt-ltb, le-ltb, le-leb, lt-leb}
use lib.ListN.{length, take, drop, length-take, length-drop, take-append-drop}
use lib.Seq.{take-add, take_all, take-take, length-take-le}
use lib.Dec.{eqb, leb, ltb}
use Rattle.machine.specs.Message.{id_bytes, Rec}
use Rattle.iso.specs.Limits.{most_payload, least_segmented, in_first, in_next}
use Rattle.iso.specs.Iso.{Transfer, idle, receives, Talk, turned, number_after, rx_start, arrived, Heard, becomes, low, on_first, on_next, on_consecutive, transmitting, listening, Transmission, framed, first_frame, next_frame, transmits, sends, Given, gives, next_of, segment_of, staged, sent_stage, sent_of, whole_of, done_of}

-- the data of a message's frames: the first, and the one after n bytes; k of them
abbrev pub first_data : List ℕ → List ℕ
first_data p = (0x10 + length p / 256) ∷ length p % 256 ∷ take in_first p

abbrev pub next_data : ℕ → List ℕ → List ℕ
next_data n p = (0x20 + number_after n) ∷ take in_next (drop n p)

abbrev pub rest_data : ℕ → ℕ → List ℕ → List (List ℕ)
rest_data zero n p = []
rest_data (suc k) n p = next_data n p ∷ rest_data k (n + in_next) p

-- a conversation after frames, and the records that they tell
abbrev pub heard_all : ℕ → Talk → List (List ℕ) → Talk × List Rec
heard_all now d [] = (d, [])
heard_all now d (b ∷ bs) = (
  (heard_all now (turned d (listening now d b).transfer) bs).0,
  (listening now d b).records ++ (heard_all now (turned d (listening now d b).transfer) bs).1,
)

-- a reception of p with n bytes so far
abbrev pub received_so_far : List ℕ → ℕ → Bool → Transfer
received_so_far p n go_on = receives (record { size = length p; bytes = take n p; run = 0; go_on = go_on })

small_number : (n : ℕ) → number_after n < 16
unfolding number_after
small_number n = omega arith

-- a reception hears the frame after its n bytes
next_heard : (now : ℕ) (p : List ℕ) (d : Talk) (n : ℕ) (go_on : Bool) → n < length p
    → on_next now d (record { size = length p; bytes = take n p; run = 0; go_on = go_on }) (next_data n p)
    ≡ (if ltb in_next (length p - n) then becomes (received_so_far p (n + in_next) go_on) [] else becomes idle (arrived now d p))
unfolding on_next low
next_heard now p d n go_on below =
    let m : ℕ = length p - n in
    let have : length (take n p) ≡ n = length-take-le n p (omega arith) in
    let brought : length (take in_next (drop n p)) ≡ min in_next m = length-take in_next (drop n p) ∙ ap (min in_next) (length-drop n p) in
    let small : number_after n < 16 = small_number n in
    let enough : leb (suc (length (take in_next (drop n p)))) (min in_next m) ≡ false = lt-leb (suc (length (take in_next (drop n p)))) (min in_next m) (omega arith) in
    let digit : (0x20 + number_after n) % 16 ≡ number_after n = omega arith in
    let right_one : eqb (number_after n) (number_after n) ≡ true = eq-eqb (number_after n) (number_after n) refl in
    rw (have, enough, digit, right_one)
    (either (ltb in_next m) refl)
  where
    either : (g : Bool) → ltb in_next (length p - n) ≡ g
        → (if g then becomes (receives (record { size = length p; bytes = take n p ++ take in_next (take in_next (drop n p)); run = 0; go_on = go_on })) []
        else becomes idle (arrived now d (take n p ++ take (length p - n) (take in_next (drop n p)))))
        ≡ (if g then becomes (received_so_far p (n + in_next) go_on) [] else becomes idle (arrived now d p))
    either true q =
        ap (λ (b : List ℕ). becomes (receives (record { size = length p; bytes = b; run = 0; go_on = go_on })) [])
        (ap (λ (b : List ℕ). take n p ++ b) (take-take in_next in_next (drop n p) (omega arith)) ∙ sym (take-add n in_next p))
    either false q =
        let few : length p - n ≤ in_next = ltb-false in_next (length p - n) q in
        let l = length-drop n p in
        ap (λ (b : List ℕ). becomes idle (arrived now d b))
        (ap (λ (b : List ℕ). take n p ++ b) (take-take (length p - n) in_next (drop n p) few ∙ take_all (length p - n) (drop n p) (omega arith)) ∙ take-append-drop n p)

module _ (now : ℕ) (p : List ℕ) (least : least_segmented ≤ length p) (most : length p ≤ most_payload) where
  -- A FIRST FRAME starts the reception of its message
  pub first_carried : (d : Talk) → eqb d.pattern d.flow ≡ false → transmitting d.transfer ≡ false → listening now d (first_data p) ≡ becomes (received_so_far p in_first true) (rx_start now d)
  unfolding listening on_first low becomes
  first_carried d apart quiet =
      let n : ℕ = length p in
      let six : length (take in_first p) ≡ in_first = length-take-le in_first p (omega arith) in
      let kind3 : eqb ((0x10 + n / 256) / 16) 3 ≡ false = ne_eqb ((0x10 + n / 256) / 16) 3 (λ q. omega arith) in
      let kind0 : eqb ((0x10 + n / 256) / 16) 0 ≡ false = ne_eqb ((0x10 + n / 256) / 16) 0 (λ q. omega arith) in
      let kind1 : eqb ((0x10 + n / 256) / 16) 1 ≡ true = eq-eqb ((0x10 + n / 256) / 16) 1 (omega arith) in
      let size : (0x10 + n / 256) % 16 * 256 + n % 256 ≡ n = omega arith in
      let full : ltb (suc (suc (length (take in_first p)))) 8 ≡ false = le-ltb (suc (suc (length (take in_first p)))) 8 (omega arith) in
      let not_less : ltb n least_segmented ≡ false = le-ltb n least_segmented least in
      let fits : leb n most_payload ≡ true = le-leb n most_payload most in
      rw (kind3, quiet, kind0, kind1, size, apart, full, not_less, fits)
      (ap (λ (b : List ℕ). becomes (receives (record { size = n; bytes = b; run = 0; go_on = true })) (rx_start now d)) (take-take in_first in_first p (omega arith)))

  -- A CONSECUTIVE FRAME, to a reception that has the n bytes before it: the seven after them, or the message where they are the last
  pub next_carried : (d : Talk) (n : ℕ) (go_on : Bool) → d.transfer ≡ received_so_far p n go_on → n < length p
      → listening now d (next_data n p)
      ≡ (if ltb in_next (length p - n) then becomes (received_so_far p (n + in_next) go_on) [] else becomes idle (arrived now d p))
  unfolding listening on_consecutive transmitting on_next arrived
  next_carried d n go_on e below =
      let k : ℕ = number_after n in
      let small : k < 16 = small_number n in
      let kind3 : eqb ((0x20 + k) / 16) 3 ≡ false = ne_eqb ((0x20 + k) / 16) 3 (λ q. omega arith) in
      let kind0 : eqb ((0x20 + k) / 16) 0 ≡ false = ne_eqb ((0x20 + k) / 16) 0 (λ q. omega arith) in
      let kind1 : eqb ((0x20 + k) / 16) 1 ≡ false = ne_eqb ((0x20 + k) / 16) 1 (λ q. omega arith) in
      let kind2 : eqb ((0x20 + k) / 16) 2 ≡ true = eq-eqb ((0x20 + k) / 16) 2 (omega arith) in
      rw (kind3, e, kind0, kind1, kind2) (next_heard now p d n go_on below)

  rest_carried : (k n : ℕ) (go_on : Bool) (d : Talk) → d.transfer ≡ received_so_far p n go_on → n + in_next * k < length p → length p ≤ n + in_next * suc k
      → heard_all now d (rest_data (suc k) n p) ≡ (turned d idle, arrived now d p)
  unfolding becomes turned arrived
  rest_carried zero n go_on d e low high =
      let last : ltb in_next (length p - n) ≡ false = le-ltb in_next (length p - n) (omega arith) in
      let h : listening now d (next_data n p) ≡ becomes idle (arrived now d p) = next_carried d n go_on e (omega arith) ∙ rw last in
      ap (λ (x : Heard). (turned d x.transfer, x.records ++ [])) h
  rest_carried (suc k) n go_on d e low high =
      let more : ltb in_next (length p - n) ≡ true = lt-ltb in_next (length p - n) (omega arith) in
      let h : listening now d (next_data n p) ≡ becomes (received_so_far p (n + in_next) go_on) [] = next_carried d n go_on e (omega arith) ∙ rw more in
      let rest : Transfer → Talk × List Rec = λ x. heard_all now (turned d x) (rest_data (suc k) (n + in_next) p) in
      let one : heard_all now d (rest_data (suc (suc k)) n p) ≡ rest (received_so_far p (n + in_next) go_on) =
      ap (λ (x : Heard). ((rest x.transfer).0, x.records ++ (rest x.transfer).1)) h
      in
      one ∙ rest_carried k (n + in_next) go_on (turned d (received_so_far p (n + in_next) go_on)) refl (omega arith) (omega arith)

  -- A MESSAGE IS CARRIED: its first frame and its k + 1 consecutive frames, heard by a conversation that does not transmit, tell RxStart, then it
  pub carried : (d : Talk) → eqb d.pattern d.flow ≡ false → transmitting d.transfer ≡ false → (k : ℕ) → in_first + in_next * k < length p → length p ≤ in_first + in_next * suc k
      → heard_all now d (first_data p ∷ rest_data (suc k) in_first p) ≡ (turned d idle, rx_start now d ++ arrived now d p)
  unfolding becomes turned arrived
  carried d apart quiet k low high =
      let rest : Transfer → Talk × List Rec = λ x. heard_all now (turned d x) (rest_data (suc k) in_first p) in
      ap (λ (x : Heard). ((rest x.transfer).0, x.records ++ (rest x.transfer).1)) (first_carried d apart quiet)
      ∙ ap (λ (x : Talk × List Rec). (x.0, rx_start now d ++ x.1)) (rest_carried k in_first true (turned d (received_so_far p in_first true)) refl low high)

-- ---- the sending side

-- the frames of takes that are each followed by a sent; the transfer that is left, and the messages that are whole
pub record Sent : Type 0 where
  pub frames : List Rec
  pub rest : Transfer
  pub messages : List Rec

abbrev after_take : (Transfer → Sent) → Talk → Transfer → Option Given → Sent
after_take more c x none = record { frames = []; rest = x; messages = [] }
after_take more c x (some g) =
    let m : Sent = more (sent_of g.transfer) in
    record { frames = g.frame ∷ m.frames; rest = m.rest; messages = done_of c g.transfer ++ m.messages }

-- n of them, of the conversation at a place
abbrev pub sent_all : ℕ → ℕ → Talk → Transfer → Sent
sent_all zero place c x = record { frames = []; rest = x; messages = [] }
sent_all (suc n) place c x = after_take (sent_all n place c) c x (segment_of place c x)

-- a transmission of p of which n bytes were taken, after a go-on without block size and STmin
abbrev pub taken_so_far : List ℕ → ℕ → Transfer
taken_so_far p n = transmits (record { payload = p; taken = n; stage = sends 0 0 0 })

-- A MESSAGE IS SENT: its consecutive frames in order, whatever its length; the message is whole at the sent of the last, and not before
pub all_sent : (p : List ℕ) (place : ℕ) (c : Talk) (k n : ℕ) → n + in_next * k < length p → length p ≤ n + in_next * suc k
    → sent_all (suc k) place c (taken_so_far p n)
    ≡ record { frames = map (framed c.wide c.flow) (rest_data (suc k) n p); rest = idle; messages = framed c.wide c.flow p ∷ [] }
unfolding segment_of next_of gives next_frame sent_of sent_stage staged done_of whole_of
all_sent p place c zero n low high = rw (le-leb (length p) (n + in_next) (omega arith)) refl
all_sent p place c (suc k) n low high =
    let more : leb (length p) (n + in_next) ≡ false = lt-leb (length p) (n + in_next) (omega arith) in
    rw more
    (ap (λ (s : Sent). record { frames = framed c.wide c.flow (next_data n p) ∷ s.frames; rest = s.rest; messages = s.messages })
    (all_sent p place c k (n + in_next) (omega arith) (omega arith)))

-- those are the data that a transmission's frames carry behind its flow identifier
pub first_is : (c : Talk) (p : List ℕ) → (first_frame c p).bytes ≡ id_bytes c.flow ++ first_data p
unfolding first_frame framed
first_is c p = refl

pub next_is : (c : Talk) (t : Transmission) → (next_frame c t).bytes ≡ id_bytes c.flow ++ next_data t.taken t.payload
unfolding next_frame framed
next_is c t = refl
