-- The region of an ISO 15765 channel is a lawful code: what is put is got back, and valid bytes are what is put of what is got. Assumes nothing.
use mathlib.Core.Path.{◌≡◌, refl, sym, ap, ◌∙◌}
use Prim.Native.Nat.{ℕ, zero, suc, ◌+◌, ◌-◌, ◌≤◌}
use native.Mathlib.Omega.{arith}
use mathlib.Core.Bool.{Bool, true, false, not}
use mathlib.Core.Option.{Option, none, some}
use mathlib.Core.List.{List, [], ◌∷◌, ◌++◌, append_assoc}
use lib.ListN.{length, take, drop, length-drop, take-append-drop}
use lib.Seq.{take_at, length-take-le}
use lib.Dec.{T, eqb, leb, eqb→eq, leb→le}
use Rattle.codec.specs.Plain.{within, zeros, all_zero}
use Rattle.codec.specs.Code.{Code, byte, word32, both, both_on, via, such, many, slot, up_to}
use Rattle.codec.proofs.Tests.{left, right}
use Rattle.codec.proofs.Lists.{zeros_of}
use Rattle.codec.proofs.Lawful.{Lawful, byte_lawful, word_lawful, both_lawful, both_on_lawful, via_lawful, such_lawful, mark_lawful, such_test, such_under, both_second}
use Rattle.codec.proofs.Many.{many_lawful, many_count, slot_lawful, up_to_lawful}
use Rattle.machine.specs.Message.{Rec}
use Rattle.iso.specs.Limits.{iso_protocol, most_talks, most_messages, most_heard, iso_data, most_payload}
use Rattle.iso.specs.Iso.{Stage, opens, awaits, flies, sends, Transfer, idle, refuses, receives, transmits, Owner, nobody, message, transfer_at, OpenIso, Iso, shut, ready, extra_of, padded, shown_iso}
use Rattle.layout.specs.Memory.{config}
use Rattle.iso_layout.specs.Region.{IsoParts, indication, extra_is, iso_parts, iso_back, iso_fits, rec536, message_cell, frame_cell, heard_cell, payload_parts, payload_back, payload_fits, payload508, Transferred, transferred, stage_parts, transfer_parts, transmits_at, transfer_on, transfer_back, kind_fits, transfer_fits, transfer_plain, transfer_code, talk_parts, talk_back, talk_fits, talk_cell, talks_code, owner_parts, owner_back, flight_parts, flight_back, owned_fits, flight_code, heard_parts, heard_back, heard_part, iso_last_part, ready_parts, ready_back, iso_rest, linked, ready_part, iso_chan_parts, iso_chan_back, iso_region}
use Rattle.layout.proofs.Memory.{config_lawful, bytes_put}

-- ---- bytes with zeros after them

pad_there : (n k : ℕ) (b : List ℕ) → n ≤ k → length b ≡ k → T (all_zero (drop n b)) → take n b ++ zeros (k - length (take n b)) ≡ b
pad_there n k b h l z =
    let p : length (take n b) ≡ n = length-take-le n b (omega arith) in
    let q : k - length (take n b) ≡ length (drop n b) = omega (arith, length-drop n b) in
    ap (λ (j : ℕ). take n b ++ zeros j) q ∙ ap (λ (r : List ℕ). take n b ++ r) (zeros_of (drop n b) z) ∙ take-append-drop n b

-- ---- a record of 536 bytes

abbrev iso_plain : Code IsoParts
iso_plain = both word32 (both word32 (both word32 (both word32 (both word32 (both word32 (many iso_data byte))))))

iso_back_law : (r : Rec) → iso_back (iso_parts r) ≡ r
unfolding iso_back iso_parts padded
iso_back_law r = λ i. record { rx = r.rx; tx = r.tx; time = r.time; bytes = take_at r.bytes (zeros (iso_data - length r.bytes)) (length r.bytes) refl i }

iso_there : (p : IsoParts) → T ((such iso_fits iso_plain).ok p) → iso_parts (iso_back p) ≡ p
unfolding iso_parts iso_back iso_fits padded within such
iso_there p t =
    let n : ℕ = p.1.1.1.1.0 in
    let x : ℕ = p.1.1.1.1.1.0 in
    let b : List ℕ = p.1.1.1.1.1.1 in
    let protocol : T (eqb p.0 iso_protocol) = search (left, right) depth 8 in
    let most : T (leb n iso_data) = search (left, right) depth 8 in
    let extra : T (eqb x (extra_is p.1.0 n)) = search (left, right) depth 8 in
    let ends : T (all_zero (drop n b)) = search (left, right) depth 8 in
    let plain : T (iso_plain.ok p) = such_under iso_plain iso_fits p t in
    let c6 = both_second word32 _ p plain in
    let c5 = both_second word32 _ p.1 c6 in
    let c4 = both_second word32 _ p.1.1 c5 in
    let c3 = both_second word32 _ p.1.1.1 c4 in
    let c2 = both_second word32 _ p.1.1.1.1 c3 in
    let c1 = both_second word32 (many iso_data byte) p.1.1.1.1.1 c2 in
    let long : length b ≡ iso_data = many_count iso_data byte b c1 in
    let hi : n ≤ iso_data = leb→le n iso_data most in
    let m : length (take n b) ≡ n = length-take-le n b (omega arith) in
    λ i. (
      sym (eqb→eq p.0 iso_protocol protocol) i,
      (p.1.0, (p.1.1.0, (p.1.1.1.0, (m i, ((ap (extra_is p.1.0) m ∙ sym (eqb→eq x (extra_is p.1.0 n) extra)) i, pad_there n iso_data b hi long ends i))))),
    )

pub rec536_lawful : Lawful rec536
unfolding rec536
rec536_lawful =
    via_lawful iso_parts iso_back (λ r t. iso_back_law r) iso_there
    (such_lawful iso_fits
    (both_lawful word_lawful (both_lawful word_lawful (both_lawful word_lawful (both_lawful word_lawful (both_lawful word_lawful (both_lawful word_lawful (many_lawful byte_lawful iso_data))))))))

pub message_lawful : (flags : ℕ) → Lawful (message_cell flags)
unfolding message_cell
message_lawful flags = such_lawful _ rec536_lawful

pub frame_lawful : (flags : ℕ) → Lawful (frame_cell flags)
unfolding frame_cell
frame_lawful flags = such_lawful _ rec536_lawful

pub heard_lawful : (flags : ℕ) → Lawful (heard_cell flags)
unfolding heard_cell
heard_lawful flags = such_lawful _ rec536_lawful

-- the 536 bytes that the machine gives out are those that the memory holds
pub shown_iso_is : (r : Rec) → shown_iso r ≡ rec536.put r
unfolding shown_iso rec536 via such both many word32 iso_parts extra_of extra_is indication
shown_iso_is r = rw (bytes_put (padded r.bytes)) (simp append_assoc)

-- ---- a payload

payload_back_law : (b : List ℕ) → payload_back (payload_parts b) ≡ b
unfolding payload_back payload_parts
payload_back_law b = take_at b (zeros (most_payload - length b)) (length b) refl

payload_there : (p : ℕ × List ℕ) → T ((such payload_fits (both word32 (many most_payload byte))).ok p) → payload_parts (payload_back p) ≡ p
unfolding payload_parts payload_back payload_fits such
payload_there p t =
    let most : T (leb p.0 most_payload) = search (left, right) in
    let ends : T (all_zero (drop p.0 p.1)) = search (left, right) in
    let c = both_second word32 (many most_payload byte) p (such_under (both word32 (many most_payload byte)) payload_fits p t) in
    let long : length p.1 ≡ most_payload = many_count most_payload byte p.1 c in
    let hi : p.0 ≤ most_payload = leb→le p.0 most_payload most in
    λ i. (length-take-le p.0 p.1 (omega arith) i, pad_there p.0 most_payload p.1 hi long ends i)

pub payload_lawful : Lawful payload508
unfolding payload508
payload_lawful = via_lawful payload_parts payload_back (λ b t. payload_back_law b) payload_there (such_lawful payload_fits (both_lawful word_lawful (many_lawful byte_lawful most_payload)))

-- ---- a transfer

stage_back : (b : List ℕ) (n : ℕ) (s : Stage) → transfer_back (stage_parts b n s) ≡ transmits_at b n s
stage_back b n opens = refl
stage_back b n (awaits run) = refl
stage_back b n (flies l g) = refl
stage_back b n (sends l g w) = refl

pub transfer_back_law : (x : Transfer) → transfer_back (transfer_parts x) ≡ x
transfer_back_law idle = refl
transfer_back_law refuses = refl
transfer_back_law (receives r) = refl
transfer_back_law (transmits t) = stage_back t.payload t.taken t.stage

-- equal parts
same_parts : {k n n' t t' l l' g g' : ℕ} {w w' : Bool} {b b' : List ℕ} → n ≡ n' → t ≡ t' → l ≡ l' → g ≡ g' → w ≡ w' → b ≡ b'
    → transferred k n t l g w b ≡ transferred k n' t' l' g' w' b'
same_parts {k = k} p q r s u v = λ i. (k, (p i, (q i, (r i, (s i, (u i, v i))))))

zero_is : (n : ℕ) → T (eqb n 0) → 0 ≡ n
zero_is n t = sym (eqb→eq n 0 t)

no_is : (b : Bool) → T (not b) → false ≡ b
no_is true t = absurd t
no_is false t = refl

nil_is : (b : List ℕ) → T (eqb (length b) 0) → ◌≡◌ {A = List ℕ} [] b
nil_is [] t = refl
nil_is (x ∷ b) t = absurd (let z = eqb→eq (suc (length b)) 0 t in omega arith)

pub kind_there : (k n t l g : ℕ) (w : Bool) (b : List ℕ) → T (kind_fits k n t l g w b) → transfer_parts (transfer_on k n t l g w b) ≡ transferred k n t l g w b
kind_there zero n t l g w b h =
    same_parts (zero_is n (search (left, right) depth 8)) (zero_is t (search (left, right) depth 8)) (zero_is l (search (left, right) depth 8)) (zero_is g (search (left, right) depth 8))
    (no_is w (search (left, right) depth 8)) (nil_is b (search (left, right) depth 8))
kind_there (suc zero) n t l g w b h =
    same_parts (zero_is n (search (left, right) depth 8)) (zero_is t (search (left, right) depth 8)) (zero_is l (search (left, right) depth 8)) (zero_is g (search (left, right) depth 8))
    (no_is w (search (left, right) depth 8)) (nil_is b (search (left, right) depth 8))
kind_there (suc (suc zero)) n t l g w b h =
    same_parts refl refl (zero_is l (search (left, right) depth 8)) (zero_is g (search (left, right) depth 8)) refl refl
kind_there (suc (suc (suc zero))) n t l g w b h =
    same_parts refl (zero_is t (search (left, right) depth 8)) (zero_is l (search (left, right) depth 8)) (zero_is g (search (left, right) depth 8)) (no_is w (search (left, right) depth 8)) refl
kind_there (suc (suc (suc (suc zero)))) n t l g w b h =
    same_parts refl refl (zero_is l (search (left, right) depth 8)) (zero_is g (search (left, right) depth 8)) (no_is w (search (left, right) depth 8)) refl
kind_there (suc (suc (suc (suc (suc zero))))) n t l g w b h =
    same_parts refl (zero_is t (search (left, right) depth 8)) refl refl (no_is w (search (left, right) depth 8)) refl
kind_there (suc (suc (suc (suc (suc (suc k)))))) n t l g w b h =
    let z : 0 ≡ k = zero_is k (search (left, right) depth 8) in
    let y : false ≡ w = no_is w (search (left, right) depth 8) in
    λ i. (suc (suc (suc (suc (suc (suc (z i)))))), (n, (t, (l, (g, (y i, b))))))

transfer_there : (p : Transferred) → T ((such transfer_fits transfer_plain).ok p) → transfer_parts (transfer_back p) ≡ p
unfolding transfer_fits
transfer_there p t =
    kind_there p.0 p.1.0 p.1.1.0 p.1.1.1.0 p.1.1.1.1.0 p.1.1.1.1.1.0 p.1.1.1.1.1.1 (such_test transfer_plain transfer_fits p t)

pub transfer_lawful : Lawful transfer_code
unfolding transfer_code transfer_plain
transfer_lawful =
    via_lawful transfer_parts transfer_back (λ x t. transfer_back_law x) transfer_there
    (such_lawful transfer_fits
    (both_lawful byte_lawful (both_lawful word_lawful (both_lawful word_lawful (both_lawful word_lawful (both_lawful word_lawful (both_lawful mark_lawful payload_lawful)))))))

-- ---- a conversation, the flight

pub talk_lawful : (flags : ℕ) → Lawful (talk_cell flags)
unfolding talk_cell
talk_lawful flags =
    such_lawful (talk_fits flags)
    (via_lawful talk_parts talk_back (λ c t. refl) (λ p t. refl) (both_lawful mark_lawful (both_lawful word_lawful (both_lawful word_lawful transfer_lawful))))

pub talks_lawful : (flags : ℕ) → Lawful (talks_code flags)
unfolding talks_code
talks_lawful flags = many_lawful (slot_lawful (talk_lawful flags)) most_talks

owner_back_law : (w : Owner) → owner_back (owner_parts w) ≡ w
owner_back_law nobody = refl
owner_back_law message = refl
owner_back_law (transfer_at k) = refl

owner_there : (n : ℕ) → owner_parts (owner_back n) ≡ n
owner_there zero = refl
owner_there (suc zero) = refl
owner_there (suc (suc k)) = refl

pub flight_lawful : (flags : ℕ) → Lawful (flight_code flags)
unfolding flight_code
flight_lawful flags =
    via_lawful flight_parts flight_back (λ f t i. record { frame = f.frame; owner = owner_back_law f.owner i }) (λ p t i. (owner_there p.0 i, p.1))
    (such_lawful owned_fits (both_lawful byte_lawful (frame_lawful flags)))

-- ---- the channel

pub heard_part_lawful : (flags : ℕ) → Lawful (heard_part flags)
unfolding heard_part
heard_part_lawful flags = via_lawful heard_parts heard_back (λ r t. refl) (λ p t. refl) (both_lawful (up_to_lawful (heard_lawful flags) most_heard) mark_lawful)

pub last_lawful : Lawful iso_last_part
unfolding iso_last_part
last_lawful = such_lawful _ byte_lawful

pub iso_rest_lawful : (flags : ℕ) → Lawful (iso_rest flags)
unfolding iso_rest
iso_rest_lawful flags =
    both_lawful (talks_lawful flags) (both_lawful (up_to_lawful (message_lawful flags) most_messages) (both_lawful (slot_lawful (flight_lawful flags)) (both_lawful (heard_part_lawful flags) last_lawful)))

pub iso_rest_same : (j k : ℕ) → (iso_rest j).size ≡ (iso_rest k).size
unfolding iso_rest heard_part talks_code flight_code talk_cell message_cell frame_cell heard_cell both many slot up_to via such
iso_rest_same j k = refl

pub parts_lawful : Lawful (both_on (λ c. c.flags) config iso_rest)
parts_lawful = both_on_lawful (λ c. c.flags) config_lawful iso_rest_lawful (λ k. iso_rest_same k 0)

pub ready_lawful : Lawful ready_part
unfolding ready_part
ready_lawful = such_lawful linked (via_lawful ready_parts ready_back (λ o t. refl) (λ p t. refl) parts_lawful)

iso_chan_back_law : (c : Iso) → iso_chan_back (iso_chan_parts c) ≡ c
iso_chan_back_law shut = refl
iso_chan_back_law (ready o) = refl

pub iso_chan_there : (o : Option OpenIso) → iso_chan_parts (iso_chan_back o) ≡ o
iso_chan_there none = refl
iso_chan_there (some o) = refl

pub iso_region_lawful : Lawful iso_region
unfolding iso_region
iso_region_lawful = via_lawful iso_chan_parts iso_chan_back (λ c t. iso_chan_back_law c) (λ o t. iso_chan_there o) (slot_lawful ready_lawful)
