-- What the region of an ISO 15765 channel can hold: a record, a transfer, a conversation, a flight, each made of plain facts, and those facts taken out
-- again. Assumes nothing.
use Rattle.std.specs.Prelude.{if◌then◌else◌}
use mathlib.Core.Path.{◌≡◌, refl, sym, ap, ◌∙◌, subst}
use Prim.Native.Nat.{ℕ, ◌+◌, ◌-◌, ◌%◌, ◌^◌, ◌≤◌, ◌<◌}
use native.Mathlib.Omega.{arith}
use mathlib.Core.Bool.{Bool, true, false, ◌&&◌, ◌||◌, not}
use mathlib.Core.List.{List, [], ◌∷◌, ◌++◌}
use lib.ListN.{length, drop, length-append, length-replicate}
use lib.Seq.{take_at, drop_at}
use lib.Dec.{T, eqb, leb, ltb, lit<, eqb→eq, eqb_refl, leb→le, le→leb, ltb→lt, lt→ltb}
use Rattle.codec.specs.Plain.{within, member, all, is_byte, zeros, all_zero}
use Rattle.codec.specs.Code.{byte, word32, both, via, such, many}
use Rattle.codec.proofs.Tests.{left, right, join, within_low, within_high}
use Rattle.codec.proofs.Lists.{all_append, all_take, all_zeros}
use Rattle.codec.proofs.Lawful.{mark_ok}
use Rattle.codec.proofs.Many.{many_make, many_each}
use Rattle.machine.specs.Message.{bit, takes, id_of, id_limit, width_flag, Rec}
use Rattle.iso.specs.Iso.{Reception, Stage, opens, awaits, flies, sends, Transmission, Transfer, idle, refuses, receives, transmits, Talk, padded, iso_codes}
use Rattle.iso.specs.Limits.{id_size, iso_data, least_message, most_payload, least_segmented, in_first, in_next, second, longest_gap}
use Rattle.layout.specs.Record.{width_fits}
use Rattle.machine.proofs.Tables.{by_test}
use Rattle.iso_layout.specs.Region.{indication, extra_is, iso_parts, iso_fits, rec536, iso_outgoing, iso_incoming, heard_cell, payload_parts, payload_fits, payload508, step_of7, is_gap, transfer_fits, transfer_plain, transfer_code, segments_in, talk_fits, talk_cell, iso_last_part}
use Rattle.codec.proofs.Tests.{eq→eqb}
use Rattle.codec.proofs.Lists.{of_member, zeros_bytes}
use Rattle.codec.proofs.Lawful.{word_ok, ok_word, such_test}

-- ---- bytes with zeros after them

pad_ok : (k : ℕ) (b : List ℕ) → length b ≤ k → T (all is_byte b) → T ((many k byte).ok (b ++ zeros (k - length b)))
unfolding byte
pad_ok k b h t =
    many_make k byte (b ++ zeros (k - length b)) (length-append b _ ∙ ap (λ (j : ℕ). length b + j) (length-replicate (k - length b) 0) ∙ omega arith)
    (all_append is_byte b (zeros (k - length b)) t (zeros_bytes (k - length b)))

pad_bytes : (k j : ℕ) (b : List ℕ) → T ((many k byte).ok (b ++ zeros j)) → T (all is_byte b)
unfolding byte
pad_bytes k j b t =
    subst (λ (m : List ℕ). T (all is_byte m)) (take_at b (zeros j) (length b) refl) (all_take is_byte (length b) (b ++ zeros j) (many_each k byte _ t))

pad_ends : (j : ℕ) (b : List ℕ) → T (all_zero (drop (length b) (b ++ zeros j)))
pad_ends j b = subst (λ (m : List ℕ). T (all_zero m)) (sym (drop_at b (zeros j) (length b) refl)) (all_zeros j)

-- ---- records: their size is within limits, their identifier in the range of their width, and their width one that the connection takes

pub record Fit (flags low high : ℕ) (wide : Bool) (b : List ℕ) : Type 0 where
  pub least : low ≤ length b
  pub most : length b ≤ high
  pub bytes : T (all is_byte b)
  pub identifier : id_of b ≤ id_limit wide
  pub width : T (takes flags wide)

extra_small : (rx n : ℕ) → n ≤ iso_data → extra_is rx n < 2 ^ 32
unfolding extra_is
extra_small rx n h = by_test (λ (k : ℕ). k < 2 ^ 32) (indication rx) _ n (λ t. omega arith) (omega arith)

rec_make : (rx tx time : ℕ) (b : List ℕ) → rx < 2 ^ 32 → tx < 2 ^ 32 → time < 2 ^ 32 → id_size ≤ length b → length b ≤ iso_data → T (all is_byte b)
    → T (rec536.ok (record { rx = rx; tx = tx; time = time; bytes = b }))
unfolding rec536 via such both iso_parts iso_fits within padded word32
rec_make rx tx time b hr ht hm lo hi t =
    let small : length b < 2 ^ 32 = omega arith in
    let extra = extra_small rx (length b) hi in
    let row = pad_ok iso_data b hi t in
    let ends = pad_ends (iso_data - length b) b in
    search (join, lt→ltb, le→leb, eqb_refl) depth 9

rec_bytes : (r : Rec) → T (rec536.ok r) → T (all is_byte r.bytes)
unfolding rec536 via such both iso_parts padded
rec_bytes r t = pad_bytes iso_data (iso_data - length r.bytes) r.bytes (search (left, right) depth 9)

rec_sizes : (r : Rec) → T (rec536.ok r) → (id_size ≤ length r.bytes) × (length r.bytes ≤ iso_data)
unfolding rec536 via such iso_parts iso_fits
rec_sizes r t =
    let w : T (within id_size iso_data (length r.bytes)) = search (left, right) depth 9 in (within_low id_size iso_data (length r.bytes) w, within_high id_size iso_data (length r.bytes) w)

rec_stamp : (r : Rec) → T (rec536.ok r) → r.time < 2 ^ 32
unfolding rec536 via such both iso_parts
rec_stamp r t = ok_word r.time (search (left, right) depth 9)

fits_width : {flags low high : ℕ} {wide : Bool} {b : List ℕ} → Fit flags low high wide b → T (width_fits flags wide b)
unfolding width_fits
fits_width f = search (join, le→leb)

-- to send
pub sending_make : (flags most : ℕ) → most ≤ iso_data → (wide : Bool) (b : List ℕ) → Fit flags least_message most wide b
    → T ((such (iso_outgoing flags most) rec536).ok (record { rx = 0; tx = width_flag wide; time = 0; bytes = b }))
unfolding such iso_outgoing within width_flag bit member
sending_make flags most h wide b f =
    let size : T (within least_message most (length b)) = join (leb least_message (length b)) (leb (length b) most) (le→leb _ _ f.least) (le→leb _ _ f.most) in
    go wide (fits_width f)
  where
    go : (wide : Bool) → T (width_fits flags wide b) → T ((such (iso_outgoing flags most) rec536).ok (record { rx = 0; tx = width_flag wide; time = 0; bytes = b }))
    go true w =
        let l = f.least in
        let m = f.most in
        let plain = rec_make 0 0x100 0 b (omega arith) (omega arith) (omega arith) (omega arith) (omega arith) f.bytes in
        search (join, le→leb) depth 9
    go false w =
        let l = f.least in
        let m = f.most in
        let plain = rec_make 0 0 0 b (omega arith) (omega arith) (omega arith) (omega arith) (omega arith) f.bytes in
        search (join, le→leb) depth 9

pub record ToSend (flags most : ℕ) (r : Rec) : Type 0 where
  pub flag : T (member r.tx (0 ∷ 0x100 ∷ []))
  pub fit : Fit flags least_message most (bit 0x100 r.tx) r.bytes
  pub no_status : r.rx ≡ 0
  pub no_stamp : r.time ≡ 0

width_fits_law : (flags : ℕ) (wide : Bool) (b : List ℕ) → T (width_fits flags wide b) → (id_of b ≤ id_limit wide) × T (takes flags wide)
unfolding width_fits
width_fits_law flags wide b w = (leb→le _ _ (left (leb (id_of b) (id_limit wide)) (takes flags wide) w), right (leb (id_of b) (id_limit wide)) (takes flags wide) w)

pub sending_sound : (flags most : ℕ) (r : Rec) → T ((such (iso_outgoing flags most) rec536).ok r) → ToSend flags most r
unfolding such iso_outgoing
sending_sound flags most r t =
    let plain : T (rec536.ok r) = search left in
    let size : T (within least_message most (length r.bytes)) = search (left, right) in
    let w : T (width_fits flags (bit 0x100 r.tx) r.bytes) = search (left, right) in
    let q = width_fits_law flags (bit 0x100 r.tx) r.bytes w in
    record {
      flag = search (left, right);
      fit =
          record { least = within_low least_message most (length r.bytes) size; most = within_high least_message most (length r.bytes) size; bytes = rec_bytes r plain; identifier = q.0; width = q.1 };
      no_status = eqb→eq r.rx 0 (search (left, right));
      no_stamp = eqb→eq r.time 0 (search (left, right));
    }

-- to read: a message or a loopback of 5 to 512 bytes, an indication of 4
pub reading_make : (flags now rx : ℕ) (b : List ℕ) → now < 2 ^ 32 → T (member rx (0 ∷ 1 ∷ 0x100 ∷ 0x101 ∷ [])) → Fit flags least_message iso_data (bit 0x100 rx) b
    → T ((heard_cell flags).ok (record { rx = rx; tx = 0; time = now; bytes = b }))
unfolding heard_cell such iso_incoming indication bit member
reading_make flags now rx b h m f =
    of_member (λ (n : ℕ). Fit flags least_message iso_data (bit 0x100 n) b → T ((heard_cell flags).ok (record { rx = n; tx = 0; time = now; bytes = b }))) (0 ∷ 1 ∷ 0x100 ∷ 0x101 ∷ [])
    (go 0 (omega arith) tt tt, (go 1 (omega arith) tt tt, (go 0x100 (omega arith) tt tt, (go 0x101 (omega arith) tt tt, tt)))) rx m f
  where
    go : (n : ℕ) → n < 2 ^ 32 → T (member n (0 ∷ 1 ∷ 2 ∷ 9 ∷ 0x100 ∷ 0x101 ∷ 0x102 ∷ 0x109 ∷ [])) → T (not (indication n)) → Fit flags least_message iso_data (bit 0x100 n) b → T ((heard_cell flags).ok (record { rx = n; tx = 0; time = now; bytes = b }))
    go n hn mem ind f =
        let l = f.least in
        let plain = rec_make n 0 now b hn (omega arith) h (omega arith) f.most f.bytes in
        let size : T (if indication n then eqb (length b) id_size else leb least_message (length b)) = long (indication n) ind f.least in
        let w = fits_width f in
        search join depth 9
      where
        long : (i : Bool) → T (not i) → least_message ≤ length b → T (if i then eqb (length b) id_size else leb least_message (length b))
        long true i l = absurd i
        long false i l = le→leb least_message (length b) l

pub telling_make : (flags now rx : ℕ) (b : List ℕ) → now < 2 ^ 32 → T (member rx (2 ∷ 9 ∷ 0x102 ∷ 0x109 ∷ [])) → Fit flags id_size id_size (bit 0x100 rx) b
    → T ((heard_cell flags).ok (record { rx = rx; tx = 0; time = now; bytes = b }))
unfolding heard_cell such iso_incoming indication bit member
telling_make flags now rx b h m f =
    of_member (λ (n : ℕ). Fit flags id_size id_size (bit 0x100 n) b → T ((heard_cell flags).ok (record { rx = n; tx = 0; time = now; bytes = b }))) (2 ∷ 9 ∷ 0x102 ∷ 0x109 ∷ [])
    (go 2 (omega arith) tt tt, (go 9 (omega arith) tt tt, (go 0x102 (omega arith) tt tt, (go 0x109 (omega arith) tt tt, tt)))) rx m f
  where
    go : (n : ℕ) → n < 2 ^ 32 → T (member n (0 ∷ 1 ∷ 2 ∷ 9 ∷ 0x100 ∷ 0x101 ∷ 0x102 ∷ 0x109 ∷ [])) → T (indication n) → Fit flags id_size id_size (bit 0x100 n) b → T ((heard_cell flags).ok (record { rx = n; tx = 0; time = now; bytes = b }))
    go n hn mem ind f =
        let l = f.least in
        let k = f.most in
        let plain = rec_make n 0 now b hn (omega arith) h (omega arith) (omega arith) f.bytes in
        let four : length b ≡ id_size = omega arith in
        let size : T (if indication n then eqb (length b) id_size else leb least_message (length b)) = short (indication n) ind (eq→eqb (length b) id_size four) in
        let w = fits_width f in
        search join depth 9
      where
        short : (i : Bool) → T i → T (eqb (length b) id_size) → T (if i then eqb (length b) id_size else leb least_message (length b))
        short true i q = q
        short false i q = absurd i

-- what one to read is
pub record ToRead (flags : ℕ) (r : Rec) : Type 0 where
  pub status : T (member r.rx (0 ∷ 1 ∷ 2 ∷ 9 ∷ 0x100 ∷ 0x101 ∷ 0x102 ∷ 0x109 ∷ []))
  pub no_flags : r.tx ≡ 0
  pub stamp : r.time < 2 ^ 32
  pub fit : Fit flags id_size iso_data (bit 0x100 r.rx) r.bytes
  pub size : T (if indication r.rx then eqb (length r.bytes) id_size else leb least_message (length r.bytes))

pub reading_sound : (flags : ℕ) (r : Rec) → T ((heard_cell flags).ok r) → ToRead flags r
unfolding heard_cell such iso_incoming
reading_sound flags r t =
    let plain : T (rec536.ok r) = search left in
    let w : T (width_fits flags (bit 0x100 r.rx) r.bytes) = search (left, right) in
    let q = width_fits_law flags (bit 0x100 r.rx) r.bytes w in
    let sizes = rec_sizes r plain in
    record {
      status = search (left, right);
      no_flags = eqb→eq r.tx 0 (search (left, right));
      stamp = rec_stamp r plain;
      fit = record { least = sizes.0; most = sizes.1; bytes = rec_bytes r plain; identifier = q.0; width = q.1 };
      size = search (left, right);
    }

-- ---- a payload

pub payload_make : (b : List ℕ) → length b ≤ most_payload → T (all is_byte b) → T (payload508.ok b)
unfolding payload508 via such both payload_parts payload_fits
payload_make b h t =
    let small : length b < 2 ^ 32 = omega arith in
    let row = pad_ok most_payload b h t in
    let ends = pad_ends (most_payload - length b) b in
    search (join, word_ok, le→leb)

pub payload_bytes : (b : List ℕ) → T (payload508.ok b) → T (all is_byte b)
unfolding payload508 via such both payload_parts
payload_bytes b t = pad_bytes most_payload (most_payload - length b) b (search (left, right))

pub payload_most : (b : List ℕ) → T (payload508.ok b) → length b ≤ most_payload
unfolding payload508 via such payload_parts payload_fits
payload_most b t = leb→le (length b) most_payload (search (left, right))

-- ---- a transfer

pub record ReceptionOk (r : Reception) : Type 0 where
  pub least : least_segmented ≤ r.size
  pub most : r.size ≤ most_payload
  pub step : T (step_of7 (length r.bytes))
  pub part : length r.bytes < r.size
  pub second : r.run < second
  pub bytes : T (all is_byte r.bytes)

-- of a transmission with n bytes taken of m
abbrev pub StageOk : ℕ → ℕ → Stage → Type 0
StageOk n m opens = n ≡ in_first
StageOk n m (awaits run) = T (step_of7 n) × (n < m) × (run < second)
StageOk n m (flies l g) = (l < 256) × T (is_gap g) × T (step_of7 n) × (in_first + in_next ≤ n) × (n < m + in_next)
StageOk n m (sends l g w) = (l < 256) × T (is_gap g) × T (step_of7 n) × (n < m) × (w ≤ g)

pub record TransmissionOk (t : Transmission) : Type 0 where
  pub least : least_segmented ≤ length t.payload
  pub most : length t.payload ≤ most_payload
  pub bytes : T (all is_byte t.payload)
  pub stage : StageOk t.taken (length t.payload) t.stage

abbrev pub TransferOk : Transfer → Type 0
TransferOk idle = Unit {0}
TransferOk refuses = Unit {0}
TransferOk (receives r) = ReceptionOk r
TransferOk (transmits t) = TransmissionOk t

gap_small : (g : ℕ) → T (is_gap g) → g ≤ longest_gap
unfolding is_gap
gap_small g t = or_case (eqb (g % 1000) 0 && leb g longest_gap) (eqb (g % 100) 0 && ltb g 1000) t (λ u. leb→le g longest_gap (right (eqb (g % 1000) 0) _ u)) (λ u. let h = ltb→lt g 1000 (right (eqb (g % 100) 0) _ u) in omega arith)
  where
    or_case : {X : Type 0} (a b : Bool) → T (a || b) → (T a → X) → (T b → X) → X
    or_case true b t f h = f tt
    or_case false b t f h = h t

stage_make : (b : List ℕ) (n : ℕ) (s : Stage) → least_segmented ≤ length b → length b ≤ most_payload → T (all is_byte b) → StageOk n (length b) s
    → T (transfer_code.ok (transmits (record { payload = b; taken = n; stage = s })))
unfolding transfer_code transfer_plain via such both transfer_fits word32 byte
stage_make b n opens lo hi t o =
    let p = payload_make b hi t in
    let small : n < 2 ^ 32 = omega arith in
    let six = eq→eqb n in_first o in
    search (join, lt→ltb, le→leb, mark_ok) depth 9
stage_make b n (awaits run) lo hi t o =
    let p = payload_make b hi t in
    let h = o.1 in
    let u = o.2 in
    let small : n < 2 ^ 32 = omega arith in
    let time : run < 2 ^ 32 = omega arith in
    search (join, lt→ltb, le→leb, mark_ok) depth 10
stage_make b n (flies l g) lo hi t o =
    let p = payload_make b hi t in
    let hl = o.0 in
    let hg = gap_small g o.1 in
    let h = o.4 in
    let small : n < 2 ^ 32 = omega arith in
    let frames : l < 2 ^ 32 = omega arith in
    let gap : g < 2 ^ 32 = omega arith in
    search (join, lt→ltb, le→leb, mark_ok) depth 10
stage_make b n (sends l g w) lo hi t o =
    let p = payload_make b hi t in
    let hl = o.0 in
    let hg = gap_small g o.1 in
    let h = o.3 in
    let k = o.4 in
    let small : n < 2 ^ 32 = omega arith in
    let frames : l < 2 ^ 32 = omega arith in
    let gap : g < 2 ^ 32 = omega arith in
    let wait : w < 2 ^ 32 = omega arith in
    search (join, lt→ltb, le→leb, mark_ok) depth 10

pub transfer_make : (x : Transfer) → TransferOk x → T (transfer_code.ok x)
unfolding transfer_code transfer_plain via such both transfer_fits word32 byte within
transfer_make idle o = let p = payload_make [] (omega arith) tt in search (join, mark_ok) depth 9
transfer_make refuses o = let p = payload_make [] (omega arith) tt in search (join, mark_ok) depth 9
transfer_make (receives r) o =
    let part = o.part in
    let most = o.most in
    let run = o.second in
    let p = payload_make r.bytes (omega arith) o.bytes in
    let size : r.size < 2 ^ 32 = omega arith in
    let time : r.run < 2 ^ 32 = omega arith in
    let step = o.step in
    let least = o.least in
    search (join, lt→ltb, le→leb, mark_ok) depth 10
transfer_make (transmits t) o = stage_make t.payload t.taken t.stage o.least o.most o.bytes o.stage

stage_sound : (b : List ℕ) (n : ℕ) (s : Stage) → T (transfer_code.ok (transmits (record { payload = b; taken = n; stage = s }))) → TransmissionOk (record { payload = b; taken = n; stage = s })
unfolding transfer_code transfer_plain via such both transfer_fits
stage_sound b n opens t =
    let p : T (payload508.ok b) = search (left, right) depth 9 in
    record { least = leb→le least_segmented (length b) (search (left, right) depth 9); most = payload_most b p; bytes = payload_bytes b p; stage = eqb→eq n in_first (search (left, right) depth 9) }
stage_sound b n (awaits run) t =
    let p : T (payload508.ok b) = search (left, right) depth 9 in
    record {
      least = leb→le least_segmented (length b) (search (left, right) depth 9);
      most = payload_most b p;
      bytes = payload_bytes b p;
      stage = (search (left, right) depth 9, ltb→lt n (length b) (search (left, right) depth 9), ltb→lt run second (search (left, right) depth 9));
    }
stage_sound b n (flies l g) t =
    let p : T (payload508.ok b) = search (left, right) depth 9 in
    record {
      least = leb→le least_segmented (length b) (search (left, right) depth 9);
      most = payload_most b p;
      bytes = payload_bytes b p;
      stage = (
        ltb→lt l 256 (search (left, right) depth 9),
        search (left, right) depth 9,
        search (left, right) depth 9,
        leb→le (in_first + in_next) n (search (left, right) depth 9),
        ltb→lt n (length b + in_next) (search (left, right) depth 9),
      );
    }
stage_sound b n (sends l g w) t =
    let p : T (payload508.ok b) = search (left, right) depth 9 in
    record {
      least = leb→le least_segmented (length b) (search (left, right) depth 9);
      most = payload_most b p;
      bytes = payload_bytes b p;
      stage = (
        ltb→lt l 256 (search (left, right) depth 9),
        search (left, right) depth 9,
        search (left, right) depth 9,
        ltb→lt n (length b) (search (left, right) depth 9),
        leb→le w g (search (left, right) depth 9),
      );
    }

pub transfer_sound : (x : Transfer) → T (transfer_code.ok x) → TransferOk x
unfolding transfer_code transfer_plain via such both transfer_fits
transfer_sound idle t = tt
transfer_sound refuses t = tt
transfer_sound (receives r) t =
    let p : T (payload508.ok r.bytes) = search (left, right) depth 9 in
    let size : T (within least_segmented most_payload r.size) = search (left, right) depth 9 in
    record {
      least = within_low least_segmented most_payload r.size size;
      most = within_high least_segmented most_payload r.size size;
      step = search (left, right) depth 9;
      part = ltb→lt (length r.bytes) r.size (search (left, right) depth 9);
      second = ltb→lt r.run second (search (left, right) depth 9);
      bytes = payload_bytes r.bytes p;
    }
transfer_sound (transmits t) u = stage_sound t.payload t.taken t.stage u

-- ---- a conversation

pub record TalkOk (flags : ℕ) (c : Talk) : Type 0 where
  pub width : T (takes flags c.wide)
  pub pattern_in : c.pattern ≤ id_limit c.wide
  pub flow_in_law : c.flow ≤ id_limit c.wide
  pub plain : T (not (eqb c.pattern c.flow && segments_in c.transfer))
  pub transfer_ok : TransferOk c.transfer

pub id_small : (wide : Bool) (n : ℕ) → n ≤ id_limit wide → n < 2 ^ 32
unfolding id_limit
id_small true n h = omega arith
id_small false n h = omega arith

pub talk_make : (flags : ℕ) (c : Talk) → TalkOk flags c → T ((talk_cell flags).ok c)
unfolding talk_cell talk_fits via such both
talk_make flags c o =
    let x = transfer_make c.transfer o.transfer_ok in
    let p = word_ok c.pattern (id_small c.wide c.pattern o.pattern_in) in
    let f = word_ok c.flow (id_small c.wide c.flow o.flow_in_law) in
    search (join, mark_ok, le→leb) depth 9

pub talk_sound : (flags : ℕ) (c : Talk) → T ((talk_cell flags).ok c) → TalkOk flags c
unfolding talk_cell talk_fits via such both
talk_sound flags c t =
    record {
      width = search (left, right) depth 9;
      pattern_in = leb→le c.pattern (id_limit c.wide) (search (left, right) depth 9);
      flow_in_law = leb→le c.flow (id_limit c.wide) (search (left, right) depth 9);
      plain = search (left, right) depth 9;
      transfer_ok = transfer_sound c.transfer (search (left, right) depth 9);
    }

-- ---- a last code

pub last_make : (k : ℕ) → T (member k iso_codes) → T (iso_last_part.ok k)
unfolding iso_last_part such byte iso_codes
last_make k t = join (ltb k 256) _ (of_member (λ (n : ℕ). T (ltb n 256)) _ (search tt depth 20) k t) t

-- such a code is a byte
pub code_small : (k : ℕ) → T (member k iso_codes) → k < 256
unfolding iso_codes
code_small k t = of_member (λ (n : ℕ). n < 256) _ (search (lit<, tt) depth 20) k t

pub last_sound : (k : ℕ) → T (iso_last_part.ok k) → T (member k iso_codes)
unfolding iso_last_part
last_sound k t = such_test byte _ k t
