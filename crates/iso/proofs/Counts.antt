-- The scope's "What a proof has to close off", on one ISO 15765 channel: the count of a read and of a write is the number of records moved, for
-- every channel and argument, refusals too. Assumes nothing.
use Prim.Native.Nat.{ℕ, zero, suc, ◌+◌, ◌≤◌, min}
use mathlib.Core.Path.{◌≡◌, refl, sym, ap, ◌∙◌}
use mathlib.Core.List.{List, [], ◌++◌, append-nil}
use native.Mathlib.Omega.{arith}
use lib.ListN.{length, take, drop, take-append-drop}
use lib.Seq.{length-take-le}
use lib.Dec.{eqb}
use Rattle.machine.specs.Message.{Rec}
use Rattle.machine.specs.Channel.{write, read, says, lent}
use Rattle.machine.specs.Step.{call}
use Rattle.machine.proofs.Refusals.{if_case}
use Rattle.iso.specs.Limits.{iso_record_size}
use Rattle.iso.specs.Iso.{Iso, shut, ready, OpenIso, IsoOutcome, set_receiving, set_written, set_last, shown_iso_all, iso_reading, on_iso_read, iso_writing, on_iso_write, on_ready, on_iso_call, iso_notes, iso_noted}
use Rattle.iso.specs.Step.{iso_step}
use Rattle.iso.specs.Demands.{iso_queue_of, iso_written_of, stored_iso, IsoReadMoved, IsoWriteQueued}
use Rattle.iso.proofs.Fair.{unless_iso_case, iso_writing_stored}

-- ---- a noted code moves no record

pub iso_queue_noted : (k : ℕ) (c : Iso) → iso_queue_of c ≡ iso_queue_of (iso_notes k c)
unfolding iso_notes set_last iso_queue_of
iso_queue_noted zero c = refl
iso_queue_noted (suc k) shut = refl
iso_queue_noted (suc k) (ready o) = refl

pub iso_written_noted : (k : ℕ) (c : Iso) → iso_written_of (iso_notes k c) ≡ iso_written_of c
unfolding iso_notes set_last iso_written_of
iso_written_noted zero c = refl
iso_written_noted (suc k) shut = refl
iso_written_noted (suc k) (ready o) = refl

-- ---- a read

-- a read that leaves the channel and the buffer counts none
nothing_read : (c : Iso) (b : List ℕ) (code : ℕ) → IsoReadMoved c c b (says code 0 b)
unfolding shown_iso_all says
nothing_read c b code = record { records = []; count = refl; moved = refl; shown = refl }

module _ (b : List ℕ) where
  abbrev Reads : Iso → IsoOutcome → Type 0
  Reads c x = IsoReadMoved c x.0 b x.1

  -- the m oldest of the queue
  reading_moves : (o : OpenIso) (n m : ℕ) → m ≤ length o.receiving.queue → Reads (ready o) (iso_reading o n b m)
  unfolding iso_reading set_receiving iso_queue_of says
  reading_moves o n m h =
      let q : List Rec = o.receiving.queue in
      record { records = take m q; count = length-take-le m q h; moved = sym (take-append-drop m q); shown = refl }

  read_on_channel : (rates : List ℕ) (now : ℕ) (c : Iso) (n : ℕ) → Reads c (on_iso_call rates now c (read n b))
  unfolding on_iso_call on_ready on_iso_read lent
  read_on_channel rates now shut n = nothing_read shut b _
  read_on_channel rates now (ready o) n =
      let held : ℕ = length o.receiving.queue in
      let most : min n held ≤ held = omega arith in
      unless_iso_case (Reads (ready o)) _ (ready o) b _
      (if_case (Reads (ready o)) (eqb n 0) _ _ (nothing_read (ready o) b _) (reading_moves o n (min n held) most))
      (nothing_read (ready o) b _)

  -- The count of a read is the number of records moved: the oldest held, and their bytes stand at the buffer's start
  pub iso_read_counts : (rates : List ℕ) (now : ℕ) (c : Iso) (k n : ℕ) → Reads c (iso_step rates now c (call k (read n b)))
  unfolding iso_step iso_noted
  iso_read_counts rates now c k n =
      let x : IsoOutcome = on_iso_call rates now c (read n b) in
      let p : Reads c x = read_on_channel rates now c n in
      record { records = p.records; count = p.count; moved = p.moved ∙ ap (λ (q : List Rec). p.records ++ q) (iso_queue_noted x.1.code x.0); shown = p.shown }

-- ---- a write

stored_length : (n : ℕ) (b : List ℕ) → length (stored_iso n b) ≡ n
unfolding stored_iso
stored_length zero b = refl
stored_length (suc n) b = ap suc (stored_length n (drop iso_record_size b))

module _ (b : List ℕ) where
  abbrev Writes : Iso → IsoOutcome → Type 0
  Writes c x = IsoWriteQueued c x.0 b x.1

  -- a write that leaves the channel counts none
  nothing_written : (c : Iso) (code : ℕ) → IsoWriteQueued c c b (says code 0 [])
  unfolding stored_iso says
  nothing_written c code = record { records = []; count = refl; queued = sym (append-nil (iso_written_of c)); lent = refl }

  write_on_channel : (rates : List ℕ) (now : ℕ) (c : Iso) (n : ℕ) → Writes c (on_iso_call rates now c (write n b))
  unfolding on_iso_call on_ready on_iso_write lent set_written iso_written_of says
  write_on_channel rates now shut n = nothing_written shut _
  write_on_channel rates now (ready o) n =
      let q = iso_writing_stored o.config.flags o.talks n b o.written 0 in
      let all_counted : q.more ≡ (iso_writing o.config.flags o.talks n b o.written 0).count = omega arith in
      unless_iso_case (Writes (ready o)) _ (ready o) [] _
      (record {
        records = stored_iso q.more b;
        count = stored_length q.more b ∙ all_counted;
        queued = q.queued;
        lent = ap (λ (m : ℕ). stored_iso m b) all_counted;
      })
      (nothing_written (ready o) _)

  -- The count of a write is the number of messages queued: the first of the lent ones, in order, behind those held
  pub iso_write_counts : (rates : List ℕ) (now : ℕ) (c : Iso) (k n : ℕ) → Writes c (iso_step rates now c (call k (write n b)))
  unfolding iso_step iso_noted
  iso_write_counts rates now c k n =
      let x : IsoOutcome = on_iso_call rates now c (write n b) in
      let p : Writes c x = write_on_channel rates now c n in
      record { records = p.records; count = p.count; queued = iso_written_noted x.1.code x.0 ∙ p.queued; lent = p.lent }
