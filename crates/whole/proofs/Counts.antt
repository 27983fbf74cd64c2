-- The scope's "What a proof has to close off", over the whole box: the count of a read and of a write is the number of records moved, on raw and on
-- ISO 15765 channels, for every device and argument, refusals too. Assumes nothing.
use Prim.Native.Nat.{ℕ, ◌+◌, ◌<◌}
use mathlib.Core.Path.{refl}
use mathlib.Core.List.{List}
use Rattle.machine.specs.Channel.{write, read}
use Rattle.machine.specs.Step.{call}
use Rattle.machine.specs.Demands.{ReadMoved, WriteQueued}
use Rattle.machine.proofs.Counts as raw_laws
use Rattle.iso.specs.Step.{iso_step}
use Rattle.iso.specs.Demands.{IsoReadMoved, IsoWriteQueued}
use Rattle.iso.proofs.Counts.{iso_read_counts, iso_write_counts}
use Rattle.whole.specs.Device.{Device, chan_at, iso_at, step}
use Rattle.whole.specs.Demands.{EightChannels}
use Rattle.whole.proofs.Dispatch.{call_carried, iso_call_carried}

module _ (rates : List ℕ) (d : Device) (i n : ℕ) (b : List ℕ) (h : i < 4) (eight : EightChannels d) where
  -- as many fewer are held after a read, they were the oldest, and their bytes stand at the buffer's start
  pub read_counts : ReadMoved (chan_at i d) (chan_at i (step rates d (call (i + 1) (read n b))).0) b (step rates d (call (i + 1) (read n b))).1
  read_counts = call_carried rates (λ c a. ReadMoved (chan_at i d) c b a) d i (read n b) h eight (raw_laws.read_counts rates d.clock (chan_at i d) n b)

  pub iso_reads_counted : IsoReadMoved (iso_at i d) (iso_at i (step rates d (call (i + 5) (read n b))).0) b (step rates d (call (i + 5) (read n b))).1
  unfolding iso_step
  iso_reads_counted = iso_call_carried rates (λ c a. IsoReadMoved (iso_at i d) c b a) d i (read n b) h eight refl (iso_read_counts b rates d.clock (iso_at i d) (i + 5) n)

  -- as many more are held after a write, and they are the first of the lent ones, in order
  pub write_counts : WriteQueued (chan_at i d) (chan_at i (step rates d (call (i + 1) (write n b))).0) b (step rates d (call (i + 1) (write n b))).1
  write_counts = call_carried rates (λ c a. WriteQueued (chan_at i d) c b a) d i (write n b) h eight (raw_laws.write_counts rates d.clock (chan_at i d) n b)

  pub iso_writes_counted : IsoWriteQueued (iso_at i d) (iso_at i (step rates d (call (i + 5) (write n b))).0) b (step rates d (call (i + 5) (write n b))).1
  unfolding iso_step
  iso_writes_counted = iso_call_carried rates (λ c a. IsoWriteQueued (iso_at i d) c b a) d i (write n b) h eight refl (iso_write_counts b rates d.clock (iso_at i d) (i + 5) n)
