-- The written store: what it holds; and that store in the region of an open channel. Assumes nothing.
use mathlib.Core.Path.{◌≡◌, refl, sym, ◌∙◌}
use Prim.Native.Nat.{ℕ, ◌-◌}
use native.Mathlib.Omega.{arith}
use mathlib.Core.List.{List}
use lib.ListN.{length, get_or, take, drop}
use lib.Seq.{get_or-take, get_or-drop}
use lib.Dec.{T}
use Rattle.codec.proofs.Store.{count_at}
use Rattle.codec.proofs.Many.{up_to_lawful}
use Rattle.machine.specs.Message.{Rec}
use Rattle.machine.specs.Limits.{most_written}
use Rattle.layout.specs.Sizes.{written_at, written_size}
use Rattle.layout.specs.Record.{out_cell}
use Rattle.machine.specs.Channel.{Open}
use Rattle.layout.specs.Promise.{Opened}
use Rattle.layout.proofs.Memory.{out_lawful}
use Rattle.layout.proofs.Sizes.{written_size_law}
use Rattle.layout.proofs.Good.{fl}
use Rattle.layout.proofs.Region.{open_of, written_part, byte_of}
use Rattle.layout.specs.Memory.{region}
use Rattle.stores.specs.Written.{written, WrittenPart}

module _ {flags : ℕ} {store : List ℕ} (w : WrittenPart flags store) where
  abbrev pub holds : List Rec
  holds = (written flags).get store

  sized : length store ≡ (written flags).size
  sized = w.long ∙ sym (written_size_law flags)

  pub holds_ok : T ((written flags).ok holds)
  holds_ok = (up_to_lawful (out_lawful flags) most_written).ok_get store sized w.valid

  pub holds_is : store ≡ (written flags).put holds
  holds_is = sym ((up_to_lawful (out_lawful flags) most_written).put_get store sized w.valid)

  pub holds_count : get_or store 0 0 ≡ length holds
  holds_count = count_at (out_cell flags) most_written holds holds_is

-- ---- in the region of an open channel

module _ {r : List ℕ} (f : Opened r) where
  abbrev o : Open
  o = open_of r

  pub written_count : get_or r written_at 0 ≡ length o.sending.written
  written_count = byte_of (written_part r f) 0 (omega arith) ∙ count_at (out_cell (fl o)) most_written o.sending.written refl

  pub in_part : get_or (take written_size (drop written_at r)) 0 0 ≡ get_or r written_at 0
  in_part = get_or-take written_size (drop written_at r) 0 0 (omega arith) ∙ get_or-drop written_at r 0 0
