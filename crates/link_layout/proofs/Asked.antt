-- What was asked for, field by field in the bytes of a connection; the bytes of none, and of an opening telegram that waits. Assumes nothing.
use mathlib.Core.Path.{◌≡◌, refl, sym, ap, ◌∙◌}
use Prim.Native.Nat.{ℕ, ◌+◌, ◌%◌}
use native.Mathlib.Omega.{arith}
use mathlib.Core.List.{List}
use lib.ListN.{length, get_or}
use lib.Dec.{T}
use Rattle.codec.specs.Plain.{zeros}
use Rattle.codec.specs.Word.{word, word_at}
use Rattle.codec.specs.Code.{byte, word32, both, via, such}
use Rattle.codec.proofs.Word.{word_back}
use Rattle.codec.proofs.Part.{Part, byte_of}
use Rattle.link.specs.Connection.{Asked, waits, Connection, absent}
use Rattle.link_layout.specs.Sizes.{asked_size, asked_at, rx_id_in, destination_in, application_in, block_size_in, trials_size}
use Rattle.link_layout.specs.Connection.{asked, trial, trials, connection_part}
use Rattle.link_layout.specs.Turned.{LinkPart}
use Rattle.link_layout.proofs.Bytes.{absent_bytes}
use Rattle.link_layout.proofs.Talking.{asked_fits_law, asked_facts}

-- ---- what was asked for

module _ {w : Asked → Connection} (m : List ℕ) (a : Asked) (p : Part connection_part m asked asked_at asked_size a w) (t : T (asked.ok a)) where
  pub own_is : get_or m asked_at 0 ≡ a.own % 256
  unfolding asked such via both byte word32 word
  own_is = byte_of p 0 (omega arith)

  pub destination_is : get_or m (asked_at + destination_in) 0 ≡ a.destination
  unfolding asked such via both byte word32 word
  destination_is = byte_of p destination_in (omega arith)

  pub application_is : get_or m (asked_at + application_in) 0 ≡ a.application
  unfolding asked such via both byte word32 word
  application_is = byte_of p application_in (omega arith)

  pub block_size_is : get_or m (asked_at + block_size_in) 0 ≡ a.block_size
  unfolding asked such via both byte word32 word
  block_size_is = byte_of p block_size_in (omega arith)

  pub rx_id_is : word_at (asked_at + rx_id_in) m ≡ a.rx_id
  unfolding asked such via both byte word32 word word_at
  rx_id_is =
      let f = asked_facts a (asked_fits_law a t) in
      let back = word_back a.rx_id (omega (arith, f.rx_id_high)) in
      let e0 = byte_of p rx_id_in (omega arith) in
      let e1 = byte_of p (rx_id_in + 1) (omega arith) in
      let e2 = byte_of p (rx_id_in + 2) (omega arith) in
      let e3 = byte_of p (rx_id_in + 3) (omega arith) in
      omega (arith, e0, e1, e2, e3, back)

-- ---- no connection

pub gone : (m y : List ℕ) → LinkPart m → y ≡ zeros (length m) → y ≡ connection_part.put absent
gone m y p e = e ∙ ap zeros p.long ∙ sym absent_bytes

-- ---- a telegram that waits, with no repeats

pub waits_zero : zeros trials_size ≡ trials.put (0, waits)
unfolding trials trial via such both byte word32 word
waits_zero = refl
