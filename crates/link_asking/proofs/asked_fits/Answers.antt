use mathlib.Core.Path.{◌∙◌}
use mathlib.Core.Bool.{◌&&◌}
use Rattle.telegram.specs.Bits.{is_byte}
use Rattle.telegram.specs.Telegram.{is_id}
use Rattle.link_asking.specs.Asking.{asked_of, asks}
use Rattle.link_asking.proofs.Laws.{fits_flat, wide_destination, wide_application, wide_size}
use Rattle.link_asking.proofs.asked_fits.Goals as goal

pub returns-then-a-gt-BYTE : goal.returns-then-a-gt-BYTE
unfolding asked_of
returns-then-a-gt-BYTE c = wide_destination (asks c.args.a) c.if-a-gt-BYTE.true

pub returns-then-a-gt-BYTE-2 : goal.returns-then-a-gt-BYTE-2
unfolding asked_of
returns-then-a-gt-BYTE-2 c = wide_application (asks c.args.a) c.if-a-gt-BYTE-2.true

pub returns-then-a-gt-BYTE-3 : goal.returns-then-a-gt-BYTE-3
unfolding asked_of
returns-then-a-gt-BYTE-3 c = wide_size (asks c.args.a) c.if-a-gt-BYTE-3.true

pub returns : goal.returns
returns c =
    (λ j. c.opening_id.ensures j && (c.destination.ensures j && (is_id c.args.a.rx && c.application.ensures j)) && (c.block_size.ensures j && (is_byte c.args.a.t1 && is_byte c.args.a.t3)))
    ∙ fits_flat c.args.a.own c.args.a.destination c.args.a.rx c.args.a.application c.args.a.size c.args.a.t1 c.args.a.t3
