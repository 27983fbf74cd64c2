use Rattle.link_checks.proofs.Tags.{tagged}
use Rattle.link_checks.proofs.by_tag.Goals as goal

pub returns : goal.returns
returns c = tagged c.args.k c.args.a c.args.b c.args.c
