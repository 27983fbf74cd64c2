-- `replacing::body_there` meets its contract. Assumes nothing.
use Rattle.replacing.proofs.Body.{body_old, body_new}
use Rattle.replacing.proofs.body_there.Goals as goal

pub returns-then-version-eq1 : goal.returns-then-version-eq1
returns-then-version-eq1 c =
    body_old c.args.store.now c.number_there-version.result.value c.number_there-version.result.next c.number_there-version.ensures c.if-version-eq1.true

pub returns : goal.returns
returns c =
    body_new c.args.store.now c.number_there-version.result.value c.number_there-version.result.next c.number_there-version.ensures c.if-version-eq1.false
    c.number_there.result.value c.number_there.result.next c.number_there.ensures
