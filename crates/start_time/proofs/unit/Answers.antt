-- `start_time::unit` meets its contract. Assumes nothing.
use mathlib.Core.Path.{sym, ap}
use Rattle.start_time.specs.Start.{unit_of}
use Rattle.start_time.proofs.Units.{unit_none}
use Rattle.start_time.proofs.unit.Goals as goal

pub returns-in-1 : goal.returns-in-1
unfolding unit_of
returns-in-1 c = sym (ap unit_of c.in-1.is)

pub returns-in-2 : goal.returns-in-2
unfolding unit_of
returns-in-2 c = sym (ap unit_of c.in-2.is)

pub returns-in-3 : goal.returns-in-3
unfolding unit_of
returns-in-3 c = sym (ap unit_of c.in-3.is)

pub returns-in-4 : goal.returns-in-4
unfolding unit_of
returns-in-4 c = sym (ap unit_of c.in-4.is)

pub returns-in-5 : goal.returns-in-5
unfolding unit_of
returns-in-5 c = sym (ap unit_of c.in-5.is)

pub returns-in-6 : goal.returns-in-6
unfolding unit_of
returns-in-6 c = sym (ap unit_of c.in-6.is)

pub returns-in_default : goal.returns-in_default
returns-in_default c =
    unit_none _ c.in_default.in_default-own.rest.0.0.0.0.0.1 c.in_default.in_default-own.rest.0.0.0.0.1 c.in_default.in_default-own.rest.0.0.0.1 c.in_default.in_default-own.rest.0.0.1 c.in_default.in_default-own.rest.0.1 c.in_default.in_default-own.rest.1
