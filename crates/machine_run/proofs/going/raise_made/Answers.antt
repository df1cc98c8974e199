-- `machine_run::going::raise_made` meets its contract. Assumes nothing.
use mathlib.Core.Path.{refl}
use borrow.Author.Tests.{eq-eqb, ne_eqb}
use Rattle.basics.specs.Pick.{pick}
use Rattle.busy.specs.Sums.{raised}
use Rattle.machine_run.specs.Ready.{counted_by}
use Rattle.machine_run.proofs.going.raise_made.Goals as goal

pub returns-then-made_by-eq1 : goal.returns-then-made_by-eq1
unfolding counted_by raised pick
returns-then-made_by-eq1 c = rw (← c.made_by.ensures, eq-eqb _ _ c.if-made_by-eq1.true) refl

pub returns-else-made_by-eq1 : goal.returns-else-made_by-eq1
unfolding counted_by pick
returns-else-made_by-eq1 c = rw (← c.made_by.ensures, ne_eqb _ _ c.if-made_by-eq1.false) refl
