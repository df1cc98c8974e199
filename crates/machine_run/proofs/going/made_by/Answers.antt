-- `machine_run::going::made_by` meets its contract. Assumes nothing.
use mathlib.Core.Path.{refl}
use borrow.Author.Tests.{eq-eqb, ne_eqb}
use Rattle.basics.specs.Pick.{pick}
use Rattle.machine_run.specs.Ready.{made_by}
use Rattle.machine_run.proofs.going.made_by.Goals as goal

pub returns-then-a-eq-DONE : goal.returns-then-a-eq-DONE
unfolding made_by pick
returns-then-a-eq-DONE c = rw (eq-eqb _ _ c.if-a-eq-DONE.true) refl

pub returns-then-a-eq-HALTED : goal.returns-then-a-eq-HALTED
unfolding made_by pick
returns-then-a-eq-HALTED c = rw (ne_eqb _ _ c.if-a-eq-DONE.false, eq-eqb _ _ c.if-a-eq-HALTED.true) refl

pub returns : goal.returns
unfolding made_by pick
returns c = rw (ne_eqb _ _ c.if-a-eq-DONE.false, ne_eqb _ _ c.if-a-eq-HALTED.false) refl
