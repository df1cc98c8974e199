-- `machine_run::going::answer_of` meets its contract. Assumes nothing.
use borrow.Author.Tests.{eq-eqb, ne_eqb}
use Rattle.basics.specs.Pick.{pick}
use Rattle.machine_run.specs.Ready.{ended_by}
use Rattle.machine_run.proofs.going.answer_of.Goals as goal

pub returns-then-a-eq-HALTED : goal.returns-then-a-eq-HALTED
unfolding ended_by pick
returns-then-a-eq-HALTED c = simp (eq-eqb _ _ c.if-a-eq-HALTED.true)

pub returns : goal.returns
unfolding ended_by pick
returns c = simp (ne_eqb _ _ c.if-a-eq-HALTED.false)
