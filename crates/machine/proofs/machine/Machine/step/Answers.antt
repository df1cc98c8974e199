-- `machine::machine::Machine::step` meets its contract. Assumes nothing.
use Rattle.machine.proofs.StepIsARun.{none_made, one_made}
use Rattle.machine.proofs.machine.Machine.step.Goals as goal
use Rattle.machine.proofs.machine.Machine.step.Goals.{then-ran-eq0, else-ran-eq0}

pub returns : goal.returns
returns c =
    elim c.if-ran-eq0.branch [
      | then-ran-eq0 w ↦ rw w.answer-is (none_made _ _ _ _ c.run-ran.ensures w.if-ran-eq0.true)
      | else-ran-eq0 w ↦ rw w.answer-is (one_made _ _ _ _ c.run-ran.ensures w.if-ran-eq0.false)
    ]
