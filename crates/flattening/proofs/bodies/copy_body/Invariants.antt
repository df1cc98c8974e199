-- `flattening::bodies::copy_body` meets its contract. Assumes nothing.
use Rattle.flattening.proofs.Copying.{Copying}
use Rattle.flattening.proofs.bodies.copy_body.Given as goal

abbrev pub invariant-loop-mine : goal.invariant-loop-mine
invariant-loop-mine l = Copying l.bytes l.owner l.number l.initial.out l.at l.out l.from l.next l.ops l.mine-index
