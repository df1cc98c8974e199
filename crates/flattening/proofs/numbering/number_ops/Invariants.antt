-- `flattening::numbering::number_ops` meets its contract. Assumes nothing.
use Rattle.flattening.proofs.NumberingLoop.{Scoped}
use Rattle.flattening.proofs.numbering.number_ops.Given as goal

abbrev pub invariant-loop-i : goal.invariant-loop-i
invariant-loop-i l = Scoped l.rows l.numbering.owner l.numbering.seen l.scope l.count l.i
