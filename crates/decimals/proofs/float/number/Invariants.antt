-- `decimals::float::number` meets its contract. Assumes nothing.
use Rattle.decimals.proofs.Reading.{Adding}
use Rattle.decimals.proofs.float.number.Given as goal

abbrev pub invariant-loop-i : goal.invariant-loop-i
invariant-loop-i l = Adding l.input l.from l.to l.a l.n l.i
