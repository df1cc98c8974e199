-- `flattening::bodies::write_bodies` meets its contract. Assumes nothing.
use Rattle.flattening.specs.Flattened.{ops_in}
use Rattle.flattening.proofs.Writing.{Writing}
use Rattle.flattening.proofs.bodies.write_bodies.Given as goal

abbrev pub invariant-loop-b : goal.invariant-loop-b
invariant-loop-b l =
    Writing l.owner (ops_in l.bytes) l.seen l.initial.out l.initial.numbers l.initial.firsts l.initial.counts l.out l.numbers l.firsts l.counts l.at l.first l.n l.b
