-- `flattening::bodies::write_bodies` meets its contract. Assumes nothing.
use Rattle.std.proofs.Common.{◌+◌, ◌≤◌, ◌<◌, length, arith}
use Rattle.flattening.specs.Flatten.{body}
use Rattle.flattening.specs.Flattened.{ops_in, functions}
use Rattle.flattening.proofs.Writing.{begin, over, bytes_fit, ops_few, entry_fits, on, count_is, main_fits, out_is, numbers_are, firsts_are, counts_are}
use Rattle.flattening.proofs.bodies.write_bodies.Goals as goal
use Rattle.flattening.proofs.bodies.write_bodies.Goals.{After-copy_body-copied}

-- the ops of the body b are no more than there may be
few : (c : After-copy_body-copied) → c.loop-b.first + length (body c.loop-b.b c.args.owner.now (ops_in c.args.bytes.now)) ≤ 4096
few c = search ops_few

-- and its entry has room
fits : (c : After-copy_body-copied) → c.loop-b.n < length (functions c.args.seen.now)
fits c = search entry_fits

pub loop-b-init : goal.loop-b-init
loop-b-init c = search begin

pub loop-b-preserved-then-not-seen-b : goal.loop-b-preserved-then-not-seen-b
loop-b-preserved-then-not-seen-b c = search over

pub copy_body-copied-requires-clause-room : goal.copy_body-copied-requires-clause-room
copy_body-copied-requires-clause-room c = search bytes_fit

pub bounds-numbers-n : goal.bounds-numbers-n
bounds-numbers-n c = omega (arith, fits (goal.at.bounds-numbers-n c).After-copy_body-copied)

pub bounds-firsts-n : goal.bounds-firsts-n
bounds-firsts-n c = omega (arith, fits (goal.at.bounds-firsts-n c).After-copy_body-copied)

pub overflow_cast-counts : goal.overflow_cast-counts
overflow_cast-counts c = omega (arith, few (goal.at.overflow_cast-counts c).After-copy_body-copied)

pub bounds-counts-n : goal.bounds-counts-n
bounds-counts-n c = omega (arith, fits (goal.at.bounds-counts-n c).After-copy_body-copied)

pub overflow_add-first : goal.overflow_add-first
overflow_add-first c = omega (arith, few (goal.at.overflow_add-first c).After-copy_body-copied)

pub loop-b-preserved : goal.loop-b-preserved
loop-b-preserved c = search on

pub copy_body-requires-clause-room : goal.copy_body-requires-clause-room
copy_body-requires-clause-room c = search main_fits

pub returns : goal.returns
returns c = record {
  value = search count_is;
  out_after = search out_is;
  numbers_after = search numbers_are;
  firsts_after = search firsts_are;
  counts_after = search counts_are;
}
