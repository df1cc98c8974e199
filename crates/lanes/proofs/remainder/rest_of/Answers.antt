-- `lanes::remainder::rest_of` meets its contract. Assumes nothing.
use Rattle.std.proofs.Common.{arith}
use Rattle.lanes.proofs.Steps.{some_zeros}
use Rattle.lanes.proofs.remainder.rest_of.Goals as goal

pub loop-left-preserved : goal.loop-left-preserved
loop-left-preserved c =
    let v = c.loop-left.invariant in
    record {
      done = some_zeros c.args.m c.args.k c.loop-left.left _ c.args.n c.loop-left.rest c.requires.n_nonzero c.requires.n_bound v.within (omega arith) (omega arith) v.done;
      within = omega arith;
    }
