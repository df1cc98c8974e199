-- `check::check_ops` meets its contract. Assumes nothing.
use Rattle.patch_check.proofs.CheckLoop.{Checking}
use Rattle.patch_check.proofs.check.check_ops.Given as goal

abbrev pub invariant-loop-op : goal.invariant-loop-op
invariant-loop-op l = Checking l.rows l.counts l.known l.depth l.outermost l.op
