-- `flattening::flatten::write_entries` meets its contract. Assumes nothing.
use Rattle.std.proofs.Common.{arith}
use Rattle.flattening.proofs.Entries.{over_none, over_more}
use Rattle.flattening.proofs.flatten.write_entries.Goals as goal

pub loop-i-init : goal.loop-i-init
loop-i-init c = over_none c.args.columns.now _

pub loop-i-preserved : goal.loop-i-preserved
loop-i-preserved c = over_more c.args.columns.now _ _ _ _ (omega arith) c.loop-i.invariant c.body_at.ensures
