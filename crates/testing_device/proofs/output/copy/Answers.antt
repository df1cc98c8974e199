-- `testing_device::output::copy` meets its contract. Assumes nothing.
use Rattle.std.proofs.Common.{refl, ◌∙◌, add-one, arith, length-set}
use lib.Seq.{paste-zero, paste-suc}
use Rattle.testing_device.proofs.Outputs.{placed_all}
use Rattle.testing_device.proofs.output.copy.Goals as goal

pub loop-i-init : goal.loop-i-init
loop-i-init c = let a = c.args in (paste-zero a.output.now a.count a.values.now, refl)

pub loop-i-preserved : goal.loop-i-preserved
loop-i-preserved c =
    let a = c.args in let at = c.loop-i in (
      rw (add-one, at.invariant.0) (paste-suc a.output.now a.count a.values.now at.i 0 (omega arith) (omega arith)),
      simp length-set at.invariant.1,
    )

pub returns : goal.returns
returns c =
    let a = c.args in let at = c.loop-i in
    at.invariant.0 ∙ placed_all a.values.now a.output.now a.count at.i (omega arith)
