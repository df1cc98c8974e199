-- `lane_loops::loops::copy_lanes` meets its contract. Assumes nothing.
use Rattle.std.proofs.Common.{◌≡◌, ℕ, rules, refl, ap, ◌∙◌, arith}
use Rattle.lane_loops.specs.Loops.{zip_to, beside}
use Rattle.lane_loops.proofs.LaneLoops.{zip_again}
use Rattle.lane_loops.proofs.loops.copy_lanes.Goals as goal

pub loop-at-init : goal.loop-at-init
unfolding zip_to
loop-at-init c = (refl, refl)

pub loop-at-preserved : goal.loop-at-preserved
loop-at-preserved c = (search rules, zip_again beside _ _ _ _ _ c.loop-at.invariant.1 refl (search rules) (search rules))

pub returns : goal.returns
returns c = let a = c.args in let e : c.loop-at.at ≡ a.n = omega arith in c.loop-at.invariant.1 ∙ ap (λ (k : ℕ). zip_to beside k a.to.now a.from.now) e
