-- The digits go up as the place goes down. Assumes nothing.
use Rattle.std.proofs.Common.{◌≡◌, ◌*◌, ◌^◌, ◌<◌, ◌≤◌}
use Rattle.lanes.proofs.remainder.pattern_of.Given as goal

abbrev pub invariant-loop-at : goal.invariant-loop-at
invariant-loop-at l = record { same : l.d * 2 ^ l.at ≡ l.m * 2 ^ l.k; short : l.d < 2 ^ 53; within : l.at ≤ l.k }

abbrev pub decreases-loop-at : goal.decreases-loop-at
decreases-loop-at l = l.at
