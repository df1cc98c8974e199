-- What is left is that of m with the zeros that were put at its end. Assumes nothing.
use Rattle.std.proofs.Common.{◌≡◌, ◌-◌, ◌*◌, ◌%◌, ◌^◌, ◌≤◌}
use Rattle.lanes.proofs.remainder.rest_of.Given as goal

abbrev pub invariant-loop-left : goal.invariant-loop-left
invariant-loop-left l = record { done : l.rest ≡ l.m * 2 ^ (l.k - l.left) % l.n; within : l.left ≤ l.k }

abbrev pub decreases-loop-left : goal.decreases-loop-left
decreases-loop-left l = l.left
