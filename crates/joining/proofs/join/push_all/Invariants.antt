-- `joining::join::push_all` meets its contract. Assumes nothing.
use Prim.Native.Nat.{◌≤◌}
use mathlib.Core.Path.{◌≡◌}
use Rattle.joining.specs.Stack.{stack, after}
use Rattle.joining.proofs.join.push_all.Given as goal

-- i ops are pushed
abbrev pub invariant-loop-i : goal.invariant-loop-i
invariant-loop-i l = record {
  few : l.left.n ≤ l.i;
  same : stack l.left ≡ after l.source.bytes.now l.source.rows.now l.source.counts.now l.i;
}
