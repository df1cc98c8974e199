-- `busy::sums::adds_up` meets its contract. Assumes nothing.
use Prim.Native.Nat.{◌≤◌}
use mathlib.Core.Path.{◌≡◌}
use lib.ListN.{length}
use Rattle.busy.specs.Sums.{most_steps, adds_up}
use Rattle.busy.proofs.Adding.{adds_from}
use Rattle.busy.proofs.sums.adds_up.Given as goal

abbrev pub invariant-loop-k : goal.invariant-loop-k
invariant-loop-k l =
    (l.sum ≤ most_steps) × (adds_up l.rows l.counts l.total ≡ adds_from l.rows l.counts l.total (length l.yielded) l.sum)
