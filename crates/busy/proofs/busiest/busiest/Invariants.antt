-- `busy::busiest::busiest` meets its contract. Assumes nothing.
use Prim.Native.Nat.{◌≤◌, ◌-◌}
use mathlib.Core.Path.{◌≡◌}
use lib.ListN.{length, take, drop}
use Rattle.busy.specs.Busiest.{blanks, listed, unlisted, ranked}
use Rattle.busy.proofs.busiest.busiest.Given as goal

abbrev pub invariant-loop-i : goal.invariant-loop-i
invariant-loop-i l =
    (l.b.n ≤ 10) × (length l.b.ops ≡ 10) × (listed l.b ≡ take 10 (ranked l.i (drop l.i l.counts))) × (unlisted l.b ≡ blanks (10 - l.b.n))
