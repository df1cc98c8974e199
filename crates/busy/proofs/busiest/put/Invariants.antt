-- `busy::busiest::put` meets its contract. Assumes nothing.
use Prim.Native.Nat.{◌-◌}
use mathlib.Core.Path.{◌≡◌}
use lib.ListN.{length, take, drop}
use Rattle.busy.specs.Busiest.{insert, blanks}
use Rattle.busy.proofs.Insertion.{sifted}
use Rattle.busy.proofs.busiest.put.Given as goal

abbrev pub invariant-loop-i : goal.invariant-loop-i
invariant-loop-i l =
    (length l.ops ≡ 10) × (insert l.initial.x (take l.n l.initial.ops) ≡ sifted l.ops l.n l.x l.i) × (drop l.n l.ops ≡ blanks (10 - l.n))
