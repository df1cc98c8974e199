-- `searches::table::insert` meets its contract: after each turn the `moved` entries from i on stand one place higher. Assumes nothing.
use mathlib.Core.Path.{◌≡◌}
use Prim.Native.Nat.{◌+◌, ◌≤◌}
use Rattle.searches.proofs.Tables.{raised}
use Rattle.searches.proofs.table.insert.Given as goal

abbrev pub invariant-loop-i : goal.invariant-loop-i
invariant-loop-i l = (l.at ≤ l.i) × (l.moved + l.i ≡ l.n) × (l.table ≡ raised l.i l.n l.initial.table)
