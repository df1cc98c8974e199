-- `states::formed::table_names` meets its contract. Assumes nothing.
use mathlib.Core.Path.{◌≡◌}
use Rattle.states.specs.Formed.{names_from, table_names}
use Rattle.states.proofs.Entries.{left}
use Rattle.states.proofs.formed.table_names.Given as goal

abbrev pub invariant-loop-i : goal.invariant-loop-i
invariant-loop-i l = table_names l.table l.n l.rows ≡ names_from l.rows l.least (left l.table l.n l.i)
