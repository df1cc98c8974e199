-- The list has the first i entries, and keeps the rest.
use Rattle.std.proofs.Common.{◌≡◌}
use Rattle.flattening.specs.Entries.{entries_in, over}
use Rattle.flattening.proofs.flatten.write_entries.Given as goal

abbrev pub invariant-loop-i : goal.invariant-loop-i
invariant-loop-i l = l.bodies ≡ over (entries_in l.columns l.i) l.initial.bodies
