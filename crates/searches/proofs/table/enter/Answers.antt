-- `searches::table::enter` meets its contract. Assumes nothing.
use mathlib.Core.Path.{◌≡◌, ◌∙◌, sym}
use lib.ListN.{take}
use Prim.Native.Nat.{ℕ}
use Rattle.std.specs.Prelude.{Result, Err}
use Rattle.searches.specs.Found.{sought_in}
use Rattle.searches.proofs.Tables.{entered_there, entered_full, counted_new}
use Rattle.searches.proofs.table.enter.Goals as goal
use Rattle.searches.proofs.table.enter.Goals.{In-Err}

-- what the search said in the arm where the place is missing
missing : (c : In-Err) → let a = c.args in
    ◌≡◌ {A = Result ℕ ℕ} (Err c.in-Err.at) (sought_in a.v (take a.n a.table.now))
missing c = sym c.in-Err.is ∙ c.seek.ensures

pub returns-then-table-n : goal.returns-then-table-n
returns-then-table-n c = entered_full _ _ _ c.requires _ (missing (goal.at.returns-then-table-n c).In-Err) c.if-table-n.true

pub returns-in-Ok : goal.returns-in-Ok
returns-in-Ok c = entered_there _ _ _ c.requires _ (sym c.in-Ok.is ∙ c.seek.ensures)

pub returns-else-table-n : goal.returns-else-table-n
returns-else-table-n c =
    let pre = c.requires in
    (counted_new _ _ _ pre _ (missing (goal.at.returns-else-table-n c).In-Err) c.if-table-n.false, c.insert.ensures.1)
