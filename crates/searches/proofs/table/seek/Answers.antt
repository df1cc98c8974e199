-- `searches::table::seek` meets its contract. Assumes nothing.
use mathlib.Core.Logic.{⊎_elim}
use Prim.Native.Nat.{◌-◌}
use native.Mathlib.Omega.{arith}
use Rattle.searches.proofs.Tables.{within, turns, found_missing, searched_is}
use Rattle.searches.proofs.table.seek.Goals as goal
use Rattle.searches.proofs.table.seek.Goals.{then-n-eq0-via-then-n-eq0, then-n-eq0-via-else-n-eq0+then-table-n}

pub returns-then-n-eq0 : goal.returns-then-n-eq0
returns-then-n-eq0 c =
    let a = c.args in
    let room = within a.v a.n a.table.now c.requires in
    elim c.then-n-eq0.branch [
      | then-n-eq0-via-then-n-eq0 w ↦ found_missing _ _ _ c.requires _ (omega arith) (λ h e. omega arith)
      | then-n-eq0-via-else-n-eq0+then-table-n w ↦
          let last = turns a.v a.n a.table.now c.requires (a.n - 1) (omega arith) in
          found_missing _ _ _ c.requires _ (⊎_elim (λ u. omega arith) (λ u. omega arith) last) (λ h e. omega arith)
    ]

pub returns : goal.returns
returns c = searched_is _ _ _ c.requires _ c.binary_search.ensures.position
