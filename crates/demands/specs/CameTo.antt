-- What a fresh run of a patch leaves, and what any number of runs taken up from it do, with the steps that they answered. Assumes nothing.
use Rattle.std.specs.Prelude.{◌≡◌, true, ◌&&◌, List, ℕ, ◌+◌, eqb}
use Rattle.ops.specs.Patch.{patch_of}
use Rattle.machine.specs.Calls.{Slices, Tallied, lent, can_begin, run_call, fresh_call}
use Rattle.machine.specs.declared.machine.Machine.{Machine}

-- a fresh run of the file s that was not refused before its steps; a run of what was come to, with any input and budget, also one that is refused; and the same machine
-- among other slices with the counts that were left. The number is that of the steps answered in all
pub data CameTo (s : List ℕ) : Tallied → ℕ → Type 0 where
  by_fresh : (input : List ℕ) (budget mode : ℕ) (l : Slices) → (eqb (patch_of s).number 0 && can_begin s mode l) ≡ true
      → CameTo s (fresh_call s input budget mode l).left (fresh_call s input budget mode l).steps
  by_run : (w : Tallied) (k : ℕ) (input : List ℕ) (budget : ℕ) → CameTo s w k → CameTo s (run_call s input budget w).left (k + (run_call s input budget w).steps)
  lent_anew : (m : Machine) (l n : Slices) (k : ℕ) → CameTo s (lent m l) k → n.tally ≡ l.tally → CameTo s (lent m n) k
