-- The ops that a patch file can hold: what its numbers 5, 7 and 8 see to, and values of 8 bytes. Assumes nothing.
use Rattle.std.specs.Prelude.{ℕ, suc, ◌≤◌, Bool, true, false, List, [], ◌∷◌, length}
use Rattle.ops.specs.Syntax.{Op}
use Rattle.ops.specs.Write.{Fits}
use Rattle.machine_model.specs.State.{most_ops, most_marks}
use Rattle.machine_model.specs.Scan.{op_at, functions}

-- how many of the tests are true
abbrev pub count : List Bool → ℕ
count [] = 0
count (true ∷ bs) = suc (count bs)
count (false ∷ bs) = count bs

-- "4,096 ops; 256 Function marks", and of each op what a record can hold: "1,024 lanes", values of 64 bits, "Comment 0 to 255 bytes"
pub record Limited (os : List Op) : Type 0 where
  pub few_ops : length os ≤ most_ops
  pub few_marks : count (functions os) ≤ most_marks
  pub each : (i : ℕ) → Fits (op_at os i)
