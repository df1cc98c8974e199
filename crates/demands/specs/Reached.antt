-- The states that runs of a patch come to. Assumes nothing.
use Rattle.std.specs.Prelude.{ℕ, List}
use Rattle.ops.specs.Syntax.{Op}
use Rattle.machine_model.specs.State.{State, fresh}
pub use Rattle.machine_model.specs.State.{given}
use Rattle.machine_model.specs.Run.{run}

-- the fresh state, and what a run leaves, from a state that was reached: a budget spent and taken up again, in any mode, with any input and any room
pub data Reached (os : List Op) : State → Type 0 where
  at_first : (cells : ℕ) → Reached os (fresh cells)
  run_on : (s : State) (mode : ℕ) (input : List ℕ) (room budget : ℕ) → Reached os s → Reached os (run (given os mode input room) budget s).state
