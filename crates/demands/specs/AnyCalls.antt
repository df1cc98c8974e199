-- The states that any runs from fresh come to, and the machines that any calls hand back: each run and each call with a patch, an input, slices and a
-- budget of its own. Assumes nothing.
use Rattle.std.specs.Prelude.{◌≡◌, List, ℕ}
use Rattle.machine_model.specs.State.{State, Given, fresh}
use Rattle.machine_model.specs.Run.{run}
use Rattle.machine.specs.Calls.{Slices, lent, step_call, stepped_to, run_call, ran_to, fresh_call}
use Rattle.machine.specs.declared.machine.Machine.{Machine}
use Rattle.machine.specs.declared.machine.Stepped.{Stepped}
use Rattle.machine.specs.declared.machine.Ran as code

-- on the model: the fresh state, and what a run leaves of a state that was come to
pub data FromFresh : State → Type 0 where
  at_first : (cells : ℕ) → FromFresh (fresh cells)
  run_on : (s : State) (g : Given) (budget : ℕ) → FromFresh s → FromFresh (run g budget s).state

-- of the code: what a fresh run hands back, and what a run or a step does of a machine that was handed back; r meets the call's contract
pub data HandedBack : Machine → Type 0 where
  by_fresh : (s input : List ℕ) (budget mode : ℕ) (l n : Slices) (r : code.Ran) → ran_to r n ≡ fresh_call s input budget mode l → HandedBack r.machine
  by_run : (m : Machine) (s input : List ℕ) (budget : ℕ) (l n : Slices) (r : code.Ran) → HandedBack m → ran_to r n ≡ run_call s input budget (lent m l)
      → HandedBack r.machine
  by_step : (m : Machine) (s input : List ℕ) (l n : Slices) (r : Stepped) → HandedBack m → stepped_to r n ≡ step_call s input (lent m l)
      → HandedBack r.machine
