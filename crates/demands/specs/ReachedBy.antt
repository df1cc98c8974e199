-- What a machine and its slices hold after public calls on a patch. Assumes nothing.
use Rattle.std.specs.Prelude.{◌≡◌, true, List, ℕ, length}
use Rattle.bridge.specs.View.{view}
use Rattle.bridge.specs.Decoded.{code_of}
use Rattle.states.specs.Formed.{has_room}
use Rattle.machine.specs.Calls.{Slices, Tallied, lent, step_call, run_call, fresh_call}
use Rattle.machine.specs.declared.machine.Machine.{Machine}

-- what a fresh run of the file s leaves that was lent a count for each op, and what a run or a step leaves of what was reached before it, with any input; and the same machine
-- among other slices, as more room for outputs, in which the same is seen
pub data ReachedBy (s : List ℕ) : Tallied → Type 0 where
  after_fresh : (input : List ℕ) (budget mode : ℕ) (l : Slices) → length l.tally ≡ length (code_of s).rows → ReachedBy s (fresh_call s input budget mode l).left
  after_run : (w : Tallied) (input : List ℕ) (budget : ℕ) → ReachedBy s w → ReachedBy s (run_call s input budget w).left
  after_step : (w : Tallied) (input : List ℕ) → ReachedBy s w → ReachedBy s (step_call s input w).left
  lent_anew : (m : Machine) (l n : Slices) → ReachedBy s (lent m l) → has_room l.register l.table l.channel ≡ true
      → view (lent m n).held ≡ view (lent m l).held → ReachedBy s (lent m n)
