-- A run: steps until the machine is finished, the budget is spent or a step is refused. Before the tests of each step the comments at the position
-- are passed, and are no step: so 02, ask 8, corrects 01's "Each op, comments included, is one step". Assumes nothing.
use Rattle.std.specs.Prelude.{ℕ, zero, suc}
use Rattle.machine_model.specs.State.{State, Given}
use Rattle.machine_model.specs.Step.{Outcome, bar, lack, pick, step}
use Rattle.machine_model.specs.Step.Outcome.{finished, refused, next}
use Rattle.machine_model.specs.Passed.{passed}

-- number, steps made and place as in the table 'Numbers given back', the lane of 02's ask 3, and the state that is left
pub record Answer : Type 0 where
  pub number : ℕ
  pub lane : ℕ
  pub steps : ℕ
  pub place : ℕ
  pub state : State

-- the place is that of the next op, or of the refused one: the position
abbrev pub answer : ℕ → ℕ → ℕ → State → Answer
answer n l k s = record { number = n; lane = l; steps = k; place = s.at; state = s }

-- b steps may still be made, k are made, the comments at the position of s are passed, and o is what a step from s gives: "halted or at the end
-- gives 0; steps equal to budget gives 50", before any refusal; "refused at a step, earlier steps stand". 02, ask 8: "Once passed it stays passed:
-- the position after it stands, also where the next op is refused or gives 50"
unfoldable pub drive : Given → ℕ → ℕ → State → Outcome → Answer
drive g zero k s finished = answer 0 0 k s
drive g zero k s (refused n l) = answer 50 0 k s
drive g zero k s (next t) = answer 50 0 k s
drive g (suc b) k s finished = answer 0 0 k s
drive g (suc b) k s (refused n l) = answer n l k s
drive g (suc b) k s (next t) = drive g b (suc k) (passed g t) (step g (passed g t))

-- a run of at most b steps from the state s
unfoldable pub run : Given → ℕ → State → Answer
unfolding drive step bar lack pick passed
run g b s = drive g b 0 (passed g s) (step g (passed g s))
