-- The run as 01-scope.md has it, before 02's ask 8: "Each op, comments included, is one step". It is here to compare with. Assumes nothing.
use Rattle.std.specs.Prelude.{ℕ, zero, suc}
use Rattle.machine_model.specs.State.{State, Given}
use Rattle.machine_model.specs.Step.{Outcome, bar, lack, pick, step}
use Rattle.machine_model.specs.Step.Outcome.{finished, refused, next}
use Rattle.machine_model.specs.Run.{Answer, answer}

unfoldable pub drive_counting : Given → ℕ → ℕ → State → Outcome → Answer
drive_counting g zero k s finished = answer 0 0 k s
drive_counting g zero k s (refused n l) = answer 50 0 k s
drive_counting g zero k s (next t) = answer 50 0 k s
drive_counting g (suc b) k s finished = answer 0 0 k s
drive_counting g (suc b) k s (refused n l) = answer n l k s
drive_counting g (suc b) k s (next t) = drive_counting g b (suc k) t (step g t)

unfoldable pub run_counting : Given → ℕ → State → Answer
unfolding drive_counting step bar lack pick
run_counting g b s = drive_counting g b 0 s (step g s)
