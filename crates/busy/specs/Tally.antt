-- 02, ask 11: "The state gains its step total since fresh and a lent count for each op, starting at zero and raised with that op's execution; comments stay
-- at zero." The run itself stays as it is; this is what becomes of the counts. The total grows by the steps that the run answers. Assumes nothing.
use Rattle.std.specs.Prelude.{◌≡◌, Bool, true, false, List, [], ◌∷◌, ℕ, zero, suc, ◌+◌, ◌≤◌, length, get_or}
use Rattle.ops.specs.Syntax.{Op}
use Rattle.machine_model.specs.State.{State, Given}
use Rattle.machine_model.specs.Step.{Outcome, step}
use Rattle.machine_model.specs.Step.Outcome.{finished, refused, next}
use Rattle.machine_model.specs.Passed.{comments, passed}
use Rattle.busy.specs.Sums.{most_steps, raised, sum}

-- b steps may still be made, the comments at the position of s are passed, and o is what a step from s gives, as in `drive`: a step that is made raises the
-- count of the op at the position, one that is refused raises none
unfoldable pub drive_counts : Given → ℕ → State → Outcome → List ℕ → List ℕ
drive_counts g zero s o cs = cs
drive_counts g (suc b) s finished cs = cs
drive_counts g (suc b) s (refused n l) cs = cs
drive_counts g (suc b) s (next t) cs = drive_counts g b (passed g t) (step g (passed g t)) (raised cs s.at)

-- the counts that a run of at most b steps from the state s leaves of cs
unfoldable pub run_counts : Given → ℕ → State → List ℕ → List ℕ
unfolding drive_counts step passed
run_counts g b s cs = drive_counts g b (passed g s) (step g (passed g s)) cs

-- the counts of the ops that are not comments, added up; the first list says which are
abbrev pub worked : List Bool → List ℕ → ℕ
worked [] cs = 0
worked (b ∷ bs) [] = 0
worked (true ∷ bs) (c ∷ cs) = worked bs cs
worked (false ∷ bs) (c ∷ cs) = c + worked bs cs

-- of a patch with the ops os, counts and total that belong to a state: what 37 tests
pub record AddsUp (os : List Op) (counts : List ℕ) (total : ℕ) : Type 0 where
  pub each : length counts ≡ length os
  pub rest : (i : ℕ) → get_or (comments os) i false ≡ true → get_or counts i 0 ≡ 0
  pub summed : sum counts ≡ total
  pub within : total ≤ most_steps
