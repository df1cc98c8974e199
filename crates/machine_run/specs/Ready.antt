-- A patch that is read, a state that is well formed and counts that can be raised, and where its steps end. Assumes nothing.
use Rattle.std.specs.Prelude.{◌≡◌, Bool, ◌||◌, List, map, ℕ, ◌+◌, ◌≤◌, ◌<◌, leb, eqb, length, get_or}
use Rattle.basics.specs.Pick.{pick}
use Rattle.answers.specs.declared.run.Answer.{Answer}
use Rattle.answers.specs.declared.run.Answer.TheVariants.{Finished, Refused}
use Rattle.ops.specs.Patch.{patch_of, row_in, count_in, need_in, payload_in}
use Rattle.busy.specs.Sums.{most_steps, raised, sum}
use Rattle.machine_numbers.specs.Numbers.{done, halting, number_in, lane_in}
use Rattle.machine_numbers.specs.declared.numbers.Numbers.{Numbers}
use Rattle.machine_step.specs.Held.{Held, Code}
use Rattle.bridge.specs.Decoded.{code_of}
use Rattle.bridge.specs.Fits.{Fits}

-- the file s is good, and these are the columns of its ops
pub record IsLoaded (s ks ns ds ps : List ℕ) : Type 0 where
  pub good : (patch_of s).number ≡ 0
  pub rows : ks ≡ map row_in (patch_of s).items
  pub counts : ns ≡ map count_in (patch_of s).items
  pub needs : ds ≡ map need_in (patch_of s).items
  pub payloads : ps ≡ map payload_in (patch_of s).items

-- the file s is good, and x is what is read of it
pub record IsRead (s : List ℕ) (x : Code) : Type 0 where
  pub good : (patch_of s).number ≡ 0
  pub read : x ≡ code_of s

-- and c is well formed and has room
pub record ReadyToRun (s input : List ℕ) (x : Code) (c : Held) : Type 0 where
  pub good : (patch_of s).number ≡ 0
  pub read : x ≡ code_of s
  pub fits : Fits s input c

-- there is a count for each op, and as many steps as may be made leave all of them below 2^53
pub record ReadyToCount (ks cs : List ℕ) (budget : ℕ) : Type 0 where
  pub each : length cs ≡ length ks
  pub low : sum cs + budget ≤ most_steps

-- there is a count at this place, and it can be raised
pub record CanRaise (cs : List ℕ) (i : ℕ) : Type 0 where
  pub there : i < length cs
  pub low : get_or cs i 0 < most_steps

-- halted, or past the last of n ops
unfoldable pub over_of : Numbers → ℕ → Bool
over_of p n = p.halted || leb n p.position

-- the answer of a run whose last step answers a, which is not `done`
unfoldable pub ended_by : ℕ → Answer
unfolding pick
ended_by a = pick (eqb a halting) Finished (Refused (number_in a) (lane_in a))

-- the steps that are made where a step answers a: one that goes on or halts, and none that is refused
unfoldable pub made_by : ℕ → ℕ
unfolding pick
made_by a = pick (eqb a done) 1 (pick (eqb a halting) 1 0)

-- and the counts, where that step was of the op at place i
unfoldable pub counted_by : ℕ → ℕ → List ℕ → List ℕ
unfolding pick made_by
counted_by a i cs = pick (eqb (made_by a) 1) (raised cs i) cs
