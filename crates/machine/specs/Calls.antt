-- The public calls: what each answers, and all that it leaves, through the model's step and run on what is seen of the machine. Assumes nothing.
use Rattle.std.specs.Prelude.{Bool, cond, ◌&&◌, List, ℕ, ◌+◌, length, leb, eqb}
use Rattle.basics.specs.Limits as limit
use Rattle.ops.specs.Patch.{patch_of}
use Rattle.answers.specs.declared.run.Answer.{Answer}
use Rattle.answers.specs.declared.run.Answer.TheVariants.{BadFile, NotAState, Went, Finished, Spent, Refused}
use Rattle.machine_model.specs.State.{Given}
use Rattle.machine_model.specs.Step.{Outcome, step}
use Rattle.machine_model.specs.Step.Outcome.{finished, refused, next}
use Rattle.busy.specs.Sums.{most_steps, raised, allowed, adds_up}
use Rattle.busy.specs.Tally.{run_counts}
use Rattle.machine_step.specs.Held.{Held, held}
use Rattle.bridge.specs.View.{view, lay}
use Rattle.bridge.specs.Decoded.{code_of, given_to}
use Rattle.bridge.specs.Run.{Ran, ran, passed_in, run_laid}
use Rattle.states.specs.Formed.{can_start, is_formed}
use Rattle.states.specs.Zeros.{zeroed}
use Rattle.machine.specs.Fresh.{fresh_of}
use Rattle.machine.specs.declared.machine.Machine.{Machine}
use Rattle.machine.specs.declared.machine.Stepped.{Stepped}
use Rattle.machine.specs.declared.machine.Ran as code

-- the slices that a call is lent and may change; 02, ask 11: the last is "a lent count for each op"
pub record Slices : Type 0 where
  pub register : List ℕ
  pub tape : List ℕ
  pub table : List ℕ
  pub channel : List ℕ
  pub output : List ℕ
  pub tally : List ℕ

abbrev pub slices : List ℕ → List ℕ → List ℕ → List ℕ → List ℕ → List ℕ → Slices
slices g t ts ch o cs = record { register = g; tape = t; table = ts; channel = ch; output = o; tally = cs }

-- "The state gains its step total since fresh and a lent count for each op": what the steps work on, the total, and the counts
pub record Tallied : Type 0 where
  pub held : Held
  pub total : ℕ
  pub tally : List ℕ

abbrev pub tallied : Held → ℕ → List ℕ → Tallied
tallied c total cs = record { held = c; total = total; tally = cs }

-- a machine among the slices that it is lent
abbrev pub lent : Machine → Slices → Tallied
lent m l = tallied (held m.numbers m.calls m.refs l.register l.tape l.table l.channel l.output) m.total l.tally

-- "Every public call reads the patch first, then 37, then works": the file's refusal, 37 where the test fails, else the work
abbrev pub calling : {A : Type 0} → List ℕ → Bool → (Answer → A) → A → A
calling s test refuse work =
    cond (eqb (patch_of s).number 0) (cond test work (refuse NotAState)) (refuse (BadFile (patch_of s).number (patch_of s).place))

-- what 37 tests: a well-formed state of the patch s, and counts that are one per op and add up to the total
abbrev pub is_state : List ℕ → List ℕ → Tallied → Bool
is_state s input w = is_formed (code_of s).rows (length input) w.held && adds_up (code_of s).rows w.tally w.total

-- ---- a step

-- what a step leaves: its answer, and all that there is
pub record Shown : Type 0 where
  pub answer : Answer
  pub left : Tallied

abbrev pub shown : Answer → Tallied → Shown
shown a w = record { answer = a; left = w }

-- the model's outcome, laid over what the step found: a refused step leaves all as it found it, and the comments after a step are passed too, since
-- it is a run of at most one. 02, ask 11: a step that is made raises the count of its op and the total; "a total equal to that ends a run with 50, in
-- the budget's place"
abbrev pub shown_of : Given → Tallied → Outcome → Shown
shown_of g w finished = shown Finished w
shown_of g w (refused n l) = shown (cond (leb most_steps w.total) Spent (Refused n l)) w
shown_of g w (next s) =
    cond (leb most_steps w.total) (shown Spent w)
    (shown Went (tallied (passed_in g (lay s w.held)) (w.total + 1) (raised w.tally w.held.numbers.position)))

-- 02, ask 8: what a step finds is all that is held, with the comments at the position passed
abbrev pub step_laid : List ℕ → List ℕ → Tallied → Shown
step_laid s input w =
    let g = given_to s input w.held in
    let c = passed_in g w.held in shown_of g (tallied c w.total w.tally) (step g (view c))

unfoldable pub step_call : List ℕ → List ℕ → Tallied → Shown
unfolding step passed_in
step_call s input w = calling s (is_state s input w) (λ a. shown a w) (step_laid s input w)

abbrev pub stepped_to : Stepped → Slices → Shown
stepped_to r l = shown r.answer (lent r.machine l)

-- ---- a run of at most b steps: "Refused before any step, a run changes nothing"

-- what a run leaves: its answer, the steps made, and all that there is
pub record Ended : Type 0 where
  pub answer : Answer
  pub steps : ℕ
  pub left : Tallied

abbrev pub ended : Answer → ℕ → Tallied → Ended
ended a k w = record { answer = a; steps = k; left = w }

-- the run in it, without total and counts
abbrev pub run_in : Ended → Ran
run_in a = ran a.answer a.steps a.left.held

-- the run of 01 with the steps that the total allows; the total grows by the steps made, and each count by those made of its op
abbrev pub tally_run : List ℕ → List ℕ → ℕ → Tallied → Ended
tally_run s input b w =
    let g = given_to s input w.held in
    let n = allowed b w.total in
    let r = run_laid g n w.held in
    ended r.answer r.steps (tallied r.held (w.total + r.steps) (run_counts g n (view w.held) w.tally))

unfoldable pub run_call : List ℕ → List ℕ → ℕ → Tallied → Ended
unfolding run_laid
run_call s input b w = calling s (is_state s input w) (λ a. ended a 0 w) (tally_run s input b w)

abbrev pub ran_to : code.Ran → Slices → Ended
ran_to r l = ended r.answer r.steps (lent r.machine l)

-- ---- the fresh run

-- what is tested of a fresh run: the call mode, the lent room, and that "the counts are one per op"
abbrev pub can_begin : List ℕ → ℕ → Slices → Bool
can_begin s mode l = can_start mode l.register l.table l.channel && eqb (length l.tally) (length (code_of s).rows)

-- "The fresh run, if nothing is refused before its steps, first writes zeros to the lent tape", to the 1,024 lanes and, 02, ask 11, to the counts
abbrev pub fresh_on : ℕ → Slices → Tallied
fresh_on mode l =
    lent (fresh_of mode)
    (slices (zeroed limit.lanes l.register) (zeroed (length l.tape) l.tape) l.table l.channel l.output (zeroed (length l.tally) l.tally))

unfoldable pub fresh_call : List ℕ → List ℕ → ℕ → ℕ → Slices → Ended
unfolding run_laid
fresh_call s input b mode l =
    calling s (can_begin s mode l) (λ a. ended a 0 (lent (fresh_of mode) l)) (tally_run s input b (fresh_on mode l))
