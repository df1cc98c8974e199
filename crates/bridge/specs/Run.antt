-- A run over what the machine holds: the model's run, laid after each step, since a later step may leave what an earlier one wrote outside
-- the counts. Assumes nothing.
use Rattle.std.specs.Prelude.{Bool, cond, ◌||◌, List, map, ℕ, zero, suc, length, drop, leb, eqb}
use Rattle.basics.specs.Pick.{pick}
use Rattle.kind_table.specs.Rows as row
use Rattle.answers.specs.Run.{number_of, place_of, lane_of}
use Rattle.answers.specs.declared.run.Answer.{Answer}
use Rattle.answers.specs.declared.run.Answer.TheVariants.{Finished, Spent, Refused}
use Rattle.machine_model.specs.State.{Given}
use Rattle.machine_model.specs.Step.{Outcome, step}
use Rattle.machine_model.specs.Step.Outcome.{finished, refused, next}
use Rattle.machine_model.specs.Passed.{past, passed}
use Rattle.machine_model.specs.Run as model
use Rattle.busy.specs.Sums.{raised}
use Rattle.machine_numbers.specs.Numbers.{at_position}
use Rattle.machine_step.specs.Held.{Held, held, Code}
use Rattle.machine_step.specs.Step.{step_of}
use Rattle.bridge.specs.View.{view, lay}

-- what a run leaves: its answer, the steps made, and all that the machine holds
pub record Ran : Type 0 where
  pub answer : Answer
  pub steps : ℕ
  pub held : Held

abbrev pub ran : Answer → ℕ → Held → Ran
ran a k c = record { answer = a; steps = k; held = c }

-- all that is held, at another position
abbrev pub standing : Held → ℕ → Held
standing c i = held (at_position c.numbers i) c.calls c.refs c.register c.tape c.table c.channel c.output

-- with the comments at its position passed, as 02's ask 8 has it
unfoldable pub passed_in : Given → Held → Held
unfolding passed
passed_in g c = standing c (passed g (view c)).at

-- b steps may still be made, k are made, the comments at the position of c are passed, and o is what the model's step gives on what is seen of c:
-- "halted or at the end gives 0; steps equal to budget gives 50", before any refusal
unfoldable pub drive_laid : Given → ℕ → ℕ → Held → Outcome → Ran
drive_laid g zero k c finished = ran Finished k c
drive_laid g zero k c (refused n l) = ran Spent k c
drive_laid g zero k c (next s) = ran Spent k c
drive_laid g (suc b) k c finished = ran Finished k c
drive_laid g (suc b) k c (refused n l) = ran (Refused n l) k c
drive_laid g (suc b) k c (next s) = drive_laid g b (suc k) (passed_in g (lay s c)) (step g (view (passed_in g (lay s c))))

unfoldable pub run_laid : Given → ℕ → Held → Ran
unfolding drive_laid passed_in
run_laid g b c = drive_laid g b 0 (passed_in g c) (step g (view (passed_in g c)))

-- what is seen of a run: 01's number and place of its answer, its lane, the steps, and the state
abbrev pub seen : Ran → model.Answer
seen r =
    record { number = number_of r.answer; lane = lane_of r.answer; steps = r.steps; place = place_of r.answer r.held.numbers.position; state = view r.held }

-- ---- the run as the code makes it

unfoldable pub row_comment : ℕ → Bool
row_comment k = eqb k row.comment

-- the first place from i on that is no comment's, or the end
unfoldable pub past_of : List ℕ → ℕ → ℕ
unfolding past row_comment
past_of ks i = past i (drop i (map row_comment ks))

unfoldable pub past_in : Code → Held → Held
unfolding past_of
past_in x c = standing c (cond c.numbers.halted c.numbers.position (past_of x.rows c.numbers.position))

-- halted, or past the last op
abbrev pub is_over : Code → Held → Bool
is_over x c = c.numbers.halted || leb (length x.rows) c.numbers.position

-- b steps may still be made, k are made, and the comments at the position of c are passed
unfoldable pub drive_of : ℕ → ℕ → Code → List ℕ → Held → Ran
unfolding pick past_in
drive_of zero k x input c = pick (is_over x c) (ran Finished k c) (ran Spent k c)
drive_of (suc b) k x input c =
    let o = step_of x input c in
    let rest = drive_of b (suc k) x input (past_in x o.held) in
    pick (is_over x c) (ran Finished k c) (pick (eqb o.number 0) rest (ran (Refused o.number o.lane) k o.held))

unfoldable pub run_of : ℕ → ℕ → Code → List ℕ → Held → Ran
unfolding drive_of past_in
run_of b k x input c = drive_of b k x input (past_in x c)

-- the counts as the code raises them, one step after the other, as `drive_of` makes them
unfoldable pub drive_counts_of : ℕ → Code → List ℕ → Held → List ℕ → List ℕ
unfolding pick past_in
drive_counts_of zero x input c cs = cs
drive_counts_of (suc b) x input c cs =
    let o = step_of x input c in
    let rest = drive_counts_of b x input (past_in x o.held) (raised cs c.numbers.position) in
    pick (is_over x c) cs (pick (eqb o.number 0) rest cs)

unfoldable pub run_counts_of : ℕ → Code → List ℕ → Held → List ℕ → List ℕ
unfolding drive_counts_of past_in
run_counts_of b x input c cs = drive_counts_of b x input (past_in x c) cs
