-- What a call of the machine answers: 01's number and place for each case, and the lane of 02's ask 3. Assumes nothing.
use Rattle.std.specs.Prelude.{ℕ}
use Rattle.answers.specs.declared.run.Answer.{Answer}
use Rattle.answers.specs.declared.run.Answer.TheVariants.{BadFile, NotAState, Went, Finished, Spent, Refused}

-- a step that went on, and a run or a step that is finished, are 0
abbrev pub number_of : Answer → ℕ
number_of (BadFile n p) = n
number_of NotAState = 37
number_of Went = 0
number_of Finished = 0
number_of Spent = 50
number_of (Refused n l) = n

-- the byte of a bad file; 0 of what is no state; else the op at the position `at`, which is the next op or the refused one
abbrev pub place_of : Answer → ℕ → ℕ
place_of (BadFile n p) at = p
place_of NotAState at = 0
place_of Went at = at
place_of Finished at = at
place_of Spent at = at
place_of (Refused n l) at = at

-- "Refusals 21, 22 and 23 shall also give the first lane that could not be had. All other answers carry lane 0": which lane a refused step has
-- is said with the step
abbrev pub lane_of : Answer → ℕ
lane_of (BadFile n p) = 0
lane_of NotAState = 0
lane_of Went = 0
lane_of Finished = 0
lane_of Spent = 0
lane_of (Refused n l) = l
