-- 01's number and place for each answer of the check. Assumes nothing.
use Rattle.std.specs.Prelude.{ℕ, Result, Ok, Err}
use Rattle.patch_reader.specs.declared.reader.Unread.{Unread}
use Rattle.answers.specs.declared.check.CheckError.{CheckError}
use Rattle.answers.specs.declared.check.CheckError.TheVariants.{BadFile, NoOpenEnd, NoOpenElse, FewLanes, NeverClosed}

-- the op count of a patch that passed, or why it does not pass
abbrev pub Verdict : Type 0
Verdict = Result ℕ CheckError

-- "Every public call reads the patch first": what a file that is not good answers
abbrev pub bad_file : Unread → CheckError
bad_file u = BadFile u.number u.place

-- the first column of 'Numbers given back'
abbrev pub number_of : Verdict → ℕ
number_of (Ok n) = 0
number_of (Err (BadFile n p)) = n
number_of (Err (NoOpenEnd i)) = 10
number_of (Err (NoOpenElse i)) = 11
number_of (Err (FewLanes i)) = 12
number_of (Err (NeverClosed i)) = 13

-- its last column: "op count if checked", a bad file's byte, else the op
abbrev pub place_of : Verdict → ℕ
place_of (Ok n) = n
place_of (Err (BadFile n p)) = p
place_of (Err (NoOpenEnd i)) = i
place_of (Err (NoOpenElse i)) = i
place_of (Err (FewLanes i)) = i
place_of (Err (NeverClosed i)) = i

abbrev pub answer : Verdict → ℕ × ℕ
answer v = (number_of v, place_of v)
