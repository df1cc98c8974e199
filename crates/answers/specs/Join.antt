-- 01's number, place and length for each answer of joining. Assumes nothing.
use Rattle.std.specs.Prelude.{ℕ, Result, Ok, Err}
use Rattle.answers.specs.declared.join.Joined.{Joined}
use Rattle.patch_reader.specs.declared.reader.Unread.{Unread}
use Rattle.answers.specs.declared.join.JoinError.{JoinError}
use Rattle.answers.specs.declared.join.JoinError.TheVariants.{BadFile, NoRoom}

abbrev pub Joining : Type 0
Joining = Result Joined JoinError

-- written: the result's op count and byte length
abbrev pub written : ℕ → ℕ → Joining
written n l = Ok (record { ops = n; bytes = l })

-- "Every public call reads the patch first": what a file that is not good answers
abbrev pub bad_file : Unread → JoinError
bad_file u = BadFile u.number u.place

-- the first column of 'Numbers given back': a bad file's own, 40, or 0
abbrev pub number_of : Joining → ℕ
number_of (Ok j) = 0
number_of (Err (BadFile n p)) = n
number_of (Err NoRoom) = 40

-- its last column: a bad file's byte, 0, or the result's op count
abbrev pub place_of : Joining → ℕ
place_of (Ok j) = j.ops
place_of (Err (BadFile n p)) = p
place_of (Err NoRoom) = 0

-- "Written, the byte length is given too"
abbrev pub length_of : Joining → ℕ
length_of (Ok j) = j.bytes
length_of (Err e) = 0
