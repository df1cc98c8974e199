-- 01's number and place for each answer of flattening, and what was written. Assumes nothing.
use Rattle.std.specs.Prelude.{ℕ, Result, Ok, Err}
use Rattle.answers.specs.declared.flatten.Flattened.{Flattened}
use Rattle.patch_reader.specs.declared.reader.Unread.{Unread}
use Rattle.answers.specs.declared.flatten.FlattenError.{FlattenError}
use Rattle.answers.specs.declared.flatten.FlattenError.TheVariants.{BadFile, NoOpenEnd, NoRoom}

abbrev pub Flattening : Type 0
Flattening = Result Flattened FlattenError

-- written: the result's ops, bytes and entries
abbrev pub written : ℕ → ℕ → ℕ → Flattening
written n b k = Ok (record { ops = n; bytes = b; bodies = k })

-- "Every public call reads the patch first": what a file that is not good answers
abbrev pub bad_file : Unread → FlattenError
bad_file u = BadFile u.number u.place

-- the first column of 'Numbers given back'
abbrev pub number_of : Flattening → ℕ
number_of (Ok f) = 0
number_of (Err (BadFile n p)) = n
number_of (Err (NoOpenEnd i)) = 10
number_of (Err NoRoom) = 40

-- its last column: a bad file's byte, the op, 0, "op count .. the result's if written"
abbrev pub place_of : Flattening → ℕ
place_of (Ok f) = f.ops
place_of (Err (BadFile n p)) = p
place_of (Err (NoOpenEnd i)) = i
place_of (Err NoRoom) = 0

-- "Written, the byte length is given too"
abbrev pub bytes_of : Flattening → ℕ
bytes_of (Ok f) = f.bytes
bytes_of (Err e) = 0

-- the entries of "the caller's list"
abbrev pub bodies_of : Flattening → ℕ
bodies_of (Ok f) = f.bodies
bodies_of (Err e) = 0
