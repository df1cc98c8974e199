-- What joining answers and what it leaves of the lent bytes, for every file and every room. Assumes nothing.
use Rattle.std.specs.Prelude.{ℕ, cond, List, Err, ltb, length}
use Rattle.byte_fields.specs.Storage.{fill}
use Rattle.ops.specs.Decode.{Patch, ops_of}
use Rattle.ops.specs.Decode.Patch.{ops, refused}
use Rattle.ops.specs.Syntax.{Op}
use Rattle.ops.specs.Write.{encode_all}
use Rattle.joining.specs.Join.{join}
use Rattle.answers.specs.Join.{Joining, written}
use Rattle.answers.specs.declared.join.JoinError.TheVariants.{BadFile, NoRoom}

-- the answer, and the lent bytes
pub record Outcome : Type 0 where
  pub answer : Joining
  pub bytes : List ℕ

abbrev pub outcome : Joining → List ℕ → Outcome
outcome a s = record { answer = a; bytes = s }

-- the ops written: "bytes and entries beyond the result keep their values"
abbrev pub write : List Op → List ℕ → Outcome
write os out = outcome (written (length os) (length (encode_all os))) (fill (encode_all os) out)

-- "40 exactly when room is below the file's length"; "Refused, both write nothing"
abbrev pub joined_as : Patch → List ℕ → List ℕ → Outcome
joined_as (refused n p) s out = outcome (Err (BadFile n p)) out
joined_as (ops os) s out = cond (ltb (length out) (length s)) (outcome (Err NoRoom) out) (write (join os) out)

-- the file s joined into the lent bytes out
unfoldable pub join_of : List ℕ → List ℕ → Outcome
join_of s out = joined_as (ops_of s) s out
