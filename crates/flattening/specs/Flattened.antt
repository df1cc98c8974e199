-- What flattening a patch file answers, and what it leaves of the lent bytes and of the lent lists of entries. Assumes nothing.
use Rattle.std.specs.Prelude.{ℕ, ◌≡◌, ◌≤◌, Bool, cond, ◌||◌, List, [], ◌++◌, map, ltb, length, Err}
use Rattle.basics.specs.Limits.{most_ops}
use Rattle.ops.specs.Syntax.{Op}
use Rattle.ops.specs.Decode.{Patch, ops_of}
use Rattle.ops.specs.Patch.{patch_of}
use Rattle.ops.specs.Decode.Patch.{ops, refused}
use Rattle.byte_fields.specs.Storage.{fill}
use Rattle.ops.specs.Write.{encode_all, marks_in}
use Rattle.flattening.specs.Flatten.{Flat, flatten, body, bodies, gathered, others}
use Rattle.flattening.specs.Flatten.Flat.{loose, flat}
use Rattle.flattening.specs.Scope.{listed}
use Rattle.flattening.specs.declared.body.Body.{Body}
use Rattle.answers.specs.declared.flatten.FlattenError.{FlattenError}
use Rattle.answers.specs.declared.flatten.FlattenError.TheVariants.{BadFile, NoOpenEnd, NoRoom}
use Rattle.answers.specs.Flatten.{Flattening}
use Rattle.answers.specs.Flatten as answers

-- the ops of a good file; none of a bad one
abbrev pub good_ops : Patch → List Op
good_ops (ops os) = os
good_ops (refused n p) = []

unfoldable pub ops_in : List ℕ → List Op
ops_in s = good_ops (ops_of s)

-- ---- by the body of each op and the flags of the bodies

-- the functions' bodies, in rising number
abbrev pub functions : List Bool → List ℕ
functions seen = others (listed 0 seen)

-- their ops, and main's after them
abbrev pub ops_by : List Bool → List ℕ → List Op → List Op
ops_by seen cs os = gathered (functions seen) cs os ++ body 0 cs os

abbrev pub entries_by : List Bool → List ℕ → List Op → List Body
entries_by seen cs os = bodies 0 (functions seen) cs os

-- of a good file each op has its body, and there is room for all that is written
pub record CanWrite (s cs : List ℕ) (seen : List Bool) (out ns fs ks : List ℕ) : Type 0 where
  pub good : (patch_of s).number ≡ 0
  pub owned : length cs ≡ length (ops_in s)
  pub few : length (gathered (functions seen) cs (ops_in s)) ≤ most_ops
  pub bytes : length (encode_all (ops_by seen cs (ops_in s))) ≤ length out
  pub numbers : length (functions seen) ≤ length ns
  pub firsts : length (functions seen) ≤ length fs
  pub counts : length (functions seen) ≤ length ks

-- ---- the outcome

-- "an entry of number, first op and op count"
abbrev pub number_in : Body → ℕ
number_in b = b.number

abbrev pub first_in : Body → ℕ
first_in b = b.first

abbrev pub count_in : Body → ℕ
count_in b = b.count

-- the answer, the lent bytes, and the three lent lists
pub record Outcome : Type 0 where
  pub answer : Flattening
  pub out : List ℕ
  pub numbers : List ℕ
  pub firsts : List ℕ
  pub counts : List ℕ

abbrev pub outcome : Flattening → List ℕ → List ℕ → List ℕ → List ℕ → Outcome
outcome a o ns fs cs = record { answer = a; out = o; numbers = ns; firsts = fs; counts = cs }

module _ (s o ns fs cs : List ℕ) where
  -- "bytes and entries beyond the result keep their values"
  abbrev pub written : List Op → List Body → Outcome
  written gs bs =
      outcome (answers.written (length gs) (length (encode_all gs)) (length bs))
      (fill (encode_all gs) o)
      (fill (map number_in bs) ns)
      (fill (map first_in bs) fs)
      (fill (map count_in bs) cs)

  -- "Refused, both write nothing"
  abbrev pub untouched : FlattenError → Outcome
  untouched e = outcome (Err e) o ns fs cs

  -- "40, which is given exactly when the byte room is below the file's length or the body list is below the number of marks"
  abbrev pub too_short : ℕ → Bool
  too_short m = ltb (length o) (length s) || (ltb (length ns) m || (ltb (length fs) m || ltb (length cs) m))

  -- "Flatten: 10, then 40"
  abbrev pub of_flat : ℕ → Flat → Outcome
  of_flat m (loose p) = untouched (NoOpenEnd p)
  of_flat m (flat gs bs) = cond (too_short m) (untouched NoRoom) (written gs bs)

  -- "Every public call reads the patch first"
  abbrev pub of_patch : Patch → Outcome
  of_patch (refused n p) = untouched (BadFile n p)
  of_patch (ops os) = of_flat (marks_in os) (flatten os)

  unfoldable pub flatten_of : Outcome
  unfolding ops_of flatten
  flatten_of = of_patch (ops_of s)
