-- Worked files, computed: 01's example, each refusal with a smallest file, and the order of the tests. Assumes nothing.
use mathlib.Core.Path.{◌≡◌, ◌∙◌, refl, ap, ap₂}
use mathlib.Core.List.{List, [], ◌∷◌, ◌++◌, map}
use Prim.Native.Nat.{ℕ, ◌<◌}
use native.Mathlib.Omega.{arith}
use borrow.Author.Tests.{lt-ltb}
use lib.ListN.{length, replicate, length-replicate}
use Rattle.ops.specs.declared.op.Mode.TheVariants.{Char, Int, Other}
use Rattle.ops.specs.declared.op.Binding.TheVariants.{SquareRoot, Add}
use Rattle.std.proofs.Common.{Result, Ok, Err}
use Rattle.byte_fields.specs.Bytes.{values_at, text_at}
use Rattle.kind_table.specs.Kinds.{kind_at, index_of}
use Rattle.ops.specs.Refusals.{number_of}
use Rattle.ops.specs.Record.{length_ok, count_of, named_of, last_of, body_at, record_at}
use Rattle.ops.specs.Syntax.Control.{function, end}
use Rattle.ops.specs.Syntax.Plain.{comment, move, offset, put, get, ffi_call}
use Rattle.ops.specs.Syntax.Sort.{ints, floats}
use Rattle.ops.specs.Syntax.Op.{control, set, load, plain}
use Rattle.ops.specs.Patch.{Loaded, walk, patch_of, mark_of}
use Rattle.patch_reader.specs.Answer.{read_of, refused_at}
use Rattle.ops.specs.Decode.{rows, row_at, op_at, ops_of}
use Rattle.ops.specs.Decode.Patch.{ops, refused}
use Rattle.ops.specs.Write.{encode_all}
use Rattle.patch_reader.specs.declared.reader.Unread.{Unread}
use Rattle.file_laws.proofs.Crowded.{ends, functions}

-- a refusal's number and place, and the ops before it
abbrev not_read : ℕ → ℕ → ℕ → Result ℕ Unread
not_read n p o = Err (record { number = n; place = p; ops = o })

abbrev answer : List ℕ → Result ℕ Unread
answer s = read_of (patch_of s)

-- "Whole file for `set [1]`, `put` char"
abbrev pub example : List ℕ
example =
    10 ∷ 0 ∷ 0 ∷ 0 ∷ 1 ∷ 0 ∷ 1 ∷ 0 ∷ 0 ∷ 0 ∷ 0 ∷ 0 ∷ 0 ∷ 0 ∷
    4 ∷ 0 ∷ 0 ∷ 0 ∷ 39 ∷ 0 ∷ 0 ∷ 0 ∷ []

-- files and what they mean, a payload of each form
pub meanings :
    map ops_of (
    example ∷
    [] ∷
    (4 ∷ 0 ∷ 0 ∷ 0 ∷ 0 ∷ 0 ∷ 104 ∷ 105 ∷ []) ∷
    (6 ∷ 0 ∷ 0 ∷ 0 ∷ 10 ∷ 0 ∷ 0 ∷ 4 ∷ 0 ∷ 0 ∷ 2 ∷ 0 ∷ 0 ∷ 0 ∷ 8 ∷ 0 ∷ []) ∷
    (10 ∷ 0 ∷ 0 ∷ 0 ∷ 11 ∷ 0 ∷ 253 ∷ 255 ∷ 255 ∷ 255 ∷ 255 ∷ 255 ∷ 255 ∷ 255 ∷ []) ∷
    (14 ∷ 0 ∷ 0 ∷ 0 ∷ 16 ∷ 0 ∷ 5 ∷ 0 ∷ 0 ∷ 0 ∷ 0 ∷ 0 ∷ 0 ∷ 0 ∷ 3 ∷ 0 ∷ 0 ∷ 0 ∷ []) ∷
    (18 ∷ 0 ∷ 0 ∷ 0 ∷ 0 ∷ 1 ∷ 1 ∷ 2 ∷ 0 ∷ 0 ∷ 0 ∷ 0 ∷ 0 ∷ 0 ∷ 0 ∷ 0 ∷ 0 ∷ 0 ∷ 0 ∷ 0 ∷ 240 ∷ 63 ∷ []) ∷
    (4 ∷ 0 ∷ 0 ∷ 0 ∷ 38 ∷ 0 ∷ 1 ∷ 0 ∷ 4 ∷ 0 ∷ 0 ∷ 0 ∷ 38 ∷ 0 ∷ 3 ∷ 0 ∷ []) ∷
    (4 ∷ 0 ∷ 0 ∷ 0 ∷ 21 ∷ 1 ∷ 0 ∷ 0 ∷ 4 ∷ 0 ∷ 0 ∷ 0 ∷ 21 ∷ 1 ∷ 1 ∷ 0 ∷ []) ∷
    (2 ∷ 0 ∷ 0 ∷ 0 ∷ 8 ∷ 0 ∷ 7 ∷ []) ∷
    [])
    ≡
    ops (set ints (1 ∷ []) ∷ plain (put Char) ∷ []) ∷
    ops [] ∷
    ops (plain (comment (104 ∷ 105 ∷ [])) ∷ []) ∷
    ops (load 1024 ∷ control end ∷ []) ∷
    ops (plain (move 18446744073709551613) ∷ []) ∷
    ops (plain (offset 5 3) ∷ []) ∷
    ops (set floats (513 ∷ 4607182418800017408 ∷ []) ∷ []) ∷
    ops (plain (get Int) ∷ plain (get Other) ∷ []) ∷
    ops (plain (ffi_call SquareRoot) ∷ plain (ffi_call Add) ∷ []) ∷
    refused 1 6 ∷
    []
unfolding kind_at index_of number_of length_ok count_of named_of last_of body_at record_at mark_of patch_of rows row_at values_at text_at op_at ops_of
meanings = refl

-- each refusal 1 to 6 with a smallest file, one after an End; then files that break two rules, where the first test's number is
-- given: under 2 before beyond the file, beyond the file before the kind, the kind before the payload's length, that before the
-- lanes and the mode, "mode over 3" before mode 2 (258), no multiple of 8 before too many values. 02, ask 9: FFI Call with no payload, with four bytes
-- and with binding 2
abbrev files : List (List ℕ)
files =
    (0 ∷ []) ∷
    (2 ∷ 0 ∷ 0 ∷ 0 ∷ []) ∷
    (0 ∷ 0 ∷ 0 ∷ 0 ∷ []) ∷
    (3 ∷ 0 ∷ 0 ∷ 0 ∷ 8 ∷ 0 ∷ 0 ∷ []) ∷
    (2 ∷ 0 ∷ 0 ∷ 0 ∷ 40 ∷ 0 ∷ []) ∷
    (2 ∷ 0 ∷ 0 ∷ 0 ∷ 12 ∷ 1 ∷ []) ∷
    (4 ∷ 0 ∷ 0 ∷ 0 ∷ 38 ∷ 0 ∷ 2 ∷ 0 ∷ []) ∷
    (6 ∷ 0 ∷ 0 ∷ 0 ∷ 10 ∷ 0 ∷ 1 ∷ 4 ∷ 0 ∷ 0 ∷ []) ∷
    (4 ∷ 0 ∷ 0 ∷ 0 ∷ 39 ∷ 0 ∷ 4 ∷ 0 ∷ []) ∷
    (2 ∷ 0 ∷ 0 ∷ 0 ∷ 8 ∷ 0 ∷ 4 ∷ 0 ∷ 0 ∷ 0 ∷ 39 ∷ 0 ∷ 4 ∷ 0 ∷ []) ∷
    (1 ∷ 0 ∷ 0 ∷ 0 ∷ []) ∷
    (255 ∷ 255 ∷ 255 ∷ 255 ∷ 40 ∷ 0 ∷ []) ∷
    (3 ∷ 0 ∷ 0 ∷ 0 ∷ 40 ∷ 0 ∷ 0 ∷ []) ∷
    (3 ∷ 0 ∷ 0 ∷ 0 ∷ 12 ∷ 1 ∷ 0 ∷ []) ∷
    (7 ∷ 0 ∷ 0 ∷ 0 ∷ 10 ∷ 0 ∷ 1 ∷ 4 ∷ 0 ∷ 0 ∷ 0 ∷ []) ∷
    (5 ∷ 0 ∷ 0 ∷ 0 ∷ 38 ∷ 0 ∷ 4 ∷ 0 ∷ 0 ∷ []) ∷
    (4 ∷ 0 ∷ 0 ∷ 0 ∷ 38 ∷ 0 ∷ 2 ∷ 1 ∷ []) ∷
    (2 ∷ 1 ∷ 0 ∷ 0 ∷ 0 ∷ 0 ∷ replicate 256 0) ∷
    (1 ∷ 1 ∷ 0 ∷ 0 ∷ 0 ∷ 0 ∷ replicate 255 0) ∷
    (11 ∷ 32 ∷ 0 ∷ 0 ∷ 1 ∷ 0 ∷ replicate 8201 0) ∷
    (10 ∷ 32 ∷ 0 ∷ 0 ∷ 1 ∷ 0 ∷ replicate 8200 0) ∷
    (2 ∷ 32 ∷ 0 ∷ 0 ∷ 1 ∷ 0 ∷ replicate 8192 0) ∷
    (2 ∷ 0 ∷ 0 ∷ 0 ∷ 21 ∷ 1 ∷ []) ∷
    (6 ∷ 0 ∷ 0 ∷ 0 ∷ 21 ∷ 1 ∷ 2 ∷ 0 ∷ 0 ∷ 0 ∷ []) ∷
    (4 ∷ 0 ∷ 0 ∷ 0 ∷ 21 ∷ 1 ∷ 2 ∷ 0 ∷ []) ∷
    []

-- a walk near its limits: one op still allowed before two Ends, none before a bad record, 256 marks before a Function, 255 before
-- it, and both limits at once, where 7 is first
abbrev limits : List Loaded
limits =
    walk (2 ∷ 0 ∷ 0 ∷ 0 ∷ 8 ∷ 0 ∷ 2 ∷ 0 ∷ 0 ∷ 0 ∷ 8 ∷ 0 ∷ []) 1 0 0 ∷
    walk (2 ∷ 0 ∷ 0 ∷ 0 ∷ 40 ∷ 0 ∷ []) 0 0 0 ∷
    walk (2 ∷ 0 ∷ 0 ∷ 0 ∷ 2 ∷ 0 ∷ []) 1 256 0 ∷
    walk (2 ∷ 0 ∷ 0 ∷ 0 ∷ 2 ∷ 0 ∷ []) 1 255 0 ∷
    walk (2 ∷ 0 ∷ 0 ∷ 0 ∷ 2 ∷ 0 ∷ []) 0 256 0 ∷
    []

abbrev answers : List (Result ℕ Unread)
answers =
    not_read 1 0 0 ∷ not_read 1 0 0 ∷ not_read 2 0 0 ∷ not_read 2 0 0 ∷ not_read 3 0 0 ∷ not_read 4 0 0 ∷ not_read 4 0 0 ∷ not_read 5 0 0 ∷ not_read 6 0 0 ∷ not_read 6 6 1 ∷
    not_read 2 0 0 ∷ not_read 1 0 0 ∷ not_read 3 0 0 ∷ not_read 4 0 0 ∷ not_read 2 0 0 ∷ not_read 2 0 0 ∷ not_read 6 0 0 ∷
    not_read 2 0 0 ∷ Ok 1 ∷ not_read 2 0 0 ∷ not_read 5 0 0 ∷ Ok 1 ∷
    not_read 2 0 0 ∷ not_read 2 0 0 ∷ not_read 6 0 0 ∷
    not_read 7 6 1 ∷ not_read 3 0 0 ∷ not_read 8 0 0 ∷ Ok 1 ∷ not_read 7 0 0 ∷
    []

computed : map answer files ++ map read_of limits ≡ answers
unfolding kind_at index_of number_of length_ok count_of named_of last_of body_at record_at mark_of patch_of read_of
computed = refl

-- 01's numbers 1 to 8 together: 4,097 Ends and 257 marks are smallest files for 7 and 8
pub refusals :
    map answer (encode_all (replicate 4097 (control end)) ∷ encode_all (replicate 257 (control function)) ∷ files) ++ map read_of limits
    ≡ not_read 7 24576 4096 ∷ not_read 8 1536 256 ∷ answers
unfolding refused_at number_of
refusals = ap₂ (λ (x y : Result ℕ Unread). x ∷ y ∷ (map answer files ++ map read_of limits)) ends functions ∙ ap (λ (l : List (Result ℕ Unread)). not_read 7 24576 4096 ∷ not_read 8 1536 256 ∷ l) computed

-- every longer file is 9 at 0, whatever its records; so is one of 65,537 bytes
pub longer : (s : List ℕ) → 65536 < length s → answer s ≡ not_read 9 0 0
unfolding patch_of read_of number_of
longer s h = simp (lt-ltb _ _ h)

pub too_long : answer (replicate 65537 0) ≡ not_read 9 0 0
too_long = longer (replicate 65537 0) (omega (arith, length-replicate {A = ℕ} 65537 0))
