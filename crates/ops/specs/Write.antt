-- The bytes of a record: what the writer of one record leaves of lent bytes, and the record of an op. Assumes nothing.
use Rattle.std.specs.Prelude.{ℕ, ◌+◌, ◌^◌, ◌<◌, ◌≤◌, Bool, cond, false, List, [], ◌∷◌, ◌++◌, length, leb, Option, Some, None}
use Rattle.basics.specs.Limits.{most_bytes, most_ops, most_marks, lanes, most_text}
use Rattle.byte_fields.specs.Bytes.{le16, le32, le64}
use Rattle.byte_fields.specs.Storage.{placed}
use Rattle.ops.specs.declared.op.Mode.{Mode}
use Rattle.ops.specs.declared.op.Mode.TheVariants.{Char, Int, Other}
use Rattle.ops.specs.declared.op.Binding.{Binding}
use Rattle.ops.specs.declared.op.Binding.TheVariants as binding
use Rattle.ops.specs.Syntax.{Plain, Op, kind_of, is_function}
use Rattle.ops.specs.Syntax.Plain.{comment, store, move, swap, locate, offset, deref, refer, cell, lane, get, put, peek, poke, ffi_call, alloc, free}
use Rattle.ops.specs.Syntax.Op.{control, set, load, plain}

-- "length (u32, bytes that follow it), kind (u16), payload"
unfoldable pub record_of : ℕ → List ℕ → List ℕ
record_of k payload = le32 (length payload + 2) ++ le16 k ++ payload

-- whether a record with len bytes of payload may stand at byte `at` of room for `size` bytes: "file 65,536 bytes"
unfoldable pub has_room : ℕ → ℕ → ℕ → Bool
has_room size at len = cond (leb (at + 6 + len) most_bytes) (leb (at + 6 + len) size) false

-- the first column of 'Numbers given back': "written" is 0, "lent room too short" 40
abbrev pub number_of : Option ℕ → ℕ
number_of (Some n) = 0
number_of None = 40

-- the byte after the record, where it is written; else the last column
abbrev pub place_of : Option ℕ → ℕ
place_of (Some n) = n
place_of None = 0

-- the answer with its number and place, and the lent bytes
pub record Wrote : Type 0 where
  pub answer : Option ℕ
  pub number : ℕ
  pub place : ℕ
  pub bytes : List ℕ

abbrev pub wrote : Option ℕ → List ℕ → Wrote
wrote a s = record { answer = a; number = number_of a; place = place_of a; bytes = s }

-- the record of kind k, all of it or none
unfoldable pub write_of : List ℕ → ℕ → ℕ → List ℕ → Wrote
write_of out at k payload =
    cond (has_room (length out) at (length payload))
    (wrote (Some (at + 6 + length payload)) (placed out at (record_of k payload)))
    (wrote None out)

-- ---- an op's record

-- "0 char, 1 int, 2 float, 3 any other"; an op has no mode 2
abbrev pub mode_number : Mode → ℕ
mode_number Char = 0
mode_number Int = 1
mode_number Other = 3

-- 02, ask 9: "0 for square_root, 1 for add"
abbrev pub binding_number : Binding → ℕ
binding_number binding.SquareRoot = 0
binding_number binding.Add = 1

-- "8 bytes a value"
unfoldable pub value_bytes : List ℕ → List ℕ
value_bytes [] = []
value_bytes (v ∷ vs) = le64 v ++ value_bytes vs

-- "Payloads: lane count u32; Move i64; Offset i64 then u32; either Set 8 bytes a value; Comment 0 to 255 bytes; Get and
-- Put u16 mode .. the rest empty"
abbrev pub plain_payload : Plain → List ℕ
plain_payload (comment bs) = bs
plain_payload (store n) = le32 n
plain_payload (move v) = le64 v
plain_payload (swap n) = le32 n
plain_payload locate = []
plain_payload (offset v n) = le64 v ++ le32 n
plain_payload deref = []
plain_payload refer = []
plain_payload (cell k n) = le32 n
plain_payload (lane k n) = le32 n
plain_payload (get m) = le16 (mode_number m)
plain_payload (put m) = le16 (mode_number m)
plain_payload peek = []
plain_payload poke = []
plain_payload (ffi_call b) = le16 (binding_number b)
plain_payload alloc = []
plain_payload free = []

abbrev pub payload_of : Op → List ℕ
payload_of (control c) = []
payload_of (set k vs) = value_bytes vs
payload_of (load n) = le32 n
payload_of (plain p) = plain_payload p

unfoldable pub encode : Op → List ℕ
encode o = record_of (kind_of o) (payload_of o)

-- the records of a file's ops, one after another
unfoldable pub encode_all : List Op → List ℕ
encode_all [] = []
encode_all (o ∷ os) = encode o ++ encode_all os

-- ---- the ops that a file can hold

abbrev pub Below : ℕ → List ℕ → Type 0
Below b [] = Unit {0}
Below b (x ∷ xs) = (x < b) × Below b xs

-- "1,024 lanes" or values, "Comment 0 to 255 bytes", and numbers of 64 bits
abbrev pub PlainFits : Plain → Type 0
PlainFits (comment bs) = (length bs ≤ most_text) × Below 256 bs
PlainFits (store n) = n ≤ lanes
PlainFits (move v) = v < 2 ^ 64
PlainFits (swap n) = n ≤ lanes
PlainFits locate = Unit {0}
PlainFits (offset v n) = (v < 2 ^ 64) × (n ≤ lanes)
PlainFits deref = Unit {0}
PlainFits refer = Unit {0}
PlainFits (cell k n) = n ≤ lanes
PlainFits (lane k n) = n ≤ lanes
PlainFits (get m) = Unit {0}
PlainFits (put m) = Unit {0}
PlainFits peek = Unit {0}
PlainFits poke = Unit {0}
PlainFits (ffi_call b) = Unit {0}
PlainFits alloc = Unit {0}
PlainFits free = Unit {0}

abbrev pub Fits : Op → Type 0
Fits (control c) = Unit {0}
Fits (set k vs) = (length vs ≤ lanes) × Below (2 ^ 64) vs
Fits (load n) = n ≤ lanes
Fits (plain p) = PlainFits p

-- a property of each op
abbrev pub Each : (Op → Type 0) → List Op → Type 0
Each P [] = Unit {0}
Each P (o ∷ os) = P o × Each P os

-- the Function marks among ops
abbrev pub mark_in : Op → ℕ
mark_in o = cond (is_function o) 1 0

abbrev pub marks_in : List Op → ℕ
marks_in [] = 0
marks_in (o ∷ os) = mark_in o + marks_in os

-- "file 65,536 bytes; 4,096 ops; 256 Function marks; 1,024 lanes"
pub record AllFit (os : List Op) : Type 0 where
  pub each : Each Fits os
  pub ops : length os ≤ most_ops
  pub marks : marks_in os ≤ most_marks
  pub bytes : length (encode_all os) ≤ most_bytes
