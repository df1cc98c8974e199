-- What stands at a byte of a patch file: a whole record, or the refusal, tested in 01's order. Assumes nothing.
use Rattle.std.specs.Prelude.{ℕ, ◌+◌, ◌-◌, ◌/◌, ◌%◌, Bool, cond, not, List, length, ltb, leb, eqb, Result, Ok, Err}
use Rattle.basics.specs.Limits.{most_bytes, lanes, most_text}
use Rattle.byte_fields.specs.Bytes.{u16_at, u32_at}
use Rattle.kind_table.specs.Kinds.{shape, left_out, kind_at, index_of}
use Rattle.kind_table.specs.declared.shape.Shape.{Shape}
use Rattle.kind_table.specs.declared.shape.Shape.TheVariants.{Empty, Text, Values, LaneCount, Amount, AmountAndLanes, Mode, LeftOut, Binding}
use Rattle.ops.specs.Refusals.{fault}
use Rattle.ops.specs.declared.refusals.Fault.{Fault}
use Rattle.ops.specs.declared.refusals.Refusal.{Refusal}
use Rattle.ops.specs.declared.refusals.Refusal.TheVariants as refusal
use Rattle.ops.specs.declared.records.Record.{Record}

-- "Payloads: lane count u32; Move i64; Offset i64 then u32; either Set 8 bytes a value; Comment 0 to 255 bytes; Get and
-- Put u16 mode .. the rest empty"; of FFI Call by 02, ask 9, "u16": whether a payload of this shape may have len bytes
unfoldable pub length_ok : Shape → ℕ → Bool
length_ok Empty len = eqb len 0
length_ok Text len = leb len most_text
length_ok Values len = eqb (len % 8) 0
length_ok LaneCount len = eqb len 4
length_ok Amount len = eqb len 8
length_ok AmountAndLanes len = eqb len 12
length_ok Mode len = eqb len 2
length_ok LeftOut len = eqb len 0
length_ok Binding len = eqb len 2

-- what the payload at byte p counts: a comment's bytes, a Set's values, or lanes
unfoldable pub count_of : List ℕ → Shape → ℕ → ℕ → ℕ
count_of s Empty p len = 0
count_of s Text p len = len
count_of s Values p len = len / 8
count_of s LaneCount p len = u32_at s p
count_of s Amount p len = 0
count_of s AmountAndLanes p len = u32_at s (p + 8)
count_of s Mode p len = 0
count_of s LeftOut p len = 0
count_of s Binding p len = 0

-- the mode or the binding that the payload at byte p names; 0 where it names none
unfoldable pub named_of : List ℕ → Shape → ℕ → ℕ
named_of s Empty p = 0
named_of s Text p = 0
named_of s Values p = 0
named_of s LaneCount p = 0
named_of s Amount p = 0
named_of s AmountAndLanes p = 0
named_of s Mode p = u16_at s p
named_of s LeftOut p = 0
named_of s Binding p = u16_at s p

-- the last number that it may name: "0 char, 1 int, 2 float, 3 any other"; 02, ask 9: "6 for another binding number"
unfoldable pub last_of : Shape → ℕ
last_of Empty = 3
last_of Text = 3
last_of Values = 3
last_of LaneCount = 3
last_of Amount = 3
last_of AmountAndLanes = 3
last_of Mode = 3
last_of LeftOut = 3
last_of Binding = 1

-- ---- a whole record: its row, its payload's first byte and length, what the payload counts, and the byte after it; or a bad one

abbrev pub whole : ℕ → ℕ → ℕ → ℕ → ℕ → Result Record Fault
whole k b l n next = Ok (record { row = k; body = b; len = l; count = n; next = next })

abbrev pub bad : Refusal → ℕ → Result Record Fault
bad r p = Err (fault r p)

-- the record at byte p of row k with a payload of len bytes: "4 by kind, payload length 2, 5, 6, 4 by mode"
unfoldable pub body_at : List ℕ → ℕ → ℕ → ℕ → Result Record Fault
body_at s p k len =
    cond (left_out (shape (kind_at k))) (bad refusal.LeftOut p)
    (cond (not (length_ok (shape (kind_at k)) len)) (bad refusal.WrongLength p)
    (cond (ltb lanes (count_of s (shape (kind_at k)) (p + 6) len)) (bad refusal.TooManyLanes p)
    (cond (ltb (last_of (shape (kind_at k))) (named_of s (shape (kind_at k)) (p + 6))) (bad refusal.WrongNumber p)
    (cond (eqb (named_of s (shape (kind_at k)) (p + 6)) 2) (bad refusal.LeftOut p)
    (whole k (p + 6) len (count_of s (shape (kind_at k)) (p + 6) len) (p + 6 + len))))))

-- the record at byte p: "fewer than 4 bytes 1, length under 2 2, length beyond the file 1, then 3"
unfoldable pub record_at : List ℕ → ℕ → Result Record Fault
record_at s p =
    cond (ltb (length s) (p + 4)) (bad refusal.CutShort p)
    (cond (ltb (u32_at s p) 2) (bad refusal.WrongLength p)
    (cond (ltb (length s) (p + 4 + u32_at s p)) (bad refusal.CutShort p)
    (cond (leb 62 (index_of (u16_at s (p + 4)))) (bad refusal.UnknownKind p)
    (body_at s p (index_of (u16_at s (p + 4))) (u32_at s p - 2)))))

-- the same for a file of any length: "9 first"
unfoldable pub record_from : List ℕ → ℕ → Result Record Fault
record_from s p = cond (ltb most_bytes (length s)) (bad refusal.FileTooLong 0) (record_at s p)
