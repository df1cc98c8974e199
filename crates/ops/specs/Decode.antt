-- What the bytes of a patch file mean: a list of ops, or the number and place of its refusal. Assumes nothing.
use Rattle.std.specs.Prelude.{ℕ, ◌+◌, cond, List, [], ◌∷◌, map, length, get_or, eqb}
use Rattle.lanes.specs.declared.lane.CellOp.{CellOp}
use Rattle.lanes.specs.declared.lane.CellOp.TheVariants.{Index, BitwiseNand, BitwiseAnd, BitwiseOr, BitwiseXor, LeftShift, LogicalRightShift, ArithmeticRightShift, And, Or, Add, Sub, Mul, Div, Rem, FloatAdd, FloatSub, FloatMul, FloatDiv, FloatRem}
use Rattle.lanes.specs.declared.lane.LaneOp.{LaneOp}
use Rattle.lanes.specs.declared.lane.LaneOp.TheVariants.{BitwiseNot, Not, Neg, Inc, Dec, IsNonNegative, ToInt, ToFloat, FloatNeg, FloatIsNonNegative}
use Rattle.ops.specs.declared.op.Mode.{Mode}
use Rattle.ops.specs.declared.op.Mode.TheVariants.{Char, Int, Other}
use Rattle.ops.specs.declared.op.Binding.{Binding}
use Rattle.ops.specs.declared.op.Binding.TheVariants as binding
use Rattle.byte_fields.specs.Bytes.{u16_at, u32_at, u64_at, values_at, text_at}
use Rattle.ops.specs.Syntax.{Plain, Op}
use Rattle.ops.specs.Syntax.Control.{function, call, ret, while, if, else, end}
use Rattle.ops.specs.Syntax.Plain.{comment, store, move, swap, locate, offset, deref, refer, cell, lane, get, put, peek, poke, ffi_call, alloc, free}
use Rattle.ops.specs.Syntax.Sort.{ints, floats}
use Rattle.ops.specs.Syntax.Op.{control, set, load, plain}
use Rattle.ops.specs.Patch.{Item, Loaded, patch_of}

abbrev cells : CellOp → Op
cells k = plain (cell k 0)

abbrev lanes : LaneOp → Op
lanes k = plain (lane k 0)

-- the op of each row of the table, with nothing in its payload; Free stands in the rows of the kinds left out, which no item names
unfoldable pub rows : List Op
rows =
    plain (comment []) ∷ set ints []
    ∷ control function ∷ control call ∷ control ret ∷ control while ∷ control if ∷ control else ∷ control end
    ∷ plain (store 0) ∷ load 0 ∷ plain (move 0) ∷ plain locate ∷ plain deref ∷ plain refer ∷ cells Index ∷ plain (offset 0 0)
    ∷ cells BitwiseNand ∷ cells BitwiseAnd ∷ cells BitwiseOr ∷ cells BitwiseXor ∷ lanes BitwiseNot
    ∷ cells LeftShift ∷ cells LogicalRightShift ∷ cells ArithmeticRightShift ∷ cells And ∷ cells Or ∷ lanes Not
    ∷ cells Add ∷ cells Sub ∷ cells Mul ∷ cells Div ∷ cells Rem
    ∷ lanes Neg ∷ lanes Inc ∷ lanes Dec ∷ plain (swap 0) ∷ lanes IsNonNegative ∷ plain (get Char) ∷ plain (put Char)
    ∷ set floats [] ∷ plain alloc ∷ plain free ∷ lanes ToInt ∷ lanes ToFloat
    ∷ cells FloatAdd ∷ cells FloatSub ∷ cells FloatMul ∷ cells FloatDiv ∷ cells FloatRem ∷ lanes FloatNeg ∷ lanes FloatIsNonNegative
    ∷ plain free ∷ plain free ∷ plain free ∷ plain free ∷ plain free ∷ plain free ∷ plain free
    ∷ plain peek ∷ plain poke ∷ plain (ffi_call binding.SquareRoot) ∷ []

unfoldable pub row_at : ℕ → Op
unfolding rows
row_at k = get_or rows k (plain free)

-- "u16 mode (0 char, 1 int, 2 float, 3 any other)"; 2 is refused
abbrev pub mode_in : ℕ → Mode
mode_in m = cond (eqb m 0) Char (cond (eqb m 1) Int Other)

-- 02, ask 9: "payload u16, 0 for square_root, 1 for add"
abbrev pub binding_in : ℕ → Binding
binding_in b = cond (eqb b 0) binding.SquareRoot binding.Add

-- an op with its payload read at byte p of s: "lane count u32; Move i64; Offset i64 then u32; either Set 8 bytes a value"; n
-- values or n bytes
abbrev pub plain_with : List ℕ → ℕ → ℕ → Plain → Plain
plain_with s p n (comment bs) = comment (text_at s p n)
plain_with s p n (store m) = store (u32_at s p)
plain_with s p n (move v) = move (u64_at s p)
plain_with s p n (swap m) = swap (u32_at s p)
plain_with s p n locate = locate
plain_with s p n (offset v m) = offset (u64_at s p) (u32_at s (p + 8))
plain_with s p n deref = deref
plain_with s p n refer = refer
plain_with s p n (cell k m) = cell k (u32_at s p)
plain_with s p n (lane k m) = lane k (u32_at s p)
plain_with s p n (get m) = get (mode_in (u16_at s p))
plain_with s p n (put m) = put (mode_in (u16_at s p))
plain_with s p n peek = peek
plain_with s p n poke = poke
plain_with s p n (ffi_call b) = ffi_call (binding_in (u16_at s p))
plain_with s p n alloc = alloc
plain_with s p n free = free

abbrev pub op_with : List ℕ → ℕ → ℕ → Op → Op
op_with s p n (control c) = control c
op_with s p n (set k vs) = set k (values_at s p n)
op_with s p n (load m) = load (u32_at s p)
op_with s p n (plain q) = plain (plain_with s p n q)

-- the op that an item of the file s means
unfoldable pub op_at : List ℕ → Item → Op
unfolding row_at
op_at s i = op_with s i.payload i.count (row_at i.row)

-- what an op counts: lanes, values, or bytes of text
abbrev pub plain_count : Plain → ℕ
plain_count (comment bs) = length bs
plain_count (store n) = n
plain_count (move v) = 0
plain_count (swap n) = n
plain_count locate = 0
plain_count (offset v n) = n
plain_count deref = 0
plain_count refer = 0
plain_count (cell k n) = n
plain_count (lane k n) = n
plain_count (get m) = 0
plain_count (put m) = 0
plain_count peek = 0
plain_count poke = 0
plain_count (ffi_call b) = 0
plain_count alloc = 0
plain_count free = 0

abbrev pub op_count : Op → ℕ
op_count (control c) = 0
op_count (set k vs) = length vs
op_count (load n) = n
op_count (plain p) = plain_count p

-- a file's ops, or 01's number and place
pub data Patch : Type 0 where
  ops : List Op → Patch
  refused : ℕ → ℕ → Patch

abbrev pub meant : List ℕ → Loaded → Patch
meant s l = cond (eqb l.number 0) (ops (map (op_at s) l.items)) (refused l.number l.place)

unfoldable pub ops_of : List ℕ → Patch
ops_of s = meant s (patch_of s)
