-- The ops, by family. A lane or a cell is a number below 2 ^ 64: the bits of an i64. Assumes nothing.
use Rattle.std.specs.Prelude.{ℕ, Bool, true, false, List, []}
use Rattle.kind_table.specs.Rows as row
use Rattle.kind_table.specs.Kinds.{standard}
use Rattle.lanes.specs.declared.lane.CellOp.{CellOp}
use Rattle.lanes.specs.declared.lane.CellOp.TheVariants.{Index, BitwiseNand, BitwiseAnd, BitwiseOr, BitwiseXor, LeftShift, LogicalRightShift, ArithmeticRightShift, And, Or, Add, Sub, Mul, Div, Rem, FloatAdd, FloatSub, FloatMul, FloatDiv, FloatRem}
use Rattle.lanes.specs.declared.lane.LaneOp.{LaneOp}
use Rattle.lanes.specs.declared.lane.LaneOp.TheVariants.{BitwiseNot, Not, Neg, Inc, Dec, IsNonNegative, ToInt, ToFloat, FloatNeg, FloatIsNonNegative}
use Rattle.ops.specs.declared.op.Mode.{Mode}
use Rattle.ops.specs.declared.op.Binding.{Binding}

-- the ops after which one lane is known
pub data Control : Type 0 where
  function call ret while if else end : Control

-- the ops that keep the register's length
pub data Plain : Type 0 where
  comment : List ℕ → Plain
  store move swap : ℕ → Plain
  locate : Plain
  offset : ℕ → ℕ → Plain
  deref refer : Plain
  cell : CellOp → ℕ → Plain
  lane : LaneOp → ℕ → Plain
  get put : Mode → Plain
  peek poke : Plain
  ffi_call : Binding → Plain
  alloc free : Plain

-- core Set's values, or standard Set's
pub data Sort : Type 0 where
  ints floats : Sort

pub data Op : Type 0 where
  control : Control → Op
  set : Sort → List ℕ → Op
  load : ℕ → Op
  plain : Plain → Op

-- what an op is to a scan: opens a bracket, closes one, is an Else, or none of these
pub data Bracket : Type 0 where
  up down mid flat : Bracket

abbrev pub bracket_of : Control → Bracket
bracket_of function = up
bracket_of call = flat
bracket_of ret = flat
bracket_of while = up
bracket_of if = up
bracket_of else = mid
bracket_of end = down

abbrev pub bracket : Op → Bracket
bracket (control c) = bracket_of c
bracket (set k vs) = flat
bracket (load n) = flat
bracket (plain p) = flat

abbrev pub is_function_of : Control → Bool
is_function_of function = true
is_function_of call = false
is_function_of ret = false
is_function_of while = false
is_function_of if = false
is_function_of else = false
is_function_of end = false

abbrev pub is_function : Op → Bool
is_function (control c) = is_function_of c
is_function (set k vs) = false
is_function (load n) = false
is_function (plain p) = false

abbrev pub is_while_of : Control → Bool
is_while_of function = false
is_while_of call = false
is_while_of ret = false
is_while_of while = true
is_while_of if = false
is_while_of else = false
is_while_of end = false

abbrev pub is_while : Op → Bool
is_while (control c) = is_while_of c
is_while (set k vs) = false
is_while (load n) = false
is_while (plain p) = false

-- the lanes that a step of the op asks for: 21 is given where the register has fewer
abbrev pub needs_of : Control → ℕ
needs_of function = 0
needs_of call = 1
needs_of ret = 0
needs_of while = 1
needs_of if = 1
needs_of else = 0
needs_of end = 1

abbrev pub plain_needs : Plain → ℕ
plain_needs (comment bs) = 0
plain_needs (store n) = n
plain_needs (move n) = 0
plain_needs (swap n) = n
plain_needs locate = 1
plain_needs (offset v n) = n
plain_needs deref = 0
plain_needs refer = 0
plain_needs (cell k n) = n
plain_needs (lane k n) = n
plain_needs (get m) = 1
plain_needs (put m) = 1
plain_needs peek = 1
plain_needs poke = 1
plain_needs (ffi_call b) = 0
plain_needs alloc = 1
plain_needs free = 0

abbrev pub needs : Op → ℕ
needs (control c) = needs_of c
needs (set k vs) = 0
needs (load n) = 0
needs (plain p) = plain_needs p

-- ---- the kinds of the patch file: a core kind's number is its row

abbrev pub control_kind : Control → ℕ
control_kind function = row.function
control_kind call = row.call
control_kind ret = row.ret
control_kind while = row.while
control_kind if = row.if
control_kind else = row.else
control_kind end = row.end

abbrev pub cell_kind : CellOp → ℕ
cell_kind Index = row.index
cell_kind BitwiseNand = row.bitwise_nand
cell_kind BitwiseAnd = row.bitwise_and
cell_kind BitwiseOr = row.bitwise_or
cell_kind BitwiseXor = row.bitwise_xor
cell_kind LeftShift = row.left_shift
cell_kind LogicalRightShift = row.logical_right_shift
cell_kind ArithmeticRightShift = row.arithmetic_right_shift
cell_kind And = row.and
cell_kind Or = row.or
cell_kind Add = row.add
cell_kind Sub = row.sub
cell_kind Mul = row.mul
cell_kind Div = row.div
cell_kind Rem = row.rem
cell_kind FloatAdd = standard row.float_add
cell_kind FloatSub = standard row.float_sub
cell_kind FloatMul = standard row.float_mul
cell_kind FloatDiv = standard row.float_div
cell_kind FloatRem = standard row.float_rem

abbrev pub lane_kind : LaneOp → ℕ
lane_kind BitwiseNot = row.bitwise_not
lane_kind Not = row.not
lane_kind Neg = row.neg
lane_kind Inc = row.inc
lane_kind Dec = row.dec
lane_kind IsNonNegative = row.is_non_negative
lane_kind ToInt = standard row.to_int
lane_kind ToFloat = standard row.to_float
lane_kind FloatNeg = standard row.float_neg
lane_kind FloatIsNonNegative = standard row.float_is_non_negative

abbrev pub plain_kind : Plain → ℕ
plain_kind (comment bs) = row.comment
plain_kind (store n) = row.store
plain_kind (move n) = row.move
plain_kind (swap n) = row.swap
plain_kind locate = row.locate
plain_kind (offset v n) = row.offset
plain_kind deref = row.deref
plain_kind refer = row.refer
plain_kind (cell k n) = cell_kind k
plain_kind (lane k n) = lane_kind k
plain_kind (get m) = row.get
plain_kind (put m) = row.put
plain_kind peek = standard row.peek
plain_kind poke = standard row.poke
plain_kind (ffi_call b) = standard row.standard_call
plain_kind alloc = standard row.alloc
plain_kind free = standard row.free

abbrev pub set_kind : Sort → ℕ
set_kind ints = row.set
set_kind floats = standard row.standard_set

abbrev pub kind_of : Op → ℕ
kind_of (control c) = control_kind c
kind_of (set k vs) = set_kind k
kind_of (load n) = row.load
kind_of (plain p) = plain_kind p

-- the argument of a Store, a Load or a Move
abbrev pub plain_arg : Plain → ℕ
plain_arg (comment bs) = 0
plain_arg (store n) = n
plain_arg (move n) = n
plain_arg (swap n) = n
plain_arg locate = 0
plain_arg (offset v n) = n
plain_arg deref = 0
plain_arg refer = 0
plain_arg (cell k n) = n
plain_arg (lane k n) = n
plain_arg (get m) = 0
plain_arg (put m) = 0
plain_arg peek = 0
plain_arg poke = 0
plain_arg (ffi_call b) = 0
plain_arg alloc = 0
plain_arg free = 0

abbrev pub arg_of : Op → ℕ
arg_of (control c) = 0
arg_of (set k vs) = 0
arg_of (load n) = n
arg_of (plain p) = plain_arg p

abbrev pub values_of : Op → List ℕ
values_of (control c) = []
values_of (set k vs) = vs
values_of (load n) = []
values_of (plain p) = []
