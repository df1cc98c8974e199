-- The rows of the table of kinds: which op, which family and which mark each of them is. Assumes nothing.
use mathlib.Core.Path.{◌≡◌}
use mathlib.Core.List.{List}
use Prim.Native.Nat.{ℕ}
use lib.Dec.{eqb}
use Rattle.basics.specs.Pick.{pick}
use Rattle.lanes.specs.declared.lane.CellOp.{CellOp}
use Rattle.lanes.specs.declared.lane.CellOp.TheVariants.{Index, BitwiseNand, BitwiseAnd, BitwiseOr, BitwiseXor, LeftShift, LogicalRightShift, ArithmeticRightShift, And, Or, Add, Sub, Mul, Div, Rem, FloatAdd, FloatSub, FloatMul, FloatDiv, FloatRem}
use Rattle.lanes.specs.declared.lane.LaneOp.{LaneOp}
use Rattle.lanes.specs.declared.lane.LaneOp.TheVariants.{BitwiseNot, Not, Neg, Inc, Dec, IsNonNegative, ToInt, ToFloat, FloatNeg, FloatIsNonNegative}
use Rattle.lane_loops.specs.Rows.{cell_row, lane_row}
use Rattle.kind_table.specs.Columns.{cell_family, lane_family}
use Rattle.kind_table.specs.Kinds.{index_of, family_of}
use Rattle.ops.specs.Syntax.{Control, Plain, Sort, Op, bracket, is_function, is_while, kind_of, control_kind, plain_kind, set_kind, cell_kind, lane_kind}
use Rattle.ops.specs.Syntax.Control.{function, call, ret, while, if, else, end}
use Rattle.ops.specs.Syntax.Plain.{comment, store, move, swap, locate, offset, deref, refer, cell, lane, get, put, peek, poke, ffi_call, alloc, free}
use Rattle.ops.specs.Syntax.Sort.{ints, floats}
use Rattle.ops.specs.Syntax.Op.{control, set, load, plain}
use Rattle.machine_model.specs.Passed.{is_comment}
use Rattle.partners.specs.Columns.{row_bracket, row_function}
use Rattle.bridge.specs.Run.{row_comment}

-- the row k is to the searches what the op o is
pub record Told (k : ℕ) (o : Op) : Type 0 where
  pub marked : row_bracket k ≡ bracket o
  pub entered : row_function k ≡ is_function o
  pub looped : eqb k 5 ≡ is_while o
  pub noted : row_comment k ≡ is_comment o

pub record CellRow (k n : ℕ) (o : CellOp) : Type 0 where
  pub family : family_of k ≡ cell_family
  pub rule : cell_row k ≡ o
  pub told : Told k (plain (cell o n))

pub record LaneRow (k n : ℕ) (o : LaneOp) : Type 0 where
  pub family : family_of k ≡ lane_family
  pub rule : lane_row k ≡ o
  pub told : Told k (plain (lane o n))

module _ {n : ℕ} where
  pub cell_row_lem : (o : CellOp) → CellRow (index_of (cell_kind o)) n o
  unfolding index_of row_bracket row_function row_comment family_of cell_row pick
  cell_row_lem Index = search
  cell_row_lem BitwiseNand = search
  cell_row_lem BitwiseAnd = search
  cell_row_lem BitwiseOr = search
  cell_row_lem BitwiseXor = search
  cell_row_lem LeftShift = search
  cell_row_lem LogicalRightShift = search
  cell_row_lem ArithmeticRightShift = search
  cell_row_lem And = search
  cell_row_lem Or = search
  cell_row_lem Add = search
  cell_row_lem Sub = search
  cell_row_lem Mul = search
  cell_row_lem Div = search
  cell_row_lem Rem = search
  cell_row_lem FloatAdd = search
  cell_row_lem FloatSub = search
  cell_row_lem FloatMul = search
  cell_row_lem FloatDiv = search
  cell_row_lem FloatRem = search

  pub lane_row_lem : (o : LaneOp) → LaneRow (index_of (lane_kind o)) n o
  unfolding index_of row_bracket row_function row_comment family_of lane_row pick
  lane_row_lem BitwiseNot = search
  lane_row_lem Not = search
  lane_row_lem Neg = search
  lane_row_lem Inc = search
  lane_row_lem Dec = search
  lane_row_lem IsNonNegative = search
  lane_row_lem ToInt = search
  lane_row_lem ToFloat = search
  lane_row_lem FloatNeg = search
  lane_row_lem FloatIsNonNegative = search

control_row : (x : Control) → Told (index_of (control_kind x)) (control x)
unfolding index_of row_bracket row_function row_comment pick
control_row function = search
control_row call = search
control_row ret = search
control_row while = search
control_row if = search
control_row else = search
control_row end = search

set_row : (k : Sort) (vs : List ℕ) → Told (index_of (set_kind k)) (set k vs)
unfolding index_of row_bracket row_function row_comment pick
set_row ints vs = search
set_row floats vs = search

plain_row : (p : Plain) → Told (index_of (plain_kind p)) (plain p)
unfolding index_of row_bracket row_function row_comment pick
plain_row (comment bs) = search
plain_row (store n) = search
plain_row (move v) = search
plain_row (swap n) = search
plain_row locate = search
plain_row (offset v n) = search
plain_row deref = search
plain_row refer = search
plain_row (cell o n) = (cell_row_lem o).told
plain_row (lane o n) = (lane_row_lem o).told
plain_row (get d) = search
plain_row (put d) = search
plain_row peek = search
plain_row poke = search
plain_row (ffi_call b) = search
plain_row alloc = search
plain_row free = search

-- the row of any op
pub op_row : (o : Op) → Told (index_of (kind_of o)) o
unfolding index_of row_bracket row_function row_comment pick
op_row (control x) = control_row x
op_row (set k vs) = set_row k vs
op_row (load n) = search
op_row (plain p) = plain_row p
