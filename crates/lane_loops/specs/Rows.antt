-- Which op a row of the table of kinds is. Assumes nothing.
use Rattle.std.specs.Prelude.{ℕ, cond, eqb}
use Rattle.kind_table.specs.Rows as row
use Rattle.lanes.specs.declared.lane.CellOp.{CellOp}
use Rattle.lanes.specs.declared.lane.CellOp.TheVariants.{Index, BitwiseNand, BitwiseAnd, BitwiseOr, BitwiseXor, LeftShift, LogicalRightShift, ArithmeticRightShift, And, Or, Add, Sub, Mul, Div, Rem, FloatAdd, FloatSub, FloatMul, FloatDiv, FloatRem}
use Rattle.lanes.specs.declared.lane.LaneOp.{LaneOp}
use Rattle.lanes.specs.declared.lane.LaneOp.TheVariants.{BitwiseNot, Not, Neg, Inc, Dec, IsNonNegative, ToInt, ToFloat, FloatNeg, FloatIsNonNegative}

-- of the ops with cells; the last for every other row
unfoldable pub cell_row : ℕ → CellOp
cell_row k =
    cond (eqb k row.index) Index (cond (eqb k row.bitwise_nand) BitwiseNand (cond (eqb k row.bitwise_and) BitwiseAnd (cond (eqb k row.bitwise_or) BitwiseOr (cond (eqb k row.bitwise_xor) BitwiseXor
    (cond (eqb k row.left_shift) LeftShift (cond (eqb k row.logical_right_shift) LogicalRightShift (cond (eqb k row.arithmetic_right_shift) ArithmeticRightShift (cond (eqb k row.and) And
    (cond (eqb k row.or) Or (cond (eqb k row.add) Add (cond (eqb k row.sub) Sub (cond (eqb k row.mul) Mul (cond (eqb k row.div) Div (cond (eqb k row.rem) Rem
    (cond (eqb k row.float_add) FloatAdd (cond (eqb k row.float_sub) FloatSub (cond (eqb k row.float_mul) FloatMul (cond (eqb k row.float_div) FloatDiv FloatRem))))))))))))))))))

-- of the lane-only ops
unfoldable pub lane_row : ℕ → LaneOp
lane_row k =
    cond (eqb k row.bitwise_not) BitwiseNot (cond (eqb k row.not) Not (cond (eqb k row.neg) Neg (cond (eqb k row.inc) Inc (cond (eqb k row.dec) Dec
    (cond (eqb k row.is_non_negative) IsNonNegative (cond (eqb k row.to_int) ToInt (cond (eqb k row.to_float) ToFloat (cond (eqb k row.float_neg) FloatNeg FloatIsNonNegative))))))))
