-- Which rule each op has for a lane. Assumes nothing.
use Rattle.std.specs.Prelude.{ℕ}
use Rattle.lanes.specs.declared.lane.CellOp.{CellOp}
use Rattle.lanes.specs.declared.lane.CellOp.TheVariants.{Index, BitwiseNand, BitwiseAnd, BitwiseOr, BitwiseXor, LeftShift, LogicalRightShift, ArithmeticRightShift, And, Or, Add, Sub, Mul, Div, Rem, FloatAdd, FloatSub, FloatMul, FloatDiv, FloatRem}
use Rattle.lanes.specs.declared.lane.LaneOp.{LaneOp}
use Rattle.lanes.specs.declared.lane.LaneOp.TheVariants.{BitwiseNot, Not, Neg, Inc, Dec, IsNonNegative, ToInt, ToFloat, FloatNeg, FloatIsNonNegative}
use Rattle.std.specs.Float.Ieee as ieee
use Rattle.lanes.specs.Int.{bitwise, int_add, int_sub, int_mul, int_neg, int_inc, int_dec, int_quotient, int_remainder, int_shl, int_shr, int_sar, bit_and, bit_nand, bit_or, bit_xor, bit_not, bool_and, bool_or, bool_not, int_gez}
use Rattle.lanes.specs.Float.{float_add, float_sub, float_mul, float_div, float_rem, float_neg, float_gez, to_int, to_float}

-- the lane a with the cell b beside it
unfoldable pub cell_rule : CellOp → ℕ → ℕ → ℕ
unfolding bitwise ieee.of_bits ieee.to_bits ieee.is_nan ieee.add ieee.sub ieee.mul ieee.div ieee.rem
cell_rule Index a b = int_add a b
cell_rule BitwiseNand a b = bit_nand a b
cell_rule BitwiseAnd a b = bit_and a b
cell_rule BitwiseOr a b = bit_or a b
cell_rule BitwiseXor a b = bit_xor a b
cell_rule LeftShift a b = int_shl a b
cell_rule LogicalRightShift a b = int_shr a b
cell_rule ArithmeticRightShift a b = int_sar a b
cell_rule And a b = bool_and a b
cell_rule Or a b = bool_or a b
cell_rule Add a b = int_add a b
cell_rule Sub a b = int_sub a b
cell_rule Mul a b = int_mul a b
cell_rule Div a b = int_quotient a b
cell_rule Rem a b = int_remainder a b
cell_rule FloatAdd a b = float_add a b
cell_rule FloatSub a b = float_sub a b
cell_rule FloatMul a b = float_mul a b
cell_rule FloatDiv a b = float_div a b
cell_rule FloatRem a b = float_rem a b

-- the lane alone
unfoldable pub lane_rule : LaneOp → ℕ → ℕ
unfolding ieee.of_bits ieee.to_bits ieee.is_nan ieee.of_int ieee.to_signed ieee.le
lane_rule BitwiseNot a = bit_not a
lane_rule Not a = bool_not a
lane_rule Neg a = int_neg a
lane_rule Inc a = int_inc a
lane_rule Dec a = int_dec a
lane_rule IsNonNegative a = int_gez a
lane_rule ToInt a = to_int a
lane_rule ToFloat a = to_float a
lane_rule FloatNeg a = float_neg a
lane_rule FloatIsNonNegative a = float_gez a
