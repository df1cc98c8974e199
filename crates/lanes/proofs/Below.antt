-- Every rule gives a pattern: a number below 2 ^ 64. Assumes nothing.
use Rattle.std.proofs.Common.{ℕ, ◌%◌, ◌^◌, ◌<◌, Bool, true, false, cond, not, ◌&&◌, ◌||◌, eqb, ℤ, pos, negsuc, ◌+ℤ◌, ◌-ℤ◌, ◌*ℤ◌, neg_ℤ, lt_of_le_of_lt, div-le_self, arith}
use lib.Signed.{quot_z, rem_z, shr_z, non_neg}
use lib.Ieee as ieee
use lib.Ieee.{binary64}
use lib.Ieee.Bits.{of_bits-fits}
use lib.Ieee.Fits.{add-fits, sub-fits, mul-fits, div-fits, rem-fits, of_int-fits}
use Rattle.lanes.specs.declared.lane.CellOp.{CellOp}
use Rattle.lanes.specs.declared.lane.CellOp.TheVariants as cell
use Rattle.lanes.specs.declared.lane.LaneOp.{LaneOp}
use Rattle.lanes.specs.declared.lane.LaneOp.TheVariants as lane
use Rattle.lanes.specs.Int.{signed, wrap, bit, both_digits, not_both_digits, some_digit, one_digit}
use Rattle.lanes.specs.Float.{loaded_of}
use Rattle.lanes.specs.Lane.{cell_rule, lane_rule}
use Rattle.lanes.proofs.Bits.{digit_below, bitwise_below}
use Rattle.lanes.proofs.Floats.{stored_below}

wrap_below : (z : ℤ) → wrap z < 2 ^ 64
wrap_below (pos n) = omega arith
wrap_below (negsuc n) = omega arith

bit_below : (b : Bool) → bit b < 2 ^ 64
bit_below true = omega arith
bit_below false = omega arith

-- the lane itself, or a wrapped number
kept_below : (b : Bool) (a : ℕ) (z : ℤ) → a < 2 ^ 64 → cond b a (wrap z) < 2 ^ 64
kept_below true a z h = h
kept_below false a z h = wrap_below z

pub cell_rule_below : (op : CellOp) (a b : ℕ) → a < 2 ^ 64 → cell_rule op a b < 2 ^ 64
unfolding cell_rule
cell_rule_below cell.Index a b h = wrap_below (signed a +ℤ signed b)
cell_rule_below cell.BitwiseNand a b h = bitwise_below not_both_digits (digit_below not_both_digits tt) 64 a b
cell_rule_below cell.BitwiseAnd a b h = bitwise_below both_digits (digit_below both_digits tt) 64 a b
cell_rule_below cell.BitwiseOr a b h = bitwise_below some_digit (digit_below some_digit tt) 64 a b
cell_rule_below cell.BitwiseXor a b h = bitwise_below one_digit (digit_below one_digit tt) 64 a b
cell_rule_below cell.LeftShift a b h = wrap_below (signed a *ℤ pos (2 ^ (b % 64)))
cell_rule_below cell.LogicalRightShift a b h = lt_of_le_of_lt (div-le_self a (2 ^ (b % 64))) h
cell_rule_below cell.ArithmeticRightShift a b h = wrap_below (shr_z (signed a) (2 ^ (b % 64)))
cell_rule_below cell.And a b h = bit_below (not (eqb a 0) && not (eqb b 0))
cell_rule_below cell.Or a b h = bit_below (not (eqb a 0) || not (eqb b 0))
cell_rule_below cell.Add a b h = wrap_below (signed a +ℤ signed b)
cell_rule_below cell.Sub a b h = wrap_below (signed a -ℤ signed b)
cell_rule_below cell.Mul a b h = wrap_below (signed a *ℤ signed b)
cell_rule_below cell.Div a b h = kept_below (eqb b 0) a (quot_z (signed a) (signed b)) h
cell_rule_below cell.Rem a b h = kept_below (eqb b 0) a (rem_z (signed a) (signed b)) h
cell_rule_below cell.FloatAdd a b h = stored_below (ieee.add binary64 (loaded_of a) (loaded_of b)) (add-fits binary64 (loaded_of a) (loaded_of b))
cell_rule_below cell.FloatSub a b h = stored_below (ieee.sub binary64 (loaded_of a) (loaded_of b)) (sub-fits binary64 (loaded_of a) (loaded_of b))
cell_rule_below cell.FloatMul a b h = stored_below (ieee.mul binary64 (loaded_of a) (loaded_of b)) (mul-fits binary64 (loaded_of a) (loaded_of b))
cell_rule_below cell.FloatDiv a b h = stored_below (ieee.div binary64 (loaded_of a) (loaded_of b)) (div-fits binary64 (loaded_of a) (loaded_of b))
cell_rule_below cell.FloatRem a b h = stored_below (ieee.rem binary64 (loaded_of a) (loaded_of b)) (rem-fits binary64 (loaded_of a) (loaded_of b) (of_bits-fits binary64 a))

pub lane_rule_below : (op : LaneOp) (a : ℕ) → lane_rule op a < 2 ^ 64
unfolding lane_rule
lane_rule_below lane.BitwiseNot a = wrap_below (negsuc 0 -ℤ signed a)
lane_rule_below lane.Not a = bit_below (eqb a 0)
lane_rule_below lane.Neg a = wrap_below (neg_ℤ (signed a))
lane_rule_below lane.Inc a = wrap_below (signed a +ℤ pos 1)
lane_rule_below lane.Dec a = wrap_below (signed a -ℤ pos 1)
lane_rule_below lane.IsNonNegative a = bit_below (non_neg (signed a))
lane_rule_below lane.ToInt a = wrap_below (ieee.to_signed 63 (loaded_of a))
lane_rule_below lane.ToFloat a = stored_below (ieee.of_int binary64 (signed a)) (of_int-fits binary64 (signed a))
lane_rule_below lane.FloatNeg a = omega arith
lane_rule_below lane.FloatIsNonNegative a = bit_below (ieee.le (ieee.fin false 0 (pos 0)) (loaded_of a))
