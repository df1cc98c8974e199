-- `lanes::float::float_div` meets its contract. Assumes nothing.
use Rattle.std.proofs.Common.{ℕ, ◌≡◌, ◌^◌, cond, not, T, sym, ◌∙◌, subst, ap₂}
use lib.Ieee.{binary64, nan_bits, of_bits, div}
use Rattle.lanes.specs.Float.{stored_of}
use Rattle.lanes.proofs.Floats.{dividend_number, divisor_number, divided}
use Rattle.lanes.proofs.float.float_div.Goals as goal
use Rattle.lanes.proofs.float.float_div.Goals.{then-bad, else-bad, then-bad-2, else-bad-2, Joined-bad-2}

-- what was chosen as x and as y
dividend : (c : Joined-bad-2) → cond c.either_nan-bad.result (2 ^ 63) c.args.a ≡ c.if-bad.x
dividend c = elim c.if-bad.branch [ then-bad w ↦ rw w.if-bad.true (sym w.x-is) | else-bad w ↦ rw w.if-bad.false (sym w.x-is) ]

divisor : (c : Joined-bad-2) → cond c.either_nan-bad.result 0 c.args.b ≡ c.if-bad-2.y
divisor c = elim c.if-bad-2.branch [ then-bad-2 w ↦ rw w.if-bad-2.true (sym w.y-is) | else-bad-2 w ↦ rw w.if-bad-2.false (sym w.y-is) ]

pub float_from_bits-x : goal.float_from_bits-x
float_from_bits-x c = subst (λ (n : ℕ). T (not (nan_bits binary64 n))) (dividend c) (dividend_number _ _ _ c.either_nan-bad.ensures)

pub float_from_bits-y : goal.float_from_bits-y
float_from_bits-y c = subst (λ (n : ℕ). T (not (nan_bits binary64 n))) (divisor c) (divisor_number _ _ _ c.either_nan-bad.ensures)

pub returns : goal.returns
returns c =
    let j = (goal.at.returns c).Joined-bad-2 in
    c.as_int.ensures
    ∙ ap₂ (λ (x y : ℕ). stored_of (div binary64 (of_bits binary64 x) (of_bits binary64 y))) (sym (dividend j)) (sym (divisor j))
    ∙ divided _ _ _ c.either_nan-bad.ensures
