-- The division of two whole numbers that are floats is one rounding of the fraction. Assumes nothing.
use Rattle.std.proofs.Common.{◌≡◌, ℕ, ◌*◌, ◌^◌, ◌<◌, ◌≤◌, Bool, true, false, not, T, ℤ, pos, sym, ap, ◌∙◌, subst, mul-pos, arith, ne_eqb}
use lib.Ieee.{Float, nan, inf, fin, binary64, up, down, round, div, of_int, is_nan, to_bits}
use lib.Ieee.Fits.{round-fits, down_pos}
use lib.Ieee.Exact.{HasValue}
use lib.Ieee.Back.{round_whole}
use lib.Ieee.Bits.{to_bits-lt}
use lib.Ieee.Scale.{round_same}
use Rattle.lanes.proofs.Floats.{round_number}
use Rattle.decimals.specs.Decimal.{quotient_of}
use Rattle.decimals.proofs.Reading.{power_high, power_some}

-- the float of a whole number up to 2 ^ 53 is that number
pub whole_value : (n : ℕ) → n ≤ 2 ^ 53 → HasValue (of_int binary64 (pos n)) false n 1
unfolding of_int
whole_value n h = round_whole binary64 false n h

divisor : (k d : ℕ) (g : ℤ) → k * up g * 1 ≡ d * down g → 0 < d → k ≡ 0 → ⊥
divisor k d g v h e = omega (arith, ap (λ (x : ℕ). x * up g * 1) e, mul-pos h (down_pos g))

cross : (m u w n k x y d : ℕ) → m * u * 1 ≡ n * w → k * x * 1 ≡ d * y → m * u * y * d ≡ n * (k * x * w)
cross m u w n k x y d v r = omega (arith, ap (λ (t : ℕ). t * (y * d)) v, ap (λ (t : ℕ). n * w * t) r)

pub div_whole : (x y : Float) (n d : ℕ) → HasValue x false n 1 → HasValue y false d 1 → 0 < d → div binary64 x y ≡ round binary64 false n d
unfolding div
div_whole nan y n d v w h = absurd v
div_whole (inf s) y n d v w h = absurd v
div_whole (fin s m e) nan n d v w h = absurd w
div_whole (fin s m e) (inf t) n d v w h = absurd w
div_whole (fin true m e) (fin t k g) n d v w h = cc
div_whole (fin false m e) (fin true k g) n d v w h = cc
div_whole (fin false m e) (fin false k g) n d v w h =
    rw (ne_eqb k 0 (divisor k d g w.1 h))
    (round_same binary64 false (m * up e * down g) (k * up g * down e) n d (omega (arith, mul-pos h (mul-pos (down_pos g) (down_pos e)), ap (λ (t : ℕ). t * down e) w.1)) h (cross m (up e) (down e) n k (up g) (down g) d v.1 w.1))

-- two such floats divided
module _ (n k d : ℕ) (h : n ≤ 2 ^ 53) (q : d ≡ 10 ^ k) (l : k ≤ 15) {x y : Float} (e : x ≡ of_int binary64 (pos n)) (g : y ≡ of_int binary64 (pos d)) where
  small : d ≤ 2 ^ 53
  small = omega (arith, power_high k l)

  divided : div binary64 x y ≡ round binary64 false n d
  divided =
      div_whole x y n d (subst (λ (z : Float). HasValue z false n 1) (sym e) (whole_value n h)) (subst (λ (z : Float). HasValue z false d 1) (sym g) (whole_value d small)) (power_some k d q)

  pub divided_number : T (not (is_nan (div binary64 x y)))
  divided_number = subst (λ (b : Bool). T (not b)) (sym (ap is_nan divided ∙ round_number binary64 n d)) tt

  pub divided_bits : to_bits binary64 (div binary64 x y) ≡ quotient_of n k
  unfolding quotient_of
  divided_bits = ap (λ (z : Float). to_bits binary64 z) divided ∙ ap (λ (z : ℕ). to_bits binary64 (round binary64 false n z)) q

-- the pattern of a quotient is one of 64 bits
pub quotient_word : (n k : ℕ) → quotient_of n k < 2 ^ 64
unfolding quotient_of
quotient_word n k = to_bits-lt binary64 (round binary64 false n (10 ^ k)) (round-fits binary64 false n (10 ^ k))
