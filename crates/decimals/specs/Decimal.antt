-- The float that a decimal writes: 02, ask 10, "the digits as a whole number divided by ten to the number of fraction digits, rounded once to nearest,
-- ties to even". Assumes nothing.
use Rattle.std.specs.Prelude.{ℕ, ◌+◌, ◌-◌, ◌*◌, ◌%◌, ◌^◌, Bool, false, cond, List, [], ◌∷◌, ◌==◌}
use Rattle.std.specs.Float.{binary64}
use Rattle.std.specs.Float.Ieee.{round, to_bits}

-- "all modulo 256"
abbrev pub is_point : ℕ → Bool
is_point v = v % 256 == 46

-- "A point that comes next is taken, digits or none": how many values that is, and the values after it, of which there are none without a point
abbrev pub point : List ℕ → ℕ
point [] = 0
point (v ∷ vs) = cond (is_point v) 1 0

abbrev pub after_point : List ℕ → List ℕ
after_point [] = []
after_point (v ∷ vs) = cond (is_point v) vs []

-- "the digits as a whole number", after the number a
unfoldable pub whole_of : ℕ → List ℕ → ℕ
whole_of a [] = a
whole_of a (v ∷ vs) = whole_of (a * 10 + (v % 256 - 48)) vs

-- "divided by ten to the number of fraction digits": the pattern of lib.Ieee's one rounding of the fraction n / 10 ^ k
unfoldable pub quotient_of : ℕ → ℕ → ℕ
unfolding round to_bits
quotient_of n k = to_bits binary64 (round binary64 false n (10 ^ k))
