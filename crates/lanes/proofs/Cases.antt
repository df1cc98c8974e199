-- Cases 1, 2 and 13 of 01-scope.md's table, as one computed list. Assumes nothing.
use Rattle.std.proofs.Common.{◌≡◌, ℕ, ◌-◌, [], ◌∷◌, refl}
use lib.Ieee as ieee
use Rattle.lanes.specs.Int.{int_quotient, int_remainder, int_shl}
use Rattle.lanes.specs.Float.{to_int, to_float}

abbrev least : ℕ
least = 0x8000_0000_0000_0000

-- the pattern of -n
abbrev minus : ℕ → ℕ
minus n = 0x1_0000_0000_0000_0000 - n

-- 1: the least integer and -7 divided; 2: 1 shifted by -1; 13: 2 ^ 53 + 1 as a float, its pattern and the integer that it is
pub cases : (int_quotient least (minus 1) ∷ int_remainder least (minus 1) ∷ int_quotient (minus 7) 2 ∷ int_remainder (minus 7) 2 ∷ int_shl 1 (minus 1) ∷ to_float 9007199254740993 ∷ to_int (to_float 9007199254740993) ∷ [])
    ≡ (least ∷ 0 ∷ minus 3 ∷ minus 1 ∷ least ∷ 0x4340_0000_0000_0000 ∷ 9007199254740992 ∷ [])
unfolding ieee.of_int ieee.to_bits ieee.is_nan ieee.of_bits ieee.to_signed
cases = refl
