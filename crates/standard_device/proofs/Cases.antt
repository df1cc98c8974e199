-- Roots worked out by the rule, beside those of Python's math.sqrt. Assumes nothing.
use mathlib.Core.Path.{◌≡◌, refl}
use mathlib.Core.List.{List, [], ◌∷◌, map}
use Prim.Native.Nat.{ℕ}
use lib.Ieee as ieee
use Rattle.standard_device.specs.Root.{root_in, nearer, near_root, positive_root, root_rule}

-- 0.0, -0.0, 1.0, 2.0, 0.25, 3.0, the least subnormal, the largest subnormal, the largest finite, infinity, the NaN, another NaN, -1.0, -infinity, 1 less a step, 1 and a step
abbrev tried : List ℕ
tried = 0x0000_0000_0000_0000 ∷ 0x8000_0000_0000_0000 ∷ 0x3FF0_0000_0000_0000 ∷ 0x4000_0000_0000_0000 ∷ 0x3FD0_0000_0000_0000 ∷ 0x4008_0000_0000_0000 ∷ 0x0000_0000_0000_0001 ∷ 0x000F_FFFF_FFFF_FFFF ∷ 0x7FEF_FFFF_FFFF_FFFF ∷ 0x7FF0_0000_0000_0000 ∷ 0x7FF8_0000_0000_0000 ∷ 0x7FF0_0000_0000_0001 ∷ 0xBFF0_0000_0000_0000 ∷ 0xFFF0_0000_0000_0000 ∷ 0x3FEF_FFFF_FFFF_FFFF ∷ 0x3FF0_0000_0000_0001 ∷ []

pub cases : map root_rule tried
    ≡ 0x0000_0000_0000_0000 ∷ 0x8000_0000_0000_0000 ∷ 0x3FF0_0000_0000_0000 ∷ 0x3FF6_A09E_667F_3BCD ∷ 0x3FE0_0000_0000_0000 ∷ 0x3FFB_B67A_E858_4CAA ∷ 0x1E60_0000_0000_0000 ∷ 0x1FFF_FFFF_FFFF_FFFF ∷ 0x5FEF_FFFF_FFFF_FFFF ∷ 0x7FF0_0000_0000_0000 ∷ 0x7FF8_0000_0000_0000 ∷ 0x7FF8_0000_0000_0000 ∷ 0x7FF8_0000_0000_0000 ∷ 0x7FF8_0000_0000_0000 ∷ 0x3FEF_FFFF_FFFF_FFFF ∷ 0x3FF0_0000_0000_0000 ∷ []
unfolding root_rule positive_root near_root nearer root_in ieee.size ieee.span ieee.climb
cases = refl
