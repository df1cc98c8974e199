-- A finite float without its sign's bit as a whole number: how many times the least one, 2 ^ -1074, it is. Assumes nothing.
use Rattle.std.specs.Prelude.{ℕ, ◌+◌, ◌-◌, ◌*◌, ◌/◌, ◌%◌, ◌^◌, cond, ltb}

-- the pattern of infinity: below it are the patterns of the finite floats that have no sign
abbrev pub infinity : ℕ
infinity = 0x7FF0_0000_0000_0000

-- its digits, of which it has at most 53, and the places that they stand above the least float
abbrev pub digits : ℕ → ℕ
digits p = cond (ltb p (2 ^ 52)) p (2 ^ 52 + p % 2 ^ 52)

abbrev pub places : ℕ → ℕ
places p = p / 2 ^ 52 - 1

unfoldable pub steps : ℕ → ℕ
steps p = digits p * 2 ^ places p
