-- A lane read as an integer: two's complement, by its 64-bit pattern. Every rule is one of exact whole numbers: the operands are read as
-- integers by `signed`, the result is worked out exactly, and `wrap` gives the pattern of that integer modulo 2 ^ 64. Assumes nothing.
use Rattle.std.specs.Prelude.{ℕ, zero, suc, ◌+◌, ◌-◌, ◌*◌, ◌/◌, ◌%◌, ◌^◌, Bool, true, false, cond, not, ◌&&◌, ◌||◌, ℤ, pos, negsuc, ◌+ℤ◌, ◌-ℤ◌, ◌*ℤ◌, neg_ℤ, ◌==◌, int_div, int_rem, nat_lt}
use Rattle.std.specs.Int.Signed.{shr_z, non_neg}

-- the integer that a pattern stands for
abbrev pub signed : ℕ → ℤ
signed n = cond (nat_lt n (2 ^ 63)) (pos n) (negsuc (2 ^ 64 - suc n))

-- the pattern that an integer has modulo 2 ^ 64
abbrev pub wrap : ℤ → ℕ
wrap (pos n) = n % 2 ^ 64
wrap (negsuc n) = 2 ^ 64 - suc (n % 2 ^ 64)

-- a magnitude with a sign, negative where the test is true
abbrev pub signed_by : Bool → ℕ → ℤ
signed_by true n = neg_ℤ (pos n)
signed_by false n = pos n

-- a truth as 0 or 1
abbrev pub bit : Bool → ℕ
bit true = 1
bit false = 0

-- sums, Inc, Dec, Offset, Index, Neg and products wrap at 64 bits; Offset and Index are sums
abbrev pub int_add : ℕ → ℕ → ℕ
int_add a b = wrap (signed a +ℤ signed b)

abbrev pub int_sub : ℕ → ℕ → ℕ
int_sub a b = wrap (signed a -ℤ signed b)

abbrev pub int_mul : ℕ → ℕ → ℕ
int_mul a b = wrap (signed a *ℤ signed b)

abbrev pub int_neg : ℕ → ℕ
int_neg a = wrap (neg_ℤ (signed a))

abbrev pub int_inc : ℕ → ℕ
int_inc a = wrap (signed a +ℤ pos 1)

abbrev pub int_dec : ℕ → ℕ
int_dec a = wrap (signed a -ℤ pos 1)

-- rounded toward zero; the divisor 0 leaves the lane. The one quotient out of range, of the least integer by -1, wraps to the least
abbrev pub int_quotient : ℕ → ℕ → ℕ
int_quotient a b = cond (b == 0) a (wrap (int_div (signed a) (signed b)))

-- what that quotient leaves, with the sign of the lane; the divisor 0 leaves the lane
abbrev pub int_remainder : ℕ → ℕ → ℕ
int_remainder a b = cond (b == 0) a (wrap (int_rem (signed a) (signed b)))

-- shift counts are taken modulo 64
abbrev pub int_shl : ℕ → ℕ → ℕ
int_shl a b = wrap (signed a *ℤ pos (2 ^ (b % 64)))

-- to the right, the pattern as an unsigned number
abbrev pub int_shr : ℕ → ℕ → ℕ
int_shr a b = a / 2 ^ (b % 64)

-- to the right, the integer rounded down
abbrev pub int_sar : ℕ → ℕ → ℕ
int_sar a b = wrap (shr_z (signed a) (2 ^ (b % 64)))

-- ---- by bits

-- the number of k binary digits whose digit at each place is f of the digits of a and b there
unfoldable pub bitwise : (ℕ → ℕ → ℕ) → ℕ → ℕ → ℕ → ℕ
bitwise f zero a b = 0
bitwise f (suc k) a b = f (a % 2) (b % 2) + 2 * bitwise f k (a / 2) (b / 2)

-- 1 where both digits are, where not both are, where one is at least, where just one is
abbrev pub both_digits : ℕ → ℕ → ℕ
both_digits x y = x * y

abbrev pub not_both_digits : ℕ → ℕ → ℕ
not_both_digits x y = 1 - x * y

abbrev pub some_digit : ℕ → ℕ → ℕ
some_digit x y = x + y - x * y

abbrev pub one_digit : ℕ → ℕ → ℕ
one_digit x y = (x + y) % 2

abbrev pub bit_and : ℕ → ℕ → ℕ
bit_and a b = bitwise both_digits 64 a b

abbrev pub bit_nand : ℕ → ℕ → ℕ
bit_nand a b = bitwise not_both_digits 64 a b

abbrev pub bit_or : ℕ → ℕ → ℕ
bit_or a b = bitwise some_digit 64 a b

abbrev pub bit_xor : ℕ → ℕ → ℕ
bit_xor a b = bitwise one_digit 64 a b

-- every digit changed: -1 less the integer
abbrev pub bit_not : ℕ → ℕ
bit_not a = wrap (negsuc 0 -ℤ signed a)

-- ---- as truth: 0 is false, any other pattern true

-- And, Or, Not give 0 or 1
abbrev pub bool_and : ℕ → ℕ → ℕ
bool_and a b = bit (not (a == 0) && not (b == 0))

abbrev pub bool_or : ℕ → ℕ → ℕ
bool_or a b = bit (not (a == 0) || not (b == 0))

abbrev pub bool_not : ℕ → ℕ
bool_not a = bit (a == 0)

-- 1 where the integer is not negative
abbrev pub int_gez : ℕ → ℕ
int_gez a = bit (non_neg (signed a))
