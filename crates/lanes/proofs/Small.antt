-- A float that is smaller in size than the divisor, which may be infinite, is its own remainder, and the patterns without the sign's bit tell it. Assumes nothing.
use Rattle.std.proofs.Common.{◌≡◌, ℕ, zero, suc, ◌+◌, ◌*◌, ◌/◌, ◌%◌, ◌^◌, ◌<◌, ◌≤◌, Bool, true, not, T, leb, ℤ, sym, refl, ap, ◌∙◌, subst, ⊎_elim, le_trans, le_of_eq, lt_of_lt_of_le, le-add_right, mul-le-mul_right, mod-eq_of_lt, mul_assoc, mul-lt-mul_of_pos_right, mul-pos, div-add-mod', zero-mul, mul_right_comm, not-le_of_lt, arith, pow_pos, pow_mono, pow-add, shl_lt, ltb-false, le-ltb, lt-ltb, ne_eqb}
use lib.Pow.{mod-mod-pow}
use lib.Ieee.{Float, nan, inf, fin, binary64, of_fields, of_bits, nan_bits, fits, to_bits, is_nan, up, down, rem}
use lib.Ieee.Bits.{nan_bits_is, nan_bits_above, of_bits-fits, to_bits-of_bits, is_false}
use lib.Ieee.Exact.{HasValue, odd_sign}
use lib.Ieee.Fits.{down_pos, rem-fits}
use lib.Ieee.Order.{transfer}
use Rattle.lanes.specs.Float.{loaded_of, float_rem}
use Rattle.lanes.proofs.Ints.{lt_or_ge}
use Rattle.lanes.proofs.Values.{value_unique}
use Rattle.basics.proofs.Tests.{or_first, or_second}
use Rattle.lanes.proofs.Floats.{stored_is, stored_nan, rem_strict, untrue}
use Rattle.lanes.proofs.Rem.{rem_exact}

-- ---- how many times the smallest value a float is, by its fields: that of the exponent, e, and the digits below the leading one, t
abbrev pub units : ℕ → ℕ → ℕ
units zero t = t * 2 ^ 0
units (suc j) t = (2 ^ 52 + t) * 2 ^ j

has_value : (s : Bool) (e t : ℕ) → e < 2047 → HasValue (of_fields binary64 s e t) s (units e t) (2 ^ 1074)
unfolding of_fields
has_value s zero t h = odd_sign 53 s t 0 1074
has_value s (suc j) t h = rw (ne_eqb (suc j) 2047 (λ e. omega arith)) (odd_sign 53 s (2 ^ 52 + t) j 1074)

under : (e t : ℕ) → t < 2 ^ 52 → units e t < 2 ^ (52 + e)
under zero t h = shl_lt 52 0 h
under (suc j) t h = lt_of_lt_of_le (shl_lt 53 j (omega arith)) (pow_mono {i = 53 + j} (omega arith))

over : (j t : ℕ) → 2 ^ (52 + j) ≤ units (suc j) t
over j t = le_trans (le_of_eq (pow-add 2 52 j)) (mul-le-mul_right (2 ^ j) (le-add_right (2 ^ 52) t))

-- it rises with the exponent, and with the digits
higher : (e d t r : ℕ) → t < 2 ^ 52 → e < d → units e t < units d r
higher e zero t r h l = absurd (omega (arith, l))
higher e (suc j) t r h l = lt_of_lt_of_le (under e t h) (le_trans (pow_mono {j = 52 + j} (omega arith)) (over j r))

level : (e t r : ℕ) → t < r → units e t < units e r
level zero t r h = mul-lt-mul_of_pos_right h (pow_pos 0)
level (suc j) t r h = mul-lt-mul_of_pos_right (omega arith) (pow_pos j)

rises : (e d t r : ℕ) → t < 2 ^ 52 → r < 2 ^ 52 → e * 2 ^ 52 + t < d * 2 ^ 52 + r → units e t < units d r
rises e d t r h k l = ⊎_elim
    (higher e d t r h)
    (λ (g : d ≤ e). let i : e ≡ d = omega arith in subst (λ (x : ℕ). units e t < units x r) i (level e t r (omega arith)))
    (lt_or_ge e d)

-- ---- u / c in size, by v / c
module _ {u v c : ℕ} (C : 0 < c) (l : u < v) where
  smaller : (m n : ℕ) (e d : ℤ) → m * up e * c ≡ u * down e → n * up d * c ≡ v * down d → m * up e * down d < n * up d * down e
  smaller m n e d p q = ⊎_elim
      (λ g. g)
      (λ g. absurd (not-le_of_lt (mul-lt-mul_of_pos_right l C) (transfer v u c c (n * up d) (m * up e) _ _ (down_pos d) (down_pos e) (sym q) (sym p) g)))
      (lt_or_ge (m * up e * down d) (n * up d * down e))

  own : (x y : Float) (s t : Bool) → T (fits binary64 x) → T (fits binary64 y) → HasValue x s u c → HasValue y t v c → rem binary64 x y ≡ x
  own nan y s t p q h k = absurd h
  own (inf z) y s t p q h k = absurd h
  own (fin z m e) nan s t p q h k = absurd k
  own (fin z m e) (inf w) s t p q h k = absurd k
  own (fin z m e) (fin w zero d) s t p q h k = absurd (omega (arith, smaller m zero e d h.1 k.1, zero-mul (up d), zero-mul (down e)))
  own (fin z m e) (fin w (suc n) d) s t p q h k =
      value_unique binary64 _ _ z (m * up e * down d) (down e * down d) (mul-pos (down_pos e) (down_pos d)) (rem-fits binary64 _ (fin w (suc n) d) p) p
      (rw (← mod-eq_of_lt (smaller m (suc n) e d h.1 k.1)) (rem_exact binary64 z w m n e d p q))
      (refl, sym (mul_assoc (m * up e) (down e) (down d)) ∙ mul_right_comm (m * up e) (down e) (down d))

by_infinity : (x : Float) (s t : Bool) (u c : ℕ) → HasValue x s u c → rem binary64 x (inf t) ≡ x
unfolding rem
by_infinity nan s t u c h = absurd h
by_infinity (inf z) s t u c h = absurd h
by_infinity (fin z m e) s t u c h = refl

-- ---- patterns
abbrev pub field : ℕ → ℕ
field a = a % 2 ^ 63 / 2 ^ 52

fields : (a : ℕ) → field a * 2 ^ 52 + a % 2 ^ 52 ≡ a % 2 ^ 63
fields a = ap (λ (t : ℕ). field a * 2 ^ 52 + t) (sym (mod-mod-pow a 11 52)) ∙ div-add-mod' (a % 2 ^ 63) (2 ^ 52)

pub value : (a : ℕ) → field a < 2047 → HasValue (loaded_of a) (leb (2 ^ 63) a) (units (field a) (a % 2 ^ 52)) (2 ^ 1074)
unfolding of_bits
value a h = has_value (leb (2 ^ 63) a) (field a) (a % 2 ^ 52) h

pub infinite : (a : ℕ) → field a ≡ 2047 → a % 2 ^ 52 ≡ 0 → loaded_of a ≡ inf (leb (2 ^ 63) a)
unfolding of_bits of_fields
infinite a e t = rw (e, t) refl

module _ (a b : ℕ) (h : a < 2 ^ 64) (p : T (not (nan_bits binary64 a))) (q : T (not (nan_bits binary64 b))) (l : a % 2 ^ 63 < b % 2 ^ 63) where
  most : b % 2 ^ 63 ≤ 0x7FF0_0000_0000_0000
  most = ltb-false _ _ (sym (nan_bits_above binary64 b) ∙ is_false _ q)

  finite : field a < 2047
  finite = omega (arith, most, l)

  risen : units (field a) (a % 2 ^ 52) < units (field b) (b % 2 ^ 52)
  risen = rises (field a) (field b) (a % 2 ^ 52) (b % 2 ^ 52) (omega arith) (omega arith) (omega (arith, fields a, fields b, l))

  left : rem binary64 (loaded_of a) (loaded_of b) ≡ loaded_of a
  left = ⊎_elim
      (λ g. own (pow_pos 1074) risen (loaded_of a) (loaded_of b) _ _ (of_bits-fits binary64 a) (of_bits-fits binary64 b) (value a finite) (value b g))
      (λ g. rw (infinite b (omega (arith, g, most)) (omega (arith, g, most, fields b))) (by_infinity (loaded_of a) _ _ _ _ (value a finite)))
      (lt_or_ge (field b) 2047)

  rem_smaller : a ≡ float_rem a b
  rem_smaller = sym (stored_is _ ∙ ap (to_bits binary64) left ∙ to_bits-of_bits binary64 a h (rw (← nan_bits_is binary64 a) p))

-- what `float_rem` tests: x is `doubled` of a pattern, and is above infinity's double where that is a NaN's
module _ (a : ℕ) {x : ℕ} (p : x ≡ 2 * (a % 2 ^ 63)) where
  twice_nan : 0xFFE0_0000_0000_0000 < x → nan_bits binary64 a ≡ true
  twice_nan l = nan_bits_above binary64 a ∙ lt-ltb 0x7FF0_0000_0000_0000 (a % 2 ^ 63) (omega (arith, p, l))

  pub twice_number : x ≤ 0xFFE0_0000_0000_0000 → T (not (nan_bits binary64 a))
  twice_number l = untrue (nan_bits_above binary64 a ∙ le-ltb 0x7FF0_0000_0000_0000 (a % 2 ^ 63) (omega (arith, p, l)))

module _ (a b : ℕ) {x : ℕ} where
  pub rem_of_nan : x ≡ 2 * (a % 2 ^ 63) → 0xFFE0_0000_0000_0000 < x → 0x7FF8_0000_0000_0000 ≡ float_rem a b
  rem_of_nan p l = stored_nan _ (rem_strict (loaded_of a) (loaded_of b) (or_first (is_nan (loaded_of a)) (is_nan (loaded_of b)) (sym (nan_bits_is binary64 a) ∙ twice_nan a p l)))

  pub rem_by_nan : x ≡ 2 * (b % 2 ^ 63) → 0xFFE0_0000_0000_0000 < x → 0x7FF8_0000_0000_0000 ≡ float_rem a b
  rem_by_nan p l = stored_nan _ (rem_strict (loaded_of a) (loaded_of b) (or_second (is_nan (loaded_of a)) (is_nan (loaded_of b)) (sym (nan_bits_is binary64 b) ∙ twice_nan b p l)))

module _ (a b : ℕ) {x y : ℕ} (p : x ≡ 2 * (a % 2 ^ 63)) (q : y ≡ 2 * (b % 2 ^ 63)) where
  pub rem_below : a < 2 ^ 64 → x < y → y ≤ 0xFFE0_0000_0000_0000 → a ≡ float_rem a b
  rem_below h l m = rem_smaller a b h (twice_number a p (omega (arith, l, m))) (twice_number b q m) (omega (arith, p, q, l))
