-- What the proofs of the bit lanes share: a machine operation on bits is `bitwise` of its rule on one digit, proved once for any such operation,
-- `bitwise` of the other digits is the complement, and each digit of the result is the rule of the two digits there. Assumes nothing.
use Rattle.std.proofs.Common.{◌≡◌, ℕ, zero, suc, ◌+◌, ◌-◌, ◌*◌, ◌/◌, ◌%◌, ◌^◌, ◌<◌, min, max, ◌&&◌, T, ltb, sym, refl, ap, ◌∙◌, ap₂, le_of_suc-le-suc, not-suc-le-zero, pow-suc, arith, ltb→lt}
use native.Mathlib.Nat.{pow-succ', div-div-eq-div-mul}
use lib.Ieee.Fits.{and_l, and_r}
use lib.Bits as machine
use lib.Bits.{differ, and_step, or_step, xor_step}
use Rattle.lanes.specs.Int.{bitwise, both_digits, not_both_digits, some_digit, one_digit}

no_digit : (n : ℕ) → suc (suc n) < 2 → ⊥
no_digit n h = omega arith

-- a fact of two digits, by its four cases
pub on_digits : (P : ℕ → ℕ → Type 0) → P 0 0 → P 0 1 → P 1 0 → P 1 1 → (x y : ℕ) → x < 2 → y < 2 → P x y
on_digits P p q r s zero zero h k = p
on_digits P p q r s zero (suc zero) h k = q
on_digits P p q r s (suc zero) zero h k = r
on_digits P p q r s (suc zero) (suc zero) h k = s
on_digits P p q r s (suc (suc x)) y h k = absurd (no_digit x h)
on_digits P p q r s zero (suc (suc y)) h k = absurd (no_digit y k)
on_digits P p q r s (suc zero) (suc (suc y)) h k = absurd (no_digit y k)

-- two rules that agree on digits
digit_rule : (g f : ℕ → ℕ → ℕ) → g 0 0 ≡ f 0 0 → g 0 1 ≡ f 0 1 → g 1 0 ≡ f 1 0 → g 1 1 ≡ f 1 1 → (x y : ℕ) → x < 2 → y < 2 → g x y ≡ f x y
digit_rule g f = on_digits (λ x y. g x y ≡ f x y)

-- a rule that gives digits, by a computed test
pub digit_below : (f : ℕ → ℕ → ℕ) → T (ltb (f 0 0) 2 && ltb (f 0 1) 2 && ltb (f 1 0) 2 && ltb (f 1 1) 2) → (x y : ℕ) → x < 2 → y < 2 → f x y < 2
digit_below f t =
    let A = ltb (f 0 0) 2 in
    let B = ltb (f 0 1) 2 in
    let C = ltb (f 1 0) 2 in
    let D = ltb (f 1 1) 2 in
    on_digits (λ x y. f x y < 2)
    (ltb→lt (f 0 0) 2 (and_l A B (and_l (A && B) C (and_l (A && B && C) D t))))
    (ltb→lt (f 0 1) 2 (and_r A B (and_l (A && B) C (and_l (A && B && C) D t))))
    (ltb→lt (f 1 0) 2 (and_r (A && B) C (and_l (A && B && C) D t)))
    (ltb→lt (f 1 1) 2 (and_r (A && B && C) D t))

half : (k : ℕ) {n : ℕ} → n < 2 ^ suc k → n / 2 < 2 ^ k
half k {n} h = omega (arith, h, pow-suc 2 k)

digit : (n : ℕ) → n % 2 < 2
digit n = omega arith

-- an operation that works digit by digit, by a rule d that is f on digits, is `bitwise f`
pub digits_are : (g d f : ℕ → ℕ → ℕ) → ((a b : ℕ) → g a b ≡ g (a / 2) (b / 2) * 2 + d (a % 2) (b % 2)) → ((x y : ℕ) → x < 2 → y < 2 → d x y ≡ f x y)
    → g 0 0 ≡ 0 → (k a b : ℕ) → a < 2 ^ k → b < 2 ^ k → g a b ≡ bitwise f k a b
unfolding bitwise
digits_are g d f step rule none zero a b h k = ap₂ g (lone a h) (lone b k) ∙ none
  where
    lone : (n : ℕ) → n < 1 → n ≡ 0
    lone n l = omega arith
digits_are g d f step rule none (suc j) a b h k =
    step a b ∙ ap₂ (λ (m n : ℕ). m * 2 + n) (digits_are g d f step rule none j (a / 2) (b / 2) (half j h) (half j k)) (rule (a % 2) (b % 2) (digit a) (digit b)) ∙ omega arith

pub and_is : (a b : ℕ) → a < 2 ^ 64 → b < 2 ^ 64 → machine.bit_and a b ≡ bitwise both_digits 64 a b
and_is = digits_are machine.bit_and min both_digits and_step (digit_rule min both_digits refl refl refl refl) refl 64

pub or_is : (a b : ℕ) → a < 2 ^ 64 → b < 2 ^ 64 → machine.bit_or a b ≡ bitwise some_digit 64 a b
or_is = digits_are machine.bit_or max some_digit or_step (digit_rule max some_digit refl refl refl refl) refl 64

pub xor_is : (a b : ℕ) → a < 2 ^ 64 → b < 2 ^ 64 → machine.bit_xor a b ≡ bitwise one_digit 64 a b
xor_is = digits_are machine.bit_xor differ one_digit xor_step (digit_rule differ one_digit refl refl refl refl) refl 64

-- the digits of f and of 1 - f together are all ones
pub complement : (f : ℕ → ℕ → ℕ) → ((x y : ℕ) → x < 2 → y < 2 → f x y < 2) → (k a b : ℕ) → suc (bitwise f k a b + bitwise (λ x y. 1 - f x y) k a b) ≡ 2 ^ k
unfolding bitwise
complement f rule zero a b = refl
complement f rule (suc k) a b = omega (arith, complement f rule k (a / 2) (b / 2), rule (a % 2) (b % 2) (digit a) (digit b), pow-suc 2 k)

pub nand_is : (a b : ℕ) → a < 2 ^ 64 → b < 2 ^ 64 → 2 ^ 64 - 1 - machine.bit_and a b ≡ bitwise not_both_digits 64 a b
nand_is a b h k = rw (and_is a b h k) (omega (arith, complement both_digits (digit_below both_digits tt) 64 a b))

-- the result has k digits
pub bitwise_below : (f : ℕ → ℕ → ℕ) → ((x y : ℕ) → x < 2 → y < 2 → f x y < 2) → (k a b : ℕ) → bitwise f k a b < 2 ^ k
bitwise_below f rule k a b = omega (arith, complement f rule k a b)

-- ---- the digit at the place i
shifted : (n i : ℕ) → n / 2 ^ suc i ≡ n / 2 / 2 ^ i
shifted n i = ap (λ (m : ℕ). n / m) (pow-succ' 2 i) ∙ sym (div-div-eq-div-mul n 2 (2 ^ i))

whole : (n : ℕ) → n / 1 ≡ n
whole n = omega arith

last : (d r : ℕ) → d < 2 → (d + 2 * r) / 1 % 2 ≡ d
last d r h = omega arith

others : (d r : ℕ) → d < 2 → (d + 2 * r) / 2 ≡ r
others d r h = omega arith

pub digit_of : (f : ℕ → ℕ → ℕ) → ((x y : ℕ) → x < 2 → y < 2 → f x y < 2) → (k i a b : ℕ) → i < k → bitwise f k a b / 2 ^ i % 2 ≡ f (a / 2 ^ i % 2) (b / 2 ^ i % 2)
unfolding bitwise
digit_of f rule zero i a b h = absurd (not-suc-le-zero h)
digit_of f rule (suc k) zero a b h =
    last (f (a % 2) (b % 2)) (bitwise f k (a / 2) (b / 2)) (rule (a % 2) (b % 2) (digit a) (digit b)) ∙ ap₂ (λ (x y : ℕ). f (x % 2) (y % 2)) (sym (whole a)) (sym (whole b))
digit_of f rule (suc k) (suc i) a b h =
    let d = f (a % 2) (b % 2) in
    let r = bitwise f k (a / 2) (b / 2) in
    ap (λ (n : ℕ). n % 2) (shifted (d + 2 * r) i ∙ ap (λ (n : ℕ). n / 2 ^ i) (others d r (rule (a % 2) (b % 2) (digit a) (digit b))))
    ∙ digit_of f rule k i (a / 2) (b / 2) (le_of_suc-le-suc h)
    ∙ ap₂ (λ (x y : ℕ). f (x % 2) (y % 2)) (sym (shifted a i)) (sym (shifted b i))
