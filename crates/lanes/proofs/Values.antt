-- A float's value and sign, with its fitting the format, fix its data, and so its pattern. Assumes nothing.
use Rattle.std.proofs.Common.{◌≡◌, ℕ, zero, suc, ◌+◌, ◌*◌, ◌%◌, ◌^◌, ◌<◌, Bool, not, ◌&&◌, T, eqb, ltb, leb, ℤ, pos, negsuc, sym, refl, ap, ◌∙◌, subst, lt_irrefl, zero-lt-suc, mul_assoc, mul-pos, one-mul, zero-mul, mul-one, mul_right_comm, mul_left_comm, arith, eqb→eq, pow_pos, pow-add}
use native.Mathlib.Nat.{eq_of_mul-eq-mul_right, pow-succ'}
use lib.Ieee.{Float, nan, inf, fin, Format, binary64, prec, emax, low, up, down, fits, is_nan, to_bits}
use lib.Ieee.Fits.{and_l, down_pos, up_pos}
use lib.Ieee.Exact.{HasValue}
use lib.Ieee.Bits.{of_bits-fits, to_bits-of_bits}
use Rattle.lanes.specs.Float.{loaded_of}

even_odd : (m t : ℕ) → m % 2 ≡ 1 → m ≡ 2 * t → ⊥
even_odd m t o h = omega arith

twice : (n b : ℕ) → n * 2 ^ suc b ≡ 2 * (n * 2 ^ b)
twice n b = ap (λ (x : ℕ). n * x) (pow-succ' 2 b) ∙ mul_left_comm n 2 (2 ^ b)

odd_pow : (m n a b : ℕ) → m % 2 ≡ 1 → n % 2 ≡ 1 → m * 2 ^ a ≡ n * 2 ^ b → (m ≡ n) × (a ≡ b)
odd_pow m n zero zero o p h = (sym (mul-one m) ∙ h ∙ mul-one n, refl)
odd_pow m n zero (suc b) o p h = absurd (even_odd m (n * 2 ^ b) o (sym (mul-one m) ∙ h ∙ twice n b))
odd_pow m n (suc a) zero o p h = absurd (even_odd n (m * 2 ^ a) p (sym (mul-one n) ∙ sym h ∙ twice m a))
odd_pow m n (suc a) (suc b) o p h = let r = odd_pow m n a b o p (halved (sym (twice m a) ∙ h ∙ twice n b)) in (r.0, ap suc r.1)
  where
    halved : {x y : ℕ} → 2 * x ≡ 2 * y → x ≡ y
    halved e = omega arith

-- the exponents of two values, and how they compare
record Exponents (e d : ℤ) : Type 0 where
  p : ℕ
  q : ℕ
  left : up e * down d ≡ 2 ^ p
  right : up d * down e ≡ 2 ^ q
  same : p ≡ q → e ≡ d

exponents : (e d : ℤ) → Exponents e d
exponents (pos k) (pos l) = record { p = k; q = l; left = mul-one (2 ^ k); right = mul-one (2 ^ l); same = ap pos }
exponents (pos k) (negsuc l) = record { p = k + suc l; q = 0; left = sym (pow-add 2 k (suc l)); right = refl; same = λ h. absurd (no_sum k l h) }
  where
    no_sum : (k l : ℕ) → k + suc l ≡ 0 → ⊥
    no_sum k l h = omega arith
exponents (negsuc k) (pos l) = record { p = 0; q = l + suc k; left = refl; right = sym (pow-add 2 l (suc k)); same = λ h. absurd (no_sum l k h) }
  where
    no_sum : (k l : ℕ) → 0 ≡ k + suc l → ⊥
    no_sum k l h = omega arith
exponents (negsuc k) (negsuc l) = record { p = suc l; q = suc k; left = one-mul (2 ^ suc l); right = one-mul (2 ^ suc k); same = λ h. ap negsuc (less h) }
  where
    less : suc l ≡ suc k → k ≡ l
    less h = omega arith

-- of a value that fits: m is odd, or it is 0 and so is the exponent
is_odd : (f : Format) (s : Bool) (m : ℕ) (e : ℤ) → T (fits f (fin s (suc m) e)) → suc m % 2 ≡ 1
unfolding fits
is_odd f s m e t =
    let A = eqb (suc m % 2) 1 in
    let B = ltb (suc m) (2 ^ prec f) in
    let C = leb (down e) (2 ^ low f) in
    eqb→eq (suc m % 2) 1 (and_l A B (and_l (A && B) C (and_l (A && B && C) (ltb (suc m * up e) (2 ^ suc (emax f) * down e)) t)))

two_up : (p : ℕ) → 0 < p → 2 * p ≡ 1 → ⊥
two_up p h e = omega arith

flat : (e : ℤ) → up e * down e ≡ 1 → e ≡ pos 0
flat (pos zero) h = refl
flat (pos (suc k)) h = absurd (two_up (2 ^ k) (pow_pos k) (sym (pow-succ' 2 k) ∙ sym (mul-one (2 ^ suc k)) ∙ h))
flat (negsuc k) h = absurd (two_up (2 ^ k) (pow_pos k) (sym (pow-succ' 2 k) ∙ sym (one-mul (2 ^ suc k)) ∙ h))

pub zero_exp : (f : Format) (s : Bool) (e : ℤ) → T (fits f (fin s zero e)) → e ≡ pos 0
unfolding fits
zero_exp f s e t = flat e (eqb→eq (up e * down e) 1 t)

-- two values of one size, across their denominators
across : (m n : ℕ) (e d : ℤ) (a c : ℕ) → 0 < c → m * up e * c ≡ a * down e → n * up d * c ≡ a * down d → m * (up e * down d) ≡ n * (up d * down e)
across m n e d a c h v w =
    eq_of_mul-eq-mul_right c h (m * (up e * down d)) (n * (up d * down e))
    (ap (λ (x : ℕ). x * c) (sym (mul_assoc m (up e) (down d))) ∙ mul_right_comm (m * up e) (down d) c ∙ ap (λ (x : ℕ). x * down d) v
    ∙ mul_right_comm a (down e) (down d)
    ∙ ap (λ (x : ℕ). x * down e) (sym w) ∙ mul_right_comm (n * up d) c (down e) ∙ ap (λ (x : ℕ). x * c) (mul_assoc n (up d) (down e)))

-- no size is that of a zero and of another value
not_both : (n : ℕ) (e d : ℤ) → zero * (up e * down d) ≡ suc n * (up d * down e) → ⊥
not_both n e d h = lt_irrefl 0 (subst (λ (x : ℕ). 0 < x) (sym h ∙ zero-mul (up e * down d)) (mul-pos (zero-lt-suc n) (mul-pos (up_pos d) (down_pos e))))

-- two floats that the format holds, of one sign and one size, are the same
pub value_unique : (f : Format) (x y : Float) (s : Bool) (a c : ℕ) → 0 < c → T (fits f x) → T (fits f y) → HasValue x s a c → HasValue y s a c → x ≡ y
value_unique f (fin t zero e) (fin u zero d) s a c h p q v w = λ i. fin ((v.0 ∙ sym w.0) i) zero ((zero_exp f t e p ∙ sym (zero_exp f u d q)) i)
value_unique f (fin t zero e) (fin u (suc n) d) s a c h p q v w = absurd (not_both n e d (across zero (suc n) e d a c h v.1 w.1))
value_unique f (fin t (suc m) e) (fin u zero d) s a c h p q v w = absurd (not_both m d e (across zero (suc m) d e a c h w.1 v.1))
value_unique f (fin t (suc m) e) (fin u (suc n) d) s a c h p q v w =
    let x = exponents e d in
    let r = odd_pow (suc m) (suc n) x.p x.q (is_odd f t m e p) (is_odd f u n d q)
    (ap (λ (k : ℕ). suc m * k) (sym x.left) ∙ across (suc m) (suc n) e d a c h v.1 w.1 ∙ ap (λ (k : ℕ). suc n * k) x.right) in
    λ i. fin ((v.0 ∙ sym w.0) i) (r.0 i) (x.same r.1 i)
value_unique f nan y s a c h p q v w = elim v [ ]
value_unique f (inf b) y s a c h p q v w = elim v [ ]
value_unique f (fin t zero e) nan s a c h p q v w = elim w [ ]
value_unique f (fin t zero e) (inf b) s a c h p q v w = elim w [ ]
value_unique f (fin t (suc m) e) nan s a c h p q v w = elim w [ ]
value_unique f (fin t (suc m) e) (inf b) s a c h p q v w = elim w [ ]

finite : (x : Float) (s : Bool) (a c : ℕ) → HasValue x s a c → T (not (is_nan x))
unfolding is_nan
finite (fin t m e) s a c u = tt
finite nan s a c u = elim u [ ]
finite (inf b) s a c u = elim u [ ]

-- the pattern of a finite float is known by its value and sign
pub pattern_fixed : (p q : ℕ) (s : Bool) (a c : ℕ) → p < 2 ^ 64 → q < 2 ^ 64 → 0 < c → HasValue (loaded_of p) s a c → HasValue (loaded_of q) s a c → p ≡ q
pattern_fixed p q s a c h k l v w =
    sym (to_bits-of_bits binary64 p h (finite (loaded_of p) s a c v))
    ∙ ap (λ (x : Float). to_bits binary64 x) (value_unique binary64 (loaded_of p) (loaded_of q) s a c l (of_bits-fits binary64 p) (of_bits-fits binary64 q) v w)
    ∙ to_bits-of_bits binary64 q k (finite (loaded_of q) s a c w)
