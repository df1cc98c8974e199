-- The steps of a finite float are its value, and what is left of them by those of another is the remainder of the two. Assumes nothing.
use Rattle.std.proofs.Common.{mod-lt, mod-eq_of_lt, lt_of_lt_of_le, shl_lt, pow_mono, ◌≡◌, ℕ, zero, suc, ◌+◌, ◌-◌, ◌*◌, ◌/◌, ◌%◌, ◌^◌, ◌<◌, ◌≤◌, Bool, leb, ℤ, pos, sym, refl, ap, ◌∙◌, subst, ⊎_elim, mul_assoc, mul_comm, mul_right_comm, mul-pos, zero-mul, arith, pow_pos, pow-add, lt-ltb, le-ltb, le-leb}
use native.Mathlib.Nat.{eq_of_mul-eq-mul_right, lt_irrefl, pow-succ'}
use Rattle.std.proofs.lemmas.Nat.{mul-mod_first}
use Rattle.std.proofs.lemmas.Bool.{lt-leb}
use lib.Ieee.{Float, nan, inf, fin, up, down, of_bits, of_fields, odd}
use lib.Ieee.Exact.{HasValue}
use lib.Ieee.Fits.{down_pos, up_pos}
use Rattle.lanes.specs.Float.{loaded_of, float_rem}
use Rattle.lanes.specs.Steps.{infinity, digits, places, steps}
use Rattle.lanes.proofs.Ints.{lt_or_ge}
use Rattle.lanes.proofs.Rem.{mod_scale, split, scaled, rem_found, rem_infinite, rem_by_zero}
use Rattle.lanes.proofs.Small.{units, field, value, infinite, rem_of_nan}

-- ---- m with zeros at its end
more_zeros : (m k l s n : ℕ) → l ≤ k → s ≤ l → m * 2 ^ (k - l) % n * 2 ^ s % n ≡ m * 2 ^ (k - (l - s)) % n
more_zeros m k l s n h i =
    mul-mod_first (m * 2 ^ (k - l)) (2 ^ s) n
    ∙ ap (λ (x : ℕ). x % n) (mul_assoc m (2 ^ (k - l)) (2 ^ s) ∙ ap (λ (x : ℕ). m * x) (sym (pow-add 2 (k - l) s) ∙ ap (λ (x : ℕ). 2 ^ x) (omega arith)))

-- so many of them that no digit is lost in front
pub some_zeros : (m k l s n r : ℕ) → 0 < n → n < 2 ^ 53 → l ≤ k → s ≤ l → s ≤ 11 → r ≡ m * 2 ^ (k - l) % n → r * 2 ^ s % 2 ^ 64 % n ≡ m * 2 ^ (k - (l - s)) % n
some_zeros m k l s n r p q h i j e =
    let short : r < 2 ^ 53 = omega (arith, e, mod-lt (m * 2 ^ (k - l)) p) in
    ap (λ (x : ℕ). x % n) (mod-eq_of_lt (lt_of_lt_of_le (shl_lt 53 s short) (pow_mono {i = 53 + s} {j = 64} (omega arith))))
    ∙ ap (λ (x : ℕ). x * 2 ^ s % n) e
    ∙ more_zeros m k l s n h i

pub one_up : (d a : ℕ) → 0 < a → d * 2 * 2 ^ (a - 1) ≡ d * 2 ^ a
one_up d zero h = absurd (lt_irrefl 0 h)
one_up d (suc a) h = let e : suc a - 1 ≡ a = omega arith in rw e (mul_assoc d 2 (2 ^ a) ∙ ap (λ (x : ℕ). d * x) (sym (pow-succ' 2 a)))

-- ---- digits in their place
pub digits_some : (p : ℕ) → 0 < p → 0 < digits p
digits_some p h = ⊎_elim
    (λ (l : p < 2 ^ 52). rw (lt-ltb p (2 ^ 52) l) h)
    (λ (g : 2 ^ 52 ≤ p). rw (le-ltb p (2 ^ 52) g) (omega arith))
    (lt_or_ge p (2 ^ 52))

pub packed : (d k : ℕ) → 2 ^ 52 ≤ d → d < 2 ^ 53 → steps (d + k * 2 ^ 52) ≡ d * 2 ^ k
unfolding steps
packed d k l h =
    let e : 2 ^ 52 + (d + k * 2 ^ 52) % 2 ^ 52 ≡ d = omega arith in
    let f : (d + k * 2 ^ 52) / 2 ^ 52 - 1 ≡ k = omega arith in
    rw (le-ltb (d + k * 2 ^ 52) (2 ^ 52) (omega arith), e, f) refl

-- in the lowest place the digits may be few
few : (d k : ℕ) → k ≡ 0 → d < 2 ^ 52 → steps (d + k * 2 ^ 52) ≡ d * 2 ^ k
unfolding steps
few d k z l =
    let e : d + 0 * 2 ^ 52 ≡ d = omega arith in
    let f : d / 2 ^ 52 - 1 ≡ 0 = omega arith in
    rw (z, e, lt-ltb d (2 ^ 52) l, f) refl

pub packed_low : (d k : ℕ) → d < 2 ^ 53 → k ≤ 0 → steps (d + k * 2 ^ 52) ≡ d * 2 ^ k
packed_low d k h z = ⊎_elim (few d k (omega arith)) (λ (g : 2 ^ 52 ≤ d). packed d k g h) (lt_or_ge d (2 ^ 52))

pub no_steps : (m k : ℕ) → m ≡ 0 → steps 0 ≡ m * 2 ^ k
unfolding steps
no_steps m k e = sym (ap (λ (x : ℕ). x * 2 ^ k) e ∙ zero-mul (2 ^ k))

-- what is left, in the place of the second
pub rest_in_place : (a b : ℕ) → 0 < b → b ≤ a → digits a * 2 ^ (places a - places b) % digits b * 2 ^ places b ≡ steps a % steps b
unfolding steps
rest_in_place a b p h =
    let g : places b ≤ places a = omega arith in
    sym (ap (λ (x : ℕ). x % (digits b * 2 ^ places b)) (split (digits a) (places a) (places b) g)
    ∙ mod_scale (digits a * 2 ^ (places a - places b)) (digits b) (2 ^ places b) (digits_some b p) (pow_pos (places b)))

-- ---- the value of a pattern that is no infinity's and no NaN's
fields_steps : (p : ℕ) → units (p / 2 ^ 52) (p % 2 ^ 52) ≡ steps p
unfolding steps
fields_steps p = ⊎_elim
    (λ (l : p < 2 ^ 52).
    let e : p % 2 ^ 52 ≡ p = omega arith in
    let f : p / 2 ^ 52 ≡ 0 = omega arith in
    rw (f, lt-ltb p (2 ^ 52) l, e) refl)
    (λ (g : 2 ^ 52 ≤ p).
    let f : p / 2 ^ 52 ≡ suc (p / 2 ^ 52 - 1) = omega arith in
    ap (λ (x : ℕ). units x (p % 2 ^ 52)) f ∙ rw (le-ltb p (2 ^ 52) g) refl)
    (lt_or_ge p (2 ^ 52))

pub steps_value : (a : ℕ) → a % 2 ^ 63 < infinity → HasValue (loaded_of a) (leb (2 ^ 63) a) (steps (a % 2 ^ 63)) (2 ^ 1074)
steps_value a h =
    let e : a % 2 ^ 52 ≡ a % 2 ^ 63 % 2 ^ 52 = omega arith in
    subst (λ (n : ℕ). HasValue (loaded_of a) (leb (2 ^ 63) a) n (2 ^ 1074))
    (ap (λ (x : ℕ). units (field a) x) e ∙ fields_steps (a % 2 ^ 63))
    (value a (omega arith))

-- ---- the remainder

-- from one fraction to another of the same size
rescale : (x : Float) (s : Bool) (w l num den : ℕ) → 0 < l → num * l ≡ w * den → HasValue x s w l → HasValue x s num den
rescale nan s w l num den p h v = absurd v
rescale (inf t) s w l num den p h v = absurd v
rescale (fin t m e) s w l num den p h v = (
  v.0,
  eq_of_mul-eq-mul_right l p (m * up e * den) (num * down e)
      (mul_right_comm (m * up e) den l
      ∙ ap (λ (x : ℕ). x * den) v.1
      ∙ mul_right_comm w (down e) den
      ∙ ap (λ (x : ℕ). x * down e) (sym h)
      ∙ mul_right_comm num l (down e)),
)

-- a / l in size, over the denominators of both
over_both : (m l x v w : ℕ) → m * l ≡ x * v → m * w * l ≡ x * (v * w)
over_both m l x v w h = mul_right_comm m w l ∙ ap (λ (n : ℕ). n * w) h ∙ mul_assoc x v w

no_value : (n : ℕ) (d : ℤ) (l x : ℕ) → 0 < x → zero * up d * l ≡ x * down d → ⊥
no_value n d l x h e = lt_irrefl 0 (subst (λ (y : ℕ). 0 < y) (sym e ∙ ap (λ (y : ℕ). y * l) (zero-mul (up d)) ∙ zero-mul l) (mul-pos h (down_pos d)))

module _ (a b w : ℕ) (s t : Bool) (x y : ℕ) (h : w < 2 ^ 64) (p : 0 < y) where
  left_over : (u v : Float) → loaded_of a ≡ u → loaded_of b ≡ v → HasValue u s x (2 ^ 1074) → HasValue v t y (2 ^ 1074)
      → HasValue (loaded_of w) s (x % y) (2 ^ 1074) → w ≡ float_rem a b
  left_over nan v e f i j k = absurd i
  left_over (inf r) v e f i j k = absurd i
  left_over (fin r m z) nan e f i j k = absurd j
  left_over (fin r m z) (inf q) e f i j k = absurd j
  left_over (fin r m z) (fin q zero d) e f i j k = absurd (no_value 0 d (2 ^ 1074) y p j.1)
  left_over (fin r m z) (fin q (suc n) d) e f i j k =
      rem_found a b w r q m n z d h e f
      (subst (λ (o : Bool). HasValue (loaded_of w) o (m * up z * down d % (suc n * up d * down z)) (down z * down d)) (sym i.0)
      (rescale (loaded_of w) s (x % y) (2 ^ 1074) (m * up z * down d % (suc n * up d * down z)) (down z * down d) (pow_pos 1074)
      (scaled (m * up z * down d) (suc n * up d * down z) (2 ^ 1074) (down z * down d) x y
      (mul-pos (mul-pos (omega arith) (up_pos d)) (down_pos z)) (pow_pos 1074) p (mul-pos (down_pos z) (down_pos d))
      (over_both (m * up z) (2 ^ 1074) x (down z) (down d) i.1)
      (over_both (suc n * up d) (2 ^ 1074) y (down d) (down z) j.1 ∙ ap (λ (c : ℕ). y * c) (mul_comm (down d) (down z))))
      k))

steps_some : (p : ℕ) → 0 < p → 0 < steps p
unfolding steps
steps_some p h = mul-pos (digits_some p h) (pow_pos (places p))

sign_kept : (a r : ℕ) → a < 2 ^ 64 → r < 2 ^ 63 → leb (2 ^ 63) (r + (a - a % 2 ^ 63)) ≡ leb (2 ^ 63) a
sign_kept a r h l = ⊎_elim
    (λ (g : a < 2 ^ 63). lt-leb (2 ^ 63) (r + (a - a % 2 ^ 63)) (omega arith) ∙ sym (lt-leb (2 ^ 63) a g))
    (λ (g : 2 ^ 63 ≤ a). le-leb (2 ^ 63) (r + (a - a % 2 ^ 63)) (omega arith) ∙ sym (le-leb (2 ^ 63) a g))
    (lt_or_ge a (2 ^ 63))

pub rem_of_steps : (a b r : ℕ) → a < 2 ^ 64 → a % 2 ^ 63 < infinity → b % 2 ^ 63 < infinity → 0 < b % 2 ^ 63 → r < infinity
    → steps r ≡ steps (a % 2 ^ 63) % steps (b % 2 ^ 63) → r + (a - a % 2 ^ 63) ≡ float_rem a b
rem_of_steps a b r h i j p l e =
    let w = r + (a - a % 2 ^ 63) in
    let low : (r + (a - a % 2 ^ 63)) % 2 ^ 63 ≡ r = omega arith in
    left_over a b w (leb (2 ^ 63) a) (leb (2 ^ 63) b) (steps (a % 2 ^ 63)) (steps (b % 2 ^ 63)) (omega arith) (steps_some (b % 2 ^ 63) p)
    (loaded_of a) (loaded_of b) refl refl (steps_value a i) (steps_value b j)
    (subst (λ (o : Bool). HasValue (loaded_of w) o (steps (a % 2 ^ 63) % steps (b % 2 ^ 63)) (2 ^ 1074)) (sign_kept a r h (omega arith))
    (subst (λ (n : ℕ). HasValue (loaded_of w) (leb (2 ^ 63) w) n (2 ^ 1074)) (ap steps low ∙ e)
    (steps_value w (subst (λ (n : ℕ). n < infinity) (sym low) l))))

-- ---- what `float_rem` tests: x is `doubled` of a pattern
zero_is : (b : ℕ) → b % 2 ^ 63 ≡ 0 → loaded_of b ≡ fin (leb (2 ^ 63) b) 0 (pos 0)
unfolding of_bits of_fields odd
zero_is b e =
    let f : b % 2 ^ 52 ≡ 0 = omega arith in
    let g : b % 2 ^ 63 / 2 ^ 52 ≡ 0 = omega arith in
    rw (g, f) refl

pub rem_beyond : (a b : ℕ) {x : ℕ} → x ≡ 2 * (a % 2 ^ 63) → 0xFFE0_0000_0000_0000 ≤ x → 0x7FF8_0000_0000_0000 ≡ float_rem a b
rem_beyond a b {x} p l = ⊎_elim
    (λ (g : 0xFFE0_0000_0000_0000 < x). rem_of_nan a b p g)
    (λ (g : x ≤ 0xFFE0_0000_0000_0000). sym (rem_infinite a b (leb (2 ^ 63) a) (infinite a (omega arith) (omega arith))))
    (lt_or_ge 0xFFE0_0000_0000_0000 x)

pub rem_of_nothing : (a b : ℕ) {y : ℕ} → y ≡ 2 * (b % 2 ^ 63) → y ≡ 0 → 0x7FF8_0000_0000_0000 ≡ float_rem a b
rem_of_nothing a b q z = sym (rem_by_zero a b (leb (2 ^ 63) b) (pos 0) (zero_is b (omega arith)))
