-- The root that `root_rule` computes is the nearest float, no other is, and no tie is met. Assumes nothing.
use mathlib.Core.Path.{◌≡◌, refl, sym, ◌∙◌, ap, subst}
use mathlib.Core.Bool.{Bool, true, false, cond}
use mathlib.Core.Logic.{◌⊎◌, inl, inr, ⊎_elim}
use Prim.Native.Nat.{ℕ, zero, suc, ◌+◌, ◌-◌, ◌*◌, ◌/◌, ◌%◌, ◌^◌, ◌<◌, ◌≤◌}
use native.Mathlib.Omega.{arith}
use native.Mathlib.Nat.{mul-le-mul, mul-le-mul_right, mul-lt-mul_of_pos_right, mul-pos, mul_assoc, le_of_lt, pow-succ'}
use lib.Dec.{ltb}
use lib.Pow.{pow-add, pow_pos, pow_mono}
use lib.Ieee.{size}
use lib.Ieee.Exact.{HasValue}
use lib.Ieee.Digits.{size-lt, size-le, size_reaches, back}
use borrow.Author.Tests.{ltb-true, ltb-false, lt-ltb, le-ltb, lt-leb, eq-eqb, ne_eqb}
use Rattle.lanes.specs.Float.{loaded_of}
use Rattle.lanes.proofs.Ints.{lt_or_ge}
use Rattle.lanes.proofs.Values.{pattern_fixed}
use Rattle.lanes.proofs.Steps.{digits_some}
use Rattle.lanes.proofs.Steps as lanes
use Rattle.standard_device.specs.Root.{infinity, digits, places, steps, square, twice, Nearest, Root, zero_root, minus_zero_root, infinity_root, no_root, nearest_root, root_rule, root_in, nearer, near_root, positive_root}
use Rattle.standard_device.specs.Post.{Lifted}
use Rattle.standard_device.proofs.Whole.{Cut, root_in_cut, sq_lt, sq_back}

-- ---- the floats between two steps of 53 digits
pub digits_lt : (p : ℕ) → digits p < 2 ^ 53
digits_lt p = ⊎_elim
    (λ (l : p < 2 ^ 52). rw (lt-ltb p (2 ^ 52) l) (omega arith))
    (λ (g : 2 ^ 52 ≤ p). rw (le-ltb p (2 ^ 52) g) (omega arith))
    (lt_or_ge p (2 ^ 52))

-- n * 2 ^ i, n of at most 53 digits, is no number between q * 2 ^ j and (q + 1) * 2 ^ j
between : (n i q j : ℕ) → n < 2 ^ 53 → 2 ^ 52 ≤ q → (n * 2 ^ i ≤ q * 2 ^ j) ⊎ (suc q * 2 ^ j ≤ n * 2 ^ i)
between n i q j h k = ⊎_elim
    (λ (l : i < j). inl (omega (arith, mul-le-mul_right (2 ^ i) h, pow_mono l, pow-succ' 2 i, mul-le-mul_right (2 ^ j) k)))
    (λ (g : j ≤ i).
    let c = n * 2 ^ (i - j) in
    let e : n * 2 ^ i ≡ c * 2 ^ j = ap (λ (x : ℕ). n * x) (ap (λ (x : ℕ). 2 ^ x) (sym (back i j g)) ∙ pow-add 2 (i - j) j) ∙ sym (mul_assoc n (2 ^ (i - j)) (2 ^ j)) in
    ⊎_elim
    (λ (l : q < c). inr (subst (λ (x : ℕ). suc q * 2 ^ j ≤ x) (sym e) (mul-le-mul_right (2 ^ j) l)))
    (λ (m : c ≤ q). inl (subst (λ (x : ℕ). x ≤ q * 2 ^ j) (sym e) (mul-le-mul_right (2 ^ j) m)))
    (lt_or_ge q c))
    (lt_or_ge i j)

gap : (p q j : ℕ) → 2 ^ 52 ≤ q → (steps p ≤ q * 2 ^ j) ⊎ (suc q * 2 ^ j ≤ steps p)
unfolding steps
gap p q j h = between (digits p) (places p) q j (digits_lt p) h

-- ---- squares of middles, in steps of u
lower : (v q u n : ℕ) → v < q * u → q * q ≤ n → (v + q * u) * (v + q * u) < 4 * (n * (u * u))
lower v q u n l h = omega (arith, sq_lt (v + q * u) (2 * (q * u)) (omega arith), mul-le-mul_right (u * u) h)

upper : (v r u n : ℕ) → r * u < v → 0 < u → n < r * r → 4 * (n * (u * u)) < (v + r * u) * (v + r * u)
upper v r u n l p h = omega (arith, sq_lt (2 * (r * u)) (v + r * u) (omega arith), mul-lt-mul_of_pos_right h (mul-pos p p))

lower_far : (v q u n : ℕ) → v ≤ q * u → 0 < u → (2 * q + 1) * (2 * q + 1) < 4 * n → (v + suc q * u) * (v + suc q * u) < 4 * (n * (u * u))
lower_far v q u n l p h =
    let k : v + suc q * u ≤ (2 * q + 1) * u = omega arith in
    omega (arith, mul-le-mul k k, mul-lt-mul_of_pos_right h (mul-pos p p))

upper_far : (v q u n : ℕ) → suc q * u ≤ v → 0 < u → 4 * n < (2 * q + 1) * (2 * q + 1) → 4 * (n * (u * u)) < (v + q * u) * (v + q * u)
upper_far v q u n l p h =
    let k : (2 * q + 1) * u ≤ v + q * u = omega arith in
    omega (arith, mul-le-mul k k, mul-lt-mul_of_pos_right h (mul-pos p p))

-- every other float is farther
pub record Alone (a r : ℕ) : Type 0 where
  pub below : (q : ℕ) → steps q < steps r → twice q r < 4 * square a
  pub above : (q : ℕ) → steps r < steps q → 4 * square a < twice q r

-- the pattern of r * 2 ^ j, r of 53 digits
pub steps_of : (r j : ℕ) → 2 ^ 52 ≤ r → r ≤ 2 ^ 53 → steps (r + j * 2 ^ 52) ≡ r * 2 ^ j
unfolding steps
steps_of r j h k = rw (le-ltb (r + j * 2 ^ 52) (2 ^ 52) (omega arith)) (⊎_elim
    (λ (l : r < 2 ^ 53).
    let d : 2 ^ 52 + (r + j * 2 ^ 52) % 2 ^ 52 ≡ r = omega arith in
    let e : (r + j * 2 ^ 52) / 2 ^ 52 - 1 ≡ j = omega arith in
    rw (d, e) refl)
    (λ (g : 2 ^ 53 ≤ r).
    let d : 2 ^ 52 + (r + j * 2 ^ 52) % 2 ^ 52 ≡ 2 ^ 52 = omega arith in
    let e : (r + j * 2 ^ 52) / 2 ^ 52 - 1 ≡ suc j = omega arith in
    let f : r ≡ 2 ^ 53 = omega arith in
    rw (d, e, f) (omega (arith, pow-succ' 2 j)))
    (lt_or_ge r (2 ^ 53)))

module _ (a n q j : ℕ) (c : Cut n q) (x : square a ≡ n * (2 ^ j * 2 ^ j)) (l : 2 ^ 52 ≤ q) (h : q < 2 ^ 53) where
  below_is : (v : ℕ) (s t : ℕ) → t ≡ s → (v + s) * (v + s) < 4 * (n * (2 ^ j * 2 ^ j)) → (v + t) * (v + t) < 4 * square a
  below_is v s t e m = rw (x, e) m

  above_is : (v : ℕ) (s t : ℕ) → t ≡ s → 4 * (n * (2 ^ j * 2 ^ j)) < (v + s) * (v + s) → 4 * square a < (v + t) * (v + t)
  above_is v s t e m = rw (x, e) m

  alone_down : n ≤ q * q + q → Alone a (q + j * 2 ^ 52)
  alone_down d =
      let e = steps_of q j l (le_of_lt h) in
      record {
        below = λ p m. below_is (steps p) (q * 2 ^ j) _ e (lower (steps p) q (2 ^ j) n (subst (λ (s : ℕ). steps p < s) e m) c.at_most);
        above = λ p m. ⊎_elim
            (λ (g : steps p ≤ q * 2 ^ j). absurd (omega (arith, subst (λ (s : ℕ). s < steps p) e m)))
            (λ (g : suc q * 2 ^ j ≤ steps p). above_is (steps p) (q * 2 ^ j) _ e (upper_far (steps p) q (2 ^ j) n g (pow_pos j) (omega arith)))
            (gap p q j l);
      }

  alone_up : q * q + q < n → Alone a (q + 1 + j * 2 ^ 52)
  alone_up d =
      let e : steps (q + 1 + j * 2 ^ 52) ≡ suc q * 2 ^ j = steps_of (q + 1) j (omega arith) (omega arith) ∙ ap (λ (s : ℕ). s * 2 ^ j) (omega arith) in
      record {
        below = λ p m. ⊎_elim
            (λ (g : steps p ≤ q * 2 ^ j). below_is (steps p) (suc q * 2 ^ j) _ e (lower_far (steps p) q (2 ^ j) n g (pow_pos j) (omega arith)))
            (λ (g : suc q * 2 ^ j ≤ steps p). absurd (omega (arith, subst (λ (s : ℕ). steps p < s) e m)))
            (gap p q j l);
        above = λ p m. above_is (steps p) (suc q * 2 ^ j) _ e (upper (steps p) (suc q) (2 ^ j) n (subst (λ (s : ℕ). s < steps p) e m) (pow_pos j) c.less);
      }

  pub alone_near : Alone a (nearer n q + j * 2 ^ 52)
  unfolding nearer
  alone_near = go (ltb (q * q + q) n) refl
    where
      go : (t : Bool) → ltb (q * q + q) n ≡ t → Alone a (cond t (q + 1) q + j * 2 ^ 52)
      go true e = alone_up (ltb-true _ _ e)
      go false e = alone_down (ltb-false _ _ e)

-- ---- the root of a positive finite float
-- d with zeros at its end to 53 digits
module _ (d : ℕ) (p : 0 < d) (h : d < 2 ^ 53) where
  some_digits : 0 < size d
  some_digits = ⊎_elim (λ l. l) (λ (g : size d ≤ 0). absurd (omega (arith, size-lt d, pow_mono g))) (lt_or_ge 0 (size d))

  pub filled_low : 2 ^ 52 ≤ d * 2 ^ (53 - size d)
  filled_low =
      let l = size-le d 53 h in
      let k : size d - 1 + (53 - size d) ≡ 52 = omega (arith, some_digits) in
      let e : 2 ^ (size d - 1) * 2 ^ (53 - size d) ≡ 2 ^ 52 = sym (pow-add 2 (size d - 1) (53 - size d)) ∙ ap (λ (x : ℕ). 2 ^ x) k in
      subst (λ (x : ℕ). x ≤ d * 2 ^ (53 - size d)) e (mul-le-mul_right (2 ^ (53 - size d)) (size_reaches d (size d - 1) (omega (arith, some_digits))))

  pub filled_high : d * 2 ^ (53 - size d) < 2 ^ 53
  filled_high =
      let k : size d + (53 - size d) ≡ 53 = omega (arith, size-le d 53 h) in
      let e : 2 ^ size d * 2 ^ (53 - size d) ≡ 2 ^ 53 = sym (pow-add 2 (size d) (53 - size d)) ∙ ap (λ (x : ℕ). 2 ^ x) k in
      subst (λ (x : ℕ). d * 2 ^ (53 - size d) < x) e (mul-lt-mul_of_pos_right (size-lt d) (pow_pos (53 - size d)))

  pub zeros : 53 - size d < 53
  zeros = omega (arith, some_digits)

pub parity : (h : ℕ) → 1 + h % 2 ≡ 2 ^ (h % 2)
parity h = go (h % 2) (omega arith)
  where
    none : (b : ℕ) → suc (suc b) < 2 → ⊥
    none b l = omega arith

    go : (b : ℕ) → b < 2 → 1 + b ≡ 2 ^ b
    go zero l = refl
    go (suc zero) l = refl
    go (suc (suc b)) l = absurd (none b l)

gather : (d p z k a b e f l : ℕ) → a * (b * b) ≡ k → k * z ≡ p * e → l ≡ e * f → d * p * l ≡ d * z * a * f * (b * b)
gather d p z k a b e f l x y w =
    omega (arith, ap (λ (t : ℕ). d * p * t) w, ap (λ (t : ℕ). d * t * f) y, ap (λ (t : ℕ). d * (t * z) * f) x)

halves : (h : ℕ) → 2 ^ (h % 2) * (2 ^ (h / 2) * 2 ^ (h / 2)) ≡ 2 ^ h
halves h =
    ap (λ (x : ℕ). 2 ^ (h % 2) * x) (sym (pow-add 2 (h / 2) (h / 2)))
    ∙ sym (pow-add 2 (h % 2) (h / 2 + h / 2))
    ∙ ap (λ (x : ℕ). 2 ^ x) (omega arith)

spread : (d p z h : ℕ) → h + z ≡ p + 1022 → d * 2 ^ p * 2 ^ 1074 ≡ d * 2 ^ z * 2 ^ (h % 2) * 2 ^ 52 * (2 ^ (h / 2) * 2 ^ (h / 2))
spread d p z h e =
    gather d (2 ^ p) (2 ^ z) (2 ^ h) (2 ^ (h % 2)) (2 ^ (h / 2)) (2 ^ 1022) (2 ^ 52) (2 ^ 1074)
    (halves h) (sym (pow-add 2 h z) ∙ ap (λ (x : ℕ). 2 ^ x) e ∙ pow-add 2 p 1022) (pow-add 2 1022 52)

-- the number whose root the digits are
abbrev pub zeros_of : ℕ → ℕ
zeros_of a = 53 - size (digits a)

abbrev pub places_of : ℕ → ℕ
places_of a = places a + 1022 - zeros_of a

abbrev pub number_of : ℕ → ℕ
number_of a = digits a * 2 ^ zeros_of a * 2 ^ (places_of a % 2) * 2 ^ 52

number_high : (m b : ℕ) → m < 2 ^ 53 → b < 2 → m * 2 ^ b * 2 ^ 52 < 4 ^ 53
number_high m zero h l = omega arith
number_high m (suc zero) h l = omega arith
number_high m (suc (suc b)) h l = absurd (none b l)
  where
    none : (b : ℕ) → suc (suc b) < 2 → ⊥
    none b l = omega arith

number_low : (m b : ℕ) → 2 ^ 52 ≤ m → 2 ^ 104 ≤ m * 2 ^ b * 2 ^ 52
number_low m b h = omega (arith, mul-le-mul h (pow_pos b))

nearer_high : (n q : ℕ) → q < 2 ^ 53 → nearer n q ≤ 2 ^ 53
unfolding nearer
nearer_high n q h = go (ltb (q * q + q) n)
  where
    go : (t : Bool) → cond t (q + 1) q ≤ 2 ^ 53
    go true = omega arith
    go false = omega arith

module _ (n : ℕ) (h : n < 4 ^ 53) where
  pub root_high : root_in 53 n < 2 ^ 53
  root_high = sq_back (root_in 53 n) (2 ^ 53) (omega (arith, (root_in_cut 53 n h).at_most))

  pub root_low : 2 ^ 104 ≤ n → 2 ^ 52 ≤ root_in 53 n
  root_low l = omega (arith, sq_back (2 ^ 52) (suc (root_in 53 n)) (omega (arith, (root_in_cut 53 n h).less)))

  pub near_high : near_root n ≤ 2 ^ 53
  unfolding near_root
  near_high = nearer_high n (root_in 53 n) root_high

module _ (a : ℕ) (p : 0 < a) (h : a < infinity) where
  pub number_fits : number_of a < 4 ^ 53
  number_fits = number_high (digits a * 2 ^ zeros_of a) (places_of a % 2) (filled_high (digits a) (digits_some a p) (digits_lt a)) (omega arith)

  pub alone : Alone a (positive_root a)
  unfolding positive_root near_root square steps
  alone =
      let z = zeros (digits a) (digits_some a p) (digits_lt a) in
      let l = number_low (digits a * 2 ^ zeros_of a) (places_of a % 2) (filled_low (digits a) (digits_some a p) (digits_lt a)) in
      alone_near a (number_of a) (root_in 53 (number_of a)) (places_of a / 2)
      (root_in_cut 53 (number_of a) number_fits)
      (spread (digits a) (places a) (zeros_of a) (places_of a) (omega arith))
      (root_low (number_of a) number_fits l)
      (root_high (number_of a) number_fits)

  pub root_finite : positive_root a < infinity
  unfolding positive_root
  root_finite = omega (arith, near_high (number_of a) number_fits)

-- what the code puts together
pub one_more : (m b : ℕ) → m < 2 ^ 53 → b < 2 → m * (1 + b) < 2 ^ 54
one_more m b h l = omega (arith, mul-le-mul h l)

pub one_word : (m b : ℕ) → m < 2 ^ 53 → b < 2 → m * (1 + b) < 2 ^ 64
one_word m b h l = omega (arith, one_more m b h l)

pub positive_is : (a d m z g r : ℕ) → d ≡ digits a → Lifted d m z → g ≡ places a → r ≡ near_root (m * (1 + (g + 1022 - z) % 2) * 2 ^ 52) → r + (g + 1022 - z) / 2 * 2 ^ 52 ≡ positive_root a
unfolding positive_root
positive_is a d m z g r ed l eg er =
    let ez : z ≡ zeros_of a = l.times ∙ ap (λ (x : ℕ). 53 - size x) ed in
    let eh : g + 1022 - z ≡ places_of a = ap (λ (x : ℕ). x + 1022 - z) eg ∙ ap (λ (x : ℕ). places a + 1022 - x) ez in
    let em : m ≡ digits a * 2 ^ zeros_of a = l.doubled ∙ ap (λ (x : ℕ). x * 2 ^ z) ed ∙ ap (λ (x : ℕ). digits a * 2 ^ x) ez in
    let en : m * (1 + (g + 1022 - z) % 2) * 2 ^ 52 ≡ number_of a =
    ap (λ (x : ℕ). x * (1 + (g + 1022 - z) % 2) * 2 ^ 52) em
    ∙ ap (λ (h : ℕ). digits a * 2 ^ zeros_of a * (1 + h % 2) * 2 ^ 52) eh
    ∙ ap (λ (x : ℕ). digits a * 2 ^ zeros_of a * x * 2 ^ 52) (parity (places_of a)) in
    ap (λ (x : ℕ). x + (g + 1022 - z) / 2 * 2 ^ 52) (er ∙ ap near_root en) ∙ ap (λ (h : ℕ). near_root (number_of a) + h / 2 * 2 ^ 52) eh

pub near_bound : (m r : ℕ) → m < 2 ^ 54 → r ≡ near_root (m * 2 ^ 52) → r ≤ 2 ^ 53
near_bound m r h e = subst (λ (x : ℕ). x ≤ 2 ^ 53) (sym e) (near_high (m * 2 ^ 52) (omega arith))

-- ---- the steps of a float are the value that lib.Ieee reads
pub steps_value : (p : ℕ) → p < infinity → HasValue (loaded_of p) false (steps p) (2 ^ 1074)
steps_value p h =
    let e : p % 2 ^ 63 ≡ p = omega arith in
    rw (lt-leb (2 ^ 63) p (omega arith), e) at (lanes.steps_value p (omega arith))

-- two finite floats of as many steps are one
pub steps_fixed : (p q : ℕ) → p < infinity → q < infinity → steps p ≡ steps q → p ≡ q
steps_fixed p q h k e =
    pattern_fixed p q false (steps p) (2 ^ 1074) (omega arith) (omega arith) (pow_pos 1074) (steps_value p h)
    (subst (λ (n : ℕ). HasValue (loaded_of q) false n (2 ^ 1074)) (sym e) (steps_value q k))

-- ---- the nearest float, and the only one
twice_sym : (p q : ℕ) → twice p q ≡ twice q p
twice_sym p q = omega arith

-- the two that a comparison of steps leaves
compared : (x y : ℕ) → (x < y) ⊎ ((y < x) ⊎ (x ≡ y))
compared x y = ⊎_elim (λ (l : x < y). inl l) (λ (g : y ≤ x). inr (⊎_elim (λ (l : y < x). inl l) (λ (k : x ≤ y). inr (omega arith)) (lt_or_ge y x))) (lt_or_ge x y)

module _ (a r s : ℕ) (h : r < infinity) (k : s < infinity) (x : Alone a s) where
  -- a float that is not farther from the root than s is s
  pub alone_unique : (steps s < steps r → twice s r ≤ 4 * square a) → (steps r < steps s → 4 * square a ≤ twice s r) → r ≡ s
  alone_unique below above = ⊎_elim
      (λ (l : steps r < steps s). absurd (omega (arith, x.below r l, above l, twice_sym r s)))
      (⊎_elim (λ (l : steps s < steps r). absurd (omega (arith, x.above r l, below l, twice_sym r s))) (steps_fixed r s h k))
      (compared (steps r) (steps s))

  -- no other float is as near
  pub alone_no_tie : (r ≡ s → ⊥) → twice r s ≡ 4 * square a → ⊥
  alone_no_tie n e = ⊎_elim
      (λ (l : steps r < steps s). omega (arith, x.below r l))
      (⊎_elim (λ (l : steps s < steps r). omega (arith, x.above r l)) (λ (q : steps r ≡ steps s). n (steps_fixed r s h k q)))
      (compared (steps r) (steps s))

module _ (a : ℕ) (p : 0 < a) (h : a < infinity) where
  -- what the rule computes is the nearest float,
  pub nearest : Nearest a (positive_root a)
  nearest = record {
    finite = root_finite a p h;
    below = λ q k l. le_of_lt ((alone a p h).below q l);
    above = λ q k l. le_of_lt ((alone a p h).above q l);
    even = λ q k n e. absurd (alone_no_tie a q (positive_root a) k (root_finite a p h) (alone a p h) n e);
  }

  -- there is no other,
  pub nearest_unique : (r : ℕ) → Nearest a r → r ≡ positive_root a
  nearest_unique r n =
      alone_unique a r (positive_root a) n.finite (root_finite a p h) (alone a p h)
      (λ l. n.below (positive_root a) (root_finite a p h) l) (λ l. n.above (positive_root a) (root_finite a p h) l)

  -- and no other is as near: a tie is never met
  pub no_tie : (r : ℕ) → Nearest a r → (q : ℕ) → q < infinity → (q ≡ r → ⊥) → twice q r ≡ 4 * square a → ⊥
  no_tie r n =
      subst (λ (s : ℕ). (q : ℕ) → q < infinity → (q ≡ s → ⊥) → twice q s ≡ 4 * square a → ⊥) (sym (nearest_unique r n))
      (λ q k m e. alone_no_tie a q (positive_root a) k (root_finite a p h) (alone a p h) m e)

-- ---- the rule is the root, and the only one
pub rule_zero : (a : ℕ) → a % 2 ^ 63 ≡ 0 → root_rule a ≡ a
unfolding root_rule
rule_zero a e = rw (eq-eqb (a % 2 ^ 63) 0 e) refl

pub rule_none : (a : ℕ) → (a % 2 ^ 63 ≡ 0 → ⊥) → infinity < a → root_rule a ≡ 0x7FF8_0000_0000_0000
unfolding root_rule
rule_none a n l = rw (ne_eqb (a % 2 ^ 63) 0 n, lt-ltb infinity a l) refl

pub rule_infinity : root_rule infinity ≡ infinity
unfolding root_rule
rule_infinity = refl

pub rule_positive : (a : ℕ) → 0 < a → a < infinity → root_rule a ≡ positive_root a
unfolding root_rule
rule_positive a p h =
    rw (ne_eqb (a % 2 ^ 63) 0 (λ (e : a % 2 ^ 63 ≡ 0). omega arith), le-ltb infinity a (omega arith), ne_eqb a infinity (λ (e : a ≡ infinity). omega arith)) refl

pub root_unique : (a r : ℕ) → a < 2 ^ 64 → Root a r → r ≡ root_rule a
root_unique a r b zero_root = sym (rule_zero 0 refl)
root_unique a r b minus_zero_root = sym (rule_zero (2 ^ 63) refl)
root_unique a r b infinity_root = sym rule_infinity
root_unique a r b (no_root a' l n) = sym (rule_none a' (λ (e : a' % 2 ^ 63 ≡ 0). n (omega arith)) l)
root_unique a r b (nearest_root a' r' p h n) = nearest_unique a' p h r' n ∙ sym (rule_positive a' p h)

pub root_nearest : (a : ℕ) → a < 2 ^ 64 → Root a (root_rule a)
root_nearest a b = ⊎_elim
    (λ (l : infinity < a). ⊎_elim (λ (m : a < 2 ^ 63). other l (λ (e : a ≡ 2 ^ 63). omega arith)) (⊎_elim (λ (m : 2 ^ 63 < a). other l (λ (e : a ≡ 2 ^ 63). omega arith)) minus) (compared a (2 ^ 63)))
    (⊎_elim
    (λ (l : a < infinity). ⊎_elim
    (λ (p : 0 < a). subst (λ (r : ℕ). Root a r) (sym (rule_positive a p l)) (nearest_root a (positive_root a) p l (nearest a p l)))
    (λ (n : a ≤ 0). plus (omega arith))
    (lt_or_ge 0 a))
    (λ (e : infinity ≡ a). subst (λ (x : ℕ). Root x (root_rule x)) e (subst (λ (r : ℕ). Root infinity r) (sym rule_infinity) infinity_root)))
    (compared infinity a)
  where
    plus : 0 ≡ a → Root a (root_rule a)
    plus e = subst (λ (x : ℕ). Root x (root_rule x)) e (subst (λ (r : ℕ). Root 0 r) (sym (rule_zero 0 refl)) zero_root)

    minus : a ≡ 2 ^ 63 → Root a (root_rule a)
    minus e = subst (λ (x : ℕ). Root x (root_rule x)) (sym e) (subst (λ (r : ℕ). Root (2 ^ 63) r) (sym (rule_zero (2 ^ 63) refl)) minus_zero_root)

    other : infinity < a → (a ≡ 2 ^ 63 → ⊥) → Root a (root_rule a)
    other l n = subst (λ (r : ℕ). Root a r) (sym (rule_none a (λ (e : a % 2 ^ 63 ≡ 0). n (omega arith)) l)) (no_root a l n)

-- it is a pattern
pub root_below : {a r : ℕ} → Root a r → r < 2 ^ 64
root_below zero_root = omega arith
root_below minus_zero_root = omega arith
root_below infinity_root = omega arith
root_below (no_root a l n) = omega arith
root_below (nearest_root a r p h n) = omega (arith, n.finite)
