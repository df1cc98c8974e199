-- A decimal in the input: where its digits are, the number that they write, and its bound. Assumes nothing.
use Rattle.std.proofs.Common.{◌≡◌, ℕ, suc, ◌+◌, ◌-◌, ◌*◌, ◌%◌, ◌^◌, ◌<◌, ◌≤◌, Bool, true, false, cond, ltb, List, [], ◌∷◌, ◌++◌, length, get_or, take, drop, sym, refl, ap, ◌∙◌, subst, le_trans, mul-le-mul_right, zero-lt-suc, le-mul_of_pos_right, add-one, arith, length-drop, drop_of_length-le, length-take, get_or-drop, drop-cons, drop-drop, pow-add, ltb-false, ltb-true}
use native.Mathlib.Nat.{pow-le-pow_right, one-le-pow, pow-succ'}
use Rattle.basics.proofs.Tests.{by_case}
use Rattle.decimals.specs.Chars.{is_digit, leading, past}
use Rattle.decimals.specs.Decimal.{is_point, point, after_point, whole_of}
use Rattle.decimals.specs.Post.{part, Digits, Summed, Fraction}
use Rattle.decimals.proofs.Ends.{leading_all, leading_length, digit_most}

-- ---- where digits are: as many as stand there, or fewer

pub digits_some : (l : List ℕ) (at k e : ℕ) → k ≤ leading is_digit (drop at l) → e ≡ at + k → Digits l at e
digits_some l at k e g q = record {
  order = omega arith;
  inside = λ i j h. omega (arith, leading_length is_digit (drop at l), length-drop at l);
  digit = λ i j h.
      let o : at + (i - at) ≡ i = omega arith in
      let n : i - at < leading is_digit (drop at l) = omega arith in
      subst (λ (x : ℕ). is_digit (get_or l x 0) ≡ true) o (subst (λ (v : ℕ). is_digit v ≡ true) (get_or-drop at l (i - at) 0) (leading_all is_digit (drop at l) (i - at) n));
}

pub digits_length : (l : List ℕ) (i e : ℕ) → Digits l i e → length (part l i e) ≡ e - i
digits_length l i e d =
    by_case (ltb i e)
    (λ t. let h = d.inside (e - 1) (omega (arith, ltb-true i e t)) (omega (arith, ltb-true i e t)) in omega (arith, length-take (e - i) (drop i l), length-drop i l))
    (λ t. omega (arith, ltb-false i e t, length-take (e - i) (drop i l)))

-- ---- the point: none beyond the end, none where another value stands, one where it stands

pub fraction_end : (l : List ℕ) (e : ℕ) → length l ≤ e → Fraction l e e e
unfolding leading
fraction_end l e h = record { first = rw (drop_of_length-le l h) (omega arith); last = rw (drop_of_length-le l h) (omega arith) }

pub fraction_none : (l : List ℕ) (e : ℕ) → e < length l → is_point (get_or l e 0) ≡ false → Fraction l e e e
unfolding leading
fraction_none l e h t = record { first = rw (drop-cons l e 0 h, t) (omega arith); last = rw (drop-cons l e 0 h, t) (omega arith) }

pub fraction_some : (l : List ℕ) (e f : ℕ) → e < length l → is_point (get_or l e 0) ≡ true → f ≡ past is_digit l (e + 1) → Fraction l e (e + 1) f
fraction_some l e f h t q = record { first = rw (drop-cons l e 0 h, t) refl; last = rw (drop-cons l e 0 h, t, ← add-one e) q }

-- the digits after a point are those from the place after it on; without one there are none
record After (l : List ℕ) (start : ℕ) (vs : List ℕ) : Type 0 where
  few : leading is_digit vs ≤ leading is_digit (drop start l)
  same : take (leading is_digit vs) (drop start l) ≡ take (leading is_digit vs) vs

after_is : (l : List ℕ) (e : ℕ) (r : List ℕ) → drop e l ≡ r → After l (e + point r) (after_point r)
unfolding leading
after_is l e [] q = record { few = omega arith; same = refl }
after_is l e (v ∷ vs) q = go (is_point v)
  where
    go : (t : Bool) → After l (e + cond t 1 0) (cond t vs [])
    go true =
        let d : drop (e + 1) l ≡ vs = sym (drop-drop 1 e l) ∙ ap (λ (x : List ℕ). drop 1 x) q in
        record { few = rw d (omega arith); same = rw d refl }
    go false = record { few = omega arith; same = refl }

point_inside : (r : List ℕ) → point r + leading is_digit (after_point r) ≤ length r
unfolding leading
point_inside [] = omega arith
point_inside (v ∷ vs) = go (is_point v)
  where
    go : (t : Bool) → cond t 1 0 + leading is_digit (cond t vs []) ≤ suc (length vs)
    go true = omega (arith, leading_length is_digit vs)
    go false = omega arith

module _ (l : List ℕ) (e s f : ℕ) (b : Fraction l e s f) where
  after : After l s (after_point (drop e l))
  after = subst (λ (x : ℕ). After l x (after_point (drop e l))) (sym b.first) (after_is l e (drop e l) refl)

  pub fraction_digits : Digits l s f
  fraction_digits = digits_some l s (leading is_digit (after_point (drop e l))) f after.few b.last

  pub fraction_above : e ≤ s
  fraction_above = omega (arith, b.first)

  pub fraction_part : part l s f ≡ take (leading is_digit (after_point (drop e l))) (after_point (drop e l))
  fraction_part =
      let k : f - s ≡ leading is_digit (after_point (drop e l)) = omega (arith, b.last) in
      rw k after.same

  -- from a place in the input, all of it is there
  pub fraction_inside : e ≤ length l → f ≤ length l
  fraction_inside h = omega (arith, b.first, b.last, point_inside (drop e l), length-drop e l)

-- ---- the number that they write

pub whole_append : (a : ℕ) (xs ys : List ℕ) → whole_of a (xs ++ ys) ≡ whole_of (whole_of a xs) ys
unfolding whole_of
whole_append a [] ys = refl
whole_append a (x ∷ xs) ys = whole_append (a * 10 + (x % 256 - 48)) xs ys

-- the loop: n is what the digits before place i write after a
pub record Adding (l : List ℕ) (from to a n i : ℕ) : Type 0 where
  pub after : from ≤ i
  pub before : i ≤ to
  pub sum : whole_of n (part l i to) ≡ whole_of a (part l from to)
  pub bound : (n + 1) * 10 ^ (to - i) ≤ (a + 1) * 10 ^ (to - from)

ten_pos : (k : ℕ) → 0 < 10 ^ k
ten_pos k = one-le-pow k 10 (zero-lt-suc 9)

within : (n k b : ℕ) → (n + 1) * 10 ^ k ≤ b → n + 1 ≤ b
within n k b h = le_trans (le-mul_of_pos_right (n + 1) (ten_pos k)) h

one_less : (d n k : ℕ) → d ≤ 9 → (n * 10 + d + 1) * 10 ^ k ≤ (n + 1) * 10 ^ suc k
one_less d n k h =
    let g : n * 10 + d + 1 ≤ (n + 1) * 10 = omega arith in
    omega (arith, mul-le-mul_right (10 ^ k) g, ap (λ (x : ℕ). (n + 1) * x) (pow-succ' 10 k))

more : (l : List ℕ) (i to n : ℕ) → i < to → i < length l → whole_of n (part l i to) ≡ whole_of (n * 10 + (get_or l i 0 % 256 - 48)) (part l (i + 1) to)
unfolding whole_of
more l i to n h k =
    let e : to - i ≡ suc (to - suc i) = omega arith in
    rw (drop-cons l i 0 k, e, add-one i) refl

module _ (l : List ℕ) (from to a n i : ℕ) (v : Adding l from to a n i) where
  pub room : (a + 1) * 10 ^ (to - from) ≤ 10 ^ 15 → n + 1 ≤ 10 ^ 15
  room h = within n (to - i) (10 ^ 15) (le_trans v.bound h)

  pub summed : to ≤ i → Summed l from to a n
  unfolding whole_of
  summed h =
      let e : to - i ≡ 0 = omega arith in
      record { sum = subst (λ (k : ℕ). whole_of n (take k (drop i l)) ≡ whole_of a (part l from to)) e v.sum; bound = within n (to - i) _ v.bound }

  pub added : Digits l from to → i < to → Adding l from to a (n * 10 + (get_or l i 0 % 256 - 48)) (i + 1)
  added ds h =
      let d : get_or l i 0 % 256 - 48 ≤ 9 = omega (arith, digit_most (get_or l i 0) (ds.digit i v.after h)) in
      let e : to - i ≡ suc (to - (i + 1)) = omega arith in
      record {
        after = omega (arith, v.after);
        before = omega arith;
        sum = sym (more l i to n h (ds.inside i v.after h)) ∙ v.sum;
        bound = le_trans (one_less (get_or l i 0 % 256 - 48) n (to - (i + 1)) d) (subst (λ (k : ℕ). (n + 1) * 10 ^ k ≤ (a + 1) * 10 ^ (to - from)) e v.bound);
      }

pub begun : (l : List ℕ) (from to a : ℕ) → Digits l from to → Adding l from to a a from
begun l from to a ds = record { after = omega arith; before = ds.order; sum = refl; bound = omega arith }

-- ---- powers of ten, and 15 digits in all

pub power_high : (i : ℕ) → i ≤ 15 → 10 ^ i ≤ 10 ^ 15
power_high i h = pow-le-pow_right (zero-lt-suc 9) h

pub power_some : (k p : ℕ) → p ≡ 10 ^ k → 0 < p
power_some k p e = subst (λ (x : ℕ). 0 < x) (sym e) (ten_pos k)

pub first_room : (j k : ℕ) → j + k ≤ 15 → (0 + 1) * 10 ^ j ≤ 10 ^ 15
first_room j k h = omega (arith, power_high j (omega arith))

pub second_room : (w j k : ℕ) → w + 1 ≤ (0 + 1) * 10 ^ j → j + k ≤ 15 → (w + 1) * 10 ^ k ≤ 10 ^ 15
second_room w j k h l = omega (arith, mul-le-mul_right (10 ^ k) h, pow-add 10 j k, power_high (j + k) l)

pub number_small : (n w j k : ℕ) → n + 1 ≤ (w + 1) * 10 ^ k → w + 1 ≤ (0 + 1) * 10 ^ j → j + k ≤ 15 → n ≤ 2 ^ 53
number_small n w j k g h l = omega (arith, second_room w j k h l)
