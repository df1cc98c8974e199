-- Roots of whole numbers: what `root_in` cuts off, that nothing else does, and how the code comes to it. Assumes nothing.
use mathlib.Core.Path.{◌≡◌, refl, sym, ◌∙◌, ap, subst}
use mathlib.Core.Bool.{Bool, true, false, cond}
use mathlib.Core.Logic.{⊎_elim}
use Prim.Native.Nat.{ℕ, zero, suc, ◌+◌, ◌-◌, ◌*◌, ◌/◌, ◌%◌, ◌^◌, ◌<◌, ◌≤◌}
use native.Mathlib.Omega.{arith}
use native.Mathlib.Nat.{mul-le-mul, mul-le-mul_right, lt_of_mul-lt-mul_right, lt_of_lt_of_le}
use lib.Dec.{leb}
use lib.Pow.{pow-add, pow_pos, pow_mono}
use lib.Ieee.{size}
use lib.Ieee.Digits.{size-lt, size-le, back}
use borrow.Author.Tests.{leb-true, leb-false, lt-ltb, le-ltb}
use Rattle.std.specs.Int.Count.{count_leading_zeros}
use Rattle.std.proofs.lemmas.Nat.{leading_top}
use Rattle.lanes.proofs.Ints.{lt_or_ge}
use Rattle.standard_device.specs.Root.{root_in, nearer, near_root}
use Rattle.standard_device.specs.Post.{Turned, Lifted}

pub sq_lt : (a b : ℕ) → a < b → a * a < b * b
sq_lt a b h = omega (arith, mul-le-mul h h)

pub sq_back : (a b : ℕ) → a * a < b * b → a < b
sq_back a b h = ⊎_elim (λ l. l) (λ (g : b ≤ a). absurd (omega (arith, mul-le-mul g g))) (lt_or_ge a b)

-- q is the root of n, cut to a whole number
pub record Cut (n q : ℕ) : Type 0 where
  pub at_most : q * q ≤ n
  pub less : n < suc q * suc q

pub cut_unique : (n p q : ℕ) → Cut n p → Cut n q → p ≡ q
cut_unique n p q c d =
    let h : p < suc q = sq_back p (suc q) (omega arith) in
    let k : q < suc p = sq_back q (suc p) (omega arith) in
    omega arith

quarter : (n p : ℕ) → Cut (n / 4) p → (t : Bool) → leb ((2 * p + 1) * (2 * p + 1)) n ≡ t → Cut n (cond t (2 * p + 1) (2 * p))
quarter n p c true e = record { at_most = leb-true _ _ e; less = omega (arith, c.less) }
quarter n p c false e = record { at_most = omega (arith, c.at_most); less = omega (arith, leb-false) }

pub root_in_cut : (k n : ℕ) → n < 4 ^ k → Cut n (root_in k n)
unfolding root_in
root_in_cut zero n h = record { at_most = omega arith; less = omega arith }
root_in_cut (suc k) n h =
    let l : n / 4 < 4 ^ k = omega arith in
    quarter n (root_in k (n / 4)) (root_in_cut k (n / 4) l) (leb ((2 * root_in k (n / 4) + 1) * (2 * root_in k (n / 4) + 1)) n) refl

-- what is left of n tells on which side of q and a half the root is
module _ (n q rest : ℕ) (h : n < 4 ^ 53) (e : q * q + rest ≡ n) (l : rest ≤ 2 * q) where
  cut_is : root_in 53 n ≡ q
  cut_is = cut_unique n (root_in 53 n) q (root_in_cut 53 n h) (record { at_most = omega arith; less = omega arith })

  near_is : nearer n q ≡ near_root n
  unfolding near_root
  near_is = ap (λ (p : ℕ). nearer n p) (sym cut_is)

  pub near_up : q < rest → q + 1 ≡ near_root n
  unfolding nearer
  near_up g = sym (rw (lt-ltb (q * q + q) n (omega arith)) refl) ∙ near_is

  pub near_down : rest ≤ q → q ≡ near_root n
  unfolding nearer
  near_down g = sym (rw (le-ltb (q * q + q) n (omega arith)) refl) ∙ near_is

-- ---- the loop for the root: i digits are found, and w is what is still to be read of m
pub record Working (m q rest w i : ℕ) : Type 0 where
  pub count : i ≤ 53
  pub bits : q < 2 ^ i
  pub small : rest ≤ 2 * q
  pub unread : w < 2 ^ 54
  pub whole : m * 4 ^ i ≡ (q * q + rest) * 2 ^ 54 + w

pub started : (m : ℕ) → m < 2 ^ 54 → Working m 0 0 m 0
started m h = record { count = omega arith; bits = omega arith; small = omega arith; unread = h; whole = omega arith }

pub bounded : {m q rest w i : ℕ} → Working m q rest w i → q < 2 ^ 53
bounded v = lt_of_lt_of_le v.bits (pow_mono v.count)

pub turned : (m q rest w i r left : ℕ) → Working m q rest w i → i < 53 → Turned q rest (w / 2 ^ 52) r left → Working m r left (w % 2 ^ 52 * 4) (i + 1)
turned m q rest w i r left v h t = record {
  count = omega arith;
  bits = omega (arith, pow-add 2 i 1, v.bits, t.digit);
  small = t.small;
  unread = omega arith;
  whole = ap (λ (x : ℕ). m * x) (pow-add 4 i 1) ∙ omega (arith, v.whole, t.whole);
}

pub finished : (m q rest w i : ℕ) → Working m q rest w i → 53 ≤ i → q * q + rest ≡ m * 2 ^ 52
finished m q rest w i v h =
    let e : i ≡ 53 = omega arith in
    let k : m * 4 ^ 53 ≡ (q * q + rest) * 2 ^ 54 + w = subst (λ (x : ℕ). m * 4 ^ x ≡ (q * q + rest) * 2 ^ 54 + w) e v.whole in
    omega (arith, v.unread, k)

-- ---- zeros behind the digits
pub few : (d z : ℕ) → 0 < d → d * 2 ^ z < 2 ^ 53 → z < 53
few d z p h = ⊎_elim (λ l. l) (λ (g : 53 ≤ z). absurd (omega (arith, pow_mono g, mul-le-mul_right (2 ^ z) p))) (lt_or_ge z 53)

pub lifted : (d m z : ℕ) → 0 < d → m ≡ d * 2 ^ z → 2 ^ 52 ≤ m → m < 2 ^ 53 → Lifted d m z
lifted d m z p e l h =
    let f : z < 53 = few d z p (omega arith) in
    let a : 2 ^ (53 - z) * 2 ^ z ≡ 2 ^ 53 = sym (pow-add 2 (53 - z) z) ∙ ap (λ (x : ℕ). 2 ^ x) (back 53 z (omega arith)) in
    let b : 2 ^ (52 - z) * 2 ^ z ≡ 2 ^ 52 = sym (pow-add 2 (52 - z) z) ∙ ap (λ (x : ℕ). 2 ^ x) (back 52 z (omega arith)) in
    let u : size d ≤ 53 - z = size-le d (53 - z) (lt_of_mul-lt-mul_right (2 ^ z) (omega arith)) in
    record {
      doubled = e;
      low = l;
      high = h;
      times = ⊎_elim
          (λ (g : size d < 53 - z).
          let k : size d ≤ 52 - z = omega arith in
          let j : suc d ≤ 2 ^ (52 - z) = lt_of_lt_of_le (size-lt d) (pow_mono k) in
          absurd (omega (arith, mul-le-mul_right (2 ^ z) j, pow_pos z)))
          (λ (g : 53 - z ≤ size d). omega arith)
          (lt_or_ge (size d) (53 - z));
    }

-- as many of them as stand before 53 digits of 64
module _ (d : ℕ) (p : 0 < d) (h : d < 2 ^ 53) where
  top : (j : ℕ) × (count_leading_zeros 64 d + suc j ≡ 64) × (2 ^ j ≤ d) × (d < 2 ^ suc j)
  top = leading_top 64 d p (omega arith)

  place : top.0 < 53
  place = ⊎_elim (λ l. l) (λ (g : 53 ≤ top.0). absurd (omega (arith, pow_mono g, top.2))) (lt_or_ge top.0 53)

  pub zeros_before : 11 ≤ count_leading_zeros 64 d
  zeros_before = omega (arith, top.1, place)

  pub lifted_by : {z : ℕ} → z ≡ count_leading_zeros 64 d - 11 → Lifted d (d * 2 ^ (count_leading_zeros 64 d - 11) % 2 ^ 64) z
  lifted_by {z} e =
      let k = 52 - top.0 in
      let q : count_leading_zeros 64 d - 11 ≡ k = omega (arith, top.1, place) in
      let r : top.0 + k ≡ 52 = omega (arith, place) in
      let r' : suc top.0 + k ≡ 53 = omega arith in
      let a : 2 ^ top.0 * 2 ^ k ≡ 2 ^ 52 = sym (pow-add 2 top.0 k) ∙ ap (λ (x : ℕ). 2 ^ x) r in
      let b : 2 ^ suc top.0 * 2 ^ k ≡ 2 ^ 53 = sym (pow-add 2 (suc top.0) k) ∙ ap (λ (x : ℕ). 2 ^ x) r' in
      let l : 2 ^ 52 ≤ d * 2 ^ k = omega (arith, a, mul-le-mul_right (2 ^ k) top.2) in
      let u : d * 2 ^ k < 2 ^ 53 = omega (arith, b, mul-le-mul_right (2 ^ k) top.3, pow_pos k) in
      let m : d * 2 ^ k % 2 ^ 64 ≡ d * 2 ^ k = omega (arith, u) in
      rw (q, e ∙ q, m) (lifted d (d * 2 ^ k) k p refl l u)
