-- The entries of a list: a test of each, and the loop over the table. Assumes nothing.
use mathlib.Core.Path.{◌≡◌, refl, ap}
use mathlib.Core.Bool.{Bool, true, false, ◌&&◌}
use Rattle.std.specs.List.{list_all}
use mathlib.Core.List.{List, [], ◌∷◌}
use Prim.Native.Nat.{ℕ, suc, ◌+◌, ◌-◌, ◌≤◌, ◌<◌}
use native.Mathlib.Omega.{arith}
use native.Mathlib.Numerals.{add-one}
use lib.ListN.{length, get_or, take, drop, get_or-eq_default}
use lib.Seq.{drop-cons}
use borrow.Author.Tests.{lt-leb, le-leb, eq-eqb, ne_eqb}
use Rattle.states.specs.Formed.{all_of, names_from}

-- of the first n entries of l, those from i on
abbrev pub left : List ℕ → ℕ → ℕ → List ℕ
left l n i = take (n - i) (drop i l)

none_left : (l : List ℕ) (n i : ℕ) → n ≤ i → left l n i ≡ []
none_left l n i h =
    let z : n - i ≡ 0 = omega arith in
    rw z refl

one_left : (l : List ℕ) (n i : ℕ) → i < n → i < length l → left l n i ≡ get_or l i 0 ∷ left l n (i + 1)
one_left l n i h k =
    let z : n - i ≡ suc (n - (i + 1)) = omega arith in
    rw (z, drop-cons l i 0 k, add-one i) refl

-- the test of each entry is the library's
pub all_is : (p : ℕ → Bool) (l : List ℕ) → list_all p l ≡ all_of p l
unfolding all_of
all_is p [] = refl
all_is p (x ∷ xs) = ap (λ (b : Bool). p x && b) (all_is p xs)

-- ---- the table: each place at least b, and one of a mark

pub names_end : (ks : List ℕ) (b : ℕ) (l : List ℕ) (n i : ℕ) → n ≤ i → names_from ks b (left l n i) ≡ true
unfolding names_from
names_end ks b l n i h = rw (none_left l n i h) refl

module _ (ks : List ℕ) (b : ℕ) (l : List ℕ) (n i t : ℕ) (h : i < n) (k : i < length l) (is : t ≡ get_or l i 0) where
  pub names_low : t < b → names_from ks b (left l n i) ≡ false
  unfolding names_from
  names_low e = rw (one_left l n i h k, ← is, lt-leb b t e) refl

  module _ (e : b ≤ t) where
    pub names_not : (get_or ks t 0 ≡ 2 → ⊥) → names_from ks b (left l n i) ≡ false
    unfolding names_from
    names_not q = rw (one_left l n i h k, ← is, le-leb b t e, ne_eqb (get_or ks t 0) 2 q) refl

    pub names_beyond : length ks ≤ t → names_from ks b (left l n i) ≡ false
    names_beyond q = names_not (λ (z : get_or ks t 0 ≡ 2). omega (arith, z, get_or-eq_default ks 0 q))

    pub names_on : get_or ks t 0 ≡ 2 → names_from ks b (left l n i) ≡ names_from ks (t + 1) (left l n (i + 1))
    unfolding names_from
    names_on q = rw (one_left l n i h k, ← is, le-leb b t e, eq-eqb (get_or ks t 0) 2 q) refl
