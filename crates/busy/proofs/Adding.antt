-- The loop that adds the counts up. Assumes nothing.
use mathlib.Core.Path.{◌≡◌, refl}
use mathlib.Core.Bool.{Bool, true, false, ◌&&◌, and-false}
use mathlib.Core.List.{List, [], ◌∷◌}
use Prim.Native.Nat.{ℕ, ◌+◌, ◌≤◌, ◌<◌}
use native.Mathlib.Nat.{add-zero, zero-add, add_assoc}
use native.Mathlib.Numerals.{add-one}
use native.Mathlib.Omega.{arith}
use lib.ListN.{length, get_or, drop, drop_of_length-le}
use lib.Seq.{drop-cons}
use lib.Dec.{eqb}
use borrow.Author.Tests.{eq-eqb, ne_eqb, le-leb}
use Rattle.busy.specs.Sums.{most_steps, sum, rests, comments_rest, adds_up}

-- what is left to be tested at op i, when those before it add up to s
unfoldable pub adds_from : List ℕ → List ℕ → ℕ → ℕ → ℕ → Bool
adds_from rows counts total i s = comments_rest (drop i rows) (drop i counts) && eqb (s + sum (drop i counts)) total

module _ (rows counts : List ℕ) (total i s : ℕ) where
  pub adds_end : length counts ≤ i → length counts ≡ length rows → adds_from rows counts total i s ≡ eqb s total
  unfolding adds_from comments_rest sum
  adds_end h e =
      let a : drop i counts ≡ [] = drop_of_length-le counts h in
      let k : length rows ≤ i = omega arith in
      let b : drop i rows ≡ [] = drop_of_length-le rows k in
      rw (a, b, add-zero) refl

  module _ (h : i < length counts) (e : length counts ≡ length rows) where
    cs : drop i counts ≡ get_or counts i 0 ∷ drop (i + 1) counts
    cs = rw (add-one i) (drop-cons counts i 0 h)

    ks : drop i rows ≡ get_or rows i 0 ∷ drop (i + 1) rows
    ks = let k : i < length rows = omega arith in rw (add-one i) (drop-cons rows i 0 k)

    pub adds_not : rests (get_or rows i 0) (get_or counts i 0) ≡ false → adds_from rows counts total i s ≡ false
    unfolding adds_from comments_rest
    adds_not q = rw (cs, ks, q) refl

    pub adds_over : total < s + get_or counts i 0 → adds_from rows counts total i s ≡ false
    unfolding adds_from sum
    adds_over q =
        rw (cs, ne_eqb (s + (get_or counts i 0 + sum (drop (i + 1) counts))) total (λ (z : s + (get_or counts i 0 + sum (drop (i + 1) counts)) ≡ total). omega arith))
        (and-false (comments_rest (drop i rows) (get_or counts i 0 ∷ drop (i + 1) counts)))

    pub adds_on : rests (get_or rows i 0) (get_or counts i 0) ≡ true → adds_from rows counts total i s ≡ adds_from rows counts total (i + 1) (s + get_or counts i 0)
    unfolding adds_from comments_rest sum
    adds_on q = rw (cs, ks, q, add_assoc s (get_or counts i 0) (sum (drop (i + 1) counts))) refl

pub adds_start : (rows counts : List ℕ) (total : ℕ) → length counts ≡ length rows → total ≤ most_steps
    → adds_up rows counts total ≡ adds_from rows counts total 0 0
unfolding adds_up adds_from
adds_start rows counts total e h = rw (eq-eqb (length counts) (length rows) e, le-leb total most_steps h, zero-add) refl
