-- The laws of the sum: what the test of counts tells and is told by, and a count raised. Assumes nothing.
use mathlib.Core.Path.{◌≡◌, refl}
use mathlib.Core.Bool.{true}
use mathlib.Core.List.{List, [], ◌∷◌}
use Prim.Native.Nat.{ℕ, zero, suc, ◌+◌, ◌≤◌, ◌<◌}
use native.Mathlib.Nat.{not-suc-le-zero, le_of_suc-le-suc}
use native.Mathlib.Omega.{arith}
use lib.Dec.{eqb, leb}
use lib.ListN.{length, get_or, set, replicate, length-replicate}
use borrow.Author.Tests.{eq-eqb, le-leb, leb-true, eqb-true}
use Rattle.basics.proofs.Tests.{by_case, and_left, and_right}
use Rattle.busy.specs.Sums.{most_steps, raised, sum, rests, comments_rest, adds_up}

-- ---- the comments at rest

comment_rests : (k c : ℕ) → rests k c ≡ true → k ≡ 0 → c ≡ 0
unfolding rests
comment_rests k c e z = eqb-true c 0 (rw (eq-eqb k 0 z) at e)

rests_told : (k c : ℕ) → (k ≡ 0 → c ≡ 0) → rests k c ≡ true
unfolding rests
rests_told k c h = by_case (eqb k 0) (λ e. rw (e, eq-eqb c 0 (h (eqb-true k 0 e))) refl) (λ e. rw e refl)

rest_tells : (ks cs : List ℕ) (i : ℕ) → comments_rest ks cs ≡ true → i < length ks → get_or ks i 0 ≡ 0 → get_or cs i 0 ≡ 0
unfolding comments_rest
rest_tells [] cs i e h z = absurd (not-suc-le-zero h)
rest_tells (k ∷ ks) [] i e h z = refl
rest_tells (k ∷ ks) (c ∷ cs) zero e h z = comment_rests k c (and_left (rests k c) (comments_rest ks cs) e) z
rest_tells (k ∷ ks) (c ∷ cs) (suc i) e h z = rest_tells ks cs i (and_right (rests k c) (comments_rest ks cs) e) (le_of_suc-le-suc h) z

rest_told : (ks cs : List ℕ) → ((i : ℕ) → i < length ks → get_or ks i 0 ≡ 0 → get_or cs i 0 ≡ 0) → comments_rest ks cs ≡ true
unfolding comments_rest
rest_told [] cs h = refl
rest_told (k ∷ ks) [] h = refl
rest_told (k ∷ ks) (c ∷ cs) h = rw (rests_told k c (h 0 (omega arith)), rest_told ks cs (λ i l z. h (suc i) (omega arith) z)) refl

-- ---- the test

-- what 37 asks of counts and total, of ops with these rows
pub record Adds (rows counts : List ℕ) (total : ℕ) : Type 0 where
  pub each : length counts ≡ length rows
  pub within : total ≤ most_steps
  pub summed : sum counts ≡ total
  pub rest : (i : ℕ) → i < length rows → get_or rows i 0 ≡ 0 → get_or counts i 0 ≡ 0

module _ (rows counts : List ℕ) (total : ℕ) where
  pub adds : adds_up rows counts total ≡ true → Adds rows counts total
  unfolding adds_up
  adds e =
      let e₁ = and_right (eqb (length counts) (length rows)) _ e in
      let e₂ = and_right (leb total most_steps) _ e₁ in
      record {
        each = eqb-true (length counts) (length rows) (and_left _ _ e);
        within = leb-true total most_steps (and_left _ _ e₁);
        summed = eqb-true (sum counts) total (and_right (comments_rest rows counts) _ e₂);
        rest = λ i. rest_tells rows counts i (and_left _ _ e₂);
      }

  pub adds_told : Adds rows counts total → adds_up rows counts total ≡ true
  unfolding adds_up
  adds_told a =
      rw (eq-eqb (length counts) (length rows) a.each, le-leb total most_steps a.within, rest_told rows counts a.rest, eq-eqb (sum counts) total a.summed) refl

-- ---- zeros, a count raised, and one of the counts

pub sum_zeros : (n : ℕ) → sum (replicate n 0) ≡ 0
unfolding sum
sum_zeros zero = refl
sum_zeros (suc n) = omega (arith, sum_zeros n)

pub zero_at : (n i : ℕ) → ◌≡◌ {A = ℕ} (get_or (replicate n 0) i 0) 0
zero_at zero i = refl
zero_at (suc n) zero = refl
zero_at (suc n) (suc i) = zero_at n i

pub zeros_added : (rows : List ℕ) → adds_up rows (replicate (length rows) 0) 0 ≡ true
zeros_added rows =
    adds_told rows _ 0
    (record { each = length-replicate {A = ℕ} (length rows) 0; within = omega arith; summed = sum_zeros (length rows); rest = λ i h z. zero_at (length rows) i })

pub sum_raised : (cs : List ℕ) (i : ℕ) → i < length cs → sum (raised cs i) ≡ sum cs + 1
unfolding sum raised
sum_raised [] i h = absurd (not-suc-le-zero h)
sum_raised (c ∷ cs) zero h = omega arith
sum_raised (c ∷ cs) (suc i) h =
    let e : sum (set cs i (get_or cs i 0 + 1)) ≡ sum cs + 1 = sum_raised cs i (le_of_suc-le-suc h) in omega (arith, e)

pub one_of_sum : (cs : List ℕ) (i : ℕ) → get_or cs i 0 ≤ sum cs
unfolding sum
one_of_sum [] i = omega arith
one_of_sum (c ∷ cs) zero = omega arith
one_of_sum (c ∷ cs) (suc i) = omega (arith, one_of_sum cs i)
