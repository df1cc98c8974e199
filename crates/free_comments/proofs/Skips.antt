-- Where places go when the op at a is left out, and what a list has there. Assumes nothing.
use Prim.Native.Nat.{ℕ, zero, suc, ◌+◌, ◌≤◌, ◌<◌}
use native.Mathlib.Nat.{not-suc-le-zero, le_of_suc-le-suc}
use native.Mathlib.Decide.{dec_lt}
use native.Mathlib.Omega.{arith}
use borrow.Author.Tests.{le-leb, lt-leb, lt-ltb, le-ltb}
use mathlib.Core.Path.{◌≡◌, refl, ap, sym, subst}
use mathlib.Core.Bool.{Bool, true, false}
use mathlib.Core.List.{List, [], ◌∷◌, ◌++◌}
use lib.ListN.{length, drop, get_or, length-drop}
use lib.Seq.{drop-append-le}
use Rattle.machine_model.specs.Passed.{past}
use Rattle.machine_model.proofs.Passing.{from}
use Rattle.free_comments.specs.Free.{skip, gap}

-- ---- places

-- the two ways in which `skip` moves a place
pub data Skips (a : ℕ) : ℕ → ℕ → Type 0 where
  low : {i : ℕ} → i ≤ a → Skips a i i
  high : {j : ℕ} → a ≤ j → Skips a (suc j) j

pub skip_low : (a i : ℕ) → i ≤ a → skip a i ≡ i
unfolding skip
skip_low a i h = rw (le-leb i a h)

pub skip_high : (a j : ℕ) → a ≤ j → skip a (suc j) ≡ j
unfolding skip
skip_high a j h = rw (lt-leb (suc j) a (omega arith)) (omega arith)

pub skips : (a i : ℕ) → Skips a i (skip a i)
skips a i = by i (dec_lt a i)
  where
    by : (i : ℕ) → Dec (a < i) → Skips a i (skip a i)
    by i (no h) = subst (λ (j : ℕ). Skips a i j) (sym (skip_low a i (omega arith))) (low (omega arith))
    by zero (yes h) = absurd (not-suc-le-zero h)
    by (suc j) (yes h) = subst (λ (k : ℕ). Skips a (suc j) k) (sym (skip_high a j (omega arith))) (high (omega arith))

module _ (a : ℕ) where
  -- the place after one that is not a
  pub skip_suc : (i : ℕ) → (i ≡ a → ⊥) → skip a (suc i) ≡ suc (skip a i)
  skip_suc i n = by i (skip a i) (skips a i) n
    where
      by : (i j : ℕ) → Skips a i j → (i ≡ a → ⊥) → skip a (suc i) ≡ suc j
      by i _ (low h) n = skip_low a (suc i) (omega arith)
      by _ j (high h) n = skip_high a (suc j) (omega arith)

  pub skip_rises : (p q : ℕ) → (p ≡ a → ⊥) → p < q → (q ≡ a → ⊥) → skip a p < skip a q
  skip_rises p q n h m = by p q (skip a p) (skip a q) (skips a p) (skips a q) n m h
    where
      by : (p q p' q' : ℕ) → Skips a p p' → Skips a q q' → (p ≡ a → ⊥) → (q ≡ a → ⊥) → p < q → p' < q'
      by p q _ _ (low k) (low l) n m h = h
      by p _ _ q' (low k) (high l) n m h = omega arith
      by _ q p' _ (high k) (low l) n m h = omega arith
      by _ _ p' q' (high k) (high l) n m h = omega arith

  pub gap_skip : (i : ℕ) → (i ≡ a → ⊥) → gap a (skip a i) ≡ i
  gap_skip i n = by i (skip a i) (skips a i) n
    where
      by : (i j : ℕ) → Skips a i j → (i ≡ a → ⊥) → gap a j ≡ i
      by i _ (low h) n = rw (lt-ltb i a (omega arith))
      by _ j (high h) n = rw (le-ltb j a h)

-- ---- lists

module _ {A : Type 0} where
  pub drop_high : (xs : List A) (y : A) (ys : List A) (j : ℕ) → length xs ≤ j → drop (suc j) (xs ++ y ∷ ys) ≡ drop j (xs ++ ys)
  drop_high [] y ys j h = refl
  drop_high (x ∷ xs) y ys zero h = absurd (not-suc-le-zero h)
  drop_high (x ∷ xs) y ys (suc j) h = drop_high xs y ys j (le_of_suc-le-suc h)

  pub at_skip : (xs : List A) (y : A) (ys : List A) (d : A) (i : ℕ) → (i ≡ length xs → ⊥) → get_or (xs ++ ys) (skip (length xs) i) d ≡ get_or (xs ++ y ∷ ys) i d
  at_skip xs y ys d i n = by xs i (skip (length xs) i) (skips (length xs) i) n
    where
      by : (xs : List A) (i j : ℕ) → Skips (length xs) i j → (i ≡ length xs → ⊥) → get_or (xs ++ ys) j d ≡ get_or (xs ++ y ∷ ys) i d
      by [] i _ (low h) n = absurd (n (omega arith))
      by [] _ j (high h) n = refl
      by (x ∷ xs) zero _ (low h) n = refl
      by (x ∷ xs) (suc i) _ (low h) n = by xs i i (low (omega arith)) (λ e. n (ap suc e))
      by (x ∷ xs) _ zero (high h) n = absurd (not-suc-le-zero h)
      by (x ∷ xs) _ (suc j) (high h) n = by xs (suc j) j (high (omega arith)) (λ e. n (ap suc e))

-- ---- passing comments and leaving one out come to the same place

module _ (a : ℕ) where
  past_shift : (q : ℕ) (bs : List Bool) → a ≤ q → skip a (past (suc q) bs) ≡ past q bs
  unfolding past
  past_shift q [] h = skip_high a q h
  past_shift q (true ∷ bs) h = past_shift (suc q) bs (omega arith)
  past_shift q (false ∷ bs) h = skip_high a q h

  past_through : (p : ℕ) (xs bs : List Bool) → a ≡ p + length xs → skip a (past p (xs ++ true ∷ bs)) ≡ past p (xs ++ bs)
  unfolding past
  past_through p [] bs h = past_shift p bs (omega arith)
  past_through p (true ∷ xs) bs h = past_through (suc p) xs bs (omega arith)
  past_through p (false ∷ xs) bs h = skip_low a p (omega arith)

  pub from_skip : (xs bs : List Bool) → length xs ≡ a → (i : ℕ) → skip a (from (xs ++ true ∷ bs) i) ≡ from (xs ++ bs) (skip a i)
  from_skip xs bs l i = by i (skip a i) (skips a i)
    where
      by : (i j : ℕ) → Skips a i j → skip a (from (xs ++ true ∷ bs) i) ≡ from (xs ++ bs) j
      by i _ (low h) =
          rw (drop-append-le i xs (true ∷ bs) (omega arith), drop-append-le i xs bs (omega arith))
          (past_through i (drop i xs) bs (omega (arith, length-drop i xs)))
      by _ j (high h) = rw (drop_high xs true bs j (omega arith)) (past_shift j (drop j (xs ++ bs)) h)
