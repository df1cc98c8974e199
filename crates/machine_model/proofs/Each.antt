-- A property of every number of a list, through what the machine does to lists. Assumes nothing.
use Prim.Native.Nat.{ℕ, zero, suc, ◌<◌}
use native.Mathlib.Nat.{not-suc-le-zero, le_of_suc-le-suc}
use mathlib.Core.List.{List, [], ◌∷◌, ◌++◌}
use lib.ListN.{length, take, drop, get_or, replicate}
use lib.ListN
use Rattle.lane_loops.specs.Loops.{zip_to, map_to}
use Rattle.machine_model.specs.Formed.{Each}

module _ (P : ℕ → Type 0) where
  pub each_append : (xs ys : List ℕ) → Each P xs → Each P ys → Each P (xs ++ ys)
  each_append [] ys a b = b
  each_append (x ∷ xs) ys a b = (a.0, each_append xs ys a.1 b)

  pub each_end : (xs : List ℕ) (y : ℕ) → Each P xs → P y → Each P (xs ++ (y ∷ []))
  each_end xs y a p = each_append xs (y ∷ []) a (p, tt)

  pub each_take : (n : ℕ) (xs : List ℕ) → Each P xs → Each P (take n xs)
  each_take zero xs a = tt
  each_take (suc n) [] a = tt
  each_take (suc n) (x ∷ xs) a = (a.0, each_take n xs a.1)

  pub each_drop : (n : ℕ) (xs : List ℕ) → Each P xs → Each P (drop n xs)
  each_drop zero xs a = a
  each_drop (suc n) [] a = tt
  each_drop (suc n) (x ∷ xs) a = each_drop n xs a.1

  pub each_at : (xs : List ℕ) (i : ℕ) → i < length xs → Each P xs → P (get_or xs i 0)
  each_at [] i h a = absurd (not-suc-le-zero h)
  each_at (x ∷ xs) zero h a = a.0
  each_at (x ∷ xs) (suc i) h a = each_at xs i (le_of_suc-le-suc h) a.1

  pub each_get_or : (xs : List ℕ) (i : ℕ) → P 0 → Each P xs → P (get_or xs i 0)
  each_get_or [] i z a = z
  each_get_or (x ∷ xs) zero z a = a.0
  each_get_or (x ∷ xs) (suc i) z a = each_get_or xs i z a.1

  pub each_set : (xs : List ℕ) (i v : ℕ) → Each P xs → P v → Each P (lib.ListN.set xs i v)
  each_set [] i v a p = tt
  each_set (x ∷ xs) zero v a p = (p, a.1)
  each_set (x ∷ xs) (suc i) v a p = (a.0, each_set xs i v a.1 p)

  pub each_replicate : (n v : ℕ) → P v → Each P (replicate n v)
  each_replicate zero v p = tt
  each_replicate (suc n) v p = (p, each_replicate n v p)

  pub each_map : (f : ℕ → ℕ) → ((a : ℕ) → P a → P (f a)) → (n : ℕ) (xs : List ℕ) → Each P xs → Each P (map_to f n xs)
  unfolding map_to
  each_map f h zero xs a = a
  each_map f h (suc n) [] a = tt
  each_map f h (suc n) (x ∷ xs) a = (h x a.0, each_map f h n xs a.1)

  pub each_zip : (f : ℕ → ℕ → ℕ) → ((a b : ℕ) → P a → P b → P (f a b)) → (n : ℕ) (xs ys : List ℕ) → Each P xs → Each P ys → Each P (zip_to f n xs ys)
  unfolding zip_to
  each_zip f h zero xs ys a b = a
  each_zip f h (suc n) [] ys a b = tt
  each_zip f h (suc n) (x ∷ xs) [] a b = a
  each_zip f h (suc n) (x ∷ xs) (y ∷ ys) a b = (h x y a.0 b.0, each_zip f h n xs ys a.1 b.1)

-- the parts of a list, a list put together, and an element anew
pub ruleset each_part = (each_append, each_end, each_take, each_drop, each_set)

pub each_to : (P Q : ℕ → Type 0) → ((x : ℕ) → P x → Q x) → (xs : List ℕ) → Each P xs → Each Q xs
each_to P Q h [] a = tt
each_to P Q h (x ∷ xs) a = (h x a.0, each_to P Q h xs a.1)
