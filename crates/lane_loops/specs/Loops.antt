-- A rule over the first n lanes. Assumes nothing.
use Rattle.std.specs.Prelude.{ℕ, zero, suc, List, [], ◌∷◌, ◌≡◌}

-- the first n lanes, each by the rule f on it and the cell beside it; the others as they were
unfoldable pub zip_to : (ℕ → ℕ → ℕ) → ℕ → List ℕ → List ℕ → List ℕ
zip_to f zero r c = r
zip_to f (suc n) [] c = []
zip_to f (suc n) (x ∷ r) [] = x ∷ r
zip_to f (suc n) (x ∷ r) (y ∷ c) = f x y ∷ zip_to f n r c

-- the first n lanes, each by the rule f on it alone
unfoldable pub map_to : (ℕ → ℕ) → ℕ → List ℕ → List ℕ
map_to f zero r = r
map_to f (suc n) [] = []
map_to f (suc n) (x ∷ r) = f x ∷ map_to f n r

-- what stands beside: the rule of a copy
abbrev pub beside : ℕ → ℕ → ℕ
beside a b = b

-- each result that post allows is f's
abbrev pub Computes : (ℕ → ℕ → ℕ → Type 0) → (ℕ → ℕ → ℕ) → Type 0
Computes post f = (a b r : ℕ) → post a b r → r ≡ f a b

-- the same of a rule on a lane alone
abbrev pub ComputesAlone : (ℕ → ℕ → Type 0) → (ℕ → ℕ) → Type 0
ComputesAlone post f = (a r : ℕ) → post a r → r ≡ f a
