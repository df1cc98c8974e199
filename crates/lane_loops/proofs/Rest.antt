-- The rows that no arm names: each is the last op of its kind. Assumes nothing.
use mathlib.Core.Path.{◌≡◌}
use mathlib.Core.List.{List, [], ◌∷◌}
use Prim.Native.Nat.{ℕ}

-- k is none of these, as a match says it of its last arm: the last of the other arms comes first
abbrev pub Past : ℕ → List ℕ → Type 0
Past k [] = Unit {0}
Past k (x ∷ xs) = Past k xs × (k ≡ x → ⊥)
