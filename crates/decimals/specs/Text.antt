-- A decimal in the input, said without the reading of it: "skip the five space characters, take digits, then optionally a point and digits" (02, ask 10).
-- Assumes nothing.
use Rattle.std.specs.Prelude.{◌≡◌, ℕ, suc, ◌+◌, Bool, true, false, List, [], ◌∷◌, ◌++◌, length}
use Rattle.decimals.specs.Chars.{is_space, is_digit}
use Rattle.decimals.specs.Decimal.{is_point}

-- every value has the property; there is none at the start that has it
abbrev pub All : (ℕ → Bool) → List ℕ → Type 0
All p [] = Unit {0}
All p (v ∷ vs) = (p v ≡ true) × All p vs

abbrev pub Stops : (ℕ → Bool) → List ℕ → Type 0
Stops p [] = Unit {0}
Stops p (v ∷ vs) = p v ≡ false

-- behind the digits: a point and the digits fs, or neither; so many values are taken
pub data Tail : List ℕ → List ℕ → ℕ → Type 0 where
  pointed : (v : ℕ) (fs rest : List ℕ) → is_point v ≡ true → All is_digit fs → Stops is_digit rest → Tail (v ∷ fs ++ rest) fs (suc (length fs))
  bare : (rest : List ℕ) → Stops is_digit rest → Stops is_point rest → Tail rest [] 0

-- the values begin with a decimal that has the digits ds before its point and fs after it; with the spaces before it so many values are taken
pub data Begins : List ℕ → List ℕ → List ℕ → ℕ → Type 0 where
  begins : (ss ds vs fs : List ℕ) (n : ℕ) → All is_space ss → All is_digit ds → Tail vs fs n → Stops is_space (ds ++ vs)
      → Begins (ss ++ (ds ++ vs)) ds fs (length ss + length ds + n)
