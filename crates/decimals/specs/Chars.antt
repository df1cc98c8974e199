-- Which values of the input are spaces and which are digits, and where they end. Assumes nothing.
use Rattle.std.specs.Prelude.{◌≡◌, ℕ, suc, ◌+◌, ◌%◌, Bool, cond, ◌&&◌, ◌||◌, List, [], ◌∷◌, drop, ◌==◌, nat_le}

-- "Int input skips space, tab, LF, FF, CR, takes values modulo 256"
abbrev pub is_space : ℕ → Bool
is_space v = v % 256 == 32 || v % 256 == 9 || v % 256 == 10 || v % 256 == 12 || v % 256 == 13

abbrev pub is_digit : ℕ → Bool
is_digit v = nat_le 48 (v % 256) && nat_le (v % 256) 57

-- how many values that have the property stand at the start
unfoldable pub leading : (ℕ → Bool) → List ℕ → ℕ
leading p [] = 0
leading p (v ∷ vs) = let r = leading p vs in cond (p v) (suc r) 0

-- the place after the values from place i on that have it
abbrev pub past : (ℕ → Bool) → List ℕ → ℕ → ℕ
past p l i = i + leading p (drop i l)

-- each answer that a call of a test may give is p's
abbrev pub Decides : (ℕ → Bool → Type 0) → (ℕ → Bool) → Type 0
Decides post p = (v : ℕ) (t : Bool) → post v t → t ≡ p v
