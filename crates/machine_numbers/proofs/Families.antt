-- What a match says of a row that it has no arm for: where the rows of some families have their arms, the row is of another family. Assumes nothing.
use mathlib.Core.Path.{◌≡◌, refl}
use mathlib.Core.Bool.{Bool, true, false, ◌||◌, cond}
use mathlib.Core.List.{List, [], ◌∷◌}
use Prim.Native.Nat.{ℕ, ◌%◌, ◌<◌}
use native.Mathlib.Omega.{arith}
use lib.Dec.{T, eqb}
use borrow.Author.Tests.{ne_eqb}
use Rattle.basics.proofs.Tables.{every, at}
use Rattle.lane_loops.proofs.Rest.{Past}
use Rattle.kind_table.specs.Columns.{tape_family}
use Rattle.kind_table.specs.Kinds.{families, family_of}

abbrev pub among : ℕ → List ℕ → Bool
among k [] = false
among k (x ∷ xs) = eqb k x || among k xs

not_among : (k : ℕ) (xs : List ℕ) → Past k xs → among k xs ≡ false
not_among k [] p = refl
not_among k (x ∷ xs) p = rw (ne_eqb k x p.1, not_among k xs p.0) refl

-- row i, of family f, is among the arms xs if its family has arms
abbrev pub named : (ℕ → Bool) → List ℕ → ℕ → ℕ → Bool
named arms xs i f = cond (arms f) (among i xs) true

unnamed : (b c : Bool) → c ≡ false → T (cond b c true) → b ≡ false
unnamed true true e t = e
unnamed true false e t = absurd t
unnamed false c e t = refl

pub other_family : (arms : ℕ → Bool) (xs : List ℕ) → T (every (named arms xs) tape_family 0 families) → (k : ℕ) → k < 62 → Past k xs → arms (family_of k) ≡ false
unfolding family_of
other_family arms xs t k h p = unnamed (arms (family_of k)) (among k xs) (not_among k xs p) (at (named arms xs) tape_family families t k h)

-- a row is what is left of it below 64
pub row_is : {k j : ℕ} → k < 62 → k % 64 ≡ j → k ≡ j
row_is h e = omega (arith, h, e)
