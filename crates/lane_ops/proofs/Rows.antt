-- The arms of the rows: what an arm's op leaves is what its row's family says, and a row with no arm is of another family. Assumes nothing.
use mathlib.Core.Path.{◌≡◌, ap, subst}
use mathlib.Core.Bool.{Bool, false, ◌||◌}
use mathlib.Core.List.{List, [], ◌∷◌}
use Prim.Native.Nat.{ℕ, ◌%◌, ◌<◌}
use native.Mathlib.Omega.{arith}
use lib.Dec.{eqb}
use borrow.Author.Tests.{eqb-false}
use Rattle.basics.proofs.Tests.{or_left, or_right}
use Rattle.lane_loops.specs.Rows.{cell_row, lane_row}
use Rattle.lane_loops.proofs.Rest.{Past}
use Rattle.kind_table.specs.Columns.{cell_family, lane_family}
use Rattle.kind_table.specs.Kinds.{family_of}
use Rattle.machine_numbers.specs.declared.numbers.Numbers.{Numbers}
use Rattle.machine_numbers.specs.Numbers.{at_pointer, of_length, onward, one_list}
use Rattle.machine_numbers.proofs.Families.{other_family, row_is}
use Rattle.lane_ops.specs.Lane.{cell_of, alone_of, LaneDone}

-- the families whose rows have their arms
abbrev pub is_lane : ℕ → Bool
is_lane f = eqb f cell_family || eqb f lane_family

module _ {k x : ℕ} (h : k < 62) (e : k % 64 ≡ x) (n at l r : ℕ) (g t g' : List ℕ) where
  pub cell_done : family_of x ≡ cell_family
      → ((p : Numbers) → one_list (onward r (of_length (at_pointer p at) l)) g' ≡ cell_of (cell_row x) n (of_length (at_pointer p at) l) g t)
      → LaneDone k n at l r g t g'
  cell_done f w =
      record { cell = λ q p. rw (row_is h e) (w p); alone = λ q. let z = ap family_of (row_is h e) in absurd (omega (arith, z, f, q)) }

  pub alone_done : family_of x ≡ lane_family → ((p : Numbers) → one_list (onward r p) g' ≡ alone_of (lane_row x) n p g) → LaneDone k n at l r g t g'
  alone_done f w =
      record { cell = λ q. let z = ap family_of (row_is h e) in absurd (omega (arith, z, f, q)); alone = λ q p. rw (row_is h e) (w p) }

abbrev arms : List ℕ
arms = 62 ∷ 51 ∷ 50 ∷ 49 ∷ 48 ∷ 47 ∷ 46 ∷ 45 ∷ 44 ∷ 43 ∷ 37 ∷ 35 ∷ 34 ∷ 33 ∷ 32 ∷ 31 ∷ 30 ∷ 29 ∷ 28 ∷ 27 ∷ 26 ∷ 25 ∷ 24 ∷ 23 ∷ 22 ∷ 21 ∷ 20 ∷ 19 ∷ 18 ∷ 17 ∷ 15 ∷ []

-- no row of another family is a cell op's or a lane-only op's
apart : (f : ℕ) → is_lane f ≡ false → (f ≡ cell_family → ⊥) × (f ≡ lane_family → ⊥)
apart f e = (eqb-false f cell_family (or_left (eqb f cell_family) (eqb f lane_family) e), eqb-false f lane_family (or_right (eqb f cell_family) (eqb f lane_family) e))

pub none_done : {k : ℕ} → k < 62 → Past (k % 64) arms → (n at l r : ℕ) (g t g' : List ℕ) → LaneDone k n at l r g t g'
none_done {k} h p n at l r g t g' =
    let z : k % 64 ≡ k = omega (arith, h) in
    let o = apart (family_of k) (other_family is_lane arms tt k h (subst (λ (m : ℕ). Past m arms) z p)) in
    record { cell = λ q. absurd (o.0 q); alone = λ q. absurd (o.1 q) }
