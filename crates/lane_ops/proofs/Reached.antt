-- Whether a cell op or a Swap has its cells: what it leaves where it has not, and that its two tests pass where it has. Assumes nothing.
use mathlib.Core.Path.{◌≡◌, refl}
use mathlib.Core.Bool.{false}
use Prim.Native.Nat.{ℕ, ◌+◌, ◌-◌, ◌≤◌}
use lib.Dec.{ltb, eqb}
use borrow.Author.Tests.{eqb-true, eqb-false, ltb-false}
use Rattle.basics.specs.Pick.{pick}
use Rattle.basics.proofs.Tests.{by_case}
use Rattle.machine_numbers.specs.declared.numbers.Numbers.{Numbers}
use Rattle.machine_numbers.specs.Numbers.{OpAnswer, lacking, having, left}
use Rattle.machine_numbers.proofs.Had as had
use Rattle.lane_ops.specs.Lane.{reached_of}

module _ {r : ℕ} (n at l m : ℕ) (is : r ≡ reached_of n at l m) where
  pub refused : {A : Type 0} (f : OpAnswer → A) (p : Numbers) (none went : A) → (r ≡ 0 → ⊥)
      → f (left r p.position p)
      ≡ pick (eqb n 0) none (pick (ltb l (at + n)) (f (lacking 22 (l - at) p)) (pick (ltb m (at + n)) (f (lacking 23 (m - at) p)) went))
  unfolding reached_of pick
  refused f p none went h =
      by_case (eqb (having 22 l at n) 0)
      (λ e. let i : r ≡ having 23 m at n = rw e at is in
      rw (had.passed 22 l at n refl refl (eqb-true _ 0 e) (had.asked 23 m at n refl i h)) (had.refused 23 m at n refl i f p none went h))
      (λ e. had.refused 22 l at n refl (rw e at is) f p none _ h)

  module _ (z : r ≡ 0) (some : eqb n 0 ≡ false) where
    pub passed : (ltb l (at + n) ≡ false) × (ltb m (at + n) ≡ false)
    unfolding reached_of pick
    passed =
        by_case (eqb (having 22 l at n) 0)
        (λ e. (had.passed 22 l at n refl refl (eqb-true _ 0 e) some, had.passed 23 m at n refl (rw e at is) z some))
        (λ e. absurd (eqb-false _ 0 e (rw (is, e) at z)))

    pub inside : at + n ≤ m
    inside = ltb-false m (at + n) passed.1
