-- Alloc's two tests in one: what is left up to the limit is below what is asked for, which no negative number is. Assumes nothing.
use mathlib.Core.Path.{◌≡◌, refl}
use Prim.Native.Nat.{ℕ, ◌+◌, ◌-◌, ◌^◌, ◌≤◌, ◌<◌}
use native.Mathlib.Omega.{arith}
use lib.Dec.{leb, ltb}
use borrow.Author.Tests.{lt-leb, lt-ltb, le-ltb}
use Rattle.basics.specs.Limits.{longest}
use Rattle.basics.specs.Pick.{pick}
use Rattle.basics.proofs.Tests.{by_case}

module _ {A : Type 0} (g v : ℕ) (h : g ≤ longest) (x y : A) where
  pub too_much : longest - g < v → pick (leb (2 ^ 63) v) x (pick (ltb longest (g + v)) x y) ≡ x
  unfolding pick
  too_much l = by_case (leb (2 ^ 63) v) (λ e. rw e refl) (λ e. rw (e, lt-ltb longest (g + v) (omega arith)) refl)

  pub enough : v ≤ longest - g → pick (leb (2 ^ 63) v) x (pick (ltb longest (g + v)) x y) ≡ y
  unfolding pick
  enough l = rw (lt-leb (2 ^ 63) v (omega arith), le-ltb longest (g + v) (omega arith)) refl
