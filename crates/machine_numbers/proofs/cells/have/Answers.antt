-- `machine_numbers::cells::have` meets its contract. Assumes nothing.
use mathlib.Core.Path.{◌≡◌, refl}
use Prim.Native.Nat.{ℕ, ◌-◌, ◌≤◌}
use native.Mathlib.Omega.{arith}
use borrow.Author.Tests.{lt-ltb, le-ltb}
use Rattle.basics.specs.Pick.{pick}
use Rattle.machine_numbers.specs.Numbers.{having}
use borrow.Author.Rules.{rules}
use Rattle.machine_numbers.proofs.cells.have.Goals as goal

-- none is asked for, and none is left
no_cells : (m l at n : ℕ) → n ≡ 0 → 0 ≡ having m l at n
unfolding having pick
no_cells m l at n e = rw (e, le-ltb (l - at) 0 (omega arith)) refl

none : (m l at n : ℕ) → l ≤ at → (n ≡ 0 → ⊥) → m ≡ having m l at n
unfolding having pick
none m l at n h z = let e : l - at ≡ 0 = omega arith in rw (e, lt-ltb 0 n (omega arith)) (omega arith)

pub returns-then-n-eq0 : goal.returns-then-n-eq0
unfolding having pick
returns-then-n-eq0 c = no_cells _ _ _ _ c.if-n-eq0.true

pub returns-then-l-at : goal.returns-then-l-at
unfolding having pick
returns-then-l-at c = none _ _ _ _ c.if-l-at.true c.if-n-eq0.false

pub with_lane-requires : goal.with_lane-requires
unfolding having pick
with_lane-requires c = search rules

pub returns-then-lane-n : goal.returns-then-lane-n
unfolding having pick
returns-then-lane-n c = rw (lt-ltb _ _ c.if-lane-n.true) c.with_lane.ensures

pub returns : goal.returns
unfolding having pick
returns c = rw (le-ltb _ _ c.if-lane-n.false) refl
