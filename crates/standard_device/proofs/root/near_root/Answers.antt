-- `standard_device::root::near_root` meets its contract. Assumes nothing.
use Prim.Native.Nat.{ℕ, ◌*◌, ◌^◌, ◌<◌}
use native.Mathlib.Omega.{arith}
use Rattle.standard_device.proofs.Whole.{started, bounded, turned, finished, near_up, near_down}
use Rattle.standard_device.proofs.root.near_root.Goals as goal

small : (m : ℕ) → m < 2 ^ 54 → m * 2 ^ 52 < 4 ^ 53
small m h = omega arith

pub loop-init : goal.loop-init
loop-init c = started _ c.requires

pub turn-s-requires : goal.turn-s-requires
turn-s-requires c = let v = c.loop.invariant in record { q_bound = bounded v; rest_bound = v.small; pair_bound = omega (arith, v.unread) }

pub loop-preserved : goal.loop-preserved
loop-preserved c = turned _ _ _ _ _ _ _ c.loop.invariant (omega arith) c.turn-s.ensures

pub overflow_add-result : goal.overflow_add-result
overflow_add-result c = let h = bounded c.loop.invariant in omega arith

pub returns-then-q-rest : goal.returns-then-q-rest
returns-then-q-rest c =
    let v = c.loop in
    near_up _ _ _ (small _ c.requires) (finished _ _ _ _ _ v.invariant (omega arith)) v.invariant.small (omega arith)

pub returns : goal.returns
returns c =
    let v = c.loop in
    near_down _ _ _ (small _ c.requires) (finished _ _ _ _ _ v.invariant (omega arith)) v.invariant.small (omega arith)
