-- `standard_device::root::positive_root` meets its contract. Assumes nothing.
use Prim.Native.Nat.{ℕ, ◌%◌, ◌<◌}
use native.Mathlib.Omega.{arith}
use Rattle.standard_device.proofs.Laws.{one_more, near_bound, positive_is}
use Rattle.standard_device.proofs.root.positive_root.Goals as goal

half : (h : ℕ) → h % 2 < 2
half h = omega arith

pub overflow_add-result : goal.overflow_add-result
overflow_add-result c =
    let r = near_bound _ _ (one_more _ _ c.raised-s.ensures.high (half _)) c.near_root.ensures in
    record { fits = omega (arith, r, c.places_of.ensures) }

pub returns : goal.returns
returns c = positive_is _ _ _ _ _ _ c.digits_of.ensures c.raised-s.ensures c.places_of.ensures c.near_root.ensures
