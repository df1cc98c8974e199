-- From two constructors that are equal (`clash (cc)`), anything follows. Assumes nothing.
use mathlib.Core.Path.{◌≡◌}
use Prim.Native.Nat.{ℕ}
use native.Mathlib.Omega.{arith}

pub clash : {P : Type 0} → ◌≡◌ {A = ℕ} 0 1 → P
clash z = absurd (omega (arith, z))
