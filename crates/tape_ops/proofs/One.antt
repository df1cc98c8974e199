-- One value of a Set: the register with it in lane 0. Assumes nothing.
use mathlib.Core.Path.{◌≡◌, refl, sym}
use mathlib.Core.List.{List, []}
use Prim.Native.Nat.{ℕ, ◌≤◌}
use native.Mathlib.Omega.{arith}
use lib.ListN.{length, set}
use Rattle.basics.specs.Limits.{lanes}
use Rattle.byte_fields.specs.Bytes.{u64_at, values_at}
use Rattle.byte_fields.specs.Storage.{fill}
use Rattle.byte_fields.proofs.Storage.{fill_snoc}

pub set_one : (s g : List ℕ) (a : ℕ) → lanes ≤ length g → fill (values_at s a 1) g ≡ set g 0 (u64_at s a)
unfolding values_at fill
set_one s g a h = sym (fill_snoc [] g (u64_at s a) 0 refl (omega arith))
