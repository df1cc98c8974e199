-- `byte_fields::read::read_values` meets its contract. Assumes nothing.
use Prim.Native.Nat.{◌<◌}
use mathlib.Core.Path.{refl}
use native.Mathlib.Omega.{arith}
use lib.ListN.{length}
use Rattle.byte_fields.specs.Bytes.{values_at}
use Rattle.byte_fields.specs.Storage.{fill}
use Rattle.byte_fields.proofs.ValuesAt.{values_more}
use Rattle.byte_fields.proofs.read.read_values.Goals as goal

pub loop-i-init : goal.loop-i-init
unfolding fill values_at
loop-i-init c = refl

pub loop-i-preserved : goal.loop-i-preserved
loop-i-preserved c =
    let h : c.loop-i.i < length c.args.register.now = omega arith in
    rw (c.u64_at.ensures, c.loop-i.invariant) (values_more _ _ _ _ h)
