-- `byte_fields::write::copy_bytes` meets its contract. Assumes nothing.
use Prim.Native.Nat.{◌+◌, ◌<◌}
use mathlib.Core.Path.{◌≡◌, ◌∙◌, refl}
use native.Mathlib.Omega.{arith}
use lib.ListN.{length, length-set}
use Rattle.byte_fields.specs.Bytes.{text_at}
use Rattle.byte_fields.proofs.Storage.{placed_none}
use Rattle.byte_fields.proofs.TextAt.{text_more}
use Rattle.byte_fields.proofs.write.copy_bytes.Goals as goal

pub loop-i-init : goal.loop-i-init
unfolding text_at
loop-i-init c = (placed_none _ _, refl)

pub loop-i-preserved : goal.loop-i-preserved
loop-i-preserved c =
    let a = c.args in
    let i = c.loop-i.i in
    let h : a.at + i < length a.out.now = omega arith in
    let k : a.from + i < length a.bytes.now = omega arith in (
      rw c.loop-i.invariant.0 (text_more _ _ _ _ _ h k),
      simp length-set c.loop-i.invariant.1,
    )

pub returns : goal.returns
returns c = let e : c.loop-i.i ≡ c.args.n = omega arith in c.loop-i.invariant.0 ∙ rw e refl
