-- `states::formed::table_names` meets its contract. Assumes nothing.
use mathlib.Core.Path.{◌∙◌, refl, sym}
use Prim.Native.Nat.{◌<◌}
use native.Mathlib.Omega.{arith}
use lib.ListN.{length}
use native.Mathlib.Nat.{sub-zero}
use Rattle.states.specs.Formed.{table_names}
use Rattle.states.proofs.Entries.{names_end, names_low, names_beyond, names_not, names_on}
use Rattle.states.proofs.formed.table_names.Goals as goal
use Rattle.states.proofs.formed.table_names.Goals.{then-place-least-via-then-place-least, then-place-least-via-else-place-least+then-rows-place, then-place-least-via-else-place-least+else-rows-place+then-rows-place-ne-FUNCTION}

pub loop-i-init : goal.loop-i-init
unfolding table_names
loop-i-init c = rw sub-zero refl

pub returns-then-place-least : goal.returns-then-place-least
returns-then-place-least c =
    let t = c.loop-i-test.true in
    let is = c.from-place.ensures in
    let wide : c.loop-i.i < length c.args.table.now = omega arith in
    elim c.then-place-least.branch [
      | then-place-least-via-then-place-least w ↦ sym (c.loop-i.invariant ∙ names_low _ _ _ _ _ _ t wide is w.if-place-least.true)
      | then-place-least-via-else-place-least+then-rows-place w ↦
          sym (c.loop-i.invariant ∙ names_beyond _ _ _ _ _ _ t wide is w.if-place-least.false w.if-rows-place.true)
      | then-place-least-via-else-place-least+else-rows-place+then-rows-place-ne-FUNCTION w ↦
          sym (c.loop-i.invariant ∙ names_not _ _ _ _ _ _ t wide is w.if-place-least.false w.if-rows-place-ne-FUNCTION.true)
    ]

pub loop-i-preserved : goal.loop-i-preserved
loop-i-preserved c =
    c.loop-i.invariant ∙ names_on _ _ _ _ _ _ c.loop-i-test.true (omega arith) c.from-place.ensures c.if-place-least.false c.if-rows-place-ne-FUNCTION.false

pub returns : goal.returns
returns c = sym (c.loop-i.invariant ∙ names_end _ _ _ _ _ c.loop-i-test.false)
