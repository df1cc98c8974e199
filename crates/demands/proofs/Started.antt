-- The fresh machine over what it is lent is the model's fresh state, laid; it fits every patch where its mode is known and there is room. Assumes nothing.
use mathlib.Core.Path.{◌≡◌, ◌∙◌, refl, ap, sym, subst}
use mathlib.Core.Bool.{true}
use mathlib.Core.List.{List}
use Prim.Native.Nat.{ℕ}
use native.Mathlib.Omega.{arith}
use lib.ListN.{length, length-replicate}
use Rattle.byte_fields.specs.Storage.{fill}
use Rattle.testing_device.specs.Device.{fill_ring}
use Rattle.machine_model.specs.State.{fresh}
use Rattle.machine_step.specs.Held.{Held}
use Rattle.bridge.specs.View.{view, lay}
use Rattle.bridge.specs.Fits.{Fits}
use Rattle.bridge.proofs.Decoded.{Bytes}
use Rattle.bridge.proofs.Over.{view_lay}
use Rattle.bridge.proofs.Runs as runs
use Rattle.states.specs.Zeros.{zeroed}
use Rattle.machine.specs.Fresh.{fresh_of}
use Rattle.states.specs.Formed.{can_start}
use Rattle.machine.specs.Calls.{Slices, lent, fresh_on}
use Rattle.machine.proofs.Called.{all_zero}
use Rattle.states.proofs.WellFormed.{starts}

module _ (mode : ℕ) (l : Slices) where
  fresh_laid : (fresh_on mode l).held ≡ lay (fresh (length l.tape)) (lent (fresh_of mode) l).held
  unfolding lay fresh zeroed fill fill_ring fresh_of
  fresh_laid = rw (all_zero l.tape, length-replicate {A = ℕ} 1024 0) refl

  module _ (e : can_start mode l.register l.table l.channel ≡ true) where
    pub fresh_view : view (fresh_on mode l).held ≡ fresh (length l.tape)
    unfolding fresh
    fresh_view = ap view fresh_laid ∙ view_lay (fresh (length l.tape)) (lent (fresh_of mode) l).held (omega arith) (starts _ _ _ _ e).1.ringed

    pub fresh_fits : (s input : List ℕ) → Bytes s → Fits s input (fresh_on mode l).held
    unfolding fresh_of
    fresh_fits s input b =
        let q = starts mode l.register l.table l.channel e in
        let r = q.1 in
        let n = length-replicate {A = ℕ} 256 0 in
        subst (λ (d : Held). Fits s input d) (sym fresh_laid) (runs.fresh_fits s input (length l.tape) (lent (fresh_of mode) l).held r.wide r.tabled r.ringed n n q.0)
