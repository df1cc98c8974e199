-- A step around its op: what the op asks, and what the step leaves by the op's answer. Assumes nothing.
use mathlib.Core.Path.{◌≡◌, refl}
use mathlib.Core.Bool.{false}
use mathlib.Core.List.{List}
use Prim.Native.Nat.{ℕ, ◌+◌}
use lib.Dec.{ltb}
use lib.ListN.{get_or}
use borrow.Author.Tests.{ne_eqb}
use Rattle.basics.specs.Pick.{pick}
use Rattle.partners.specs.Columns.{Stored}
use Rattle.partners.proofs.Stored.{partner_at_lem}
use Rattle.machine_numbers.specs.declared.numbers.Numbers.{Numbers}
use Rattle.machine_numbers.specs.Numbers.{at_position, OpAnswer, left, stepped}
use Rattle.machine_step.specs.Held.{Held, after, Code}
use Rattle.machine_step.specs.Payloads.{PayloadsInBytes}
use Rattle.machine_step.specs.CanStep.{CanStep, CanOp}
use Rattle.machine_step.specs.Step.{op_of, step_of}

pub can_op : {x : Code} {c : Held} → CanStep x.rows c → PayloadsInBytes x → Stored x.rows x.partners x.turns x.marks
    → CanOp (get_or x.rows c.numbers.position 0) (get_or x.counts c.numbers.position 0) (get_or x.payloads c.numbers.position 0) x c
can_op {x} {c} s p t =
    let h = s.steers.here in
    let e = partner_at_lem x.rows x.partners t.partners c.numbers.position h in
    record {
      step = s;
      payload = p.each c.numbers.position h;
      steers = record { here = h; few_ops = s.steers.few_ops; row = refl; held = e.0; partner = e.1 };
      turns = t.turns;
      marks = t.marks;
    }

-- what the step leaves is what its op leaves
pub stepped_as : (x : Code) (input : List ℕ) (c : Held) {k n a : ℕ} → k ≡ get_or x.rows c.numbers.position 0
    → n ≡ get_or x.counts c.numbers.position 0 → a ≡ get_or x.payloads c.numbers.position 0
    → ltb c.numbers.lanes (get_or x.needs c.numbers.position 0) ≡ false
    → {z y : OpAnswer} {cs rs g t ts ch out : List ℕ} → y ≡ z → after y cs rs g t ts ch out ≡ op_of k n a x.rows x.bytes input c
    → after z cs rs g t ts ch out ≡ step_of x input c
unfolding step_of pick
stepped_as x input c ek en ea d e w = rw (← e, d, ← ek, ← en, ← ea) w

-- the four ways of an op that answers r
module _ (r at : ℕ) (q : Numbers) where
  pub went : r ≡ 0 → left r at q ≡ stepped 0 (at_position q (at + 1))
  unfolding left stepped pick
  went e = rw e refl

  pub jumped : r ≡ 1 → left r at q ≡ stepped 0 q
  unfolding left stepped pick
  jumped e = rw e refl

  pub halted : r ≡ 2 → left r at q ≡ stepped 2 (at_position q (at + 1))
  unfolding left stepped pick
  halted e = rw e refl

  pub refused : (r ≡ 0 → ⊥) → (r ≡ 1 → ⊥) → (r ≡ 2 → ⊥) → left r at q ≡ stepped r (at_position q at)
  unfolding left stepped pick
  refused n j h = rw (ne_eqb r 0 n, ne_eqb r 1 j, ne_eqb r 2 h) refl
