-- The cell ops, Swap and the lane-only ops are the model's, laid. Assumes nothing.
use mathlib.Core.Path.{◌≡◌, refl, sym}
use mathlib.Core.List.{List, [], ◌++◌, append-nil}
use Prim.Native.Nat.{ℕ, zero, suc, ◌+◌, ◌≤◌}
use native.Mathlib.Omega.{arith}
use native.Mathlib.Nat.{add-zero}
use native.Mathlib.Numerals.{add-one}
use lib.Dec.{ltb, eqb-suc-zero}
use lib.ListN.{length, take, drop, length-drop, take-append-drop}
use lib.Seq.{length-take-le, take-take}
use borrow.Author.Tests.{lt-ltb, ltb-false}
use Rattle.basics.specs.Pick.{pick}
use Rattle.basics.proofs.Tests.{by_case}
use Rattle.lanes.specs.Int.{int_add}
use Rattle.lanes.specs.Lane.{cell_rule, lane_rule}
use Rattle.lane_loops.specs.Loops.{zip_to, map_to, beside}
use Rattle.lanes.specs.declared.lane.CellOp.{CellOp}
use Rattle.lanes.specs.declared.lane.LaneOp.{LaneOp}
use Rattle.ops.specs.Syntax.Plain.{cell, lane, swap, offset}
use Rattle.machine_model.specs.State.{Given, on, with_reg, with_tape}
use Rattle.machine_model.specs.Step.{act, bar, cells, stored}
use Rattle.machine_model.specs.Step.Outcome.{next}
use Rattle.lane_loops.proofs.LaneLoops.{length_zip, length-map}
use Rattle.machine_numbers.specs.Numbers as m
use Rattle.machine_numbers.specs.Parts.{copied}
use Rattle.lane_ops.specs.Lane.{cell_of, swap_of, alone_of, offset_of}
use Rattle.machine_step.specs.Held.{Held, held, laning, swapping}
use Rattle.bridge.specs.View.{view, laid}
use Rattle.bridge.specs.Fits.{Counted}
use Rattle.bridge.proofs.Lists.{Laid, laid_by, zip_take, zip_drop, map_take, map_drop, beside_is, copied_is}
use Rattle.bridge.proofs.Over.{over_reg, over_num, went, meets}

-- no lanes over the cells from p on
pub none_stored : (p : ℕ) (t : List ℕ) → (take p t ++ []) ++ drop (p + 0) t ≡ t
none_stored p t = rw (append-nil, add-zero) (take-append-drop p t)

module _ (g : Given) (c : Held) (h : Counted c) where
  zipped : (f : ℕ → ℕ → ℕ) (n : ℕ) (t : List ℕ) → n ≤ c.numbers.lanes → Laid c.numbers.lanes c.register (zip_to f n c.register t)
  zipped f n t b =
      laid_by c.numbers.lanes c.register (zip_to f n c.register t) (rw (length_zip f n c.register t) h.lanes) (sym (zip_drop f c.numbers.lanes n c.register t b))

  cell_went : (f : ℕ → ℕ → ℕ) (n : ℕ) (t : List ℕ) → n ≤ c.numbers.lanes
      → went (held (m.next c.numbers) c.calls c.refs (zip_to f n c.register t) c.tape c.table c.channel c.output)
      ≡ laid c (next (on (with_reg (view c) (zip_to f n (take c.numbers.lanes c.register) t))))
  cell_went f n t b = meets c _ _ (over_reg c h _ _ _ _ _ _ _ _ (zipped f n t b)) (rw (zip_take f c.numbers.lanes n c.register t b, add-one c.numbers.position) refl)

  -- any op of lane and cell: "21, 22, 23; n = 0 touches nothing"
  pub cell_is : (o : CellOp) (n : ℕ) → n ≤ c.numbers.lanes → laning c (cell_of o n c.numbers c.register c.tape) ≡ laid c (act g (cell o n) (view c))
  unfolding cell_of pick act bar zip_to
  cell_is o zero b = meets c _ _ (over_num c h _ _ _ _ _ _) (rw (add-one c.numbers.position) refl)
  cell_is o (suc n) b =
      let p = c.numbers.pointer in let t = c.tape in
      let y = lt-ltb 0 (suc n) (omega arith) in
      by_case (ltb c.numbers.length (p + suc n))
      (λ e. rw (eqb-suc-zero n, e, y) refl)
      (λ e. by_case (ltb (length t) (p + suc n))
      (λ i. rw (eqb-suc-zero n, e, i, y) refl)
      (λ i. rw (eqb-suc-zero n, e, i, y) (cell_went (cell_rule o) (suc n) (drop p t) b)))

  swap_went : (n : ℕ) → n ≤ c.numbers.lanes → c.numbers.pointer + n ≤ length c.tape
      → went (held (m.next c.numbers) c.calls c.refs (zip_to beside n c.register (drop c.numbers.pointer c.tape)) (copied c.tape c.numbers.pointer c.register n) c.table c.channel c.output)
      ≡ laid c (next (on (with_tape (with_reg (view c) (cells (view c) n ++ drop n (view c).reg)) (stored (view c) n))))
  swap_went n b i =
      let p = c.numbers.pointer in let t = c.tape in let r = c.register in let w = c.numbers.lanes in let z = h.lanes in
      let l : n ≤ length r = omega arith in
      let k : n ≤ length (take w r) = rw (length-take-le w r z) b in
      let d : n ≤ length (drop p t) = rw length-drop (omega arith) in
      meets c _ _ (over_reg c h _ _ _ _ _ _ _ _ (zipped beside n (drop p t) b))
      (rw (zip_take beside w n r (drop p t) b, beside_is n (take w r) (drop p t) k d, copied_is t p r n i l, take-take n w r b, length-take-le n r l, add-one c.numbers.position) refl)

  pub swap_is : (n : ℕ) → n ≤ c.numbers.lanes → swapping c (swap_of n c.numbers c.register c.tape) ≡ laid c (act g (swap n) (view c))
  unfolding swap_of pick act bar
  swap_is zero b = meets c _ _ (over_num c h _ _ _ _ _ _) (rw (none_stored c.numbers.pointer c.tape, add-one c.numbers.position) refl)
  swap_is (suc n) b =
      let p = c.numbers.pointer in let t = c.tape in
      let y = lt-ltb 0 (suc n) (omega arith) in
      by_case (ltb c.numbers.length (p + suc n))
      (λ e. rw (eqb-suc-zero n, e, y) refl)
      (λ e. by_case (ltb (length t) (p + suc n))
      (λ i. rw (eqb-suc-zero n, e, i, y) refl)
      (λ i. rw (eqb-suc-zero n, e, i, y) (swap_went (suc n) b (ltb-false (length t) (p + suc n) i))))

  -- a rule on lanes alone
  alone_went : (f : ℕ → ℕ) (n : ℕ) → n ≤ c.numbers.lanes
      → went (held (m.next c.numbers) c.calls c.refs (map_to f n c.register) c.tape c.table c.channel c.output)
      ≡ laid c (next (on (with_reg (view c) (map_to f n (view c).reg))))
  alone_went f n b =
      let r = c.register in let w = c.numbers.lanes in
      let l : Laid w r (map_to f n r) = laid_by w r (map_to f n r) (rw (length-map f n r) h.lanes) (sym (map_drop f w n r b)) in
      meets c _ _ (over_reg c h _ _ _ _ _ _ _ _ l) (rw (map_take f w n r b, add-one c.numbers.position) refl)

  pub alone_is : (o : LaneOp) (n : ℕ) → n ≤ c.numbers.lanes → laning c (alone_of o n c.numbers c.register) ≡ laid c (act g (lane o n) (view c))
  unfolding alone_of act
  alone_is o n b = alone_went (lane_rule o) n b

  pub offset_is : (v n : ℕ) → n ≤ c.numbers.lanes → laning c (offset_of v n c.numbers c.register) ≡ laid c (act g (offset v n) (view c))
  unfolding offset_of act
  offset_is v n b = alone_went (λ a. int_add a v) n b
