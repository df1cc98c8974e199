-- Set, Load, Store, Move, Where, Deref, Refer and Alloc are the model's, laid. Assumes nothing.
use mathlib.Core.Path.{◌≡◌, refl}
use mathlib.Core.List.{List, [], ◌∷◌, ◌++◌}
use Prim.Native.Nat.{ℕ, zero, suc, ◌+◌, ◌-◌, ◌^◌, ◌≤◌, ◌<◌}
use native.Mathlib.Omega.{arith}
use native.Mathlib.Numerals.{add-one}
use lib.Dec.{leb, ltb, eqb, eqb-suc-zero}
use lib.ListN.{length, get_or, take, drop, length-drop}
use lib.ListN
use lib.Seq.{take_at, length-take-le, get_or-take, take-take, take-set-lt}
use borrow.Author.Tests.{lt-ltb, le-ltb, ltb-true, ltb-false, leb-true, leb-false, le-leb, lt-leb, eqb-true, eqb-false}
use Rattle.basics.specs.Pick.{pick}
use Rattle.basics.proofs.Tests.{by_case}
use Rattle.lane_loops.specs.Loops.{zip_to, beside}
use Rattle.byte_fields.specs.Bytes.{values_at}
use Rattle.byte_fields.specs.Storage.{fill}
use Rattle.ops.specs.Syntax.{Sort}
use Rattle.ops.specs.Syntax.Op.{set, load}
use Rattle.ops.specs.Syntax.Plain.{store, move, locate, deref, refer, alloc}
use Rattle.machine_model.specs.State.{Given, on, with_reg, with_tape, with_counted, with_pointer, with_refs, set_lane, with_taken}
use Rattle.machine_model.specs.Step.{exec, act, bar, cover, grown, stored}
use Rattle.machine_model.specs.Step.Outcome.{next}
use Rattle.machine_model.proofs.Stacks.{pushed, refer_popped}
use Rattle.machine_numbers.specs.Numbers as m
use Rattle.machine_numbers.specs.Parts.{copied}
use Rattle.tape_ops.specs.Tape.{reach, set_of, load_of, store_of, move_of, where_of, deref_of, refer_of, stocked, alloc_of, in_register, in_tape, in_refs}
use Rattle.machine_step.specs.Held.{Held, held, taping}
use Rattle.bridge.specs.View.{view, laid}
use Rattle.bridge.specs.Fits.{Counted}
use Rattle.bridge.proofs.Lists.{laid_same, laid_push, laid_set, laid_fill, length_part, length_values, beside_is, copied_is}
use Rattle.bridge.proofs.Over.{over_reg, over_num, over_refs, went, meets}
use Rattle.bridge.proofs.Lanes.{none_stored}

reach_is : (l e : ℕ) → reach l e ≡ cover e l
unfolding reach pick
reach_is l e = by_case (ltb e l) (λ q. rw q refl) (λ q. rw q refl)

stocked_is : (l : ℕ) → stocked l ≡ grown l
unfolding stocked pick
stocked_is l = by_case (eqb l 0) (λ q. rw q refl) (λ q. rw q refl)

module _ (g : Given) (c : Held) (h : Counted c) where
  -- an op that does nothing but go on
  pub next_is : went (held (m.next c.numbers) c.calls c.refs c.register c.tape c.table c.channel c.output) ≡ laid c (next (on (view c)))
  next_is = meets c _ _ (over_num c h _ _ _ _ _ _) (rw (add-one c.numbers.position) refl)

  pub set_is : (k : Sort) (n a : ℕ) (bs : List ℕ) → n ≤ 1024
      → taping c (in_register c.refs c.tape (set_of n a c.numbers c.register bs)) ≡ laid c (exec g (set k (values_at bs a n)) (view c))
  unfolding set_of fill exec
  set_is k n a bs b =
      let e = length_values bs a n in let w = h.wide in
      rw e
      (meets c _ _ (over_reg c h _ _ _ _ _ _ _ _ (laid_fill (values_at bs a n) c.register n e (omega arith)))
      (rw (take_at (values_at bs a n) (drop n c.register) n e, add-one c.numbers.position) refl))

  load_went : (n : ℕ) → n ≤ 1024 → c.numbers.pointer + n ≤ length c.tape
      → went (held (m.next (m.of_lanes (m.of_length c.numbers (reach c.numbers.length (c.numbers.pointer + n))) n)) c.calls c.refs (zip_to beside n c.register (drop c.numbers.pointer c.tape)) c.tape c.table c.channel c.output)
      ≡ laid c (next (on (with_counted (with_reg (view c) (take n (drop c.numbers.pointer c.tape))) (cover (c.numbers.pointer + n) c.numbers.length))))
  load_went n b i =
      let p = c.numbers.pointer in let t = c.tape in let r = c.register in let y = h.wide in
      let q = length_part t p n i in
      let w : zip_to beside n r (drop p t) ≡ take n (drop p t) ++ drop n r = beside_is n r (drop p t) (omega arith) (rw length-drop (omega arith)) in
      meets c _ _ (over_reg c h _ _ _ _ _ _ _ _ (rw w (laid_fill (take n (drop p t)) r n q (omega arith))))
      (rw (w, take_at (take n (drop p t)) (drop n r) n q, reach_is, add-one c.numbers.position) refl)

  pub load_is : (n : ℕ) → n ≤ 1024 → taping c (in_register c.refs c.tape (load_of n c.numbers c.register c.tape)) ≡ laid c (exec g (load n) (view c))
  unfolding load_of pick exec bar
  load_is zero b = meets c _ _ (over_reg c h _ _ _ _ _ _ _ _ (laid_same 0 c.register (omega arith))) (rw (reach_is, add-one c.numbers.position) refl)
  load_is (suc n) b =
      let p = c.numbers.pointer in let t = c.tape in let y = lt-ltb 0 (suc n) (omega arith) in
      by_case (ltb (length t) (p + suc n))
      (λ e. rw (eqb-suc-zero n, e, y) refl)
      (λ e. rw (eqb-suc-zero n, e, y) (load_went (suc n) b (ltb-false (length t) (p + suc n) e)))

  store_went : (n : ℕ) → n ≤ c.numbers.lanes → c.numbers.pointer + n ≤ length c.tape
      → went (held (m.next (m.of_length c.numbers (reach c.numbers.length (c.numbers.pointer + n)))) c.calls c.refs c.register (copied c.tape c.numbers.pointer c.register n) c.table c.channel c.output)
      ≡ laid c (next (on (with_counted (with_tape (view c) (stored (view c) n)) (cover (c.numbers.pointer + n) c.numbers.length))))
  store_went n b i =
      let p = c.numbers.pointer in let t = c.tape in let r = c.register in let z = h.lanes in
      let l : n ≤ length r = omega arith in
      meets c _ _ (over_num c h _ _ _ _ _ _)
      (rw (copied_is t p r n i l, take-take n c.numbers.lanes r b, length-take-le n r l, reach_is, add-one c.numbers.position) refl)

  pub store_is : (n : ℕ) → n ≤ c.numbers.lanes → taping c (in_tape c.refs c.register (store_of n c.numbers c.register c.tape)) ≡ laid c (act g (store n) (view c))
  unfolding store_of pick act bar
  store_is zero b = meets c _ _ (over_num c h _ _ _ _ _ _) (rw (reach_is, none_stored c.numbers.pointer c.tape, add-one c.numbers.position) refl)
  store_is (suc n) b =
      let p = c.numbers.pointer in let t = c.tape in let y = lt-ltb 0 (suc n) (omega arith) in
      by_case (ltb (length t) (p + suc n))
      (λ e. rw (eqb-suc-zero n, e, y) refl)
      (λ e. rw (eqb-suc-zero n, e, y) (store_went (suc n) b (ltb-false (length t) (p + suc n) e)))

  -- the pointer moved
  to_is : (q : ℕ) → went (held (m.next (m.at_pointer c.numbers q)) c.calls c.refs c.register c.tape c.table c.channel c.output) ≡ laid c (next (on (with_pointer (view c) q)))
  to_is q = meets c _ _ (over_num c h _ _ _ _ _ _) (rw (add-one c.numbers.position) refl)

  pub move_is : (v : ℕ) → taping c (m.taped (move_of v c.numbers) c.refs c.register c.tape) ≡ laid c (act g (move v) (view c))
  unfolding move_of pick act bar
  move_is v =
      let p = c.numbers.pointer in
      by_case (ltb v (2 ^ 63))
      (λ e. let m = lt-leb (2 ^ 63) v (ltb-true v (2 ^ 63) e) in
      by_case (leb (p + v) 1_000_000_000)
      (λ f. rw (e, m, f, le-ltb 1_000_000_000 (p + v) (leb-true (p + v) 1_000_000_000 f)) (to_is (p + v)))
      (λ f. rw (e, m, f, lt-ltb 1_000_000_000 (p + v) (leb-false (p + v) 1_000_000_000 f)) refl))
      (λ e. let m = le-leb (2 ^ 63) v (ltb-false v (2 ^ 63) e) in
      by_case (leb (2 ^ 64 - v) p)
      (λ f. rw (e, m, f, le-ltb p (2 ^ 64 - v) (leb-true (2 ^ 64 - v) p f)) (to_is (p - (2 ^ 64 - v))))
      (λ f. rw (e, m, f, lt-ltb p (2 ^ 64 - v) (leb-false (2 ^ 64 - v) p f)) refl))

  -- a value in lane 0, and another length or input place
  pub lane_went : (v len k : ℕ) → 0 < c.numbers.lanes
      → went (held (m.next (m.of_taken (m.of_length c.numbers len) k)) c.calls c.refs (lib.ListN.set c.register 0 v) c.tape c.table c.channel c.output)
      ≡ laid c (next (on (with_taken (with_counted (set_lane (view c) v) len) k)))
  lane_went v len k w =
      meets c _ _ (over_reg c h _ _ _ _ _ _ _ _ (laid_set c.register c.numbers.lanes 0 v w h.lanes))
      (rw (take-set-lt c.numbers.lanes c.register 0 v w, add-one c.numbers.position) refl)

  pub where_is : 0 < c.numbers.lanes → taping c (in_register c.refs c.tape (where_of c.numbers c.register)) ≡ laid c (act g locate (view c))
  unfolding where_of act
  where_is w = lane_went c.numbers.pointer c.numbers.length c.numbers.taken w

  pub alloc_is : 0 < c.numbers.lanes → taping c (in_register c.refs c.tape (alloc_of c.numbers c.register)) ≡ laid c (act g alloc (view c))
  unfolding alloc_of pick act bar
  alloc_is w =
      let v = get_or c.register 0 0 in let l = get_or-take c.numbers.lanes c.register 0 0 w in let u = grown c.numbers.length in
      by_case (leb (2 ^ 63) v)
      (λ e. rw (l, e) refl)
      (λ e. by_case (ltb 2_000_000_000 (u + v))
      (λ f. rw (l, e, stocked_is, f) refl)
      (λ f. rw (l, e, stocked_is, f) (lane_went (u - 1) (u + v) c.numbers.taken w)))

  deref_went : (v : ℕ) → c.numbers.saved < 256
      → went (held (m.next (m.at_pointer (m.of_saved (m.of_length c.numbers (reach c.numbers.length c.numbers.pointer)) (c.numbers.saved + 1)) v)) c.calls (lib.ListN.set c.refs c.numbers.saved c.numbers.pointer) c.register c.tape c.table c.channel c.output)
      ≡ laid c (next (on (with_pointer (with_refs (with_counted (view c) (cover c.numbers.pointer c.numbers.length)) ((view c).refs ++ (c.numbers.pointer ∷ []))) v)))
  deref_went v b =
      let d = c.numbers.saved in let q = h.ref_room in let y : d < length c.refs = omega arith in
      meets c _ _ (over_refs c h _ _ _ _ _ (laid_push c.refs d c.numbers.pointer y))
      (rw (pushed c.refs d c.numbers.pointer y, reach_is, add-one c.numbers.position) refl)

  pub deref_is : taping c (in_refs c.register c.tape (deref_of c.numbers c.refs c.tape)) ≡ laid c (act g deref (view c))
  unfolding deref_of pick act bar
  deref_is =
      let p = c.numbers.pointer in let d = c.numbers.saved in let t = c.tape in let v = get_or t p 0 in
      let q = length-take-le d c.refs (let y = h.saved in let r = h.ref_room in omega arith) in
      by_case (leb 256 d)
      (λ e. rw (q, e) refl)
      (λ e. by_case (leb (length t) p)
      (λ f. rw (q, e, f) refl)
      (λ f. by_case (leb (2 ^ 63) v)
      (λ i. rw (q, e, f, i) refl)
      (λ i. by_case (ltb 1_000_000_000 v)
      (λ j. rw (q, e, f, i, j) refl)
      (λ j. rw (q, e, f, i, j) (deref_went v (leb-false 256 d e))))))

  pub refer_is : taping c (m.taped (refer_of c.numbers c.refs) c.refs c.register c.tape) ≡ laid c (act g refer (view c))
  unfolding refer_of pick act
  refer_is =
      let d = c.numbers.saved in let z = h.saved in let r = h.ref_room in
      by_case (eqb d 0)
      (λ e. rw (e, eqb-true d 0 e) refl)
      (λ e. let q : 0 < d = omega (arith, eqb-false d 0 e) in
      let b : d ≤ length c.refs = omega arith in
      rw (e, refer_popped (view c) c.refs d q b)
      (meets c _ _ (over_refs c h _ _ _ _ _ (laid_same (d - 1) c.refs (omega arith))) (rw (add-one c.numbers.position) refl)))
