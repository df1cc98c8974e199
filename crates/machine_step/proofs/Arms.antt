-- The arms of a step: what each op asks follows from what the step asks, and what it leaves, by its own contract over any numbers, is what the
-- family of its row says. Assumes nothing.
use mathlib.Core.Path.{◌≡◌, ◌∙◌, refl, ap, sym, subst}
use mathlib.Core.Bool.{Bool, true, false, cond}
use mathlib.Core.List.{List, [], ◌∷◌}
use Prim.Native.Nat.{ℕ, ◌%◌}
use lib.Dec.{eqb}
use borrow.Author.Tests.{eqb-true}
use Rattle.basics.proofs.Tests.{by_case, or_either}
use Rattle.basics.specs.Pick.{pick}
use Rattle.byte_fields.specs.Bytes.{u16_at, u64_at}
use Rattle.lane_loops.proofs.Rest.{Past}
use Rattle.kind_table.specs.Rows as row
use Rattle.kind_table.specs.Columns.{tape_family, cell_family, lane_family}
use Rattle.kind_table.specs.Kinds.{family_of}
use Rattle.ops.specs.Decode.{mode_in, binding_in}
use Rattle.ops.specs.declared.op.Mode.{Mode}
use Rattle.ops.specs.declared.op.Binding.{Binding}
use Rattle.machine_numbers.specs.declared.numbers.Numbers.{Numbers}
use Rattle.machine_numbers.specs.Numbers.{at_position, at_pointer, of_length, of_lanes, of_depth, of_saved, of_functions, of_mode, of_ring, of_taken, of_written, next, answered, left, onward, OpAnswer, OneList, one_list, steered, swapped, taped}
use Rattle.control_ops.specs.Control.{function_of, call_of, ret_of, while_of, if_of, elses_of, ends_of, in_table, control_of}
use Rattle.tape_ops.specs.Tape.{set_of, store_of, load_of, move_of, where_of, deref_of, refer_of, alloc_of, in_register, in_tape, in_refs, tape_of}
use Rattle.lane_ops.specs.Lane.{swap_of, offset_of, LaneDone}
use Rattle.lane_ops.proofs.Rows.{is_lane}
use Rattle.device_ops.specs.Device.{getting_of, putting_of, peeking_of, poking_of, calling_of, in_lanes, in_channel, in_output, device_of}
use Rattle.machine_step.specs.Held.{Held, Code, after, steering, laning, swapping, taping, telling}
use Rattle.machine_step.specs.Step.{op_of}
use Rattle.machine_step.specs.CanStep.{CanOp}
use Rattle.machine_numbers.proofs.Families.{other_family, row_is}

-- the other families have their arms here
abbrev others : ℕ → Bool
others f = cond (is_lane f) false true

abbrev arms : List ℕ
arms = 61 ∷ 60 ∷ 59 ∷ 58 ∷ 57 ∷ 56 ∷ 55 ∷ 54 ∷ 53 ∷ 52 ∷ 42 ∷ 41 ∷ 40 ∷ 39 ∷ 38 ∷ 36 ∷ 16 ∷ 14 ∷ 13 ∷ 12 ∷ 11 ∷ 10 ∷ 9 ∷ 8 ∷ 7 ∷ 6 ∷ 5 ∷ 4 ∷ 3 ∷ 2 ∷ 1 ∷ 0 ∷ []

lane_family_lem : (f : ℕ) → cond (is_lane f) false true ≡ false → is_lane f ≡ true
lane_family_lem f e = by_case (is_lane f) (λ t. t) (λ t. t ∙ sym (rw t at e))

module _ {k n a : ℕ} {x : Code} {c : Held} (h : CanOp k n a x c) where
  pub key : {j : ℕ} → k % 64 ≡ j → k ≡ j
  key e = row_is h.payload.known e

  -- the op that answers r and sets the numbers q, and what it leaves of the lists
  pub sets : k % 64 ≡ row.set → (input : List ℕ) (r m' : ℕ) (g' : List ℕ)
      → ((z : Numbers) → one_list (onward r (of_lanes z m')) g' ≡ set_of n a z c.register x.bytes)
      → after (left r c.numbers.position (of_lanes c.numbers m')) c.calls c.refs g' c.tape c.table c.channel c.output ≡ op_of k n a x.rows x.bytes input c
  unfolding op_of tape_of family_of pick
  sets e input r m' g' w = rw (key e) (ap (λ (y : OneList). taping c (in_register c.refs c.tape y)) (w c.numbers))

  pub sets_floats : k % 64 ≡ row.standard_set → (input : List ℕ) (r m' : ℕ) (g' : List ℕ)
      → ((z : Numbers) → one_list (onward r (of_lanes z m')) g' ≡ set_of n a z c.register x.bytes)
      → after (left r c.numbers.position (of_lanes c.numbers m')) c.calls c.refs g' c.tape c.table c.channel c.output ≡ op_of k n a x.rows x.bytes input c
  unfolding op_of tape_of family_of pick
  sets_floats e input r m' g' w = rw (key e) (ap (λ (y : OneList). taping c (in_register c.refs c.tape y)) (w c.numbers))

  pub stores : k % 64 ≡ row.store → (input : List ℕ) (r l' : ℕ) (t' : List ℕ)
      → ((z : Numbers) → one_list (onward r (of_length (at_pointer z c.numbers.pointer) l')) t' ≡ store_of n (of_length (at_pointer z c.numbers.pointer) c.numbers.length) c.register c.tape)
      → after (left r c.numbers.position (of_length c.numbers l')) c.calls c.refs c.register t' c.table c.channel c.output ≡ op_of k n a x.rows x.bytes input c
  unfolding op_of tape_of family_of pick
  stores e input r l' t' w = rw (key e) (ap (λ (y : OneList). taping c (in_tape c.refs c.register y)) (w c.numbers))

  pub loads : k % 64 ≡ row.load → (input : List ℕ) (r l' m' : ℕ) (g' : List ℕ)
      → ((z : Numbers) → one_list (onward r (of_lanes (of_length (at_pointer z c.numbers.pointer) l') m')) g' ≡ load_of n (of_lanes (of_length (at_pointer z c.numbers.pointer) c.numbers.length) c.numbers.lanes) c.register c.tape)
      → after (left r c.numbers.position (of_lanes (of_length c.numbers l') m')) c.calls c.refs g' c.tape c.table c.channel c.output ≡ op_of k n a x.rows x.bytes input c
  unfolding op_of tape_of family_of pick
  loads e input r l' m' g' w = rw (key e) (ap (λ (y : OneList). taping c (in_register c.refs c.tape y)) (w c.numbers))

  pub moves : k % 64 ≡ row.move → {v : ℕ} → v ≡ u64_at x.bytes a → (input : List ℕ) (r p' : ℕ)
      → ((z : Numbers) → onward r (at_pointer z p') ≡ move_of v (at_pointer z c.numbers.pointer))
      → after (left r c.numbers.position (at_pointer c.numbers p')) c.calls c.refs c.register c.tape c.table c.channel c.output ≡ op_of k n a x.rows x.bytes input c
  unfolding op_of tape_of family_of pick
  moves e u input r p' w = rw (key e, ← u) (ap (λ (y : OpAnswer). taping c (taped y c.refs c.register c.tape)) (w c.numbers))

  pub locates : k % 64 ≡ row.locate → (input : List ℕ) (r : ℕ) (g' : List ℕ)
      → ((z : Numbers) → one_list (onward r (at_pointer z c.numbers.pointer)) g' ≡ where_of (at_pointer z c.numbers.pointer) c.register)
      → after (left r c.numbers.position c.numbers) c.calls c.refs g' c.tape c.table c.channel c.output ≡ op_of k n a x.rows x.bytes input c
  unfolding op_of tape_of family_of pick
  locates e input r g' w = rw (key e) (ap (λ (y : OneList). taping c (in_register c.refs c.tape y)) (w c.numbers))

  pub derefs : k % 64 ≡ row.deref → (input : List ℕ) (r p' l' s' : ℕ) (rs' : List ℕ)
      → ((z : Numbers) → one_list (onward r (of_saved (of_length (at_pointer z p') l') s')) rs' ≡ deref_of (of_saved (of_length (at_pointer z c.numbers.pointer) c.numbers.length) c.numbers.saved) c.refs c.tape)
      → after (left r c.numbers.position (of_saved (of_length (at_pointer c.numbers p') l') s')) c.calls rs' c.register c.tape c.table c.channel c.output ≡ op_of k n a x.rows x.bytes input c
  unfolding op_of tape_of family_of pick
  derefs e input r p' l' s' rs' w = rw (key e) (ap (λ (y : OneList). taping c (in_refs c.register c.tape y)) (w c.numbers))

  pub refers : k % 64 ≡ row.refer → (input : List ℕ) (r p' s' : ℕ)
      → ((z : Numbers) → onward r (of_saved (at_pointer z p') s') ≡ refer_of (of_saved (at_pointer z c.numbers.pointer) c.numbers.saved) c.refs)
      → after (left r c.numbers.position (of_saved (at_pointer c.numbers p') s')) c.calls c.refs c.register c.tape c.table c.channel c.output ≡ op_of k n a x.rows x.bytes input c
  unfolding op_of tape_of family_of pick
  refers e input r p' s' w = rw (key e) (ap (λ (y : OpAnswer). taping c (taped y c.refs c.register c.tape)) (w c.numbers))

  pub allocates : k % 64 ≡ row.alloc → (input : List ℕ) (r l' : ℕ) (g' : List ℕ)
      → ((z : Numbers) → one_list (onward r (of_length z l')) g' ≡ alloc_of (of_length z c.numbers.length) c.register)
      → after (left r c.numbers.position (of_length c.numbers l')) c.calls c.refs g' c.tape c.table c.channel c.output ≡ op_of k n a x.rows x.bytes input c
  unfolding op_of tape_of family_of pick
  allocates e input r l' g' w = rw (key e) (ap (λ (y : OneList). taping c (in_register c.refs c.tape y)) (w c.numbers))

  pub functions : k % 64 ≡ row.function → (input : List ℕ) (r q' f' : ℕ) (ts' : List ℕ)
      → ((z : Numbers) → one_list (left r c.numbers.position (of_functions (at_position z q') f')) ts' ≡ function_of x.rows (of_functions (at_position z c.numbers.position) c.numbers.functions) c.table)
      → after (left r c.numbers.position (of_functions (at_position c.numbers q') f')) c.calls c.refs c.register c.tape ts' c.channel c.output ≡ op_of k n a x.rows x.bytes input c
  unfolding op_of control_of family_of pick
  functions e input r q' f' ts' w = rw (key e) (ap (λ (y : OneList). steering c (in_table c.calls y)) (w c.numbers))

  pub calls : k % 64 ≡ row.call → (input : List ℕ) (r q' d' f' : ℕ) (cs' ts' : List ℕ)
      → ((z : Numbers) → steered (left r c.numbers.position (of_functions (of_depth (at_position (of_mode z c.numbers.mode) q') d') f')) cs' ts' ≡ call_of x.rows (of_functions (of_depth (at_position (of_mode z c.numbers.mode) c.numbers.position) c.numbers.depth) c.numbers.functions) c.calls c.register c.table)
      → after (left r c.numbers.position (of_functions (of_depth (at_position c.numbers q') d') f')) cs' c.refs c.register c.tape ts' c.channel c.output ≡ op_of k n a x.rows x.bytes input c
  unfolding op_of control_of family_of pick
  calls e input r q' d' f' cs' ts' w = rw (key e) (ap (steering c) (w c.numbers))

  pub returns : k % 64 ≡ row.ret → (input : List ℕ) (r q' d' : ℕ)
      → ((z : Numbers) → left r c.numbers.position (of_depth (at_position z q') d') ≡ ret_of (of_depth (at_position z c.numbers.position) c.numbers.depth) c.calls)
      → after (left r c.numbers.position (of_depth (at_position c.numbers q') d')) c.calls c.refs c.register c.tape c.table c.channel c.output ≡ op_of k n a x.rows x.bytes input c
  unfolding op_of control_of family_of pick
  returns e input r q' d' w = rw (key e) (ap (λ (y : OpAnswer). steering c (steered y c.calls c.table)) (w c.numbers))

  pub whiles : k % 64 ≡ row.while → (input : List ℕ) (r q' : ℕ)
      → ((z : Numbers) → left r c.numbers.position (at_position z q') ≡ while_of x.rows (at_position z c.numbers.position) c.register)
      → after (left r c.numbers.position (at_position c.numbers q')) c.calls c.refs c.register c.tape c.table c.channel c.output ≡ op_of k n a x.rows x.bytes input c
  unfolding op_of control_of family_of pick
  whiles e input r q' w = rw (key e) (ap (λ (y : OpAnswer). steering c (steered y c.calls c.table)) (w c.numbers))

  pub ifs : k % 64 ≡ row.if → (input : List ℕ) (r q' : ℕ)
      → ((z : Numbers) → left r c.numbers.position (at_position z q') ≡ if_of x.rows (at_position z c.numbers.position) c.register)
      → after (left r c.numbers.position (at_position c.numbers q')) c.calls c.refs c.register c.tape c.table c.channel c.output ≡ op_of k n a x.rows x.bytes input c
  unfolding op_of control_of family_of pick
  ifs e input r q' w = rw (key e) (ap (λ (y : OpAnswer). steering c (steered y c.calls c.table)) (w c.numbers))

  pub elses : k % 64 ≡ row.else → (input : List ℕ) (r q' : ℕ)
      → ((z : Numbers) → left r c.numbers.position (at_position z q') ≡ elses_of x.rows (at_position z c.numbers.position))
      → after (left r c.numbers.position (at_position c.numbers q')) c.calls c.refs c.register c.tape c.table c.channel c.output ≡ op_of k n a x.rows x.bytes input c
  unfolding op_of control_of family_of pick
  elses e input r q' w = rw (key e) (ap (λ (y : OpAnswer). steering c (steered y c.calls c.table)) (w c.numbers))

  pub ends : k % 64 ≡ row.end → (input : List ℕ) (r q' : ℕ)
      → ((z : Numbers) → left r c.numbers.position (at_position z q') ≡ ends_of x.rows (at_position z c.numbers.position) c.register)
      → after (left r c.numbers.position (at_position c.numbers q')) c.calls c.refs c.register c.tape c.table c.channel c.output ≡ op_of k n a x.rows x.bytes input c
  unfolding op_of control_of family_of pick
  ends e input r q' w = rw (key e) (ap (λ (y : OpAnswer). steering c (steered y c.calls c.table)) (w c.numbers))

  pub gets : k % 64 ≡ row.get → {v : Mode} → v ≡ mode_in (u16_at x.bytes a) → (input : List ℕ) (r e' : ℕ) (g' : List ℕ)
      → ((z : Numbers) → one_list (onward r (of_taken z e')) g' ≡ getting_of v (of_taken z c.numbers.taken) c.register input)
      → after (left r c.numbers.position (of_taken c.numbers e')) c.calls c.refs g' c.tape c.table c.channel c.output ≡ op_of k n a x.rows x.bytes input c
  unfolding op_of device_of family_of pick
  gets e u input r e' g' w = rw (key e, ← u) (ap (λ (y : OneList). telling c (in_lanes c.channel c.output y)) (w c.numbers))

  pub puts : k % 64 ≡ row.put → {v : Mode} → v ≡ mode_in (u16_at x.bytes a) → (input : List ℕ) (r o' : ℕ) (out' : List ℕ)
      → ((z : Numbers) → one_list (onward r (of_written z o')) out' ≡ putting_of v (of_written z c.numbers.written) c.register c.output)
      → after (left r c.numbers.position (of_written c.numbers o')) c.calls c.refs c.register c.tape c.table c.channel out' ≡ op_of k n a x.rows x.bytes input c
  unfolding op_of device_of family_of pick
  puts e u input r o' out' w = rw (key e, ← u) (ap (λ (y : OneList). telling c (in_output c.register c.channel y)) (w c.numbers))

  pub peeks : k % 64 ≡ row.peek → (input : List ℕ) (r i' w' : ℕ) (g' : List ℕ)
      → ((z : Numbers) → one_list (onward r (of_ring z i' w')) g' ≡ peeking_of (of_ring z c.numbers.first c.numbers.waiting) c.register c.channel)
      → after (left r c.numbers.position (of_ring c.numbers i' w')) c.calls c.refs g' c.tape c.table c.channel c.output ≡ op_of k n a x.rows x.bytes input c
  unfolding op_of device_of family_of pick
  peeks e input r i' w' g' w = rw (key e) (ap (λ (y : OneList). telling c (in_lanes c.channel c.output y)) (w c.numbers))

  pub pokes : k % 64 ≡ row.poke → (input : List ℕ) (r w' : ℕ) (ch' : List ℕ)
      → ((z : Numbers) → one_list (onward r (of_ring z c.numbers.first w')) ch' ≡ poking_of (of_ring z c.numbers.first c.numbers.waiting) c.register c.channel)
      → after (left r c.numbers.position (of_ring c.numbers c.numbers.first w')) c.calls c.refs c.register c.tape c.table ch' c.output ≡ op_of k n a x.rows x.bytes input c
  unfolding op_of device_of family_of pick
  pokes e input r w' ch' w = rw (key e) (ap (λ (y : OneList). telling c (in_channel c.register c.output y)) (w c.numbers))

  pub binds : k % 64 ≡ row.standard_call → {v : Binding} → v ≡ binding_in (u16_at x.bytes a) → (input : List ℕ) (r i' w' : ℕ) (ch' : List ℕ)
      → ((z : Numbers) → one_list (onward r (of_ring z i' w')) ch' ≡ calling_of v (of_ring z c.numbers.first c.numbers.waiting) c.channel)
      → after (left r c.numbers.position (of_ring c.numbers i' w')) c.calls c.refs c.register c.tape c.table ch' c.output ≡ op_of k n a x.rows x.bytes input c
  unfolding op_of device_of family_of pick
  binds e u input r i' w' ch' w = rw (key e, ← u) (ap (λ (y : OneList). telling c (in_channel c.register c.output y)) (w c.numbers))

  pub offsets : k % 64 ≡ row.offset → {v : ℕ} → v ≡ u64_at x.bytes a → (input : List ℕ) (r : ℕ) (g' : List ℕ)
      → ((z : Numbers) → one_list (onward r z) g' ≡ offset_of v n z c.register)
      → after (left r c.numbers.position c.numbers) c.calls c.refs g' c.tape c.table c.channel c.output ≡ op_of k n a x.rows x.bytes input c
  unfolding op_of family_of pick
  offsets e u input r g' w = rw (key e, ← u) (ap (laning c) (w c.numbers))

  pub swaps : k % 64 ≡ row.swap → (input : List ℕ) (r : ℕ) (g' t' : List ℕ)
      → ((z : Numbers) → swapped (onward r (of_length (at_pointer z c.numbers.pointer) c.numbers.length)) g' t' ≡ swap_of n (of_length (at_pointer z c.numbers.pointer) c.numbers.length) c.register c.tape)
      → after (left r c.numbers.position c.numbers) c.calls c.refs g' t' c.table c.channel c.output ≡ op_of k n a x.rows x.bytes input c
  unfolding op_of family_of pick
  swaps e input r g' t' w = rw (key e) (ap (swapping c) (w c.numbers))

  -- the rows of the cell ops and of the lane-only ops, which have their arms in `lane_op`
  pub lanes : Past (k % 64) arms → (input : List ℕ) (r : ℕ) (g' : List ℕ) → LaneDone k n c.numbers.pointer c.numbers.length r c.register c.tape g'
      → after (left r c.numbers.position c.numbers) c.calls c.refs g' c.tape c.table c.channel c.output ≡ op_of k n a x.rows x.bytes input c
  unfolding op_of pick
  lanes p input r g' w =
      let z = key refl in
      let o = lane_family_lem (family_of k) (other_family others arms tt k h.payload.known (subst (λ (m : ℕ). Past m arms) (sym z) p)) in
      or_either (eqb (family_of k) cell_family) (eqb (family_of k) lane_family) _ o
      (λ e. let f = eqb-true (family_of k) cell_family e in rw f (ap (laning c) (w.cell f c.numbers)))
      (λ e. let f = eqb-true (family_of k) lane_family e in rw f (ap (laning c) (w.alone f c.numbers)))

  -- and those that do nothing
  pub passes : {j : ℕ} → k % 64 ≡ j → family_of j ≡ tape_family → (input : List ℕ)
      → tape_of j n a c.numbers c.refs c.register c.tape x.bytes ≡ taped (answered 0 (next c.numbers)) c.refs c.register c.tape
      → after (left 0 c.numbers.position c.numbers) c.calls c.refs c.register c.tape c.table c.channel c.output ≡ op_of k n a x.rows x.bytes input c
  unfolding op_of left pick
  passes e fam input w = rw (key e, fam, w) refl
