-- Get, Put, Peek, Poke and FFI Call are the model's, laid. Assumes nothing.
use mathlib.Core.Path.{◌≡◌, ◌∙◌, refl}
use mathlib.Core.Bool.{true}
use mathlib.Core.List.{List, [], ◌∷◌, ◌++◌, append-nil}
use Prim.Native.Nat.{ℕ, zero, suc, ◌+◌, ◌-◌, ◌%◌, ◌≤◌, ◌<◌}
use native.Mathlib.Omega.{arith}
use native.Mathlib.Nat.{add-zero}
use native.Mathlib.Numerals.{add-one}
use lib.Dec.{leb, ltb, eqb, eqb-suc-zero}
use lib.ListN.{length, get_or, take, drop, length-append}
use lib.ListN
use lib.Seq.{get_or-take, length-take-le, take_at, take-set-lt}
use borrow.Author.Tests.{leb-true, leb-false, ltb-false, le-leb, lt-ltb, le-ltb, eqb-true, eqb-false}
use Rattle.basics.proofs.Tests.{by_case}
use Rattle.ops.specs.Syntax.Plain.{get, put, peek, poke, ffi_call}
use Rattle.ops.specs.declared.op.Mode.{Mode}
use Rattle.ops.specs.declared.op.Binding.{Binding}
use Rattle.std.specs.Prelude.{Some, None}
use Rattle.testing_device.specs.Device.{Got, get_of, put_of, ring}
use Rattle.testing_device.specs.Room.{put_in, placed}
use Rattle.testing_device.specs.Channel.{is_ring, poke_in}
use Rattle.testing_device.proofs.Rings.{length_ring, ring_next, ring_drop, ring_poke, ring_same, ring_laid, peek_none, peek_some}
use Rattle.standard_device.specs.Bindings.{inputs, result_of, call_in}
use Rattle.standard_device.proofs.Values.{inputs_few}
use Rattle.machine_model.specs.State.{Given, on, with_outs, with_channel}
use Rattle.machine_model.specs.Step.{act, bar, gotten, write, peek_at, first_after}
use Rattle.machine_model.specs.Step.Outcome.{next}
use Rattle.machine_numbers.specs.Numbers as m
use Rattle.device_ops.specs.Device as d
use Rattle.machine_step.specs.Held.{Held, held, telling}
use Rattle.bridge.specs.View.{view, laid}
use Rattle.bridge.specs.Fits.{Counted}
use Rattle.bridge.proofs.Lists.{laid_set, laid_fill}
use Rattle.bridge.proofs.Over.{over_same, over_num, went, meets}
use Rattle.bridge.proofs.Tape.{lane_went}

module _ (g : Given) (c : Held) (h : Counted c) where
  got_is : 0 < c.numbers.lanes → (x : Got) → telling c (d.in_lanes c.channel c.output (d.gotten c.numbers c.register x)) ≡ laid c (gotten (view c) x)
  got_is w None = refl
  got_is w (Some t) = lane_went g c h t.value c.numbers.length t.at w

  pub get_is : (k : Mode) → 0 < c.numbers.lanes
      → telling c (d.in_lanes c.channel c.output (d.getting_of k c.numbers c.register g.input)) ≡ laid c (act g (get k) (view c))
  unfolding d.getting_of act
  get_is k w = got_is w (get_of k g.input c.numbers.taken)

  -- the output, with values after those that stand there
  put_went : (vs : List ℕ) → c.numbers.written + length vs ≤ length c.output
      → went (held (m.next (m.of_written c.numbers (c.numbers.written + length vs))) c.calls c.refs c.register c.tape c.table c.channel (placed vs c.output c.numbers.written))
      ≡ laid c (next (on (with_outs (view c) ((view c).outs ++ vs))))
  unfolding placed
  put_went vs b =
      let n = c.numbers.written in let l = c.output in let o = over_same c h in
      let e : length (take n l ++ vs) ≡ n + length vs = rw (length-append, length-take-le n l h.written) refl in
      meets c _ _
      (record { calls = o.calls; refs = o.refs; register = o.register; table = o.table; output = laid_fill (take n l ++ vs) l (n + length vs) e b; channel = o.channel; mode = refl })
      (rw (take_at (take n l ++ vs) (drop (n + length vs) l) (n + length vs) e, add-one c.numbers.position) refl)

  -- values put: "all or none"
  values_is : g.room ≡ length c.output → (vs : List ℕ)
      → telling c (d.in_output c.register c.channel (m.one_list (d.putting c.numbers (put_in vs c.output c.numbers.written).answer) (put_in vs c.output c.numbers.written).output)) ≡ laid c (write g (view c) vs)
  unfolding put_in bar
  values_is z [] =
      let n = c.numbers.written in
      rw (length-take-le n c.output h.written, z, add-zero, le-ltb (length c.output) n h.written, append-nil)
      (meets c _ _ (over_num c h _ _ _ _ _ _) (rw (add-one c.numbers.position) refl))
  values_is z (v ∷ vs) =
      let n = c.numbers.written in let k = n + suc (length vs) in
      by_case (leb k (length c.output))
      (λ e. let b = leb-true k (length c.output) e in
      rw (eqb-suc-zero (length vs), e, length-take-le n c.output h.written, z, le-ltb (length c.output) k b) (put_went (v ∷ vs) b))
      (λ e. rw (eqb-suc-zero (length vs), e, length-take-le n c.output h.written, z, lt-ltb (length c.output) k (leb-false k (length c.output) e)) refl)

  pub put_is : (k : Mode) → g.room ≡ length c.output → 0 < c.numbers.lanes
      → telling c (d.in_output c.register c.channel (d.putting_of k c.numbers c.register c.output)) ≡ laid c (act g (put k) (view c))
  unfolding d.putting_of act
  put_is k z w = rw (get_or-take c.numbers.lanes c.register 0 0 w) (values_is z (put_of k (get_or c.register 0 0)))

  -- ---- the channel

  ringed : is_ring c.channel c.numbers.first c.numbers.waiting ≡ true
  ringed = rw (le-leb 256 (length c.channel) h.ringed, lt-ltb c.numbers.first 256 h.first, le-leb c.numbers.waiting 256 h.waiting) refl

  -- the oldest value of a ring, and the rest
  oldest : (l : List ℕ) (f n : ℕ) → f < 256 → 0 < n → ring l f n ≡ get_or l f 0 ∷ ring l ((f + 1) % 256) (n - 1)
  oldest l f zero b k = absurd (omega arith)
  oldest l f (suc n) b k =
      let q : suc n - 1 ≡ n = omega arith in let e : f % 256 ≡ f = omega arith in
      ring_next l f n ∙ rw (q, e) refl

  peek_went : 0 < c.numbers.lanes → 0 < c.numbers.waiting
      → went (held (m.next (m.of_ring c.numbers ((c.numbers.first + 1) % 256) (c.numbers.waiting - 1))) c.calls c.refs (lib.ListN.set c.register 0 (get_or c.channel c.numbers.first 0)) c.tape c.table c.channel c.output)
      ≡ laid c (peek_at (view c) (get_or c.channel c.numbers.first 0 ∷ ring c.channel ((c.numbers.first + 1) % 256) (c.numbers.waiting - 1)))
  peek_went w k =
      let p = c.numbers in let o = over_same c h in let v = get_or c.channel p.first 0 in
      meets c _ _
      (record { calls = o.calls; refs = o.refs; register = laid_set c.register p.lanes 0 v w h.lanes; table = o.table; output = o.output; channel = ring_same c.channel ((p.first + 1) % 256) (p.waiting - 1); mode = refl })
      (rw (take-set-lt p.lanes c.register 0 v w, add-one c.numbers.position) refl)

  no_values : c.numbers.waiting ≡ 0 → record { number = 33; lane = 0; held = c } ≡ laid c (peek_at (view c) (ring c.channel c.numbers.first c.numbers.waiting))
  unfolding ring
  no_values e = rw e refl

  pub peek_is : 0 < c.numbers.lanes → telling c (d.in_lanes c.channel c.output (d.peeking_of c.numbers c.register c.channel)) ≡ laid c (act g peek (view c))
  unfolding d.peeking_of act
  peek_is w =
      let l = c.channel in let f = c.numbers.first in let n = c.numbers.waiting in
      by_case (eqb n 0)
      (λ e. rw (peek_none l f n ringed (eqb-true n 0 e)) (no_values (eqb-true n 0 e)))
      (λ e. let k : 0 < n = omega (arith, eqb-false n 0 e) in
      rw (peek_some l f n ringed k, oldest l f n h.first k) (peek_went w k))

  poke_went : (v : ℕ) → c.numbers.waiting < 256
      → went (held (m.next (m.of_ring c.numbers c.numbers.first (c.numbers.waiting + 1))) c.calls c.refs c.register c.tape c.table (lib.ListN.set c.channel ((c.numbers.first + c.numbers.waiting) % 256) v) c.output)
      ≡ laid c (next (on (with_channel (view c) (view c).first ((view c).channel ++ (v ∷ [])))))
  poke_went v k =
      let o = over_same c h in let l = c.channel in let f = c.numbers.first in let n = c.numbers.waiting in
      meets c _ _
      (record { calls = o.calls; refs = o.refs; register = o.register; table = o.table; output = o.output; channel = rw (add-one n) (ring_laid l f n v k h.ringed); mode = refl })
      (rw (add-one n, ring_poke l f n v k h.ringed, add-one c.numbers.position) refl)

  pub poke_is : 0 < c.numbers.lanes → telling c (d.in_channel c.register c.output (d.poking_of c.numbers c.register c.channel)) ≡ laid c (act g poke (view c))
  unfolding d.poking_of poke_in act bar
  poke_is w =
      let v = get_or c.register 0 0 in let n = c.numbers.waiting in let f = c.numbers.first in
      let l = get_or-take c.numbers.lanes c.register 0 0 w in
      by_case (leb 256 n)
      (λ e. rw (ringed, length_ring c.channel f n, e) refl)
      (λ e. rw (ringed, length_ring c.channel f n, e, l) (poke_went v (leb-false 256 n e)))

  -- the oldest k taken, and a value sent behind the rest
  call_went : (k v : ℕ) → 1 ≤ k → k ≤ c.numbers.waiting
      → went (held (m.next (m.of_ring c.numbers ((c.numbers.first + k) % 256) (c.numbers.waiting - k + 1))) c.calls c.refs c.register c.tape c.table (lib.ListN.set c.channel ((c.numbers.first + c.numbers.waiting) % 256) v) c.output)
      ≡ laid c (next (on (with_channel (view c) (first_after (view c) k) (drop k (view c).channel ++ (v ∷ [])))))
  call_went k v a b =
      let o = over_same c h in let l = c.channel in let f = c.numbers.first in let n = c.numbers.waiting in
      let e : (f + n) % 256 ≡ ((f + k) % 256 + (n - k)) % 256 = omega arith in
      let w : n - k < 256 = let s = h.waiting in omega arith in
      meets c _ _
      (record { calls = o.calls; refs = o.refs; register = o.register; table = o.table; output = o.output; channel = rw (e, add-one (n - k)) (ring_laid l ((f + k) % 256) (n - k) v w h.ringed); mode = refl })
      (rw (e, add-one (n - k), ring_poke l ((f + k) % 256) (n - k) v w h.ringed, ring_drop l f n k b, add-one c.numbers.position) refl)

  pub ffi_call_is : (b : Binding) → telling c (d.in_channel c.register c.output (d.calling_of b c.numbers c.channel)) ≡ laid c (act g (ffi_call b) (view c))
  unfolding d.calling_of call_in act bar
  ffi_call_is b =
      let l = c.channel in let f = c.numbers.first in let n = c.numbers.waiting in
      by_case (ltb n (inputs b))
      (λ e. rw (ringed, length_ring l f n, e) refl)
      (λ e. rw (ringed, length_ring l f n, e) (call_went (inputs b) (result_of b (ring l f n)) (inputs_few b).0 (ltb-false n (inputs b) e)))
