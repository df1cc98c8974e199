-- 02, ask 11, on the code: "The counts over ops that are not comments add up to all steps since the fresh state, across resumed runs". Assumes nothing.
use mathlib.Core.Path.{◌≡◌, ◌∙◌, refl, ap, sym, subst}
use mathlib.Core.Bool.{Bool, true, false}
use mathlib.Core.List.{List}
use Prim.Native.Nat.{ℕ, ◌+◌, ◌<◌}
use native.Mathlib.Nat.{add-zero, zero-add}
use native.Mathlib.Omega.{arith}
use lib.Dec.{eqb}
use lib.ListN.{length, get_or, replicate, length-replicate}
use borrow.Author.Tests.{eq-eqb, eqb-true}
use Rattle.basics.proofs.Tests.{by_case, and_left, and_right}
use Rattle.ops.specs.Patch.{patch_of}
use Rattle.machine_model.specs.Passed.{comments}
use Rattle.machine_model.specs.Run as model
use Rattle.machine_model.proofs.Passing.{comment_below}
use Rattle.busy.specs.Sums.{allowed, adds_up}
use Rattle.busy.specs.Tally.{run_counts, worked, AddsUp}
use Rattle.busy.proofs.SumLaws.{adds, adds_told}
use Rattle.busy.proofs.Counted.{zeros_add_up, run_adds_up, all_worked}
use Rattle.bridge.specs.View.{view}
use Rattle.bridge.specs.Decoded.{code_of, patch_in, given_to}
use Rattle.bridge.specs.Run.{row_comment, run_laid}
use Rattle.bridge.specs.Fits.{Fits}
use Rattle.bridge.proofs.Decoded.{Bytes, rows, comments_are}
use Rattle.bridge.proofs.Runs.{run_seen}
use Rattle.states.specs.Formed.{can_start}
use Rattle.states.proofs.WellFormed.{formed_fits}
use Rattle.machine.specs.Fresh.{fresh_of}
use Rattle.machine.specs.Calls.{Slices, Tallied, lent, is_state, can_begin, tally_run, run_call, fresh_on, fresh_call}
use Rattle.machine.proofs.Called.{all_zero}
use Rattle.machine_run.proofs.RunLoop.{row_in}
use Rattle.demands.specs.CameTo.{CameTo}
use Rattle.demands.specs.CameTo.CameTo.{by_fresh, by_run, lent_anew}
use Rattle.demands.proofs.Kept.{run_fits}
use Rattle.demands.proofs.Started.{fresh_fits}

-- ---- what 37 tests of the counts is that they add up, of the ops of the file

module _ (s cs : List ℕ) (total : ℕ) where
  abbrev ks : List ℕ
  ks = (code_of s).rows

  -- a comment has the row of one, and only a comment has
  noted : (i : ℕ) → i < length ks → get_or (comments (patch_in s)) i false ≡ row_comment (get_or ks i 0)
  noted i h = ap (λ (l : List Bool). get_or l i false) (comments_are s) ∙ row_in ks i h

  pub test_says : adds_up ks cs total ≡ true → AddsUp (patch_in s) cs total
  unfolding row_comment
  test_says e =
      let a = adds ks cs total e in
      record {
        each = a.each ∙ sym (rows s).many;
        rest = λ i c. let h : i < length ks = omega (arith, comment_below (patch_in s) i c, (rows s).many) in a.rest i h (eqb-true (get_or ks i 0) 0 (sym (noted i h) ∙ c));
        summed = a.summed;
        within = a.within;
      }

  pub test_told : AddsUp (patch_in s) cs total → adds_up ks cs total ≡ true
  unfolding row_comment
  test_told a =
      adds_told ks cs total
      (record { each = a.each ∙ (rows s).many; within = a.within; summed = a.summed; rest = λ i h z. a.rest i (noted i h ∙ eq-eqb (get_or ks i 0) 0 z) })

-- ---- what runs leave

-- the counts add up to the total, and the total is what was counted; the stacks are whole
record Standing (s : List ℕ) (w : Tallied) (k : ℕ) : Type 0 where
  sums : AddsUp (patch_in s) w.tally w.total
  all : w.total ≡ k
  call_room : length w.held.calls ≡ 256
  ref_room : length w.held.refs ≡ 256

module _ (s input : List ℕ) (y : Bytes s) where
  -- the work of a run
  works : (b : ℕ) (w : Tallied) (k : ℕ) → Fits s input w.held → Standing s w k → let a = tally_run s input b w in Standing s a.left (k + a.steps)
  works b w k f h =
      let c = w.held in
      let g = given_to s input c in
      let n = allowed b w.total in
      let steps : (model.run g n (view c)).steps ≡ (run_laid g n c).steps = sym (ap (λ (a : model.Answer). a.steps) (run_seen s input y n c f)) in
      let counted = (run_fits s input y n c f).counted in
      record {
        sums = subst (λ (j : ℕ). AddsUp (patch_in s) (run_counts g n (view c) w.tally) (w.total + j)) steps (run_adds_up g w.total b (view c) w.tally h.sums);
        all = ap (λ (j : ℕ). j + (run_laid g n c).steps) h.all;
        call_room = counted.call_room;
        ref_room = counted.ref_room;
      }

  idles : (w : Tallied) (k : ℕ) → Standing s w k → Standing s w (k + 0)
  idles w k h = subst (λ (j : ℕ). Standing s w j) (sym (add-zero k)) h

  run_stands : (b : ℕ) (w : Tallied) (k : ℕ) → Standing s w k → let a = run_call s input b w in Standing s a.left (k + a.steps)
  unfolding run_call
  run_stands b w k h =
      by_case (eqb (patch_of s).number 0)
      (λ e. by_case (is_state s input w)
      (λ f. rw (e, f) (works b w k (formed_fits s input w.held h.call_room h.ref_room (and_left _ _ f)) h))
      (λ f. rw (e, f) (idles w k h)))
      (λ e. rw e (idles w k h))

  fresh_stands : (b mode : ℕ) (l : Slices) → eqb (patch_of s).number 0 ≡ true → can_begin s mode l ≡ true → let a = fresh_call s input b mode l in Standing s a.left a.steps
  unfolding fresh_call fresh_of
  fresh_stands b mode l e f =
      let even : length l.tally ≡ length (patch_in s) = eqb-true _ _ (and_right (can_start mode l.register l.table l.channel) _ f) ∙ sym (rows s).many in
      let zeros : (fresh_on mode l).tally ≡ replicate (length (patch_in s)) 0 = all_zero l.tally ∙ ap (λ (n : ℕ). replicate n 0) even in
      let a = tally_run s input b (fresh_on mode l) in
      rw (e, f)
      (subst (λ (j : ℕ). Standing s a.left j) (zero-add a.steps)
      (works b (fresh_on mode l) 0 (fresh_fits mode l (and_left _ _ f) s input y)
      (record {
        sums = rw zeros (zeros_add_up (patch_in s));
        all = refl;
        call_room = length-replicate {A = ℕ} 256 0;
        ref_room = length-replicate {A = ℕ} 256 0;
      })))

came_to : (s : List ℕ) → Bytes s → (w : Tallied) (k : ℕ) → CameTo s w k → Standing s w k
came_to s y _ _ (by_fresh input b mode l e) = fresh_stands s input y b mode l (and_left _ _ e) (and_right (eqb (patch_of s).number 0) _ e)
came_to s y _ _ (by_run w k input b c) = run_stands s input y b w k (came_to s y w k c)
came_to s y _ _ (lent_anew m l n k c e) =
    let h = came_to s y (lent m l) k c in
    record { sums = subst (λ (cs : List ℕ). AddsUp (patch_in s) cs m.total) (sym e) h.sums; all = h.all; call_room = h.call_room; ref_room = h.ref_room }

-- for every answer of a fresh run, and of any number of runs taken up from it: the counts over ops that are no comments add up to the total, and the total is the
-- sum of the steps answered
pub counts_add_up : (s : List ℕ) → Bytes s → (w : Tallied) (k : ℕ) → CameTo s w k → (worked (comments (patch_in s)) w.tally ≡ w.total) × (w.total ≡ k)
counts_add_up s y w k c = let h = came_to s y w k c in (all_worked (patch_in s) w.tally w.total h.sums, h.all)

-- and 37 has nothing against these counts: they are one for each op, comments are at zero, and the total is within 2^53
pub counts_stand : (s : List ℕ) → Bytes s → (w : Tallied) (k : ℕ) → CameTo s w k → adds_up (code_of s).rows w.tally w.total ≡ true
counts_stand s y w k c = test_told s w.tally w.total (came_to s y w k c).sums
