-- A patch with one comment and the patch without it make the same steps with the same answers. Assumes nothing.
use Prim.Native.Nat.{ℕ, zero, suc, zero-le}
use mathlib.Core.Path.{◌≡◌, refl, ap, ap₂, sym, ◌∙◌, subst}
use mathlib.Core.Bool.{Bool, true, false, cond}
use mathlib.Core.List.{List, [], ◌∷◌, ◌++◌, map}
use lib.ListN.{length, get_or}
use lib.Seq.{get_or-append_seam}
use Rattle.basics.proofs.Clash.{clash}
use Rattle.basics.proofs.Tests.{by_case, or_first}
use Rattle.ops.specs.Syntax.{Op, is_function}
use Rattle.ops.specs.Syntax.Op.{plain}
use Rattle.ops.specs.Syntax.Plain.{comment}
use Rattle.machine_model.specs.State.{State, Given, given, fresh, go_to}
use Rattle.machine_model.specs.Scan.{op_at}
use Rattle.machine_model.specs.Step.{Outcome, step}
use Rattle.machine_model.specs.Step.Outcome.{finished, refused, next}
use Rattle.machine_model.specs.Formed.{Each}
use Rattle.machine_model.specs.Passed.{is_comment, comments, passed}
use Rattle.machine_model.specs.Run.{Answer, drive, run}
use Rattle.machine_model.proofs.Scans.{Landing}
use Rattle.machine_model.proofs.Outcomes.{next_gives, run_keeps}
use Rattle.machine_model.proofs.Effects.{Places, Effect, step_over, step_does}
use Rattle.machine_model.proofs.Effects.Effect.{turns, acts}
use Rattle.machine_model.proofs.Passing.{from, many_comments, passed_twice, at_work, passed_keeps}
use Rattle.machine_model.proofs.Refused.{run_faithful, run_passed}
use Rattle.free_comments.specs.Free.{skip, gap, placed, answered, Same, CommentFree, Added}
use Rattle.free_comments.proofs.Skips.{skip_low, gap_skip, from_skip}
use Rattle.free_comments.proofs.Steps.{sent, not_mark, not_landing, step_sent}

comments_append : (a b : List Op) → comments (a ++ b) ≡ comments a ++ comments b
comments_append [] b = refl
comments_append (o ∷ a) b = ap (λ (l : List Bool). is_comment o ∷ l) (comments_append a b)

-- ---- what holds of each state that a run comes to: a saved call is the place of a control op, an entry that of a Function mark

abbrev Held : Given → State → Type 0
Held g s = Places g.ops (Landing g.ops) s.calls s.table

module _ (g : Given) where
  effect_held : (s t : State) (o : Op) → Held g s → Effect g (Landing g.ops) s o t → Held g t
  effect_held s _ _ h (turns j ts cs b k) = (k h).1
  effect_held s _ _ h (acts p n r m rs ch i k os l e w z) = h

  step_held : (s t : State) → Held g s → step g s ≡ next t → Held g t
  step_held s t h e = effect_held s t _ h (next_gives (step g s) t (step_does g (Landing g.ops) (λ j l. l) s) e)

  fresh_held : (cells : ℕ) → Held g (fresh cells)
  unfolding fresh
  fresh_held cells = search zero-le

  run_held : (b cells : ℕ) → Held g (run g b (fresh cells)).state
  run_held b cells = (run_keeps (λ n. Unit {0}) (Held g) tt tt g (λ s n l h e. tt) step_held b (fresh cells) (fresh_held cells)).1

-- ---- the two runs

module _ (A : List Op) (bs : List ℕ) (B : List Op) where
  abbrev a : ℕ
  a = length A

  abbrev os : List Op
  os = A ++ plain (comment bs) ∷ B

  abbrev os' : List Op
  os' = A ++ B

  abbrev f : ℕ → ℕ
  f = skip a

  module _ (mode : ℕ) (input : List ℕ) (room : ℕ) where
    abbrev g : Given
    g = given os mode input room

    abbrev g' : Given
    g' = given os' mode input room

    -- a jump or a return may lead to the comment: once it is passed, the two are at the same op
    passed_placed : (s : State) → passed g' (placed f s) ≡ placed f (passed g s)
    unfolding passed
    passed_placed s = ap (go_to (placed f s)) (by s.halted)
      where
        by : (h : Bool) → cond h (f s.at) (from (comments os') (f s.at)) ≡ f (cond h s.at (from (comments os) s.at))
        by true = refl
        by false =
            rw (comments_append A B, comments_append A (plain (comment bs) ∷ B))
            (sym (from_skip a (comments A) (comments B) (many_comments A) s.at))

    -- a machine that has its comments passed, and has not halted, is not at the comment
    elsewhere : (s : State) → passed g s ≡ s → s.halted ≡ false → s.at ≡ a → ⊥
    elsewhere s p h q =
        clash
        (let no : get_or (comments os) a false ≡ false = subst (λ (i : ℕ). get_or (comments os) i false ≡ false) q (at_work g s p h) in
        let yes : get_or (comments os) a false ≡ true
        = rw (comments_append A (plain (comment bs) ∷ B), ← (many_comments A)) (get_or-append_seam (comments A) true (comments B) false) in cc)

    step_free : (s : State) → Held g s → passed g s ≡ s → step g' (placed f s) ≡ sent f (step g s)
    step_free s h p =
        by_case s.halted
        (λ e. step_over g' (placed f s) (or_first _ _ e) ∙ sym (ap (sent f) (step_over g s (or_first _ _ e))))
        (λ e. step_sent A bs B mode input room s h (elsewhere s p e))

    -- what the two give from a state with its comments passed, where o is what its step gives
    abbrev Alike : ℕ → ℕ → State → Outcome → Type 0
    Alike b k s o = drive g' b k (placed f s) (sent f o) ≡ answered f (drive g b k s o)

    -- and so from any state
    starts : (b k : ℕ) (t : State) → Held g t → ((o : Outcome) → Held g (passed g t) → step g (passed g t) ≡ o → Alike b k (passed g t) o)
        → drive g' b k (passed g' (placed f t)) (step g' (passed g' (placed f t))) ≡ answered f (drive g b k (passed g t) (step g (passed g t)))
    starts b k t h alike =
        let w = passed_keeps (Held g) g (step_held g) t h in
        ap (λ (u : State). drive g' b k u (step g' u)) (passed_placed t)
        ∙ ap (drive g' b k (placed f (passed g t))) (step_free (passed g t) w (passed_twice g t))
        ∙ alike (step g (passed g t)) w refl

    drives : (b k : ℕ) (s : State) (o : Outcome) → Held g s → step g s ≡ o → Alike b k s o
    unfolding drive
    drives zero k s finished h e = refl
    drives zero k s (refused n l) h e = refl
    drives zero k s (next t) h e = refl
    drives (suc b) k s finished h e = refl
    drives (suc b) k s (refused n l) h e = refl
    drives (suc b) k s (next t) h e = starts b (suc k) t (step_held g s t h e) (drives b (suc k) (passed g t))

    same_from : (b : ℕ) (s : State) → Held g s → run g' b (placed f s) ≡ answered f (run g b s)
    unfolding run
    same_from b s h = starts b 0 s h (drives b 0 (passed g s))

  fresh_placed : (cells : ℕ) → placed f (fresh cells) ≡ fresh cells
  unfolding fresh
  fresh_placed cells = ap (go_to (fresh cells)) (skip_low a 0 zero-le)

  one_less : Same os os' f
  one_less mode input room cells b =
      ap (run (given os' mode input room) b) (sym (fresh_placed cells)) ∙ same_from mode input room b (fresh cells) (fresh_held (given os mode input room) cells)

  -- ---- the other way

  gap_each : (P : ℕ → Type 0) → ((i : ℕ) → P i → i ≡ a → ⊥) → (xs : List ℕ) → Each P xs → xs ≡ map (gap a) (map f xs)
  gap_each P k [] h = refl
  gap_each P k (x ∷ xs) h = ap₂ (λ (y : ℕ) (ys : List ℕ). y ∷ ys) (sym (gap_skip a x (k x h.0))) (gap_each P k xs h.1)

  -- the run with the comment, told by the run without it
  pub comment_added : (mode : ℕ) (input : List ℕ) (room cells budget : ℕ)
      → Added (length A) (run (given (A ++ B) mode input room) budget (fresh cells)) (run (given (A ++ plain (comment bs) ∷ B) mode input room) budget (fresh cells))
  comment_added mode input room cells b =
      let g = given os mode input room in
      let r = run g b (fresh cells) in
      let h = run_held g b cells in
      let off : r.state.halted ≡ false → r.place ≡ a → ⊥
      = λ z e. elsewhere mode input room r.state (run_passed g b (fresh cells)) z (sym (run_faithful g b (fresh cells)).stands ∙ e) in
      subst (λ (q : Answer). Added a q r) (sym (one_less mode input room cells b))
      (record {
        number = refl;
        lane = refl;
        steps = refl;
        place = λ z. sym (gap_skip a r.place (off z));
        calls = gap_each (Landing os) (not_landing A bs B) r.state.calls h.saved;
        table = gap_each (λ m. is_function (op_at os m) ≡ true) (not_mark A bs B) r.state.table h.marked;
        outs = refl;
        tape = refl;
        counted = refl;
        pointer = refl;
        refs = refl;
        register = refl;
        channel = refl;
        first = refl;
        taken = refl;
        halted = refl;
      })

-- the run without it, told by the run with it
pub comment_free : CommentFree
unfolding CommentFree
comment_free A bs B = one_less A bs B
