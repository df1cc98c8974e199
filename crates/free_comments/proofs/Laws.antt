-- A patch of comments alone finishes without a step, and a patch without comments runs as 01 has it. Assumes nothing.
use Prim.Native.Nat.{ℕ, zero, suc, ◌+◌, ◌<◌}
use native.Mathlib.Nat.{le_refl}
use native.Mathlib.Omega.{arith}
use borrow.Author.Tests.{le-leb}
use mathlib.Core.Path.{◌≡◌, refl, ap, ◌∙◌}
use mathlib.Core.Bool.{true, false}
use mathlib.Core.List.{List, [], ◌∷◌}
use lib.ListN.{length, get_or}
use Rattle.basics.proofs.Tests.{by_case, or_second}
use Rattle.ops.specs.Syntax.{Op}
use Rattle.machine_model.specs.State.{State, Given, given, fresh, go_to}
use Rattle.machine_model.specs.Scan.{op_at}
use Rattle.machine_model.specs.Step.{Outcome, step}
use Rattle.machine_model.specs.Step.Outcome.{finished, refused, next}
use Rattle.machine_model.specs.Passed.{is_comment, comments, past, passed}
use Rattle.machine_model.specs.Run.{answer, drive, run}
use Rattle.machine_model.proofs.Passing.{past_here, halted_passes_none, passed_at}
use Rattle.machine_model.proofs.Effects.{Over, step_over}
use Rattle.free_comments.specs.Counting.{drive_counting, run_counting}

-- each op of the patch is a comment, and none is
abbrev pub AllComments : List Op → Type 0
AllComments os = (i : ℕ) → i < length os → is_comment (op_at os i) ≡ true

abbrev pub NoComments : List Op → Type 0
NoComments os = (i : ℕ) → i < length os → is_comment (op_at os i) ≡ false

-- ---- comments alone

drive_over : (g : Given) (b k : ℕ) (s : State) → drive g b k s finished ≡ answer 0 0 k s
unfolding drive
drive_over g zero k s = refl
drive_over g (suc b) k s = refl

all_past : (p : ℕ) (os : List Op) → AllComments os → past p (comments os) ≡ p + length os
unfolding past
all_past p [] a = omega arith
all_past p (o ∷ os) a = rw (a 0 (omega arith)) (omega (arith, all_past (suc p) os (λ i h. a (suc i) (omega arith))))

-- "a patch of comments finishes on budget 0", and on any other: no step is made, and it stands at its end
pub only_comments : (os : List Op) → AllComments os → (mode : ℕ) (input : List ℕ) (room cells budget : ℕ)
    → run (given os mode input room) budget (fresh cells) ≡ answer 0 0 0 (go_to (fresh cells) (length os))
unfolding run fresh
only_comments os a mode input room cells budget =
    let g = given os mode input room in
    let t = go_to (fresh cells) (length os) in
    let at_end : Over g t = or_second t.halted _ (le-leb (length os) (length os) (le_refl (length os))) in
    ap (λ (s : State). drive g budget 0 s (step g s)) (passed_at g (fresh cells) refl ∙ ap (go_to (fresh cells)) (all_past 0 os a ∙ omega arith))
    ∙ ap (drive g budget 0 t) (step_over g t at_end) ∙ drive_over g budget 0 t

-- ---- no comments

none_there : (os : List Op) → NoComments os → (i : ℕ) → get_or (comments os) i false ≡ false
none_there [] n i = refl
none_there (o ∷ os) n zero = n 0 (omega arith)
none_there (o ∷ os) n (suc i) = none_there os (λ j h. n (suc j) (omega arith)) i

module _ (g : Given) (n : NoComments g.ops) where
  none_passed : (s : State) → passed g s ≡ s
  none_passed s =
      by_case s.halted (halted_passes_none g s)
      (λ h. passed_at g s h ∙ ap (go_to s) (past_here s.at s.at (comments g.ops) (none_there g.ops n s.at)))

  drive_same : (b k : ℕ) (s : State) (o : Outcome) → drive g b k s o ≡ drive_counting g b k s o
  unfolding drive drive_counting
  drive_same zero k s finished = refl
  drive_same zero k s (refused m l) = refl
  drive_same zero k s (next t) = refl
  drive_same (suc b) k s finished = refl
  drive_same (suc b) k s (refused m l) = refl
  drive_same (suc b) k s (next t) = ap (λ (u : State). drive g b (suc k) u (step g u)) (none_passed t) ∙ drive_same b (suc k) t (step g t)

  -- its run is 01's
  pub same_without_comments : (b : ℕ) (s : State) → run g b s ≡ run_counting g b s
  unfolding run run_counting
  same_without_comments b s = ap (λ (u : State). drive g b 0 u (step g u)) (none_passed s) ∙ drive_same b 0 s (step g s)
