-- The check, computed in one pass. That its answer is the one that the rules allow is proved in proofs/. Assumes nothing.
use Rattle.std.specs.Prelude.{ℕ, zero, suc, Bool, true, false, cond, List, [], ◌∷◌, ltb, Ok, Err}
use Rattle.ops.specs.Syntax.{Op, Bracket, bracket}
use Rattle.ops.specs.Syntax.Bracket.{up, down, mid, flat}
use Rattle.machine_model.specs.State.{lanes}
use Rattle.patch_check.specs.Rules.{asks, leaves}
use Rattle.answers.specs.Check.{Verdict}
use Rattle.answers.specs.declared.check.CheckError.TheVariants.{NoOpenEnd, NoOpenElse, FewLanes, NeverClosed}

-- an End, and an Else, where no bracket is open
abbrev pub stray_end : Bracket → ℕ → Bool
stray_end up d = false
stray_end mid d = false
stray_end flat d = false
stray_end down zero = true
stray_end down (suc d) = false

abbrev pub stray_else : Bracket → ℕ → Bool
stray_else up d = false
stray_else down d = false
stray_else flat d = false
stray_else mid zero = true
stray_else mid (suc d) = false

-- the open brackets after a mark
abbrev pub depth : Bracket → ℕ → ℕ
depth up d = suc d
depth flat d = d
depth down zero = zero
depth down (suc d) = d
depth mid d = d

-- where the outermost open bracket stands: the last op that was met with no bracket open
abbrev pub outermost : ℕ → ℕ → ℕ → ℕ
outermost zero p f = p
outermost (suc d) p f = f

-- after the last op: 13 where a bracket is open
abbrev pub ended : ℕ → ℕ → ℕ → Verdict
ended zero p f = Ok p
ended (suc d) p f = Err (NeverClosed f)

-- the ops from the place p on, where k lanes are known and d brackets open, the outermost of them at f
unfoldable pub scan : ℕ → ℕ → ℕ → ℕ → List Op → Verdict
scan f p k d [] = ended d p f
scan f p k d (o ∷ os) =
    let r = scan (outermost d p f) (suc p) (leaves o k) (depth (bracket o) d) os in
    cond (stray_end (bracket o) d) (Err (NoOpenEnd p))
    (cond (stray_else (bracket o) d) (Err (NoOpenElse p))
    (cond (ltb k (asks o)) (Err (FewLanes p)) r))

unfoldable pub check : List Op → Verdict
unfolding scan
check os = scan 0 0 lanes 0 os
