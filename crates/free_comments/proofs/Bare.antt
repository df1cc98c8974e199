-- A patch and the patch without any of its comments, by leaving out one after the other; and 01's run of that. Assumes nothing.
use Prim.Native.Nat.{ℕ, zero, suc, ◌+◌, ◌≤◌}
use native.Mathlib.Nat.{zero-add, not-suc-le-zero, le_of_suc-le-suc}
use native.Mathlib.Omega.{arith}
use mathlib.Core.Path.{◌≡◌, refl, ap, sym, ◌∙◌, subst, fun_ext}
use mathlib.Core.Bool.{Bool, true, false, cond}
use mathlib.Core.List.{List, [], ◌∷◌, ◌++◌, append_assoc, map-id, map-map}
use lib.ListN.{length, length-append}
use Rattle.basics.proofs.Tests.{by_case}
use Rattle.ops.specs.Syntax.{Op}
use Rattle.machine_model.specs.State.{given, fresh}
use Rattle.machine_model.specs.Passed.{is_comment}
use Rattle.machine_model.specs.Run.{Answer, run}
use Rattle.machine_model.proofs.Passing.{comment_is}
use Rattle.free_comments.specs.Free.{skip, bare, kept, answered, Same, CommentFree, CommentsFree, RunsBare}
use Rattle.free_comments.proofs.Skips.{skip_low, skip_high}
use Rattle.free_comments.proofs.Laws.{NoComments, same_without_comments}
use Rattle.free_comments.proofs.One.{comment_free}

-- ---- places moved twice, and not at all

answered_self : (r : Answer) → answered (λ i. i) r ≡ r
answered_self r = rw (map-id r.state.table, map-id r.state.calls) refl

answered_twice : (f h : ℕ → ℕ) (r : Answer) → answered h (answered f r) ≡ answered (λ i. h (f i)) r
answered_twice f h r = let p = map-map h f r.state.table in let q = map-map h f r.state.calls in cc

same_twice : (x y z : List Op) (f h : ℕ → ℕ) → Same x y f → Same y z h → Same x z (λ i. h (f i))
same_twice x y z f h u w mode input room cells b =
    w mode input room cells b ∙ ap (answered h) (u mode input room cells b) ∙ answered_twice f h (run (given x mode input room) b (fresh cells))

-- ---- one after the other

-- where a place goes: the ops from a on are those of the list, and its comments are left out
abbrev rest : ℕ → List Op → ℕ → ℕ
rest a [] i = i
rest a (o ∷ os) i = cond (is_comment o) (rest a os (skip a i)) (rest (suc a) os i)

rest_low : (os : List Op) (a i : ℕ) → i ≤ a → rest a os i ≡ i
rest_low [] a i h = refl
rest_low (o ∷ os) a i h =
    by_case (is_comment o) (λ c. rw (c, skip_low a i h) (rest_low os a i h)) (λ c. rw c (rest_low os (suc a) i (omega arith)))

rest_is : (os : List Op) (a i j : ℕ) → j ≡ a + i → rest a os j ≡ a + kept os i
rest_is [] a i j e = e
rest_is (o ∷ os) a zero j e = rest_low (o ∷ os) a j (omega arith) ∙ e
rest_is (o ∷ os) a (suc i) zero e = absurd (omega arith)
rest_is (o ∷ os) a (suc i) (suc j) e =
    by_case (is_comment o)
    (λ c. rw (c, skip_high a j (omega arith)) (rest_is os a i j (omega arith)))
    (λ c. rw c (omega (arith, rest_is os (suc a) i (suc j) (omega arith))))

-- a patch whose next op is a comment, and one whose next op is none
leave : (A : List Op) (o : Op) (B B' : List Op) (h : ℕ → ℕ) → is_comment o ≡ true → Same (A ++ B) B' h → Same (A ++ o ∷ B) B' (λ i. h (skip (length A) i))
unfolding CommentFree
leave A o B B' h e w =
    let c = comment_is o e in
    let one : Same (A ++ o ∷ B) (A ++ B) (skip (length A)) = rw c.1 (comment_free A c.0 B) in
    same_twice (A ++ o ∷ B) (A ++ B) B' (skip (length A)) h one w

go_on : (A : List Op) (o : Op) (B B' : List Op) → Same ((A ++ o ∷ []) ++ B) ((A ++ o ∷ []) ++ B') (rest (length (A ++ o ∷ [])) B)
    → Same (A ++ o ∷ B) (A ++ o ∷ B') (rest (suc (length A)) B)
go_on A o B B' w =
    let l : length (A ++ o ∷ []) ≡ suc (length A) = simp length-append (omega arith) in
    rw (append_assoc A (o ∷ []) B, append_assoc A (o ∷ []) B', l) at w

-- of a patch whose next op is a comment or none: the next op left out, or kept
abbrev Next : List Op → Op → List Op → Bool → Type 0
Next A o B b = Same (A ++ o ∷ B) (A ++ cond b (bare B) (o ∷ bare B)) (λ i. cond b (rest (length A) B (skip (length A) i)) (rest (suc (length A)) B i))

strip : (B A : List Op) → Same (A ++ B) (A ++ bare B) (rest (length A) B)
strip [] A = λ mode input room cells budget. sym (answered_self (run (given (A ++ []) mode input room) budget (fresh cells)))
strip (o ∷ B) A =
    by_case (is_comment o)
    (λ c. subst (Next A o B) (sym c) (leave A o B (A ++ bare B) (rest (length A) B) c (strip B A)))
    (λ c. subst (Next A o B) (sym c) (go_on A o B (bare B) (strip B (A ++ o ∷ []))))

-- "the same patch with comments added anywhere"
pub comments_free : CommentsFree
unfolding CommentsFree
comments_free os =
    subst (λ (f : ℕ → ℕ). Same os (bare os) f) (fun_ext (λ i. rest_is os 0 i i (sym (zero-add i)) ∙ zero-add (kept os i))) (strip os [])

-- ---- 01's run

bare_none : (os : List Op) → NoComments (bare os)
bare_none [] = λ i h. absurd (not-suc-le-zero h)
bare_none (o ∷ os) = by (is_comment o) refl (bare_none os)
  where
    by : (b : Bool) → is_comment o ≡ b → NoComments (bare os) → NoComments (cond b (bare os) (o ∷ bare os))
    by true e n i h = n i h
    by false e n zero h = e
    by false e n (suc i) h = n i (le_of_suc-le-suc h)

-- the run of a patch is 01's run of the patch without its comments, with its places moved
pub runs_bare : RunsBare
unfolding RunsBare CommentsFree
runs_bare os mode input room cells budget =
    sym (same_without_comments (given (bare os) mode input room) (bare_none os) budget (fresh cells)) ∙ comments_free os mode input room cells budget
