-- Laws of the push: the second call where a move gives way is the push itself, and what weighs no more than the ops it stands for
-- never weighs more in the end. Assumes nothing.
use mathlib.Core.Path.{◌≡◌, refl, ap, ◌∙◌}
use Prim.Native.Nat.{ℕ, ◌+◌, ◌≤◌}
use native.Mathlib.Omega.{arith}
use mathlib.Core.Bool.{Bool, true, false, cond}
use mathlib.Core.List.{List, [], ◌∷◌, ◌++◌, reverse, reverse-cons}
use lib.Dec.{eqb}
use borrow.Author.Tests.{eqb-true}
use Rattle.basics.proofs.Tests.{and_left, and_right}
use Rattle.ops.specs.Syntax.{Op, kind_of}
use Rattle.ops.specs.Syntax.Plain.{move}
use Rattle.ops.specs.Syntax.Op.{plain}
use Rattle.ops.specs.Write.{Each}
use Rattle.file_laws.proofs.Fitting.{each_append}
use Rattle.joining.specs.Join.{Rule, both, alike, decided, tested, total, rule, moved, react, op, pushes, join}
use Rattle.joining.specs.Join.Rule.{push, skip, pop, again, under, sum}

-- ---- a move

-- a move is pushed by `moved`
pub op_move : (st : List Op) (new : Op) → kind_of new ≡ 11 → op st new ≡ moved st new
unfolding op rule moved
op_move [] new e = refl
op_move (last ∷ st) new e = rw e (by (eqb (kind_of last) 11) (eqb (total last new) 0))
  where
    by : (t z : Bool) → react (cond t (cond z pop (sum (total last new))) push) last st new (op st)
        ≡ cond t (cond z st (plain (move (total last new)) ∷ st)) (new ∷ last ∷ st)
    by true true = refl
    by true false = refl
    by false z = refl

-- ---- which rules there are

-- what a rule says of the last op and the new one
pub data Ruled (last new : Op) : Rule → Type 0 where
  pushed : Ruled last new push
  skipped : Ruled last new skip
  popped : Ruled last new pop
  renewed : Ruled last new (again new)
  tried : decided last new ≡ true → Ruled last new (again (tested last))
  swapped : kind_of last ≡ 11 → Ruled last new under
  summed : kind_of last ≡ 11 → kind_of new ≡ 11 → Ruled last new (sum (total last new))

pick : (last new : Op) (t : Bool) (a b : Rule) → (t ≡ true → Ruled last new a) → Ruled last new b → Ruled last new (cond t a b)
pick last new true a b f g = f refl
pick last new false a b f g = g

pub ruled : (last new : Op) → Ruled last new (rule last new)
unfolding rule
ruled last new =
    pick last new (both 11 11 last new) _ _ moves
    (pick last new (both 1 1 last new) _ _ (λ e. renewed)
    (pick last new (both 13 14 last new) _ _ (λ e. popped)
    (pick last new (both 7 8 last new) _ _ (λ e. renewed)
    (pick last new (both 11 14 last new) _ _ (λ e. renewed)
    (pick last new (both 11 1 last new) _ _ (λ e. swapped (eqb-true (kind_of last) 11 (and_right _ _ e)))
    (pick last new (both 11 16 last new) _ _ (λ e. swapped (eqb-true (kind_of last) 11 (and_right _ _ e)))
    (pick last new (alike 9 9 last new) _ _ (λ e. skipped)
    (pick last new (alike 10 10 last new) _ _ (λ e. skipped)
    (pick last new (alike 9 10 last new) _ _ (λ e. skipped)
    (pick last new (alike 10 9 last new) _ _ (λ e. skipped)
    (pick last new (decided last new) _ _ (λ e. tried e)
    pushed)))))))))))
  where
    moves : both 11 11 last new ≡ true → Ruled last new (cond (eqb (total last new) 0) pop (sum (total last new)))
    moves e =
        let f = eqb-true (kind_of last) 11 (and_right (eqb (kind_of new) 11) (eqb (kind_of last) 11) e) in
        let g = eqb-true (kind_of new) 11 (and_left (eqb (kind_of new) 11) (eqb (kind_of last) 11) e) in
        pick last new (eqb (total last new) 0) _ _ (λ z. popped) (summed f g)

-- ---- weights

-- the weight of a list
abbrev pub weigh : (Op → ℕ) → List Op → ℕ
weigh m [] = 0
weigh m (o ∷ os) = m o + weigh m os

pub weigh_append : (m : Op → ℕ) (a b : List Op) → weigh m (a ++ b) ≡ weigh m a + weigh m b
weigh_append m [] b = omega arith
weigh_append m (o ∷ a) b = omega (arith, weigh_append m a b)

pub weigh_reverse : (m : Op → ℕ) (os : List Op) → weigh m (reverse os) ≡ weigh m os
weigh_reverse m [] = refl
weigh_reverse m (o ∷ os) =
    ap (weigh m) (reverse-cons o os) ∙ omega (arith, weigh_append m (reverse os) (o ∷ []), weigh_reverse m os)

-- a test joined to its set, and two moves joined, weigh no more than the two
module _ (m : Op → ℕ)
    (set_light : (last new : Op) → decided last new ≡ true → m (tested last) ≤ m last + m new)
    (move_light : (last new : Op) (n : ℕ) → kind_of last ≡ 11 → m (plain (move n)) ≤ m last + m new) where
  moved_light : (st : List Op) (new : Op) → weigh m (moved st new) ≤ weigh m st + m new
  unfolding moved
  moved_light [] new = omega arith
  moved_light (last ∷ st) new = by (eqb (kind_of last) 11) (eqb (total last new) 0) refl
    where
      by : (t z : Bool) → eqb (kind_of last) 11 ≡ t
          → weigh m (cond t (cond z st (plain (move (total last new)) ∷ st)) (new ∷ last ∷ st)) ≤ m last + weigh m st + m new
      by true true e = omega arith
      by true false e = omega (arith, move_light last new (total last new) (eqb-true (kind_of last) 11 e))
      by false z e = omega arith

  pub op_light : (st : List Op) (new : Op) → weigh m (op st new) ≤ weigh m st + m new
  unfolding op
  op_light [] new = omega arith
  op_light (last ∷ st) new = by (op_light st) (rule last new) (ruled last new)
    where
      by : ((o : Op) → weigh m (op st o) ≤ weigh m st + m o) → (r : Rule) → Ruled last new r
          → weigh m (react r last st new (op st)) ≤ m last + weigh m st + m new
      by less r pushed = omega arith
      by less r skipped = omega arith
      by less r popped = omega arith
      by less r renewed = omega (arith, less new)
      by less r (tried e) = omega (arith, less (tested last), set_light last new e)
      by less r (swapped e) = omega (arith, less new, moved_light (op st new) last)
      by less r (summed e f) = omega (arith, move_light last new (total last new) e)

  pushes_light : (os st : List Op) → weigh m (pushes st os) ≤ weigh m st + weigh m os
  unfolding pushes
  pushes_light [] st = omega arith
  pushes_light (o ∷ os) st = omega (arith, pushes_light os (op st o), op_light st o)

  -- a patch joined weighs no more
  pub join_light : (os : List Op) → weigh m (join os) ≤ weigh m os
  unfolding join
  join_light os = omega (arith, weigh_reverse m (pushes [] os), pushes_light os [])

-- ---- properties

each_reverse : (P : Op → Type 0) (os : List Op) → Each P os → Each P (reverse os)
each_reverse P [] e = tt
each_reverse P (o ∷ os) e = rw (reverse-cons o os) (each_append P (reverse os) (o ∷ []) (each_reverse P os e.1) (e.0, tt))

-- what holds of every move and of a test joined to its set stays
module _ (P : Op → Type 0)
    (set-has : (last new : Op) → decided last new ≡ true → P (tested last))
    (move-has : (last new : Op) → P (plain (move (total last new)))) where
  moved_has : (st : List Op) (new : Op) → Each P st → P new → Each P (moved st new)
  unfolding moved
  moved_has [] new e p = (p, tt)
  moved_has (last ∷ st) new e p = by (eqb (kind_of last) 11) (eqb (total last new) 0)
    where
      by : (t z : Bool) → Each P (cond t (cond z st (plain (move (total last new)) ∷ st)) (new ∷ last ∷ st))
      by true true = e.1
      by true false = (move-has last new, e.1)
      by false z = (p, e)

  op_has : (st : List Op) (new : Op) → Each P st → P new → Each P (op st new)
  unfolding op
  op_has [] new e p = (p, tt)
  op_has (last ∷ st) new e p = by (λ o q. op_has st o e.1 q) (rule last new) (ruled last new)
    where
      by : ((o : Op) → P o → Each P (op st o)) → (r : Rule) → Ruled last new r → Each P (react r last st new (op st))
      by less r pushed = (p, e)
      by less r skipped = e
      by less r popped = e.1
      by less r renewed = less new p
      by less r (tried t) = less (tested last) (set-has last new t)
      by less r (swapped t) = moved_has (op st new) last (less new p) e.0
      by less r (summed t u) = (move-has last new, e.1)

  pushes_has : (os st : List Op) → Each P st → Each P os → Each P (pushes st os)
  unfolding pushes
  pushes_has [] st e f = e
  pushes_has (o ∷ os) st e f = pushes_has os (op st o) (op_has st o e f.0) f.1

  pub join_has : (os : List Op) → Each P os → Each P (join os)
  unfolding join
  join_has os f = each_reverse P (pushes [] os) (pushes_has os [] tt f)
