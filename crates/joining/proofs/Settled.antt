-- Joining is idempotent: no op of a joined patch reacts with the one before it, so that each is pushed as it is. Assumes nothing.
use mathlib.Core.Path.{◌≡◌, refl, ap, sym, ◌∙◌}
use mathlib.Core.Bool.{Bool, true, false, cond}
use mathlib.Core.List.{List, [], ◌∷◌, ◌++◌, reverse, reverse-cons}
use lib.Dec.{eqb}
use borrow.Author.Tests.{eqb-true}
use Rattle.basics.proofs.Clash.{clash}
use Rattle.ops.specs.Syntax.{Op, kind_of}
use Rattle.ops.specs.Syntax.Plain.{move}
use Rattle.ops.specs.Syntax.Op.{plain}
use Rattle.joining.specs.Join.{Rule, total, rule, moved, react, op, pushes, join}
use Rattle.joining.specs.Join.Rule.{push, pop, sum}
use Rattle.joining.proofs.Pushes.{Ruled, ruled}
use Rattle.joining.proofs.Pushes.Ruled.{pushed, skipped, popped, renewed, tried, swapped, summed}

-- the new op is pushed on the last one as it is
abbrev Rests : List Op → Op → Type 0
Rests [] new = Unit {0}
Rests (last ∷ st) new = rule last new ≡ push

abbrev Settled : List Op → Type 0
Settled [] = Unit {0}
Settled (o ∷ st) = Rests st o × Settled st

rule_move : (last new : Op) → kind_of new ≡ 11 → rule last new ≡ cond (eqb (kind_of last) 11) (cond (eqb (total last new) 0) pop (sum (total last new))) push
unfolding rule
rule_move last new e = rw e refl

-- where one move rests, each does
move_rests : (st : List Op) (a b : Op) → kind_of a ≡ 11 → kind_of b ≡ 11 → Rests st a → Rests st b
move_rests [] a b e f h = tt
move_rests (last ∷ st) a b e f h =
    rule_move last b f ∙ by (eqb (kind_of last) 11) (eqb (total last a) 0) (sym (rule_move last a e) ∙ h)
  where
    by : (t z : Bool) → cond t (cond z pop (sum (total last a))) push ≡ push → cond t (cond (eqb (total last b) 0) pop (sum (total last b))) push ≡ push
    by true true x = clash (cc)
    by true false x = clash (cc)
    by false z x = refl

moved_settled : (st : List Op) (new : Op) → kind_of new ≡ 11 → Settled st → Settled (moved st new)
unfolding moved
moved_settled [] new e s = (tt, tt)
moved_settled (last ∷ st) new e s = by (eqb (kind_of last) 11) (eqb (total last new) 0) refl
  where
    by : (t z : Bool) → eqb (kind_of last) 11 ≡ t → Settled (cond t (cond z st (plain (move (total last new)) ∷ st)) (new ∷ last ∷ st))
    by true true h = s.1
    by true false h = (move_rests st last (plain (move (total last new))) (eqb-true (kind_of last) 11 h) refl s.0, s.1)
    by false z h = (rule_move last new e ∙ rw h refl, s)

op_settled : (st : List Op) (new : Op) → Settled st → Settled (op st new)
unfolding op
op_settled [] new s = (tt, tt)
op_settled (last ∷ st) new s = by (λ o. op_settled st o s.1) (rule last new) (ruled last new) refl
  where
    by : ((o : Op) → Settled (op st o)) → (r : Rule) → Ruled last new r → rule last new ≡ r → Settled (react r last st new (op st))
    by less r pushed e = (e, s)
    by less r skipped e = s
    by less r popped e = s.1
    by less r renewed e = less new
    by less r (tried t) e = less _
    by less r (swapped t) e = moved_settled (op st new) last t (less new)
    by less r (summed t u) e = (move_rests st last (plain (move (total last new))) t refl s.0, s.1)

pushes_settled : (os st : List Op) → Settled st → Settled (pushes st os)
unfolding pushes
pushes_settled [] st s = s
pushes_settled (o ∷ os) st s = pushes_settled os (op st o) (op_settled st o s)

pub pushes_snoc : (os st : List Op) (o : Op) → pushes st (os ++ (o ∷ [])) ≡ op (pushes st os) o
unfolding pushes
pushes_snoc [] st o = refl
pushes_snoc (x ∷ os) st o = pushes_snoc os (op st x) o

op_rests : (st : List Op) (o : Op) → Rests st o → op st o ≡ o ∷ st
unfolding op
op_rests [] o h = refl
op_rests (last ∷ st) o h = ap (λ (r : Rule). react r last st o (op st)) h

pushed_again : (st : List Op) → Settled st → pushes [] (reverse st) ≡ st
unfolding pushes
pushed_again [] s = refl
pushed_again (o ∷ st) s =
    ap (pushes []) (reverse-cons o st)
    ∙ pushes_snoc (reverse st) [] o
    ∙ ap (λ (l : List Op). op l o) (pushed_again st s.1)
    ∙ op_rests st o s.0

-- a joined patch joined is itself
pub join_twice : (os : List Op) → join (join os) ≡ join os
unfolding join
join_twice os = ap reverse (pushed_again (pushes [] os) (pushes_settled os [] tt))
