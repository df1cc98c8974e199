-- `tape_ops::tape::store` meets its contract. The part of the tape from the pointer on is lent, and is back with the lanes in it. Assumes nothing.
use mathlib.Core.Path.{refl}
use borrow.Author.Tests.{eq-eqb, ne_eqb}
use Rattle.basics.specs.Pick.{pick}
use Rattle.machine_numbers.specs.Numbers.{answered, left, one_list}
use Rattle.machine_numbers.proofs.Parts.{rest_part, copied_back}
use Rattle.machine_numbers.proofs.Had.{refused, passed, inside}
use Rattle.tape_ops.specs.Tape.{store_of}
use borrow.Author.Rules.{rules}
use Rattle.tape_ops.proofs.tape.store.Goals as goal
use Rattle.tape_ops.proofs.tape.store.Goals.{then-n-eq1+else-r-ne-DONE, else-n-eq1+then-n-ne0+else-r-ne-DONE-2, else-n-eq1+else-n-ne0}

pub returns-then-r-ne-DONE : goal.returns-then-r-ne-DONE
unfolding store_of
returns-then-r-ne-DONE c =
    λ p.
    let g = c.args.tape.now in
    rw c.if-n-eq1.true (refused 23 _ _ _ refl c.have-r.ensures (λ x. one_list x g) _ (one_list (answered 0 p) g) _ c.if-r-ne-DONE.true)

pub slice_bounds-copy_one-count : goal.slice_bounds-copy_one-count
slice_bounds-copy_one-count c = let h = inside 23 _ _ _ refl c.have-r.ensures c.if-r-ne-DONE.false refl in search rules

pub slice_bounds-copy_one-start : goal.slice_bounds-copy_one-start
slice_bounds-copy_one-start c = let h = inside 23 _ _ _ refl c.have-r.ensures c.if-r-ne-DONE.false refl in search rules

pub copy_one-requires-clause-in_bounds : goal.copy_one-requires-clause-in_bounds
copy_one-requires-clause-in_bounds c = let h = inside 23 _ _ _ refl c.have-r.ensures c.if-r-ne-DONE.false refl in search rules

pub returns-then-r-ne-DONE-2 : goal.returns-then-r-ne-DONE-2
unfolding store_of
returns-then-r-ne-DONE-2 c =
    λ p.
    let g = c.args.tape.now in
    refused 23 _ _ _ refl c.have-r-then-n-ne0.ensures (λ x. one_list x g) _ _ _ c.if-r-ne-DONE-2.true

pub slice_bounds-copy_lanes-count : goal.slice_bounds-copy_lanes-count
slice_bounds-copy_lanes-count c = let h = inside 23 _ _ _ refl c.have-r-then-n-ne0.ensures c.if-r-ne-DONE-2.false (ne_eqb _ _ c.if-n-ne0.true) in search rules

pub slice_bounds-copy_lanes-start : goal.slice_bounds-copy_lanes-start
slice_bounds-copy_lanes-start c = let h = inside 23 _ _ _ refl c.have-r-then-n-ne0.ensures c.if-r-ne-DONE-2.false (ne_eqb _ _ c.if-n-ne0.true) in search rules

pub copy_lanes-requires-clause-n_in_bounds : goal.copy_lanes-requires-clause-n_in_bounds
copy_lanes-requires-clause-n_in_bounds c = let h = inside 23 _ _ _ refl c.have-r-then-n-ne0.ensures c.if-r-ne-DONE-2.false (ne_eqb _ _ c.if-n-ne0.true) in search rules

pub returns : goal.returns
unfolding left pick store_of
returns c =
    λ p. elim c.if-n-eq1.branch [
      | then-n-eq1+else-r-ne-DONE w ↦
          let h = passed 23 _ _ _ refl w.have-r.ensures w.if-r-ne-DONE.false refl in
          simp (w.if-n-eq1.true, h, w.tape-is, w.copy_one.ensures, c.grow.ensures, rest_part, copied_back c.args.tape.now c.args.at)
      | else-n-eq1+then-n-ne0+else-r-ne-DONE-2 w ↦
          let z = ne_eqb _ _ w.if-n-ne0.true in
          let h = passed 23 _ _ _ refl w.have-r-then-n-ne0.ensures w.if-r-ne-DONE-2.false z in
          simp (z, h, w.tape-is, w.copy_lanes.ensures, c.grow.ensures, rest_part, copied_back c.args.tape.now c.args.at)
      | else-n-eq1+else-n-ne0 w ↦ simp (eq-eqb _ _ w.if-n-ne0.false, w.tape-is, c.grow.ensures)
    ]
