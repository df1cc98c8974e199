-- Where the comments at a place end, and what passing them does to a machine. Assumes nothing.
use Prim.Native.Nat.{ℕ, zero, suc, ◌+◌, ◌≤◌, ◌<◌}
use native.Mathlib.Nat.{not-suc-le-zero, le_of_suc-le-suc}
use native.Mathlib.Decide.{dec_lt}
use native.Mathlib.Omega.{arith}
use borrow.Author.Tests.{lt-leb, le-ltb}
use mathlib.Core.Path.{◌≡◌, refl, ap, sym, ◌∙◌, subst}
use mathlib.Core.Bool.{Bool, true, false, cond}
use mathlib.Core.List.{List, [], ◌∷◌}
use lib.ListN.{length, drop, get_or, length-drop}
use lib.Seq.{get_or-drop}
use Rattle.basics.proofs.Clash.{clash}
use Rattle.ops.specs.Syntax.{Op, Plain}
use Rattle.ops.specs.Syntax.Plain.{comment, store, move, swap, locate, offset, deref, refer, cell, lane, get, put, peek, poke, ffi_call, alloc, free}
use Rattle.ops.specs.Syntax.Op.{control, set, load, plain}
use Rattle.machine_model.specs.State.{State, Given, go_to, on}
use Rattle.machine_model.specs.Scan.{op_at}
use Rattle.machine_model.specs.Step.{lack, pick, act, exec, op, step}
use Rattle.machine_model.specs.Step.Outcome.{next}
use Rattle.machine_model.specs.Passed.{is_comment_of, is_comment, comments, past, passed}

-- ---- a search of bits

pub past_on : (p i : ℕ) (bs : List Bool) → get_or bs i false ≡ true → past p (drop i bs) ≡ past (suc p) (drop (suc i) bs)
unfolding past
past_on p i [] e = clash (cc)
past_on p zero (true ∷ bs) e = refl
past_on p zero (false ∷ bs) e = clash (cc)
past_on p (suc i) (b ∷ bs) e = past_on p i bs e

pub past_here : (p i : ℕ) (bs : List Bool) → get_or bs i false ≡ false → past p (drop i bs) ≡ p
unfolding past
past_here p zero [] e = refl
past_here p (suc i) [] e = refl
past_here p zero (true ∷ bs) e = clash (cc)
past_here p zero (false ∷ bs) e = refl
past_here p (suc i) (b ∷ bs) e = past_here p i bs e

-- it stops at an op that is no comment, or at the end
record Stops (p : ℕ) (bs : List Bool) : Type 0 where
  more : ℕ
  is : past p bs ≡ p + more
  within : more ≤ length bs
  there : get_or bs more false ≡ false

stops : (p : ℕ) (bs : List Bool) → Stops p bs
unfolding past
stops p [] = record { more = 0; is = omega arith; within = omega arith; there = refl }
stops p (true ∷ bs) =
    let r = stops (suc p) bs in
    record { more = suc r.more; is = omega (arith, r.is); within = omega (arith, r.within); there = r.there }
stops p (false ∷ bs) = record { more = 0; is = omega arith; within = omega arith; there = refl }

-- of a whole patch's bits, from a place on
abbrev pub from : List Bool → ℕ → ℕ
from bs i = past i (drop i bs)

module _ (bs : List Bool) (i : ℕ) where
  from_there : get_or bs (from bs i) false ≡ false
  from_there =
      let r = stops i (drop i bs) in
      ap (λ (j : ℕ). get_or bs j false) r.is ∙ sym (get_or-drop i bs r.more false) ∙ r.there

  from_within : i ≤ length bs → from bs i ≤ length bs
  from_within h = let r = stops i (drop i bs) in omega (arith, r.is, r.within, length-drop i bs)

  from_twice : from bs (from bs i) ≡ from bs i
  from_twice = past_here (from bs i) (from bs i) bs from_there

pub bits_beyond : (bs : List Bool) (i : ℕ) → length bs ≤ i → get_or bs i false ≡ false
bits_beyond [] i h = refl
bits_beyond (b ∷ bs) zero h = absurd (not-suc-le-zero h)
bits_beyond (b ∷ bs) (suc i) h = bits_beyond bs i (le_of_suc-le-suc h)

-- ---- the bits of a patch

pub many_comments : (os : List Op) → length (comments os) ≡ length os
many_comments [] = refl
many_comments (o ∷ os) = ap suc (many_comments os)

pub comment_at : (os : List Op) (i : ℕ) → i < length os → get_or (comments os) i false ≡ is_comment (op_at os i)
comment_at [] i h = absurd (not-suc-le-zero h)
comment_at (o ∷ os) zero h = refl
comment_at (o ∷ os) (suc i) h = comment_at os i (le_of_suc-le-suc h)

pub comment_below : (os : List Op) (i : ℕ) → get_or (comments os) i false ≡ true → i < length os
comment_below os i e = by (dec_lt i (length os))
  where
    by : Dec (i < length os) → i < length os
    by (yes h) = h
    by (no h) = clash (let z : get_or (comments os) i false ≡ false = bits_beyond (comments os) i (omega (arith, many_comments os)) in cc)

-- ---- the op that is a comment

plain_is : (p : Plain) → is_comment_of p ≡ true → (bs : List ℕ) × (plain p ≡ plain (comment bs))
plain_is (comment bs) e = (bs, refl)
plain_is (store n) e = clash (cc)
plain_is (move n) e = clash (cc)
plain_is (swap n) e = clash (cc)
plain_is locate e = clash (cc)
plain_is (offset v n) e = clash (cc)
plain_is deref e = clash (cc)
plain_is refer e = clash (cc)
plain_is (cell k n) e = clash (cc)
plain_is (lane k n) e = clash (cc)
plain_is (get m) e = clash (cc)
plain_is (put m) e = clash (cc)
plain_is peek e = clash (cc)
plain_is poke e = clash (cc)
plain_is (ffi_call b) e = clash (cc)
plain_is alloc e = clash (cc)
plain_is free e = clash (cc)

pub comment_is : (o : Op) → is_comment o ≡ true → (bs : List ℕ) × (o ≡ plain (comment bs))
comment_is (control c) e = clash (cc)
comment_is (set k vs) e = clash (cc)
comment_is (load n) e = clash (cc)
comment_is (plain p) e = plain_is p e

-- a step at a comment, as the run of 01 would make it, goes one op on
pub comment_step : (g : Given) (s : State) → s.halted ≡ false → get_or (comments g.ops) s.at false ≡ true → step g s ≡ next (on s)
unfolding step op exec act lack pick
comment_step g s h e =
    let l = comment_below g.ops s.at e in
    let c = comment_is (op_at g.ops s.at) (sym (comment_at g.ops s.at l) ∙ e) in
    rw (h, lt-leb (length g.ops) s.at l, c.1, le-ltb (length s.reg) 0 (omega arith)) refl

-- ---- passing

module _ (g : Given) (s : State) where
  -- passing twice is passing once
  pub passed_twice : passed g (passed g s) ≡ passed g s
  unfolding passed
  passed_twice = ap (go_to s) (twice s.halted s.at)
    where
      twice : (h : Bool) (i : ℕ)
          → cond h (cond h i (from (comments g.ops) i)) (from (comments g.ops) (cond h i (from (comments g.ops) i))) ≡ cond h i (from (comments g.ops) i)
      twice true i = refl
      twice false i = from_twice (comments g.ops) i

  -- "a halted machine passes no comment"
  pub halted_passes_none : s.halted ≡ true → passed g s ≡ s
  unfolding passed
  halted_passes_none e = ap (λ (h : Bool). go_to s (cond h s.at (from (comments g.ops) s.at))) e

  -- where a machine that is not halted comes to
  pub passed_at : s.halted ≡ false → passed g s ≡ go_to s (from (comments g.ops) s.at)
  unfolding passed
  passed_at e = ap (λ (h : Bool). go_to s (cond h s.at (from (comments g.ops) s.at))) e

  -- a place of the patch, or its end, as before
  pub passed_within : s.at ≤ length g.ops → (passed g s).at ≤ length g.ops
  unfolding passed
  passed_within l = by s.halted
    where
      by : (h : Bool) → cond h s.at (from (comments g.ops) s.at) ≤ length g.ops
      by true = l
      by false = omega (arith, many_comments g.ops, from_within (comments g.ops) s.at (omega (arith, many_comments g.ops)))

  -- a machine with its comments passed, and not halted, is at no comment
  pub at_work : passed g s ≡ s → s.halted ≡ false → get_or (comments g.ops) s.at false ≡ false
  at_work p e =
      let q : from (comments g.ops) s.at ≡ s.at = ap (λ (t : State). t.at) (sym (passed_at e) ∙ p) in
      ap (λ (i : ℕ). get_or (comments g.ops) i false) (sym q) ∙ from_there (comments g.ops) s.at

-- what each step keeps, passing keeps: to pass a comment is to make 01's step at it
module _ (P : State → Type 0) (g : Given) (leads : (s t : State) → P s → step g s ≡ next t → P t) where
  abbrev bits : List Bool
  bits = comments g.ops

  turn : (s : State) → P s → s.halted ≡ false → (s.at < length g.ops → P (on s) → P (go_to s (from bits (suc s.at)))) → P (go_to s (from bits s.at))
  turn s p h more = by (get_or bits s.at false) refl
    where
      by : (b : Bool) → get_or bits s.at false ≡ b → P (go_to s (from bits s.at))
      by false e = subst (λ (i : ℕ). P (go_to s i)) (sym (past_here s.at s.at bits e)) p
      by true e =
          subst (λ (i : ℕ). P (go_to s i)) (sym (past_on s.at s.at bits e))
          (more (comment_below g.ops s.at e) (leads s (on s) p (comment_step g s h e)))

  walk : (n : ℕ) (s : State) → P s → s.halted ≡ false → length g.ops ≤ s.at + n → P (go_to s (from bits s.at))
  walk zero s p h l = turn s p h (λ q w. absurd (omega arith))
  walk (suc n) s p h l = turn s p h (λ q w. walk n (on s) w h (omega arith))

  pub passed_keeps : (s : State) → P s → P (passed g s)
  passed_keeps s p = by s.halted refl
    where
      by : (b : Bool) → s.halted ≡ b → P (passed g s)
      by true e = subst P (sym (halted_passes_none g s e)) p
      by false e = subst P (sym (passed_at g s e)) (walk (length g.ops) s p e (omega arith))
