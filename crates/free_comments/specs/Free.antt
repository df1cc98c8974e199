-- A patch and the same patch with comments added: what is said of their runs. Assumes nothing.
use Rattle.std.specs.Prelude.{ℕ, zero, suc, ◌-◌, ◌≡◌, false, cond, List, [], ◌∷◌, ◌++◌, map, leb, ltb, length}
use Rattle.ops.specs.Syntax.{Op}
use Rattle.ops.specs.Syntax.Plain.{comment}
use Rattle.ops.specs.Syntax.Op.{plain}
use Rattle.machine_model.specs.State.{State, given, fresh}
use Rattle.machine_model.specs.Passed.{is_comment}
use Rattle.machine_model.specs.Run.{Answer, run}
use Rattle.free_comments.specs.Counting.{run_counting}

-- ---- places

-- where a place goes when the op at a is left out: the place a itself is then the next op's
unfoldable pub skip : ℕ → ℕ → ℕ
skip a i = cond (leb i a) i (i - 1)

-- and where it goes when an op is put in at a
abbrev pub gap : ℕ → ℕ → ℕ
gap a i = cond (ltb i a) i (suc i)

-- the patch without its comments
abbrev pub bare : List Op → List Op
bare [] = []
bare (o ∷ os) = cond (is_comment o) (bare os) (o ∷ bare os)

-- where a place of the patch is in it: the ops before it that are no comments are counted
abbrev pub kept : List Op → ℕ → ℕ
kept [] i = i
kept (o ∷ os) zero = 0
kept (o ∷ os) (suc i) = cond (is_comment o) (kept os i) (suc (kept os i))

-- a state whose places are moved, its position, its table and its saved calls; all else is as it was
abbrev pub placed : (ℕ → ℕ) → State → State
placed f s =
    record { at = f s.at; pointer = s.pointer; counted = s.counted; reg = s.reg; tape = s.tape; table = map f s.table; calls = map f s.calls; refs = s.refs; channel = s.channel; first = s.first; taken = s.taken; outs = s.outs; halted = s.halted }

-- an answer whose places are moved; number, lane and steps are as they were
abbrev pub answered : (ℕ → ℕ) → Answer → Answer
answered f a = record { number = a.number; lane = a.lane; steps = a.steps; place = f a.place; state = placed f a.state }

-- ---- two patches

-- from fresh, in any mode, with any input, room, tape and budget: the second patch's run is the first's with its places moved
abbrev pub Same : List Op → List Op → (ℕ → ℕ) → Type 0
Same os os' f =
    (mode : ℕ) (input : List ℕ) (room cells budget : ℕ)
    → run (given os' mode input room) budget (fresh cells) ≡ answered f (run (given os mode input room) budget (fresh cells))

-- one comment at any place: with it and without it
unfoldable pub CommentFree : Type 0
CommentFree = (A : List Op) (bs : List ℕ) (B : List Op) → Same (A ++ plain (comment bs) ∷ B) (A ++ B) (skip (length A))

-- all comments
unfoldable pub CommentsFree : Type 0
CommentsFree = (os : List Op) → Same os (bare os) (kept os)

-- the run of a patch is 01's run of the patch without its comments
unfoldable pub RunsBare : Type 0
RunsBare =
    (os : List Op) (mode : ℕ) (input : List ℕ) (room cells budget : ℕ)
    → run_counting (given (bare os) mode input room) budget (fresh cells) ≡ answered (kept os) (run (given os mode input room) budget (fresh cells))

-- the other way: r is the answer of a patch with an op put in at a, q that of the patch without it. A halted machine stands after its Return, and a
-- comment there is not passed: its place is told by `CommentFree` alone
pub record Added (a : ℕ) (q r : Answer) : Type 0 where
  pub number : r.number ≡ q.number
  pub lane : r.lane ≡ q.lane
  pub steps : r.steps ≡ q.steps
  pub place : r.state.halted ≡ false → r.place ≡ gap a q.place
  pub calls : r.state.calls ≡ map (gap a) q.state.calls
  pub table : r.state.table ≡ map (gap a) q.state.table
  pub outs : r.state.outs ≡ q.state.outs
  pub tape : r.state.tape ≡ q.state.tape
  pub counted : r.state.counted ≡ q.state.counted
  pub pointer : r.state.pointer ≡ q.state.pointer
  pub refs : r.state.refs ≡ q.state.refs
  pub register : r.state.reg ≡ q.state.reg
  pub channel : r.state.channel ≡ q.state.channel
  pub first : r.state.first ≡ q.state.first
  pub taken : r.state.taken ≡ q.state.taken
  pub halted : r.state.halted ≡ q.state.halted
