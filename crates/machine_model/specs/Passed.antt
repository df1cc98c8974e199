-- 02, ask 8: "From now on a comment is passed without being counted". Which ops are comments, and a machine with those at its position passed.
-- Assumes nothing.
use Rattle.std.specs.Prelude.{ℕ, suc, Bool, true, false, cond, List, [], ◌∷◌, drop}
use Rattle.ops.specs.Syntax.{Op, Plain}
use Rattle.ops.specs.Syntax.Plain.{comment, store, move, swap, locate, offset, deref, refer, cell, lane, get, put, peek, poke, ffi_call, alloc, free}
use Rattle.ops.specs.Syntax.Op.{control, set, load, plain}
use Rattle.machine_model.specs.State.{State, Given, go_to}

abbrev pub is_comment_of : Plain → Bool
is_comment_of (comment bs) = true
is_comment_of (store n) = false
is_comment_of (move n) = false
is_comment_of (swap n) = false
is_comment_of locate = false
is_comment_of (offset v n) = false
is_comment_of deref = false
is_comment_of refer = false
is_comment_of (cell k n) = false
is_comment_of (lane k n) = false
is_comment_of (get m) = false
is_comment_of (put m) = false
is_comment_of peek = false
is_comment_of poke = false
is_comment_of (ffi_call b) = false
is_comment_of alloc = false
is_comment_of free = false

abbrev pub is_comment : Op → Bool
is_comment (control c) = false
is_comment (set k vs) = false
is_comment (load n) = false
is_comment (plain p) = is_comment_of p

-- which ops are comments
abbrev pub comments : List Op → List Bool
comments [] = []
comments (o ∷ os) = is_comment o ∷ comments os

-- the first place that is no comment's, or the end; p is the place of the list's first
unfoldable pub past : ℕ → List Bool → ℕ
past p [] = p
past p (true ∷ bs) = past (suc p) bs
past p (false ∷ bs) = p

-- "The op stays in the patch and keeps its place": the position alone changes, to the next op that is no comment or to the end. A halted machine
-- passes none
unfoldable pub passed : Given → State → State
unfolding past
passed g s = go_to s (cond s.halted s.at (past s.at (drop s.at (comments g.ops))))
