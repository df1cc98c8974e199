-- Flattening: "each function's own ops in order of marks, then main; a nested function is its own body". Bodies are named by the Rust's
-- number and one, so that main's (-1) is 0. Assumes nothing.
use Rattle.std.specs.Prelude.{ℕ, zero, suc, ◌+◌, ◌-◌, Bool, false, cond, ◌||◌, List, [], ◌∷◌, ◌++◌, map, eqb, length}
use Rattle.ops.specs.Syntax.{Op, Control, is_function}
use Rattle.ops.specs.Syntax.Control.{function, call, ret, while, if, else, end}
use Rattle.ops.specs.Syntax.Op.{control, set, load, plain}
use Rattle.machine_model.specs.Step.{enter}
use Rattle.flattening.specs.declared.body.Body.{Body}

-- what an op is to flattening: a Function mark enters a body, If and While open a bracket in it, End closes one or the body
pub data Note : Type 0 where
  enters opens closes stays : Note

abbrev pub note_of : Control → Note
note_of function = enters
note_of call = stays
note_of ret = stays
note_of while = opens
note_of if = opens
note_of else = stays
note_of end = closes

abbrev pub note : Op → Note
note (control c) = note_of c
note (set k vs) = stays
note (load n) = stays
note (plain p) = stays

-- the body of each op, and the bodies seen, in rising number; or the place of an End with no open bracket
pub data Numbered : Type 0 where
  stray : ℕ → Numbered
  numbered : List ℕ → List ℕ → Numbered

-- one more op at the front, of body b
abbrev pub named : ℕ → Numbered → Numbered
named b (stray p) = stray p
named b (numbered bs seen) = numbered (b ∷ bs) seen

-- whether a number is taken
abbrev pub has : ℕ → List ℕ → Bool
has b [] = false
has b (c ∷ cs) = eqb b c || has b cs

-- "one after the enclosing number, or, if taken, the count of bodies so far, main's (-1) included once it has an op"
abbrev pub fresh : ℕ → List ℕ → ℕ
fresh b seen = cond (has (suc b) seen) (suc (length seen)) (suc b)

abbrev pub notes : List Op → List Note
notes os = map note os

-- from the op at place p on: m brackets are open in the body b, st has the bodies around it with theirs, and seen the bodies with an op.
-- "An End with no open bracket is 10; unclosed ones are kept"
unfoldable pub number : ℕ → ℕ → ℕ → List (ℕ × ℕ) → List ℕ → List Note → Numbered
unfolding enter
number p b m st seen [] = numbered [] seen
number p b m st seen (enters ∷ ns) =
    named (fresh b seen) (number (suc p) (fresh b seen) 0 ((b, m) ∷ st) (enter (fresh b seen) seen) ns)
number p b m st seen (opens ∷ ns) = named b (number (suc p) b (suc m) st (enter b seen) ns)
number p b zero [] seen (closes ∷ ns) = stray p
number p b zero (q ∷ st) seen (closes ∷ ns) = named b (number (suc p) q.0 q.1 st (enter b seen) ns)
number p b (suc m) st seen (closes ∷ ns) = named b (number (suc p) b m st (enter b seen) ns)
number p b m st seen (stays ∷ ns) = named b (number (suc p) b m st (enter b seen) ns)

-- the ops of one body, where each op's body is given
unfoldable pub body : ℕ → List ℕ → List Op → List Op
body b [] os = []
body b (c ∷ cs) [] = []
body b (c ∷ cs) (o ∷ os) = cond (eqb b c) (o ∷ body b cs os) (body b cs os)

-- 10 and its place, or the ops and the entries of the functions' bodies
pub data Flat : Type 0 where
  loose : ℕ → Flat
  flat : List Op → List Body → Flat

-- "an entry of number, first op and op count" for each of the functions' bodies, in rising number, the first of them at op p
unfoldable pub bodies : ℕ → List ℕ → List ℕ → List Op → List Body
unfolding body
bodies p [] cs os = []
bodies p (b ∷ bs) cs os =
    let n = length (body b cs os) in
    record { number = b - 1; first = p; count = n } ∷ bodies (p + n) bs cs os

-- the ops of the bodies, one body after another
unfoldable pub gathered : List ℕ → List ℕ → List Op → List Op
unfolding body
gathered [] cs os = []
gathered (b ∷ bs) cs os = body b cs os ++ gathered bs cs os

-- the functions' bodies: all but main
abbrev pub others : List ℕ → List ℕ
others [] = []
others (zero ∷ bs) = bs
others (suc b ∷ bs) = suc b ∷ bs

-- the bodies of the Function marks, "in order of marks"; proofs/InOrder.antt shows that they are the functions' bodies in rising number
abbrev pub of_marks : List ℕ → List Op → List ℕ
of_marks [] os = []
of_marks (c ∷ cs) [] = []
of_marks (c ∷ cs) (o ∷ os) = cond (is_function o) (c ∷ of_marks cs os) (of_marks cs os)

abbrev pub laid : List Op → Numbered → Flat
unfolding bodies gathered body
laid os (stray p) = loose p
laid os (numbered cs seen) = flat (gathered (others seen) cs os ++ body 0 cs os) (bodies 0 (others seen) cs os)

unfoldable pub flatten : List Op → Flat
unfolding number bodies gathered body
flatten os = laid os (number 0 0 0 [] [] (notes os))
