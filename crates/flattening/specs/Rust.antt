-- Flattening as the Rust does it: the function `flatten` of vm/std.rs, in its order, over a map of bodies by number. A number is the
-- Rust's and one, as in Flatten, so that main's (-1) is 0. Assumes nothing.
use Rattle.std.specs.Prelude.{ℕ, zero, suc, ◌+◌, ◌-◌, Bool, false, cond, ◌||◌, List, [], ◌∷◌, ◌++◌, eqb, ltb, length}
use Rattle.std.proofs.Math.Option.{Option, none, some}
use Rattle.ops.specs.Syntax.{Op}
use Rattle.flattening.specs.Flatten.{Note, note, Flat}
use Rattle.flattening.specs.Flatten.Note.{enters, opens, closes, stays}
use Rattle.flattening.specs.Flatten.Flat.{loose, flat}
use Rattle.flattening.specs.declared.body.Body.{Body}

-- ---- `functions`, a `HashMap<i32, Vec<StandardOp>>`: a number and its ops, each number once; a map has no order, here the numbers rise

-- `functions.entry(fun).or_default().push(std_op)`
unfoldable pub push : ℕ → Op → List (ℕ × List Op) → List (ℕ × List Op)
push k o [] = (k, o ∷ []) ∷ []
push k o (f ∷ fs) = cond (ltb k f.0) ((k, o ∷ []) ∷ f ∷ fs) (cond (eqb k f.0) ((f.0, f.1 ++ (o ∷ [])) ∷ fs) (f ∷ push k o fs))

-- `functions.contains_key(&fun)`
unfoldable pub contains : ℕ → List (ℕ × List Op) → Bool
contains k [] = false
contains k (f ∷ fs) = eqb k f.0 || contains k fs

-- what `functions.remove(&i)` gives: the body, or no op where there is none
unfoldable pub body_in : ℕ → List (ℕ × List Op) → List Op
body_in k [] = []
body_in k (f ∷ fs) = cond (eqb k f.0) f.1 (body_in k fs)

-- and what it leaves
unfoldable pub remove : ℕ → List (ℕ × List Op) → List (ℕ × List Op)
remove k [] = []
remove k (f ∷ fs) = cond (eqb k f.0) fs (f ∷ remove k fs)

-- ---- the loop over the code

-- `fun`, `matching_end`, `scope_stack` with the newest first, `functions` and `main_instructions`
pub data Scopes : Type 0 where
  scopes : ℕ → ℕ → List (ℕ × ℕ) → List (ℕ × List Op) → List Op → Scopes

-- the Rust says: 'If we are not defining a function, push the instruction to the main instructions', `scope_stack.is_empty()`
abbrev pub outside : List (ℕ × ℕ) → Op → List Op → List Op
outside [] o is = is ++ (o ∷ [])
outside (q ∷ st) o is = is

-- the Rust says: 'Start defining the next function. If that function is already defined, just go past the last function defined',
-- `fun += 1; if functions.contains_key(&fun) { fun = functions.len() as i32 }`
unfoldable pub next : ℕ → List (ℕ × List Op) → ℕ
unfolding contains
next fun fs = cond (contains (suc fun) fs) (suc (length fs)) (suc fun)

-- one op, by the arms `Function`, `If | While`, `End` and `_`, which are the notes of Flatten; none is the panic of `scope_stack.pop().unwrap()`
unfoldable pub turn : Note → Op → Scopes → Option Scopes
unfolding push next
turn enters o (scopes fun m st fs is) = let k = next fun fs in some (scopes k 0 ((fun, m) ∷ st) (push k o fs) is)
turn opens o (scopes fun m st fs is) = some (scopes fun (suc m) st (push fun o fs) (outside st o is))
turn closes o (scopes fun zero [] fs is) = none
turn closes o (scopes fun zero (q ∷ st) fs is) = some (scopes q.0 q.1 st (push fun o fs) (outside (q ∷ st) o is))
turn closes o (scopes fun (suc m) st fs is) = some (scopes fun m st (push fun o fs) (outside st o is))
turn stays o (scopes fun m st fs is) = some (scopes fun m st (push fun o fs) (outside st o is))

-- ---- what it returns

-- the place of the op that panics, or `(result, result_functions, main_instructions)`
pub data Rust : Type 0 where
  panics : ℕ → Rust
  returns : List Op → List (ℕ × List Op) → List Op → Rust

-- the Rust says: 'For every function, insert its body into the resulting output code', n numbers from i on, and then
-- 'Insert the remaining code into the output code', main's body
unfoldable pub insert : ℕ → ℕ → List Op → List (ℕ × List Op) → List Op
unfolding body_in remove
insert zero i result fs = result ++ body_in 0 fs
insert (suc n) i result fs = insert n (suc i) (result ++ body_in i fs) (remove i fs)

-- `for i in 0..=functions.len()`; the functions that are returned are all but main: `result_functions.remove(&-1)`
unfoldable pub finish : Scopes → Rust
unfolding insert remove
finish (scopes fun m st fs is) = returns (insert (suc (length fs)) 1 [] fs) (remove 0 fs) is

-- the rest of the loop after the op at place p, or its panic
abbrev pub onward : ℕ → (Scopes → Rust) → Option Scopes → Rust
onward p rest none = panics p
onward p rest (some s) = rest s

-- `for std_op in code`, from place p on
unfoldable pub loop : List Op → ℕ → Scopes → Rust
unfolding turn finish
loop [] p s = finish s
loop (o ∷ os) p s = onward p (loop os (suc p)) (turn (note o) o s)

-- `flatten(code)`
unfoldable pub rust : List Op → Rust
unfolding loop
rust os = loop os 0 (scopes 0 0 [] [] [])

-- ---- what it returns, in the words of Flatten

-- "an entry of number, first op and op count" for each of its functions, the first of them at op p
abbrev pub entries : ℕ → List (ℕ × List Op) → List Body
entries p [] = []
entries p (f ∷ fs) = record { number = f.0 - 1; first = p; count = length f.1 } ∷ entries (p + length f.1) fs

-- "An End with no open bracket is 10", or the ops and the entries
abbrev pub flat_of : Rust → Flat
flat_of (panics p) = loose p
flat_of (returns code fs is) = flat code (entries 0 fs)
