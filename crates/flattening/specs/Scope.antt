-- The numbering of Flatten as it is computed: by the ops' rows, with a flag for each body seen and the bodies around in an array. Assumes nothing.
use Rattle.std.specs.Prelude.{ℕ, zero, suc, ◌+◌, ◌≤◌, Bool, false, cond, List, [], ◌∷◌, map, eqb, ◌==◌, get_or, take, replicate, count_by, Option, Some, None, Result, Ok, Err}
use Rattle.std.specs.List.{All}
use Rattle.basics.specs.Limits.{most_ops}
use Rattle.kind_table.specs.Rows as row
use Rattle.flattening.specs.Flatten.{Note, Numbered}
use Rattle.flattening.specs.Flatten.Note.{enters, opens, closes, stays}
use Rattle.flattening.specs.Flatten.Numbered.{stray, numbered}
use Rattle.flattening.specs.declared.numbering.Left.{Left}
use Rattle.flattening.specs.declared.numbering.Scope.{Scope}
use Rattle.flattening.specs.declared.numbering.NoOpenEnd.{NoOpenEnd}
use Rattle.flattening.specs.declared.numbering.Numbering.{Numbering}

-- what an op is to flattening, by its row
unfoldable pub row_note : ℕ → Note
row_note k = cond (eqb k row.function) enters (cond (eqb k row.while) opens (cond (eqb k row.if) opens (cond (eqb k row.end) closes stays)))

abbrev pub row_notes : List ℕ → List Note
row_notes ks = map row_note ks

-- the Function marks among ops of these rows
abbrev pub row_marks : List ℕ → ℕ
row_marks ks = count_by (λ k. k == row.function) ks

-- the body of an op of row k in the body b, where n bodies are seen and t says whether the number after b is taken
unfoldable pub here_of : ℕ → ℕ → Bool → ℕ → ℕ
here_of k b t n = cond (eqb k row.function) (cond t (n + 1) (b + 1)) b

-- the open body, its open brackets, and the bodies around it with theirs, the innermost first
pub record Place : Type 0 where
  pub body : ℕ
  pub brackets : ℕ
  pub around : List (ℕ × ℕ)

abbrev pub place : ℕ → ℕ → List (ℕ × ℕ) → Place
place b m st = record { body = b; brackets = m; around = st }

-- where an op of the body h leads to; nowhere at an End with no open bracket
unfoldable pub leads_to : Note → ℕ → ℕ → ℕ → List (ℕ × ℕ) → Option Place
leads_to enters h b m st = Some (place h 0 ((b, m) ∷ st))
leads_to opens h b m st = Some (place b (suc m) st)
leads_to closes h b zero [] = None
leads_to closes h b zero (q ∷ st) = Some (place q.0 q.1 st)
leads_to closes h b (suc m) st = Some (place b m st)
leads_to stays h b m st = Some (place b m st)

-- the first d of the bodies in an array, the last of them first
abbrev pub stack_of : ℕ → List Left → List (ℕ × ℕ)
stack_of zero ls = []
stack_of (suc d) ls = let l = get_or ls d (record { body = 0; brackets = 0 }) in (l.body, l.brackets) ∷ stack_of d ls

abbrev pub place_in : Scope → Place
place_in s = place s.body s.brackets (stack_of s.depth s.around)

-- the answer, where the scope is s afterwards
abbrev pub passed : Option (Unit {0}) → Scope → Option Place
passed None s = None
passed (Some u) s = Some (place_in s)

-- no number of the scope is above i
pub record Low (i : ℕ) (s : Scope) : Type 0 where
  pub body : s.body ≤ i
  pub brackets : s.brackets ≤ i
  pub depth : s.depth ≤ i
  pub around : All (λ l. (l.body ≤ i) × (l.brackets ≤ i)) s.around

-- main's body, and one for each op at most
abbrev pub most_bodies : ℕ
most_bodies = most_ops + 1

-- the numbers from p on whose flags are set
unfoldable pub listed : ℕ → List Bool → List ℕ
listed p [] = []
listed p (t ∷ ts) = let r = listed (suc p) ts in cond t (p ∷ r) r

-- no op has a body yet
unfoldable pub blank : Numbering
blank = record { owner = replicate most_ops 0; seen = replicate most_bodies false }

-- what the numbering of n ops found
abbrev pub told : Result (Unit {0}) NoOpenEnd → Numbering → ℕ → Numbered
told (Err e) x n = stray e.op
told (Ok u) x n = numbered (take n x.owner) (listed 0 x.seen)
