-- One op of the pass back over the ops. Assumes nothing.
use Rattle.std.specs.Prelude.{List, ℕ, ◌+◌, ◌-◌, get_or, set, leb, ltb, eqb}
use Rattle.basics.specs.Limits.{most_ops}
use Rattle.basics.specs.Pick.{pick}
use Rattle.kind_table.specs.Rows as row
use Rattle.partners.specs.Columns.{nowhere}

-- the frames that are open, counted from 0, each with its End and its nearest Else; and the columns so far
pub record Pass : Type 0 where
  pub top : ℕ
  pub ends : List ℕ
  pub elses : List ℕ
  pub partners : List ℕ
  pub turns : List ℕ

abbrev pub passed : ℕ → List ℕ → List ℕ → List ℕ → List ℕ → Pass
passed n es ls ps ts = record { top = n; ends = es; elses = ls; partners = ps; turns = ts }

-- an op that opens at i, and the End of the top frame at e, hold each other; an e that is no place is held alone
unfoldable pub pair_of : ℕ → ℕ → List ℕ → List ℕ
unfolding pick
pair_of i e ps = pick (leb most_ops e) (set ps i e) (set (set ps i e) e i)

-- what is left of the top frame
pub record Left : Type 0 where
  pub top : ℕ
  pub elses : List ℕ
  pub partners : List ℕ

abbrev pub left : ℕ → List ℕ → List ℕ → Left
left n ls ps = record { top = n; elses = ls; partners = ps }

abbrev pub opened : Left → List ℕ → List ℕ → Pass
opened l es ts = passed l.top es l.elses l.partners ts

-- an op that opens leaves the top frame; the lowest frame has no End, stays, and forgets its Else
unfoldable pub left_of : ℕ → ℕ → List ℕ → List ℕ → List ℕ → Left
unfolding pick pair_of
left_of i n es ls ps = pick (eqb n 0) (left n (set ls 0 nowhere) ps) (left (n - 1) ls (pair_of i (get_or es n 0) ps))

-- the op of row k at i: an End opens a frame, an Else is its frame's nearest. What has no partner leaves its blank entries
unfoldable pub pass_of : ℕ → ℕ → ℕ → List ℕ → List ℕ → List ℕ → List ℕ → Pass
unfolding pick left_of
pass_of k i n es ls ps ts =
    pick (ltb row.end k) (passed n es ls ps ts)
    (pick (eqb k row.end) (passed (n + 1) (set es (n + 1) i) (set ls (n + 1) nowhere) ps ts)
    (pick (eqb k row.else) (passed n es (set ls n i) (set ps i (get_or es n 0)) ts)
    (pick (eqb k row.if) (opened (left_of i n es ls ps) es (set ts i (get_or ls n 0)))
    (pick (eqb k row.while) (opened (left_of i n es ls ps) es ts)
    (pick (eqb k row.function) (opened (left_of i n es ls ps) es ts)
    (passed n es ls ps ts))))))

-- the marks so far, which stand from a place on
pub record Entered : Type 0 where
  pub first : ℕ
  pub marks : List ℕ

abbrev pub entered : ℕ → List ℕ → Entered
entered m fs = record { first = m; marks = fs }

-- a Function is entered before the marks that come after it
unfoldable pub entered_of : ℕ → ℕ → ℕ → List ℕ → Entered
unfolding pick
entered_of k i m fs = pick (eqb k row.function) (entered (m - 1) (set fs (m - 1) i)) (entered m fs)
