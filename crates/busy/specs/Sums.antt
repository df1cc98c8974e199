-- The counts of a run, one for each op: a count raised, and whether the counts are those of a step total. Assumes nothing.
use Rattle.std.specs.Prelude.{Bool, true, ◌&&◌, ◌||◌, not, List, [], ◌∷◌, ℕ, ◌+◌, ◌-◌, min, leb, eqb}
use lib.ListN.{length, get_or}
use lib.ListN
use Rattle.kind_table.specs.Rows as row

-- 02, ask 11: "2 to the power 53"
abbrev pub most_steps : ℕ
most_steps = 9_007_199_254_740_992

-- "raised with that op's execution": the count of the op at place i, by one
unfoldable pub raised : List ℕ → ℕ → List ℕ
raised cs i = lib.ListN.set cs i (get_or cs i 0 + 1)

-- "a total equal to that ends a run with 50, in the budget's place": the steps that a run may make are its budget, or what is left of 2^53 if that is less
unfoldable pub allowed : ℕ → ℕ → ℕ
allowed budget total = min budget (most_steps - total)

-- the exact sum
unfoldable pub sum : List ℕ → ℕ
sum [] = 0
sum (c ∷ cs) = c + sum cs

-- of an op with this row: 37 when "a comment's is not zero"
unfoldable pub rests : ℕ → ℕ → Bool
rests k count = not (eqb k row.comment) || eqb count 0

unfoldable pub comments_rest : List ℕ → List ℕ → Bool
comments_rest [] cs = true
comments_rest (k ∷ ks) [] = true
comments_rest (k ∷ ks) (c ∷ cs) = rests k c && comments_rest ks cs

-- of a patch whose ops have the rows ks: 37 when "the counts are not one per op, a comment's is not zero, they do not add up to the state's step total, or
-- it is over 2 to the power 53"
unfoldable pub adds_up : List ℕ → List ℕ → ℕ → Bool
adds_up ks counts total =
    eqb (length counts) (length ks) && (leb total most_steps && (comments_rest ks counts && eqb (sum counts) total))
