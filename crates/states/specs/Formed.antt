-- What 37 tests, of what a machine holds: the lent room, the limits, and 01's sentence on a well-formed state. Assumes nothing.
use Rattle.std.specs.Prelude.{Bool, true, ◌&&◌, ◌||◌, List, [], ◌∷◌, ℕ, ◌+◌, length, get_or, take, leb, ltb, eqb}
use Rattle.basics.specs.Limits.{most_marks, lanes, depth, farthest, longest, first_block}
use Rattle.kind_table.specs.Rows as row
use Rattle.machine_model.specs.State.{by_mark}
use Rattle.machine_numbers.specs.declared.numbers.Numbers.{Numbers}
use Rattle.machine_step.specs.Held.{Held}

-- "Lent room for register, table or channel below its limit is 37 too, also fresh"
unfoldable pub has_room : List ℕ → List ℕ → List ℕ → Bool
has_room g ts ch = leb lanes (length g) && leb most_marks (length ts) && leb depth (length ch)

-- 02, ask 4: "37 also for an unknown mode"
unfoldable pub is_mode : ℕ → Bool
is_mode m = leb m by_mark

-- what is tested of a fresh run
unfoldable pub can_start : ℕ → List ℕ → List ℕ → List ℕ → Bool
can_start m g ts ch = is_mode m && has_room g ts ch

-- 02, ask 12: the well-formed state "excludes those lengths", 1 to 29,999
unfoldable pub is_whole : ℕ → Bool
is_whole l = eqb l 0 || leb first_block l

-- "its limits hold"; the ring's first place is one of its places; the length is not one that 02 excludes; the call mode is known
unfoldable pub in_limits : Numbers → Bool
unfolding is_whole
in_limits p =
    leb p.pointer farthest && leb p.length longest && leb p.lanes lanes && leb p.functions most_marks
    && leb p.depth depth && leb p.saved depth && leb p.waiting depth && ltb p.first depth && is_mode p.mode && is_whole p.length

-- "position is at most the op count", "input place and output count fit their slices"
unfoldable pub in_place : Numbers → ℕ → ℕ → ℕ → Bool
in_place p ops inputs outputs = leb p.position ops && leb p.taken inputs && leb p.written outputs

-- every number of the list passes the test
unfoldable pub all_of : (ℕ → Bool) → List ℕ → Bool
all_of p [] = true
all_of p (x ∷ xs) = p x && all_of p xs

-- "saved calls are below the op count"
unfoldable pub calls_below : List ℕ → ℕ → ℕ → Bool
unfolding all_of
calls_below cs n ops = all_of (λ c. ltb c ops) (take n cs)

-- "saved pointers within limit"
unfoldable pub refs_within : List ℕ → ℕ → Bool
unfolding all_of
refs_within rs n = all_of (λ r. leb r farthest) (take n rs)

-- the places name Function marks, of the rows ks, and each is at least b, the first, and above the one before it
unfoldable pub names_from : List ℕ → ℕ → List ℕ → Bool
names_from ks b [] = true
names_from ks b (t ∷ ts) = leb b t && eqb (get_or ks t 0) row.function && names_from ks (t + 1) ts

-- "the function table rises strictly and names Function marks"
unfoldable pub table_names : List ℕ → ℕ → List ℕ → Bool
unfolding names_from
table_names ts n ks = names_from ks 0 (take n ts)

-- a well-formed state of a patch whose ops have the rows ks, with so many input values
unfoldable pub is_formed : List ℕ → ℕ → Held → Bool
is_formed ks inputs c =
    has_room c.register c.table c.channel && in_limits c.numbers && in_place c.numbers (length ks) inputs (length c.output)
    && calls_below c.calls c.numbers.depth (length ks) && refs_within c.refs c.numbers.saved
    && table_names c.table c.numbers.functions ks
