-- Flattening into the caller's list: its entries are three lists of numbers side by side. Assumes nothing.
use Rattle.std.specs.Prelude.{ℕ, zero, suc, min, List, [], ◌∷◌, ◌++◌, map, length, get_or, drop}
use Rattle.basics.specs.Limits.{most_marks}
use Rattle.answers.specs.Flatten.{Flattening, number_of, place_of, bytes_of, bodies_of}
use Rattle.flattening.specs.Flattened.{Outcome, number_in, first_in, count_in, flatten_of}
use Rattle.flattening.specs.declared.body.Body.{Body}
use Rattle.flattening.specs.declared.export.Report.{Report}
use Rattle.flattening.specs.declared.flatten.Columns.{Columns}

abbrev pub entry : ℕ → ℕ → ℕ → Body
entry n f c = record { number = n; first = f; count = c }

-- the entries that three lists are, side by side
abbrev pub beside : List ℕ → List ℕ → List ℕ → List Body
beside [] fs cs = []
beside (n ∷ ns) [] cs = []
beside (n ∷ ns) (f ∷ fs) [] = []
beside (n ∷ ns) (f ∷ fs) (c ∷ cs) = entry n f c ∷ beside ns fs cs

-- the answer, the lent bytes, and the lent list
pub record Listing : Type 0 where
  pub answer : Flattening
  pub out : List ℕ
  pub bodies : List Body

abbrev pub listing : Flattening → List ℕ → List Body → Listing
listing a o l = record { answer = a; out = o; bodies = l }

abbrev pub in_list : Outcome → Listing
in_list x = listing x.answer x.out (beside x.numbers x.firsts x.counts)

-- "an entry of number, first op and op count in the caller's list": the list is flattened into as the lists of its numbers, firsts and counts
unfoldable pub flatten_to : List ℕ → List ℕ → List Body → Listing
flatten_to s o l = in_list (flatten_of s o (map number_in l) (map first_in l) (map count_in l))

-- what a caller in another language is told
abbrev pub report_of : Flattening → Report
report_of a = record { number = number_of a; place = place_of a; bytes = bytes_of a; bodies = bodies_of a }

-- ---- the work in columns

-- the room that counts: no patch has more marks than "256 Function marks"
abbrev pub room_of : ℕ → ℕ
room_of n = min n most_marks

-- one entry, and the first n
abbrev pub entry_of : List ℕ → List ℕ → List ℕ → ℕ → Body
entry_of ns fs cs i = entry (get_or ns i 0) (get_or fs i 0) (get_or cs i 0)

unfoldable pub entries_of : List ℕ → List ℕ → List ℕ → ℕ → List Body
entries_of ns fs cs zero = []
entries_of ns fs cs (suc n) = entries_of ns fs cs n ++ (entry_of ns fs cs n ∷ [])

abbrev pub entry_at : Columns → ℕ → Body
entry_at c i = entry_of c.numbers c.firsts c.counts i

abbrev pub entries_in : Columns → ℕ → List Body
entries_in c n = entries_of c.numbers c.firsts c.counts n

-- entries written over the start of a list, which keeps the rest
unfoldable pub over : List Body → List Body → List Body
over new old = new ++ drop (length new) old
