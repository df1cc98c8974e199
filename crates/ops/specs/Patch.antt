-- What a patch file holds: its ops by row and place, and the number and place of its first refusal. Assumes nothing.
use Rattle.std.specs.Prelude.{ℕ, zero, suc, ◌+◌, cond, List, [], ◌∷◌, length, ltb, eqb, Result, Ok, Err}
use Rattle.basics.specs.Limits.{most_bytes, most_ops, most_marks}
use Rattle.kind_table.specs.Rows as row
use Rattle.kind_table.specs.Kinds.{run_need}
use Rattle.ops.specs.Refusals.{number_of}
use Rattle.ops.specs.Record.{record_at}
use Rattle.ops.specs.declared.refusals.Refusal.{Refusal}
use Rattle.ops.specs.declared.refusals.Refusal.TheVariants.{TooManyOps, TooManyMarks, FileTooLong}
use Rattle.ops.specs.declared.refusals.Fault.{Fault}
use Rattle.ops.specs.declared.records.Record.{Record}

-- an op as it is read: the row of its kind, what its payload counts, and its payload's first byte
pub record Item : Type 0 where
  pub row : ℕ
  pub count : ℕ
  pub payload : ℕ

abbrev pub item : ℕ → ℕ → ℕ → Item
item k n p = record { row = k; count = n; payload = p }

abbrev pub row_in : Item → ℕ
row_in i = i.row

abbrev pub count_in : Item → ℕ
count_in i = i.count

abbrev pub payload_in : Item → ℕ
payload_in i = i.payload

-- the lanes that a run of it needs
abbrev pub need_in : Item → ℕ
need_in i = run_need i.row i.count

-- the ops before the first refusal, and that refusal's number and place; 0 where there is none
pub record Loaded : Type 0 where
  pub items : List Item
  pub number : ℕ
  pub place : ℕ

abbrev pub ending : ℕ → ℕ → Loaded
ending n p = record { items = []; number = n; place = p }

abbrev pub stop : Refusal → ℕ → Loaded
stop r p = ending (number_of r) p

abbrev pub push : Item → Loaded → Loaded
push i l = record { items = i ∷ l.items; number = l.number; place = l.place }

-- 1 for a Function mark
unfoldable pub mark_of : ℕ → ℕ
mark_of k = cond (eqb k row.function) 1 0

-- the record at p after m marks, and what follows it: "256 Function marks"
abbrev pub on_record : Result Record Fault → ℕ → ℕ → (ℕ → ℕ → Loaded) → Loaded
on_record (Err f) p m rest = stop f.refusal f.place
on_record (Ok r) p m rest =
    cond (ltb most_marks (m + mark_of r.row)) (stop TooManyMarks p) (push (item r.row r.count r.body) (rest (m + mark_of r.row) r.next))

-- the same where no more op may stand: a bad record gives its own number
abbrev pub on_full : Result Record Fault → ℕ → Loaded
on_full (Err f) p = stop f.refusal f.place
on_full (Ok r) p = stop TooManyOps p

-- from byte p on, where `left` more ops may stand and m marks stood before: "the first bad record, whose first byte is the place"
abbrev pub walk : List ℕ → ℕ → ℕ → ℕ → Loaded
walk s zero m p = cond (ltb p (length s)) (on_full (record_at s p) p) (ending 0 0)
walk s (suc left) m p = cond (ltb p (length s)) (on_record (record_at s p) p m (walk s left)) (ending 0 0)

-- "file 65,536 bytes; 4,096 ops", "9 first"
unfoldable pub patch_of : List ℕ → Loaded
patch_of s = cond (ltb most_bytes (length s)) (stop FileTooLong 0) (walk s most_ops 0 0)
