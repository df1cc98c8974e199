-- What reading a file answers. Assumes nothing.
use Rattle.std.specs.Prelude.{ℕ, cond, length, replicate, eqb, Result, Ok, Err}
use Rattle.basics.specs.Limits.{most_ops}
use Rattle.ops.specs.Refusals.{number_of, fault}
use Rattle.ops.specs.Patch.{Loaded}
use Rattle.ops.specs.declared.refusals.Fault.{Fault}
use Rattle.ops.specs.declared.refusals.Refusal.{Refusal}
use Rattle.patch_reader.specs.declared.reader.Read.{Read}
use Rattle.patch_reader.specs.declared.reader.Unread.{Unread}

-- columns with no op
unfoldable pub blank : Read
blank = record { rows = replicate most_ops 0; counts = replicate most_ops 0; needs = replicate most_ops 0; payloads = replicate most_ops 0 }

-- how many ops a good file holds; of another the number and place given back, and how many ops were read
unfoldable pub read_of : Loaded → Result ℕ Unread
read_of l = cond (eqb l.number 0) (Ok (length l.items)) (Err (record { number = l.number; place = l.place; ops = length l.items }))

unfoldable pub unread : Fault → ℕ → Unread
unread f n = record { number = number_of f.refusal; place = f.place; ops = n }

unfoldable pub refused_at : Refusal → ℕ → ℕ → Result ℕ Unread
unfolding unread
refused_at r p n = Err (unread (fault r p) n)
