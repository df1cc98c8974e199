-- The patch as it is read, as the code holds it: its columns over blank ones. Assumes nothing.
use Rattle.std.specs.Prelude.{Result, Ok, Err, List, map, ℕ, ◌-◌, length, replicate}
use Rattle.basics.specs.Limits.{most_ops, most_marks}
use Rattle.byte_fields.specs.Storage.{fill}
use Rattle.ops.specs.Patch.{row_in, count_in, need_in, payload_in, patch_of}
use Rattle.patch_reader.specs.Answer.{read_of}
use Rattle.patch_reader.specs.declared.reader.Unread.{Unread}
use Rattle.partners.specs.Columns.{nowhere, partners_of, turns_of, functions_of, fill_end}
use Rattle.partners.specs.declared.patch.Patch.{Patch}

-- number, place and ops of what reading answered: of a good file 0 and the op count
abbrev pub told_of : Result ℕ Unread → Unread
told_of (Ok n) = record { number = 0; place = n; ops = n }
told_of (Err u) = u

-- the file s: its number, place and ops, and of each op what is read of it; where it is bad, of the ops before the fault
unfoldable pub patch_read : List ℕ → Patch
patch_read s =
    let xs = (patch_of s).items in
    let ks = map row_in xs in
    let r = told_of (read_of (patch_of s)) in
    record {
      rows = fill ks (replicate most_ops 0);
      counts = fill (map count_in xs) (replicate most_ops 0);
      needs = fill (map need_in xs) (replicate most_ops 0);
      payloads = fill (map payload_in xs) (replicate most_ops 0);
      partners = fill (partners_of ks) (replicate most_ops nowhere);
      turns = fill (turns_of ks) (replicate most_ops nowhere);
      marks = fill_end (functions_of ks) (replicate most_marks nowhere);
      first = most_marks - length (functions_of ks);
      number = r.number;
      place = r.place;
      ops = r.ops;
    }
