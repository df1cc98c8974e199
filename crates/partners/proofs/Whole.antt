-- What reading a file leaves in all columns is the patch as it is read. Assumes nothing.
use mathlib.Core.Path.{◌≡◌, ◌∙◌, refl, ap, sym}
use mathlib.Core.Bool.{Bool, true, false, cond}
use mathlib.Core.List.{List, map}
use Prim.Native.Nat.{ℕ, ◌+◌, ◌-◌}
use native.Mathlib.Omega.{arith}
use lib.Dec.{eqb}
use lib.ListN.{length, take, replicate}
use Rattle.std.specs.Prelude.{Ok, Err}
use Rattle.basics.specs.Limits.{most_ops, most_marks}
use Rattle.byte_fields.specs.Storage.{fill}
use Rattle.ops.specs.Patch.{row_in, count_in, need_in, payload_in, patch_of}
use Rattle.patch_reader.specs.Answer.{read_of}
use Rattle.patch_reader.specs.declared.reader.Unread.{Unread}
use Rattle.file_laws.proofs.Loaded.{part_is}
use Rattle.partners.specs.Columns.{nowhere, partners_of, turns_of, functions_of, fill_end}
use Rattle.partners.specs.declared.patch.Patch.{Patch}
use Rattle.partners.specs.Read.{told_of, patch_read}

-- the ops that were read, in either case
pub told_ops : (s : List ℕ) (r : Unread) → r ≡ told_of (read_of (patch_of s)) → r.ops ≡ length (patch_of s).items
unfolding read_of
told_ops s r e = ap (λ (u : Unread). u.ops) e ∙ by (eqb (patch_of s).number 0)
  where
    by : (t : Bool) → (told_of (cond t (Ok (length (patch_of s).items)) (Err (record { number = (patch_of s).number; place = (patch_of s).place; ops = length (patch_of s).items })))).ops
        ≡ length (patch_of s).items
    by true = refl
    by false = refl

pub as_read : (s : List ℕ) (r : Unread) (ks ns ds ps : List ℕ)
    → (r ≡ told_of (read_of (patch_of s))) × ((ks ≡ fill (map row_in (patch_of s).items) (replicate most_ops 0)) × ((ns ≡ fill (map count_in (patch_of s).items) (replicate most_ops 0))
    × ((ds ≡ fill (map need_in (patch_of s).items) (replicate most_ops 0)) × (ps ≡ fill (map payload_in (patch_of s).items) (replicate most_ops 0)))))
    → (f : ℕ) (es ts fs : List ℕ)
    → (es ≡ fill (partners_of (take r.ops ks)) (replicate most_ops nowhere)) × ((ts ≡ fill (turns_of (take r.ops ks)) (replicate most_ops nowhere))
    × ((f + length (functions_of (take r.ops ks)) ≡ most_marks) × (fs ≡ fill_end (functions_of (take r.ops ks)) (replicate most_marks nowhere))))
    → ◌≡◌ {A = Patch}
    (record { rows = ks; counts = ns; needs = ds; payloads = ps; partners = es; turns = ts; marks = fs; first = f; number = r.number; place = r.place; ops = r.ops })
    (patch_read s)
unfolding patch_read
as_read s r ks ns ds ps l f es ts fs p =
    let k = part_is s r.ops (told_ops s r l.0) row_in ks (replicate most_ops 0) l.1.0 in
    let a : f ≡ most_marks - length (functions_of (map row_in (patch_of s).items)) = omega (arith, ap (λ (x : List ℕ). f + length (functions_of x)) (sym k) ∙ p.1.1.0) in
    rw (p.0, p.1.0, p.1.1.1, a, k, l.1.0, l.1.1.0, l.1.1.1.0, l.1.1.1.1, l.0) refl
