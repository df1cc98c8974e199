-- A patch that was handed on is run as it is read: its columns are those of its bytes. Assumes nothing.
use mathlib.Core.Path.{◌≡◌, ◌∙◌, refl, sym}
use mathlib.Core.List.{List, map}
use Prim.Native.Nat.{ℕ, ◌+◌, ◌-◌, ◌≤◌}
use native.Mathlib.Omega.{arith}
use lib.ListN.{length, take, drop, replicate, length-replicate}
use lib.Dec.{eqb}
use borrow.Author.Tests.{eqb-true, ne_eqb}
use Rattle.basics.proofs.Tests.{by_case}
use Rattle.basics.specs.Limits.{most_ops, most_marks}
use Rattle.byte_fields.specs.Storage.{fill}
use Rattle.ops.specs.Patch.{row_in, count_in, need_in, payload_in, Loaded, patch_of}
use Rattle.answers.specs.declared.run.Answer.TheVariants.{BadFile}
use Rattle.patch_reader.specs.Answer.{read_of}
use Rattle.file_laws.proofs.Loaded.{few, part_is, part_length}
use Rattle.partners.specs.Columns.{nowhere, partners_of, turns_of, functions_of, fill_end}
use Rattle.partners.specs.Read.{told_of, patch_read}
use Rattle.partners.specs.declared.patch.Patch.{Patch}
use Rattle.partners.proofs.Whole.{told_ops}
use Rattle.partners.proofs.Lent.{few_functions, end_long}
use Rattle.machine_step.specs.Held.{code}
use Rattle.machine_run.specs.Ready.{IsRead}
use Rattle.machine.specs.Calls.{Tallied, ended, run_call}
use Rattle.machine.proofs.Called.{run_bad, is_loaded, is_read}

-- number, place and ops of what reading answered are those of the file
told_number : (l : Loaded) → (told_of (read_of l)).number ≡ l.number
unfolding read_of
told_number l = by_case (eqb l.number 0) (λ t. rw t (sym (eqb-true l.number 0 t))) (λ f. rw f refl)

pub told_place : (l : Loaded) → (l.number ≡ 0 → ⊥) → (told_of (read_of l)).place ≡ l.place
unfolding read_of
told_place l z = rw (ne_eqb l.number 0 z) refl

module _ (s : List ℕ) (q : Patch) (e : q ≡ patch_read s) where
  -- what reading answered
  pub many : q.ops ≡ length (patch_of s).items
  unfolding patch_read
  many = rw e (told_ops s _ refl)

  pub number_is : q.number ≡ (patch_of s).number
  unfolding patch_read
  number_is = rw e (told_number (patch_of s))

  pub loaded : (q.rows ≡ fill (map row_in (patch_of s).items) (replicate most_ops 0)) × ((q.counts ≡ fill (map count_in (patch_of s).items) (replicate most_ops 0))
      × ((q.needs ≡ fill (map need_in (patch_of s).items) (replicate most_ops 0)) × (q.payloads ≡ fill (map payload_in (patch_of s).items) (replicate most_ops 0))))
  unfolding patch_read
  loaded = rw e (refl, (refl, (refl, refl)))

  rows_are : take q.ops q.rows ≡ map row_in (patch_of s).items
  rows_are = part_is s q.ops many row_in q.rows (replicate most_ops 0) loaded.0

  op_rows : q.ops ≡ length (take q.ops q.rows)
  op_rows = part_length s q.ops many row_in q.rows (replicate most_ops 0) loaded.0

  pub found : (q.partners ≡ fill (partners_of (take q.ops q.rows)) (replicate most_ops nowhere)) × ((q.turns ≡ fill (turns_of (take q.ops q.rows)) (replicate most_ops nowhere))
      × ((q.first + length (functions_of (take q.ops q.rows)) ≡ most_marks) × (q.marks ≡ fill_end (functions_of (take q.ops q.rows)) (replicate most_marks nowhere))))
  unfolding patch_read
  found = rw rows_are (rw e (refl, (refl, (omega (arith, few_functions s), refl))))

  pub many_marks : length q.marks ≡ most_marks
  many_marks = let n = length-replicate {A = ℕ} most_marks nowhere in end_long _ _ _ q.first (found.1.1.0 ∙ sym n) found.1.1.1 ∙ n

  pub is_handed : q.number ≡ 0
      → IsRead s (code (take q.ops q.rows) (take q.ops q.counts) (take q.ops q.needs) (take q.ops q.payloads) (take q.ops q.partners) (take q.ops q.turns) (take (length q.marks - q.first) (drop q.first q.marks)) s)
  is_handed z =
      let l = is_loaded s q.ops (sym number_is ∙ z) many _ _ _ _ loaded.0 loaded.1.0 loaded.1.1.0 loaded.1.1.1 in
      rw many_marks (is_read s _ _ _ _ l q.ops op_rows _ _ _ _ _ _ _ found (length-replicate {A = ℕ} most_marks nowhere))

  -- what is lent is within the columns
  pub few_handed : q.ops ≤ most_ops
  few_handed = few s q.ops many

  pub marks_fit : q.first ≤ length q.marks
  marks_fit = omega (arith, many_marks, found.1.1.0)

  pub handed_bad : (input : List ℕ) → (q.number ≡ 0 → ⊥) → (n : ℕ) (w : Tallied) → ended (BadFile q.number q.place) 0 w ≡ run_call s input n w
  unfolding patch_read
  handed_bad input z = let b = λ (y : (patch_of s).number ≡ 0). z (number_is ∙ y) in run_bad s input number_is (rw e (told_place (patch_of s) b)) b
