-- The stored places of a patch are those that the model's searches find, for every list of ops, those that fail the check too; and a function table has no
-- more entries than there are marks. Assumes nothing.
use mathlib.Core.Path.{◌≡◌, ◌∙◌, refl, ap, sym}
use mathlib.Core.Bool.{Bool}
use mathlib.Core.List.{List}
use Prim.Native.Nat.{ℕ, suc, ◌≤◌, ◌<◌}
use native.Mathlib.Omega.{arith}
use native.Mathlib.Numerals.{add-one}
use lib.ListN.{length, get_or, take, drop, get_or-map}
use lib.Seq.{length-take-le}
use Rattle.basics.specs.Pick.{pick}
use Rattle.kind_table.specs.Rows as row
use Rattle.ops.specs.Syntax.{Op, Bracket, bracket}
use Rattle.ops.specs.Syntax.Bracket.{flat}
use Rattle.machine_model.specs.Scan.{op_at, brackets, functions, to_else, kth, places_from}
use Rattle.machine_model.proofs.Scans.{brackets_at}
use Rattle.machine_model.proofs.Table.{marks_few}
use Rattle.partners.specs.Columns.{row_bracket, place, partner_by, partner_at, partners_of, turns_of, functions_of, first_of, nth_of, else_of, mark_of}
use Rattle.partners.proofs.Stored.{partner_at_lem, if_jump}
use Rattle.partners.proofs.Marks.{nth_mark, count_places}
use Rattle.machine_step.specs.Held.{Held}
use Rattle.bridge.specs.Decoded.{code_of, patch_in, given_to}
use Rattle.bridge.specs.Fits.{Fits}
use Rattle.bridge.proofs.Control.{Rows}
use Rattle.bridge.proofs.Decoded.{rows}

-- ps, ts and fs hold what the searches find over the ops os, whose kinds have the rows ks: of each op the End that `to_end` finds or the op that
-- `to_open` finds, by what it is to a search; of an If, its Else or else its End, what `to_else` finds; of the k-th mark what `kth` finds
pub record Searched (os : List Op) (ks ps ts fs : List ℕ) : Type 0 where
  pub partners : (i : ℕ) → i < length os → get_or ps i 0 ≡ place (partner_by (bracket (op_at os i)) (brackets os) i)
  pub elses : (i : ℕ) → i < length os → get_or ks i 0 ≡ row.if → first_of (get_or ts i 0) (get_or ps i 0) ≡ place (to_else (suc i) 0 (drop (suc i) (brackets os)))
  pub marks : (k : ℕ) → nth_of k fs ≡ place (kth 0 k (functions os))

pub partners_are_the_searches : (os : List Op) (ks : List ℕ) → Rows os ks → Searched os ks (partners_of ks) (turns_of ks) (functions_of ks)
unfolding partner_at else_of mark_of row_bracket pick
partners_are_the_searches os ks r = record {
  partners = λ i h.
      let here : i < length ks = omega (arith, h, r.many) in
      let b : row_bracket (get_or ks i 0) ≡ bracket (op_at os i) = sym (get_or-map row_bracket ks i 0) ∙ ap (λ (l : List Bracket). get_or l i flat) (sym r.marked) ∙ brackets_at os i in
      (partner_at_lem ks (partners_of ks) refl i here).1 ∙ rw (b, r.marked) refl;
  elses = λ i h e.
      let here : i < length ks = omega (arith, h, r.many) in
      let p = (partner_at_lem ks (partners_of ks) refl i here).1 in
      if_jump ks i (get_or (partners_of ks) i 0) (turns_of ks) (functions_of ks) (record { partner = p; turns = refl; marks = refl }) here (omega (arith, r.few)) e
      ∙ rw (add-one i, r.marked) refl;
  marks = λ k. nth_mark ks k ∙ rw r.entered refl;
}

-- so it is of every file
pub stored_as_searched : (s : List ℕ) → Searched (patch_in s) (code_of s).rows (code_of s).partners (code_of s).turns (code_of s).marks
unfolding code_of
stored_as_searched s = partners_are_the_searches (patch_in s) (code_of s).rows (rows s)

-- the table has no more entries than there are marks
pub few_entries : (s input : List ℕ) (c : Held) → Fits s input c → c.numbers.functions ≤ length (functions_of (code_of s).rows)
unfolding functions_of
few_entries s input c h =
    let ts = take c.numbers.functions c.table in
    omega (
      arith,
      marks_few (given_to s input c) ts h.formed.rising h.formed.marked,
      length-take-le c.numbers.functions c.table h.counted.functions,
      count_places 0 (functions (patch_in s)),
      ap (λ (bs : List Bool). length (places_from 0 bs)) (rows s).entered,
    )
