-- The place w that the column ps holds for the op at place i of the rows ks is the one that its search finds. Assumes nothing.
use mathlib.Core.Path.{◌≡◌, ◌∙◌, refl}
use mathlib.Core.List.{List}
use Prim.Native.Nat.{ℕ, ◌+◌, ◌<◌}
use native.Mathlib.Omega.{arith}
use lib.ListN.{length, get_or}
use Rattle.kind_table.specs.Rows as row
use Rattle.partners.specs.Columns.{Places, end_of, else_of, open_of, turns_of, functions_of, first_of}
use Rattle.partners.proofs.Stored as stored
use Rattle.control_ops.specs.CanSteer.{Steers}

module _ {i w : ℕ} {ks ps : List ℕ} (e : w ≡ get_or ps i 0) where
  places : {k : ℕ} {ts : List ℕ} → ts ≡ turns_of ks → Steers k i ks ps → Places ks i w ts (functions_of ks)
  places t s = record { partner = e ∙ s.partner; turns = t; marks = refl }

  pub function_end : Steers row.function i ks ps → w ≡ end_of ks (i + 1)
  function_end s = stored.function_end _ _ _ _ _ (places refl s) s.row

  pub while_end : Steers row.while i ks ps → w ≡ end_of ks (i + 1)
  while_end s = stored.while_end _ _ _ _ _ (places refl s) s.row

  pub else_end : Steers row.else i ks ps → w ≡ end_of ks (i + 1)
  else_end s = stored.else_end _ _ _ _ _ (places refl s) s.row

  pub end_open : Steers row.end i ks ps → w ≡ open_of ks i
  end_open s = stored.end_open _ _ _ _ _ (places refl s) s.row

  module _ {ts : List ℕ} (t : ts ≡ turns_of ks) (s : Steers row.if i ks ps) where
    pub turn_here : i < length ts
    turn_here = stored.turn_here _ _ _ _ _ (places t s) s.here

    pub if_jump : first_of (get_or ts i 0) w ≡ else_of ks (i + 1)
    if_jump = stored.if_jump _ _ _ _ _ (places t s) s.here (omega (arith, s.few_ops)) s.row
