-- `flattening::numbering::Scope::pass` meets its contract. Assumes nothing.
use Rattle.std.proofs.Common.{ℕ, List, ap, Some, arith}
use Rattle.flattening.specs.Scope.{row_note, leads_to, place}
use Rattle.flattening.proofs.NumberingLoop.{entered}
use Rattle.flattening.proofs.numbering.Scope.pass.Goals as goal

pub returns-in-2-clause-value : goal.returns-in-2-clause-value
unfolding row_note leads_to
returns-in-2-clause-value c =
    let s = c.args.self.now in
    rw (c.in-2.is) (ap (λ (st : List (ℕ × ℕ)). Some (place c.args.here 0 st)) (entered s.depth s.around s.body s.brackets (omega arith)))
