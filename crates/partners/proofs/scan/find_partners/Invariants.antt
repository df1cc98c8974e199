-- `partners::scan::find_partners` meets its contract. Assumes nothing.
use Rattle.partners.specs.Pass.{passed}
use Rattle.partners.proofs.Kept.{Kept}
use Rattle.partners.proofs.Marks.{Marks}
use Rattle.partners.proofs.scan.find_partners.Given as goal

abbrev pub invariant-scan : goal.invariant-scan
invariant-scan l =
    Kept l.rows l.i (passed l.frames.top l.frames.ends l.frames.elses l.partners l.turns) × Marks l.rows l.initial.marks l.i l.m l.marks

abbrev pub decreases-scan : goal.decreases-scan
decreases-scan l = l.i
