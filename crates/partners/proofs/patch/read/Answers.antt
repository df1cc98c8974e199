-- `partners::patch::read` meets its contract. Assumes nothing.
use mathlib.Core.Path.{◌≡◌, ◌∙◌, ap}
use lib.ListN.{length}
use Rattle.ops.specs.Patch.{row_in, patch_of}
use Rattle.patch_reader.specs.Answer.{blank}
use Rattle.file_laws.proofs.Loaded.{few, part_few, part_is}
use Rattle.partners.specs.Read.{told_of}
use Rattle.partners.proofs.Lent.{few_functions}
use Rattle.partners.proofs.Whole.{told_ops, as_read}
use borrow.Author.Rules.{rules}
use Rattle.partners.proofs.patch.read.Goals as goal
use Rattle.partners.proofs.patch.read.Goals.{After-told-r}

many : (c : After-told-r) → c.told-r.result.ops ≡ length (patch_of c.args.bytes.now).items
many c = told_ops _ _ (c.told-r.ensures ∙ ap told_of c.load-answer.ensures.value)

pub shared_ref_as_front-find_partners : goal.shared_ref_as_front-find_partners
shared_ref_as_front-find_partners c = few _ _ (many (goal.at.shared_ref_as_front-find_partners c).After-told-r)

pub find_partners-first-requires : goal.find_partners-first-requires
find_partners-first-requires c =
    let l = c.load-answer.ensures in
    let n = many (goal.at.find_partners-first-requires c).After-told-r in
    (part_few _ _ n row_in _ _ l.rows_after, search rules, search rules, rw (part_is _ _ n row_in _ _ l.rows_after) (few_functions _))

pub returns : goal.returns
unfolding blank
returns c =
    let l = c.load-answer.ensures in
    let b = c.blank-read.ensures in
    let p = c.find_partners-first.ensures in
    as_read _ _ _ _ _ _
    (c.told-r.ensures ∙ ap told_of l.value, (rw b at l.rows_after, (rw b at l.counts_after, (rw b at l.needs_after, rw b at l.payloads_after))))
    _ _ _ _ (p.partners_after, (p.turns_after, p.rows_value))
