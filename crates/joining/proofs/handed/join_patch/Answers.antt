-- `joining::handed::join_patch` meets its contract. Assumes nothing.
use mathlib.Core.Path.{refl, sym}
use lib.Seq.{length-take-le}
use Rattle.joining.specs.Handed.{join_patch_of}
use Rattle.joining.proofs.HandedOn.{fits_in}
use Rattle.joining.proofs.handed.join_patch.Goals as goal

pub slice_bounds-read-end : goal.slice_bounds-read-end
slice_bounds-read-end c = rw c.length_of-length.ensures (fits_in _ _ _ c.join-answer.ensures)

pub slice_bounds-read-end-2 : goal.slice_bounds-read-end-2
slice_bounds-read-end-2 c = sym (length-take-le _ _ (rw c.length_of-length.ensures (fits_in _ _ _ c.join-answer.ensures)))

pub returns : goal.returns
unfolding join_patch_of
returns c =
    let j = c.join-answer.ensures in
    rw (c.read-patch.ensures, c.length_of-length.ensures, ← j) refl
