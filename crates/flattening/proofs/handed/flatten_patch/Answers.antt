-- `flattening::handed::flatten_patch` meets its contract. Assumes nothing.
use mathlib.Core.Path.{refl, sym}
use lib.Seq.{length-take-le}
use Rattle.flattening.specs.Handed.{flatten_patch_of}
use Rattle.flattening.proofs.HandedOn.{fits_in}
use Rattle.flattening.proofs.handed.flatten_patch.Goals as goal

pub slice_bounds-read-end : goal.slice_bounds-read-end
slice_bounds-read-end c = rw c.bytes_of.ensures (fits_in _ _ _ _ _ _ c.flatten_numbers-answer.ensures)

pub slice_bounds-read-end-2 : goal.slice_bounds-read-end-2
slice_bounds-read-end-2 c = sym (length-take-le _ _ (rw c.bytes_of.ensures (fits_in _ _ _ _ _ _ c.flatten_numbers-answer.ensures)))

pub returns : goal.returns
unfolding flatten_patch_of
returns c =
    let j = c.flatten_numbers-answer.ensures in
    rw (c.read-patch.ensures, c.bytes_of.ensures, ← j) refl
