-- `lane_loops::loops::swap_lanes` meets its contract. Assumes nothing.
use Rattle.lane_loops.proofs.LaneLoops.{zip_beside}
use Rattle.lane_loops.proofs.loops.swap_lanes.Goals as goal

pub returns : goal.returns
returns c =
    let r = c.requires in
    let s = c.swap_with_slice.ensures in
    record { register_after = rw s.after (zip_beside _ _ _ r.n_in_bounds r.n_in_bounds_2); cells_after = rw s.other_after (zip_beside _ _ _ r.n_in_bounds_2 r.n_in_bounds) }
