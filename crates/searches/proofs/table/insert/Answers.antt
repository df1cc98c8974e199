-- `searches::table::insert` meets its contract: after each turn the `moved` entries from i on stand one place higher. Assumes nothing.
use mathlib.Core.Path.{◌≡◌}
use Prim.Native.Nat.{◌+◌, ◌-◌, ◌≤◌}
use native.Mathlib.Omega.{arith}
use lib.ListN.{length, take}
use Rattle.machine_model.specs.Formed.{Rising}
use Rattle.searches.specs.Found.{above}
use Rattle.searches.proofs.Tables.{room_begins, room_goes, higher, entered_new}
use Rattle.searches.proofs.table.insert.Goals as goal
use Rattle.searches.proofs.table.insert.Goals.{Start}

rises : (c : Start) → let a = c.args in (a.n ≤ length a.table.now) × Rising (take a.n a.table.now)
rises c = (omega arith, c.requires.1)

above-it : (c : Start) → let a = c.args in a.at + above a.v (take a.n a.table.now) ≡ a.n
above-it c = higher _ _ _ (rises c) _ c.requires.2

pub loop-i-init : goal.loop-i-init
loop-i-init c = (omega (arith, above-it c), omega arith, room_begins _ _ c.requires.0)

pub loop-i-preserved : goal.loop-i-preserved
loop-i-preserved c =
    let turn = c.loop-i in
    let goes = room_goes c.args.n c.args.table.now c.requires.0 turn.i in
    let e : turn.i - 1 + 1 ≡ turn.i = omega arith in
    (omega arith, omega arith, rw e (goes _ turn.table (omega arith) (omega arith) turn.invariant.2))

pub returns : goal.returns
returns c =
    let turn = c.loop-i in
    let all = above-it (goal.at.returns c).Start in
    (omega arith, entered_new _ _ _ (rises (goal.at.returns c).Start) _ c.requires.2 c.requires.0 turn.i turn.table (omega arith) turn.invariant.2)
