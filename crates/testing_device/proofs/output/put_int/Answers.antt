-- `testing_device::output::put_int` meets its contract. Assumes nothing.
use Rattle.std.proofs.Common.{ℕ, List, drop, ap, ◌∙◌, arith, length-drop, take_all}
use Rattle.testing_device.specs.Room.{put_in}
use Rattle.testing_device.proofs.output.put_int.Goals as goal

pub returns : goal.returns
returns c =
    let a = c.args in let t = c.text_of-text in let r = t.result in
    c.place.ensures
    ∙ ap (λ (l : List ℕ). put_in l a.output.now a.count) (take_all _ (drop r.from r.chars) (omega (arith, length-drop r.from r.chars)) ∙ t.ensures.0)
