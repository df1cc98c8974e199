-- `flattening::flatten::flatten` meets its contract. Assumes nothing.
use Rattle.std.proofs.Common.{◌≡◌, length, min}
use borrow.Author.Rules.{rules}
use Rattle.flattening.proofs.Entries.{list_made}
use Rattle.flattening.proofs.flatten.flatten.Goals as goal

pub write_entries-requires : goal.write_entries-requires
write_entries-requires c =
    let w = c.flatten_numbers-answer in
    let n : c.min-n.result ≡ min (length c.args.bodies.now) 256 = search rules in
    rw c.bodies_of.ensures (list_made _ _ _ _ _ _ _ _ _ n w.auto.numbers w.auto.firsts w.auto.counts w.ensures).0

pub returns : goal.returns
returns c =
    let w = c.flatten_numbers-answer in
    let n : c.min-n.result ≡ min (length c.args.bodies.now) 256 = search rules in
    let m = list_made _ _ _ _ _ _ _ _ _ n w.auto.numbers w.auto.firsts w.auto.counts w.ensures in
    rw (c.write_entries.ensures, c.bodies_of.ensures) m.1
