-- `states::formed::refs_within` meets its contract. Assumes nothing.
use mathlib.Core.Path.{◌∙◌}
use lib.Dec.{leb}
use lib.ListN.{take}
use Rattle.std.proofs.lemmas.Iterator.{YieldsList-from_slice}
use Rattle.std.proofs.lemmas.Iterator.Search.{all_from_yields_List}
use Rattle.basics.specs.Limits.{farthest}
use Rattle.basics.proofs.Tests.{tests}
use Rattle.states.specs.Formed.{refs_within}
use Rattle.states.proofs.Entries.{all_is}
use Rattle.states.proofs.formed.refs_within.Goals as goal

pub returns : goal.returns
unfolding refs_within
returns c =
    all_from_yields_List (λ pointer. leb pointer farthest) _ _ _ c.all.ensures.ran (YieldsList-from_slice (take c.args.n c.args.refs.now) (cc)) (λ x b q k. search tests)
    ∙ all_is (λ pointer. leb pointer farthest) (take c.args.n c.args.refs.now)
