-- `states::formed::calls_below` meets its contract. Assumes nothing.
use mathlib.Core.Path.{◌∙◌}
use lib.Dec.{ltb}
use lib.ListN.{take}
use Rattle.std.proofs.lemmas.Iterator.{YieldsList-from_slice}
use Rattle.std.proofs.lemmas.Iterator.Search.{all_from_yields_List}
use Rattle.basics.proofs.Tests.{tests}
use Rattle.states.specs.Formed.{calls_below}
use Rattle.states.proofs.Entries.{all_is}
use Rattle.states.proofs.formed.calls_below.Goals as goal

pub returns : goal.returns
unfolding calls_below
returns c =
    all_from_yields_List (λ call. ltb call c.args.ops) _ _ _ c.all.ensures.ran (YieldsList-from_slice (take c.args.n c.args.calls.now) (cc)) (λ x b q k. search tests)
    ∙ all_is (λ call. ltb call c.args.ops) (take c.args.n c.args.calls.now)
