-- `figures::zeros_behind` meets its contract: each byte behind the second decimal is a 0.
use Rattle.std.proofs.Common.{◌==◌, rules, tests}
use Rattle.std.proofs.lemmas.Iterator.{YieldsList-from_slice}
use Rattle.std.proofs.lemmas.Iterator.Adapters.{YieldsList-from_skip}
use Rattle.std.proofs.lemmas.Iterator.Search.{all_from_yields_List}
use Rattle.figures.proofs.AmountLaws.{zeros_are}
use Rattle.figures.proofs.zeros_behind.Goals as goal

pub returns : goal.returns
returns c =
    zeros_are c.args.s.now (all_from_yields_List (λ b. b == 48) _ _ c.all.result c.all.ensures.ran
    (YieldsList-from_skip 2 (YieldsList-from_slice c.args.s.now cc) c.skip.ensures.count) (λ x b q k. search (rules, tests)))
