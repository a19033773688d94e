-- `fields::lines::is_blank` meets its contract: each byte passes the test.
use Rattle.std.proofs.Common.{rules, tests}
use Rattle.std.proofs.lemmas.Iterator.{YieldsList-from_slice}
use Rattle.std.proofs.lemmas.Iterator.Search.{all_from_yields_List}
use Rattle.fields.proofs.LineLaws.{blank, blank_is}
use Rattle.fields.proofs.lines.is_blank.Goals as goal

pub returns : goal.returns
returns c =
    blank_is c.args.line.now (all_from_yields_List blank _ _ c.all.result c.all.ensures.ran (YieldsList-from_slice c.args.line.now cc) (λ x b q k. search (rules, tests)))
