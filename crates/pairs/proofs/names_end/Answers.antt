-- `pairs::names_end` meets its contract: where the windows found nothing out, one name and then the other.
use Rattle.layout.specs.Ensures.{NameEnd}
use Rattle.layout.proofs.EndLaws.{end_as}
use Rattle.pairs.specs.Pairs.{Names}
use Rattle.pairs.proofs.PairLaws.{names_second}
use Rattle.pairs.proofs.names_end.Goals as goal

pub returns : goal.returns
returns c =
    let s = c.args.s.now in
    let second = c.in_ok-second in
    end_as (NameEnd 0 20 s second.second) (Names s c.args.at) _ c.name_end-2.ensures (λ r q. names_second s c.args.at second.ensures.0 second.ensures.1 q)
