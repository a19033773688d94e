-- `relation_words::runs::quote_end` meets its contract: no quote up to the one that it finds.
use Rattle.std.proofs.Common.{rules, tests}
use Rattle.relation_words.proofs.StretchLaws.{stretched_on}
use Rattle.relation_words.proofs.RunLaws.{quote_run}
use Rattle.relation_words.proofs.runs.quote_end.Goals as goal

pub returns : goal.returns
returns c =
    let s = c.stretch_end.ensures in
    quote_run (stretched_on s.on s.most (λ i h. let e = s.each i h in record { is = search (rules, tests) })) (λ h. let e = s.next h in record { is = search (rules, tests) })
