-- `relation_words::runs::token_end` meets its contract: up to the first byte that the token does not reach over.
use Rattle.std.proofs.Common.{rules, tests}
use Rattle.relation_words.proofs.RunLaws.{token_run}
use Rattle.relation_words.proofs.runs.token_end.Goals as goal

pub returns : goal.returns
returns c = let s = c.stretch_end.ensures in token_run s.on s.most (λ i h. let e = s.each i h in search (rules, tests)) (λ h. let e = s.next h in search (rules, tests))
