-- `pairs::window_ok` meets its contract: what was passed is tested, by the laws `window_..`.
use borrow.Author.Rules.{rules}
use Rattle.pairs.proofs.PairLaws.{window_start, window_again, window_end}
use Rattle.pairs.proofs.window_ok.Goals as goal

ruleset laws = (rules, window_start, window_again, window_end)

pub loop-i-init : goal.loop-i-init
loop-i-init c = search laws

pub loop-i-preserved : goal.loop-i-preserved
loop-i-preserved c = search laws

pub returns : goal.returns
returns c = search laws
