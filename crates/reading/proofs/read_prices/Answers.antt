-- `reading::read_prices` meets its contract: refused as it was judged, or written and numbered.
use borrow.Author.Rules.{rules}
use Rattle.reading.proofs.CallLaws.{call_refused, call_fill, call_done}
use Rattle.reading.proofs.read_prices.Goals as goal

ruleset laws = (rules, call_refused, call_fill, call_done)

pub judge-answer-requires : goal.judge-answer-requires
judge-answer-requires c = search laws

pub returns-then-answer-ne0 : goal.returns-then-answer-ne0
returns-then-answer-ne0 c = search laws

pub number_rows-requires : goal.number_rows-requires
number_rows-requires c = search laws

pub returns : goal.returns
returns c = search laws
