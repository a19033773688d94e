-- `quotes::put_doubled` meets its contract.
use borrow.Author.Rules.{rules}
use Rattle.quotes.proofs.NameLaws.{fold_start, fold_room, fold_on, fold_end}
use Rattle.quotes.proofs.put_doubled.Goals as goal

ruleset laws = (rules, fold_start, fold_room, fold_on, fold_end)

pub loop-byte-init : goal.loop-byte-init
loop-byte-init c = search laws

pub put_times-to-requires : goal.put_times-to-requires
put_times-to-requires c = search laws

pub loop-byte-preserved : goal.loop-byte-preserved
loop-byte-preserved c = search laws

pub returns : goal.returns
returns c = search laws
