-- `write_prices::write_lines` meets its contract.
use borrow.Author.Rules.{rules}
use Rattle.write_prices.proofs.WalkLaws.{write_start, write_end, write_here, write_room, write_on}
use Rattle.write_prices.proofs.write_lines.Goals as goal

ruleset laws = (rules, write_start, write_end, write_here, write_room, write_on)

pub loop-at-init : goal.loop-at-init
loop-at-init c = search laws

pub record_stop-end-requires : goal.record_stop-end-requires
record_stop-end-requires c = search laws

pub put_line-to-requires-clause-room_for : goal.put_line-to-requires-clause-room_for
put_line-to-requires-clause-room_for c = search laws

pub loop-at-preserved : goal.loop-at-preserved
loop-at-preserved c = search laws

pub returns : goal.returns
returns c = search laws
