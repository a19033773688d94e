-- `lookup::named::first_named` meets its contract: none of the records passed is one, by the laws `seek_..`.
use borrow.Author.Rules.{rules}
use Rattle.lookup.proofs.NamedLaws.{seek_start, seek_none, seek_here, seek_less, seek_accepted, seek_next, seek_found}
use Rattle.lookup.proofs.named.first_named.Goals as goal

ruleset laws = (rules, seek_start, seek_none, seek_here, seek_less, seek_accepted, seek_next, seek_found)

pub loop-at-init : goal.loop-at-init
loop-at-init c = search laws

pub record_stop-end-requires : goal.record_stop-end-requires
record_stop-end-requires c = search laws

pub starts_with-requires : goal.starts_with-requires
starts_with-requires c = search laws

pub returns-then-starts_with : goal.returns-then-starts_with
returns-then-starts_with c = search laws

pub loop-at-smaller : goal.loop-at-smaller
loop-at-smaller c = search laws

pub loop-at-preserved : goal.loop-at-preserved
loop-at-preserved c = search laws

pub returns : goal.returns
returns c = search laws
