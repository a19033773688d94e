-- `text_names::find` meets its contract: above each place of the chain none is the name.
use borrow.Author.Rules.{rules}
use Rattle.text_names.proofs.NamesLaws.{chain_name, chain_starts, chain_before, chain_less, chain_found, chain_on, chain_none}
use Rattle.text_names.proofs.EnterLaws.{find_hash, find_start}
use Rattle.text_names.proofs.find.Goals as goal

ruleset laws = (rules, find_hash, find_start, chain_name, chain_starts, chain_before, chain_less, chain_found, chain_on, chain_none)

pub bounds-last-h : goal.bounds-last-h
bounds-last-h c = search laws

pub loop-number-init : goal.loop-number-init
loop-number-init c = search laws

pub bounds-starts-i : goal.bounds-starts-i
bounds-starts-i c = search laws

pub is_named-requires : goal.is_named-requires
is_named-requires c = search laws

pub returns-then-is_named : goal.returns-then-is_named
returns-then-is_named c = search laws

pub bounds-before-i : goal.bounds-before-i
bounds-before-i c = search laws

pub loop-number-smaller : goal.loop-number-smaller
loop-number-smaller c = search laws

pub loop-number-preserved : goal.loop-number-preserved
loop-number-preserved c = search laws

pub returns : goal.returns
returns c = search laws
