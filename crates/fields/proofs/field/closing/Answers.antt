-- `fields::field::closing` meets its contract: up to each place the field is what was read, in front of what is read from there.
use borrow.Author.Rules.{rules}
use Rattle.fields.proofs.QuoteLaws.{inside_start, inside_on, inside_pair, closes_last, closes_here, never_closes}
use Rattle.fields.proofs.field.closing.Goals as goal

ruleset laws = (rules, inside_start, inside_on, inside_pair, closes_last, closes_here, never_closes)

pub loop-i-init : goal.loop-i-init
loop-i-init c = search laws

pub returns-then-line-i-lt2 : goal.returns-then-line-i-lt2
returns-then-line-i-lt2 c = search laws

pub returns-then-line-i-ne34 : goal.returns-then-line-i-ne34
returns-then-line-i-ne34 c = search laws

pub loop-i-preserved-then-line-i-eq34 : goal.loop-i-preserved-then-line-i-eq34
loop-i-preserved-then-line-i-eq34 c = search laws

pub loop-i-preserved : goal.loop-i-preserved
loop-i-preserved c = search laws

pub returns : goal.returns
returns c = search laws
