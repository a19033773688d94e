-- `choice::slots::level_number` meets its contract: a law for each level.
use borrow.Author.Rules.{rules}
use Rattle.choice.proofs.LevelLaws.{level_base, level_surcharge, level_discount}
use Rattle.choice.proofs.slots.level_number.Goals as goal

ruleset laws = (rules, level_base, level_surcharge, level_discount)

pub returns-in-Base : goal.returns-in-Base
returns-in-Base c = search laws

pub returns-in-Surcharge : goal.returns-in-Surcharge
returns-in-Surcharge c = search laws

pub returns-in-Discount : goal.returns-in-Discount
returns-in-Discount c = search laws
