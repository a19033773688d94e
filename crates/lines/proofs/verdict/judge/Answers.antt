-- `lines::verdict::judge` meets its contract: each way out by its law.
use native.Mathlib.Omega.{arith}
use borrow.Author.Rules.{rules}
use Rattle.lines.proofs.VerdictLaws.{no_row, no_base, two_currencies, out_of_range, has_price}
use Rattle.lines.proofs.verdict.judge.Goals as goal

pub returns-in_default : goal.returns-in_default
returns-in_default c = no_row (omega (arith, c.in_default.ensures.item)) c.refused.ensures

pub returns-then-not-is_base : goal.returns-then-not-is_base
returns-then-not-is_base c =
    no_base c.requires c.in-Some.first.now (search rules) (search rules) c.is_base.ensures c.if-not-is_base.true c.refused-then-not-is_base.ensures

pub returns-then-not-listed : goal.returns-then-not-listed
returns-then-not-listed c =
    two_currencies c.requires c.in-Some.first.now (search rules) (search rules) c.is_base.ensures c.if-not-is_base.false c.list_amounts-listed.ensures c.if-not-listed.true c.refused-then-not-listed.ensures

pub returns-in_default-total : goal.returns-in_default-total
returns-in_default-total c =
    out_of_range c.requires c.in-Some.first.now (search rules) (search rules) c.is_base.ensures c.if-not-is_base.false c.list_amounts-listed.ensures c.if-not-listed.false c.in_default-total.is c.refused-in_default-total.ensures

pub returns : goal.returns
returns c =
    has_price c.requires c.in-Some.first.now (search rules) (search rules) c.is_base.ensures c.if-not-is_base.false c.list_amounts-listed.ensures c.if-not-listed.false c.in-InRange.is
