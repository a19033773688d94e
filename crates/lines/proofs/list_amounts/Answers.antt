-- `lines::list_amounts` meets its contract: before each line the amounts so far, the two sums in hand and the flag fix the rest,
-- by the laws `list_..` and `compare_..`.
use mathlib.Core.Path.{sym, ◌∙◌}
use native.Mathlib.Omega.{arith}
use borrow.Author.Rules.{rules}
use Rattle.lines.proofs.AmountLaws.{one_said, list_start, list_end, list_line, list_out, list_again}
use Rattle.lines.proofs.WalkLaws.{compare_start, compare_again, compare_end}
use Rattle.lines.proofs.list_amounts.Goals as goal

pub loop-i-init : goal.loop-i-init
loop-i-init c = record { listing = list_start _ _ (search rules) c.requires; comparing = compare_start _ _ _ (search rules) }

pub amount_of-amount-requires : goal.amount_of-amount-requires
amount_of-amount-requires c =
    list_line _ _ _ _ _ _ c.loop-i.invariant.listing (omega arith)

pub returns-in_default : goal.returns-in_default
returns-in_default c =
    record {
      list = list_out _ _ _ _ _ _ c.loop-i.invariant.listing (omega arith) _ c.amount_of-amount.ensures (sym c.add_line.ensures ∙ c.in_default.is) _;
      one = c.in_one_currency.ensures;
    }

pub loop-i-preserved : goal.loop-i-preserved
loop-i-preserved c =
    record {
      listing = list_again _ _ _ _ _ _ c.loop-i.invariant.listing (omega arith) c.amount_of-amount.result c.amount_of-amount.ensures c.in-InRange.after (sym c.add_line.ensures ∙ c.in-InRange.is) _ (one_said c.is_base.ensures c.either-base.ensures);
      comparing = compare_again _ _ _ _ _ c.loop-i.invariant.comparing (omega arith) c.is_in-one.ensures;
    }

pub returns : goal.returns
returns c = record {
  list = list_end _ _ _ _ _ _ c.loop-i.invariant.listing (omega arith) _;
  one = compare_end _ _ _ _ _ c.loop-i.invariant.comparing (omega arith);
}
