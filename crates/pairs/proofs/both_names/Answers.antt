-- `pairs::both_names` meets its contract: what the windows say of their bytes is said of both names, by `short_good` and `long_good`.
use mathlib.Core.Path.{sym, ◌∙◌}
use native.Mathlib.Omega.{arith}
use borrow.Author.Rules.{rules}
use Rattle.pairs.proofs.PairLaws.{short_good, long_good}
use Rattle.pairs.proofs.both_names.Goals as goal
use Rattle.pairs.proofs.both_names.Goals.{then-long-le32, else-long-le32}

ruleset laws = (rules, short_good, long_good)

pub returns-then-ok : goal.returns-then-ok
returns-then-ok c =
    elim c.if-long-le32.branch [
      | then-long-le32 w ↦ (let e = sym w.ok-is ∙ c.if-ok.true in search laws, omega arith)
      | else-long-le32 w ↦ (let e = sym w.ok-is ∙ c.if-ok.true in search laws, omega arith)
    ]
