-- `layout::names::same_bytes` meets its contract: other lengths, another last byte, and else the flag at the end, by the laws `compare_..`.
use mathlib.Core.Bool.{true, ◌&&◌}
use borrow.Author.Rules.{rules}
use lib.Dec.{eqb}
use Rattle.std.specs.List.{zip}
use Rattle.std.proofs.lemmas.Iterator.{YieldsList-from_slice, YieldsList-from_zip}
use Rattle.std.proofs.lemmas.Iterator.Consumers.{fold_from_yields_List}
use Rattle.layout.proofs.NameLaws.{compare_not, compare_last, compare_all}
use Rattle.layout.proofs.names.same_bytes.Goals as goal

ruleset laws = (rules, compare_not, compare_last)

pub returns-then-n-b : goal.returns-then-n-b
returns-then-n-b c = search laws

pub returns-then-a-last : goal.returns-then-a-last
returns-then-a-last c = search laws

pub returns : goal.returns
returns c =
    compare_all c.args.a.now c.args.b.now (search rules)
    (fold_from_yields_List {v = λ p. (p.0.now, p.1.now)} {all = zip c.args.a.now c.args.b.now} _ (λ ok p. ok && eqb p.0 p.1) true c.fold.result c.fold.ensures.ran (YieldsList-from_zip (YieldsList-from_slice c.args.a.now (cc)) (YieldsList-from_slice c.args.b.now (cc))) (λ ok p r f k. (search rules, search rules)))
