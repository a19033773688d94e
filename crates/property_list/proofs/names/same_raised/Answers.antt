-- `property_list::names::same_raised` meets its contract: other lengths by `raised_not`, and else all letters in turn by `raised_all`.
use borrow.Author.Rules.{rules}
use lib.Dec.{eqb}
use Rattle.std.specs.List.{zip}
use Rattle.std.proofs.lemmas.Iterator.{YieldsList-from_slice, YieldsList-from_zip}
use Rattle.std.proofs.lemmas.Iterator.Search.{all_from_yields_List}
use Rattle.rules.specs.Bytes.{raise}
use Rattle.property_list.proofs.NameLaws.{raised_not, raised_all}
use Rattle.property_list.proofs.names.same_raised.Goals as goal

ruleset laws = (rules, raised_not)

pub returns-then-a-b : goal.returns-then-a-b
returns-then-a-b c = search laws

pub returns : goal.returns
returns c =
    raised_all c.args.a.now c.args.b.now (search rules)
    (all_from_yields_List {v = λ p. (p.0.now, p.1.now)} {s = c.zip.result} {all = zip c.args.a.now c.args.b.now} (λ p. eqb (raise p.0) (raise p.1)) c.all.new.self _ c.all.result c.all.ensures.ran (YieldsList-from_zip (YieldsList-from_slice c.args.a.now (cc)) (YieldsList-from_slice c.args.b.now (cc))) (λ p r f k. (search rules, search rules)))
