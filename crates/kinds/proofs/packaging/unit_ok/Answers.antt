-- `kinds::packaging::unit_ok` meets its contract: the flag at the end says whether it is one of the units, by `flag_any`.
use mathlib.Core.Bool.{false, ◌||◌}
use borrow.Author.Rules.{rules}
use lib.ListN.{take, drop}
use Rattle.std.proofs.lemmas.Iterator.{YieldsList-from_slice}
use Rattle.std.proofs.lemmas.Iterator.Consumers.{fold_from_yields_List}
use Rattle.rules.specs.Lists.{same}
use Rattle.layout.proofs.ReadingLaws.{flag_any}
use Rattle.kinds.proofs.PackagingLaws.{unit_is}
use Rattle.kinds.proofs.packaging.unit_ok.Goals as goal

pub returns : goal.returns
returns c =
    let u = take 3 (drop c.args.at c.args.s.now) in
    unit_is u c.args.needed c.args.units.now
    (flag_any (same u) c.args.units.now (fold_from_yields_List {v = λ x. x.now} {all = c.args.units.now} _ (λ found x. found || same u x) false c.fold-one_of_them.result c.fold-one_of_them.ensures.ran (YieldsList-from_slice c.args.units.now (cc)) (λ found x r f k. (search rules, search rules))))
    c.is_unit.ensures
