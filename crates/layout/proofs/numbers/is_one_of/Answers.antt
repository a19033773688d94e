-- `layout::numbers::is_one_of` meets its contract: the flag at the end is the whole answer, by `flag_any`.
use mathlib.Core.Bool.{false, ◌||◌}
use borrow.Author.Rules.{rules}
use lib.Dec.{eqb}
use Rattle.std.proofs.lemmas.Iterator.{YieldsList-from_slice}
use Rattle.std.proofs.lemmas.Iterator.Consumers.{fold_from_yields_List}
use Rattle.layout.proofs.ReadingLaws.{flag_any}
use Rattle.layout.proofs.numbers.is_one_of.Goals as goal

pub returns : goal.returns
returns c =
    flag_any (eqb c.args.b) c.args.of.now
    (fold_from_yields_List {v = λ x. x.now} {all = c.args.of.now} _ (λ found x. found || eqb c.args.b x) false c.fold.result c.fold.ensures.ran (YieldsList-from_slice c.args.of.now (cc)) (λ found x r f k. (search rules, search rules)))
