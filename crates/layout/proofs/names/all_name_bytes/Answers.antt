-- `layout::names::all_name_bytes` meets its contract: the flag at the end is the whole answer, by `flag_all`.
use mathlib.Core.Bool.{true, ◌&&◌}
use borrow.Author.Rules.{rules}
use Rattle.std.proofs.lemmas.Iterator.{YieldsList-from_slice}
use Rattle.std.proofs.lemmas.Iterator.Consumers.{fold_from_yields_List}
use Rattle.rules.specs.Bytes.{name_byte}
use Rattle.layout.proofs.ReadingLaws.{flag_all}
use Rattle.layout.proofs.names.all_name_bytes.Goals as goal

pub returns : goal.returns
returns c =
    flag_all name_byte c.args.s.now
    (fold_from_yields_List {v = λ b. b.now} {all = c.args.s.now} _ (λ ok b. ok && name_byte b) true c.fold.result c.fold.ensures.ran (YieldsList-from_slice c.args.s.now (cc)) (λ ok b r f k. (search rules, search rules)))
