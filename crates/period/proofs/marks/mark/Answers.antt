-- `period::marks::mark` meets its contract: where the day is not found, the dates in front are below it and the others above, by the law `marked_missed`.
use borrow.Author.Rules.{rules}
use Rattle.std.proofs.Common.{Err}
use Rattle.std.proofs.lemmas.List.Sorted.{searched}
use Rattle.period.proofs.PositionLaws.{dates_rise, marked_missed}
use Rattle.period.proofs.marks.mark.Goals as goal

pub returns-in_default : goal.returns-in_default
returns-in_default c =
    let far = searched c.args.dates.now c.args.d (Err c.in_default.field-0) c.in_default.ensures.position (dates_rise c.requires) in
    marked_missed c.requires (search rules) c.args.d c.in_default.field-0 far.1 far.2
