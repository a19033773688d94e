-- `final_number::put_number` meets its contract: by the laws `number_base` and `number_by_lem`.
use Rattle.final_number.proofs.NumberLaws.{number_base, number_by_lem}
use Rattle.final_number.proofs.put_number.Goals as goal

pub returns-in_default : goal.returns-in_default
returns-in_default c = rw c.in_default.is (number_base c.args.q.now c.args.ask c.args.b.now c.put_part-base.ensures)

pub returns : goal.returns
returns c =
    rw c.in-Some.is (number_by_lem c.args.q.now c.args.ask c.args.b.now (rw c.in-Some.is at c.requires.scheme_stands) c.bytes_of-t.ensures
    c.scheme_of-scheme.result c.scheme_of-scheme.ensures c.put_part-base.ensures c.put_values.ensures)
