-- `price_line::fields_of` meets its contract: the fields so far stand one behind the other.
use Rattle.price_line.specs.Line.{FieldsTo}
use Rattle.price_line.proofs.fields_of.Given as goal

abbrev pub invariant-loop-k : goal.invariant-loop-k
invariant-loop-k l = FieldsTo l.line l.fields l.k
