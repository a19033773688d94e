-- `text_names::find` meets its contract: above each place of the chain none is the name.
use Rattle.fields.specs.Field.{text_of}
use Rattle.text_names.specs.Names.{Candidate}
use Rattle.text_names.proofs.find.Given as goal

abbrev pub invariant-loop-number : goal.invariant-loop-number
invariant-loop-number l = Candidate l.file l.starts l.k (text_of l.line l.f) l.number

abbrev pub decreases-loop-number : goal.decreases-loop-number
decreases-loop-number l = l.number
