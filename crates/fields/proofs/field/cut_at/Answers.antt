-- `fields::field::cut_at` meets its contract: how many bytes are passed.
use Rattle.fields.proofs.FieldLaws.{cut_is}
use Rattle.fields.proofs.field.cut_at.Goals as goal

pub returns : goal.returns
returns c = cut_is c.args.line.now c.args.at c.requires c.args.byte c.before-n.ensures.is
