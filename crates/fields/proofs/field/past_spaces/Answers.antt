-- `fields::field::past_spaces` meets its contract: how many bytes are passed.
use Rattle.fields.proofs.FieldLaws.{spaces_are}
use Rattle.fields.proofs.field.past_spaces.Goals as goal

pub returns : goal.returns
returns c = spaces_are c.args.line.now c.args.at c.requires c.spaces-n.ensures.is
