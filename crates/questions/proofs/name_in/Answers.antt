-- `questions::name_in` meets its contract: a part of the question is a part of all bytes, by `name_is`.
use Rattle.questions.proofs.NameLaws.{name_is}
use Rattle.questions.proofs.name_in.Goals as goal

pub returns : goal.returns
returns c = name_is c.requires c.ask_of-ask.ensures
