-- `texts::text_book_ok` meets its contract: a look says whether the bytes are a text book.
use mathlib.Core.Path.{◌∙◌}
use Rattle.texts.proofs.LookLaws.{book_is}
use Rattle.texts.proofs.text_book_ok.Goals as goal

pub returns : goal.returns
returns c = c.is_ok.ensures.value ∙ book_is c.args.s.now 0 c.look.ensures
