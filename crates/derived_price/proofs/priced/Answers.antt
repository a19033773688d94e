-- `derived_price::priced` meets its contract: 7 by `no_room`, the rest by `has_answer`.
use mathlib.Core.Path.{sym}
use native.Mathlib.Omega.{arith}
use Rattle.derived_price.proofs.PricedLaws.{lines_long, no_room, has_answer}
use Rattle.derived_price.proofs.priced.Goals as goal

pub returns-then-lines-size : goal.returns-then-lines-size
returns-then-lines-size c = no_room c.answer_to-told.ensures _ c.if-lines-size.true

pub returns : goal.returns
returns c = has_answer c.answer_to-told.ensures _ c.if-lines-size.false c.put_bytes.ensures
