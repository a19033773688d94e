-- A basket that is handed on as one.
use Rattle.basket.specs.declared.asked.Basket.{Basket}
use Rattle.basket.specs.Basket.{Basketed}

abbrev pub Held : Basket → Type 0
Held k = Basketed k.book.now k.questions.now k.stretches.now k.found.now
