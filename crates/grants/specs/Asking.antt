-- What is asked, handed from walk to walk as one.
use Rattle.std.specs.Prelude.{ℕ, ◌≡◌, List}
use Rattle.question.specs.declared.Ask.{Ask}
use Rattle.question.specs.Asked.{ask_in}
use Rattle.grants.specs.declared.asking.Asking.{Asking}
use Rattle.grants.specs.Asks.{Asks, article_cut, terms_on}

-- the question that stands in s asks so
pub record AskingIs (s : List ℕ) (ask : Ask) (r : Asking) : Type 0 where
  pub article : r.article.now ≡ article_cut s ask
  pub asks : Asks (ask_in s ask) r.article.now r.table.now r.terms

-- `r` asks the same on the day d
pub record AskingOn (asking : Asking) (d : ℕ) (r : Asking) : Type 0 where
  pub article : r.article.now ≡ asking.article.now
  pub table : r.table.now ≡ asking.table.now
  pub terms : r.terms ≡ terms_on asking.terms d
