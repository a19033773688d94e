-- What a question is, as far as a price depends on it: an article, terms, and a table of its granted names.
use Rattle.std.specs.Prelude.{ℕ, ◌+◌, ◌≤◌, ◌≡◌, List, length}
use Rattle.rules.specs.Question.{Question, asked_of, letters_of}
use Rattle.layout.specs.Reads.{part}
use Rattle.question.specs.declared.Ask.{Ask}
use Rattle.question.specs.Asked.{ask_in}
use Rattle.grants.specs.declared.terms.Terms.{Terms}
use Rattle.grants.specs.declared.terms.Wanted.{Wanted}
use Rattle.grants.specs.Table.{table_size, GrantsAre}

-- ---- terms

-- what is asked beside the article and the granted names
abbrev pub terms_in : Ask → Terms
terms_in ask = record {
  sort = ask.sort;
  currency = ask.currency;
  date = ask.date;
  quantity = ask.quantity;
  names = ask.conditions;
}

pub record TermsAre (ask : Ask) (r : Terms) : Type 0 where
  pub is : r ≡ terms_in ask

-- the same on another day
abbrev pub terms_on : Terms → ℕ → Terms
terms_on t d = record {
  sort = t.sort;
  currency = t.currency;
  date = record { 0 = d };
  quantity = t.quantity;
  names = t.names;
}

-- ---- who asks so

-- q asks for the article of this number, by these terms, and the table is of its granted names
pub record Asks (q : Question) (number table : List ℕ) (terms : Terms) : Type 0 where
  pub article : q.article ≡ number
  pub sort : q.sort ≡ terms.sort
  pub currency : q.currency ≡ asked_of (letters_of terms.currency)
  pub date : q.date ≡ terms.date.0
  pub quantity : q.quantity ≡ terms.quantity
  pub granted : GrantsAre q.granted table
  pub count : length q.granted ≡ terms.names

-- a table, and terms that name no more places than it has
pub record Tabled (table : List ℕ) (terms : Terms) : Type 0 where
  pub long : length table ≡ table_size
  pub few : terms.names ≤ 32

-- the table is one, and there is a question that asks so
pub record Asked (number table : List ℕ) (terms : Terms) : Type 0 where
  pub tabled : Tabled table terms
  pub question : Question
  pub asks : Asks question number table terms

-- ---- of a question in bytes

-- the article as it is cut out of them
abbrev pub article_cut : List ℕ → Ask → List ℕ
article_cut s ask = part s ask.article.at (ask.article.at + ask.article.size)

-- the question that stands in s asks for the article that is cut out of it by this table and these terms
pub record WantedIs (s : List ℕ) (ask : Ask) (r : Wanted) : Type 0 where
  pub tabled : Tabled r.table r.terms
  pub asks : Asks (ask_in s ask) (article_cut s ask) r.table r.terms
