-- The question that stands in bytes asks for the article that is cut out of it, by its terms and the table of its granted names.
use Prim.Native.Nat.{ℕ, ◌+◌, ◌-◌, ◌≤◌}
use mathlib.Core.Path.{◌≡◌, refl, sym, ◌∙◌, ap}
use mathlib.Core.List.{List}
use native.Mathlib.Omega.{arith}
use lib.ListN.{length, take, drop}
use Rattle.rules.specs.Question.{Question, asked_of, on, letters_of}
use Rattle.question.specs.declared.Ask.{Ask}
use Rattle.question.specs.Parts.{names_at, NamesStand}
use Rattle.question.specs.Asked.{ask_in, AskIs}
use Rattle.grants.specs.declared.terms.Terms.{Terms}
use Rattle.grants.specs.declared.terms.Wanted.{Wanted}
use Rattle.grants.specs.Table.{table_size, GrantsAre}
use Rattle.grants.specs.Asks.{TermsAre, terms_on, Asks, Tabled, Asked, article_cut, WantedIs}
use Rattle.grants.proofs.FillLaws.{names_count}

module _ {s : List ℕ} {ask : Ask} (a : AskIs s ask) where
  pub names_there : NamesStand ask.version s ask.granted ask.conditions × (ask.conditions ≤ 32)
  names_there = (a.names, a.conditions)

  pub article_inside : ask.article.at + ask.article.size ≤ length s
  article_inside = a.inside

  pub wanted_is : {terms : Terms} → TermsAre ask terms → {table : List ℕ} → length table ≡ table_size → GrantsAre (names_at ask.version s ask.granted ask.conditions) table
      → WantedIs s ask (record { table = table; terms = terms })
  wanted_is {terms} t {table} long g =
      let k : ask.article.size ≡ ask.article.at + ask.article.size - ask.article.at = omega arith in
      record {
        tabled = record { long = long; few = omega (arith, a.conditions, ap (λ (x : Terms). x.names) t.is) };
        asks = record {
          article = ap (λ (n : ℕ). take n (drop ask.article.at s)) k;
          sort = ap (λ (x : Terms). x.sort) (sym t.is);
          currency = ap (λ (x : Terms). asked_of (letters_of x.currency)) (sym t.is);
          date = ap (λ (x : Terms). x.date.0) (sym t.is);
          quantity = ap (λ (x : Terms). x.quantity) (sym t.is);
          granted = g;
          count = names_count ask.version s ask.granted ask.conditions ∙ ap (λ (x : Terms). x.names) (sym t.is);
        };
      }

pub wanted_asked : {s : List ℕ} {ask : Ask} {r : Wanted} → WantedIs s ask r → Asked (article_cut s ask) r.table r.terms
wanted_asked {s} {ask} w = record { tabled = w.tabled; question = ask_in s ask; asks = w.asks }

-- on another day the same question asks by the same terms, but for the date
pub asks_on : {q : Question} {article table : List ℕ} {terms : Terms} → Asks q article table terms → (d : ℕ) → Asks (on q d) article table (terms_on terms d)
unfolding on
asks_on a d = record {
  article = a.article;
  sort = a.sort;
  currency = a.currency;
  date = refl;
  quantity = a.quantity;
  granted = a.granted;
  count = a.count;
}

pub asked_on : {article table : List ℕ} {terms : Terms} → Asked article table terms → (d : ℕ) → Asked article table (terms_on terms d)
asked_on a d = record {
  tabled = record { long = a.tabled.long; few = a.tabled.few };
  question = on a.question d;
  asks = asks_on a.asks d;
}

pub asked_tabled : {article table : List ℕ} {terms : Terms} → Asked article table terms → Tabled table terms
asked_tabled a = a.tabled
