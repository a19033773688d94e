-- A question read by value, and the definition's question that it stands for.
use Rattle.std.specs.Prelude.{ℕ, ◌+◌, ◌≤◌, ◌<◌, ◌≡◌, true, List, [], ◌∷◌, eqb, length, take, drop, get_or}
use Rattle.std.proofs.Math.Option.{some}
use Rattle.rules.specs.Lists.{any}
use Rattle.rules.specs.Days.{is_day}
use Rattle.rules.specs.Book.{sale, purchase}
use Rattle.rules.specs.Question.{Question, most_factor, letters_of, asked_of, question_of}
use Rattle.layout.specs.Reads.{part, name_stop}
use Rattle.properties.specs.Properties.{properties_at, PropertiesStand}
use Rattle.question.specs.declared.Ask.{Ask}
use Rattle.question.specs.Parts.{factor_size, granted_at, granted_stop, names_at, names_stop, NamesStand, currency_ok, terms_ok, version_of, question_at}

-- the end `r` of the granted name at `at`, which has 1 to 20 bytes; its factor, if the version has one, stands behind it
pub record NameStop (version : ℕ) (s : List ℕ) (at r : ℕ) : Type 0 where
  pub is : r ≡ name_stop s at
  pub low : at + 2 ≤ r
  pub high : r ≤ at + 21
  pub fits : r + factor_size version ≤ length s
  pub bytes : (granted_at version s at).name ≡ part s (at + 1) r

-- `r` is the factor of the granted name at `at`
pub record FactorIs (version : ℕ) (s : List ℕ) (at r : ℕ) : Type 0 where
  pub is : r ≡ (granted_at version s at).factor
  pub most : r ≤ most_factor

-- `r` is where the next one stands
pub record NextIs (version : ℕ) (s : List ℕ) (at r : ℕ) : Type 0 where
  pub is : r ≡ granted_stop version s at
  pub low : at + 2 ≤ r
  pub fits : r ≤ length s

-- `r` is where n of them end, the first of which stands at `at`
pub record NamesEnd (version : ℕ) (s : List ℕ) (at n r : ℕ) : Type 0 where
  pub is : r ≡ names_stop version s at n

-- the article's name ends at a, the granted names end at g
pub record AskAt (s : List ℕ) (a g : ℕ) : Type 0 where
  pub low : 7 ≤ a
  pub high : a ≤ 46
  pub middle : a + 12 < g
  pub fits : g < length s
  pub conditions : get_or s (a + 12) 0 ≤ 32
  pub count : get_or s g 0 ≤ 32
  pub terms : terms_ok s a ≡ true
  pub names : NamesStand (version_of s) s (a + 12 + 1) (get_or s (a + 12) 0)
  pub properties : PropertiesStand s (g + 1) (get_or s g 0)
  pub names_end : g ≡ names_stop (version_of s) s (a + 12 + 1) (get_or s (a + 12) 0)
  pub is : question_of s ≡ some (question_at s a g)

-- the definition's question, of what stands in s
abbrev pub ask_in : List ℕ → Ask → Question
ask_in s r = record {
  article = take r.article.size (drop r.article.at s);
  sort = r.sort;
  currency = asked_of (letters_of r.currency);
  date = r.date.0;
  quantity = r.quantity;
  granted = names_at r.version s r.granted r.conditions;
  properties = properties_at s r.properties r.count;
}

-- `r` is the question that s is, and its parts stand where the layout has them
pub record AskIs (s : List ℕ) (r : Ask) : Type 0 where
  pub is : question_of s ≡ some (ask_in s r)
  pub version_is : r.version ≡ version_of s
  pub article_at : r.article.at ≡ 6
  pub granted_at_lem : r.granted ≡ r.article.at + r.article.size + 13
  pub properties_at_lem : r.properties ≡ names_stop r.version s r.granted r.conditions + 1
  pub named : 1 ≤ r.article.size
  pub short : r.article.size ≤ 40
  pub inside : r.article.at + r.article.size ≤ length s
  pub sort : any (eqb r.sort) (sale ∷ purchase ∷ []) ≡ true
  pub currency : currency_ok (letters_of r.currency) ≡ true
  pub day : is_day r.date.0 ≡ true
  pub least : 1 ≤ r.quantity
  pub most : r.quantity ≤ 100000
  pub conditions : r.conditions ≤ 32
  pub names : NamesStand r.version s r.granted r.conditions
  pub count : r.count ≤ 32
  pub properties : PropertiesStand s r.properties r.count
