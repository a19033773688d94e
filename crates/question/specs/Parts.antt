-- Where the parts of a question stand, and which tests its bytes pass.
use Rattle.std.specs.Prelude.{ℕ, ◌+◌, Bool, ◌&&◌, ◌||◌, cond, List, [], ◌∷◌, eqb, take, drop, get_or}
use Rattle.rules.specs.Lists.{same, between, any}
use Rattle.rules.specs.Bytes.{big, capitals}
use Rattle.rules.specs.Days.{is_day}
use Rattle.rules.specs.Book.{sale, purchase}
use Rattle.rules.specs.Question.{Question, Granted, granted_in, plain_factor, no_currency, asked_of}
use Rattle.layout.specs.Reads.{part, name_stop, name_at}
use Rattle.layout.specs.Counted.{Ends, Stands, Standing, counted, values_at, counted_at, stop_after, counted_stop}
use Rattle.properties.specs.Properties.{property_at, property_stop}

-- ---- a granted name, and its factor where the version has one

abbrev pub factor_size : ℕ → ℕ
factor_size version = cond (eqb version 2) 2 0

-- that of a name which ends at `at`
abbrev pub factor_at : ℕ → List ℕ → ℕ → ℕ
factor_at version s at = cond (eqb version 2) (big (take 2 (drop at s))) plain_factor

unfoldable pub granted_at : ℕ → List ℕ → ℕ → Granted
granted_at version s at = record { name = name_at s at; factor = factor_at version s (name_stop s at) }

unfoldable pub granted_stop : ℕ → List ℕ → ℕ → ℕ
granted_stop version s at = name_stop s at + factor_size version

-- it ends at `r`; 0: none
abbrev pub GrantEnds : ℕ → List ℕ → ℕ → ℕ → Type 0
GrantEnds version = Ends (granted_in version) (granted_at version) (granted_stop version)

-- it stands there
abbrev pub GrantStands : ℕ → List ℕ → ℕ → Type 0
GrantStands version = Stands (granted_in version) (granted_at version) (granted_stop version)

-- ---- as many as their count says

abbrev pub names_at : ℕ → List ℕ → ℕ → ℕ → List Granted
names_at version = values_at (granted_at version) (granted_stop version)

-- where the last of them ends
abbrev pub names_stop : ℕ → List ℕ → ℕ → ℕ → ℕ
names_stop version = stop_after (granted_stop version)

-- those counted at `at` end at `r`; 0: none
abbrev pub GrantedEnd : ℕ → List ℕ → ℕ → ℕ → Type 0
GrantedEnd version = Ends (counted (granted_in version)) (counted_at (granted_at version) (granted_stop version)) (counted_stop (granted_stop version))

-- n of them stand one behind the other, the first at `at`
abbrev pub NamesStand : ℕ → List ℕ → ℕ → ℕ → Type 0
NamesStand version = Standing (granted_in version) (granted_at version) (granted_stop version)

-- ---- the tests of the fields around them

abbrev pub currency_ok : List ℕ → Bool
currency_ok c = capitals c || same c no_currency

-- sort, currency, date and quantity, behind the article's name
abbrev pub terms_ok : List ℕ → ℕ → Bool
terms_ok s a =
    any (eqb (get_or s a 0)) (sale ∷ purchase ∷ [])
    && (currency_ok (take 3 (drop (a + 1) s)) && (is_day (big (take 4 (drop (a + 4) s))) && between 1 100_000 (big (take 4 (drop (a + 8) s)))))

-- ---- the whole

-- the version stands behind the length
abbrev pub version_of : List ℕ → ℕ
version_of s = get_or s 4 0

-- the question whose article's name ends at a, and whose granted names end at g
abbrev pub question_at : List ℕ → ℕ → ℕ → Question
question_at s a g = record {
  article = part s 6 a;
  sort = get_or s a 0;
  currency = asked_of (take 3 (drop (a + 1) s));
  date = big (take 4 (drop (a + 4) s));
  quantity = big (take 4 (drop (a + 8) s));
  granted = counted_at (granted_at (version_of s)) (granted_stop (version_of s)) s (a + 12);
  properties = counted_at property_at property_stop s g;
}
