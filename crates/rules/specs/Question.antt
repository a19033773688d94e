-- "The price book", the question, and "Factors on conditions": which bytes are one, and how its granted names count.
use Rattle.std.specs.Prelude.{ℕ, zero, suc, ◌+◌, ◌-◌, ◌*◌, Bool, ◌||◌, not, cond, List, [], ◌∷◌, ◌++◌, map, eqb, length, take, drop, get_or}
use Rattle.std.proofs.Math.Option.{Option, some, none}
use Rattle.rules.specs.Lists.{same, between, all, any, keep}
use Rattle.rules.specs.Letters.{letter}
use Rattle.rules.specs.Layout.{Layout, ◌>>=◌, give, ◌such◌, bytes, byte, times, whole}
use Rattle.rules.specs.Bytes.{number, name, one_of, head_of, capitals, raise, bytes_of}
use Rattle.rules.specs.Days.{is_day}
use Rattle.rules.specs.Book.{sale, purchase}
use Rattle.rules.specs.declared.Currency.{Currency}
use Rattle.rules.specs.declared.State.{State}
use Rattle.rules.specs.declared.State.TheVariants.{Valued, Hidden, Unselected}

pub record Property : Type 0 where
  pub width : ℕ
  pub state : ℕ
  pub value : List ℕ

-- a name as it was sent, and the factor of its lines, in thousandths
pub record Granted : Type 0 where
  pub name : List ℕ
  pub factor : ℕ

-- `currency` is none where none is asked
pub record Question : Type 0 where
  pub article : List ℕ
  pub sort : ℕ
  pub currency : Option (List ℕ)
  pub date : ℕ
  pub quantity : ℕ
  pub granted : List Granted
  pub properties : List Property

-- ---- which bytes are a question

abbrev pub no_currency : List ℕ
no_currency = 0 ∷ 0 ∷ 0 ∷ []

-- the three bytes of a currency in the code, and the currency of three bytes
abbrev pub letters_of : Currency → List ℕ
letters_of c = c.0 ∷ c.1 ∷ c.2 ∷ []

abbrev pub currency_of : List ℕ → Currency
currency_of s = record { 0 = get_or s 0 0; 1 = get_or s 1 0; 2 = get_or s 2 0 }

-- the number of a state in the code
abbrev pub state_number : State → ℕ
state_number Valued = 0
state_number Hidden = 1
state_number Unselected = 2

abbrev pub asked_of : List ℕ → Option (List ℕ)
asked_of c = cond (same c no_currency) none (some c)

-- a value has no blank of either kind, and no backslash
abbrev pub value_byte : ℕ → Bool
value_byte b = not (any (eqb b) (letter " " ∷ 160 ∷ letter "\\" ∷ []))

-- only a valued property has a value, and one that fits its width
abbrev pub value_for : ℕ → ℕ → Layout (List ℕ)
value_for width zero = name 1 width such all value_byte
value_for width (suc state) = name 0 0

abbrev pub property : Layout Property
property = do
  width ← byte such between 1 30
  state ← one_of (0 ∷ 1 ∷ 2 ∷ [])
  value ← value_for width state
  give (record { width = width; state = state; value = value })

-- the factor of a line that has none of its own: once its amount
abbrev pub plain_factor : ℕ
plain_factor = 1000

-- ten times
abbrev pub most_factor : ℕ
most_factor = 10_000

-- version 2 has a factor behind the name, in two bytes
abbrev pub factor_in : ℕ → Layout ℕ
factor_in version = cond (eqb version 2) (number 2 such between 0 most_factor) (give plain_factor)

abbrev pub granted_in : ℕ → Layout Granted
granted_in version = do
  name ← name 1 20
  factor ← factor_in version
  give (record { name = name; factor = factor })

-- what stands behind the version; unlike a row's, a question's date must be a day
abbrev pub question_body : ℕ → Layout Question
question_body version = do
  article ← name 1 40
  sort ← one_of (sale ∷ purchase ∷ [])
  currency ← bytes 3 such λ c. capitals c || same c no_currency
  date ← number 4 such is_day
  quantity ← number 4 such between 1 100_000
  conditions ← byte such between 0 32
  granted ← times conditions (granted_in version)
  count ← byte such between 0 32
  properties ← times count property
  give (record {
    article = article;
    sort = sort;
    currency = asked_of currency;
    date = date;
    quantity = quantity;
    granted = granted;
    properties = properties;
  })

-- version 2 is a question for every call, as version 1 is
abbrev pub versions : List ℕ
versions = 1 ∷ 2 ∷ []

abbrev pub question_layout : ℕ → Layout Question
question_layout lent = do
  version ← head_of versions lent
  question_body version

unfoldable pub question_of : List ℕ → Option Question
question_of s = whole (question_layout (length s)) s

-- ---- the same question on another day

unfoldable pub on : Question → ℕ → Question
on q d = record {
  article = q.article;
  sort = q.sort;
  currency = q.currency;
  date = d;
  quantity = q.quantity;
  granted = q.granted;
  properties = q.properties;
}

-- and its bytes: the date stands behind length, version, article, sort and currency
abbrev pub date_at : Question → ℕ
date_at q = 10 + length q.article

unfoldable pub redated : ℕ → ℕ → List ℕ → List ℕ
redated at d s = take at s ++ (bytes_of 4 d ++ drop (at + 4) s)

-- ---- the same question in version 2

-- the count of its names stands behind date and quantity
abbrev pub count_at : Question → ℕ
count_at q = date_at q + 8

-- n names at the front with the factor 1,000 behind each; what follows them stays
unfoldable pub with_factors : ℕ → List ℕ → List ℕ
with_factors zero s = s
with_factors (suc n) [] = []
with_factors (suc n) (size ∷ s) = size ∷ (take size s ++ (bytes_of 2 plain_factor ++ with_factors n (drop size s)))

-- of a question's bytes in version 1: they grow by two for each name, and all but length, version and names stays
unfoldable pub in_version₂ : Question → List ℕ → List ℕ
in_version₂ q s =
    bytes_of 4 (length s + 2 * length q.granted)
    ++ (2 ∷ (take (count_at q - 4) (drop 5 s) ++ with_factors (length q.granted) (drop (count_at q + 1) s)))

-- ---- "Which row is chosen": granted names

-- a name, raised, its place in the list as it was sent, from 1, and its factor
pub record Grant : Type 0 where
  pub place : ℕ
  pub name : List ℕ
  pub factor : ℕ

abbrev pub placed : ℕ → List Granted → List Grant
placed n [] = []
placed n (c ∷ cs) = record { place = n; name = map raise c.name; factor = c.factor } ∷ placed (suc n) cs

-- a name that came before is not listed again, whatever factor it has then
abbrev pub firsts : List Grant → List Grant
firsts [] = []
firsts (g ∷ gs) = g ∷ keep (λ h. not (same h.name g.name)) (firsts gs)

unfoldable pub grants : List Granted → List Grant
grants names = firsts (placed 1 names)
