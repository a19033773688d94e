-- "Derive conditions in the plugin": the names that a relation text derives from the properties beside a question, and the two calls that grant them.
--
--   14  a byte of the text that no text of the grammar has there, or its end where none ends      16  a name that no question can grant, or one too many
--   15  a condition's parenthesis that is too deep
use Rattle.std.specs.Prelude.{ℕ, ◌+◌, ◌-◌, Bool, cond, List, [], ◌∷◌, ◌++◌, map, eqb, leb, length, take, drop, get_or}
use Rattle.rules.specs.Lists.{join}
use Rattle.rules.specs.Bytes.{bytes_of}
use Rattle.rules.specs.BookLayout.{records}
use Rattle.rules.specs.Question.{Question, Granted, question_of, count_at, plain_factor}
use Rattle.rules.specs.Refusals.{Result, done, refused}
use Rattle.rules.specs.PlacedRefusals.{ResultAt, Done, RefusedAt, ◌>>=◌, or_refuse_at, unless_so}
use Rattle.rules.specs.Price.{Answer, answered, in_room}
use Rattle.relation_rules.specs.Reader.{relation_of}
use Rattle.relation_rules.specs.Truth.{Held, properties_of, names_from, list_of}

-- ---- names, and a question that grants them

-- the names that a text derives from the properties: 14 or 15, then 16
unfoldable pub derived : List Held → List ℕ → ResultAt (List (List ℕ))
derived ps relation = do
  tree ← relation_of relation
  names_from ps 0 (list_of tree [])

abbrev pub grants_none : Question → Bool
grants_none q = leb (length q.granted) 0

-- each name brings its lines once their amount
abbrev pub as_granted : List (List ℕ) → List Granted
as_granted names = map (λ n. record { name = n; factor = plain_factor }) names

-- the same question with these names granted
unfoldable pub granting : Question → List (List ℕ) → Question
granting q names = record {
  article = q.article;
  sort = q.sort;
  currency = q.currency;
  date = q.date;
  quantity = q.quantity;
  granted = as_granted names;
  properties = q.properties;
}

-- a question that grants none, and the names derived for it
pub record Derivation : Type 0 where
  pub question : Question
  pub names : List (List ℕ)

-- 2 for the question, the properties or a question that grants names itself; then those of the text
unfoldable pub derivation : List ℕ → List ℕ → List ℕ → ResultAt Derivation
derivation question_bytes property_bytes relation = do
  q ← or_refuse_at 2 0 (question_of question_bytes)
  ps ← or_refuse_at 2 0 (properties_of property_bytes)
  _ ← unless_so 2 (grants_none q)
  names ← derived ps relation
  Done (record { question = q; names = names })

-- ---- the question's bytes with the names in them

-- a name as a question of this version has it: its length, itself and, in version 2, its factor
abbrev pub name_in : ℕ → List ℕ → List ℕ
name_in version n = length n ∷ (n ++ cond (eqb version 2) (bytes_of 2 plain_factor) [])

abbrev pub names_in : ℕ → List (List ℕ) → List ℕ
names_in version names = join (map (name_in version) names)

-- they go behind the count of names, which was 0; all else but the length stays
unfoldable pub with_names : Question → List (List ℕ) → List ℕ → List ℕ
with_names q names s =
    let new = names_in (get_or s 4 0) names in
    bytes_of 4 (length s + length new) ++ (take (count_at q - 4) (drop 4 s) ++ (length names ∷ (new ++ drop (count_at q + 1) s)))

-- the call that writes it: 2, 14 or 15, 16, 7
unfoldable pub derive : List ℕ → List ℕ → List ℕ → ℕ → ResultAt (List ℕ)
derive question_bytes property_bytes relation room = do
  d ← derivation question_bytes property_bytes relation
  let new = with_names d.question d.names question_bytes
  _ ← unless_so 7 (leb (length new) room)
  Done new

-- ---- the price

-- every refusal of the price itself has the place 0
abbrev pub unplaced : {A : Type 0} → Result A → ResultAt A
unplaced (done a) = Done a
unplaced (refused n) = RefusedAt n 0

-- the price of the question with these names: 1, 2, 14 or 15, 16, and 3 to 7
unfoldable pub price_derived : List ℕ → List ℕ → List ℕ → List ℕ → ℕ → ResultAt Answer
price_derived book_bytes question_bytes property_bytes relation room = do
  book ← or_refuse_at 1 0 (records book_bytes)
  d ← derivation question_bytes property_bytes relation
  a ← unplaced (answered book (granting d.question d.names))
  unplaced (in_room room a)
