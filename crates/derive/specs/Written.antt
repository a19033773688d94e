-- What the code asks and ensures that writes names into a question.
use Rattle.std.specs.Prelude.{ℕ, ◌+◌, ◌*◌, ◌-◌, ◌≤◌, ◌<◌, ◌≡◌, true, false, List, ◌∷◌, ◌++◌, leb, length, take, drop, get_or}
use Rattle.std.proofs.Math.Option.{some}
use Rattle.rules.specs.Bytes.{bytes_of}
use Rattle.rules.specs.Question.{Question, question_of, count_at}
use Rattle.rules.specs.PlacedRefusals.{ResultAt, Done, ◌>>=◌, unless_so}
use Rattle.rules.specs.declared.Part.{Part}
use Rattle.rules.specs.declared.PlacedAnswer.{PlacedAnswer}
use Rattle.question.specs.Parts.{factor_size}
use Rattle.relation_rules.specs.Derived.{grants_none, names_in}
use Rattle.relation_rules.specs.Calls.{shown_derive, lent_after_derive}
use Rattle.relations.specs.Names.{names_of}

-- ---- a name

-- how many bytes a name of this size takes, with its length and, in version 2, its factor
abbrev pub taken_by : ℕ → ℕ → ℕ
taken_by version size = size + (1 + factor_size version)

-- there is room from `at` on for a name of this size
pub record RoomFor (out : List ℕ) (at version size : ℕ) : Type 0 where
  pub room : at + taken_by version size ≤ length out

-- ---- names

-- what stands for a part behind the last one
abbrev pub no_part : Part
no_part = record { at = 0; size = 0 }

-- 32 parts at most, and no longer than a name is
pub record Few (parts : List Part) : Type 0 where
  pub few : length parts ≤ 32
  pub short : (i : ℕ) → i < length parts → (get_or parts i no_part).size ≤ 20

-- and lie in the text
pub record Inside (t : List ℕ) (parts : List Part) : Type 0 where
  pub inside : (i : ℕ) → i < length parts → (get_or parts i no_part).at + (get_or parts i no_part).size ≤ length t

-- `r` is how many bytes they take, whatever text they are parts of
pub record SizeIs (version : ℕ) (parts : List Part) (r : ℕ) : Type 0 where
  pub is : (t : List ℕ) → Inside t parts → r ≡ length (names_in version (names_of t parts))
  pub most : r ≤ 23 * length parts

-- there is room for them from `at` on
pub record NamesRoom (out : List ℕ) (at version : ℕ) (t : List ℕ) (parts : List Part) : Type 0 where
  pub room : at + length (names_in version (names_of t parts)) ≤ length out

-- ---- the question with them

-- a question with 32 names of 20 bytes, in version 2, and as many bytes of article and properties as can be
abbrev pub most_named : ℕ
most_named = 1852

-- s with these names behind their count, which stands at `at`
abbrev pub named_at : ℕ → List (List ℕ) → List ℕ → List ℕ
named_at at names s =
    let new = names_in (get_or s 4 0) names in
    bytes_of 4 (length s + length new) ++ (take (at - 4) (drop 4 s) ++ (length names ∷ (new ++ drop (at + 1) s)))

-- the count stands at `at` in s, and the names can stand behind it
pub record Fitting (s : List ℕ) (at : ℕ) (t : List ℕ) (parts : List Part) : Type 0 where
  pub low : 4 < at
  pub inside : at < length s
  pub few : Few parts
  pub names : Inside t parts
  pub short : length s + length (names_in (get_or s 4 0) (names_of t parts)) ≤ most_named

-- they take `size` bytes, and there is room for s with them
pub record QuestionRoom (out s t : List ℕ) (parts : List Part) (size : ℕ) : Type 0 where
  pub size_is : size ≡ length (names_in (get_or s 4 0) (names_of t parts))
  pub room : length s + size ≤ length out

-- ---- the call

-- zeros beside the number and the place of a refusal
pub record RefusedWith (number place : ℕ) (r : PlacedAnswer) : Type 0 where
  pub is : r ≡ record { length = 0; place = place; number = number }

-- s is a question that grants none, and their count stands at `at`
pub record GrantsNone (s : List ℕ) (at : ℕ) : Type 0 where
  pub question : Question
  pub is : question_of s ≡ some question
  pub none : grants_none question ≡ true
  pub stands : count_at question ≡ at
  pub inside : at < length s

-- s is no question, or one that grants names
pub record NotAsked (s : List ℕ) : Type 0 where
  pub grants : (q : Question) → question_of s ≡ some q → grants_none q ≡ false

-- these bytes, or 7 if there is no room for them
unfoldable pub if_room : ℕ → List ℕ → ResultAt (List ℕ)
if_room room new = do
  _ ← unless_so 7 (leb (length new) room)
  Done new

pub record PutIs (new lent : List ℕ) (r : PlacedAnswer) (after : List ℕ) : Type 0 where
  pub answer : r ≡ shown_derive (if_room (length lent) new)
  pub output : after ≡ lent_after_derive (if_room (length lent) new) lent
