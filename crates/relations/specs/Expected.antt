-- What may come at each point of a condition.
use Rattle.std.specs.Prelude.{ℕ, zero, suc, ◌≤◌, ◌<◌, ◌≡◌, Bool, true, false, List, [], ◌∷◌, ◌++◌, map, length, drop, Result, Ok, Err}
use Rattle.rules.specs.Letters.{text}
use Rattle.relation_rules.specs.Grammar.{Fixed, sign_text}
use Rattle.relation_rules.specs.Reader.{all_signs}
use Rattle.relation_rules.specs.Parts.{TokenAt}
use Rattle.relation_words.specs.declared.tokens.Kind.{Kind}
use Rattle.relation_words.specs.declared.tokens.Kind.TheVariants.{Word, Name as AName, Quoted as AString, Figure}
use Rattle.relation_words.specs.declared.tokens.Stop.{Stop}
use Rattle.relation_words.specs.Heard.{NothingHeardOn}
use Rattle.relation_words.specs.Wanted.{Wanted}
use Rattle.relations.specs.declared.expected.Mark.{Mark}

-- the number of a word; 0: it is none
abbrev pub word_in : Kind → ℕ
word_in (Word k) = k
word_in AName = 0
word_in AString = 0
word_in (Figure below size) = 0

abbrev pub is_named : Kind → Bool
is_named (Word k) = false
is_named AName = true
is_named AString = false
is_named (Figure below size) = false

abbrev pub only_words : List (List ℕ) → Wanted
only_words ws = record { words = ws; name = false; quoted = false; whole = false }

abbrev pub wants_condition : Wanted
wants_condition = record { words = text "NOT" ∷ text "SPECIFIED" ∷ text "(" ∷ []; name = true; quoted = true; whole = true }

abbrev pub wants_name : Wanted
wants_name = record { words = []; name = true; quoted = false; whole = false }

abbrev pub wants_operand : Wanted
wants_operand = record { words = []; name = true; quoted = true; whole = true }

abbrev pub wants_constant : Wanted
wants_constant = record { words = []; name = false; quoted = true; whole = true }

abbrev pub wants_open : Wanted
wants_open = only_words (text "(" ∷ [])

abbrev pub wants_mark : Wanted
wants_mark = only_words (text "," ∷ text ")" ∷ [])

-- such a mark, up to where it ends; or nothing that may come
pub record MarkOver (s : List ℕ) (at : ℕ) (m : Mark) : Type 0 where
  pub further : at < m.to
  pub most : m.to ≤ length s
  pub closing : m.closes ≡ true → TokenAt (suc at) (drop at s) (Fixed (text ")")) (suc m.to) (drop m.to s)
  pub comma : m.closes ≡ false → TokenAt (suc at) (drop at s) (Fixed (text ",")) (suc m.to) (drop m.to s)

abbrev pub MarkRead : List ℕ → ℕ → Result Mark Stop → Type 0
MarkRead s at (Ok m) = MarkOver s at m
MarkRead s at (Err e) = NothingHeardOn wants_mark s at e

-- a sign, or IN behind a name
abbrev pub wants_sign : Bool → Wanted
wants_sign true = only_words (map sign_text all_signs ++ (text "IN" ∷ []))
wants_sign false = only_words (map sign_text all_signs)

-- behind a single condition, with d parentheses open
abbrev pub closes : ℕ → List ℕ
closes zero = text ","
closes (suc d) = text ")"

abbrev pub wants_join : ℕ → Wanted
wants_join d = only_words (text "AND" ∷ text "OR" ∷ closes d ∷ [])

-- ---- of an assignment

abbrev pub wants_variable : Wanted
wants_variable = only_words (text "$VARCOND" ∷ [])

abbrev pub wants_becomes : Wanted
wants_becomes = only_words (text "=" ∷ [])

abbrev pub wants_string : Wanted
wants_string = record { words = []; name = false; quoted = true; whole = false }

abbrev pub wants_if : Wanted
wants_if = only_words (text "IF" ∷ text "," ∷ [])
