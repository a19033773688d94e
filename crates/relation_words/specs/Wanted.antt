-- What may come at a position of a relation text: some words, a name, a string, a number. And where the reader stops that wants these.
use Rattle.std.specs.Prelude.{ℕ, suc, ◌≤◌, ◌<◌, ◌≡◌, Bool, true, false, ◌&&◌, ◌||◌, not, List, [], ◌∷◌, ◌++◌, map, length, drop, get_or}
use Rattle.std.proofs.Math.Option.{some, none}
use Rattle.rules.specs.Lists.{any, all, is_some}
use Rattle.rules.specs.Letters.{text}
use Rattle.relation_rules.specs.Grammar.{Token, capital, is_quote, is_digit, minus, token_of, apart}
use Rattle.rules.specs.PlacedRefusals.{RefusedAt}
use Rattle.relation_rules.specs.Reader.{State, Next, next, begins, word_begins, quote_begins, figure_begins, complete, too_deep, Between, Inside, run}
use Rattle.layout.specs.Reads.{part}

pub record Wanted : Type 0 where
  pub words : List (List ℕ)
  pub name : Bool
  pub quoted : Bool
  pub whole : Bool

-- the bytes may go on to a token that is wanted
abbrev pub fits_wanted : Wanted → List ℕ → Bool
fits_wanted w l = any (begins (map capital l)) w.words || (w.name && word_begins l) || (w.quoted && quote_begins l) || (w.whole && figure_begins l)

abbrev pub variable_word : Bool → List (List ℕ)
variable_word true = text "$VARCOND" ∷ []
variable_word false = []

abbrev pub wanted_next : Next → Wanted
wanted_next n = record {
  words = variable_word (is_some n.variable) ++ map (λ m. m.0) n.fixed;
  name = is_some n.name;
  quoted = is_some n.quoted;
  whole = is_some n.whole;
}

-- what a state of the reader wants
unfoldable pub wanted_by : State → Wanted
wanted_by q = wanted_next (next q)

-- a word of a list begins as no string and no number does
abbrev pub plain_word : List ℕ → Bool
plain_word [] = false
plain_word (b ∷ w) = not (is_quote b || (is_digit b || minus b))

abbrev pub plain_words : List (List ℕ) → Bool
plain_words ws = all plain_word ws

-- ---- at a byte that is no blank

-- the reader is inside a token that began at `at`, and has read it up to i
pub record Begun (w : Wanted) (s : List ℕ) (at i : ℕ) : Type 0 where
  pub on : at < i
  pub most : i ≤ length s
  pub moves : (limit : ℕ) (q : State) → wanted_by q ≡ w → too_deep limit q (get_or s at 0) ≡ false
      → run limit (suc at) (Between q) (drop at s) ≡ run limit (suc i) (Inside q (suc at) (part s at i)) (drop i s)

-- the reader refuses 14 at a place
pub record StopsHere (w : Wanted) (s : List ℕ) (at place : ℕ) : Type 0 where
  pub stops : (limit : ℕ) (q : State) → wanted_by q ≡ w → too_deep limit q (get_or s at 0) ≡ false
      → run limit (suc at) (Between q) (drop at s) ≡ RefusedAt 14 place

-- a token from `at` to r
pub record TokenHere (s : List ℕ) (at : ℕ) (t : Token) (r : ℕ) : Type 0 where
  pub on : at < r
  pub most : r ≤ length s
  pub is : token_of (suc at) (part s at r) ≡ some t
  pub alone : apart (part s at r) (drop r s) ≡ true

-- ---- behind blanks

-- the reader refuses 14 at a place, whatever was read before
pub record Stops (w : Wanted) (s : List ℕ) (at place : ℕ) : Type 0 where
  pub stops : (limit : ℕ) (q : State) → wanted_by q ≡ w → complete q ≡ none → (next q).opens ≡ none
      → run limit (suc at) (Between q) (drop at s) ≡ RefusedAt 14 place
