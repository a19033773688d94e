-- What was heard at a position of a text: a token that may come, or the first byte that may not.
use Rattle.std.specs.Prelude.{ℕ, suc, ◌+◌, ◌-◌, ◌≤◌, ◌<◌, ◌≡◌, Bool, true, false, not, ◌&&◌, ◌||◌, cond, List, [], ◌∷◌, map, ℤ, pos, neg_ℤ, length, drop, get_or, Result, Ok, Err}
use Rattle.std.proofs.Math.Option.{some}
use Rattle.rules.specs.Lists.{all, any, same}
use Rattle.relation_rules.specs.Grammar.{Token, Name, Quoted, Whole, capital, token_of, apart, is_blank, is_letter, is_digit, is_quote, minus, word_byte, goes_on}
use Rattle.relation_rules.specs.Parts.{TokenAt}
use Rattle.layout.specs.Reads.{part}
use Rattle.relation_words.specs.declared.tokens.Kind.{Kind}
use Rattle.relation_words.specs.declared.tokens.Kind.TheVariants.{Word, Name as AName, Quoted as AString, Figure}
use Rattle.relation_words.specs.declared.tokens.Token.{Token as Found}
use Rattle.relation_words.specs.declared.tokens.Stop.{Stop}
use Rattle.relation_words.specs.declared.tokens.Wants.{Wants}
use Rattle.relation_words.specs.Words.{word_of}
use Rattle.relation_words.specs.Wanted.{Wanted, plain_words, Begun, StopsHere, TokenHere, Stops}

-- what code says may come
abbrev pub wanted_of : Wants → Wanted
wanted_of w = record { words = map (λ v. v.now) w.words.now; name = w.name; quoted = w.quoted; whole = w.figure }

-- a number by its sign and its size
abbrev pub whole_of : Bool → ℕ → ℤ
whole_of below size = cond below (neg_ℤ (pos size)) (pos size)

abbrev pub some_word : List (List ℕ) → Bool
some_word [] = false
some_word (w ∷ ws) = true

-- where a number's first digit stands
abbrev pub first_digit : ℕ → ℕ → ℕ
first_digit b at = cond (minus b) (suc at) at

-- only what is wanted is heard
abbrev pub may_hear : Wanted → Kind → Bool
may_hear w (Word k) = some_word w.words
may_hear w AName = w.name
may_hear w AString = w.quoted
may_hear w (Figure below size) = w.whole

-- at `at` stands a byte that is no blank
pub record ByteAt (s : List ℕ) (at : ℕ) : Type 0 where
  pub there : at < length s
  pub no_blank : is_blank (get_or s at 0) ≡ false

-- ---- at a byte that is no blank

-- the token t
pub record TokenHeard (w : Wanted) (s : List ℕ) (at : ℕ) (t : Found) : Type 0 where
  pub starts : t.from ≡ at
  pub further : at < t.to
  pub most : t.to ≤ length s
  pub asked : may_hear w t.kind ≡ true
  pub least : (k : ℕ) → t.kind ≡ Word k → 1 ≤ k
  pub last : (k : ℕ) → t.kind ≡ Word k → k ≤ length w.words
  pub word : (k : ℕ) → t.kind ≡ Word k → (u : Token) → token_of (suc at) (word_of w.words k) ≡ some u → TokenHere s at u t.to
  pub name : t.kind ≡ AName → TokenHere s at (Name (map capital (part s at t.to))) t.to
  pub closed : t.kind ≡ AString → at + 2 ≤ t.to
  pub quoted : t.kind ≡ AString → TokenHere s at (Quoted (part s (suc at) (t.to - 1))) t.to
  pub small : (below : Bool) (size : ℕ) → t.kind ≡ Figure below size → size < 1000000000000000000
  pub whole : (below : Bool) (size : ℕ) → t.kind ≡ Figure below size → TokenHere s at (Whole (whole_of below size)) t.to

-- or nothing that may come
pub record NothingHeard (w : Wanted) (s : List ℕ) (at : ℕ) (e : Stop) : Type 0 where
  pub on : at ≤ e.at
  pub most : e.at ≤ length s
  pub wrong : plain_words w.words ≡ true → StopsHere w s at (suc e.at)

abbrev pub Heard : Wanted → List ℕ → ℕ → Result Found Stop → Type 0
Heard w s at (Ok t) = TokenHeard w s at t
Heard w s at (Err e) = NothingHeard w s at e

-- ---- behind the blanks that stand at `at`

pub record TokenHeardOn (w : Wanted) (s : List ℕ) (at : ℕ) (t : Found) : Type 0 where
  pub begins : at ≤ t.from
  pub further : t.from < t.to
  pub most : t.to ≤ length s
  pub asked : may_hear w t.kind ≡ true
  pub least : (k : ℕ) → t.kind ≡ Word k → 1 ≤ k
  pub last : (k : ℕ) → t.kind ≡ Word k → k ≤ length w.words
  pub word : (k : ℕ) → t.kind ≡ Word k → (u : Token) → token_of (suc t.from) (word_of w.words k) ≡ some u → TokenAt (suc at) (drop at s) u (suc t.to) (drop t.to s)
  pub name : t.kind ≡ AName → TokenAt (suc at) (drop at s) (Name (map capital (part s t.from t.to))) (suc t.to) (drop t.to s)
  pub closed : t.kind ≡ AString → t.from + 2 ≤ t.to
  pub quoted : t.kind ≡ AString → TokenAt (suc at) (drop at s) (Quoted (part s (suc t.from) (t.to - 1))) (suc t.to) (drop t.to s)
  pub small : (below : Bool) (size : ℕ) → t.kind ≡ Figure below size → size < 1000000000000000000
  pub whole : (below : Bool) (size : ℕ) → t.kind ≡ Figure below size → TokenAt (suc at) (drop at s) (Whole (whole_of below size)) (suc t.to) (drop t.to s)

pub record NothingHeardOn (w : Wanted) (s : List ℕ) (at : ℕ) (e : Stop) : Type 0 where
  pub on : at ≤ e.at
  pub most : e.at ≤ length s
  pub wrong : plain_words w.words ≡ true → Stops w s at (suc e.at)

abbrev pub HeardOn : Wanted → List ℕ → ℕ → Result Found Stop → Type 0
HeardOn w s at (Ok t) = TokenHeardOn w s at t
HeardOn w s at (Err e) = NothingHeardOn w s at e

-- ---- how far a token reaches

-- a token that begins as no string does reaches over c, whatever stands between
pub record Reaches (b c : ℕ) (r : Bool) : Type 0 where
  pub is : is_quote b ≡ false → (l : List ℕ) → goes_on (b ∷ l) c ≡ r

-- a token that begins as no string does, from `at` to r
pub record TokenRun (s : List ℕ) (at r : ℕ) : Type 0 where
  pub on : at < r
  pub most : r ≤ length s
  pub goes : is_quote (get_or s at 0) ≡ false → (i : ℕ) → at < i → i < r → goes_on (part s at i) (get_or s i 0) ≡ true
  pub alone : is_quote (get_or s at 0) ≡ false → apart (part s at r) (drop r s) ≡ true

-- a word from `at` to r, and where a name may come
pub record WordRun (s : List ℕ) (at r : ℕ) : Type 0 where
  pub on : at < r
  pub most : r ≤ length s
  pub letters : all word_byte (part s (suc at) r) ≡ true
  pub alone : is_letter (get_or s at 0) ≡ true → apart (part s at r) (drop r s) ≡ true
  pub begun : (w : Wanted) → w.name ≡ true → is_letter (get_or s at 0) ≡ true → Begun w s at r

-- what stands between the quote at `at` and the next one, or the end, at r
pub record QuoteRun (s : List ℕ) (at r : ℕ) : Type 0 where
  pub on : at < r
  pub most : r ≤ length s
  pub plain : all (λ c. not (is_quote c)) (part s (suc at) r) ≡ true
  pub stop : r < length s → is_quote (get_or s r 0) ≡ true
  pub begun : (w : Wanted) → w.quoted ≡ true → is_quote (get_or s at 0) ≡ true → Begun w s at r

-- ---- words of a list

-- at a byte that begins no string, no number and, where one may come, no name
pub record OnlyWords (w : Wanted) (b : ℕ) : Type 0 where
  pub no_name : (w.name && is_letter b) ≡ false
  pub no_quote : is_quote b ≡ false
  pub no_figure : (is_digit b || minus b) ≡ false
  pub no_blank : is_blank b ≡ false

-- the token from `at` to `to` is none of these words
pub record NoWordAt (words : List (List ℕ)) (s : List ℕ) (at to : ℕ) : Type 0 where
  pub run : TokenRun s at to
  pub none : any (same (map capital (part s at to))) words ≡ false

-- at r stands the first byte that no word goes on with
pub record WordStops (words : List (List ℕ)) (s : List ℕ) (at r : ℕ) : Type 0 where
  pub on : at ≤ r
  pub most : r ≤ length s
  pub wrong : (w : Wanted) → w.words ≡ words → OnlyWords w (get_or s at 0) → StopsHere w s at (suc r)

-- ---- digits

-- a number begins at `at`
pub record FigureAt (s : List ℕ) (at : ℕ) : Type 0 where
  pub is : (is_digit (get_or s at 0) || minus (get_or s at 0)) ≡ true

-- ---- what a function hears that serves some wants

pub record WordHeard (words : List (List ℕ)) (s : List ℕ) (at : ℕ) (r : Result Found Stop) : Type 0 where
  pub heard : (w : Wanted) → w.words ≡ words → (w.name && is_letter (get_or s at 0)) ≡ false → (w.quoted && is_quote (get_or s at 0)) ≡ false
      → (w.whole && (is_digit (get_or s at 0) || minus (get_or s at 0))) ≡ false → Heard w s at r

pub record NameHeard (words : List (List ℕ)) (s : List ℕ) (at : ℕ) (r : Result Found Stop) : Type 0 where
  pub heard : (w : Wanted) → w.words ≡ words → w.name ≡ true → Heard w s at r

pub record StringHeard (s : List ℕ) (at : ℕ) (r : Result Found Stop) : Type 0 where
  pub heard : (w : Wanted) → w.quoted ≡ true → Heard w s at r

pub record NumberHeard (s : List ℕ) (at : ℕ) (r : Result Found Stop) : Type 0 where
  pub heard : (w : Wanted) → w.whole ≡ true → Heard w s at r
