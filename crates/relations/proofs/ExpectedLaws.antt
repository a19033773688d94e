-- What comes at a position is one of the things that may, and where nothing does the reader stops.
use Prim.Native.Nat.{ℕ, zero, suc, ◌-◌, ◌≤◌, ◌<◌}
use mathlib.Core.Path.{◌≡◌, refl, sym, ◌∙◌, ap, subst}
use mathlib.Core.Bool.{true, false, false≢true}
use mathlib.Core.List.{List, [], ◌∷◌, ◌++◌, map}
use mathlib.Core.Option.{some}
use native.Mathlib.Omega.{arith}
use lib.ListN.{length, drop}
use Rattle.relation_rules.specs.Grammar.{capital, Token, Fixed, Name, Sign, Less, LessWord, AtMost, AtMostWord, Equal, EqualWord, Unequal, UnequalWord, AtLeast, AtLeastToo, AtLeastWord, Greater, GreaterWord, sign_text, Constant, Text, Number, constant_token, Operand, Property, Given, operand_token, Chain, token_of}
use Rattle.rules.specs.PlacedRefusals.{RefusedAt}
use Rattle.relation_rules.specs.Reader.{Part, Around, AtSpecified, AtOperand, AtSign, AtIn, AtOpen, AtListed, AtComma, next, complete, Between, run}
use Rattle.relation_rules.specs.Parts.{TokenAt}
use Rattle.relation_rules.specs.Truth.{is_property}
use Rattle.layout.specs.Reads.{part}
use Rattle.relation_words.specs.declared.tokens.Kind.{Kind}
use Rattle.relation_words.specs.declared.tokens.Kind.TheVariants.{Word, Name as AName, Quoted as AString, Figure}
use Rattle.relation_words.specs.declared.tokens.Token.{Token as Found}
use Rattle.relation_words.specs.declared.tokens.Stop.{Stop}
use Rattle.relation_words.specs.Words.{word_of}
use Rattle.relation_words.specs.Wanted.{Wanted, wanted_by, TokenHere}
use Rattle.relation_words.specs.Heard.{whole_of, some_word, may_hear, TokenHeard, TokenHeardOn, NothingHeardOn}
use Rattle.relation_truth.specs.Values.{operand_of, operand_by, OperandIn, sign_in}
use Rattle.relations.specs.Expected.{wants_name, wants_operand, wants_constant, wants_open, wants_mark, wants_sign, only_words, word_in, is_named}
use Rattle.relations.specs.Reading.{OperandAt}

pub through : {at i to : ℕ} → at ≤ i → i ≤ to → at ≤ to
through {at} {i} {to} a b = omega arith

-- ---- what was heard

pub heard_ahead : {s : List ℕ} {w : Wanted} {at : ℕ} {t : Found} → TokenHeardOn w s at t → at ≤ t.to
heard_ahead {at = at} {t = t} h = let a : at ≤ t.from = h.begins in let b : t.from < t.to = h.further in omega arith

-- ---- the reader stops where nothing comes that may

module _ {s : List ℕ} {at : ℕ} {e : Stop} where
  pub name_stops : NothingHeardOn wants_name s at e → (limit : ℕ) (w : Around) (p : Part)
      → run limit (suc at) (Between (AtSpecified w p)) (drop at s) ≡ RefusedAt 14 (suc e.at)
  unfolding wanted_by next complete
  name_stops h limit w p = (h.wrong refl).stops limit (AtSpecified w p) refl refl refl

  pub second_stops : NothingHeardOn wants_operand s at e → (limit : ℕ) (w : Around) (p : Part) (x : Operand) (g : Sign)
      → run limit (suc at) (Between (AtSign w p x g)) (drop at s) ≡ RefusedAt 14 (suc e.at)
  unfolding wanted_by next complete
  second_stops h limit w p x g = (h.wrong refl).stops limit (AtSign w p x g) refl refl refl

  pub open_stops : NothingHeardOn wants_open s at e → (limit : ℕ) (w : Around) (p : Part) (x : List ℕ)
      → run limit (suc at) (Between (AtIn w p x)) (drop at s) ≡ RefusedAt 14 (suc e.at)
  unfolding wanted_by next complete
  open_stops h limit w p x = (h.wrong refl).stops limit (AtIn w p x) refl refl refl

  pub first_stops : NothingHeardOn wants_constant s at e → (limit : ℕ) (w : Around) (p : Part) (x : List ℕ)
      → run limit (suc at) (Between (AtOpen w p x)) (drop at s) ≡ RefusedAt 14 (suc e.at)
  unfolding wanted_by next complete
  first_stops h limit w p x = (h.wrong refl).stops limit (AtOpen w p x) refl refl refl

  pub comma_stops : NothingHeardOn wants_constant s at e → (limit : ℕ) (w : Around) (p : Part) (x : List ℕ) (cs : Chain Constant)
      → run limit (suc at) (Between (AtComma w p x cs)) (drop at s) ≡ RefusedAt 14 (suc e.at)
  unfolding wanted_by next complete
  comma_stops h limit w p x cs = (h.wrong refl).stops limit (AtComma w p x cs) refl refl refl

  pub mark_stops : NothingHeardOn wants_mark s at e → (limit : ℕ) (w : Around) (p : Part) (x : List ℕ) (cs : Chain Constant)
      → run limit (suc at) (Between (AtListed w p x cs)) (drop at s) ≡ RefusedAt 14 (suc e.at)
  unfolding wanted_by next complete
  mark_stops h limit w p x cs = (h.wrong refl).stops limit (AtListed w p x cs) refl refl refl

  pub sign_stops : (x : Operand) → NothingHeardOn (wants_sign (is_property x)) s at e → (limit : ℕ) (w : Around) (p : Part)
      → run limit (suc at) (Between (AtOperand w p x)) (drop at s) ≡ RefusedAt 14 (suc e.at)
  unfolding wanted_by next complete
  sign_stops (Property n) h limit w p = (h.wrong refl).stops limit (AtOperand w p (Property n)) refl refl refl
  sign_stops (Given c) h limit w p = (h.wrong refl).stops limit (AtOperand w p (Given c)) refl refl refl

-- ---- what came

-- where only words may come, a word came
is_word : (ws : List (List ℕ)) (k : Kind) → may_hear (only_words ws) k ≡ true → k ≡ Word (word_in k)
is_word ws (Word k) e = refl
is_word ws AName e = absurd (false≢true e)
is_word ws AString e = absurd (false≢true e)
is_word ws (Figure below size) e = absurd (false≢true e)

module _ {ws : List (List ℕ)} {s : List ℕ} {at : ℕ} {t : Found} (h : TokenHeardOn (only_words ws) s at t) where
  pub word_least : 1 ≤ word_in t.kind
  word_least = h.least (word_in t.kind) (is_word ws t.kind h.asked)

  pub word_last : word_in t.kind ≤ length ws
  word_last = h.last (word_in t.kind) (is_word ws t.kind h.asked)

  pub word_token : (k : ℕ) → word_in t.kind ≡ k → (u : Token) → token_of (suc t.from) (word_of ws k) ≡ some u → TokenAt (suc at) (drop at s) u (suc t.to) (drop t.to s)
  word_token k e u f = h.word (word_in t.kind) (is_word ws t.kind h.asked) u (ap (λ j. token_of (suc t.from) (word_of ws j)) e ∙ f)

module _ {ws : List (List ℕ)} {s : List ℕ} {at : ℕ} {t : Found} (h : TokenHeard (only_words ws) s at t) where
  pub here_least : 1 ≤ word_in t.kind
  here_least = h.least (word_in t.kind) (is_word ws t.kind h.asked)

  pub here_last : word_in t.kind ≤ length ws
  here_last = h.last (word_in t.kind) (is_word ws t.kind h.asked)

  pub here_token : (k : ℕ) → word_in t.kind ≡ k → (u : Token) → token_of (suc at) (word_of ws k) ≡ some u → TokenHere s at u t.to
  here_token k e u f = h.word (word_in t.kind) (is_word ws t.kind h.asked) u (ap (λ j. token_of (suc at) (word_of ws j)) e ∙ f)

-- where no word may come, none came
pub no_word_heard : {w : Wanted} {s : List ℕ} {at : ℕ} {t : Found} → some_word w.words ≡ false → TokenHeardOn w s at t → (k : ℕ) → t.kind ≡ Word k → ⊥
no_word_heard {w} f h k e = false≢true (sym f ∙ (ap (may_hear w) (sym e) ∙ h.asked))

-- it stands inside the text
pub heard_inside : {w : Wanted} {s : List ℕ} {at : ℕ} {t : Found} → TokenHeardOn w s at t → OperandIn s t
heard_inside h = record { on = h.further; most = h.most; closed = h.closed; small = h.small }

pub record ConstantAt (s : List ℕ) (at : ℕ) (t : Found) : Type 0 where
  pub constant : Constant
  pub is : operand_of s t ≡ Given constant
  pub token : TokenAt (suc at) (drop at s) (constant_token constant) (suc t.to) (drop t.to s)

pub record NameAt (s : List ℕ) (at : ℕ) (t : Found) : Type 0 where
  pub name : List ℕ
  pub is : operand_of s t ≡ Property name
  pub token : TokenAt (suc at) (drop at s) (Name name) (suc t.to) (drop t.to s)

by_kind : (s : List ℕ) (t : Found) {k : Kind} → t.kind ≡ k → operand_of s t ≡ operand_by s k t.from t.to
by_kind s t e = ap (λ j. operand_by s j t.from t.to) e

pub operand_at_lem : (s : List ℕ) {at : ℕ} (t : Found) (k : Kind) → t.kind ≡ k → TokenAt (suc at) (drop at s) (operand_token (operand_by s k t.from t.to)) (suc t.to) (drop t.to s)
    → TokenAt (suc at) (drop at s) (operand_token (operand_of s t)) (suc t.to) (drop t.to s)
operand_at_lem s {at} t k e p = subst (λ o. TokenAt (suc at) (drop at s) (operand_token o) (suc t.to) (drop t.to s)) (sym (by_kind s t e)) p

module _ {s : List ℕ} {at : ℕ} {t : Found} where
  pub is_constant : TokenHeardOn wants_constant s at t → ConstantAt s at t
  is_constant h = go t.kind refl
    where
      go : (k : Kind) → t.kind ≡ k → ConstantAt s at t
      go (Word j) e = absurd (no_word_heard refl h j e)
      go AName e = absurd (false≢true (ap (may_hear wants_constant) (sym e) ∙ h.asked))
      go AString e = record { constant = Text (part s (suc t.from) (t.to - 1)); is = by_kind s t e; token = h.quoted e }
      go (Figure below size) e = record { constant = Number (whole_of below size); is = by_kind s t e; token = h.whole below size e }

  pub is_operand : TokenHeardOn wants_operand s at t → OperandAt s at t
  is_operand h = record { token = go t.kind refl; begins = h.begins; inside = heard_inside h }
    where
      go : (k : Kind) → t.kind ≡ k → TokenAt (suc at) (drop at s) (operand_token (operand_of s t)) (suc t.to) (drop t.to s)
      go (Word j) e = absurd (no_word_heard refl h j e)
      go AName e = operand_at_lem s t AName e (h.name e)
      go AString e = operand_at_lem s t AString e (h.quoted e)
      go (Figure below size) e = operand_at_lem s t (Figure below size) e (h.whole below size e)

  pub is_name : TokenHeardOn wants_name s at t → NameAt s at t
  is_name h = go t.kind refl
    where
      go : (k : Kind) → t.kind ≡ k → NameAt s at t
      go (Word j) e = absurd (false≢true (ap (may_hear wants_name) (sym e) ∙ h.asked))
      go AName e = record { name = map capital (part s t.from t.to); is = by_kind s t e; token = h.name e }
      go AString e = absurd (false≢true (ap (may_hear wants_name) (sym e) ∙ h.asked))
      go (Figure below size) e = absurd (false≢true (ap (may_hear wants_name) (sym e) ∙ h.asked))

-- only a name is a property
pub property_kind : (s : List ℕ) (t : Found) → is_property (operand_of s t) ≡ is_named t.kind
property_kind s t = go t.kind
  where
    go : (k : Kind) → is_property (operand_by s k t.from t.to) ≡ is_named k
    go (Word j) = refl
    go AName = refl
    go AString = refl
    go (Figure below size) = refl

-- ---- signs

pub sign_token : (n : ℕ) (g : Sign) → token_of n (sign_text g) ≡ some (Fixed (sign_text g))
unfolding token_of Rattle.relation_rules.specs.Grammar.reserved
sign_token n Less = refl
sign_token n LessWord = refl
sign_token n AtMost = refl
sign_token n AtMostWord = refl
sign_token n Equal = refl
sign_token n EqualWord = refl
sign_token n Unequal = refl
sign_token n UnequalWord = refl
sign_token n AtLeast = refl
sign_token n AtLeastToo = refl
sign_token n AtLeastWord = refl
sign_token n Greater = refl
sign_token n GreaterWord = refl

-- the word with a number is that sign, if it is one of the signs
pub listed_sign : (gs : List Sign) (ws : List (List ℕ)) (k : ℕ) → k < length gs → word_of (map sign_text gs ++ ws) (suc k) ≡ sign_text (sign_in gs (suc k))
listed_sign [] ws k h = absurd (omega arith)
listed_sign (g ∷ gs) ws zero h = refl
listed_sign (g ∷ gs) ws (suc k) h = listed_sign gs ws k (omega arith)
