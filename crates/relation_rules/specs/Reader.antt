-- "Derive conditions in the plugin": reading a relation text byte by byte. What has been read is kept as a place in the tree; each place says what may come next,
-- as the written grammar has it. The first byte that cannot come is the place of refusal 14, a parenthesis too deep that of refusal 15.
use Rattle.std.specs.Prelude.{ℕ, zero, suc, Bool, true, false, ◌&&◌, ◌||◌, not, List, [], ◌∷◌, ◌++◌, map, eqb, leb, ℤ, length}
use Rattle.std.proofs.Math.Option.{Option, some, none}
use Rattle.rules.specs.Lists.{same, all, any, is_some, if_some}
use Rattle.rules.specs.Letters.{text, letter}
use Rattle.rules.specs.PlacedRefusals.{ResultAt, Done, RefusedAt}
use Rattle.relation_rules.specs.Grammar.{capital, Token, Variable, Fixed, Name, Quoted, Whole, token_of, goes_on, is_blank, is_letter, is_quote, word_byte, minus, figures, in_quotes, Chain, One, More, further, Sign, Less, LessWord, AtMost, AtMostWord, Equal, EqualWord, Unequal, UnequalWord, AtLeast, AtLeastToo, AtLeastWord, Greater, GreaterWord, sign_text, Constant, Text, Number, Operand, Property, Given, OrChain, FirstAnd, Or, AndChain, FirstSingle, And, Single, Comparison, Specified, Among, Not, Group, Assignment, deepest}

-- ---- what has been read

-- of the condition inside the innermost parenthesis: what stands before an OR, what before an AND, and how many NOT
pub record Part : Type 0 where
  pub ors : Option OrChain
  pub ands : Option AndChain
  pub nots : ℕ

abbrev pub fresh : Part
fresh = record { ors = none; ands = none; nots = 0 }

-- around it: the assignments before, this one's place and value, and what stands before each open parenthesis, the innermost first
pub record Around : Type 0 where
  pub done : Option (Chain Assignment)
  pub place : ℕ
  pub value : List ℕ
  pub outer : List Part

-- what was read last decides what may come next
pub data State : Type 0 where
  Start : Option (Chain Assignment) → State
  AtVariable : Option (Chain Assignment) → ℕ → State
  AtBecomes : Option (Chain Assignment) → ℕ → State
  AtValue : Option (Chain Assignment) → ℕ → List ℕ → State
  AtCondition : Around → Part → State
  AtSpecified : Around → Part → State
  AtOperand : Around → Part → Operand → State
  AtSign : Around → Part → Operand → Sign → State
  AtIn : Around → Part → List ℕ → State
  AtOpen : Around → Part → List ℕ → State
  AtListed : Around → Part → List ℕ → Chain Constant → State
  AtComma : Around → Part → List ℕ → Chain Constant → State
  AtSingle : Around → Option OrChain → AndChain → State

abbrev pub negated : ℕ → Single → Single
negated zero c = c
negated (suc n) c = negated n (Not c)

abbrev pub and_of : Option AndChain → Single → AndChain
and_of none c = FirstSingle c
and_of (some a) c = And a c

abbrev pub or_of : Option OrChain → AndChain → OrChain
or_of none a = FirstAnd a
or_of (some o) a = Or o a

-- a single condition is complete
abbrev pub ended : Around → Part → Single → State
ended w p c = AtSingle w p.ors (and_of p.ands (negated p.nots c))

abbrev pub assigned : Option (Chain Assignment) → ℕ → List ℕ → Option OrChain → Chain Assignment
assigned done place value condition = further done (record { place = place; value = value; condition = condition })

-- ---- what may come next

-- `opens`: a condition's parenthesis may, and so many are open already
pub record Next : Type 0 where
  pub variable : Option (ℕ → State)
  pub fixed : List (List ℕ × State)
  pub name : Option (List ℕ → State)
  pub quoted : Option (List ℕ → State)
  pub whole : Option (ℤ → State)
  pub opens : Option ℕ

abbrev pub fixed_only : List (List ℕ × State) → Next
fixed_only ms = record { variable = none; fixed = ms; name = none; quoted = none; whole = none; opens = none }

abbrev pub constant_only : (Constant → State) → Next
constant_only f = record { variable = none; fixed = []; name = none; quoted = some (λ v. f (Text v)); whole = some (λ z. f (Number z)); opens = none }

abbrev pub all_signs : List Sign
all_signs = Less ∷ LessWord ∷ AtMost ∷ AtMostWord ∷ Equal ∷ EqualWord ∷ Unequal ∷ UnequalWord ∷ AtLeast ∷ AtLeastToo ∷ AtLeastWord ∷ Greater ∷ GreaterWord ∷ []

-- only a name may stand before IN
abbrev pub or_among : Around → Part → Operand → List (List ℕ × State)
or_among w p (Property n) = (text "IN", AtIn w p n) ∷ []
or_among w p (Given c) = []

abbrev pub closing : Option (Chain Assignment) → ℕ → List ℕ → List Part → OrChain → List (List ℕ × State)
closing done place value [] o = (text ",", Start (some (assigned done place value (some o)))) ∷ []
closing done place value (p ∷ ps) o = (text ")", ended (record { done = done; place = place; value = value; outer = ps }) p (Group o)) ∷ []

unfoldable pub next : State → Next
next (Start d) = record { variable = some (λ p. AtVariable d p); fixed = []; name = none; quoted = none; whole = none; opens = none }
next (AtVariable d p) = fixed_only ((text "=", AtBecomes d p) ∷ [])
next (AtBecomes d p) = record { variable = none; fixed = []; name = none; quoted = some (λ v. AtValue d p v); whole = none; opens = none }
next (AtValue d p v) =
    fixed_only (
    (text "IF", AtCondition (record { done = d; place = p; value = v; outer = [] }) fresh)
    ∷ (text ",", Start (some (assigned d p v none)))
    ∷ []
    )
next (AtCondition w p) =
    record {
      variable = none;
      fixed =
          (text "NOT", AtCondition w (record { ors = p.ors; ands = p.ands; nots = suc p.nots }))
          ∷ (text "SPECIFIED", AtSpecified w p)
          ∷ (text "(", AtCondition (record { done = w.done; place = w.place; value = w.value; outer = p ∷ w.outer }) fresh)
          ∷ [];
      name = some (λ n. AtOperand w p (Property n));
      quoted = some (λ v. AtOperand w p (Given (Text v)));
      whole = some (λ z. AtOperand w p (Given (Number z)));
      opens = some (length w.outer);
    }
next (AtSpecified w p) = record { variable = none; fixed = []; name = some (λ n. ended w p (Specified n)); quoted = none; whole = none; opens = none }
next (AtOperand w p x) = fixed_only (map (λ s. (sign_text s, AtSign w p x s)) all_signs ++ or_among w p x)
next (AtSign w p x s) =
    record {
      variable = none;
      fixed = [];
      name = some (λ n. ended w p (Comparison x s (Property n)));
      quoted = some (λ v. ended w p (Comparison x s (Given (Text v))));
      whole = some (λ z. ended w p (Comparison x s (Given (Number z))));
      opens = none;
    }
next (AtIn w p n) = fixed_only ((text "(", AtOpen w p n) ∷ [])
next (AtOpen w p n) = constant_only (λ c. AtListed w p n (One c))
next (AtListed w p n cs) = fixed_only ((text ",", AtComma w p n cs) ∷ (text ")", ended w p (Among n cs)) ∷ [])
next (AtComma w p n cs) = constant_only (λ c. AtListed w p n (More cs c))
next (AtSingle w os a) =
    fixed_only (
    (text "AND", AtCondition w (record { ors = os; ands = some a; nots = 0 }))
    ∷ (text "OR", AtCondition w (record { ors = some (or_of os a); ands = none; nots = 0 }))
    ∷ closing w.done w.place w.value w.outer (or_of os a)
    )

-- the tree, where the text may end
abbrev pub at_end : Option (Chain Assignment) → ℕ → List ℕ → List Part → OrChain → Option (Chain Assignment)
at_end so_far place value [] o = some (assigned so_far place value (some o))
at_end so_far place value (p ∷ ps) o = none

unfoldable pub complete : State → Option (Chain Assignment)
complete (Start d) = none
complete (AtVariable d p) = none
complete (AtBecomes d p) = none
complete (AtValue d p v) = some (assigned d p v none)
complete (AtCondition w p) = none
complete (AtSpecified w p) = none
complete (AtOperand w p x) = none
complete (AtSign w p x s) = none
complete (AtIn w p n) = none
complete (AtOpen w p n) = none
complete (AtListed w p n cs) = none
complete (AtComma w p n cs) = none
complete (AtSingle w os a) = at_end w.done w.place w.value w.outer (or_of os a)

-- ---- tokens that come

abbrev pub may_be : {A B : Type 0} → Option (A → B) → A → Option B
may_be none a = none
may_be (some f) a = some (f a)

abbrev pub lookup : List (List ℕ × State) → List ℕ → Option State
lookup [] k = none
lookup (m ∷ ms) k = elim (same k m.0) [ true ↦ some m.1 | false ↦ lookup ms k ]

abbrev pub taken_by : Next → Token → Option State
taken_by n (Variable p) = may_be n.variable p
taken_by n (Fixed k) = lookup n.fixed k
taken_by n (Name m) = may_be n.name m
taken_by n (Quoted v) = may_be n.quoted v
taken_by n (Whole z) = may_be n.whole z

-- behind the token, or nothing where it may not come
unfoldable pub take : State → Token → Option State
take q t = taken_by (next q) t

-- ---- bytes that come

abbrev pub begins : List ℕ → List ℕ → Bool
begins [] k = true
begins (b ∷ l) [] = false
begins (b ∷ l) (c ∷ k) = eqb b c && begins l k

abbrev pub word_begins : List ℕ → Bool
word_begins [] = false
word_begins (b ∷ l) = is_letter b && all word_byte l

abbrev pub quote_begins : List ℕ → Bool
quote_begins [] = false
quote_begins (b ∷ l) = is_quote b && (all (λ c. not (is_quote c)) l || is_some (in_quotes l))

abbrev pub figure_begins : List ℕ → Bool
figure_begins [] = false
figure_begins (b ∷ l) = (minus b && figures l) || figures (b ∷ l)

-- whether the bytes of a token may go on to one that may come
abbrev pub fits : Next → List ℕ → Bool
fits n l =
    (is_some n.variable && begins (map capital l) (text "$VARCOND"))
    || any (λ m. begins (map capital l) m.0) n.fixed
    || (is_some n.name && word_begins l)
    || (is_some n.quoted && quote_begins l)
    || (is_some n.whole && figure_begins l)

unfoldable pub viable : State → List ℕ → Bool
viable q l = fits (next q) l

-- behind the last whole token, or inside one: where it began, and its bytes so far
pub data Spot : Type 0 where
  Between : State → Spot
  Inside : State → ℕ → List ℕ → Spot

pub data Step : Type 0 where
  Go : Spot → Step
  Stop : Step
  Deep : Step

abbrev pub too_deep : ℕ → State → ℕ → Bool
too_deep limit q b = eqb b (letter "(") && if_some (next q).opens false (leb limit)

abbrev pub beginning : Bool → Bool → Bool → ℕ → State → ℕ → Step
beginning true deep ok n q b = Go (Between q)
beginning false true ok n q b = Deep
beginning false false true n q b = Go (Inside q n (b ∷ []))
beginning false false false n q b = Stop

-- a byte that no token reaches over
unfoldable pub begin : ℕ → ℕ → State → ℕ → Step
begin limit n q b = beginning (is_blank b) (too_deep limit q b) (viable q (b ∷ [])) n q b

abbrev pub then_take : State → Option Token → Option State
then_take q none = none
then_take q (some t) = take q t

-- behind the token that these bytes are
unfoldable pub behind : State → ℕ → List ℕ → Option State
behind q from l = then_take q (token_of from l)

abbrev pub begin_in : ℕ → ℕ → Option State → ℕ → Step
begin_in limit n none b = Stop
begin_in limit n (some q) b = begin limit n q b

abbrev pub going : Bool → Bool → ℕ → ℕ → State → ℕ → List ℕ → ℕ → Step
going true true limit n q from l b = Go (Inside q from (l ++ (b ∷ [])))
going true false limit n q from l b = Stop
going false ok limit n q from l b = begin_in limit n (behind q from l) b

unfoldable pub step : ℕ → ℕ → Spot → ℕ → Step
step limit n (Between q) b = begin limit n q b
step limit n (Inside q from l) b = going (goes_on l b) (viable q (l ++ (b ∷ []))) limit n q from l b

-- ---- the text

abbrev pub complete_in : Option State → Option (Chain Assignment)
complete_in none = none
complete_in (some q) = complete q

unfoldable pub final : Spot → Option (Chain Assignment)
final (Between q) = complete q
final (Inside q from l) = complete_in (behind q from l)

abbrev pub or_cut : ℕ → Option (Chain Assignment) → ResultAt (Chain Assignment)
or_cut n none = RefusedAt 14 n
or_cut n (some tree) = Done tree

abbrev pub onward : ℕ → Step → (Spot → ResultAt (Chain Assignment)) → ResultAt (Chain Assignment)
onward n (Go at) f = f at
onward n Stop f = RefusedAt 14 n
onward n Deep f = RefusedAt 15 n

-- the bytes from place n on
unfoldable pub run : ℕ → ℕ → Spot → List ℕ → ResultAt (Chain Assignment)
run limit n at [] = or_cut n (final at)
run limit n at (b ∷ s) = onward n (step limit n at b) (λ to. run limit (suc n) to s)

-- the tree of a text; or 14 at the first byte that no text of the grammar has after those before it, or one past the end of a cut text; or 15 at the first
-- parenthesis of a condition that is too deep
unfoldable pub relation_of : List ℕ → ResultAt (Chain Assignment)
relation_of s = run deepest 1 (Between (Start none)) s
