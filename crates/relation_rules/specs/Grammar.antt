-- "Derive conditions in the plugin" (request 5): the written grammar of a relation text. A text is a row of tokens with blanks between them;
-- the tokens are those of a tree. The paper's part of OCD_1 (003, appendix A and, for reserved words, H) is:
--
--     text        assignment { , assignment }
--     assignment  $VARCOND = string [ IF or-chain ]
--     or-chain    and-chain { OR and-chain }
--     and-chain   single { AND single }
--     single      operand sign operand | SPECIFIED name | name IN ( constant { , constant } ) | NOT single | ( or-chain )
--     operand     name | constant
--     constant    string | number
--     sign        < <= = <> => >= >  LT LE EQ NE GE GT
--     name        a letter or _, then letters, digits and _, but no reserved word
--     number      [ - ] one to eighteen digits
--     string      ' { any byte but ' } '
--
-- Words and names may be written in small letters. Each token reaches as far as bytes of its sort go. Blanks are space, tab and both line ends.
use Rattle.std.specs.Prelude.{ℕ, suc, ◌+◌, ◌*◌, ◌-◌, ◌≡◌, Bool, true, false, ◌&&◌, ◌||◌, not, cond, List, [], ◌∷◌, ◌++◌, map, eqb, leb, ℤ, pos, neg_ℤ, length}
use Rattle.std.proofs.Math.Option.{Option, some, none}
use Rattle.rules.specs.Lists.{same, between, all, any}
use Rattle.rules.specs.Letters.{text, letter}

-- ---- bytes

abbrev pub is_blank : ℕ → Bool
is_blank b = any (eqb b) (32 ∷ 9 ∷ 10 ∷ 13 ∷ [])

abbrev pub is_letter : ℕ → Bool
is_letter b = between (letter "A") (letter "Z") b || between (letter "a") (letter "z") b || eqb b (letter "_")

abbrev pub is_digit : ℕ → Bool
is_digit b = between (letter "0") (letter "9") b

abbrev pub word_byte : ℕ → Bool
word_byte b = is_letter b || is_digit b

abbrev pub is_quote : ℕ → Bool
is_quote b = eqb b (letter "'")

abbrev pub minus : ℕ → Bool
minus b = eqb b (letter "-")

-- words may be written in small letters. They have no others than these, so a change to how names are raised does not reach them
abbrev pub capital : ℕ → ℕ
capital b = cond (between (letter "a") (letter "z") b) (b - 32) b

abbrev pub sign_byte : ℕ → Bool
sign_byte b = any (eqb b) (text "<=>")

-- ---- tokens

-- `Fixed` is a reserved word, a sign or a mark, in capitals; a name is in capitals too. The variable has its place, counted from 1
pub data Token : Type 0 where
  Variable : ℕ → Token
  Fixed : List ℕ → Token
  Name : List ℕ → Token
  Quoted : List ℕ → Token
  Whole : ℤ → Token

-- the sort of a token, by its first byte
pub data Sort : Type 0 where
  Word Figure String Dollar Compare Mark : Sort

abbrev pub sort_of : ℕ → Sort
sort_of b =
    cond (is_letter b) Word
    (cond (is_digit b || minus b) Figure
    (cond (is_quote b) String
    (cond (eqb b (letter "$")) Dollar
    (cond (sign_byte b) Compare Mark))))

-- 003, appendix H; NE, which that list forgets, is a word of appendix A
abbrev pub reserved_words : List (List ℕ)
reserved_words =
    text "AND" ∷ text "BAN" ∷ text "EQ" ∷ text "GE" ∷ text "GT" ∷ text "IF" ∷ text "IN" ∷ text "LE" ∷ text "LT" ∷ text "NE" ∷ text "NOT" ∷ text "OR"
    ∷ text "SET_PCKG_FACTOR" ∷ text "SET_PRICING_FACTOR" ∷ text "SPECIFIED" ∷ []

unfoldable pub reserved : List ℕ → Bool
reserved word = any (same word) reserved_words

abbrev pub giving : {A : Type 0} → Bool → A → Option A
giving true a = some a
giving false a = none

abbrev pub word_token : List ℕ → Token
word_token word = cond (reserved word) (Fixed word) (Name word)

-- digits as a number
abbrev pub decimal : ℕ → List ℕ → ℕ
decimal n [] = n
decimal n (d ∷ ds) = decimal (n * 10 + (d - 48)) ds

-- at most 18 digits
abbrev pub figures : List ℕ → Bool
figures ds = all is_digit ds && leb (length ds) 18

abbrev pub some_figures : List ℕ → Bool
some_figures ds = figures ds && leb 1 (length ds)

abbrev pub figure_token : Bool → ℕ → List ℕ → Option Token
figure_token true b l = giving (some_figures l) (Whole (neg_ℤ (pos (decimal 0 l))))
figure_token false b l = giving (some_figures (b ∷ l)) (Whole (pos (decimal 0 (b ∷ l))))

abbrev pub or_else : {A : Type 0} → Bool → A → A → A
or_else true a b = a
or_else false a b = b

abbrev pub nothing_in : List ℕ → Option (List ℕ)
nothing_in [] = some []
nothing_in (d ∷ m) = none

abbrev pub after : ℕ → Option (List ℕ) → Option (List ℕ)
after c none = none
after c (some v) = some (c ∷ v)

-- what stands before the closing quote, which is the last byte
unfoldable pub in_quotes : List ℕ → Option (List ℕ)
in_quotes [] = none
in_quotes (c ∷ l) = or_else (is_quote c) (nothing_in l) (after c (in_quotes l))

abbrev pub quoted_token : Option (List ℕ) → Option Token
quoted_token none = none
quoted_token (some v) = some (Quoted v)

abbrev pub is_empty : List ℕ → Bool
is_empty [] = true
is_empty (b ∷ l) = false

abbrev pub token_in : Sort → ℕ → ℕ → List ℕ → Option Token
token_in Word p b l = giving (all word_byte l) (word_token (map capital (b ∷ l)))
token_in Figure p b l = figure_token (minus b) b l
token_in String p b l = quoted_token (in_quotes l)
token_in Dollar p b l = giving (same (map capital (b ∷ l)) (text "$VARCOND")) (Variable p)
token_in Compare p b l = giving (all sign_byte l) (Fixed (map capital (b ∷ l)))
token_in Mark p b l = giving (any (eqb b) (text "(),") && is_empty l) (Fixed (map capital (b ∷ l)))

-- the token that these bytes are, standing at place p
unfoldable pub token_of : ℕ → List ℕ → Option Token
token_of p [] = none
token_of p (b ∷ l) = token_in (sort_of b) p b l

-- whether a token that begins with b and goes on with l reaches over the next byte
abbrev pub reaches : Sort → List ℕ → ℕ → Bool
reaches Word l c = word_byte c
reaches Figure l c = is_digit c
reaches String l c = all (λ d. not (is_quote d)) l
reaches Dollar l c = word_byte c
reaches Compare l c = sign_byte c
reaches Mark l c = false

unfoldable pub goes_on : List ℕ → ℕ → Bool
goes_on [] c = false
goes_on (b ∷ l) c = reaches (sort_of b) l c

-- a token ends where it does not reach further
abbrev pub apart : List ℕ → List ℕ → Bool
apart l [] = true
apart l (c ∷ s) = not (goes_on l c)

-- the place behind bytes that stand at place n
abbrev pub past : List ℕ → ℕ → ℕ
past [] n = n
past (b ∷ l) n = past l (suc n)

-- the bytes from a place on are these tokens, blanks before, between and behind them
pub data Spelled : ℕ → List ℕ → List Token → Type 0 where
  end : {n : ℕ} → Spelled n [] []
  blank : {n b : ℕ} {s : List ℕ} {ts : List Token} → is_blank b ≡ true → Spelled (suc n) s ts → Spelled n (b ∷ s) ts
  token : {n : ℕ} {t : Token} {ts : List Token} (l s : List ℕ) → token_of n l ≡ some t → apart l s ≡ true → Spelled (past l n) s ts → Spelled n (l ++ s) (t ∷ ts)

-- ---- trees

-- one, or some and then one more
pub data Chain (A : Type 0) : Type 0 where
  One : A → Chain A
  More : Chain A → A → Chain A

abbrev pub further : {A : Type 0} → Option (Chain A) → A → Chain A
further none a = One a
further (some as') a = More as' a

-- a sign as it was written: `LessWord` is LT
pub data Sign : Type 0 where
  Less LessWord AtMost AtMostWord Equal EqualWord Unequal UnequalWord AtLeast AtLeastToo AtLeastWord Greater GreaterWord : Sign

pub data Constant : Type 0 where
  Text : List ℕ → Constant
  Number : ℤ → Constant

pub data Operand : Type 0 where
  Property : List ℕ → Operand
  Given : Constant → Operand

mutual
  pub data OrChain : Type 0 where
    FirstAnd : AndChain → OrChain
    Or : OrChain → AndChain → OrChain

  pub data AndChain : Type 0 where
    FirstSingle : Single → AndChain
    And : AndChain → Single → AndChain

  pub data Single : Type 0 where
    Comparison : Operand → Sign → Operand → Single
    Specified : List ℕ → Single
    Among : List ℕ → Chain Constant → Single
    Not : Single → Single
    Group : OrChain → Single

pub record Assignment : Type 0 where
  pub place : ℕ
  pub value : List ℕ
  pub condition : Option OrChain

-- no parenthesis of a condition stands deeper than n
unfoldable mutual
  pub or_within : ℕ → OrChain → Bool
  or_within n (FirstAnd a) = and_within n a
  or_within n (Or o a) = or_within n o && and_within n a

  pub and_within : ℕ → AndChain → Bool
  and_within n (FirstSingle c) = single_within n c
  and_within n (And a c) = and_within n a && single_within n c

  pub single_within : ℕ → Single → Bool
  single_within n (Comparison x s y) = true
  single_within n (Specified p) = true
  single_within n (Among p cs) = true
  single_within n (Not c) = single_within n c
  single_within n (Group o) = leb 1 n && or_within (n - 1) o

abbrev pub condition_within : ℕ → Option OrChain → Bool
condition_within n none = true
condition_within n (some o) = or_within n o

abbrev pub within : ℕ → Chain Assignment → Bool
within n (One a) = condition_within n a.condition
within n (More as' a) = within n as' && condition_within n a.condition

-- ---- the tokens of a tree, and then those of k

abbrev pub sign_text : Sign → List ℕ
sign_text Less = text "<"
sign_text LessWord = text "LT"
sign_text AtMost = text "<="
sign_text AtMostWord = text "LE"
sign_text Equal = text "="
sign_text EqualWord = text "EQ"
sign_text Unequal = text "<>"
sign_text UnequalWord = text "NE"
sign_text AtLeast = text "=>"
sign_text AtLeastToo = text ">="
sign_text AtLeastWord = text "GE"
sign_text Greater = text ">"
sign_text GreaterWord = text "GT"

abbrev pub constant_token : Constant → Token
constant_token (Text v) = Quoted v
constant_token (Number z) = Whole z

abbrev pub operand_token : Operand → Token
operand_token (Property n) = Name n
operand_token (Given c) = constant_token c

unfoldable pub constants : Chain Constant → List Token → List Token
constants (One c) k = constant_token c ∷ k
constants (More cs c) k = constants cs (Fixed (text ",") ∷ constant_token c ∷ k)

unfoldable mutual
  pub or_tokens : OrChain → List Token → List Token
  or_tokens (FirstAnd a) k = and_tokens a k
  or_tokens (Or o a) k = or_tokens o (Fixed (text "OR") ∷ and_tokens a k)

  pub and_tokens : AndChain → List Token → List Token
  and_tokens (FirstSingle c) k = single_tokens c k
  and_tokens (And a c) k = and_tokens a (Fixed (text "AND") ∷ single_tokens c k)

  pub single_tokens : Single → List Token → List Token
  single_tokens (Comparison x s y) k = operand_token x ∷ Fixed (sign_text s) ∷ operand_token y ∷ k
  single_tokens (Specified n) k = Fixed (text "SPECIFIED") ∷ Name n ∷ k
  single_tokens (Among n cs) k = Name n ∷ Fixed (text "IN") ∷ Fixed (text "(") ∷ constants cs (Fixed (text ")") ∷ k)
  single_tokens (Not c) k = Fixed (text "NOT") ∷ single_tokens c k
  single_tokens (Group o) k = Fixed (text "(") ∷ or_tokens o (Fixed (text ")") ∷ k)

abbrev pub condition_tokens : Option OrChain → List Token → List Token
condition_tokens none k = k
condition_tokens (some o) k = Fixed (text "IF") ∷ or_tokens o k

abbrev pub assignment_tokens : Assignment → List Token → List Token
assignment_tokens a k = Variable a.place ∷ Fixed (text "=") ∷ Quoted a.value ∷ condition_tokens a.condition k

unfoldable pub text_tokens : Chain Assignment → List Token → List Token
text_tokens (One a) k = assignment_tokens a k
text_tokens (More as' a) k = text_tokens as' (Fixed (text ",") ∷ assignment_tokens a k)

-- ---- the grammar

-- the text reads as the tree; parentheses may be of any depth
abbrev pub ReadsAs : List ℕ → Chain Assignment → Type 0
ReadsAs s tree = Spelled 1 s (text_tokens tree [])

-- "to sixteen deep"
abbrev pub deepest : ℕ
deepest = 16

-- a text of the grammar, and its tree
abbrev pub Reads : List ℕ → Chain Assignment → Type 0
Reads s tree = ReadsAs s tree × (within deepest tree ≡ true)
