-- The values of operands as code has them.
use Rattle.std.specs.Prelude.{ℕ, zero, suc, ◌+◌, ◌-◌, ◌≤◌, ◌<◌, ◌≡◌, Bool, true, false, List, [], ◌∷◌, map, length, Option, None, Some, FitsSigned, ⊤}
use Rattle.std.specs.Int.{Width}
use Rattle.std.proofs.Math.Option as Maths
use Rattle.rules.specs.Lists.{if_some}
use Rattle.rules.specs.Bytes.{raise}
use Rattle.layout.specs.Reads.{part}
use Rattle.relation_rules.specs.Grammar as Grammar
use Rattle.relation_rules.specs.Grammar.{capital, Sign, Less, Operand, Property, Given}
use Rattle.relation_rules.specs.Reader.{all_signs}
use Rattle.relation_rules.specs.Truth.{Order, holds, Held, properties_of, operand_value}
use Rattle.relation_words.specs.declared.tokens.Kind.{Kind}
use Rattle.relation_words.specs.declared.tokens.Kind.TheVariants.{Word, Name as AName, Quoted as AString, Figure}
use Rattle.relation_words.specs.declared.tokens.Token.{Token}
use Rattle.relation_words.specs.Heard.{whole_of}
use Rattle.relation_truth.specs.Told.{sign_told}
use Rattle.relation_truth.specs.declared.comparing.Sign.{Sign as SignTold}
use Rattle.relation_truth.specs.declared.values.Constant.{Constant}
use Rattle.relation_truth.specs.declared.values.Constant.TheVariants.{Text, Number}

-- the properties of a list
abbrev pub held_in : List ℕ → List Held
held_in s = if_some (properties_of s) [] (λ ps. ps)

-- by its kind; a word counts as the number 0
abbrev pub operand_by : List ℕ → Kind → ℕ → ℕ → Operand
operand_by s (Word k) from to = Given (Grammar.Number (whole_of false 0))
operand_by s AName from to = Property (map capital (part s from to))
operand_by s AString from to = Given (Grammar.Text (part s (suc from) (to - 1)))
operand_by s (Figure below size) from to = Given (Grammar.Number (whole_of below size))

-- the operand of a text s that was heard: a name, a string without its quotes, or a number
abbrev pub operand_of : List ℕ → Token → Operand
operand_of s t = operand_by s t.kind t.from t.to

-- it stands inside the text
pub record OperandIn (s : List ℕ) (t : Token) : Type 0 where
  pub on : t.from < t.to
  pub most : t.to ≤ length s
  pub closed : t.kind ≡ AString → t.from + 2 ≤ t.to
  pub small : (below : Bool) (size : ℕ) → t.kind ≡ Figure below size → size < 1000000000000000000

-- the sign with a number, counted from 1
abbrev pub sign_in : List Sign → ℕ → Sign
sign_in [] k = Less
sign_in (g ∷ gs) zero = g
sign_in (g ∷ gs) (suc zero) = g
sign_in (g ∷ gs) (suc (suc k)) = sign_in gs (suc k)

abbrev pub sign_no : ℕ → Sign
sign_no k = sign_in all_signs k

-- r is a sign that says the same of every order as the one with this number
pub record SignIs (k : ℕ) (r : SignTold) : Type 0 where
  pub is : (o : Order) → holds (sign_no k) o ≡ holds (sign_told r) o
  pub least : 1 ≤ k
  pub most : k ≤ 13

-- no sign has this number
pub record NoSign (k : ℕ) : Type 0 where
  pub beyond : 1 ≤ k → 14 ≤ k

-- values as code has them
abbrev pub constant_in : Constant → Grammar.Constant
constant_in (Text v) = Grammar.Text v.now
constant_in (Number z) = Grammar.Number z

abbrev pub value_in : Option Constant → Maths.Option Grammar.Constant
value_in None = Maths.none
value_in (Some c) = Maths.some (constant_in c)

-- where it is a number, it fits so wide a number with a sign
abbrev pub NumberFits : Width → Option Constant → Type 0
NumberFits w None = ⊤
NumberFits w (Some (Text v)) = ⊤
NumberFits w (Some (Number z)) = FitsSigned w z

-- r is this value
pub record ConstantIs (o : Maths.Option Grammar.Constant) (r : Option Constant) : Type 0 where
  pub is : value_in r ≡ o

-- r is the operand's value, over a list of properties p
pub record ValueIs (p : List ℕ) (x : Operand) (r : Option Constant) : Type 0 where
  pub is : value_in r ≡ operand_value (held_in p) x

-- a byte as it counts in a comparison
abbrev pub spoken_byte : Bool → ℕ → ℕ
spoken_byte true b = raise b
spoken_byte false b = b
