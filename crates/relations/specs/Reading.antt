-- What code says that reads a relation text from one position to another: all up to `to` was read, and the truth of it over the properties ps; or the refusal, and at which position, counted from 0, the byte stands that it tells.
use Rattle.std.specs.Prelude.{ℕ, suc, ◌≤◌, ◌<◌, ◌≡◌, Bool, true, false, List, length, drop, get_or, Result, Ok, Err}
use Rattle.std.proofs.Math.Option.{Option, some}
use Rattle.rules.specs.Letters.{text}
use Rattle.rules.specs.declared.Refusal.TheVariants.{BadRelation}
use Rattle.relation_rules.specs.Grammar.{Fixed, Name, Constant, Equal, operand_token, Operand, OrChain, AndChain, deepest}
use Rattle.relation_rules.specs.Grammar as Grammar
use Rattle.relation_rules.specs.Reader.{Part, Around, AtSpecified, AtOpen, AtIn, AtSingle, Between, run}
use Rattle.relation_rules.specs.Parts.{TokenAt, OverValues, StopsSingle, StopsAnd, StopsOr, SingleTrue, AndTrue, OrTrue}
use Rattle.relation_rules.specs.Truth.{Held, Truth, either, opposite, truth_of, compared, comparison, operand_value, value_in, has_value}
use Rattle.rules.specs.Reasons.{number_for}
use Rattle.relation_words.specs.declared.tokens.Kind.TheVariants.{Word, Name as AName}
use Rattle.relation_words.specs.declared.tokens.Token.{Token}
use Rattle.relation_words.specs.Words.{Gap}
use Rattle.relation_words.specs.Heard.{TokenHeard}
use Rattle.relation_truth.specs.declared.Truth.{Truth as TruthTold}
use Rattle.relation_truth.specs.declared.comparing.Sign.{Sign as SignTold}
use Rattle.relation_truth.specs.Told.{truth_in, TruthIs}
use Rattle.relation_truth.specs.Values.{operand_of, OperandIn, SignIs, sign_no}
use Rattle.relations.specs.declared.told.Read.{Read}
use Rattle.relations.specs.declared.told.Refused.{Refused}
use Rattle.relations.specs.declared.conditions.Next.{Next}
use Rattle.relations.specs.declared.conditions.Next.TheVariants.{And, Or, Closed, End}
use Rattle.relations.specs.declared.conditions.Join.{Join}
use Rattle.relations.specs.declared.conditions.Chain.{Chain}
use Rattle.relations.specs.Told.{bad_relation, refused_as}
use Rattle.relations.specs.Expected.{closes, wants_condition}

-- ---- operands

-- an operand was heard behind blanks
pub record OperandAt (s : List ℕ) (at : ℕ) (t : Token) : Type 0 where
  pub token : TokenAt (suc at) (drop at s) (operand_token (operand_of s t)) (suc t.to) (drop t.to s)
  pub begins : at ≤ t.from
  pub inside : OperandIn s t

-- a constant was heard
pub record NoName (t : Token) : Type 0 where
  pub is : t.kind ≡ AName → ⊥

-- r tells how two operands compare by the sign that code has
pub record ComparedAs (ps : List Held) (x : Operand) (sign : SignTold) (y : Operand) (r : TruthTold) : Type 0 where
  pub is : (k : ℕ) → SignIs k sign → TruthIs (comparison ps x (sign_no k) y) r

-- ---- the list behind IN

-- whether a property with the value o is one of these constants: the OR of its equalities
unfoldable pub among_of : Option Constant → Grammar.Chain Constant → Truth
among_of o (Grammar.One c) = compared true Equal o (some c)
among_of o (Grammar.More cs c) = either (among_of o cs) (compared true Equal o (some c))

-- r tells whether the operand that was heard is equal to that value
pub record EqualTo (o : Option Constant) (ps : List Held) (s : List ℕ) (t : Token) (r : TruthTold) : Type 0 where
  pub is : truth_in r ≡ compared true Equal o (operand_value ps (operand_of s t))

-- constants with commas between them, from `at` to `to`
pub record ValuesTo (o : Option Constant) (s : List ℕ) (at to : ℕ) (v : Truth) : Type 0 where
  pub values : Grammar.Chain Constant
  pub over : (limit : ℕ) → OverValues limit (suc at) (drop at s) values (suc to) (drop to s)
  pub is : among_of o values ≡ v

-- and the closing parenthesis
pub record ValuesOver (o : Option Constant) (s : List ℕ) (at : ℕ) (r : Read) : Type 0 where
  pub on : at ≤ r.to
  pub most : r.to ≤ length s
  pub last : ℕ
  pub values : ValuesTo o s at last (truth_in r.truth)
  pub close : TokenAt (suc last) (drop last s) (Fixed (text ")")) (suc r.to) (drop r.to s)

pub record ValuesStop (s : List ℕ) (at : ℕ) (e : Refused) : Type 0 where
  pub on : at ≤ e.at
  pub most : e.at ≤ length s
  pub wrong : (limit : ℕ) (w : Around) (p : Part) (x : List ℕ) → run limit (suc at) (Between (AtOpen w p x)) (drop at s) ≡ refused_as e

abbrev pub ValuesRead : Option Constant → List ℕ → ℕ → Result Read Refused → Type 0
ValuesRead o s at (Ok r) = ValuesOver o s at r
ValuesRead o s at (Err e) = ValuesStop s at e

-- from behind IN
pub record AmongOver (o : Option Constant) (s : List ℕ) (at : ℕ) (r : Read) : Type 0 where
  pub first : ℕ
  pub on : at ≤ first
  pub opening : TokenAt (suc at) (drop at s) (Fixed (text "(")) (suc first) (drop first s)
  pub rest : ValuesOver o s first r

pub record AmongStop (s : List ℕ) (at : ℕ) (e : Refused) : Type 0 where
  pub on : at ≤ e.at
  pub most : e.at ≤ length s
  pub wrong : (limit : ℕ) (w : Around) (p : Part) (x : List ℕ) → run limit (suc at) (Between (AtIn w p x)) (drop at s) ≡ refused_as e

abbrev pub AmongRead : Option Constant → List ℕ → ℕ → Result Read Refused → Type 0
AmongRead o s at (Ok r) = AmongOver o s at r
AmongRead o s at (Err e) = AmongStop s at e

-- ---- conditions, with d parentheses open

pub record SingleOver (ps : List Held) (d : ℕ) (s : List ℕ) (at : ℕ) (r : Read) : Type 0 where
  pub on : at ≤ r.to
  pub most : r.to ≤ length s
  pub is : SingleTrue deepest ps d (suc at) (drop at s) (truth_in r.truth) (suc r.to) (drop r.to s)

pub record SingleStop (d : ℕ) (s : List ℕ) (at : ℕ) (e : Refused) : Type 0 where
  pub on : at ≤ e.at
  pub most : e.at ≤ length s
  pub stops : StopsSingle deepest d (suc at) (drop at s) (number_for e.refusal) (suc e.at)

abbrev pub SingleRead : List Held → ℕ → List ℕ → ℕ → Result Read Refused → Type 0
SingleRead ps d s at (Ok r) = SingleOver ps d s at r
SingleRead ps d s at (Err e) = SingleStop d s at e

-- one that opens no parenthesis
pub record SimpleRead (ps : List Held) (s : List ℕ) (at : ℕ) (r : Result Read Refused) : Type 0 where
  pub read : (d : ℕ) → SingleRead ps d s at r

-- its first token, behind blanks: neither a parenthesis nor NOT
pub record FirstAt (s : List ℕ) (at : ℕ) (t : Token) : Type 0 where
  pub gap : Gap s at t.from
  pub no_open : get_or s t.from 0 ≡ 40 → ⊥
  pub no_not : t.kind ≡ Word 1 → ⊥
  pub heard : TokenHeard wants_condition s t.from t

-- from behind SPECIFIED
pub record NameOver (ps : List Held) (s : List ℕ) (at : ℕ) (r : Read) : Type 0 where
  pub on : at ≤ r.to
  pub most : r.to ≤ length s
  pub name : List ℕ
  pub token : TokenAt (suc at) (drop at s) (Name name) (suc r.to) (drop r.to s)
  pub is : truth_of (has_value (value_in ps name)) ≡ truth_in r.truth

pub record NameStop (s : List ℕ) (at : ℕ) (e : Refused) : Type 0 where
  pub on : at ≤ e.at
  pub most : e.at ≤ length s
  pub wrong : (limit : ℕ) (w : Around) (p : Part) → run limit (suc at) (Between (AtSpecified w p)) (drop at s) ≡ refused_as e

abbrev pub NameRead : List Held → List ℕ → ℕ → Result Read Refused → Type 0
NameRead ps s at (Ok r) = NameOver ps s at r
NameRead ps s at (Err e) = NameStop s at e

-- what comes behind a single condition, up to `after`
pub record Joined (d : ℕ) (s : List ℕ) (at : ℕ) (next : Next) (after : ℕ) : Type 0 where
  pub on : at ≤ after
  pub most : after ≤ length s
  pub and : next ≡ And → TokenAt (suc at) (drop at s) (Fixed (text "AND")) (suc after) (drop after s)
  pub or : next ≡ Or → TokenAt (suc at) (drop at s) (Fixed (text "OR")) (suc after) (drop after s)
  pub close : next ≡ Closed → TokenAt (suc at) (drop at s) (Fixed (closes d)) (suc after) (drop after s)
  pub end : next ≡ End → Gap s at after
  pub over : next ≡ End → after ≡ length s
  pub further : (next ≡ End → ⊥) → at < after

pub record JoinStop (d : ℕ) (s : List ℕ) (at : ℕ) (e : Refused) : Type 0 where
  pub on : at ≤ e.at
  pub most : e.at ≤ length s
  pub wrong : (w : Around) (os : Option OrChain) (a : AndChain) → length w.outer ≡ d → run deepest (suc at) (Between (AtSingle w os a)) (drop at s) ≡ refused_as e

-- and 14 is why
pub record JoinRefused (d : ℕ) (s : List ℕ) (at : ℕ) (e : Refused) : Type 0 where
  pub stop : JoinStop d s at e
  pub reason : e.refusal ≡ BadRelation

abbrev pub JoinRead : ℕ → List ℕ → ℕ → Result Join Refused → Type 0
JoinRead d s at (Ok j) = Joined d s at j.next j.after
JoinRead d s at (Err e) = JoinRefused d s at e

pub record AndOver (ps : List Held) (d : ℕ) (s : List ℕ) (at : ℕ) (r : Chain) : Type 0 where
  pub on : at ≤ r.to
  pub most : r.to ≤ length s
  pub is : AndTrue deepest ps d (suc at) (drop at s) (truth_in r.truth) (suc r.to) (drop r.to s)
  pub behind : Joined d s r.to r.next r.after
  pub no_and : r.next ≡ And → ⊥

pub record AndStop (d : ℕ) (s : List ℕ) (at : ℕ) (e : Refused) : Type 0 where
  pub on : at ≤ e.at
  pub most : e.at ≤ length s
  pub stops : StopsAnd deepest d (suc at) (drop at s) (number_for e.refusal) (suc e.at)

abbrev pub AndRead : List Held → ℕ → List ℕ → ℕ → Result Chain Refused → Type 0
AndRead ps d s at (Ok r) = AndOver ps d s at r
AndRead ps d s at (Err e) = AndStop d s at e

pub record OrOver (ps : List Held) (d : ℕ) (s : List ℕ) (at : ℕ) (r : Chain) : Type 0 where
  pub on : at ≤ r.to
  pub most : r.to ≤ length s
  pub is : OrTrue deepest ps d (suc at) (drop at s) (truth_in r.truth) (suc r.to) (drop r.to s)
  pub behind : Joined d s r.to r.next r.after
  pub no_and : r.next ≡ And → ⊥
  pub no_or : r.next ≡ Or → ⊥

pub record OrStop (d : ℕ) (s : List ℕ) (at : ℕ) (e : Refused) : Type 0 where
  pub on : at ≤ e.at
  pub most : e.at ≤ length s
  pub stops : StopsOr deepest d (suc at) (drop at s) (number_for e.refusal) (suc e.at)

abbrev pub OrRead : List Held → ℕ → List ℕ → ℕ → Result Chain Refused → Type 0
OrRead ps d s at (Ok r) = OrOver ps d s at r
OrRead ps d s at (Err e) = OrStop d s at e

-- ---- answers made of others

-- what is inside a parenthesis is closed
pub record Closes (inside : Chain) (r : Read) : Type 0 where
  pub next_is : inside.next ≡ Closed
  pub to_is : r.to ≡ inside.after
  pub truth_is : r.truth ≡ inside.truth

-- or not
pub record Unclosed (inside : Chain) (e : Refused) : Type 0 where
  pub no_close : inside.next ≡ Closed → ⊥
  pub is : e ≡ bad_relation inside.after

abbrev pub ClosedAs : Chain → Result Read Refused → Type 0
ClosedAs inside (Ok r) = Closes inside r
ClosedAs inside (Err e) = Unclosed inside e

-- what NOTs turn, or leave as it is
unfoldable pub turned_by : Bool → Truth → Truth
turned_by true v = opposite v
turned_by false v = v

-- what stands behind NOTs was read
pub record TurnedAs (turned : Bool) (behind r : Read) : Type 0 where
  pub to_is : r.to ≡ behind.to
  pub truth_is : truth_in r.truth ≡ turned_by turned (truth_in behind.truth)

-- ---- positions

-- a position, with so many parentheses still to open
pub record DepthAt (s : List ℕ) (at depth : ℕ) : Type 0 where
  pub there : at ≤ length s
  pub left : depth ≤ 16
