-- "Derive conditions in the plugin": the properties beside the question, when a condition is true (003, appendix A), and the names that a relation derives.
use Rattle.std.specs.Prelude.{ℕ, zero, suc, Bool, true, false, ◌&&◌, ◌||◌, not, cond, List, [], ◌∷◌, map, eqb, ltb, ℤ, pos, negsuc, length}
use Rattle.std.proofs.Math.Option.{Option, some, none}
use Rattle.rules.specs.Lists.{same, between, all, first, if_some}
use Rattle.rules.specs.Layout.{Layout, ◌>>=◌, give, ◌such◌, byte, times, whole}
use Rattle.rules.specs.Bytes.{signed, name, name_byte, one_of, raise}
use Rattle.relation_rules.specs.Grammar.{Chain, One, More, Sign, Less, LessWord, AtMost, AtMostWord, Equal, EqualWord, Unequal, UnequalWord, AtLeast, AtLeastToo, AtLeastWord, Greater, GreaterWord, Constant, Text, Number, Operand, Property, Given, OrChain, FirstAnd, Or, AndChain, FirstSingle, And, Single, Comparison, Specified, Among, Not, Group, Assignment}
use Rattle.rules.specs.PlacedRefusals.{ResultAt, Done, RefusedAt}

-- ---- properties

-- a property's name, and its value if it has one
pub record Held : Type 0 where
  pub name : List ℕ
  pub value : Option Constant

abbrev pub value_of : ℕ → Layout (Option Constant)
value_of zero = give none
value_of (suc zero) = do
  v ← name 0 255
  give (some (Text v))
value_of (suc (suc k)) = do
  z ← signed 8
  give (some (Number z))

abbrev pub held : Layout Held
held = do
  n ← name 0 255
  kind ← one_of (0 ∷ 1 ∷ 2 ∷ [])
  v ← value_of kind
  give (record { name = n; value = v })

abbrev pub held_list : Layout (List Held)
held_list = do
  count ← byte such between 0 64
  times count held

unfoldable pub properties_of : List ℕ → Option (List Held)
properties_of s = whole held_list s

-- the first of a name counts, in any letters; one that is not listed has no value
unfoldable pub value_in : List Held → List ℕ → Option Constant
value_in ps n = if_some (first (λ p. same (map raise p.name) (map raise n)) ps) none (λ p. p.value)

-- ---- truth

pub data Truth : Type 0 where
  True False Undefined : Truth

-- one that is true decides
unfoldable pub either : Truth → Truth → Truth
either True y = True
either False y = y
either Undefined True = True
either Undefined False = Undefined
either Undefined Undefined = Undefined

-- one that is false decides
unfoldable pub together : Truth → Truth → Truth
together True y = y
together False y = False
together Undefined True = Undefined
together Undefined False = False
together Undefined Undefined = Undefined

unfoldable pub opposite : Truth → Truth
opposite True = False
opposite False = True
opposite Undefined = Undefined

abbrev pub truth_of : Bool → Truth
truth_of true = True
truth_of false = False

abbrev pub plainly : Truth → Bool
plainly True = true
plainly False = false
plainly Undefined = false

-- ---- comparisons

pub data Order : Type 0 where
  Below Level Above : Order

abbrev pub order_of : ℕ → ℕ → Order
order_of m n = cond (ltb m n) Below (cond (eqb m n) Level Above)

-- where the first are alike, the rest decides
abbrev pub unless_level : Order → Order → Order
unless_level Below o = Below
unless_level Level o = o
unless_level Above o = Above

-- byte by byte; of two that begin alike the shorter is the smaller
unfoldable pub text_order : List ℕ → List ℕ → Order
text_order [] [] = Level
text_order [] (c ∷ t) = Below
text_order (b ∷ s) [] = Above
text_order (b ∷ s) (c ∷ t) = unless_level (order_of b c) (text_order s t)

abbrev pub number_order : ℤ → ℤ → Order
number_order (pos m) (pos n) = order_of m n
number_order (pos m) (negsuc n) = Above
number_order (negsuc m) (pos n) = Below
number_order (negsuc m) (negsuc n) = order_of n m

abbrev pub is_below : Order → Bool
is_below Below = true
is_below Level = false
is_below Above = false

abbrev pub is_level : Order → Bool
is_level Below = false
is_level Level = true
is_level Above = false

abbrev pub is_above : Order → Bool
is_above Below = false
is_above Level = false
is_above Above = true

unfoldable pub holds : Sign → Order → Bool
holds Less o = is_below o
holds LessWord o = is_below o
holds AtMost o = not (is_above o)
holds AtMostWord o = not (is_above o)
holds Equal o = is_level o
holds EqualWord o = is_level o
holds Unequal o = not (is_level o)
holds UnequalWord o = not (is_level o)
holds AtLeast o = not (is_below o)
holds AtLeastToo o = not (is_below o)
holds AtLeastWord o = not (is_below o)
holds Greater o = is_above o
holds GreaterWord o = is_above o

abbrev pub is_property : Operand → Bool
is_property (Property n) = true
is_property (Given c) = false

abbrev pub operand_value : List Held → Operand → Option Constant
operand_value ps (Property n) = value_in ps n
operand_value ps (Given c) = some c

-- small letters count as capitals in the value of a property and in what it is compared with, but not between two constants
abbrev pub spoken : Bool → List ℕ → List ℕ
spoken true v = map raise v
spoken false v = v

-- without a value, or with a string against a number, a comparison is undefined
abbrev pub compared : Bool → Sign → Option Constant → Option Constant → Truth
compared raised s none y = Undefined
compared raised s (some x) none = Undefined
compared raised s (some (Text v)) (some (Text w)) = truth_of (holds s (text_order (spoken raised v) (spoken raised w)))
compared raised s (some (Text v)) (some (Number z)) = Undefined
compared raised s (some (Number z)) (some (Text v)) = Undefined
compared raised s (some (Number y)) (some (Number z)) = truth_of (holds s (number_order y z))

unfoldable pub comparison : List Held → Operand → Sign → Operand → Truth
comparison ps x s y = compared (is_property x || is_property y) s (operand_value ps x) (operand_value ps y)

-- "IN is the OR of its equalities"
unfoldable pub among : List Held → List ℕ → Chain Constant → Truth
among ps n (One c) = comparison ps (Property n) Equal (Given c)
among ps n (More cs c) = either (among ps n cs) (comparison ps (Property n) Equal (Given c))

abbrev pub has_value : Option Constant → Bool
has_value none = false
has_value (some c) = true

-- ---- conditions

unfoldable mutual
  pub or_truth : List Held → OrChain → Truth
  or_truth ps (FirstAnd a) = and_truth ps a
  or_truth ps (Or o a) = either (or_truth ps o) (and_truth ps a)

  pub and_truth : List Held → AndChain → Truth
  and_truth ps (FirstSingle c) = single_truth ps c
  and_truth ps (And a c) = together (and_truth ps a) (single_truth ps c)

  pub single_truth : List Held → Single → Truth
  single_truth ps (Comparison x s y) = comparison ps x s y
  single_truth ps (Specified n) = truth_of (has_value (value_in ps n))
  single_truth ps (Among n cs) = among ps n cs
  single_truth ps (Not c) = opposite (single_truth ps c)
  single_truth ps (Group o) = or_truth ps o

-- ---- what is derived

-- "Only a condition that is plainly true grants its name"
unfoldable pub granted_by : List Held → Option OrChain → Bool
granted_by ps none = true
granted_by ps (some o) = plainly (or_truth ps o)

-- a name as a question's list has them
abbrev pub grantable : List ℕ → Bool
grantable n = between 1 20 (length n) && all name_byte n

abbrev pub most_names : ℕ
most_names = 32

abbrev pub list_of : {A : Type 0} → Chain A → List A → List A
list_of (One a) as' = a ∷ as'
list_of (More cs a) as' = list_of cs (a ∷ as')

abbrev pub with_name : List ℕ → ResultAt (List (List ℕ)) → ResultAt (List (List ℕ))
with_name n (Done ns) = Done (n ∷ ns)
with_name n (RefusedAt k p) = RefusedAt k p

-- the names of the assignments that grant one, in order, where so many were derived before; 16 at the first that derives one too many, or one that no question
-- can grant
unfoldable pub names_from : List Held → ℕ → List Assignment → ResultAt (List (List ℕ))
names_from ps count [] = Done []
names_from ps count (a ∷ as') =
    elim (granted_by ps a.condition) [
      | true ↦ elim (grantable a.value && ltb count most_names) [ true ↦ with_name a.value (names_from ps (suc count) as') | false ↦ RefusedAt 16 a.place ]
      | false ↦ names_from ps count as'
    ]
