-- The written grammar and its reader, token by token: what a state has read is what it stands for, and every tree is read.
use Prim.Native.Nat.{ℕ, zero, suc, ◌+◌, ◌-◌, ◌≤◌, ◌<◌}
use mathlib.Core.Path.{◌≡◌, refl, sym, ◌∙◌, ap, subst}
use mathlib.Core.Bool.{Bool, true, false, ◌&&◌, not, false≢true}
use mathlib.Core.List.{List, [], ◌∷◌}
use mathlib.Core.Option.{Option, some, none, none-ne-some, some-injective}
use lib.Dec.{leb}
use lib.IntN.{ℤ}
use lib.ListN.{length}
use Rattle.rules.specs.Lists.{same, if_some}
use Rattle.rules.specs.Letters.{text}
use Rattle.relation_rules.specs.Grammar.{Token, Variable, Fixed, Name, Quoted, Whole, Chain, One, More, further, Sign, Less, LessWord, AtMost, AtMostWord, Equal, EqualWord, Unequal, UnequalWord, AtLeast, AtLeastToo, AtLeastWord, Greater, GreaterWord, sign_text, Constant, Text, Number, Operand, Property, Given, OrChain, FirstAnd, Or, AndChain, FirstSingle, And, Single, Comparison, Specified, Among, Not, Group, Assignment, constants, operand_token, constant_token, or_tokens, and_tokens, single_tokens, assignment_tokens, condition_tokens, text_tokens, or_within, and_within, single_within, within, condition_within}
use Rattle.relation_rules.specs.Reader.{Part, fresh, Around, State, Start, AtVariable, AtBecomes, AtValue, AtCondition, AtSpecified, AtOperand, AtSign, AtIn, AtOpen, AtListed, AtComma, AtSingle, negated, and_of, or_of, ended, assigned, Next, next, closing, at_end, complete, may_be, lookup, take}
use native.Mathlib.Omega.{arith}
use borrow.Author.Tests.{leb-true, le-leb}
use native.Mathlib.Nat.{lt_of_not-le}
use Rattle.rules.proofs.TestLaws.{and_left, and_right, both}
use Rattle.rules.proofs.ListLaws.{All, same_eq}

-- ---- the tokens that a state has read, and then k

abbrev before_or : Option OrChain → List Token → List Token
before_or none k = k
before_or (some o) k = or_tokens o (Fixed (text "OR") ∷ k)

abbrev before_and : Option AndChain → List Token → List Token
before_and none k = k
before_and (some a) k = and_tokens a (Fixed (text "AND") ∷ k)

abbrev before_nots : ℕ → List Token → List Token
before_nots zero k = k
before_nots (suc n) k = before_nots n (Fixed (text "NOT") ∷ k)

abbrev part_tokens : Part → List Token → List Token
part_tokens p k = before_or p.ors (before_and p.ands (before_nots p.nots k))

abbrev outer_tokens : List Part → List Token → List Token
outer_tokens [] k = k
outer_tokens (p ∷ ps) k = outer_tokens ps (part_tokens p (Fixed (text "(") ∷ k))

abbrev done_tokens : Option (Chain Assignment) → List Token → List Token
done_tokens none k = k
done_tokens (some as') k = text_tokens as' (Fixed (text ",") ∷ k)

abbrev around_tokens : Around → List Token → List Token
around_tokens w k =
    done_tokens w.done (Variable w.place ∷ Fixed (text "=") ∷ Quoted w.value ∷ Fixed (text "IF") ∷ outer_tokens w.outer k)

unfoldable pub tokens_of : State → List Token → List Token
tokens_of (Start d) k = done_tokens d k
tokens_of (AtVariable d p) k = done_tokens d (Variable p ∷ k)
tokens_of (AtBecomes d p) k = done_tokens d (Variable p ∷ Fixed (text "=") ∷ k)
tokens_of (AtValue d p v) k = done_tokens d (Variable p ∷ Fixed (text "=") ∷ Quoted v ∷ k)
tokens_of (AtCondition w p) k = around_tokens w (part_tokens p k)
tokens_of (AtSpecified w p) k = around_tokens w (part_tokens p (Fixed (text "SPECIFIED") ∷ k))
tokens_of (AtOperand w p x) k = around_tokens w (part_tokens p (operand_token x ∷ k))
tokens_of (AtSign w p x s) k = around_tokens w (part_tokens p (operand_token x ∷ Fixed (sign_text s) ∷ k))
tokens_of (AtIn w p n) k = around_tokens w (part_tokens p (Name n ∷ Fixed (text "IN") ∷ k))
tokens_of (AtOpen w p n) k = around_tokens w (part_tokens p (Name n ∷ Fixed (text "IN") ∷ Fixed (text "(") ∷ k))
tokens_of (AtListed w p n cs) k = around_tokens w (part_tokens p (Name n ∷ Fixed (text "IN") ∷ Fixed (text "(") ∷ constants cs k))
tokens_of (AtComma w p n cs) k = around_tokens w (part_tokens p (Name n ∷ Fixed (text "IN") ∷ Fixed (text "(") ∷ constants cs (Fixed (text ",") ∷ k)))
tokens_of (AtSingle w os a) k = around_tokens w (before_or os (and_tokens a k))

-- ---- a token taken is the one read next

negated_tokens : (n : ℕ) (c : Single) (k : List Token) → single_tokens (negated n c) k ≡ before_nots n (single_tokens c k)
unfolding or_tokens
negated_tokens zero c k = refl
negated_tokens (suc n) c k = negated_tokens n (Not c) k

and_tokens_lem : (as' : Option AndChain) (c : Single) (k : List Token) → and_tokens (and_of as' c) k ≡ before_and as' (single_tokens c k)
unfolding or_tokens
and_tokens_lem none c k = refl
and_tokens_lem (some a) c k = refl

or_tokens_lem : (os : Option OrChain) (a : AndChain) (k : List Token) → or_tokens (or_of os a) k ≡ before_or os (and_tokens a k)
unfolding or_tokens
or_tokens_lem none a k = refl
or_tokens_lem (some o) a k = refl

-- a whole single condition
ended_tokens : (w : Around) (p : Part) (c : Single) (k : List Token) → tokens_of (ended w p c) k ≡ around_tokens w (part_tokens p (single_tokens c k))
unfolding tokens_of
ended_tokens w p c k =
    ap (λ x. around_tokens w (before_or p.ors x))
    (and_tokens_lem p.ands (negated p.nots c) k ∙ ap (before_and p.ands) (negated_tokens p.nots c k))

assigned_tokens : (d : Option (Chain Assignment)) (a : Assignment) (k : List Token) → text_tokens (further d a) k ≡ done_tokens d (assignment_tokens a k)
unfolding text_tokens
assigned_tokens none a k = refl
assigned_tokens (some as') a k = refl

abbrev Each : {A : Type 0} → (A → Type 0) → Option A → Type 0
Each P none = Unit {0}
Each P (some a) = P a

-- what each move reads
record Moves (q : State) (n : Next) : Type 0 where
  variable : Each (λ f. (p : ℕ) (k : List Token) → tokens_of (f p) k ≡ tokens_of q (Variable p ∷ k)) n.variable
  fixed : All (λ m. (k : List Token) → tokens_of m.1 k ≡ tokens_of q (Fixed m.0 ∷ k)) n.fixed
  name : Each (λ f. (m : List ℕ) (k : List Token) → tokens_of (f m) k ≡ tokens_of q (Name m ∷ k)) n.name
  quoted : Each (λ f. (v : List ℕ) (k : List Token) → tokens_of (f v) k ≡ tokens_of q (Quoted v ∷ k)) n.quoted
  whole : Each (λ f. (z : ℤ) (k : List Token) → tokens_of (f z) k ≡ tokens_of q (Whole z ∷ k)) n.whole

closing_moves : (d : Option (Chain Assignment)) (p : ℕ) (v : List ℕ) (ps : List Part) (os : Option OrChain) (a : AndChain)
    → All (λ m. (k : List Token) → tokens_of m.1 k ≡ tokens_of (AtSingle (record { done = d; place = p; value = v; outer = ps }) os a) (Fixed m.0 ∷ k)) (closing d p v ps (or_of os a))
unfolding tokens_of or_tokens
closing_moves d p v [] os a = (
  (λ k.
      assigned_tokens d (record { place = p; value = v; condition = some (or_of os a) }) (Fixed (text ",") ∷ k)
      ∙ ap (λ x. done_tokens d (Variable p ∷ Fixed (text "=") ∷ Quoted v ∷ Fixed (text "IF") ∷ x)) (or_tokens_lem os a (Fixed (text ",") ∷ k))),
  tt,
)
closing_moves d p v (q ∷ qs) os a = (
  (λ k.
      ended_tokens (record { done = d; place = p; value = v; outer = qs }) q (Group (or_of os a)) k
      ∙ ap (λ x. around_tokens (record { done = d; place = p; value = v; outer = qs }) (part_tokens q (Fixed (text "(") ∷ x))) (or_tokens_lem os a (Fixed (text ")") ∷ k))),
  tt,
)

among_moves : (w : Around) (p : Part) (x : Operand)
    → All (λ m. (k : List Token) → tokens_of m.1 k ≡ tokens_of (AtOperand w p x) (Fixed m.0 ∷ k)) (next (AtOperand w p x)).fixed
unfolding tokens_of next
among_moves w p (Property n) =
    ((λ k. refl), ((λ k. refl), ((λ k. refl), ((λ k. refl), ((λ k. refl), ((λ k. refl), ((λ k. refl), ((λ k. refl), ((λ k. refl), ((λ k. refl), ((λ k. refl), ((λ k. refl), ((λ k. refl), ((λ k. refl), tt))))))))))))))
among_moves w p (Given c) =
    ((λ k. refl), ((λ k. refl), ((λ k. refl), ((λ k. refl), ((λ k. refl), ((λ k. refl), ((λ k. refl), ((λ k. refl), ((λ k. refl), ((λ k. refl), ((λ k. refl), ((λ k. refl), ((λ k. refl), tt)))))))))))))

moves : (q : State) → Moves q (next q)
unfolding tokens_of next constants or_tokens
moves (Start d) = record { variable = λ p k. refl; fixed = tt; name = tt; quoted = tt; whole = tt }
moves (AtVariable d p) = record { variable = tt; fixed = ((λ k. refl), tt); name = tt; quoted = tt; whole = tt }
moves (AtBecomes d p) = record { variable = tt; fixed = tt; name = tt; quoted = λ v k. refl; whole = tt }
moves (AtValue d p v) =
    record {
      variable = tt;
      fixed = ((λ k. refl), ((λ k. assigned_tokens d (record { place = p; value = v; condition = none }) (Fixed (text ",") ∷ k)), tt));
      name = tt;
      quoted = tt;
      whole = tt;
    }
moves (AtCondition w p) =
    record { variable = tt; fixed = ((λ k. refl), ((λ k. refl), ((λ k. refl), tt))); name = λ m k. refl; quoted = λ v k. refl; whole = λ z k. refl }
moves (AtSpecified w p) = record { variable = tt; fixed = tt; name = λ m k. ended_tokens w p (Specified m) k; quoted = tt; whole = tt }
moves (AtOperand w p x) = record { variable = tt; fixed = among_moves w p x; name = tt; quoted = tt; whole = tt }
moves (AtSign w p x s) =
    record {
      variable = tt;
      fixed = tt;
      name = λ m k. ended_tokens w p (Comparison x s (Property m)) k;
      quoted = λ v k. ended_tokens w p (Comparison x s (Given (Text v))) k;
      whole = λ z k. ended_tokens w p (Comparison x s (Given (Number z))) k;
    }
moves (AtIn w p n) = record { variable = tt; fixed = ((λ k. refl), tt); name = tt; quoted = tt; whole = tt }
moves (AtOpen w p n) = record { variable = tt; fixed = tt; name = tt; quoted = λ v k. refl; whole = λ z k. refl }
moves (AtListed w p n cs) =
    record { variable = tt; fixed = ((λ k. refl), ((λ k. ended_tokens w p (Among n cs) k), tt)); name = tt; quoted = tt; whole = tt }
moves (AtComma w p n cs) = record { variable = tt; fixed = tt; name = tt; quoted = λ v k. refl; whole = λ z k. refl }
moves (AtSingle w os a) =
    record {
      variable = tt;
      fixed = ((λ k. refl), ((λ k. ap (around_tokens w) (or_tokens_lem os a (Fixed (text "OR") ∷ k))), closing_moves w.done w.place w.value w.outer os a));
      name = tt;
      quoted = tt;
      whole = tt;
    }

module _ {A : Type 0} where
  taken : (o : Option (A → State)) (a : A) (q : State) (P : State → Type 0) → Each (λ f. P (f a)) o → may_be o a ≡ some q → P q
  taken none a q P h e = absurd (none-ne-some _ e)
  taken (some f) a q P h e = subst P (some-injective (f a) q e) h

found : (P : List ℕ → State → Type 0) (ms : List (List ℕ × State)) (k : List ℕ) (q : State) → All (λ m. P m.0 m.1) ms → lookup ms k ≡ some q → P k q
found P [] k q h e = absurd (none-ne-some _ e)
found P (m ∷ ms) k q h e = go (found P ms k q h.1) (same k m.0) refl e
  where
    go : (lookup ms k ≡ some q → P k q) → (b : Bool) → same k m.0 ≡ b → elim b as (λ x. Option State) [ true ↦ some m.1 | false ↦ lookup ms k ] ≡ some q → P k q
    go ih true f g = subst (λ x. P x q) (sym (same_eq k m.0 f)) (subst (P m.0) (some-injective m.1 q g) h.0)
    go ih false f g = ih g

all_map : {A : Type 0} (P Q : A → Type 0) (xs : List A) → ((a : A) → P a → Q a) → All P xs → All Q xs
all_map P Q [] f h = tt
all_map P Q (x ∷ xs) f h = (f x h.0, all_map P Q xs f h.1)

each_map : {A : Type 0} (P Q : A → Type 0) (o : Option A) → ((a : A) → P a → Q a) → Each P o → Each Q o
each_map P Q none f h = tt
each_map P Q (some a) f h = f a h

-- a state behind a token has read what the state before it had, and the token
pub take_tokens : (q q' : State) (t : Token) → take q t ≡ some q' → (k : List Token) → tokens_of q' k ≡ tokens_of q (t ∷ k)
unfolding take
take_tokens q q' (Variable p) e k =
    taken (next q).variable p q' (λ r. tokens_of r k ≡ tokens_of q (Variable p ∷ k)) (each_map _ _ (next q).variable (λ f h. h p k) (moves q).variable) e
take_tokens q q' (Fixed x) e k =
    found (λ y r. tokens_of r k ≡ tokens_of q (Fixed y ∷ k)) (next q).fixed x q' (all_map _ _ (next q).fixed (λ m h. h k) (moves q).fixed) e
take_tokens q q' (Name m) e k =
    taken (next q).name m q' (λ r. tokens_of r k ≡ tokens_of q (Name m ∷ k)) (each_map _ _ (next q).name (λ f h. h m k) (moves q).name) e
take_tokens q q' (Quoted v) e k =
    taken (next q).quoted v q' (λ r. tokens_of r k ≡ tokens_of q (Quoted v ∷ k)) (each_map _ _ (next q).quoted (λ f h. h v k) (moves q).quoted) e
take_tokens q q' (Whole z) e k =
    taken (next q).whole z q' (λ r. tokens_of r k ≡ tokens_of q (Whole z ∷ k)) (each_map _ _ (next q).whole (λ f h. h z k) (moves q).whole) e

-- a text may end where what was read is a tree
end_tokens : (d : Option (Chain Assignment)) (p : ℕ) (v : List ℕ) (ps : List Part) (os : Option OrChain) (a : AndChain) (tree : Chain Assignment)
    → at_end d p v ps (or_of os a) ≡ some tree → text_tokens tree [] ≡ tokens_of (AtSingle (record { done = d; place = p; value = v; outer = ps }) os a) []
unfolding tokens_of
end_tokens d p v [] os a tree e =
    ap (λ x. text_tokens x []) (sym (some-injective (assigned d p v (some (or_of os a))) tree e))
    ∙ assigned_tokens d (record { place = p; value = v; condition = some (or_of os a) }) []
    ∙ ap (λ x. done_tokens d (Variable p ∷ Fixed (text "=") ∷ Quoted v ∷ Fixed (text "IF") ∷ x)) (or_tokens_lem os a [])
end_tokens d p v (q ∷ qs) os a tree e = absurd (none-ne-some _ e)

pub complete_tokens : (q : State) (tree : Chain Assignment) → complete q ≡ some tree → text_tokens tree [] ≡ tokens_of q []
unfolding complete tokens_of
complete_tokens (AtValue d p v) tree e =
    ap (λ x. text_tokens x []) (sym (some-injective (assigned d p v none) tree e)) ∙ assigned_tokens d (record { place = p; value = v; condition = none }) []
complete_tokens (AtSingle w os a) tree e = end_tokens w.done w.place w.value w.outer os a tree e
complete_tokens (Start d) tree e = absurd (none-ne-some _ e)
complete_tokens (AtVariable d p) tree e = absurd (none-ne-some _ e)
complete_tokens (AtBecomes d p) tree e = absurd (none-ne-some _ e)
complete_tokens (AtCondition w p) tree e = absurd (none-ne-some _ e)
complete_tokens (AtSpecified w p) tree e = absurd (none-ne-some _ e)
complete_tokens (AtOperand w p x) tree e = absurd (none-ne-some _ e)
complete_tokens (AtSign w p x s) tree e = absurd (none-ne-some _ e)
complete_tokens (AtIn w p n) tree e = absurd (none-ne-some _ e)
complete_tokens (AtOpen w p n) tree e = absurd (none-ne-some _ e)
complete_tokens (AtListed w p n cs) tree e = absurd (none-ne-some _ e)
complete_tokens (AtComma w p n cs) tree e = absurd (none-ne-some _ e)

-- ---- every tree is read

abbrev pub is_open : Token → Bool
is_open (Variable p) = false
is_open (Fixed k) = same k (text "(")
is_open (Name n) = false
is_open (Quoted v) = false
is_open (Whole z) = false

-- a condition's parenthesis is no deeper than the limit
abbrev pub admits : ℕ → State → Token → Bool
admits limit q t = not (is_open t && if_some (next q).opens false (leb limit))

-- token by token, from a state to the end of a text
pub data Accepts (limit : ℕ) : State → List Token → Chain Assignment → Type 0 where
  stop : {q : State} {tree : Chain Assignment} → complete q ≡ some tree → Accepts limit q [] tree
  go : {q : State} {tree : Chain Assignment} {t : Token} {ts : List Token} (q' : State)
      → take q t ≡ some q' → admits limit q t ≡ true → Accepts limit q' ts tree → Accepts limit q (t ∷ ts) tree

module _ (limit : ℕ) (tree : Chain Assignment) where
  operand_first : (w : Around) (p : Part) (x : Operand) (k : List Token)
      → Accepts limit (AtOperand w p x) k tree → Accepts limit (AtCondition w p) (operand_token x ∷ k) tree
  unfolding take next
  operand_first w p (Property n) k h = go (AtOperand w p (Property n)) refl refl h
  operand_first w p (Given (Text v)) k h = go (AtOperand w p (Given (Text v))) refl refl h
  operand_first w p (Given (Number z)) k h = go (AtOperand w p (Given (Number z))) refl refl h

  sign_then : (w : Around) (p : Part) (x : Operand) (s : Sign) (k : List Token)
      → Accepts limit (AtSign w p x s) k tree → Accepts limit (AtOperand w p x) (Fixed (sign_text s) ∷ k) tree
  unfolding take next
  sign_then w p x s k h = go (AtSign w p x s) (is s) (admitted s) h
    where
      is : (s : Sign) → take (AtOperand w p x) (Fixed (sign_text s)) ≡ some (AtSign w p x s)
      is Less = refl
      is LessWord = refl
      is AtMost = refl
      is AtMostWord = refl
      is Equal = refl
      is EqualWord = refl
      is Unequal = refl
      is UnequalWord = refl
      is AtLeast = refl
      is AtLeastToo = refl
      is AtLeastWord = refl
      is Greater = refl
      is GreaterWord = refl

      admitted : (s : Sign) → admits limit (AtOperand w p x) (Fixed (sign_text s)) ≡ true
      admitted Less = refl
      admitted LessWord = refl
      admitted AtMost = refl
      admitted AtMostWord = refl
      admitted Equal = refl
      admitted EqualWord = refl
      admitted Unequal = refl
      admitted UnequalWord = refl
      admitted AtLeast = refl
      admitted AtLeastToo = refl
      admitted AtLeastWord = refl
      admitted Greater = refl
      admitted GreaterWord = refl

  operand_last : (w : Around) (p : Part) (x : Operand) (s : Sign) (y : Operand) (k : List Token)
      → Accepts limit (ended w p (Comparison x s y)) k tree → Accepts limit (AtSign w p x s) (operand_token y ∷ k) tree
  unfolding take next
  operand_last w p x s (Property n) k h = go _ refl refl h
  operand_last w p x s (Given (Text v)) k h = go _ refl refl h
  operand_last w p x s (Given (Number z)) k h = go _ refl refl h

  constant_first : (w : Around) (p : Part) (n : List ℕ) (c : Constant) (k : List Token)
      → Accepts limit (AtListed w p n (One c)) k tree → Accepts limit (AtOpen w p n) (constant_token c ∷ k) tree
  unfolding take next
  constant_first w p n (Text v) k h = go _ refl refl h
  constant_first w p n (Number z) k h = go _ refl refl h

  constant_then : (w : Around) (p : Part) (n : List ℕ) (cs : Chain Constant) (c : Constant) (k : List Token)
      → Accepts limit (AtListed w p n (More cs c)) k tree → Accepts limit (AtComma w p n cs) (constant_token c ∷ k) tree
  unfolding take next
  constant_then w p n cs (Text v) k h = go _ refl refl h
  constant_then w p n cs (Number z) k h = go _ refl refl h

  listed : (w : Around) (p : Part) (n : List ℕ) (cs : Chain Constant) (k : List Token)
      → Accepts limit (AtListed w p n cs) k tree → Accepts limit (AtOpen w p n) (constants cs k) tree
  unfolding take next constants
  listed w p n (One c) k h = constant_first w p n c k h
  listed w p n (More cs c) k h = listed w p n cs (Fixed (text ",") ∷ constant_token c ∷ k) (go (AtComma w p n cs) refl refl (constant_then w p n cs c k h))

  abbrev or_state : Around → OrChain → State
  or_state w (FirstAnd a) = AtSingle w none a
  or_state w (Or o a) = AtSingle w (some o) a

  or_then : (w : Around) (o : OrChain) → take (or_state w o) (Fixed (text "OR")) ≡ some (AtCondition w (record { ors = some o; ands = none; nots = 0 }))
  unfolding take next
  or_then w (FirstAnd a) = refl
  or_then w (Or o a) = refl

  or_admitted : (w : Around) (o : OrChain) → admits limit (or_state w o) (Fixed (text "OR")) ≡ true
  or_admitted w o = refl

  abbrev inside : Around → Part → Around
  inside w p = record { done = w.done; place = w.place; value = w.value; outer = p ∷ w.outer }

  close_then : (w : Around) (p : Part) (o : OrChain) → take (or_state (inside w p) o) (Fixed (text ")")) ≡ some (ended w p (Group o))
  unfolding take next
  close_then w p (FirstAnd a) = refl
  close_then w p (Or o a) = refl

  shallow : (m n : ℕ) → leb 1 m ≡ true → m + n ≤ limit → leb limit n ≡ false
  shallow m n e l = above (leb limit n) refl
    where
      above : (b : Bool) → leb limit n ≡ b → leb limit n ≡ false
      above true f = absurd (let one : 1 ≤ m = leb-true 1 m e in let most : limit ≤ n = leb-true limit n f in omega arith)
      above false f = f

  open_admitted : (w : Around) (p : Part) (m : ℕ) → leb 1 m ≡ true → m + length w.outer ≤ limit → admits limit (AtCondition w p) (Fixed (text "(")) ≡ true
  unfolding next
  open_admitted w p m e l = ap not (shallow m (length w.outer) e l)

  less_room : (m n : ℕ) → leb 1 m ≡ true → m + n ≤ limit → (m - 1) + suc n ≤ limit
  less_room m n e l = let one : 1 ≤ m = leb-true 1 m e in omega arith

  mutual
    unfolding or_tokens or_within take next

    or_read : (o : OrChain) (w : Around) (m : ℕ) (k : List Token) → or_within m o ≡ true → m + length w.outer ≤ limit
        → Accepts limit (or_state w o) k tree → Accepts limit (AtCondition w fresh) (or_tokens o k) tree
    or_read (FirstAnd a) w m k e l h = and_read a w none m k e l h
    or_read (Or o a) w m k e l h =
        or_read o w m (Fixed (text "OR") ∷ and_tokens a k) (and_left (or_within m o) (and_within m a) e) l
        (go (AtCondition w (record { ors = some o; ands = none; nots = 0 })) (or_then w o) (or_admitted w o) (and_read a w (some o) m k (and_right (or_within m o) (and_within m a) e) l h))

    and_read : (a : AndChain) (w : Around) (os : Option OrChain) (m : ℕ) (k : List Token) → and_within m a ≡ true → m + length w.outer ≤ limit
        → Accepts limit (AtSingle w os a) k tree → Accepts limit (AtCondition w (record { ors = os; ands = none; nots = 0 })) (and_tokens a k) tree
    and_read (FirstSingle c) w os m k e l h = single_read c w (record { ors = os; ands = none; nots = 0 }) m k e l h
    and_read (And a c) w os m k e l h =
        and_read a w os m (Fixed (text "AND") ∷ single_tokens c k) (and_left (and_within m a) (single_within m c) e) l
        (go (AtCondition w (record { ors = os; ands = some a; nots = 0 })) refl refl (single_read c w (record { ors = os; ands = some a; nots = 0 }) m k (and_right (and_within m a) (single_within m c) e) l h))

    single_read : (c : Single) (w : Around) (p : Part) (m : ℕ) (k : List Token) → single_within m c ≡ true → m + length w.outer ≤ limit
        → Accepts limit (ended w p c) k tree → Accepts limit (AtCondition w p) (single_tokens c k) tree
    single_read (Comparison x s y) w p m k e l h =
        operand_first w p x (Fixed (sign_text s) ∷ operand_token y ∷ k) (sign_then w p x s (operand_token y ∷ k) (operand_last w p x s y k h))
    single_read (Specified n) w p m k e l h = go (AtSpecified w p) refl refl (go (ended w p (Specified n)) refl refl h)
    single_read (Among n cs) w p m k e l h =
        go (AtOperand w p (Property n)) refl refl
        (go (AtIn w p n) refl refl (go (AtOpen w p n) refl refl (listed w p n cs (Fixed (text ")") ∷ k) (go (ended w p (Among n cs)) refl refl h))))
    single_read (Not c) w p m k e l h =
        go (AtCondition w (record { ors = p.ors; ands = p.ands; nots = suc p.nots })) refl refl
        (single_read c w (record { ors = p.ors; ands = p.ands; nots = suc p.nots }) m k e l h)
    single_read (Group o) w p m k e l h =
        let one : leb 1 m ≡ true = and_left (leb 1 m) (or_within (m - 1) o) e in
        go (AtCondition (inside w p) fresh) refl (open_admitted w p m one l)
        (or_read o (inside w p) (m - 1) (Fixed (text ")") ∷ k) (and_right (leb 1 m) (or_within (m - 1) o) e) (less_room m (length w.outer) one l)
        (go (ended w p (Group o)) (close_then w p o) refl h))

  -- ---- assignments

  abbrev after_condition : Option (Chain Assignment) → ℕ → List ℕ → Option OrChain → State
  after_condition d p v none = AtValue d p v
  after_condition d p v (some o) = or_state (record { done = d; place = p; value = v; outer = [] }) o

  abbrev after_assignment : Option (Chain Assignment) → Assignment → State
  after_assignment d a = after_condition d a.place a.value a.condition

  condition_read : (d : Option (Chain Assignment)) (p : ℕ) (v : List ℕ) (o : Option OrChain) (k : List Token) → condition_within limit o ≡ true
      → Accepts limit (after_condition d p v o) k tree → Accepts limit (AtValue d p v) (condition_tokens o k) tree
  unfolding take next
  condition_read d p v none k e h = h
  condition_read d p v (some o) k e h =
      go (AtCondition (record { done = d; place = p; value = v; outer = [] }) fresh) refl refl
      (or_read o (record { done = d; place = p; value = v; outer = [] }) limit k e (omega arith) h)

  assignment_read : (d : Option (Chain Assignment)) (a : Assignment) (k : List Token) → condition_within limit a.condition ≡ true
      → Accepts limit (after_assignment d a) k tree → Accepts limit (Start d) (assignment_tokens a k) tree
  unfolding take next
  assignment_read d a k e h =
      go (AtVariable d a.place) refl refl
      (go (AtBecomes d a.place) refl refl (go (AtValue d a.place a.value) refl refl (condition_read d a.place a.value a.condition k e h)))

  comma_after : (d : Option (Chain Assignment)) (p : ℕ) (v : List ℕ) (o : Option OrChain)
      → take (after_condition d p v o) (Fixed (text ",")) ≡ some (Start (some (assigned d p v o)))
  unfolding take next
  comma_after d p v none = refl
  comma_after d p v (some (FirstAnd a)) = refl
  comma_after d p v (some (Or o a)) = refl

  complete_after : (d : Option (Chain Assignment)) (p : ℕ) (v : List ℕ) (o : Option OrChain) → complete (after_condition d p v o) ≡ some (assigned d p v o)
  unfolding complete
  complete_after d p v none = refl
  complete_after d p v (some (FirstAnd a)) = refl
  complete_after d p v (some (Or o a)) = refl

  abbrev last_state : Chain Assignment → State
  last_state (One a) = after_assignment none a
  last_state (More as' a) = after_assignment (some as') a

  comma_admitted : (q : State) → admits limit q (Fixed (text ",")) ≡ true
  comma_admitted q = refl

  comma_last : (as' : Chain Assignment) → take (last_state as') (Fixed (text ",")) ≡ some (Start (some as'))
  comma_last (One a) = comma_after none a.place a.value a.condition
  comma_last (More as' a) = comma_after (some as') a.place a.value a.condition

  complete_last : (as' : Chain Assignment) → complete (last_state as') ≡ some as'
  complete_last (One a) = complete_after none a.place a.value a.condition
  complete_last (More as' a) = complete_after (some as') a.place a.value a.condition

  text_read : (as' : Chain Assignment) (k : List Token) → within limit as' ≡ true
      → Accepts limit (last_state as') k tree → Accepts limit (Start none) (text_tokens as' k) tree
  unfolding text_tokens
  text_read (One a) k e h = assignment_read none a k e h
  text_read (More as' a) k e h =
      text_read as' (Fixed (text ",") ∷ assignment_tokens a k) (and_left (within limit as') (condition_within limit a.condition) e)
      (go (Start (some as')) (comma_last as') (comma_admitted (last_state as'))
      (assignment_read (some as') a k (and_right (within limit as') (condition_within limit a.condition) e) h))

-- every tree whose parentheses are no deeper than the limit is read from its tokens
pub accepted : (limit : ℕ) (tree : Chain Assignment) → within limit tree ≡ true → Accepts limit (Start none) (text_tokens tree []) tree
accepted limit tree e = text_read limit tree tree [] e (stop (complete_last limit tree tree))

-- ---- and the other way: what is read token by token is no deeper than the limit

-- the tokens of a text, read from a state to its end, are those of the tree that is read
pub accepts_tokens : {limit : ℕ} {q : State} {ts : List Token} {tree : Chain Assignment} → Accepts limit q ts tree → text_tokens tree [] ≡ tokens_of q ts
accepts_tokens (stop {q = q} {tree = tree} e) = complete_tokens q tree e
accepts_tokens (go {q = q} {t = t} {ts = ts} q' e a h) = accepts_tokens h ∙ take_tokens q q' t e ts

module _ (limit : ℕ) (tree : Chain Assignment) where
  step_in : {q : State} {t : Token} {ts : List Token} → Accepts limit q (t ∷ ts) tree → (r : State) → take q t ≡ some r → Accepts limit r ts tree
  step_in {ts = ts} (go q' e a h) r f = subst (λ x. Accepts limit x ts tree) (some-injective q' r (sym e ∙ f)) h

  admitted_in : {q : State} {t : Token} {ts : List Token} → Accepts limit q (t ∷ ts) tree → admits limit q t ≡ true
  admitted_in (go q' e a h) = a

  abbrev room : Around → ℕ
  room w = limit - length w.outer

  operand_in : (w : Around) (p : Part) (x : Operand) (k : List Token)
      → Accepts limit (AtCondition w p) (operand_token x ∷ k) tree → Accepts limit (AtOperand w p x) k tree
  unfolding take next
  operand_in w p (Property n) k h = step_in h _ refl
  operand_in w p (Given (Text v)) k h = step_in h _ refl
  operand_in w p (Given (Number z)) k h = step_in h _ refl

  sign_in : (w : Around) (p : Part) (x : Operand) (s : Sign) (k : List Token)
      → Accepts limit (AtOperand w p x) (Fixed (sign_text s) ∷ k) tree → Accepts limit (AtSign w p x s) k tree
  unfolding take next
  sign_in w p x Less k h = step_in h _ refl
  sign_in w p x LessWord k h = step_in h _ refl
  sign_in w p x AtMost k h = step_in h _ refl
  sign_in w p x AtMostWord k h = step_in h _ refl
  sign_in w p x Equal k h = step_in h _ refl
  sign_in w p x EqualWord k h = step_in h _ refl
  sign_in w p x Unequal k h = step_in h _ refl
  sign_in w p x UnequalWord k h = step_in h _ refl
  sign_in w p x AtLeast k h = step_in h _ refl
  sign_in w p x AtLeastToo k h = step_in h _ refl
  sign_in w p x AtLeastWord k h = step_in h _ refl
  sign_in w p x Greater k h = step_in h _ refl
  sign_in w p x GreaterWord k h = step_in h _ refl

  second_in : (w : Around) (p : Part) (x : Operand) (s : Sign) (y : Operand) (k : List Token)
      → Accepts limit (AtSign w p x s) (operand_token y ∷ k) tree → Accepts limit (ended w p (Comparison x s y)) k tree
  unfolding take next
  second_in w p x s (Property n) k h = step_in h _ refl
  second_in w p x s (Given (Text v)) k h = step_in h _ refl
  second_in w p x s (Given (Number z)) k h = step_in h _ refl

  value_in : (w : Around) (p : Part) (n : List ℕ) (c : Constant) (k : List Token)
      → Accepts limit (AtOpen w p n) (constant_token c ∷ k) tree → Accepts limit (AtListed w p n (One c)) k tree
  unfolding take next
  value_in w p n (Text v) k h = step_in h _ refl
  value_in w p n (Number z) k h = step_in h _ refl

  value_then_in : (w : Around) (p : Part) (n : List ℕ) (cs : Chain Constant) (c : Constant) (k : List Token)
      → Accepts limit (AtComma w p n cs) (constant_token c ∷ k) tree → Accepts limit (AtListed w p n (More cs c)) k tree
  unfolding take next
  value_then_in w p n cs (Text v) k h = step_in h _ refl
  value_then_in w p n cs (Number z) k h = step_in h _ refl

  values_in : (w : Around) (p : Part) (n : List ℕ) (cs : Chain Constant) (k : List Token)
      → Accepts limit (AtOpen w p n) (constants cs k) tree → Accepts limit (AtListed w p n cs) k tree
  unfolding take next constants
  values_in w p n (One c) k h = value_in w p n c k h
  values_in w p n (More cs c) k h = value_then_in w p n cs c k (step_in (values_in w p n cs (Fixed (text ",") ∷ constant_token c ∷ k) h) (AtComma w p n cs) refl)

  room_left : (w : Around) (p : Part) → admits limit (AtCondition w p) (Fixed (text "(")) ≡ true → leb 1 (room w) ≡ true
  unfolding next
  room_left w p a = go' (leb limit (length w.outer)) refl a
    where
      go' : (b : Bool) → leb limit (length w.outer) ≡ b → not b ≡ true → leb 1 (room w) ≡ true
      go' true f g = absurd (false≢true g)
      go' false f g =
          let below : length w.outer < limit = lt_of_not-le (λ (l : limit ≤ length w.outer). false≢true (sym f ∙ le-leb limit (length w.outer) l)) in
          le-leb 1 (room w) (omega arith)

  room_inside : (w : Around) (p : Part) → room (inside limit tree w p) ≡ room w - 1
  room_inside w p = omega arith

  mutual
    unfolding or_tokens or_within take next

    or_in : (o : OrChain) (w : Around) (k : List Token) → Accepts limit (AtCondition w fresh) (or_tokens o k) tree
        → Accepts limit (or_state limit tree w o) k tree × (or_within (room w) o ≡ true)
    or_in (FirstAnd a) w k h = and_in a w none k h
    or_in (Or o a) w k h =
        let r = or_in o w (Fixed (text "OR") ∷ and_tokens a k) h in
        let u = and_in a w (some o) k (step_in r.0 (AtCondition w (record { ors = some o; ands = none; nots = 0 })) (or_then limit tree w o)) in
        (u.0, both (or_within (room w) o) (and_within (room w) a) r.1 u.1)

    and_in : (a : AndChain) (w : Around) (os : Option OrChain) (k : List Token) → Accepts limit (AtCondition w (record { ors = os; ands = none; nots = 0 })) (and_tokens a k) tree
        → Accepts limit (AtSingle w os a) k tree × (and_within (room w) a ≡ true)
    and_in (FirstSingle c) w os k h = single_in c w (record { ors = os; ands = none; nots = 0 }) k h
    and_in (And a c) w os k h =
        let r = and_in a w os (Fixed (text "AND") ∷ single_tokens c k) h in
        let u = single_in c w (record { ors = os; ands = some a; nots = 0 }) k (step_in r.0 (AtCondition w (record { ors = os; ands = some a; nots = 0 })) refl) in
        (u.0, both (and_within (room w) a) (single_within (room w) c) r.1 u.1)

    single_in : (c : Single) (w : Around) (p : Part) (k : List Token) → Accepts limit (AtCondition w p) (single_tokens c k) tree
        → Accepts limit (ended w p c) k tree × (single_within (room w) c ≡ true)
    single_in (Comparison x s y) w p k h =
        (second_in w p x s y k (sign_in w p x s (operand_token y ∷ k) (operand_in w p x (Fixed (sign_text s) ∷ operand_token y ∷ k) h)), refl)
    single_in (Specified n) w p k h = (step_in (step_in h (AtSpecified w p) refl) (ended w p (Specified n)) refl, refl)
    single_in (Among n cs) w p k h =
        (step_in (values_in w p n cs (Fixed (text ")") ∷ k) (step_in (step_in (step_in h (AtOperand w p (Property n)) refl) (AtIn w p n) refl) (AtOpen w p n) refl)) (ended w p (Among n cs)) refl, refl)
    single_in (Not c) w p k h =
        single_in c w (record { ors = p.ors; ands = p.ands; nots = suc p.nots }) k
        (step_in h (AtCondition w (record { ors = p.ors; ands = p.ands; nots = suc p.nots })) refl)
    single_in (Group o) w p k h =
        let r = or_in o (inside limit tree w p) (Fixed (text ")") ∷ k) (step_in h (AtCondition (inside limit tree w p) fresh) refl) in (
          step_in r.0 (ended w p (Group o)) (close_then limit tree w p o),
          both (leb 1 (room w)) (or_within (room w - 1) o) (room_left w p (admitted_in h)) (subst (λ m. or_within m o ≡ true) (room_inside w p) r.1),
        )

  condition_in : (d : Option (Chain Assignment)) (p : ℕ) (v : List ℕ) (o : Option OrChain) (k : List Token)
      → Accepts limit (AtValue d p v) (condition_tokens o k) tree
      → Accepts limit (after_condition limit tree d p v o) k tree × (condition_within limit o ≡ true)
  unfolding take next
  condition_in d p v none k h = (h, refl)
  condition_in d p v (some o) k h =
      let w : Around = record { done = d; place = p; value = v; outer = [] } in
      let r = or_in o w k (step_in h (AtCondition w fresh) refl) in
      let whole : room w ≡ limit = omega arith in
      (r.0, subst (λ m. or_within m o ≡ true) whole r.1)

  assignment_in : (d : Option (Chain Assignment)) (a : Assignment) (k : List Token)
      → Accepts limit (Start d) (assignment_tokens a k) tree
      → Accepts limit (after_assignment limit tree d a) k tree × (condition_within limit a.condition ≡ true)
  unfolding take next
  assignment_in d a k h =
      condition_in d a.place a.value a.condition k
      (step_in (step_in (step_in h (AtVariable d a.place) refl) (AtBecomes d a.place) refl) (AtValue d a.place a.value) refl)

  text_in : (as' : Chain Assignment) (k : List Token) → Accepts limit (Start none) (text_tokens as' k) tree
      → Accepts limit (last_state limit tree as') k tree × (within limit as' ≡ true)
  unfolding text_tokens
  text_in (One a) k h = assignment_in none a k h
  text_in (More as' a) k h =
      let r = text_in as' (Fixed (text ",") ∷ assignment_tokens a k) h in
      let u = assignment_in (some as') a k (step_in r.0 (Start (some as')) (comma_last limit tree as')) in
      (u.0, both (within limit as') (condition_within limit a.condition) r.1 u.1)

-- what is read from the beginning has no deeper parentheses
pub accepted_within : (limit : ℕ) (tree : Chain Assignment) → Accepts limit (Start none) (text_tokens tree []) tree → within limit tree ≡ true
accepted_within limit tree h = (text_in limit tree tree [] h).1
