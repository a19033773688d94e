-- Depth: a text is read alike under every limit that it keeps, and every tree keeps some limit.
use Prim.Native.Nat.{ℕ, suc, ◌+◌, ◌-◌, ◌≤◌}
use mathlib.Core.Path.{◌≡◌, refl, sym, ◌∙◌, ap, subst}
use mathlib.Core.Bool.{Bool, true, false, ◌&&◌, false≢true}
use mathlib.Core.List.{List, [], ◌∷◌, ◌++◌}
use mathlib.Core.Option.{Option, some, none}
use native.Mathlib.Omega.{arith}
use lib.Dec.{eqb, leb}
use borrow.Author.Tests.{leb-true, le-leb}
use Rattle.rules.specs.Lists.{if_some}
use Rattle.rules.specs.Letters.{letter}
use Rattle.relation_rules.specs.Grammar.{Chain, One, More, Assignment, OrChain, FirstAnd, Or, AndChain, FirstSingle, And, Single, Comparison, Specified, Among, Not, Group, or_within, and_within, single_within, condition_within, within, goes_on, is_blank}
use Rattle.rules.specs.PlacedRefusals.{RefusedAt}
use Rattle.relation_rules.specs.Reader.{State, next, viable, Spot, Between, Inside, Step, Go, Stop, Deep, too_deep, beginning, begin, behind, begin_in, going, step, onward, run}
use Rattle.rules.proofs.TestLaws.{and_left, and_right, both}
use Rattle.relation_rules.proofs.SoundLaws.{number_of}

-- ---- a tree keeps a greater limit too

leb_more : (n m : ℕ) → n ≤ m → leb 1 n ≡ true → leb 1 m ≡ true
leb_more n m l e = let one : 1 ≤ n = leb-true 1 n e in le-leb 1 m (omega arith)

less_one : (n m : ℕ) → n ≤ m → n - 1 ≤ m - 1
less_one n m l = omega arith

mutual
  unfolding or_within

  or_more : (o : OrChain) (n m : ℕ) → n ≤ m → or_within n o ≡ true → or_within m o ≡ true
  or_more (FirstAnd a) n m l e = and_more a n m l e
  or_more (Or o a) n m l e =
      both (or_within m o) (and_within m a) (or_more o n m l (and_left (or_within n o) (and_within n a) e)) (and_more a n m l (and_right (or_within n o) (and_within n a) e))

  and_more : (a : AndChain) (n m : ℕ) → n ≤ m → and_within n a ≡ true → and_within m a ≡ true
  and_more (FirstSingle c) n m l e = single_more c n m l e
  and_more (And a c) n m l e =
      both (and_within m a) (single_within m c) (and_more a n m l (and_left (and_within n a) (single_within n c) e))
      (single_more c n m l (and_right (and_within n a) (single_within n c) e))

  single_more : (c : Single) (n m : ℕ) → n ≤ m → single_within n c ≡ true → single_within m c ≡ true
  single_more (Comparison x s y) n m l e = refl
  single_more (Specified p) n m l e = refl
  single_more (Among p cs) n m l e = refl
  single_more (Not c) n m l e = single_more c n m l e
  single_more (Group o) n m l e =
      both (leb 1 m) (or_within (m - 1) o) (leb_more n m l (and_left (leb 1 n) (or_within (n - 1) o) e))
      (or_more o (n - 1) (m - 1) (less_one n m l) (and_right (leb 1 n) (or_within (n - 1) o) e))

condition_more : (o : Option OrChain) (n m : ℕ) → n ≤ m → condition_within n o ≡ true → condition_within m o ≡ true
condition_more none n m l e = refl
condition_more (some o) n m l e = or_more o n m l e

pub within_more : (t : Chain Assignment) (n m : ℕ) → n ≤ m → within n t ≡ true → within m t ≡ true
within_more (One a) n m l e = condition_more a.condition n m l e
within_more (More as' a) n m l e =
    both (within m as') (condition_within m a.condition) (within_more as' n m l (and_left (within n as') (condition_within n a.condition) e))
    (condition_more a.condition n m l (and_right (within n as') (condition_within n a.condition) e))

-- ---- every tree keeps some limit

unfoldable mutual
  or_deep : OrChain → ℕ
  or_deep (FirstAnd a) = and_deep a
  or_deep (Or o a) = or_deep o + and_deep a

  and_deep : AndChain → ℕ
  and_deep (FirstSingle c) = single_deep c
  and_deep (And a c) = and_deep a + single_deep c

  single_deep : Single → ℕ
  single_deep (Comparison x s y) = 0
  single_deep (Specified p) = 0
  single_deep (Among p cs) = 0
  single_deep (Not c) = single_deep c
  single_deep (Group o) = suc (or_deep o)

le_left : (m n : ℕ) → m ≤ m + n
le_left m n = omega arith

le_right : (m n : ℕ) → n ≤ m + n
le_right m n = omega arith

back_one : (n : ℕ) → suc n - 1 ≡ n
back_one n = omega arith

some_room : (n : ℕ) → leb 1 (suc n) ≡ true
some_room n = le-leb 1 (suc n) (omega arith)

mutual
  unfolding or_within or_deep

  or_deep_lem : (o : OrChain) → or_within (or_deep o) o ≡ true
  or_deep_lem (FirstAnd a) = and_deep_lem a
  or_deep_lem (Or o a) =
      both (or_within (or_deep o + and_deep a) o) (and_within (or_deep o + and_deep a) a) (or_more o (or_deep o) (or_deep o + and_deep a) (le_left (or_deep o) (and_deep a)) (or_deep_lem o))
      (and_more a (and_deep a) (or_deep o + and_deep a) (le_right (or_deep o) (and_deep a)) (and_deep_lem a))

  and_deep_lem : (a : AndChain) → and_within (and_deep a) a ≡ true
  and_deep_lem (FirstSingle c) = single_deep_lem c
  and_deep_lem (And a c) =
      both (and_within (and_deep a + single_deep c) a) (single_within (and_deep a + single_deep c) c) (and_more a (and_deep a) (and_deep a + single_deep c) (le_left (and_deep a) (single_deep c)) (and_deep_lem a))
      (single_more c (single_deep c) (and_deep a + single_deep c) (le_right (and_deep a) (single_deep c)) (single_deep_lem c))

  single_deep_lem : (c : Single) → single_within (single_deep c) c ≡ true
  single_deep_lem (Comparison x s y) = refl
  single_deep_lem (Specified p) = refl
  single_deep_lem (Among p cs) = refl
  single_deep_lem (Not c) = single_deep_lem c
  single_deep_lem (Group o) =
      both (leb 1 (suc (or_deep o))) (or_within (suc (or_deep o) - 1) o) (some_room (or_deep o))
      (subst (λ n. or_within n o ≡ true) (sym (back_one (or_deep o))) (or_deep_lem o))

condition_deep : Option OrChain → ℕ
condition_deep none = 0
condition_deep (some o) = or_deep o

condition_deep_lem : (o : Option OrChain) → condition_within (condition_deep o) o ≡ true
unfolding condition_deep
condition_deep_lem none = refl
condition_deep_lem (some o) = or_deep_lem o

pub depth_of : Chain Assignment → ℕ
depth_of (One a) = condition_deep a.condition
depth_of (More as' a) = depth_of as' + condition_deep a.condition

pub deep_enough : (t : Chain Assignment) → within (depth_of t) t ≡ true
unfolding depth_of
deep_enough (One a) = condition_deep_lem a.condition
deep_enough (More as' a) =
    let m = depth_of as' in
    let n = condition_deep a.condition in
    both (within (m + n) as') (condition_within (m + n) a.condition) (within_more as' m (m + n) (le_left m n) (deep_enough as'))
    (condition_more a.condition n (m + n) (le_right m n) (condition_deep_lem a.condition))

-- ---- refusal 14 stands under every greater limit

leb_not : (n m k : ℕ) → n ≤ m → leb n k ≡ false → leb m k ≡ false
leb_not n m k l e = go (leb m k) refl
  where
    go : (b : Bool) → leb m k ≡ b → leb m k ≡ false
    go true f = let g : m ≤ k = leb-true m k f in let h : n ≤ k = omega arith in absurd (false≢true (sym e ∙ le-leb n k h))
    go false f = f

module _ (limit more : ℕ) (l : limit ≤ more) where
  opens_more : (o : Option ℕ) → if_some o false (leb limit) ≡ false → if_some o false (leb more) ≡ false
  opens_more none e = refl
  opens_more (some n) e = leb_not limit more n l e

  deep_more : (q : State) (b : ℕ) → too_deep limit q b ≡ false → too_deep more q b ≡ false
  deep_more q b e = go (eqb b (letter "(")) e
    where
      go : (x : Bool) → (x && if_some (next q).opens false (leb limit)) ≡ false → (x && if_some (next q).opens false (leb more)) ≡ false
      go true f = opens_more (next q).opens f
      go false f = refl

  abbrev pub NotDeep : Step → Type 0
  NotDeep (Go at) = Unit {0}
  NotDeep Stop = Unit {0}
  NotDeep Deep = ⊥

  pub begin_more : (n : ℕ) (q : State) (b : ℕ) → NotDeep (begin limit n q b) → begin more n q b ≡ begin limit n q b
  unfolding begin
  begin_more n q b h = go (is_blank b) (too_deep limit q b) (viable q (b ∷ [])) refl h
    where
      go : (x y z : Bool) → too_deep limit q b ≡ y → NotDeep (beginning x y z n q b) → beginning x (too_deep more q b) z n q b ≡ beginning x y z n q b
      go true y z f g = refl
      go false true z f g = absurd g
      go false false z f g = ap (λ y. beginning false y z n q b) (deep_more q b f)

  pub step_more : (n : ℕ) (at : Spot) (b : ℕ) → NotDeep (step limit n at b) → step more n at b ≡ step limit n at b
  unfolding step
  step_more n (Between q) b h = begin_more n q b h
  step_more n (Inside q from x) b h = go (goes_on x b) (viable q (x ++ (b ∷ []))) h
    where
      over : (o : Option State) → NotDeep (begin_in limit n o b) → begin_in more n o b ≡ begin_in limit n o b
      over none g = refl
      over (some q') g = begin_more n q' b g

      go : (u v : Bool) → NotDeep (going u v limit n q from x b) → going u v more n q from x b ≡ going u v limit n q from x b
      go true true g = refl
      go true false g = refl
      go false v g = over (behind q from x) g

  pub refused_more : (s : List ℕ) (n : ℕ) (at : Spot) (p : ℕ) → run limit n at s ≡ RefusedAt 14 p → run more n at s ≡ RefusedAt 14 p
  unfolding run
  refused_more [] n at p e = e
  refused_more (b ∷ s) n at p e = go (λ to. refused_more s (suc n) to p) (step limit n at b) refl e
    where
      go : ((to : Spot) → run limit (suc n) to s ≡ RefusedAt 14 p → run more (suc n) to s ≡ RefusedAt 14 p) → (st : Step) → step limit n at b ≡ st
          → onward n st (λ to. run limit (suc n) to s) ≡ RefusedAt 14 p → onward n (step more n at b) (λ to. run more (suc n) to s) ≡ RefusedAt 14 p
      go ih (Go to) f g =
          ap (λ z. onward n z (λ to. run more (suc n) to s)) (step_more n at b (subst NotDeep (sym f) tt) ∙ f) ∙ ih to g
      go ih Stop f g = ap (λ z. onward n z (λ to. run more (suc n) to s)) (step_more n at b (subst NotDeep (sym f) tt) ∙ f) ∙ g
      go ih Deep f g = absurd (let fifteen : 15 ≡ 14 = number_of 15 14 n p g in omega arith)
