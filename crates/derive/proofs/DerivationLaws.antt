-- What a derivation rests on, and how it is refused; and what is read off the call's answer and its output.
use Prim.Native.Nat.{ℕ, ◌≤◌}
use mathlib.Core.Path.{◌≡◌, refl, sym, ap, subst}
use mathlib.Core.Bool.{Bool, true, false}
use mathlib.Core.List.{List, []}
use mathlib.Core.Option.{Option, some, none}
use native.Mathlib.Omega.{arith}
use lib.ListN.{length}
use Rattle.rules.specs.Lists.{all}
use Rattle.rules.specs.Question.{Question, question_of}
use Rattle.rules.specs.PlacedRefusals.{ResultAt, Done, RefusedAt, ◌>>=◌, number_at, place_at, or_refuse_at, unless_so}
use Rattle.relation_rules.specs.Grammar.{Assignment}
use Rattle.relation_rules.specs.Reader.{relation_of}
use Rattle.relation_rules.specs.Truth.{Held, properties_of, grantable, names_from, list_of}
use Rattle.relation_rules.specs.Derived.{derived, grants_none, Derivation, derivation}
use Rattle.relation_rules.proofs.SoundLaws.{refused_fine}
use Rattle.relation_rules.proofs.TruthLaws.{fit_a_question}
use Rattle.relation_rules.proofs.MoveLaws.{first_judged}
use Rattle.relation_rules.specs.Faults as Faults
use Rattle.relation_rules.proofs.Promises.{only_two}

-- ---- one step after another

done_same : {A : Type 0} (a b : A) → Done a ≡ Done b → a ≡ b
done_same {A = A} a b e = ap value e
  where
    value : ResultAt A → A
    value (Done c) = c
    value (RefusedAt n p) = a

module _ {A B : Type 0} where
  then_done : (r : ResultAt A) (f : A → ResultAt B) {y : B} → (r >>= f) ≡ Done y → (a : A) × (r ≡ Done a) × (f a ≡ Done y)
  then_done (Done a) f e = (a, refl, e)
  then_done (RefusedAt n p) f {y} e = absurd (refused_fine n p y e)

or_done : {A : Type 0} (n : ℕ) (o : Option A) {a : A} → or_refuse_at n 0 o ≡ Done a → o ≡ some a
or_done n none {a} e = absurd (refused_fine n 0 a e)
or_done n (some x) {a} e = ap some (done_same x a e)

so_done : (n : ℕ) (b : Bool) → unless_so n b ≡ Done tt → b ≡ true
so_done n true e = refl
so_done n false e = absurd (refused_fine n 0 tt e)

-- ---- names that were derived

-- a question can grant them
pub names_fit : (ps : List Held) (t : List ℕ) (ns : List (List ℕ)) → derived ps t ≡ Done ns → (all grantable ns ≡ true) × (length ns ≤ 32)
unfolding derived
names_fit ps t ns e =
    let x = then_done (relation_of t) (λ tree. names_from ps 0 (list_of tree [])) e in
    fit_a_question ps (list_of x.0 []) ns x.2

-- the question is one and grants none, the text derives the names from the properties, and a question can grant them
pub record From (s p t : List ℕ) (d : Derivation) : Type 0 where
  pub asked : question_of s ≡ some d.question
  pub none : grants_none d.question ≡ true
  pub held : List Held
  pub properties : properties_of p ≡ some held
  pub names : derived held t ≡ Done d.names
  pub good : all grantable d.names ≡ true
  pub few : length d.names ≤ 32

pub derived_from : (s p t : List ℕ) (d : Derivation) → derivation s p t ≡ Done d → From s p t d
unfolding derivation
derived_from s p t d e =
    let x = then_done (or_refuse_at 2 0 (question_of s)) (λ q. or_refuse_at 2 0 (properties_of p) >>= behind q) e in
    let y = then_done (or_refuse_at 2 0 (properties_of p)) (behind x.0) x.2 in
    let z = then_done (unless_so 2 (grants_none x.0)) (λ _. derived y.0 t >>= λ ns. Done (made x.0 ns)) y.2 in
    let w = then_done (derived y.0 t) (λ ns. Done (made x.0 ns)) z.2 in
    let is : made x.0 w.0 ≡ d = done_same (made x.0 w.0) d w.2 in
    let fit = names_fit y.0 t w.0 w.1 in
    subst (From s p t) is
    (record {
      asked = or_done 2 (question_of s) x.1;
      none = so_done 2 (grants_none x.0) z.1;
      held = y.0;
      properties = or_done 2 (properties_of p) y.1;
      names = w.1;
      good = fit.0;
      few = fit.1;
    })
  where
    made : Question → List (List ℕ) → Derivation
    made q ns = record { question = q; names = ns }

    behind : Question → List Held → ResultAt Derivation
    behind q ps = unless_so 2 (grants_none q) >>= λ _. derived ps t >>= λ ns. Done (made q ns)

-- ---- refusals

-- each is 2 without a place, or 14, 15 or 16
pub data Refuses : ℕ → ℕ → Type 0 where
  broken : Refuses 2 0
  wrong : (at : ℕ) → Refuses 14 at
  deep : (at : ℕ) → Refuses 15 at
  ungrantable : (at : ℕ) → Refuses 16 at

abbrev Refusing : {A : Type 0} → ResultAt A → Type 0
Refusing r = (n at : ℕ) → r ≡ RefusedAt n at → Refuses n at

done_refusing : {A : Type 0} (a : A) → Refusing (Done a)
done_refusing a n at e = absurd (refused_fine n at a (sym e))

then_refusing : {A B : Type 0} (r : ResultAt A) (f : A → ResultAt B) → Refusing r → ((a : A) → Refusing (f a)) → Refusing (r >>= f)
then_refusing (Done a) f h k m at e = k a m at e
then_refusing (RefusedAt n p) f h k m at e = h m at (λ i. RefusedAt (ap number_at e i) (ap place_at e i))

refused_2 : {A : Type 0} (o : Option A) → Refusing (or_refuse_at 2 0 o)
refused_2 none n at e = subst (λ (x : ℕ × ℕ). Refuses x.0 x.1) (λ i. (number_at (e i), place_at (e i))) broken
refused_2 (some a) n at e = done_refusing a n at e

unless_2 : (b : Bool) → Refusing (unless_so 2 b)
unless_2 true n at e = done_refusing tt n at e
unless_2 false n at e = subst (λ (x : ℕ × ℕ). Refuses x.0 x.1) (λ i. (number_at (e i), place_at (e i))) broken

text_refusing : (t : List ℕ) → Refusing (relation_of t)
text_refusing t n at e = go (only_two t n at e)
  where
    go : {k : ℕ} → Faults.Number k → Refuses k at
    go Faults.fourteen = wrong at
    go Faults.fifteen = deep at

names_refusing : (ps : List Held) (as' : List Assignment) → Refusing (names_from ps 0 as')
names_refusing ps as' n at e = subst (λ (k : ℕ). Refuses k at) (first_judged ps as' 0 n at e).number (ungrantable at)

pub derivation_refuses : (s p t : List ℕ) (n at : ℕ) → derivation s p t ≡ RefusedAt n at → Refuses n at
unfolding derivation derived
derivation_refuses s p t =
    then_refusing (or_refuse_at 2 0 (question_of s)) _ (refused_2 (question_of s)) λ q.
    then_refusing (or_refuse_at 2 0 (properties_of p)) _ (refused_2 (properties_of p)) λ ps.
    then_refusing (unless_so 2 (grants_none q)) _ (unless_2 (grants_none q)) λ _.
    then_refusing (derived ps t) _ (then_refusing (relation_of t) _ (text_refusing t) λ tree. names_refusing ps (list_of tree [])) λ ns.
    done_refusing _

pub refuses_not : {n at : ℕ} → Refuses n at → n ≡ 0 → ⊥
refuses_not broken z = omega (arith, z)
refuses_not (wrong at) z = omega (arith, z)
refuses_not (deep at) z = omega (arith, z)
refuses_not (ungrantable at) z = omega (arith, z)
