-- Questions end to end: the bytes that are accepted are exactly those of that many questions laid one behind the other, and they can be parted in
-- one way only.
use Prim.Native.Nat.{ℕ, zero, suc, ◌≤◌}
use mathlib.Core.Path.{◌≡◌, refl, sym, ◌∙◌, ap, subst}
use mathlib.Core.Bool.{Bool, true, false}
use mathlib.Core.List.{List, [], ◌∷◌, ◌++◌, map}
use mathlib.Core.Option.{Option, some, none, none-ne-some, some-injective}
use native.Mathlib.Omega.{arith}
use lib.Dec.{eqb, leb}
use lib.ListN.{length, take, drop, get_or, length-append, take-append-drop}
use lib.Seq.{take-append-le, take-append_seam, drop-append_seam}
use borrow.Author.Tests.{leb-true, le-leb, eqb-true}
use Rattle.rules.specs.Lists.{join}
use Rattle.rules.specs.Layout.{and_then, give, give_if, bytes, back, to_end, repeated, ◌such◌}
use Rattle.rules.specs.Bytes.{big, number, one_of, head_of, own_length}
use Rattle.rules.specs.Question.{Question, versions, question_body, question_layout, question_of}
use Rattle.rules.specs.Questions.{one_question, questions_layout, questions_of}
use Rattle.rules.proofs.GivesLaws.{and_then_lem}
use Rattle.rules.proofs.TakesLaws.{bytes_first, takes_head_of, whole_end, back_is}

-- ---- accepted bytes are questions end to end

-- these are the bytes of the questions, one for one
abbrev pub Each : List (List ℕ) → List Question → Type 0
Each ps qs = map question_of ps ≡ map (λ q. some q) qs

-- the bytes are these parts, one behind the other, and each part is a question by itself
pub record Parts (s : List ℕ) (qs : List Question) : Type 0 where
  pub parts : List (List ℕ)
  pub laid : join parts ≡ s
  pub each : Each parts qs

no_parts : (x : List Question × List ℕ) → some ([], []) ≡ some x → Parts [] x.0
no_parts x e =
    subst (λ (y : List Question × List ℕ). Parts [] y.0) (some-injective ([], []) x e) (record { parts = []; laid = refl; each = refl })

to_end_lem : (n : ℕ) (s : List ℕ) (x : List Question × List ℕ) → to_end n one_question s ≡ some x → Parts s x.0
to_end_lem zero [] x e = no_parts x e
to_end_lem zero (b ∷ s) x e = absurd (none-ne-some x e)
to_end_lem (suc n) [] x e = no_parts x e
to_end_lem (suc n) (b ∷ s) x e =
    let first : List ℕ = take (own_length (b ∷ s)) (b ∷ s) in
    let one = and_then_lem (one_question (b ∷ s)) _ e in
    let is = back_is (question_of first) (drop (own_length (b ∷ s)) (b ∷ s)) one.0.0 one.0.1 one.1 in
    let rest = and_then_lem (to_end n one_question one.0.1) _ one.2 in
    let p = to_end_lem n one.0.1 rest.0 rest.1 in
    subst (λ (y : List Question × List ℕ). Parts (b ∷ s) y.0) (some-injective _ x rest.2)
    (record {
      parts = first ∷ p.parts;
      laid = ap (λ (t : List ℕ). first ++ t) (p.laid ∙ is.1) ∙ take-append-drop (own_length (b ∷ s)) (b ∷ s);
      each = λ i. is.0 i ∷ p.each i;
    })

given_is : {A : Type 0} (b : Bool) (v : A) (t : List ℕ) {x : A × List ℕ} → give_if b v t ≡ some x → (b ≡ true) × (v ≡ x.0)
given_is {A} true v t {x} e = (refl, ap (λ (y : A × List ℕ). y.0) (some-injective (v, t) x e))
given_is false v t {x} e = absurd (none-ne-some x e)

-- and they are not too many
pub questions_parts : (most : ℕ) (s : List ℕ) (qs : List Question) → questions_of most s ≡ some qs → Parts s qs × length qs ≤ most
unfolding questions_of
questions_parts most s qs e =
    let x = and_then_lem (repeated one_question s) _ (whole_end (questions_layout most s) qs e) in
    let g = given_is (leb (length x.0.0) most) x.0.0 x.0.1 x.2 in
    let same : x.0.0 ≡ qs = g.1 in (
      subst (Parts s) same (to_end_lem (length s) s x.0 x.1),
      subst (λ (l : List Question). length l ≤ most) same (leb-true (length x.0.0) most g.0),
    )

-- ---- a question says its own length

pub own_length_lem : (p : List ℕ) (q : Question) → question_of p ≡ some q → (own_length p ≡ length p) × (5 ≤ length p)
unfolding question_of
own_length_lem p q e =
    let x = and_then_lem (head_of versions (length p) p) question_body (whole_end (question_layout (length p) p) q e) in
    let y = and_then_lem ((number 4 such eqb (length p)) p) (λ _. one_of versions) x.1 in
    let z = and_then_lem (number 4 p) (λ n. give_if (eqb (length p) n) n) y.1 in
    let w = and_then_lem (bytes 4 p) (λ bs. give (big bs)) z.1 in
    let t = bytes_first 4 p w.0.0 w.0.1 w.1 in
    let g = given_is (eqb (length p) z.0.0) z.0.0 z.0.1 z.2 in
    let n : big w.0.0 ≡ z.0.0 = ap (λ (k : ℕ × List ℕ). k.0) (some-injective (big w.0.0, w.0.1) z.0 w.2) in (
      ap big (sym t.are) ∙ n ∙ sym (eqb-true (length p) z.0.0 g.0),
      (takes_head_of versions (length p)).enough p x.0.0 x.0.1 x.1,
    )

-- whatever stands behind it, it is what is taken, and that is what is left
module _ (p s : List ℕ) (q : Question) (e : question_of p ≡ some q) where
  own_front : own_length (p ++ s) ≡ length p
  own_front = let h = own_length_lem p q e in ap big (take-append-le 4 p s (omega (arith, h.1))) ∙ h.0

  first_taken : take (own_length (p ++ s)) (p ++ s) ≡ p
  first_taken = ap (λ (k : ℕ). take k (p ++ s)) own_front ∙ take-append_seam p s

  rest_left : drop (own_length (p ++ s)) (p ++ s) ≡ s
  rest_left = ap (λ (k : ℕ). drop k (p ++ s)) own_front ∙ drop-append_seam p s

  one_question_lem : one_question (p ++ s) ≡ some (q, s)
  one_question_lem = (λ i. back (question_of (first_taken i)) (rest_left i)) ∙ ap (λ (o : Option Question). back o s) e

-- ---- questions end to end are accepted, if they are not too many

module _ (p : List ℕ) (ps : List (List ℕ)) (q : Question) (qs : List Question) (h : Each (p ∷ ps) (q ∷ qs)) where
  pub each_first : question_of p ≡ some q
  each_first = ap (λ (l : List (Option Question)). get_or l 0 none) h

  pub each_rest : Each ps qs
  each_rest = ap (drop 1) h

laid_turn : (n : ℕ) (p s : List ℕ) (q : Question) (qs : List Question) → question_of p ≡ some q → length (p ++ s) ≤ n
    → ((m : ℕ) → length s ≤ m → to_end m one_question s ≡ some (qs, [])) → to_end n one_question (p ++ s) ≡ some (q ∷ qs, [])
laid_turn zero p s q qs e k ih = absurd (omega (arith, (own_length_lem p q e).1, length-append p s))
laid_turn (suc n) [] s q qs e k ih = absurd (omega (arith, (own_length_lem [] q e).1))
laid_turn (suc n) (b ∷ p) s q qs e k ih =
    ap (λ (o : Option (Question × List ℕ)). and_then o λ a t. and_then (to_end n one_question t) λ rest. give (a ∷ rest)) (one_question_lem (b ∷ p) s q e)
    ∙ ap (λ (o : Option (List Question × List ℕ)). and_then o λ rest. give (q ∷ rest)) (ih n (omega (arith, length-append p s)))

laid_end : (ps : List (List ℕ)) (qs : List Question) → Each ps qs → (n : ℕ) → length (join ps) ≤ n → to_end n one_question (join ps) ≡ some (qs, [])
laid_end [] [] h zero k = refl
laid_end [] [] h (suc n) k = refl
laid_end [] (q ∷ qs) h n k = let z : ◌≡◌ {A = ℕ} 0 (length (map (λ q. some q) (q ∷ qs))) = ap length h in absurd (omega arith)
laid_end (p ∷ ps) [] h n k = let z : ◌≡◌ {A = ℕ} (length (map question_of (p ∷ ps))) 0 = ap length h in absurd (omega arith)
laid_end (p ∷ ps) (q ∷ qs) h n k = laid_turn n p (join ps) q qs (each_first p ps q qs h) k (laid_end ps qs (each_rest p ps q qs h))

pub questions_laid : (most : ℕ) (ps : List (List ℕ)) (qs : List Question) → Each ps qs → length qs ≤ most → questions_of most (join ps) ≡ some qs
unfolding questions_of
questions_laid most ps qs h k = rw (laid_end ps qs h (length (join ps)) (omega arith), le-leb (length qs) most k)

-- ---- in one way only

never_empty : (p s : List ℕ) (q : Question) → question_of p ≡ some q → [] ≡ p ++ s → ⊥
never_empty p s q e h = let z : 0 ≡ length (p ++ s) = ap length h in omega (arith, (own_length_lem p q e).1, length-append p s)

pub one_split : (ps ps' : List (List ℕ)) (qs qs' : List Question) → Each ps qs → Each ps' qs' → join ps ≡ join ps' → ps ≡ ps'
one_split [] [] qs qs' h h' e = refl
one_split [] (p ∷ ps) qs [] h h' e = let z : ◌≡◌ {A = ℕ} (length (map question_of (p ∷ ps))) 0 = ap length h' in absurd (omega arith)
one_split [] (p ∷ ps) qs (q ∷ qs') h h' e = absurd (never_empty p (join ps) q (each_first p ps q qs' h') e)
one_split (p ∷ ps) ps' [] qs' h h' e = let z : ◌≡◌ {A = ℕ} (length (map question_of (p ∷ ps))) 0 = ap length h in absurd (omega arith)
one_split (p ∷ ps) [] (q ∷ qs) qs' h h' e = absurd (never_empty p (join ps) q (each_first p ps q qs h) (sym e))
one_split (p ∷ ps) (p' ∷ ps') (q ∷ qs) [] h h' e = let z : ◌≡◌ {A = ℕ} (length (map question_of (p' ∷ ps'))) 0 = ap length h' in absurd (omega arith)
one_split (p ∷ ps) (p' ∷ ps') (q ∷ qs) (q' ∷ qs') h h' e =
    let is : question_of p ≡ some q = each_first p ps q qs h in
    let is' : question_of p' ≡ some q' = each_first p' ps' q' qs' h' in
    let first : p ≡ p' =
    sym (first_taken p (join ps) q is) ∙ (ap (λ (s : List ℕ). take (own_length s) s) e ∙ first_taken p' (join ps') q' is') in
    let rest : join ps ≡ join ps' =
    sym (rest_left p (join ps) q is) ∙ (ap (λ (s : List ℕ). drop (own_length s) s) e ∙ rest_left p' (join ps') q' is') in
    λ i. first i ∷ one_split ps ps' qs qs' (each_rest p ps q qs h) (each_rest p' ps' q' qs' h') rest i
