-- The question at a place: cut off, broken, or there and as long as it says.
use Prim.Native.Nat.{ℕ, ◌+◌, ◌-◌, ◌≤◌, ◌<◌}
use mathlib.Core.Path.{◌≡◌, refl, sym, ◌∙◌, ap}
use mathlib.Core.Bool.{Bool, true, false}
use mathlib.Core.List.{List}
use mathlib.Core.Option.{Option, some, none}
use native.Mathlib.Omega.{arith}
use lib.ListN.{length, take, drop, length-drop, length-take}
use lib.Seq.{drop-drop, take_all}
use Rattle.rules.specs.Lists.{is_some}
use Rattle.rules.specs.Layout.{back}
use Rattle.rules.specs.Bytes.{big, own_length}
use Rattle.rules.specs.Question.{Question, question_of}
use Rattle.rules.specs.Questions.{one_question}
use Rattle.rules.proofs.ListLaws.{absent, present}
use Rattle.rules.proofs.TakesLaws.{back_is}
use Rattle.rules.proofs.QuestionsLaws.{own_length_lem}
use Rattle.layout.specs.Reads.{part, Reads}
use Rattle.layout.specs.Ensures.{Number}
use Rattle.questions.specs.Questions.{NoneAt, EndsAt}

-- bytes that are no question, or not as many as it says
no_question : (t : List ℕ) → ((q : Question) → question_of (take (own_length t) t) ≡ some q → ⊥) → one_question t ≡ none
no_question t n = go (question_of (take (own_length t) t)) refl
  where
    go : (o : Option Question) → question_of (take (own_length t) t) ≡ o → back o (drop (own_length t) t) ≡ none
    go none e = refl
    go (some q) e = absurd (n q e)

module _ (s : List ℕ) (at : ℕ) where
  broken : one_question (drop at s) ≡ none → NoneAt s at
  broken e = record { none = e }

  pub end_short : length s - at < 5 → NoneAt s at
  end_short h = broken (no_question (drop at s) λ q e.
      omega (arith, (own_length_lem (take (own_length (drop at s)) (drop at s)) q e).1, length-take (own_length (drop at s)) (drop at s), length-drop at s))

  module _ {n : ℕ} (is : Number (big (take 4 (drop at s))) 4294967296 n) where
    pub end_cut : 5 ≤ length s - at → length s - at < n → NoneAt s at
    end_cut k h = broken (no_question (drop at s) λ q e.
        let t = drop at s in
        let whole : take (own_length t) t ≡ t = take_all (own_length t) t (omega (arith, length-drop at s, is.is)) in
        let own : own_length t ≡ length t = ap own_length (sym whole) ∙ (own_length_lem (take (own_length t) t) q e).0 ∙ ap length whole in
        omega (arith, length-drop at s, is.is))

    as_said : part s at (at + n) ≡ take (own_length (drop at s)) (drop at s)
    as_said = let e : at + n - at ≡ own_length (drop at s) = omega (arith, is.is) in ap (λ (k : ℕ). take k (drop at s)) e

    pub end_good : {r : Bool} → n ≤ length s - at → 5 ≤ length s - at → r ≡ is_some (question_of (take (at + n - at) (drop at s))) → r ≡ true
        → EndsAt s at (at + n)
    end_good h k e t =
        let ok : is_some (question_of (part s at (at + n))) ≡ true = sym e ∙ t in
        let q = present (question_of (part s at (at + n))) ok in
        let long = (own_length_lem (part s at (at + n)) q.0 q.1).1 in
        record {
          low = omega (arith, long, length-take (at + n - at) (drop at s));
          own = ap (λ (m : ℕ). at + m) is.is;
          here = record { low = omega arith; fits = omega arith; ok = ok };
        }

-- the layout of one question reads it
pub end_reads : {s : List ℕ} {at r : ℕ} → EndsAt s at r → {q : Question} → question_of (part s at r) ≡ some q
    → Reads one_question s at true q r
end_reads {s} {at} {r} e {q} is =
    let n : own_length (drop at s) ≡ r - at = omega (arith, e.own) in
    let whole : at + (r - at) ≡ r = omega (arith, e.here.low) in
    let rest : drop (r - at) (drop at s) ≡ drop r s = drop-drop (r - at) at s ∙ ap (λ (k : ℕ). drop k s) whole in
    record { is = (λ i. back (question_of (take (n i) (drop at s))) (drop (n i) (drop at s))) ∙ (λ i. back (is i) (rest i)) }

-- a question takes bytes
pub shrinks : (s : List ℕ) (q : Question) (t : List ℕ) → one_question s ≡ some (q, t) → length t < length s
shrinks s q t e =
    let x = back_is (question_of (take (own_length s) s)) (drop (own_length s) s) q t e in
    let long : 5 ≤ length (take (own_length s) s) = (own_length_lem (take (own_length s) s) q x.0).1 in
    let left : length t ≡ length (drop (own_length s) s) = ap length x.1 in
    omega (arith, length-take (own_length s) s, length-drop (own_length s) s)
