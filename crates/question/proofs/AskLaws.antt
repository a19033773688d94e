-- An accepted question: where its parts stand, and the question by value.
use Prim.Native.Nat.{ℕ, ◌+◌, ◌-◌, ◌≤◌, ◌<◌}
use mathlib.Core.Path.{◌≡◌, refl, sym, ◌∙◌, ap, subst}
use mathlib.Core.Bool.{true, false, false≢true}
use mathlib.Core.List.{List, [], ◌∷◌}
use mathlib.Core.Logic.{◌⊎◌, inl, inr}
use native.Mathlib.Omega.{arith}
use native.Mathlib.Decide.{dec_lt}
use lib.Dec.{eqb, ltb}
use lib.ListN.{length, take, drop, get_or}
use borrow.Author.Tests.{lt-ltb, eqb-true}
use Rattle.rules.specs.Lists.{between, any, is_some}
use Rattle.rules.specs.Bytes.{big}
use Rattle.rules.specs.Days.{is_day}
use Rattle.rules.specs.Book.{sale, purchase}
use Rattle.rules.specs.Question.{property, granted_in, question_layout, question_of}
use Rattle.rules.proofs.TestLaws.{and_left, and_right, between_low, between_high}
use Rattle.layout.specs.Reads.{name_stop}
use Rattle.layout.specs.Counted.{counted_at, counted_stop}
use Rattle.layout.specs.Ensures.{question_head_ok, Number, NameEnd}
use Rattle.layout.proofs.LayoutLaws.{reads_as, accepted_is, taken_are}
use Rattle.layout.proofs.NameLaws.{name_cases}
use Rattle.layout.proofs.CountedLaws.{CountedEnd, counted_few}
use Rattle.layout.proofs.NameEndLaws.{name_size}
use Rattle.properties.specs.Properties.{property_at, property_stop}
use Rattle.properties.proofs.PropertyLaws.{properties_any}
use Rattle.question.specs.Parts.{granted_at, granted_stop, names_stop, NamesStand, currency_ok, terms_ok, version_of}
use Rattle.question.specs.Asked.{NamesEnd, AskAt, AskIs}
use Rattle.question.proofs.PartLaws.{granted_any}
use Rattle.question.proofs.QuestionLaws.{question_short, question_nameless, question_cut, question_ungranted, question_some, question_reads}

-- the bytes are a question: each way not to be one is out, and what is left are its parts
module _ (s : List ℕ) (ok : is_some (question_of s) ≡ true) where
  not_it : {X : Type 0} → false ≡ is_some (question_of s) → X
  not_it e = absurd (false≢true (e ∙ ok))

  pub ask_parts : AskAt s (name_stop s 5) (counted_stop (granted_stop (version_of s)) s (name_stop s 5 + 12))
  unfolding question_of counted_stop
  ask_parts = long (dec_lt (length s) 5)
    where
      a : ℕ
      a = name_stop s 5

      parts : (h : 5 ≤ length s) (p : NameEnd 1 40 s 5 a) (l : 12 ≤ length s - a) (x : CountedEnd (granted_in (version_of s)) (granted_at (version_of s)) (granted_stop (version_of s)) s (a + 12) (a + 12 + 1) (get_or s (a + 12) 0)) → 0 < x.0
          → CountedEnd property property_at property_stop s x.0 (x.0 + 1) (get_or s x.0 0) → AskAt s a x.0
      parts h p l x i y =
          let t = and_right (ltb 0 a) _ (and_right (question_head_ok s) _ (sym (question_some s h p l x.1 y.1) ∙ ok)) in
          let e : y.0 ≡ length s = eqb-true y.0 (length s) (and_right (ltb 0 x.0) _ (and_right (terms_ok s a) _ t)) in
          let k : 0 < y.0 = omega arith in
          let end : x.0 < y.0 = y.1.low k in
          let start : a + 12 < x.0 = x.1.low i in
          let size = name_size 1 40 (reads_as p.reads (lt-ltb 0 a (omega arith)) refl) (omega arith) in
          record {
            low = omega (arith, between_low 1 40 (get_or s 5 0) size);
            high = omega (arith, between_high 1 40 (get_or s 5 0) size);
            middle = start;
            fits = omega arith;
            conditions = counted_few (granted_in (version_of s)) (reads_as x.1.reads (lt-ltb 0 x.0 i) refl) (omega arith);
            count = counted_few property (reads_as y.1.reads (lt-ltb 0 y.0 k) refl) (omega arith);
            terms = and_left (terms_ok s a) _ t;
            names = x.2 i;
            properties = y.2 k;
            names_end = x.1.stops i;
            is = accepted_is (question_layout (length s)) (question_reads s h p l x.1 y.1) (omega arith) ok;
          }

      granted : 5 ≤ length s → NameEnd 1 40 s 5 a → 12 ≤ length s - a → (x : CountedEnd (granted_in (version_of s)) (granted_at (version_of s)) (granted_stop (version_of s)) s (a + 12) (a + 12 + 1) (get_or s (a + 12) 0)) → Dec (0 < x.0) → AskAt s a (counted_stop (granted_stop (version_of s)) s (a + 12))
      granted h p l x (yes i) = subst (AskAt s a) (x.1.stops i) (parts h p l x i (properties_any s x.0 x.1.fits))
      granted h p l x (no i) = not_it (question_ungranted s h p l x.1 (omega arith))

      cut : 5 ≤ length s → NameEnd 1 40 s 5 a → Dec (length s - a < 12) → AskAt s a (counted_stop (granted_stop (version_of s)) s (a + 12))
      cut h p (yes l) = not_it (question_cut s h p l)
      cut h p (no l) =
          let x = granted_any (version_of s) s (a + 12) (omega (arith, p.fits)) in
          granted h p (omega arith) x (dec_lt 0 x.0)

      named : 5 ≤ length s → NameEnd 1 40 s 5 0 ⊎ NameEnd 1 40 s 5 a → AskAt s a (counted_stop (granted_stop (version_of s)) s (a + 12))
      named h (inl p) = not_it (question_nameless s h p (omega arith))
      named h (inr p) = cut h p (dec_lt (length s - a) 12)

      long : Dec (length s < 5) → AskAt s a (counted_stop (granted_stop (version_of s)) s (a + 12))
      long (yes h) = not_it (question_short s h)
      long (no h) = named (omega arith) (name_cases 1 40 s 5)

  -- the places that code reads on its way to them
  pub ask_long : 5 < length s
  ask_long = omega (arith, ask_parts.middle, ask_parts.fits)

  pub ask_version : 4 < length s
  ask_version = omega (arith, ask_long)

  module _ {n top : ℕ} (size : Number (get_or s 5 0) top n) where
    pub ask_count : 6 + n + 12 < length s
    ask_count = omega (arith, size.is, ask_parts.middle, ask_parts.fits)

    module _ {k top' : ℕ} (count : Number (get_or s (6 + n + 12) 0) top' k) where
      pub ask_names : NamesStand (version_of s) s (6 + n + 12 + 1) k
      ask_names = rw (count.is, size.is) ask_parts.names

      pub ask_at : {g : ℕ} → NamesEnd (version_of s) s (6 + n + 12 + 1) k g → AskAt s (6 + n) g
      unfolding counted_stop
      ask_at e = rw (e.is, count.is, size.is) ask_parts

-- ---- by value

module _ {s : List ℕ} {a g : ℕ} (p : AskAt s a g) where
  pub ask_is : {date quantity conditions count : ℕ} → Number (big (take 4 (drop (a + 4) s))) 4294967296 date → Number (big (take 4 (drop (a + 8) s))) 4294967296 quantity
      → Number (get_or s (a + 12) 0) 256 conditions → Number (get_or s g 0) 256 count
      → AskIs s (record {
        article = record { at = 6; size = a - 6 };
        version = version_of s;
        sort = get_or s a 0;
        currency = record { 0 = get_or s (a + 1) 0; 1 = get_or s (a + 2) 0; 2 = get_or s (a + 3) 0 };
        date = record { 0 = date };
        quantity = quantity;
        granted = a + 12 + 1;
        conditions = conditions;
        properties = g + 1;
        count = count;
      })
  unfolding counted_at
  ask_is {date} {quantity} {conditions} {count} d q n k =
      let l : a + (1 + 3) ≤ length s = omega (arith, p.middle, p.fits) in
      let c : take 3 (drop (a + 1) s) ≡ get_or s (a + 1) 0 ∷ get_or s (a + 2) 0 ∷ get_or s (a + 3) 0 ∷ [] = taken_are s a 3 1 l in
      let t = and_right (any (eqb (get_or s a 0)) (sale ∷ purchase ∷ [])) _ p.terms in
      let u = and_right (currency_ok (take 3 (drop (a + 1) s))) _ t in
      let b : between 1 100000 quantity ≡ true = rw q.is (and_right (is_day (big (take 4 (drop (a + 4) s)))) _ u) in
      record {
        is = p.is ∙ rw (c, d.is, q.is, n.is, k.is);
        version_is = refl;
        article_at = refl;
        granted_at_lem = omega (arith, p.low);
        properties_at_lem = ap (λ (k : ℕ). k + 1) (p.names_end ∙ ap (names_stop (version_of s) s (a + 12 + 1)) (sym n.is));
        named = omega (arith, p.low);
        short = omega (arith, p.high);
        inside = omega (arith, p.low, p.middle, p.fits);
        sort = and_left (any (eqb (get_or s a 0)) (sale ∷ purchase ∷ [])) _ p.terms;
        currency = rw c at (and_left (currency_ok (take 3 (drop (a + 1) s))) _ t);
        day = rw d.is (and_left (is_day (big (take 4 (drop (a + 4) s)))) _ u);
        least = between_low 1 100000 quantity b;
        most = between_high 1 100000 quantity b;
        conditions = omega (arith, p.conditions, n.is);
        names = rw n.is p.names;
        count = omega (arith, p.count, k.is);
        properties = rw k.is p.properties;
      }
