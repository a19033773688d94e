-- The head of a layout at the front of the bytes, and values of one layout from a place to the end: for every layout that has such.
use Prim.Native.Nat.{ℕ, suc, ◌≤◌, ◌<◌}
use mathlib.Core.Path.{◌≡◌, refl, sym, ◌∙◌, ap, subst}
use mathlib.Core.Bool.{Bool, true, false, ◌&&◌, and-false, or-false, false≢true}
use mathlib.Core.List.{List, [], ◌∷◌}
use mathlib.Core.Option.{Option, some, none}
use native.Mathlib.Omega.{arith}
use native.Mathlib.Decide.{dec_lt}
use lib.Dec.{eqb, leb}
use lib.ListN.{length, take, drop, get_or, drop_of_length-le, get_or-eq_default}
use lib.Seq.{drop-cons}
use Rattle.rules.specs.Lists.{any}
use Rattle.rules.specs.Layout.{Layout, and_then, ◌>>=◌, give, must, repeated, whole, wholly}
use Rattle.rules.specs.Bytes.{number, head_of, head, big}
use Rattle.rules.specs.BookLayout.{most_bytes}
use Rattle.rules.specs.Question.{versions}
use Rattle.layout.specs.Reads.{only, when, Reads}
use Rattle.layout.specs.Ensures.{Says, head_in, question_head_ok, head_ok, book_head_ok}
use Rattle.layout.proofs.LayoutLaws.{then_reads, then_broken, then_when, if_reads, such_reads, reads_as, number_at_lem, number_cut, one_of_at, one_of_cut}
use Rattle.layout.proofs.SequenceLaws.{repeated_step, repeated_broken}

-- ---- the head

module _ (s : List ℕ) where
  -- in fewer bytes no version is read
  pub head_short : length s < 5 → head_ok s ≡ false
  head_short h = rw (get_or-eq_default s 0 {n = 4} (omega arith)) (and-false (eqb (length s) (big (take 4 s))))

  pub head_long : head_ok s ≡ true → 5 ≤ length s
  head_long e = go (dec_lt (length s) 5)
    where
      go : Dec (length s < 5) → 5 ≤ length s
      go (yes h) = absurd (false≢true (sym (head_short h) ∙ e))
      go (no h) = omega arith

  -- no layout has a version 0
  module _ (versions : List ℕ) (some : any (eqb 0) versions ≡ false) where
    head_in_short : length s < 5 → head_in versions s ≡ false
    head_in_short h = rw (get_or-eq_default s 0 {n = 4} (omega arith), some) (and-false (eqb (length s) (big (take 4 s))))

    pub head_in_reads : Reads (head_of versions (length s)) s 0 (head_in versions s) (get_or s 4 0) 5
    head_in_reads = go (dec_lt (length s) 5)
      where
        cut : length s < 5 → Dec (length s < 4) → head_of versions (length s) (drop 0 s) ≡ none
        cut h (yes k) = then_broken _ _ (such_reads (number 4) (eqb (length s)) (number_cut s 0 4 (omega arith) (omega arith))) refl
        cut h (no k) =
            (reads_as (then_reads _ _ (such_reads (number 4) (eqb (length s)) (number_at_lem s 0 4 (omega arith))) (one_of_cut s 4 versions (omega arith)))
            (and-false (eqb (length s) (big (take 4 s)))) refl).is

        go : Dec (length s < 5) → Reads (head_of versions (length s)) s 0 (head_in versions s) (get_or s 4 0) 5
        go (yes h) = record { is = cut h (dec_lt (length s) 4) ∙ sym (ap (λ t. only t (get_or s 4 0, drop 5 s)) (head_in_short h)) }
        go (no h) = then_reads _ _ (such_reads (number 4) (eqb (length s)) (number_at_lem s 0 4 (omega arith))) (one_of_at s 4 versions (omega arith))

  pub head_reads : Reads (head (length s)) s 0 (head_ok s) (get_or s 4 0) 5
  head_reads = reads_as (head_in_reads (1 ∷ []) refl) (ap (λ b. eqb (length s) (big (take 4 s)) && b) (or-false (eqb (get_or s 4 0) 1))) refl

  -- that of a question
  pub question_head_reads : Reads (head_of versions (length s)) s 0 (question_head_ok s) (get_or s 4 0) 5
  question_head_reads = head_in_reads versions refl

  pub no_question_head : length s < 5 → Says (question_head_ok s) false
  no_question_head h = record { is = head_in_short versions refl h }

  -- a book, or a text book, is a head and what is behind it
  pub behind_head : {A : Type 0} (m : Layout A) → whole (must (leb (length s) most_bytes) >>= λ _. head (length s) >>= λ _. m) s ≡ when (book_head_ok s) (whole m (drop 5 s))
  behind_head {A} m =
      ap wholly (then_when _ _ (if_reads {s = s} {at = 0} (leb (length s) most_bytes) tt) (then_when _ _ head_reads refl))
      ∙ joined (leb (length s) most_bytes) (head_ok s) (m (drop 5 s))
    where
      joined : (t u : Bool) (o : Option (A × List ℕ)) → wholly (when t (when u o)) ≡ when (t && u) (wholly o)
      joined true true o = refl
      joined true false o = refl
      joined false u o = refl

-- ---- values to the end

-- one value more
abbrev pub more : {A : Type 0} → A → Option (List A) → Option (List A)
more a none = none
more a (some vs) = some (a ∷ vs)

module _ {A : Type 0} (m : Layout A) (s : List ℕ) (at : ℕ) where
  pub from_end : length s ≤ at → whole (repeated m) (drop at s) ≡ some []
  from_end h = ap (whole (repeated m)) (drop_of_length-le s h)

  module _ (shrinks : (s : List ℕ) (a : A) (t : List ℕ) → m s ≡ some (a, t) → length t < length s) where
    pub from_broken : {a : A} {next : ℕ} → at < length s → Reads m s at false a next → whole (repeated m) (drop at s) ≡ none
    from_broken h p =
        let d : drop at s ≡ get_or s at 0 ∷ drop (suc at) s = drop-cons s at 0 h in
        ap (whole (repeated m)) d ∙ ap wholly (repeated_broken m shrinks (get_or s at 0) (drop (suc at) s) (subst (λ (t : List ℕ). m t ≡ none) d p.is))

    pub from_step : {a : A} {next : ℕ} → Reads m s at true a next → whole (repeated m) (drop at s) ≡ more a (whole (repeated m) (drop next s))
    from_step {a} {next} p = ap wholly (repeated_step m shrinks (drop at s) a (drop next s) p.is) ∙ go (repeated m (drop next s))
      where
        end : (vs : List A) (t : List ℕ) → wholly (some (a ∷ vs, t)) ≡ more a (wholly (some (vs, t)))
        end vs [] = refl
        end vs (b ∷ t) = refl

        go : (o : Option (List A × List ℕ)) → wholly (and_then o (λ rest. give (a ∷ rest))) ≡ more a (wholly o)
        go none = refl
        go (some x) = end x.0 x.1
