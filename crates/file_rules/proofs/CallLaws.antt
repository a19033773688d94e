-- What is read off a call's answer and its output: what was done, or where it was refused.
use Prim.Native.Nat.{ℕ}
use mathlib.Core.Path.{◌≡◌, refl, sym, ◌∙◌, ap, ap₂}
use mathlib.Core.List.{List}
use mathlib.Core.Option.{none}
use mathlib.Core.Logic.{◌⊎◌, inl, inr}
use native.Mathlib.Omega.{arith}
use lib.ListN.{length, take, drop}
use lib.Seq.{take_at, drop-append_seam}
use Rattle.rules.specs.Book.{Row}
use Rattle.rules.specs.BookLayout.{records}
use Rattle.rules.specs.RowBytes.{rows_bytes}
use Rattle.rules.specs.PlacedRefusals.{ResultAt, Done, RefusedAt, number_at, place_at, or_zero_at, lent_after_at}
use Rattle.rules.specs.declared.PlacedAnswer.{PlacedAnswer}
use Rattle.file_rules.specs.Fields.{lines_of}
use Rattle.file_rules.specs.PriceFile.{read_file, shown_read, file_text, write_file, shown_write}
use Rattle.file_rules.specs.Calls.{ReadIs, WriteIs}
use Rattle.file_rules.proofs.FirstBadLaws.{FirstBad, NoRoom, read_refused}
use Rattle.file_rules.proofs.UnfitLaws.{UnfitAt}
use Rattle.file_rules.proofs.WriteLaws.{refused_by_lem}

module _ {A : Type 0} (bytes : A → List ℕ) (lent : List ℕ) where
  abbrev shown_by : ResultAt A → PlacedAnswer
  shown_by x = record { length = or_zero_at 0 (λ a. length (bytes a)) x; place = place_at x; number = number_at x }

  -- the bytes stand in front, and behind them all is as before
  pub record HandedOut (a : A) (r : PlacedAnswer) (after : List ℕ) : Type 0 where
    pub long : r.length ≡ length (bytes a)
    pub front : take r.length after ≡ bytes a
    pub rest : drop r.length after ≡ drop r.length lent

  handed_out : (a : A) {r : PlacedAnswer} {after : List ℕ} → r ≡ shown_by (Done a) → after ≡ lent_after_at bytes (Done a) lent → HandedOut a r after
  unfolding lent_after_at
  handed_out a {r} {after} e f =
      let n : r.length ≡ length (bytes a) = ap (λ (x : PlacedAnswer). x.length) e in
      record {
        long = n;
        front = ap₂ (λ (k : ℕ) (l : List ℕ). take k l) n f ∙ take_at (bytes a) (drop (length (bytes a)) lent) (length (bytes a)) refl;
        rest =
            ap₂ (λ (k : ℕ) (l : List ℕ). drop k l) n f
            ∙ (drop-append_seam (bytes a) (drop (length (bytes a)) lent) ∙ ap (λ (k : ℕ). drop k lent) (sym n));
      }

-- ---- the reader

read_never_0 : (file : List ℕ) (room n p : ℕ) → read_file file room ≡ RefusedAt n p → n ≡ 0 → ⊥
read_never_0 file room n p e z = go (read_refused file room e)
  where
    go : ((13 ≡ n) × FirstBad 1 (lines_of file) p) ⊎ NoRoom file room n p → ⊥
    go (inl x) = omega (arith, x.0)
    go (inr x) = omega (arith, x.number)

module _ {file lent : List ℕ} {r : PlacedAnswer} {after : List ℕ} (call : ReadIs file lent r after) where
  -- number 0: rows were read, and their bytes handed out
  pub read_out : r.number ≡ 0 → (rs : List Row) × (read_file file (length lent) ≡ Done rs) × HandedOut rows_bytes lent rs r after
  unfolding shown_read
  read_out z = go (read_file file (length lent)) refl call.answer call.output
    where
      go : (x : ResultAt (List Row)) → read_file file (length lent) ≡ x → r ≡ shown_read x → after ≡ lent_after_at rows_bytes x lent
          → (rs : List Row) × (read_file file (length lent) ≡ Done rs) × HandedOut rows_bytes lent rs r after
      go (Done rs) i e f = (rs, i, handed_out rows_bytes lent rs e f)
      go (RefusedAt n p) i e f = absurd (read_never_0 file (length lent) n p i (sym (ap (λ (y : PlacedAnswer). y.number) e) ∙ z))

  -- any other number: it and the place are the refusal's, and nothing else is handed out
  pub read_not : (r.number ≡ 0 → ⊥)
      → (read_file file (length lent) ≡ RefusedAt r.number r.place) × (r.length ≡ 0) × (after ≡ lent)
  unfolding shown_read lent_after_at
  read_not z = go (read_file file (length lent)) refl call.answer call.output
    where
      go : (x : ResultAt (List Row)) → read_file file (length lent) ≡ x → r ≡ shown_read x → after ≡ lent_after_at rows_bytes x lent
          → (read_file file (length lent) ≡ RefusedAt r.number r.place) × (r.length ≡ 0) × (after ≡ lent)
      go (Done rs) i e f = absurd (z (ap (λ (y : PlacedAnswer). y.number) e))
      go (RefusedAt n p) i e f = (i ∙ ap (λ (y : PlacedAnswer). RefusedAt y.number y.place) (sym e), ap (λ (y : PlacedAnswer). y.length) e, f)

-- ---- the writer

write_never_0 : (book : List ℕ) (room n p : ℕ) → write_file book room ≡ RefusedAt n p → n ≡ 0 → ⊥
write_never_0 book room n p e z = go (refused_by_lem book room n p e)
  where
    go : ((1 ≡ n) × (0 ≡ p) × (records book ≡ none)) ⊎ (((13 ≡ n) × UnfitAt book p) ⊎ ((7 ≡ n) × (0 ≡ p))) → ⊥
    go (inl x) = omega (arith, x.0)
    go (inr (inl x)) = omega (arith, x.0)
    go (inr (inr x)) = omega (arith, x.0)

module _ {book lent : List ℕ} {r : PlacedAnswer} {after : List ℕ} (call : WriteIs book lent r after) where
  pub write_out : r.number ≡ 0 → (rs : List Row) × (write_file book (length lent) ≡ Done rs) × HandedOut file_text lent rs r after
  unfolding shown_write
  write_out z = go (write_file book (length lent)) refl call.answer call.output
    where
      go : (x : ResultAt (List Row)) → write_file book (length lent) ≡ x → r ≡ shown_write x → after ≡ lent_after_at file_text x lent
          → (rs : List Row) × (write_file book (length lent) ≡ Done rs) × HandedOut file_text lent rs r after
      go (Done rs) i e f = (rs, i, handed_out file_text lent rs e f)
      go (RefusedAt n p) i e f = absurd (write_never_0 book (length lent) n p i (sym (ap (λ (y : PlacedAnswer). y.number) e) ∙ z))

  pub write_not : (r.number ≡ 0 → ⊥)
      → (write_file book (length lent) ≡ RefusedAt r.number r.place) × (r.length ≡ 0) × (after ≡ lent)
  unfolding shown_write lent_after_at
  write_not z = go (write_file book (length lent)) refl call.answer call.output
    where
      go : (x : ResultAt (List Row)) → write_file book (length lent) ≡ x → r ≡ shown_write x → after ≡ lent_after_at file_text x lent
          → (write_file book (length lent) ≡ RefusedAt r.number r.place) × (r.length ≡ 0) × (after ≡ lent)
      go (Done rs) i e f = absurd (z (ap (λ (y : PlacedAnswer). y.number) e))
      go (RefusedAt n p) i e f = (i ∙ ap (λ (y : PlacedAnswer). RefusedAt y.number y.place) (sym e), ap (λ (y : PlacedAnswer). y.length) e, f)
