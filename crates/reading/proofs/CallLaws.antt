-- The call: judged, then written and numbered.
use Prim.Native.Nat.{ℕ}
use mathlib.Core.Path.{◌≡◌, refl, sym, ◌∙◌, ap}
use mathlib.Core.List.{List, []}
use mathlib.Core.Logic.{◌⊎◌, inl, inr}
use native.Mathlib.Omega.{arith}
use lib.ListN.{length}
use borrow.Author.Tests.{leb-true}
use Rattle.rules.specs.Refusals.{over}
use Rattle.rules.specs.Book.{Row}
use Rattle.rules.specs.RowBytes.{rows_bytes}
use Rattle.rules.specs.PlacedRefusals.{ResultAt, Done, RefusedAt, or_zero_at, lent_after_at}
use Rattle.rules.specs.declared.PlacedAnswer.{PlacedAnswer}
use Rattle.file_rules.specs.PriceFile.{numbered, read_file, shown_read, lent_after_read}
use Rattle.file_rules.specs.Calls.{ReadIs}
use Rattle.file_rules.proofs.FirstBadLaws.{ReadFrom, read_done}
use Rattle.file_rules.proofs.Promises.{read_numbers}
use Rattle.judging.specs.Judge.{AnswerIs}
use Rattle.reading.specs.Rows.{rows_in, met_after, ToFill}
use Rattle.reading.specs.Rounds.{AllNumbered}
use Rattle.reading.proofs.RecordLaws.{same_sizes}
use Rattle.reading.proofs.NumberedLaws.{numbered_all}

module _ {file : List ℕ} (old : List ℕ) {r : PlacedAnswer} (a : AnswerIs file (length old) r) where
  pub call_refused : (r.number ≡ 0 → ⊥) → ReadIs file old r old
  unfolding shown_read lent_after_at
  call_refused n = record { answer = a.is; output = by (read_file file (length old)) a.is }
    where
      by : (o : ResultAt (List Row)) → r ≡ shown_read o → old ≡ lent_after_read o old
      by (Done rs) e = absurd (n (ap (λ (x : PlacedAnswer). x.number) e))
      by (RefusedAt m p) e = refl

  module _ (z : r.number ≡ 0) where
    -- it was read
    read : (rs : List Row) × (read_file file (length old) ≡ Done rs)
    unfolding shown_read
    read = by (read_file file (length old)) refl a.is
      where
        none : (m p : ℕ) → m ≡ 0 → (13 ≡ m) ⊎ ((7 ≡ m) × (0 ≡ p)) → ⊥
        none m p e (inl f) = omega arith
        none m p e (inr f) = omega (arith, f.0)

        by : (o : ResultAt (List Row)) → read_file file (length old) ≡ o → r ≡ shown_read o → (rs : List Row) × (read_file file (length old) ≡ Done rs)
        by (Done rs) e f = (rs, e)
        by (RefusedAt m p) e f = absurd (none m p (sym (ap (λ (x : PlacedAnswer). x.number) f) ∙ z) (read_numbers file (length old) m p e))

    from : ReadFrom file (length old) read.0
    from = read_done file (length old) read.1

    rows : rows_in file ≡ from.lines
    unfolding rows_in
    rows = ap (or_zero_at [] (λ ls. ls)) from.good

    pub call_fill : ToFill file old
    call_fill =
        record {
          good = record { is = from.good ∙ ap Done (sym rows) };
          room =
              omega (
                arith,
                leb-true (length (rows_bytes (numbered from.lines))) (length old) from.fits,
                ap
                    (λ ls. length (rows_bytes (numbered ls))) rows,
                ap length (numbered_all (length (met_after [] (rows_in file))) (rows_in file) (omega arith)),
                same_sizes 0
                    (length (met_after [] (rows_in file))) [] (rows_in file),
              );
        }

    pub call_done : {new : List ℕ} → AllNumbered file old new → ReadIs file old r new
    unfolding lent_after_at
    call_done n =
        record {
          answer = a.is;
          output = n.is
              ∙ (ap (λ (rs : List Row). over (rows_bytes rs) old) (ap numbered rows ∙ from.is)
              ∙ sym (ap (λ (o : ResultAt (List Row)). lent_after_read o old) read.1));
        }
