-- Every text of a text book stands in it, at its place.
use Prim.Native.Nat.{ℕ, zero, suc, ◌+◌, ◌-◌, ◌≤◌, ◌<◌}
use mathlib.Core.Path.{◌≡◌, refl, sym, ◌∙◌, ap, subst}
use mathlib.Core.Bool.{Bool, true, false}
use mathlib.Core.List.{List, [], ◌∷◌}
use mathlib.Core.Option.{Option, some, none, none-ne-some, some-injective}
use mathlib.Core.Logic.{◌⊎◌, inl, inr}
use native.Mathlib.Omega.{arith}
use native.Mathlib.Decide.{dec_lt}
use native.Mathlib.Nat.{not-suc-le-zero}
use lib.Dec.{leb}
use lib.ListN.{length, take, drop}
use Rattle.rules.specs.Bytes.{big}
use Rattle.rules.specs.BookLayout.{most_bytes}
use Rattle.rules.specs.TextBook.{Entry, entries}
use Rattle.rules.proofs.ListLaws.{All}
use Rattle.rules.proofs.TestLaws.{and_right}
use Rattle.layout.specs.Reads.{when}
use Rattle.layout.specs.Ensures.{head_ok, book_head_ok}
use Rattle.texts.specs.Ensures.{entry_at, EntryIn, EntryEnd}
use Rattle.layout.proofs.FromLaws.{more, head_long}
use Rattle.texts.proofs.EntryLaws.{entries_from, text_long, entry_cases, entries_end, entries_broken, entries_step, entries_are}

-- the text t is the bytes of the book from its place on
pub record Stands (book : List ℕ) (place size : ℕ) (t : List ℕ) : Type 0 where
  pub is : take size (drop place book) ≡ t
  pub fits : place + size ≤ length book

abbrev pub StandsIn : List ℕ → Entry → Type 0
StandsIn s e = Stands s e.start (length e.text) e.text

entry_stands : (s : List ℕ) (at to : ℕ) → EntryIn s at to → StandsIn s (entry_at s at to)
entry_stands s at to h = record { is = ap (λ (k : ℕ). take k (drop (at + 6) s)) (text_long s at to h); fits = omega (arith, text_long s at to h, h.long, h.fits) }

module _ (s : List ℕ) where
  from_stand : (k at : ℕ) (es : List Entry) → length s - at < k → at ≤ length s → entries_from s at ≡ some es → All (StandsIn s) es
  from_stand zero at es g l e = absurd (not-suc-le-zero g)
  from_stand (suc k) at es g l e = go (λ at es g l e. from_stand k at es g l e) (dec_lt at (length s))
    where
      Rest : Type 0
      Rest = (at : ℕ) (es : List Entry) → length s - at < k → at ≤ length s → entries_from s at ≡ some es → All (StandsIn s) es

      split : (to : ℕ) → EntryIn s at to → Rest → (o : Option (List Entry)) → entries_from s to ≡ o → more (entry_at s at to) o ≡ some es → All (StandsIn s) es
      split to h ih none i j = absurd (none-ne-some es j)
      split to h ih (some rest) i j =
          subst (All (StandsIn s)) (some-injective (entry_at s at to ∷ rest) es j)
          (entry_stands s at to h, ih to rest (omega (arith, h.long, h.fits)) h.fits i)

      there : at < length s → Rest → EntryEnd s at 0 ⊎ EntryEnd s at (at + 6 + big (take 2 (drop (at + 4) s))) → All (StandsIn s) es
      there h ih (inl p) = absurd (none-ne-some es (sym (entries_broken s at p h (omega arith)) ∙ e))
      there h ih (inr p) =
          let to : ℕ = at + 6 + big (take 2 (drop (at + 4) s)) in
          split to (p.inside (omega arith)) ih (entries_from s to) refl (sym (entries_step s at p (omega arith)) ∙ e)

      go : Rest → Dec (at < length s) → All (StandsIn s) es
      go ih (yes h) = there h ih (entry_cases s at l)
      go ih (no h) = subst (All (StandsIn s)) (some-injective [] es (sym (entries_end s at (omega arith)) ∙ e)) tt

  pub all_stand : (es : List Entry) → entries s ≡ some es → All (StandsIn s) es
  all_stand es e = go (book_head_ok s) refl (sym (entries_are s) ∙ e)
    where
      go : (t : Bool) → book_head_ok s ≡ t → when t (entries_from s 5) ≡ some es → All (StandsIn s) es
      go true h i = from_stand (suc (length s)) 5 es (omega arith) (head_long s (and_right (leb (length s) most_bytes) (head_ok s) h)) i
      go false h i = absurd (none-ne-some es i)
