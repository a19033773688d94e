-- A text book by places: its head, an entry at a place, and the entries from a place on.
use Prim.Native.Nat.{ℕ, ◌+◌, ◌-◌, ◌≤◌, ◌<◌}
use mathlib.Core.Path.{◌≡◌, refl, sym, ap, subst}
use mathlib.Core.Bool.{true}
use mathlib.Core.List.{List, []}
use mathlib.Core.Option.{Option, some, none, some-injective}
use mathlib.Core.Logic.{◌⊎◌, inl, inr}
use native.Mathlib.Omega.{arith}
use native.Mathlib.Decide.{dec_lt}
use lib.ListN.{length, take, drop, length-take, length-drop}
use borrow.Author.Tests.{lt-ltb, le-ltb}
use Rattle.rules.specs.Layout.{Layout, ◌>>=◌, give, bytes, left, repeated, whole}
use Rattle.rules.specs.Bytes.{number, big}
use Rattle.rules.specs.TextBook.{Entry, entry, entries}
use Rattle.layout.specs.Reads.{Reads, when}
use Rattle.layout.specs.Ensures.{Number, book_head_ok}
use Rattle.layout.proofs.LayoutLaws.{and_then_some, then_reads, then_when, then_broken, reads_as, give_reads, number_at_lem, number_reads, number_cut, bytes_at, bytes_cut, bytes_left, sized_number}
use Rattle.texts.specs.Ensures.{entry_at, EntryIn, EntryEnd}
use Rattle.layout.proofs.FromLaws.{more, behind_head, from_end, from_broken, from_step}

-- ---- an entry at a place

-- what stands behind its number and its length, where so many bytes are left
abbrev behind : ℕ → ℕ → ℕ → ℕ → Layout Entry
behind lent n size rest = do
  t ← bytes size
  give (record { number = n; start = lent - rest; text = t })

left_reads : (s : List ℕ) (at : ℕ) → at ≤ length s → Reads left s at true (length s - at) at
left_reads s at h = record { is = ap (λ (n : ℕ). some (n, drop at s)) (length-drop at s) }

module _ (s : List ℕ) (at : ℕ) where
  no_entry : entry (length s) (drop at s) ≡ none → EntryEnd s at 0
  no_entry e = record { reads = record { is = e }; inside = λ h. absurd (omega arith) }

  pub entry_short : at ≤ length s → length s - at < 6 → EntryEnd s at 0
  entry_short g h = no_entry (go (dec_lt (length s) (at + 4)))
    where
      go : Dec (length s < at + 4) → entry (length s) (drop at s) ≡ none
      go (yes k) = then_broken _ _ (number_cut s at 4 g k) refl
      go (no k) = then_when _ _ (number_at_lem s at 4 (omega arith)) (then_broken _ _ (number_cut s (at + 4) 2 (omega arith) (omega arith)) refl)

  module _ {n top : ℕ} (size : Number (big (take 2 (drop (at + 4) s))) top n) (g : 6 ≤ length s - at) where
    pub entry_cut : length s < at + 6 + n → EntryEnd s at 0
    entry_cut h =
        no_entry
        (then_when _ _ (number_at_lem s at 4 (omega arith))
        (then_when _ _ (number_reads s at 2 4 (omega arith))
        (then_when left (behind (length s) (big (take 4 (drop at s))) (big (take 2 (drop (at + 4) s)))) (left_reads s (at + 6) (omega arith))
        (then_broken _ _ (bytes_cut s (at + 6) (big (take 2 (drop (at + 4) s))) (omega arith) (omega (arith, size.is))) refl))))

    pub entry_good : at + 6 + n ≤ length s → EntryEnd s at (at + 6 + n)
    entry_good h =
        record {
          reads = reads_as (subst (λ (e : Entry). Reads (entry (length s)) s at true e (at + 6 + m)) same is) (sym (lt-ltb 0 (at + 6 + n) (omega arith))) (omega (arith, size.is));
          inside = λ k. record { long = omega arith; fits = omega arith };
        }
      where
        m : ℕ
        m = big (take 2 (drop (at + 4) s))

        is : Reads (entry (length s)) s at true (record {
          number = big (take 4 (drop at s));
          start = length s - (length s - (at + 6));
          text = take m (drop (at + 6) s);
        }) (at + 6 + m)
        is =
            then_reads _ _ (number_at_lem s at 4 (omega arith))
            (then_reads _ _ (number_reads s at 2 4 (omega arith))
            (then_reads left (behind (length s) (big (take 4 (drop at s))) m) (left_reads s (at + 6) (omega arith))
            (then_reads _ _ (bytes_at s (at + 6) m (omega (arith, size.is))) give_reads)))

        same : record {
          number = big (take 4 (drop at s));
          start = length s - (length s - (at + 6));
          text = take m (drop (at + 6) s);
        } ≡ entry_at s at (at + 6 + n)
        same =
            let start : length s - (length s - (at + 6)) ≡ at + 6 = omega arith in
            let long : m ≡ at + 6 + n - (at + 6) = omega (arith, size.is) in
            λ i. record { number = big (take 4 (drop at s)); start = start i; text = take (long i) (drop (at + 6) s) }

-- its text is as long as there is room for
pub text_long : (s : List ℕ) (at to : ℕ) → EntryIn s at to → length (entry_at s at to).text ≡ to - (at + 6)
text_long s at to h = go h.long h.fits
  where
    go : at + 6 ≤ to → to ≤ length s → length (entry_at s at to).text ≡ to - (at + 6)
    go l f = simp (length-take, length-drop) (omega arith)

-- one is there, or none
pub entry_cases : (s : List ℕ) (at : ℕ) → at ≤ length s → EntryEnd s at 0 ⊎ EntryEnd s at (at + 6 + big (take 2 (drop (at + 4) s)))
entry_cases s at l = first (dec_lt (length s - at) 6)
  where
    n : ℕ
    n = big (take 2 (drop (at + 4) s))

    size : Number n (n + 1) n
    size = record { is = refl; below = omega arith }

    second : 6 ≤ length s - at → Dec (length s < at + 6 + n) → EntryEnd s at 0 ⊎ EntryEnd s at (at + 6 + n)
    second g (yes h) = inl (entry_cut s at size g h)
    second g (no h) = inr (entry_good s at size g (omega arith))

    first : Dec (length s - at < 6) → EntryEnd s at 0 ⊎ EntryEnd s at (at + 6 + n)
    first (yes g) = inl (entry_short s at l g)
    first (no g) = second (omega arith) (dec_lt (length s) (at + 6 + n))

-- it takes at least six bytes
entry_shrinks : (lent : ℕ) (s : List ℕ) (a : Entry) (t : List ℕ) → entry lent s ≡ some (a, t) → length t < length s
entry_shrinks lent s a t e =
    let x = and_then_some (number 4 s) _ e in
    let y = and_then_some (number 2 x.0.1) _ x.2 in
    let z = and_then_some (bytes y.0.0 y.0.1) _ y.2 in
    let h₁ : length s ≡ 4 + length x.0.1 = (sized_number 4).takes s x.0.0 x.0.1 x.1 in
    let h₂ : length x.0.1 ≡ 2 + length y.0.1 = (sized_number 2).takes x.0.1 y.0.0 y.0.1 y.1 in
    let h₃ : length y.0.1 ≡ y.0.0 + length z.0.1 = bytes_left y.0.0 y.0.1 z.1 in
    let h₄ : length z.0.1 ≡ length t = ap (λ p. length p.1) (some-injective _ _ z.2) in
    omega arith

-- ---- the entries from a place on

unfoldable pub entries_from : List ℕ → ℕ → Option (List Entry)
entries_from s at = whole (repeated (entry (length s))) (drop at s)

module _ (s : List ℕ) (at : ℕ) where
  pub entries_end : length s ≤ at → entries_from s at ≡ some []
  unfolding entries_from
  entries_end h = from_end (entry (length s)) s at h

  module _ {e : ℕ} (p : EntryEnd s at e) where
    pub entries_broken : at < length s → e < 1 → entries_from s at ≡ none
    unfolding entries_from
    entries_broken h g = from_broken (entry (length s)) s at (entry_shrinks (length s)) h (reads_as p.reads (le-ltb 0 e (omega arith)) refl)

    pub entries_step : 1 ≤ e → entries_from s at ≡ more (entry_at s at e) (entries_from s e)
    unfolding entries_from
    entries_step g = from_step (entry (length s)) s at (entry_shrinks (length s)) (reads_as p.reads (lt-ltb 0 e (omega arith)) refl)

-- ---- the head, and the entries behind it

module _ (s : List ℕ) where
  pub entries_are : entries s ≡ when (book_head_ok s) (entries_from s 5)
  unfolding entries entries_from
  entries_are = behind_head s (repeated (entry (length s)))
