-- A look through a text book: what was found so far, and what a look from here on would say, is the whole answer.
use Prim.Native.Nat.{ℕ, ◌≤◌, ◌<◌}
use mathlib.Core.Path.{◌≡◌, refl, sym, ◌∙◌, ap}
use mathlib.Core.Bool.{Bool, true, false, not}
use mathlib.Core.List.{List, [], ◌∷◌}
use mathlib.Core.Option.{Option as Maybe, some, none}
use Rattle.std.specs.Prelude.{Option, Some, None, Ok, Err, is_ok}
use Rattle.std.specs.Option.{option_or}
use lib.Dec.{eqb, leb}
use lib.ListN.{length}
use Rattle.rules.specs.Lists.{pick, is_some}
use Rattle.rules.specs.BookLayout.{most_bytes}
use Rattle.rules.specs.TextBook.{Entry, entries}
use Rattle.rules.specs.Text.{entry_of}
use Rattle.rules.proofs.TestLaws.{and_right, so, not_so}
use Rattle.layout.specs.Reads.{when}
use Rattle.layout.specs.Ensures.{Says, head_ok, book_head_ok}
use Rattle.rules.specs.declared.Part.{Part}
use Rattle.rules.specs.declared.Refusal.TheVariants.{BrokenBook}
use Rattle.texts.specs.Ensures.{entry_at, EntryEnd}
use Rattle.texts.specs.Looks.{Looked, seen, looked, Looks}
use Rattle.layout.proofs.FromLaws.{more, head_long}
use Rattle.texts.proofs.EntryLaws.{entries_from, entries_end, entries_broken, entries_step, entries_are}

-- ---- what was found, and then the others

first_assoc : (a b c : Option Part) → option_or (option_or a b) c ≡ option_or a (option_or b c)
first_assoc None b c = refl
first_assoc (Some p) b c = refl

seen_first : (t : Bool) (e : Entry) (o : Maybe Entry) → seen (pick t e o) ≡ option_or (seen (pick t e none)) (seen o)
seen_first true e o = refl
seen_first false e o = refl

-- what a look says that found something before these entries
unfoldable pub after : Option Part → ℕ → Maybe (List Entry) → Looked
after found n none = Err BrokenBook
after found n (some es) = Ok (option_or found (seen (entry_of n es)))

after_none : (n : ℕ) (o : Maybe (List Entry)) → after None n o ≡ looked n o
unfolding after looked
after_none n none = refl
after_none n (some es) = refl

after_more : (found : Option Part) (n : ℕ) (e : Entry) (o : Maybe (List Entry)) → after found n (more e o) ≡ after (option_or found (seen (entry_of n (e ∷ [])))) n o
unfolding after
after_more found n e none = refl
after_more found n e (some es) =
    ap (λ x. Ok (option_or found x)) (seen_first (eqb e.number n) e (entry_of n es))
    ∙ ap (λ x. Ok x) (sym (first_assoc found (seen (entry_of n (e ∷ []))) (seen (entry_of n es))))

-- ---- the pass

pub record Looking (s : List ℕ) (n : ℕ) (found : Option Part) (at : ℕ) : Type 0 where
  pub fits : at ≤ length s
  pub rest : after found n (entries_from s at) ≡ looked n (entries s)

module _ (s : List ℕ) (n : ℕ) where
  module _ {r : Bool} (p : Says (book_head_ok s) r) where
    head_says : entries s ≡ when r (entries_from s 5)
    head_says = entries_are s ∙ ap (λ t. when t (entries_from s 5)) p.is

    pub look_headless : not r ≡ true → Looks (looked n (entries s)) (Err BrokenBook)
    unfolding looked
    look_headless e = record { is = ap (looked n) (head_says ∙ ap (λ t. when t (entries_from s 5)) (not_so r e)) }

    pub look_start : not r ≡ false → Looking s n None 5
    look_start f = let e = so r f in record { fits = head_long s (and_right (leb (length s) most_bytes) (head_ok s) (p.is ∙ e)); rest = after_none n (entries_from s 5) ∙ ap (looked n) (sym (head_says ∙ ap (λ t. when t (entries_from s 5)) e)) }

module _ {s : List ℕ} {n : ℕ} {found : Option Part} {at : ℕ} (inv : Looking s n found at) where
  pub look_end : length s ≤ at → Looks (looked n (entries s)) (Ok found)
  unfolding after
  look_end h = record { is = sym inv.rest ∙ (ap (after found n) (entries_end s at h) ∙ ap (λ x. Ok x) (go found)) }
    where
      go : (found : Option Part) → option_or found None ≡ found
      go None = refl
      go (Some p) = refl

  module _ {e : ℕ} (p : EntryEnd s at e) where
    pub look_broken : at < length s → e < 1 → Looks (looked n (entries s)) (Err BrokenBook)
    unfolding after
    look_broken h g = record { is = sym inv.rest ∙ ap (after found n) (entries_broken s at p h g) }

    pub look_again : {found' : Option Part} → 1 ≤ e → found' ≡ option_or found (seen (entry_of n (entry_at s at e ∷ []))) → Looking s n found' e
    look_again g r =
        record {
          fits = (p.inside g).fits;
          rest = ap (λ (x : Option Part). after x n (entries_from s e)) r
              ∙ (sym (after_more found n (entry_at s at e) (entries_from s e)) ∙ (ap (after found n) (sym (entries_step s at p g)) ∙ inv.rest));
        }

-- ---- broken, or not

pub book_is : (s : List ℕ) (n : ℕ) {r : Looked} → Looks (looked n (entries s)) r → is_ok r ≡ is_some (entries s)
unfolding looked
book_is s n p = ap is_ok (sym p.is) ∙ go (entries s)
  where
    go : (o : Maybe (List Entry)) → is_ok (looked n o) ≡ is_some o
    go none = refl
    go (some es) = refl
