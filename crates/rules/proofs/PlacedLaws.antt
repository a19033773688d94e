-- The records of a book with their places are the book's records; and so they are once read as those of a kind.
use Prim.Native.Nat.{ℕ, zero, suc}
use mathlib.Core.Path.{◌≡◌, refl, sym, ◌∙◌, ap, subst}
use mathlib.Core.List.{List, [], ◌∷◌, map}
use mathlib.Core.Option
use mathlib.Core.Option.{Option, some, none, none-ne-some, some-injective}
use lib.Dec.{leb}
use lib.ListN.{length}
use Rattle.rules.specs.Lists.{gather, cons_some}
use Rattle.rules.specs.Layout.{Layout, and_then, ◌>>=◌, give, must, wholly, to_end, repeated}
use Rattle.rules.specs.Bytes.{head}
use Rattle.rules.specs.Book.{Record}
use Rattle.rules.specs.BookLayout.{one_record, most_bytes, records}
use Rattle.rules.specs.Placed.{Placed, placed_by, placed, placed_layout, placed_records, holding, placed_as}
use Rattle.rules.proofs.ListLaws.{All}
use Rattle.rules.proofs.KindLaws.{Kind, read_only}

-- ---- with places or without

abbrev pub held_in : {A : Type 0} → List (Placed A) → List A
held_in ps = map (λ p. p.held) ps

-- what is read, turned into something else
abbrev turned : {A B : Type 0} → (A → B) → Option (A × List ℕ) → Option (B × List ℕ)
turned f none = none
turned f (some p) = some (f p.0, p.1)

turned_then : {A B C : Type 0} (o : Option (C × List ℕ)) (g : B → A) (f : C → Layout A) (h : C → Layout B)
    → ((c : C) (t : List ℕ) → f c t ≡ turned g (h c t)) → and_then o f ≡ turned g (and_then o h)
turned_then none g f h k = refl
turned_then (some p) g f h k = k p.0 p.1

turned_whole : {A B : Type 0} (f : A → B) (o : Option (A × List ℕ)) → wholly (turned f o) ≡ Option.map f (wholly o)
turned_whole f none = refl
turned_whole f (some (a, [])) = refl
turned_whole f (some (a, b ∷ t)) = refl

module _ (lent : ℕ) where
  same_to_end : (n : ℕ) (s : List ℕ) → to_end n one_record s ≡ turned held_in (to_end n (placed lent) s)
  same_to_end zero [] = refl
  same_to_end zero (b ∷ s) = refl
  same_to_end (suc n) [] = refl
  same_to_end (suc n) (b ∷ s) = go (one_record (b ∷ s)) (same_to_end n)
    where
      last : (p : Placed Record) (o : Option (List Record × List ℕ)) (u : Option (List (Placed Record) × List ℕ)) → o ≡ turned held_in u
          → and_then o (λ rs. give (p.held ∷ rs)) ≡ turned held_in (and_then u (λ ps. give (p ∷ ps)))
      last p o none e = ap (λ (x : Option (List Record × List ℕ)). and_then x (λ rs. give (p.held ∷ rs))) e
      last p o (some u) e = ap (λ (x : Option (List Record × List ℕ)). and_then x (λ rs. give (p.held ∷ rs))) e

      go : (o : Option (Record × List ℕ)) → ((t : List ℕ) → to_end n one_record t ≡ turned held_in (to_end n (placed lent) t))
          → and_then o (λ r t. and_then (to_end n one_record t) λ rs. give (r ∷ rs))
          ≡ turned held_in
          (and_then (and_then o (λ r t. some (placed_by lent (length (b ∷ s)) (length t) r, t))) (λ p t. and_then (to_end n (placed lent) t) λ ps. give (p ∷ ps)))
      go none k = refl
      go (some (r, t)) k = last (placed_by lent (length (b ∷ s)) (length t) r) (to_end n one_record t) (to_end n (placed lent) t) (k t)

-- Without their places they are the records of the book; and bytes that are no book have neither.
pub placed_held : (b : List ℕ) → records b ≡ Option.map held_in (placed_records b)
unfolding records placed_records
placed_held b =
    ap wholly
    (turned_then (must (leb (length b) most_bytes) b) held_in
    (λ _. head (length b) >>= λ _. repeated one_record) (λ _. head (length b) >>= λ _. repeated (placed (length b))) λ _ t.
    turned_then (head (length b) t) held_in (λ _. repeated one_record) (λ _. repeated (placed (length b))) λ _ u. same_to_end (length b) (length u) u)
    ∙ turned_whole held_in (placed_layout (length b) b)

-- An accepted book has places for its records.
pub placed_some : (b : List ℕ) (rs : List Record) → records b ≡ some rs → (ps : List (Placed Record)) × (placed_records b ≡ some ps) × (held_in ps ≡ rs)
placed_some b rs e = go (placed_records b) refl
  where
    go : (o : Option (List (Placed Record))) → placed_records b ≡ o → (ps : List (Placed Record)) × (placed_records b ≡ some ps) × (held_in ps ≡ rs)
    go none i = absurd (none-ne-some rs (ap (Option.map held_in) (sym i) ∙ (sym (placed_held b) ∙ e)))
    go (some ps) i = (ps, i, some-injective (held_in ps) rs (ap (Option.map held_in) (sym i) ∙ (sym (placed_held b) ∙ e)))

-- ---- read as something

-- What records hold without their places is the same, whether places were kept with it or not.
pub placed_as_lem : {A B : Type 0} (f : A → Option B) (ps : List (Placed A)) → gather f (held_in ps) ≡ held_in (placed_as f ps)
placed_as_lem f [] = refl
placed_as_lem {A} {B} f (p ∷ ps) = go (f p.held) (placed_as_lem f ps)
  where
    go : (o : Option B) → gather f (held_in ps) ≡ held_in (placed_as f ps)
        → cons_some o (gather f (held_in ps)) ≡ held_in (cons_some (Option.map (holding p) o) (placed_as f ps))
    go none e = e
    go (some x) e = ap (λ (xs : List B). x ∷ xs) e

-- What all records have where they stand, those of a kind have.
pub placed_all : {X : Type 0} (k : Kind X) (P : Placed Record → Type 0) (ps : List (Placed Record)) → All P ps
    → All (λ q. P (holding q (k.make q.held))) (placed_as k.read ps)
placed_all k P [] h = tt
placed_all {X} k P (p ∷ ps) h = go (k.read p.held) refl (placed_all k P ps h.1)
  where
    go : (o : Option X) → k.read p.held ≡ o → All (λ q. P (holding q (k.make q.held))) (placed_as k.read ps)
        → All (λ q. P (holding q (k.make q.held))) (cons_some (Option.map (holding p) o) (placed_as k.read ps))
    go none i hs = hs
    go (some x) i hs = (subst (λ (r : Record). P (holding p r)) (read_only k p.held x i) h.0, hs)
