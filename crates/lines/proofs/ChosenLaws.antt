-- Chosen rows: what all rows have they have, values and roundings in bounds too, and base rows come first.
use Prim.Native.Nat.{ℕ}
use mathlib.Core.Path.{◌≡◌, refl, ap, ◌∙◌, subst}
use mathlib.Core.Bool.{Bool, true, false, not}
use mathlib.Core.List.{List, [], ◌∷◌, ◌++◌, map}
use mathlib.Core.Option
use mathlib.Core.Option.{Option, some, none}
use lib.Dec.{eqb}
use Rattle.rules.specs.Lists.{any, first, gather, cons_some}
use Rattle.rules.specs.Book.{Row, base, surcharge, discount}
use Rattle.rules.specs.Question.{Question, Grant, grants}
use Rattle.rules.specs.Choice.{better, step₅, surviving, choose}
use Rattle.rules.specs.Lines.{Slot, named_slot, slots_at, slots, Chosen, chosen_in, rows_at, chosen_at, chosen}
use Rattle.rules.specs.declared.Rounding.{Rounding}
use Rattle.rules.proofs.ListLaws.{All, Holds, first_holds, gather_append}
use Rattle.rules.proofs.NoPriceLaws.{survivors, level_at}
use Rattle.lines.specs.Views.{view_of, is_base, base_first}

-- ---- gathered and joined

module _ {A B : Type 0} where
  gather_all : (P : A → Type 0) (Q : B → Type 0) (f : A → Option B) → ((x : A) → P x → Holds Q (f x)) → (xs : List A) → All P xs → All Q (gather f xs)
  gather_all P Q f h [] ps = tt
  gather_all P Q f h (x ∷ xs) ps = go (f x) (h x ps.0) (gather_all P Q f h xs ps.1)
    where
      go : (o : Option B) → Holds Q o → All Q (gather f xs) → All Q (cons_some o (gather f xs))
      go none q qs = qs
      go (some y) q qs = (q, qs)

all_append : {A : Type 0} (P : A → Type 0) (xs ys : List A) → All P xs → All P ys → All P (xs ++ ys)
all_append P [] ys ps qs = qs
all_append P (x ∷ xs) ys ps qs = (ps.0, all_append P xs ys ps.1 qs)

all_any : {A : Type 0} (xs : List A) → All (λ x. Unit {0}) xs
all_any [] = tt
all_any (x ∷ xs) = (tt, all_any xs)

-- ---- the chosen row of a slot has what the rows of its component have

module _ (rs : List Row) (q : Question) where
  chosen_holds : (P : Row → Type 0) (s : Slot) → All P (rows_at rs q s) → Holds (λ c. P c.row) (chosen_at rs q s)
  unfolding chosen_at choose step₅
  chosen_holds P s h =
      go (first (λ r. not (any (λ t. better t r) left)) left) (first_holds P (λ r. not (any (λ t. better t r) left)) left (survivors P q.date q.quantity q.currency (rows_at rs q s) h))
    where
      left : List Row
      left = surviving q.date q.quantity q.currency (rows_at rs q s)

      go : (o : Option Row) → Holds P o → Holds (λ (c : Chosen). P c.row) (Option.map (chosen_in s) o)
      go none h = tt
      go (some r) h = h

  -- ---- levels

  -- what the slots of a level choose is of that level
  chosen_level : (gs : List Grant) (level : ℕ) → All (λ c. c.row.level ≡ level) (gather (chosen_at rs q) (slots_at gs level))
  chosen_level gs level =
      gather_all (λ (s : Slot). s.level ≡ level) (λ c. c.row.level ≡ level) (chosen_at rs q)
      (λ s e. subst (λ (k : ℕ). Holds (λ c. c.row.level ≡ k) (chosen_at rs q s)) e (chosen_holds (λ r. r.level ≡ s.level) s (level_at rs q s)))
      (slots_at gs level) (refl, of_level gs)
    where
      of_level : (gs : List Grant) → All (λ (s : Slot). s.level ≡ level) (map (named_slot level) gs)
      of_level [] = tt
      of_level (g ∷ gs) = (refl, of_level gs)

-- ---- base rows, and then others

none_base : (rs : List Rounding) (cs : List Chosen) → All (λ c. eqb c.row.level base ≡ false) cs → any is_base (map (view_of rs) cs) ≡ false
none_base rs [] hs = refl
none_base rs (c ∷ cs) hs = rw (hs.0, none_base rs cs hs.1)

first_then : (rs : List Rounding) (cs ds : List Chosen) → All (λ c. eqb c.row.level base ≡ true) cs → All (λ c. eqb c.row.level base ≡ false) ds
    → base_first (map (view_of rs) (cs ++ ds)) ≡ true
unfolding base_first
first_then rs [] [] hs ks = refl
first_then rs [] (d ∷ ds) hs ks = rw (ks.0, none_base rs ds ks.1)
first_then rs (c ∷ cs) ds hs ks = rw hs.0 (first_then rs cs ds hs.1 ks)

at_level : (b : Bool) (level : ℕ) → eqb level base ≡ b → (cs : List Chosen) → All (λ c. c.row.level ≡ level) cs → All (λ c. eqb c.row.level base ≡ b) cs
at_level b level e [] hs = tt
at_level b level e (c ∷ cs) hs = (ap (λ (k : ℕ). eqb k base) hs.0 ∙ e, at_level b level e cs hs.1)

-- The chosen rows of a question have their base rows in front.
pub chosen_base_first : (roundings : List Rounding) (rs : List Row) (q : Question) → base_first (map (view_of roundings) (chosen rs q)) ≡ true
unfolding chosen slots
chosen_base_first roundings rs q =
    let gs : List Grant = grants q.granted in
    let f = chosen_at rs q in
    ap (λ cs. base_first (map (view_of roundings) cs)) (gather_append f (slots_at gs base) (slots_at gs surcharge ++ slots_at gs discount) ∙ ap (λ cs. gather f (slots_at gs base) ++ cs) (gather_append f (slots_at gs surcharge) (slots_at gs discount)))
    ∙ first_then roundings (gather f (slots_at gs base)) (gather f (slots_at gs surcharge) ++ gather f (slots_at gs discount))
    (at_level true base refl (gather f (slots_at gs base)) (chosen_level rs q gs base))
    (all_append (λ c. eqb c.row.level base ≡ false) (gather f (slots_at gs surcharge)) (gather f (slots_at gs discount))
    (at_level false surcharge refl (gather f (slots_at gs surcharge)) (chosen_level rs q gs surcharge))
    (at_level false discount refl (gather f (slots_at gs discount)) (chosen_level rs q gs discount)))
