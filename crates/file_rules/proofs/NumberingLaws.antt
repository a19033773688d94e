-- The price file: text names numbered in one walk over the lines, which numbers that gives, and that numbers written as names come back.
use Prim.Native.Nat.{ℕ, zero, suc, ◌^◌, ◌≤◌, ◌<◌}
use mathlib.Core.Path.{◌≡◌, refl, sym, ◌∙◌, ap, subst}
use mathlib.Core.Bool.{Bool, true, false, ◌&&◌, ◌||◌, not, cond, false≢true}
use mathlib.Core.List.{List, [], ◌∷◌, ◌++◌, map, append_assoc}
use native.Mathlib.Omega.{arith}
use lib.Dec.{leb}
use lib.ListN.{length, length-append}
use borrow.Author.Tests.{ne_eqb, le-leb, lt-leb, leb-true, leb-false}
use Rattle.rules.specs.Lists.{same, keep, cons_if, any}
use Rattle.rules.specs.Program.{decimal}
use Rattle.file_rules.specs.Decimals.{text_text}
use Rattle.file_rules.specs.PriceLine.{is_empty}
use Rattle.file_rules.specs.PriceFile.{distinct, place_in, text_number, run_from}
use Rattle.rules.proofs.TestLaws.{and_left, and_right, and_false, both, or_false, or_assoc}
use Rattle.rules.proofs.ListLaws.{All, same_eq, same_refl, keep_keep, any_keep, any_append}
use Rattle.file_rules.proofs.DecimalLaws.{decimal_some, decimal_one}

abbrev Names : Type 0
Names = List (List ℕ)

abbrev pub seen : Names → List ℕ → Bool
seen names x = any (same x) names

-- ---- the place of a name

pub place_new : (s e : Names) (x : List ℕ) → seen s x ≡ false → place_in (s ++ (x ∷ e)) x ≡ suc (length s)
unfolding place_in
place_new [] e x h = ap (λ b. cond b 1 (suc (place_in e x))) (same_refl x)
place_new (y ∷ s) e x h = go (same x y) refl (place_new s e x)
  where
    go : (b : Bool) → same x y ≡ b → (seen s x ≡ false → place_in (s ++ (x ∷ e)) x ≡ suc (length s))
        → cond (same x y) 1 (suc (place_in (s ++ (x ∷ e)) x)) ≡ suc (suc (length s))
    go true i k = absurd (false≢true (sym h ∙ ap (λ b. b || seen s x) i))
    go false i k = ap (λ b. cond b 1 (suc (place_in (s ++ (x ∷ e)) x))) i ∙ ap suc (k (ap (λ b. b || seen s x) (sym i) ∙ h))

pub place_seen : (s e : Names) (x : List ℕ) → seen s x ≡ true → place_in (s ++ e) x ≡ place_in s x
unfolding place_in
place_seen [] e x h = absurd (false≢true h)
place_seen (y ∷ s) e x h = go (same x y) refl (place_seen s e x)
  where
    go : (b : Bool) → same x y ≡ b → (seen s x ≡ true → place_in (s ++ e) x ≡ place_in s x)
        → cond (same x y) 1 (suc (place_in (s ++ e) x)) ≡ cond (same x y) 1 (suc (place_in s x))
    go true i k = ap (λ b. cond b 1 (suc (place_in (s ++ e) x))) i ∙ sym (ap (λ b. cond b 1 (suc (place_in s x))) i)
    go false i k = ap (λ (n : ℕ). cond (same x y) 1 (suc n)) (k (ap (λ b. b || seen s x) (sym i) ∙ h))

pub place_within : (s : Names) (x : List ℕ) → seen s x ≡ true → place_in s x ≤ length s
unfolding place_in
place_within [] x h = absurd (false≢true h)
place_within (y ∷ s) x h = go (same x y) refl (place_within s x)
  where
    go : (b : Bool) → same x y ≡ b → (seen s x ≡ true → place_in s x ≤ length s) → cond (same x y) 1 (suc (place_in s x)) ≤ suc (length s)
    go true i k = subst (λ (b : Bool). cond b 1 (suc (place_in s x)) ≤ suc (length s)) (sym i) (omega arith)
    go false i k =
        let l : place_in s x ≤ length s = k (ap (λ b. b || seen s x) (sym i) ∙ h) in
        subst (λ (b : Bool). cond b 1 (suc (place_in s x)) ≤ suc (length s)) (sym i) (omega arith)

-- ---- one walk: each name is looked for among those before it

abbrev pub after : Names → List ℕ → Names
after s x = cond (is_empty x || seen s x) s (s ++ (x ∷ []))

unfoldable pub walk : Names → Names → List ℕ
walk s [] = []
walk s (x ∷ xs) = text_number (s ++ (x ∷ [])) x ∷ walk (after s x) xs

-- the names that are new behind those of s
abbrev new : Names → Names → Names
new s xs = keep (λ y. not (seen s y)) (distinct (keep (λ x. not (is_empty x)) xs))

keep_same : {A : Type 0} (p q : A → Bool) → ((x : A) → p x ≡ q x) → (xs : List A) → keep p xs ≡ keep q xs
keep_same p q h [] = refl
keep_same p q h (x ∷ xs) = λ i. cons_if (h x i) x (keep_same p q h xs i)

-- a name that is among them brings nothing new
old_name : (s : Names) (x : List ℕ) → seen s x ≡ true → (y : List ℕ) → (not (same y x) && not (seen s y)) ≡ not (seen s y)
old_name s x h y = go (same y x) refl
  where
    go : (b : Bool) → same y x ≡ b → (not (same y x) && not (seen s y)) ≡ not (seen s y)
    go true i = ap (λ b. not b && not (seen s y)) i ∙ sym (ap not (ap (seen s) (same_eq y x i) ∙ h))
    go false i = ap (λ b. not b && not (seen s y)) i

-- any other one does, once
new_name : (s : Names) (x y : List ℕ) → (not (same y x) && not (seen s y)) ≡ not (seen (s ++ (x ∷ [])) y)
new_name s x y = go (same y x) (seen s y) ∙ sym (ap not (any_append (same y) s (x ∷ [])))
  where
    go : (a b : Bool) → (not a && not b) ≡ not (b || (a || false))
    go true true = refl
    go true false = refl
    go false true = refl
    go false false = refl

module _ (s : Names) (x : List ℕ) (xs : Names) where
  new_blank : is_empty x ≡ true → new s (x ∷ xs) ≡ new s xs
  new_blank e = ap (λ b. keep (λ y. not (seen s y)) (distinct (cons_if (not b) x (keep (λ x. not (is_empty x)) xs)))) e

  module _ (e : is_empty x ≡ false) where
    fused : (q : List ℕ → Bool) → ((y : List ℕ) → (not (same y x) && not (seen s y)) ≡ q y)
        → new s (x ∷ xs) ≡ cons_if (not (seen s x)) x (keep q (distinct (keep (λ x. not (is_empty x)) xs)))
    unfolding distinct
    fused q h =
        ap (λ b. keep (λ y. not (seen s y)) (distinct (cons_if (not b) x (keep (λ x. not (is_empty x)) xs)))) e
        ∙ ap (cons_if (not (seen s x)) x)
        (keep_keep (λ y. not (seen s y)) (λ y. not (same y x)) (distinct (keep (λ x. not (is_empty x)) xs))
        ∙ keep_same _ q h (distinct (keep (λ x. not (is_empty x)) xs)))

    new_old : seen s x ≡ true → new s (x ∷ xs) ≡ new s xs
    new_old h = fused (λ y. not (seen s y)) (old_name s x h) ∙ ap (λ b. cons_if (not b) x (new s xs)) h

    new_new : seen s x ≡ false → new s (x ∷ xs) ≡ x ∷ new (s ++ (x ∷ [])) xs
    new_new h = fused (λ y. not (seen (s ++ (x ∷ [])) y)) (new_name s x) ∙ ap (λ b. cons_if (not b) x (new (s ++ (x ∷ [])) xs)) h

-- The names numbered by their places among all names of the file are the names numbered in one walk.
pub one_walk : (s xs : Names) → map (text_number (s ++ new s xs)) xs ≡ walk s xs
unfolding walk
one_walk s [] = refl
one_walk s (x ∷ xs) = go (is_empty x) (seen s x) refl refl (λ t. one_walk t xs)
  where
    by : (t : Names) → s ++ new s (x ∷ xs) ≡ t ++ new t xs → after s x ≡ t → text_number (t ++ new t xs) x ≡ text_number (s ++ (x ∷ [])) x
        → map (text_number (t ++ new t xs)) xs ≡ walk t xs
        → map (text_number (s ++ new s (x ∷ xs))) (x ∷ xs) ≡ text_number (s ++ (x ∷ [])) x ∷ walk (after s x) xs
    by t e f g h =
        ap (λ (n : Names). map (text_number n) (x ∷ xs)) e ∙ ((λ i. g i ∷ h i) ∙ ap (λ (u : Names). text_number (s ++ (x ∷ [])) x ∷ walk u xs) (sym f))

    go : (a b : Bool) → is_empty x ≡ a → seen s x ≡ b → ((t : Names) → map (text_number (t ++ new t xs)) xs ≡ walk t xs)
        → map (text_number (s ++ new s (x ∷ xs))) (x ∷ xs) ≡ text_number (s ++ (x ∷ [])) x ∷ walk (after s x) xs
    go true b e f k = by s (ap (λ (n : Names). s ++ n) (new_blank s x xs e)) (ap (λ c. cond (c || seen s x) s (s ++ (x ∷ []))) e)
        ((λ i. cond (e i) 0 (place_in (s ++ new s xs) x)) ∙ sym (λ i. cond (e i) 0 (place_in (s ++ (x ∷ [])) x))) (k s)
    go false true e f k = by s (ap (λ (n : Names). s ++ n) (new_old s x xs e f)) (λ i. cond (e i || f i) s (s ++ (x ∷ [])))
        (ap (λ (n : ℕ). cond (is_empty x) 0 n) (place_seen s (new s xs) x f ∙ sym (place_seen s (x ∷ []) x f))) (k s)
    go false false e f k =
        by (s ++ (x ∷ [])) (ap (λ (n : Names). s ++ n) (new_new s x xs e f)
        ∙ sym (append_assoc s (x ∷ []) (new (s ++ (x ∷ [])) xs))) (λ i. cond (e i || f i) s (s ++ (x ∷ [])))
        (ap (λ (n : ℕ). cond (is_empty x) 0 n) (ap (λ (n : Names). place_in n x) (append_assoc s (x ∷ []) (new (s ++ (x ∷ [])) xs))
        ∙ (place_new s (new (s ++ (x ∷ [])) xs) x f ∙ sym (place_new s [] x f)))) (k (s ++ (x ∷ [])))

-- ---- the numbers run by first appearance

step_run : (k t : ℕ) (ts : List ℕ) → t ≤ suc k → run_from (cond (leb t k) k t) ts ≡ true → run_from k (t ∷ ts) ≡ true
unfolding run_from
step_run k t ts h e = both (leb t (suc k)) (run_from (cond (leb t k) k t) ts) (le-leb t (suc k) h) e

pub walk_runs : (s xs : Names) → run_from (length s) (walk s xs) ≡ true
unfolding walk run_from
walk_runs s [] = refl
walk_runs s (x ∷ xs) = go (is_empty x) (seen s x) refl refl (λ t. walk_runs t xs)
  where
    by : (n : ℕ) (t : Names) → text_number (s ++ (x ∷ [])) x ≡ n → after s x ≡ t → n ≤ suc (length s) → cond (leb n (length s)) (length s) n ≡ length t
        → run_from (length t) (walk t xs) ≡ true
        → run_from (length s) (text_number (s ++ (x ∷ [])) x ∷ walk (after s x) xs) ≡ true
    by n t e f g h k =
        (λ i. run_from (length s) (e i ∷ walk (f i) xs)) ∙ step_run (length s) n (walk t xs) g (ap (λ (j : ℕ). run_from j (walk t xs)) h ∙ k)

    go : (a b : Bool) → is_empty x ≡ a → seen s x ≡ b → ((t : Names) → run_from (length t) (walk t xs) ≡ true)
        → run_from (length s) (text_number (s ++ (x ∷ [])) x ∷ walk (after s x) xs) ≡ true
    go true b e f k =
        by 0 s (ap (λ c. cond c 0 (place_in (s ++ (x ∷ [])) x)) e) (ap (λ c. cond (c || seen s x) s (s ++ (x ∷ []))) e) (omega arith)
        (ap (λ c. cond c (length s) 0) (le-leb 0 (length s) (omega arith))) (k s)
    go false true e f k =
        let l : place_in s x ≤ length s = place_within s x f in
        by (place_in s x) s (ap (λ c. cond c 0 (place_in (s ++ (x ∷ [])) x)) e
        ∙ place_seen s (x ∷ []) x f) (λ i. cond (e i || f i) s (s ++ (x ∷ []))) (omega arith)
        (ap (λ c. cond c (length s) (place_in s x)) (le-leb (place_in s x) (length s) l)) (k s)
    go false false e f k =
        by (suc (length s)) (s ++ (x ∷ [])) (ap (λ c. cond c 0 (place_in (s ++ (x ∷ [])) x)) e
        ∙ place_new s [] x f) (λ i. cond (e i || f i) s (s ++ (x ∷ []))) (omega arith)
        (ap (λ c. cond c (length s) (suc (length s))) (lt-leb (suc (length s)) (length s) (omega arith))
        ∙ rw length-append (omega arith)) (k (s ++ (x ∷ [])))

-- ---- numbers written as names, and numbered again

-- the names that stand for 1 to k
abbrev names_to : ℕ → Names
names_to zero = []
names_to (suc k) = names_to k ++ (decimal (suc k) ∷ [])

count_to : (k : ℕ) → length (names_to k) ≡ k
count_to zero = refl
count_to (suc k) = rw length-append (omega (arith, count_to k))

other_name : (m n : ℕ) → m < 10 ^ 20 → n < 10 ^ 20 → (m ≡ n → ⊥) → same (decimal m) (decimal n) ≡ false
other_name m n h k d = go (same (decimal m) (decimal n)) refl
  where
    go : (b : Bool) → same (decimal m) (decimal n) ≡ b → same (decimal m) (decimal n) ≡ false
    go true e = absurd (d (decimal_one m n h k (same_eq (decimal m) (decimal n) e)))
    go false e = e

not_seen : (k t : ℕ) → k < t → t < 10 ^ 20 → seen (names_to k) (decimal t) ≡ false
not_seen zero t h l = refl
not_seen (suc k) t h l =
    any_append (same (decimal t)) (names_to k) (decimal (suc k) ∷ [])
    ∙ (λ i. not_seen k t (omega arith) l i || (other_name t (suc k) l (omega arith) (omega arith) i || false))

or_true : (a : Bool) → (a || true) ≡ true
or_true true = refl
or_true false = refl

abbrev Found : ℕ → ℕ → Type 0
Found k t = (seen (names_to k) (decimal t) ≡ true) × (place_in (names_to k) (decimal t) ≡ t)

is_found : (k t : ℕ) → 1 ≤ t → t ≤ k → t < 10 ^ 20 → Found k t
is_found zero t h l m = absurd (omega arith)
is_found (suc k) t h l m = go (leb t k) refl (λ n. is_found k t h n m)
  where
    last : suc k < 10 ^ 20 → Found (suc k) (suc k)
    last n = (
      any_append (same (decimal (suc k))) (names_to k) (decimal (suc k) ∷ [])
          ∙ (ap (λ b. seen (names_to k) (decimal (suc k)) || (b || false)) (same_refl (decimal (suc k))) ∙ or_true (seen (names_to k) (decimal (suc k)))),
      place_new (names_to k) [] (decimal (suc k)) (not_seen k (suc k) (omega arith) n) ∙ ap suc (count_to k),
    )

    go : (b : Bool) → leb t k ≡ b → (t ≤ k → Found k t) → Found (suc k) t
    go true e i =
        let p = i (leb-true t k e) in (
          any_append (same (decimal t)) (names_to k) (decimal (suc k) ∷ []) ∙ ap (λ b. b || seen (decimal (suc k) ∷ []) (decimal t)) p.0,
          place_seen (names_to k) (decimal (suc k) ∷ []) (decimal t) p.0 ∙ p.1,
        )
    go false e i =
        let n : k < t = leb-false t k e in
        let f : suc k ≡ t = omega arith in
        subst (Found (suc k)) f (last (omega arith))

module _ (k t : ℕ) (ts : List ℕ) where
  run_step : run_from k (t ∷ ts) ≡ true → (t ≤ suc k) × (run_from (cond (leb t k) k t) ts ≡ true)
  unfolding run_from
  run_step e = (
    leb-true t (suc k) (and_left (leb t (suc k)) (run_from (cond (leb t k) k t) ts) e),
    and_right (leb t (suc k))
        (run_from (cond (leb t k) k t) ts) e,
  )

not_blank : (n : ℕ) → is_empty (decimal n) ≡ false
not_blank n = ne_eqb (length (decimal n)) 0 (λ e. absurd (omega (arith, decimal_some n)))

-- Numbers that run by first appearance, written as names, are numbered as they were.
pub numbers_back : (k : ℕ) (ts : List ℕ) → k < 10 ^ 20 → All (λ t. t < 10 ^ 20) ts → run_from k ts ≡ true → walk (names_to k) (map text_text ts) ≡ ts
unfolding walk text_text
numbers_back k [] l hs e = refl
numbers_back k (zero ∷ ts) l hs e =
    let r : run_from k ts ≡ true = ap (λ b. run_from (cond b k 0) ts) (sym (le-leb 0 k (omega arith))) ∙ (run_step k 0 ts e).1 in
    ap (λ (ns : List ℕ). 0 ∷ ns) (numbers_back k ts l hs.1 r)
numbers_back k (suc t ∷ ts) l hs e = go (leb (suc t) k) refl (λ j. numbers_back j ts)
  where
    x : List ℕ
    x = decimal (suc t)

    by : (j : ℕ) → text_number (names_to k ++ (x ∷ [])) x ≡ suc t → after (names_to k) x ≡ names_to j → walk (names_to j) (map text_text ts) ≡ ts
        → text_number (names_to k ++ (x ∷ [])) x ∷ walk (after (names_to k) x) (map text_text ts) ≡ suc t ∷ ts
    by j f g h = (λ i. f i ∷ walk (g i) (map text_text ts)) ∙ ap (λ (ns : List ℕ). suc t ∷ ns) h

    go : (b : Bool) → leb (suc t) k ≡ b
        → ((j : ℕ) → j < 10 ^ 20 → All (λ t. t < 10 ^ 20) ts → run_from j ts ≡ true → walk (names_to j) (map text_text ts) ≡ ts)
        → text_number (names_to k ++ (x ∷ [])) x ∷ walk (after (names_to k) x) (map text_text ts) ≡ suc t ∷ ts
    go true f i =
        let p : Found k (suc t) = is_found k (suc t) (omega arith) (leb-true (suc t) k f) hs.0 in
        by k (ap (λ b. cond b 0 (place_in (names_to k ++ (x ∷ [])) x)) (not_blank (suc t)) ∙ (place_seen (names_to k) (x ∷ []) x p.0 ∙ p.1))
        (λ j. cond (not_blank (suc t) j || p.0 j) (names_to k) (names_to k ++ (x ∷ [])))
        (i k l hs.1 (ap (λ b. run_from (cond b k (suc t)) ts) (sym f) ∙ (run_step k (suc t) ts e).1))
    go false f i =
        let n : k < suc t = leb-false (suc t) k f in
        let m : suc t ≤ suc k = (run_step k (suc t) ts e).0 in
        let d : t ≡ k = omega arith in
        let u : seen (names_to k) x ≡ false = not_seen k (suc t) n hs.0 in
        by (suc t) (ap (λ b. cond b 0 (place_in (names_to k ++ (x ∷ [])) x)) (not_blank (suc t))
        ∙ (place_new (names_to k) [] x u ∙ (ap suc (count_to k) ∙ ap suc (sym d))))
        ((λ j. cond (not_blank (suc t) j || u j) (names_to k) (names_to k ++ (x ∷ []))) ∙ ap (λ (j : ℕ). names_to j ++ (x ∷ [])) (sym d))
        (i (suc t) hs.0 hs.1 (ap (λ b. run_from (cond b k (suc t)) ts) (sym f) ∙ (run_step k (suc t) ts e).1))

-- ---- looking back: what code without a list of names needs

-- the names met, in order, behind these lines
unfoldable pub after_all : Names → Names → Names
after_all s [] = s
after_all s (y ∷ ys) = after_all (after s y) ys

-- a walk goes on where it was left
pub walk_on : (s ys zs : Names) → walk s (ys ++ zs) ≡ walk s ys ++ walk (after_all s ys) zs
unfolding walk after_all
walk_on s [] zs = refl
walk_on s (y ∷ ys) zs = ap (λ (ns : List ℕ). text_number (s ++ (y ∷ [])) y ∷ ns) (walk_on (after s y) ys zs)

seen_one : (s : Names) (y x : List ℕ) → is_empty x ≡ false → seen (after s y) x ≡ (seen s x || same x y)
seen_one s y x n = go (is_empty y) (seen s y) (same x y) refl refl refl
  where
    go : (a b c : Bool) → is_empty y ≡ a → seen s y ≡ b → same x y ≡ c → seen (after s y) x ≡ (seen s x || same x y)
    go true b true e f g = absurd (false≢true (sym n ∙ (ap is_empty (same_eq x y g) ∙ e)))
    go true b false e f g =
        ap (λ t. seen (cond (t || seen s y) s (s ++ (y ∷ []))) x) e ∙ (sym (or_false (seen s x)) ∙ ap (λ t. seen s x || t) (sym g))
    go false true true e f g =
        let h : seen s x ≡ true = ap (seen s) (same_eq x y g) ∙ f in
        (λ i. seen (cond (e i || f i) s (s ++ (y ∷ []))) x) ∙ (h ∙ sym (ap (λ t. t || same x y) h))
    go false true false e f g = (λ i. seen (cond (e i || f i) s (s ++ (y ∷ []))) x) ∙ (sym (or_false (seen s x)) ∙ ap (λ t. seen s x || t) (sym g))
    go false false c e f g =
        (λ i. seen (cond (e i || f i) s (s ++ (y ∷ []))) x) ∙ (any_append (same x) s (y ∷ []) ∙ ap (λ t. seen s x || t) (or_false (same x y)))

-- A name that is not blank was met exactly where a line before has it.
pub seen_after : (s ys : Names) (x : List ℕ) → is_empty x ≡ false → seen (after_all s ys) x ≡ (seen s x || seen ys x)
unfolding after_all
seen_after s [] x n = sym (or_false (seen s x))
seen_after s (y ∷ ys) x n = seen_after (after s y) ys x n ∙ (ap (λ t. t || seen ys x) (seen_one s y x n) ∙ or_assoc (seen s x) (same x y) (seen ys x))

-- It then has the number that it had there,
pub number_kept : (s ys : Names) (x : List ℕ) → seen s x ≡ true → place_in (after_all s ys) x ≡ place_in s x
unfolding after_all
number_kept s [] x h = refl
number_kept s (y ∷ ys) x h = go (is_empty y || seen s y) refl (number_kept (after s y) ys x)
  where
    kept : (b : Bool) → (is_empty y || seen s y) ≡ b → (seen (after s y) x ≡ true) × (place_in (after s y) x ≡ place_in s x)
    kept true e = (ap (λ b. seen (cond b s (s ++ (y ∷ []))) x) e ∙ h, ap (λ b. place_in (cond b s (s ++ (y ∷ []))) x) e)
    kept false e = (
      ap (λ b. seen (cond b s (s ++ (y ∷ []))) x) e ∙ (any_append (same x) s (y ∷ []) ∙ ap (λ b. b || seen (y ∷ []) x) h),
      ap (λ b. place_in (cond b s (s ++ (y ∷ []))) x) e ∙ place_seen s (y ∷ []) x h,
    )

    go : (b : Bool) → (is_empty y || seen s y) ≡ b → (seen (after s y) x ≡ true → place_in (after_all (after s y) ys) x ≡ place_in (after s y) x)
        → place_in (after_all (after s y) ys) x ≡ place_in s x
    go b e k = let p = kept b e in k p.0 ∙ p.1

-- and else the next number behind the count of names met; the count goes up by one with such a name, and with no other.
pub number_next : (s : Names) (x : List ℕ) → is_empty x ≡ false → seen s x ≡ false
    → (text_number (s ++ (x ∷ [])) x ≡ suc (length s)) × (length (after s x) ≡ suc (length s))
number_next s x e f = (
  ap (λ b. cond b 0 (place_in (s ++ (x ∷ [])) x)) e ∙ place_new s [] x f,
  (λ i. length (cond (e i || f i) s (s ++ (x ∷ [])))) ∙ (length-append s (x ∷ []) ∙ omega arith),
)

-- ---- one number, one name

any_same : (p q : List ℕ → Bool) → ((x : List ℕ) → p x ≡ q x) → (xs : Names) → any p xs ≡ any q xs
any_same p q h [] = refl
any_same p q h (x ∷ xs) = λ i. h x i || any_same p q h xs i

-- every name is among the distinct ones
pub seen_distinct : (xs : Names) (x : List ℕ) → seen xs x ≡ true → seen (distinct xs) x ≡ true
unfolding distinct
seen_distinct [] x h = h
seen_distinct (y ∷ ys) x h = go (same x y) refl (seen_distinct ys x)
  where
    rest : Names
    rest = keep (λ z. not (same z y)) (distinct ys)

    kept : same x y ≡ false → (z : List ℕ) → (not (same z y) && same x z) ≡ same x z
    kept n z = by (same x z) refl
      where
        by : (b : Bool) → same x z ≡ b → (not (same z y) && same x z) ≡ same x z
        by true e = (λ i. not (same (sym (same_eq x z e) i) y) && same x z) ∙ ap (λ b. not b && same x z) n
        by false e = ap (λ b. not (same z y) && b) e ∙ (and_false (not (same z y)) ∙ sym e)

    go : (b : Bool) → same x y ≡ b → (seen ys x ≡ true → seen (distinct ys) x ≡ true) → (same x y || seen rest x) ≡ true
    go true e k = ap (λ b. b || seen rest x) e
    go false e k =
        ap (λ b. b || seen rest x) e
        ∙ (any_keep (same x) (λ z. not (same z y)) (distinct ys)
        ∙ (any_same (λ z. not (same z y) && same x z) (same x) (kept e) (distinct ys) ∙ k (ap (λ b. b || seen ys x) (sym e) ∙ h)))

-- and a name that is not blank is among those that are not
pub seen_named : (xs : Names) (x : List ℕ) → is_empty x ≡ false → seen xs x ≡ true → seen (keep (λ x. not (is_empty x)) xs) x ≡ true
seen_named xs x n h = any_keep (same x) (λ z. not (is_empty z)) xs ∙ (any_same (λ z. not (is_empty z) && same x z) (same x) kept xs ∙ h)
  where
    kept : (z : List ℕ) → (not (is_empty z) && same x z) ≡ same x z
    kept z = by (same x z) refl
      where
        by : (b : Bool) → same x z ≡ b → (not (is_empty z) && same x z) ≡ same x z
        by true e = (λ i. not (is_empty (sym (same_eq x z e) i)) && same x z) ∙ ap (λ b. not b && same x z) n
        by false e = ap (λ b. not (is_empty z) && b) e ∙ (and_false (not (is_empty z)) ∙ sym e)

-- Two names with one place are one name.
pub one_name : (s : Names) (x y : List ℕ) → seen s x ≡ true → seen s y ≡ true → place_in s x ≡ place_in s y → x ≡ y
unfolding place_in
one_name [] x y h k e = absurd (false≢true h)
one_name (z ∷ s) x y h k e = go (same x z) (same y z) refl refl (one_name s x y)
  where
    low : (x : List ℕ) → 1 ≤ place_in s x
    low x = start s
      where
        start : (s : Names) → 1 ≤ place_in s x
        start [] = omega arith
        start (y ∷ s) = by (same x y)
          where
            by : (b : Bool) → 1 ≤ cond b 1 (suc (place_in s x))
            by true = omega arith
            by false = omega arith

    go : (a b : Bool) → same x z ≡ a → same y z ≡ b → (seen s x ≡ true → seen s y ≡ true → place_in s x ≡ place_in s y → x ≡ y) → x ≡ y
    go true true f g i = same_eq x z f ∙ sym (same_eq y z g)
    go true false f g i =
        let d : 1 ≡ suc (place_in s y) = sym (ap (λ b. cond b 1 (suc (place_in s x))) f) ∙ (e ∙ ap (λ b. cond b 1 (suc (place_in s y))) g) in
        absurd (omega (arith, low y))
    go false true f g i =
        let d : suc (place_in s x) ≡ 1 = sym (ap (λ b. cond b 1 (suc (place_in s x))) f) ∙ (e ∙ ap (λ b. cond b 1 (suc (place_in s y))) g) in
        absurd (omega (arith, low x))
    go false false f g i =
        let d : suc (place_in s x) ≡ suc (place_in s y) =
        sym (ap (λ b. cond b 1 (suc (place_in s x))) f) ∙ (e ∙ ap (λ b. cond b 1 (suc (place_in s y))) g) in
        i (ap (λ b. b || seen s x) (sym f) ∙ h) (ap (λ b. b || seen s y) (sym g) ∙ k) (omega arith)
