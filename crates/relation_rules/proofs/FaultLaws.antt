-- What is promised of relation texts: one reading, exactly the grammar, and the places of refusals 14 and 15.
use Prim.Native.Nat.{ℕ, suc, ◌+◌, ◌≤◌}
use mathlib.Core.Path.{◌≡◌, refl, sym, ◌∙◌, ap, subst}
use mathlib.Core.Bool.{Bool, true, false, ◌&&◌, false≢true}
use mathlib.Core.List.{List, [], ◌∷◌, ◌++◌}
use mathlib.Core.Option.{Option, some, none, none-ne-some}
use native.Mathlib.Omega.{arith}
use lib.Dec.{eqb, leb}
use lib.ListN.{length}
use borrow.Author.Tests.{leb-true, eqb-true}
use Rattle.rules.specs.Lists.{if_some}
use Rattle.rules.specs.Letters.{letter}
use Rattle.relation_rules.specs.Grammar.{Chain, Assignment, past, goes_on, is_blank, Reads, ReadsAs, deepest}
use Rattle.rules.specs.PlacedRefusals.{Done, RefusedAt}
use Rattle.relation_rules.specs.Faults.{NoText, WrongAt, DeepAt, Number, fourteen, fifteen}
use Rattle.relation_rules.specs.Reader.{State, Start, AtVariable, AtBecomes, AtValue, AtCondition, AtSpecified, AtOperand, AtSign, AtIn, AtOpen, AtListed, AtComma, AtSingle, next, viable, Spot, Between, Inside, Step, Go, Stop, Deep, too_deep, beginning, begin, behind, begin_in, going, step, or_cut, onward, run, relation_of}
use Rattle.rules.proofs.TestLaws.{and_left, and_right}
use Rattle.relation_rules.proofs.SoundLaws.{refused_fine, fine_injective, read_spelled, read_within}
use Rattle.relation_rules.proofs.ReadLaws.{read, within_read}
use Rattle.relation_rules.proofs.DepthLaws.{within_more, depth_of, deep_enough, refused_more}
use Rattle.relation_rules.proofs.PlaceLaws.{Good, completes, Halt, cut, wrong, deep, stuck}

-- ---- one reading

-- A text reads as one tree at most, however deep its parentheses are.
pub one_reading : (s : List ℕ) (t u : Chain Assignment) → ReadsAs s t → ReadsAs s u → t ≡ u
one_reading s t u r o =
    let m = depth_of t in
    let n = depth_of u in
    let first : m ≤ m + n = omega arith in
    let second : n ≤ m + n = omega arith in
    fine_injective t u
    (sym (within_read (m + n) s t r (within_more t m (m + n) first (deep_enough t))) ∙ within_read (m + n) s u o (within_more u n (m + n) second (deep_enough u)))

-- ---- exactly the grammar

-- A text is read as a tree exactly where it is a text of the grammar with that tree.
pub exactly : (s : List ℕ) (tree : Chain Assignment) → (Reads s tree → relation_of s ≡ Done tree) × (relation_of s ≡ Done tree → Reads s tree)
unfolding relation_of
exactly s tree = (read s tree, λ e. (read_spelled deepest s tree e, read_within deepest s tree e))

-- ---- places

pub past_length : (l : List ℕ) (n : ℕ) → past l n ≡ n + length l
past_length [] n = omega arith
past_length (b ∷ l) n = let ih : past l (suc n) ≡ suc n + length l = past_length l (suc n) in ih ∙ omega arith

-- a run that is refused with 14 reads no tree of any depth
no_tree : (s : List ℕ) (p : ℕ) → run deepest 1 (Between (Start none)) s ≡ RefusedAt 14 p → (tree : Chain Assignment) → ReadsAs s tree → ⊥
no_tree s p e tree r =
    let m = depth_of tree + deepest in
    let more : deepest ≤ m = omega arith in
    let enough : depth_of tree ≤ m = omega arith in
    refused_fine 14 p tree
    (sym (refused_more deepest m more s 1 (Between (Start none)) p e) ∙ within_read m s tree r (within_more tree (depth_of tree) m enough (deep_enough tree)))

append_none : (l : List ℕ) → l ≡ l ++ []
append_none [] = refl
append_none (a ∷ l) = ap (λ z. a ∷ z) (append_none l)

not_15 : ◌≡◌ {A = ℕ} 15 14 → ⊥
not_15 e = omega arith

not_14 : ◌≡◌ {A = ℕ} 14 15 → ⊥
not_14 e = omega arith

-- Refusal 14 stands at the first byte that no text of the grammar has after those before it, or one past the end of a cut text: what is before it is the beginning
-- of a text of the grammar, sixteen deep at most, and with the byte at it, it is the beginning of none, however deep.
pub wrong_place : (s : List ℕ) (p : ℕ) → relation_of s ≡ RefusedAt 14 p → WrongAt s p
unfolding relation_of run
wrong_place s p e =
    let r = stuck deepest s 1 (Between (Start none)) 14 p tt e in
    let same : deepest ≤ deepest = omega arith in
    let c = completes deepest p r.spot r.good in
    let f : run deepest 1 (Between (Start none)) (r.before ++ c.rest) ≡ Done c.tree = r.reached deepest same c.rest ∙ c.read in
    record {
      before = r.before;
      behind = r.behind_it;
      whole = r.whole;
      place = sym r.place ∙ past_length r.before 1;
      rest = c.rest;
      tree = c.tree;
      text = (read_spelled deepest (r.before ++ c.rest) c.tree f, read_within deepest (r.before ++ c.rest) c.tree f);
      none_has = none_of r.before r.spot (λ y. r.reached deepest same y) r.behind_it r.halt;
    }
  where
    none_of : (before : List ℕ) (at : Spot) → ((y : List ℕ) → run deepest 1 (Between (Start none)) (before ++ y) ≡ run deepest p at y)
        → (behind : List ℕ) → Halt deepest p at 14 behind → NoText before behind
    none_of before at h [] (cut x f) =
        λ tree t. no_tree before p (ap (λ z. run deepest 1 (Between (Start none)) z) (append_none before) ∙ h [] ∙ ap (or_cut p) f) tree t
    none_of before at h (b ∷ y) (wrong x f) =
        λ rest tree t. no_tree (before ++ (b ∷ rest)) p (h (b ∷ rest) ∙ ap (λ z. onward p z (λ to. run deepest (suc p) to rest)) f) tree t
    none_of before at h (b ∷ y) (deep x f) = λ rest tree t. absurd (not_15 x)

-- ---- too deep

-- where a parenthesis is too deep, it may stand under a greater limit
pub record DeepBegin (n : ℕ) (at : Spot) (b : ℕ) : Type 0 where
  pub is_open : b ≡ letter "("
  pub limit : ℕ
  pub greater : deepest ≤ limit
  pub to : Spot
  pub goes : step limit n at b ≡ Go to
  pub good : Good to

opens_viable : (q : State) (d : ℕ) → (next q).opens ≡ some d → viable q (letter "(" ∷ []) ≡ true
unfolding next viable
opens_viable (Start x) d e = absurd (none-ne-some _ e)
opens_viable (AtVariable x p) d e = absurd (none-ne-some _ e)
opens_viable (AtBecomes x p) d e = absurd (none-ne-some _ e)
opens_viable (AtValue x p v) d e = absurd (none-ne-some _ e)
opens_viable (AtCondition w p) d e = refl
opens_viable (AtSpecified w p) d e = absurd (none-ne-some _ e)
opens_viable (AtOperand w p x) d e = absurd (none-ne-some _ e)
opens_viable (AtSign w p x s) d e = absurd (none-ne-some _ e)
opens_viable (AtIn w p n) d e = absurd (none-ne-some _ e)
opens_viable (AtOpen w p n) d e = absurd (none-ne-some _ e)
opens_viable (AtListed w p n cs) d e = absurd (none-ne-some _ e)
opens_viable (AtComma w p n cs) d e = absurd (none-ne-some _ e)
opens_viable (AtSingle w os a) d e = absurd (none-ne-some _ e)

abbrev is_deep : Step → Bool
is_deep (Go at) = false
is_deep Stop = false
is_deep Deep = true

leb_suc : (d : ℕ) → leb (suc d) d ≡ false
leb_suc d = go (leb (suc d) d) refl
  where
    go : (x : Bool) → leb (suc d) d ≡ x → leb (suc d) d ≡ false
    go true f = absurd (let l : suc d ≤ d = leb-true (suc d) d f in omega arith)
    go false f = f

-- what begins under a limit that is greater than the open parentheses
record Begins (n : ℕ) (q : State) (b : ℕ) : Type 0 where
  is_open : b ≡ letter "("
  limit : ℕ
  greater : deepest ≤ limit
  goes : begin limit n q b ≡ Go (Inside q n (b ∷ []))
  fits : viable q (b ∷ []) ≡ true

deep_begins : (n : ℕ) (q : State) (b : ℕ) → begin deepest n q b ≡ Deep → Begins n q b
unfolding begin
deep_begins n q b e = go (is_blank b) (too_deep deepest q b) (viable q (b ∷ [])) refl refl e
  where
    open_at : (o : Option ℕ) → (next q).opens ≡ o → is_blank b ≡ false → eqb b (letter "(") ≡ true → if_some o false (leb deepest) ≡ true → Begins n q b
    open_at none f g h k = absurd (false≢true k)
    open_at (some d) f g h k =
        let is : b ≡ letter "(" = eqb-true b (letter "(") h in
        let v : viable q (b ∷ []) ≡ true = subst (λ c. viable q (c ∷ []) ≡ true) (sym is) (opens_viable q d f) in
        let l : deepest ≤ d = leb-true deepest d k in
        let shallow : too_deep (suc d) q b ≡ false =
        ap (λ x. x && if_some (next q).opens false (leb (suc d))) h ∙ ap (λ o. if_some o false (leb (suc d))) f ∙ leb_suc d in
        record {
          is_open = is;
          limit = suc d;
          greater = omega arith;
          goes =
              ap (λ x. beginning x (too_deep (suc d) q b) (viable q (b ∷ [])) n q b) g
              ∙ ap (λ x. beginning false x (viable q (b ∷ [])) n q b) shallow
              ∙ ap (λ x. beginning false false x n q b) v;
          fits = v;
        }

    go : (x y z : Bool) → is_blank b ≡ x → too_deep deepest q b ≡ y → beginning x y z n q b ≡ Deep → Begins n q b
    go true y z f g h = absurd (false≢true (ap is_deep h))
    go false true z f g h =
        open_at (next q).opens refl f (and_left (eqb b (letter "(")) (if_some (next q).opens false (leb deepest)) g)
        (and_right (eqb b (letter "(")) (if_some (next q).opens false (leb deepest)) g)
    go false false true f g h = absurd (false≢true (ap is_deep h))
    go false false false f g h = absurd (false≢true (ap is_deep h))

deep_step : (n : ℕ) (at : Spot) (b : ℕ) → step deepest n at b ≡ Deep → DeepBegin n at b
unfolding step
deep_step n (Between q) b e =
    let r = deep_begins n q b e in
    record { is_open = r.is_open; limit = r.limit; greater = r.greater; to = Inside q n (b ∷ []); goes = r.goes; good = r.fits }
deep_step n (Inside q from l) b e = go (goes_on l b) (viable q (l ++ (b ∷ []))) refl e
  where
    over : (o : Option State) → behind q from l ≡ o → goes_on l b ≡ false → begin_in deepest n o b ≡ Deep → DeepBegin n (Inside q from l) b
    over none f g h = absurd (false≢true (ap is_deep h))
    over (some q') f g h =
        let r = deep_begins n q' b h in
        record {
          is_open = r.is_open;
          limit = r.limit;
          greater = r.greater;
          to = Inside q' n (b ∷ []);
          goes =
              ap (λ x. going x (viable q (l ++ (b ∷ []))) r.limit n q from l b) g
              ∙ ap (λ o. begin_in r.limit n o b) f
              ∙ r.goes;
          good = r.fits;
        }

    go : (x y : Bool) → goes_on l b ≡ x → going x y deepest n q from l b ≡ Deep → DeepBegin n (Inside q from l) b
    go true true f g = absurd (false≢true (ap is_deep g))
    go true false f g = absurd (false≢true (ap is_deep g))
    go false y f g = over (behind q from l) refl f g

record Deeper (before : List ℕ) (p : ℕ) (at : Spot) (behind : List ℕ) : Type 0 where
  tail : List ℕ
  opens : behind ≡ letter "(" ∷ tail
  rest : List ℕ
  tree : Chain Assignment
  text : ReadsAs (before ++ (letter "(" ∷ rest)) tree
  refused : (y : List ℕ) → run deepest p at (letter "(" ∷ y) ≡ RefusedAt 15 p

deeper : (before : List ℕ) (p : ℕ) (at : Spot)
    → ((more : ℕ) → deepest ≤ more → (y : List ℕ) → run more 1 (Between (Start none)) (before ++ y) ≡ run more p at y)
    → (behind : List ℕ) → Halt deepest p at 15 behind → Deeper before p at behind
unfolding run
deeper before p at h [] (cut x f) = absurd (not_14 x)
deeper before p at h (b ∷ y) (wrong x f) = absurd (not_14 x)
deeper before p at h (b ∷ y) (deep x f) =
    let d = deep_step p at b f in
    let c = completes d.limit (suc p) d.to d.good in
    let at_open : step d.limit p at (letter "(") ≡ Go d.to = subst (λ z. step d.limit p at z ≡ Go d.to) d.is_open d.goes in
    let too_deep_lem : step deepest p at (letter "(") ≡ Deep = subst (λ z. step deepest p at z ≡ Deep) d.is_open f in
    let e : run d.limit 1 (Between (Start none)) (before ++ (letter "(" ∷ c.rest)) ≡ Done c.tree =
    h d.limit d.greater (letter "(" ∷ c.rest) ∙ ap (λ z. onward p z (λ to. run d.limit (suc p) to c.rest)) at_open ∙ c.read in
    record {
      tail = y;
      opens = ap (λ z. z ∷ y) d.is_open;
      rest = c.rest;
      tree = c.tree;
      text = read_spelled d.limit (before ++ (letter "(" ∷ c.rest)) c.tree e;
      refused = λ z. ap (λ u. onward p u (λ to. run deepest (suc p) to z)) too_deep_lem;
    }

-- Refusal 15 stands at a parenthesis of a condition that is too deep: what is before it is the beginning of a text of the grammar; with the parenthesis it is the
-- beginning of a deeper text, but of none that is sixteen deep at most.
pub deep_place : (s : List ℕ) (p : ℕ) → relation_of s ≡ RefusedAt 15 p → DeepAt s p
unfolding relation_of
deep_place s p e =
    let r = stuck deepest s 1 (Between (Start none)) 15 p tt e in
    let same : deepest ≤ deepest = omega arith in
    let c = completes deepest p r.spot r.good in
    let f : run deepest 1 (Between (Start none)) (r.before ++ c.rest) ≡ Done c.tree = r.reached deepest same c.rest ∙ c.read in
    let d = deeper r.before p r.spot r.reached r.behind_it r.halt in
    record {
      before = r.before;
      behind = d.tail;
      whole = r.whole ∙ ap (λ z. r.before ++ z) d.opens;
      place = sym r.place ∙ past_length r.before 1;
      rest = c.rest;
      tree = c.tree;
      text = (read_spelled deepest (r.before ++ c.rest) c.tree f, read_within deepest (r.before ++ c.rest) c.tree f);
      deeper_rest = d.rest;
      deeper_tree = d.tree;
      deeper_text = d.text;
      none_has =
          λ y t h.
          refused_fine 15 p t (sym (r.reached deepest same (letter "(" ∷ y) ∙ d.refused y) ∙ within_read deepest (r.before ++ (letter "(" ∷ y)) t h.0 h.1);
    }

-- There is no other refusal.
pub only_two : (s : List ℕ) (k p : ℕ) → relation_of s ≡ RefusedAt k p → Number k
unfolding relation_of
only_two s k p e = by (stuck deepest s 1 (Between (Start none)) k p tt e).halt
  where
    by : {at : Spot} {y : List ℕ} → Halt deepest p at k y → Number k
    by (cut x f) = subst Number x fourteen
    by (wrong x f) = subst Number x fourteen
    by (deep x f) = subst Number x fifteen
