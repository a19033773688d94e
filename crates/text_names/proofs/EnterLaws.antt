-- A name that was not met before is entered behind the others, and the chains stay what they are.
use Prim.Native.Nat.{ℕ, ◌+◌, ◌-◌, ◌≤◌, ◌<◌}
use mathlib.Core.Path.{◌≡◌, sym, ◌∙◌, ap, subst}
use mathlib.Core.List.{List}
use native.Mathlib.Omega.{arith}
use native.Mathlib.Decide.{dec_lt}
use lib.ListN.{length, get_or, set, length-set, length-replicate}
use lib.Seq.{get_or-set_same, get_or-set_other}
use Rattle.layout.proofs.StoreLaws.{all_same}
use Rattle.text_names.specs.declared.Names.{Names}
use Rattle.text_names.specs.Hashes.{name_from, StartsName, hash_of, Hashed}
use Rattle.text_names.specs.Names.{hash_at, Chained, Candidate, Latest, Chains, Table, Empty, EnteredIn, EnteredIs}

-- what `find` starts from
latest_candidate : {file starts last : List ℕ} {k : ℕ} → Latest file starts last k → (x : List ℕ) (h : ℕ) → h ≡ hash_of x → h < 65536
    → Candidate file starts k x (get_or last h 0)
latest_candidate t x h e l = record { low = t.low h l; alike = λ g. t.alike h l g ∙ e; above = λ m g n f. t.above h m l g n (ap hash_of f ∙ sym e) }

module _ {file starts before last : List ℕ} {k : ℕ} (t : Chains file starts before last k) {x : List ℕ} {h : ℕ} (n : Hashed x h) where
  pub find_hash : h < length last
  find_hash = omega (arith, n.below, t.latest.long)

  pub find_start : Candidate file starts k x (get_or last h 0)
  find_start = latest_candidate t.latest x h n.is n.below

-- a table of its own, as it is lent
pub chains_of : {file : List ℕ} {names : Names} → Table file names → Chains file names.starts names.before names.last names.count
chains_of t = record { chained = t.chained; latest = t.latest }

pub hashed : {x : List ℕ} {h : ℕ} → h ≡ hash_of x → h < 65536 → Hashed x h
hashed e l = record { is = e; below = l }

module _ {file starts before last : List ℕ} {k : ℕ} (c : Chained file starts before k) (t : Latest file starts last k) {start h : ℕ}
    (s : StartsName file start)
    (e : h ≡ hash_of (name_from file start)) (l : h < 65536) (ls : k < length starts) (lb : k < length before) where
  old_start : (i : ℕ) → i < k → get_or (set starts k start) i 0 ≡ get_or starts i 0
  old_start i g = get_or-set_other starts k i start 0 (omega arith)

  old_hash : (i : ℕ) → i < k → hash_at file (set starts k start) i ≡ hash_at file starts i
  old_hash i g = ap (λ (a : ℕ). hash_of (name_from file a)) (old_start i g)

  new_hash : hash_at file (set starts k start) k ≡ h
  new_hash = ap (λ (a : ℕ). hash_of (name_from file a)) (get_or-set_same starts k start 0 ls) ∙ sym e

  old_before : (i : ℕ) → i < k → get_or (set before k (get_or last h 0)) i 0 ≡ get_or before i 0
  old_before i g = get_or-set_other before k i (get_or last h 0) 0 (omega arith)

  new_before : get_or (set before k (get_or last h 0)) k 0 ≡ get_or last h 0
  new_before = get_or-set_same before k (get_or last h 0) 0 lb

  -- what holds of the names before k and of that at k holds of k + 1 names
  each : (P : ℕ → Type 0) → ((i : ℕ) → i < k → P i) → P k → (i : ℕ) → i < k + 1 → P i
  each P a b i g = by (dec_lt i k)
    where
      by : Dec (i < k) → P i
      by (yes d) = a i d
      by (no d) = subst P (omega arith) b

  abbrev before' : List ℕ
  before' = set before k (get_or last h 0)

  abbrev starts' : List ℕ
  starts' = set starts k start

  back' : (i : ℕ) → i < k + 1 → get_or before' i 0 ≤ i
  back' = each (λ i. get_or before' i 0 ≤ i) (λ i g. omega (arith, old_before i g, c.back i g)) (omega (arith, new_before, t.low h l))

  alike' : (i : ℕ) → i < k + 1 → 1 ≤ get_or before' i 0 → hash_at file starts' (get_or before' i 0 - 1) ≡ hash_at file starts' i
  alike' = each (λ i. 1 ≤ get_or before' i 0 → hash_at file starts' (get_or before' i 0 - 1) ≡ hash_at file starts' i)
      (λ i g d. ap (λ (j : ℕ). hash_at file starts' (j - 1)) (old_before i g)
      ∙ (old_hash (get_or before i 0 - 1) (omega (arith, c.back i g)) ∙ (c.alike i g (omega (arith, old_before i g)) ∙ sym (old_hash i g))))
      (λ d. ap (λ (j : ℕ). hash_at file starts' (j - 1)) new_before
      ∙ (old_hash (get_or last h 0 - 1) (omega (arith, new_before, t.low h l)) ∙ (t.alike h l (omega (arith, new_before)) ∙ sym new_hash)))

  not' : (i : ℕ) → i < k + 1 → (m : ℕ) → get_or before' i 0 ≤ m → m < i → hash_at file starts' m ≡ hash_at file starts' i → ⊥
  not' = each (λ i. (m : ℕ) → get_or before' i 0 ≤ m → m < i → hash_at file starts' m ≡ hash_at file starts' i → ⊥)
      (λ i g m d n f. c.between_not i m g (omega (arith, old_before i g)) n (sym (old_hash m (omega arith)) ∙ (f ∙ old_hash i g)))
      (λ m d n f. t.above h m l (omega (arith, new_before)) n (sym (old_hash m n) ∙ (f ∙ new_hash)))

  entered_chained : Chained file (set starts k start) (set before k (get_or last h 0)) (k + 1)
  entered_chained = record {
    fields =
        each (λ i. StartsName file (get_or starts' i 0)) (λ i g. subst (StartsName file) (sym (old_start i g)) (c.fields i g))
        (subst (StartsName file) (sym (get_or-set_same starts k start 0 ls)) s);
    starts_long = omega (arith, length-set starts k start);
    before_long = omega (arith, length-set before k (get_or last h 0));
    back = back';
    alike = alike';
    between_not = λ i m g d n f. not' i g m d n f;
  }

  same_last : get_or (set last h (k + 1)) h 0 ≡ k + 1
  same_last = get_or-set_same last h (k + 1) 0 (omega (arith, t.long))

  -- of the hash that was entered, and of any other
  hashes : (P : ℕ → Type 0) → P h → ((g : ℕ) → g < 65536 → (g ≡ h → ⊥) → P g) → (g : ℕ) → g < 65536 → P g
  hashes P a b g n = by (dec_lt g h) (dec_lt h g)
    where
      by : Dec (g < h) → Dec (h < g) → P g
      by (yes d) f = b g n (omega arith)
      by (no d) (yes f) = b g n (omega arith)
      by (no d) (no f) = subst P (omega arith) a

  abbrev last' : List ℕ
  last' = set last h (k + 1)

  other_last : (g : ℕ) → (g ≡ h → ⊥) → get_or last' g 0 ≡ get_or last g 0
  other_last g d = get_or-set_other last h g (k + 1) 0 d

  entered_latest : Latest file (set starts k start) (set last h (k + 1)) (k + 1)
  entered_latest = record {
    long = length-set last h (k + 1) ∙ t.long;
    low = hashes (λ g. get_or last' g 0 ≤ k + 1) (omega (arith, same_last)) (λ g n d. omega (arith, other_last g d, t.low g n));
    alike = hashes (λ g. 1 ≤ get_or last' g 0 → hash_at file starts' (get_or last' g 0 - 1) ≡ g)
        (λ d. ap (λ (j : ℕ). hash_at file starts' j) (omega (arith, same_last)) ∙ new_hash)
        (λ g n d f. ap (λ (j : ℕ). hash_at file starts' (j - 1)) (other_last g d)
        ∙ (old_hash (get_or last g 0 - 1) (omega (arith, other_last g d, t.low g n)) ∙ t.alike g n (omega (arith, other_last g d))));
    above = λ g m n d b f. hashes (λ g. (m : ℕ) → get_or last' g 0 ≤ m → m < k + 1 → hash_at file starts' m ≡ g → ⊥)
        (λ m d b f. omega (arith, same_last))
        (λ g n d m a b f. last_name g n d m a f (dec_lt m k) b) g n m d b f;
  }
    where
      last_name : (g : ℕ) → g < 65536 → (g ≡ h → ⊥) → (m : ℕ) → get_or last' g 0 ≤ m → hash_at file starts' m ≡ g → Dec (m < k) → m < k + 1 → ⊥
      last_name g n d m a f (yes x) b = t.above g m n (omega (arith, other_last g d)) x (sym (old_hash m x) ∙ f)
      last_name g n d m a f (no x) b = let w : k ≡ m = omega arith in d (sym f ∙ (sym (ap (hash_at file starts') w) ∙ new_hash))

-- The table with a name more.
pub entered_in : {file starts before last : List ℕ} {k : ℕ} → Chains file starts before last k → {start h : ℕ} → StartsName file start
    → Hashed (name_from file start) h → k < length starts → k < length before
    → {starts' before' last' : List ℕ} → EnteredIn starts before last k start h starts' before' last' → Chains file starts' before' last' (k + 1)
entered_in {file} {starts} {before} {last} {k} t {start} {h} s n ls lb {starts'} {before'} e =
    subst (λ (l : List ℕ). Chains file starts' before' l (k + 1)) (sym e.last_is)
    (subst (λ (b : List ℕ). Chains file starts' b (set last h (k + 1)) (k + 1)) (sym e.before_is)
    (subst (λ (a : List ℕ). Chains file a (set before k (get_or last h 0)) (set last h (k + 1)) (k + 1)) (sym e.starts_is)
    (record {
      chained = entered_chained t.chained t.latest s n.is n.below ls lb;
      latest = entered_latest t.chained t.latest s n.is n.below ls lb;
    })))

pub entered : {file : List ℕ} {names : Names} → Table file names → {start h : ℕ} → StartsName file start
    → h ≡ hash_of (name_from file start) → h < 65536 → names.count < length names.starts → names.count < length names.before
    → {names' : Names} → EnteredIs names start h names' → Table file names'
entered {file} {names} t {start} {h} s n g ls lb {names'} e = record { chained = both.chained; latest = both.latest }
  where
    one_more : EnteredIn names.starts names.before names.last names.count start h names'.starts names'.before names'.last
    one_more = record { starts_is = e.starts_is; before_is = e.before_is; last_is = e.last_is }

    both : Chains file names'.starts names'.before names'.last names'.count
    both = subst (λ (k : ℕ). Chains file names'.starts names'.before names'.last k) (sym e.count_is)
        (entered_in (chains_of t) s (hashed n g) ls lb one_more)

-- An empty one.
pub none_in : {file starts before last : List ℕ} → length last ≡ 65536 → ((h : ℕ) → get_or last h 0 ≡ 0) → Chains file starts before last 0
none_in long zeros =
    record {
      chained = record {
        fields = λ i l. absurd (omega arith);
        starts_long = omega arith;
        before_long = omega arith;
        back = λ i l. absurd (omega arith);
        alike = λ i l. absurd (omega arith);
        between_not = λ i m l. absurd (omega arith);
      };
      latest = record {
        long = long;
        low = λ h l. omega (arith, zeros h);
        alike = λ h l g. absurd (omega (arith, zeros h));
        above = λ h m l a b. absurd (omega arith);
      };
    }

pub no_names : {file : List ℕ} {names : Names} → Empty names → Table file names
no_names {file} {names} p = record { chained = none.chained; latest = none.latest }
  where
    none : Chains file names.starts names.before names.last names.count
    none = subst (λ (k : ℕ). Chains file names.starts names.before names.last k) (sym p.none)
        (none_in (ap length p.last_is ∙ length-replicate {A = ℕ} 65536 0)
        (λ h. ap (λ (l : List ℕ). get_or l h 0) p.last_is ∙ all_same 65536 h 0))
