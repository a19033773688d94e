-- How the table of granted names is filled, name by name.
use Prim.Native.Nat.{ℕ, zero, suc, ◌+◌, ◌-◌, ◌*◌, ◌<◌, ◌≤◌}
use mathlib.Core.Path.{◌≡◌, refl, sym, ◌∙◌, ap, ap₂, subst}
use mathlib.Core.Bool.{Bool, true, false, ◌&&◌, ◌||◌, not, cond, false≢true}
use mathlib.Core.List.{List, [], ◌∷◌, ◌++◌, map, append_assoc, append-nil}
use native.Mathlib.Omega.{arith}
use lib.Dec.{ltb}
use lib.ListN.{length, get_or, take, drop, replicate, length-append, length-map, length-drop, length-replicate, replicate-append-replicate}
use lib.Seq.{take_at, drop-append-add, length-take-le}
use Rattle.rules.specs.Lists.{same, all, between}
use Rattle.rules.specs.Bytes.{bytes_of, raise}
use Rattle.rules.specs.Question.{Granted, most_factor}
use Rattle.rules.proofs.ListLaws.{All, same_eq, same_refl, any_append}
use Rattle.rules.proofs.TestLaws.{both, is_between}
use Rattle.layout.specs.Reads.{part, name_stop}
use Rattle.layout.specs.Counted.{values_at}
use Rattle.layout.specs.Ensures.{Number, Puts}
use Rattle.layout.proofs.CountedLaws.{walk_step, walk_here}
use Rattle.question.specs.Parts.{granted_at, granted_stop, GrantStands, names_at, NamesStand}
use Rattle.question.specs.Asked.{NameStop, FactorIs, NextIs}
use Rattle.question.proofs.PartLaws.{granted_stop_lem, factor_most}
use Rattle.grants.specs.Table.{entry, look_from, Entered, GrantsAre}
use Rattle.grants.specs.Places.{place_of, PlaceIs}
use Rattle.grants.proofs.NamedLaws.{fresh, counted, named, entries, table_named}
use Rattle.grants.proofs.TableLaws.{entries_long, entries_append, look_entries, hits, found_hits}

-- ---- the names that stand in a question

pub names_count : (version : ℕ) (q : List ℕ) (at n : ℕ) → length (names_at version q at n) ≡ n
unfolding values_at
names_count version q at zero = refl
names_count version q at (suc n) = ap suc (names_count version q (granted_stop version q at) n)

-- the bytes of a name, by where it ends
name_size : {version : ℕ} {q : List ℕ} {at stop : ℕ} → NameStop version q at stop → length (part q (at + 1) stop) ≡ stop - (at + 1)
name_size {q = q} {at} {stop} s = length-take-le (stop - (at + 1)) (drop (at + 1) q) (rw length-drop (omega (arith, s.fits, s.low)))

module _ (version : ℕ) (q : List ℕ) where
  -- each of them has 1 to 20 bytes ..
  pub names_sized : (at n : ℕ) → NamesStand version q at n → all (λ c. between 1 20 (length c.name)) (names_at version q at n) ≡ true
  unfolding values_at
  names_sized at zero p = refl
  names_sized at (suc n) p =
      let s = walk_step p (omega arith) in
      let e : suc n - 1 ≡ n = omega arith in
      let stop : NameStop version q at (name_stop q at) = granted_stop_lem version s.here {n = get_or q at 0} {top = get_or q at 0 + 1} (record { is = refl; below = omega arith }) in
      let size : length (granted_at version q at).name ≡ name_stop q at - (at + 1) = ap length stop.bytes ∙ name_size stop in
      both (between 1 20 (length (granted_at version q at).name)) (all (λ c. between 1 20 (length c.name)) (names_at version q (granted_stop version q at) n))
      (is_between 1 20 (length (granted_at version q at).name) (omega (arith, size, stop.low)) (omega (arith, size, stop.high)))
      (names_sized (granted_stop version q at) n (rw e at s.rest))

  -- .. and a factor of at most 10,000
  pub names_most : (at n : ℕ) → NamesStand version q at n → All (λ c. c.factor ≤ most_factor) (names_at version q at n)
  unfolding values_at
  names_most at zero p = tt
  names_most at (suc n) p =
      let s = walk_step p (omega arith) in
      let e : suc n - 1 ≡ n = omega arith in
      (factor_most version s.here, names_most (granted_stop version q at) n (rw e at s.rest))

-- ---- an entry more

drop_zeros : (n m : ℕ) → drop {A = ℕ} n (replicate m 0) ≡ replicate (m - n) 0
drop_zeros zero m =
    let e : m ≡ m - 0 = omega arith in
    ap (λ (k : ℕ). replicate k 0) e
drop_zeros (suc n) zero =
    let e : 0 ≡ 0 - suc n = omega arith in
    ap (λ (k : ℕ). replicate k 0) e
drop_zeros (suc n) (suc m) =
    let e : m - n ≡ suc m - suc n = omega arith in
    drop_zeros n m ∙ ap (λ (k : ℕ). replicate k 0) e

-- k entries and zeros behind them
abbrev Filled : List ℕ → ℕ → List ℕ → Type 0
Filled done k t = t ≡ done ++ replicate (736 - 23 * k) 0

module _ (done t : List ℕ) (k : ℕ) (long : length done ≡ 23 * k) (h : k < 32) (f : Filled done k t) where
  fill_blank : Filled (done ++ entry [] 0) (k + 1) t
  fill_blank =
      let e : 736 - 23 * k ≡ 23 + (736 - 23 * (k + 1)) = omega arith in
      f
      ∙ ap (λ (j : ℕ). done ++ replicate j 0) e
      ∙ ap (λ (l : List ℕ). done ++ l) (sym (replicate-append-replicate 23 (736 - 23 * (k + 1)) 0))
      ∙ sym (append_assoc done (entry [] 0) (replicate (736 - 23 * (k + 1)) 0))

  fill_name : (c : List ℕ) (factor : ℕ) (new : List ℕ) → length c ≤ 20 → Puts t (23 * k) (length c ∷ (bytes_of 2 factor ++ c)) new → Filled (done ++ entry c factor) (k + 1) new
  fill_name c factor new l p =
      let zeros : List ℕ = replicate (736 - 23 * (k + 1)) 0 in
      let front : take (23 * k) t ≡ done = ap (take (23 * k)) f ∙ take_at done (replicate (736 - 23 * k) 0) (23 * k) long in
      let size : ℕ = suc (suc (suc (length c))) in
      let i : 23 * k + size ≡ length done + size = omega (arith, long) in
      let j : 736 - 23 * k - size ≡ 20 - length c + (736 - 23 * (k + 1)) = omega arith in
      let back : drop (23 * k + size) t ≡ replicate (20 - length c) 0 ++ zeros =
      ap₂ (λ (m : ℕ) (u : List ℕ). drop m u) i f
      ∙ drop-append-add done (replicate (736 - 23 * k) 0) size
      ∙ drop_zeros size (736 - 23 * k)
      ∙ ap (λ (m : ℕ). replicate m 0) j
      ∙ sym (replicate-append-replicate (20 - length c) (736 - 23 * (k + 1)) 0) in
      p.is
      ∙ ap₂ (λ (u v : List ℕ). u ++ ((length c ∷ (bytes_of 2 factor ++ c)) ++ v)) front back
      ∙ ap (λ (u : List ℕ). done ++ (length c ∷ (bytes_of 2 factor ++ u))) (sym (append_assoc c (replicate (20 - length c) 0) zeros))
      ∙ sym (append_assoc done (entry c factor) zeros)

-- ---- which names the table knows

same_sym : (xs ys : List ℕ) → same xs ys ≡ true → same ys xs ≡ true
same_sym xs ys e = subst (λ (zs : List ℕ). same zs xs ≡ true) (same_eq xs ys e) (same_refl xs)

-- it knows those that were seen, and one more once that has come in
abbrev Knows : List Granted → List (List ℕ) → Type 0
Knows ms seen = (b : ℕ) (c : List ℕ) → hits ms (b ∷ c) ≡ not (fresh seen (b ∷ c))

knows_more : (ms : List Granted) (seen : List (List ℕ)) (own : Granted) → Knows ms seen
    → Knows (ms ++ (counted (fresh seen (map raise own.name)) own ∷ [])) (map raise own.name ∷ seen)
knows_more ms seen own k b c =
    any_append (λ m. same m.name (b ∷ c)) ms (counted (fresh seen r) own ∷ [])
    ∙ ap (λ (t : Bool). t || (same (cond (fresh seen r) r []) (b ∷ c) || false)) (k b c)
    ∙ go (fresh seen r) refl (same r (b ∷ c)) refl (same (b ∷ c) r) refl
  where
    r : List ℕ
    r = map raise own.name

    bools : (f s : Bool) → (not f || (s || false)) ≡ not (not s && f)
    bools true true = refl
    bools true false = refl
    bools false true = refl
    bools false false = refl

    plain : (f : Bool) → (not f || false) ≡ not f
    plain true = refl
    plain false = refl

    go : (t : Bool) → fresh seen r ≡ t → (u : Bool) → same r (b ∷ c) ≡ u → (v : Bool) → same (b ∷ c) r ≡ v
        → (not (fresh seen (b ∷ c)) || (same (cond t r []) (b ∷ c) || false)) ≡ not (not (same (b ∷ c) r) && fresh seen (b ∷ c))
    go true e true f true g = rw (f, g) (bools (fresh seen (b ∷ c)) true)
    go true e false f false g = rw (f, g) (bools (fresh seen (b ∷ c)) false)
    go true e true f false g = absurd (false≢true (sym g ∙ same_sym r (b ∷ c) f))
    go true e false f true g = absurd (false≢true (sym f ∙ same_sym (b ∷ c) r g))
    go false e u f true g = rw (g, ap (fresh seen) (same_eq (b ∷ c) r g), e)
    go false e u f false g = rw g (plain (fresh seen (b ∷ c)))

-- ---- name by name

-- k of the n names from `at` on have come in, the next stands at `here`
pub record Filling (version : ℕ) (q : List ℕ) (at n : ℕ) (t : List ℕ) (here k : ℕ) : Type 0 where
  pub passed : k ≤ n
  pub names : NamesStand version q here (n - k)
  pub held : List Granted
  pub seen : List (List ℕ)
  pub count : length held ≡ k
  pub short : All (λ m. length m.name ≤ 20) held
  pub filled : Filled (entries held) k t
  pub known : Knows held seen
  pub rest : held ++ named seen (names_at version q here (n - k)) ≡ named [] (names_at version q at n)

short_more : (ms : List Granted) (c : Granted) → All (λ m. length m.name ≤ 20) ms → length c.name ≤ 20 → All (λ m. length m.name ≤ 20) (ms ++ (c ∷ []))
short_more [] c h l = (l, tt)
short_more (m ∷ ms) c h l = (h.0, short_more ms c h.1 l)

entries_more : (ms : List Granted) (c : Granted) → entries (ms ++ (c ∷ [])) ≡ entries ms ++ entry c.name c.factor
unfolding entries
entries_more ms c = entries_append ms (c ∷ []) ∙ ap (λ (t : List ℕ). entries ms ++ t) (append-nil (entry c.name c.factor))

pub fill_start : (version : ℕ) {q : List ℕ} {at n : ℕ} → NamesStand version q at n → Filling version q at n (replicate 736 0) at 0
unfolding entries
fill_start version {q} {at} {n} p =
    let e : n - 0 ≡ n = omega arith in
    record {
      passed = omega arith;
      names = rw e p;
      held = [];
      seen = [];
      count = refl;
      short = tt;
      filled = refl;
      known = λ b c. refl;
      rest = rw e;
    }

module _ {version : ℕ} {q : List ℕ} {at n : ℕ} {t : List ℕ} {here k : ℕ} (inv : Filling version q at n t here k) where
  pub fill_end : n ≤ k → n ≤ 32 → NamesStand version q at n → GrantsAre (names_at version q at n) t
  unfolding named values_at
  fill_end h l p =
      let e : n - k ≡ 0 = omega arith in
      let count = names_count version q at n in
      let all : inv.held ≡ named [] (names_at version q at n) =
      sym (append-nil inv.held) ∙ ap (λ (j : ℕ). inv.held ++ named inv.seen (names_at version q here j)) (sym e) ∙ inv.rest in
      let f : 736 - 23 * k ≡ 23 * (32 - length (names_at version q at n)) = omega (arith, count, inv.passed) in
      record {
        is = inv.filled ∙ ap₂ (λ (ms : List Granted) (j : ℕ). entries ms ++ replicate j 0) all f ∙ sym (table_named (names_at version q at n) (omega (arith, count)));
        few = omega (arith, count);
        sizes = names_sized version q at n p;
        factors = names_most version q at n p;
      }

  -- the table has its length
  pub fill_long : n ≤ 32 → length t ≡ 736
  fill_long l =
      ap length inv.filled
      ∙ length-append (entries inv.held) (replicate (736 - 23 * k) 0)
      ∙ omega (arith, entries_long inv.held inv.short, inv.count, inv.passed, length-replicate {A = ℕ} (736 - 23 * k) 0)

  module _ (h : k < n) where
    pub fill_here : GrantStands version q here
    fill_here = walk_here inv.names (omega arith)

    module _ {stop : ℕ} (s : NameStop version q here stop) where
      pub fill_short : length (take (stop - (here + 1)) (drop (here + 1) q)) ≤ 20
      fill_short = omega (arith, name_size s, s.high)

      module _ (l : n ≤ 32) {factor : ℕ} (f : FactorIs version q here factor) {new : List ℕ} (p : Entered t k (take (stop - (here + 1)) (drop (here + 1) q)) factor new) where
        abbrev own : List ℕ
        own = part q (here + 1) stop

        -- as it stands in the question
        abbrev sent : Granted
        sent = record { name = own; factor = factor }

        sent_is : granted_at version q here ≡ sent
        sent_is = λ i. record { name = s.bytes i; factor = sym f.is i }

        raised_short : length (map raise own) ≤ 20
        raised_short = rw length-map fill_short

        -- the code's test is whether the name was seen
        tested : ltb (look_from t 0 k (map raise own)) 33 ≡ not (fresh inv.seen (map raise own))
        tested =
            let full : 1 ≤ length (map raise own) = rw length-map (omega (arith, name_size s, s.low)) in
            ap (λ (j : ℕ). ltb (look_from t 0 j (map raise own)) 33) (sym inv.count)
            ∙ ap (λ (r : ℕ). ltb r 33) (look_entries t 0 inv.held (map raise own) (replicate (736 - 23 * k) 0) inv.short inv.filled)
            ∙ found_hits 0 inv.held (map raise own) (omega (arith, inv.count))
            ∙ go (map raise own) full
          where
            go : (c : List ℕ) → 1 ≤ length c → hits inv.held c ≡ not (fresh inv.seen c)
            go [] f = absurd (omega arith)
            go (b ∷ c) f = inv.known b c

        came : (b : Bool) → fresh inv.seen (map raise own) ≡ b → Filled (entries inv.held ++ entry (cond b (map raise own) []) (cond b factor 0)) (k + 1) new
        came true e =
            let put : Puts t (23 * k) (length own ∷ (bytes_of 2 factor ++ map raise own)) new = p.new (tested ∙ rw e) in
            fill_name (entries inv.held) t k (entries_long inv.held inv.short ∙ ap (λ (j : ℕ). 23 * j) inv.count) (omega arith) inv.filled
            (map raise own) factor new raised_short
            (subst (λ (j : ℕ). Puts t (23 * k) (j ∷ (bytes_of 2 factor ++ map raise own)) new) (sym (length-map own raise)) put)
        came false e =
            p.again (tested ∙ rw e)
            ∙ fill_blank (entries inv.held) t k (entries_long inv.held inv.short ∙ ap (λ (j : ℕ). 23 * j) inv.count) (omega arith) inv.filled

        own_short : (b : Bool) → length (cond b (map raise own) []) ≤ 20
        own_short true = raised_short
        own_short false = omega arith

        pub fill_again : {next : ℕ} → NextIs version q here next → Filling version q at n new next (k + 1)
        unfolding named
        fill_again {next} far =
            let e : n - k - 1 ≡ n - (k + 1) = omega arith in
            let more : Granted = counted (fresh inv.seen (map raise own)) sent in
            let step : names_at version q here (n - k) ≡ sent ∷ names_at version q next (n - (k + 1)) =
            rw (far.is, ← e, ← sent_is) (walk_step inv.names (omega arith)).values in
            record {
              passed = omega arith;
              names = rw (far.is, ← e) (walk_step inv.names (omega arith)).rest;
              held = inv.held ++ (more ∷ []);
              seen = map raise own ∷ inv.seen;
              count = length-append inv.held (more ∷ []) ∙ ap (λ (j : ℕ). j + 1) inv.count;
              short = short_more inv.held more inv.short (own_short (fresh inv.seen (map raise own)));
              filled = came (fresh inv.seen (map raise own)) refl ∙ ap (λ (u : List ℕ). u ++ replicate (736 - 23 * (k + 1)) 0) (sym (entries_more inv.held more));
              known = knows_more inv.held inv.seen sent inv.known;
              rest = append_assoc inv.held (more ∷ []) (named (map raise own ∷ inv.seen) (names_at version q next (n - (k + 1))))
                  ∙ ap (λ (ns : List Granted). inv.held ++ named inv.seen ns) (sym step)
                  ∙ inv.rest;
            }

-- ---- for a caller: the table is that of a question's names

-- A condition's place, read off the table of the n names that stand from `at` on, is its place among them.
pub place_among : (version : ℕ) (q : List ℕ) (at n : ℕ) {t c : List ℕ} {r : ℕ} → GrantsAre (names_at version q at n) t → PlaceIs t n c r
    → Number (place_of (names_at version q at n) c) 34 r
place_among version q at n g p = p.of (names_at version q at n) g (names_count version q at n)
