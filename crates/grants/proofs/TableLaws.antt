-- A table's bytes and the names that it holds: a name looked up, and a name that comes in.
use Prim.Native.Nat.{ℕ, suc, ◌+◌, ◌-◌, ◌*◌, ◌≤◌}
use mathlib.Core.Path.{◌≡◌, refl, sym, ◌∙◌, ap, ap₂}
use mathlib.Core.Bool.{Bool, true, false, ◌||◌, not, cond, false≢true, true≢false}
use mathlib.Core.List.{List, [], ◌∷◌, ◌++◌, map, append_assoc}
use native.Mathlib.Omega.{arith}
use native.Mathlib.Numerals.{add-one}
use native.Mathlib.Nat.{add-zero}
use lib.Dec.{eqb, ltb}
use lib.ListN.{length, get_or, take, drop, set, replicate, length-append, length-map, length-set, length-replicate}
use lib.Seq.{sets, take_at, drop_at, drop-drop, get_or-drop}
use borrow.Author.Tests.{eqb-true, eqb-false, lt-ltb, le-ltb}
use Rattle.std.specs.Prelude.{Option, Some, None}
use Rattle.std.specs.Option.{is_some, unwrap_or}
use Rattle.rules.specs.Lists.{same, any}
use Rattle.rules.specs.Bytes.{bytes_of, raise}
use Rattle.rules.specs.Question.{Granted}
use Rattle.rules.proofs.ListLaws.{All}
use Rattle.layout.specs.Ensures.{Number, Puts, PutsTo}
use Rattle.layout.proofs.NameLaws.{compare_not}
use Rattle.layout.proofs.StoreLaws.{puts_of, puts_then, sets_of, puts_there}
use Rattle.grants.specs.Table.{entry, entry_is, look_from, Entered}
use Rattle.grants.proofs.NamedLaws.{entries, found_in}

-- ---- an entry among the bytes

pub entry_long : (c : List ℕ) (f : ℕ) → length c ≤ 20 → length (entry c f) ≡ 23
entry_long c f h = ap (λ (k : ℕ). suc (suc (suc k))) (length-append c (replicate (20 - length c) 0) ∙ ap (λ (k : ℕ). length c + k) (length-replicate (20 - length c) 0)) ∙ omega arith

pub entries_long : (cs : List Granted) → All (λ c. length c.name ≤ 20) cs → length (entries cs) ≡ 23 * length cs
unfolding entries
entries_long [] h = refl
entries_long (c ∷ cs) h = length-append (entry c.name c.factor) (entries cs) ∙ omega (arith, entry_long c.name c.factor h.0, entries_long cs h.1)

pub entries_append : (xs ys : List Granted) → entries (xs ++ ys) ≡ entries xs ++ entries ys
unfolding entries
entries_append [] ys = refl
entries_append (x ∷ xs) ys = ap (λ (t : List ℕ). entry x.name x.factor ++ t) (entries_append xs ys) ∙ sym (append_assoc (entry x.name x.factor) (entries xs) (entries ys))

-- what stands in the bytes behind i entries decides
entry_at : (t : List ℕ) (i : ℕ) (m : List ℕ) (f : ℕ) (c rest : List ℕ) → drop (23 * i) t ≡ entry m f ++ rest → entry_is t i c ≡ same m c
unfolding entry_is
entry_at t i m f c rest e = go (eqb (length m) (length c)) refl
  where
    size : get_or t (23 * i) 0 ≡ length m
    size = ap (λ (j : ℕ). get_or t j 0) (sym (add-zero (23 * i))) ∙ sym (get_or-drop (23 * i) t 0 0) ∙ ap (λ (l : List ℕ). get_or l 0 0) e

    behind : drop (23 * i + 3) t ≡ m ++ (replicate (20 - length m) 0 ++ rest)
    behind = sym (drop-drop 3 (23 * i) t) ∙ ap (drop 3) e ∙ append_assoc m (replicate (20 - length m) 0) rest

    go : (b : Bool) → eqb (length m) (length c) ≡ b → entry_is t i c ≡ same m c
    go true f =
        let j : 23 * i + 3 + length c - (23 * i + 3) ≡ length c = omega arith in
        rw (size, f, j, behind) (ap (λ (l : List ℕ). same l c) (take_at m (replicate (20 - length m) 0 ++ rest) (length c) (eqb-true (length m) (length c) f)))
    go false f = rw (size, f) (sym (compare_not m c (eqb-false (length m) (length c) f)).is)

-- ---- a name looked up

pub look_entries : (t : List ℕ) (i : ℕ) (ms : List Granted) (c rest : List ℕ) → All (λ m. length m.name ≤ 20) ms → drop (23 * i) t ≡ entries ms ++ rest
    → look_from t i (length ms) c ≡ found_in i ms c
unfolding look_from found_in entries
look_entries t i [] c rest h e = refl
look_entries t i (m ∷ ms) c rest h e =
    let first : drop (23 * i) t ≡ entry m.name m.factor ++ (entries ms ++ rest) = e ∙ append_assoc (entry m.name m.factor) (entries ms) rest in
    let j : 23 * (i + 1) ≡ 23 * i + 23 = omega arith in
    let next : drop (23 * (i + 1)) t ≡ entries ms ++ rest =
    ap (λ (k : ℕ). drop k t) j ∙ sym (drop-drop 23 (23 * i) t) ∙ ap (drop 23) first ∙ drop_at (entry m.name m.factor) (entries ms ++ rest) 23 (entry_long m.name m.factor h.0) in
    ap₂ (λ (b : Bool) (d : ℕ). cond b (i + 1) d) (entry_at t i m.name m.factor c (entries ms ++ rest) first) (look_entries t (i + 1) ms c rest h.1 next)

-- one of the names is this one
abbrev pub hits : List Granted → List ℕ → Bool
hits ms c = any (λ m. same m.name c) ms

pub found_hits : (i : ℕ) (ms : List Granted) (c : List ℕ) → i + length ms ≤ 32 → ltb (found_in i ms c) 33 ≡ hits ms c
unfolding found_in
found_hits i [] c h = refl
found_hits i (m ∷ ms) c h = go (same m.name c) (found_hits (i + 1) ms c (omega arith))
  where
    go : (b : Bool) → ltb (found_in (i + 1) ms c) 33 ≡ hits ms c → ltb (cond b (i + 1) (found_in (i + 1) ms c)) 33 ≡ (b || hits ms c)
    go true f = lt-ltb (i + 1) 33 (omega arith)
    go false f = f

-- ---- a name that comes in

-- a name that is not found is nowhere
pub nowhere_found : (o : Option ℕ) {t : Bool} → is_some o ≡ not t → t ≡ true → 33 ≤ unwrap_or o 33
nowhere_found None e f = omega arith
nowhere_found (Some p) e f = absurd (true≢false (e ∙ ap not f))

-- what is looked up is the raised name
raised_is : {old new : List ℕ} (name : List ℕ) → Puts old 0 (map raise name) new → take (length name) new ≡ map raise name
raised_is name p = puts_there p (length name) (length-map name raise)

module _ (t : List ℕ) (k : ℕ) (name : List ℕ) (factor : ℕ) {old raised : List ℕ} (p : Puts old 0 (map raise name) raised) {r : ℕ} (f : Number (look_from t 0 k (take (length name) raised)) 34 r) where
  looked : r ≡ look_from t 0 k (map raise name)
  looked = f.is ∙ ap (look_from t 0 k) (raised_is name p)

  pub entered_new : {mid new : List ℕ} {end : ℕ} → 33 ≤ r → Puts (set t (23 * k) (length name)) (23 * k + 1) (bytes_of 2 factor) mid
      → PutsTo mid (23 * k + 3) (take (length name) raised) new end → Entered t k name factor new
  entered_new {new = new} h two put =
      let rest : List ℕ = bytes_of 2 factor ++ map raise name in
      let q : Puts (set t (23 * k) (length name)) (23 * k + 1) rest new = puts_then two (omega arith) (rw (raised_is name p) at put.puts) in
      record {
        new = λ e.
            puts_of (omega (arith, q.room, length-set t (23 * k) (length name), length-map name raise))
            (sets_of q ∙ ap (λ (i : ℕ). sets (set t (23 * k) (length name)) i rest) (add-one (23 * k)));
        again = λ e. absurd (false≢true (sym (le-ltb (look_from t 0 k (map raise name)) 33 (omega (arith, looked))) ∙ e));
      }
