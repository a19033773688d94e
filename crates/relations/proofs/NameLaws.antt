-- One name more, or a refusal.
use Prim.Native.Nat.{ℕ, zero, suc, ◌+◌, ◌-◌, ◌≤◌, ◌<◌}
use mathlib.Core.Path.{◌≡◌, refl, sym, ◌∙◌, ap, subst}
use mathlib.Core.Bool.{Bool, true, false, ◌&&◌, ◌||◌, not}
use mathlib.Core.List.{List, [], ◌∷◌, ◌++◌, map}
use native.Mathlib.Omega.{arith}
use native.Mathlib.Numerals.{add-one}
use native.Mathlib.Nat.{not-suc-le-zero}
use lib.Dec.{leb, ltb}
use borrow.Author.Tests.{lt-ltb, le-ltb, leb-true, leb-false}
use lib.ListN.{length, take, set, length-map}
use lib.Seq.{length-take-le}
use Rattle.std.specs.Prelude.{Ok, Err, All}
use Rattle.std.specs.declared.result.Result.{Result}
use Rattle.std.proofs.lemmas.List.Elements.{All-append}
use Rattle.rules.specs.Lists.{all, between}
use Rattle.rules.specs.Bytes.{name_byte}
use Rattle.rules.specs.declared.Part.{Part}
use Rattle.rules.specs.PlacedRefusals.{ResultAt, Done}
use Rattle.relation_rules.specs.Truth.{grantable, most_names}
use Rattle.layout.proofs.PartLaws.{part_length}
use Rattle.rules.proofs.TestLaws.{and_false, and_left, so, not_so, between_high}
use Rattle.layout.specs.Ensures.{Says}
use Rattle.relations.specs.declared.assignments.Assigned.{Assigned}
use Rattle.relations.specs.declared.names.Names.{Names}
use Rattle.relations.specs.declared.told.Refused.{Refused}
use Rattle.relations.specs.Told.{unfit_name}
use Rattle.relations.specs.Names.{names_of, parts_in, PartIn, NamesTell, Tells, kept_name, with_name, Grows}
use Rattle.relations.specs.Assignments.{part_in, Within}

-- ---- parts in a list

take_set : {A : Type 0} (xs : List A) (n : ℕ) (x : A) → n < length xs → take (suc n) (set xs n x) ≡ take n xs ++ (x ∷ [])
take_set [] n x h = absurd (omega arith)
take_set (y ∷ xs) zero x h = refl
take_set (y ∷ xs) (suc n) x h = ap (λ r. y ∷ r) (take_set xs n x (omega arith))

map_append : {A B : Type 0} (f : A → B) (xs ys : List A) → map f (xs ++ ys) ≡ map f xs ++ map f ys
map_append f [] ys = refl
map_append f (x ∷ xs) ys = ap (λ r. f x ∷ r) (map_append f xs ys)

all_one : (P : Part → Type 0) (y : Part) → P y → All P (y ∷ [])
all_one P y p zero d h = p
all_one P y p (suc k) d h = absurd (omega arith)

names_length : (s : List ℕ) (parts : List Part) (n : ℕ) → n ≤ length parts → length (names_of s (take n parts)) ≡ n
names_length s parts n h = length-map (take n parts) (part_in s) ∙ length-take-le n parts h

-- ---- names that code may grant

pub grantable_is : (s : List ℕ) {good : Bool} → Says (all name_byte s) good → Says (grantable s) ((leb 1 (length s) && leb (length s) 20) && good)
grantable_is s h = record { is = ap (λ b. between 1 20 (length s) && b) h.is }

-- ---- none yet

pub tell_none : {s : List ℕ} {r : Names} → r.count ≡ 0 → Tells s (Done []) (Ok r)
tell_none {s} {r} e = record {
  is = sym (ap (λ n. Done (names_of s (take n r.names))) e);
  few = omega arith;
  each = subst (λ n. All (PartIn s) (take n r.names)) (sym e) (λ k d h. absurd (not-suc-le-zero h));
}

-- ---- one assignment more

-- what is made of the names so far where the name is granted
made : (s : List ℕ) (one : Assigned) (old : Names) (o : ResultAt (List (List ℕ))) → NamesTell s o old → length old.names ≡ 32 → one.granted ≡ true
    → (x : Bool) → (grantable (part_in s one.name) && ltb old.count 32) ≡ x
    → with_name one.granted (suc one.variable) (part_in s one.name) o ≡ kept_name true x (suc one.variable) (part_in s one.name) (names_of s (parts_in old))
unfolding with_name
made s one old o h long g x f =
    let ns = names_of s (parts_in old) in
    let n = part_in s one.name in
    let fits : old.count ≤ length old.names = let a : old.count ≤ 32 = h.few in omega arith in
    ap (with_name one.granted (suc one.variable) n) h.is
    ∙ ap (λ b. kept_name b (grantable n && ltb (length ns) most_names) (suc one.variable) n ns) g
    ∙ ap (λ b. kept_name true b (suc one.variable) n ns) (ap (λ k. grantable n && ltb k 32) (names_length s old.names old.count fits) ∙ f)

module _ {s : List ℕ} {one : Assigned} where
  -- the first refusal stays
  with_refused : {e : Refused} → Grows s (Err e) one (Err e)
  unfolding with_name
  with_refused {e} = record { grows = λ o h. record { most = h.most; is = ap (with_name one.granted (suc one.variable) (part_in s one.name)) h.is } }

  pub with_err : {e : Refused} (so r : Result Names Refused) → so ≡ Err e → r ≡ Err e → Grows s so one r
  with_err so r f g = rw (f, g) with_refused

  module _ {old : Names} where
    pub with_ungranted : not one.granted ≡ true → Grows s (Ok old) one (Ok old)
    unfolding with_name
    with_ungranted n = record {
      grows = λ o h. record {
        is = ap (with_name one.granted (suc one.variable) (part_in s one.name)) h.is ∙ ap (λ b. with_name b (suc one.variable) (part_in s one.name) (Done (names_of s (parts_in old)))) (not_so one.granted n);
        few = h.few;
        each = h.each;
      };
    }

    module _ (long : length old.names ≡ 32) (g : not one.granted ≡ false) {good : Bool} (q : Says (grantable (part_in s one.name)) good) where
      pub with_unfit : one.variable ≤ length s → (not good || leb 32 old.count) ≡ true → Grows s (Ok old) one (Err (unfit_name one.variable))
      with_unfit l e = record { grows = λ o h. record { most = l; is = made s one old o h long (so one.granted g) false (unfit good e q) } }
        where
          unfit : (b : Bool) → (not b || leb 32 old.count) ≡ true → Says (grantable (part_in s one.name)) b → (grantable (part_in s one.name) && ltb old.count 32) ≡ false
          unfit false e q = ap (λ z. z && ltb old.count 32) q.is
          unfit true e q = ap (λ z. grantable (part_in s one.name) && z) (le-ltb old.count 32 (leb-true 32 old.count e)) ∙ and_false (grantable (part_in s one.name))

      pub with_more : Within s one.name → (not good || leb 32 old.count) ≡ false → Grows s (Ok old) one (Ok (record { count = old.count + 1; names = set old.names old.count one.name }))
      with_more w e = record { grows = λ o h. told o h }
        where
          split : (b : Bool) → (not b || leb 32 old.count) ≡ false → Says (grantable (part_in s one.name)) b → (grantable (part_in s one.name) ≡ true) × (old.count < 32)
          split true e q = (q.is, leb-false 32 old.count e)
          split false e q = absurd (mathlib.Core.Bool.false≢true (sym e))

          fits : (grantable (part_in s one.name) ≡ true) × (old.count < 32)
          fits = split good e q

          short : one.name.size ≤ 20
          short =
              let inside : one.name.at + one.name.size ≤ length s = w.most in
              let k : length (part_in s one.name) ≤ 20 = between_high 1 20 (length (part_in s one.name)) (and_left (between 1 20 (length (part_in s one.name))) (all name_byte (part_in s one.name)) fits.0) in
              let j : length (part_in s one.name) ≡ one.name.at + one.name.size - one.name.at = part_length s one.name.at (one.name.at + one.name.size) inside in
              omega arith

          fine : (grantable (part_in s one.name) && ltb old.count 32) ≡ true
          fine = ap (λ z. z && ltb old.count 32) fits.0 ∙ lt-ltb old.count 32 fits.1

          grown : take (old.count + 1) (set old.names old.count one.name) ≡ parts_in old ++ (one.name ∷ [])
          grown = let l : old.count < 32 = fits.1 in ap (λ k. take k (set old.names old.count one.name)) (add-one old.count) ∙ take_set old.names old.count one.name (omega arith)

          told : (o : ResultAt (List (List ℕ))) → NamesTell s o old → NamesTell s (with_name one.granted (suc one.variable) (part_in s one.name) o) (record { count = old.count + 1; names = set old.names old.count one.name })
          told o h = record {
            is = made s one old o h long (so one.granted g) true fine ∙ ap Done (sym (ap (names_of s) grown ∙ map_append (part_in s) (parts_in old) (one.name ∷ [])));
            few = let l : old.count < 32 = fits.1 in omega arith;
            each = subst (All (PartIn s)) (sym grown) (All-append (PartIn s) (parts_in old) (one.name ∷ []) h.each (all_one (PartIn s) one.name (record { inside = w.most; short = short })));
          }
