-- Along a chain: above each place none is the name that is looked for.
use Prim.Native.Nat.{ℕ, ◌-◌, ◌≤◌, ◌<◌}
use mathlib.Core.Path.{◌≡◌, sym, ◌∙◌, ap}
use mathlib.Core.Bool.{Bool, true, false, false≢true}
use mathlib.Core.List.{List, []}
use mathlib.Core.Option.{Option}
use native.Mathlib.Omega.{arith}
use native.Mathlib.Decide.{dec_lt}
use lib.ListN.{length, drop, get_or}
use Rattle.rules.specs.Lists.{same, is_some, if_some}
use Rattle.rules.proofs.ListLaws.{same_eq, same_refl}
use Rattle.layout.specs.Ensures.{Says}
use Rattle.file_rules.specs.Fields.{field}
use Rattle.fields.specs.Given.{GivesNone}
use Rattle.fields.specs.declared.field.Field.{Field}
use Rattle.fields.specs.Field.{text_of, TextIs, FieldIs}
use Rattle.text_names.specs.Hashes.{name_from, StartsName, hash_of}
use Rattle.text_names.specs.Names.{Chains, Candidate, Found, Unmet}

-- ---- the name in a field

module _ {file : List ℕ} {start : ℕ} (s : StartsName file start) {f : Field} (p : FieldIs file start f) where
  pub name_is : name_from file start ≡ text_of file f
  unfolding name_from
  name_is = ap (λ (o : Option (List ℕ × List ℕ)). if_some o [] (λ q. q.0)) p.reads.is

  pub named_is : (x : List ℕ) {r : Bool} → Says (same (text_of file f) x) r → Says (same (name_from file start) x) r
  named_is x q = record { is = ap (λ (y : List ℕ). same y x) name_is ∙ q.is }

pub some_field : {file : List ℕ} {start : ℕ} → StartsName file start → GivesNone (field (drop start file)) → ⊥
some_field s n = false≢true (sym (ap is_some n.is) ∙ s.good)

pub starts_within : {file : List ℕ} {start : ℕ} → StartsName file start → start ≤ length file
starts_within s = s.fits

pub name_there : {file : List ℕ} {start : ℕ} {f : Field} → FieldIs file start f → TextIs file f
name_there p = p.text

-- ---- the chain

module _ {file starts before last : List ℕ} {k : ℕ} (t : Chains file starts before last k) {x : List ℕ} {j : ℕ} (c : Candidate file starts k x j)
    (h : 0 < j) where
  abbrev name_here : List ℕ
  name_here = name_from file (get_or starts (j - 1) 0)

  pub chain_name : StartsName file (get_or starts (j - 1) 0)
  chain_name = t.chained.fields (j - 1) (omega (arith, c.low))

  pub chain_starts : j - 1 < length starts
  chain_starts = omega (arith, c.low, t.chained.starts_long)

  pub chain_before : j - 1 < length before
  chain_before = omega (arith, c.low, t.chained.before_long)

  pub chain_less : get_or before (j - 1) 0 < j
  chain_less = omega (arith, t.chained.back (j - 1) (omega (arith, c.low)))

  module _ {r : Bool} (q : Says (same name_here x) r) where
    pub chain_found : r ≡ true → Found file starts k x j
    chain_found e = record { some = h; low = c.low; is = same_eq name_here x (q.is ∙ e) }

    pub chain_on : r ≡ false → Candidate file starts k x (get_or before (j - 1) 0)
    chain_on e = record {
      low = omega (arith, c.low, chain_less);
      alike = λ l. t.chained.alike (j - 1) (omega (arith, c.low)) l ∙ c.alike h;
      above = λ m l g f. by m l g f (dec_lt m (j - 1)) (dec_lt m j);
    }
      where
        by : (m : ℕ) → get_or before (j - 1) 0 ≤ m → m < k → name_from file (get_or starts m 0) ≡ x → Dec (m < j - 1) → Dec (m < j) → ⊥
        by m l g f (yes a) d = t.chained.between_not (j - 1) m (omega (arith, c.low)) l a (ap hash_of f ∙ sym (c.alike h))
        by m l g f (no a) (yes b) =
            let w : m ≡ j - 1 = omega arith in
            false≢true (sym (q.is ∙ e)
            ∙ (ap (λ (y : List ℕ). same y x) (sym (ap (λ (i : ℕ). name_from file (get_or starts i 0)) w) ∙ f) ∙ same_refl x))
        by m l g f (no a) (no b) = c.above m (omega arith) g f

pub chain_none : {file starts : List ℕ} {k : ℕ} {x : List ℕ} {j : ℕ} → Candidate file starts k x j → j ≤ 0 → Unmet file starts k x
chain_none c h = record { none = λ m g f. c.above m (omega arith) g f }
