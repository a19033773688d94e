-- Values: those of a list of properties behind their kind byte, and those of the operands of a text.
use Prim.Native.Nat.{ℕ, zero, suc, ◌+◌, ◌-◌, ◌*◌, ◌≤◌, ◌<◌}
use mathlib.Core.Path.{◌≡◌, refl, sym, ◌∙◌, ap}
use mathlib.Core.Bool.{Bool, true, false, ◌&&◌, ◌||◌, not, cond, false≢true}
use mathlib.Core.List.{List, [], ◌∷◌, map}
use mathlib.Core.Option.{Option, some, none}
use Rattle.std.specs.Prelude.{None, Some}
use native.Mathlib.Omega.{arith}
use native.Mathlib.Nat.{not-suc-le-zero}
use lib.Dec.{eqb}
use lib.ListN.{length, take, drop, get_or}
use borrow.Author.Tests.{lt-leb}
use Rattle.rules.specs.Lists.{between, is_some, if_some}
use Rattle.rules.specs.Bytes.{big, small_letter, raise}
use Rattle.rules.proofs.TestLaws.{between_high}
use Rattle.layout.specs.Reads.{part}
use Rattle.layout.specs.Ensures.{Number as NumberIs}
use Rattle.layout.proofs.NumberLaws.{halves}
use Rattle.relation_rules.specs.Grammar.{capital}
use Rattle.relation_rules.specs.Truth.{Held, properties_of, value_in, operand_value}
use Rattle.property_list.specs.Listed.{ValueStands, PositionIs, value_at, value_here}
use Rattle.property_list.specs.Slots.{SlotsOf}
use Rattle.relation_words.specs.declared.tokens.Kind.{Kind}
use Rattle.relation_words.specs.declared.tokens.Kind.TheVariants.{Name as AName}
use Rattle.relation_words.specs.declared.tokens.Token.{Token}
use Rattle.relation_truth.specs.declared.values.Constant.{Constant}
use Rattle.relation_truth.specs.Values.{held_in, operand_of, operand_by, ConstantIs, ValueIs}

-- ---- a number of eight bytes

pub eight_is : (s : List ℕ) (at : ℕ) {x y : ℕ} → at + 8 ≤ length s → NumberIs (big (take 4 (drop at s))) 4294967296 x → NumberIs (big (take 4 (drop (at + 4) s))) 4294967296 y
    → NumberIs (big (take 8 (drop at s))) 18446744073709551616 (x * 4294967296 + y)
eight_is s at h p q = record { is = omega (arith, halves s at 4 4 h); below = omega arith }

-- ---- an operand

-- a name in capitals is the same name
raise_capital : (b : ℕ) → raise (capital b) ≡ raise b
raise_capital b = go (between 97 122 b) refl
  where
    go : (t : Bool) → between 97 122 b ≡ t → raise (capital b) ≡ raise b
    go false e = ap (λ t. raise (cond t (b - 32) b)) e
    go true e =
        let low : b - 32 < 97 = omega (arith, between_high 97 122 b e) in
        let capital_now : small_letter (b - 32) ≡ false = rw (lt-leb 97 (b - 32) low, lt-leb 224 (b - 32) (omega arith)) in
        ap (λ t. raise (cond t (b - 32) b)) e
        ∙ (ap (λ t. cond t (b - 32 - 32) (b - 32)) capital_now ∙ sym (ap (λ t. cond (t || (between 224 254 b && not (eqb b 247))) (b - 32) b) e))

raised_capital : (n : List ℕ) → map raise (map capital n) ≡ map raise n
raised_capital [] = refl
raised_capital (b ∷ n) = λ i. raise_capital b i ∷ raised_capital n i

in_capitals : (ps : List Held) (n : List ℕ) → value_in ps (map capital n) ≡ value_in ps n
unfolding value_in
in_capitals ps n = rw (raised_capital n)

some_held : (p : List ℕ) → is_some (properties_of p) ≡ true → properties_of p ≡ some (held_in p)
some_held p = go (properties_of p)
  where
    go : (o : Option (List Held)) → is_some o ≡ true → o ≡ some (if_some o [] (λ ps. ps))
    go none e = absurd (false≢true e)
    go (some ps) e = refl

pub position_stands : {p n : List ℕ} {at : ℕ} → PositionIs p n at → 1 ≤ at → ValueStands p at
position_stands q h = q.stands h

module _ (s p : List ℕ) (t : Token) {slots : List ℕ} (k : SlotsOf p slots) {at : ℕ} (q : PositionIs p (part s t.from t.to) at) (e : t.kind ≡ AName) where
  named : operand_value (held_in p) (operand_of s t) ≡ value_here p at
  named = ap (λ (j : Kind). operand_value (held_in p) (operand_by s j t.from t.to)) e ∙ (in_capitals (held_in p) (part s t.from t.to) ∙ q.is (held_in p) (some_held p k.accepted))

  pub value_unlisted : at < 1 → ValueIs p (operand_of s t) None
  value_unlisted h = let z : at ≡ 0 = omega arith in record { is = sym (named ∙ ap (value_here p) z) }

  pub value_listed : {r : Rattle.std.specs.Prelude.Option Constant} → 1 ≤ at → ConstantIs (value_at (get_or p at 0) p (at + 1)) r → ValueIs p (operand_of s t) r
  value_listed {r} h v = record { is = v.is ∙ sym (named ∙ here at h) }
    where
      here : (k : ℕ) → 1 ≤ k → value_here p k ≡ value_at (get_or p k 0) p (k + 1)
      here zero h = absurd (not-suc-le-zero h)
      here (suc k) h = refl
