-- What a line needs of a chosen row, in the definitions and in the code: the amounts, tests and bytes of lines over that alone.
use Rattle.std.specs.Prelude.{ℕ, Bool, true, ◌||◌, not, cond, List, [], ◌∷◌, ◌++◌, map, eqb, ℤ, pos, ◌+ℤ◌, take}
use Rattle.rules.specs.Lists.{same, all, any}
use Rattle.rules.specs.Bytes.{bytes_of, signed_bytes_of}
use Rattle.rules.specs.Book.{base, letter_of, rule_number, rounding_for}
use Rattle.rules.specs.Question.{letters_of}
use Rattle.rules.specs.Choice.{is_percent}
use Rattle.rules.specs.Amounts.{exact, factored, rounded}
use Rattle.rules.specs.Lines.{Chosen}
use Rattle.rules.specs.declared.Cents.{Cents}
use Rattle.rules.specs.declared.Level.{Level}
use Rattle.rules.specs.declared.Level.TheVariants.{Base}
use Rattle.rules.specs.declared.Rule.TheVariants.{OfBase}
use Rattle.rules.specs.declared.Value.{Value}
use Rattle.rules.specs.declared.Value.TheVariants.{Fixed}
use Rattle.rules.specs.declared.Way.TheVariants.{Down}
use Rattle.rules.specs.declared.Rounding.{Rounding}
use Rattle.lines.specs.declared.Pick.{Pick}

pub record View : Type 0 where
  pub place : ℕ
  pub factor : ℕ
  pub level : ℕ
  pub rule : ℕ
  pub text : ℕ
  pub value : Value
  pub currency : List ℕ
  pub rounding : Rounding

-- of a chosen row, by the book's roundings
abbrev pub view_of : List Rounding → Chosen → View
view_of rs c =
    record {
      place = c.place;
      factor = c.factor;
      level = c.row.level;
      rule = c.row.rule;
      text = c.row.text;
      value = c.row.value;
      currency = c.row.currency;
      rounding = rounding_for c.row.rounding rs;
    }

-- of a row in the code
abbrev pub view_in : Pick → View
view_in p =
    record {
      place = p.place;
      factor = p.factor;
      level = letter_of p.level;
      rule = rule_number p.rule;
      text = p.text;
      value = p.value;
      currency = letters_of p.currency;
      rounding = p.rounding;
    }

abbrev pub views_in : List Pick → ℕ → List View
views_in picks n = map view_in (take n picks)

-- what is read behind the last pick
abbrev pub no_pick : Pick
no_pick =
    record {
      place = 0;
      factor = 0;
      level = Base;
      rule = OfBase;
      text = 0;
      value = Fixed (record { 0 = pos 0 });
      currency = record { 0 = 0; 1 = 0; 2 = 0 };
      rounding = record {
        number = 0;
        way = Down;
        step = 0;
        before = record { 0 = pos 0 };
        after = record { 0 = pos 0 };
      };
    }

-- ---- base and currency

abbrev pub is_base : View → Bool
is_base v = eqb v.level base

-- and by a level of the code
abbrev pub base_level : Level → Bool
base_level level = eqb (letter_of level) base

-- no base row stands behind one that is none
unfoldable pub base_first : List View → Bool
base_first [] = true
base_first (v ∷ vs) = cond (is_base v) (base_first vs) (not (any is_base vs))

-- a percentage has no currency of its own
abbrev pub fits : List ℕ → View → Bool
fits c v = is_percent v.value || same v.currency c

abbrev pub one_currency : List ℕ → List View → Bool
one_currency c vs = all (fits c) vs

-- ---- amounts, with what the base lines before come to, and all lines before

unfoldable pub amount_on : ℤ → ℤ → View → ℤ
amount_on base total v = rounded v.rounding (factored v.factor (exact v.value (cond (eqb v.rule 1) base total)))

unfoldable pub amounts_from : ℤ → ℤ → List View → List ℤ
amounts_from base total [] = []
amounts_from base total (v ∷ vs) =
    let z = amount_on base total v in
    z ∷ amounts_from (cond (is_base v) (base +ℤ z) base) (total +ℤ z) vs

abbrev pub amounts_of : List View → List ℤ
amounts_of vs = amounts_from (pos 0) (pos 0) vs

-- of amounts in the code, the first n as the definitions have them
abbrev pub amounts_in : List Cents → ℕ → List ℤ
amounts_in cs n = map (λ c. c.0) (take n cs)

-- what is read behind the last of them
abbrev pub no_cents : Cents
no_cents = record { 0 = pos 0 }

-- ---- bytes

abbrev pub view_bytes : View → ℤ → List ℕ
view_bytes v z = bytes_of 4 v.text ++ (v.level ∷ v.place ∷ (signed_bytes_of 8 z ++ bytes_of 2 v.factor))

unfoldable pub views_bytes : List View → List ℤ → List ℕ
views_bytes [] zs = []
views_bytes (v ∷ vs) [] = []
views_bytes (v ∷ vs) (z ∷ zs) = view_bytes v z ++ views_bytes vs zs
