-- A field's text means what its bytes mean.
use Prim.Native.Nat.{ℕ}
use mathlib.Core.Path.{◌≡◌, ◌∙◌, ap}
use mathlib.Core.Bool.{Bool, false}
use mathlib.Core.List.{List}
use lib.Dec.{eqb}
use Rattle.rules.specs.Lists.{all, any}
use Rattle.rules.specs.Bytes.{name_byte}
use Rattle.file_rules.specs.Decimals.{date_in, quantity_in, value_in}
use Rattle.file_rules.specs.PriceLine.{is_currency, letter_in}
use Rattle.std.specs.Prelude.{Some, None, MatchOption}
use Rattle.std.specs.declared.option.Option.{Option as Returned}
use Rattle.layout.specs.Reads.{part}
use Rattle.layout.specs.Ensures.{Says}
use Rattle.fields.specs.declared.field.Field.{Field}
use Rattle.fields.specs.Given.{GivesNone, Agrees}
use Rattle.fields.specs.Field.{text_of, TextIs}
use Rattle.figures.specs.declared.Amount.{Amount}
use Rattle.rules.specs.declared.Currency.{Currency}
use Rattle.figures.specs.Figures.{near, AmountIs, CapitalsAre}
use Rattle.fields.proofs.GivenLaws.{agrees_as}
use Rattle.figures.proofs.MeaningLaws.{quantity_text, date_text, letter_text, value_text, currency_text, capitals_text}

module _ {line : List ℕ} {f : Field} (t : TextIs line f) where
  pub named_means : {r : Bool} → Says (all name_byte (part line f.from f.to)) r → Says (all name_byte (text_of line f)) r
  named_means p = record { is = t.names ∙ p.is }

  pub letter_means : (few : List ℕ) → any (eqb 34) few ≡ false → (r : Returned ℕ) → Agrees (letter_in few (part line f.from f.to)) r
      → Agrees (letter_in few (text_of line f)) r
  letter_means few h r = agrees_as (letter_text t few h) r

  pub day_means : (r : Returned ℕ) → Agrees (date_in (part line f.from f.to)) r → Agrees (date_in (text_of line f)) r
  day_means r = agrees_as (date_text t) r

  pub number_means : (r : Returned ℕ) → Agrees (quantity_in (part line f.from f.to)) r → Agrees (quantity_in (text_of line f)) r
  number_means r = agrees_as (quantity_text t) r

  pub value_means : (r : Returned Amount) → MatchOption r (GivesNone (near (value_in (part line f.from f.to)))) (AmountIs (part line f.from f.to))
      → MatchOption r (GivesNone (near (value_in (text_of line f)))) (AmountIs (text_of line f))
  value_means None p = record { is = ap near (value_text t) ∙ p.is }
  value_means (Some a) p = record { is = ap near (value_text t) ∙ p.is; below = p.below }

  pub capitals_mean : (r : Returned Currency) → MatchOption r (Says (is_currency (part line f.from f.to)) false) (CapitalsAre (part line f.from f.to))
      → MatchOption r (Says (is_currency (text_of line f)) false) (CapitalsAre (text_of line f))
  capitals_mean None p = record { is = currency_text t ∙ p.is }
  capitals_mean (Some c) p = record { good = currency_text t ∙ p.good; is = capitals_text t p.good ∙ p.is }
