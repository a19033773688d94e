-- A result that is what a definition gives: the same by another name of that definition, and where nothing is returned.
use mathlib.Core.Path.{◌≡◌, sym, ◌∙◌, subst}
use mathlib.Core.Option.{Option}
use Rattle.std.specs.Prelude.{Some, None, MatchOption}
use Rattle.std.specs.declared.option.Option.{Option as Returned}
use Rattle.fields.specs.Given.{GivesNone, Agrees}

module _ {A : Type 0} where
  pub agrees_as : {o u : Option A} → o ≡ u → (r : Returned A) → Agrees u r → Agrees o r
  agrees_as e None p = record { is = e ∙ p.is }
  agrees_as e (Some a) p = record { is = e ∙ p.is }

  pub missing : (o : Option A) {r : Returned A} → r ≡ None → GivesNone o → Agrees o r
  missing o e p = subst (Agrees o) (sym e) p

  pub none_with : {r : Returned A} (P : Type 0) (Q : A → Type 0) → r ≡ None → P → MatchOption r P Q
  none_with P Q e p = subst (λ (o : Returned A). MatchOption o P Q) (sym e) p
