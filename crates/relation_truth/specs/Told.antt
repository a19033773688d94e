-- Truths, orders and signs as code tells them.
use Rattle.std.specs.Prelude.{◌≡◌, Bool}
use Rattle.std.specs.declared.cmp.Ordering.{Ordering}
use Rattle.std.specs.declared.cmp.Ordering.TheVariants as ordered
use Rattle.relation_rules.specs.Grammar as Grammar
use Rattle.relation_rules.specs.Truth as Truths
use Rattle.relation_rules.specs.Truth.{truth_of, Order}
use Rattle.relation_truth.specs.declared.Truth.{Truth}
use Rattle.relation_truth.specs.declared.Truth.TheVariants.{Undefined, True, False}
use Rattle.relation_truth.specs.declared.comparing.Sign.{Sign}
use Rattle.relation_truth.specs.declared.comparing.Sign.TheVariants.{Below, AtMost, Equal, Unequal, AtLeast, Above}

abbrev pub truth_in : Truth → Truths.Truth
truth_in Undefined = Truths.Undefined
truth_in True = Truths.True
truth_in False = Truths.False

abbrev pub order_in : Ordering → Order
order_in ordered.Less = Truths.Below
order_in ordered.Equal = Truths.Level
order_in ordered.Greater = Truths.Above

-- a sign by one of its spellings
abbrev pub sign_told : Sign → Grammar.Sign
sign_told Below = Grammar.Less
sign_told AtMost = Grammar.AtMost
sign_told Equal = Grammar.Equal
sign_told Unequal = Grammar.Unequal
sign_told AtLeast = Grammar.AtLeast
sign_told Above = Grammar.Greater

-- r tells this truth
pub record TruthIs (t : Truths.Truth) (r : Truth) : Type 0 where
  pub is : truth_in r ≡ t

pub record OrderIs (o : Order) (r : Ordering) : Type 0 where
  pub is : order_in r ≡ o

abbrev pub TruthOf : Bool → Truth → Type 0
TruthOf b r = TruthIs (truth_of b) r
