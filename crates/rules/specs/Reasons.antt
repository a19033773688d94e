-- "Numbers a caller can get": which number stands for which reason.
use Rattle.std.specs.Prelude.{ℕ, ◌≡◌}
use Rattle.rules.specs.Refusals.{refused}
use Rattle.rules.specs.Price as Price
use Rattle.rules.specs.Packaging as Packaging
use Rattle.rules.specs.Text as Text
use Rattle.rules.specs.declared.Refusal.{Refusal}
use Rattle.rules.specs.declared.PriceAnswer.{PriceAnswer}
use Rattle.rules.specs.declared.CalendarAnswer.{CalendarAnswer}
use Rattle.rules.specs.declared.Written.{Written}
use Rattle.rules.specs.declared.PlacedAnswer.{PlacedAnswer}
use Rattle.rules.specs.declared.PackagingAnswer.{PackagingAnswer}
use Rattle.rules.specs.declared.TextAnswer.{TextAnswer}
use Rattle.rules.specs.declared.Refusal.TheVariants.{BrokenBook, BrokenQuestion, NoArticle, NoBaseLine, MixedCurrencies, TotalOutOfRange, ShortOutput, NoPackaging, BadPeriod, UnfitPackaging, NoText, BadRow, BadRelation, DeepRelation, UnfitName}

abbrev pub number_for : Refusal → ℕ
number_for BrokenBook = 1
number_for BrokenQuestion = 2
number_for NoArticle = 3
number_for NoBaseLine = 4
number_for MixedCurrencies = 5
number_for TotalOutOfRange = 6
number_for ShortOutput = 7
number_for NoPackaging = 8
number_for BadPeriod = 9
number_for UnfitPackaging = 11
number_for NoText = 12
number_for BadRow = 13
number_for BadRelation = 14
number_for DeepRelation = 15
number_for UnfitName = 16

abbrev pub NumberOf : Refusal → ℕ → Type 0
NumberOf r n = n ≡ number_for r

-- ---- and what is read of a call that is refused for it

abbrev pub RefusedPrice : Refusal → PriceAnswer → Type 0
RefusedPrice r a = a ≡ Price.shown (refused (number_for r))

abbrev pub RefusedCalendar : Refusal → CalendarAnswer → Type 0
RefusedCalendar r a = a ≡ record { length = 0; number = number_for r }

abbrev pub RefusedWriting : Refusal → Written → Type 0
RefusedWriting r a = a ≡ record { length = 0; number = number_for r }

abbrev pub RefusedPackaging : Refusal → PackagingAnswer → Type 0
RefusedPackaging r a = a ≡ Packaging.shown (refused (number_for r))

abbrev pub RefusedText : Refusal → TextAnswer → Type 0
RefusedText r a = a ≡ Text.shown (refused (number_for r))

-- with the place that the refusal has
abbrev pub refused_at : Refusal → ℕ → PlacedAnswer
refused_at r place = record { length = 0; place = place; number = number_for r }
