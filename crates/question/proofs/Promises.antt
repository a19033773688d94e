-- What is promised of the two versions of a question, in plain words. The proofs stand in VersionLaws.antt.
use Prim.Native.Nat.{ℕ, ◌≤◌}
use mathlib.Core.Path.{◌≡◌}
use mathlib.Core.List.{List}
use mathlib.Core.Option.{some}
use lib.ListN.{length}
use Rattle.rules.specs.Lists.{join}
use Rattle.rules.specs.Question.{Question, question_of, in_version₂}
use Rattle.rules.specs.Basket.{most_basket, basket}
use Rattle.rules.proofs.FactorLaws.{AnsweredAlike}
use Rattle.rules.proofs.QuestionsLaws.{Each}
use Rattle.rules.proofs.Promises as Rules
use Rattle.question.specs.Parts.{version_of}
use Rattle.question.proofs.VersionLaws as Version

module _ (s : List ℕ) (q : Question) (is : question_of s ≡ some q) (one : version_of s ≡ 1) where
  -- The bytes of a question of version 1, with the factor 1,000 put behind every granted name and with 2 for their version, are accepted too, as the
  -- same question;
  pub both_versions : question_of (in_version₂ q s) ≡ some q
  both_versions = Version.version_2_reads s q is one

  -- so every call that reads a question gives them the same answer: the price, the calendar in both its forms, the final number, the packaging.
  pub same_answers : AnsweredAlike s (in_version₂ q s)
  same_answers = Version.version_2_alike s q is one

-- A basket may have questions of both versions: laid end to end, one list of questions gets the same answer as another that has the same questions,
-- each in whichever version.
pub same_basket : (b : List ℕ) (room : ℕ) (ps ps' : List (List ℕ)) (qs : List Question) → Each ps qs → Each ps' qs → length qs ≤ most_basket
    → basket b (join ps) room ≡ basket b (join ps') room
same_basket = Rules.same_questions
