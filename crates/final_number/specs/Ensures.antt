-- What the functions of this crate ask and ensure.
use Rattle.std.specs.Prelude.{ℕ, ◌+◌, ◌*◌, ◌≡◌, List, length, Option, Some, IfSome, Result, Ok, Err}
use Rattle.std.proofs.Math.Option.{some}
use Rattle.rules.specs.Lists.{if_some}
use Rattle.rules.specs.Book.{Article, scheme_of}
use Rattle.rules.specs.Question.{Question}
use Rattle.rules.specs.Reasons.{number_for}
use Rattle.rules.specs.FinalNumber.{final_number, number_by, shown, lent_after_number}
use Rattle.rules.specs.declared.Part.{Part}
use Rattle.rules.specs.declared.Refusal.{Refusal}
use Rattle.rules.specs.declared.Written.{Written}
use Rattle.layout.specs.Records.{records_of}
use Rattle.lookup.specs.Ensures.{Stands, article_held, scheme_held}
use Rattle.values.specs.Values.{most}

-- a base number of 40 bytes, and 32 properties behind it
abbrev pub longest : ℕ
longest = 40 + 32 * most

-- what the caller reads: how long the number is, or why there is none
abbrev pub written : Result ℕ Refusal → Written
written (Ok n) = record { length = n; number = 0 }
written (Err r) = record { length = 0; number = number_for r }

-- the whole call: the answer, and what becomes of the lent bytes
pub record NumberCall (b q old new : List ℕ) (r : Written) : Type 0 where
  pub answer : r ≡ shown (final_number b q (length old))
  pub lent : new ≡ lent_after_number (final_number b q (length old)) old

-- `r` is where the scheme of the article that stands at p stands, where the book has one
pub record SchemeOf (b : List ℕ) (p : Part) (r : Option Part) : Type 0 where
  pub article : Article
  pub held : article_held b (Some p) ≡ some article
  pub is : scheme_of (records_of b) article.scheme ≡ scheme_held b r
  pub stands : IfSome r (Stands b 5)

-- the number by the scheme that stands there, and without one the base number
unfoldable pub number_in : List ℕ → Option Part → Question → List ℕ
number_in b r q = if_some (scheme_held b r) q.article (number_by q.article q.properties)
