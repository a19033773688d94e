-- Article records: where the number ends, and the parts.
use Prim.Native.Nat.{ℕ, ◌+◌, ◌-◌, ◌≤◌, ◌<◌}
use mathlib.Core.Path.{◌≡◌, refl, ◌∙◌}
use mathlib.Core.List.{List}
use native.Mathlib.Omega.{arith}
use lib.ListN.{length}
use Rattle.rules.specs.Book.{ArticleRecord}
use Rattle.rules.specs.BookLayout.{article_body}
use Rattle.layout.specs.Reads.{name_stop}
use Rattle.layout.specs.Ensures.{Number}
use Rattle.kinds.specs.Fields.{second_stop, article_at}
use Rattle.kinds.specs.Ensures.{Stands}
use Rattle.kinds.proofs.PartsLaws.{article_parts, body_ok}
use Rattle.records.specs.Asks.{OfKind, TwoNames}
use Rattle.records.specs.Ensures.{ArticleIs, article_in}
use Rattle.records.proofs.FieldLaws.{first_there, second_there, two_names}

module _ {t : List ℕ} (p : OfKind 1 t) where
  stands : Stands article_body t 1 (second_stop t 1) 0 (ArticleRecord (article_at t 1 (name_stop t 1) (second_stop t 1)))
  stands = article_parts t 1 (body_ok t 1 p.ok p.kind)

  pub article_first : 1 < length t
  article_first = first_there 1 p (λ a c. ArticleRecord (article_at t 1 a c)) stands

  module _ {a x : ℕ} (e : Number (name_stop t 1) x a) where
    pub article_second : a + 1 ≤ length t
    article_second = omega (arith, second_there 1 p (λ a c. ArticleRecord (article_at t 1 a c)) stands e)

    -- the second name ends with the record
    pub article_is : ArticleIs t (record { number = record { at = 2; size = a - 2 }; scheme = record { at = a + 1; size = length t - (a + 1) } })
    unfolding article_at article_in
    article_is =
        let here : TwoNames t a (name_stop t a) 0 (ArticleRecord (article_at t 1 a (name_stop t a))) = two_names 1 p (λ a c. ArticleRecord (article_at t 1 a c)) stands e {y = name_stop t a + 1} (record { is = refl; below = omega arith }) in
        let end : name_stop t a ≡ length t = omega (arith, here.long) in
        record {
          is = here.is ∙ rw end;
          number_in = omega (arith, here.low, here.middle, here.long);
          scheme_in_lem = omega (arith, here.middle, here.long);
        }
