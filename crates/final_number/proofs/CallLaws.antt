-- The call: where the article and its scheme stand, each refusal, and the number handed over.
use Prim.Native.Nat.{ℕ, ◌≤◌, ◌<◌}
use mathlib.Core.Path.{◌≡◌, sym, ◌∙◌, ap, subst}
use mathlib.Core.Bool.{Bool, true, false}
use mathlib.Core.List.{List, []}
use mathlib.Core.Option.{Option, some, none}
use Rattle.std.specs.Prelude.{Option as Maybe, Some, None, Ok, Err}
use native.Mathlib.Omega.{arith}
use lib.ListN.{length, take, drop}
use borrow.Author.Tests.{lt-leb, le-leb}
use Rattle.rules.specs.Lists.{is_some, if_some}
use Rattle.rules.specs.Layout.{whole}
use Rattle.rules.specs.Reasons.{number_for}
use Rattle.rules.specs.Refusals.{done, refused, lent_after}
use Rattle.rules.specs.Book.{Record, Article, article_of, as_article}
use Rattle.rules.specs.BookLayout.{kinded, records}
use Rattle.rules.specs.Question.{Question, question_of}
use Rattle.rules.specs.FinalNumber.{number_by, final_number_of, final_number, shown, lent_after_number}
use Rattle.rules.specs.declared.Part.{Part}
use Rattle.rules.specs.declared.Refusal.{Refusal}
use Rattle.rules.specs.declared.Refusal.TheVariants.{BrokenBook, BrokenQuestion, NoArticle, ShortOutput}
use Rattle.rules.proofs.ListLaws.{absent}
use Rattle.layout.specs.Ensures.{Puts, PutsTo}
use Rattle.layout.proofs.StoreLaws.{puts_there, puts_front}
use Rattle.layout.specs.Records.{records_of}
use Rattle.lookup.proofs.LookupLaws.{book_records}
use Rattle.records.specs.Asks.{OfKind}
use Rattle.records.specs.Ensures.{bytes_in, article_in, ArticleIs}
use Rattle.records.specs.declared.articles.ArticleParts.{ArticleParts}
use Rattle.question.specs.declared.Ask.{Ask}
use Rattle.question.specs.Asked.{AskIs, ask_in}
use Rattle.lookup.specs.Ensures.{FirstNamed, Stands}
use Rattle.lookup.proofs.NamedLaws.{article_found, scheme_found, empty_named}
use Rattle.final_number.specs.Ensures.{written, NumberCall, SchemeOf, number_in}

-- ---- the article's scheme

module _ {b : List ℕ} {p : Part} (stands : Stands b 1 p) {t : List ℕ} (e : t ≡ bytes_in b p) where
  pub article_kind : OfKind 1 t
  article_kind = rw e stands.kind_is

  module _ {x : ArticleParts} (is : ArticleIs t x) where
    scheme_by_id : {r : Maybe Part} → FirstNamed b 5 (article_in t x).scheme r → SchemeOf b p r
    scheme_by_id {r} g = record {
      article = article_in t x;
      held = ap (λ (o : Option Record). if_some o none as_article) (ap (whole kinded) (sym e) ∙ is.is);
      is = scheme_found g;
      stands = g.stands;
    }

    pub scheme_none : is_some (records b) ≡ true → x.scheme.size ≡ 0 → SchemeOf b p None
    unfolding article_in
    scheme_none ok z =
        let f : bytes_in t x.scheme ≡ [] = ap (λ n. take n (drop x.scheme.at t)) z in
        scheme_by_id (subst (λ (id : List ℕ). FirstNamed b 5 id None) (sym f) (empty_named b ok))

    pub scheme_there : {id : List ℕ} {r : Maybe Part} → id ≡ bytes_in t x.scheme → FirstNamed b 5 id r → SchemeOf b p r
    unfolding article_in
    scheme_there {r = r} i f = scheme_by_id (subst (λ (id : List ℕ). FirstNamed b 5 id r) i f)

-- ---- the definition's lines, one by one

module _ (b q : List ℕ) (room : ℕ) where
  no_book : is_some (records b) ≡ false → final_number b q room ≡ refused 1
  unfolding final_number
  no_book e = rw (absent (records b) e)

  module _ (ok : is_some (records b) ≡ true) where
    no_question : is_some (question_of q) ≡ false → final_number b q room ≡ refused 2
    unfolding final_number
    no_question e = rw (book_records b ok, absent (question_of q) e)

    module _ (x : Question) (is : question_of q ≡ some x) where
      no_article : article_of (records_of b) x.article ≡ none → final_number b q room ≡ refused 3
      unfolding final_number
      no_article e = rw (book_records b ok, is, e)

      module _ (a : Article) (found : article_of (records_of b) x.article ≡ some a) where
        no_room : room < length (final_number_of (records_of b) x a) → final_number b q room ≡ refused 7
        unfolding final_number
        no_room h = rw (book_records b ok, is, found, lt-leb (length (final_number_of (records_of b) x a)) room h)

        with_room : length (final_number_of (records_of b) x a) ≤ room → final_number b q room ≡ done (final_number_of (records_of b) x a)
        unfolding final_number
        with_room h = rw (book_records b ok, is, found, le-leb (length (final_number_of (records_of b) x a)) room h)

-- ---- the ways out of the call

module _ (b q old : List ℕ) where
  refused_call : (r : Refusal) → final_number b q (length old) ≡ refused (number_for r) → NumberCall b q old old (written (Err r))
  unfolding lent_after shown
  refused_call r e = record { answer = ap shown (sym e); lent = ap (λ x. lent_after_number x old) (sym e) }

  pub call_1 : {r : Bool} → r ≡ is_some (records b) → r ≡ false → NumberCall b q old old (written (Err BrokenBook))
  call_1 e f = refused_call BrokenBook (no_book b q (length old) (sym e ∙ f))

  pub call_2 : {r t : Bool} → r ≡ is_some (records b) → r ≡ true → t ≡ is_some (question_of q) → t ≡ false → NumberCall b q old old (written (Err BrokenQuestion))
  call_2 e f g h = refused_call BrokenQuestion (no_question b q (length old) (sym e ∙ f) (sym g ∙ h))

  module _ (ok : is_some (records b) ≡ true) (ask : Ask) (is : AskIs q ask) where
    pub call_3 : FirstNamed b 1 (ask_in q ask).article None → NumberCall b q old old (written (Err NoArticle))
    call_3 named = refused_call NoArticle (no_article b q (length old) ok (ask_in q ask) is.is (article_found named))

    module _ (p : Part) (named : FirstNamed b 1 (ask_in q ask).article (Some p)) (s : Maybe Part) (scheme : SchemeOf b p s)
        {start buf : List ℕ} {n : ℕ} (made : PutsTo start 0 (number_in b s (ask_in q ask)) buf n) where
      found : article_of (records_of b) (ask_in q ask).article ≡ some scheme.article
      found = article_found named ∙ scheme.held

      made_is : PutsTo start 0 (final_number_of (records_of b) (ask_in q ask) scheme.article) buf n
      unfolding final_number_of number_in
      made_is =
          let e : number_in b s (ask_in q ask) ≡ final_number_of (records_of b) (ask_in q ask) scheme.article =
          ap (λ o. if_some o (ask_in q ask).article (number_by (ask_in q ask).article (ask_in q ask).properties)) (sym scheme.is) in
          subst (λ (x : List ℕ). PutsTo start 0 x buf n) e made

      pub call_7 : length old < n → NumberCall b q old old (written (Err ShortOutput))
      call_7 h = refused_call ShortOutput (no_room b q (length old) ok (ask_in q ask) is.is scheme.article found (omega (arith, made_is.ends)))

      pub call_done : {new : List ℕ} {r : ℕ} → n ≤ length old → PutsTo old 0 (take n buf) new r → NumberCall b q old new (written (Ok n))
      unfolding shown lent_after
      call_done {new} h over =
          let number = final_number_of (records_of b) (ask_in q ask) scheme.article in
          let e = with_room b q (length old) ok (ask_in q ask) is.is scheme.article found (omega (arith, made_is.ends)) in
          let long : n ≡ length number = omega (arith, made_is.ends) in
          let text : take n buf ≡ number = puts_there made_is.puts n (sym long) in
          let put : Puts old 0 number new = subst (λ (x : List ℕ). Puts old 0 x new) text over.puts in
          record {
            answer = ap (λ (k : ℕ). record { length = k; number = 0 }) long ∙ ap shown (sym e);
            lent = puts_front put ∙ ap (λ r. lent_after_number r old) (sym e);
          }
