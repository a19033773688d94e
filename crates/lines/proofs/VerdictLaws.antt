-- What is said of the chosen rows, case by case in the order of the refusals.
use Prim.Native.Nat.{ℕ, ◌≤◌, ◌<◌}
use mathlib.Core.Option.{some, none}
use mathlib.Core.Path.{◌≡◌, refl, sym, ◌∙◌, subst}
use mathlib.Core.Bool.{Bool, true, false, not}
use mathlib.Core.List.{List}
use native.Mathlib.Omega.{arith}
use native.Mathlib.Nat.{le_refl}
use lib.ListN.{length, get_or}
use borrow.Author.Tests.{lt-ltb, le-ltb}
use Rattle.rules.specs.Lists.{first}
use Rattle.rules.specs.Lines.{total_of}
use Rattle.rules.specs.Book.{Record}
use Rattle.rules.specs.Question.{Question, letters_of}
use Rattle.rules.specs.Refusals.{refused}
use Rattle.rules.specs.Price.{priced}
use Rattle.rules.specs.declared.Cents.{Cents}
use Rattle.rules.specs.declared.Currency.{Currency}
use Rattle.rules.specs.declared.Total.{Total}
use Rattle.rules.specs.declared.Total.TheVariants.{InRange, OutOfRange}
use Rattle.rules.proofs.TestLaws.{so, not_so}
use Rattle.layout.specs.Ensures.{Says}
use Rattle.layout.proofs.StoreLaws.{all_same}
use Rattle.amounts.proofs.TotalLaws.{total_in_range}
use Rattle.lines.specs.declared.Pick.{Pick}
use Rattle.lines.specs.declared.Listed.{Listed}
use Rattle.lines.specs.declared.verdict.Verdict.{Verdict}
use Rattle.lines.specs.Views.{view_in, views_in, no_pick, is_base, base_level, one_currency, amounts_of, no_cents}
use Rattle.lines.specs.Ensures.{StandFor, FirstBase, Listable, ListedIn}
use Rattle.lines.specs.Verdict.{refused_by, no_price, price_if, judged, VerdictIs}
use Rattle.lines.proofs.WalkLaws.{no_row_base, no_base_row, first_row_base}
use Rattle.lines.proofs.AmountLaws.{zeros_in}
use Rattle.lines.proofs.PricedLaws.{price_4, price_5, price_6, price_done, unit_is, bytes_are}

-- ---- what the views come to

module _ (picks : List Pick) (n base : ℕ) (b : FirstBase picks n base) where
  judged_4 : n ≤ base → no_price 4 ≡ judged (views_in picks n)
  unfolding judged
  judged_4 h =
      let e : first is_base (views_in picks n) ≡ none = b.is ∙ rw (le-ltb base n h) in
      rw e

  module _ (h : base < n) (one : Bool) (c : Says (one_currency (letters_of (get_or picks base no_pick).currency) (views_in picks n)) one) where
    at_base : first is_base (views_in picks n) ≡ some (view_in (get_or picks base no_pick))
    at_base = b.is ∙ rw (lt-ltb base n h)

    judged_5 : one ≡ false → no_price 5 ≡ judged (views_in picks n)
    unfolding judged
    judged_5 f = rw (at_base, c.is, f)

    judged_by : one ≡ true → (t : Total) → t ≡ total_of (amounts_of (views_in picks n)) → price_if (letters_of (get_or picks base no_pick).currency) t ≡ judged (views_in picks n)
    unfolding judged
    judged_by f t e = rw (at_base, c.is, f, ← e)

-- ---- the refusals, and the price

-- a refusal that is the definition's
refused_by_lem : {picks : List Pick} {n k : ℕ} → (k ≡ 0 → ⊥) → no_price k ≡ judged (views_in picks n) → ((book : List Record) (q : Question) → StandFor book q picks n → priced book q ≡ refused k)
    → {r : Verdict} → r ≡ refused_by k → VerdictIs picks n r
refused_by_lem {picks} {n} {k} z j p {r} e =
    rw e (record {
      each_in = zeros_in 99;
      unit_in = omega arith;
      is = record { is = j };
      amounts = λ y. absurd (z y);
      behind = λ i h. all_same 99 i no_cents;
      zeros = λ y. refl;
      answered = λ y. absurd (z y);
      refuses = λ y book q s. record { is = p book q s; zeros = refl };
    })

pub no_row : {picks : List Pick} → length picks ≡ 0 → {r : Verdict} → r ≡ refused_by 4 → VerdictIs picks (length picks) r
no_row {picks} z e =
    let none = no_row_base z in
    refused_by_lem (λ y. omega arith) (judged_4 picks (length picks) (length picks) none (le_refl (length picks)))
    (λ book q s. price_4 book q picks (length picks) s (length picks) none (le_refl (length picks))) e

-- p is the first row
module _ {picks : List Pick} (ok : Listable picks (length picks)) (p : Pick) (h : 0 < length picks) (at : p ≡ get_or picks 0 no_pick) {b : Bool} (tells : Says (base_level p.level) b) where
  abbrev n : ℕ
  n = length picks

  said : Says (base_level (get_or picks 0 no_pick).level) b
  said = subst (λ (x : Pick). Says (base_level x.level) b) at tells

  pub no_base : b ≡ false → {r : Verdict} → r ≡ refused_by 4 → VerdictIs picks (length picks) r
  no_base f e =
      let none = no_base_row ok (le_refl n) h said f in
      refused_by_lem (λ y. omega arith) (judged_4 picks n n none (le_refl n)) (λ book q s. price_4 book q picks n s n none (le_refl n)) e

  module _ (t : b ≡ true) {l : Listed} (lists : ListedIn (letters_of p.currency) picks (length picks) l) where
    based : FirstBase picks n 0
    based = first_row_base ok (le_refl n) h said t

    is : ListedIn (letters_of (get_or picks 0 no_pick).currency) picks n l
    is = subst (λ (x : Pick). ListedIn (letters_of x.currency) picks n l) at lists

    pub two_currencies : not l.one ≡ true → {r : Verdict} → r ≡ refused_by 5 → VerdictIs picks (length picks) r
    two_currencies f e =
        refused_by_lem (λ y. omega arith) (judged_5 picks n 0 based h l.one is.one (not_so l.one f))
        (λ book q s. price_5 book q picks n s 0 based h l.one is.one (not_so l.one f)) e

    module _ (o : not l.one ≡ false) where
      judged_as : (t : Total) → l.total ≡ t → price_if (letters_of (get_or picks 0 no_pick).currency) t ≡ judged (views_in picks n)
      judged_as t e = judged_by picks n 0 based h l.one is.one (so l.one o) t (sym e ∙ is.list.total)

      pub out_of_range : l.total ≡ OutOfRange → {r : Verdict} → r ≡ refused_by 6 → VerdictIs picks (length picks) r
      out_of_range u e =
          refused_by_lem (λ y. omega arith) (judged_as OutOfRange u) (λ book q s. price_6 book q picks n s 0 based h l.one is.one (so l.one o) l is.list u) e

      -- a price in this currency
      abbrev priced_in : Currency → Cents → Verdict
      priced_in currency unit =
          record {
            outcome = record { unit = unit; refusal = 0; currency = currency };
            amounts = l.amounts;
          }

      pub has_price : {unit : Cents} → l.total ≡ InRange unit → VerdictIs picks (length picks) (priced_in p.currency unit)
      has_price {unit} u =
          subst (λ (x : Pick). VerdictIs picks n (priced_in x.currency unit)) (sym at) (record {
            each_in = is.list.each_in;
            unit_in = total_in_range (amounts_of (views_in picks n)) unit (sym is.list.total ∙ u);
            is = record { is = judged_as (InRange unit) u };
            amounts = λ z. is.list.amounts unit u;
            behind = is.list.behind;
            zeros = λ z. absurd (z refl);
            answered = λ z book q s. record {
              is = price_done book q picks n s 0 based h l.one is.one (so l.one o) l is.list unit u;
              unit = unit_is book q picks n s l is.list unit u;
              bytes = bytes_are book q picks n s l is.list unit u;
            };
            refuses = λ z. absurd (z refl);
          })
