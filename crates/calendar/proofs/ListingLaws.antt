-- What is listed: each refusal stands in its order.
use Prim.Native.Nat.{ℕ}
use mathlib.Core.Path.{◌≡◌, refl, sym, ◌∙◌, ap, subst}
use mathlib.Core.Bool.{true}
use mathlib.Core.List.{List}
use mathlib.Core.Option.{none}
use native.Mathlib.Omega.{arith}
use lib.ListN.{length, take, replicate, length-replicate}
use lib.Seq.{length-take-le}
use borrow.Author.Tests.{ne_eqb}
use Rattle.rules.specs.Days.{is_day}
use Rattle.rules.specs.Book.{article_of}
use Rattle.rules.specs.Reasons.{number_for}
use Rattle.rules.specs.declared.Refusal.{Refusal}
use Rattle.rules.specs.Refusals.{Result, done, refused}
use Rattle.rules.specs.Calendar.{Stretch, stretches, outcome, period_to, within, listing}
use Rattle.rules.proofs.ListLaws.{absent, present}
use Rattle.rules.proofs.CalendarLaws.{period_days, period_end, period_count}
use Rattle.layout.proofs.StoreLaws.{all_same}
use Rattle.layout.specs.Records.{records_left}
use Rattle.question.specs.declared.Ask.{Ask}
use Rattle.question.specs.Asked.{ask_in, AskIs}
use Rattle.period.specs.declared.dates.Period.{Period}
use Rattle.period.specs.Ensures.{DaysOf}
use Rattle.period.specs.Positions.{Dates}
use Rattle.period.proofs.PositionLaws.{period_dates}
use Rattle.stretches.specs.declared.Stretches.{Stretches}
use Rattle.calendar.specs.declared.listing.Listing.{Listing}
use Rattle.survey.specs.declared.Found.{Found}
use Rattle.survey.specs.declared.entrance.Entered.{Entered}
use Rattle.survey.specs.declared.window.Window.{Window}
use Rattle.survey.specs.Window.{Windows}
use Rattle.survey.specs.Survey.{FoundIs, Known, Unknown}
use Rattle.survey.specs.Entrance.{Entering, KeptOut}
use Rattle.survey.proofs.EntranceLaws.{has_number, stays_out, goes_in}
use Rattle.stretches.specs.Stretches.{no_stretch, Lists}
use Rattle.calendar.specs.Listing.{ListingIs, Refused}

-- ---- refusals

pub refused_is : (x : Refusal) {number : ℕ} → number ≡ number_for x → Refused (number_for x) (record { stretches = record { list = replicate 1096 no_stretch; n = 0 }; number = number })
refused_is x {number} e = record {
  long = length-replicate 1096 no_stretch;
  few = omega arith;
  behind = λ i l. all_same 1096 i no_stretch;
  empty = λ z. refl;
  is = rw (e, ne_eqb (number_for x) 0 (has_number x));
}

-- by any number but 0
pub refused_by : {number : ℕ} → (number ≡ 0 → ⊥) → {r : Stretches} → r.list ≡ replicate 1096 no_stretch → r.n ≡ 0 → Refused number (record { stretches = r; number = number })
refused_by {number} h {r} list n = record {
  long = ap length list ∙ length-replicate 1096 no_stretch;
  few = omega (arith, n);
  behind = λ i l. rw list (all_same 1096 i no_stretch);
  empty = λ z. n;
  is = rw (ne_eqb number 0 h);
}

-- ---- an accepted book and question

module _ (b s : List ℕ) (ask : Ask) (end : ℕ) where
  abbrev listed_within : Result (List Stretch)
  listed_within = within (records_left b 5) (ask_in s ask) end

  refused_within : {n : ℕ} → listed_within ≡ refused n → {r : Listing} → Refused n r → ListingIs listed_within r
  refused_within e r = record {
    long = r.long;
    few = r.few;
    behind = r.behind;
    empty = r.empty;
    is = e ∙ sym r.is;
  }

  pub within_9 : {r : Listing} → period_to ask.date.0 end ≡ none → Refused 9 r → ListingIs listed_within r
  unfolding within
  within_9 z r = refused_within (rw z) r

  module _ {p : Period} (h : DaysOf ask.date.0 end p) where
    abbrev days : List ℕ
    days = take p.n p.dates

    pub within_3 : {k : Found} → FoundIs b (ask_in s ask).article ask.sort k → {x : Refusal} → Unknown k x → {r : Listing} → Refused (number_for x) r → ListingIs listed_within r
    unfolding within
    within_3 k {x} u w =
        refused_within (rw (h.is, absent (article_of (records_left b 5) (ask_in s ask).article) (sym k.there ∙ u.article)) (ap (λ (y : Refusal). refused (number_for y)) (sym u.is))) w

    pub within_done : {k : Found} → FoundIs b (ask_in s ask).article ask.sort k → {window : Window} → Known k window
        → {ds : List ℕ} → ds ≡ days → {r : Stretches} → Lists (stretches (outcome (records_left b 5) (ask_in s ask)) ds) r
        → ListingIs listed_within (record { stretches = r; number = 0 })
    unfolding within
    within_done k f e w = record {
      long = w.long;
      few = w.few;
      behind = w.behind;
      empty = λ z. absurd (z refl);
      is =
          rw (h.is, (present (article_of (records_left b 5) (ask_in s ask).article) (sym k.there ∙ f.article)).1)
          (ap (λ (ds : List ℕ). done (stretches (outcome (records_left b 5) (ask_in s ask)) ds)) (sym e) ∙ ap done (sym w.is));
    }

module _ {start end : ℕ} {p : Period} (h : DaysOf start end p) {ds : List ℕ} (e : ds ≡ take p.n p.dates) where
  pub days_dates : is_day start ≡ true → Dates ds
  days_dates d =
      subst Dates (sym e)
      (period_dates d (period_end start end (take p.n p.dates) h.is) (period_days start end (take p.n p.dates) h.is) (period_count start end (take p.n p.dates) h.is))

-- ---- any bytes

module _ {b s : List ℕ} where
  pub listing_refused : (end : ℕ) {x : Refusal} → KeptOut b s x → {r : Listing} → Refused (number_for x) r → ListingIs (listing b s end) r
  unfolding listing
  listing_refused end {x} told w = record {
    long = w.long;
    few = w.few;
    behind = w.behind;
    empty = w.empty;
    is = stays_out (λ book q. within book q end) told ∙ sym w.is;
  }

  module _ {k : Entered} (told : Entering b s k) where
    pub listing_is : (end : ℕ) {r : Listing} → ListingIs (within (records_left b 5) (ask_in s k.ask) end) r → ListingIs (listing b s end) r
    unfolding listing
    listing_is end w = record {
      long = w.long;
      few = w.few;
      behind = w.behind;
      empty = w.empty;
      is = goes_in (λ book q. within book q end) told ∙ w.is;
    }
