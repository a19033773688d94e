-- The lines of all questions, one question's behind the other's.
use Prim.Native.Nat.{ℕ, ◌+◌, ◌≤◌, ◌<◌}
use mathlib.Core.Path.{◌≡◌, refl, sym, ◌∙◌, ap, subst}
use mathlib.Core.List.{List, map}
use native.Mathlib.Omega.{arith}
use lib.ListN.{length, take, get_or, length-map}
use Rattle.std.specs.Prelude.{Some, None}
use Rattle.std.specs.Prelude as Std
use Rattle.std.specs.Option.{unwrap_or}
use Rattle.rules.specs.Price.{answered}
use Rattle.rules.specs.Basket.{lines_in}
use Rattle.layout.specs.Ensures.{PutsTo}
use Rattle.layout.specs.Records.{records_left}
use Rattle.layout.proofs.PileLaws.{Piling, pile_start, pile_room, pile_again, pile_end}
use Rattle.questions.specs.declared.Lent.{Lent}
use Rattle.questions.specs.Questions.{no_question}
use Rattle.wanted.specs.declared.Sights.{Sights}
use Rattle.price.specs.declared.answered.Answered.{Answered}
use Rattle.price.specs.Answered.{HasRoom, PutsIfRoom, AnsweredIs, lines_to}
use Rattle.basket.specs.Basket.{Basketed, question_at, outcomes, all_lines, KeptTo, Kept}
use Rattle.basket.proofs.AskedLaws.{outcomes_count, nth}

-- the lines of j questions are there
pub record Listing (b s : List ℕ) (ls : List Lent) (found : Sights) (old : List ℕ) (from : ℕ) (out : List ℕ) (end : Std.Option ℕ) (j : ℕ) : Type 0 where
  pub basket : Basketed b s ls found
  pub few : length ls ≤ 200
  pub place : j ≤ length ls
  pub at : ℕ
  pub is : end ≡ Some at
  pub pile : Piling old from (map lines_in (outcomes b s)) out at j

module _ {b s : List ℕ} {ls : List Lent} {found : Sights} {old : List ℕ} {from : ℕ} where
  pub lines_start : Basketed b s ls found → HasRoom old from (all_lines b s) → Listing b s ls found old from old (Some from) 0
  lines_start bk room = record { basket = bk; few = bk.few; place = omega arith; at = from; is = refl; pile = pile_start old from (map lines_in (outcomes b s)) room.fits }

  module _ {out : List ℕ} {end : Std.Option ℕ} {j : ℕ} (inv : Listing b s ls found old from out end j) where
    count : length (map lines_in (outcomes b s)) ≡ length ls
    count = length-map (outcomes b s) lines_in ∙ outcomes_count inv.basket

    pub lines_room : j < length ls → HasRoom out inv.at (lines_to (records_left b 5) (question_at s ls j))
    lines_room h = record {
      fits =
          let d = lines_in (answered (records_left b 5) no_question) in
          omega (arith, pile_room old from (map lines_in (outcomes b s)) inv.pile (omega (arith, count)) d, ap length (nth inv.basket j h lines_in));
    }

    pub lines_again : j < length ls → {new : List ℕ} {told : Answered} → AnsweredIs (records_left b 5) (question_at s ls j) out end new told
        → Listing b s ls found old from new told.end (j + 1)
    lines_again h {new} {told} is =
        let bytes = lines_to (records_left b 5) (question_at s ls j) in
        go told.end refl (subst (λ (x : Std.Option ℕ). PutsIfRoom out x bytes new told.end) inv.is is.lines)
      where
        go : (e : Std.Option ℕ) → told.end ≡ e → PutsIfRoom out (Some inv.at) (lines_to (records_left b 5) (question_at s ls j)) new e
            → Listing b s ls found old from new told.end (j + 1)
        go None e p = absurd (omega (arith, p.full, (lines_room h).fits))
        go (Some k) e p = record {
          basket = inv.basket;
          few = inv.few;
          place = omega arith;
          at = k;
          is = e;
          pile = pile_again old from (map lines_in (outcomes b s)) inv.pile (omega (arith, count)) (lines_in (answered (records_left b 5) no_question))
              (subst (λ (x : List ℕ). PutsTo out inv.at x new k) (sym (nth inv.basket j h lines_in)) p.put);
        }

    pub lines_end : length ls ≤ j → {r : ℕ} → r ≡ unwrap_or end from → PutsTo old from (all_lines b s) out r
    lines_end h e =
        let is : PutsTo old from (all_lines b s) out inv.at = pile_end old from (map lines_in (outcomes b s)) inv.pile (omega (arith, count)) in
        subst (λ (x : ℕ). PutsTo old from (all_lines b s) out x) (sym (e ∙ ap (λ (x : Std.Option ℕ). unwrap_or x from) inv.is)) is

-- those that were kept
module _ (kept bytes : List ℕ) {e : ℕ} {end : Std.Option ℕ} (is : end ≡ Some e) (k : Kept kept end bytes) where
  kept_to : KeptTo kept bytes e
  kept_to = subst (λ (x : Std.Option ℕ). Kept kept x bytes) is k

  pub kept_fits : e ≤ length kept
  kept_fits = kept_to.fits

  pub kept_room : {out : List ℕ} {at : ℕ} → HasRoom out at bytes → at + length (take e kept) ≤ length out
  kept_room h = omega (arith, ap length kept_to.is, h.fits)

  pub kept_put : {old : List ℕ} {at : ℕ} {new : List ℕ} {r : ℕ} → PutsTo old at (take e kept) new r → PutsTo old at bytes new r
  kept_put {old} {at} {new} {r} p = subst (λ (x : List ℕ). PutsTo old at x new r) kept_to.is p
