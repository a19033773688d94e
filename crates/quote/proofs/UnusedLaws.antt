-- The set of the granted places that brought no line: what it is to the rules, and which places the lines have.
use Prim.Native.Nat.{ℕ, ◌+◌, ◌≤◌, ◌<◌}
use mathlib.Core.Path.{◌≡◌, refl, sym, ◌∙◌, ap}
use mathlib.Core.Bool.{Bool, true, false, ◌||◌, not, or-true, or-false}
use mathlib.Core.List.{List, map}
use native.Mathlib.Omega.{arith}
use lib.Dec.{eqb}
use lib.ListN.{length, drop, get_or, set, replicate, length-set, length-replicate, get_or-replicate}
use lib.Seq.{get_or-set_same, get_or-set_other}
use borrow.Author.Tests.{eqb-true, eqb-false}
use Rattle.rules.specs.Lists.{any, keep}
use Rattle.rules.specs.Question.{Question, grants}
use Rattle.rules.specs.Lines.{Line}
use Rattle.rules.specs.Price.{unused_of}
use Rattle.rules.proofs.NoPriceLaws.{any_map}
use Rattle.lines.specs.declared.Pick.{Pick}
use Rattle.lines.specs.Views.{View, views_in, no_pick}
use Rattle.lines.proofs.WalkLaws.{next_view, views_end}
use Rattle.grants.specs.Idle.{idle, Brought, IdleIs}
use Rattle.quote.specs.Quote.{UnusedFor}

-- ---- the unused names of the rules, by the places of the lines alone

pub idle_lines : (q : Question) (ls : List Line) → unused_of q ls ≡ idle q.granted (map (λ l. l.place) ls)
unfolding unused_of idle
idle_lines q ls = λ i. keep (λ g. not (sym (any_map (λ l. l.place) (λ p. eqb p g.place) ls) i)) (grants q.granted)

-- ---- which places the lines have

abbrev places_of : List View → List ℕ
places_of vs = map (λ v. v.place) vs

-- those of the lines before line i are flagged
pub record Flagging (picks : List Pick) (n : ℕ) (flags : List Bool) (i : ℕ) : Type 0 where
  pub lines : n ≤ length picks
  pub long : length flags ≡ 256
  pub rest : (p : ℕ) → p < 256 → (get_or flags p false || any (λ x. eqb x p) (places_of (drop i (views_in picks n)))) ≡ any (λ x. eqb x p) (places_of (views_in picks n))

module _ (picks : List Pick) (n : ℕ) where
  pub flag_start : n ≤ length picks → Flagging picks n (replicate 256 false) 0
  flag_start k = record {
    lines = k;
    long = length-replicate 256 false;
    rest = λ p l. rw (get_or-replicate 256 p false false l);
  }

  module _ {flags : List Bool} {i : ℕ} (inv : Flagging picks n flags i) where
    pub flag_again : i < n → (get_or picks i no_pick).place < 256 → Flagging picks n (set flags (get_or picks i no_pick).place true) (i + 1)
    flag_again h l = record {
      lines = inv.lines;
      long = length-set flags place true ∙ inv.long;
      rest = λ p m. go p (eqb place p) refl ∙ step p m;
    }
      where
        place : ℕ
        place = (get_or picks i no_pick).place

        here : place < length flags
        here = omega (arith, inv.long)

        behind : ℕ → Bool
        behind p = any (λ x. eqb x p) (places_of (drop (i + 1) (views_in picks n)))

        step : (p : ℕ) → p < 256 → (get_or flags p false || (eqb place p || behind p)) ≡ any (λ x. eqb x p) (places_of (views_in picks n))
        step p m = ap (λ (vs : List View). get_or flags p false || any (λ x. eqb x p) (places_of vs)) (sym (next_view picks n i h inv.lines)) ∙ inv.rest p m

        go : (p : ℕ) (b : Bool) → eqb place p ≡ b → (get_or (set flags place true) p false || behind p) ≡ (get_or flags p false || (b || behind p))
        go p true e =
            ap (λ (b : Bool). b || behind p) (ap (λ (j : ℕ). get_or (set flags place true) j false) (sym (eqb-true place p e)) ∙ get_or-set_same flags place true false here)
            ∙ sym (or-true (get_or flags p false))
        go p false e = ap (λ (b : Bool). b || behind p) (get_or-set_other flags place p true false (λ f. eqb-false place p e (sym f)))

    pub flag_end : n ≤ i → Brought (places_of (views_in picks n)) flags
    flag_end h =
        record {
          long = inv.long;
          each = λ p l. sym (or-false (get_or flags p false)) ∙ ap (λ (vs : List View). get_or flags p false || any (λ x. eqb x p) (places_of vs)) (sym (views_end picks n i inv.lines h)) ∙ inv.rest p l;
        }

-- ---- the set

pub unused_for : {table places : List ℕ} {flags : List Bool} → Brought places flags → {set : ℕ} → IdleIs table flags set → UnusedFor table places set
unused_for {places = places} b i = record { of = λ names g. i.of names g places b }
