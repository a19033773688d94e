-- The amounts of lines, one by one: what is listed and what is left make up the whole, and so do the total and what is left to add.
use Prim.Native.Nat.{ℕ, zero, suc, ◌+◌, ◌≤◌, ◌<◌}
use mathlib.Core.Path.{◌≡◌, refl, sym, ap, ◌∙◌, subst}
use mathlib.Core.Bool.{Bool, true, false, ◌||◌, not, cond, true≢false}
use mathlib.Core.List.{List, [], ◌∷◌, ◌++◌, map, map-append, append_assoc, append-nil}
use native.Mathlib.Omega.{arith}
use native.Mathlib.Numerals.{add-one}
use lib.Dec.{eqb}
use lib.IntN.{ℤ, pos, nat_abs, ◌+ℤ◌}
use lib.ListN.{length, take, drop, get_or, set, replicate, length-set}
use lib.Seq.{take-suc-set}
use Rattle.rules.specs.Lists.{any}
use Rattle.rules.specs.Amounts.{exact, factored, rounded}
use Rattle.rules.specs.Lines.{most_total, total_of}
use Rattle.rules.specs.declared.Cents.{Cents}
use Rattle.rules.specs.declared.Fraction.{Fraction}
use Rattle.rules.specs.declared.Total.TheVariants.{InRange, OutOfRange}
use Rattle.rules.proofs.ListLaws.{All}
use Rattle.layout.specs.Ensures.{Says}
use Rattle.layout.proofs.StoreLaws.{all_same, behind_store}
use Rattle.amounts.specs.Ensures.{BookValue, ExactAmount, Factorable, FactoredAmount, Roundable, RoundedCents, Addable, total_after}
use Rattle.amounts.proofs.TotalLaws.{total_from, from_zero, from_end, from_in, from_out, after_sum, after_in_range}
use Rattle.lines.specs.declared.Pick.{Pick}
use Rattle.lines.specs.Views.{View, view_in, views_in, no_pick, is_base, base_first, amount_on, amounts_from, amounts_of, amounts_in, no_cents}
use Rattle.lines.specs.Ensures.{OneOfTwo, Sound, LineOn, most_amount, LineAmount, Listable, ListedIs}
use Rattle.lines.proofs.WalkLaws.{next_view, views_end, Comparing}

-- ---- one line

-- by a test that was said
pub one_said : {a t : Bool} {x y r : ℤ} → Says a t → OneOfTwo t x y r → OneOfTwo a x y r
one_said s o = record { is = rw s.is o.is }

-- one of two amounts is within the bound of both
pub one_in : (t : Bool) (a b r : ℤ) (most : ℕ) → OneOfTwo t a b r → nat_abs a ≤ most → nat_abs b ≤ most → nat_abs r ≤ most
one_in true a b r most o h k = rw o.is h
one_in false a b r most o h k = rw o.is k

module _ (v : View) (base total : ℤ) (on : LineOn v base total) (t : Bool) (of : ℤ) (is : OneOfTwo t base total of) where
  pub share_of : BookValue v.value of
  share_of = record { value_in = on.sound.value_in; of_in = one_in t base total of most_total is on.base_in on.total_in }

  module _ (x : Fraction) (e : ExactAmount v.value of x) where
    pub can_factor : Factorable v.factor x
    can_factor = record { factor_in = on.sound.factor_in; top_in = e.top_in; low = e.low; high = e.high }

    module _ (y : Fraction) (f : FactoredAmount v.factor x y) where
      pub can_round : Roundable v.rounding y
      can_round = record { sound = on.sound.rounding_in; top_in = f.top_in; low = f.low; high = f.high }

      pub line_is : eqb v.rule 1 ≡ t → (r : Cents) → RoundedCents v.rounding y r → LineAmount v base total r
      unfolding amount_on
      line_is rule r m =
          record {
            is =
                m.is ∙ f.rounds v.rounding
                ∙ ap (λ (z : Fraction). rounded v.rounding (factored v.factor z)) (e.is ∙ ap (exact v.value) (is.is ∙ ap (λ u. cond u base total) (sym rule)));
            near = omega (arith, m.near, f.top_in);
          }

-- ---- base lines come first

view_first : (v : View) (vs : List View) → base_first (v ∷ vs) ≡ cond (is_base v) (base_first vs) (not (any is_base vs))
unfolding base_first
view_first v vs = refl

none_first : (vs : List View) → any is_base vs ≡ false → base_first vs ≡ true
unfolding base_first
none_first [] e = refl
none_first (v ∷ vs) e = go (is_base v) (any is_base vs) e
  where
    go : (b rest : Bool) → (b || rest) ≡ false → cond b (base_first vs) (not rest) ≡ true
    go true rest e = absurd (true≢false e)
    go false true e = absurd (true≢false e)
    go false false e = refl

-- b: the line is a base line; rest: one behind it is
module _ (b rest : Bool) (base total z after next : ℤ) (sum : total +ℤ z ≡ after) (o : OneOfTwo b after base next) where
  grown : ((b || rest) ≡ true → base ≡ total) → next ≡ cond b (base +ℤ z) base
  grown = by b o.is
    where
      by : (b : Bool) → next ≡ cond b after base → ((b || rest) ≡ true → base ≡ total) → next ≡ cond b (base +ℤ z) base
      by true o l = o ∙ (sym sum ∙ ap (λ y. y +ℤ z) (sym (l refl)))
      by false o l = o

  level_on : (f : Bool) → cond b f (not rest) ≡ true → rest ≡ true → next ≡ after
  level_on f = by b rest o.is
    where
      by : (b rest : Bool) → next ≡ cond b after base → cond b f (not rest) ≡ true → rest ≡ true → next ≡ after
      by true rest o e r = o
      by false true o e r = absurd (true≢false (sym e))
      by false false o e r = absurd (true≢false (sym r))

first_on : (b rest f : Bool) → (rest ≡ false → f ≡ true) → cond b f (not rest) ≡ true → f ≡ true
first_on true rest f n e = e
first_on false true f n e = absurd (true≢false (sym e))
first_on false false f n e = n refl

-- ---- amounts in bounds

pub zeros_in : (n k : ℕ) → nat_abs (get_or (replicate n no_cents) k no_cents).0 ≤ most_amount
zeros_in n k = rw (all_same n k no_cents) (omega arith)

stored_in : (l : List Cents) (i : ℕ) (c : Cents) → ((k : ℕ) → nat_abs (get_or l k no_cents).0 ≤ most_amount) → nat_abs c.0 ≤ most_amount
    → (k : ℕ) → nat_abs (get_or (set l i c) k no_cents).0 ≤ most_amount
stored_in [] i c h b k = h k
stored_in (x ∷ l) zero c h b zero = b
stored_in (x ∷ l) zero c h b (suc k) = h (suc k)
stored_in (x ∷ l) (suc i) c h b zero = h zero
stored_in (x ∷ l) (suc i) c h b (suc k) = stored_in l i c (λ j. h (suc j)) b k

-- the amounts with one more stored behind them
stored_last : (l : List Cents) (i : ℕ) (c : Cents) → i < length l → amounts_in (set l i c) (i + 1) ≡ amounts_in l i ++ (c.0 ∷ [])
stored_last l i c h =
    ap (λ (k : ℕ). amounts_in (set l i c) k) (add-one i)
    ∙ ap (map (λ (x : Cents). x.0)) (take-suc-set l i c h)
    ∙ map-append (λ (x : Cents). x.0) (take i l) (c ∷ [])

-- ---- the loop

-- before line i
pub record Listing (picks : List Pick) (n : ℕ) (listed : List Cents) (base total : ℤ) (i : ℕ) : Type 0 where
  pub place : i ≤ n
  pub few : n ≤ 99
  pub long : n ≤ length picks
  pub room : length listed ≡ 99
  pub each_in : (k : ℕ) → nat_abs (get_or listed k no_cents).0 ≤ most_amount
  pub behind : (k : ℕ) → i ≤ k → get_or listed k no_cents ≡ no_cents
  pub base_in : nat_abs base ≤ most_total
  pub total_in : nat_abs total ≤ most_total
  pub sound : All Sound (drop i (views_in picks n))
  pub base_first_lem : base_first (drop i (views_in picks n)) ≡ true
  pub level : any is_base (drop i (views_in picks n)) ≡ true → base ≡ total
  pub left : amounts_in listed i ++ amounts_from base total (drop i (views_in picks n)) ≡ amounts_of (views_in picks n)
  pub to_add : total_from total (amounts_from base total (drop i (views_in picks n))) ≡ total_of (amounts_of (views_in picks n))

pub can_add : {v : View} {base total : ℤ} {r : Cents} → nat_abs total ≤ most_total → LineAmount v base total r → Addable total r.0
can_add h a = record { total_in = h; amount_in = omega (arith, a.near) }

view_amounts : (base total : ℤ) (v : View) (vs : List View)
    → amounts_from base total (v ∷ vs) ≡ amount_on base total v ∷ amounts_from (cond (is_base v) (base +ℤ amount_on base total v) base) (total +ℤ amount_on base total v) vs
unfolding amounts_from
view_amounts base total v vs = refl

no_amounts : (base total : ℤ) → amounts_from base total [] ≡ []
unfolding amounts_from
no_amounts base total = refl

module _ (picks : List Pick) (n : ℕ) where
  pub list_start : n ≤ length picks → Listable picks n → Listing picks n (replicate 99 no_cents) (pos 0) (pos 0) 0
  list_start k ok =
      record {
        place = omega arith;
        few = ok.few;
        long = k;
        room = refl;
        each_in = zeros_in 99;
        behind = λ k h. all_same 99 k no_cents;
        base_in = omega arith;
        total_in = omega arith;
        sound = ok.sound;
        base_first_lem = ok.base_first_lem;
        level = λ e. refl;
        left = refl;
        to_add = from_zero (amounts_of (views_in picks n));
      }

  module _ (listed : List Cents) (base total : ℤ) (i : ℕ) (inv : Listing picks n listed base total i) where
    module _ (h : i < n) where
      abbrev here : View
      here = view_in (get_or picks i no_pick)

      abbrev behind : List View
      behind = drop (i + 1) (views_in picks n)

      next : drop i (views_in picks n) ≡ here ∷ behind
      next = next_view picks n i h inv.long

      pub list_line : LineOn here base total
      list_line = record {
        sound = (subst (All Sound) next inv.sound).0;
        base_in = inv.base_in;
        total_in = inv.total_in;
      }

      module _ (r : Cents) (a : LineAmount here base total r) where
        amounts_are : amounts_from base total (drop i (views_in picks n)) ≡ r.0 ∷ amounts_from (cond (is_base here) (base +ℤ r.0) base) (total +ℤ r.0) behind
        amounts_are =
            ap (amounts_from base total) next
            ∙ view_amounts base total here behind
            ∙ ap (λ z. z ∷ amounts_from (cond (is_base here) (base +ℤ z) base) (total +ℤ z) behind) (sym a.is)

        pub list_out : total_after total r.0 ≡ OutOfRange → (one : Bool) → ListedIs picks n (record { amounts = replicate 99 no_cents; total = OutOfRange; one = one })
        list_out e one =
            let out : OutOfRange ≡ total_of (amounts_of (views_in picks n)) =
            sym (from_out total r.0 (amounts_from (cond (is_base here) (base +ℤ r.0) base) (total +ℤ r.0) behind) e) ∙ ap (total_from total) (sym amounts_are) ∙ inv.to_add in
            record {
              each_in = zeros_in 99;
              total = out;
              amounts = λ c f. let z : ◌≡◌ {A = ℕ} 0 1 = cc f in absurd (omega arith);
              behind = λ k f. all_same 99 k no_cents;
              zeros = λ f. refl;
            }

        module _ (after : Cents) (e : total_after total r.0 ≡ InRange after) (base' : ℤ) (o : OneOfTwo (is_base here) after.0 base base') where
          firsts : cond (is_base here) (base_first behind) (not (any is_base behind)) ≡ true
          firsts = sym (view_first here behind) ∙ (ap base_first (sym next) ∙ inv.base_first_lem)

          base_is : base' ≡ cond (is_base here) (base +ℤ r.0) base
          base_is =
              grown (is_base here) (any is_base behind) base total r.0 after.0 base' (after_sum total r.0 after e) o
              (λ t. inv.level (ap (any is_base) next ∙ t))

          step : amounts_from base total (drop i (views_in picks n)) ≡ r.0 ∷ amounts_from base' after.0 behind
          step = amounts_are ∙ (λ j. r.0 ∷ amounts_from (sym base_is j) (after_sum total r.0 after e j) behind)

          pub list_again : Listing picks n (set listed i r) base' after.0 (i + 1)
          list_again =
              record {
                place = omega arith;
                few = inv.few;
                long = inv.long;
                room = length-set listed i r ∙ inv.room;
                each_in = stored_in listed i r inv.each_in a.near;
                behind = λ k g. behind_store listed i r no_cents (λ j f. inv.behind j (omega arith)) k (omega arith);
                base_in = one_in (is_base here) after.0 base base' most_total o (after_in_range total r.0 after e) inv.base_in;
                total_in = after_in_range total r.0 after e;
                sound = (subst (All Sound) next inv.sound).1;
                base_first_lem = first_on (is_base here) (any is_base behind) (base_first behind) (none_first behind) firsts;
                level = level_on (is_base here) (any is_base behind) base total r.0 after.0 base' (after_sum total r.0 after e) o (base_first behind) firsts;
                left =
                    (let l : i < length listed = omega (arith, inv.room, inv.few) in
                    ap (λ zs. zs ++ amounts_from base' after.0 behind) (stored_last listed i r l)
                    ∙ append_assoc (amounts_in listed i) (r.0 ∷ []) (amounts_from base' after.0 behind)
                    ∙ ap (λ zs. amounts_in listed i ++ zs) (sym step)
                    ∙ inv.left);
                to_add = sym (from_in total r.0 (amounts_from base' after.0 behind) after e) ∙ ap (total_from total) (sym step) ∙ inv.to_add;
              }

    pub list_end : n ≤ i → (one : Bool) → ListedIs picks n (record { amounts = listed; total = InRange (record { 0 = total }); one = one })
    list_end h one =
        let e : i ≡ n = omega (arith, inv.place) in
        let f : amounts_from base total (drop i (views_in picks n)) ≡ [] = ap (amounts_from base total) (views_end picks n i inv.long h) ∙ no_amounts base total in
        record {
          each_in = inv.each_in;
          total = sym (from_end total) ∙ ap (total_from total) (sym f) ∙ inv.to_add;
          amounts = λ c r. ap (amounts_in listed) (sym e) ∙ sym (append-nil (amounts_in listed i)) ∙ ap (λ zs. amounts_in listed i ++ zs) (sym f) ∙ inv.left;
          behind = λ k g. inv.behind k (omega arith);
          zeros = λ g. let z : ◌≡◌ {A = ℕ} 0 1 = cc g in absurd (omega arith);
        }

-- ---- and one currency

-- before line i, with a flag for the rows before it
pub record Judging (c : List ℕ) (picks : List Pick) (n : ℕ) (listed : List Cents) (one : Bool) (base total : ℤ) (i : ℕ) : Type 0 where
  pub listing : Listing picks n listed base total i
  pub comparing : Comparing c picks n one i
