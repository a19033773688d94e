-- The walk for a block of days, and what the listed rows make of it on one of them.
use Prim.Native.Nat.{ℕ, suc, ◌+◌, ◌-◌, ◌*◌, ◌≤◌, ◌<◌}
use mathlib.Core.Path.{◌≡◌, refl, sym, ◌∙◌, ap, subst}
use mathlib.Core.Bool.{Bool, true, false, cond, false≢true}
use mathlib.Core.List.{List, [], ◌∷◌, ◌++◌}
use mathlib.Core.Option.{Option, some, none}
use native.Mathlib.Omega.{arith}
use Rattle.std.specs.Prelude as Std
use lib.Dec.{eqb}
use lib.ListN.{length, take, drop, get_or, replicate, length-replicate}
use lib.Seq.{drop-cons, drop-length}
use Rattle.rules.specs.Lists.{if_some}
use Rattle.rules.specs.Layout.{whole}
use Rattle.rules.specs.Book.{Row, Record, as_row, rows}
use Rattle.rules.specs.BookLayout.{kinded}
use Rattle.rules.specs.Question.{Question}
use Rattle.rules.proofs.ListLaws.{All, all_at}
use Rattle.rules.proofs.ChoiceLaws as Choice
use Rattle.layout.specs.Records.{records_left, Between, RecordHere, StopIs}
use Rattle.book.proofs.WalkLaws.{pass_here, pass_next}
use Rattle.grants.specs.declared.terms.Terms.{Terms}
use Rattle.grants.specs.Asks.{Asks}
use Rattle.choice.specs.declared.hands.Seen.{Seen}
use Rattle.choice.specs.declared.hands.Passing.{Passing}
use Rattle.choice.specs.declared.block.Through.{Through}
use Rattle.choice.specs.declared.block.Through.TheVariants.{Never, Always, Sometimes}
use Rattle.choice.specs.declared.Shared.{Shared}
use Rattle.choice.specs.Hands.{Going, SeenIs}
use Rattle.choice.specs.Walk.{no_slot, standing, passing_of, is_own, passing_in, uncounted, going, Passes, unseen, seen_of, SlotsFor}
use Rattle.choice.specs.Block.{AsksWithin, passing_through, is_noted, PassesThrough, most_noted, AllStand, slot_after, TookIn, TookThrough, passing_at, slot_past, SlotsAfter, noted_in, SharedOn, SharedFor}
use Rattle.choice.proofs.OrderLaws.{seen_swap}
use Rattle.choice.proofs.WalkLaws.{after_off, after_alike, Sharing, share_start, share_turn, share_end}

-- ---- two records in either order

-- a record that goes by is of no slot, or has its position in hand
data Placed (at : ℕ) (p : Going) : Type 0 where
  off : p.slot ≡ no_slot → Placed at p
  held : p.hand.at ≡ at → Placed at p

placed : (q : Question) (at : ℕ) (o : Option Record) → Placed at (passing_in q at o)
unfolding passing_in passing_of
placed q at none = off refl
placed q at (some x) = go (as_row x)
  where
    row : (r : Row) (b c : Bool) → Placed at (cond b (cond c (standing q at r) uncounted) uncounted)
    row r true true = held refl
    row r true false = off refl
    row r false c = off refl

    go : (o : Option Row) → Placed at (if_some o uncounted (λ r. cond (is_own q r) (passing_of q at r) uncounted))
    go none = off refl
    go (some r) = row r (is_own q r) (Choice.stands q.date r)

module _ {i : ℕ} (l : i < no_slot) where
  after_swap : {a b : ℕ} → 1 ≤ a → 1 ≤ b → (a ≡ b → ⊥) → {p r : Going} → Placed a p → Placed b r → (s : Seen)
      → slot_after i (slot_after i s p) r ≡ slot_after i (slot_after i s r) p
  unfolding slot_after
  after_swap x y n {p} {r} (off e) k s = ap (λ (z : Seen). slot_after i z r) (after_off l s p e) ∙ sym (after_off l (slot_after i s r) p e)
  after_swap x y n {p} {r} (held e) (off f) s = after_off l (slot_after i s p) r f ∙ ap (λ (z : Seen). slot_after i z p) (sym (after_off l s r f))
  after_swap x y n {p} {r} (held e) (held f) s = go (eqb p.slot i) (eqb r.slot i) refl refl
    where
      go : (c d : Bool) → eqb p.slot i ≡ c → eqb r.slot i ≡ d → slot_after i (slot_after i s p) r ≡ slot_after i (slot_after i s r) p
      go true true g h = rw (g, h) (seen_swap p r (omega arith) (omega arith) (λ z. n (sym e ∙ z ∙ f)) s)
      go true false g h = rw (g, h)
      go false true g h = rw (g, h)
      go false false g h = rw (g, h)

  -- a record that stands behind the listed ones may go by before them
  past_swap : (w : List ℕ) (q : Question) {at : ℕ} {p : Going} → 1 ≤ at → Placed at p → (s : Seen) (ats : List ℕ) → All (λ k. (1 ≤ k) × (k < at)) ats
      → slot_past w q i (slot_after i s p) ats ≡ slot_after i (slot_past w q i s ats) p
  unfolding slot_past passing_at
  past_swap w q low is s [] h = refl
  past_swap w q {at} {p} low is s (k ∷ ks) h =
      ap (λ (z : Seen). slot_past w q i z ks) (after_swap low h.0.0 (λ e. omega (arith, h.0.1)) is (placed q k _) s)
      ∙ past_swap w q low is (slot_after i s (passing_at w q k)) ks h.1

past_end : (w : List ℕ) (q : Question) (i : ℕ) (s : Seen) (ats : List ℕ) (at : ℕ) → slot_past w q i s (ats ++ (at ∷ [])) ≡ slot_after i (slot_past w q i s ats) (passing_at w q at)
unfolding slot_past
past_end w q i s [] at = refl
past_end w q i s (k ∷ ks) at = past_end w q i (slot_after i s (passing_at w q k)) ks at

-- ---- the walk for a block

-- a listed record stands before `at`
pub record Kept (w : List ℕ) (at k : ℕ) : Type 0 where
  pub low : 1 ≤ k
  pub before : k < at
  pub here : RecordHere w k

module _ (w : List ℕ) {at end : ℕ} (more : at < end) where
  keep_on : (ks : List ℕ) → All (Kept w at) ks → All (Kept w end) ks
  keep_on [] h = tt
  keep_on (k ∷ ks) h = (record { low = h.0.low; before = omega (arith, h.0.before); here = h.0.here }, keep_on ks h.1)

  keep_one : (ks : List ℕ) → Kept w end at → All (Kept w at) ks → All (Kept w end) (ks ++ (at ∷ []))
  keep_one [] one h = (one, tt)
  keep_one (k ∷ ks) one h = (record { low = h.0.low; before = omega (arith, h.0.before); here = h.0.here }, keep_one ks one h.1)

kept_before : (w : List ℕ) (at : ℕ) (ks : List ℕ) → All (Kept w at) ks → All (λ k. (1 ≤ k) × (k < at)) ks
kept_before w at [] h = tt
kept_before w at (k ∷ ks) h = ((h.0.low, h.0.before), kept_before w at ks h.1)

pub record Blocking (w : List ℕ) (from : ℕ) (article table : List ℕ) (terms : Terms) (last : ℕ) (shared : Shared) (at : ℕ) : Type 0 where
  pub between : Between w at
  pub long : length shared.slots ≡ 99
  pub wide : length shared.noted.rows ≡ most_noted
  pub kept : shared.noted.n ≤ most_noted → All (Kept w at) (noted_in shared)
  pub share : shared.noted.n ≤ most_noted → Sharing w from (λ q. AsksWithin q article table terms last) shared.slots (noted_in shared) at

noted_off : (x : Through) → is_noted x ≡ true → (passing_through x).slot ≡ no_slot
noted_off Never e = refl
noted_off (Always p) e = absurd (false≢true e)
noted_off Sometimes e = refl

module _ (w : List ℕ) (from : ℕ) (article table : List ℕ) (terms : Terms) (last : ℕ) where
  abbrev Within : Question → Type 0
  Within q = AsksWithin q article table terms last

  pub block_start : Between w from → {rows : List ℕ} → length rows ≡ most_noted
      → Blocking w from article table terms last (record { slots = replicate 99 unseen; noted = record { rows = rows; n = 0 } }) from
  block_start b k = record {
    between = b;
    long = length-replicate 99 unseen;
    wide = k;
    kept = λ h. tt;
    share = λ h. share_start w from Within b.low;
  }

  module _ {shared : Shared} {at : ℕ} (inv : Blocking w from article table terms last shared at) where
    abbrev ats : List ℕ
    ats = noted_in shared

    pub block_here : at < length w → RecordHere w at
    block_here h = pass_here inv.between h

    module _ (h : at < length w) {end : ℕ} (stop : StopIs w at end) {x : Through} (pass : PassesThrough article table terms last at (whole kinded (take (end - (at + 2)) (drop (at + 2) w))) x)
        {new : Shared} (took : TookThrough shared at x new) where
      more : at < end
      more = omega (arith, stop.low)

      -- one that is the same on each day
      steady_step : is_noted x ≡ false → (k : shared.noted.n ≤ most_noted) → (q : Question) → Within q → (i : ℕ) → i < no_slot
          → slot_past w q i (get_or new.slots i unseen) ats
          ≡ slot_after i (slot_past w q i (get_or shared.slots i unseen) ats) (passing_in q at (whole kinded (take (end - (at + 2)) (drop (at + 2) w))))
      steady_step e k q a i l =
          ap (λ (s : Seen). slot_past w q i s ats) (took.slots.of i l ∙ after_alike l (get_or shared.slots i unseen) (pass.steady e q a))
          ∙ past_swap l w q (omega (arith, inv.between.low)) (placed q at _) (get_or shared.slots i unseen) ats (kept_before w at ats (inv.kept k))

      -- one that is noted
      noted_step : is_noted x ≡ true → (q : Question) → Within q → (i : ℕ) → i < no_slot
          → slot_past w q i (get_or new.slots i unseen) (ats ++ (at ∷ []))
          ≡ slot_after i (slot_past w q i (get_or shared.slots i unseen) ats) (passing_in q at (whole kinded (take (end - (at + 2)) (drop (at + 2) w))))
      unfolding passing_at
      noted_step e q a i l =
          ap (λ (s : Seen). slot_past w q i s (ats ++ (at ∷ []))) (took.slots.of i l ∙ after_off l (get_or shared.slots i unseen) (passing_through x) (noted_off x e))
          ∙ past_end w q i (get_or shared.slots i unseen) ats at
          ∙ ap (λ (k : ℕ). slot_after i (slot_past w q i (get_or shared.slots i unseen) ats) (passing_in q at (whole kinded (take (k - (at + 2)) (drop (at + 2) w))))) (sym stop.is)

      pub block_turn : Blocking w from article table terms last new end
      block_turn = record {
        between = pass_next inv.between h stop;
        long = took.slots.long ∙ inv.long;
        wide = took.noted.long ∙ inv.wide;
        kept = λ k. subst (All (Kept w end)) (sym (took.noted.is k)) (keeping (is_noted x) (inv.kept (took.noted.few k)));
        share = λ k. subst (λ (ks : List ℕ). Sharing w from Within new.slots ks end) (sym (took.noted.is k)) (sharing (is_noted x) refl (took.noted.few k));
      }
        where
          keeping : (b : Bool) → All (Kept w at) ats → All (Kept w end) (cond b (ats ++ (at ∷ [])) ats)
          keeping true all = keep_one w more ats (record { low = omega (arith, inv.between.low); before = more; here = block_here h }) all
          keeping false all = keep_on w more ats all

          sharing : (b : Bool) → is_noted x ≡ b → shared.noted.n ≤ most_noted → Sharing w from Within new.slots (cond b (ats ++ (at ∷ [])) ats) end
          sharing true e k = share_turn w from Within inv.between (inv.share k) h stop (noted_step e)
          sharing false e k = share_turn w from Within inv.between (inv.share k) h stop (steady_step e k)

    pub block_end : length w ≤ at → SharedFor w from article table terms last shared
    block_end h = record {
      on = λ d low high. record {
        here = λ k. record { here = λ j l. (all_at (Kept w at) ats 0 (inv.kept k) j l).here };
        of = λ k q a. share_end w from Within inv.between (inv.share k) h q (record { day = d; low = low; high = high; asks = a });
      };
    }

-- ---- the noted rows on a day

-- the first k of them have gone by
pub record Adding (w : List ℕ) (shared : List Seen) (ats article table : List ℕ) (terms : Terms) (slots : List Seen) (k : ℕ) : Type 0 where
  pub long : length slots ≡ 99
  pub stand : AllStand w ats
  pub most : k ≤ length ats
  pub rest : (q : Question) → Asks q article table terms → (i : ℕ) → i < no_slot
      → slot_past w q i (get_or slots i unseen) (drop k ats) ≡ slot_past w q i (get_or shared i unseen) ats

module _ (w : List ℕ) (shared : List Seen) (ats article table : List ℕ) (terms : Terms) where
  pub add_start : length shared ≡ 99 → AllStand w ats → Adding w shared ats article table terms shared 0
  add_start e l = record { long = e; stand = l; most = omega arith; rest = λ q a i m. refl }

  module _ {slots : List Seen} {k : ℕ} (inv : Adding w shared ats article table terms slots k) where
    pub add_here : k < length ats → RecordHere w (get_or ats k 0)
    add_here h = inv.stand.here k h

    pub add_turn : k < length ats → {end : ℕ} → StopIs w (get_or ats k 0) end
        → {p : Std.Option Passing} → Passes article table terms (get_or ats k 0) (whole kinded (take (end - (get_or ats k 0 + 2)) (drop (get_or ats k 0 + 2) w))) p
        → {slots' : List Seen} → TookIn slots (going p) slots' → Adding w shared ats article table terms slots' (k + 1)
    unfolding slot_past passing_at
    add_turn h {end} stop {p} pass {slots'} took = record {
      long = took.long ∙ inv.long;
      stand = inv.stand;
      most = omega arith;
      rest = λ q a i l.
          let e : k + 1 ≡ suc k = omega arith in
          let now : get_or slots' i unseen ≡ slot_after i (get_or slots i unseen) (passing_at w q (get_or ats k 0)) =
          took.of i l
          ∙ after_alike l (get_or slots i unseen) (pass.of q a)
          ∙ ap (λ (j : ℕ). slot_after i (get_or slots i unseen) (passing_in q (get_or ats k 0) (whole kinded (take (j - (get_or ats k 0 + 2)) (drop (get_or ats k 0 + 2) w))))) stop.is in
          (λ j. slot_past w q i (now j) (drop (e j) ats))
          ∙ ap (slot_past w q i (get_or slots i unseen)) (sym (drop-cons ats k 0 h))
          ∙ inv.rest q a i l;
    }

    pub add_end : length ats ≤ k → SlotsAfter w shared ats article table terms slots
    unfolding slot_past
    add_end h = record {
      long = inv.long;
      of = λ q a i l.
          let e : k ≡ length ats = omega (arith, inv.most) in
          ap (slot_past w q i (get_or slots i unseen)) (sym (ap (λ (j : ℕ). drop j ats) e ∙ drop-length ats))
          ∙ inv.rest q a i l;
    }

-- with them the slots are those of the day
pub slots_on : {w : List ℕ} {from : ℕ} {article table : List ℕ} {terms : Terms} {shared : Shared} → SharedOn w from article table terms shared → shared.noted.n ≤ most_noted
    → {r : List Seen} → SlotsAfter w shared.slots (noted_in shared) article table terms r → SlotsFor w (rows (records_left w from)) article table terms r
slots_on {w} {from} h k after = record {
  of = λ q a. record {
    long = after.long;
    each = λ level place l m.
        let j : level * 33 + place < 99 = omega arith in
        subst (λ (s : Seen). SeenIs w s (seen_of q (rows (records_left w from)) level place)) (sym (after.of q a (level * 33 + place) j)) (h.of k q a level place l m);
  };
}
