-- The answers in bytes: one by its fields, and one behind the other; and how many lines go with them.
use Prim.Native.Nat.{ℕ, zero, suc, ◌+◌, ◌*◌, ◌≤◌, ◌<◌}
use mathlib.Core.Path.{◌≡◌, refl, sym, ◌∙◌, ap, subst}
use mathlib.Core.Bool.{Bool, true, false}
use mathlib.Core.List.{List, [], ◌∷◌, ◌++◌, map, append_assoc, append-nil}
use native.Mathlib.Omega.{arith}
use native.Mathlib.Nat.{zero-add}
use native.Mathlib.Numerals.{add-one}
use lib.ListN.{length, take, drop, get_or, replicate, length-append, length-map, length-replicate, drop_of_length-le}
use lib.Seq.{drop-cons, take_all, take_at, length-take-le}
use Rattle.std.specs.Prelude.{Some, None}
use Rattle.std.specs.Prelude as Std
use Rattle.rules.specs.Lists.{join}
use Rattle.rules.specs.Bytes.{bytes_of, signed_bytes_of}
use Rattle.rules.specs.Lines.{line_size}
use Rattle.rules.specs.Price.{answered}
use Rattle.rules.specs.Basket.{answer_bytes, answer_in, lines_in}
use Rattle.rules.specs.declared.PriceAnswer.{PriceAnswer}
use Rattle.rules.proofs.BasketLaws.{answer_bytes_lem}
use Rattle.layout.specs.Ensures.{Puts, PutsTo}
use Rattle.layout.specs.Records.{records_left}
use Rattle.layout.proofs.StoreLaws.{puts_then}
use Rattle.layout.proofs.PileLaws.{Piling, pile_start, pile_again, pile_end}
use Rattle.questions.specs.declared.Lent.{Lent}
use Rattle.questions.specs.Questions.{no_question}
use Rattle.wanted.specs.declared.Sights.{Sights}
use Rattle.price.specs.declared.answered.Answered.{Answered}
use Rattle.price.specs.Answered.{PutsIfRoom, AnsweredIs}
use Rattle.basket.specs.Basket.{Basketed, question_at, outcomes, all_lines, totals_bytes, AnswerPut, Kept, AnswersAre}
use Rattle.basket.proofs.AskedLaws.{outcomes_count, answers_size, nth}

-- ---- an answer

pub totals_put : (a : PriceAnswer) {s₀ s₁ s₂ s₃ : List ℕ} {at e : ℕ} → PutsTo s₀ at (replicate 1 a.number) s₁ e
    → Puts s₁ (at + 1) (signed_bytes_of 8 a.unit) s₂ → Puts s₂ (at + 9) (signed_bytes_of 8 a.total) s₃ → Puts s₀ at (totals_bytes a) s₃
totals_put a {at = at} p q r = let nine : at + 1 + 8 ≡ at + 9 = omega arith in puts_then p.puts refl (puts_then q nine r)

module _ (a : PriceAnswer) (three : length a.currency ≡ 3) where
  -- the same bytes, the first three fields apart
  parted : totals_bytes a ++ (a.currency ++ (bytes_of 8 a.lines ++ (bytes_of 4 a.unused ++ replicate 1 a.unused_count))) ≡ answer_bytes a
  parted = ap (λ (l : List ℕ). a.number ∷ l) (append_assoc (signed_bytes_of 8 a.unit) (signed_bytes_of 8 a.total) _)

  pub answer_put : {s₀ s₁ s₂ s₃ s₄ s₅ : List ℕ} {at e f : ℕ} → Puts s₀ at (totals_bytes a) s₁ → PutsTo s₁ (at + 17) a.currency s₂ e
      → Puts s₂ (at + 20) (bytes_of 8 a.lines) s₃ → Puts s₃ (at + 28) (bytes_of 4 a.unused) s₄ → PutsTo s₄ (at + 32) (replicate 1 a.unused_count) s₅ f
      → AnswerPut s₀ at a s₅
  answer_put {s₀} {s₅ = s₅} {at = at} p q r t u =
      let twenty : at + 17 + length a.currency ≡ at + 20 = omega (arith, three) in
      let next : at + 20 + 8 ≡ at + 28 = omega arith in
      let last : at + 28 + 4 ≡ at + 32 = omega arith in
      record {
        puts = subst (λ (l : List ℕ). Puts s₀ at l s₅) parted (puts_then p refl (puts_then q.puts twenty (puts_then r next (puts_then t last u.puts))));
        size = answer_bytes_lem a three;
      }

-- ---- lines that are kept

joined_next : (xs : List (List ℕ)) (j : ℕ) (d : List ℕ) → j < length xs → join (take (suc j) xs) ≡ join (take j xs) ++ get_or xs j d
joined_next [] j d h = absurd (omega arith)
joined_next (x ∷ xs) zero d h = append-nil x
joined_next (x ∷ xs) (suc j) d h = ap (λ (l : List ℕ). x ++ l) (joined_next xs j d (omega arith)) ∙ sym (append_assoc x (join (take j xs)) (get_or xs j d))

-- what is put behind what is there is there behind it
put_behind : {old bytes new : List ℕ} {at r : ℕ} → PutsTo old at bytes new r → take r new ≡ take at old ++ bytes
put_behind {old} {bytes} {new} {at} {r} p =
    let front = take at old in
    let size : length (front ++ bytes) ≡ r = length-append front bytes ∙ omega (arith, p.ends, p.puts.room, length-take-le at old (omega (arith, p.puts.room))) in
    ap (take r) (p.puts.is ∙ sym (append_assoc front bytes (drop (at + length bytes) old))) ∙ take_at (front ++ bytes) (drop (at + length bytes) old) r size

kept_next : (xs : List (List ℕ)) (j : ℕ) (d : List ℕ) → j < length xs → (kept new : List ℕ) (end r : Std.Option ℕ) → Kept kept end (join (take j xs))
    → PutsIfRoom kept end (get_or xs j d) new r → Kept new r (join (take (j + 1) xs))
kept_next xs j d h kept new None r k p = rw p.0 tt
kept_next xs j d h kept new (Some at) None k p = tt
kept_next xs j d h kept new (Some at) (Some r) k p = record {
  fits = omega (arith, p.put.ends, p.put.puts.long, p.fits);
  is =
      put_behind p.put
      ∙ (ap (λ (x : List ℕ). x ++ get_or xs j d) k.is ∙ sym (joined_next xs j d h) ∙ ap (λ (i : ℕ). join (take i xs)) (sym (add-one j)));
}

-- and the whole is as long as it was
put_long : (old bytes new : List ℕ) (start r : Std.Option ℕ) → PutsIfRoom old start bytes new r → length new ≡ length old
put_long old bytes new None r p = ap length p.1
put_long old bytes new (Some at) None p = ap length p.same
put_long old bytes new (Some at) (Some r) p = p.put.puts.long

kept_as : (kept : List ℕ) {bytes bytes' : List ℕ} (end : Std.Option ℕ) → bytes ≡ bytes' → Kept kept end bytes → Kept kept end bytes'
kept_as kept end e k = subst (Kept kept end) e k

-- ---- one behind the other

-- j answers are there, so many lines go with them, and these are kept
pub record Answering (b s : List ℕ) (ls : List Lent) (found : Sights) (old kept bytes : List ℕ) (lines : ℕ) (end : Std.Option ℕ) (j : ℕ) : Type 0 where
  pub basket : Basketed b s ls found
  pub few : length ls ≤ 200
  pub place : j ≤ length ls
  pub pile : Piling (replicate 6600 0) 0 (map answer_in (outcomes b s)) bytes (33 * j) j
  pub long : length bytes ≡ 6600
  pub left : line_size * lines + length (join (drop j (map lines_in (outcomes b s)))) ≡ length (all_lines b s)
  pub most : lines ≤ 99 * j
  pub same : length kept ≡ length old
  pub keeps : Kept kept end (join (take j (map lines_in (outcomes b s))))

module _ {b s : List ℕ} {ls : List Lent} {found : Sights} where
  pub answers_start : Basketed b s ls found → (kept : List ℕ) → Answering b s ls found kept kept (replicate 6600 0) 0 (Some 0) 0
  answers_start bk kept =
      let room : length {A = ℕ} (replicate 6600 0) ≡ 6600 = length-replicate {A = ℕ} 6600 0 in
      record {
        basket = bk;
        few = bk.few;
        place = omega arith;
        pile = pile_start (replicate 6600 0) 0 (map answer_in (outcomes b s)) (omega (arith, answers_size bk, bk.few, room));
        long = room;
        left = zero-add (length (all_lines b s));
        most = omega arith;
        same = refl;
        keeps = record { fits = omega arith; is = refl };
      }

  module _ {old kept bytes : List ℕ} {lines : ℕ} {end : Std.Option ℕ} {j : ℕ} (inv : Answering b s ls found old kept bytes lines end j) where
    pub answers_room : j < length ls → 33 * j + 33 ≤ length bytes
    answers_room h = omega (arith, inv.few, inv.long)

    pub answers_again : j < length ls → {whole : Answered} {after new : List ℕ} → AnsweredIs (records_left b 5) (question_at s ls j) kept end after whole
        → AnswerPut bytes (33 * j) whole.answer new → Answering b s ls found old after new (lines + whole.answer.lines) whole.end (j + 1)
    answers_again h {whole} {after} {new} is put =
        let answer = whole.answer in
        let told = is.told in
        let d = answered (records_left b 5) no_question in
        let answers = map answer_in (outcomes b s) in
        let lists = map lines_in (outcomes b s) in
        let own : get_or answers j (answer_in d) ≡ answer_bytes answer = nth inv.basket j h answer_in ∙ ap answer_bytes (sym told.is) in
        let count : length answers ≡ length ls = length-map (outcomes b s) answer_in ∙ outcomes_count inv.basket in
        let size : length (get_or answers j (answer_in d)) ≡ 33 = ap length own ∙ put.size in
        let count₂ : length lists ≡ length ls = length-map (outcomes b s) lines_in ∙ outcomes_count inv.basket in
        let next : join (drop j lists) ≡ get_or lists j (lines_in d) ++ join (drop (j + 1) lists) =
        ap join (drop-cons lists j (lines_in d) (omega (arith, count₂))) ∙ ap (λ (k : ℕ). get_or lists j (lines_in d) ++ join (drop k lists)) (sym (add-one j)) in
        let own₂ : length (get_or lists j (lines_in d)) ≡ line_size * answer.lines = ap length (nth inv.basket j h lines_in) ∙ sym told.size in
        let piled : PutsTo bytes (33 * j) (get_or answers j (answer_in d)) new (33 * (j + 1)) =
        record { puts = subst (λ (x : List ℕ). Puts bytes (33 * j) x new) (sym own) put.puts; ends = omega (arith, size) } in
        record {
          basket = inv.basket;
          few = inv.few;
          place = omega arith;
          pile = pile_again (replicate 6600 0) 0 answers inv.pile (omega (arith, count)) (answer_in d) piled;
          long = put.puts.long ∙ inv.long;
          left = omega (arith, inv.left, ap length next, length-append (get_or lists j (lines_in d)) (join (drop (j + 1) lists)), own₂);
          most = omega (arith, inv.most, told.few);
          same = put_long kept _ after end whole.end is.lines ∙ inv.same;
          keeps = kept_next lists j (lines_in d) (omega (arith, count₂)) kept after end whole.end inv.keeps
              (subst (λ (x : List ℕ). PutsIfRoom kept end x after whole.end) (sym (nth inv.basket j h lines_in)) is.lines);
        }

    pub answers_end : length ls ≤ j → AnswersAre b s kept (record { bytes = bytes; lines = lines; end = end })
    answers_end h =
        let count : length (map answer_in (outcomes b s)) ≡ length ls = length-map (outcomes b s) answer_in ∙ outcomes_count inv.basket in
        let count₂ : length (map lines_in (outcomes b s)) ≡ length ls = length-map (outcomes b s) lines_in ∙ outcomes_count inv.basket in
        let none = drop_of_length-le (map lines_in (outcomes b s)) {i = j} (omega (arith, count₂)) in
        record {
          bytes = (pile_end (replicate 6600 0) 0 (map answer_in (outcomes b s)) inv.pile (omega (arith, count))).puts;
          size = answers_size inv.basket ∙ ap (λ (k : ℕ). 33 * k) (sym inv.basket.count);
          lines = omega (arith, inv.left, ap (λ (l : List (List ℕ)). length (join l)) none);
          few = omega (arith, inv.most, inv.place, inv.basket.count);
          keeps = kept_as kept end (ap join (take_all j (map lines_in (outcomes b s)) (omega (arith, count₂)))) inv.keeps;
        }
