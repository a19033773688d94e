-- The lines of all stretches one behind the other, or the refusal: what the program prints.
use Prim.Native.Nat.{ℕ, ◌+◌, ◌*◌, ◌-◌, ◌≤◌, ◌<◌}
use mathlib.Core.Path.{◌≡◌, refl, sym, ◌∙◌, ap, subst}
use mathlib.Core.Bool.{Bool, true, false, cond}
use mathlib.Core.List.{List, [], ◌∷◌, ◌++◌, map, append-nil, append_assoc}
use native.Mathlib.Omega.{arith}
use native.Mathlib.Numerals.{add-one}
use lib.Dec.{eqb, leb}
use lib.ListN.{length, take, drop, get_or, replicate, length-drop, length-map, get_or-map}
use lib.Seq.{take-suc, take_all, get_or-take, length-take-le, take_at}
use borrow.Author.Tests.{eq-eqb, ne_eqb, le-leb, lt-leb}
use Rattle.rules.specs.Lists.{join}
use Rattle.rules.specs.Letters.{text}
use Rattle.rules.specs.Calendar.{Stretch, calendar, stretches_bytes, most_days, listing, finished}
use Rattle.rules.specs.Bytes.{own_length}
use Rattle.rules.specs.Program.{digits, decimal, stretch_text, end_of, asked, printed, output, most_input}
use Rattle.rules.specs.Refusals.{Result, done, refused, over}
use Rattle.layout.proofs.StoreLaws.{puts_front}
use Rattle.stretches.specs.declared.Stretch as Declared
use Rattle.stretches.specs.declared.Stretches.{Stretches}
use Rattle.stretches.specs.Stretches.{as_stretch, no_stretch}
use Rattle.calendar.specs.declared.listing.Listing.{Listing}
use Rattle.calendar.specs.Listing.{stretches_in, listed, ListingIs, Refused}
use Rattle.calendar.proofs.ByteLaws.{stretches_count, bytes_length}
use Rattle.calendar.proofs.CallLaws.{two_parts}
use Rattle.printing.specs.declared.output.Printed.{Printed}
use Rattle.layout.specs.Ensures.{PutsTo}
use Rattle.printing.specs.Input.{FrontIs}
use Rattle.printing.specs.Output.{lines_text, listed_text, Few, Printable, Printing, OutputIs}
use Rattle.printing.proofs.DigitLaws.{prints_none, prints_then, few_digits}
use Rattle.printing.proofs.LineLaws.{line_short}

-- ---- line after line

join_append : (xs : List (List ℕ)) (y : List ℕ) → join (xs ++ (y ∷ [])) ≡ join xs ++ y
join_append [] y = append-nil y
join_append (x ∷ xs) y = ap (λ zs. x ++ zs) (join_append xs y) ∙ sym (append_assoc x (join xs) y)

map_append : (f : Declared.Stretch → List ℕ) (xs : List Declared.Stretch) (y : Declared.Stretch) → map f (xs ++ (y ∷ [])) ≡ map f xs ++ (f y ∷ [])
map_append f [] y = refl
map_append f (x ∷ xs) y = ap (λ zs. f x ∷ zs) (map_append f xs y)

map_twice : (f : Stretch → List ℕ) (g : Declared.Stretch → Stretch) (xs : List Declared.Stretch) → map (λ s. f (g s)) xs ≡ map f (map g xs)
map_twice f g [] = refl
map_twice f g (x ∷ xs) = ap (λ zs. f (g x) ∷ zs) (map_twice f g xs)

module _ {old : List ℕ} {ss : List Declared.Stretch} where
  pub print_start : Printable old ss → Printing old ss old 0 0
  print_start p = record {
    place = omega arith;
    printable = p;
    short = omega arith;
    so_far = prints_none old 0 (omega arith);
  }

  module _ {out : List ℕ} {at i : ℕ} (w : Printing old ss out at i) where
    pub print_room : i < length ss → at + 89 ≤ length out
    print_room h = omega (arith, w.short, w.printable.few, w.printable.room, w.so_far.puts.long)

    pub print_again : i < length ss → {new : List ℕ} {end : ℕ} → PutsTo out at (stretch_text (as_stretch (get_or ss i no_stretch))) new end → Printing old ss new end (i + 1)
    print_again h {new} {end} p =
        let next : Declared.Stretch = get_or ss i no_stretch in
        let line : Declared.Stretch → List ℕ = λ s. stretch_text (as_stretch s) in
        let taken : take (i + 1) ss ≡ take i ss ++ (next ∷ []) = ap (λ (k : ℕ). take k ss) (add-one i) ∙ take-suc ss i no_stretch h in
        record {
          place = omega arith;
          printable = w.printable;
          short = omega (arith, w.short, p.ends, line_short next);
          so_far = subst (λ (bs : List ℕ). PutsTo old 0 bs new end)
              (sym (ap lines_text taken ∙ ap join (map_append line (take i ss) next) ∙ join_append (map line (take i ss)) (line next)))
              (prints_then w.so_far p);
        }

    pub print_end : length ss ≤ i → PutsTo old 0 (lines_text ss) out at
    print_end h = subst (λ (xs : List Declared.Stretch). PutsTo old 0 (lines_text xs) out at) (take_all i ss h) w.so_far

-- ---- the refusal

module _ {out : List ℕ} (h : 97544 ≤ length out) (number : ℕ) {front : List ℕ} {behind : ℕ} (p : PutsTo out 0 (text "refusal ") front behind) where
  pub number_room : behind + 20 ≤ length front
  number_room = omega (arith, p.ends, p.puts.long)

  module _ {next : List ℕ} {end : ℕ} (q : PutsTo front behind (digits 20 number) next end) where
    pub end_room : end < length next
    end_room = omega (arith, p.ends, p.puts.long, q.puts.long, q.ends, few_digits 20 number)

    pub refusal_prints : {last : List ℕ} {r : ℕ} → PutsTo next end (10 ∷ []) last r → PutsTo out 0 (text "refusal " ++ (decimal number ++ text "\n")) last r
    refusal_prints l = prints_then p (prints_then q l)

-- ---- either

module _ (l : Listing) {out new : List ℕ} {r : ℕ} where
  pub lists_lines : l.number ≡ 0 → {ss : List Declared.Stretch} → ss ≡ take l.stretches.n l.stretches.list → PutsTo out 0 (lines_text ss) new r → PutsTo out 0 (listed_text l) new r
  lists_lines z {ss} e p =
      let same : lines_text ss ≡ join (map stretch_text (stretches_in l.stretches)) = ap lines_text e ∙ ap join (map_twice stretch_text as_stretch (take l.stretches.n l.stretches.list)) in
      rw (eq-eqb l.number 0 z) (subst (λ (bs : List ℕ). PutsTo out 0 bs new r) same p)

  pub lists_refusal : (l.number ≡ 0 → ⊥) → PutsTo out 0 (text "refusal " ++ (decimal l.number ++ text "\n")) new r → PutsTo out 0 (listed_text l) new r
  lists_refusal z p = rw (ne_eqb l.number 0 z) p

pub can_print : {l : Listing} → Few l → {out : List ℕ} → 97544 ≤ length out → {ss : List Declared.Stretch} → ss ≡ take l.stretches.n l.stretches.list → Printable out ss
can_print {l} f h e = record { few = rw e (rw (length-take-le l.stretches.n l.stretches.list (omega (arith, f.few, f.long))) f.few); room = h }

pub few_listed : {o : Result (List Stretch)} {l : Listing} → ListingIs o l → Few l
few_listed h = record { long = h.long; few = h.few }

-- ---- what is asked of the input

-- no calendar of at most 1,096 stretches is refused for its room
fits_all : (ss : List Stretch) → length ss ≤ most_days → length (stretches_bytes ss) ≡ 20 * length ss → finished (λ ss. length (stretches_bytes ss)) (20 * most_days) (done ss) ≡ done ss
unfolding finished
fits_all ss h e =
    let b : leb (length (stretches_bytes ss)) (20 * most_days) ≡ true = le-leb (length (stretches_bytes ss)) (20 * most_days) (omega arith) in
    rw b

listed_fits : (l : Listing) → l.stretches.n ≤ length l.stretches.list → l.stretches.n ≤ most_days → finished (λ ss. length (stretches_bytes ss)) (20 * most_days) (listed l) ≡ listed l
unfolding finished
listed_fits l k h = go (eqb l.number 0)
  where
    count : length (stretches_in l.stretches) ≡ l.stretches.n
    count = stretches_count l.stretches k

    go : (b : Bool) → finished (λ ss. length (stretches_bytes ss)) (20 * most_days) (cond b (done (stretches_in l.stretches)) (refused l.number)) ≡ cond b (done (stretches_in l.stretches)) (refused l.number)
    go true = fits_all (stretches_in l.stretches) (omega (arith, count)) (bytes_length (take l.stretches.n l.stretches.list) ∙ ap (λ (j : ℕ). 20 * j) (sym (length-map (take l.stretches.n l.stretches.list) as_stretch)))
    go false = refl

-- the bytes behind a place, as a part
abbrev rest : List ℕ → ℕ → List ℕ
rest s k = take (length s - k) (drop k s)

whole_rest : (s : List ℕ) (k : ℕ) → rest s k ≡ drop k s
whole_rest s k = take_all (length s - k) (drop k s) (rw length-drop (omega arith))

pub front_size : {s : List ℕ} {r : ℕ} → FrontIs s r → r ≡ length (take r s)
front_size {s} {r} f = sym (length-take-le r s f.fits)

module _ (input : List ℕ) where
  pub too_long : most_input < length input → {l : Listing} → Refused 1 l → ListingIs (asked input) l
  unfolding asked
  too_long h r = let e : leb (length input) most_input ≡ false = lt-leb (length input) most_input h in record {
    long = r.long;
    few = r.few;
    behind = r.behind;
    empty = r.empty;
    is = rw e (sym r.is);
  }

  module _ (h : length input ≤ most_input) {b : ℕ} (f : FrontIs input b) {q : ℕ} (g : FrontIs (rest input b) q) {end : ℕ} (e : end ≡ end_of (rest (rest input b) q)) where
    pub asks_listing : {l : Listing} → ListingIs (listing (take b input) (take q (rest input b)) end) l → ListingIs (asked input) l
    unfolding asked
    asks_listing {l} i =
        let t : leb (length input) most_input ≡ true = le-leb (length input) most_input h in
        let behind : rest input b ≡ drop (own_length input) input = whole_rest input b ∙ f.rest in
        let question : take q (rest input b) ≡ take (own_length (drop (own_length input) input)) (drop (own_length input) input) = g.front ∙ (λ j. take (own_length (behind j)) (behind j)) in
        let last : end ≡ end_of (drop (own_length (drop (own_length input) input)) (drop (own_length input) input)) = e ∙ ap end_of (whole_rest (rest input b) q ∙ g.rest ∙ (λ j. drop (own_length (behind j)) (behind j))) in
        let whole : finished (λ ss. length (stretches_bytes ss)) (20 * most_days) (listing (take b input) (take q (rest input b)) end) ≡ listed l =
        ap (finished (λ ss. length (stretches_bytes ss)) (20 * most_days)) i.is ∙ listed_fits l (omega (arith, i.few, i.long)) i.few in
        record {
          long = i.long;
          few = i.few;
          behind = i.behind;
          empty = i.empty;
          is = rw t ((λ j. calendar (sym f.front j) (sym question j) (sym last j) (20 * most_days)) ∙ two_parts stretches_bytes (take b input) (take q (rest input b)) end (20 * most_days) ∙ whole);
        }

-- ---- all of it

pub output_is : (input : List ℕ) {l : Listing} → ListingIs (asked input) l → {new : List ℕ} {n : ℕ} → PutsTo (replicate 97544 0) 0 (listed_text l) new n → OutputIs input (record { bytes = new; n = n })
unfolding output
output_is input {l} i {new} {n} p =
    let e : n ≡ length (listed_text l) = p.ends ∙ omega arith in
    record {
      all = puts_front p.puts ∙ ap (λ (bs : List ℕ). over bs (replicate 97544 0)) (ap printed (sym i.is));
      is = ap (take n) (puts_front p.puts) ∙ take_at (listed_text l) _ n (sym e) ∙ ap printed (sym i.is);
      within = omega (arith, p.ends, p.puts.room, p.puts.long);
    }

-- so many bytes there are to write
pub printed_size : {input : List ℕ} {r : Printed} → OutputIs input r → r.n ≡ length (take r.n r.bytes)
printed_size {input} {r} o = sym (length-take-le r.n r.bytes o.within)
