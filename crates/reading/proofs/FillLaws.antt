-- From one record to the next: what was written stands in front, what is wanted behind it.
use Prim.Native.Nat.{ℕ, ◌+◌, ◌≤◌}
use mathlib.Core.Path.{◌≡◌, refl, sym, ◌∙◌, ap, ap₂}
use mathlib.Core.List.{List, [], ◌∷◌, ◌++◌, append_assoc}
use native.Mathlib.Omega.{arith}
use lib.ListN.{length, take, drop, length-append, length-drop, drop_of_length-le}
use lib.Seq.{take_at, drop_at}
use Rattle.rules.specs.Refusals.{over}
use Rattle.file_rules.specs.Fields.{lines_of}
use Rattle.file_rules.specs.PriceFile.{lines_from}
use Rattle.layout.specs.Ensures.{Puts, PutsTo}
use Rattle.reading.specs.Rows.{rows_in, Good, records_at, Filling}

-- bytes put over others of the same length
pub replaced : (done piece more : List ℕ) {out bs new : List ℕ} {at : ℕ} → out ≡ done ++ (piece ++ more) → length done ≡ at → length piece ≡ length bs
    → Puts out at bs new
    → new ≡ done ++ (bs ++ more)
replaced done piece more {out} {bs} {new} {at} i d e p =
    let front : take at out ≡ done = ap (take at) i ∙ take_at done (piece ++ more) at d in
    let behind : drop (at + length bs) out ≡ more =
    ap (drop (at + length bs)) (i ∙ sym (append_assoc done piece more))
    ∙ drop_at (done ++ piece) more (at + length bs) (length-append done piece ∙ omega arith) in
    p.is ∙ ap₂ (λ (s u : List ℕ). s ++ (bs ++ u)) front behind

module _ {file wanted : List ℕ} {d : ℕ} {out : List ℕ} {at to : ℕ} {met : List (List ℕ)} (piece under : List ℕ)
    (f : Filling file wanted d out at to met (piece ++ under)) where
  pub fill_on : {next e : ℕ} {bs new : List ℕ} (later : List (List ℕ)) → Good (drop next file) → next ≤ length file + 1
      → records_at d met (rows_in (drop at file)) ≡ bs ++ records_at d later (rows_in (drop next file)) → length piece ≡ length bs
      → PutsTo out to bs new e
      → Filling file wanted d new next e later under
  fill_on {next} {e} {bs} {new} later g w r l p =
      record {
        done = f.done ++ bs;
        tail = f.tail;
        good = g;
        is =
            replaced f.done piece (under ++ f.tail) (f.is
            ∙ ap (λ (s : List ℕ). f.done ++ s) (append_assoc piece under f.tail)) f.place l p.puts
            ∙ sym (append_assoc f.done bs (under ++ f.tail));
        place = length-append f.done bs ∙ omega (arith, f.place, p.ends);
        long = omega (arith, f.long, length-append piece under, ap length r, length-append bs (records_at d later (rows_in (drop next file))));
        rest = append_assoc f.done bs (records_at d later (rows_in (drop next file)) ++ f.tail)
            ∙ (ap (λ (s : List ℕ). f.done ++ s) (sym (append_assoc bs (records_at d later (rows_in (drop next file))) f.tail)
            ∙ ap (λ (s : List ℕ). s ++ f.tail) (sym r)) ∙ f.rest);
        within = w;
      }

  -- what stands there is what is wanted
  pub fill_same : {next e : ℕ} (later : List (List ℕ)) → Good (drop next file) → next ≤ length file + 1
      → records_at d met (rows_in (drop at file)) ≡ piece ++ records_at d later (rows_in (drop next file)) → e ≡ to + length piece
      → Filling file wanted d out next e later under
  fill_same {next} {e} later g w r p =
      record {
        done = f.done ++ piece;
        tail = f.tail;
        good = g;
        is = f.is ∙ (ap (λ (s : List ℕ). f.done ++ s) (append_assoc piece under f.tail) ∙ sym (append_assoc f.done piece (under ++ f.tail)));
        place = length-append f.done piece ∙ omega (arith, f.place);
        long = omega (arith, f.long, length-append piece under, ap length r, length-append piece (records_at d later (rows_in (drop next file))));
        rest = append_assoc f.done piece (records_at d later (rows_in (drop next file)) ++ f.tail)
            ∙ (ap (λ (s : List ℕ). f.done ++ s) (sym (append_assoc piece (records_at d later (rows_in (drop next file))) f.tail)
            ∙ ap (λ (s : List ℕ). s ++ f.tail) (sym r)) ∙ f.rest);
        within = w;
      }

-- behind the last line there are no rows
pub no_rows : (file : List ℕ) (at : ℕ) → length file ≤ at → rows_in (drop at file) ≡ []
unfolding rows_in lines_from lines_of
no_rows file at h = ap rows_in (drop_of_length-le file {i = at} h)

pub fill_end : {file wanted : List ℕ} {d : ℕ} {out : List ℕ} {at to : ℕ} {met : List (List ℕ)} {under : List ℕ}
    → Filling file wanted d out at to met under → length file ≤ at → out ≡ wanted
unfolding records_at
fill_end {file} {d = d} {at = at} {met = met} {under = under} f h =
    let none : records_at d met (rows_in (drop at file)) ≡ [] = ap (records_at d met) (no_rows file at h) in
    f.is ∙ (ap (λ (s : List ℕ). f.done ++ (s ++ f.tail)) (empty under (f.long ∙ ap length none) ∙ sym none) ∙ f.rest)
  where
    empty : (s : List ℕ) → length s ≡ 0 → s ≡ []
    empty [] e = refl
    empty (b ∷ s) e = absurd (omega arith)

-- as much stands there as is wanted
pub fill_long : {file wanted : List ℕ} {d : ℕ} {out : List ℕ} {at to : ℕ} {met : List (List ℕ)} {under : List ℕ}
    → Filling file wanted d out at to met under → length out ≡ length wanted
fill_long {file} {d = d} {at = at} {met = met} {under = under} f =
    let a : length (f.done ++ (under ++ f.tail)) ≡ length f.done + length (under ++ f.tail) = length-append f.done (under ++ f.tail) in
    let b : length (under ++ f.tail) ≡ length under + length f.tail = length-append under f.tail in
    let rows : List ℕ = records_at d met (rows_in (drop at file)) in
    let x : length (f.done ++ (rows ++ f.tail)) ≡ length f.done + length (rows ++ f.tail) = length-append f.done (rows ++ f.tail) in
    let y : length (rows ++ f.tail) ≡ length rows + length f.tail = length-append rows f.tail in
    omega (arith, ap length f.is, ap length f.rest, f.long)

pub over_long : (bs old : List ℕ) → length bs ≤ length old → length (over bs old) ≡ length old
over_long bs old h = length-append bs (drop (length bs) old) ∙ omega (arith, length-drop (length bs) old)
