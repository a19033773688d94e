-- A name at a place, as one of many: where it ends, or that there is none, and how many bytes one has that stands there.
use Prim.Native.Nat.{ℕ, ◌+◌, ◌<◌}
use mathlib.Core.Path.{◌≡◌, refl, sym, ◌∙◌, subst}
use mathlib.Core.Bool.{true}
use mathlib.Core.List.{List}
use mathlib.Core.Option.{none-ne-some}
use mathlib.Core.Logic.{◌⊎◌, inl, inr}
use native.Mathlib.Omega.{arith}
use native.Mathlib.Decide.{dec_lt}
use lib.Dec.{ltb}
use lib.ListN.{length, get_or}
use borrow.Author.Tests.{lt-ltb}
use Rattle.rules.specs.Lists.{between}
use Rattle.rules.specs.Layout.{byte}
use Rattle.rules.specs.Bytes.{name}
use Rattle.layout.specs.Reads.{Reads, part, name_stop, name_at}
use Rattle.layout.specs.Counted.{Ends}
use Rattle.layout.specs.Ensures.{NameEnd}
use Rattle.layout.proofs.LayoutLaws.{such_reads, reads_as, byte_at}
use Rattle.layout.proofs.NameLaws.{name_cases}
use Rattle.layout.proofs.ReadingLaws.{same_stop, then_good}
use Rattle.layout.proofs.CountedLaws.{ends_none, SomeEnd}

pub name_ends : {lo hi : ℕ} {s : List ℕ} {at r : ℕ} → NameEnd lo hi s at r → Ends (name lo hi) name_at name_stop s at r
name_ends {lo} {hi} {s} {at} {r} p = go (dec_lt 0 r)
  where
    stops : 0 < r → r ≡ name_stop s at
    stops h = by (name_cases lo hi s at)
      where
        here : Reads (name lo hi) s at true (part s (at + 1) r) r
        here = reads_as p.reads (lt-ltb 0 r h) refl

        by : NameEnd lo hi s at 0 ⊎ NameEnd lo hi s at (name_stop s at) → r ≡ name_stop s at
        by (inl q) = absurd (none-ne-some _ (sym q.reads.is ∙ here.is))
        by (inr q) = same_stop here (reads_as q.reads (lt-ltb 0 (name_stop s at) (omega arith)) refl) p.fits q.fits

    go : Dec (0 < r) → Ends (name lo hi) name_at name_stop s at r
    go (yes h) = record {
      reads = subst (λ (q : ℕ). Reads (name lo hi) s at (ltb 0 r) (part s (at + 1) q) q) (stops h) p.reads;
      stops = stops;
      low = p.low;
      fits = p.fits;
    }
    go (no h) =
        let e : r ≡ 0 = omega arith in
        rw e (ends_none (rw e at p.reads.is))

-- it ends somewhere, or there is none
pub name_any : (lo hi : ℕ) (s : List ℕ) (at : ℕ) → SomeEnd (name lo hi) name_at name_stop s at
name_any lo hi s at = go (name_cases lo hi s at)
  where
    go : NameEnd lo hi s at 0 ⊎ NameEnd lo hi s at (name_stop s at) → SomeEnd (name lo hi) name_at name_stop s at
    go (inl p) = (0, name_ends p)
    go (inr p) = (name_stop s at, name_ends p)

-- one that stands there has as many bytes as it may
pub name_size : (lo hi : ℕ) {s : List ℕ} {at r : ℕ} {v : List ℕ} → Reads (name lo hi) s at true v r → at < length s → between lo hi (get_or s at 0) ≡ true
name_size lo hi {s} {at} p h = then_good _ _ (such_reads byte (between lo hi) (byte_at s at h)) p
