-- The table of the wanted names: filled name by name, and followed from a mark's last name to its first.
use Prim.Native.Nat.{ℕ, ◌+◌, ◌-◌, ◌≤◌, ◌<◌}
use Rattle.std.specs.Prelude.{Some, None}
use Rattle.std.specs.Prelude as Std
use mathlib.Core.Path.{◌≡◌, refl, sym, ◌∙◌, ap, subst}
use mathlib.Core.Bool.{Bool, true, false, false≢true}
use mathlib.Core.List.{List}
use native.Mathlib.Omega.{arith}
use native.Mathlib.Decide.{dec_lt, ℕ_discrete}
use lib.ListN.{length, get_or, set, replicate, length-set, length-replicate, get_or-replicate}
use lib.Seq.{get_or-set_same, get_or-set_other}
use Rattle.rules.specs.Lists.{same}
use Rattle.rules.proofs.ListLaws.{same_eq, same_refl}
use Rattle.layout.specs.Reads.{part}
use Rattle.questions.specs.declared.Name.{Name}
use Rattle.questions.specs.Questions.{no_name, name_at, Listed}
use Rattle.layout.specs.Ensures.{Says, Number}
use Rattle.wanted.specs.Marks.{mark_of}
use Rattle.wanted.specs.Table.{Leads, Filled, FoundAt, NotFound, FoundOr}

-- ---- the table is filled

-- with the names before j, of n
pub record Filling (bs : List ℕ) (names : List Name) (n : ℕ) (heads links : List ℕ) (j : ℕ) : Type 0 where
  pub fits : j ≤ n
  pub heads_long : length heads ≡ 1024
  pub links_long : length links ≡ 500
  pub filled : Filled bs names j heads links

module _ (bs : List ℕ) (names : List Name) where
  mark_at : ℕ → ℕ
  mark_at j = mark_of (name_at bs names j)

  pub filling_start : (n : ℕ) → Filling bs names n (replicate 1024 0) (replicate 500 0) 0
  filling_start n = record {
    fits = omega arith;
    heads_long = length-replicate {A = ℕ} 1024 0;
    links_long = length-replicate {A = ℕ} 500 0;
    filled = record {
      head = λ m h.
          let z : ◌≡◌ {A = ℕ} (get_or (replicate 1024 0) m 0) 0 = get_or-replicate 1024 m 0 0 h in
          record { fits = omega (arith, z); mark = λ j e. absurd (omega (arith, z)) };
      last = λ j h. absurd (omega arith);
      link = λ k h. absurd (omega arith);
      down = λ k h. absurd (omega arith);
      before = λ j k l h. absurd (omega arith);
    };
  }

  module _ {n j : ℕ} (l : Listed bs names n) (h : j < n) where
    pub filling_order : (get_or names j no_name).start ≤ (get_or names j no_name).end
    filling_order = l.order j h

    pub filling_inside : (get_or names j no_name).end ≤ length bs
    filling_inside = l.inside j h

  module _ {n : ℕ} {heads links : List ℕ} {j : ℕ} (inv : Filling bs names n heads links j) where
    pub filling_end : n ≤ j → Filled bs names n heads links
    filling_end h = let e : j ≡ n = omega (arith, inv.fits) in subst (λ (k : ℕ). Filled bs names k heads links) e inv.filled

    wider : {m c : ℕ} → Leads bs names j m c → Leads bs names (j + 1) m c
    wider l = record { fits = omega (arith, l.fits); mark = l.mark }

    module _ (h : j < n) (list : Listed bs names n) {m : ℕ}
        (is : Number (mark_of (part bs (get_or names j no_name).start (get_or names j no_name).end)) 1024 m) where
      new_heads : List ℕ
      new_heads = set heads m (j + 1)

      new_links : List ℕ
      new_links = set links j (get_or heads m 0)

      mine : mark_at j ≡ m
      unfolding mark_at
      mine = sym is.is

      head_here : get_or new_heads m 0 ≡ j + 1
      unfolding new_heads
      head_here = get_or-set_same heads m (j + 1) 0 (omega (arith, inv.heads_long, is.below))

      head_there : (k : ℕ) → (k ≡ m → ⊥) → get_or new_heads k 0 ≡ get_or heads k 0
      unfolding new_heads
      head_there k n = get_or-set_other heads m k (j + 1) 0 n

      link_here : get_or new_links j 0 ≡ get_or heads m 0
      unfolding new_links
      link_here = get_or-set_same links j (get_or heads m 0) 0 (omega (arith, inv.links_long, list.few))

      link_there : (k : ℕ) → k < j → get_or new_links k 0 ≡ get_or links k 0
      unfolding new_links
      link_there k l = get_or-set_other links j k (get_or heads m 0) 0 (λ e. omega arith)

      heads_lead : (k : ℕ) → k < 1024 → Dec (k ≡ m) → Leads bs names (j + 1) k (get_or new_heads k 0)
      unfolding mark_at
      heads_lead k l (yes e) =
          let at : get_or new_heads k 0 ≡ j + 1 = ap (λ (x : ℕ). get_or new_heads x 0) e ∙ head_here in
          record {
            fits = omega (arith, at);
            mark = λ i f. let g : i ≡ j = omega (arith, at) in ap (λ (x : ℕ). mark_of (name_at bs names x)) g ∙ mine ∙ sym e;
          }
      heads_lead k l (no n) = subst (Leads bs names (j + 1) k) (sym (head_there k n)) (wider (inv.filled.head k l))

      links_lead : (k : ℕ) → k < j + 1 → Dec (k < j) → Leads bs names (j + 1) (mark_at k) (get_or new_links k 0)
      unfolding mark_at
      links_lead k l (yes g) = subst (Leads bs names (j + 1) (mark_at k)) (sym (link_there k g)) (wider (inv.filled.link k g))
      links_lead k l (no g) =
          let e : j ≡ k = omega arith in
          subst (λ (x : ℕ). Leads bs names (j + 1) (mark_at x) (get_or new_links x 0)) e
          (subst (Leads bs names (j + 1) (mark_at j)) (sym link_here)
          (subst (λ (x : ℕ). Leads bs names (j + 1) x (get_or heads m 0)) (sym mine) (wider (inv.filled.head m is.below))))

      heads_last : (i : ℕ) → i < j + 1 → Dec (mark_at i ≡ m) → i < get_or new_heads (mark_at i) 0
      unfolding mark_at
      heads_last i l (yes e) = omega (arith, ap (λ (x : ℕ). get_or new_heads x 0) e, head_here)
      heads_last i l (no n) = go (ℕ_discrete i j)
        where
          go : Dec (i ≡ j) → i < get_or new_heads (mark_at i) 0
          go (yes e) = absurd (n (ap mark_at e ∙ mine))
          go (no f) = let g : i < j = omega arith in omega (arith, head_there (mark_at i) n, inv.filled.last i g)

      links_down : (k : ℕ) → k < j + 1 → Dec (k < j) → get_or new_links k 0 ≤ k
      links_down k l (yes g) = omega (arith, link_there k g, inv.filled.down k g)
      links_down k l (no g) =
          let e : j ≡ k = omega arith in
          subst (λ (x : ℕ). get_or new_links x 0 ≤ x) e (omega (arith, link_here, (inv.filled.head m is.below).fits))

      links_before : (i k : ℕ) → i < k → k < j + 1 → mark_at i ≡ mark_at k → Dec (k < j) → i < get_or new_links k 0
      unfolding mark_at
      links_before i k l g e (yes f) = omega (arith, link_there k f, inv.filled.before i k l f e)
      links_before i k l g e (no f) =
          let s : k ≡ j = omega arith in
          let t : i < j = omega arith in
          let u : get_or heads (mark_at i) 0 ≡ get_or new_links k 0 =
          ap (λ (x : ℕ). get_or heads x 0) (e ∙ ap mark_at s ∙ mine) ∙ sym link_here ∙ ap (λ (x : ℕ). get_or new_links x 0) (sym s) in
          omega (arith, u, inv.filled.last i t)

      pub filling_again : Filling bs names n (set heads m (j + 1)) (set links j (get_or heads m 0)) (j + 1)
      unfolding new_heads new_links mark_at
      filling_again = record {
        fits = omega arith;
        heads_long = length-set heads m (j + 1) ∙ inv.heads_long;
        links_long = length-set links j (get_or heads m 0) ∙ inv.links_long;
        filled = record {
          head = λ k l. heads_lead k l (ℕ_discrete k m);
          last = λ i l. heads_last i l (ℕ_discrete (mark_at i) m);
          link = λ k l. links_lead k l (dec_lt k j);
          down = λ k l. links_down k l (dec_lt k j);
          before = λ i k l g e. links_before i k l g e (dec_lt k j);
        };
      }

-- ---- a name is found

-- ranks from c on have another name
pub record Finding (bs : List ℕ) (names : List Name) (n : ℕ) (name : List ℕ) (c : ℕ) : Type 0 where
  pub leads : Leads bs names n (mark_of name) c
  pub before : (j : ℕ) → j < n → name_at bs names j ≡ name → j < c

module _ {bs : List ℕ} {names : List Name} {n : ℕ} {heads links : List ℕ} (filled : Filled bs names n heads links) (name : List ℕ) where
  pub find_start : {m : ℕ} → Number (mark_of name) 1024 m → Finding bs names n name (get_or heads m 0)
  find_start {m} is = record {
    leads = subst (λ (x : ℕ). Leads bs names n x (get_or heads m 0)) is.is (filled.head m is.below);
    before = λ j h e. omega (arith, filled.last j h, ap (λ (x : ℕ). get_or heads x 0) (ap mark_of e ∙ sym is.is));
  }

  module _ {c : ℕ} (inv : Finding bs names n name c) where
    pub find_none : c ≤ 0 → NotFound bs names n name
    find_none z = record { none = λ j h e. omega (arith, inv.before j h e) }

    module _ (p : 0 < c) where
      here : c - 1 < n
      here = omega (arith, inv.leads.fits)

      pub find_order : Listed bs names n → (get_or names (c - 1) no_name).start ≤ (get_or names (c - 1) no_name).end
      find_order l = l.order (c - 1) here

      pub find_inside : Listed bs names n → (get_or names (c - 1) no_name).end ≤ length bs
      find_inside l = l.inside (c - 1) here

      pub find_less : get_or links (c - 1) 0 < c
      find_less = omega (arith, filled.down (c - 1) here)

      module _ {r : Bool} (s : Says (same (part bs (get_or names (c - 1) no_name).start (get_or names (c - 1) no_name).end) name) r) where
        pub find_hit : r ≡ true → FoundAt bs names n name (c - 1)
        find_hit t = record {
          fits = here;
          alike = same_eq (name_at bs names (c - 1)) name (s.is ∙ t);
          last = λ j h e. omega (arith, inv.before j h e);
        }

        pub find_next : r ≡ false → Finding bs names n name (get_or links (c - 1) 0)
        find_next t = record {
          leads =
              subst (λ (x : ℕ). Leads bs names n x (get_or links (c - 1) 0)) (inv.leads.mark (c - 1) (omega arith))
              (filled.link (c - 1) here);
          before = λ j h e. go j h e (ℕ_discrete j (c - 1));
        }
          where
            go : (j : ℕ) → j < n → name_at bs names j ≡ name → Dec (j ≡ c - 1) → j < get_or links (c - 1) 0
            go j h e (yes f) =
                absurd (false≢true (sym (s.is ∙ t) ∙ ap (λ (x : List ℕ). same x name) (ap (name_at bs names) (sym f) ∙ e) ∙ same_refl name))
            go j h e (no f) =
                let l : j < c - 1 = omega (arith, inv.before j h e) in
                filled.before j (c - 1) l here (ap mark_of e ∙ sym (inv.leads.mark (c - 1) (omega arith)))

-- a name on the list is found
pub is_there : {bs : List ℕ} {names : List Name} {n : ℕ} (j : ℕ) → j < n → (r : Std.Option ℕ) → FoundOr bs names n (name_at bs names j) r
    → (i : ℕ) × (r ≡ Some i) × FoundAt bs names n (name_at bs names j) i
is_there j h None f = absurd (f.none j h refl)
is_there j h (Some i) f = (i, refl, f)
