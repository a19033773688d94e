-- What code that reads relation texts cites: how the reader moves over blanks, tokens, conditions and assignments, and where it stops.
-- Code keeps no tree. A contract says that there is one: from the place where the code began to the place that it reached, the reader moves over that tree.
use Prim.Native.Nat.{ℕ, suc, ◌+◌}
use mathlib.Core.Path.{◌≡◌, refl, sym, ◌∙◌, ap, subst}
use mathlib.Core.Bool.{Bool, true, false, ◌&&◌, ◌||◌, not}
use mathlib.Core.List.{List, [], ◌∷◌, ◌++◌, map}
use mathlib.Core.Option.{Option, some, none}
use native.Mathlib.Omega.{arith}
use lib.Dec.{leb, ltb}
use lib.ListN.{length}
use Rattle.rules.specs.Lists.{all, any}
use Rattle.rules.specs.Letters.{text, letter}
use Rattle.relation_rules.specs.Grammar.{capital, Token, Variable, Fixed, Name, Quoted, Chain, One, More, further, Sign, Less, LessWord, AtMost, AtMostWord, Equal, EqualWord, Unequal, UnequalWord, AtLeast, AtLeastToo, AtLeastWord, Greater, GreaterWord, sign_text, Constant, Text, Number, constant_token, Operand, Property, Given, operand_token, OrChain, FirstAnd, Or, AndChain, FirstSingle, And, Single, Comparison, Specified, Among, Not, Group, Assignment, goes_on, past, is_blank}
use Rattle.rules.specs.PlacedRefusals.{ResultAt, Done, RefusedAt}
use Rattle.relation_rules.specs.Reader.{Part, fresh, Around, State, Start, AtVariable, AtBecomes, AtValue, AtCondition, AtSpecified, AtOperand, AtSign, AtIn, AtOpen, AtListed, AtComma, AtSingle, ended, assigned, or_of, closing, fixed_only, begins, fits, next, complete, take, viable, Between, Inside, too_deep, begin, behind, step, final, or_cut, run}
use Rattle.relation_rules.specs.Parts.{TokenAt, behind_or, behind_assignment, OverSingle, OverAnd, OverOr, OverValues, StopsSingle, StopsAnd, StopsOr, SingleTrue, AndTrue, OrTrue, AtStart, Assigned}
use Rattle.relation_rules.specs.Truth.{Truth, either, together, opposite, truth_of, has_value, value_in, comparison, or_truth, Held, granted_by, grantable, most_names, with_name, names_from, list_of}
use Rattle.rules.proofs.TestLaws.{and_left, and_right, or_false}
use Rattle.relation_rules.proofs.ReaderLaws.{admits}
use Rattle.relation_rules.proofs.SoundLaws.{refused_fine}
use Rattle.relation_rules.proofs.ReadLaws.{blank_read, token_read}

append_none : (l : List ℕ) → l ≡ l ++ []
append_none [] = refl
append_none (a ∷ l) = ap (λ z. a ∷ z) (append_none l)

-- ---- tokens

-- ---- what may come, as a test of the bytes alone

-- where only words, signs or marks may come, a beginning may if one of them begins so
pub fits_fixed_only : (ms : List (List ℕ × State)) (l : List ℕ) → fits (fixed_only ms) l ≡ any (λ m. begins (map capital l) m.0) ms
fits_fixed_only ms l =
    let x = any (λ m. begins (map capital l) m.0) ms in
    or_false (x || false || false) ∙ or_false (x || false) ∙ or_false x

-- behind a single condition: AND, OR, and the comma or the closing parenthesis
abbrev pub closer : List Part → List ℕ
closer [] = text ","
closer (p ∷ ps) = text ")"

pub viable_single : (w : Around) (os : Option OrChain) (a : AndChain) (l : List ℕ)
    → viable (AtSingle w os a) l ≡ (begins (map capital l) (text "AND") || (begins (map capital l) (text "OR") || begins (map capital l) (closer w.outer)))
unfolding viable next
viable_single w os a l = fits_fixed_only (next (AtSingle w os a)).fixed l ∙ ap (λ z. begins (map capital l) (text "AND") || (begins (map capital l) (text "OR") || z)) (last w.outer)
  where
    last : (ps : List Part) → any (λ m. begins (map capital l) m.0) (closing w.done w.place w.value ps (or_of os a)) ≡ begins (map capital l) (closer ps)
    last [] = or_false (begins (map capital l) (text ","))
    last (p ∷ ps) = or_false (begins (map capital l) (text ")"))

module _ (limit : ℕ) where
  pub gap_read : (gap s : List ℕ) (n : ℕ) (q : State) → all is_blank gap ≡ true → run limit n (Between q) (gap ++ s) ≡ run limit (past gap n) (Between q) s
  gap_read [] s n q e = refl
  gap_read (b ∷ gap) s n q e =
      blank_read limit n q b (gap ++ s) (and_left (is_blank b) (all is_blank gap) e) ∙ gap_read gap s (suc n) q (and_right (is_blank b) (all is_blank gap) e)

  -- a token that may come
  pub token_moves : {n n' : ℕ} {s s' : List ℕ} {t : Token} → TokenAt n s t n' s' → (q q' : State) → take q t ≡ some q' → admits limit q t ≡ true
      → run limit n (Between q) s ≡ run limit n' (Between q') s'
  token_moves {n = n} {s' = s'} {t = t} k q q' e a =
      ap (run limit n (Between q)) k.whole
      ∙ gap_read k.gap (k.bytes ++ s') n q k.blanks
      ∙ token_read limit (past k.gap n) q q' k.bytes s' t k.is e a k.alone
      ∙ ap (λ m. run limit m (Between q') s') k.place

  -- ---- where it stops

  module _ (n : ℕ) (q : State) where
    pub stops_cut : complete q ≡ none → run limit n (Between q) [] ≡ RefusedAt 14 n
    unfolding run final
    stops_cut e = rw e

    pub stops_at : (b : ℕ) (s : List ℕ) → is_blank b ≡ false → too_deep limit q b ≡ false → viable q (b ∷ []) ≡ false → run limit n (Between q) (b ∷ s) ≡ RefusedAt 14 n
    unfolding run step begin
    stops_at b s e f g = rw (e, f, g)

    pub stops_deep : (b : ℕ) (s : List ℕ) → is_blank b ≡ false → too_deep limit q b ≡ true → run limit n (Between q) (b ∷ s) ≡ RefusedAt 15 n
    unfolding run step begin
    stops_deep b s e f = rw (e, f)

    -- inside a token that began at `from`: the next byte belongs to it, and no token that may come begins so
    pub stops_inside : (from : ℕ) (l : List ℕ) (b : ℕ) (s : List ℕ) → goes_on l b ≡ true → viable q (l ++ (b ∷ [])) ≡ false → run limit n (Inside q from l) (b ∷ s) ≡ RefusedAt 14 n
    unfolding run step
    stops_inside from l b s e f = rw (e, f)

    -- behind one that may not come
    pub stops_behind : (from : ℕ) (l : List ℕ) (b : ℕ) (s : List ℕ) → goes_on l b ≡ false → behind q from l ≡ none → run limit n (Inside q from l) (b ∷ s) ≡ RefusedAt 14 n
    unfolding run step
    stops_behind from l b s e f = rw (e, f)

    pub stops_cut_inside : (from : ℕ) (l : List ℕ) → behind q from l ≡ none → run limit n (Inside q from l) [] ≡ RefusedAt 14 n
    unfolding run final
    stops_cut_inside from l e = rw e

  -- ---- conditions

  pub or_behind : (w : Around) (o : OrChain) → take (behind_or w o) (Fixed (text "OR")) ≡ some (AtCondition w (record { ors = some o; ands = none; nots = 0 }))
  unfolding take next
  or_behind w (FirstAnd a) = refl
  or_behind w (Or o a) = refl

  abbrev pub deeper : Around → Part → Around
  deeper w p = record { done = w.done; place = w.place; value = w.value; outer = p ∷ w.outer }

  pub close_behind : (w : Around) (p : Part) (o : OrChain) → take (behind_or (deeper w p) o) (Fixed (text ")")) ≡ some (ended w p (Group o))
  unfolding take next
  close_behind w p (FirstAnd a) = refl
  close_behind w p (Or o a) = refl

  pub open_admitted : (d : ℕ) (w : Around) (p : Part) → leb limit d ≡ false → length w.outer ≡ d → admits limit (AtCondition w p) (Fixed (text "(")) ≡ true
  unfolding next
  open_admitted d w p e f = ap not (ap (leb limit) f ∙ e)

  -- single conditions
  pub over_not : {d n m r : ℕ} {s t u : List ℕ} {c : Single} → TokenAt n s (Fixed (text "NOT")) m t → OverSingle limit d m t c r u → OverSingle limit d n s (Not c) r u
  unfolding take next
  over_not h g =
      record {
        moves =
            λ w p e.
            let p' : Part = record { ors = p.ors; ands = p.ands; nots = suc p.nots } in
            token_moves h (AtCondition w p) (AtCondition w p') refl refl ∙ g.moves w p' e;
      }

  pub over_group : {d n m r k : ℕ} {s t u v : List ℕ} {o : OrChain} → leb limit d ≡ false → TokenAt n s (Fixed (text "(")) m t → OverOr limit (suc d) m t o r u
      → TokenAt r u (Fixed (text ")")) k v → OverSingle limit d n s (Group o) k v
  unfolding take next
  over_group {d = d} {o = o} l h g j =
      record {
        moves =
            λ w p e.
            token_moves h (AtCondition w p) (AtCondition (deeper w p) fresh) refl (open_admitted d w p l e)
            ∙ g.moves (deeper w p) (ap suc e)
            ∙ token_moves j (behind_or (deeper w p) o) (ended w p (Group o)) (close_behind w p o) refl;
      }

  pub over_specified : {d n m r : ℕ} {s t u : List ℕ} {x : List ℕ} → TokenAt n s (Fixed (text "SPECIFIED")) m t → TokenAt m t (Name x) r u → OverSingle limit d n s (Specified x) r u
  unfolding take next
  over_specified {x = x} h g =
      record {
        moves =
            λ w p e. token_moves h (AtCondition w p) (AtSpecified w p) refl refl ∙ token_moves g (AtSpecified w p) (ended w p (Specified x)) refl refl;
      }

  -- comparisons
  pub operand_taken : (w : Around) (p : Part) (x : Operand) → take (AtCondition w p) (operand_token x) ≡ some (AtOperand w p x)
  unfolding take next
  operand_taken w p (Property n) = refl
  operand_taken w p (Given (Text v)) = refl
  operand_taken w p (Given (Number z)) = refl

  pub operand_admitted : (q : State) (x : Operand) → admits limit q (operand_token x) ≡ true
  operand_admitted q (Property n) = refl
  operand_admitted q (Given (Text v)) = refl
  operand_admitted q (Given (Number z)) = refl

  pub sign_taken : (w : Around) (p : Part) (x : Operand) (g : Sign) → take (AtOperand w p x) (Fixed (sign_text g)) ≡ some (AtSign w p x g)
  unfolding take next
  sign_taken w p x Less = refl
  sign_taken w p x LessWord = refl
  sign_taken w p x AtMost = refl
  sign_taken w p x AtMostWord = refl
  sign_taken w p x Equal = refl
  sign_taken w p x EqualWord = refl
  sign_taken w p x Unequal = refl
  sign_taken w p x UnequalWord = refl
  sign_taken w p x AtLeast = refl
  sign_taken w p x AtLeastToo = refl
  sign_taken w p x AtLeastWord = refl
  sign_taken w p x Greater = refl
  sign_taken w p x GreaterWord = refl

  pub sign_admitted : (q : State) (g : Sign) → admits limit q (Fixed (sign_text g)) ≡ true
  sign_admitted q Less = refl
  sign_admitted q LessWord = refl
  sign_admitted q AtMost = refl
  sign_admitted q AtMostWord = refl
  sign_admitted q Equal = refl
  sign_admitted q EqualWord = refl
  sign_admitted q Unequal = refl
  sign_admitted q UnequalWord = refl
  sign_admitted q AtLeast = refl
  sign_admitted q AtLeastToo = refl
  sign_admitted q AtLeastWord = refl
  sign_admitted q Greater = refl
  sign_admitted q GreaterWord = refl

  second_taken : (w : Around) (p : Part) (x : Operand) (g : Sign) (y : Operand) → take (AtSign w p x g) (operand_token y) ≡ some (ended w p (Comparison x g y))
  unfolding take next
  second_taken w p x g (Property n) = refl
  second_taken w p x g (Given (Text v)) = refl
  second_taken w p x g (Given (Number z)) = refl

  pub over_comparison : {d n m r k : ℕ} {s t u v : List ℕ} (x : Operand) (g : Sign) (y : Operand) → TokenAt n s (operand_token x) m t
      → TokenAt m t (Fixed (sign_text g)) r u → TokenAt r u (operand_token y) k v → OverSingle limit d n s (Comparison x g y) k v
  over_comparison x g y h j i =
      record {
        moves =
            λ w p e.
            token_moves h (AtCondition w p) (AtOperand w p x) (operand_taken w p x) (operand_admitted (AtCondition w p) x)
            ∙ token_moves j (AtOperand w p x) (AtSign w p x g) (sign_taken w p x g) (sign_admitted (AtOperand w p x) g)
            ∙ token_moves i (AtSign w p x g) (ended w p (Comparison x g y)) (second_taken w p x g y) (operand_admitted (AtSign w p x g) y);
      }

  constant_admitted : (q : State) (c : Constant) → admits limit q (constant_token c) ≡ true
  constant_admitted q (Text v) = refl
  constant_admitted q (Number z) = refl

  value_taken : (w : Around) (p : Part) (x : List ℕ) (c : Constant) → take (AtOpen w p x) (constant_token c) ≡ some (AtListed w p x (One c))
  unfolding take next
  value_taken w p x (Text v) = refl
  value_taken w p x (Number z) = refl

  next_taken : (w : Around) (p : Part) (x : List ℕ) (cs : Chain Constant) (c : Constant) → take (AtComma w p x cs) (constant_token c) ≡ some (AtListed w p x (More cs c))
  unfolding take next
  next_taken w p x cs (Text v) = refl
  next_taken w p x cs (Number z) = refl

  pub over_value : {n m : ℕ} {s t : List ℕ} (c : Constant) → TokenAt n s (constant_token c) m t → OverValues limit n s (One c) m t
  over_value c h =
      record { moves = λ w p x. token_moves h (AtOpen w p x) (AtListed w p x (One c)) (value_taken w p x c) (constant_admitted (AtOpen w p x) c) }

  pub over_next_value : {n m r k : ℕ} {s t u v : List ℕ} {cs : Chain Constant} (c : Constant) → OverValues limit n s cs m t → TokenAt m t (Fixed (text ",")) r u
      → TokenAt r u (constant_token c) k v → OverValues limit n s (More cs c) k v
  unfolding take next
  over_next_value {cs = cs} c h j i =
      record {
        moves =
            λ w p x.
            h.moves w p x
            ∙ token_moves j (AtListed w p x cs) (AtComma w p x cs) refl refl
            ∙ token_moves i (AtComma w p x cs) (AtListed w p x (More cs c)) (next_taken w p x cs c) (constant_admitted (AtComma w p x cs) c);
      }

  pub over_among : {d n m r k y z : ℕ} {s t u v a b : List ℕ} {x : List ℕ} {cs : Chain Constant} → TokenAt n s (Name x) m t → TokenAt m t (Fixed (text "IN")) r u
      → TokenAt r u (Fixed (text "(")) k v → OverValues limit k v cs y a → TokenAt y a (Fixed (text ")")) z b → OverSingle limit d n s (Among x cs) z b
  unfolding take next
  over_among {x = x} {cs = cs} h j i g e =
      record {
        moves =
            λ w p l.
            token_moves h (AtCondition w p) (AtOperand w p (Property x)) refl refl
            ∙ token_moves j (AtOperand w p (Property x)) (AtIn w p x) refl refl
            ∙ token_moves i (AtIn w p x) (AtOpen w p x) refl refl
            ∙ g.moves w p x
            ∙ token_moves e (AtListed w p x cs) (ended w p (Among x cs)) refl refl;
      }

  -- chains
  pub over_single : {d n m : ℕ} {s t : List ℕ} {c : Single} → OverSingle limit d n s c m t → OverAnd limit d n s (FirstSingle c) m t
  over_single g = record { moves = λ w os e. g.moves w (record { ors = os; ands = none; nots = 0 }) e }

  pub over_and : {d n m r k : ℕ} {s t u v : List ℕ} {a : AndChain} {c : Single} → OverAnd limit d n s a m t → TokenAt m t (Fixed (text "AND")) r u → OverSingle limit d r u c k v
      → OverAnd limit d n s (And a c) k v
  unfolding take next
  over_and {a = a} h j g =
      record {
        moves =
            λ w os e.
            let p : Part = record { ors = os; ands = some a; nots = 0 } in
            h.moves w os e ∙ token_moves j (AtSingle w os a) (AtCondition w p) refl refl ∙ g.moves w p e;
      }

  pub over_first : {d n m : ℕ} {s t : List ℕ} {a : AndChain} → OverAnd limit d n s a m t → OverOr limit d n s (FirstAnd a) m t
  over_first g = record { moves = λ w e. g.moves w none e }

  pub over_or : {d n m r k : ℕ} {s t u v : List ℕ} {o : OrChain} {a : AndChain} → OverOr limit d n s o m t → TokenAt m t (Fixed (text "OR")) r u → OverAnd limit d r u a k v
      → OverOr limit d n s (Or o a) k v
  unfolding take next
  over_or {o = o} h j g =
      record {
        moves =
            λ w e.
            h.moves w e
            ∙ token_moves j (behind_or w o) (AtCondition w (record { ors = some o; ands = none; nots = 0 })) (or_behind w o) refl
            ∙ g.moves w (some o) e;
      }

  -- where a part stops, the whole stops
  pub stops_not : {d n m k at : ℕ} {s t : List ℕ} → TokenAt n s (Fixed (text "NOT")) m t → StopsSingle limit d m t k at → StopsSingle limit d n s k at
  unfolding take next
  stops_not h g =
      record {
        stops =
            λ w p e.
            let p' : Part = record { ors = p.ors; ands = p.ands; nots = suc p.nots } in
            token_moves h (AtCondition w p) (AtCondition w p') refl refl ∙ g.stops w p' e;
      }

  pub stops_group : {d n m k at : ℕ} {s t : List ℕ} → leb limit d ≡ false → TokenAt n s (Fixed (text "(")) m t → StopsOr limit (suc d) m t k at → StopsSingle limit d n s k at
  unfolding take next
  stops_group {d = d} l h g =
      record {
        stops =
            λ w p e.
            token_moves h (AtCondition w p) (AtCondition (deeper w p) fresh) refl (open_admitted d w p l e) ∙ g.stops (deeper w p) (ap suc e);
      }

  pub stops_single : {d n k at : ℕ} {s : List ℕ} → StopsSingle limit d n s k at → StopsAnd limit d n s k at
  stops_single g = record { stops = λ w os e. g.stops w (record { ors = os; ands = none; nots = 0 }) e }

  pub stops_and : {d n m r k at : ℕ} {s t u : List ℕ} {a : AndChain} → OverAnd limit d n s a m t → TokenAt m t (Fixed (text "AND")) r u → StopsSingle limit d r u k at → StopsAnd limit d n s k at
  unfolding take next
  stops_and {a = a} h j g =
      record {
        stops =
            λ w os e.
            let p : Part = record { ors = os; ands = some a; nots = 0 } in
            h.moves w os e ∙ token_moves j (AtSingle w os a) (AtCondition w p) refl refl ∙ g.stops w p e;
      }

  pub stops_first : {d n k at : ℕ} {s : List ℕ} → StopsAnd limit d n s k at → StopsOr limit d n s k at
  stops_first g = record { stops = λ w e. g.stops w none e }

  pub stops_or : {d n m r k at : ℕ} {s t u : List ℕ} {o : OrChain} → OverOr limit d n s o m t → TokenAt m t (Fixed (text "OR")) r u → StopsAnd limit d r u k at → StopsOr limit d n s k at
  unfolding take next
  stops_or {o = o} h j g =
      record {
        stops =
            λ w e.
            h.moves w e
            ∙ token_moves j (behind_or w o) (AtCondition w (record { ors = some o; ands = none; nots = 0 })) (or_behind w o) refl
            ∙ g.stops w (some o) e;
      }

  -- behind a part that was read, what comes may not
  pub stops_behind_and : {d n m k at : ℕ} {s t : List ℕ} {a : AndChain} → OverAnd limit d n s a m t
      → ((w : Around) (os : Option OrChain) → length w.outer ≡ d → run limit m (Between (AtSingle w os a)) t ≡ RefusedAt k at) → StopsAnd limit d n s k at
  stops_behind_and h g = record { stops = λ w os e. h.moves w os e ∙ g w os e }

  pub stops_behind_or : {d n m k at : ℕ} {s t : List ℕ} {o : OrChain} → OverOr limit d n s o m t
      → ((w : Around) → length w.outer ≡ d → run limit m (Between (behind_or w o)) t ≡ RefusedAt k at) → StopsOr limit d n s k at
  stops_behind_or h g = record { stops = λ w e. h.moves w e ∙ g w e }

  pub stops_unclosed : {d n m r k at : ℕ} {s t u : List ℕ} {o : OrChain} → leb limit d ≡ false → TokenAt n s (Fixed (text "(")) m t → OverOr limit (suc d) m t o r u
      → ((w : Around) → length w.outer ≡ suc d → run limit r (Between (behind_or w o)) u ≡ RefusedAt k at) → StopsSingle limit d n s k at
  stops_unclosed l h o g = stops_group l h (stops_behind_or o g)

  -- the parenthesis that is too deep, behind blanks
  pub stops_too_deep : (d n : ℕ) (gap s : List ℕ) → leb limit d ≡ true → all is_blank gap ≡ true → StopsSingle limit d n (gap ++ (letter "(" ∷ s)) 15 (past gap n)
  unfolding next
  stops_too_deep d n gap s l b =
      record {
        stops =
            λ w p e.
            gap_read gap (letter "(" ∷ s) n (AtCondition w p) b
            ∙ stops_deep (past gap n) (AtCondition w p) (letter "(") s refl (ap (leb limit) e ∙ l);
      }

  -- ---- the same, with the truth of what was read

  pub true_single : {ps : List Held} {d n m : ℕ} {s t : List ℕ} {v : Truth} → SingleTrue limit ps d n s v m t → AndTrue limit ps d n s v m t
  unfolding or_truth
  true_single r = record { tree = FirstSingle r.tree; truth = r.truth; over = over_single r.over }

  pub true_and : {ps : List Held} {d n m r k : ℕ} {s t u v : List ℕ} {x y : Truth} → AndTrue limit ps d n s x m t → TokenAt m t (Fixed (text "AND")) r u
      → SingleTrue limit ps d r u y k v → AndTrue limit ps d n s (together x y) k v
  unfolding or_truth
  true_and a j c = record { tree = And a.tree c.tree; truth = λ i. together (a.truth i) (c.truth i); over = over_and a.over j c.over }

  pub true_first : {ps : List Held} {d n m : ℕ} {s t : List ℕ} {v : Truth} → AndTrue limit ps d n s v m t → OrTrue limit ps d n s v m t
  unfolding or_truth
  true_first r = record { tree = FirstAnd r.tree; truth = r.truth; over = over_first r.over }

  pub true_or : {ps : List Held} {d n m r k : ℕ} {s t u v : List ℕ} {x y : Truth} → OrTrue limit ps d n s x m t → TokenAt m t (Fixed (text "OR")) r u
      → AndTrue limit ps d r u y k v → OrTrue limit ps d n s (either x y) k v
  unfolding or_truth
  true_or a j c = record { tree = Or a.tree c.tree; truth = λ i. either (a.truth i) (c.truth i); over = over_or a.over j c.over }

  pub true_not : {ps : List Held} {d n m r : ℕ} {s t u : List ℕ} {x : Truth} → TokenAt n s (Fixed (text "NOT")) m t → SingleTrue limit ps d m t x r u
      → SingleTrue limit ps d n s (opposite x) r u
  unfolding or_truth
  true_not j c = record { tree = Not c.tree; truth = ap opposite c.truth; over = over_not j c.over }

  pub true_group : {ps : List Held} {d n m r k : ℕ} {s t u v : List ℕ} {x : Truth} → leb limit d ≡ false → TokenAt n s (Fixed (text "(")) m t
      → OrTrue limit ps (suc d) m t x r u → TokenAt r u (Fixed (text ")")) k v → SingleTrue limit ps d n s x k v
  unfolding or_truth
  true_group l j o i = record { tree = Group o.tree; truth = o.truth; over = over_group l j o.over i }

  pub true_comparison : (ps : List Held) {d n m r k : ℕ} {s t u v : List ℕ} (x : Operand) (g : Sign) (y : Operand) → TokenAt n s (operand_token x) m t
      → TokenAt m t (Fixed (sign_text g)) r u → TokenAt r u (operand_token y) k v → SingleTrue limit ps d n s (comparison ps x g y) k v
  unfolding or_truth
  true_comparison ps x g y h j i = record { tree = Comparison x g y; truth = refl; over = over_comparison x g y h j i }

  pub true_specified : (ps : List Held) {d n m r : ℕ} {s t u : List ℕ} {x : List ℕ} → TokenAt n s (Fixed (text "SPECIFIED")) m t → TokenAt m t (Name x) r u
      → SingleTrue limit ps d n s (truth_of (has_value (value_in ps x))) r u
  unfolding or_truth
  true_specified ps {x = x} h j = record { tree = Specified x; truth = refl; over = over_specified h j }

  -- ---- assignments

  pub starts : (whole : List ℕ) → AtStart limit whole none 1 whole
  starts whole = record { moves = refl }

  pub assigns : {whole : List ℕ} {d : Option (Chain Assignment)} {n m r k p : ℕ} {s t u v : List ℕ} {x : List ℕ} → AtStart limit whole d n s → TokenAt n s (Variable p) m t
      → TokenAt m t (Fixed (text "=")) r u → TokenAt r u (Quoted x) k v → Assigned limit whole d p x none k v
  unfolding take next
  assigns {d = d} {p = p} {x = x} h j i g =
      record {
        moves =
            h.moves
            ∙ token_moves j (Start d) (AtVariable d p) refl refl
            ∙ token_moves i (AtVariable d p) (AtBecomes d p) refl refl
            ∙ token_moves g (AtBecomes d p) (AtValue d p x) refl refl;
      }

  pub assigns_if : {whole : List ℕ} {d : Option (Chain Assignment)} {n m r p : ℕ} {s t u : List ℕ} {x : List ℕ} {o : OrChain} → Assigned limit whole d p x none n s
      → TokenAt n s (Fixed (text "IF")) m t → OverOr limit 0 m t o r u → Assigned limit whole d p x (some o) r u
  unfolding take next
  assigns_if {d = d} {p = p} {x = x} h j g =
      let w : Around = record { done = d; place = p; value = x; outer = [] } in
      record { moves = h.moves ∙ token_moves j (AtValue d p x) (AtCondition w fresh) refl refl ∙ g.moves w refl }

  comma_taken : (d : Option (Chain Assignment)) (p : ℕ) (v : List ℕ) (o : Option OrChain)
      → take (behind_assignment d p v o) (Fixed (text ",")) ≡ some (Start (some (assigned d p v o)))
  unfolding take next
  comma_taken d p v none = refl
  comma_taken d p v (some (FirstAnd a)) = refl
  comma_taken d p v (some (Or o a)) = refl

  pub starts_again : {whole : List ℕ} {d : Option (Chain Assignment)} {n m p : ℕ} {s t : List ℕ} {x : List ℕ} {o : Option OrChain} → Assigned limit whole d p x o n s
      → TokenAt n s (Fixed (text ",")) m t → AtStart limit whole (some (assigned d p x o)) m t
  starts_again {d = d} {p = p} {x = x} {o = o} h j =
      record { moves = h.moves ∙ token_moves j (behind_assignment d p x o) (Start (some (assigned d p x o))) (comma_taken d p x o) refl }

  ends_complete : (d : Option (Chain Assignment)) (p : ℕ) (v : List ℕ) (o : Option OrChain) → complete (behind_assignment d p v o) ≡ some (assigned d p v o)
  unfolding complete
  ends_complete d p v none = refl
  ends_complete d p v (some (FirstAnd a)) = refl
  ends_complete d p v (some (Or o a)) = refl

  -- only blanks are left: the text is read
  pub ends : {whole : List ℕ} {d : Option (Chain Assignment)} {n p : ℕ} {x : List ℕ} {o : Option OrChain} (gap : List ℕ) → Assigned limit whole d p x o n gap → all is_blank gap ≡ true
      → run limit 1 (Between (Start none)) whole ≡ Done (assigned d p x o)
  unfolding run final
  ends {d = d} {n = n} {p = p} {x = x} {o = o} gap h e =
      h.moves
      ∙ ap (λ z. run limit n (Between (behind_assignment d p x o)) z) (append_none gap)
      ∙ gap_read gap [] n (behind_assignment d p x o) e
      ∙ ap (or_cut (past gap n)) (ends_complete d p x o)

-- ---- names, assignment by assignment

abbrev pub listed : Option (Chain Assignment) → List Assignment
listed none = []
listed (some as') = list_of as' []

list_append : (as' : Chain Assignment) (k : List Assignment) → list_of as' k ≡ list_of as' [] ++ k
list_append (One a) k = refl
list_append (More as' a) k = list_append as' (a ∷ k) ∙ sym (ap (λ z. z ++ k) (list_append as' (a ∷ [])) ∙ assoc (list_of as' []) (a ∷ []) k)
  where
    assoc : (x y z : List Assignment) → (x ++ y) ++ z ≡ x ++ (y ++ z)
    assoc [] y z = refl
    assoc (b ∷ x) y z = ap (λ i. b ∷ i) (assoc x y z)

-- one more assignment is the last of the list
pub listed_more : (d : Option (Chain Assignment)) (a : Assignment) → listed (some (further d a)) ≡ listed d ++ (a ∷ [])
listed_more none a = refl
listed_more (some as') a = list_append as' (a ∷ [])

module _ (ps : List Held) where
  abbrev kept : Bool → Bool → List (List ℕ) → Assignment → ResultAt (List (List ℕ))
  kept true true ns a = Done (ns ++ (a.value ∷ []))
  kept true false ns a = RefusedAt 16 a.place
  kept false ok ns a = Done ns

  -- what the next assignment makes of the names derived so far, where `count` were derived before these
  unfoldable pub grown : ℕ → ResultAt (List (List ℕ)) → Assignment → ResultAt (List (List ℕ))
  grown count (RefusedAt k p) a = RefusedAt k p
  grown count (Done ns) a = kept (granted_by ps a.condition) (grantable a.value && ltb (count + length ns) most_names) ns a

  kept_behind : (x y : Bool) (n : List ℕ) (ns : List (List ℕ)) (a : Assignment) → with_name n (kept x y ns a) ≡ kept x y (n ∷ ns) a
  kept_behind true true n ns a = refl
  kept_behind true false n ns a = refl
  kept_behind false y n ns a = refl

  grown_behind : (count : ℕ) (n : List ℕ) (r : ResultAt (List (List ℕ))) (a : Assignment) → with_name n (grown (suc count) r a) ≡ grown count (with_name n r) a
  unfolding grown
  grown_behind count n (RefusedAt k p) a = refl
  grown_behind count n (Done ns) a =
      let same_count : suc count + length ns ≡ count + length (n ∷ ns) = omega arith in
      kept_behind (granted_by ps a.condition) (grantable a.value && ltb (suc count + length ns) most_names) n ns a
      ∙ ap (λ m. kept (granted_by ps a.condition) (grantable a.value && ltb m most_names) (n ∷ ns) a) same_count

  abbrev named : Bool → Bool → ℕ → Assignment → List Assignment → ResultAt (List (List ℕ))
  named true true count a as' = with_name a.value (names_from ps (suc count) as')
  named true false count a as' = RefusedAt 16 a.place
  named false ok count a as' = names_from ps count as'

  names_named : (count : ℕ) (a : Assignment) (as' : List Assignment)
      → names_from ps count (a ∷ as') ≡ named (granted_by ps a.condition) (grantable a.value && ltb count most_names) count a as'
  unfolding names_from
  names_named count a as' = go (granted_by ps a.condition) (grantable a.value && ltb count most_names)
    where
      go : (x y : Bool) → elim x as (λ z. ResultAt (List (List ℕ))) [
        | true ↦ elim y as (λ z. ResultAt (List (List ℕ))) [ true ↦ with_name a.value (names_from ps (suc count) as') | false ↦ RefusedAt 16 a.place ]
        | false ↦ names_from ps count as'
      ] ≡ named x y count a as'
      go true true = refl
      go true false = refl
      go false y = refl

  named_one : (x y : Bool) (count : ℕ) (a : Assignment) → named x y count a [] ≡ kept x y [] a
  unfolding names_from
  named_one true true count a = refl
  named_one true false count a = refl
  named_one false y count a = refl

  -- one assignment more: the names so far, and what it makes of them
  pub names_more : (as' : List Assignment) (count : ℕ) (a : Assignment) → names_from ps count (as' ++ (a ∷ [])) ≡ grown count (names_from ps count as') a
  unfolding names_from grown
  names_more [] count a =
      let none_yet : count ≡ count + 0 = omega arith in
      names_named count a [] ∙ named_one (granted_by ps a.condition) (grantable a.value && ltb count most_names) count a
      ∙ ap (λ m. kept (granted_by ps a.condition) (grantable a.value && ltb m most_names) [] a) none_yet
  names_more (b ∷ as') count a =
      names_named count b (as' ++ (a ∷ []))
      ∙ go (names_more as') (granted_by ps b.condition) (grantable b.value && ltb count most_names)
      ∙ ap (λ r. grown count r a) (sym (names_named count b as'))
    where
      go : ((c : ℕ) (z : Assignment) → names_from ps c (as' ++ (z ∷ [])) ≡ grown c (names_from ps c as') z) → (x y : Bool)
          → named x y count b (as' ++ (a ∷ [])) ≡ grown count (named x y count b as') a
      go ih true true = ap (with_name b.value) (ih (suc count) a) ∙ grown_behind count b.value (names_from ps (suc count) as') a
      go ih true false = refl
      go ih false y = ih count a

  -- the first assignment that derives a name too many, or one that no question can grant
  pub record Judged (count : ℕ) (as' : List Assignment) (k at : ℕ) : Type 0 where
    pub before : List Assignment
    pub here : Assignment
    pub behind : List Assignment
    pub whole : as' ≡ before ++ (here ∷ behind)
    pub number : 16 ≡ k
    pub place : here.place ≡ at
    pub grants : granted_by ps here.condition ≡ true
    pub names : List (List ℕ)
    pub so_far : names_from ps count before ≡ Done names
    pub refused : (grantable here.value && ltb (count + length names) most_names) ≡ false

  with_refused : (n : List ℕ) (r : ResultAt (List (List ℕ))) (k at : ℕ) → with_name n r ≡ RefusedAt k at → r ≡ RefusedAt k at
  with_refused n (Done ns) k at e = absurd (refused_fine k at (n ∷ ns) (sym e))
  with_refused n (RefusedAt j m) k at e = e

  -- Refusal 16 stands at the first assignment that derives a 33rd name or one that is not of 1 to 20 name bytes.
  pub first_judged : (as' : List Assignment) (count k at : ℕ) → names_from ps count as' ≡ RefusedAt k at → Judged count as' k at
  unfolding names_from
  first_judged [] count k at e = absurd (refused_fine k at [] (sym e))
  first_judged (a ∷ as') count k at e =
      go (first_judged as') (granted_by ps a.condition) (grantable a.value && ltb count most_names) refl refl (sym (names_named count a as') ∙ e)
    where
      number_in : ResultAt (List (List ℕ)) → ℕ
      number_in (Done ns) = 0
      number_in (RefusedAt j p) = j

      place_in : ResultAt (List (List ℕ)) → ℕ
      place_in (Done ns) = 0
      place_in (RefusedAt j p) = p

      go : ((c j p : ℕ) → names_from ps c as' ≡ RefusedAt j p → Judged c as' j p) → (x y : Bool) → granted_by ps a.condition ≡ x
          → (grantable a.value && ltb count most_names) ≡ y → named x y count a as' ≡ RefusedAt k at → Judged count (a ∷ as') k at
      go ih true true f g h =
          let r = ih (suc count) k at (with_refused a.value (names_from ps (suc count) as') k at h) in
          let more : suc count + length r.names ≡ count + length (a.value ∷ r.names) = omega arith in
          record {
            before = a ∷ r.before;
            here = r.here;
            behind = r.behind;
            whole = ap (λ z. a ∷ z) r.whole;
            number = r.number;
            place = r.place;
            grants = r.grants;
            names = a.value ∷ r.names;
            so_far =
                names_named count a r.before
                ∙ ap (λ z. named z (grantable a.value && ltb count most_names) count a r.before) f
                ∙ ap (λ z. named true z count a r.before) g
                ∙ ap (with_name a.value) r.so_far;
            refused = subst (λ m. (grantable r.here.value && ltb m most_names) ≡ false) more r.refused;
          }
      go ih true false f g h =
          let same_count : count ≡ count + 0 = omega arith in
          record {
            before = [];
            here = a;
            behind = as';
            whole = refl;
            number = ap number_in h;
            place = ap place_in h;
            grants = f;
            names = [];
            so_far = refl;
            refused = subst (λ m. (grantable a.value && ltb m most_names) ≡ false) same_count g;
          }
      go ih false y f g h =
          let r = ih count k at h in
          record {
            before = a ∷ r.before;
            here = r.here;
            behind = r.behind;
            whole = ap (λ z. a ∷ z) r.whole;
            number = r.number;
            place = r.place;
            grants = r.grants;
            names = r.names;
            so_far = names_named count a r.before ∙ ap (λ z. named z (grantable a.value && ltb count most_names) count a r.before) f ∙ r.so_far;
            refused = r.refused;
          }
