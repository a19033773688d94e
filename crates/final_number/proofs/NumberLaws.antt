-- With the base number in front of the properties' values the whole number.
use Prim.Native.Nat.{ℕ, ◌+◌, ◌*◌, ◌≤◌}
use mathlib.Core.Path.{◌≡◌, sym, ◌∙◌, ap, subst}
use mathlib.Core.Bool.{true, false}
use mathlib.Core.List.{List, [], ◌∷◌, ◌++◌, append-nil, append_assoc}
use mathlib.Core.Option.{Option, some, none}
use Rattle.std.specs.Prelude.{Some, None}
use native.Mathlib.Omega.{arith}
use lib.ListN.{length}
use Rattle.rules.specs.Lists.{join_with, gather, if_some}
use Rattle.rules.specs.Book.{Record, Article, Scheme, scheme_of, as_scheme}
use Rattle.rules.specs.Question.{Property, Question}
use Rattle.rules.specs.Layout.{whole}
use Rattle.rules.specs.BookLayout.{kinded}
use Rattle.rules.specs.declared.Part.{Part}
use Rattle.rules.specs.FinalNumber.{shown_of, separator_of, behind, number_by, final_number_of}
use Rattle.layout.specs.Ensures.{PutsTo}
use Rattle.layout.proofs.StoreLaws.{to_then}
use Rattle.records.specs.Asks.{OfKind}
use Rattle.records.specs.Ensures.{bytes_in, scheme_in, SchemeIs}
use Rattle.records.specs.declared.schemes.SchemeParts.{SchemeParts}
use Rattle.properties.specs.Properties.{properties_at}
use Rattle.question.specs.declared.Ask.{Ask}
use Rattle.question.specs.Asked.{AskIs, ask_in}
use Rattle.lookup.specs.Ensures.{Stands}
use Rattle.values.specs.Values.{most, led_all, brought_all}
use Rattle.values.proofs.ValueLaws.{part_long}
use Rattle.final_number.specs.Ensures.{longest, number_in}

-- ---- the whole number

joined : (s : Scheme) (v : List ℕ) (vs : List (List ℕ)) → join_with s.value_separator (v ∷ vs) ≡ v ++ led_all s false vs
unfolding led_all
joined s v [] = sym (append-nil v)
joined s v (w ∷ ws) = ap (λ xs. v ++ (s.value_separator ++ xs)) (joined s w ws) ∙ ap (λ xs. v ++ xs) (sym (append_assoc s.value_separator w (led_all s false ws)))

-- the base number, and behind it each value with the separator in front of it
number_led : (number : List ℕ) (ps : List Property) (s : Scheme) → number_by number ps s ≡ number ++ brought_all s ps
unfolding number_by led_all
number_led number ps s = go (gather (shown_of s) ps)
  where
    go : (vs : List (List ℕ)) → behind number s vs ≡ number ++ led_all s true vs
    go [] = sym (append-nil number)
    go (v ∷ vs) = ap (λ xs. number ++ (separator_of s.number_separator ++ xs)) (joined s v vs) ∙ ap (λ xs. number ++ xs) (sym (append_assoc (separator_of s.number_separator) v (led_all s false vs)))

-- with a scheme or without, the base number comes first
pub base_first_lem : (book : List Record) (q : Question) (a : Article) → (rest : List ℕ) × (final_number_of book q a ≡ q.article ++ rest)
unfolding final_number_of
base_first_lem book q a = go (scheme_of book a.scheme)
  where
    go : (o : Option Scheme) → (rest : List ℕ) × (if_some o q.article (number_by q.article q.properties) ≡ q.article ++ rest)
    go none = ([], sym (append-nil q.article))
    go (some s) = (brought_all s q.properties, number_led q.article q.properties s)

module _ (q : List ℕ) (ask : Ask) (b : List ℕ) where
  -- no scheme
  pub number_base : {old new : List ℕ} {r : ℕ} → PutsTo old 0 (bytes_in q ask.article) new r → PutsTo old 0 (number_in b None (ask_in q ask)) new r
  unfolding number_in
  number_base p = p

  pub number_room : AskIs q ask → {old new : List ℕ} {base : ℕ} → longest ≤ length old → PutsTo old 0 (bytes_in q ask.article) new base → base + most * ask.count ≤ length new
  number_room is h p = omega (arith, is.short, is.count, p.ends, p.puts.long, part_long q ask.article is.inside)

  module _ {part : Part} (stands : Stands b 5 part) {t : List ℕ} (e : t ≡ bytes_in b part) where
    pub number_kind : OfKind 5 t
    number_kind = rw e stands.kind_is

    pub number_by_lem : (scheme : SchemeParts) → SchemeIs t scheme → {a x c : List ℕ} {base r : ℕ} → PutsTo a 0 (bytes_in q ask.article) x base
        → PutsTo x base (brought_all (scheme_in t scheme) (properties_at q ask.properties ask.count)) c r
        → PutsTo a 0 (number_in b (Some part) (ask_in q ask)) c r
    unfolding number_in
    number_by_lem scheme is {a} {c = c} {r = r} p v =
        let f : number_in b (Some part) (ask_in q ask) ≡ bytes_in q ask.article ++ brought_all (scheme_in t scheme) (properties_at q ask.properties ask.count) =
        ap (λ (o : Option Record). if_some (if_some o none as_scheme) (ask_in q ask).article (number_by (ask_in q ask).article (ask_in q ask).properties)) (ap (whole kinded) (sym e) ∙ is.is)
        ∙ number_led (ask_in q ask).article (ask_in q ask).properties (scheme_in t scheme) in
        subst (λ (x : List ℕ). PutsTo a 0 x c r) (sym f) (to_then p v)
