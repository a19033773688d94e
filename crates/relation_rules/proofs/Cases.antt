-- Relation texts worked by hand, from the words of 003, appendix A, and of request 5: one statement over a table.
use Prim.Native.Nat.{ℕ, zero, suc}
use Prim.Native.String as Str
use mathlib.Core.Path.{◌≡◌, refl}
use mathlib.Core.List.{List, [], ◌∷◌, ◌++◌, map}
use mathlib.Core.Option.{some, none}
use lib.IntN.{pos}
use lib.ListN.{replicate}
use Rattle.rules.specs.Letters.{text}
use Rattle.relation_rules.specs.Grammar as Relations
use Rattle.relation_rules.specs.Grammar.{Constant, Text, Number}
use Rattle.relation_rules.specs.Reader as Reader
use Rattle.rules.specs.PlacedRefusals.{ResultAt, Done, RefusedAt}
use Rattle.relation_rules.specs.Truth as Truth
use Rattle.relation_rules.specs.Truth.{Held}
use Rattle.relation_rules.specs.Derived.{derived}

pub data Out : Type 0 where
  Names : List (List ℕ) → Out
  Refusal : ℕ → ℕ → Out

abbrev pub out_of : ResultAt (List (List ℕ)) → Out
out_of (Done ns) = Names ns
out_of (RefusedAt n p) = Refusal n p

pub record Case : Type 0 where
  pub relation : List ℕ
  pub worked : Out

-- a desk: COLOUR is rot, WIDTH is 900, FINISH is listed without a value first, and then with one, STAIN is Grün
pub desk : List Held
desk =
    record { name = text "Colour"; value = some (Text (text "rot")) }
    ∷ record { name = text "WIDTH"; value = some (Number (pos 900)) }
    ∷ record { name = text "FINISH"; value = none }
    ∷ record { name = text "FINISH"; value = some (Text (text "OIL")) }
    ∷ record { name = text "STAIN"; value = some (Text (text "Grün")) }
    ∷ []

pub found : Case → Out
unfolding derived desk Reader.relation_of Reader.run Reader.step Reader.begin Reader.behind Reader.take Reader.next Reader.viable Reader.final Reader.complete Relations.token_of Relations.goes_on Relations.in_quotes Relations.reserved Truth.names_from Truth.granted_by Truth.or_truth Truth.either Truth.together Truth.opposite Truth.comparison Truth.among Truth.holds Truth.text_order Truth.value_in
found c = out_of (derived desk c.relation)

-- the name X, granted if the condition is plainly true
abbrev pub if : Str.String → List ℕ
if condition = text "$VARCOND='X' IF " ++ text condition

abbrev pub granted : Str.String → Case
granted condition = record { relation = if condition; worked = Names (text "X" ∷ []) }

abbrev pub lost : Str.String → Case
lost condition = record { relation = if condition; worked = Names [] }

abbrev pub case : Str.String → Out → Case
case relation worked = record { relation = text relation; worked = worked }

-- `$VARCOND='X' IF ` has 16 bytes, so the condition begins at place 17
abbrev pub wrong : Str.String → ℕ → Case
wrong condition place = record { relation = if condition; worked = Refusal 14 place }

-- so many assignments, with a comma behind each but the last
abbrev pub many : ℕ → List ℕ → List ℕ
many zero s = s
many (suc n) s = s ++ (text "," ++ many n s)

pub cases : List Case
cases =
    -- assignments
    case "$VARCOND='OAK'" (Names (text "OAK" ∷ []))
    ∷ case " $varcond = 'OAK' if 1=1 , $VARCOND='b' IF 1=2, $VARCOND='oak'" (Names (text "OAK" ∷ text "oak" ∷ []))
    ∷ case "" (Refusal 14 1)
    ∷ case "$VARCOND='OAK'," (Refusal 14 16)
    ∷ case "$VARCOND EQ 'OAK'" (Refusal 14 10)
    ∷ case "$VARCONDX='OAK'" (Refusal 14 9)
    ∷ case "$VARCOND='OAK" (Refusal 14 14)
    ∷ case "$VARCOND='OAK' IFA=1" (Refusal 14 18)
    ∷ case "$VARCOND='OAK'IF'A'='A'" (Names (text "OAK" ∷ []))
    ∷ case "$VARCOND='' IF 1=2" (Names [])
    ∷ case "$VARCOND='a', $VARCOND=''" (Refusal 16 15)
    ∷ case "$VARCOND='', $VARCOND=1" (Refusal 14 23)
    -- comparisons, and the document's own
    ∷ granted "900 < 1000"
    ∷ granted "'900' > '1000'"
    ∷ granted "'A' < 'a'"
    ∷ granted "COLOUR = 'ROT' AND colour='Rot'"
    ∷ granted "WIDTH => 900 AND WIDTH >= 900 AND WIDTH GE 900 AND WIDTH LE 900 AND NOT WIDTH NE 900"
    ∷ granted "-5 < -4 AND -0 = 0 AND 007 EQ 7"
    ∷ lost "WIDTH = '900'"
    ∷ lost "NOT WIDTH = '900'"
    ∷ lost "WIDTH <> '900'"
    ∷ granted "WIDTH IN ('900', 900) AND COLOUR IN('blau','ROT')"
    ∷ lost "WIDTH IN ('900', 800)"
    -- umlauts: beside a property as good as their capitals, between constants not, and in no name of a property
    ∷ granted "STAIN = 'GRÜN' AND 'grün' EQ STAIN AND STAIN IN ('blau', 'grÜN')"
    ∷ lost "STAIN <> 'grün' OR 'grün' = 'GRÜN'"
    ∷ case "$VARCOND='grün' IF STAIN='GRÜN'" (Names (text "grün" ∷ []))
    ∷ wrong "GRÜN=1" 19
    -- AND before OR, and parentheses
    ∷ granted "1=2 AND 1=2 OR 1=1"
    ∷ lost "1=2 AND (1=2 OR 1=1)"
    ∷ granted "NOT 1=2 AND 1=1"
    ∷ lost "NOT (1=2 OR 1=1)"
    ∷ granted "NOT NOT (1=1)"
    -- undefined: FINISH has no value, and no other property is listed
    ∷ granted "FINISH='OIL' OR 1=1"
    ∷ lost "FINISH='OIL' OR 1=2"
    ∷ lost "FINISH='OIL' AND 1=1"
    ∷ granted "NOT (FINISH='OIL' AND 1=2)"
    ∷ lost "NOT FINISH='OIL'"
    ∷ granted "NOT SPECIFIED FINISH AND NOT SPECIFIED HEIGHT AND SPECIFIED width"
    -- the first byte that no text has there
    ∷ wrong "AND " 20
    ∷ wrong "AND" 20
    ∷ wrong "ANDREA=1 ANB=1" 28
    ∷ wrong "NE=1" 19
    ∷ wrong "BAN=1" 20
    ∷ wrong "A=1234567890123456789" 37
    ∷ lost "A=123456789012345678"
    ∷ wrong "A=-" 20
    ∷ wrong "A< =1" 20
    ∷ wrong "A=<1" 19
    ∷ wrong "A LT5" 21
    ∷ wrong "A=1 AND5=5" 24
    ∷ lost "A=1AND 5=5"
    ∷ wrong "A IN (B)" 23
    ∷ wrong "A IN ()" 23
    ∷ wrong "5 IN (5)" 19
    ∷ wrong "SPECIFIED (A)" 27
    ∷ wrong "(A=1" 21
    ∷ wrong "A=1)" 20
    ∷ wrong "A=1.5" 20
    ∷ wrong "$BAN='A'" 17
    -- sixteen deep, and seventeen
    ∷ granted "((((((((((((((((1=1))))))))))))))))"
    ∷ record { relation = if "(((((((((((((((((1=1)))))))))))))))))"; worked = Refusal 15 33 }
    ∷ lost "((((((((((((((((A IN (1)))))))))))))))))"
    ∷ record { relation = if "((((((((((((((((A=1) ("; worked = Refusal 14 38 }
    -- thirty-two names, and a thirty-third: repeats count, an assignment that grants none does not
    ∷ record { relation = many 31 (text "$VARCOND='A'"); worked = Names (replicate 32 (text "A")) }
    ∷ record { relation = many 32 (text "$VARCOND='A'"); worked = Refusal 16 417 }
    ∷ record { relation = many 31 (text "$VARCOND='A'") ++ text ",$VARCOND='B' IF 1=2"; worked = Names (replicate 32 (text "A")) }
    ∷ case "$VARCOND='ABCDEFGHIJKLMNOPQRSTU'" (Refusal 16 1)
    ∷ case "$VARCOND='ABCDEFGHIJKLMNOPQRST'" (Names (text "ABCDEFGHIJKLMNOPQRST" ∷ []))
    ∷ []

pub right : map found cases ≡ map (λ c. c.worked) cases
unfolding found cases
right = refl
