-- `texts::text_answer` meets its contract: each pair of looks by its law.
use mathlib.Core.Path.{◌≡◌}
use borrow.Author.Rules.{rules}
use Rattle.std.specs.Prelude.{Some, None, Ok}
use Rattle.texts.proofs.TextLaws.{asked_broken, other_broken, in_neither, in_fallback, in_asked_lem}
use Rattle.texts.proofs.text_answer.Goals as goal

ruleset laws = (rules, asked_broken, other_broken, in_neither)

pub returns-in-Err : goal.returns-in-Err
returns-in-Err c = search laws

pub returns-in-Err-there : goal.returns-in-Err-there
returns-in-Err-there c = search laws

pub returns-in-Ok-None-there : goal.returns-in-Ok-None-there
returns-in-Ok-None-there c = search laws

pub returns-in-Ok-Some-there : goal.returns-in-Ok-Some-there
returns-in-Ok-Some-there c =
    let here : c.look-here.result ≡ Ok None = search rules in
    let there : c.look-there.result ≡ Ok (Some c.in-Ok-Some-there.text) = search rules in
    in_fallback _ _ _ c.look-here.ensures c.look-there.ensures here there c.found_in.ensures

pub returns-in-Err-there-2 : goal.returns-in-Err-there-2
returns-in-Err-there-2 c = search laws

pub returns-in-Ok : goal.returns-in-Ok
returns-in-Ok c =
    let here : c.look-here.result ≡ Ok (Some c.in-Ok-Some.text) = search rules in
    in_asked_lem _ _ _ c.look-here.ensures c.look-there.ensures here c.in-Ok.is c.found_in-in-Ok.ensures
