-- `values::put_separator` meets its contract: by the laws `separator_..`.
use borrow.Author.Rules.{rules}
use Rattle.values.proofs.ValueLaws.{number_room, value_room, separator_blank, separator_number, separator_value}
use Rattle.values.proofs.put_separator.Goals as goal

ruleset laws = (rules, number_room, value_room, separator_blank, separator_number, separator_value)

pub put_part-requires-clause-size_in_bounds_2 : goal.put_part-requires-clause-size_in_bounds_2
put_part-requires-clause-size_in_bounds_2 c = search laws

pub returns-then-not-first : goal.returns-then-not-first
returns-then-not-first c = search laws

pub returns-then-scheme-eq0 : goal.returns-then-scheme-eq0
returns-then-scheme-eq0 c = search laws

pub put_part-requires-2-clause-size_in_bounds_2 : goal.put_part-requires-2-clause-size_in_bounds_2
put_part-requires-2-clause-size_in_bounds_2 c = search laws

pub returns : goal.returns
returns c = search laws
