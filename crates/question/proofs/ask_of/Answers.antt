-- `question::ask_of` meets its contract: the places that it reads are in the slice, and what `names_stop` and `ask_from` ask holds, by the laws of an accepted question.
use borrow.Author.Rules.{rules}
use Rattle.question.proofs.AskLaws.{ask_long, ask_version, ask_count, ask_names, ask_at}
use Rattle.question.proofs.ask_of.Goals as goal

ruleset laws = (rules, ask_long, ask_version, ask_count, ask_names, ask_at)

pub bounds-s-5 : goal.bounds-s-5
bounds-s-5 c = search laws

pub bounds-s-count : goal.bounds-s-count
bounds-s-count c = search laws

pub bounds-s-4 : goal.bounds-s-4
bounds-s-4 c = search laws

pub names_stop-g-requires : goal.names_stop-g-requires
names_stop-g-requires c = search laws

pub ask_from-requires : goal.ask_from-requires
ask_from-requires c = ask_at _ c.requires c.wide-a.ensures
    c.wide.ensures c.names_stop-g.ensures
