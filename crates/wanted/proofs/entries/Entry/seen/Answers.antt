-- `wanted::entries::Entry::seen` meets its contract: by the laws `seen_..`.
use borrow.Author.Rules.{rules}
use Rattle.records.proofs.FieldLaws.{accepted_long, of_kind}
use Rattle.wanted.proofs.EntryLaws.{seen_other, seen_row}
use Rattle.wanted.proofs.entries.Entry.seen.Goals as goal

ruleset laws = (rules, accepted_long, of_kind, seen_other, seen_row)

pub returns-then-kind-ne2 : goal.returns-then-kind-ne2
returns-then-kind-ne2 c = search laws

pub returns : goal.returns
returns c = search laws
