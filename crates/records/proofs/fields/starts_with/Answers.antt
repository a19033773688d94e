-- `records::fields::starts_with` meets its contract: another kind, or the first name compared, by `starts_not` and `starts_is`.
use borrow.Author.Rules.{rules}
use Rattle.records.proofs.FieldLaws.{accepted_long, first_long, first_in, starts_not, starts_is}
use Rattle.records.proofs.fields.starts_with.Goals as goal

ruleset laws = (rules, accepted_long, first_long, first_in, starts_not, starts_is)

pub bounds-t-0 : goal.bounds-t-0
bounds-t-0 c = search laws

pub returns-then-t-kind : goal.returns-then-t-kind
returns-then-t-kind c = search laws

pub name_stop-end-requires : goal.name_stop-end-requires
name_stop-end-requires c = search laws

pub slice_bounds-same_bytes-end : goal.slice_bounds-same_bytes-end
slice_bounds-same_bytes-end c = search laws

pub same_bytes-requires : goal.same_bytes-requires
same_bytes-requires c = search laws

pub returns : goal.returns
returns c = search laws
