-- `records::packagings::values_at` meets its contract: eight numbers, each read at its place, by `values_are`.
use borrow.Author.Rules.{rules}
use Rattle.records.proofs.PackagingLaws.{values_are}
use Rattle.records.proofs.packagings.values_at.Goals as goal

ruleset laws = (rules, values_are)

pub signed_four_at-requires : goal.signed_four_at-requires
signed_four_at-requires c = search laws

pub signed_four_at-requires-2 : goal.signed_four_at-requires-2
signed_four_at-requires-2 c = search laws

pub signed_four_at-requires-3 : goal.signed_four_at-requires-3
signed_four_at-requires-3 c = search laws

pub signed_four_at-requires-4 : goal.signed_four_at-requires-4
signed_four_at-requires-4 c = search laws

pub signed_four_at-requires-5 : goal.signed_four_at-requires-5
signed_four_at-requires-5 c = search laws

pub signed_four_at-requires-6 : goal.signed_four_at-requires-6
signed_four_at-requires-6 c = search laws

pub signed_four_at-requires-7 : goal.signed_four_at-requires-7
signed_four_at-requires-7 c = search laws

pub signed_four_at-requires-8 : goal.signed_four_at-requires-8
signed_four_at-requires-8 c = search laws

pub returns : goal.returns
returns c = search laws
