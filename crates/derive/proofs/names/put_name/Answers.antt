-- `derive::names::put_name` meets its contract: length, bytes and factor, by `put_factor` and `put_plain`.
use borrow.Author.Rules.{rules}
use Rattle.derive.proofs.WriteLaws.{put_factor, put_plain}
use Rattle.derive.proofs.names.put_name.Goals as goal

pub returns-then-version-eq-WITH_FACTORS : goal.returns-then-version-eq-WITH_FACTORS
returns-then-version-eq-WITH_FACTORS c = search (rules, put_factor)

pub returns : goal.returns
returns c = search (rules, put_plain)
