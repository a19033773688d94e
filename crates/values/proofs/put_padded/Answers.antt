-- `values::put_padded` meets its contract: by the laws `padded_..`.
use borrow.Author.Rules.{rules}
use Rattle.values.proofs.ValueLaws.{padded_filled, padded_trimmed}
use Rattle.values.proofs.put_padded.Goals as goal

ruleset laws = (rules, padded_filled, padded_trimmed)

pub put_bytes-end-requires : goal.put_bytes-end-requires
put_bytes-end-requires c = search laws

pub put_run-requires : goal.put_run-requires
put_run-requires c = search laws

pub returns-then-trim-eq0 : goal.returns-then-trim-eq0
returns-then-trim-eq0 c = search laws

pub returns : goal.returns
returns c = search laws
