-- So many zeros are as many bytes. The level is written out: without it they would be counted one by one.
use Rattle.std.proofs.Common.{ℕ}
use Rattle.std.proofs.lemmas.List.{length-replicate}
use Rattle.vectors.proofs.zeros.Goals as goal

pub returns : goal.returns
returns c = length-replicate {0} {A = ℕ} 524288 0
