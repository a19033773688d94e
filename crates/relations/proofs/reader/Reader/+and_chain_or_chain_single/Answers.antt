-- `relations::reader::Reader::+and_chain_or_chain_single` meets its contract: each way by its law.
use Rattle.std.proofs.lemmas.Result.{err_from_is_err_and}
use Rattle.relations.proofs.StartLaws.{start_deep, start_group_wrong, start_unclosed, start_group, start_simple}
use Rattle.relations.proofs.ChainLaws.{and_start, and_on, or_start, or_on}
use Rattle.relations.proofs.reader.Reader.+and_chain_or_chain_single.Goals as goal

pub and_chain-loop-one-init : goal.and_chain-loop-one-init
and_chain-loop-one-init t c = and_start c.requires.depth_at

pub and_chain-loop-one-preserved : goal.and_chain-loop-one-preserved
and_chain-loop-one-preserved t c = and_on c.loop-one.invariant c.in_ok-one.ensures c.and-truth.ensures c.in_ok-join.ensures c.in-And.is

pub or_chain-loop-chain-init : goal.or_chain-loop-chain-init
or_chain-loop-chain-init t c = or_start c.requires.depth_at

pub or_chain-loop-chain-preserved : goal.or_chain-loop-chain-preserved
or_chain-loop-chain-preserved t c = or_on c.loop-chain.invariant c.in_ok-chain.ensures c.or-truth.ensures c.in-Or.is

pub single-returns-then-depth-eq0 : goal.single-returns-then-depth-eq0
single-returns-then-depth-eq0 t c = start_deep c.in_ok-start.ensures c.in-Parenthesis.is c.args.depth c.if-depth-eq0.true

pub single-returns-in_err-inside-in-Parenthesis : goal.single-returns-in_err-inside-in-Parenthesis
single-returns-in_err-inside-in-Parenthesis t c = let p = err_from_is_err_and c.from_residual-in_err-inside-in-Parenthesis.result c.from_residual-in_err-inside-in-Parenthesis.ensures.1 in rw (p.1, p.2) (start_group_wrong c.in_ok-start.ensures c.in-Parenthesis.is c.requires.depth_at c.if-depth-eq0.false c.in_err-inside-in-Parenthesis.ensures)

pub single-returns-in_err-whole-in-Parenthesis : goal.single-returns-in_err-whole-in-Parenthesis
single-returns-in_err-whole-in-Parenthesis t c = let p = err_from_is_err_and c.from_residual-in_err-whole-in-Parenthesis.result c.from_residual-in_err-whole-in-Parenthesis.ensures.1 in rw (p.1, p.2) (start_unclosed c.in_ok-start.ensures c.in-Parenthesis.is c.requires.depth_at c.if-depth-eq0.false c.in_ok-inside-in-Parenthesis.ensures c.in_err-whole-in-Parenthesis.ensures)

pub single-returns-in_ok-whole-in-Parenthesis : goal.single-returns-in_ok-whole-in-Parenthesis
single-returns-in_ok-whole-in-Parenthesis t c = start_group c.in_ok-start.ensures c.in-Parenthesis.is c.requires.depth_at c.if-depth-eq0.false c.in_ok-inside-in-Parenthesis.ensures c.in_ok-whole-in-Parenthesis.ensures c.turned_by.ensures

pub single-returns-in_ok-plain-in-Token : goal.single-returns-in_ok-plain-in-Token
single-returns-in_ok-plain-in-Token t c = start_simple c.in_ok-start.ensures c.in_ok-plain-in-Token.ensures c.turned_by-in-Token.ensures
