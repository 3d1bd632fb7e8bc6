-- As many clauses as the gate's definition has (`ClauseLaws`).
use native.Mathlib.Omega.{arith}
use Rattle.miter.proofs.ClauseLaws.{count_of, few_each}
use Rattle.miter.proofs.clauses.behind.Goals as goal

pub overflow_cast-result : goal.overflow_cast-result
overflow_cast-result c = let op = c.args.op in omega (arith, c.clause_count.ensures 0 0 0, count_of op, few_each op)

pub overflow_add-result : goal.overflow_add-result
overflow_add-result c = let op = c.args.op in omega (arith, c.clause_count.ensures 0 0 0, count_of op, few_each op)

pub returns : goal.returns
returns c = omega (arith, c.clause_count.ensures 0 0 0, count_of c.args.op)
