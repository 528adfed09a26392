use Rattle.unbounded_host.proofs.Answering.{run_six, shape_so, by_run}
use borrow.Author.Rules.{rules}
use Rattle.unbounded_host.proofs.fern_unbounded_run.Goals as goal

pub returns-then-not-stands : goal.returns-then-not-stands
returns-then-not-stands c = search (rules, run_six)

pub run_on-requires : goal.run_on-requires
run_on-requires c =
    shape_so c.args.head.now
    c.args.pool.now
    c.args.records.now
    c.stands.result c.stands.ensures c.if-not-stands.false

pub returns : goal.returns
returns c = search (rules, by_run)
