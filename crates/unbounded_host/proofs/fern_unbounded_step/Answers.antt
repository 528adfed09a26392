use Rattle.unbounded_host.proofs.Answering.{step_six, head_words, pool_words, record_words, by_step}
use borrow.Author.Rules.{rules}
use Rattle.unbounded_host.proofs.fern_unbounded_step.Goals as goal

pub returns-then-not-stands : goal.returns-then-not-stands
returns-then-not-stands c = search (rules, step_six)

pub step_on-requires : goal.step_on-requires
step_on-requires c = record { head_len = search (rules, head_words); pool_len = search (rules, pool_words); records_len = search (rules, record_words) }

pub returns : goal.returns
returns c = search (rules, by_step)
