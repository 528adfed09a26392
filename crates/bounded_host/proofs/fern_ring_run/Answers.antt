use borrow.Author.Rules.{rules}
use Rattle.bounded_host.proofs.Answering.{run_six, sound, stands_so}
use Rattle.bounded_host.proofs.Running.{begins, still_sound, stops_here, goes_on, ends_whole}
use Rattle.bounded_host.proofs.fern_ring_run.Goals as goal

pub returns-then-broken : goal.returns-then-broken
returns-then-broken c = search (rules, run_six)

pub loop-i-init : goal.loop-i-init
loop-i-init c = search (rules, begins, sound, stands_so)

pub turn-refusal-requires : goal.turn-refusal-requires
turn-refusal-requires c = record { records_value = (still_sound _ _ _ _ _ _ _ _ _ _ c.loop-i.invariant c.loop-i-test.true).0; records_value_2 = (still_sound _ _ _ _ _ _ _ _ _ _ c.loop-i.invariant c.loop-i-test.true).1 }

pub returns-then-refusal-ne0 : goal.returns-then-refusal-ne0
returns-then-refusal-ne0 c = search (rules, stops_here)

pub loop-i-preserved : goal.loop-i-preserved
loop-i-preserved c = goes_on _ _ _ _ _ _ _ _ _ _ c.loop-i.invariant c.loop-i-test.true
    c.turn-refusal.result _ _ _ (search rules) (search rules) (search rules)
    c.turn-refusal.ensures.records_after c.if-refusal-ne0.false

pub returns : goal.returns
returns c = search (rules, ends_whole)
