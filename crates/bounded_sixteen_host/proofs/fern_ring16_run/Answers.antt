use Rattle.bounded_sixteen_host.proofs.Running.{run_six, begins, still_sound, stops_here, goes_on, ends_whole}
use borrow.Author.Rules.{rules}
use Rattle.bounded_sixteen_host.proofs.fern_ring16_run.Goals as goal

pub returns-then-broken : goal.returns-then-broken
returns-then-broken c = let a = c.args in
    run_six a.head.now a.meter.now a.stamps.now a.values.now a.records.now c.broken.result c.broken.ensures
    a.schedule.now c.if-broken.true

pub loop-i-init : goal.loop-i-init
loop-i-init c = begins _ _ _ _ _ _ _ _ c.broken.result c.broken.ensures c.if-broken.false
    c.judged-whole.ensures c.entries_of-n.ensures

pub turn-refusal-requires : goal.turn-refusal-requires
turn-refusal-requires c = let both = still_sound _ _ _ _ _ _ _ _ _ _ _ _ _ _ c.loop-i.invariant
    c.loop-i-test.true in record { records_value = both.0; records_value_2 = both.1 }

pub returns-then-refusal-ne0 : goal.returns-then-refusal-ne0
returns-then-refusal-ne0 c = search (rules, stops_here)

pub loop-i-preserved : goal.loop-i-preserved
loop-i-preserved c = goes_on _ _ _ _ _ _ _ _ _ _ _ _ _ _ c.loop-i.invariant c.loop-i-test.true c.turn-refusal.result _ _ _ _
    _ c.turn-refusal.ensures.records_after
    c.turn-refusal.ensures.records_after_2
    c.turn-refusal.ensures.records_after_3 (search rules) (search rules) (search rules) (search rules)
    c.if-refusal-ne0.false

pub returns : goal.returns
returns c = search (rules, ends_whole)
