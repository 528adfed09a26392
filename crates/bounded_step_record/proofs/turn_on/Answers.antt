use mathlib.Core.Path.{◌≡◌, ◌∙◌}
use mathlib.Core.Bool.{true}
use Prim.Native.Nat.{◌<◌, ◌≤◌}
use native.Mathlib.Omega.{arith}
use Rattle.queue_entries.specs.Limits.{meter_most}
use Rattle.queue_entries.specs.declared.Entry.TheVariants.{Asks}
use Rattle.bounded_places.specs.Places.{view_of}
use Rattle.bounded_machine.proofs.Turns.{move_busy, move_in_time}
use Rattle.bounded_machine.proofs.Kept.{few_differed, few_failed, of_record}
use Rattle.bounded_step_record.proofs.Turns.{nine, three, stop, start, move}
use borrow.Author.Rules.{rules}
use Rattle.bounded_step_record.proofs.turn_on.Goals as goal
use Rattle.bounded_step_record.proofs.turn_on.Goals.{In-Move}

busy_at : (c : In-Move) → (view_of c.args.r.place).busy ≡ true
busy_at c = move_busy c.args.meter c.args.r.place c.in-Asks.order c.verdict_of.result c.verdict_of.ensures c.in-Move.lose (search rules)

in_time_at : (c : In-Move) → c.args.meter < meter_most
in_time_at c = move_in_time c.args.meter c.args.r.place c.in-Asks.order c.verdict_of.result c.verdict_of.ensures c.in-Move.lose (search rules)

few_at : (c : In-Move) → (c.args.r.differed ≤ c.args.meter) × (c.args.r.failed ≤ c.args.meter)
few_at c = (
  few_differed c.args.f c.args.meter c.args.r true (search rules),
  few_failed c.args.f c.args.meter c.args.r true (search rules),
)

asks_at : (c : In-Move) → c.entry_of.result ≡ Asks c.in-Asks.worker c.in-Asks.order
asks_at c = search rules

pub returns-in_default : goal.returns-in_default
returns-in_default c = c.with.ensures ∙ nine _ _ _ _ _ _ _ _ _ c.entry_of.result c.entry_of.ensures (search rules)

pub returns-then-count-worker : goal.returns-then-count-worker
returns-then-count-worker c = c.with-then-count-worker.ensures
    ∙ three _ _ _ _ _ _ _ _ _ c.entry_of.result c.entry_of.ensures
    c.in-Asks.worker c.in-Asks.order (search rules) c.if-count-worker.true

pub act_at-a-requires : goal.act_at-a-requires
act_at-a-requires c = record {
  fair = search rules;
  held = of_record c.args.f
      c.args.meter
      c.args.r true (search rules) (busy_at (goal.at.act_at-a-requires c).In-Move);
}

pub record_after-after-requires : goal.record_after-after-requires
record_after-after-requires c = let t = few_at (goal.at.record_after-after-requires c).In-Move in let u = in_time_at (goal.at.record_after-after-requires c).In-Move in (omega (arith, t, u), omega (arith, t, u))

pub overflow_add-meter : goal.overflow_add-meter
overflow_add-meter c = let u = in_time_at (goal.at.overflow_add-meter c).In-Move in record { fits = omega (arith, u) }

pub returns-in-Refuse : goal.returns-in-Refuse
returns-in-Refuse c = c.with-in-Refuse.ensures
    ∙ stop _ _ _ _ _ _ _ _ _ c.entry_of.result
    c.entry_of.ensures c.in-Asks.worker c.in-Asks.order (search rules)
    c.verdict_of.result c.if-count-worker.false
    c.verdict_of.ensures c.in-Refuse.number (search rules)

pub returns-in-Start : goal.returns-in-Start
returns-in-Start c = c.with-in-Start.ensures
    ∙ start _ _ _ _ _ _ _ _ _ c.entry_of.result
    c.entry_of.ensures c.in-Asks.worker c.in-Asks.order (search rules)
    c.verdict_of.result c.if-count-worker.false
    c.verdict_of.ensures c.in-Start.call _ (search rules)
    c.first_place.ensures

pub returns-in-Move : goal.returns-in-Move
returns-in-Move c = c.with-in-Move.ensures
    ∙ move _ _ _ _ _ _ _ _ _ c.entry_of.result
    c.entry_of.ensures c.in-Asks.worker c.in-Asks.order
    (asks_at (goal.at.returns-in-Move c).In-Move) c.verdict_of.result
    c.if-count-worker.false
    c.verdict_of.ensures
    c.in-Move.lose c.act_at-a.result _ (search rules)
    c.act_at-a.ensures c.record_after-after.ensures
