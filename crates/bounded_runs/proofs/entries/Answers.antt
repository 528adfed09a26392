use Prim.Native.Nat.{ℕ, ◌<◌, ◌*◌, ◌/◌, ◌%◌}
use mathlib.Core.Path.{◌≡◌, refl, ap, ◌∙◌}
use mathlib.Core.Bool.{true}
use mathlib.Core.List.{List}
use native.Mathlib.Omega.{arith}
use borrow.Author.Rules.{rules}
use lib.ListN.{length}
use Rattle.queue_entries.specs.Limits.{workers_most, meter_most}
use Rattle.queue_entries.specs.declared.Entry.TheVariants.{Asks}
use Rattle.queue_entries.specs.declared.Verdict.TheVariants.{Move}
use Rattle.bounded_words.specs.Limits.{slots_most}
use Rattle.bounded_places.specs.declared.View.{View}
use Rattle.bounded_places.specs.Places.{view_of}
use Rattle.bounded_machine.specs.Machine.{place_of}
use Rattle.bounded_machine.specs.Turn.{spot_of, begun}
use Rattle.bounded_machine.proofs.Kept.{unbroken_of, fair_in}
use Rattle.bounded_machine.proofs.Turns.{stop_9, stop_3, stop, start, move, ended, worker_below, fits_in, spot_below, lost_below, started_unbroken, moved_unbroken, move_busy, move_in_time}
use Rattle.bounded_runs.proofs.entries.Goals as goal
use Rattle.bounded_runs.proofs.entries.Goals.{In-Asks, In-Move, Else-count-worker, After-spot-k, in-Start, in-Move}

halves : (s : List ℕ) → length s % 2 ≡ 0 → length s ≡ 2 * (length s / 2)
halves s e = omega arith

asks_at : (c : In-Asks) → c.entry_of.result ≡ Asks c.in-Asks.worker c.in-Asks.order
asks_at c = search rules

worker_below_at : (c : Else-count-worker) → c.in-Asks.worker < workers_most
worker_below_at c = worker_below _ c.loop-i.invariant.1 c.in-Asks.worker c.if-count-worker.false

moves_at : (c : In-Move) → c.verdict_of.result ≡ Move c.in-Move.lose
moves_at c = search rules

busy_at : (c : In-Move) → (view_of (place_of c.loop-i.workers c.in-Asks.worker)).busy ≡ true
busy_at c =
    let v = c.verdict_of in
    move_busy c.loop-i.meter (place_of c.loop-i.workers c.in-Asks.worker) c.in-Asks.order v.result v.ensures c.in-Move.lose
    (moves_at c)

in_time_at : (c : In-Move) → c.loop-i.meter < meter_most
in_time_at c =
    let v = c.verdict_of in
    move_in_time c.loop-i.meter (place_of c.loop-i.workers c.in-Asks.worker) c.in-Asks.order v.result v.ensures c.in-Move.lose
    (moves_at c)

spot_at : (c : After-spot-k) → c.spot-k.result ≡ spot_of (c.fixed-f.result) (view_of (place_of c.loop-i.workers c.in-Asks.worker)).held
spot_at c = c.spot-k.ensures ∙ ap (λ (v : View). spot_of (c.fixed-f.result) v.held) c.view_of.ensures

spot_below_at : (c : After-spot-k) → (view_of (place_of c.loop-i.workers c.in-Asks.worker)).busy ≡ true → c.spot-k.result < slots_most
spot_below_at c busy = spot_below _ c.loop-i.invariant.1 _ c.if-count-worker.false busy c.spot-k.result (spot_at c)

pub loop-i-init : goal.loop-i-init
loop-i-init c = (search (rules, halves), rw (c.fixed-f.ensures, c.ends-ends.ensures) (unbroken_of _ (search rules)), rw (c.fixed-f.ensures, c.ends-ends.ensures) refl)

pub returns-in_default : goal.returns-in_default
returns-in_default c = let l = c.loop-i in
    let e = c.entry_of in
    c.ran.ensures ∙ stop_9 _ _ _ _ _ _ l.invariant.2 l.invariant.0 (omega arith) e.result e.ensures (search rules)

pub returns-then-count-worker : goal.returns-then-count-worker
returns-then-count-worker c = let l = c.loop-i in
    let e = c.entry_of in
    let a = c.in-Asks in
    c.ran-then-count-worker.ensures ∙ stop_3 _ _ _ _ _ _ l.invariant.2 l.invariant.0 (omega arith)
    e.result e.ensures a.worker a.order (asks_at (goal.at.returns-then-count-worker c).In-Asks) c.if-count-worker.true

pub offset_bounds-workers-w : goal.offset_bounds-workers-w
offset_bounds-workers-w c = let h = worker_below_at (goal.at.offset_bounds-workers-w c).Else-count-worker in omega arith

pub bounds-workers-w : goal.bounds-workers-w
bounds-workers-w c = worker_below_at (goal.at.bounds-workers-w c).Else-count-worker

pub returns-in-Refuse : goal.returns-in-Refuse
returns-in-Refuse c = let l = c.loop-i in
    let e = c.entry_of in
    let a = c.in-Asks in
    let v = c.verdict_of in
    c.ran-in-Refuse.ensures ∙ stop _ _ _ _ _ _ l.invariant.2 l.invariant.0 (omega arith) e.result e.ensures a.worker a.order (asks_at (goal.at.returns-in-Refuse c).In-Asks)
    v.result c.if-count-worker.false v.ensures c.in-Refuse.number (search rules)

pub offset_bounds-workers-w-in-Start : goal.offset_bounds-workers-w-in-Start
offset_bounds-workers-w-in-Start c = let h = worker_below_at (goal.at.offset_bounds-workers-w-in-Start c).Else-count-worker in omega arith

pub bounds-workers-w-in-Start : goal.bounds-workers-w-in-Start
bounds-workers-w-in-Start c = worker_below_at (goal.at.bounds-workers-w-in-Start c).Else-count-worker

pub spot-k-requires : goal.spot-k-requires
spot-k-requires c = fair_in _ c.loop-i.invariant.1

pub offset_bounds-slots-k : goal.offset_bounds-slots-k
offset_bounds-slots-k c = let h = spot_below_at (goal.at.offset_bounds-slots-k c).After-spot-k (busy_at (goal.at.offset_bounds-slots-k c).In-Move) in omega arith

pub bounds-slots-k : goal.bounds-slots-k
bounds-slots-k c = spot_below_at (goal.at.bounds-slots-k c).After-spot-k (busy_at (goal.at.bounds-slots-k c).In-Move)

pub act_at-a-requires : goal.act_at-a-requires
act_at-a-requires c = fits_in _ c.loop-i.invariant.1 _ c.if-count-worker.false (busy_at (goal.at.act_at-a-requires c).In-Move)

pub offset_bounds-slots-k-in-Move : goal.offset_bounds-slots-k-in-Move
offset_bounds-slots-k-in-Move c = let h = spot_below_at (goal.at.offset_bounds-slots-k-in-Move c).After-spot-k (busy_at (goal.at.offset_bounds-slots-k-in-Move c).In-Move) in omega arith

pub bounds-slots-k-in-Move : goal.bounds-slots-k-in-Move
bounds-slots-k-in-Move c = spot_below_at (goal.at.bounds-slots-k-in-Move c).After-spot-k (busy_at (goal.at.bounds-slots-k-in-Move c).In-Move)

pub record_after-requires : goal.record_after-requires
record_after-requires c = lost_below _ c.loop-i.invariant.1 _ c.if-count-worker.false (in_time_at (goal.at.record_after-requires c).In-Move)

pub offset_bounds-workers-w-in-Move : goal.offset_bounds-workers-w-in-Move
offset_bounds-workers-w-in-Move c = let h = worker_below_at (goal.at.offset_bounds-workers-w-in-Move c).Else-count-worker in omega arith

pub bounds-workers-w-in-Move : goal.bounds-workers-w-in-Move
bounds-workers-w-in-Move c = worker_below_at (goal.at.bounds-workers-w-in-Move c).Else-count-worker

pub overflow_add-meter : goal.overflow_add-meter
overflow_add-meter c = let h = in_time_at (goal.at.overflow_add-meter c).In-Move in omega arith

pub loop-i-preserved : goal.loop-i-preserved
unfolding begun
loop-i-preserved c = let l = c.loop-i in
    let e = c.entry_of in
    let a = c.in-Asks in
    let v = c.verdict_of in
    let g = c.if-count-worker.false in
    let asks : e.result ≡ Asks a.worker a.order = asks_at (goal.at.loop-i-preserved c).In-Asks in
    elim c.match-verdict_of.branch [
      | in-Start w ↦ rw (w.ends-is, w.slots-is, w.workers-is, w.meter-is) (
        l.invariant.0,
        started_unbroken _ l.invariant.1 a.worker g w.in-Start.call _ w.first_place.ensures,
        start _ _ _ _ _ _ l.invariant.2 l.invariant.0 (omega arith) e.result e.ensures a.worker a.order asks v.result g
            v.ensures w.in-Start.call _ w.in-Start.is w.first_place.ensures,
      )
      | in-Move w ↦
          let h = w.act_at-a in
          let busy : (view_of (place_of l.workers a.worker)).busy ≡ true
          = move_busy l.meter (place_of l.workers a.worker) a.order v.result v.ensures w.in-Move.lose w.in-Move.is in
          let spot : w.spot-k.result ≡ spot_of c.fixed-f.result (view_of (place_of l.workers a.worker)).held
          = w.spot-k.ensures ∙ ap (λ (x : View). spot_of c.fixed-f.result x.held) w.view_of.ensures in
          rw (w.ends-is, w.slots-is, w.workers-is, w.meter-is) (
            l.invariant.0,
            moved_unbroken _ l.invariant.1 a.worker g _ _ h.result _ _ busy h.ensures _ w.record_after.ensures,
            move _ _ _ _ _ _ l.invariant.2 l.invariant.0 (omega arith) e.result e.ensures a.worker a.order asks v.result g v.ensures
                w.in-Move.lose w.spot-k.result h.result w.in-Move.is spot h.ensures _ w.record_after.ensures,
          )
    ]

pub returns : goal.returns
returns c =
    let e : length c.args.schedule.now / 2 ≡ c.loop-i.i = omega arith in
    c.ran-2.ensures ∙ rw e (ended _ _ _ _ _ _ c.loop-i.invariant.2 c.loop-i.invariant.0 (omega arith))
