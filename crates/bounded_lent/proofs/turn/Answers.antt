use Rattle.std.proofs.Common.{◌<◌, refl, sym, ap, subst, arith, length, ℕ}
use Rattle.bounded_words.specs.declared.Width.TheVariants.{SixtyFour}
use Rattle.bounded_step_record.proofs.Resting.{worker_below}
use Rattle.bounded_step_record.proofs.Back.{put_back_lem}
use Rattle.bounded_lent.specs.Lent.{held, lent_of}
use Rattle.bounded_lent.proofs.Turning.{unbroken_lent, some_record, fair_lent, record_fits_lem, spot_below}
use Rattle.bounded_lent.proofs.turn.Goals as goal
use Rattle.bounded_lent.proofs.turn.Goals.{After-worker_of-w, After-slot_of-k}

below_count : (c : After-worker_of-w) → c.worker_of-w.result < length c.args.records.now
below_count c =
    let h = c.args.ring.now in
    let ys = c.args.records.now in
    subst (λ (v : ℕ). v < length ys) (sym c.worker_of-w.ensures) (worker_below c.args.first (length ys) (some_record h ys (unbroken_lent h ys c.requires)))

below_slots : (c : After-slot_of-k) → c.worker_of-w.result < length c.args.records.now → c.slot_of-k.result < 1024
below_slots c below =
    let h = c.args.ring.now in
    let ys = c.args.records.now in
    subst (λ (v : ℕ). v < 1024) (sym c.slot_of-k.ensures) (spot_below h ys (unbroken_lent h ys c.requires) c.worker_of-w.result below)

pub slice_copy_out-worker : goal.slice_copy_out-worker
slice_copy_out-worker c = below_count c

pub offset_bounds-records-w : goal.offset_bounds-records-w
offset_bounds-records-w c = record { fits = omega (arith, below_count c) }

pub slot_of-k-requires : goal.slot_of-k-requires
slot_of-k-requires c = fair_lent _ _ (unbroken_lent c.args.ring.now c.args.records.now c.requires)

pub bounds-ring-k : goal.bounds-ring-k
bounds-ring-k c = below_slots (goal.at.bounds-ring-k c).After-slot_of-k (below_count (goal.at.bounds-ring-k c).After-worker_of-w)

pub offset_bounds-ring-k : goal.offset_bounds-ring-k
offset_bounds-ring-k c = record { fits = omega (arith, below_slots (goal.at.offset_bounds-ring-k c).After-slot_of-k (below_count (goal.at.offset_bounds-ring-k c).After-worker_of-w)) }

pub turn_on-t-requires-clause-fair : goal.turn_on-t-requires-clause-fair
turn_on-t-requires-clause-fair c = fair_lent _ _ (unbroken_lent c.args.ring.now c.args.records.now c.requires)

pub turn_on-t-requires-clause-true_value : goal.turn_on-t-requires-clause-true_value
turn_on-t-requires-clause-true_value c =
    record_fits_lem c.args.ring.now c.args.records.now (unbroken_lent c.args.ring.now c.args.records.now c.requires) c.worker_of-w.result
    (below_count (goal.at.turn_on-t-requires-clause-true_value c).After-worker_of-w)

pub offset_bounds-ring-k-2 : goal.offset_bounds-ring-k-2
offset_bounds-ring-k-2 c = record { fits = omega (arith, below_slots (goal.at.offset_bounds-ring-k-2 c).After-slot_of-k (below_count (goal.at.offset_bounds-ring-k-2 c).After-worker_of-w)) }

pub bounds-ring-k-2 : goal.bounds-ring-k-2
bounds-ring-k-2 c = below_slots (goal.at.bounds-ring-k-2 c).After-slot_of-k (below_count (goal.at.bounds-ring-k-2 c).After-worker_of-w)

pub offset_bounds-records-w-2 : goal.offset_bounds-records-w-2
offset_bounds-records-w-2 c = record { fits = omega (arith, below_count (goal.at.offset_bounds-records-w-2 c).After-worker_of-w) }

pub bounds-records-w : goal.bounds-records-w
bounds-records-w c = below_count (goal.at.bounds-records-w c).After-worker_of-w

pub returns : goal.returns
returns c =
    ap lent_of (put_back_lem SixtyFour (held c.args.ring.now c.args.records.now) c.worker_of-w.result c.slot_of-k.result (length c.args.records.now)
    c.turn_on-t.result c.args.first c.args.second refl c.worker_of-w.ensures c.slot_of-k.ensures c.turn_on-t.ensures)
