use borrow.Author.Rules.{rules}
use Prim.Native.Nat.{ℕ, ◌+◌, ◌*◌, ◌-◌, ◌≤◌}
use mathlib.Core.Path.{◌≡◌, refl, sym, ◌∙◌, subst}
use mathlib.Core.Bool.{cond}
use mathlib.Core.List.{List}
use native.Mathlib.Omega.{arith}
use lib.ListN.{set}
use Rattle.queue_entries.proofs.Pick.{on, off}
use Rattle.unbounded_words.specs.Words.{sizes}
use Rattle.unbounded_places.specs.declared.Slot.{Slot}
use Rattle.unbounded_machine.specs.declared.Machine.{Machine}
use Rattle.unbounded_machine.specs.Machine.{machine_of}
use Rattle.unbounded_machine.specs.Broken.{records_fit}
use Rattle.unbounded_machine.specs.Turn.{lowest_free, cleared_from, cleared}
use Rattle.unbounded_machine.proofs.Laws as laws
use Rattle.unbounded_judged.specs.declared.Known.{Known}
use Rattle.unbounded_judged.proofs.Knows.{Knows, knows_nothing}
use Rattle.unbounded_entries.proofs.Outcome.{slots_for, ask_fits, look_below}
use Rattle.unbounded_runs.proofs.Turns.{clears, keeps, first_stand, stand_few, aims, place_fits, stops, same_fits, same_knows, counted, stays, walks, ends}
use Rattle.unbounded_runs.proofs.run_from.Goals as goal
use Rattle.unbounded_runs.proofs.run_from.Goals.{then-way, else-way, then-aim+else-loop-c-test, else-aim, else-not-same_header, then-not-same_header, then-due, else-due}

cleared-is : (k c : ℕ) (l l₀ : List Slot) → cleared_from (31 - c) (k * 31 + c) l ≡ cleared_from 31 (k * 31 + 0) l₀ → 31 ≤ c → l ≡ cleared sizes l₀ k
unfolding cleared
cleared-is k c l l₀ back h = laws.clear_done k c l _ back h

pub loop-i-init : goal.loop-i-init
loop-i-init c = (search rules, first_stand _ _ _ _ _ (search rules) (search rules) (search rules) (search rules) (search rules))

pub offset_bounds-workers-asker : goal.offset_bounds-workers-asker
offset_bounds-workers-asker c = let h = ask_fits _ _ _ _ c.ask_of-ask.result c.ask_of-ask.ensures (stand_few _ _ _ _ _ _ _ _ c.loop-i.invariant.1) in omega arith

pub bounds-workers-asker : goal.bounds-workers-asker
bounds-workers-asker c = ask_fits _ _ _ _ c.ask_of-ask.result c.ask_of-ask.ensures (stand_few _ _ _ _ _ _ _ _ c.loop-i.invariant.1)

pub returns-then-refusal-gt0 : goal.returns-then-refusal-gt0
returns-then-refusal-gt0 c =
    let low : c.if-way.lowest ≡ cond c.way_of-way.result.takes (lowest_free sizes c.loop-i.blocks) c.way_of-way.result.block =
    elim c.if-way.branch [ then-way w ↦ on _ _ _ _ w.if-way.true (w.lowest-is ∙ w.lowest_free-lowest.ensures) | else-way w ↦ off _ _ _ _ w.if-way.false w.lowest-is ] in
    c.ran.ensures ∙ stops _ _ _ _ _ _ _ _ c.loop-i.invariant.1 c.loop-i-test.true c.aim_of-aim.result
    (aims _ _ _ _ _ _ _ _ c.loop-i.invariant.1 c.ask_of-ask.result c.ask_of-ask.ensures c.way_of-way.result c.way_of-way.ensures
    c.if-way.lowest low c.aim_of-aim.result c.aim_of-aim.ensures) c.if-refusal-gt0.true

pub loop-c-init : goal.loop-c-init
loop-c-init c =
    let low : c.if-way.lowest ≡ cond c.way_of-way.result.takes (lowest_free sizes c.loop-i.blocks) c.way_of-way.result.block =
    elim c.if-way.branch [ then-way w ↦ on _ _ _ _ w.if-way.true (w.lowest-is ∙ w.lowest_free-lowest.ensures) | else-way w ↦ off _ _ _ _ w.if-way.false w.lowest-is ] in
    let h = place_fits _ _ _ _ _ _ _ _ c.loop-i.invariant.1 c.ask_of-ask.result c.ask_of-ask.ensures c.way_of-way.result c.way_of-way.ensures
    c.if-way.lowest low c.aim_of-aim.result c.aim_of-aim.ensures (omega arith) in
    (h.1, refl)

pub loop-c-preserved : goal.loop-c-preserved
loop-c-preserved c = (c.loop-c.invariant.0, laws.clears _ _ _ _ c.loop-c.invariant.1 c.loop-c-test.true)

pub overflow_mul-j : goal.overflow_mul-j
overflow_mul-j c =
    let low : c.if-way.lowest ≡ cond c.way_of-way.result.takes (lowest_free sizes c.loop-i.blocks) c.way_of-way.result.block =
    elim c.if-way.branch [ then-way w ↦ on _ _ _ _ w.if-way.true (w.lowest-is ∙ w.lowest_free-lowest.ensures) | else-way w ↦ off _ _ _ _ w.if-way.false w.lowest-is ] in
    let h = place_fits _ _ _ _ _ _ _ _ c.loop-i.invariant.1 c.ask_of-ask.result c.ask_of-ask.ensures c.way_of-way.result c.way_of-way.ensures
    c.if-way.lowest low c.aim_of-aim.result c.aim_of-aim.ensures (omega arith) in
    omega arith

pub overflow_add-j : goal.overflow_add-j
overflow_add-j c =
    let low : c.if-way.lowest ≡ cond c.way_of-way.result.takes (lowest_free sizes c.loop-i.blocks) c.way_of-way.result.block =
    elim c.if-way.branch [ then-way w ↦ on _ _ _ _ w.if-way.true (w.lowest-is ∙ w.lowest_free-lowest.ensures) | else-way w ↦ off _ _ _ _ w.if-way.false w.lowest-is ] in
    let h = place_fits _ _ _ _ _ _ _ _ c.loop-i.invariant.1 c.ask_of-ask.result c.ask_of-ask.ensures c.way_of-way.result c.way_of-way.ensures
    c.if-way.lowest low c.aim_of-aim.result c.aim_of-aim.ensures (omega arith) in
    omega arith

pub offset_bounds-blocks-k : goal.offset_bounds-blocks-k
offset_bounds-blocks-k c =
    let low : c.if-way.lowest ≡ cond c.way_of-way.result.takes (lowest_free sizes c.loop-i.blocks) c.way_of-way.result.block =
    elim c.if-way.branch [ then-way w ↦ on _ _ _ _ w.if-way.true (w.lowest-is ∙ w.lowest_free-lowest.ensures) | else-way w ↦ off _ _ _ _ w.if-way.false w.lowest-is ] in
    let h = place_fits _ _ _ _ _ _ _ _ c.loop-i.invariant.1 c.ask_of-ask.result c.ask_of-ask.ensures c.way_of-way.result c.way_of-way.ensures
    c.if-way.lowest low c.aim_of-aim.result c.aim_of-aim.ensures (omega arith) in
    omega arith

pub bounds-blocks-k : goal.bounds-blocks-k
bounds-blocks-k c =
    let low : c.if-way.lowest ≡ cond c.way_of-way.result.takes (lowest_free sizes c.loop-i.blocks) c.way_of-way.result.block =
    elim c.if-way.branch [ then-way w ↦ on _ _ _ _ w.if-way.true (w.lowest-is ∙ w.lowest_free-lowest.ensures) | else-way w ↦ off _ _ _ _ w.if-way.false w.lowest-is ] in
    let h = place_fits _ _ _ _ _ _ _ _ c.loop-i.invariant.1 c.ask_of-ask.result c.ask_of-ask.ensures c.way_of-way.result c.way_of-way.ensures
    c.if-way.lowest low c.aim_of-aim.result c.aim_of-aim.ensures (omega arith) in
    omega arith

pub offset_bounds-slots-j : goal.offset_bounds-slots-j
offset_bounds-slots-j c =
    let low : c.if-way.lowest ≡ cond c.way_of-way.result.takes (lowest_free sizes c.loop-i.blocks) c.way_of-way.result.block =
    elim c.if-way.branch [ then-way w ↦ on _ _ _ _ w.if-way.true (w.lowest-is ∙ w.lowest_free-lowest.ensures) | else-way w ↦ off _ _ _ _ w.if-way.false w.lowest-is ] in
    let h = place_fits _ _ _ _ _ _ _ _ c.loop-i.invariant.1 c.ask_of-ask.result c.ask_of-ask.ensures c.way_of-way.result c.way_of-way.ensures
    c.if-way.lowest low c.aim_of-aim.result c.aim_of-aim.ensures (omega arith) in
    omega arith

pub bounds-slots-j : goal.bounds-slots-j
bounds-slots-j c =
    let low : c.if-way.lowest ≡ cond c.way_of-way.result.takes (lowest_free sizes c.loop-i.blocks) c.way_of-way.result.block =
    elim c.if-way.branch [ then-way w ↦ on _ _ _ _ w.if-way.true (w.lowest-is ∙ w.lowest_free-lowest.ensures) | else-way w ↦ off _ _ _ _ w.if-way.false w.lowest-is ] in
    let h = place_fits _ _ _ _ _ _ _ _ c.loop-i.invariant.1 c.ask_of-ask.result c.ask_of-ask.ensures c.way_of-way.result c.way_of-way.ensures
    c.if-way.lowest low c.aim_of-aim.result c.aim_of-aim.ensures (omega arith) in
    omega arith

pub offset_bounds-workers-w : goal.offset_bounds-workers-w
offset_bounds-workers-w c =
    let low : c.if-way.lowest ≡ cond c.way_of-way.result.takes (lowest_free sizes c.loop-i.blocks) c.way_of-way.result.block =
    elim c.if-way.branch [ then-way w ↦ on _ _ _ _ w.if-way.true (w.lowest-is ∙ w.lowest_free-lowest.ensures) | else-way w ↦ off _ _ _ _ w.if-way.false w.lowest-is ] in
    let h = place_fits _ _ _ _ _ _ _ _ c.loop-i.invariant.1 c.ask_of-ask.result c.ask_of-ask.ensures c.way_of-way.result c.way_of-way.ensures
    c.if-way.lowest low c.aim_of-aim.result c.aim_of-aim.ensures (omega arith) in
    omega arith

pub bounds-workers-w : goal.bounds-workers-w
bounds-workers-w c =
    let low : c.if-way.lowest ≡ cond c.way_of-way.result.takes (lowest_free sizes c.loop-i.blocks) c.way_of-way.result.block =
    elim c.if-way.branch [ then-way w ↦ on _ _ _ _ w.if-way.true (w.lowest-is ∙ w.lowest_free-lowest.ensures) | else-way w ↦ off _ _ _ _ w.if-way.false w.lowest-is ] in
    let h = place_fits _ _ _ _ _ _ _ _ c.loop-i.invariant.1 c.ask_of-ask.result c.ask_of-ask.ensures c.way_of-way.result c.way_of-way.ensures
    c.if-way.lowest low c.aim_of-aim.result c.aim_of-aim.ensures (omega arith) in
    omega arith

pub offset_bounds-blocks-k-in-loop-i : goal.offset_bounds-blocks-k-in-loop-i
offset_bounds-blocks-k-in-loop-i c =
    let low : c.if-way.lowest ≡ cond c.way_of-way.result.takes (lowest_free sizes c.loop-i.blocks) c.way_of-way.result.block =
    elim c.if-way.branch [ then-way w ↦ on _ _ _ _ w.if-way.true (w.lowest-is ∙ w.lowest_free-lowest.ensures) | else-way w ↦ off _ _ _ _ w.if-way.false w.lowest-is ] in
    let h = place_fits _ _ _ _ _ _ _ _ c.loop-i.invariant.1 c.ask_of-ask.result c.ask_of-ask.ensures c.way_of-way.result c.way_of-way.ensures
    c.if-way.lowest low c.aim_of-aim.result c.aim_of-aim.ensures (omega arith) in
    omega arith

pub bounds-blocks-k-in-loop-i : goal.bounds-blocks-k-in-loop-i
bounds-blocks-k-in-loop-i c =
    let low : c.if-way.lowest ≡ cond c.way_of-way.result.takes (lowest_free sizes c.loop-i.blocks) c.way_of-way.result.block =
    elim c.if-way.branch [ then-way w ↦ on _ _ _ _ w.if-way.true (w.lowest-is ∙ w.lowest_free-lowest.ensures) | else-way w ↦ off _ _ _ _ w.if-way.false w.lowest-is ] in
    let h = place_fits _ _ _ _ _ _ _ _ c.loop-i.invariant.1 c.ask_of-ask.result c.ask_of-ask.ensures c.way_of-way.result c.way_of-way.ensures
    c.if-way.lowest low c.aim_of-aim.result c.aim_of-aim.ensures (omega arith) in
    omega arith

pub offset_bounds-slots-j-in-loop-i : goal.offset_bounds-slots-j-in-loop-i
offset_bounds-slots-j-in-loop-i c =
    let low : c.if-way.lowest ≡ cond c.way_of-way.result.takes (lowest_free sizes c.loop-i.blocks) c.way_of-way.result.block =
    elim c.if-way.branch [ then-way w ↦ on _ _ _ _ w.if-way.true (w.lowest-is ∙ w.lowest_free-lowest.ensures) | else-way w ↦ off _ _ _ _ w.if-way.false w.lowest-is ] in
    let h = place_fits _ _ _ _ _ _ _ _ c.loop-i.invariant.1 c.ask_of-ask.result c.ask_of-ask.ensures c.way_of-way.result c.way_of-way.ensures
    c.if-way.lowest low c.aim_of-aim.result c.aim_of-aim.ensures (omega arith) in
    omega arith

pub bounds-slots-j-in-loop-i : goal.bounds-slots-j-in-loop-i
bounds-slots-j-in-loop-i c =
    let low : c.if-way.lowest ≡ cond c.way_of-way.result.takes (lowest_free sizes c.loop-i.blocks) c.way_of-way.result.block =
    elim c.if-way.branch [ then-way w ↦ on _ _ _ _ w.if-way.true (w.lowest-is ∙ w.lowest_free-lowest.ensures) | else-way w ↦ off _ _ _ _ w.if-way.false w.lowest-is ] in
    let h = place_fits _ _ _ _ _ _ _ _ c.loop-i.invariant.1 c.ask_of-ask.result c.ask_of-ask.ensures c.way_of-way.result c.way_of-way.ensures
    c.if-way.lowest low c.aim_of-aim.result c.aim_of-aim.ensures (omega arith) in
    omega arith

pub offset_bounds-workers-w-in-loop-i : goal.offset_bounds-workers-w-in-loop-i
offset_bounds-workers-w-in-loop-i c =
    let low : c.if-way.lowest ≡ cond c.way_of-way.result.takes (lowest_free sizes c.loop-i.blocks) c.way_of-way.result.block =
    elim c.if-way.branch [ then-way w ↦ on _ _ _ _ w.if-way.true (w.lowest-is ∙ w.lowest_free-lowest.ensures) | else-way w ↦ off _ _ _ _ w.if-way.false w.lowest-is ] in
    let h = place_fits _ _ _ _ _ _ _ _ c.loop-i.invariant.1 c.ask_of-ask.result c.ask_of-ask.ensures c.way_of-way.result c.way_of-way.ensures
    c.if-way.lowest low c.aim_of-aim.result c.aim_of-aim.ensures (omega arith) in
    omega arith

pub bounds-workers-w-in-loop-i : goal.bounds-workers-w-in-loop-i
bounds-workers-w-in-loop-i c =
    let low : c.if-way.lowest ≡ cond c.way_of-way.result.takes (lowest_free sizes c.loop-i.blocks) c.way_of-way.result.block =
    elim c.if-way.branch [ then-way w ↦ on _ _ _ _ w.if-way.true (w.lowest-is ∙ w.lowest_free-lowest.ensures) | else-way w ↦ off _ _ _ _ w.if-way.false w.lowest-is ] in
    let h = place_fits _ _ _ _ _ _ _ _ c.loop-i.invariant.1 c.ask_of-ask.result c.ask_of-ask.ensures c.way_of-way.result c.way_of-way.ensures
    c.if-way.lowest low c.aim_of-aim.result c.aim_of-aim.ensures (omega arith) in
    omega arith

pub offset_bounds-blocks-spot : goal.offset_bounds-blocks-spot
offset_bounds-blocks-spot c = let h = look_below _ c.look_at-look.result c.look_at-look.ensures in omega arith

pub bounds-blocks-spot : goal.bounds-blocks-spot
bounds-blocks-spot c = look_below _ c.look_at-look.result c.look_at-look.ensures

pub loop-i-preserved : goal.loop-i-preserved
loop-i-preserved c =
    let low : c.if-way.lowest ≡ cond c.way_of-way.result.takes (lowest_free sizes c.loop-i.blocks) c.way_of-way.result.block =
    elim c.if-way.branch [ then-way w ↦ on _ _ _ _ w.if-way.true (w.lowest-is ∙ w.lowest_free-lowest.ensures) | else-way w ↦ off _ _ _ _ w.if-way.false w.lowest-is ] in
    let m : Machine = machine_of c.loop-i.ends c.loop-i.blocks c.loop-i.slots c.loop-i.workers c.args.count c.loop-i.meter in
    let st = c.loop-i.invariant.1 in
    let lt = c.loop-i-test.true in
    let aim = c.aim_of-aim.result in
    let is = aims _ _ _ _ _ _ _ _ st c.ask_of-ask.result c.ask_of-ask.ensures c.way_of-way.result c.way_of-way.ensures
    c.if-way.lowest low c.aim_of-aim.result c.aim_of-aim.ensures in
    let ok : aim.refusal ≡ 0 = omega arith in
    let l = c.if-aim.slots in
    let el : l ≡ slots_for m aim =
    elim c.if-aim.branch [
      | then-aim+else-loop-c-test w ↦ clears m aim l _ w.if-aim.true (cleared-is _ _ _ _ w.loop-c.invariant.1 w.loop-c-test.false) w.slots-is
      | else-aim w ↦ keeps m aim l w.if-aim.false w.slots-is
    ] in
    let d = c.done_at-done.result in
    let ed = c.done_at-done.ensures in
    let blocks = set c.loop-i.blocks aim.block d.block in
    let workers = set c.loop-i.workers aim.worker d.worker in
    let fit : c.if-not-same_header.sound ≡ records_fit sizes blocks c.args.count workers =
    elim c.if-not-same_header.branch [
      | else-not-same_header w ↦ w.sound-is ∙ c.fits_at-sound.ensures
          ∙ same_fits _ _ _ _ _ _ _ _ st lt aim is ok l el d ed c.look_at-look.result c.look_at-look.ensures (sym c.same_header.ensures ∙ w.if-not-same_header.false)
      | then-not-same_header w ↦ w.sound-is ∙ w.records_fit-sound.ensures
    ] in
    let kn : Knows c.if-not-same_header.known blocks =
    elim c.if-not-same_header.branch [
      | else-not-same_header w ↦ subst (λ (x : Known). Knows x blocks) (sym w.known-is)
          (same_knows _ _ _ _ _ _ _ _ st lt aim is ok l el d ed (sym c.same_header.ensures ∙ w.if-not-same_header.false))
      | then-not-same_header w ↦ knows_nothing _ _ (w.known-is ∙ w.unknown-known-then-not-same_header.ensures)
    ] in
    let busy = counted _ _ _ _ _ _ _ _ st lt aim is ok l el d ed c.look_at-look.result c.look_at-look.ensures c.tally-busy.result c.tally-busy.ensures in (
      c.loop-i.invariant.0,
      elim c.if-due.branch [
        | then-due w ↦ walks _ _ _ _ _ _ _ _ st lt aim is ok l el d ed c.tally-busy.result busy c.if-not-same_header.sound fit c.if-not-same_header.known kn c.if-due.sound c.if-due.known
            (sym c.due.ensures ∙ w.if-due.true) w.rest_of-rest.result w.rest_of-rest.ensures (w.sound-is ∙ w.both-sound.ensures) w.known-is
        | else-due w ↦ stays _ _ _ _ _ _ _ _ st lt aim is ok l el d ed c.tally-busy.result busy c.if-not-same_header.sound fit c.if-not-same_header.known kn c.if-due.sound c.if-due.known
            (sym c.due.ensures ∙ w.if-due.false) w.sound-is w.known-is
      ],
    )

pub returns : goal.returns
returns c = c.ran-2.ensures ∙ ends _ _ _ _ _ _ _ _ c.loop-i.invariant.1 c.loop-i-test.false (omega arith)
