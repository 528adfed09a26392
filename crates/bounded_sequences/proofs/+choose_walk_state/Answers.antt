use Prim.Native.Nat.{ℕ, ◌+◌, ◌-◌, ◌*◌, ◌<◌}
use mathlib.Core.Path.{◌≡◌, refl, sym, ap, ◌∙◌, subst}
use mathlib.Core.Bool.{true, false}
use mathlib.Core.List.{List}
use native.Mathlib.Omega.{arith}
use lib.ListN.{length}
use lib.Seq.{sets}
use Rattle.queue_walks.specs.Listed.{bytes_of, counted, Room}
use Rattle.bounded_sequences.specs.declared.After.{After}
use Rattle.bounded_machine.specs.Machine.{record_of_worker}
use Rattle.bounded_sequences.specs.Sequences.{spot_in, Sound}
use Rattle.bounded_sequences.proofs.Acting.{low, fair, seen, ready, spot_here, sound_next}
use Rattle.bounded_sequences.proofs.Lasting.{soon, soon_not}
use Rattle.bounded_sequences.proofs.Turning.{one_less, some_left, begins, asks_8, half, asks_9, again, done, none_told, one_told, set_back}
use Rattle.bounded_sequences.proofs.+choose_walk_state.Goals as goal

pub choose-returns-then-not-may_act : goal.choose-returns-then-not-may_act
choose-returns-then-not-may_act t c =
    let x = none_told c.args.s c.args.n c.args.left c.requires.sound c.args.w
    c.requires.few.0 c.args.lose c.args.path c.args.stamps.now c.args.values.now
    (seen c.args.worker (record_of_worker c.args.s.workers c.args.w) c.args.lose c.requires.few.1 c.may_act.result false
    c.may_act.ensures c.if-not-may_act.true) c.args.told c.args.out.now in record { answer = x.0; lent = x.1; same = (refl, refl) }

pub choose-spot_of-k-requires : goal.choose-spot_of-k-requires
choose-spot_of-k-requires t c =
    fair c.args.s c.args.n c.args.left c.requires.sound c.args.w c.requires.few.0

pub choose-offset_bounds-stamps-k : goal.choose-offset_bounds-stamps-k
choose-offset_bounds-stamps-k t c =
    let may = seen c.args.worker (record_of_worker c.args.s.workers c.args.w) c.args.lose c.requires.few.1
    c.may_act.result true c.may_act.ensures c.if-not-may_act.false in
    let here = spot_here c.args.s c.args.n c.args.left c.requires.sound c.args.w c.requires.few.0 c.args.lose may
    c.spot_of-k.result (c.spot_of-k.ensures ∙ ap (spot_in c.args.s.fixed) c.requires.few.1) in omega arith

pub choose-bounds-stamps-k : goal.choose-bounds-stamps-k
choose-bounds-stamps-k t c =
    let may = seen c.args.worker (record_of_worker c.args.s.workers c.args.w) c.args.lose c.requires.few.1
    c.may_act.result true c.may_act.ensures
    c.if-not-may_act.false in let here = spot_here c.args.s c.args.n c.args.left c.requires.sound c.args.w
    c.requires.few.0 c.args.lose may c.spot_of-k.result
    (c.spot_of-k.ensures ∙ ap (spot_in c.args.s.fixed) c.requires.few.1) in omega (arith, c.requires.slots.0)

pub choose-offset_bounds-values-k : goal.choose-offset_bounds-values-k
choose-offset_bounds-values-k t c =
    let may = seen c.args.worker (record_of_worker c.args.s.workers c.args.w) c.args.lose c.requires.few.1
    c.may_act.result true c.may_act.ensures
    c.if-not-may_act.false in let here = spot_here c.args.s c.args.n c.args.left c.requires.sound c.args.w
    c.requires.few.0 c.args.lose may c.spot_of-k.result
    (c.spot_of-k.ensures ∙ ap (spot_in c.args.s.fixed) c.requires.few.1) in omega arith

pub choose-bounds-values-k : goal.choose-bounds-values-k
choose-bounds-values-k t c =
    let may = seen c.args.worker (record_of_worker c.args.s.workers c.args.w) c.args.lose c.requires.few.1
    c.may_act.result true c.may_act.ensures
    c.if-not-may_act.false in let here = spot_here c.args.s c.args.n c.args.left c.requires.sound c.args.w
    c.requires.few.0 c.args.lose may c.spot_of-k.result
    (c.spot_of-k.ensures ∙ ap (spot_in c.args.s.fixed) c.requires.few.1) in omega (arith, c.requires.slots.1)

pub choose-act_on-a-requires : goal.choose-act_on-a-requires
choose-act_on-a-requires t c =
    let may = seen c.args.worker (record_of_worker c.args.s.workers c.args.w) c.args.lose c.requires.few.1
    c.may_act.result true c.may_act.ensures
    c.if-not-may_act.false in ready c.args.s c.args.n c.args.left c.requires.sound c.args.w
    c.requires.few.0 c.args.lose may c.args.worker c.requires.few.1

pub choose-act_byte-requires : goal.choose-act_byte-requires
choose-act_byte-requires t c =
    low c.args.s c.args.n c.args.left c.requires.sound c.args.w c.requires.few.0

pub choose-bounds-acts-n : goal.choose-bounds-acts-n
choose-bounds-acts-n t c =
    omega (arith, c.requires.sound.depth)

pub choose-put_slot-requires : goal.choose-put_slot-requires
choose-put_slot-requires t c =
    let may = seen c.args.worker (record_of_worker c.args.s.workers c.args.w) c.args.lose c.requires.few.1
    c.may_act.result true
    c.may_act.ensures
    c.if-not-may_act.false in
    let here = spot_here c.args.s c.args.n c.args.left c.requires.sound c.args.w c.requires.few.0 c.args.lose may
    c.spot_of-k.result
    (c.spot_of-k.ensures ∙ ap (spot_in c.args.s.fixed) c.requires.few.1) in
    let a : c.spot_of-k.result < length c.args.stamps.now = omega
    (arith, c.requires.slots.0) in let b : c.spot_of-k.result < length c.args.values.now =
    omega (arith, c.requires.slots.1) in (a, b)

pub choose-overflow_add-n : goal.choose-overflow_add-n
choose-overflow_add-n t c =
    omega (arith, c.requires.sound.depth)

pub choose-walk_state-r-requires : goal.choose-walk_state-r-requires
choose-walk_state-r-requires t c =
    let may = seen c.args.worker (record_of_worker c.args.s.workers c.args.w) c.args.lose c.requires.few.1
    c.may_act.result true c.may_act.ensures c.if-not-may_act.false in let short : c.args.n < length c.args.path = omega (arith, c.well_formed, c.requires.sound.depth) in
    let chosen = one_told c.args.s c.args.n c.args.left c.requires.sound c.args.w c.requires.few.0 c.args.lose c.args.path c.args.stamps.now c.args.values.now may
    c.spot_of-k.result (c.spot_of-k.ensures ∙ ap (spot_in c.args.s.fixed) c.requires.few.1) c.requires.slots.0 c.requires.slots.1 short
    c.act_on-a.result c.act_on-a.ensures c.act_byte.result c.act_byte.ensures c.put_slot.new.stamps c.put_slot.new.values c.put_slot.ensures.stamps c.put_slot.ensures.values in
    let e : 2 * c.args.left + 1 ≡ t = c.decreases in let less : 2 * c.args.left < t = omega arith in (
      less,
      (
        subst (λ (x : After). Sound x.state (c.args.n + 1) c.args.left)
            (sym c.act_on-a.ensures)
            (sound_next c.args.s c.args.n c.args.left c.requires.sound c.args.w c.requires.few.0 c.args.lose may _ _),
        (
          (
            c.put_slot.auto.stamps ∙ c.requires.slots.0,
            c.put_slot.auto.values ∙ c.requires.slots.1,
          ),
          subst (Room c.args.told) (sym chosen) c.requires.room,
        ),
      ),
    )

pub choose-put_slot-requires-2 : goal.choose-put_slot-requires-2
choose-put_slot-requires-2 t c =
    let may = seen c.args.worker (record_of_worker c.args.s.workers c.args.w) c.args.lose c.requires.few.1
    c.may_act.result true
    c.may_act.ensures
    c.if-not-may_act.false in
    let here = spot_here c.args.s c.args.n c.args.left c.requires.sound c.args.w c.requires.few.0 c.args.lose may
    c.spot_of-k.result
    (c.spot_of-k.ensures ∙ ap (spot_in c.args.s.fixed) c.requires.few.1) in
    let a : c.spot_of-k.result < length
    c.walk_state-r.new.stamps = omega (
      arith,
      c.walk_state-r.auto.stamps,
      c.put_slot.auto.stamps,
      c.requires.slots.0,
    ) in let b : c.spot_of-k.result < length
    c.walk_state-r.new.values = omega (
      arith,
      c.walk_state-r.auto.values,
      c.put_slot.auto.values,
      c.requires.slots.1,
    ) in (a, b)

pub choose-returns : goal.choose-returns
choose-returns t c =
    let may = seen c.args.worker (record_of_worker c.args.s.workers c.args.w) c.args.lose c.requires.few.1 c.may_act.result true c.may_act.ensures c.if-not-may_act.false in
    let short : c.args.n < length c.args.path = omega (arith, c.well_formed, c.requires.sound.depth) in
    let chosen = one_told c.args.s c.args.n c.args.left c.requires.sound c.args.w c.requires.few.0 c.args.lose c.args.path c.args.stamps.now c.args.values.now may
    c.spot_of-k.result (c.spot_of-k.ensures ∙ ap (spot_in c.args.s.fixed) c.requires.few.1) c.requires.slots.0 c.requires.slots.1 short
    c.act_on-a.result c.act_on-a.ensures c.act_byte.result c.act_byte.ensures c.put_slot.new.stamps c.put_slot.new.values c.put_slot.ensures.stamps c.put_slot.ensures.values in
    record {
      answer = c.walk_state-r.ensures.answer ∙ ap (counted c.args.told) chosen;
      lent = c.walk_state-r.ensures.lent ∙ ap (λ (x : List (List ℕ)). sets c.args.out.now c.args.told.bytes (bytes_of x)) chosen;
      same = (
        set_back c.args.stamps.now c.spot_of-k.result c.act_on-a.result.stamp c.walk_state-r.new.stamps
            c.put_slot-2.new.stamps (c.walk_state-r.ensures.same.0 ∙ c.put_slot.ensures.stamps) c.put_slot-2.ensures.stamps,
        set_back c.args.values.now c.spot_of-k.result c.act_on-a.result.value c.walk_state-r.new.values
            c.put_slot-2.new.values (c.walk_state-r.ensures.same.1 ∙ c.put_slot.ensures.values) c.put_slot-2.ensures.values,
      );
    }

pub walk_state-soon_told-requires : goal.walk_state-soon_told-requires
walk_state-soon_told-requires t c =
    let end = sym c.ends_soon.ensures ∙ c.if-ends_soon.true in record {
      sound = c.requires.sound;
      room = subst (Room c.args.told) (soon c.args.s c.args.path c.args.n c.args.left c.requires.sound end
          c.args.stamps.now c.args.values.now) c.requires.room;
    }

pub walk_state-returns-then-ends_soon : goal.walk_state-returns-then-ends_soon
walk_state-returns-then-ends_soon t c =
    let end = sym c.ends_soon.ensures ∙ c.if-ends_soon.true in
    let e = sym (soon c.args.s c.args.path c.args.n c.args.left c.requires.sound end c.args.stamps.now c.args.values.now) in record {
      answer = c.soon_told.ensures.answer ∙ ap (counted c.args.told) e;
      lent = c.soon_told.ensures.lent ∙ ap (λ (x : List (List ℕ)). sets c.args.out.now c.args.told.bytes (bytes_of x)) e;
      same = (refl, refl);
    }

pub walk_state-loop-w-init : goal.walk_state-loop-w-init
walk_state-loop-w-init t c =
    let end = soon_not c.args.s c.args.left (sym c.ends_soon.ensures ∙ c.if-ends_soon.false) in (
      refl,
      begins c.args.s c.args.path c.args.n c.args.left c.args.stamps.now c.args.values.now c.args.out.now
          c.args.told end c.requires.room,
      c.requires.sound.few,
    )

pub walk_state-overflow_sub-left : goal.walk_state-overflow_sub-left
walk_state-overflow_sub-left t c =
    let end = soon_not c.args.s c.args.left (sym c.ends_soon.ensures
    ∙ c.if-ends_soon.false) in some_left c.args.s c.args.left end

pub walk_state-choose-r-requires : goal.walk_state-choose-r-requires
walk_state-choose-r-requires t c =
    let end = soon_not c.args.s c.args.left (sym c.ends_soon.ensures
    ∙ c.if-ends_soon.false) in let one = some_left c.args.s c.args.left end in
    let l = c.loop-w in let g = l.invariant.1 in let few = c.loop-w-test.true in
    let e : 2 * c.args.left ≡ t = c.decreases in let less : 2 * (c.args.left - 1) + 1 < t = omega (arith, one) in (
      less,
      (
        (few, refl),
        (
          one_less c.args.s c.args.n c.args.left one c.requires.sound,
          (
            (ap length g.lent_stamps ∙ c.requires.slots.0, ap length g.lent_values ∙ c.requires.slots.1),
            asks_8 c.args.s c.args.path c.args.n c.args.left c.args.stamps.now c.args.values.now c.args.out.now
                c.args.told l.stamps l.values l.out l.r l.w g few,
          ),
        ),
      ),
    )

pub walk_state-overflow_sub-left-in-loop-w : goal.walk_state-overflow_sub-left-in-loop-w
walk_state-overflow_sub-left-in-loop-w t c =
    let end = soon_not c.args.s c.args.left
    (sym c.ends_soon.ensures ∙ c.if-ends_soon.false) in some_left c.args.s c.args.left end

pub walk_state-choose-r-requires-in-loop-w : goal.walk_state-choose-r-requires-in-loop-w
walk_state-choose-r-requires-in-loop-w t c =
    let end = soon_not c.args.s c.args.left
    (sym c.ends_soon.ensures ∙ c.if-ends_soon.false) in let one = some_left c.args.s c.args.left end in
    let l = c.loop-w in
    let g = l.invariant.1 in let few = c.loop-w-test.true in let e : 2 * c.args.left ≡ t = c.decreases in let less : 2 * (c.args.left - 1) + 1 < t = omega (arith, one) in
    let h = half c.args.s c.args.path c.args.n c.args.left c.args.stamps.now c.args.values.now c.args.out.now c.args.told
    l.stamps l.values l.out l.r l.w g few c.choose-r.new.stamps c.choose-r.new.values c.choose-r.new.out c.choose-r.result c.choose-r.ensures.answer
    c.choose-r.ensures.lent c.choose-r.ensures.same.0 c.choose-r.ensures.same.1 c.choose-r.auto.out in (
      less,
      (
        (few, refl),
        (
          one_less c.args.s c.args.n c.args.left one c.requires.sound,
          (
            (ap length h.lent_stamps ∙ c.requires.slots.0, ap length h.lent_values ∙ c.requires.slots.1),
            asks_9 c.args.s c.args.path c.args.n c.args.left c.args.stamps.now c.args.values.now c.args.out.now
                c.args.told c.choose-r.new.stamps
                c.choose-r.new.values
                c.choose-r.new.out
                c.choose-r.result l.w h,
          ),
        ),
      ),
    )

pub walk_state-loop-w-preserved : goal.walk_state-loop-w-preserved
walk_state-loop-w-preserved t c =
    let l = c.loop-w in let g = l.invariant.1 in let few = c.loop-w-test.true in
    let h = half c.args.s c.args.path c.args.n c.args.left c.args.stamps.now c.args.values.now c.args.out.now c.args.told
    l.stamps l.values l.out l.r l.w g few c.choose-r.new.stamps c.choose-r.new.values c.choose-r.new.out c.choose-r.result c.choose-r.ensures.answer
    c.choose-r.ensures.lent c.choose-r.ensures.same.0 c.choose-r.ensures.same.1 c.choose-r.auto.out in (
      refl,
      again c.args.s c.args.path c.args.n c.args.left c.args.stamps.now c.args.values.now c.args.out.now c.args.told
          c.choose-r.new.stamps c.choose-r.new.values c.choose-r.new.out c.choose-r.result l.w h
          c.choose-r-in-loop-w.new.stamps c.choose-r-in-loop-w.new.values
          c.choose-r-in-loop-w.new.out
          c.choose-r-in-loop-w.result c.choose-r-in-loop-w.ensures.answer
          c.choose-r-in-loop-w.ensures.lent
          c.choose-r-in-loop-w.ensures.same.0
          c.choose-r-in-loop-w.ensures.same.1
          c.choose-r-in-loop-w.auto.out,
      l.invariant.2,
    )

pub walk_state-returns : goal.walk_state-returns
walk_state-returns t c =
    let l = c.loop-w in let g = l.invariant.1 in
    let x = done c.args.s c.args.path c.args.n c.args.left c.args.stamps.now c.args.values.now c.args.out.now
    c.args.told l.stamps l.values l.out l.r l.w g c.loop-w-test.false in record { answer = x.0; lent = x.1; same = (g.lent_stamps, g.lent_values) }
