use borrow.Author.Rules.{rules}
use Rattle.tapes.proofs.Answers.{odd, wide_capacity, wide_workers, unfit, short, whole, refused, written, fillable}
use Rattle.tapes.proofs.write.Goals as goal
use Rattle.tapes.proofs.write.Goals.{then-capacity-gt65535-via-then-capacity-gt65535, then-capacity-gt65535-via-else-capacity-gt65535+then-workers-gt65535}

pub returns-then-words-eq1 : goal.returns-then-words-eq1
returns-then-words-eq1 c =
    let p = refused c.args.v c.args.capacity c.args.workers
    c.args.words.now c.args.buffer.now _ _ (odd _ _ _ _ c.if-words-eq1.true) in
    record { answer = p.0; lent = p.1 }

pub returns-then-capacity-gt65535 : goal.returns-then-capacity-gt65535
returns-then-capacity-gt65535 c =
    let at = refused c.args.v c.args.capacity c.args.workers c.args.words.now c.args.buffer.now 17 0 in
    elim c.then-capacity-gt65535.branch [
      | then-capacity-gt65535-via-then-capacity-gt65535 w ↦
          let p = at (wide_capacity _ _ _ _ c.if-words-eq1.false w.if-capacity-gt65535.true) in record { answer = p.0; lent = p.1 }
      | then-capacity-gt65535-via-else-capacity-gt65535+then-workers-gt65535 w ↦
          let p = at (wide_workers _ _ _ _ c.if-words-eq1.false w.if-capacity-gt65535.false w.if-workers-gt65535.true) in record { answer = p.0; lent = p.1 }
    ]

pub returns-then-buffer-long : goal.returns-then-buffer-long
returns-then-buffer-long c =
    let p = refused c.args.v
    c.args.capacity
    c.args.workers
    c.args.words.now
    c.args.buffer.now _ _
    (short _ _ _ _ c.if-words-eq1.false c.if-capacity-gt65535.false
    c.if-workers-gt65535.false c.loaded.result
    c.loaded.ensures c.in-Bytes.long (search rules) c.if-buffer-long.true) in
    record { answer = p.0; lent = p.1 }

pub fill-requires : goal.fill-requires
fill-requires c = fillable c.args.v
    c.args.capacity
    c.args.workers
    c.args.words.now _
    c.loaded.result c.in-Bytes.long
    c.loaded.ensures (search rules) c.if-buffer-long.false

pub returns-in-Unfit : goal.returns-in-Unfit
returns-in-Unfit c =
    let p = refused c.args.v
    c.args.capacity
    c.args.workers
    c.args.words.now
    c.args.buffer.now _ _
    (unfit _ _ _ _ c.if-words-eq1.false c.if-capacity-gt65535.false
    c.if-workers-gt65535.false c.loaded.result c.loaded.ensures
    c.in-Unfit.place (search rules)) in
    record { answer = p.0; lent = p.1 }

pub returns-else-buffer-long : goal.returns-else-buffer-long
returns-else-buffer-long c =
    let p = written c.args.v
    c.args.capacity
    c.args.workers
    c.args.words.now
    c.args.buffer.now _ _
    c.fill.ensures (whole _ _ _ _ c.if-words-eq1.false
    c.if-capacity-gt65535.false
    c.if-workers-gt65535.false
    c.loaded.result
    c.loaded.ensures c.in-Bytes.long
    (search rules) c.if-buffer-long.false) in
    record { answer = p.0; lent = p.1 }
