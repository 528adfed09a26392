use Rattle.single.proofs.Parts.{contents_6, contents_4, contents_none, contents_10, contents_one}
use Rattle.single.proofs.contents.Goals as goal

pub returns-then-broken : goal.returns-then-broken
returns-then-broken c =
    let r = contents_6 c.args.m c.args.buffer.now c.broken.result c.broken.ensures c.if-broken.true in
    record { answer = r.0; lent = r.1 }

pub returns-then-not-idle_from : goal.returns-then-not-idle_from
returns-then-not-idle_from c =
    let r = contents_4 c.args.m c.args.buffer.now c.broken.result c.broken.ensures
    c.if-broken.false c.idle_from.result c.idle_from.ensures c.if-not-idle_from.true in
    record { answer = r.0; lent = r.1 }

pub returns-then-not-pushed : goal.returns-then-not-pushed
returns-then-not-pushed c =
    let r = contents_none c.args.m c.args.buffer.now c.broken.result c.broken.ensures
    c.if-broken.false c.idle_from.result c.idle_from.ensures
    c.if-not-idle_from.false c.pushed.result c.pushed.ensures c.if-not-pushed.true in
    record { answer = r.0; lent = r.1 }

pub returns-then-buffer-lt1 : goal.returns-then-buffer-lt1
returns-then-buffer-lt1 c =
    let r = contents_10 c.args.m c.args.buffer.now c.broken.result c.broken.ensures
    c.if-broken.false c.idle_from.result c.idle_from.ensures
    c.if-not-idle_from.false c.pushed.result c.pushed.ensures c.if-not-pushed.false c.if-buffer-lt1.true in
    record { answer = r.0; lent = r.1 }

pub returns : goal.returns
returns c =
    let r = contents_one c.args.m c.args.buffer.now c.broken.result c.broken.ensures
    c.if-broken.false c.idle_from.result c.idle_from.ensures
    c.if-not-idle_from.false c.pushed.result c.pushed.ensures c.if-not-pushed.false c.if-buffer-lt1.false in
    record { answer = r.0; lent = r.1 }
