use Rattle.bounded_walks.proofs.Facts.{told_ok, told_refused, told_short, told_listed}
use borrow.Author.Rules.{rules}
use Rattle.bounded_walks.proofs.walk.Goals as goal

pub returns-in_err-sized : goal.returns-in_err-sized
returns-in_err-sized c =
    let both = told_refused c.args.m c.args.depth c.size.result c.size.ensures _ c.in_err-sized.was c.args.buffer.now in
    record { answer = search (rules, both.0); lent = both.1 }

pub returns-then-buffer-sized : goal.returns-then-buffer-sized
returns-then-buffer-sized c =
    let both = told_short c.args.m c.args.depth c.size.result c.size.ensures _ c.in_ok-sized.was c.args.buffer.now c.if-buffer-sized.true in
    record { answer = both.0; lent = both.1 }

pub walk_into-told-requires : goal.walk_into-told-requires
walk_into-told-requires c = told_ok c.args.m c.args.depth c.size.result c.size.ensures _ c.in_ok-sized.was

pub returns : goal.returns
returns c =
    let told = c.walk_into-told in
    let both = told_listed c.args.m c.args.depth c.size.result c.size.ensures _ c.in_ok-sized.was c.args.buffer.now
    told.new.out told.result c.if-buffer-sized.false told.ensures.answer told.ensures.lent in
    record { answer = both.0; lent = both.1 }
