use borrow.Author.Rules.{rules}
use Rattle.tapes.proofs.Answers.{head_fault, head_whole, later_fault, no_room, copyable, all_read}
use Rattle.tapes.proofs.read.Goals as goal

pub scanned-requires : goal.scanned-requires
scanned-requires c = head_whole c.args.bytes.now
    c.args.buffer.now c.head_in.result
    c.head_in.ensures c.in-Makes.v c.in-Makes.capacity c.in-Makes.workers (search rules)

pub returns-then-buffer-count : goal.returns-then-buffer-count
returns-then-buffer-count c =
    let p = no_room c.args.bytes.now
    c.args.buffer.now
    c.head_in.result
    c.head_in.ensures c.in-Makes.v
    c.in-Makes.capacity c.in-Makes.workers
    (search rules) c.scanned.result c.scanned.ensures
    c.in-Words.count (search rules) c.if-buffer-count.true in
    record { answer = p.0; lent = p.1 }

pub copy-requires : goal.copy-requires
copy-requires c = copyable c.args.bytes.now
    c.args.buffer.now
    c.head_in.result
    c.head_in.ensures
    c.in-Makes.v c.in-Makes.capacity
    c.in-Makes.workers (search rules)
    c.scanned.result c.scanned.ensures
    c.in-Words.count (search rules) c.if-buffer-count.false

pub returns-in-Fault : goal.returns-in-Fault
returns-in-Fault c =
    let p = head_fault c.args.bytes.now
    c.args.buffer.now c.head_in.result
    c.head_in.ensures c.in-Fault.number (search rules) in
    record { answer = p.0; lent = p.1 }

pub returns-in-Fault-scanned : goal.returns-in-Fault-scanned
returns-in-Fault-scanned c =
    let p = later_fault c.args.bytes.now
    c.args.buffer.now
    c.head_in.result c.head_in.ensures
    c.in-Makes.v c.in-Makes.capacity
    c.in-Makes.workers (search rules) c.scanned.result
    c.scanned.ensures c.in-Fault-scanned.number c.in-Fault-scanned.at (search rules) in
    record { answer = p.0; lent = p.1 }

pub returns-else-buffer-count : goal.returns-else-buffer-count
returns-else-buffer-count c =
    let p = all_read c.args.bytes.now c.args.buffer.now
    c.head_in.result
    c.head_in.ensures
    c.in-Makes.v
    c.in-Makes.capacity
    c.in-Makes.workers (search rules)
    c.scanned.result
    c.scanned.ensures c.in-Words.count
    (search rules) _ c.if-buffer-count.false c.copy.ensures in
    record { answer = p.0; lent = p.1 }
