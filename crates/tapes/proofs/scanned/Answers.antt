use native.Mathlib.Omega.{arith}
use borrow.Author.Rules.{rules}
use Rattle.tapes_fields.specs.Fields.{size_of}
use Rattle.tapes.proofs.Hears.{none_scanned, scan_fault, entry_inside, scan_more}
use Rattle.tapes.proofs.scanned.Goals as goal

pub loop-number-init : goal.loop-number-init
loop-number-init c = (omega arith, omega arith, none_scanned c.args.v c.args.bytes.now)

pub returns-in-Fault : goal.returns-in-Fault
returns-in-Fault c = let l = c.loop-number in
    scan_fault c.args.v
    c.args.bytes.now l.at l.n c.field_in.result _ l.invariant.0
    l.invariant.1 c.field_in.ensures l.invariant.2 c.in-Fault.number (search rules)

pub loop-number-smaller : goal.loop-number-smaller
unfolding size_of
loop-number-smaller c = let l = c.loop-number in
    omega (
      arith,
      c.size-at.ensures.0,
      entry_inside c.args.v
          c.args.bytes.now l.at l.n
          c.field_in.result _ l.invariant.0 l.invariant.1 c.field_in.ensures l.invariant.2
          c.in-Entry.first c.in-Entry.field-1 _ (search rules) c.size-at.ensures.0,
    )

pub loop-number-preserved : goal.loop-number-preserved
unfolding size_of
loop-number-preserved c = let l = c.loop-number in (
  entry_inside c.args.v
      c.args.bytes.now l.at l.n
      c.field_in.result _ l.invariant.0 l.invariant.1 c.field_in.ensures l.invariant.2
      c.in-Entry.first c.in-Entry.field-1 _ (search rules) c.size-at.ensures.0,
  omega (arith, c.size-at.ensures.0),
  scan_more c.args.v
      c.args.bytes.now l.at l.n
      c.field_in.result _ l.invariant.0 l.invariant.1 c.field_in.ensures l.invariant.2
      c.in-Entry.first c.in-Entry.field-1 _ (search rules) c.size-at.ensures.0,
)
