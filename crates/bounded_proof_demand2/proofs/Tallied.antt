-- What the code counts act by act is what the acts say, below the width of its counts; and a schedule has fewer acts.
use mathlib.Core.Path.{◌≡◌, refl, ap, ◌∙◌}
use mathlib.Core.Bool.{Bool, true, false, cond}
use mathlib.Core.List.{List, [], ◌∷◌}
use Prim.Native.Nat.{ℕ, ◌+◌, ◌<◌, ◌≤◌}
use native.Mathlib.Omega.{arith}
use lib.ListN.{length}
use Rattle.bounded_words.specs.declared.Width.{Width}
use Rattle.bounded_words.specs.Limits.{wide}
use Rattle.bounded_machine.specs.declared.Event.{Event}
use Rattle.bounded_machine.specs.declared.Tally.{Tally}
use Rattle.bounded_machine.specs.History.{moved_of, reads_at, counted, read_on, stock_of, untallied, tally_of}
use Rattle.bounded_stock.specs.Stock.{tallied_of}
use Rattle.bounded_stock.proofs.Tallies.{tally_counts}
use Rattle.bounded_demands.specs.Notions.{with_records, acts_of, tally, tallied_from, tallied_by, reads_in}
use Rattle.bounded_demands.specs.Demands.{TallyAsSaid, TalliedUnderEverySchedule}
use Rattle.bounded_proof_demand2.proofs.Counts.{by_act, tally_tail, tally_head}
use Rattle.bounded_proof_demand2.proofs.Window.{one_claim}
use Rattle.bounded_proof_demand2.proofs.Always.{metered_in}

one_read : (b : Bool) → cond b 1 0 ≤ 1
one_read true = omega arith
one_read false = omega arith

-- from any counts that leave room for these acts
counts_on : (h : List Event) (t : Tally) → t.tail.0 + length h < wide → t.head.0 + length h < wide → t.reads + length h < wide → tallied_from tallied_of t h ≡ tally_of h t
unfolding tallied_from tally_of
counts_on [] t a b c = refl
counts_on (e ∷ h) t a b c =
    let x = moved_of e.after in
    let reads = reads_at e.before in
    let grown = by_act reads x t 0 in
    let one = one_claim x 0 in
    ap (λ (z : Tally). tallied_from tallied_of z h) (tally_counts t x reads (omega arith) (omega arith) (omega arith))
    ∙ counts_on h (read_on reads (counted x t)) (omega (arith, grown.0, one.0)) (omega (arith, grown.1, one.1)) (omega (arith, grown.2, one_read reads))

-- the tally counts the values read
reads_from : (h : List Event) (t : Tally) → (tally_of h t).reads ≡ t.reads + reads_in h
unfolding tally_of reads_in
reads_from [] t = omega arith
reads_from (e ∷ h) t =
    let x = moved_of e.after in
    let reads = reads_at e.before in
    omega (arith, reads_from h (read_on reads (counted x t)), (by_act reads x t 0).2)

counted_so : (h : List Event) → length h < wide → tallied_by tallied_of h ≡ tally h
counted_so h few = counts_on h untallied (omega arith) (omega arith) (omega arith)

pub tally_as_said : TallyAsSaid tallied_of
tally_as_said =
    record {
      tails = λ h few. ap (λ (t : Tally). t.tail.0) (counted_so h few) ∙ tally_tail h;
      heads = λ h few. ap (λ (t : Tally). t.head.0) (counted_so h few) ∙ tally_head h;
      reads = λ h few. ap (λ (t : Tally). t.reads) (counted_so h few) ∙ reads_from h untallied ∙ omega arith;
      so = counted_so;
    }

pub tallied_always : (bits : Width) (records : ℕ) → TalliedUnderEverySchedule (with_records records bits) tallied_of
tallied_always bits records capacity workers edition a s =
    let o = metered_in bits records capacity workers edition s in
    ap stock_of (counted_so (acts_of (with_records records bits) capacity workers edition s) (omega (arith, o.meter, o.few)))
