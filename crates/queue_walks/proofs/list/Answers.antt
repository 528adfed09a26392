use Prim.Native.Nat.{◌≤◌}
use native.Mathlib.Omega.{arith}
use lib.ListN.{length}
use Rattle.queue_walks.proofs.Listing.{one_fits, one_counted}
use Rattle.queue_walks.proofs.list.Goals as goal

pub put-requires : goal.put-requires
put-requires c =
    let few : c.args.n ≤ length c.args.path = omega (arith, c.well_formed, c.requires.few) in
    record { few = c.requires.few; room = (one_fits c.args.path c.args.n few c.args.told c.requires.room).1 }

pub overflow_add-result-2 : goal.overflow_add-result-2
overflow_add-result-2 c =
    let few : c.args.n ≤ length c.args.path = omega (arith, c.well_formed, c.requires.few) in
    omega (arith, (one_fits c.args.path c.args.n few c.args.told c.requires.room).1)

pub overflow_add-result-3 : goal.overflow_add-result-3
overflow_add-result-3 c =
    let few : c.args.n ≤ length c.args.path = omega (arith, c.well_formed, c.requires.few) in
    omega (arith, (one_fits c.args.path c.args.n few c.args.told c.requires.room).1)

pub returns : goal.returns
returns c =
    let few : c.args.n ≤ length c.args.path = omega (arith, c.well_formed, c.requires.few) in
    record { answer = one_counted c.args.path c.args.n few c.args.told; lent = c.put.ensures }
