use Prim.Native.Nat.{ℕ}
use mathlib.Core.Path.{ap, ◌∙◌}
use mathlib.Core.List.{List, []}
use native.Mathlib.Omega.{arith}
use lib.Seq.{sets}
use Rattle.queue_walks.specs.Listed.{bytes_of, walked, counted}
use Rattle.bounded_walks.proofs.Facts.{sound, same_walk, room}
use Rattle.bounded_walks.proofs.walk_into.Goals as goal

pub walk_state-requires : goal.walk_state-requires
walk_state-requires c =
    let a = c.row_of-stamps in
    let b = c.row_of-values in rw c.fixed-f.ensures (rw c.ends-e.ensures (record { sound = sound c.args.m c.args.depth c.requires c.first_records-workers.result c.first_records-workers.ensures.answer c.first_records-workers.ensures.whole; slots = (omega (arith, a.type_inv), omega (arith, b.type_inv)); room = room c.args.m c.args.depth c.requires c.first_records-workers.result c.first_records-workers.ensures.answer c.first_records-workers.ensures.whole [] a.result b.result a.ensures b.ensures }))

pub returns : goal.returns
returns c =
    let a = c.row_of-stamps in
    let b = c.row_of-values in
    let e = same_walk c.args.m c.args.depth c.requires c.first_records-workers.result c.first_records-workers.ensures.answer c.first_records-workers.ensures.whole [] a.result b.result a.ensures b.ensures in
    let answer = rw c.fixed-f.ensures at rw c.ends-e.ensures at c.walk_state.ensures.answer in
    let lent = rw c.fixed-f.ensures at rw c.ends-e.ensures at c.walk_state.ensures.lent in
    record { answer = answer ∙ ap (counted (walked 0 0)) e; lent = lent ∙ ap (λ (x : List (List ℕ)). sets c.args.out.now 0 (bytes_of x)) e }
