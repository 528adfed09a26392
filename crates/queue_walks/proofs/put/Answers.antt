use Prim.Native.Nat.{ℕ, ◌≤◌, ◌+◌}
use mathlib.Core.Path.{◌≡◌, refl, sym, ap, ◌∙◌}
use mathlib.Core.List.{List, [], ◌∷◌}
use native.Mathlib.Omega.{arith}
use lib.ListN.{length, take, drop}
use lib.Seq.{sets}
use Rattle.queue_walks.specs.Walks.{depth_most}
use Rattle.queue_walks.specs.Listed.{bytes_of}
use Rattle.queue_walks.proofs.Listing.{sets_out, one_first, one_more, one_all}
use Rattle.queue_walks.proofs.put.Goals as goal

pub returns-then-out-at : goal.returns-then-out-at
returns-then-out-at c = sym (sets_out c.args.out.now c.args.at (bytes_of (take c.args.n c.args.path ∷ [])) c.if-out-at.true)

pub loop-i-init : goal.loop-i-init
loop-i-init c =
    let len : length c.args.path ≡ depth_most = omega (arith, c.well_formed) in (
      c.requires.few,
      len,
      c.requires.room,
      refl,
      ap (λ (k : ℕ). sets c.store.new.out k (take c.args.n c.args.path)) (omega arith),
    )

pub loop-i-preserved : goal.loop-i-preserved
loop-i-preserved c =
    let l = c.loop-i in
    let few : c.args.n ≤ length c.args.path = omega (arith, l.invariant.0, l.invariant.1) in (
      l.invariant.0,
      l.invariant.1,
      l.invariant.2,
      c.store-in-loop-i.auto.out ∙ l.invariant.3,
      ap (λ (o : List ℕ). sets o (c.args.at + 1 + (l.i + 1)) (drop (l.i + 1) (take c.args.n c.args.path))) c.store-in-loop-i.ensures
          ∙ one_more c.args.path c.args.n few l.out (c.args.at + 1) l.i (omega arith) ∙ l.invariant.4,
    )

pub returns : goal.returns
returns c =
    let l = c.loop-i in
    let few : c.args.n ≤ length c.args.path = omega (arith, l.invariant.0, l.invariant.1) in
    one_all c.args.path c.args.n few l.out (c.args.at + 1 + l.i) l.i (omega arith) ∙ l.invariant.4
    ∙ ap (λ (o : List ℕ). sets o (c.args.at + 1) (take c.args.n c.args.path)) c.store.ensures
    ∙ one_first c.args.path c.args.n few c.args.out.now c.args.at
