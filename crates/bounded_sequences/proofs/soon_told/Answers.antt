use Prim.Native.Nat.{ℕ, ◌<◌, ◌≤◌}
use mathlib.Core.Path.{sym, ap, ◌∙◌, subst}
use mathlib.Core.List.{List}
use native.Mathlib.Omega.{arith}
use lib.Seq.{sets}
use Rattle.queue_walks.specs.Walks.{depth_most}
use Rattle.queue_walks.specs.Listed.{bytes_of, counted, Room}
use Rattle.bounded_sequences.proofs.Turning.{some_left}
use Rattle.bounded_sequences.proofs.Lasting.{soon_here, soon_last}
use Rattle.bounded_sequences.proofs.soon_told.Goals as goal

pub list-requires : goal.list-requires
list-requires c =
    let end = sym c.ends_here.ensures ∙ c.if-ends_here.true in
    let few : c.args.n ≤ depth_most = omega (arith, c.requires.sound.depth) in
    record { few = few; room = subst (Room c.args.told) (soon_here c.args.s c.args.path c.args.n c.args.left end) c.requires.room }

pub returns-then-ends_here : goal.returns-then-ends_here
returns-then-ends_here c =
    let e = sym (soon_here c.args.s c.args.path c.args.n c.args.left (sym c.ends_here.ensures
    ∙ c.if-ends_here.true)) in
    record { answer = c.list.ensures.answer ∙ ap (counted c.args.told) e; lent = c.list.ensures.lent ∙ ap (λ (x : List (List ℕ)). sets c.args.out.now c.args.told.bytes (bytes_of x)) e }

pub last_acts-requires : goal.last_acts-requires
last_acts-requires c =
    let end = sym c.ends_here.ensures ∙ c.if-ends_here.false in
    let one = some_left c.args.s c.args.left end in
    let short : c.args.n < depth_most = omega (arith, one, c.requires.sound.depth) in
    record { few = (c.requires.sound.few, short); room = subst (Room c.args.told) (soon_last c.args.s c.args.path c.args.n c.args.left end) c.requires.room }

pub returns : goal.returns
returns c =
    let e = sym (soon_last c.args.s c.args.path c.args.n c.args.left (sym c.ends_here.ensures
    ∙ c.if-ends_here.false)) in
    record { answer = c.last_acts.ensures.answer ∙ ap (counted c.args.told) e; lent = c.last_acts.ensures.lent ∙ ap (λ (x : List (List ℕ)). sets c.args.out.now c.args.told.bytes (bytes_of x)) e }
