use Prim.Native.Nat.{ℕ, ◌+◌, ◌<◌, ◌≤◌}
use mathlib.Core.Path.{sym, ap, ◌∙◌, subst}
use mathlib.Core.List.{List}
use native.Mathlib.Omega.{arith}
use lib.ListN.{length}
use lib.Seq.{sets}
use Rattle.queue_walks.specs.Walks.{depth_most}
use Rattle.queue_walks.specs.Listed.{bytes_of, counted, Room}
use Rattle.bounded_sequences.proofs.Turning.{nothing_told}
use Rattle.bounded_sequences.proofs.Lasting.{last_none, last_one}
use Rattle.bounded_sequences.proofs.last_act.Goals as goal

pub returns-then-not-may_act : goal.returns-then-not-may_act
returns-then-not-may_act c =
    let told = nothing_told _ (last_none c.args.worker c.args.w c.args.lose c.args.path c.args.n (sym c.may_act.ensures ∙ c.if-not-may_act.true)) c.args.told c.args.out.now in
    record { answer = told.0; lent = told.1 }

pub list-requires : goal.list-requires
list-requires c =
    let short : c.args.n < length c.args.path = omega (arith, c.well_formed, c.requires.few.1) in
    let more : c.args.n + 1 ≤ depth_most = omega (arith, c.requires.few.1) in record {
      few = more;
      room = subst (Room c.args.told) (sym (last_one c.args.worker c.args.w c.args.lose c.args.path c.args.n (sym c.may_act.ensures
          ∙ c.if-not-may_act.false) c.act_byte.result c.act_byte.ensures short)) c.requires.room;
    }

pub returns : goal.returns
returns c =
    let short : c.args.n < length c.args.path = omega (arith, c.well_formed, c.requires.few.1) in
    let e = last_one c.args.worker c.args.w c.args.lose c.args.path c.args.n (sym c.may_act.ensures
    ∙ c.if-not-may_act.false) c.act_byte.result c.act_byte.ensures short in record {
      answer = c.list.ensures.answer ∙ ap (counted c.args.told) e;
      lent = c.list.ensures.lent
          ∙ ap (λ (x : List (List ℕ)). sets c.args.out.now c.args.told.bytes (bytes_of x)) e;
    }
