use Rattle.std.proofs.Common.{◌∙◌, sym, ap}
use Rattle.bounded_orders.specs.Orders.{filled, contents_on}
use Rattle.bounded_lent.proofs.Turning.{unbroken_lent, fair_lent}
use Rattle.bounded_lent.proofs.Listing.{six_first, listed}
use Rattle.bounded_lent.proofs.contents.Goals as goal

pub returns-then-broken : goal.returns-then-broken
returns-then-broken c = six_first _ _ _ (sym c.broken.ensures ∙ c.if-broken.true)

pub records_fit-idle-requires : goal.records_fit-idle-requires
records_fit-idle-requires c = fair_lent _ _ (unbroken_lent c.args.ring.now c.args.records.now (sym c.broken.ensures ∙ c.if-broken.false))

pub returns : goal.returns
returns c =
    c.contents_on.ensures
    ∙ ap (λ b. contents_on b c.args.ring.now.ring c.args.buffer.now) c.records_fit-idle.ensures
    ∙ listed _ _ (sym c.broken.ensures ∙ c.if-broken.false) c.args.buffer.now
