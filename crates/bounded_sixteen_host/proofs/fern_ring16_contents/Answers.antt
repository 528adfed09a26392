use Rattle.bounded_sixteen_host.proofs.Listing.{contents_six, seven, fair_so, fives, ring_fits_lem, all_stamps, all_values, contents_listed}
use borrow.Author.Rules.{rules}
use Rattle.bounded_sixteen_host.proofs.fern_ring16_contents.Goals as goal

pub returns-then-broken : goal.returns-then-broken
returns-then-broken c = search (rules, contents_six)

pub fixed_in-f-requires : goal.fixed_in-f-requires
fixed_in-f-requires c = search (rules, seven)

pub ends_in-e-requires : goal.ends_in-e-requires
ends_in-e-requires c = search (rules, seven)

pub records_fit-idle-requires : goal.records_fit-idle-requires
records_fit-idle-requires c = search (rules, fair_so, fives)

pub list-requires : goal.list-requires
list-requires c = let a = c.args in record {
  e_value = ring_fits_lem a.head.now a.meter a.stamps.now a.values.now a.records.now c.broken.result
      c.broken.ensures c.if-broken.false c.fixed_in-f.result
      c.fixed_in-f.ensures c.ends_in-e.result c.ends_in-e.ensures.same;
  stamps_len = all_stamps a.head.now a.meter a.stamps.now a.values.now a.records.now c.broken.result
      c.broken.ensures c.if-broken.false c.fixed_in-f.result
      c.fixed_in-f.ensures;
  values_len = all_values a.head.now a.meter a.stamps.now a.values.now a.records.now
      c.broken.result c.broken.ensures
      c.if-broken.false c.fixed_in-f.result c.fixed_in-f.ensures;
}

pub returns : goal.returns
returns c = search (rules, contents_listed)
