use Rattle.bounded_orders.proofs.Listing.{sound_of, judged_here}
use borrow.Author.Rules.{rules}
use Rattle.bounded_orders.proofs.contents_on.Goals as goal

pub contents_by-requires : goal.contents_by-requires
contents_by-requires c = sound_of _ _ _ (rw (c.fixed.ensures, c.ends.ensures) at c.ring_fits-fits.ensures)

pub returns : goal.returns
returns c = let fits = rw (c.fixed.ensures, c.ends.ensures) at c.ring_fits-fits.ensures in search (rules, judged_here)
