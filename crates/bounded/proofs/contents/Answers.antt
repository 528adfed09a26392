use Rattle.bounded.proofs.Answers.{ring_sound, answers}
use borrow.Author.Rules.{rules}
use Rattle.bounded.proofs.contents.Goals as goal

pub contents_by-requires : goal.contents_by-requires
contents_by-requires c = ring_sound _ _ c.broken.ensures

pub returns : goal.returns
returns c = let both = answers _ _ _ _ _ _ (search rules) (search rules) c.contents_by.ensures in record { answer = both.0; lent = both.1 }
