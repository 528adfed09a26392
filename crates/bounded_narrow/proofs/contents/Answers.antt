use Rattle.bounded_narrow.proofs.Faces.{contents_told, contents_lent}
use Rattle.bounded_narrow.proofs.contents.Goals as goal

pub returns : goal.returns
returns c = let w = c.widen.ensures.same in
    record { answer = contents_told _ _ w _ _ c.contents.ensures.answer; lent = contents_lent _ _ w _ _ c.contents.ensures.lent }
