use Rattle.single_words.proofs.Masks.{closed_is}
use Rattle.single_words.proofs.closed.Goals as goal

pub returns : goal.returns
returns c = closed_is c.args.w
