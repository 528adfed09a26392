use Rattle.single_words.proofs.Masks.{closed_word}
use Rattle.single_words.proofs.with_closed.Goals as goal

pub returns : goal.returns
returns c = closed_word c.args.w
