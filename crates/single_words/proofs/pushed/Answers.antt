use Rattle.single_words.proofs.Masks.{pushed_is}
use Rattle.single_words.proofs.pushed.Goals as goal

pub returns : goal.returns
returns c = pushed_is c.args.w
