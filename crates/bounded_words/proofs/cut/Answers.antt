use Rattle.bounded_words.proofs.Laws.{cut_narrow, cut_wide}
use Rattle.std.proofs.Common.{rules}
use Rattle.bounded_words.proofs.cut.Goals as goal

pub returns-in-Sixteen : goal.returns-in-Sixteen
returns-in-Sixteen c = search (rules, cut_narrow)

pub returns-in-SixtyFour : goal.returns-in-SixtyFour
returns-in-SixtyFour c = search (rules, cut_wide)
