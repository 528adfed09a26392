use Rattle.tapes_host.proofs.Recording.{not_three_words, words_stand, words_fall}
use borrow.Author.Rules.{rules}
use Rattle.tapes_host.proofs.recorder_in.Goals as goal

pub returns-then-words-ne-ABOUT : goal.returns-then-words-ne-ABOUT
returns-then-words-ne-ABOUT c = search (rules, not_three_words)

pub returns-then-stands : goal.returns-then-stands
returns-then-stands c = search (rules, words_stand)

pub returns : goal.returns
returns c = search (rules, words_fall)
