use Rattle.text_words.proofs.line.Words.hand_on.Given as goal

abbrev pub decreases-loop-self : goal.decreases-loop-self
decreases-loop-self l = l.self.left
