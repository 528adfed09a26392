-- The window's lengths that document 02 names, computed.
use mathlib.Core.Path.{refl}
use Rattle.bounded_words.specs.Words.{doubled, mark_of}
use Rattle.bounded_demands.specs.Demands.{WindowLengths}

pub window_lengths : WindowLengths
unfolding doubled mark_of
window_lengths = refl
