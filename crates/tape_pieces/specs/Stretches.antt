-- A tape cut in two between fields: what is heard after the words of the entries that were passed.
use Rattle.std.specs.Prelude.{ℕ, List, ◌++◌}
use Rattle.tapes.specs.Heard.{Heard, stopped, heard}

unfoldable pub passed : List ℕ → Heard → Heard
passed words (stopped number at) = stopped number at
passed words (heard more) = heard (words ++ more)
