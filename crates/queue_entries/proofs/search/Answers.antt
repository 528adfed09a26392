use mathlib.Core.Path.{◌∙◌}
use Rattle.queue_entries.proofs.Searching.{search_all}
use Rattle.queue_entries.proofs.search.Goals as goal

pub returns : goal.returns
returns c = c.search_but.ensures ∙ search_all _ 0
