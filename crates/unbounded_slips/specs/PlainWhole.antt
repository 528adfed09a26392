-- The slips of RefutedPlain.antt at full size, with the third worker of Whole.antt. (`SaidAtBlocksEnd` is computed of two slots, and its slip refuted there.)
use Rattle.std.specs.Prelude.{◌∷◌}
use Rattle.unbounded_demands.specs.Stories.{Story, story_of}
use Rattle.unbounded_demands.specs.Demands.{PlainThroughout}
use Rattle.unbounded_slips.specs.Refuted.{Trial}
use Rattle.unbounded_slips.specs.RefutedPlain.{RefutedIn}
use Rattle.unbounded_slips.specs.Whole.{whole, whole_machine, whole_past, one_push}

abbrev pub whole_told : Trial → Story
whole_told t = story_of (whole t.slip) 3 (37 ∷ 0 ∷ t.schedule)

abbrev pub PlainWhole : Trial → Type 0
PlainWhole t = PlainThroughout (whole t.slip) (whole_machine t) (whole_past t) (whole_told t)

abbrev pub RefutedPlainWhole : Type 0
RefutedPlainWhole = RefutedIn PlainWhole whole_machine whole_past one_push
