use Rattle.std.proofs.Common.{rules}
use Rattle.bounded_host.proofs.Answering.{sound, stands_so}
use Rattle.replay_bounded.proofs.entries.on_words.Goals as goal

pub steps-requires : goal.steps-requires
steps-requires c = record {
  records_value = sound _ _ _ c.broken.result c.broken.ensures (search rules);
  records_value_2 = stands_so _ _ _ c.broken.result c.broken.ensures (search rules);
}
