use Rattle.std.proofs.Common.{rules}
use Rattle.std.proofs.lemmas.Fmt.{length-decimal-le}
use Rattle.text_output.proofs.Text.number.Goals as goal

pub write_digits-from-requires : goal.write_digits-from-requires
write_digits-from-requires c = search (rules, length-decimal-le 20)
