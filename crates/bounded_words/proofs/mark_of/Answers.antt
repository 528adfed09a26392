use Rattle.std.proofs.Common.{◌≡◌, ◌+◌, ◌-◌, ap, ◌∙◌, arith}
use lib.Count.{leading_le}
use Rattle.bounded_words.specs.Words.{mark_of}
use Rattle.bounded_words.proofs.Zeros.{places_few, mark_after}
use Rattle.bounded_words.proofs.mark_of.Goals as goal

pub overflow_sub-result-2 : goal.overflow_sub-result-2
overflow_sub-result-2 c = let h = leading_le 64 (c.args.capacity + 1 - 1) in omega arith

pub overflow_shl-result : goal.overflow_shl-result
overflow_shl-result c = places_few 64 (c.args.capacity + 1 - 1) (omega (arith, c.requires)) (omega (arith, c.requires))

pub returns : goal.returns
returns c =
    let n : c.args.capacity + 1 - 1 ≡ c.args.capacity = omega arith in
    mark_after 64 (c.args.capacity + 1 - 1) (omega (arith, c.requires)) (omega (arith, c.requires)) ∙ ap mark_of n
