-- Making, and entries one at a time, of 64 bits.
use Rattle.std.specs.Prelude.{ℕ}
use Rattle.queue_entries.specs.Limits.{workers_most}
use Rattle.bounded_words.specs.declared.Width.TheVariants.{SixtyFour}
use Rattle.bounded_acts.specs.Acts as acts
use Rattle.bounded_machine.specs.declared.Machine.{Machine}
use Rattle.bounded_machine.specs.declared.Did.{Did}
use Rattle.bounded_machine.specs.Machine.{fresh_of, blank, refused, accepted}
use Rattle.bounded_orders.specs.Orders.{make_by}
use Rattle.bounded_step_machine.specs.Steps.{step_of_by, begin_step_of_by, act_step_of_by}

-- A fresh machine, or the blank one with the number of the refusal: 1, 2 or 18, in this order.
unfoldable pub make_of : ℕ → ℕ → ℕ → Did
make_of capacity workers edition = make_by workers_most (λ (number : ℕ). refused number blank) (accepted (fresh_of capacity workers edition)) capacity workers edition

-- One entry of a schedule by itself; one that begins; one that acts.
abbrev pub step_of : Machine → ℕ → ℕ → Did
step_of = step_of_by (acts.act_of SixtyFour)

abbrev pub begin_step_of : Machine → ℕ → ℕ → Did
begin_step_of = begin_step_of_by (acts.act_of SixtyFour)

abbrev pub act_step_of : Machine → ℕ → ℕ → Did
act_step_of = act_step_of_by (acts.act_of SixtyFour)
