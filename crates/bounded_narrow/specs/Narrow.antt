-- What each function of sixteen bits answers: what the one definition answers at that width, narrowed.
use Rattle.std.specs.Prelude.{ℕ, List}
use Rattle.bounded_words.specs.declared.Width.TheVariants.{Sixteen}
use Rattle.bounded_acts.specs.Acts as acts
use Rattle.bounded_machine.specs.Run.{run_of_by}
use Rattle.bounded_step_machine.specs.Steps.{step_of_by, begin_step_of_by, act_step_of_by}
use Rattle.bounded.specs.Bounded as face
use Rattle.bounded_sixteen_bits.specs.declared.Machine.{Machine}
use Rattle.bounded_sixteen_bits.specs.declared.Did.{Did}
use Rattle.bounded_sixteen_bits.specs.declared.Ran.{Ran}
use Rattle.bounded_sixteen_bits.specs.SixteenBits.{widened, narrowed_did, narrowed_ran}

abbrev pub make_of : ℕ → ℕ → ℕ → Did
make_of capacity workers edition = narrowed_did (face.make_of capacity workers edition)

abbrev pub run_of : Machine → List ℕ → Ran
run_of m s = narrowed_ran (run_of_by (acts.act_of Sixteen) (widened m) s)

abbrev pub step_of : Machine → ℕ → ℕ → Did
step_of m first second = narrowed_did (step_of_by (acts.act_of Sixteen) (widened m) first second)

abbrev pub begin_step_of : Machine → ℕ → ℕ → Did
begin_step_of m first second = narrowed_did (begin_step_of_by (acts.act_of Sixteen) (widened m) first second)

abbrev pub act_step_of : Machine → ℕ → ℕ → Did
act_step_of m first second = narrowed_did (act_step_of_by (acts.act_of Sixteen) (widened m) first second)
