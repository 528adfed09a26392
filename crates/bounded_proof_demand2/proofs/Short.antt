-- The face of sixteen bits keeps the one machine's numbers.
use mathlib.Core.Path.{ap, ◌∙◌}
use Rattle.bounded_words.specs.declared.Width.TheVariants.{Sixteen}
use Rattle.bounded_acts.specs.Acts.{act_of}
use Rattle.bounded_machine.specs.declared.Machine.{Machine}
use Rattle.bounded_machine.specs.declared.Ran.{Ran}
use Rattle.bounded_machine.specs.Machine.{fresh_of}
use Rattle.bounded_machine.specs.Run.{run_of_by}
use Rattle.bounded_sixteen_bits.proofs.Back.{back, again}
use Rattle.bounded_demands.specs.Demands.{SameNumbers}
use Rattle.bounded_proof_demand2.proofs.Demand2.{whole_schedules}

pub same_numbers : SameNumbers
same_numbers =
    record {
      back = back;
      again = again;
      reaches =
          λ capacity workers edition a s even read.
          again _ ∙ ap (λ (m : Machine). (run_of_by (act_of Sixteen) m s).machine) (again (fresh_of capacity workers edition))
          ∙ ap (λ (r : Ran). r.machine) ((whole_schedules Sixteen capacity workers edition a s).0 even read);
    }
