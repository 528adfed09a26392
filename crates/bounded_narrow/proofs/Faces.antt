-- What stands between a function of the one machine and the same one of sixteen bits.
use Prim.Native.Nat.{ℕ}
use mathlib.Core.Path.{◌≡◌, sym, ap, subst, ◌∙◌}
use mathlib.Core.List.{List}
use Rattle.std.specs.Prelude.{Result}
use Rattle.queue_entries.specs.Told.{told}
use Rattle.bounded_machine.specs.Contents.{count_in, contents_refusal, written}
use Rattle.bounded_machine.specs.declared.Machine as machine
use Rattle.bounded_machine.specs.declared.Did as did
use Rattle.bounded_machine.specs.declared.Ran as ran
use Rattle.bounded_sixteen_bits.specs.declared.Machine.{Machine}
use Rattle.bounded_sixteen_bits.specs.declared.Did.{Did}
use Rattle.bounded_sixteen_bits.specs.declared.Ran.{Ran}
use Rattle.bounded_sixteen_bits.specs.SixteenBits.{widened, narrowed_did, narrowed_ran, Short}

pub did_fits : (d e : did.Did) → d ≡ e → Short e.machine → Short d.machine
did_fits d e same o = subst (λ (x : did.Did). Short x.machine) (sym same) o

pub ran_fits : (d e : ran.Ran) → d ≡ e → Short e.machine → Short d.machine
ran_fits d e same o = subst (λ (x : ran.Ran). Short x.machine) (sym same) o

pub did_is : (by : machine.Machine → did.Did) (m : Machine) (w : machine.Machine) → w ≡ widened m → (d : did.Did) → d ≡ by w → (r : Did) → r ≡ narrowed_did d → r ≡ narrowed_did (by (widened m))
did_is by m w is d gave r e = e ∙ ap narrowed_did (gave ∙ ap by is)

pub ran_is : (by : machine.Machine → ran.Ran) (m : Machine) (w : machine.Machine) → w ≡ widened m → (d : ran.Ran) → d ≡ by w → (r : Ran) → r ≡ narrowed_ran d → r ≡ narrowed_ran (by (widened m))
ran_is by m w is d gave r e = e ∙ ap narrowed_ran (gave ∙ ap by is)

pub contents_told : (w v : machine.Machine) → w ≡ v → (room : ℕ) (r : Result ℕ ℕ) → r ≡ told (contents_refusal w room) (count_in w) → r ≡ told (contents_refusal v room) (count_in v)
contents_told w v is room r e = e ∙ ap (λ x. told (contents_refusal x room) (count_in x)) is

pub contents_lent : (w v : machine.Machine) → w ≡ v → (buffer after : List ℕ) → after ≡ written w buffer → after ≡ written v buffer
contents_lent w v is buffer after e = e ∙ ap (λ x. written x buffer) is
