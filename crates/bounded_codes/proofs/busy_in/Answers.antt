use Prim.Native.Nat.{ℕ}
use mathlib.Core.Path.{◌≡◌, refl}
use mathlib.Core.Bool.{Bool, true, false}
use lib.Dec.{leb}
use borrow.Author.Tests.{leb-true, leb-false}
use Rattle.bounded_places.specs.Places.{view_of}
use Rattle.bounded_codes.specs.Codes.{place_in}
use Rattle.bounded_codes.proofs.Ranges.{idle_below, busy_from}
use Rattle.bounded_codes.proofs.busy_in.Goals as goal

told : (code first second : ℕ) (t : Bool) → leb 11 code ≡ t → t ≡ (view_of (place_in code first second)).busy
told code first second true e = busy_from code first second (leb-true 11 code e)
told code first second false e = idle_below code first second (leb-false 11 code e)

pub returns : goal.returns
returns c = told c.args.code c.args.first c.args.second _ refl
