-- "Broken" of request 1: a state word above 7, a worker count out of limits, or a busy record past it.
use Rattle.std.specs.Prelude.{ℕ, Bool, true, cond, not, List, leb, ltb}
use Rattle.queue_entries.specs.Limits.{workers_most, in_limits, all}
use Rattle.single_words.specs.Words.{state_most}
use Rattle.single_places.specs.declared.Place.{Place}
use Rattle.single_places.specs.declared.Worker.{Worker}
use Rattle.single_places.specs.Places.{view_of}
use Rattle.single_machine.specs.declared.Machine.{Machine}
use Rattle.single_machine.specs.Machine.{place_of}

-- A record that is idle, or among those that may be busy.
unfoldable pub record_fits : Place → Bool → Bool
record_fits p among = cond (view_of p).busy among true

-- No record from this number on is busy.
unfoldable pub idle_from : ℕ → List Worker → Bool
idle_from n ws = all workers_most 0 (λ (i : ℕ). record_fits (place_of ws i) (ltb i n))

unfoldable pub broken_of : Machine → Bool
broken_of m =
    cond (leb m.single.state.0 state_most)
    (cond (in_limits m.count workers_most) (not (idle_from m.count m.workers)) true)
    true
