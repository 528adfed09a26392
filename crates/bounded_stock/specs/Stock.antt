-- Claims and values read, counted act by act.
use Rattle.std.specs.Prelude.{ℕ, ◌+◌, ◌%◌, Bool, cond}
use Rattle.bounded_words.specs.declared.Claim.{Claim}
use Rattle.bounded_words.specs.Limits.{wide}
use Rattle.bounded_words.specs.Words.{claim}
use Rattle.bounded_places.specs.declared.Place.{Place}
use Rattle.bounded_places.specs.declared.Moved.{Moved}
use Rattle.bounded_places.specs.declared.Moved.TheVariants.{Neither, Tail, Head}
use Rattle.bounded_machine.specs.declared.Tally.{Tally}
use Rattle.bounded_machine.specs.History.{moved_of, reads_at}

-- Counting in words of the machine: as `counted` and `read_on` of the history, up to the width (`tally_counts` of proofs/Tallies.antt).
unfoldable pub one_more_act : ℕ → ℕ
one_more_act n = (n + 1) % wide

unfoldable pub next_claim : Claim → Claim
next_claim k = claim (one_more_act k.0)

abbrev pub with_claim : Tally → Moved → Tally
with_claim t Neither = t
with_claim t Tail = record { tail = next_claim t.tail; head = t.head; reads = t.reads }
with_claim t Head = record { tail = t.tail; head = next_claim t.head; reads = t.reads }

abbrev pub with_read : Tally → Bool → Tally
with_read t reads = cond reads (record { tail = t.tail; head = t.head; reads = one_more_act t.reads }) t

-- The act that led from one place to the other, counted on.
abbrev pub tallied_of : Tally → Place → Place → Tally
tallied_of t before after = with_read (with_claim t (moved_of after)) (reads_at before)
