-- The ring's story, with a plain queue along it: what each act does to that queue, and at which moment an answer is that queue's.
use Rattle.std.specs.Prelude.{ℕ, ◌+◌, Bool, true, false, cond, List, [], ◌∷◌, ◌++◌, ◌≡◌, eqb, length, replicate}
use Rattle.queue_entries.specs.Schedules.{history_by}
use Rattle.queue_entries.specs.declared.Call.{Call}
use Rattle.queue_entries.specs.declared.Call.TheVariants as call
use Rattle.queue_plain.specs.Plain.{Queue, full_of}
use Rattle.queue_plain.specs.Plain as plain
use Rattle.queue_plain.specs.Story as stories
use Rattle.queue_plain.specs.Story.{Begun, Does, Change, Known, elements_by, fresh, known_with}
use Rattle.bounded_places.specs.declared.Answer.{Answer}
use Rattle.bounded_places.specs.declared.Answer.TheVariants.{Nothing, Pushed, Full, Closed, Displaced, Popped, Empty, PopClosed, Len, Yes, No}
use Rattle.bounded_places.specs.declared.Place.{Place}
use Rattle.bounded_places.specs.declared.Place.TheVariants.{Idle, P1, P2, P3, P4, P5, P6, F6, F7, F8, F9, O1, O2, O3, O4, O5, O6, Len1, Len2, Len3, Empty1, Empty2, Full1, Full2, Close1, IsClosed1}
use Rattle.bounded_machine.specs.declared.Machine.{Machine}
use Rattle.bounded_machine.specs.declared.Did.{Did}
use Rattle.bounded_machine.specs.declared.Event.{Event}
use Rattle.bounded_machine.specs.Machine.{fresh_with}
use Rattle.bounded_machine.specs.History.{events_of, moved_of, untallied}
use Rattle.bounded_causes.specs.Causes.{stand_of, claims_tail, claims_head}
use Rattle.bounded_moments.specs.declared.Timing.{Timing}
use Rattle.bounded_moments.specs.declared.Timing.TheVariants.{Now, Stays, IfSome, IfRoom}
use Rattle.bounded_moments.specs.declared.Moment as declared
use Rattle.bounded_moments.specs.declared.Moment.TheVariants as moments
use Rattle.bounded_moments.specs.declared.Moments.{Moments}
use Rattle.bounded_moments.specs.Moments.{timing_of, start, of_worker, begun_of, named_of}
use Rattle.bounded_demands.specs.Notions.{Definition, acts}

abbrev pub Element : Type 0
Element = stories.Element Event

abbrev pub Story : Type 0
Story = stories.Story Event

-- Of a schedule's entries, up to the first that is refused: oldest first, as `acts_of` has its acts.
abbrev pub story_from : Definition → Machine → List ℕ → Story
story_from d = history_by (λ (r : Did). r.refusal) (λ (r : Did). r.machine) d.turn (elements_by (events_of d.width))

abbrev pub story_of : Definition → ℕ → ℕ → ℕ → List ℕ → Story
story_of d capacity workers edition s = story_from d (fresh_with d.records capacity workers edition) s

-- ---- the plain queue

-- No call answers Nothing.
abbrev pub reply_of : Answer → List plain.Reply
reply_of Nothing = []
reply_of Pushed = plain.Pushed ∷ []
reply_of (Full x) = plain.Full x ∷ []
reply_of (Closed x) = plain.Closed x ∷ []
reply_of (Displaced v) = plain.Displaced v ∷ []
reply_of (Popped v) = plain.Popped v ∷ []
reply_of Empty = plain.Empty ∷ []
reply_of PopClosed = plain.EmptyAndClosed ∷ []
reply_of (Len n) = plain.Count n ∷ []
reply_of Yes = plain.Yes ∷ []
reply_of No = plain.No ∷ []

-- In at a tail claim (a won P3, F7), out at a head claim (a won O3, a won F6), closed by a close that answers yes, and opened again by edition 1's F7 alone: the
-- act that leads from a head claim to a tail claim.
abbrev pub change_of : ℕ → Event → Change
change_of edition e =
    record {
      takes = claims_head (moved_of e.after);
      puts = claims_tail (moved_of e.after);
      closes = cond (stand_of e.before).close (stand_of e.after).yes false;
      opens = cond (eqb edition 2) false (cond (claims_head (moved_of e.before)) (claims_tail (moved_of e.after)) false);
    }

abbrev pub actor : Event → ℕ
actor e = e.worker

abbrev pub known : ℕ → ℕ → Story → Known
known capacity edition s = stories.known actor (change_of edition) capacity s

abbrev pub queue_at : ℕ → ℕ → ℕ → Story → Queue
queue_at capacity edition n s = stories.queue_at actor (change_of edition) capacity n s

-- What a call that came with these items and answered so has put in, what it has taken out, and what it gives back.
abbrev pub put_by : Answer → List ℕ → List ℕ
put_by a x = plain.meaning_of (plain.put_by x) (reply_of a)

abbrev pub taken_by : Answer → List ℕ
taken_by a = plain.meaning_of plain.taken_by (reply_of a)

abbrev pub given_back : Answer → List ℕ
given_back a = plain.meaning_of plain.given_back (reply_of a)

-- ---- moments

-- The moment of an answer: after the first n elements; or directly after the next tail claim, or head claim, if one comes.
pub data Moment : Type 0 where
  At : ℕ → Moment
  AfterNextTail AfterNextHead : Moment

-- What an act of its own makes of a call's moment; `timing_of` says which.
abbrev pub timed : Timing → Known → Moment → Moment
timed Now k was = At k.count
timed Stays k was = was
timed IfSome k was = cond (eqb (length k.queue.items) 0) AfterNextTail (At k.count)
timed IfRoom k was = cond (full_of k.queue) AfterNextHead (At k.count)

-- What another's act makes of it, n elements standing before the moment directly after that act.
abbrev pub heard : Change → ℕ → Moment → Moment
heard d n (At k) = At k
heard d n AfterNextTail = cond d.puts (At n) AfterNextTail
heard d n AfterNextHead = cond d.takes (At n) AfterNextHead

abbrev pub moment_with : ℕ → ℕ → Known → Moment → Element → Moment
moment_with edition w k was (Begun v c) = was
moment_with edition w k was (Does e) =
    cond (eqb w e.worker) (timed (timing_of e.before e.after) k was) (heard (change_of edition e) (k.count + 1) was)

unfoldable pub moment_from : ℕ → ℕ → Known → Moment → Story → Moment
moment_from edition w k was [] = was
moment_from edition w k was (x ∷ s) = moment_from edition w (known_with actor (change_of edition) k x) (moment_with edition w k was x) s

-- Of worker w's call, under way or its last.
abbrev pub moment_of : ℕ → ℕ → ℕ → Story → Moment
moment_of capacity edition w s = moment_from edition w (fresh capacity) (At 0) s

-- ---- one step a call

-- The calls of which each is one step in this edition: push, force_push and pop; in edition 2 close and is_closed too.
abbrev pub one_step : ℕ → Call → Bool
one_step edition (call.Push x) = true
one_step edition (call.ForcePush x) = true
one_step edition call.Pop = true
one_step edition call.Len = false
one_step edition call.IsEmpty = false
one_step edition call.IsFull = false
one_step edition call.Close = eqb edition 2
one_step edition call.IsClosed = eqb edition 2

-- No other call is begun.
abbrev pub OnlySuch : (Call → Bool) → Story → Type 0
OnlySuch such [] = Unit {0}
OnlySuch such (Begun w c ∷ s) = (such c ≡ true) × OnlySuch such s
OnlySuch such (Does e ∷ s) = OnlySuch such s

-- The calls that look and move nothing, and the places of their acts.
abbrev pub looks : Call → Bool
looks (call.Push x) = false
looks (call.ForcePush x) = false
looks call.Pop = false
looks call.Len = true
looks call.IsEmpty = true
looks call.IsFull = true
looks call.Close = false
looks call.IsClosed = false

abbrev pub looks_at : Place → Bool
looks_at (Idle a) = false
looks_at (P1 k x) = false
looks_at (P2 k t x) = false
looks_at (P3 k t x) = false
looks_at (P4 t x) = false
looks_at (P5 t) = false
looks_at (P6 t x) = false
looks_at (F6 t x) = false
looks_at (F7 t x) = false
looks_at (F8 t x) = false
looks_at (F9 t old) = false
looks_at O1 = false
looks_at (O2 h) = false
looks_at (O3 h) = false
looks_at (O4 h) = false
looks_at (O5 h v) = false
looks_at (O6 h) = false
looks_at Len1 = true
looks_at (Len2 t) = true
looks_at (Len3 t h) = true
looks_at Empty1 = true
looks_at (Empty2 h) = true
looks_at Full1 = true
looks_at (Full2 t) = true
looks_at Close1 = false
looks_at IsClosed1 = false

-- The story without them: neither their begins nor their acts.
unfoldable pub unlooked : Story → Story
unlooked [] = []
unlooked (Begun w c ∷ s) = cond (looks c) [] (Begun w c ∷ []) ++ unlooked s
unlooked (Does e ∷ s) = cond (looks_at e.before) [] (Does e ∷ []) ++ unlooked s

-- Every call but close and is_closed.
abbrev pub never_closes : Call → Bool
never_closes (call.Push x) = true
never_closes (call.ForcePush x) = true
never_closes call.Pop = true
never_closes call.Len = true
never_closes call.IsEmpty = true
never_closes call.IsFull = true
never_closes call.Close = false
never_closes call.IsClosed = false

-- Case G: capacity 1, with one item in: worker 0's force_push up to F7; then worker 1 begins a call with this code and does so many acts.
unfoldable pub between_claims : ℕ → ℕ → List ℕ
between_claims code many = 0 ∷ 1 ∷ acts 0 5 ++ 1 ∷ 2 ∷ acts 0 3 ++ (16 + code) ∷ 0 ∷ acts 1 many

-- Capacity 1, with one item in: worker 0's force_push up to F7; worker 1 closes; F7, which clears the mark in edition 1; worker 1 closes again.
unfoldable pub two_closes : List ℕ
two_closes = 0 ∷ 1 ∷ acts 0 5 ++ 1 ∷ 2 ∷ acts 0 3 ++ 22 ∷ 0 ∷ acts 1 1 ++ acts 0 1 ++ 22 ∷ 0 ∷ acts 1 1

-- ---- as the functions of crate bounded_moments keep them

abbrev pub moments_with : Moments → Element → Moments
moments_with ms (Begun w c) = begun_of ms
moments_with ms (Does e) = (named_of ms e.worker e.before e.after).moments

unfoldable pub moments_from : Moments → Story → Moments
moments_from ms [] = ms
moments_from ms (x ∷ s) = moments_from (moments_with ms x) s

-- After this story.
abbrev pub moments_kept : ℕ → Story → Moments
moments_kept capacity s = moments_from (start capacity) s

-- Of an act after it: what `name_moment` answers.
abbrev pub moment_named : ℕ → Story → Event → declared.Moment
moment_named capacity earlier act = (named_of (moments_kept capacity earlier) act.worker act.before act.after).moment

-- By the same rule, kept for so many workers; `start` has room for sixteen.
abbrev pub moments_kept_of : ℕ → ℕ → Story → Moments
moments_kept_of many capacity s = moments_from (record { place = 0; tally = untallied; capacity = capacity; each = replicate many (of_worker (moments.Before 0)) }) s

abbrev pub moment_named_of : ℕ → ℕ → Story → Event → declared.Moment
moment_named_of many capacity earlier act = (named_of (moments_kept_of many capacity earlier) act.worker act.before act.after).moment

-- Just before entry j, j elements stand before the moment; directly after it, one more.
abbrev pub in_story : declared.Moment → Moment
in_story (moments.Before j) = At j
in_story (moments.After j) = At (j + 1)
in_story moments.AfterNextTail = AfterNextTail
in_story moments.AfterNextHead = AfterNextHead
