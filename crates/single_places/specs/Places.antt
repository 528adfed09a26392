-- What is said of a place of src/single.rs, and where a call begins.
use Rattle.std.specs.Prelude.{Bool, true, false}
use Rattle.queue_entries.specs.declared.Call.{Call}
use Rattle.queue_entries.specs.declared.Call.TheVariants as call
use Rattle.single_words.specs.Words.{state}
use Rattle.single_places.specs.declared.Place.{Place}
use Rattle.single_places.specs.declared.Place.TheVariants.{Idle, A1, A2, A3, B1, B2, B3, B4, B5, C1, C2, C3, Len1, Empty1, Full1, Close1, IsClosed1}
use Rattle.single_places.specs.declared.View.{View}

abbrev pub at : Bool → View
at hand = record { busy = true; hand = hand }

-- In hand: from a won exchange until the word is unlocked (A2, A3, B2 to B5, C2, C3). No exchange of single.rs is weak.
abbrev pub view_of : Place → View
view_of (Idle a) = record { busy = false; hand = false }
view_of (A1 x) = at false
view_of (A2 x) = at true
view_of A3 = at true
view_of (B1 e x) = at false
view_of (B2 x) = at true
view_of B3 = at true
view_of (B4 x) = at true
view_of (B5 old) = at true
view_of (C1 e) = at false
view_of C2 = at true
view_of (C3 v) = at true
view_of Len1 = at false
view_of Empty1 = at false
view_of Full1 = at false
view_of Close1 = at false
view_of IsClosed1 = at false

-- force_push: let mut state = 0; pop: let mut state = PUSHED
abbrev pub begin_of : Call → Place
begin_of (call.Push x) = A1 x
begin_of (call.ForcePush x) = B1 (state 0) x
begin_of call.Pop = C1 (state 2)
begin_of call.Len = Len1
begin_of call.IsEmpty = Empty1
begin_of call.IsFull = Full1
begin_of call.Close = Close1
begin_of call.IsClosed = IsClosed1
