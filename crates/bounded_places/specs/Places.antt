-- What document 01 says of a place, and of an entry's code.
use Rattle.std.specs.Prelude.{ℕ, Bool, true, false, cond, ltb}
use Rattle.queue_entries.specs.declared.Call.{Call}
use Rattle.queue_entries.specs.declared.Call.TheVariants as call
use Rattle.bounded_words.specs.declared.Stamp.{Stamp}
use Rattle.bounded_words.specs.declared.Fixed.{Fixed}
use Rattle.bounded_words.specs.Words.{index_of, marked_of}
use Rattle.bounded_places.specs.declared.Answer.{Answer}
use Rattle.bounded_places.specs.declared.Answer.TheVariants.{Nothing, Pushed, Full, Closed, Displaced, Popped, Empty, PopClosed, Len, Yes, No}
use Rattle.bounded_places.specs.declared.Kind.TheVariants.{Push, Force}
use Rattle.bounded_places.specs.declared.Place.{Place}
use Rattle.bounded_places.specs.declared.Place.TheVariants.{Idle, P1, P2, P3, P4, P5, P6, F6, F7, F8, F9, O1, O2, O3, O4, O5, O6, Len1, Len2, Len3, Empty1, Empty2, Full1, Full2, Close1, IsClosed1}
use Rattle.bounded_places.specs.declared.Held.{Held}
use Rattle.bounded_places.specs.declared.Held.TheVariants as held
use Rattle.bounded_places.specs.declared.Moved.{Moved}
use Rattle.bounded_places.specs.declared.Moved.TheVariants.{Neither, Tail, Head}
use Rattle.bounded_places.specs.declared.View.{View}

abbrev pub says_yes : Answer → Bool
says_yes Nothing = false
says_yes Pushed = false
says_yes (Full x) = false
says_yes (Closed x) = false
says_yes (Displaced v) = false
says_yes (Popped v) = false
says_yes Empty = false
says_yes PopClosed = false
says_yes (Len k) = false
says_yes Yes = true
says_yes No = false

-- ---- the table of places: a row is made by one of these

abbrev pub idle : Answer → View
idle a =
    record {
      busy = false;
      weak = false;
      held = held.Nothing;
      moved = Neither;
      reads = false;
      stand = record { end = Neither; stamps = false; far = 0; hand = false; close = false; yes = says_yes a };
    }

-- In push, force_push or pop: the call's own end, how far it is, whether its action is a weak exchange, and t or h.
abbrev pub works : Moved → ℕ → Bool → Held → View
works end far weak held =
    record {
      busy = true;
      weak = weak;
      held = held;
      moved = Neither;
      reads = false;
      stand = record { end = end; stamps = true; far = far; hand = false; close = false; yes = false };
    }

-- With the slot of t or h in hand: besides, which end the act that led here moved, and whether a value is read out.
abbrev pub holds : Moved → ℕ → Stamp → Moved → Bool → View
holds end far w moved reads =
    record {
      busy = true;
      weak = false;
      held = held.End w;
      moved = moved;
      reads = reads;
      stand = record { end = end; stamps = true; far = far; hand = true; close = false; yes = false };
    }

-- In len, which may go back and loads no stamp.
abbrev pub counts : ℕ → Held → View
counts far held =
    record {
      busy = true;
      weak = false;
      held = held;
      moved = Neither;
      reads = false;
      stand = record { end = Tail; stamps = false; far = far; hand = false; close = false; yes = false };
    }

-- In a call that never goes back; close's act sets the mark.
abbrev pub looks : Bool → ℕ → View
looks close far =
    record {
      busy = true;
      weak = false;
      held = held.Nothing;
      moved = Neither;
      reads = false;
      stand = record { end = Neither; stamps = false; far = far; hand = false; close = close; yes = false };
    }

-- "its own end (tail for push, force_push and len, head for pop)". Tail claims are won P3 and F7; head claims are won O3 and F6. A won P3 goes to P4 and a
-- won O3 to O4, F7 to F8, and a won F6 to F7; no other act goes there. A value is read out at O4 and at F8.
abbrev pub view_of : Place → View
view_of (Idle a) = idle a
view_of (P1 k x) = works Tail 1 false held.Nothing
view_of (P2 k t x) = works Tail 2 false (held.End t)
view_of (P3 k t x) = works Tail 3 true (held.End t)
view_of (P4 t x) = holds Tail 4 t Tail false
view_of (P5 t) = holds Tail 5 t Neither false
view_of (P6 t x) = works Tail 3 false (held.End t)
view_of (F6 t x) = works Tail 3 true (held.End t)
view_of (F7 t x) = holds Tail 4 t Head false
view_of (F8 t x) = holds Tail 5 t Tail true
view_of (F9 t old) = holds Tail 6 t Neither false
view_of O1 = works Head 1 false held.Nothing
view_of (O2 h) = works Head 2 false (held.End h)
view_of (O3 h) = works Head 3 true (held.End h)
view_of (O4 h) = holds Head 4 h Head true
view_of (O5 h v) = holds Head 5 h Neither false
view_of (O6 h) = works Head 3 false (held.End h)
view_of Len1 = counts 1 held.Nothing
view_of (Len2 t) = counts 2 (held.Tail t)
view_of (Len3 t h) = counts 3 (held.Both t h)
view_of Empty1 = looks false 1
view_of (Empty2 h) = looks false 2
view_of Full1 = looks false 1
view_of (Full2 t) = looks false 2
view_of Close1 = looks true 1
view_of IsClosed1 = looks false 1

-- Index below capacity.
unfoldable pub inside : Fixed → Stamp → Bool
inside f w = ltb (index_of f w) f.capacity

-- "Broken" of a busy worker's words: in push, force_push or pop past P1 or O1 a t or h that is marked or has an index
-- not below capacity; in len a loaded tail or head that has such an index.
abbrev pub fits_of : Fixed → Held → Bool
fits_of f held.Nothing = true
fits_of f (held.End w) = cond (marked_of f w) false (inside f w)
fits_of f (held.Tail t) = inside f t
fits_of f (held.Both t h) = cond (inside f t) (inside f h) false

abbrev pub begin_of : Call → Place
begin_of (call.Push x) = P1 Push x
begin_of (call.ForcePush x) = P1 Force x
begin_of call.Pop = O1
begin_of call.Len = Len1
begin_of call.IsEmpty = Empty1
begin_of call.IsFull = Full1
begin_of call.Close = Close1
begin_of call.IsClosed = IsClosed1
