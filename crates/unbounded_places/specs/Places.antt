-- What request 12's table says of a place: whether its action is a weak exchange, takes a block, and which block and slot it uses.
use Rattle.std.specs.Prelude.{ℕ, true, false}
use Rattle.queue_entries.specs.declared.Call.{Call}
use Rattle.queue_entries.specs.declared.Call.TheVariants as call
use Rattle.unbounded_words.specs.declared.Index.{Index}
use Rattle.unbounded_words.specs.declared.Pointer.{Pointer}
use Rattle.unbounded_words.specs.declared.Pointer.TheVariants.{None}
use Rattle.unbounded_words.specs.Words.{Sizes, offset_of, number_of}
use Rattle.unbounded_places.specs.declared.Place.{Place}
use Rattle.unbounded_places.specs.declared.Place.TheVariants.{Idle, U1, U2, U3, U4, U5, U6, U7, U8, U9, U10, U11, U12, U13, U14, U15, V1, V2, V3, V4, V5, V6, V7, V8, V9, V10, V11, V12, V13, V14, V15, Len1, Len2, Len3, Empty1, Empty2, Full1, Close1, IsClosed1}
use Rattle.unbounded_places.specs.declared.Uses.TheVariants as uses
use Rattle.unbounded_places.specs.declared.View.{View}

abbrev pub at : View
at = record { busy = true; weak = false; takes = false; uses = uses.Nothing }

abbrev pub exchanging : View
exchanging = record { busy = true; weak = true; takes = false; uses = uses.Nothing }

abbrev pub taking : View
taking = record { busy = true; weak = false; takes = true; uses = uses.Nothing }

abbrev pub on_block : Sizes → Pointer → View
on_block z b = record { busy = true; weak = false; takes = false; uses = uses.Block (number_of z b) }

abbrev pub on_slot : Sizes → Pointer → ℕ → View
on_slot z b i = record { busy = true; weak = false; takes = false; uses = uses.Slot (number_of z b) i }

-- the slot of b at the offset of w
abbrev pub on_indexed : Sizes → Pointer → Index → View
on_indexed z b w = on_slot z b (offset_of z w)

-- U9 uses the block set aside: the source unwraps it there.
abbrev pub view_of : Sizes → Place → View
view_of z (Idle a) = record { busy = false; weak = false; takes = false; uses = uses.Nothing }
view_of z (U1 n x) = at
view_of z (U2 n t x) = at
view_of z (U3 t b x) = taking
view_of z (U4 n t x) = taking
view_of z (U5 n t new x) = at
view_of z (U6 n t new x) = at
view_of z (U7 n t b x) = exchanging
view_of z (U8 n t x) = at
view_of z (U9 n t b x) = on_block z n
view_of z (U10 n t b x) = at
view_of z (U11 n t b x) = on_block z b
view_of z (U12 n t b x) = on_indexed z b t
view_of z (U13 n t b) = on_indexed z b t
view_of z (U14 n a) = on_block z n
view_of z (U15 n new x) = on_block z n
view_of z V1 = at
view_of z (V2 h) = at
view_of z (V3 h b) = at
view_of z (V4 h b new) = exchanging
view_of z (V5 h) = at
view_of z (V6 h b new) = on_block z b
view_of z (V7 h b new next) = on_block z next
view_of z (V8 h b next index) = at
view_of z (V9 h b index) = at
view_of z (V10 h b) = on_indexed z b h
view_of z (V11 h b) = on_indexed z b h
view_of z (V12 h b v) = on_indexed z b h
view_of z (V13 b i v) = on_slot z b i
view_of z (V14 b i v) = on_slot z b i
view_of z (V15 b v) = on_block z b
view_of z Len1 = at
view_of z (Len2 t) = at
view_of z (Len3 t h) = at
view_of z Empty1 = at
view_of z (Empty2 h) = at
view_of z Full1 = at
view_of z Close1 = at
view_of z IsClosed1 = at

-- The place at which a call begins. (There is no force_push here: its code is refusal 9.)
abbrev pub begin_of : Call → Place
begin_of (call.Push x) = U1 None x
begin_of (call.ForcePush x) = U1 None x
begin_of call.Pop = V1
begin_of call.Len = Len1
begin_of call.IsEmpty = Empty1
begin_of call.IsFull = Full1
begin_of call.Close = Close1
begin_of call.IsClosed = IsClosed1
