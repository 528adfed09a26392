-- What an entry does to what it touches, as the code finds it out.
use Prim.Native.Nat.{ℕ, ◌+◌, ◌<◌, ◌≤◌}
use mathlib.Core.Path.{◌≡◌, refl, sym, ap, ◌∙◌}
use mathlib.Core.Bool.{Bool, true}
use Rattle.queue_entries.proofs.Pick.{on, below, above}
use Rattle.queue_entries.specs.declared.Call.{Call}
use Rattle.queue_entries.specs.declared.Order.{Order}
use Rattle.queue_entries.specs.declared.Entry.{Entry}
use Rattle.queue_entries.specs.declared.Entry.TheVariants.{Unreadable, Asks}
use Rattle.queue_entries.specs.declared.Verdict.{Verdict}
use Rattle.queue_entries.specs.declared.Verdict.TheVariants.{Refuse, Start, Move}
use Rattle.queue_entries.specs.Entries.{entry_of}
use Rattle.bounded_words.specs.declared.Fixed.{Fixed}
use Rattle.bounded_words.specs.declared.Width.{Width}
use Rattle.bounded_places.specs.declared.Ends.{Ends}
use Rattle.bounded_places.specs.declared.Slot.{Slot}
use Rattle.bounded_places.specs.declared.Place.{Place}
use Rattle.bounded_places.specs.declared.View.{View}
use Rattle.bounded_places.specs.declared.Worker.{Worker}
use Rattle.bounded_places.specs.Places.{view_of, begin_of}
use Rattle.bounded_acts.specs.declared.Acted.{Acted}
use Rattle.bounded_acts.specs.Acts.{act_of}
use Rattle.bounded_machine.specs.Turn.{verdict_of, spot_of, beginner, record_after}
use Rattle.bounded_step_record.specs.declared.Turned.{Turned}
use Rattle.bounded_step_record.specs.Entries.{slot_of_ring, with, moved, carried_on, turned_on, turned_of}

module _ (bits : Width) (f : Fixed) (e : Ends) (s : Slot) (r : Worker) (m count first second : ℕ) (x : Entry) (ex : x ≡ entry_of first second) where
  abbrev Whole : Turned
  Whole = turned_of bits f e s r m count first second

  pub nine : x ≡ Unreadable → with 9 e s r m ≡ Whole
  unfolding turned_of
  nine h = ap (turned_on bits f e s r m count) (sym h ∙ ex)

  module _ (w : ℕ) (o : Order) (h : x ≡ Asks w o) where
    pub three : count ≤ w → with 3 e s r m ≡ Whole
    unfolding turned_of
    three g = above w count _ _ _ g refl ∙ ap (turned_on bits f e s r m count) (sym h ∙ ex)

    module _ (v : Verdict) (g : w < count) (ev : v ≡ verdict_of m r.place o) where
      near : carried_on bits f e s r m v ≡ Whole
      unfolding turned_of
      near = below w count _ _ _ g (ap (carried_on bits f e s r m) ev) ∙ ap (turned_on bits f e s r m count) (sym h ∙ ex)

      pub stop : (k : ℕ) → v ≡ Refuse k → with k e s r m ≡ Whole
      stop k q = ap (carried_on bits f e s r m) (sym q) ∙ near

      pub start : (c : Call) (p : Place) → v ≡ Start c → p ≡ begin_of c → with 0 e s (beginner p) m ≡ Whole
      start c p q l = ap (λ (z : Place). with 0 e s (beginner z) m) l ∙ ap (carried_on bits f e s r m) (sym q) ∙ near

      pub move : (lose : Bool) (a : Acted) (after : Worker) → v ≡ Move lose → a ≡ act_of bits f e s r.place lose → after ≡ record_after r a.place a.loss
          → with 0 a.ends a.slot after (m + 1) ≡ Whole
      unfolding with moved
      move lose a after q ea er = ap (λ (z : Worker). with 0 a.ends a.slot z (m + 1)) er ∙ ap (moved r m) ea ∙ ap (carried_on bits f e s r m) (sym q) ∙ near

-- the slot of a busy worker's act
pub slot_at : (f : Fixed) (r : Worker) (v : View) (k : ℕ) → v ≡ view_of r.place → v.busy ≡ true → k ≡ spot_of f v.held → k ≡ slot_of_ring f r
slot_at f r v k e h q = on (view_of r.place).busy k _ 0 (ap (λ (z : View). z.busy) (sym e) ∙ h) (q ∙ ap (λ (z : View). spot_of f z.held) e)
