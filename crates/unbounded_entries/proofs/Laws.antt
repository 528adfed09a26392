-- Where an entry goes and what is looked at after it, test by test.
use Rattle.std.proofs.Common.{◌≡◌, ℕ, ◌+◌, ◌%◌, ◌<◌, ◌≤◌, Bool, true, false, not, eqb, sym, refl, ap, ◌∙◌}
use Rattle.queue_entries.specs.Limits.{meter_most}
use Rattle.queue_entries.specs.Entries.{verdict_for}
use Rattle.queue_entries.proofs.Pick.{along, below, above, yes, no, on, off}
use Rattle.queue_entries.specs.declared.Call.{Call}
use Rattle.queue_entries.specs.declared.Order.{Order}
use Rattle.queue_entries.specs.declared.Order.TheVariants.{Begin, Act}
use Rattle.queue_entries.specs.declared.Entry.{Entry}
use Rattle.queue_entries.specs.declared.Entry.TheVariants.{Unreadable, Asks}
use Rattle.queue_entries.specs.declared.Verdict.{Verdict}
use Rattle.queue_entries.specs.declared.Verdict.TheVariants.{Move}
use Rattle.unbounded_words.specs.declared.Pointer.{Pointer}
use Rattle.unbounded_words.specs.Words.{sizes, wide, number_of}
use Rattle.unbounded_places.specs.declared.Block.{Block}
use Rattle.unbounded_places.specs.declared.Ends.{Ends}
use Rattle.unbounded_places.specs.declared.Place.{Place}
use Rattle.unbounded_places.specs.declared.Slot.{Slot}
use Rattle.unbounded_places.specs.declared.Uses.{Uses}
use Rattle.unbounded_places.specs.declared.View.{View}
use Rattle.unbounded_places.specs.declared.Worker.{Worker}
use Rattle.unbounded_places.specs.Places.{view_of, begin_of}
use Rattle.unbounded_acts.specs.declared.Acted.{Acted}
use Rattle.unbounded_acts.specs.Acts.{act_of}
use Rattle.unbounded_machine.specs.Turn.{entry_here, block_used, slot_used}
use Rattle.unbounded_entries.specs.declared.Aim.{Aim}
use Rattle.unbounded_entries.specs.declared.Done.{Done}
use Rattle.unbounded_entries.specs.declared.Ask.{Ask}
use Rattle.unbounded_entries.specs.declared.Look.{Look}
use Rattle.unbounded_entries.specs.Aims.{asking, unasked, ask_in, ask_of, aimed, turned_away, way_acts, way_by_act, way_of, leaves, done_by, done_of}
use Rattle.unbounded_entries.specs.Looks.{looked, look_uses, look_at, same_pointer, same_header, tallied}
use Rattle.unbounded_entries.proofs.Outcome.{move_in_time}

-- ---- who asks what
module _ (sound : Bool) (count first second : ℕ) (r : Ask) where
  pub ask_6 : sound ≡ false → r ≡ unasked 6 → r ≡ ask_of sound count first second
  unfolding ask_of
  ask_6 h q = off sound r _ _ h q

  module _ (h : sound ≡ true) (x : Entry) (ex : x ≡ entry_here first second) where
    asked : r ≡ ask_in count x → r ≡ ask_of sound count first second
    unfolding ask_of
    asked q = on sound r _ _ h (q ∙ ap (ask_in count) ex)

    pub ask_9 : x ≡ Unreadable → r ≡ unasked 9 → r ≡ ask_of sound count first second
    ask_9 z q = asked (q ∙ sym (ap (ask_in count) z))

    module _ (w : ℕ) (o : Order) (z : x ≡ Asks w o) where
      pub ask_3 : count ≤ w → r ≡ unasked 3 → r ≡ ask_of sound count first second
      ask_3 g q = asked (above w count r _ _ g q ∙ sym (ap (ask_in count) z))

      pub ask_all : w < count → r ≡ asking w o → r ≡ ask_of sound count first second
      ask_all g q = asked (below w count r _ _ g q ∙ sym (ap (ask_in count) z))

-- ---- which way it goes
pub way_acts_lem : (meter w : ℕ) (lose : Bool) (v : View) (k i : ℕ) (r : Aim) → k ≡ block_used v.uses → i ≡ slot_used v.uses
    → r ≡ aimed w (Act lose) v.takes k i (meter + 1) → r ≡ way_acts meter w lose v
way_acts_lem meter w lose v k i r ek ei q = q ∙ rw (ek, ei)

module _ (meter : ℕ) (a : Ask) (p : Place) (r : Aim) where
  pub way_away : 0 < a.refusal → r ≡ turned_away a.refusal → r ≡ way_of sizes meter a p
  unfolding way_of
  way_away h q = below 0 a.refusal r _ _ h q

  module _ (h : a.refusal ≤ 0) (view : View) (ev : view ≡ view_of sizes p) (v : Verdict) (e : v ≡ verdict_for meter view.busy view.weak a.order) where
    pub way_by : (q : Verdict) → v ≡ q → r ≡ way_by_act sizes meter a.worker p q → r ≡ way_of sizes meter a p
    unfolding way_of
    way_by q k z =
        above 0 a.refusal r _ _ h
        (z ∙ ap (way_by_act sizes meter a.worker p) (sym k ∙ e ∙ ap (λ (x : View). verdict_for meter x.busy x.weak a.order) ev))

    pub way_moves : (lose : Bool) → v ≡ Move lose → r ≡ way_acts meter a.worker lose view → r ≡ way_of sizes meter a p
    way_moves lose k z = way_by (Move lose) k (z ∙ ap (way_acts meter a.worker lose) ev)

pub way_in_time : (meter : ℕ) (p : Place) (o : Order) (view : View) (v : Verdict) (lose : Bool) → view ≡ view_of sizes p
    → v ≡ verdict_for meter view.busy view.weak o → v ≡ Move lose → meter < meter_most
way_in_time meter p o view v lose ev e h = move_in_time meter p o v lose (e ∙ ap (λ (x : View). verdict_for meter x.busy x.weak o) ev) h

module _ (e : Ends) (k : ℕ) (g : Block) (s : Slot) (worker : Worker) (o : Order) (r : Done) where
  pub begun_at : (c : Call) (p : Place) → o ≡ Begin c → p ≡ begin_of c → r ≡ leaves e g s p → r ≡ done_of sizes e k g s worker o
  begun_at c p h q a = a ∙ ap (leaves e g s) q ∙ sym (ap (done_of sizes e k g s worker) h)

  pub acted_at : (lose : Bool) (a : Acted) → o ≡ Act lose → a ≡ act_of sizes e k g s worker.place lose → r ≡ done_by a → r ≡ done_of sizes e k g s worker o
  acted_at lose a h q b = b ∙ ap done_by q ∙ sym (ap (done_of sizes e k g s worker) h)

-- ---- what is looked at after it
pub along_look : (p q : Uses) (r : Look) → p ≡ q → r ≡ look_uses sizes q → r ≡ look_uses sizes p
along_look = along (look_uses sizes)

module _ (p : Place) (v : View) (e : v ≡ view_of sizes p) (r : Look) where
  pub look_busy : v.busy ≡ true → r ≡ look_uses sizes v.uses → r ≡ look_at sizes p
  unfolding look_at
  look_busy h q = rw (← e) (on v.busy r _ _ h q)

  pub look_idle : v.busy ≡ false → r ≡ looked false false true 0 → r ≡ look_at sizes p
  unfolding look_at
  look_idle h q = rw (← e) (off v.busy r _ _ h q)

pub same_numbers : (p q : Pointer) (a b : ℕ) → a ≡ number_of sizes p → b ≡ number_of sizes q → eqb a b ≡ eqb (number_of sizes p) (number_of sizes q)
same_numbers p q a b x y = rw (x, y)

module _ (a b : Block) (s : Bool) (e : s ≡ same_pointer sizes a.next b.next) where
  pub other_next : s ≡ false → false ≡ same_header sizes a b
  unfolding same_header
  other_next h = no _ s _ _ _ e h refl

  module _ (h : s ≡ true) where
    pub still_free : a.free ≡ true → b.free ≡ same_header sizes a b
    unfolding same_header
    still_free f = yes _ s _ _ _ e h (on a.free _ _ _ f refl)

    pub was_taken : a.free ≡ false → not b.free ≡ same_header sizes a b
    unfolding same_header
    was_taken f = yes _ s _ _ _ e h (off a.free _ _ _ f refl)

module _ (busy : ℕ) (o : Order) (after : Bool) (r : ℕ) where
  pub tally_begin : (c : Call) → o ≡ Begin c → r ≡ (busy + 1) % wide → r ≡ tallied busy o after
  tally_begin c h q = q ∙ sym (ap (λ (x : Order). tallied busy x after) h)

  pub tally_end : (lose : Bool) → o ≡ Act lose → after ≡ false → r ≡ (busy + 18446744073709551615) % wide → r ≡ tallied busy o after
  tally_end lose h f q = off after r busy _ f q ∙ sym (ap (λ (x : Order). tallied busy x after) h)
