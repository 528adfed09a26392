-- Entries of one worker that has lost no exchange in its call, on a machine with these others.
use mathlib.Core.Path.{◌≡◌, ap, ◌∙◌, subst}
use mathlib.Core.Bool.{true, false}
use mathlib.Core.List.{List, [], ◌∷◌}
use Prim.Native.Nat.{ℕ, ◌+◌, ◌*◌, ◌<◌}
use lib.ListN.{length, get_or, set}
use lib.Seq.{set-get_or, set-set, get_or-set_same}
use borrow.Author.Tests.{lt-ltb}
use Rattle.queue_entries.specs.Limits.{meter_most}
use Rattle.queue_entries.specs.declared.Call.{Call}
use Rattle.queue_entries.specs.declared.Order.TheVariants.{Begin}
use Rattle.queue_entries.specs.declared.Entry.{Entry}
use Rattle.queue_entries.specs.declared.Entry.TheVariants.{Asks}
use Rattle.queue_entries.specs.Entries.{entry_of}
use Rattle.queue_schedules.proofs.Alone.{act_entry}
use Rattle.bounded_words.specs.declared.Fixed.{Fixed}
use Rattle.bounded_words.specs.declared.Width.{Width}
use Rattle.bounded_places.specs.declared.Slot.{Slot}
use Rattle.bounded_places.specs.declared.Ends.{Ends}
use Rattle.bounded_places.specs.declared.Answer.{Answer}
use Rattle.bounded_places.specs.declared.Place.{Place}
use Rattle.bounded_places.specs.declared.Place.TheVariants.{Idle}
use Rattle.bounded_places.specs.declared.Worker.{Worker}
use Rattle.bounded_places.specs.Places.{view_of, begin_of}
use Rattle.bounded_acts.specs.Acts.{goes, act_of}
use Rattle.bounded_machine.specs.declared.Machine.{Machine}
use Rattle.bounded_machine.specs.declared.Event.{Event}
use Rattle.bounded_machine.specs.Machine.{slot, idler, machine_of, place_of, accepted}
use Rattle.bounded_machine.specs.Turn.{spot_of, beginner, record_after, begun, stored, acted, acted_by, turn_at, turn_of_by}
use Rattle.bounded_machine.specs.History.{event, loss_at, events_of}
use Rattle.bounded_proof_window.proofs.Paths.{Goes, goes as goes_path, ending}

-- of any machine
begun_turn : (bits : Width) (m : Machine) (w first second : ℕ) (q : Call) → entry_of first second ≡ Asks w (Begin q) → w < m.count → (view_of (place_of m.workers w)).busy ≡ false
    → turn_at bits m first second ≡ accepted (begun m w (begin_of q))
unfolding turn_of_by
begun_turn bits m w first second q asks team idle = rw (asks, lt-ltb w m.count team, idle)

acted_turn : (bits : Width) (m : Machine) (w : ℕ) → w < m.count → (view_of (place_of m.workers w)).busy ≡ true → m.meter < meter_most
    → turn_at bits m (16 * w + 8) 0 ≡ accepted (acted bits m w (place_of m.workers w) false)
unfolding turn_of_by
acted_turn bits m w team busy early = rw (act_entry w, lt-ltb w m.count team, busy, lt-ltb m.meter meter_most early)

module _ (bits : Width) (f : Fixed) (count w : ℕ) (team : w < count) (others : List Worker) (seat : w < length others) where
  -- where it stands at this place
  abbrev pub at : Ends → List Slot → Place → ℕ → Machine
  at e slots p meter = machine_of f e slots (set others w (beginner p)) count meter

  itself : (p : Place) → get_or (set others w (beginner p)) w idler ≡ beginner p
  itself p = get_or-set_same others w (beginner p) idler seat

  there : (p : Place) → place_of (set others w (beginner p)) w ≡ p
  there p = ap (λ (r : Worker). r.place) (itself p)

  -- a call that it begins
  begins_turn : (e : Ends) (slots : List Slot) (a : Answer) (q : Call) (first second meter : ℕ) → entry_of first second ≡ Asks w (Begin q)
      → turn_at bits (at e slots (Idle a) meter) first second ≡ accepted (at e slots (begin_of q) meter)
  unfolding begun
  begins_turn e slots a q first second meter asks =
      begun_turn bits (at e slots (Idle a) meter) w first second q asks team (ap (λ (y : Place). (view_of y).busy) (there (Idle a)))
      ∙ ap (λ (l : List Worker). accepted (machine_of f e slots l count meter)) (set-set others w (beginner (Idle a)) (beginner (begin_of q)))

  pub begins : (e : Ends) (slots : List Slot) (a : Answer) (q : Call) (first second meter : ℕ) → entry_of first second ≡ Asks w (Begin q) → (rest : List ℕ)
      → Goes bits (at e slots (Idle a) meter) (first ∷ second ∷ rest) (at e slots (begin_of q) meter) rest []
  begins e slots a q first second meter asks rest =
      subst (λ (done : List Event). Goes bits (at e slots (Idle a) meter) (first ∷ second ∷ rest) (at e slots (begin_of q) meter) rest done)
      (ap (λ (x : Entry). events_of bits (at e slots (Idle a) meter) x (at e slots (begin_of q) meter)) asks)
      (goes_path bits _ _ first second rest (begins_turn e slots a q first second meter asks))

  abbrev pub moves : Ends → List Slot → Place → Place → ℕ → List Event
  moves e slots p q meter = event w p q (loss_at bits (at e slots p meter) w false) ∷ []

  -- an act, by what the table says of its place
  module _ (e u : Ends) (slots : List Slot) (z : Slot) (p q : Place) (meter : ℕ) (busy : (view_of p).busy ≡ true) (early : meter < meter_most)
      (is : act_of bits f e (get_or slots (spot_of f (view_of p).held) (slot 0 0)) p false ≡ goes u z q) where
    abbrev pub after : Machine
    after = at u (set slots (spot_of f (view_of p).held) z) q (meter + 1)

    taken : turn_at bits (at e slots p meter) (16 * w + 8) 0 ≡ accepted (acted bits (at e slots p meter) w p false)
    taken =
        acted_turn bits (at e slots p meter) w team (ap (λ (y : Place). (view_of y).busy) (there p) ∙ busy) early
        ∙ ap (λ (y : Place). accepted (acted bits (at e slots p meter) w y false)) (there p)

    acted_to : acted bits (at e slots p meter) w p false ≡ after
    unfolding acted_by stored record_after goes
    acted_to = rw (is, itself p, set-set others w (beginner p) (beginner q))

    pub turns_to : turn_at bits (at e slots p meter) (16 * w + 8) 0 ≡ accepted after
    turns_to = taken ∙ ap accepted acted_to

    pub acts_to : (rest : List ℕ) → Goes bits (at e slots p meter) ((16 * w + 8) ∷ 0 ∷ rest) after rest (moves e slots p q meter)
    acts_to rest =
        subst (λ (done : List Event). Goes bits (at e slots p meter) ((16 * w + 8) ∷ 0 ∷ rest) after rest done)
        (ap (λ (x : Entry). events_of bits (at e slots p meter) x after) (act_entry w)
        ∙ ap (λ (y : Place). event w y (place_of (set others w (beginner q)) w) (loss_at bits (at e slots p meter) w false) ∷ []) (there p)
        ∙ ap (λ (y : Place). event w p y (loss_at bits (at e slots p meter) w false) ∷ []) (there q))
        (goes_path bits _ _ (16 * w + 8) 0 rest turns_to)

  -- one that leaves the slot as it was
  pub looks_to : (e u : Ends) (slots : List Slot) (p q : Place) (meter : ℕ) → (view_of p).busy ≡ true → meter < meter_most
      → act_of bits f e (get_or slots (spot_of f (view_of p).held) (slot 0 0)) p false ≡ goes u (get_or slots (spot_of f (view_of p).held) (slot 0 0)) q → (rest : List ℕ)
      → Goes bits (at e slots p meter) ((16 * w + 8) ∷ 0 ∷ rest) (at u slots q (meter + 1)) rest (moves e slots p q meter)
  looks_to e u slots p q meter busy early is rest =
      ending bits (ap (λ (l : List Slot). at u l q (meter + 1)) (set-get_or slots (spot_of f (view_of p).held) (slot 0 0))) (acts_to e u slots _ p q meter busy early is rest)
