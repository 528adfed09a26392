-- The counts of losses decide nothing.
use mathlib.Core.Path.{◌≡◌, refl, sym, ap, ◌∙◌, subst}
use mathlib.Core.Bool.{Bool, true, false, cond}
use mathlib.Core.List.{List, [], ◌∷◌, map}
use Prim.Native.Nat.{ℕ, zero, suc}
use lib.Dec.{ltb}
use lib.ListN.{set}
use Rattle.queue_entries.specs.declared.Order.{Order}
use Rattle.queue_entries.specs.declared.Entry.{Entry}
use Rattle.queue_entries.specs.declared.Entry.TheVariants.{Unreadable, Asks}
use Rattle.queue_entries.specs.Entries.{entry_of}
use Rattle.queue_entries.specs.declared.Verdict.{Verdict}
use Rattle.queue_entries.specs.declared.Verdict.TheVariants.{Refuse, Start, Move}
use Rattle.bounded_words.specs.declared.Width.{Width}
use Rattle.bounded_places.specs.declared.Place.{Place}
use Rattle.bounded_places.specs.declared.Worker.{Worker}
use Rattle.bounded_machine.specs.declared.Machine.{Machine}
use Rattle.bounded_machine.specs.declared.Did.{Did}
use Rattle.bounded_machine.specs.Machine.{machine_of, place_of, refused, accepted, fixed_on, ends_on}
use Rattle.bounded_machine.specs.Turn.{verdict_of, beginner, record_after, begun, stored, acted, acted_by, carried, turn, turn_of_by}
use Rattle.bounded_demands.specs.Notions.{of_width, struck}
use Rattle.bounded_demands.specs.Demands.{CountsAside}

-- ---- the records, struck
abbrev strike : Worker → Worker
strike r = beginner r.place

struck_set : (ws : List Worker) (w : ℕ) (r : Worker) → map strike (set ws w r) ≡ set (map strike ws) w (strike r)
struck_set [] w r = refl
struck_set (x ∷ ws) zero r = refl
struck_set (x ∷ ws) (suc w) r = ap (λ (l : List Worker). strike x ∷ l) (struck_set ws w r)

struck_twice : (ws : List Worker) → map strike (map strike ws) ≡ map strike ws
struck_twice [] = refl
struck_twice (x ∷ ws) = ap (λ (l : List Worker). strike x ∷ l) (struck_twice ws)

struck_place : (ws : List Worker) (w : ℕ) → place_of (map strike ws) w ≡ place_of ws w
struck_place [] w = refl
struck_place (x ∷ ws) zero = refl
struck_place (x ∷ ws) (suc w) = struck_place ws w

-- a record set in either is struck alike
set_alike : (ws : List Worker) (w : ℕ) (r q : Worker) → r.place ≡ q.place → map strike (set ws w r) ≡ map strike (set (map strike ws) w q)
set_alike ws w r q e =
    struck_set ws w r ∙ ap (λ (p : Place). set (map strike ws) w (beginner p)) e ∙ ap (λ (l : List Worker). set l w (strike q)) (sym (struck_twice ws))
    ∙ sym (struck_set (map strike ws) w q)

-- ---- an entry

-- Two answers that differ in counts alone.
abbrev Alike : Did → Did → Type 0
Alike d k = (d.refusal ≡ k.refusal) × (struck d.machine ≡ struck k.machine)

-- the machine with these records
abbrev with_records : Machine → List Worker → Machine
with_records m l = machine_of (fixed_on m.ring) (ends_on m.ring) m.ring.slots l m.count m.meter

module _ (bits : Width) (m : Machine) where
  again : struck m ≡ struck (struck m)
  unfolding struck
  again = ap (with_records m) (sym (struck_twice m.workers))

  refused_alike : (k : ℕ) → Alike (refused k m) (refused k (struck m))
  unfolding refused
  refused_alike k = (refl, again)

  carried_alike : (w : ℕ) (p : Place) (v : Verdict) → Alike (carried bits m w p v) (carried bits (struck m) w p v)
  unfolding struck accepted begun acted_by stored record_after
  carried_alike w p (Refuse k) = refused_alike k
  carried_alike w p (Start c) = (refl, ap (with_records m) (set_alike m.workers w _ _ refl))
  carried_alike w p (Move lose) = (refl, ap (with_records (acted bits m w p lose)) (set_alike m.workers w _ _ refl))

  asked_alike : (w : ℕ) (o : Order) (b : Bool) (p q : Place) → p ≡ q
      → Alike (cond b (carried bits m w p (verdict_of m.meter p o)) (refused 3 m)) (cond b (carried bits (struck m) w q (verdict_of m.meter q o)) (refused 3 (struck m)))
  asked_alike w o true p q e = subst (λ (z : Place). Alike (carried bits m w p (verdict_of m.meter p o))
      (carried bits (struck m) w z (verdict_of m.meter z o))) e (carried_alike w p (verdict_of m.meter p o))
  asked_alike w o false p q e = refused_alike 3

  turn_alike : (x : Entry) → Alike (turn bits m x) (turn bits (struck m) x)
  unfolding struck
  turn_alike Unreadable = refused_alike 9
  turn_alike (Asks w o) = asked_alike w o (ltb w m.count) (place_of m.workers w) (place_of (map strike m.workers) w) (sym (struck_place m.workers w))

pub counts_aside : (bits : Width) → CountsAside (of_width bits)
unfolding turn_of_by
counts_aside bits m first second = turn_alike bits m (entry_of first second)
