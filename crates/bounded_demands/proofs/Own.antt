-- A step reads no other worker's record.
use mathlib.Core.Path.{◌≡◌, refl, sym, ap, ◌∙◌, subst}
use mathlib.Core.Bool.{Bool, true, false, cond}
use mathlib.Core.List.{List}
use Prim.Native.Nat.{ℕ, ◌<◌}
use lib.Dec.{ltb}
use lib.ListN.{length}
use lib.Seq.{get_or-set_same}
use Rattle.queue_entries.specs.declared.Order.{Order}
use Rattle.queue_entries.specs.declared.Verdict.{Verdict}
use Rattle.queue_entries.specs.declared.Verdict.TheVariants.{Refuse, Start, Move}
use Rattle.queue_entries.specs.declared.Entry.{Entry}
use Rattle.queue_entries.specs.declared.Entry.TheVariants.{Asks}
use Rattle.bounded_words.specs.declared.Width.{Width}
use Rattle.bounded_places.specs.declared.Place.{Place}
use Rattle.bounded_places.specs.declared.Worker.{Worker}
use Rattle.bounded_acts.specs.Acts.{act_of}
use Rattle.bounded_machine.specs.declared.Machine.{Machine}
use Rattle.bounded_machine.specs.declared.Did.{Did}
use Rattle.bounded_machine.specs.Machine.{record_of_worker, place_of, idler, refused, accepted}
use Rattle.bounded_machine.specs.Turn.{Table, verdict_of, record_after, begun, stored, act_at, acted_by, carried_by, turn_by, turn_of_by}
use Rattle.bounded_demands.specs.Notions.{with_records, lent_others}
use Rattle.bounded_demands.specs.Demands.{OwnRecordAlone}

-- What is the same of the two.
pub record Alike (x y : Did) : Type 0 where
  pub refusal : x.refusal ≡ y.refusal
  pub ring : x.machine.ring ≡ y.machine.ring
  pub meter : x.machine.meter ≡ y.machine.meter

module _ (table : Table) (m : Machine) (ys : List Worker) (w : ℕ) (same : record_of_worker ys w ≡ record_of_worker m.workers w) where
  at : place_of ys w ≡ place_of m.workers w
  at = ap (λ (r : Worker). r.place) same

  carried_alike : (p : Place) (v : Verdict) → Alike (carried_by table (lent_others m ys) w p v) (carried_by table m w p v)
  unfolding refused accepted begun stored acted_by
  carried_alike p (Refuse number) = record { refusal = refl; ring = refl; meter = refl }
  carried_alike p (Start c) = record { refusal = refl; ring = refl; meter = refl }
  carried_alike p (Move lose) = record { refusal = refl; ring = refl; meter = refl }

  carried_own : (p : Place) (v : Verdict) → w < length ys → w < length m.workers
      → record_of_worker (carried_by table (lent_others m ys) w p v).machine.workers w ≡ record_of_worker (carried_by table m w p v).machine.workers w
  unfolding refused accepted begun stored acted_by
  carried_own p (Refuse number) l k = same
  carried_own p (Start c) l k = get_or-set_same ys w _ idler l ∙ sym (get_or-set_same m.workers w _ idler k)
  carried_own p (Move lose) l k =
      get_or-set_same ys w _ idler l
      ∙ ap (λ (r : Worker). record_after r (act_at table m p lose).place (act_at table m p lose).loss) same
      ∙ sym (get_or-set_same m.workers w _ idler k)

  turn_alike : (o : Order) → Alike (turn_by table (lent_others m ys) (Asks w o)) (turn_by table m (Asks w o))
  unfolding refused
  turn_alike o = rw at (go (ltb w m.count))
    where
      go : (b : Bool)
          → Alike (cond b (carried_by table (lent_others m ys) w (place_of m.workers w) (verdict_of m.meter (place_of m.workers w) o)) (refused 3 (lent_others m ys)))
          (cond b (carried_by table m w (place_of m.workers w) (verdict_of m.meter (place_of m.workers w) o)) (refused 3 m))
      go true = carried_alike (place_of m.workers w) (verdict_of m.meter (place_of m.workers w) o)
      go false = record { refusal = refl; ring = refl; meter = refl }

  turn_own : (o : Order) → w < length ys → w < length m.workers
      → record_of_worker (turn_by table (lent_others m ys) (Asks w o)).machine.workers w ≡ record_of_worker (turn_by table m (Asks w o)).machine.workers w
  unfolding refused
  turn_own o l k = rw at (go (ltb w m.count))
    where
      go : (b : Bool)
          → record_of_worker (cond b (carried_by table (lent_others m ys) w (place_of m.workers w) (verdict_of m.meter (place_of m.workers w) o)) (refused 3 (lent_others m ys))).machine.workers w
          ≡ record_of_worker (cond b (carried_by table m w (place_of m.workers w) (verdict_of m.meter (place_of m.workers w) o)) (refused 3 m)).machine.workers w
      go true = carried_own (place_of m.workers w) (verdict_of m.meter (place_of m.workers w) o) l k
      go false = same

-- at either width, with any number of records
pub own_record : (records : ℕ) (bits : Width) → OwnRecordAlone (with_records records bits)
unfolding turn_of_by
own_record records bits =
    record {
      refusal = λ m ys w o first second e same. subst (λ (z : Entry). (turn_by (act_of bits) (lent_others m ys) z).refusal ≡ (turn_by (act_of bits) m z).refusal)
          (sym e) (turn_alike (act_of bits) m ys w same o).refusal;
      ring = λ m ys w o first second e same. subst (λ (z : Entry). (turn_by (act_of bits) (lent_others m ys) z).machine.ring ≡ (turn_by
          (act_of bits) m z).machine.ring) (sym e) (turn_alike (act_of bits) m ys w same o).ring;
      meter = λ m ys w o first second e same. subst (λ (z : Entry). (turn_by (act_of bits) (lent_others m ys) z).machine.meter ≡ (turn_by
          (act_of bits) m z).machine.meter) (sym e) (turn_alike (act_of bits) m ys w same o).meter;
      own =
          λ m ys w o first second e same l k.
          subst (λ (z : Entry). record_of_worker (turn_by (act_of bits) (lent_others m ys) z).machine.workers w ≡ record_of_worker (turn_by (act_of bits) m z).machine.workers w)
          (sym e) (turn_own (act_of bits) m ys w same o l k);
    }
