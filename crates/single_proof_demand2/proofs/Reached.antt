-- What every machine reached from a fresh one has behind it.
use Prim.Native.Nat.{ℕ, ◌+◌, ◌<◌, ◌≤◌}
use mathlib.Core.Path.{◌≡◌, refl, sym, ap, ◌∙◌, subst}
use mathlib.Core.Logic.{◌≢◌}
use mathlib.Core.Bool.{Bool, true, false, cond, true≢false}
use mathlib.Core.List.{List, [], ◌∷◌, ◌++◌, append-nil}
use native.Mathlib.Omega.{arith}
use native.Mathlib.Decide.{ℕ_discrete}
use lib.ListN.{length, get_or, length-set, length-append, length-replicate}
use lib.Seq.{get_or-set_same, get_or-set_other}
use borrow.Author.Tests.{le-leb, ne_eqb}
use Rattle.queue_entries.specs.Limits.{workers_most, in_limits}
use Rattle.queue_entries.specs.declared.Call.{Call}
use Rattle.queue_entries.specs.declared.Call.TheVariants as call
use Rattle.queue_entries.specs.declared.Entry.{Entry}
use Rattle.queue_entries.specs.Entries.{entry_of}
use Rattle.queue_rows.proofs.Alike.{all_alike}
use Rattle.queue_schedules.proofs.Histories.{entries_lead}
use Rattle.single_places.specs.declared.Single.{Single}
use Rattle.single_places.specs.declared.Place.{Place}
use Rattle.single_places.specs.declared.Place.TheVariants.{Idle, A1, A2, A3, B1, B2, B3, B4, B5, C1, C2, C3, Len1, Empty1, Full1, Close1, IsClosed1}
use Rattle.single_places.specs.declared.Answer.TheVariants.{Nothing}
use Rattle.single_places.specs.declared.Worker.{Worker}
use Rattle.single_places.specs.Places.{view_of, begin_of}
use Rattle.single_acts.specs.Acts.{act_of}
use Rattle.single_machine.specs.declared.Machine.{Machine}
use Rattle.single_machine.specs.declared.Event.{Event}
use Rattle.single_machine.specs.Machine.{idler, idlers, fresh_of}
use Rattle.single_machine.specs.Turn.{begun, stored, acted, acted_by, turn_of, turn_of_by}
use Rattle.single_machine.specs.Run.{run_from}
use Rattle.single_machine.specs.History.{event, events_of, history_of}
use Rattle.single_machine.proofs.Kept.{Unbroken, few_workers, begun_unbroken, acted_unbroken}
use Rattle.single_machine.proofs.Turns.{single_queue}
use Rattle.single_demands.specs.Notions.{Allowed, closed_by, is_close, waiting_from, start}
use Rattle.single_demands.specs.Demands.{GoesOut, TakesOut, ReadsLatest, PlainQueue}
use Rattle.single_demands.proofs.Refusals.{fresh_unbroken}
use Rattle.single_proof_demand2.proofs.Log.{each_more, each_none, closed_more}
use Rattle.single_proof_demand2.proofs.Effects.{Hand, free, hand_of_worker, fills, Expects, effect, expects_after}
use Rattle.single_proof_demand2.proofs.Grip.{Grip, loose, held, Does, Led, from_loose, from_own, from_other}
use Rattle.single_proof_demand2.proofs.Turns.{Turned, began, did, turned, stood}

-- each worker's hand
abbrev pub hands : Machine → ℕ → Hand
hands m v = hand_of_worker (stood m v)

pub record Reached (workers : ℕ) (m : Machine) (h : List Event) : Type 0 where
  pub unbroken : Unbroken m
  pub team : m.count ≡ workers
  pub metered : m.meter ≡ length h
  pub long : length m.workers ≡ workers_most
  pub expects : (w : ℕ) → Expects (stood m w)
  pub closed : Bool
  pub closed_is : closed ≡ closed_by h
  pub grip : Grip (hands m) m.single h closed
  pub goes : GoesOut h
  pub takes : TakesOut h
  pub reads : ReadsLatest h
  pub plain : PlainQueue h

-- ---- where workers stand after an entry
module _ (m : Machine) (w : ℕ) where
  pub begun_stood : (q : Place) → w < length m.workers → stood (begun m w q) w ≡ q
  unfolding begun
  begun_stood q l = ap (λ (x : Worker). x.place) (get_or-set_same m.workers w (record { place = q }) idler l)

  pub begun_else : (q : Place) (v : ℕ) → v ≢ w → stood (begun m w q) v ≡ stood m v
  unfolding begun
  begun_else q v ne = ap (λ (x : Worker). x.place) (get_or-set_other m.workers w v (record { place = q }) idler ne)

  module _ (p : Place) where
    pub acted_stood : w < length m.workers → stood (acted m w p) w ≡ (act_of m.single p).place
    unfolding acted_by stored
    acted_stood l = ap (λ (x : Worker). x.place) (get_or-set_same m.workers w (record { place = (act_of m.single p).place }) idler l)

    pub acted_else : (v : ℕ) → v ≢ w → stood (acted m w p) v ≡ stood m v
    unfolding acted_by stored
    acted_else v ne = ap (λ (x : Worker). x.place) (get_or-set_other m.workers w v (record { place = (act_of m.single p).place }) idler ne)

    pub acted_single : (acted m w p).single ≡ (act_of m.single p).single
    unfolding acted_by stored
    acted_single = refl

    acted_long : length (acted m w p).workers ≡ length m.workers
    unfolding acted_by stored
    acted_long = length-set m.workers w (record { place = (act_of m.single p).place })

    acted_team : (acted m w p).count ≡ m.count
    unfolding acted_by stored
    acted_team = refl

    pub acted_meter : (acted m w p).meter ≡ m.meter + 1
    unfolding acted_by stored
    acted_meter = refl

-- an idle worker, and one that has just begun, has nothing in hand
pub idle_free : (p : Place) → (view_of p).busy ≡ false → hand_of_worker p ≡ free
idle_free (Idle a) h = refl
idle_free (A1 x) h = refl
idle_free (A2 x) h = absurd (true≢false h)
idle_free A3 h = absurd (true≢false h)
idle_free (B1 e x) h = refl
idle_free (B2 x) h = absurd (true≢false h)
idle_free B3 h = absurd (true≢false h)
idle_free (B4 x) h = absurd (true≢false h)
idle_free (B5 old) h = absurd (true≢false h)
idle_free (C1 e) h = refl
idle_free C2 h = absurd (true≢false h)
idle_free (C3 v) h = absurd (true≢false h)
idle_free Len1 h = refl
idle_free Empty1 h = refl
idle_free Full1 h = refl
idle_free Close1 h = refl
idle_free IsClosed1 h = refl

pub begin_free : (c : Call) → hand_of_worker (begin_of c) ≡ free
begin_free (call.Push x) = refl
begin_free (call.ForcePush x) = refl
begin_free call.Pop = refl
begin_free call.Len = refl
begin_free call.IsEmpty = refl
begin_free call.IsFull = refl
begin_free call.Close = refl
begin_free call.IsClosed = refl

begin_expects : (c : Call) → Expects (begin_of c)
begin_expects (call.Push x) = tt
begin_expects (call.ForcePush x) = (false, refl)
begin_expects call.Pop = (false, refl)
begin_expects call.Len = tt
begin_expects call.IsEmpty = tt
begin_expects call.IsFull = tt
begin_expects call.Close = tt
begin_expects call.IsClosed = tt

same_grip : (f g : ℕ → Hand) (s : Single) (h : List Event) (c : Bool) → ((v : ℕ) → f v ≡ g v) → Grip f s h c → Grip g s h c
same_grip f g s h c e (loose b is none r) = loose b is (λ v. sym (e v) ∙ none v) r
same_grip f g s h c e (held w k hw is alone d) = held w k (sym (e w) ∙ hw) is (λ v ne. sym (e v) ∙ alone v ne) d

module _ (workers : ℕ) (m : Machine) (h : List Event) (r : Reached workers m h) (w : ℕ) (l : w < m.count) where
  pub in_row : w < length m.workers
  in_row = omega (arith, few_workers m r.unbroken, r.long)

  -- where the place at w is one of two
  at_either : (P : Place → Type 0) (next : Machine) (q : Place) → stood next w ≡ q → ((v : ℕ) → v ≢ w → stood next v ≡ stood m v) → P q → ((v : ℕ) → P (stood m v)) → (v : ℕ) → P (stood next v)
  at_either P next q e others p all v = go (ℕ_discrete v w)
    where
      go : Dec (v ≡ w) → P (stood next v)
      go (yes z) = subst (λ (x : ℕ). P (stood next x)) (sym z) (subst P (sym e) p)
      go (no ne) = subst P (sym (others v ne)) (all v)

  begun_long : (q : Place) → length (begun m w q).workers ≡ length m.workers
  unfolding begun
  begun_long q = length-set m.workers w (record { place = q })

  begun_hands : (c : Call) → (view_of (stood m w)).busy ≡ false → (v : ℕ) → hands m v ≡ hands (begun m w (begin_of c)) v
  begun_hands c idle v = go (ℕ_discrete v w)
    where
      go : Dec (v ≡ w) → hands m v ≡ hands (begun m w (begin_of c)) v
      go (yes z) =
          ap (λ (x : ℕ). hands m x) z ∙ idle_free (stood m w) idle ∙ sym (begin_free c) ∙ sym (ap hand_of_worker (begun_stood m w (begin_of c) in_row))
          ∙ ap (λ (x : ℕ). hands (begun m w (begin_of c)) x) (sym z)
      go (no ne) = ap hand_of_worker (sym (begun_else m w (begin_of c) v ne))

  pub begun_reached : (c : Call) → (view_of (stood m w)).busy ≡ false → Reached workers (begun m w (begin_of c)) h
  unfolding begun
  begun_reached c idle =
      record {
        unbroken = begun_unbroken m r.unbroken w l c;
        team = r.team;
        metered = r.metered;
        long = begun_long (begin_of c) ∙ r.long;
        expects = at_either Expects (begun m w (begin_of c)) (begin_of c) (begun_stood m w (begin_of c) in_row) (begun_else m w (begin_of c)) (begin_expects c) r.expects;
        closed = r.closed;
        closed_is = r.closed_is;
        grip = same_grip (hands m) (hands (begun m w (begin_of c))) m.single h r.closed (begun_hands c idle) r.grip;
        goes = r.goes;
        takes = r.takes;
        reads = r.reads;
        plain = r.plain;
      }

  module _ (busy : (view_of (stood m w)).busy ≡ true) where
    abbrev p : Place
    p = stood m w

    abbrev next : Machine
    next = acted m w p

    abbrev q : Place
    q = (act_of m.single p).place

    others : (v : ℕ) → v ≢ w → hands next v ≡ hands m v
    others v ne = ap hand_of_worker (acted_else m w p v ne)

    at : hands next w ≡ hand_of_worker q
    at = ap hand_of_worker (acted_stood m w p in_row)

    pub led : Led (hands next) (act_of m.single p).single h (cond (is_close p) true r.closed) w p q
    led = go r.grip
      where
        go : Grip (hands m) m.single h r.closed → Led (hands next) (act_of m.single p).single h (cond (is_close p) true r.closed) w p q
        go (loose b is none rest) =
            from_loose (hands m) (hands next) m.single h r.closed w p refl others b is none rest (act_of m.single p)
            (effect m.single false b r.closed is p busy (r.expects w)) at
        go (held u g hu is alone d) = by (ℕ_discrete u w)
          where
            by : Dec (u ≡ w) → Led (hands next) (act_of m.single p).single h (cond (is_close p) true r.closed) w p q
            by (yes e) =
                from_own (hands m) (hands next) m.single h r.closed w p refl others g (subst (λ (x : ℕ). hands m x ≡ g) e hu) is
                (subst (λ (x : ℕ). (v : ℕ) → v ≢ x → hands m v ≡ free) e alone) (subst (λ (x : ℕ). Does h m.single.value x g) e d) (act_of m.single p)
                (effect m.single true (fills g) r.closed is p busy (r.expects w)) at
            by (no ne) =
                from_other (hands m) (hands next) m.single h r.closed w p refl others u g hu is alone d ne (act_of m.single p)
                (effect m.single true (fills g) r.closed is p busy (r.expects w)) at

    -- the word's bits, whoever holds the slot
    expects_next : Expects q
    expects_next = go r.grip
      where
        go : Grip (hands m) m.single h r.closed → Expects q
        go (loose b is none rest) = expects_after m.single false b r.closed is p (r.expects w)
        go (held u g hu is alone d) = expects_after m.single true (fills g) r.closed is p (r.expects w)

    reached_q : Reached workers next (h ++ event w p q ∷ [])
    reached_q =
        record {
          unbroken = acted_unbroken m r.unbroken w l p;
          team = acted_team m w p ∙ r.team;
          metered = acted_meter m w p ∙ ap (λ (k : ℕ). k + 1) r.metered ∙ sym (length-append h (event w p q ∷ []));
          long = acted_long m w p ∙ r.long;
          expects = at_either Expects next q (acted_stood m w p in_row) (acted_else m w p) expects_next r.expects;
          closed = cond (is_close p) true r.closed;
          closed_is = ap (λ (c : Bool). cond (is_close p) true c) r.closed_is ∙ sym (closed_more h (event w p q));
          grip = subst (λ (s : Single). Grip (hands next) s (h ++ event w p q ∷ []) (cond (is_close p) true r.closed)) (sym (acted_single m w p)) led.grip;
          goes = each_more _ h (event w p q) r.goes led.came;
          takes = each_more _ h (event w p q) r.takes led.took_it;
          reads = each_more _ h (event w p q) r.reads led.stood;
          plain = led.plain r.plain;
        }

    pub acted_reached : Reached workers next (h ++ event w p (stood next w) ∷ [])
    acted_reached = subst (λ (x : Place). Reached workers next (h ++ event w p x ∷ [])) (sym (acted_stood m w p in_row)) reached_q

-- ---- an accepted entry, and every list of entries
pub entered : (workers : ℕ) (m : Machine) (h : List Event) (en : Entry) (next : Machine) (acts : List Event) → Reached workers m h → Turned m en next acts → Reached workers next (h ++ acts)
entered workers m h en next acts r (began w c l idle) = subst (Reached workers next) (sym (append-nil h)) (begun_reached workers m h r w l c idle)
entered workers m h en next acts r (did w lose l busy early) = acted_reached workers m h r w l busy

pub one_entry : (workers : ℕ) (m : Machine) (h : List Event) (a b : ℕ) → Reached workers m h → (turn_of m a b).refusal ≡ 0
    → Reached workers (turn_of m a b).machine (h ++ events_of m (entry_of a b) (turn_of m a b).machine)
unfolding turn_of_by
one_entry workers m h a b r e = entered workers m h (entry_of a b) _ _ r (turned m (entry_of a b) e)

pub entries : (workers : ℕ) (s : List ℕ) (m : Machine) (h : List Event) (place : ℕ) → Reached workers m h
    → Reached workers (run_from m place s).machine (h ++ history_of m s)
entries workers s m h place r = entries_lead single_queue events_of (Reached workers) (one_entry workers) s m h place r

-- ---- a fresh machine
limits_true : (n most : ℕ) → 0 < n → n ≤ most → in_limits n most ≡ true
unfolding in_limits
limits_true n most some few = rw (ne_eqb n 0 (λ e. omega arith)) (le-leb n most few)

idle_at : (w : ℕ) → get_or idlers w idler ≡ idler
unfolding idlers
idle_at w = all_alike workers_most w idler

pub fresh_stood : (workers w : ℕ) → stood (fresh_of workers) w ≡ Idle Nothing
unfolding fresh_of
fresh_stood workers w = ap (λ (x : Worker). x.place) (idle_at w)

pub fresh_reached : (workers : ℕ) → Allowed workers → Reached workers (fresh_of workers) []
unfolding fresh_of idlers closed_by waiting_from
fresh_reached workers a =
    record {
      unbroken = fresh_unbroken workers (limits_true workers workers_most a.some a.most);
      team = refl;
      metered = refl;
      long = length-replicate workers_most idler;
      expects = λ w. subst Expects (sym (fresh_stood workers w)) tt;
      closed = false;
      closed_is = refl;
      grip = loose false refl (λ v. ap hand_of_worker (fresh_stood workers v)) refl;
      goes = each_none _;
      takes = each_none _;
      reads = each_none _;
      plain = start;
    }
