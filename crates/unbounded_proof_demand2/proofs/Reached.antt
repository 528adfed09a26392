-- Every machine that a schedule reaches from a fresh one stands for a queue over positions, and its history is that queue's.
use Prim.Native.Nat.{ℕ, ◌<◌, ◌≤◌}
use mathlib.Core.Path.{◌≡◌, refl, sym, ap, ◌∙◌, subst}
use mathlib.Core.Bool.{Bool, true, false, true≢false}
use mathlib.Core.List.{List, [], ◌∷◌, ◌++◌, append-nil}
use native.Mathlib.Omega.{arith}
use native.Mathlib.Decide.{ℕ_discrete}
use lib.ListN.{length, set, length-append}
use Rattle.queue_entries.specs.Limits.{workers_most, meter_most}
use Rattle.queue_entries.specs.declared.Call.{Call}
use Rattle.queue_entries.specs.declared.Call.TheVariants as call
use Rattle.queue_entries.specs.declared.Entry.{Entry}
use Rattle.unbounded_words.specs.declared.Pointer.TheVariants.{None}
use Rattle.unbounded_words.specs.Words.{sizes, number_of}
use Rattle.unbounded_places.specs.declared.Slot.{Slot}
use Rattle.unbounded_places.specs.declared.Block.{Block}
use Rattle.unbounded_places.specs.declared.Ends.{Ends}
use Rattle.unbounded_places.specs.declared.Worker.{Worker}
use Rattle.unbounded_places.specs.declared.Uses.{Uses}
use Rattle.unbounded_places.specs.declared.Uses.TheVariants as uses
use Rattle.unbounded_places.specs.declared.Place.{Place}
use Rattle.unbounded_places.specs.declared.Place.TheVariants.{U1, V1, Len1, Empty1, Full1, Close1, IsClosed1}
use Rattle.unbounded_places.specs.Places.{view_of, begin_of}
use Rattle.unbounded_acts.specs.declared.Acted.{Acted}
use Rattle.unbounded_acts.specs.Acts.{act_of}
use Rattle.unbounded_machine.specs.declared.Machine.{Machine}
use Rattle.unbounded_machine.specs.declared.Event.{Event}
use Rattle.unbounded_machine.specs.Machine.{block_at, slot_at}
use Rattle.unbounded_machine.specs.Turn.{lowest_free, cleared, block_used, slot_used, begun, stored, acted_at}
use Rattle.unbounded_machine.specs.History.{event, events_of}
use Rattle.unbounded_demands.specs.Notions.{Dealing, Leaves, Takes, Frees, dealing_of}
use Rattle.unbounded_proof_invariant.proofs.Queue.{Ptr, none, Own, Free, Aside, Chain, Shared}
use Rattle.unbounded_proof_invariant.proofs.Views.{Seen, Rest}
use Rattle.unbounded_proof_invariant.proofs.Own.{Good}
use Rattle.unbounded_proof_words.proofs.Stands.{place_of, ends_of_ring, HeadRep, Stands, idle, u1, u2, u3, u4, u5, u6, u7, u8, u9, u10, u11, u12, u13, u14, u15, v1}
use Rattle.unbounded_proof_words.proofs.Stands.{v2, v3, v4, v5, v6, v7, v8, v9, v10, v11, v12, v13, v14, v15, len1, len2, len3, empty1, empty2, full1, close1}
use Rattle.unbounded_proof_words.proofs.Stands.{closed1, Standing, Sim}
use Rattle.unbounded_proof_words.proofs.Frames.{get_same, get_other}
use Rattle.unbounded_proof_words.proofs.Live.{UsesOk, none_free}
use Rattle.unbounded_proof_words.proofs.Sims.{sim_still}
use Rattle.unbounded_proof_each_act.proofs.Step.{held, tale_of, standing, Here, Step}
use Rattle.unbounded_proof_each_act.proofs.Takings.{lowest_free_lem}
use Rattle.unbounded_proof_each_act.proofs.Each.{Acts, each}
use Rattle.unbounded_proof_demand2.proofs.Turns.{stood, Busy, Turned, began, used, took}
use Rattle.unbounded_proof_demand2.proofs.Dealings.{dealt, Dealt, Even, even_kept, even_taken, even_freed}
use Rattle.unbounded_proof_demand2.proofs.Logged.{Logged, logged_after}

pub record Reached (workers : ℕ) (m : Machine) (h : List Event) : Type 0 where
  pub queue : Shared
  pub sim : Sim m.ends m.blocks m.slots m.workers m.meter queue
  pub team : m.count ≡ workers
  pub meter : m.meter ≡ length h
  pub in_time : m.meter ≤ meter_most
  pub past : (i : ℕ) → workers ≤ i → (view_of sizes (stood m i)).busy ≡ false
  pub logged : Logged queue m.workers h
  pub even : Even m.blocks h

module _ (workers : ℕ) (team : workers ≤ workers_most) (m : Machine) (h : List Event) (r : Reached workers m h) where
  abbrev s : Shared
  s = r.queue

  -- the records of others
  others : (w : ℕ) (q : Place) → w < workers → (i : ℕ) → workers ≤ i → (view_of sizes (place_of (set m.workers w (record { place = q })) i)).busy ≡ false
  others w q l i k = ap (λ (x : Worker). (view_of sizes x.place).busy) (get_other m.workers w i (record { place = q }) _ (λ e. omega arith)) ∙ r.past i k

  -- ---- a beginning
  pub idle_good : (p : Place) (a n : Ptr) (x : Seen) {w : ℕ} → Stands p a n x → (view_of sizes p).busy ≡ false → Good s w a n x → Good s w none none Rest
  idle_good p a n x idle z g = g
  idle_good p a n x (u1 en) z g = absurd (true≢false z)
  idle_good p a n x (u2 en et) z g = absurd (true≢false z)
  idle_good p a n x (u3 et ed l) z g = absurd (true≢false z)
  idle_good p a n x (u4 en et) z g = absurd (true≢false z)
  idle_good p a n x (u5 en et ed) z g = absurd (true≢false z)
  idle_good p a n x (u6 en et ed) z g = absurd (true≢false z)
  idle_good p a n x (u7 en et ed l) z g = absurd (true≢false z)
  idle_good p a n x (u8 en et) z g = absurd (true≢false z)
  idle_good p a n x (u9 en et ed) z g = absurd (true≢false z)
  idle_good p a n x (u10 en et ed) z g = absurd (true≢false z)
  idle_good p a n x (u11 en et ed) z g = absurd (true≢false z)
  idle_good p a n x (u12 en et ed) z g = absurd (true≢false z)
  idle_good p a n x (u13 en et ed) z g = absurd (true≢false z)
  idle_good p a n x (u14 en ok) z g = absurd (true≢false z)
  idle_good p a n x (u15 en ed) z g = absurd (true≢false z)
  idle_good p a n x v1 z g = absurd (true≢false z)
  idle_good p a n x (v2 eh) z g = absurd (true≢false z)
  idle_good p a n x (v3 eh ed) z g = absurd (true≢false z)
  idle_good p a n x (v4 m eh ed ew) z g = absurd (true≢false z)
  idle_good p a n x (v5 eh) z g = absurd (true≢false z)
  idle_good p a n x (v6 m k eh ed ew) z g = absurd (true≢false z)
  idle_good p a n x (v7 m k eh ed ew ec) z g = absurd (true≢false z)
  idle_good p a n x (v8 m eh ed ec ew) z g = absurd (true≢false z)
  idle_good p a n x (v9 m eh ed ew) z g = absurd (true≢false z)
  idle_good p a n x (v10 m eh ed) z g = absurd (true≢false z)
  idle_good p a n x (v11 m eh ed) z g = absurd (true≢false z)
  idle_good p a n x (v12 m eh ed) z g = absurd (true≢false z)
  idle_good p a n x (v13 ed l) z g = absurd (true≢false z)
  idle_good p a n x (v14 ed l) z g = absurd (true≢false z)
  idle_good p a n x (v15 ed) z g = absurd (true≢false z)
  idle_good p a n x len1 z g = absurd (true≢false z)
  idle_good p a n x len2 z g = absurd (true≢false z)
  idle_good p a n x len3 z g = absurd (true≢false z)
  idle_good p a n x empty1 z g = absurd (true≢false z)
  idle_good p a n x empty2 z g = absurd (true≢false z)
  idle_good p a n x full1 z g = absurd (true≢false z)
  idle_good p a n x close1 z g = absurd (true≢false z)
  idle_good p a n x closed1 z g = absurd (true≢false z)

  begins : (w : ℕ) (c : Call) → Good s w none none Rest → Standing s w (begin_of c)
  begins w (call.Push x) g = standing s w (U1 None x) (u1 {a = none} refl) g
  begins w (call.ForcePush x) g = standing s w (U1 None x) (u1 {a = none} refl) g
  begins w call.Pop g = standing s w V1 v1 g
  begins w call.Len g = standing s w Len1 len1 g
  begins w call.IsEmpty g = standing s w Empty1 empty1 g
  begins w call.IsFull g = standing s w Full1 full1 g
  begins w call.Close g = standing s w Close1 close1 g
  begins w call.IsClosed g = standing s w IsClosed1 closed1 g

  begins_loose : (c : Call) → held (tale_of (begin_of c)) ≡ false
  begins_loose (call.Push x) = refl
  begins_loose (call.ForcePush x) = refl
  begins_loose call.Pop = refl
  begins_loose call.Len = refl
  begins_loose call.IsEmpty = refl
  begins_loose call.IsFull = refl
  begins_loose call.Close = refl
  begins_loose call.IsClosed = refl

  begun_logged : (w : ℕ) (q : Place) → w < workers_most → held (tale_of q) ≡ false → Logged s (set m.workers w (record { place = q })) h
  begun_logged w q known loose =
      record {
        items_long = log.items_long;
        items_at = log.items_at;
        takers_long = log.takers_long;
        claim_slot = (λ v z. log.claim_slot v (before v z));
        latest = (λ v z. log.latest v (before v z));
        spent = (λ v z. log.spent v (before v z));
        rule = log.rule;
        once = log.once;
        fifo = log.fifo;
      }
    where
      log : Logged s m.workers h
      log = r.logged

      before : (v : ℕ) → held (tale_of (place_of (set m.workers w (record { place = q })) v)) ≡ true → held (tale_of (place_of m.workers v)) ≡ true
      before v z = go (ℕ_discrete v w)
        where
          go : Dec (v ≡ w) → held (tale_of (place_of m.workers v)) ≡ true
          go (yes e) =
              absurd (true≢false (sym z ∙ ap (λ (i : ℕ). held (tale_of (place_of (set m.workers w (record { place = q })) i))) e
              ∙ ap (λ (x : Worker). held (tale_of x.place)) (get_same m.workers w (record { place = q }) _ (omega (arith, r.sim.workers_long)))
              ∙ loose))
          go (no n) = sym (ap (λ (x : Worker). held (tale_of x.place)) (get_other m.workers w v (record { place = q }) _ n)) ∙ z

  began_reached : (w : ℕ) (c : Call) → w < m.count → (view_of sizes (stood m w)).busy ≡ false → Reached workers (begun m w (begin_of c)) h
  unfolding begun
  began_reached w c l b =
      let o = r.sim.places w in
      let known : w < workers_most = omega (arith, r.team) in
      record {
        queue = s;
        sim = sim_still m.ends m.blocks m.slots m.workers m.meter s r.sim w known (begin_of c) m.meter (omega arith)
            (begins w c (idle_good (stood m w) o.aside o.new o.seen o.at b o.good));
        team = r.team;
        meter = r.meter;
        in_time = r.in_time;
        past = others w (begin_of c) (omega (arith, r.team));
        logged = begun_logged w (begin_of c) known (begins_loose c);
        even = r.even;
      }

  -- ---- an act
  module _ (w : ℕ) (lose : Bool) (b : Busy m w) where
    p : Place
    p = stood m w

    known : w < workers_most
    known = omega (arith, r.team, b.known)

    here : Here m.blocks m.slots m.workers m.meter s w
    here = record { sim = subst (λ (e : Ends). Sim e m.blocks m.slots m.workers m.meter s) r.sim.ends r.sim; known = known; in_time = b.in_time }

    abbrev act : Ends → ℕ → List Slot → ℕ → Acted
    act e k l i = act_of sizes e k (block_at m.blocks k) (slot_at sizes l k i) (stood m w) lose

    abbrev Did' : ℕ → ℕ → List Slot → Ends → Type 0
    Did' k i l e = Step m.blocks m.slots m.workers m.meter s w (stood m w) k i l (act e k l i)

    acted_reached : (k i : ℕ) (l : List Slot) → Did' k i l m.ends → Even (set m.blocks k (act m.ends k l i).block) (h ++ event w (stood m w) (act m.ends k l i).place ∷ [])
        → Reached workers (stored sizes m w l k i (act m.ends k l i)) (h ++ event w (stood m w) (place_of (stored sizes m w l k i (act m.ends k l i)).workers w) ∷ [])
    unfolding stored
    acted_reached k i l d e =
        let after : place_of (set m.workers w (record { place = (act m.ends k l i).place })) w ≡ (act m.ends k l i).place = ap (λ (x : Worker). x.place)
        (get_same m.workers w (record { place = (act m.ends k l i).place }) _ (omega (arith, known, r.sim.workers_long))) in
        subst (λ (z : Place). Reached workers (stored sizes m w l k i (act m.ends k l i)) (h ++ event w (stood m w) z ∷ [])) (sym after)
        (record {
          queue = d.after;
          sim = d.sim;
          team = r.team;
          meter = omega (arith, r.meter, length-append h (event w (stood m w) (act m.ends k l i).place ∷ []));
          in_time = omega (arith, b.in_time);
          past = others w (act m.ends k l i).place (omega (arith, r.team, b.known));
          logged = logged_after s d.after r.sim.inv.ends.low m.workers h r.logged w (omega (arith, known, r.sim.workers_long)) (act m.ends k l i).place d.logs d.out;
          even = e;
        })

    at_ends : (k i : ℕ) (l : List Slot) → Did' k i l (ends_of_ring s) → Did' k i l m.ends
    at_ends k i l d = subst (Did' k i l) (sym r.sim.ends) d

    stands : Standing s w (stood m w)
    stands = r.sim.places w

    -- the block that an act uses
    used_small : (u : Uses) → UsesOk m.blocks u → block_used u < 64
    used_small uses.Nothing o = omega arith
    used_small (uses.Block k) o = o.0
    used_small (uses.Slot k i) o = o.1

    pub used_steps : (view_of sizes (stood m w)).takes ≡ false → Did' (block_used (view_of sizes (stood m w)).uses) (slot_used (view_of sizes (stood m w)).uses) m.slots m.ends
    used_steps t =
        at_ends (block_used (view_of sizes (stood m w)).uses) (slot_used (view_of sizes (stood m w)).uses) m.slots
        (subst (Acts m.blocks m.slots m.workers m.meter s w here lose (stood m w)) t
        (each m.blocks m.slots m.workers m.meter s w here lose (stood m w) stands.aside stands.new stands.seen b.busy stands.at
        stands.good))

    free_own : (o : Own) (k : ℕ) → HeadRep s.link s.phys o (block_at m.blocks k) → (block_at m.blocks k).free ≡ true → o ≡ Free
    free_own Free k g e = refl
    free_own (Aside v) k g e = absurd (true≢false (sym e ∙ ap (λ (x : Block). x.free) g))
    free_own (Chain j) k g e = absurd (true≢false (sym e ∙ ap (λ (x : Block). x.free) g))

    pub took_steps : (view_of sizes (stood m w)).takes ≡ true → (k : ℕ) → k < 64 → (block_at m.blocks k).free ≡ true → Did' k 0 (cleared sizes m.slots k) m.ends
    took_steps t k l f =
        at_ends k 0 (cleared sizes m.slots k)
        (subst (Acts m.blocks m.slots m.workers m.meter s w here lose (stood m w)) t
        (each m.blocks m.slots m.workers m.meter s w here lose (stood m w) stands.aside stands.new stands.seen b.busy stands.at
        stands.good)
        k l (free_own (s.own k) k (r.sim.headers k l) f))

    -- blocks taken and freed
    used_even : (view_of sizes (stood m w)).takes ≡ false → (q : Place) (k : ℕ) → block_used (view_of sizes (stood m w)).uses ≡ k → (x : Slot)
        → Even (set m.blocks k (act_of sizes m.ends k (block_at m.blocks k) x (stood m w) lose).block) (h ++ event w (stood m w) q ∷ [])
    used_even t q k at x = go (dealing_of (stood m w)) refl (dealt m.ends k (block_at m.blocks k) x lose (stood m w))
      where
        ok : UsesOk m.blocks (view_of sizes (stood m w)).uses
        ok = none_free m.ends m.blocks m.slots m.workers m.meter s r.sim w

        small : k < 64
        small = subst (λ (i : ℕ). i < 64) at (used_small (view_of sizes (stood m w)).uses ok)

        go : (d : Dealing) → dealing_of (stood m w) ≡ d → Dealt m.ends k (block_at m.blocks k) x lose (stood m w) d
            → Even (set m.blocks k (act_of sizes m.ends k (block_at m.blocks k) x (stood m w) lose).block) (h ++ event w (stood m w) q ∷ [])
        go Leaves e o = even_kept m.blocks k (act_of sizes m.ends k (block_at m.blocks k) x (stood m w) lose).block small r.sim.blocks_long h (event w (stood m w) q) r.even e o.1
        go Takes e o = absurd (true≢false (sym o.0 ∙ t))
        go (Frees c) e o =
            let u = subst (UsesOk m.blocks) o.1 ok in
            let n : number_of sizes c ≡ k = sym (ap block_used o.1) ∙ at in
            even_freed m.blocks k (act_of sizes m.ends k (block_at m.blocks k) x (stood m w) lose).block small r.sim.blocks_long h (event w (stood m w) q) r.even c e n o.2
            (ap (λ (i : ℕ). (block_at m.blocks i).free) (sym n) ∙ u.1)

    took_even : (view_of sizes (stood m w)).takes ≡ true → (k : ℕ) → k < 64 → (block_at m.blocks k).free ≡ true → (x : Slot)
        → Even (set m.blocks k (act_of sizes m.ends k (block_at m.blocks k) x (stood m w) lose).block)
        (h ++ event w (stood m w) (act_of sizes m.ends k (block_at m.blocks k) x (stood m w) lose).place ∷ [])
    took_even t k l f x = go (dealing_of (stood m w)) refl (dealt m.ends k (block_at m.blocks k) x lose (stood m w))
      where
        go : (d : Dealing) → dealing_of (stood m w) ≡ d → Dealt m.ends k (block_at m.blocks k) x lose (stood m w) d
            → Even (set m.blocks k (act_of sizes m.ends k (block_at m.blocks k) x (stood m w) lose).block)
            (h ++ event w (stood m w) (act_of sizes m.ends k (block_at m.blocks k) x (stood m w) lose).place ∷ [])
        go Leaves e o = absurd (true≢false (sym t ∙ o.0))
        go Takes e o =
            even_taken m.blocks k (act_of sizes m.ends k (block_at m.blocks k) x (stood m w) lose).block l r.sim.blocks_long h
            (event w (stood m w) (act_of sizes m.ends k (block_at m.blocks k) x (stood m w) lose).place) r.even e o.2 o.1 f
        go (Frees c) e o = absurd (true≢false (sym t ∙ o.0))

  -- ---- every accepted entry
  pub turned_reached : (x : Entry) (next : Machine) → Turned m x next → Reached workers next (h ++ events_of m x next)
  unfolding acted_at
  turned_reached x next (began w c l b) = subst (Reached workers (begun m w (begin_of c))) (sym (append-nil h)) (began_reached w c l b)
  turned_reached x next (used w asked lose b t) =
      acted_reached w lose b (block_used (view_of sizes (stood m w)).uses) (slot_used (view_of sizes (stood m w)).uses) m.slots (used_steps w lose b t)
      (used_even w lose b t _ (block_used (view_of sizes (stood m w)).uses) refl _)
  turned_reached x next (took w asked lose b t l) =
      let f = lowest_free_lem m.blocks l in
      acted_reached w lose b (lowest_free sizes m.blocks) 0 (cleared sizes m.slots (lowest_free sizes m.blocks))
      (took_steps w lose b t (lowest_free sizes m.blocks) l f) (took_even w lose b t (lowest_free sizes m.blocks) l f _)
