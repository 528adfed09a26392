-- Who has a block set aside knows of a first block, so U5 finds nothing set aside and U15 is never reached.
use Prim.Native.Nat.{ℕ, ◌+◌, ◌-◌, ◌<◌}
use mathlib.Core.Path.{◌≡◌, refl, sym, ap, ◌∙◌}
use mathlib.Core.Bool.{Bool, true, false, cond, not, true≢false}
use mathlib.Core.List.{List}
use native.Mathlib.Omega.{arith}
use native.Mathlib.Decide.{ℕ_discrete}
use lib.Dec.{ltb}
use lib.ListN.{set, length}
use borrow.Author.Tests.{ne_eqb}
use Rattle.queue_entries.specs.declared.Call.{Call}
use Rattle.queue_entries.specs.declared.Call.TheVariants as call
use Rattle.queue_entries.specs.declared.Entry.{Entry}
use Rattle.queue_schedules.proofs.Schedules.{either, picked}
use Rattle.unbounded_words.specs.declared.Pointer.{Pointer}
use Rattle.unbounded_words.specs.declared.Pointer.TheVariants.{None, To}
use Rattle.unbounded_words.specs.declared.Index.{Index}
use Rattle.unbounded_words.specs.Words.{sizes, none_of, past_slots, last_slot, marked_of, same_position, same, later}
use Rattle.unbounded_places.specs.declared.Slot.{Slot}
use Rattle.unbounded_places.specs.declared.Block.{Block}
use Rattle.unbounded_places.specs.declared.Ends.{Ends}
use Rattle.unbounded_places.specs.declared.Worker.{Worker}
use Rattle.unbounded_places.specs.declared.Answer.{Answer}
use Rattle.unbounded_places.specs.declared.Answer.TheVariants.{Pushed, Closed, Popped}
use Rattle.unbounded_places.specs.declared.Place.{Place}
use Rattle.unbounded_places.specs.declared.Place.TheVariants.{Idle, U1, U2, U3, U4, U5, U6, U7, U8, U9, U10, U11, U12, U13, U14, U15, V1, V2, V3, V4, V5, V6}
use Rattle.unbounded_places.specs.declared.Place.TheVariants.{V7, V8, V9, V10, V11, V12, V13, V14, V15, Len1, Len2, Len3, Empty1, Empty2, Full1, Close1}
use Rattle.unbounded_places.specs.declared.Place.TheVariants.{IsClosed1}
use Rattle.unbounded_places.specs.Places.{view_of, begin_of}
use Rattle.unbounded_acts.specs.declared.Acted.{Acted}
use Rattle.unbounded_acts.specs.Acts.{leave, head_to, front_to, tail_to, back_to_words, first_or, answered, lacks_next, push_from, set_aside, claimed, take_or, pop_from}
use Rattle.unbounded_acts.specs.Acts.{new_head, taken, destroy_from, read_out_of, destroy_if, has, READ, WRITE, DESTROY, act_of}
use Rattle.unbounded_machine.specs.declared.Machine.{Machine}
use Rattle.unbounded_machine.specs.Machine.{block_at, slot_at}
use Rattle.unbounded_machine.specs.Turn.{lowest_free, cleared, block_used, slot_used, begun, stored, acted_at}
use Rattle.unbounded_proof_invariant.proofs.Queue.{Ptr, Shared}
use Rattle.unbounded_proof_invariant.proofs.Views.{Seen, SeenOk}
use Rattle.unbounded_proof_words.proofs.Stands.{place_of, ends_of_ring, Stands, idle, u1, u2, u3, u4, u5, u6, u7, u8, u9, u10, u11, u12, u13, u14, u15, v1, v2, v3, v4}
use Rattle.unbounded_proof_words.proofs.Stands.{v5, v6, v7, v8, v9, v10, v11, v12, v13, v14, v15, len1, len2, len3, empty1, empty2, full1, close1, closed1, Sim}
use Rattle.unbounded_proof_words.proofs.Frames.{get_same, get_other}
use Rattle.unbounded_proof_demand2.proofs.Turns.{stood, Turned, began, used, took}

-- one set aside, and a first block
abbrev late : Pointer → Pointer → Bool
late back n = cond (none_of n) true (not (none_of back))

abbrev pub fine : Pointer → Place → Bool
fine back (U1 n x) = late back n
fine back (U2 n t x) = late back n
fine back (U4 n t x) = none_of n
fine back (U5 n t new x) = none_of n
fine back (U6 n t new x) = none_of n
fine back (U7 n t b x) = late back n
fine back (U8 n t x) = late back n
fine back (U15 n new x) = false
fine back (Idle a) = true
fine back (U3 t b x) = true
fine back (U9 n t b x) = true
fine back (U10 n t b x) = true
fine back (U11 n t b x) = true
fine back (U12 n t b x) = true
fine back (U13 n t b) = true
fine back (U14 n a) = true
fine back V1 = true
fine back (V2 h) = true
fine back (V3 h b) = true
fine back (V4 h b new) = true
fine back (V5 h) = true
fine back (V6 h b new) = true
fine back (V7 h b new next) = true
fine back (V8 h b next i) = true
fine back (V9 h b i) = true
fine back (V10 h b) = true
fine back (V11 h b) = true
fine back (V12 h b v) = true
fine back (V13 b i v) = true
fine back (V14 b i v) = true
fine back (V15 b v) = true
fine back Len1 = true
fine back (Len2 t) = true
fine back (Len3 t h) = true
fine back Empty1 = true
fine back (Empty2 h) = true
fine back Full1 = true
fine back Close1 = true
fine back IsClosed1 = true

abbrev Fits : Pointer → Place → Type 0
Fits back p = fine back p ≡ true

-- what an act leaves: the worker's own, and a first block for the others
abbrev Kept : Ends → Acted → Type 0
Kept e a = Fits a.ends.back a.place × (none_of e.back ≡ false → none_of a.ends.back ≡ false)

-- tests of a late one
late_on : (back n : Pointer) → none_of n ≡ true → late back n ≡ true
late_on back n z = ap (λ (t : Bool). cond t true (not (none_of back))) z

late_some : (back n : Pointer) → none_of back ≡ false → late back n ≡ true
late_some back n z = either (λ (t : Bool). t ≡ true) (none_of n) true (not (none_of back)) (λ e. refl) (λ e. ap not z)

pub late_none : (back n : Pointer) → none_of back ≡ true → late back n ≡ true → none_of n ≡ true
late_none back None z h = refl
late_none back (To c) z h = absurd (true≢false (sym h ∙ ap not z))

pub to_some : (b : Pointer) (c : ℕ) → b ≡ To c → none_of b ≡ false
to_some b c e = ap none_of e

-- ---- the places of an act
answered_fits : (back n : Pointer) (a : Answer) → Fits back (answered n a)
unfolding answered
answered_fits back n a = picked (Fits back) (none_of n) (Idle a) (U14 n a) refl refl

push_from_lem : (n : Pointer) (t : Index) (back : Pointer) (x : ℕ) → late back n ≡ true → Fits back (push_from sizes n t back x)
unfolding push_from first_or
push_from_lem n t back x h =
    picked (Fits back) (marked_of t) (answered n (Closed x)) _ (answered_fits back n (Closed x))
    (picked (Fits back) (past_slots sizes t) (U1 n x) _ h
    (picked (Fits back) (lacks_next sizes n t) (U3 t back x) _ refl
    (either (Fits back) (none_of back) (U4 n t x) (U7 n t back x) (λ z. late_none back n z h) (λ z. h))))

take_or_lem : (back : Pointer) (h : Index) (b : Pointer) (new : Index) → Fits back (take_or h b new)
unfolding take_or
take_or_lem back h b new = picked (Fits back) (none_of b) V1 (V4 h b new) refl refl

pop_from_lem : (back : Pointer) (h : Index) (b : Pointer) → Fits back (pop_from sizes h b)
unfolding pop_from
pop_from_lem back h b =
    picked (Fits back) (past_slots sizes h) V1 _ refl (picked (Fits back) (marked_of h) (take_or h b (later h)) (V3 h b) (take_or_lem back h b (later h)) refl)

destroy_from_lem : (back b : Pointer) (i v : ℕ) → Fits back (destroy_from sizes b i v)
unfolding destroy_from
destroy_from_lem back b i v = picked (Fits back) (ltb (i + 1) 31) (V13 b i v) (V15 b v) refl refl

destroy_if_lem : (back b : Pointer) (set : Bool) (i v : ℕ) → Fits back (destroy_if sizes set b i v)
unfolding destroy_if
destroy_if_lem back b set i v = picked (Fits back) set (destroy_from sizes b (i + 1) v) (Idle (Popped v)) (destroy_from_lem back b (i + 1) v) refl

module _ (s : Shared) (w : ℕ) (e : Ends) (is : e ≡ ends_of_ring s) (k : ℕ) (g : Block) (c : Slot) (lose : Bool) where
  -- the chain has had a block
  some_back : 0 < s.blocks → none_of e.back ≡ false
  some_back l = ap (λ (y : Ends). none_of y.back) is ∙ ap (λ (t : Bool). none_of (cond t None (To (s.phys (s.blocks - 1))))) (ne_eqb s.blocks 0 (λ z. omega arith))

  act_fits : (p : Place) (a n : Ptr) (x : Seen) → Stands p a n x → SeenOk s w x → Fits e.back p → Kept e (act_of sizes e k g c p lose)
  unfolding head_to front_to tail_to back_to_words leave first_or set_aside claimed taken read_out_of
  act_fits p a n x idle o h = (refl, λ some. some)
  act_fits p a n x (u1 en) o h = (h, λ some. some)
  act_fits p a n x (u2 {n = m} {t = t} {x = y} en et) o h = (push_from_lem m t e.back y h, λ some. some)
  act_fits p a n x (u3 {t = t} {d = d} {b = b} {x = y} et ed l) o h =
      (either (Fits e.back) (none_of d) (U4 (To k) t y) (U7 (To k) t d y) (λ z. absurd (true≢false (sym z ∙ to_some d b ed))) (λ z. late_some e.back (To k) (some_back o.2)), λ some. some)
  act_fits p a n x (u4 en et) o h = (h, λ some. some)
  act_fits p a n x (u5 {n = m} {d = d} {t = t} {b = b} {x = y} en et ed) o h =
      either (Kept e) (none_of e.back) _ _ (λ z. (h, λ some. to_some d b ed))
      (λ z. (either (Fits e.back) (none_of m) (U1 d y) (U15 m d y) (λ q. late_some e.back d z) (λ q. absurd (true≢false (sym h ∙ q))), λ some. some))
  act_fits p a n x (u6 {n = m} en et ed) o h = (late_on e.back m h, λ some. some)
  act_fits p a n x (u7 {n = m} {d = d} {t = t} {x = y} en et ed l) o h =
      picked (Kept e) (same e.tail t) _ _
      (picked (Kept e) lose _ _ (h, λ some. some) (picked (Fits e.back) (last_slot sizes t) (U9 m t d y) (U12 m t d y) refl refl, λ some. some))
      (h, λ some. some)
  act_fits p a n x (u8 {n = m} {t = t} {x = y} en et) o h = (push_from_lem m t e.back y h, λ some. some)
  act_fits p a n x (u9 {n = m} {c = b} en et ed) o h = (refl, λ some. to_some m b en)
  act_fits p a n x (u10 en et ed) o h = (refl, λ some. some)
  act_fits p a n x (u11 en et ed) o h = (refl, λ some. some)
  act_fits p a n x (u12 en et ed) o h = (refl, λ some. some)
  act_fits p a n x (u13 {n = m} en et ed) o h = (answered_fits e.back m Pushed, λ some. some)
  act_fits p a n x (u14 en ok) o h = (refl, λ some. some)
  act_fits p a n x (u15 en ed) o h = absurd (true≢false (sym h))
  act_fits p a n x v1 o h = (refl, λ some. some)
  act_fits p a n x (v2 {h = i} eh) o h = (pop_from_lem e.back i e.front, λ some. some)
  act_fits p a n x (v3 {h = i} {d = d} eh ed) o h =
      picked (Kept e) (same_position i e.tail) _ _ (picked (Kept e) (marked_of e.tail) _ _ (refl, λ some. some) (refl, λ some. some))
      (take_or_lem e.back i d (new_head sizes i e.tail), λ some. some)
  act_fits p a n x (v4 {h = i} {new = j} {d = d} m eh ed ew) o h =
      picked (Kept e) (same e.head i) _ _
      (picked (Kept e) lose _ _ (refl, λ some. some) (picked (Fits e.back) (last_slot sizes i) (V6 i d j) (V10 i d) refl refl, λ some. some))
      (refl, λ some. some)
  act_fits p a n x (v5 {h = i} eh) o h = (pop_from_lem e.back i e.front, λ some. some)
  act_fits p a n x (v6 m j eh ed ew) o h = picked (Kept e) (none_of g.next) _ _ (refl, λ some. some) (refl, λ some. some)
  act_fits p a n x (v7 m j eh ed ew ec) o h = (refl, λ some. some)
  act_fits p a n x (v8 m eh ed ec ew) o h = (refl, λ some. some)
  act_fits p a n x (v9 m eh ed ew) o h = (refl, λ some. some)
  act_fits p a n x (v10 m eh ed) o h = picked (Kept e) (has WRITE c.state) _ _ (refl, λ some. some) (refl, λ some. some)
  act_fits p a n x (v11 {h = i} {d = d} m eh ed) o h =
      (picked (Fits e.back) (last_slot sizes i) (destroy_from sizes d 0 c.value) (V12 i d c.value) (destroy_from_lem e.back d 0 c.value) refl, λ some. some)
  act_fits p a n x (v12 {h = i} {d = d} {v = v} m eh ed) o h = (destroy_if_lem e.back d (has DESTROY c.state) _ v, λ some. some)
  act_fits p a n x (v13 {d = d} {i = i} {v = v} ed l) o h = picked (Kept e) (has READ c.state) _ _ (destroy_from_lem e.back d (i + 1) v, λ some. some) (refl, λ some. some)
  act_fits p a n x (v14 {d = d} {i = i} {v = v} ed l) o h = (destroy_if_lem e.back d (has READ c.state) i v, λ some. some)
  act_fits p a n x (v15 ed) o h = (refl, λ some. some)
  act_fits p a n x len1 o h = (refl, λ some. some)
  act_fits p a n x len2 o h = (refl, λ some. some)
  act_fits p a n x (len3 {t = t}) o h = picked (Kept e) (same e.tail t) _ _ (refl, λ some. some) (refl, λ some. some)
  act_fits p a n x empty1 o h = (refl, λ some. some)
  act_fits p a n x empty2 o h = (refl, λ some. some)
  act_fits p a n x full1 o h = (refl, λ some. some)
  act_fits p a n x close1 o h = picked (Kept e) (marked_of e.tail) _ _ (refl, λ some. some) (refl, λ some. some)
  act_fits p a n x closed1 o h = (refl, λ some. some)

-- ---- a machine
abbrev pub AllFine : Machine → Type 0
AllFine m = (v : ℕ) → Fits m.ends.back (place_of m.workers v)

grows : (old new n : Pointer) → (none_of old ≡ false → none_of new ≡ false) → late old n ≡ true → late new n ≡ true
grows None new None on h = refl
grows (To b) new None on h = refl
grows None new (To c) on h = absurd (true≢false (sym h))
grows (To b) new (To c) on h = late_some new (To c) (on refl)

fine_grows : (old new : Pointer) (p : Place) → (none_of old ≡ false → none_of new ≡ false) → Fits old p → Fits new p
fine_grows old new (U1 n x) on fit = grows old new n on fit
fine_grows old new (U2 n t x) on fit = grows old new n on fit
fine_grows old new (U7 n t b x) on fit = grows old new n on fit
fine_grows old new (U8 n t x) on fit = grows old new n on fit
fine_grows old new (U4 n t x) on fit = fit
fine_grows old new (U5 n t d x) on fit = fit
fine_grows old new (U6 n t d x) on fit = fit
fine_grows old new (U15 n d x) on fit = fit
fine_grows old new (Idle a) on fit = refl
fine_grows old new (U3 t b x) on fit = refl
fine_grows old new (U9 n t b x) on fit = refl
fine_grows old new (U10 n t b x) on fit = refl
fine_grows old new (U11 n t b x) on fit = refl
fine_grows old new (U12 n t b x) on fit = refl
fine_grows old new (U13 n t b) on fit = refl
fine_grows old new (U14 n a) on fit = refl
fine_grows old new V1 on fit = refl
fine_grows old new (V2 h) on fit = refl
fine_grows old new (V3 h b) on fit = refl
fine_grows old new (V4 h b d) on fit = refl
fine_grows old new (V5 h) on fit = refl
fine_grows old new (V6 h b d) on fit = refl
fine_grows old new (V7 h b d next) on fit = refl
fine_grows old new (V8 h b next i) on fit = refl
fine_grows old new (V9 h b i) on fit = refl
fine_grows old new (V10 h b) on fit = refl
fine_grows old new (V11 h b) on fit = refl
fine_grows old new (V12 h b v) on fit = refl
fine_grows old new (V13 b i v) on fit = refl
fine_grows old new (V14 b i v) on fit = refl
fine_grows old new (V15 b v) on fit = refl
fine_grows old new Len1 on fit = refl
fine_grows old new (Len2 t) on fit = refl
fine_grows old new (Len3 t h) on fit = refl
fine_grows old new Empty1 on fit = refl
fine_grows old new (Empty2 h) on fit = refl
fine_grows old new Full1 on fit = refl
fine_grows old new Close1 on fit = refl
fine_grows old new IsClosed1 on fit = refl

begun_fine : (back : Pointer) (c : Call) → Fits back (begin_of c)
begun_fine back (call.Push x) = refl
begun_fine back (call.ForcePush x) = refl
begun_fine back call.Pop = refl
begun_fine back call.Len = refl
begun_fine back call.IsEmpty = refl
begun_fine back call.IsFull = refl
begun_fine back call.Close = refl
begun_fine back call.IsClosed = refl

-- the record of w is another now
placed : (ws : List Worker) (w : ℕ) (q : Place) (back : Pointer) → Fits back q → ((v : ℕ) → Fits back (place_of ws v)) → w < length ws → (v : ℕ) → Fits back
    (place_of (set ws w (record { place = q })) v)
placed ws w q back h all l v = go (ℕ_discrete v w)
  where
    go : Dec (v ≡ w) → Fits back (place_of (set ws w (record { place = q })) v)
    go (yes z) = ap (λ (i : ℕ). fine back (place_of (set ws w (record { place = q })) i)) z ∙ ap (λ (r : Worker). fine back r.place) (get_same ws w (record { place = q }) _ l) ∙ h
    go (no z) = ap (λ (r : Worker). fine back r.place) (get_other ws w v (record { place = q }) _ z) ∙ all v

module _ (m : Machine) (s : Shared) (sim : Sim m.ends m.blocks m.slots m.workers m.meter s) (all : AllFine m) where
  acted_fine : (w : ℕ) → w < length m.workers → (k i : ℕ) (l : List Slot) (lose : Bool)
      → AllFine (stored sizes m w l k i (act_of sizes m.ends k (block_at m.blocks k) (slot_at sizes l k i) (stood m w) lose))
  unfolding stored
  acted_fine w here k i l lose =
      let o = sim.places w in
      let d = act_fits s w m.ends sim.ends k (block_at m.blocks k) (slot_at sizes l k i) lose (stood m w) o.aside o.new o.seen o.at o.good.seen (all w) in
      placed m.workers w _ _ d.0 (λ v. fine_grows m.ends.back _ (place_of m.workers v) d.1 (all v)) here

  pub turned_fine : (x : Entry) (next : Machine) → Turned m x next → ((w : ℕ) → w < m.count → w < length m.workers) → AllFine next
  unfolding begun acted_at
  turned_fine x next (began w c l b) long = placed m.workers w (begin_of c) m.ends.back (begun_fine m.ends.back c) all (long w l)
  turned_fine x next (used w given lose b t) long =
      acted_fine w (long w b.known) (block_used (view_of sizes (stood m w)).uses) (slot_used (view_of sizes (stood m w)).uses) m.slots lose
  turned_fine x next (took w given lose b t l) long = acted_fine w (long w b.known) (lowest_free sizes m.blocks) 0 (cleared sizes m.slots (lowest_free sizes m.blocks)) lose
