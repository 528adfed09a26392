-- No act makes a pointer to a block numbered as none is: what has words has words after every entry.
use Prim.Native.Nat.{ℕ, zero, suc, ◌+◌, ◌-◌, ◌<◌}
use mathlib.Core.Path.{◌≡◌, refl, sym, ◌∙◌, subst}
use mathlib.Core.Bool.{Bool, true, false, cond, true≢false}
use mathlib.Core.List.{List, [], ◌∷◌}
use native.Mathlib.Omega.{arith}
use native.Mathlib.Decide.{dec_lt}
use lib.Dec.{ltb}
use lib.ListN.{length, set, get_or, replicate, length-set, length-replicate, get_or-replicate, get_or-eq_default}
use borrow.Author.Tests.{ltb-true}
use Rattle.queue_entries.specs.Limits.{workers_most}
use Rattle.queue_entries.specs.declared.Call.{Call}
use Rattle.queue_entries.specs.declared.Call.TheVariants as call
use Rattle.queue_entries.specs.declared.Entry.{Entry}
use Rattle.queue_entries.specs.declared.Entry.TheVariants.{Unreadable, Asks}
use Rattle.queue_entries.specs.declared.Verdict.{Verdict}
use Rattle.queue_entries.specs.declared.Verdict.TheVariants.{Refuse, Start, Move}
use Rattle.queue_schedules.proofs.Records.{placed}
use Rattle.unbounded_words.specs.declared.Index.{Index}
use Rattle.unbounded_words.specs.declared.Pointer.{Pointer}
use Rattle.unbounded_words.specs.declared.Pointer.TheVariants.{None, To}
use Rattle.unbounded_words.specs.Words.{sizes, offset_of, past_slots, last_slot, marked_of, with_mark, later, same, same_position, count_of, none_of}
use Rattle.unbounded_places.specs.declared.Slot.{Slot}
use Rattle.unbounded_places.specs.declared.Block.{Block}
use Rattle.unbounded_places.specs.declared.Ends.{Ends}
use Rattle.unbounded_places.specs.declared.Answer.{Answer}
use Rattle.unbounded_places.specs.declared.Answer.TheVariants.{Closed, Pushed, Popped, Empty, PopClosed, Len, Yes, No}
use Rattle.unbounded_places.specs.declared.Place.{Place}
use Rattle.unbounded_places.specs.declared.Place.TheVariants.{Idle, U1, U2, U3, U4, U5, U6, U7, U8, U9, U10, U11, U12, U13, U14, U15, V1, V2, V3, V4, V5, V6}
use Rattle.unbounded_places.specs.declared.Place.TheVariants.{V7, V8, V9, V10, V11, V12, V13, V14, V15, Len1, Len2, Len3, Empty1, Empty2, Full1, Close1}
use Rattle.unbounded_places.specs.declared.Place.TheVariants.{IsClosed1}
use Rattle.unbounded_places.specs.declared.Worker.{Worker}
use Rattle.unbounded_places.specs.Places.{view_of, begin_of}
use Rattle.unbounded_acts.specs.declared.Acted.{Acted}
use Rattle.unbounded_acts.specs.Acts.{leave, head_to, front_to, tail_to, back_to_words, next_to, freed, new_block, state_to, value_to, has, with, WRITE, READ, DESTROY, yes_no}
use Rattle.unbounded_acts.specs.Acts.{new_head, next_index, first_or, answered, lacks_next, push_from, set_aside, claimed, take_or, pop_from, taken, destroy_from}
use Rattle.unbounded_acts.specs.Acts.{read_out_of, destroy_if, act_of}
use Rattle.unbounded_machine.specs.declared.Machine.{Machine}
use Rattle.unbounded_machine.specs.declared.Did.{Did}
use Rattle.unbounded_machine.specs.Machine.{slot, slot_number, slot_at, block_at, idler, place_of, fresh_of, free_blocks, empty_slots, idlers, free_block, refused, accepted}
use Rattle.unbounded_machine.specs.Broken.{broken_of}
use Rattle.unbounded_machine.specs.Turn.{entry_here, verdict_of, lowest_free, cleared_from, cleared, block_used, slot_used, begun, stored, acted_at, used_by, taken_by}
use Rattle.unbounded_machine.specs.Turn.{moved_by, carried_by, turn_by, turn_with, turn_of}
use Rattle.unbounded_codes.specs.Codes.{pointer_in, answer_in, pushes, push_in, pops, pop_in, looks, look_in, place_in, Said, SaidOf}
use Rattle.unbounded_codes.proofs.Codes.{pointer_said}
use Rattle.unbounded_rows.specs.Rows.{row, Sayable}
use Rattle.unbounded_rows.proofs.Points.{long_from, get_row}

-- a pick between two
chosen : {A : Type 0} (P : A → Type 0) (b : Bool) (x y : A) → (b ≡ true → P x) → (b ≡ false → P y) → P (cond b x y)
chosen P true x y p q = p refl
chosen P false x y p q = q refl

picked : {A : Type 0} (P : A → Type 0) (b : Bool) (x y : A) → P x → P y → P (cond b x y)
picked P b x y p q = chosen P b x y (λ h. p) (λ h. q)

-- ---- places
nothing : (a : Answer) → SaidOf (Idle a)
nothing a = (tt, tt)

module _ (n b : Pointer) (hn : Said n) (hb : Said b) (t : Index) (x : ℕ) where
  first_or_lem : SaidOf (first_or n t b x)
  unfolding first_or
  first_or_lem = picked SaidOf (none_of b) (U4 n t x) (U7 n t b x) (hn, tt) (hn, hb)

  answered_said : (a : Answer) → SaidOf (answered n a)
  unfolding answered
  answered_said a = picked SaidOf (none_of n) (Idle a) (U14 n a) (tt, tt) (hn, tt)

  push_from_lem : SaidOf (push_from sizes n t b x)
  unfolding push_from
  push_from_lem =
      picked SaidOf (marked_of t) (answered n (Closed x)) (cond (past_slots sizes t) (U1 n x) (cond (lacks_next sizes n t) (U3 t b x) (first_or n t b x))) (answered_said (Closed x))
      (picked SaidOf (past_slots sizes t) (U1 n x) (cond (lacks_next sizes n t) (U3 t b x) (first_or n t b x)) (hn, tt)
      (picked SaidOf (lacks_next sizes n t) (U3 t b x) (first_or n t b x) (hb, tt) first_or_lem))

  set_aside_lem : SaidOf (set_aside n b x)
  unfolding set_aside
  set_aside_lem = picked SaidOf (none_of n) (U1 b x) (U15 n b x) (hb, tt) (hn, hb)

  claimed_said : SaidOf (claimed sizes n t b x)
  unfolding claimed
  claimed_said = picked SaidOf (last_slot sizes t) (U9 n t b x) (U12 n t b x) (hn, hb) (hn, hb)

module _ (b : Pointer) (hb : Said b) (h : Index) where
  take_or_lem : (new : Index) → SaidOf (take_or h b new)
  unfolding take_or
  take_or_lem new = picked SaidOf (none_of b) V1 (V4 h b new) (tt, tt) (hb, tt)

  pop_from_lem : SaidOf (pop_from sizes h b)
  unfolding pop_from
  pop_from_lem = picked SaidOf (past_slots sizes h) V1 (cond (marked_of h) (take_or h b (later h)) (V3 h b)) (tt, tt) (picked SaidOf (marked_of h) (take_or h b (later h)) (V3 h b) (take_or_lem (later h)) (hb, tt))

  taken_said : (new : Index) → SaidOf (taken sizes h b new)
  unfolding taken
  taken_said new = picked SaidOf (last_slot sizes h) (V6 h b new) (V10 h b) (hb, tt) (hb, tt)

  destroy_from_lem : (i v : ℕ) → SaidOf (destroy_from sizes b i v)
  unfolding destroy_from
  destroy_from_lem i v = picked SaidOf (ltb (i + 1) 31) (V13 b i v) (V15 b v) (hb, tt) (hb, tt)

  read_out : (v : ℕ) → SaidOf (read_out_of sizes h b v)
  unfolding read_out_of
  read_out v = picked SaidOf (last_slot sizes h) (destroy_from sizes b 0 v) (V12 h b v) (destroy_from_lem 0 v) (hb, tt)

  destroy_if_lem : (set : Bool) (i v : ℕ) → SaidOf (destroy_if sizes set b i v)
  unfolding destroy_if
  destroy_if_lem set i v = picked SaidOf set (destroy_from sizes b (i + 1) v) (Idle (Popped v)) (destroy_from_lem (i + 1) v) (tt, tt)

begin_said : (c : Call) → SaidOf (begin_of c)
begin_said (call.Push x) = (tt, tt)
begin_said (call.ForcePush x) = (tt, tt)
begin_said call.Pop = (tt, tt)
begin_said call.Len = (tt, tt)
begin_said call.IsEmpty = (tt, tt)
begin_said call.IsFull = (tt, tt)
begin_said call.Close = (tt, tt)
begin_said call.IsClosed = (tt, tt)

-- ---- acts
record SaidActed (a : Acted) : Type 0 where
  front : Said a.ends.front
  back : Said a.ends.back
  next : Said a.block.next
  place : SaidOf a.place

module _ (e : Ends) (g : Block) (s : Slot) (hf : Said e.front) (hb : Said e.back) (hg : Said g.next) where
  stay : (s' : Slot) (p : Place) → SaidOf p → SaidActed (leave e g s' p)
  unfolding leave
  stay s' p h = record { front = hf; back = hb; next = hg; place = h }

  free_one : (p : Place) → SaidOf p → SaidActed (leave e (freed g) s p)
  unfolding leave freed
  free_one p h = record { front = hf; back = hb; next = hg; place = h }

  new_one : (p : Place) → SaidOf p → SaidActed (leave e new_block s p)
  unfolding leave
  new_one p h = record { front = hf; back = hb; next = tt; place = h }

  next_to_lem : (n : Pointer) → Said n → (p : Place) → SaidOf p → SaidActed (leave e (next_to g n) s p)
  unfolding leave next_to
  next_to_lem n hn p h = record { front = hf; back = hb; next = hn; place = h }

  back_to : (n : Pointer) → Said n → (p : Place) → SaidOf p → SaidActed (leave (back_to_words e n) g s p)
  unfolding leave back_to_words
  back_to n hn p h = record { front = hf; back = hn; next = hg; place = h }

  front_to_lem : (n : Pointer) → Said n → (p : Place) → SaidOf p → SaidActed (leave (front_to e n) g s p)
  unfolding leave front_to
  front_to_lem n hn p h = record { front = hn; back = hb; next = hg; place = h }

  head_to_lem : (w : Index) (p : Place) → SaidOf p → SaidActed (leave (head_to e w) g s p)
  unfolding leave head_to
  head_to_lem w p h = record { front = hf; back = hb; next = hg; place = h }

  tail_to_lem : (w : Index) (p : Place) → SaidOf p → SaidActed (leave (tail_to e w) g s p)
  unfolding leave tail_to
  tail_to_lem w p h = record { front = hf; back = hb; next = hg; place = h }

  acted_said : (k : ℕ) (p : Place) (lose : Bool) → ((view_of sizes p).takes ≡ true → k ≡ 64 → ⊥) → SaidOf p → SaidActed (act_of sizes e k g s p lose)
  acted_said k (Idle a) lose hk h = stay s (Idle a) (tt, tt)
  acted_said k (U1 n x) lose hk h = stay s (U2 n e.tail x) (h.0, tt)
  acted_said k (U2 n t x) lose hk h = stay s (push_from sizes n t e.back x) (push_from_lem n e.back h.0 hb t x)
  acted_said k (U3 t b x) lose hk h = new_one (first_or (To k) t b x) (first_or_lem (To k) b (hk refl) h.0 t x)
  acted_said k (U4 n t x) lose hk h = new_one (U5 n t (To k) x) (h.0, hk refl)
  acted_said k (U5 n t new x) lose hk h =
      picked SaidActed (none_of e.back) (leave (back_to_words e new) g s (U6 n t new x)) (leave e g s (set_aside n new x)) (back_to new h.1 (U6 n t new x) h)
      (stay s (set_aside n new x) (set_aside_lem n new h.0 h.1 t x))
  acted_said k (U6 n t new x) lose hk h = front_to_lem new h.1 (U7 n t new x) h
  acted_said k (U7 n t b x) lose hk h =
      picked SaidActed (same e.tail t) (cond lose (leave e g s (U8 n t x)) (leave (tail_to e (later t)) g s (claimed sizes n t b x))) (leave e g s (U8 n e.tail x))
      (picked SaidActed lose (leave e g s (U8 n t x)) (leave (tail_to e (later t)) g s (claimed sizes n t b x)) (stay s (U8 n t x) (h.0, tt))
      (tail_to_lem (later t) (claimed sizes n t b x) (claimed_said n b h.0 h.1 t x)))
      (stay s (U8 n e.tail x) (h.0, tt))
  acted_said k (U8 n t x) lose hk h = stay s (push_from sizes n t e.back x) (push_from_lem n e.back h.0 hb t x)
  acted_said k (U9 n t b x) lose hk h = back_to n h.0 (U10 n t b x) h
  acted_said k (U10 n t b x) lose hk h = tail_to_lem (later e.tail) (U11 n t b x) h
  acted_said k (U11 n t b x) lose hk h = next_to_lem n h.0 (U12 None t b x) (tt, h.1)
  acted_said k (U12 n t b x) lose hk h = stay (value_to s x) (U13 n t b) h
  acted_said k (U13 n t b) lose hk h = stay (state_to s (with WRITE s.state)) (answered n Pushed) (answered_said n b h.0 h.1 t 0 Pushed)
  acted_said k (U14 n a) lose hk h = free_one (Idle a) (tt, tt)
  acted_said k (U15 n new x) lose hk h = free_one (U1 new x) (h.1, tt)
  acted_said k V1 lose hk h = stay s (V2 e.head) (tt, tt)
  acted_said k (V2 i) lose hk h = stay s (pop_from sizes i e.front) (pop_from_lem e.front hf i)
  acted_said k (V3 i b) lose hk h =
      picked SaidActed (same_position i e.tail) (cond (marked_of e.tail) (leave e g s (Idle PopClosed)) (leave e g s (Idle Empty))) (leave e g s (take_or i b (new_head sizes i e.tail)))
      (picked SaidActed (marked_of e.tail) (leave e g s (Idle PopClosed)) (leave e g s (Idle Empty)) (stay s (Idle PopClosed) (tt, tt)) (stay s (Idle Empty) (tt, tt)))
      (stay s (take_or i b (new_head sizes i e.tail)) (take_or_lem b h.0 i (new_head sizes i e.tail)))
  acted_said k (V4 i b new) lose hk h =
      picked SaidActed (same e.head i) (cond lose (leave e g s (V5 i)) (leave (head_to e new) g s (taken sizes i b new))) (leave e g s (V5 e.head))
      (picked SaidActed lose (leave e g s (V5 i)) (leave (head_to e new) g s (taken sizes i b new)) (stay s (V5 i) (tt, tt)) (head_to_lem new (taken sizes i b new) (taken_said b h.0 i new)))
      (stay s (V5 e.head) (tt, tt))
  acted_said k (V5 i) lose hk h = stay s (pop_from sizes i e.front) (pop_from_lem e.front hf i)
  acted_said k (V6 i b new) lose hk h =
      picked SaidActed (none_of g.next) (leave e g s (V6 i b new)) (leave e g s (V7 i b new g.next)) (stay s (V6 i b new) h) (stay s (V7 i b new g.next) (h.0, hg))
  acted_said k (V7 i b new next) lose hk h = stay s (V8 i b next (next_index new g.next)) h
  acted_said k (V8 i b next j) lose hk h = front_to_lem next h.1 (V9 i b j) (h.0, tt)
  acted_said k (V9 i b j) lose hk h = head_to_lem j (V10 i b) h
  acted_said k (V10 i b) lose hk h = picked SaidActed (has WRITE s.state) (leave e g s (V11 i b)) (leave e g s (V10 i b)) (stay s (V11 i b) h) (stay s (V10 i b) h)
  acted_said k (V11 i b) lose hk h = stay s (read_out_of sizes i b s.value) (read_out b h.0 i s.value)
  acted_said k (V12 i b v) lose hk h =
      stay (state_to s (with READ s.state)) (destroy_if sizes (has DESTROY s.state) b (offset_of sizes i) v) (destroy_if_lem b h.0 i (has DESTROY s.state) (offset_of sizes i) v)
  acted_said k (V13 b i v) lose hk h =
      picked SaidActed (has READ s.state) (leave e g s (destroy_from sizes b (i + 1) v)) (leave e g s (V14 b i v))
      (stay s (destroy_from sizes b (i + 1) v) (destroy_from_lem b h.0 e.head (i + 1) v)) (stay s (V14 b i v) h)
  acted_said k (V14 b i v) lose hk h =
      stay (state_to s (with DESTROY s.state)) (destroy_if sizes (has READ s.state) b i v) (destroy_if_lem b h.0 e.head (has READ s.state) i v)
  acted_said k (V15 b v) lose hk h = free_one (Idle (Popped v)) (tt, tt)
  acted_said k Len1 lose hk h = stay s (Len2 e.tail) (tt, tt)
  acted_said k (Len2 t) lose hk h = stay s (Len3 t e.head) (tt, tt)
  acted_said k (Len3 t i) lose hk h =
      picked SaidActed (same e.tail t) (leave e g s (Idle (Len (count_of sizes t i)))) (leave e g s Len1) (stay s (Idle (Len (count_of sizes t i))) (tt, tt)) (stay s Len1 (tt, tt))
  acted_said k Empty1 lose hk h = stay s (Empty2 e.head) (tt, tt)
  acted_said k (Empty2 i) lose hk h = stay s (Idle (yes_no (same_position i e.tail))) (tt, tt)
  acted_said k Full1 lose hk h = stay s (Idle No) (tt, tt)
  acted_said k Close1 lose hk h =
      picked SaidActed (marked_of e.tail) (leave e g s (Idle No)) (leave (tail_to e (with_mark e.tail)) g s (Idle Yes)) (stay s (Idle No) (tt, tt))
      (tail_to_lem (with_mark e.tail) (Idle Yes) (tt, tt))
  acted_said k IsClosed1 lose hk h = stay s (Idle (yes_no (marked_of e.tail))) (tt, tt)

-- ---- entries
long_cleared : (more n : ℕ) (l : List Slot) → length (cleared_from more n l) ≡ length l
unfolding cleared_from
long_cleared zero n l = refl
long_cleared (suc more) n l = long_cleared more (n + 1) (set l n (slot 0 0)) ∙ length-set l n (slot 0 0)

module _ (m : Machine) (y : Sayable m) where
  after_set : (w : ℕ) (q : Place) → SaidOf q → (i : ℕ) → SaidOf (place_of (set m.workers w (record { place = q })) i)
  after_set w q h i = placed m.workers w i (record { place = q }) idler (λ (r : Worker). SaidOf r.place) (λ e. h) (y.place_said i)

  begun_said : (w : ℕ) (q : Place) → SaidOf q → Sayable (begun m w q)
  unfolding begun
  begun_said w q h = record {
    blocks_all = y.blocks_all;
    slots_all = y.slots_all;
    workers_all = length-set m.workers w (record { place = q }) ∙ y.workers_all;
    front_said = y.front_said;
    back_said = y.back_said;
    next_said = y.next_said;
    place_said = after_set w q h;
  }

  stored_said : (w : ℕ) (slots : List Slot) (k i : ℕ) (a : Acted) → length slots ≡ 1984 → SaidActed a → Sayable (stored sizes m w slots k i a)
  unfolding stored
  stored_said w slots k i a n h = record {
    blocks_all = length-set m.blocks k a.block ∙ y.blocks_all;
    slots_all = length-set slots (slot_number sizes k i) a.slot ∙ n;
    workers_all = length-set m.workers w (record { place = a.place }) ∙ y.workers_all;
    front_said = h.front;
    back_said = h.back;
    next_said = λ j. placed m.blocks k j a.block new_block (λ (g : Block). Said g.next) (λ e. h.next) (y.next_said j);
    place_said = after_set w a.place h.place;
  }

  acted_there : (w : ℕ) (p : Place) (lose : Bool) (slots : List Slot) (k i : ℕ) → length slots ≡ 1984 → ((view_of sizes p).takes ≡ true → k ≡ 64 → ⊥) → SaidOf p
      → Sayable (acted_at sizes act_of m w p lose slots k i)
  unfolding acted_at
  acted_there w p lose slots k i n hk h =
      stored_said w slots k i (act_of sizes m.ends k (block_at m.blocks k) (slot_at sizes slots k i) p lose) n
      (acted_said m.ends (block_at m.blocks k) (slot_at sizes slots k i) y.front_said y.back_said (y.next_said k) k p lose hk h)

  abbrev After : Did → Type 0
  After d = Sayable d.machine

  refused_said : (k : ℕ) → After (refused k m)
  unfolding refused
  refused_said k = y

  accepted_said : (m' : Machine) → Sayable m' → After (accepted m')
  unfolding accepted
  accepted_said m' h = h

  moved_said : (w : ℕ) (p : Place) (lose : Bool) → SaidOf p → After (moved_by sizes act_of m w p lose)
  unfolding moved_by cleared
  moved_said w p lose h =
      chosen After (view_of sizes p).takes _ (accepted (used_by sizes act_of m w p lose))
      (λ t. chosen After (ltb (lowest_free sizes m.blocks) 64) (accepted (taken_by sizes act_of m w p lose (lowest_free sizes m.blocks))) (refused 23 m)
      (λ few. accepted_said _
      (acted_there w p lose (cleared sizes m.slots (lowest_free sizes m.blocks)) (lowest_free sizes m.blocks) 0
      (long_cleared 31 (slot_number sizes (lowest_free sizes m.blocks) 0) m.slots ∙ y.slots_all)
      (λ _ e. let less = ltb-true (lowest_free sizes m.blocks) 64 few in omega (arith, less, e)) h))
      (λ _. refused_said 23))
      (λ f. accepted_said _
      (acted_there w p lose m.slots (block_used (view_of sizes p).uses) (slot_used (view_of sizes p).uses) y.slots_all (λ t. absurd (true≢false (sym t ∙ f))) h))

  carried_said : (w : ℕ) (p : Place) → SaidOf p → (v : Verdict) → After (carried_by sizes act_of m w p v)
  carried_said w p h (Refuse k) = refused_said k
  carried_said w p h (Start c) = accepted_said _ (begun_said w (begin_of c) (begin_said c))
  carried_said w p h (Move lose) = moved_said w p lose h

  turn_said : (x : Entry) → After (turn_by sizes act_of m x)
  turn_said Unreadable = refused_said 9
  turn_said (Asks w o) =
      picked After (ltb w m.count) _ (refused 3 m) (carried_said w (place_of m.workers w) (y.place_said w) (verdict_of sizes m.meter (place_of m.workers w) o)) (refused_said 3)

  pub turned_said : (first second : ℕ) → Sayable (turn_of sizes m first second).machine
  unfolding turn_with
  turned_said first second = picked After (broken_of sizes m) (refused 6 m) (turn_by sizes act_of m (entry_here first second)) (refused_said 6) (turn_said (entry_here first second))

-- ---- rows, and a fresh machine
pub each_said : {A : Type 0} (P : A → Type 0) (d : A) (n : ℕ) (f : ℕ → A) → ((j : ℕ) → P (f j)) → P d → (i : ℕ) → P (get_or (row n f) i d)
each_said P d n f h hd i = go (dec_lt i n)
  where
    go : Dec (i < n) → P (get_or (row n f) i d)
    go (yes l) = subst P (sym (get_row d n i f l)) (h i)
    go (no l) = subst P (sym (get_or-eq_default (row n f) d (omega (arith, l, long_from d n 0 f)))) hd

alike_said : {A : Type 0} (P : A → Type 0) (d : A) (n : ℕ) (x : A) → P x → P d → (i : ℕ) → P (get_or (replicate n x) i d)
alike_said P d n x hx hd i = go (dec_lt i n)
  where
    go : Dec (i < n) → P (get_or (replicate n x) i d)
    go (yes l) = subst P (sym (get_or-replicate n i x d l)) hx
    go (no l) = subst P (sym (get_or-eq_default (replicate n x) d (omega (arith, l, length-replicate n x)))) hd

pub fresh_said : (workers : ℕ) → Sayable (fresh_of sizes workers)
unfolding fresh_of free_blocks empty_slots idlers
fresh_said workers = record {
  blocks_all = length-replicate 64 free_block;
  slots_all = length-replicate 1984 (slot 0 0);
  workers_all = length-replicate workers_most idler;
  front_said = tt;
  back_said = tt;
  next_said = λ k. alike_said (λ (g : Block). Said g.next) new_block 64 free_block tt tt k;
  place_said = λ i. alike_said (λ (r : Worker). SaidOf r.place) idler workers_most idler (tt, tt) (tt, tt) i;
}

-- ---- a place that is read
unfoldable Each : List Place → Type 0
Each [] = Unit
Each (x ∷ l) = SaidOf x × Each l

each_of : (l : List Place) (d : Place) → Each l → SaidOf d → (n : ℕ) → SaidOf (get_or l n d)
unfolding Each
each_of [] d h hd n = hd
each_of (x ∷ l) d h hd zero = h.0
each_of (x ∷ l) d h hd (suc n) = each_of l d h.1 hd n

module _ (a b c d : ℕ) (pa pb pc : Pointer) (ha : Said pa) (hb : Said pb) (hc : Said pc) where
  push_each : (w : Answer) → Each (pushes a b c d pa pb pc w)
  unfolding Each
  push_each w = ((ha, tt), ((ha, tt), ((hb, tt), ((ha, tt), ((ha, hc), ((ha, hc), ((ha, hc), ((ha, tt), ((ha, hc), ((ha, hc), ((ha, hc), ((ha, hc), ((ha, hc), ((ha, tt), ((ha, hb), tt)))))))))))))))

  push_said : (w : Answer) (n : ℕ) → SaidOf (push_in n a b c d pa pb pc w)
  push_said w n = each_of (pushes a b c d pa pb pc w) (U15 pa pb c) (push_each w) (ha, hb) n

  pop_each : (pd : Pointer) → Said pd → Each (pops a b c d pa pb pc pd)
  unfolding Each
  pop_each pd hd = (
    (tt, tt),
    (
      (tt, tt),
      (
        (hb, tt),
        (
          (hb, tt),
          ((tt, tt), ((hb, tt), ((hb, hd), ((hb, hc), ((hb, tt), ((hb, tt), ((hb, tt), ((hb, tt), ((ha, tt), ((ha, tt), ((ha, tt), tt))))))))))),
        ),
      ),
    ),
  )

  pop_said : (pd : Pointer) → Said pd → (n : ℕ) → SaidOf (pop_in n a b c d pa pb pc pd)
  pop_said pd hd n = each_of (pops a b c d pa pb pc pd) (V15 pa b) (pop_each pd hd) (ha, tt) n

look_each : (a b : ℕ) → Each (looks a b)
unfolding Each
look_each a b = ((tt, tt), ((tt, tt), ((tt, tt), ((tt, tt), ((tt, tt), ((tt, tt), ((tt, tt), ((tt, tt), tt))))))))

look_said : (a b n : ℕ) → SaidOf (look_in n a b)
look_said a b n = each_of (looks a b) IsClosed1 (look_each a b) (tt, tt) n

pub place_said : (n a b c d : ℕ) → SaidOf (place_in n a b c d)
unfolding place_in
place_said n a b c d =
    let pa = pointer_in a in
    let pb = pointer_in b in
    let pc = pointer_in c in
    let pushing = push_in (n - 11) a b c d pa pb pc (answer_in b c) in
    let popping = pop_in (n - 26) a b c d pa pb pc (pointer_in d) in
    picked SaidOf (ltb n 11) (Idle (answer_in n a)) (cond (ltb n 41) (cond (ltb n 26) pushing popping) (look_in (n - 41) a b)) (tt, tt)
    (picked SaidOf (ltb n 41) (cond (ltb n 26) pushing popping) (look_in (n - 41) a b)
    (picked SaidOf (ltb n 26) pushing popping
    (push_said a b c d pa pb pc (pointer_said a) (pointer_said b) (pointer_said c) (answer_in b c) (n - 11))
    (pop_said a b c d pa pb pc (pointer_said a) (pointer_said b) (pointer_said c) (pointer_in d) (pointer_said d) (n - 26)))
    (look_said a b (n - 41)))
