-- An entry is its aim: what `turn_of` gives is refused as the aim says, or stores what is done where it goes.
use Rattle.std.proofs.Common.{◌≡◌, ℕ, zero, suc, ◌+◌, ◌<◌, ◌≤◌, Bool, true, false, cond, not, eqb, ltb, List, [], ◌∷◌, get_or, set, sym, refl, ap, ◌∙◌, subst, true≢false, arith, ltb-true, ne_eqb, eqb-true}
use Rattle.queue_entries.specs.Limits.{workers_most, meter_most}
use Rattle.queue_entries.proofs.Pick.{both_left, both_right}
use Rattle.queue_entries.specs.declared.Call.{Call}
use Rattle.queue_entries.specs.declared.Call.TheVariants as call
use Rattle.queue_entries.specs.declared.Order.{Order}
use Rattle.queue_entries.specs.declared.Order.TheVariants.{Begin, Act}
use Rattle.queue_entries.specs.declared.Entry.{Entry}
use Rattle.queue_entries.specs.declared.Entry.TheVariants.{Unreadable, Asks}
use Rattle.queue_entries.specs.Entries.{verdict_for}
use Rattle.queue_entries.specs.declared.Verdict.{Verdict}
use Rattle.queue_entries.specs.declared.Verdict.TheVariants.{Refuse, Start, Move}
use Rattle.unbounded_words.specs.declared.Pointer.{Pointer}
use Rattle.unbounded_words.specs.declared.Pointer.TheVariants.{None, To}
use Rattle.unbounded_words.specs.Words.{sizes}
use Rattle.unbounded_places.specs.declared.Slot.{Slot}
use Rattle.unbounded_places.specs.declared.Block.{Block}
use Rattle.unbounded_places.specs.declared.Place.{Place}
use Rattle.unbounded_places.specs.declared.Uses.{Uses}
use Rattle.unbounded_places.specs.declared.Uses.TheVariants as uses
use Rattle.unbounded_places.specs.Places.{view_of, begin_of}
use Rattle.unbounded_acts.specs.Acts.{new_block, act_of}
use Rattle.unbounded_machine.specs.declared.Machine.{Machine}
use Rattle.unbounded_machine.specs.declared.Did.{Did}
use Rattle.unbounded_machine.specs.Machine.{slot, slot_number, block_at, slot_at, live, machine_of, place_of, idler, refused, accepted}
use Rattle.unbounded_machine.specs.Broken.{uses_fit, record_fits, broken_of}
use Rattle.unbounded_machine.specs.Turn.{entry_here, verdict_of, lowest_free, cleared, block_used, slot_used, begun, stored, acted_at, taken_by, used_by, moved_by, carried_by, turn_by, turn_with, turn_of}
use Rattle.unbounded_machine.proofs.Fits.{either, unbroken_count, unbroken_records, of_record, live_below}
use Rattle.unbounded_entries.specs.declared.Ask.{Ask}
use Rattle.unbounded_entries.specs.declared.Aim.{Aim}
use Rattle.unbounded_entries.specs.declared.Done.{Done}
use Rattle.unbounded_entries.specs.declared.Look.{Look}
use Rattle.unbounded_entries.specs.Looks.{looked, look_block, look_slot, look_uses, look_at, fits_at, same_pointer, same_header}
use Rattle.unbounded_entries.specs.Aims.{asking, unasked, ask_in, ask_of, aimed, turned_away, aim_act, aim_by, aim_in, aim_of, way_by_act, way_of, aim_at, leaves, done_of}

-- ---- what a verdict tells: a refusal has a number, a move is a busy worker's in time
abbrev Sense : ℕ → Place → Verdict → Type 0
Sense meter p (Refuse k) = 0 < k
Sense meter p (Start c) = Unit {0}
Sense meter p (Move lose) = ((view_of sizes p).busy ≡ true) × (meter < meter_most)

sense : (meter : ℕ) (p : Place) (o : Order) → Sense meter p (verdict_of sizes meter p o)
sense meter p (Begin c) = either (Sense meter p) (view_of sizes p).busy (Refuse 4) (Start c) (λ b. omega arith) (λ b. tt)
sense meter p (Act lose) =
    either (Sense meter p) (view_of sizes p).busy _ (Refuse 5)
    (λ b. either (Sense meter p) (ltb meter meter_most) _ (Refuse 7)
    (λ d. either (Sense meter p) lose _ (Move false)
    (λ l. either (Sense meter p) (view_of sizes p).weak (Move true) (Refuse 8) (λ w. (b, ltb-true meter meter_most d)) (λ w. omega arith))
    (λ l. (b, ltb-true meter meter_most d)))
    (λ d. omega arith))
    (λ b. omega arith)

starts_idle : (meter : ℕ) (busy weak : Bool) (o : Order) (c : Call) → verdict_for meter busy weak o ≡ Start c → busy ≡ false
starts_idle meter false weak o c h = refl
starts_idle meter true weak o c h = absurd (never (verdict_for meter true weak o) (busy_never meter weak o) c h)
  where
    Begins : Verdict → Bool
    Begins (Refuse k) = false
    Begins (Start c) = true
    Begins (Move lose) = false

    never : (v : Verdict) → Begins v ≡ false → (c : Call) → v ≡ Start c → ⊥
    never v b c h = true≢false (sym (ap Begins h) ∙ b)

    busy_never : (meter : ℕ) (weak : Bool) (o : Order) → Begins (verdict_for meter true weak o) ≡ false
    busy_never meter weak (Begin c) = refl
    busy_never meter weak (Act lose) =
        either (λ (v : Verdict). Begins v ≡ false) (ltb meter meter_most) _ (Refuse 7)
        (λ d. either (λ (v : Verdict). Begins v ≡ false) lose _ (Move false) (λ l. either (λ (v : Verdict). Begins v ≡ false) weak (Move true) (Refuse 8) (λ w. refl) (λ w. refl)) (λ l. refl))
        (λ d. refl)

begins_busy : (c : Call) → (view_of sizes (begin_of c)).busy ≡ true
begins_busy (call.Push x) = refl
begins_busy (call.ForcePush x) = refl
begins_busy call.Pop = refl
begins_busy call.Len = refl
begins_busy call.IsEmpty = refl
begins_busy call.IsFull = refl
begins_busy call.Close = refl
begins_busy call.IsClosed = refl

pub move_in_time : (meter : ℕ) (p : Place) (o : Order) (v : Verdict) (lose : Bool) → v ≡ verdict_of sizes meter p o → v ≡ Move lose → meter < meter_most
move_in_time meter p o v lose e h = (subst (Sense meter p) (sym e ∙ h) (sense meter p o)).1

-- ---- what the loop stores
abbrev pub slots_for : Machine → Aim → List Slot
slots_for m a = cond a.takes (cleared sizes m.slots a.block) m.slots

abbrev pub done_in : Machine → Aim → List Slot → Done
done_in m a l = done_of sizes m.ends a.block (block_at m.blocks a.block) (slot_at sizes l a.block a.slot) (get_or m.workers a.worker idler) a.order

abbrev pub stored_by : Machine → Aim → List Slot → Done → Machine
stored_by m a l d =
    machine_of d.ends (set m.blocks a.block d.block) (set l (slot_number sizes a.block a.slot) d.slot) (set m.workers a.worker d.worker) m.count a.meter

abbrev after : Machine → Aim → Machine
after m a = stored_by m a (slots_for m a) (done_in m a (slots_for m a))

abbrev outcome : Machine → Aim → Did
outcome m a = cond (eqb a.refusal 0) (accepted (after m a)) (refused a.refusal m)

abbrev pub aim_here : Machine → ℕ → ℕ → Aim
aim_here m = aim_of sizes m.ends m.blocks m.workers m.count m.meter

-- what is stored where it was read from changes nothing
kept : {A : Type 0} (l : List A) (i : ℕ) (d : A) → set l i (get_or l i d) ≡ l
kept [] i d = refl
kept (x ∷ l) zero d = refl
kept {A = A} (x ∷ l) (suc i) d = ap (λ (r : List A). x ∷ r) (kept l i d)

module _ (m : Machine) where
  by_test : (b : Bool) (d e : Did) (x y : Aim) → (b ≡ true → d ≡ outcome m x) → (b ≡ false → e ≡ outcome m y) → cond b d e ≡ outcome m (cond b x y)
  by_test true d e x y p q = p refl
  by_test false d e x y p q = q refl

  acted : (w k i : ℕ) (lose takes : Bool) → accepted (acted_at sizes act_of m w (place_of m.workers w) lose (cond takes (cleared sizes m.slots k) m.slots) k i) ≡ outcome m (aimed w (Act lose) takes k i (m.meter + 1))
  unfolding acted_at stored leaves
  acted w k i lose takes = refl

  moved : (w : ℕ) (lose : Bool) → moved_by sizes act_of m w (place_of m.workers w) lose ≡ outcome m (aim_act sizes m.blocks m.meter w (place_of m.workers w) lose)
  unfolding moved_by aim_act
  moved w lose =
      by_test (view_of sizes (place_of m.workers w)).takes
      (cond (ltb (lowest_free sizes m.blocks) 64) (accepted (taken_by sizes act_of m w (place_of m.workers w) lose (lowest_free sizes m.blocks))) (refused 23 m))
      (accepted (used_by sizes act_of m w (place_of m.workers w) lose))
      (cond (ltb (lowest_free sizes m.blocks) 64) (aimed w (Act lose) true (lowest_free sizes m.blocks) 0 (m.meter + 1)) (turned_away 23))
      (aimed w (Act lose) false (block_used (view_of sizes (place_of m.workers w)).uses) (slot_used (view_of sizes (place_of m.workers w)).uses) (m.meter + 1))
      (λ t. by_test (ltb (lowest_free sizes m.blocks) 64)
      (accepted (taken_by sizes act_of m w (place_of m.workers w) lose (lowest_free sizes m.blocks))) (refused 23 m)
      (aimed w (Act lose) true (lowest_free sizes m.blocks) 0 (m.meter + 1)) (turned_away 23)
      (λ g. acted w (lowest_free sizes m.blocks) 0 lose true) (λ g. refl))
      (λ t. acted w (block_used (view_of sizes (place_of m.workers w)).uses) (slot_used (view_of sizes (place_of m.workers w)).uses) lose false)

  carried : (w : ℕ) (v : Verdict) → Sense m.meter (place_of m.workers w) v
      → carried_by sizes act_of m w (place_of m.workers w) v ≡ outcome m (aim_by sizes m.blocks m.meter w (place_of m.workers w) v)
  unfolding begun leaves
  carried w (Refuse k) s = sym (simp (ne_eqb k 0 (λ z. omega arith)))
  carried w (Start c) s = sym (simp (kept m.blocks 0 new_block, kept m.slots 0 (slot 0 0)))
  carried w (Move lose) s = moved w lose

  entered : (x : Entry) → turn_by sizes act_of m x ≡ outcome m (aim_in sizes m.blocks m.workers m.count m.meter x)
  entered Unreadable = refl
  entered (Asks w o) = by_test (ltb w m.count) _ _ _ _ (λ g. carried w (verdict_of sizes m.meter (place_of m.workers w) o) (sense m.meter (place_of m.workers w) o)) (λ g. refl)

  module _ (first second : ℕ) where
    turns : turn_of sizes m first second ≡ outcome m (aim_here m first second)
    unfolding turn_with aim_of
    turns = by_test (broken_of sizes m) _ _ _ _ (λ b. refl) (λ b. entered (entry_here first second))

    module _ (a : Aim) (e : a ≡ aim_here m first second) where
      pub turned_refused : 0 < a.refusal → turn_of sizes m first second ≡ refused a.refusal m
      turned_refused h = turns ∙ sym (ap (outcome m) e) ∙ simp (ne_eqb a.refusal 0 (λ z. omega arith))

      pub turned_done : (l : List Slot) (d : Done) → a.refusal ≡ 0 → l ≡ slots_for m a → d ≡ done_in m a l → turn_of sizes m first second ≡ accepted (stored_by m a l d)
      turned_done l d h el ed = turns ∙ sym (ap (outcome m) e) ∙ (simp h)
          ∙ sym (ap (λ (x : Done). accepted (stored_by m a l x)) ed ∙ ap (λ (x : List Slot). accepted (stored_by m a x (done_in m a x))) el)

-- ---- where the loop reads and stores, of an entry that is not refused
abbrev Fits : Aim → Type 0
Fits a = a.refusal ≡ 0 → (a.worker < workers_most) × (a.block < 64) × (a.slot < 31)

refused_fits : (k : ℕ) → 0 < k → Fits (turned_away k)
refused_fits k l h = absurd (omega arith)

module _ (m : Machine) where
  module _ (u : broken_of sizes m ≡ false) (w : ℕ) (g : ltb w m.count ≡ true) where
    near : w < workers_most
    near = omega (arith, ltb-true w m.count g, unbroken_count m u)

    module _ (busy : (view_of sizes (place_of m.workers w)).busy ≡ true) where
      used : uses_fit sizes m.blocks (view_of sizes (place_of m.workers w)).uses ≡ true
      used = of_record m.blocks (place_of m.workers w) (ltb w m.count) busy (unbroken_records m u w near)

      block_below : (u : Uses) → uses_fit sizes m.blocks u ≡ true → block_used u < 64
      block_below uses.Nothing q = omega arith
      block_below (uses.Block k) q = live_below m.blocks k q
      block_below (uses.Slot k i) q = live_below m.blocks k (both_right (ltb i 31) _ q)

      slot_below : (u : Uses) → uses_fit sizes m.blocks u ≡ true → slot_used u < 31
      slot_below uses.Nothing q = omega arith
      slot_below (uses.Block k) q = omega arith
      slot_below (uses.Slot k i) q = ltb-true i 31 (both_left (ltb i 31) (live sizes m.blocks k) q)

      act_fits : (lose : Bool) → Fits (aim_act sizes m.blocks m.meter w (place_of m.workers w) lose)
      unfolding aim_act
      act_fits lose =
          either Fits (view_of sizes (place_of m.workers w)).takes _ _
          (λ t. either Fits (ltb (lowest_free sizes m.blocks) 64) _ (turned_away 23) (λ k h. (near, ltb-true _ 64 k, omega arith)) (λ k. refused_fits 23 (omega arith)))
          (λ t h. (near, block_below (view_of sizes (place_of m.workers w)).uses used, slot_below (view_of sizes (place_of m.workers w)).uses used))

    verdict_fits : (v : Verdict) → Sense m.meter (place_of m.workers w) v → Fits (aim_by sizes m.blocks m.meter w (place_of m.workers w) v)
    verdict_fits (Refuse k) s = refused_fits k s
    verdict_fits (Start c) s = λ h. (near, omega arith, omega arith)
    verdict_fits (Move lose) s = act_fits s.0 lose

  entry_fits : broken_of sizes m ≡ false → (x : Entry) → Fits (aim_in sizes m.blocks m.workers m.count m.meter x)
  entry_fits u Unreadable = refused_fits 9 (omega arith)
  entry_fits u (Asks w o) = either Fits (ltb w m.count) _ (turned_away 3)
      (λ g. verdict_fits u w g (verdict_of sizes m.meter (place_of m.workers w) o) (sense m.meter (place_of m.workers w) o))
      (λ g. refused_fits 3 (omega arith))

  pub aim_fits : (first second : ℕ) (a : Aim) → a ≡ aim_here m first second → a.refusal ≡ 0 → (a.worker < workers_most) × (a.block < 64) × (a.slot < 31)
  unfolding aim_of
  aim_fits first second a e =
      subst Fits (sym e) (either Fits (broken_of sizes m) (turned_away 6) _ (λ b. refused_fits 6 (omega arith)) (λ b. entry_fits b (entry_here first second)))

-- ---- the aim in two parts
pub ask_fits : (sound : Bool) (count first second : ℕ) (ask : Ask) → ask ≡ ask_of sound count first second → count ≤ workers_most → ask.worker < workers_most
unfolding ask_of
ask_fits sound count first second ask e few =
    subst Near (sym e) (either Near sound (ask_in count (entry_here first second)) (unasked 6) (λ b. entry (entry_here first second)) (λ b. omega arith))
  where
    Near : Ask → Type 0
    Near a = a.worker < workers_most

    entry : (x : Entry) → Near (ask_in count x)
    entry Unreadable = omega arith
    entry (Asks w o) = either Near (ltb w count) (asking w o) (unasked 3) (λ g. let h = ltb-true w count g in omega arith) (λ g. omega arith)

module _ (m : Machine) (first second : ℕ) where
  -- the lowest free block, where one is taken
  abbrev pub block_for : Aim → ℕ
  block_for way = cond way.takes (lowest_free sizes m.blocks) way.block

  abbrev pub way_for : Ask → Aim
  way_for ask = way_of sizes m.meter ask (place_of m.workers ask.worker)

  abbrev parts : Ask → Aim
  parts ask = aim_at sizes (way_for ask) (block_for (way_for ask))

  by_verdict : (w : ℕ) (v : Verdict) → aim_at sizes (way_by_act sizes m.meter w (place_of m.workers w) v)
      (block_for (way_by_act sizes m.meter w (place_of m.workers w) v)) ≡ aim_by sizes m.blocks m.meter w (place_of m.workers w) v
  unfolding aim_at aim_act
  by_verdict w (Refuse k) = refl
  by_verdict w (Start c) = refl
  by_verdict w (Move lose) = by (view_of sizes (place_of m.workers w)).takes
    where
      by : (t : Bool)
          → cond t (cond (ltb (cond t (lowest_free sizes m.blocks) (block_used (view_of sizes (place_of m.workers w)).uses)) 64)
          (aimed w (Act lose) true (cond t (lowest_free sizes m.blocks) (block_used (view_of sizes (place_of m.workers w)).uses)) 0 (m.meter + 1))
          (turned_away 23)) (aimed w (Act lose) t (block_used (view_of sizes (place_of m.workers w)).uses)
          (slot_used (view_of sizes (place_of m.workers w)).uses) (m.meter + 1))
          ≡ cond t (cond (ltb (lowest_free sizes m.blocks) 64) (aimed w (Act lose) true (lowest_free sizes m.blocks) 0 (m.meter + 1)) (turned_away 23))
          (aimed w (Act lose) false (block_used (view_of sizes (place_of m.workers w)).uses) (slot_used (view_of sizes (place_of m.workers w)).uses)
          (m.meter + 1))
      by true = refl
      by false = refl

  by_entry : (x : Entry) → parts (ask_in m.count x) ≡ aim_in sizes m.blocks m.workers m.count m.meter x
  unfolding way_of aim_at
  by_entry Unreadable = refl
  by_entry (Asks w o) = by (ltb w m.count)
    where
      by : (b : Bool) → parts (cond b (asking w o) (unasked 3)) ≡ cond b
          (aim_by sizes m.blocks m.meter w (place_of m.workers w) (verdict_of sizes m.meter (place_of m.workers w) o)) (turned_away 3)
      by true = by_verdict w (verdict_of sizes m.meter (place_of m.workers w) o)
      by false = refl

  pub in_parts : (sound : Bool) → broken_of sizes m ≡ not sound → (ask : Ask) → ask ≡ ask_of sound m.count first second → (way : Aim) → way ≡ way_for ask
      → (k : ℕ) → k ≡ block_for way → (a : Aim) → a ≡ aim_at sizes way k → a ≡ aim_here m first second
  unfolding ask_of aim_of way_of aim_at
  in_parts sound b ask ea way ew k ek a e =
      e ∙ ap (aim_at sizes way) ek ∙ ap (λ (x : Aim). aim_at sizes x (block_for x)) ew ∙ ap parts ea ∙ by sound
      ∙ sym (ap (λ (x : Bool). cond x (turned_away 6) (aim_in sizes m.blocks m.workers m.count m.meter (entry_here first second))) b)
    where
      by : (s : Bool) → parts (cond s (ask_in m.count (entry_here first second)) (unasked 6)) ≡ cond (not s) (turned_away 6)
          (aim_in sizes m.blocks m.workers m.count m.meter (entry_here first second))
      by true = by_entry (entry_here first second)
      by false = refl

pub aim_unbroken : (m : Machine) (first second : ℕ) (a : Aim) → a ≡ aim_here m first second → a.refusal ≡ 0 → broken_of sizes m ≡ false
unfolding aim_of
aim_unbroken m first second a e h = by (broken_of sizes m) (sym (ap (λ (x : Aim). x.refusal) e) ∙ h)
  where
    by : (b : Bool) → (cond b (turned_away 6) (aim_in sizes m.blocks m.workers m.count m.meter (entry_here first second))).refusal ≡ 0 → b ≡ false
    by true z = absurd (omega (arith, z))
    by false z = refl

-- ---- whether the worker of an entry that is not refused was busy
abbrev pub WasBusy : Order → Bool → Type 0
WasBusy (Begin c) b = b ≡ false
WasBusy (Act lose) b = b ≡ true

module _ (m : Machine) where
  abbrev Was : Aim → Type 0
  Was a = a.refusal ≡ 0 → WasBusy a.order (view_of sizes (place_of m.workers a.worker)).busy

  refused_was : (k : ℕ) → 0 < k → Was (turned_away k)
  refused_was k g h = absurd (omega arith)

  started : (w : ℕ) (o : Order) (c : Call) → verdict_of sizes m.meter (place_of m.workers w) o ≡ Start c → (view_of sizes (place_of m.workers w)).busy ≡ false
  started w o c h = starts_idle m.meter (view_of sizes (place_of m.workers w)).busy (view_of sizes (place_of m.workers w)).weak o c h

  verdict_was : (w : ℕ) (o : Order) (v : Verdict) → verdict_of sizes m.meter (place_of m.workers w) o ≡ v → Sense m.meter (place_of m.workers w) v
      → Was (aim_by sizes m.blocks m.meter w (place_of m.workers w) v)
  unfolding aim_act
  verdict_was w o (Refuse k) e s = refused_was k s
  verdict_was w o (Start c) e s = λ h. started w o c e
  verdict_was w o (Move lose) e s =
      either Was (view_of sizes (place_of m.workers w)).takes _ _
      (λ t. either Was (ltb (lowest_free sizes m.blocks) 64) _ (turned_away 23) (λ k h. s.0) (λ k. refused_was 23 (omega arith)))
      (λ t h. s.0)

  entry_was : (x : Entry) → Was (aim_in sizes m.blocks m.workers m.count m.meter x)
  entry_was Unreadable = refused_was 9 (omega arith)
  entry_was (Asks w o) =
      either Was (ltb w m.count) _ (turned_away 3)
      (λ g. verdict_was w o (verdict_of sizes m.meter (place_of m.workers w) o) refl (sense m.meter (place_of m.workers w) o)) (λ g. refused_was 3 (omega arith))

  pub aim_was : (first second : ℕ) (a : Aim) → a ≡ aim_here m first second → a.refusal ≡ 0 → WasBusy a.order (view_of sizes (place_of m.workers a.worker)).busy
  unfolding aim_of
  aim_was first second a e =
      subst Was (sym e) (either Was (broken_of sizes m) (turned_away 6) _ (λ b. refused_was 6 (omega arith)) (λ b. entry_was (entry_here first second)))

  abbrev Counted : Aim → Type 0
  Counted a = a.refusal ≡ 0 → a.worker < m.count

  pub aim_counted : (first second : ℕ) (a : Aim) → a ≡ aim_here m first second → a.refusal ≡ 0 → a.worker < m.count
  unfolding aim_of aim_act
  aim_counted first second a e =
      subst Counted (sym e) (either Counted (broken_of sizes m) (turned_away 6) _ (λ b h. absurd (omega arith)) (λ b. entry (entry_here first second)))
    where
      acts : (w : ℕ) (lose : Bool) → w < m.count → Counted (aim_act sizes m.blocks m.meter w (place_of m.workers w) lose)
      acts w lose g =
          either Counted (view_of sizes (place_of m.workers w)).takes _ _
          (λ t. either Counted (ltb (lowest_free sizes m.blocks) 64) _ (turned_away 23) (λ k h. g) (λ k h. absurd (omega arith)))
          (λ t h. g)

      verdict : (w : ℕ) (v : Verdict) → w < m.count → Sense m.meter (place_of m.workers w) v → Counted (aim_by sizes m.blocks m.meter w (place_of m.workers w) v)
      verdict w (Refuse k) g s = λ h. absurd (omega arith)
      verdict w (Start c) g s = λ h. g
      verdict w (Move lose) g s = acts w lose g

      entry : (x : Entry) → Counted (aim_in sizes m.blocks m.workers m.count m.meter x)
      entry Unreadable = λ h. absurd (omega arith)
      entry (Asks w o) =
          either Counted (ltb w m.count) _ (turned_away 3)
          (λ g. verdict w (verdict_of sizes m.meter (place_of m.workers w) o) (ltb-true w m.count g) (sense m.meter (place_of m.workers w) o)) (λ g h. absurd (omega arith))

pub done_busy : (m : Machine) (a : Aim) (l : List Slot) (d : Done) → d ≡ done_in m a l → (c : Call) → a.order ≡ Begin c → (view_of sizes d.worker.place).busy ≡ true
unfolding leaves
done_busy m a l d e c h =
    ap (λ (x : Done). (view_of sizes x.worker.place).busy) (e ∙ ap
    (done_of sizes m.ends a.block (block_at m.blocks a.block) (slot_at sizes l a.block a.slot) (get_or m.workers a.worker idler)) h)
    ∙ begins_busy c

-- ---- what is looked at after an entry
pub look_below : (p : Place) (look : Look) → look ≡ look_at sizes p → look.block < 64
unfolding look_at look_slot look_block
look_below p look e = subst Low (sym e) (either Low (view_of sizes p).busy (look_uses sizes (view_of sizes p).uses) (looked false false true 0) (λ h. low (view_of sizes p).uses) (λ h. omega arith))
  where
    Low : Look → Type 0
    Low x = x.block < 64

    block : (k : ℕ) → Low (look_block sizes k)
    block k = either Low (ltb k 64) (looked true true true k) (looked true false false 0) (λ h. ltb-true k 64 h) (λ h. omega arith)

    low : (u : Uses) → Low (look_uses sizes u)
    low uses.Nothing = omega arith
    low (uses.Block k) = block k
    low (uses.Slot k i) = either Low (ltb i 31) (look_block sizes k) (looked true false false 0) (λ h. block k) (λ h. omega arith)

pub look_told : (p : Place) (look : Look) → look ≡ look_at sizes p → look.busy ≡ (view_of sizes p).busy
unfolding look_at look_slot look_block
look_told p look e = ap (λ (x : Look). x.busy) e ∙ by (view_of sizes p).busy
  where
    block : (k : ℕ) → (look_block sizes k).busy ≡ true
    block k = either (λ (x : Look). x.busy ≡ true) (ltb k 64) (looked true true true k) (looked true false false 0) (λ h. refl) (λ h. refl)

    used : (u : Uses) → (look_uses sizes u).busy ≡ true
    used uses.Nothing = refl
    used (uses.Block k) = block k
    used (uses.Slot k i) = either (λ (x : Look). x.busy ≡ true) (ltb i 31) (look_block sizes k) (looked true false false 0) (λ h. block k) (λ h. refl)

    by : (b : Bool) → (cond b (look_uses sizes (view_of sizes p).uses) (looked false false true 0)).busy ≡ b
    by true = used (view_of sizes p).uses
    by false = refl

pub look_fits : (p : Place) (look : Look) → look ≡ look_at sizes p → (l : List Block) → fits_at look (block_at l look.block) ≡ record_fits sizes l p true
unfolding look_at look_slot look_block fits_at record_fits live
look_fits p look e l = ap (λ (x : Look). fits_at x (block_at l x.block)) e ∙ by (view_of sizes p).busy
  where
    block : (k : ℕ) → fits_at (look_block sizes k) (block_at l (look_block sizes k).block) ≡ live sizes l k
    block k = go (ltb k 64)
      where
        go : (b : Bool) → fits_at (cond b (looked true true true k) (looked true false false 0))
            (block_at l (cond b (looked true true true k) (looked true false false 0)).block) ≡ cond b (not (block_at l k).free) false
        go true = refl
        go false = refl

    used : (u : Uses) → fits_at (look_uses sizes u) (block_at l (look_uses sizes u).block) ≡ uses_fit sizes l u
    used uses.Nothing = refl
    used (uses.Block k) = block k
    used (uses.Slot k i) = go (ltb i 31)
      where
        go : (b : Bool) → fits_at (cond b (look_block sizes k) (looked true false false 0)) (block_at l (cond b (look_block sizes k) (looked true false false 0)).block) ≡ cond b (live sizes l k) false
        go true = block k
        go false = refl

    by : (b : Bool) → fits_at (cond b (look_uses sizes (view_of sizes p).uses) (looked false false true 0))
        (block_at l (cond b (look_uses sizes (view_of sizes p).uses) (looked false false true 0)).block) ≡ cond b (uses_fit sizes l (view_of sizes p).uses) true
    by true = used (view_of sizes p).uses
    by false = refl

-- ---- two headers that are told to be the same are
pointers : (p q : Pointer) → same_pointer sizes p q ≡ true → p ≡ q
unfolding same_pointer
pointers None None h = refl
pointers None (To j) h = absurd (true≢false (sym h))
pointers (To k) None h = absurd (true≢false (sym h))
pointers (To k) (To j) h = ap To (eqb-true k j h)

pub headers : (a b : Block) → same_header sizes a b ≡ true → a ≡ b
unfolding same_header
headers a b h =
    by (pointers a.next b.next (both_left (same_pointer sizes a.next b.next) (cond a.free b.free (not b.free)) h))
    (frees a.free b.free (both_right (same_pointer sizes a.next b.next) (cond a.free b.free (not b.free)) h))
  where
    frees : (f g : Bool) → cond f g (not g) ≡ true → f ≡ g
    frees true true z = refl
    frees true false z = absurd (true≢false (sym z))
    frees false true z = absurd (true≢false (sym z))
    frees false false z = refl

    by : a.next ≡ b.next → a.free ≡ b.free → a ≡ b
    by p q = ap (λ (x : Pointer). record { next = x; free = a.free }) p ∙ ap (λ (x : Bool). record { next = b.next; free = x }) q
