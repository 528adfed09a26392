-- Laws of the plain queue's replies, and of places, that the run of one step a call rests on.
use mathlib.Core.Path.{◌≡◌, refl, sym, ap, ◌∙◌, subst}
use mathlib.Core.Logic.{◌⊎◌, inl, inr}
use mathlib.Core.Bool.{Bool, true, false, cond, true≢false}
use mathlib.Core.List.{List, [], ◌∷◌, ◌++◌, append-nil}
use Prim.Native.Nat.{ℕ, suc}
use native.Mathlib.Omega.{arith}
use lib.Dec.{eqb}
use lib.ListN.{length, drop, length-append}
use Rattle.queue_entries.specs.declared.Call.{Call}
use Rattle.queue_entries.specs.declared.Call.TheVariants as call
use Rattle.queue_plain.specs.Plain.{Queue, Reply, queue, answer_of, left_by, full_of, front_of}
use Rattle.queue_plain.specs.Plain as plain
use Rattle.queue_plain.specs.OneStep.{Step}
use Rattle.queue_plain.specs.Story.{item_of, items_of}
use Rattle.bounded_words.specs.declared.Stamp.{Stamp}
use Rattle.bounded_words.specs.Words.{same}
use Rattle.bounded_places.specs.declared.Kind.{Kind}
use Rattle.bounded_places.specs.declared.Answer.{Answer}
use Rattle.bounded_places.specs.declared.Answer.TheVariants.{Nothing, Pushed, Full, Closed, Displaced, Popped, Empty, PopClosed, Len, Yes, No}
use Rattle.bounded_places.specs.declared.Place.{Place}
use Rattle.bounded_places.specs.declared.Place.TheVariants.{Idle, P1, P2, P3, P4, P5, P6, F6, F7, F8, F9, O1, O2, O3, O4, O5, O6, Len1, Len2, Len3, Empty1, Empty2, Full1, Full2, Close1, IsClosed1}
use Rattle.bounded_places.specs.Places.{view_of}
use Rattle.bounded_causes.specs.Causes.{stand_of}
use Rattle.bounded_moments.specs.declared.Timing.{Timing}
use Rattle.bounded_moments.specs.declared.Timing.TheVariants.{Now, Stays, IfSome, IfRoom}
use Rattle.bounded_moments.specs.Moments.{timing_said, timing_of}
use Rattle.bounded_demands.specs.Stories.{one_step, At}
use Rattle.bounded_proof_plain.proofs.Work.{pushing}
use Rattle.bounded_proof_plain.proofs.Rows.{pushed_item}
use Rattle.bounded_proof_plain.proofs.Told.{i, a, u}
use Rattle.bounded_proof_plain.proofs.Lined.{out_of}

-- ---- small laws

pub both_false : (b : Bool) → cond b false false ≡ false
both_false true = refl
both_false false = refl

pub at_one : (i j : ℕ) → At i ≡ At j → i ≡ j
at_one i j e = cc

-- a call that came with no item is no push
pub no_push : {P : Type 0} (l : List Call) (cl : Call) (kd : Kind) (y : ℕ) → item_of cl ≡ [] → l ≡ cl ∷ [] → l ≡ pushing kd y ∷ [] → P
unfolding items_of
no_push l cl kd y none a b =
    absurd (let q : ◌≡◌ {A = ℕ} 0 1 = ap length (sym (append-nil (item_of cl) ∙ none) ∙ ap items_of (sym a ∙ b) ∙ pushed_item kd y) in omega arith)

pub some_none : {P : Type 0} (l : List ℕ) (v : ℕ) → l ≡ v ∷ [] → l ≡ [] → P
some_none l v a b = absurd (let q : ◌≡◌ {A = ℕ} 0 1 = ap length (sym b ∙ a) in omega arith)

pub none_before : (a b : List ℕ) (x : ℕ) → a ++ b ≡ x ∷ [] → length b ≡ 1 → a ≡ []
none_before [] b x h long = refl
none_before (y ∷ a) b x h long = absurd (let q : suc (length (a ++ b)) ≡ 1 = ap length h in omega (arith, length-append a b))

-- a busy place has not answered yes
pub busy_silent : (q : Place) → (view_of q).busy ≡ true → (stand_of q).yes ≡ false
busy_silent (Idle x) h = absurd (true≢false (sym h))
busy_silent (P1 k x) h = refl
busy_silent (P2 k t x) h = refl
busy_silent (P3 k t x) h = refl
busy_silent (P4 t x) h = refl
busy_silent (P5 t) h = refl
busy_silent (P6 t x) h = refl
busy_silent (F6 t x) h = refl
busy_silent (F7 t x) h = refl
busy_silent (F8 t x) h = refl
busy_silent (F9 t old) h = refl
busy_silent O1 h = refl
busy_silent (O2 x) h = refl
busy_silent (O3 x) h = refl
busy_silent (O4 x) h = refl
busy_silent (O5 x v) h = refl
busy_silent (O6 x) h = refl
busy_silent Len1 h = refl
busy_silent (Len2 t) h = refl
busy_silent (Len3 t x) h = refl
busy_silent Empty1 h = refl
busy_silent (Empty2 x) h = refl
busy_silent Full1 h = refl
busy_silent (Full2 t) h = refl
busy_silent Close1 h = refl
busy_silent IsClosed1 h = refl

-- the items of a full queue replaced by as many: a step that displaced none and left the items answers and leaves the same
pub neutral : (q p : Queue) (l : List ℕ) (y : Step) → length l ≡ length q.items → ((v : ℕ) → y.reply ≡ plain.Displaced v → ⊥)
    → y.reply ≡ answer_of q y.call → p ≡ left_by q y.call → p.items ≡ q.items
    → (y.reply ≡ answer_of (queue l q.closed q.capacity) y.call) × (queue l p.closed p.capacity ≡ left_by (queue l q.closed q.capacity) y.call)
neutral q p l y long undisplaced says left same = go y.call refl
  where
    same_full : full_of (queue l q.closed q.capacity) ≡ full_of q
    same_full = ap (λ (k : ℕ). eqb k q.capacity) long

    grown : {P : Type 0} (x : ℕ) (k : List ℕ) → p.items ≡ q.items ++ x ∷ [] → P
    grown x k e = absurd (let z : length q.items ≡ length (q.items ++ x ∷ []) = ap length (sym same ∙ e) in omega (arith, length-append q.items (x ∷ [])))

    Same : Call → Type 0
    Same cl = (y.reply ≡ answer_of (queue l q.closed q.capacity) cl) × (queue l p.closed p.capacity ≡ left_by (queue l q.closed q.capacity) cl)

    kept : (cl : Call) → p ≡ q → left_by (queue l q.closed q.capacity) cl ≡ queue l q.closed q.capacity → queue l p.closed p.capacity ≡ left_by (queue l q.closed q.capacity) cl
    kept cl e h = ap (λ (o : Queue). queue l o.closed o.capacity) e ∙ sym h

    shut_push : (x : ℕ) (b d : Bool) → q.closed ≡ b → full_of q ≡ d → y.reply ≡ answer_of q (call.Push x) → p ≡ left_by q (call.Push x) → Same (call.Push x)
    shut_push x true d h k r z = (
      r ∙ ap (λ (v : Bool). cond q.closed (plain.Closed x) (cond v (plain.Full x) plain.Pushed)) (sym same_full),
      kept (call.Push x) (let e : left_by q (call.Push x) ≡ q = rw h in z ∙ e) (rw h),
    )
    shut_push x false true h k r z = (
      r ∙ ap (λ (v : Bool). cond q.closed (plain.Closed x) (cond v (plain.Full x) plain.Pushed)) (sym same_full),
      kept (call.Push x) (let e : left_by q (call.Push x) ≡ q = rw (h, k) in z ∙ e) (rw (h, same_full, k)),
    )
    shut_push x false false h k r z = grown x [] (let e : left_by q (call.Push x) ≡ queue (q.items ++ x ∷ []) q.closed q.capacity = rw (h, k) in ap (λ (o : Queue). o.items) (z ∙ e))

    go : (cl : Call) → y.call ≡ cl → Same y.call
    go cl e = subst Same (sym e) (each cl (says ∙ ap (answer_of q) e) (left ∙ ap (left_by q) e))
      where
        each : (cl : Call) → y.reply ≡ answer_of q cl → p ≡ left_by q cl → Same cl
        each (call.Push x) r z = shut_push x q.closed (full_of q) refl refl r z
        each (call.ForcePush x) r z = force q.closed (full_of q) refl refl
          where
            force : (b d : Bool) → q.closed ≡ b → full_of q ≡ d → Same (call.ForcePush x)
            force true d h k =
                let e : left_by q (call.ForcePush x) ≡ q = rw h in
                let f : answer_of q (call.ForcePush x) ≡ plain.Closed x = rw h in
                let g : answer_of (queue l q.closed q.capacity) (call.ForcePush x) ≡ plain.Closed x = rw h in
                (r ∙ f ∙ sym g, kept (call.ForcePush x) (z ∙ e) (rw h))
            force false false h k =
                let e : left_by q (call.ForcePush x) ≡ queue (q.items ++ x ∷ []) q.closed q.capacity = rw (h, k) in
                grown x [] (ap (λ (o : Queue). o.items) (z ∙ e))
            force false true h k = front q.items refl
              where
                front : (items : List ℕ) → q.items ≡ items → Same (call.ForcePush x)
                front [] i =
                    let e : left_by q (call.ForcePush x) ≡ queue (drop 1 q.items ++ x ∷ []) q.closed q.capacity = rw (h, k) in
                    let f : p.items ≡ drop 1 q.items ++ x ∷ [] = ap (λ (o : Queue). o.items) (z ∙ e) in
                    grown x [] (f ∙ ap (λ (o : List ℕ). drop 1 o ++ x ∷ []) i ∙ ap (λ (o : List ℕ). o ++ x ∷ []) (sym i))
                front (v ∷ others) i =
                    let e : answer_of q (call.ForcePush x) ≡ front_of plain.Displaced plain.Pushed q.items = rw (h, k) in
                    absurd (undisplaced v (r ∙ e ∙ ap (front_of plain.Displaced plain.Pushed) i))
        each call.Pop r z = front q.items refl
          where
            front : (items : List ℕ) → q.items ≡ items → Same call.Pop
            front [] i =
                let none : l ≡ [] = nothing l (long ∙ ap length i) in
                let e : l ≡ drop 1 l = none ∙ sym (ap (λ (k : List ℕ). drop 1 k) none) in (
                  r ∙ ap (front_of plain.Popped (cond q.closed plain.EmptyAndClosed plain.Empty)) (i ∙ sym none),
                  ap (λ (o : Queue). queue l o.closed o.capacity) z ∙ ap (λ (k : List ℕ). queue k q.closed q.capacity) e,
                )
              where
                nothing : (k : List ℕ) → length k ≡ 0 → k ≡ []
                nothing [] h = refl
                nothing (x ∷ k) h = absurd (omega arith)
            front (v ∷ others) i =
                absurd (let e : length (drop 1 q.items) ≡ length q.items = ap length (ap (λ (o : Queue). o.items) (sym z) ∙ same) in
                let d : length (drop 1 q.items) ≡ length others = ap (λ (k : List ℕ). length (drop 1 k)) i in
                let f : length q.items ≡ suc (length others) = ap length i in omega arith)
        each call.Len r z = (r ∙ ap plain.Count (sym long), ap (λ (o : Queue). queue l o.closed o.capacity) z)
        each call.IsEmpty r z = (r ∙ ap (λ (k : ℕ). cond (eqb k 0) plain.Yes plain.No) (sym long), ap (λ (o : Queue). queue l o.closed o.capacity) z)
        each call.IsFull r z = (r ∙ ap (λ (k : Bool). cond k plain.Yes plain.No) (sym same_full), ap (λ (o : Queue). queue l o.closed o.capacity) z)
        each call.Close r z = (r, ap (λ (o : Queue). queue l o.closed o.capacity) z)
        each call.IsClosed r z = (r, ap (λ (o : Queue). queue l o.closed o.capacity) z)

-- ---- what an answer tells of the call that gave it

pub pushed_call : (q : Queue) (cl : Call) → answer_of q cl ∷ [] ≡ plain.Pushed ∷ [] → (x : ℕ) × (items_of (cl ∷ []) ≡ x ∷ [])
unfolding items_of
pushed_call q (call.Push x) e = (x, refl)
pushed_call q (call.ForcePush x) e = (x, refl)
pushed_call q call.Pop e = absurd (popping q.items q.closed e)
  where
    popping : (l : List ℕ) (b : Bool) → front_of plain.Popped (cond b plain.EmptyAndClosed plain.Empty) l ∷ [] ≡ plain.Pushed ∷ [] → ⊥
    popping [] true h = let z : ◌≡◌ {A = ℕ} 0 1 = cc in omega arith
    popping [] false h = let z : ◌≡◌ {A = ℕ} 0 1 = cc in omega arith
    popping (v ∷ l) b h = let z : ◌≡◌ {A = ℕ} 0 1 = cc in omega arith
pushed_call q call.Len e = absurd (let z : ◌≡◌ {A = ℕ} 0 1 = cc in omega arith)
pushed_call q call.IsEmpty e = absurd (yes_no (eqb (length q.items) 0) e)
  where
    yes_no : (b : Bool) → cond b plain.Yes plain.No ∷ [] ≡ plain.Pushed ∷ [] → ⊥
    yes_no true h = let z : ◌≡◌ {A = ℕ} 0 1 = cc in omega arith
    yes_no false h = let z : ◌≡◌ {A = ℕ} 0 1 = cc in omega arith
pushed_call q call.IsFull e = absurd (yes_no (full_of q) e)
  where
    yes_no : (b : Bool) → cond b plain.Yes plain.No ∷ [] ≡ plain.Pushed ∷ [] → ⊥
    yes_no true h = let z : ◌≡◌ {A = ℕ} 0 1 = cc in omega arith
    yes_no false h = let z : ◌≡◌ {A = ℕ} 0 1 = cc in omega arith
pushed_call q call.Close e = absurd (yes_no q.closed e)
  where
    yes_no : (b : Bool) → cond b plain.No plain.Yes ∷ [] ≡ plain.Pushed ∷ [] → ⊥
    yes_no true h = let z : ◌≡◌ {A = ℕ} 0 1 = cc in omega arith
    yes_no false h = let z : ◌≡◌ {A = ℕ} 0 1 = cc in omega arith
pushed_call q call.IsClosed e = absurd (yes_no q.closed e)
  where
    yes_no : (b : Bool) → cond b plain.Yes plain.No ∷ [] ≡ plain.Pushed ∷ [] → ⊥
    yes_no true h = let z : ◌≡◌ {A = ℕ} 0 1 = cc in omega arith
    yes_no false h = let z : ◌≡◌ {A = ℕ} 0 1 = cc in omega arith

-- what has been taken out is answered by that name
pub displaced_call : (q : Queue) (cl : Call) (v : ℕ) → answer_of q cl ∷ [] ≡ plain.Displaced v ∷ [] → (x : ℕ) → out_of cl x ≡ plain.Displaced x
displaced_call q (call.Push y) v e x = absurd (pushing_to q.closed (full_of q) e)
  where
    pushing_to : (b d : Bool) → cond b (plain.Closed y) (cond d (plain.Full y) plain.Pushed) ∷ [] ≡ plain.Displaced v ∷ [] → ⊥
    pushing_to true d h = let z : ◌≡◌ {A = ℕ} 0 1 = cc in omega arith
    pushing_to false true h = let z : ◌≡◌ {A = ℕ} 0 1 = cc in omega arith
    pushing_to false false h = let z : ◌≡◌ {A = ℕ} 0 1 = cc in omega arith
displaced_call q (call.ForcePush y) v e x = refl
displaced_call q call.Pop v e x = absurd (popping q.items q.closed e)
  where
    popping : (l : List ℕ) (b : Bool) → front_of plain.Popped (cond b plain.EmptyAndClosed plain.Empty) l ∷ [] ≡ plain.Displaced v ∷ [] → ⊥
    popping [] true h = let z : ◌≡◌ {A = ℕ} 0 1 = cc in omega arith
    popping [] false h = let z : ◌≡◌ {A = ℕ} 0 1 = cc in omega arith
    popping (y ∷ l) b h = let z : ◌≡◌ {A = ℕ} 0 1 = cc in omega arith
displaced_call q call.Len v e x = absurd (let z : ◌≡◌ {A = ℕ} 0 1 = cc in omega arith)
displaced_call q call.IsEmpty v e x = absurd (yes_no (eqb (length q.items) 0) e)
  where
    yes_no : (b : Bool) → cond b plain.Yes plain.No ∷ [] ≡ plain.Displaced v ∷ [] → ⊥
    yes_no true h = let z : ◌≡◌ {A = ℕ} 0 1 = cc in omega arith
    yes_no false h = let z : ◌≡◌ {A = ℕ} 0 1 = cc in omega arith
displaced_call q call.IsFull v e x = absurd (yes_no (full_of q) e)
  where
    yes_no : (b : Bool) → cond b plain.Yes plain.No ∷ [] ≡ plain.Displaced v ∷ [] → ⊥
    yes_no true h = let z : ◌≡◌ {A = ℕ} 0 1 = cc in omega arith
    yes_no false h = let z : ◌≡◌ {A = ℕ} 0 1 = cc in omega arith
displaced_call q call.Close v e x = absurd (yes_no q.closed e)
  where
    yes_no : (b : Bool) → cond b plain.No plain.Yes ∷ [] ≡ plain.Displaced v ∷ [] → ⊥
    yes_no true h = let z : ◌≡◌ {A = ℕ} 0 1 = cc in omega arith
    yes_no false h = let z : ◌≡◌ {A = ℕ} 0 1 = cc in omega arith
displaced_call q call.IsClosed v e x = absurd (yes_no q.closed e)
  where
    yes_no : (b : Bool) → cond b plain.Yes plain.No ∷ [] ≡ plain.Displaced v ∷ [] → ⊥
    yes_no true h = let z : ◌≡◌ {A = ℕ} 0 1 = cc in omega arith
    yes_no false h = let z : ◌≡◌ {A = ℕ} 0 1 = cc in omega arith

pub popped_call : (q : Queue) (cl : Call) (v : ℕ) → answer_of q cl ∷ [] ≡ plain.Popped v ∷ [] → (x : ℕ) → out_of cl x ≡ plain.Popped x
popped_call q (call.Push y) v e x = refl
popped_call q (call.ForcePush y) v e x = absurd (forcing q.closed (full_of q) q.items e)
  where
    forcing : (b d : Bool) (l : List ℕ) → cond b (plain.Closed y) (cond d (front_of plain.Displaced plain.Pushed l) plain.Pushed) ∷ [] ≡ plain.Popped v ∷ [] → ⊥
    forcing true d l h = let z : ◌≡◌ {A = ℕ} 0 1 = cc in omega arith
    forcing false true [] h = let z : ◌≡◌ {A = ℕ} 0 1 = cc in omega arith
    forcing false true (u ∷ l) h = let z : ◌≡◌ {A = ℕ} 0 1 = cc in omega arith
    forcing false false l h = let z : ◌≡◌ {A = ℕ} 0 1 = cc in omega arith
popped_call q call.Pop v e x = refl
popped_call q call.Len v e x = refl
popped_call q call.IsEmpty v e x = refl
popped_call q call.IsFull v e x = refl
popped_call q call.Close v e x = refl
popped_call q call.IsClosed v e x = refl

-- replies that a call gives at its last act, without an item moved
abbrev pub bare : Reply → Bool
bare plain.Pushed = false
bare plain.Empty = true
bare plain.EmptyAndClosed = true
bare plain.Yes = true
bare plain.No = true
bare (plain.Full x) = false
bare (plain.Closed x) = true
bare (plain.Displaced x) = false
bare (plain.Popped x) = false
bare (plain.Count x) = false

-- Two queues alike but for items at the back of one, none where the other has none: a bare reply of a call that is one step is both's, and leaves both alike.
pub record Alike (q r : Queue) (more : List ℕ) (cl : Call) : Type 0 where
  pub says : answer_of r cl ≡ answer_of q cl
  pub items : (left_by r cl).items ≡ r.items
  pub same_items : (left_by q cl).items ≡ q.items
  pub closed : (left_by r cl).closed ≡ (left_by q cl).closed
  pub capacity : (left_by r cl).capacity ≡ r.capacity

pub alike : (ed : ℕ) (q r : Queue) (more : List ℕ) → r.items ≡ q.items ++ more → r.closed ≡ q.closed → (cl : Call)
    → (cl ≡ call.Pop → q.items ≡ [] → more ≡ []) → one_step ed cl ≡ true → bare (answer_of q cl) ≡ true
    → Alike q r more cl
alike ed q r more items flag (call.Push x) back ok h = go q.closed (full_of q) refl refl
  where
    go : (b d : Bool) → q.closed ≡ b → full_of q ≡ d → Alike q r more (call.Push x)
    go true d e f =
        let e_r : r.closed ≡ true = flag ∙ e in
        record { says = rw (e, e_r); items = rw e_r; same_items = rw e; closed = rw (e, e_r); capacity = rw e_r }
    go false true e f = absurd (true≢false (sym (rw (e, f) at h)))
    go false false e f = absurd (true≢false (sym (rw (e, f) at h)))
alike ed q r more items flag (call.ForcePush x) back ok h = go q.closed (full_of q) q.items refl refl refl
  where
    go : (b d : Bool) (l : List ℕ) → q.closed ≡ b → full_of q ≡ d → q.items ≡ l → Alike q r more (call.ForcePush x)
    go true d l e f i =
        let e_r : r.closed ≡ true = flag ∙ e in
        record { says = rw (e, e_r); items = rw e_r; same_items = rw e; closed = rw (e, e_r); capacity = rw e_r }
    go false true [] e f i = absurd (true≢false (sym (let z : bare (front_of plain.Displaced plain.Pushed q.items) ≡ true = rw (e, f) at h in
        sym (ap (λ (k : List ℕ). bare (front_of plain.Displaced plain.Pushed k)) i) ∙ z)))
    go false true (v ∷ l) e f i = absurd (true≢false (sym (let z : bare (front_of plain.Displaced plain.Pushed q.items) ≡ true = rw (e, f) at h in
        sym (ap (λ (k : List ℕ). bare (front_of plain.Displaced plain.Pushed k)) i) ∙ z)))
    go false false l e f i = absurd (true≢false (sym (rw (e, f) at h)))
alike ed q r more items flag call.Pop back ok h = go q.items refl
  where
    go : (l : List ℕ) → q.items ≡ l → Alike q r more call.Pop
    go [] i =
        let none : r.items ≡ [] = items ∙ ap (λ (k : List ℕ). k ++ more) i ∙ back refl i in
        record {
          says = ap (front_of plain.Popped (cond r.closed plain.EmptyAndClosed plain.Empty)) none
              ∙ ap (λ (b : Bool). cond b plain.EmptyAndClosed plain.Empty) flag
              ∙ sym (ap (front_of plain.Popped (cond q.closed plain.EmptyAndClosed plain.Empty)) i);
          items = ap (λ (k : List ℕ). drop 1 k) none ∙ sym none;
          same_items = ap (λ (k : List ℕ). drop 1 k) i ∙ sym i;
          closed = flag;
          capacity = refl;
        }
    go (v ∷ l) i = absurd (true≢false (sym (sym (ap (λ (k : List ℕ). bare (front_of plain.Popped (cond q.closed plain.EmptyAndClosed plain.Empty) k)) i) ∙ h)))
alike ed q r more items flag call.Len back ok h = absurd (true≢false (sym ok))
alike ed q r more items flag call.IsEmpty back ok h = absurd (true≢false (sym ok))
alike ed q r more items flag call.IsFull back ok h = absurd (true≢false (sym ok))
alike ed q r more items flag call.Close back ok h =
    record { says = ap (λ (b : Bool). cond b plain.No plain.Yes) flag; items = refl; same_items = refl; closed = refl; capacity = refl }
alike ed q r more items flag call.IsClosed back ok h =
    record { says = ap (λ (b : Bool). cond b plain.Yes plain.No) flag; items = refl; same_items = refl; closed = flag; capacity = refl }

-- which calls give which replies
pub bare_close : (q : Queue) (cl : Call) → bare (answer_of q cl) ≡ false → cl ≡ call.Close → ⊥
bare_close q cl h e = go q.closed (subst (λ (x : Call). bare (answer_of q x) ≡ false) e h)
  where
    go : (b : Bool) → bare (cond b plain.No plain.Yes) ≡ false → ⊥
    go true z = true≢false z
    go false z = true≢false z

abbrev pub pops : Reply → Bool
pops plain.Pushed = false
pops plain.Empty = true
pops plain.EmptyAndClosed = true
pops plain.Yes = false
pops plain.No = false
pops (plain.Full x) = false
pops (plain.Closed x) = false
pops (plain.Displaced x) = false
pops (plain.Popped x) = true
pops (plain.Count x) = false

pub pop_says : (q : Queue) (cl : Call) → pops (answer_of q cl) ≡ false → cl ≡ call.Pop → ⊥
pop_says q cl h e = go q.items q.closed (subst (λ (x : Call). pops (answer_of q x) ≡ false) e h)
  where
    go : (l : List ℕ) (b : Bool) → pops (front_of plain.Popped (cond b plain.EmptyAndClosed plain.Empty) l) ≡ false → ⊥
    go [] true z = true≢false z
    go [] false z = true≢false z
    go (v ∷ l) b z = true≢false z

abbrev pub counts : Reply → Bool
counts plain.Pushed = false
counts plain.Empty = false
counts plain.EmptyAndClosed = false
counts plain.Yes = false
counts plain.No = false
counts (plain.Full x) = false
counts (plain.Closed x) = false
counts (plain.Displaced x) = false
counts (plain.Popped x) = false
counts (plain.Count x) = true

pub no_count : (ed : ℕ) (q : Queue) (cl : Call) → one_step ed cl ≡ true → counts (answer_of q cl) ≡ false
no_count ed q (call.Push x) ok = go q.closed (full_of q)
  where
    go : (b d : Bool) → counts (cond b (plain.Closed x) (cond d (plain.Full x) plain.Pushed)) ≡ false
    go true d = refl
    go false true = refl
    go false false = refl
no_count ed q (call.ForcePush x) ok = go q.closed (full_of q) q.items
  where
    go : (b d : Bool) (l : List ℕ) → counts (cond b (plain.Closed x) (cond d (front_of plain.Displaced plain.Pushed l) plain.Pushed)) ≡ false
    go true d l = refl
    go false true [] = refl
    go false true (v ∷ l) = refl
    go false false l = refl
no_count ed q call.Pop ok = go q.items q.closed
  where
    go : (l : List ℕ) (b : Bool) → counts (front_of plain.Popped (cond b plain.EmptyAndClosed plain.Empty) l) ≡ false
    go [] true = refl
    go [] false = refl
    go (v ∷ l) b = refl
no_count ed q call.Len ok = absurd (true≢false (sym ok))
no_count ed q call.IsEmpty ok = absurd (true≢false (sym ok))
no_count ed q call.IsFull ok = absurd (true≢false (sym ok))
no_count ed q call.Close ok = go q.closed
  where
    go : (b : Bool) → counts (cond b plain.No plain.Yes) ≡ false
    go true = refl
    go false = refl
no_count ed q call.IsClosed ok = go q.closed
  where
    go : (b : Bool) → counts (cond b plain.Yes plain.No) ≡ false
    go true = refl
    go false = refl

-- no call but close changes the flag
pub left_closed : (q : Queue) (cl : Call) → (cl ≡ call.Close → ⊥) → (left_by q cl).closed ≡ q.closed
left_closed q (call.Push x) ne = go q.closed (full_of q) refl
  where
    go : (b d : Bool) → q.closed ≡ b → (cond b q (cond d q (queue (q.items ++ x ∷ []) q.closed q.capacity))).closed ≡ q.closed
    go true d e = refl
    go false true e = refl
    go false false e = refl
left_closed q (call.ForcePush x) ne = go q.closed
  where
    go : (b : Bool) → (cond b q (queue (cond (full_of q) (drop 1 q.items) q.items ++ x ∷ []) q.closed q.capacity)).closed ≡ q.closed
    go true = refl
    go false = refl
left_closed q call.Pop ne = refl
left_closed q call.Len ne = refl
left_closed q call.IsEmpty ne = refl
left_closed q call.IsFull ne = refl
left_closed q call.Close ne = absurd (ne refl)
left_closed q call.IsClosed ne = refl

pub close_or : (cl : Call) → (cl ≡ call.Close) ⊎ (cl ≡ call.Close → ⊥)
close_or (call.Push x) = inr (λ e. let z : ◌≡◌ {A = ℕ} 0 1 = cc in omega arith)
close_or (call.ForcePush x) = inr (λ e. let z : ◌≡◌ {A = ℕ} 0 1 = cc in omega arith)
close_or call.Pop = inr (λ e. let z : ◌≡◌ {A = ℕ} 0 1 = cc in omega arith)
close_or call.Len = inr (λ e. let z : ◌≡◌ {A = ℕ} 0 1 = cc in omega arith)
close_or call.IsEmpty = inr (λ e. let z : ◌≡◌ {A = ℕ} 0 1 = cc in omega arith)
close_or call.IsFull = inr (λ e. let z : ◌≡◌ {A = ℕ} 0 1 = cc in omega arith)
close_or call.Close = inl refl
close_or call.IsClosed = inr (λ e. let z : ◌≡◌ {A = ℕ} 0 1 = cc in omega arith)

pub one_reply : (r t : Reply) → r ∷ [] ≡ t ∷ [] → r ≡ t
one_reply r t e = cc

-- a place whose act sets the mark
pub close_place : (p : Place) → (stand_of p).close ≡ true → p ≡ Close1
close_place (Idle x) h = absurd (true≢false (sym h))
close_place (P1 k x) h = absurd (true≢false (sym h))
close_place (P2 k t x) h = absurd (true≢false (sym h))
close_place (P3 k t x) h = absurd (true≢false (sym h))
close_place (P4 t x) h = absurd (true≢false (sym h))
close_place (P5 t) h = absurd (true≢false (sym h))
close_place (P6 t x) h = absurd (true≢false (sym h))
close_place (F6 t x) h = absurd (true≢false (sym h))
close_place (F7 t x) h = absurd (true≢false (sym h))
close_place (F8 t x) h = absurd (true≢false (sym h))
close_place (F9 t old) h = absurd (true≢false (sym h))
close_place O1 h = absurd (true≢false (sym h))
close_place (O2 x) h = absurd (true≢false (sym h))
close_place (O3 x) h = absurd (true≢false (sym h))
close_place (O4 x) h = absurd (true≢false (sym h))
close_place (O5 x v) h = absurd (true≢false (sym h))
close_place (O6 x) h = absurd (true≢false (sym h))
close_place Len1 h = absurd (true≢false (sym h))
close_place (Len2 t) h = absurd (true≢false (sym h))
close_place (Len3 t x) h = absurd (true≢false (sym h))
close_place Empty1 h = absurd (true≢false (sym h))
close_place (Empty2 x) h = absurd (true≢false (sym h))
close_place Full1 h = absurd (true≢false (sym h))
close_place (Full2 t) h = absurd (true≢false (sym h))
close_place Close1 h = refl
close_place IsClosed1 h = absurd (true≢false (sym h))

-- only is_empty and is_full wait for another's claim
abbrev pub waits : Timing → Bool
waits Now = false
waits Stays = false
waits IfSome = true
waits IfRoom = true

pub said_soon : (far : ℕ) (x : Answer) → waits (timing_said far x) ≡ false
said_soon far Nothing = refl
said_soon far Pushed = refl
said_soon far (Full y) = refl
said_soon far (Closed y) = refl
said_soon far (Displaced y) = refl
said_soon far (Popped y) = refl
said_soon far Empty = refl
said_soon far PopClosed = refl
said_soon far (Len y) = refl
said_soon far Yes = refl
said_soon far No = go (eqb far 1)
  where
    go : (b : Bool) → waits (cond b Now Stays) ≡ false
    go true = refl
    go false = refl

pub looker : (p q : Place) → waits (timing_of p q) ≡ true → ((h : Stamp) × (q ≡ Empty2 h)) ⊎ ((t : Stamp) × (q ≡ Full2 t))
looker p (Idle x) z = absurd (true≢false (sym z ∙ said_soon (stand_of p).far x))
looker p (P1 kd x) z = absurd (true≢false (sym z))
looker p (P2 kd t x) z = absurd (true≢false (sym z))
looker p (P3 kd t x) z = absurd (true≢false (sym z))
looker p (P4 t x) z = absurd (true≢false (sym z))
looker p (P5 t) z = absurd (true≢false (sym z))
looker p (P6 t x) z = absurd (true≢false (sym z))
looker p (F6 t x) z = absurd (true≢false (sym z))
looker p (F7 t x) z = absurd (true≢false (sym z))
looker p (F8 t x) z = absurd (true≢false (sym z))
looker p (F9 t old) z = absurd (true≢false (sym z))
looker p O1 z = absurd (true≢false (sym z))
looker p (O2 x) z = absurd (true≢false (sym z))
looker p (O3 x) z = absurd (true≢false (sym z))
looker p (O4 x) z = absurd (true≢false (sym z))
looker p (O5 x v) z = absurd (true≢false (sym z))
looker p (O6 x) z = absurd (true≢false (sym z))
looker p Len1 z = absurd (true≢false (sym z))
looker p (Len2 t) z = absurd (true≢false (sym z))
looker p (Len3 t x) z = absurd (true≢false (sym z))
looker p Empty1 z = absurd (true≢false (sym z))
looker p (Empty2 x) z = inl (x, refl)
looker p Full1 z = absurd (true≢false (sym z))
looker p (Full2 t) z = inr (t, refl)
looker p Close1 z = absurd (true≢false (sym z))
looker p IsClosed1 z = absurd (true≢false (sym z))
