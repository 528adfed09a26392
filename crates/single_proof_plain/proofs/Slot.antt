-- What an act does to the slot, as far as the plain queue goes: by its kind of effect. And what is read off a place.
use Prim.Native.Nat.{ℕ, ◌+◌, ◌-◌, ◌<◌}
use native.Mathlib.Omega.{arith}
use mathlib.Core.Path.{◌≡◌, refl, sym, ap, ◌∙◌}
use mathlib.Core.Logic.{◌⊎◌, inl, inr}
use mathlib.Core.Bool.{Bool, true, false, cond, not, true≢false}
use mathlib.Core.List.{[], ◌∷◌, ◌++◌}
use Rattle.queue_entries.specs.declared.Call.{Call}
use Rattle.queue_entries.specs.declared.Call.TheVariants as call
use Rattle.queue_schedules.proofs.Splits.{cons_first, no_cons}
use Rattle.queue_plain.specs.Story.{Does, items_of}
use Rattle.single_words.specs.declared.State.{State}
use Rattle.single_words.specs.Words.{locked_in, pushed_in}
use Rattle.single_places.specs.declared.Single.{Single}
use Rattle.single_places.specs.declared.Place.{Place}
use Rattle.single_places.specs.declared.Place.TheVariants.{Idle, A1, A2, A3, B1, B2, B3, B4, B5, C1, C2, C3, Len1, Empty1, Full1, Close1, IsClosed1}
use Rattle.single_places.specs.Places.{view_of}
use Rattle.single_acts.specs.declared.Acted.{Acted}
use Rattle.single_acts.specs.Acts.{goes, state_to, value_to}
use Rattle.single_machine.specs.History.{event}
use Rattle.single_demands.specs.Notions.{none, access_of, item_of, is_close}
use Rattle.single_demands.specs.Stories.{Story, known, item_at, popping, room_taken}
use Rattle.single_proof_demand2.proofs.Words.{word, locked_of, pushed_of}
use Rattle.single_proof_demand2.proofs.Effects.{Hand, free, putting, put, swapping, swapped, taking, took, hand_of_worker, fills, holding, access_by, access_is, Opens}
use Rattle.single_proof_demand2.proofs.Effects.{LetsOff, off_put, off_swapped, off_took, Effect, rests, shuts, locks, puts, swaps_in, gets, unlocks}
use Rattle.single_proof_plain.proofs.Work.{room_act, Due}

-- ---- what is read off a place

-- a pop's hand is the one that leaves the word unpushed
pub popping_is : (p : Place) → popping p ≡ not (fills (hand_of_worker p))
popping_is (Idle a) = refl
popping_is (A1 x) = refl
popping_is (A2 x) = refl
popping_is A3 = refl
popping_is (B1 e x) = refl
popping_is (B2 x) = refl
popping_is B3 = refl
popping_is (B4 x) = refl
popping_is (B5 old) = refl
popping_is (C1 e) = refl
popping_is C2 = refl
popping_is (C3 v) = refl
popping_is Len1 = refl
popping_is Empty1 = refl
popping_is Full1 = refl
popping_is Close1 = refl
popping_is IsClosed1 = refl

abbrev closes_by : Call → Bool
closes_by (call.Push x) = false
closes_by (call.ForcePush x) = false
closes_by call.Pop = false
closes_by call.Len = false
closes_by call.IsEmpty = false
closes_by call.IsFull = false
closes_by call.Close = true
closes_by call.IsClosed = false

-- ---- the item of a call under way
module _ (st : Story) (v w : ℕ) where
  abbrev Came : ℕ → Type 0
  Came x = items_of ((known st).each w).calls ≡ x ∷ []

  no_item : {P : Type 0} (x : ℕ) → [] ≡ x ∷ [] → P
  no_item x e = absurd (no_cons e)

  pub item_of_lem : (p : Place) → Due st v w p → (x : ℕ) → item_at p ≡ x ∷ [] → Came x
  unfolding items_of
  item_of_lem (Idle a) o x e = no_item x e
  item_of_lem (A1 y) o x e = ap items_of o.its ∙ e
  item_of_lem (A2 y) o x e = ap items_of o.work.its ∙ e
  item_of_lem A3 o x e = no_item x e
  item_of_lem (B1 z y) o x e = ap items_of o.its ∙ e
  item_of_lem (B2 y) o x e = ap items_of o.work.its ∙ e
  item_of_lem B3 o x e = no_item x e
  item_of_lem (B4 y) o x e = ap items_of o.work.its ∙ e
  item_of_lem (B5 old) o x e = no_item x e
  item_of_lem (C1 z) o x e = no_item x e
  item_of_lem C2 o x e = no_item x e
  item_of_lem (C3 u) o x e = no_item x e
  item_of_lem Len1 o x e = no_item x e
  item_of_lem Empty1 o x e = no_item x e
  item_of_lem Full1 o x e = no_item x e
  item_of_lem Close1 o x e = no_item x e
  item_of_lem IsClosed1 o x e = no_item x e

  -- only a close's act is at Close1
  other_call : {P : Type 0} (c : Call) → closes_by c ≡ false → ((known st).each w).calls ≡ c ∷ [] → ((known st).each w).calls ≡ call.Close ∷ [] → P
  other_call c not_close its e = absurd (true≢false (ap closes_by (sym (cons_first (sym its ∙ e))) ∙ not_close))

  pub closing : (p : Place) → (view_of p).busy ≡ true → Due st v w p → ((known st).each w).calls ≡ call.Close ∷ [] → is_close p ≡ true
  closing (Idle a) busy o e = absurd (true≢false (sym busy))
  closing (A1 y) busy o e = other_call (call.Push y) refl o.its e
  closing (A2 y) busy o e = other_call (call.Push y) refl o.work.its e
  closing A3 busy o e = other_call (call.Push o.0) refl o.1.work.its e
  closing (B1 s y) busy o e = other_call (call.ForcePush y) refl o.its e
  closing (B2 y) busy o e = other_call (call.ForcePush y) refl o.work.its e
  closing B3 busy o e = other_call (call.ForcePush o.0) refl o.1.work.its e
  closing (B4 y) busy o e = other_call (call.ForcePush y) refl o.work.its e
  closing (B5 old) busy o e = other_call (call.ForcePush o.0) refl o.1.work.its e
  closing (C1 s) busy o e = other_call call.Pop refl o.its e
  closing C2 busy o e = other_call call.Pop refl o.work.its e
  closing (C3 u) busy o e = other_call call.Pop refl o.work.its e
  closing Len1 busy o e = other_call call.Len refl o.its e
  closing Empty1 busy o e = other_call call.IsEmpty refl o.its e
  closing Full1 busy o e = other_call call.IsFull refl o.its e
  closing Close1 busy o e = refl
  closing IsClosed1 busy o e = other_call call.IsClosed refl o.its e

-- what an exchange is to write is the item in the record
pub item_written : (q : Place) (x : ℕ) → item_of (access_of q) ≡ x ∷ [] → item_at q ≡ x ∷ []
item_written (Idle a) x e = e
item_written (A1 y) x e = absurd (no_cons e)
item_written (A2 y) x e = e
item_written A3 x e = e
item_written (B1 s y) x e = absurd (no_cons e)
item_written (B2 y) x e = e
item_written B3 x e = e
item_written (B4 y) x e = e
item_written (B5 old) x e = e
item_written (C1 s) x e = e
item_written C2 x e = e
item_written (C3 u) x e = e
item_written Len1 x e = e
item_written Empty1 x e = e
item_written Full1 x e = e
item_written Close1 x e = e
item_written IsClosed1 x e = e

-- ---- what an act does to the slot, by its kind of effect
module _ (s : Single) (l b c : Bool) (p : Place) where
  -- it takes the slot, or leaves the plain queue as it is
  pub record Takes (q : Place) : Type 0 where
    pub hand : Hand
    pub unlocked_then : l ≡ false
    pub is : access_of q ≡ access_by hand
    pub opens : Opens b hand

  pub kind_of : (a : Acted) → Effect s l b c p a → (access_of a.place ≡ none) ⊎ Takes a.place
  unfolding goes
  kind_of a (rests q f fq n o) = inl (access_is q ∙ ap access_by fq)
  kind_of a (shuts q f fq n o) = inl (access_is q ∙ ap access_by fq)
  kind_of a (locks q g f e hq o n) = inr (record { hand = g; unlocked_then = e; is = access_is q ∙ ap access_by hq; opens = o })
  kind_of a (puts q x f hq n) = inl (access_is q ∙ ap access_by hq)
  kind_of a (swaps_in q x f hq n) = inl (ap access_of hq)
  kind_of a (gets q f hq n) = inl (ap access_of hq)
  kind_of a (unlocks q o n) = inl (off (hand_of_worker p) q o)
    where
      off : (g : Hand) (q : Place) → LetsOff g q → access_of q ≡ none
      off g q off_put = refl
      off g q off_swapped = refl
      off g q off_took = refl

  -- a worker that has not the slot in hand leaves the value
  pub value_kept : (a : Acted) → Effect s l b c p a → hand_of_worker p ≡ free → a.single.value ≡ s.value
  unfolding goes state_to value_to
  value_kept a (rests q f fq n o) e = refl
  value_kept a (shuts q f fq n o) e = refl
  value_kept a (locks q g f z hq o n) e = refl
  value_kept a (puts q x f hq n) e = absurd (true≢false (ap holding (sym f ∙ e)))
  value_kept a (swaps_in q x f hq n) e = absurd (true≢false (ap holding (sym f ∙ e)))
  value_kept a (gets q f hq n) e = refl
  value_kept a (unlocks q o n) e = refl

-- the room that a pop takes, of a word
abbrev pub room_in : State → ℕ
room_in x = cond (locked_in x) (cond (pushed_in x) 0 1) 0

pub room_some : (l b : Bool) → 0 < cond l (cond b 0 1) 0 → (l ≡ true) × (b ≡ false)
room_some true true h = absurd (omega arith)
room_some true false h = (refl, refl)
room_some false b h = absurd (omega arith)

pub room_word : (x : State) (l b c : Bool) → x ≡ word l b c → room_in x ≡ cond l (cond b 0 1) 0
room_word x l b c e = rw (locked_of x l b c e, pushed_of x l b c e)

module _ (st : Story) (s : Single) (l b c : Bool) (is : s.state ≡ word l b c) (room : room_taken st ≡ cond l (cond b 0 1) 0) (w : ℕ) (p : Place)
    (hold : holding (hand_of_worker p) ≡ true → (l ≡ true) × (b ≡ fills (hand_of_worker p))) where
  counts : (q : Place) → ◌≡◌ {A = ℕ} (cond (popping q) 1 0) (cond (fills (hand_of_worker q)) 0 1)
  counts q = ap (λ (z : Bool). cond z 1 0) (popping_is q) ∙ go (fills (hand_of_worker q))
    where
      go : (f : Bool) → ◌≡◌ {A = ℕ} (cond (not f) 1 0) (cond f 0 1)
      go true = refl
      go false = refl

  abbrev Leaves : Place → State → Type 0
  Leaves q x = room_taken (st ++ Does (event w p q) ∷ []) ≡ room_in x

  leaves : (q : Place) (x : State) (g k : Hand) → hand_of_worker p ≡ g → hand_of_worker q ≡ k → cond l (cond b 0 1) 0 + cond (fills k) 0 1 - cond (fills g) 0 1 ≡ room_in x → Leaves q x
  leaves q x g k hp hq e =
      room_act st (event w p q) ∙ rw (room, counts q, counts p, hp, hq) e

  same_room : (n : ℕ) → n + 0 - 0 ≡ n
  same_room n = omega arith

  pub room_on : (a : Acted) → Effect s l b c p a → Leaves a.place a.single.state
  unfolding goes state_to value_to
  room_on a (rests q f fq n o) = leaves q s.state free free f fq (same_room _ ∙ sym (room_word s.state l b c is))
  room_on a (shuts q f fq n o) = leaves q (word l b true) free free f fq (same_room _ ∙ sym (room_word (word l b true) l b true refl))
  room_on a (locks q g f e hq o n) =
      leaves q (word true (fills g) c) free g f hq
      (ap (λ (z : Bool). cond z (cond b 0 1) 0 + cond (fills g) 0 1 - 0) e ∙ go (cond (fills g) 0 1) ∙ sym (room_word (word true (fills g) c) true (fills g) c refl))
    where
      go : (n : ℕ) → 0 + n - 0 ≡ n
      go n = omega arith
  room_on a (puts q x f hq n) = leaves q s.state (putting x) put f hq (same_room _ ∙ sym (room_word s.state l b c is))
  room_on a (swaps_in q x f hq n) = leaves q s.state (swapping x) (swapped s.value) f (ap hand_of_worker hq) (same_room _ ∙ sym (room_word s.state l b c is))
  room_on a (gets q f hq n) = leaves q s.state taking (took s.value) f (ap hand_of_worker hq) (both _ ∙ sym (room_word s.state l b c is))
    where
      both : (n : ℕ) → n + 1 - 1 ≡ n
      both n = omega arith
  room_on a (unlocks q o n) = off (hand_of_worker p) q refl o
    where
      none_left : (g : Hand) → hand_of_worker p ≡ g → holding g ≡ true → cond l (cond b 0 1) 0 + 0 - cond (fills g) 0 1 ≡ room_in (word false b c)
      none_left g e h =
          let z = hold (ap holding e ∙ h) in
          rw (z.0, z.1, e) (go (fills g)) ∙ sym (room_word (word false b c) false b c refl)
        where
          go : (f : Bool) → cond f 0 1 + 0 - cond f 0 1 ≡ 0
          go true = refl
          go false = refl

      off : (g : Hand) (q : Place) → hand_of_worker p ≡ g → LetsOff g q → Leaves q (word false b c)
      off g q e off_put = leaves q (word false b c) put free e refl (none_left put e refl)
      off g q e (off_swapped {old = old}) = leaves q (word false b c) (swapped old) free e refl (none_left (swapped old) e refl)
      off g q e (off_took {v = v}) = leaves q (word false b c) (took v) free e refl (none_left (took v) e refl)
