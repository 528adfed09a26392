-- What a turn makes of a machine's parts, of a call that begins and of a story's acts; and what the signs of an act tell.
use Prim.Native.Nat.{ℕ, ◌<◌}
use native.Mathlib.Omega.{arith}
use mathlib.Core.Path.{◌≡◌, refl, sym, ap, ◌∙◌, subst}
use mathlib.Core.Logic.{◌≢◌}
use mathlib.Core.Bool.{true, false, true≢false}
use mathlib.Core.List.{List, [], ◌∷◌, ◌++◌}
use lib.Dec.{eqb}
use lib.ListN.{length}
use borrow.Author.Tests.{eqb-true}
use Rattle.queue_entries.specs.declared.Call.{Call}
use Rattle.queue_entries.specs.declared.Call.TheVariants as call
use Rattle.queue_schedules.proofs.Splits.{Order, earlier, same, later, one_more, no_split}
use Rattle.queue_plain.specs.Story.{Begun, Does}
use Rattle.unbounded_words.specs.declared.Index.{Index}
use Rattle.unbounded_words.specs.Words.{sizes}
use Rattle.unbounded_places.specs.declared.Slot.{Slot}
use Rattle.unbounded_places.specs.declared.Worker.{Worker}
use Rattle.unbounded_places.specs.declared.Place.{Place}
use Rattle.unbounded_places.specs.Places.{begin_of}
use Rattle.unbounded_acts.specs.declared.Acted.{Acted}
use Rattle.unbounded_machine.specs.declared.Machine.{Machine}
use Rattle.unbounded_machine.specs.declared.Event.{Event}
use Rattle.unbounded_machine.specs.Turn.{begun, stored}
use Rattle.unbounded_demands.specs.Notions.{Sign, Plain, Exchange7, Exchange4, Pops, Pushes, HandsOut, sign_of, item_by, takes_by}
use Rattle.unbounded_demands.specs.Stories.{Element, Story, task_of}
use Rattle.unbounded_proof_invariant.proofs.Queue.{Shared}
use Rattle.unbounded_proof_words.proofs.Frames.{get_same, get_other}
use Rattle.unbounded_proof_each_act.proofs.Step.{counted, Logs, puts, neither}
use Rattle.unbounded_proof_each_act.proofs.Step as step
use Rattle.unbounded_proof_demand2.proofs.Turns.{stood}
use Rattle.unbounded_proof_plain.proofs.Work.{Work, push, force, Due}

-- ---- what an act makes of a machine
module _ (m : Machine) (w : ℕ) (l : List Slot) (k i : ℕ) (a : Acted) where
  pub stored_stood : w < length m.workers → stood (stored sizes m w l k i a) w ≡ a.place
  unfolding stored
  stored_stood n = ap (λ (x : Worker). x.place) (get_same m.workers w (record { place = a.place }) _ n)

  pub stored_else : (v : ℕ) → v ≢ w → stood (stored sizes m w l k i a) v ≡ stood m v
  unfolding stored
  stored_else v ne = ap (λ (x : Worker). x.place) (get_other m.workers w v (record { place = a.place }) _ ne)

  pub stored_ends : (stored sizes m w l k i a).ends ≡ a.ends
  unfolding stored
  stored_ends = refl

module _ (m : Machine) (w : ℕ) (q : Place) where
  pub begun_stood : w < length m.workers → stood (begun m w q) w ≡ q
  unfolding begun
  begun_stood n = ap (λ (x : Worker). x.place) (get_same m.workers w (record { place = q }) _ n)

  pub begun_else : (v : ℕ) → v ≢ w → stood (begun m w q) v ≡ stood m v
  unfolding begun
  begun_else v ne = ap (λ (x : Worker). x.place) (get_other m.workers w v (record { place = q }) _ ne)

  pub begun_ends : (begun m w q).ends ≡ m.ends
  unfolding begun
  begun_ends = refl

-- ---- a call's first place
pub begun_due : (st : Story) (t : Index) (w : ℕ) (c : Call) → Work st w c [] [] → Due st t w (task_of (begin_of c))
begun_due st t w (call.Push x) o = record { call = call.Push x; brings = push; work = o }
begun_due st t w (call.ForcePush x) o = record { call = call.ForcePush x; brings = force; work = o }
begun_due st t w call.Pop o = o
begun_due st t w call.Len o = o
begun_due st t w call.IsEmpty o = o
begun_due st t w call.IsFull o = o
begun_due st t w call.Close o = o
begun_due st t w call.IsClosed o = o

-- ---- signs
pub one_change : (a b : Sign) → eqb (length (item_by a b)) 1 ≡ true → takes_by a b ≡ false
one_change Plain b z = refl
one_change Exchange7 b z = refl
one_change Exchange4 b z = absurd (true≢false (sym z))
one_change Pops b z = refl
one_change (Pushes x) b z = refl
one_change (HandsOut v) b z = refl

pub item_is : (l : List ℕ) → eqb (length l) 1 ≡ true → (x : ℕ) × (l ≡ x ∷ [])
item_is [] z = absurd (true≢false (sym z))
item_is (x ∷ []) z = (x, refl)
item_is (x ∷ y ∷ l) z = absurd (let n = eqb-true (length (x ∷ y ∷ l)) 1 z in omega arith)

pub takes_some : (s u : Shared) (w : ℕ) (p q : Place) → Logs s u w p q → takes_by (sign_of p) (sign_of q) ≡ true → counted s.head < counted s.tail
takes_some s u w p q (puts x item no_taking slot et ei eh eg loose) z = absurd (true≢false (sym z ∙ no_taking))
takes_some s u w p q (step.takes no_item taking slot some et ei eh eg) z = omega arith
takes_some s u w p q (neither no_item no_taking ut ct ei uh ch eg more) z = absurd (true≢false (sym z ∙ no_taking))

-- ---- what holds of each act of a story, one element more
module _ (P : Story → Event → Type 0) (st : Story) (old : (xs ys : Story) (e : Event) → st ≡ xs ++ Does e ∷ ys → P xs e) where
  pub on_act : (act : Event) → P st act → (xs ys : Story) (e : Event) → st ++ Does act ∷ [] ≡ xs ++ Does e ∷ ys → P xs e
  on_act act new xs ys e z = go (one_more st (Does act) xs ys (Does e) z)
    where
      go : Order xs (Does e) ys st (Does act) [] → P xs e
      go (earlier zs was left) = old xs zs e was
      go (same whole one rest) = let is : e ≡ act = cc in subst (λ (u : Story). P u e) (sym whole) (subst (P st) (sym is) new)
      go (later zs was left) = absurd (no_split zs (Does e) ys left)

  pub on_begin : (w : ℕ) (c : Call) (xs ys : Story) (e : Event) → st ++ Begun w c ∷ [] ≡ xs ++ Does e ∷ ys → P xs e
  on_begin w c xs ys e z = go (one_more st (Begun w c) xs ys (Does e) z)
    where
      no_begin : ◌≡◌ {A = Element} (Does e) (Begun w c) → ⊥
      no_begin y = let q : ◌≡◌ {A = ℕ} 0 1 = cc in omega arith

      go : Order xs (Does e) ys st (Begun w c) [] → P xs e
      go (earlier zs was left) = old xs zs e was
      go (same whole one rest) = absurd (no_begin one)
      go (later zs was left) = absurd (no_split zs (Does e) ys left)
