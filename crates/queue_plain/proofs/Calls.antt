-- The call that a worker is in, with what it has put in and taken out: as it begins, an act of its own on, and another's element on. And what a plain queue's answer gives back.
use Prim.Native.Nat.{ℕ, ◌+◌, ◌<◌}
use native.Mathlib.Omega.{arith}
use mathlib.Core.Bool.{Bool, true, false, cond}
use mathlib.Core.List.{List, [], ◌∷◌, ◌++◌, append-nil}
use mathlib.Core.Path.{◌≡◌, ap, ◌∙◌}
use lib.Dec.{eqb}
use lib.ListN.{length, take, length-append}
use Rattle.queue_entries.specs.declared.Call.{Call}
use Rattle.queue_entries.specs.declared.Call.TheVariants as call
use Rattle.queue_plain.specs.Plain.{Queue, answer_of, full_of, front_of, yes_if, given_back}
use Rattle.queue_plain.specs.Plain as plain
use Rattle.queue_plain.specs.Story.{Element, Begun, Does, Story, Change, Doing, items_of, known}
use Rattle.queue_plain.proofs.Stories.{known_count, each_own, each_begun}

module _ {E : Type 0} (worker : E → ℕ) (change : E → Change) (capacity : ℕ) where
  pub record Work (s : Story E) (w : ℕ) (c : Call) (put took : List ℕ) : Type 0 where
    pub its : ((known worker change capacity s).each w).calls ≡ c ∷ []
    pub begun : ((known worker change capacity s).each w).begun < length s
    pub puts : ((known worker change capacity s).each w).puts ≡ put
    pub takes : ((known worker change capacity s).each w).takes ≡ took

  longer : (s : Story E) (x : Element E) → length (s ++ x ∷ []) ≡ length s + 1
  longer s x = length-append s (x ∷ []) ∙ omega arith

  -- it starts with nothing put in or taken out
  pub work_begun : (s : Story E) (w : ℕ) (c : Call) → Work (s ++ Begun w c ∷ []) w c [] []
  work_begun s w c =
      let each = each_begun worker change capacity s w c in
      record {
        its = ap (λ (z : Doing). z.calls) each;
        begun = omega (arith, ap (λ (z : Doing). z.begun) each, known_count worker change capacity s, longer s (Begun w c));
        puts = ap (λ (z : Doing). z.puts) each;
        takes = ap (λ (z : Doing). z.takes) each;
      }

  pub work_on : (s : Story E) (e : E) (c : Call) (put took : List ℕ) → Work s (worker e) c put took
      → Work (s ++ Does e ∷ []) (worker e) c (put ++ cond (change e).puts (items_of (c ∷ [])) []) (took ++ cond (change e).takes (take 1 (known worker change capacity s).queue.items) [])
  work_on s e c put took o =
      let each = each_own worker change capacity s e in
      record {
        its = ap (λ (z : Doing). z.calls) each ∙ o.its;
        begun = omega (arith, ap (λ (z : Doing). z.begun) each, o.begun, longer s (Does e));
        puts = ap (λ (z : Doing). z.puts) each ∙ rw (o.its, o.puts);
        takes = ap (λ (z : Doing). z.takes) each ∙ rw o.takes;
      }

  -- by an act that puts nothing in and takes nothing out
  pub work_still : (s : Story E) (e : E) → (change e).puts ≡ false → (change e).takes ≡ false → (c : Call) (put took : List ℕ) → Work s (worker e) c put took
      → Work (s ++ Does e ∷ []) (worker e) c put took
  work_still s e no_put no_take c put took o =
      let r = work_on s e c put took o in
      record { its = r.its; begun = r.begun; puts = r.puts ∙ rw no_put (append-nil put); takes = r.takes ∙ rw no_take (append-nil took) }

  pub work_else : (s : Story E) (x : Element E) (w : ℕ) → (known worker change capacity (s ++ x ∷ [])).each w ≡ (known worker change capacity s).each w
      → (c : Call) (put took : List ℕ) → Work s w c put took
      → Work (s ++ x ∷ []) w c put took
  work_else s x w each c put took o =
      record {
        its = ap (λ (z : Doing). z.calls) each ∙ o.its;
        begun = omega (arith, ap (λ (z : Doing). z.begun) each, o.begun, longer s x);
        puts = ap (λ (z : Doing). z.puts) each ∙ o.puts;
        takes = ap (λ (z : Doing). z.takes) each ∙ o.takes;
      }

-- ---- an answer gives back only the item that its call came with

nothing_back : {P : Type 0} (x : ℕ) → [] ≡ x ∷ [] → P
nothing_back x e = absurd (let q : ◌≡◌ {A = ℕ} 0 1 = ap length e in omega arith)

none_yes : {P : Type 0} (b : Bool) (x : ℕ) → given_back (yes_if b) ≡ x ∷ [] → P
none_yes true x e = nothing_back x e
none_yes false x e = nothing_back x e

pub back_came : (q : Queue) (c : Call) (x : ℕ) → given_back (answer_of q c) ≡ x ∷ [] → items_of (c ∷ []) ≡ x ∷ []
unfolding items_of
back_came q (call.Push y) x e = go q.closed (full_of q) e
  where
    go : (a b : Bool) → given_back (cond a (plain.Closed y) (cond b (plain.Full y) plain.Pushed)) ≡ x ∷ [] → y ∷ [] ≡ x ∷ []
    go true b e = e
    go false true e = e
    go false false e = nothing_back x e
back_came q (call.ForcePush y) x e = go q.closed (full_of q) q.items e
  where
    go : (a b : Bool) (l : List ℕ) → given_back (cond a (plain.Closed y) (cond b (front_of plain.Displaced plain.Pushed l) plain.Pushed)) ≡ x ∷ [] → y ∷ [] ≡ x ∷ []
    go true b l e = e
    go false true [] e = nothing_back x e
    go false true (v ∷ l) e = nothing_back x e
    go false false l e = nothing_back x e
back_came q call.Pop x e = go q.closed q.items e
  where
    go : (a : Bool) (l : List ℕ) → given_back (front_of plain.Popped (cond a plain.EmptyAndClosed plain.Empty) l) ≡ x ∷ [] → [] ≡ x ∷ []
    go true [] e = e
    go false [] e = e
    go a (v ∷ l) e = e
back_came q call.Len x e = e
back_came q call.IsEmpty x e = none_yes (eqb (length q.items) 0) x e
back_came q call.IsFull x e = none_yes (full_of q) x e
back_came q call.Close x e = go q.closed e
  where
    go : (a : Bool) → given_back (cond a plain.No plain.Yes) ≡ x ∷ [] → [] ≡ x ∷ []
    go true e = e
    go false e = e
back_came q call.IsClosed x e = none_yes q.closed x e
