-- What one act more adds to a history.
use Prim.Native.Nat.{ℕ, ◌+◌, ◌<◌}
use mathlib.Core.Path.{◌≡◌, refl, sym, ap, ◌∙◌, subst}
use mathlib.Core.Logic.{◌≢◌}
use mathlib.Core.Bool.{Bool, true, false, cond, true≢false}
use mathlib.Core.List.{List, [], ◌∷◌, ◌++◌, append_assoc}
use native.Mathlib.Omega.{arith}
use lib.ListN.{length, length-append}
use Rattle.single_places.specs.Places.{view_of}
use Rattle.single_machine.specs.declared.Event.{Event}
use Rattle.single_demands.specs.Notions.{Every, AtEach, access_of, item_of, is_read, Holds, Latest, Stands, Came, Took, waits_after, waiting_from, waiting, is_close, closed_by}
use Rattle.single_demands.specs.Demands.{OnceOut, ReadsLatest}
use Rattle.queue_schedules.proofs.Splits.{cons_first, no_cons, no_split, Order, earlier, same, later, order, at_lower}

-- ---- acts one by one
module _ (P : Event → Type 0) where
  pub every_more : (h : List Event) (e : Event) → Every P h → P e → Every P (h ++ e ∷ [])
  every_more [] e a p = (p, tt)
  every_more (x ∷ h) e a p = (a.0, every_more h e a.1 p)

  pub every_at : (xs ys : List Event) (e : Event) → Every P (xs ++ e ∷ ys) → P e
  every_at [] ys e a = a.0
  every_at (x ∷ xs) ys e a = every_at xs ys e a.1

  -- past an act that is said of, the rest is said of too
  pub every_in : (h : List Event) (xs ys : List Event) (e : Event) → h ≡ xs ++ e ∷ ys → Every P h → P e
  every_in h xs ys e q a = every_at xs ys e (subst (Every P) q a)

pub each_more : (P : List Event → Event → Type 0) (h : List Event) (e : Event) → AtEach P h → P h e → AtEach P (h ++ e ∷ [])
each_more P h e a p xs ys act q = go (order xs act ys h e [] (sym q))
  where
    go : Order xs act ys h e [] → P xs act
    go (earlier zs r s) = a xs zs act r
    go (same r s t) = subst (λ (l : List Event). P l act) (sym r) (subst (P h) (sym s) p)
    go (later zs r s) = absurd (no_split zs act ys s)

pub each_none : (P : List Event → Event → Type 0) → AtEach P []
each_none P xs ys act q = absurd (no_split xs act ys q)

-- ---- what is waiting, what is closed
waiting_from_lem : (q : List ℕ) (h : List Event) (e : Event) → waiting_from q (h ++ e ∷ []) ≡ waits_after (access_of e.after) (waiting_from q h)
unfolding waiting_from
waiting_from_lem q [] e = refl
waiting_from_lem q (x ∷ h) e = waiting_from_lem (waits_after (access_of x.after) q) h e

pub waiting_more : (h : List Event) (e : Event) → waiting (h ++ e ∷ []) ≡ waits_after (access_of e.after) (waiting h)
waiting_more = waiting_from_lem []

pub closed_more : (h : List Event) (e : Event) → closed_by (h ++ e ∷ []) ≡ cond (is_close e.before) true (closed_by h)
unfolding closed_by
closed_more [] e = refl
closed_more (x ∷ h) e = go (is_close x.before) (is_close e.before) (closed_more h e)
  where
    go : (b c : Bool) → closed_by (h ++ e ∷ []) ≡ cond c true (closed_by h) → cond b true (closed_by (h ++ e ∷ [])) ≡ cond c true (cond b true (closed_by h))
    go true true q = refl
    go true false q = refl
    go false true q = q
    go false false q = q

-- ---- what stands in the slot, what came out of it, what was taken
on_split : (h xs ys : List Event) (a e : Event) → h ≡ xs ++ a ∷ ys → h ++ e ∷ [] ≡ xs ++ a ∷ (ys ++ e ∷ [])
on_split h xs ys a e q = ap (λ (l : List Event). l ++ e ∷ []) q ∙ append_assoc xs (a ∷ ys) (e ∷ [])

module _ (h : List Event) (e : Event) where
  pub latest_more : (v k : ℕ) → Latest h v k → item_of (access_of e.before) ≡ [] → Latest (h ++ e ∷ []) v k
  latest_more v k l p =
      record {
        earlier = l.earlier;
        write = l.write;
        since = l.since ++ e ∷ [];
        is = on_split h l.earlier l.since l.write e l.is;
        number = l.number;
        item = l.item;
        unwritten = every_more _ l.since e l.unwritten p;
      }

  pub stands_more : (v k : ℕ) → Stands h v k → item_of (access_of e.before) ≡ [] → is_read (access_of e.before) ≡ false → Stands (h ++ e ∷ []) v k
  unfolding latest_more
  stands_more v k s p r = record { latest = latest_more v k s.latest p; unread = every_more _ s.latest.since e s.unread r }

  pub new_stands : (v : ℕ) → item_of (access_of e.before) ≡ v ∷ [] → Stands (h ++ e ∷ []) v (length h)
  new_stands v p =
      record {
        latest = record { earlier = h; write = e; since = []; is = refl; number = refl; item = p; unwritten = tt };
        unread = tt;
      }

  pub came_more : (w v k : ℕ) → Came h w v k → e.worker ≢ w → Came (h ++ e ∷ []) w v k
  came_more w v k c other =
      record {
        earlier = c.earlier;
        read = c.read;
        since = c.since ++ e ∷ [];
        is = on_split h c.earlier c.since c.read e c.is;
        by = c.by;
        reading = c.reading;
        got = c.got;
        of = c.of;
        rests = every_more _ c.since e c.rests other;
      }

  pub new_came : (v k : ℕ) → Latest h v k → is_read (access_of e.before) ≡ true → Holds e.after v → Came (h ++ e ∷ []) e.worker v k
  new_came v k l r g =
      record { earlier = h; read = e; since = []; is = refl; by = refl; reading = r; got = g; of = l; rests = tt }

  pub took_more : (w v : ℕ) → Took h w v → (e.worker ≡ w → (view_of e.after).busy ≡ true) → Took (h ++ e ∷ []) w v
  took_more w v t b =
      record {
        earlier = t.earlier;
        exchange = t.exchange;
        since = t.since ++ e ∷ [];
        is = on_split h t.earlier t.since t.exchange e t.is;
        by = t.by;
        takes = t.takes;
        waited = t.waited;
        same_call = every_more _ t.since e t.same_call b;
      }

  pub new_took : (v : ℕ) → waiting h ≡ v ∷ [] → is_read (access_of e.after) ≡ true → Took (h ++ e ∷ []) e.worker v
  new_took v q r = record { earlier = h; exchange = e; since = []; is = refl; by = refl; takes = r; waited = q; same_call = tt }

-- ---- the latest write is one
pub latest_one : (h : List Event) (v u k j : ℕ) → Latest h v k → Latest h u j → (v ≡ u) × (k ≡ j)
latest_one h v u k j a b = go (order a.earlier a.write a.since b.earlier b.write b.since (sym a.is ∙ b.is))
  where
    go : Order a.earlier a.write a.since b.earlier b.write b.since → (v ≡ u) × (k ≡ j)
    go (earlier zs p q) = absurd (no_cons (sym (every_in _ a.since zs b.since b.write q a.unwritten) ∙ b.item))
    go (same p q r) =
        (cons_first (sym a.item ∙ ap (λ (e : Event). item_of (access_of e.before)) q ∙ b.item), sym a.number ∙ ap length p ∙ b.number)
    go (later zs p q) = absurd (no_cons (sym (every_in _ b.since zs a.since a.write q b.unwritten) ∙ a.item))

-- ---- of two reads that had the item of one write
twice_read : (first second : List Event) (read : Event) (zs : List Event) (v u k : ℕ) → second ≡ first ++ read ∷ zs → is_read (access_of read.before) ≡ true
    → Latest first v k → Stands second u k → ⊥
twice_read first second read zs v u k q r a b =
    let l = b.latest in
    let long : length first ≡ length a.earlier + length (a.write ∷ a.since) = ap length a.is ∙ length-append a.earlier (a.write ∷ a.since) in
    let low : length l.earlier < length first = omega (arith, long, a.number, l.number) in
    let t = at_lower l.earlier l.write l.since first read zs (sym l.is ∙ q) low in
    true≢false (sym r ∙ every_in _ l.since t.0 zs read t.2 b.unread)

-- two answers cannot have it
pub once_from : (h : List Event) → ReadsLatest h → OnceOut h
once_from h all before rest again e u k out c xs ys act q v out₁ c₁ =
    go (order c₁.earlier c₁.read (c₁.since ++ act ∷ ys) c.earlier c.read c.since both)
  where
    both : c₁.earlier ++ c₁.read ∷ (c₁.since ++ act ∷ ys) ≡ c.earlier ++ c.read ∷ c.since
    both =
        sym (append_assoc c₁.earlier (c₁.read ∷ c₁.since) (act ∷ ys))
        ∙ sym (ap (λ (l : List Event). l ++ act ∷ ys) c₁.is) ∙ sym q ∙ c.is

    -- what stood at a read of this history
    stood : (read : Event) (xs ys : List Event) (z : ℕ) → before ≡ xs ++ read ∷ ys → is_read (access_of read.before) ≡ true → Latest xs z k → (y : ℕ) × Stands xs y k
    stood read xs ys z p r l =
        let s = all xs (ys ++ again ∷ rest) read (e ∙ ap (λ (l : List Event). l ++ again ∷ rest) p ∙ append_assoc xs (read ∷ ys) (again ∷ rest)) r in
        (s.0, subst (Stands xs s.0) (latest_one xs s.0 z s.1 k s.2.latest l).1 s.2)

    go : Order c₁.earlier c₁.read (c₁.since ++ act ∷ ys) c.earlier c.read c.since → ⊥
    go (earlier zs p r) =
        let s = stood c.read c.earlier c.since u c.is c.reading c.of in
        twice_read c₁.earlier c.earlier c₁.read zs v s.0 k p c₁.reading c₁.of s.1
    go (same p r t) =
        every_in _ c.since c₁.since ys act (sym t) c.rests (sym c₁.by ∙ ap (λ (x : Event). x.worker) r ∙ c.by)
    go (later zs p r) =
        let s = stood c₁.read c₁.earlier (c₁.since ++ act ∷ ys) v
        (q ∙ ap (λ (l : List Event). l ++ act ∷ ys) c₁.is ∙ append_assoc c₁.earlier (c₁.read ∷ c₁.since) (act ∷ ys)) c₁.reading c₁.of in
        twice_read c.earlier c₁.earlier c.read zs u s.0 k p c.reading c.of s.1
