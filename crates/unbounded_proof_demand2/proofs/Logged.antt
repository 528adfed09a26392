-- The history of a machine that stands for a queue over positions: the lists of claims, the claim rule, and a plain queue.
use Prim.Native.Nat.{ℕ, suc, ◌+◌, ◌%◌, ◌<◌, ◌≤◌}
use mathlib.Core.Path.{◌≡◌, refl, sym, ap, ◌∙◌, subst}
use mathlib.Core.Logic.{◌≢◌}
use mathlib.Core.Bool.{Bool, true, false, cond, true≢false}
use mathlib.Core.List.{List, [], ◌∷◌, ◌++◌, append_assoc, append-nil}
use native.Mathlib.Omega.{arith}
use native.Mathlib.Decide.{ℕ_discrete, dec_lt}
use lib.ListN.{length, get_or, set, drop, length-append, get_or-append}
use lib.Seq.{get_or-append_seam, drop-cons, drop-append-le}
use Rattle.queue_schedules.proofs.Splits.{no_split, Order, earlier, same, later, order}
use Rattle.queue_schedules.proofs.Upd.{upd, upd_same, upd_else, upd_at}
use Rattle.unbounded_places.specs.declared.Place.{Place}
use Rattle.unbounded_places.specs.declared.Place.TheVariants.{Idle, U1, U2, U3, U4, U5, U6, U7, U8, U9, U10, U11, U12, U13, U14, U15, V1, V2, V3, V4, V5, V6}
use Rattle.unbounded_places.specs.declared.Place.TheVariants.{V7, V8, V9, V10, V11, V12, V13, V14, V15, Len1, Len2, Len3, Empty1, Empty2, Full1, Close1}
use Rattle.unbounded_places.specs.declared.Place.TheVariants.{IsClosed1}
use Rattle.unbounded_places.specs.declared.Worker.{Worker}
use Rattle.unbounded_machine.specs.declared.Event.{Event}
use Rattle.unbounded_machine.specs.History.{event}
use Rattle.unbounded_demands.specs.Notions.{HandsOut, sign_of, item_of, takes, items_of, takers_of, LatestIn, ItemIn, waiting, Fifo, enqueue, dequeue, rest}
use Rattle.unbounded_demands.specs.Demands.{ClaimRule, OnceOut}
use Rattle.unbounded_proof_invariant.proofs.Queue.{Shared}
use Rattle.unbounded_proof_words.proofs.Stands.{place_of}
use Rattle.unbounded_proof_words.proofs.Frames.{get_same, get_other}
use Rattle.unbounded_proof_each_act.proofs.Step.{counted, Tale, held, tale_of, OutOk, Logs, puts, neither}
use Rattle.unbounded_proof_each_act.proofs.Step as step

-- ---- counting slots
counted_up : (a b : ℕ) → a ≤ b → counted a ≤ counted b
counted_up a b l = omega arith

counted_slot : (p : ℕ) → p % 32 < 31 → counted (p + 1) ≡ counted p + 1
counted_slot p l = omega arith

none_between : (a b p : ℕ) → counted b ≡ counted a → p < b → p % 32 < 31 → p < a
none_between a b p e l s = go (dec_lt p a)
  where
    go : Dec (p < a) → p < a
    go (yes z) = z
    go (no z) =
        let x = counted_up a p (omega arith) in
        let y = counted_up (p + 1) b (omega arith) in
        let w = counted_slot p s in
        absurd (omega arith)

-- ---- lists that grow at their end
pub items_more : (h : List Event) (e : Event) → items_of (h ++ e ∷ []) ≡ items_of h ++ item_of e
unfolding items_of
items_more [] e = append-nil (item_of e)
items_more (x ∷ h) e = ap (λ (l : List ℕ). item_of x ++ l) (items_more h e) ∙ sym (append_assoc (item_of x) (items_of h) (item_of e))

abbrev pub taker_of : Event → List ℕ
taker_of e = cond (takes e) (e.worker ∷ []) []

pub takers_more : (h : List Event) (e : Event) → takers_of (h ++ e ∷ []) ≡ takers_of h ++ taker_of e
unfolding takers_of
takers_more [] e = append-nil (taker_of e)
takers_more (x ∷ h) e = ap (λ (l : List ℕ). taker_of x ++ l) (takers_more h e) ∙ sym (append_assoc (taker_of x) (takers_of h) (taker_of e))

takers_split : (xs ys : List Event) → takers_of (xs ++ ys) ≡ takers_of xs ++ takers_of ys
unfolding takers_of
takers_split [] ys = refl
takers_split (x ∷ xs) ys = ap (λ (l : List ℕ). taker_of x ++ l) (takers_split xs ys) ∙ sym (append_assoc (taker_of x) (takers_of xs) (takers_of ys))

-- the claims of an earlier history are the first of a later one's
takers_fewer : (xs ys : List Event) → length (takers_of xs) ≤ length (takers_of (xs ++ ys))
takers_fewer xs ys = omega (arith, ap length (takers_split xs ys), length-append (takers_of xs) (takers_of ys))

takers_first : (xs ys : List Event) (k : ℕ) → k < length (takers_of xs) → get_or (takers_of (xs ++ ys)) k 0 ≡ get_or (takers_of xs) k 0
takers_first xs ys k l = ap (λ (z : List ℕ). get_or z k 0) (takers_split xs ys) ∙ get_or-append (takers_of xs) (takers_of ys) 0 k l

-- a claim of another worker more
pub latest_other : (l : List ℕ) (w v k : ℕ) → v ≢ w → LatestIn l w k → LatestIn (l ++ v ∷ []) w k
latest_other l w v k ne o =
    record {
      made = omega (arith, length-append l (v ∷ []), o.made);
      its = get_or-append l (v ∷ []) 0 k o.made ∙ o.its;
      last = λ n a b e. go n a b e (dec_lt n (length l));
    }
  where
    go : (n : ℕ) → k < n → n < length (l ++ v ∷ []) → get_or (l ++ v ∷ []) n 0 ≡ w → Dec (n < length l) → ⊥
    go n a b e (yes d) = o.last n a d (sym (get_or-append l (v ∷ []) 0 n d) ∙ e)
    go n a b e (no d) =
        let q : n ≡ length l = omega (arith, length-append l (v ∷ [])) in
        ne (sym (get_or-append_seam l v [] 0) ∙ ap (λ (i : ℕ). get_or (l ++ v ∷ []) i 0) (sym q) ∙ e)

-- a claim of its own more
pub latest_own : (l : List ℕ) (w : ℕ) → LatestIn (l ++ w ∷ []) w (length l)
latest_own l w =
    record {
      made = omega (arith, length-append l (w ∷ []));
      its = get_or-append_seam l w [] 0;
      last = λ n a b e. omega (arith, length-append l (w ∷ []));
    }

-- a place of a worker with a head claim hands nothing out
plain_held : (p : Place) → held (tale_of p) ≡ true → (x : ℕ) → sign_of p ≡ HandsOut x → ⊥
plain_held (Idle a) z y e = true≢false (sym z)
plain_held (U1 n x) z y e = true≢false (sym z)
plain_held (U2 n t x) z y e = true≢false (sym z)
plain_held (U3 t b x) z y e = true≢false (sym z)
plain_held (U4 n t x) z y e = true≢false (sym z)
plain_held (U5 n t new x) z y e = true≢false (sym z)
plain_held (U6 n t new x) z y e = true≢false (sym z)
plain_held (U7 n t b x) z y e = true≢false (sym z)
plain_held (U8 n t x) z y e = true≢false (sym z)
plain_held (U9 n t b x) z y e = true≢false (sym z)
plain_held (U10 n t b x) z y e = true≢false (sym z)
plain_held (U11 n t b x) z y e = true≢false (sym z)
plain_held (U12 n t b x) z y e = true≢false (sym z)
plain_held (U13 n t b) z y e = true≢false (sym z)
plain_held (U14 n a) z y e = true≢false (sym z)
plain_held (U15 n new x) z y e = true≢false (sym z)
plain_held V1 z y e = true≢false (sym z)
plain_held (V2 h) z y e = true≢false (sym z)
plain_held (V3 h b) z y e = true≢false (sym z)
plain_held (V4 h b new) z y e = true≢false (sym z)
plain_held (V5 h) z y e = true≢false (sym z)
plain_held (V6 h b new) z y e = let o : ◌≡◌ {A = ℕ} 0 1 = cc in omega arith
plain_held (V7 h b new next) z y e = let o : ◌≡◌ {A = ℕ} 0 1 = cc in omega arith
plain_held (V8 h b next i) z y e = let o : ◌≡◌ {A = ℕ} 0 1 = cc in omega arith
plain_held (V9 h b i) z y e = let o : ◌≡◌ {A = ℕ} 0 1 = cc in omega arith
plain_held (V10 h b) z y e = let o : ◌≡◌ {A = ℕ} 0 1 = cc in omega arith
plain_held (V11 h b) z y e = let o : ◌≡◌ {A = ℕ} 0 1 = cc in omega arith
plain_held (V12 h b v) z y e = let o : ◌≡◌ {A = ℕ} 0 1 = cc in omega arith
plain_held (V13 b i v) z y e = let o : ◌≡◌ {A = ℕ} 0 1 = cc in omega arith
plain_held (V14 b i v) z y e = let o : ◌≡◌ {A = ℕ} 0 1 = cc in omega arith
plain_held (V15 b v) z y e = let o : ◌≡◌ {A = ℕ} 0 1 = cc in omega arith
plain_held Len1 z y e = true≢false (sym z)
plain_held (Len2 t) z y e = true≢false (sym z)
plain_held (Len3 t h) z y e = true≢false (sym z)
plain_held Empty1 z y e = true≢false (sym z)
plain_held (Empty2 h) z y e = true≢false (sym z)
plain_held Full1 z y e = true≢false (sym z)
plain_held Close1 z y e = true≢false (sym z)
plain_held IsClosed1 z y e = true≢false (sym z)

-- ---- what a history has of a queue over positions
pub record Logged (s : Shared) (ws : List Worker) (h : List Event) : Type 0 where
  pub items_long : length (items_of h) ≡ counted s.tail
  pub items_at : (p : ℕ) → p < s.tail → p % 32 < 31 → get_or (items_of h) (counted p) 0 ≡ s.item p
  pub takers_long : length (takers_of h) ≡ counted s.head
  -- a worker with a head claim: it is its latest
  pub claim_slot : (w : ℕ) → held (tale_of (place_of ws w)) ≡ true → s.got w % 32 < 31
  pub latest : (w : ℕ) → held (tale_of (place_of ws w)) ≡ true → LatestIn (takers_of h) w (counted (s.got w))
  -- and came after all that it handed out
  pub spent : (w : ℕ) → held (tale_of (place_of ws w)) ≡ true → (xs ys : List Event) (act : Event) (v k : ℕ) → h ≡ xs ++ act ∷ ys → act.worker ≡ w → sign_of act.after ≡ HandsOut v
      → LatestIn (takers_of xs) w k → k < counted (s.got w)
  pub rule : ClaimRule h
  pub once : OnceOut h
  pub fifo : Fifo h (waiting h)

-- ---- one act more
module _ (s u : Shared) (low : s.head ≤ s.tail) (ws : List Worker) (h : List Event) (log : Logged s ws h) (w : ℕ) (here : w < length ws) (q : Place)
    (logs : Logs s u w (place_of ws w) q) (out : OutOk s w (place_of ws w) (sign_of q)) where
  abbrev e : Event
  e = event w (place_of ws w) q

  abbrev h' : List Event
  h' = h ++ e ∷ []

  abbrev ws' : List Worker
  ws' = set ws w (record { place = q })

  stands_w : place_of ws' w ≡ q
  stands_w = ap (λ (x : Worker). x.place) (get_same ws w (record { place = q }) _ here)

  stands_v : (v : ℕ) → v ≢ w → place_of ws' v ≡ place_of ws v
  stands_v v n = ap (λ (x : Worker). x.place) (get_other ws w v (record { place = q }) _ n)

  -- what is handed out is the item of the worker's latest claim
  handed : (v : ℕ) → sign_of q ≡ HandsOut v → (held (tale_of (place_of ws w)) ≡ true) × (s.got w < s.tail) × (v ≡ s.item (s.got w))
  handed v z = subst (OutOk s w (place_of ws w)) z out

  rule_now : ClaimRule h'
  rule_now xs ys act v z o = go (order xs act ys h e [] (sym z))
    where
      go : Order xs act ys h e [] → (k : ℕ) × LatestIn (takers_of xs) act.worker k × ItemIn xs k v
      go (earlier zs a b) = log.rule xs zs act v a o
      go (same a b c) =
          let f = handed v (sym (ap (λ (x : Event). sign_of x.after) b) ∙ o) in
          let slot = log.claim_slot w f.0 in (
            counted (s.got w),
            subst (λ (x : Event). LatestIn (takers_of xs) x.worker (counted (s.got w))) (sym b)
                (subst (λ (l : List Event). LatestIn (takers_of l) w (counted (s.got w))) (sym a) (log.latest w f.0)),
            subst (λ (l : List Event). ItemIn l (counted (s.got w)) v) (sym a)
                (record { made = omega (arith, log.items_long, f.1); is = log.items_at (s.got w) f.1 slot ∙ sym f.2 }),
          )
      go (later zs a b) = absurd (no_split zs act ys b)

  -- its number is that of no answer before
  once_now : OnceOut h'
  once_now xs between ys act again v x k z o o' l l' = go (order (xs ++ act ∷ between) again ys h e [] (sym z))
    where
      go : Order (xs ++ act ∷ between) again ys h e [] → ⊥
      go (earlier zs a b) = log.once xs between zs act again v x k a o o' l l'
      go (same a b c) =
          let f = handed x (sym (ap (λ (y : Event). sign_of y.after) b) ∙ o') in
          let mine : act.worker ≡ again.worker = sym l.its ∙ sym (takers_first xs (act ∷ between) k l.made) ∙ l'.its in
          let by : again.worker ≡ w = ap (λ (y : Event). y.worker) b in
          let last = log.latest w f.0 in
          let was : LatestIn (takers_of h) w k = subst (λ (y : List Event). LatestIn (takers_of y) w k) a (subst (λ (i : ℕ). LatestIn (takers_of (xs ++ act ∷ between)) i k) by l') in
          let past = log.spent w f.0 xs between act v k (sym a) (mine ∙ by) o (subst (λ (i : ℕ). LatestIn (takers_of xs) i k) (mine ∙ by) l) in
          was.last (counted (s.got w)) past last.made last.its
      go (later zs a b) = absurd (no_split zs again ys b)

  -- the answers of h' are those of h and, if q is one, this
  spent_more : (v : ℕ) (bound : ℕ) → ((xs ys : List Event) (act : Event) (x k : ℕ) → h ≡ xs ++ act ∷ ys → act.worker ≡ v → sign_of act.after ≡ HandsOut x → LatestIn (takers_of xs) v k → k < bound)
      → ((x : ℕ) → w ≡ v → sign_of q ≡ HandsOut x → ⊥)
      → (xs ys : List Event) (act : Event) (x k : ℕ) → h' ≡ xs ++ act ∷ ys → act.worker ≡ v → sign_of act.after ≡ HandsOut x → LatestIn (takers_of xs) v k → k < bound
  spent_more v bound old new xs ys act x k z by o l = go (order xs act ys h e [] (sym z))
    where
      go : Order xs act ys h e [] → k < bound
      go (earlier zs a b) = old xs zs act x k a by o l
      go (same a b c) = absurd (new x (sym (ap (λ (y : Event). y.worker) b) ∙ by) (sym (ap (λ (y : Event). sign_of y.after) b) ∙ o))
      go (later zs a b) = absurd (no_split zs act ys b)

  -- a worker that then has a head claim: it is another, or w itself
  each_held : (P : ℕ → Type 0) → (held (tale_of q) ≡ true → P w) → ((v : ℕ) → v ≢ w → held (tale_of (place_of ws v)) ≡ true → P v) → (v : ℕ) → held (tale_of (place_of ws' v)) ≡ true → P v
  each_held P mine others v z = go (ℕ_discrete v w)
    where
      go : Dec (v ≡ w) → P v
      go (yes n) = subst P (sym n) (mine (sym (ap (λ (x : Place). held (tale_of x)) (ap (place_of ws') n ∙ stands_w)) ∙ z))
      go (no n) = others v n (sym (ap (λ (x : Place). held (tale_of x)) (stands_v v n)) ∙ z)

  -- one that has a head claim hands out nothing by this act
  quiet_then : held (tale_of q) ≡ true → (x : ℕ) → sign_of q ≡ HandsOut x → ⊥
  quiet_then = plain_held q

  same_items : item_of e ≡ [] → items_of h' ≡ items_of h
  same_items z = items_more h e ∙ ap (λ (l : List ℕ). items_of h ++ l) z ∙ append-nil (items_of h)

  same_takers : takes e ≡ false → takers_of h' ≡ takers_of h
  same_takers z = takers_more h e ∙ ap (λ (t : Bool). takers_of h ++ cond t (w ∷ []) []) z ∙ append-nil (takers_of h)

  -- where no head claim is made
  module _ (no_taking : takes e ≡ false) (got : u.got ≡ s.got) (more : held (tale_of q) ≡ true → held (tale_of (place_of ws w)) ≡ true) where
    got_at : (v : ℕ) → u.got v ≡ s.got v
    got_at v = ap (λ (f : ℕ → ℕ). f v) got

    before : (v : ℕ) → held (tale_of (place_of ws' v)) ≡ true → held (tale_of (place_of ws v)) ≡ true
    before = each_held (λ (v : ℕ). held (tale_of (place_of ws v)) ≡ true) more (λ v n z. z)

    slot_kept : (v : ℕ) → held (tale_of (place_of ws' v)) ≡ true → u.got v % 32 < 31
    slot_kept v z = omega (arith, got_at v, log.claim_slot v (before v z))

    latest_kept : (v : ℕ) → held (tale_of (place_of ws' v)) ≡ true → LatestIn (takers_of h') v (counted (u.got v))
    latest_kept v z =
        subst (λ (l : List ℕ). LatestIn l v (counted (u.got v))) (sym (same_takers no_taking)) (subst (λ (i : ℕ). LatestIn (takers_of h) v (counted i)) (sym (got_at v)) (log.latest v (before v z)))

    spent_kept : (v : ℕ) → held (tale_of (place_of ws' v)) ≡ true → (xs ys : List Event) (act : Event) (x k : ℕ) → h' ≡ xs ++ act ∷ ys → act.worker ≡ v → sign_of act.after ≡ HandsOut x
        → LatestIn (takers_of xs) v k → k < counted (u.got v)
    spent_kept v z xs ys act x k split by o l =
        subst (λ (i : ℕ). k < counted i) (sym (got_at v))
        (spent_more v (counted (s.got v)) (log.spent v (before v z))
        (λ y by_w said. quiet_then (sym (ap (λ (i : Place). held (tale_of i)) (ap (place_of ws') (sym by_w) ∙ stands_w)) ∙ z) y said) xs ys act x k split by o l)

  waiting_is : (items : List ℕ) (n : ℕ) → items_of h' ≡ items → length (takers_of h') ≡ n → waiting h' ≡ drop n items
  waiting_is items n a b = ap (λ (l : List ℕ). drop (length (takers_of h')) l) a ∙ ap (λ (i : ℕ). drop i items) b

  heads_fewer : length (takers_of h) ≤ length (items_of h)
  heads_fewer = omega (arith, log.items_long, log.takers_long)

  pub logged_after : Logged u ws' h'
  logged_after = go logs
    where
      go : Logs s u w (place_of ws w) q → Logged u ws' h'
      go (puts x item no_taking slot et ei eh eg loose) =
          let is : items_of h' ≡ items_of h ++ x ∷ [] = items_more h e ∙ ap (λ (l : List ℕ). items_of h ++ l) item in
          let more : held (tale_of q) ≡ true → held (tale_of (place_of ws w)) ≡ true = λ z. absurd (true≢false (sym z ∙ loose)) in
          record {
            items_long = ap length is ∙ length-append (items_of h) (x ∷ []) ∙ omega (arith, log.items_long, et);
            items_at = (λ p l k. new_item x is slot et ei p l k (ℕ_discrete p s.tail));
            takers_long = ap length (same_takers no_taking) ∙ log.takers_long ∙ ap counted (sym eh);
            claim_slot = slot_kept no_taking eg more;
            latest = latest_kept no_taking eg more;
            spent = spent_kept no_taking eg more;
            rule = rule_now;
            once = once_now;
            fifo = subst (Fifo h') (sym (waiting_is (items_of h ++ x ∷ []) (length (takers_of h)) is (ap length (same_takers no_taking))
                ∙ drop-append-le (length (takers_of h)) (items_of h) (x ∷ []) heads_fewer)) (enqueue h (waiting h) e x log.fifo item);
          }
        where
          new_item : (x : ℕ) → items_of h' ≡ items_of h ++ x ∷ [] → s.tail % 32 < 31 → u.tail ≡ s.tail + 1 → u.item ≡ upd s.item s.tail x → (p : ℕ)
              → p < u.tail → p % 32 < 31 → Dec (p ≡ s.tail)
              → get_or (items_of h') (counted p) 0 ≡ u.item p
          new_item x is slot et ei p l k (yes z) =
              ap (λ (y : List ℕ). get_or y (counted p) 0) is ∙ ap (λ (i : ℕ). get_or (items_of h ++ x ∷ []) i 0) (ap counted z ∙ sym log.items_long) ∙ get_or-append_seam (items_of h) x [] 0
              ∙ sym (ap (λ (f : ℕ → ℕ). f p) ei ∙ upd_at s.item s.tail p x z)
          new_item x is slot et ei p l k (no z) =
              let m : p < s.tail = omega arith in
              ap (λ (y : List ℕ). get_or y (counted p) 0) is ∙ get_or-append (items_of h) (x ∷ []) 0 (counted p) (omega (arith, log.items_long)) ∙ log.items_at p m k
              ∙ sym (ap (λ (f : ℕ → ℕ). f p) ei ∙ upd_else s.item s.tail p x z)
      go (step.takes no_item taking slot some et ei eh eg) =
          let is : takers_of h' ≡ takers_of h ++ w ∷ [] = takers_more h e ∙ ap (λ (t : Bool). takers_of h ++ cond t (w ∷ []) []) taking in
          let mine : u.got w ≡ s.head = ap (λ (f : ℕ → ℕ). f w) eg ∙ upd_same s.got w s.head in
          let other : (v : ℕ) → v ≢ w → u.got v ≡ s.got v = λ v n. ap (λ (f : ℕ → ℕ). f v) eg ∙ upd_else s.got w v s.head n in
          record {
            items_long = ap length (same_items no_item) ∙ log.items_long ∙ ap counted (sym et);
            items_at = (λ p l k. ap (λ (y : List ℕ). get_or y (counted p) 0) (same_items no_item) ∙ log.items_at p (omega (arith, et)) k ∙ sym (ap (λ (f : ℕ → ℕ). f p) ei));
            takers_long = ap length is ∙ length-append (takers_of h) (w ∷ []) ∙ omega (arith, log.takers_long, eh);
            claim_slot = each_held (λ (v : ℕ). u.got v % 32 < 31) (λ z. omega (arith, mine)) (λ v n z. omega (arith, other v n, log.claim_slot v z));
            latest = each_held (λ (v : ℕ). LatestIn (takers_of h') v (counted (u.got v)))
                (λ z. subst (λ (l : List ℕ). LatestIn l w (counted (u.got w))) (sym is)
                (subst (LatestIn (takers_of h ++ w ∷ []) w) (log.takers_long ∙ ap counted (sym mine)) (latest_own (takers_of h) w)))
                (λ v n z. subst (λ (l : List ℕ). LatestIn l v (counted (u.got v))) (sym is)
                (latest_other (takers_of h) v w (counted (u.got v)) (λ y. n (sym y))
                (subst (λ (i : ℕ). LatestIn (takers_of h) v (counted i)) (sym (other v n)) (log.latest v z))));
            spent = each_held (λ (v : ℕ). (xs ys : List Event) (act : Event) (x k : ℕ) → h' ≡ xs ++ act ∷ ys → act.worker ≡ v
                → sign_of act.after ≡ HandsOut x → LatestIn (takers_of xs) v k → k < counted (u.got v))
                (λ z. spent_more w (counted (u.got w)) (λ xs ys act x k split by o l. all_before mine xs (act ∷ ys) k split l) (λ x a. quiet_then z x))
                (λ v n z. spent_more v (counted (u.got v)) (λ xs ys act x k split by o l. subst (λ (i : ℕ). k < counted i) (sym (other v n))
                (log.spent v z xs ys act x k split by o l)) (λ x a b. n (sym a)));
            rule = rule_now;
            once = once_now;
            fifo = dequeued is (same_items no_item) taking some slot;
          }
        where
          all_before : u.got w ≡ s.head → (xs ys : List Event) (k : ℕ) → h ≡ xs ++ ys → LatestIn (takers_of xs) w k → k < counted (u.got w)
          all_before mine xs ys k split l =
              let a : length (takers_of xs) ≤ length (takers_of h) = subst (λ (z : List Event). length (takers_of xs) ≤ length (takers_of z)) (sym split) (takers_fewer xs ys) in
              omega (arith, l.made, log.takers_long, mine)

          dequeued : takers_of h' ≡ takers_of h ++ w ∷ [] → items_of h' ≡ items_of h → takes e ≡ true → s.head < s.tail → s.head % 32 < 31 → Fifo h' (waiting h')
          dequeued is it taking some slot =
              let less : length (takers_of h) < length (items_of h) = omega (arith, log.items_long, log.takers_long) in
              let long : length (takers_of h') ≡ suc (length (takers_of h)) = ap length is ∙ length-append (takers_of h) (w ∷ []) ∙ omega arith in
              let front : waiting h ≡ get_or (items_of h) (length (takers_of h)) 0 ∷ drop (suc (length (takers_of h))) (items_of h) = drop-cons (items_of h) (length (takers_of h)) 0 less in
              subst (Fifo h') (sym (waiting_is (items_of h) (suc (length (takers_of h))) it long))
              (dequeue h (drop (suc (length (takers_of h))) (items_of h)) e (get_or (items_of h) (length (takers_of h)) 0) (subst (Fifo h) front log.fifo) taking)
      go (neither no_item no_taking ut ct ei uh ch eg more) =
          record {
            items_long = ap length (same_items no_item) ∙ log.items_long ∙ sym ct;
            items_at = (λ p l k. ap (λ (y : List ℕ). get_or y (counted p) 0) (same_items no_item) ∙ log.items_at p (none_between s.tail u.tail p ct l k) k ∙ sym (ap (λ (f : ℕ → ℕ). f p) ei));
            takers_long = ap length (same_takers no_taking) ∙ log.takers_long ∙ sym ch;
            claim_slot = slot_kept no_taking eg more;
            latest = latest_kept no_taking eg more;
            spent = spent_kept no_taking eg more;
            rule = rule_now;
            once = once_now;
            fifo = subst (Fifo h') (sym (waiting_is (items_of h) (length (takers_of h)) (same_items no_item) (ap length (same_takers no_taking)))) (rest h (waiting h) e log.fifo no_item no_taking);
          }
