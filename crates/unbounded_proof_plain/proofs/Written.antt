-- Every tail claim's item was written for it, or its worker is on the way to the write; and what is handed out was written.
use Prim.Native.Nat.{ℕ, ◌+◌, ◌%◌, ◌<◌}
use native.Mathlib.Omega.{arith}
use native.Mathlib.Decide.{ℕ_discrete, dec_lt}
use mathlib.Core.Path.{◌≡◌, refl, sym, ap, ◌∙◌, subst}
use mathlib.Core.Logic.{◌≢◌, ◌⊎◌, inl, inr}
use mathlib.Core.Bool.{Bool, true, false, cond, true≢false}
use mathlib.Core.List.{List, [], ◌∷◌, ◌++◌, append-nil, append_assoc}
use lib.Dec.{eqb}
use lib.ListN.{length, get_or, length-append, get_or-append}
use lib.Seq.{get_or-append_seam}
use borrow.Author.Tests.{eqb-true}
use Rattle.unbounded_words.specs.declared.Index.{Index}
use Rattle.unbounded_words.specs.Words.{sizes}
use Rattle.unbounded_places.specs.declared.Slot.{Slot}
use Rattle.unbounded_places.specs.declared.Block.{Block}
use Rattle.unbounded_places.specs.declared.Ends.{Ends}
use Rattle.unbounded_places.specs.declared.Worker.{Worker}
use Rattle.unbounded_places.specs.declared.Place.{Place}
use Rattle.unbounded_places.specs.declared.Place.TheVariants.{Idle, U1, U2, U3, U4, U5, U6, U7, U8, U9, U10, U11, U12, U13, U14, U15, V1, V2, V3, V4, V5, V6}
use Rattle.unbounded_places.specs.declared.Place.TheVariants.{V7, V8, V9, V10, V11, V12, V13, V14, V15, Len1, Len2, Len3, Empty1, Empty2, Full1, Close1}
use Rattle.unbounded_places.specs.declared.Place.TheVariants.{IsClosed1}
use Rattle.unbounded_places.specs.Places.{view_of}
use Rattle.unbounded_acts.specs.Acts.{leave, act_of}
use Rattle.unbounded_machine.specs.declared.Event.{Event}
use Rattle.unbounded_machine.specs.History.{event}
use Rattle.unbounded_demands.specs.Notions.{Pushing, push9, push10, push11, push12, push13, sign_of, item_of, items_of, takers_of, LatestIn, ItemIn, position}
use Rattle.unbounded_demands.specs.Claims.{tailers_of, Writes, writes12, WrittenIn}
use Rattle.unbounded_demands.specs.Stories.{Task, Rests, Starts, Tries, Given, Enters, Entered, Frees, Takes, LoadsHead, Counts, LooksAtTail, task_of}
use Rattle.unbounded_proof_invariant.proofs.Queue.{Ptr, none, to, Hand, Open, Done, By, Shared}
use Rattle.unbounded_proof_invariant.proofs.Kept.{hand_by_done}
use Rattle.unbounded_proof_invariant.proofs.Views.{Seen, SeenOk}
use Rattle.unbounded_proof_invariant.proofs.Own.{push_of, pop_of}
use Rattle.unbounded_proof_words.proofs.Words.{half}
use Rattle.unbounded_proof_words.proofs.Stands.{place_of, Stands, idle, u1, u2, u3, u4, u5, u6, u7, u8, u9, u10, u11, u12, u13, u14, u15, v1, v2, v3, v4, v5, v6}
use Rattle.unbounded_proof_words.proofs.Stands.{v7, v8, v9, v10, v11, v12, v13, v14, v15, len1, len2, len3, empty1, empty2, full1, close1, closed1, Sim}
use Rattle.unbounded_proof_words.proofs.Live.{push_held}
use Rattle.unbounded_proof_each_act.proofs.Step.{counted, held, tale_of}
use Rattle.unbounded_proof_demand2.proofs.Logged.{items_more, latest_other, latest_own, Logged}
use Rattle.unbounded_proof_plain.proofs.Gap.{to_ptr, not_none}
use Rattle.unbounded_proof_plain.proofs.Scene.{latest_one, unput, Handing, hands12, hands14, hands15}

-- ---- the workers of tail claims
tailers_more : (h : List Event) (e : Event) → tailers_of (h ++ e ∷ []) ≡ tailers_of h ++ cond (eqb (length (item_of e)) 1) (e.worker ∷ []) []
unfolding tailers_of
tailers_more [] e = append-nil (cond (eqb (length (item_of e)) 1) (e.worker ∷ []) [])
tailers_more (x ∷ h) e =
    ap (λ (l : List ℕ). cond (eqb (length (item_of x)) 1) (x.worker ∷ []) [] ++ l) (tailers_more h e)
    ∙ sym (append_assoc (cond (eqb (length (item_of x)) 1) (x.worker ∷ []) []) (tailers_of h) (cond (eqb (length (item_of e)) 1) (e.worker ∷ []) []))

tailers_long : (h : List Event) → length (tailers_of h) ≡ length (items_of h)
unfolding tailers_of items_of
tailers_long [] = refl
tailers_long (e ∷ h) =
    length-append (cond (eqb (length (item_of e)) 1) (e.worker ∷ []) []) (tailers_of h)
    ∙ omega (arith, tailers_long h, one (eqb (length (item_of e)) 1) refl, length-append (item_of e) (items_of h))
  where
    one : (b : Bool) → eqb (length (item_of e)) 1 ≡ b → length (cond b (e.worker ∷ []) []) ≡ length (item_of e)
    one true z = sym (eqb-true (length (item_of e)) 1 z)
    one false z = sym (ap length (unput (sign_of e.before) (sign_of e.after) z))

-- ---- a claim that is not written yet
pub record Writing (at : ℕ → Place) (h : List Event) (k : ℕ) : Type 0 where
  pub worker : ℕ
  pub word : Index
  pub pushing : Pushing (at worker) word
  pub number : counted (position word) ≡ k
  pub slot : position word % 32 < 31
  pub latest : LatestIn (tailers_of h) worker k
  pub task : task_of (at worker) ≡ Enters (get_or (items_of h) k 0)

abbrev pub Wrote : (ℕ → Place) → List Event → ℕ → Type 0
Wrote at h k = WrittenIn h k (get_or (items_of h) k 0) ⊎ Writing at h k

written_more : (h : List Event) (e : Event) (k v : ℕ) → WrittenIn h k v → WrittenIn (h ++ e ∷ []) k v
written_more h e k v o =
    record {
      earlier = o.earlier;
      act = o.act;
      later = o.later ++ e ∷ [];
      is = ap (λ (l : List Event). l ++ e ∷ []) o.is ∙ append_assoc o.earlier (o.act ∷ o.later) (e ∷ []);
      claim = o.claim;
      writes = o.writes;
    }

-- while no push in hand goes on
pub wrote_still : (at then : ℕ → Place) (h : List Event) (k : ℕ) → ((v : ℕ) (t : Index) → Pushing (at v) t → then v ≡ at v) → Wrote at h k → Wrote then h k
wrote_still at then h k there (inl o) = inl o
wrote_still at then h k there (inr o) =
    let z = there o.worker o.word o.pushing in
    inr (record {
      worker = o.worker;
      word = o.word;
      pushing = subst (λ (p : Place). Pushing p o.word) (sym z) o.pushing;
      number = o.number;
      slot = o.slot;
      latest = o.latest;
      task = ap task_of z ∙ o.task;
    })

entering : Task → Bool
entering (Rests a) = false
entering (Starts c) = false
entering (Tries x) = false
entering (Given t x) = false
entering (Enters x) = true
entering Entered = false
entering (Frees a) = false
entering Takes = false
entering (LoadsHead t) = false
entering (Counts t h) = false
entering (LooksAtTail h) = false

entering_one : (x y : ℕ) → Enters x ≡ Enters y → x ≡ y
entering_one x y z = cc

-- from its claim a push goes on to its write
module _ (e : Ends) (w k : ℕ) (g : Block) (s : Slot) (lose : Bool) where
  abbrev after : Place → Place
  after p = (act_of sizes e k g s p lose).place

  abbrev Onward : Place → ℕ → Index → Type 0
  Onward p x t = ((task_of (after p) ≡ Enters x) × Pushing (after p) t × (item_of (event w p (after p)) ≡ [])) ⊎ Writes p x

  pub writes_row : (p : Place) (y : ℕ) (t : Index) → task_of p ≡ Enters y → Pushing p t → Onward p y t
  unfolding leave entering
  writes_row (Idle a) y t z o = absurd (true≢false (sym (ap entering z)))
  writes_row (U1 n x) y t z o = absurd (true≢false (sym (ap entering z)))
  writes_row (U2 n i x) y t z o = absurd (true≢false (sym (ap entering z)))
  writes_row (U3 i b x) y t z o = absurd (true≢false (sym (ap entering z)))
  writes_row (U4 n i x) y t z o = absurd (true≢false (sym (ap entering z)))
  writes_row (U5 n i new x) y t z o = absurd (true≢false (sym (ap entering z)))
  writes_row (U6 n i new x) y t z o = absurd (true≢false (sym (ap entering z)))
  writes_row (U7 n i b x) y t z o = absurd (true≢false (sym (ap entering z)))
  writes_row (U8 n i x) y t z o = absurd (true≢false (sym (ap entering z)))
  writes_row (U9 n i b x) y t z push9 = inl (z, push10, refl)
  writes_row (U10 n i b x) y t z push10 = inl (z, push11, refl)
  writes_row (U11 n i b x) y t z push11 = inl (z, push12, refl)
  writes_row (U12 n i b x) y t z push12 = inr (subst (Writes (U12 n i b x)) (entering_one x y z) writes12)
  writes_row (U13 n i b) y t z o = absurd (true≢false (sym (ap entering z)))
  writes_row (U14 n a) y t z o = absurd (true≢false (sym (ap entering z)))
  writes_row (U15 n new x) y t z o = absurd (true≢false (sym (ap entering z)))
  writes_row V1 y t z o = absurd (true≢false (sym (ap entering z)))
  writes_row (V2 h) y t z o = absurd (true≢false (sym (ap entering z)))
  writes_row (V3 h b) y t z o = absurd (true≢false (sym (ap entering z)))
  writes_row (V4 h b new) y t z o = absurd (true≢false (sym (ap entering z)))
  writes_row (V5 h) y t z o = absurd (true≢false (sym (ap entering z)))
  writes_row (V6 h b new) y t z o = absurd (true≢false (sym (ap entering z)))
  writes_row (V7 h b new next) y t z o = absurd (true≢false (sym (ap entering z)))
  writes_row (V8 h b next i) y t z o = absurd (true≢false (sym (ap entering z)))
  writes_row (V9 h b i) y t z o = absurd (true≢false (sym (ap entering z)))
  writes_row (V10 h b) y t z o = absurd (true≢false (sym (ap entering z)))
  writes_row (V11 h b) y t z o = absurd (true≢false (sym (ap entering z)))
  writes_row (V12 h b v) y t z o = absurd (true≢false (sym (ap entering z)))
  writes_row (V13 b i v) y t z o = absurd (true≢false (sym (ap entering z)))
  writes_row (V14 b i v) y t z o = absurd (true≢false (sym (ap entering z)))
  writes_row (V15 b v) y t z o = absurd (true≢false (sym (ap entering z)))
  writes_row Len1 y t z o = absurd (true≢false (sym (ap entering z)))
  writes_row (Len2 i) y t z o = absurd (true≢false (sym (ap entering z)))
  writes_row (Len3 i h) y t z o = absurd (true≢false (sym (ap entering z)))
  writes_row Empty1 y t z o = absurd (true≢false (sym (ap entering z)))
  writes_row (Empty2 h) y t z o = absurd (true≢false (sym (ap entering z)))
  writes_row Full1 y t z o = absurd (true≢false (sym (ap entering z)))
  writes_row Close1 y t z o = absurd (true≢false (sym (ap entering z)))
  writes_row IsClosed1 y t z o = absurd (true≢false (sym (ap entering z)))

-- ---- one act more
module _ (at then : ℕ → Place) (h : List Event) (w : ℕ) (q : Place) (went : then w ≡ q) (others : (v : ℕ) → v ≢ w → then v ≡ at v) where
  abbrev act : Event
  act = event w (at w) q

  abbrev h' : List Event
  h' = h ++ event w (at w) q ∷ []

  -- a claim of this act
  pub record Claimed (x : ℕ) : Type 0 where
    pub task : task_of q ≡ Enters x
    pub word : Index
    pub pushing : Pushing q word
    pub number : counted (position word) ≡ length (items_of h)
    pub slot : position word % 32 < 31

  module _ (own : (x : ℕ) (t : Index) → task_of (at w) ≡ Enters x → Pushing (at w) t → ((task_of q ≡ Enters x) × Pushing q t × (item_of act ≡ [])) ⊎ Writes (at w) x)
      (claims : (x : ℕ) → item_of act ≡ x ∷ [] → Claimed x) where
    items_then : (k : ℕ) → k < length (items_of h) → get_or (items_of h') k 0 ≡ get_or (items_of h) k 0
    items_then k l = ap (λ (z : List ℕ). get_or z k 0) (items_more h act) ∙ get_or-append (items_of h) (item_of act) 0 k l

    latest_then : (v k : ℕ) → v ≢ w → LatestIn (tailers_of h) v k → LatestIn (tailers_of h') v k
    latest_then v k ne o = subst (λ (l : List ℕ). LatestIn l v k) (sym (tailers_more h act)) (go (eqb (length (item_of act)) 1))
      where
        go : (b : Bool) → LatestIn (tailers_of h ++ cond b (w ∷ []) []) v k
        go true = latest_other (tailers_of h) v w k (λ z. ne (sym z)) o
        go false = subst (λ (l : List ℕ). LatestIn l v k) (sym (append-nil (tailers_of h))) o

    latest_still : (v k : ℕ) → item_of act ≡ [] → LatestIn (tailers_of h) v k → LatestIn (tailers_of h') v k
    latest_still v k unclaimed o =
        subst (λ (l : List ℕ). LatestIn l v k)
        (sym (tailers_more h act ∙ ap (λ (l : List ℕ). tailers_of h ++ cond (eqb (length l) 1) (w ∷ []) []) unclaimed ∙ append-nil (tailers_of h))) o

    old : (k : ℕ) → k < length (items_of h) → Wrote at h k → Wrote then h' k
    old k l (inl o) = inl (subst (WrittenIn h' k) (sym (items_then k l)) (written_more h act k (get_or (items_of h) k 0) o))
    old k l (inr o) = go (ℕ_discrete o.worker w)
      where
        go : Dec (o.worker ≡ w) → Wrote then h' k
        go (no ne) =
            inr (record {
              worker = o.worker;
              word = o.word;
              pushing = subst (λ (p : Place). Pushing p o.word) (sym (others o.worker ne)) o.pushing;
              number = o.number;
              slot = o.slot;
              latest = latest_then o.worker k ne o.latest;
              task = ap task_of (others o.worker ne) ∙ o.task ∙ ap Enters (sym (items_then k l));
            })
        go (yes z) = mine (own (get_or (items_of h) k 0) o.word (ap (λ (v : ℕ). task_of (at v)) (sym z) ∙ o.task) (subst (λ (v : ℕ). Pushing (at v) o.word) z o.pushing))
          where
            mine : ((task_of q ≡ Enters (get_or (items_of h) k 0)) × Pushing q o.word × (item_of act ≡ [])) ⊎ Writes (at w) (get_or (items_of h) k 0) → Wrote then h' k
            mine (inl y) =
                inr (record {
                  worker = w;
                  word = o.word;
                  pushing = subst (λ (p : Place). Pushing p o.word) (sym went) y.1;
                  number = o.number;
                  slot = o.slot;
                  latest = latest_still w k y.2 (subst (λ (v : ℕ). LatestIn (tailers_of h) v k) z o.latest);
                  task = ap task_of went ∙ y.0 ∙ ap Enters (sym (items_then k l));
                })
            mine (inr y) =
                inl (subst (WrittenIn h' k) (sym (items_then k l))
                (record { earlier = h; act = act; later = []; is = refl; claim = subst (λ (v : ℕ). LatestIn (tailers_of h) v k) z o.latest; writes = y }))

    new : (x : ℕ) → item_of act ≡ x ∷ [] → Wrote then h' (length (items_of h))
    new x item =
        let c = claims x item in
        let value : get_or (items_of h') (length (items_of h)) 0 ≡ x =
        ap (λ (l : List ℕ). get_or l (length (items_of h)) 0) (items_more h act ∙ ap (λ (l : List ℕ). items_of h ++ l) item) ∙ get_or-append_seam (items_of h) x [] 0 in
        inr (record {
          worker = w;
          word = c.word;
          pushing = subst (λ (p : Place). Pushing p c.word) (sym went) c.pushing;
          number = c.number;
          slot = c.slot;
          latest =
              subst (λ (l : List ℕ). LatestIn l w (length (items_of h))) (sym (tailers_more h act ∙ ap (λ (l : List ℕ). tailers_of h ++ cond (eqb (length l) 1) (w ∷ []) []) item))
              (subst (LatestIn (tailers_of h ++ w ∷ []) w) (tailers_long h) (latest_own (tailers_of h) w));
          task = ap task_of went ∙ c.task ∙ ap Enters (sym value);
        })

    pub wrote_on : ((k : ℕ) → k < length (items_of h) → Wrote at h k) → (k : ℕ) → k < length (items_of h') → Wrote then h' k
    wrote_on each k l = go (dec_lt k (length (items_of h)))
      where
        go : Dec (k < length (items_of h)) → Wrote then h' k
        go (yes z) = old k z (each k z)
        go (no z) = claim (eqb (length (item_of act)) 1) refl
          where
            long : length (items_of h') ≡ length (items_of h) + length (item_of act)
            long = ap length (items_more h act) ∙ length-append (items_of h) (item_of act)

            single : (l : List ℕ) → length l ≡ 1 → (x : ℕ) × (l ≡ x ∷ [])
            single [] e = absurd (omega arith)
            single (x ∷ []) e = (x, refl)
            single (x ∷ y ∷ l) e = absurd (omega arith)

            claim : (b : Bool) → eqb (length (item_of act)) 1 ≡ b → Wrote then h' k
            claim true y =
                let one = eqb-true (length (item_of act)) 1 y in
                let x = single (item_of act) one in
                let last : k ≡ length (items_of h) = omega (arith, long) in
                subst (Wrote then h') (sym last) (new x.0 x.1)
            claim false y = absurd (omega (arith, long, ap length (unput (sign_of (at w)) (sign_of q) y)))

-- ---- what is handed out was written
module _ (s : Shared) (w q : ℕ) where
  -- a worker with the pop of a position holds its head claim
  pops_held : (p : Place) (a n : Ptr) (x : Seen) → Stands p a n x → SeenOk s w x → pop_of x ≡ to q → (held (tale_of p) ≡ true) × (s.got w ≡ q)
  pops_held p a n x idle o z = not_none q z
  pops_held p a n x (u1 en) o z = not_none q z
  pops_held p a n x (u2 en et) o z = not_none q z
  pops_held p a n x (u3 et ed l) o z = not_none q z
  pops_held p a n x (u4 en et) o z = not_none q z
  pops_held p a n x (u5 en et ed) o z = not_none q z
  pops_held p a n x (u6 en et ed) o z = not_none q z
  pops_held p a n x (u7 en et ed l) o z = not_none q z
  pops_held p a n x (u8 en et) o z = not_none q z
  pops_held p a n x (u9 en et ed) o z = not_none q z
  pops_held p a n x (u10 en et ed) o z = not_none q z
  pops_held p a n x (u11 en et ed) o z = not_none q z
  pops_held p a n x (u12 en et ed) o z = not_none q z
  pops_held p a n x (u13 en et ed) o z = not_none q z
  pops_held p a n x (u14 en ok) o z = not_none q z
  pops_held p a n x (u15 en ed) o z = not_none q z
  pops_held p a n x v1 o z = not_none q z
  pops_held p a n x (v2 eh) o z = not_none q z
  pops_held p a n x (v3 eh ed) o z = not_none q z
  pops_held p a n x (v4 m eh ed ew) o z = not_none q z
  pops_held p a n x (v5 eh) o z = not_none q z
  pops_held p a n x (v6 {p = i} m k eh ed ew) o z = (refl, o.0.4 ∙ to_ptr i q z)
  pops_held p a n x (v7 {p = i} m k eh ed ew ec) o z = (refl, o.0.4 ∙ to_ptr i q z)
  pops_held p a n x (v8 {p = i} m eh ed ec ew) o z = (refl, o.0.4 ∙ to_ptr i q z)
  pops_held p a n x (v9 {p = i} m eh ed ew) o z = (refl, o.0.4 ∙ to_ptr i q z)
  pops_held p a n x (v10 {p = i} m eh ed) o z = (refl, o.0.4 ∙ to_ptr i q z)
  pops_held p a n x (v11 {p = i} m eh ed) o z = (refl, o.0.4 ∙ to_ptr i q z)
  pops_held p a n x (v12 {p = i} m eh ed) o z = (refl, o.0.4 ∙ to_ptr i q z)
  pops_held p a n x (v13 ed l) o z = not_none q z
  pops_held p a n x (v14 ed l) o z = not_none q z
  pops_held p a n x (v15 ed) o z = not_none q z
  pops_held p a n x len1 o z = not_none q z
  pops_held p a n x len2 o z = not_none q z
  pops_held p a n x len3 o z = not_none q z
  pops_held p a n x empty1 o z = not_none q z
  pops_held p a n x empty2 o z = not_none q z
  pops_held p a n x full1 o z = not_none q z
  pops_held p a n x close1 o z = not_none q z
  pops_held p a n x closed1 o z = not_none q z

push_at : (p : Place) (a n : Ptr) (x : Seen) (t : Index) → Pushing p t → Stands p a n x → push_of x ≡ to (position t)
push_at p a n x t push9 (u9 {p = i} en et ed) = ap to (sym (ap (λ (j : Index). position j) et ∙ half i false))
push_at p a n x t push10 (u10 {p = i} en et ed) = ap to (sym (ap (λ (j : Index). position j) et ∙ half i false))
push_at p a n x t push11 (u11 {p = i} en et ed) = ap to (sym (ap (λ (j : Index). position j) et ∙ half i false))
push_at p a n x t push12 (u12 {p = i} en et ed) = ap to (sym (ap (λ (j : Index). position j) et ∙ half i false))
push_at p a n x t push13 (u13 {p = i} en et ed) = ap to (sym (ap (λ (j : Index). position j) et ∙ half i false))

pub pushing_busy : (p : Place) (t : Index) → Pushing p t → (view_of sizes p).busy ≡ true
pushing_busy p t push9 = refl
pushing_busy p t push10 = refl
pushing_busy p t push11 = refl
pushing_busy p t push12 = refl
pushing_busy p t push13 = refl

handing_held : (p : Place) → Handing p → held (tale_of p) ≡ true
handing_held p hands12 = refl
handing_held p hands14 = refl
handing_held p hands15 = refl

-- two slots with as many below them are one
same_slot : (p q : ℕ) → p % 32 < 31 → q % 32 < 31 → counted p ≡ counted q → p ≡ q
same_slot p q a b e = omega arith

module _ (e : Ends) (blocks : List Block) (slots : List Slot) (ws : List Worker) (meter : ℕ) (s : Shared) (sim : Sim e blocks slots ws meter s) (h : List Event) (log : Logged s ws h) (w : ℕ)
    (hand : Handing (place_of ws w)) where
  abbrev holds : held (tale_of (place_of ws w)) ≡ true
  holds = handing_held (place_of ws w) hand

  -- at V12 the value was read from a slot with WRITE; past it nothing is in its hand
  own_pop : (p : Place) (a n : Ptr) (x : Seen) → Stands p a n x → SeenOk s w x → Handing p → (s.push (s.got w) ≡ Done) ⊎ (pop_of x ≡ none)
  own_pop p a n x st o e = go p a n x e st o
    where
      go : (p : Place) (a n : Ptr) (x : Seen) → Handing p → Stands p a n x → SeenOk s w x → (s.push (s.got w) ≡ Done) ⊎ (pop_of x ≡ none)
      go p a n x hands12 (v12 m eh ed) o = inl (ap s.push o.0.4 ∙ o.1)
      go p a n x hands14 (v14 ed l) o = inr refl
      go p a n x hands15 (v15 ed) o = inr refl

  read_done : s.push (s.got w) ≡ Done
  read_done = first (own_pop (place_of ws w) (sim.places w).aside (sim.places w).new (sim.places w).seen (sim.places w).at (sim.places w).good.seen hand)
    where
      low : s.got w < s.head
      low = let l = (log.latest w holds).made in omega (arith, log.takers_long)

      popped : pop_of (sim.places w).seen ≡ none → (x : Hand) → s.pop (s.got w) ≡ x → s.push (s.got w) ≡ Done
      popped idle_then Open z = absurd (sim.inv.hands.popped (s.got w) low (log.claim_slot w holds) z)
      popped idle_then Done z = sim.inv.hands.order (s.got w) z
      popped idle_then (By c) z =
          let o = sim.places c in
          let has = pops_held s c (s.got w) (place_of ws c) o.aside o.new o.seen o.at o.good.seen (o.good.pops (s.got w) z) in
          let its : get_or (takers_of h) (counted (s.got w)) 0 ≡ c = ap (λ (i : ℕ). get_or (takers_of h) (counted i) 0) (sym has.1) ∙ (log.latest c has.0).its in
          let one : c ≡ w = sym its ∙ (log.latest w holds).its in
          not_none (s.got w) (sym idle_then ∙ (sim.places w).good.pops (s.got w) (z ∙ ap By one))

      first : (s.push (s.got w) ≡ Done) ⊎ (pop_of (sim.places w).seen ≡ none) → s.push (s.got w) ≡ Done
      first (inl z) = z
      first (inr z) = popped z (s.pop (s.got w)) refl

  pub written_out : (k v : ℕ) → LatestIn (takers_of h) w k → ItemIn h k v → Wrote (place_of ws) h k → WrittenIn h k v
  written_out k v latest item (inl o) = subst (WrittenIn h k) item.is o
  written_out k v latest item (inr o) =
      let number : k ≡ counted (s.got w) = latest_one (takers_of h) w k (counted (s.got w)) latest (log.latest w holds) in
      let same : position o.word ≡ s.got w = same_slot (position o.word) (s.got w) o.slot (log.claim_slot w holds) (o.number ∙ number) in
      let c = sim.places o.worker in
      let by : s.push (position o.word) ≡ By o.worker =
      push_held s o.worker (position o.word) c.seen c.good.seen (push_at (place_of ws o.worker) c.aside c.new c.seen o.word o.pushing c.at) in
      absurd (hand_by_done (s.push (s.got w)) o.worker (ap s.push (sym same) ∙ by) read_done)
