-- The list of a walk has every sequence that goes so, and no other, in order.
use Prim.Native.Nat.{ℕ, zero, suc, ◌+◌, ◌*◌, ◌%◌, ◌<◌, ◌≤◌}
use mathlib.Core.Path.{◌≡◌, refl, sym, ap, subst}
use mathlib.Core.Bool.{Bool, true, false, cond}
use mathlib.Core.List.Memᴰ
use mathlib.Core.List.{List, [], ◌∷◌, ◌++◌, Memᴰ}
use mathlib.Core.Logic.{◌⊎◌, inl, inr}
use native.Mathlib.Omega.{arith}
use native.Mathlib.Decide.{dec_lt}
use lib.Dec.{eqb}
use borrow.Author.Tests.{eq-eqb, eqb-true}
use Rattle.queue_walks.specs.Walks.{act_byte, after, in_turn, choice_by, walk_by}
use Rattle.queue_walks.specs.Meaning.{Goes, none_left, none_busy, goes_on, Before, lower, sooner, further, InOrder}

-- ---- acts before each of a list's sequences
pub record Begins (acts : List ℕ) (list : List (List ℕ)) (s : List ℕ) : Type 0 where
  pub rest : List ℕ
  pub is : s ≡ acts ++ rest
  pub there : Memᴰ rest list

after_out : (acts : List ℕ) (list : List (List ℕ)) (s : List ℕ) → Memᴰ s (after acts list) → Begins acts list s
unfolding after
after_out acts [] s h = absurd (Memᴰ.not-nil h)
after_out acts (x ∷ list) s h = go (λ (k : Memᴰ s (after acts list)). after_out acts list s k) (Memᴰ.cases_cons h)
  where
    go : (Memᴰ s (after acts list) → Begins acts list s) → (s ≡ acts ++ x) ⊎ Memᴰ s (after acts list) → Begins acts (x ∷ list) s
    go below (inl e) = record { rest = x; is = e; there = Memᴰ.head refl }
    go below (inr k) = let b = below k in record { rest = b.rest; is = b.is; there = Memᴰ.tail b.there }

after_in : (acts : List ℕ) (list : List (List ℕ)) (s : List ℕ) → Memᴰ s list → Memᴰ (acts ++ s) (after acts list)
unfolding after
after_in acts [] s h = absurd (Memᴰ.not-nil h)
after_in acts (x ∷ list) s h = go (λ (k : Memᴰ s list). after_in acts list s k) (Memᴰ.cases_cons h)
  where
    go : (Memᴰ s list → Memᴰ (acts ++ s) (after acts list)) → (s ≡ x) ⊎ Memᴰ s list → Memᴰ (acts ++ s) ((acts ++ x) ∷ after acts list)
    go below (inl e) = Memᴰ.head (ap (λ (l : List ℕ). acts ++ l) e)
    go below (inr k) = Memᴰ.tail (below k)

-- ---- each worker in turn
pub record Chosen (choice : ℕ → ℕ → List (List ℕ)) (from upto : ℕ) (s : List ℕ) : Type 0 where
  pub worker : ℕ
  pub code : ℕ
  pub low : from ≤ worker
  pub high : worker < upto
  pub acts : (code ≡ 8) ⊎ (code ≡ 9)
  pub there : Memᴰ s (choice worker code)

turn_out : (choice : ℕ → ℕ → List (List ℕ)) (k w : ℕ) (s : List ℕ) → Memᴰ s (in_turn choice k w) → Chosen choice w (w + k) s
unfolding in_turn
turn_out choice zero w s h = absurd (Memᴰ.not-nil h)
turn_out choice (suc k) w s h = first (λ (x : Memᴰ s (in_turn choice k (w + 1))). turn_out choice k (w + 1) s x) (Memᴰ.append_cases (choice w 8) h)
  where
    here : (code : ℕ) → (code ≡ 8) ⊎ (code ≡ 9) → Memᴰ s (choice w code) → Chosen choice w (w + suc k) s
    here code e x = record { worker = w; code = code; low = omega arith; high = omega arith; acts = e; there = x }

    later : Chosen choice (w + 1) (w + 1 + k) s → Chosen choice w (w + suc k) s
    later c = record { worker = c.worker; code = c.code; low = omega (arith, c.low); high = omega (arith, c.high); acts = c.acts; there = c.there }

    second : (Memᴰ s (in_turn choice k (w + 1)) → Chosen choice (w + 1) (w + 1 + k) s) → Memᴰ s (choice w 9) ⊎ Memᴰ s (in_turn choice k (w + 1)) → Chosen choice w (w + suc k) s
    second below (inl x) = here 9 (inr refl) x
    second below (inr x) = later (below x)

    first : (Memᴰ s (in_turn choice k (w + 1)) → Chosen choice (w + 1) (w + 1 + k) s)
        → Memᴰ s (choice w 8) ⊎ Memᴰ s (choice w 9 ++ in_turn choice k (w + 1)) → Chosen choice w (w + suc k) s
    first below (inl x) = here 8 (inl refl) x
    first below (inr x) = second below (Memᴰ.append_cases (choice w 9) x)

turn_in : (choice : ℕ → ℕ → List (List ℕ)) (k w : ℕ) (s : List ℕ) → (v code : ℕ) → w ≤ v → v < w + k → (code ≡ 8) ⊎ (code ≡ 9) → Memᴰ s (choice v code) → Memᴰ s (in_turn choice k w)
unfolding in_turn
turn_in choice zero w s v code l h e x = absurd (omega arith)
turn_in choice (suc k) w s v code l h e x = go (λ (m : w < v). turn_in choice k (w + 1) s v code (omega arith) (omega arith) e x) (dec_lt w v) e
  where
    at : (c : ℕ) → code ≡ c → v ≡ w → Memᴰ s (choice w c)
    at c p q = subst (λ (y : ℕ). Memᴰ s (choice w y)) p (subst (λ (y : ℕ). Memᴰ s (choice y code)) q x)

    same : (w < v → ⊥) → v ≡ w
    same m = omega arith

    go : (w < v → Memᴰ s (in_turn choice k (w + 1))) → Dec (w < v) → (code ≡ 8) ⊎ (code ≡ 9) → Memᴰ s (choice w 8 ++ (choice w 9 ++ in_turn choice k (w + 1)))
    go later (yes m) p = Memᴰ.append_right (choice w 8) (Memᴰ.append_right (choice w 9) (later m))
    go later (no m) (inl p) = Memᴰ.append_left (choice w 9 ++ in_turn choice k (w + 1)) (at 8 p (same m))
    go later (no m) (inr p) = Memᴰ.append_right (choice w 8) (Memᴰ.append_left (in_turn choice k (w + 1)) (at 9 p (same m)))

-- ---- the list and the sequences
module _ {M D : Type 0} (refusal : D → ℕ) (machine : D → M) (turn : M → ℕ → ℕ → D) (workers : M → ℕ) (idle : M → Bool) where
  walk : ℕ → M → List (List ℕ)
  walk = walk_by refusal machine turn workers idle

  Going : ℕ → M → List ℕ → Type 0
  Going = Goes refusal machine turn workers idle

  choice : ℕ → M → ℕ → ℕ → List (List ℕ)
  choice left = choice_by refusal machine turn workers idle (walk left)

  after_act : M → ℕ → ℕ → M
  after_act m w code = machine (turn m (16 * w + code) 0)

  pub record Taken (left : ℕ) (m : M) (w code : ℕ) (s : List ℕ) : Type 0 where
    pub ok : refusal (turn m (16 * w + code) 0) ≡ 0
    pub begins : Begins (act_byte code w ∷ []) (walk_by refusal machine turn workers idle left (machine (turn m (16 * w + code) 0))) s

  choice_out : (left : ℕ) (m : M) (w code : ℕ) (s : List ℕ) → Memᴰ s (choice left m w code) → Taken left m w code s
  unfolding choice choice_by walk
  choice_out left m w code s = go (eqb (refusal (turn m (16 * w + code) 0)) 0) refl
    where
      go : (b : Bool) → eqb (refusal (turn m (16 * w + code) 0)) 0 ≡ b
          → Memᴰ s (cond b (after (act_byte code w ∷ []) (walk_by refusal machine turn workers idle left (machine (turn m (16 * w + code) 0)))) []) → Taken left m w code s
      go true e x = record { ok = eqb-true _ 0 e; begins = after_out _ _ s x }
      go false e x = absurd (Memᴰ.not-nil x)

  choice_in : (left : ℕ) (m : M) (w code : ℕ) (s : List ℕ) → refusal (turn m (16 * w + code) 0) ≡ 0 → Memᴰ s (walk left (after_act m w code))
      → Memᴰ (act_byte code w ∷ s) (choice left m w code)
  unfolding choice choice_by walk after_act
  choice_in left m w code s ok x = rw (eq-eqb _ 0 ok) (after_in (act_byte code w ∷ []) _ s x)

  -- what is listed goes so
  sound_step : (left : ℕ) (m : M) (s : List ℕ) → ((next : M) (t : List ℕ) → Memᴰ t (walk left next) → Going left next t)
      → (b : Bool) → idle m ≡ b → Memᴰ s (cond b ([] ∷ []) (in_turn (choice left m) (workers m) 0)) → Going (suc left) m s
  unfolding Going walk
  sound_step left m s ih true e x = subst (Goes refusal machine turn workers idle (suc left) m) (sym (Memᴰ.eq_of_singleton x)) (none_busy e)
  sound_step left m s ih false e x =
      let c = turn_out (choice left m) (workers m) 0 s x in
      let t = choice_out left m c.worker c.code s c.there in
      subst (Goes refusal machine turn workers idle (suc left) m) (sym t.begins.is)
      (goes_on c.worker c.code e (omega (arith, c.high)) c.acts refl t.ok (ih (machine (turn m (16 * c.worker + c.code) 0)) t.begins.rest t.begins.there))

  pub walk_sound : (left : ℕ) (m : M) (s : List ℕ) → Memᴰ s (walk_by refusal machine turn workers idle left m) → Goes refusal machine turn workers idle left m s
  unfolding walk_by walk choice Going
  walk_sound zero m s x = subst (Goes refusal machine turn workers idle 0 m) (sym (Memᴰ.eq_of_singleton x)) none_left
  walk_sound (suc left) m s x = sound_step left m s (walk_sound left) (idle m) refl x

  -- what goes so is listed
  pub walk_whole : (left : ℕ) (m : M) (s : List ℕ) → Goes refusal machine turn workers idle left m s → Memᴰ s (walk_by refusal machine turn workers idle left m)
  unfolding walk_by walk choice after_act
  walk_whole left m s none_left = Memᴰ.head refl
  walk_whole left m s (none_busy e) = rw e (Memᴰ.head refl)
  walk_whole left m s (goes_on {left = less} {s = t} worker code e low acts is ok more) =
      rw e (turn_in (choice less m) (workers m) 0 s worker code (omega arith) (omega arith) acts
      (subst (λ (b : ℕ). Memᴰ (b ∷ t) (choice less m worker code)) (sym is) (choice_in less m worker code t ok (walk_whole less (after_act m worker code) t more))))

-- ---- the order
in_order_append : (x y : List (List ℕ)) → InOrder x → InOrder y → ((s t : List ℕ) → Memᴰ s x → Memᴰ t y → Before s t) → InOrder (x ++ y)
in_order_append [] y h g b = g
in_order_append (s ∷ x) y h g b =
    (λ t k. by t (Memᴰ.append_cases x k), in_order_append x y h.1 g (λ s t k l. b s t (Memᴰ.tail k) l))
  where
    by : (t : List ℕ) → Memᴰ t x ⊎ Memᴰ t y → Before s t
    by t (inl k) = h.0 t k
    by t (inr k) = b s t (Memᴰ.head refl) k

in_order_after : (act : ℕ) (x : List (List ℕ)) → InOrder x → InOrder (after (act ∷ []) x)
unfolding after
in_order_after act [] h = tt
in_order_after act (s ∷ x) h = (λ t k. let b = after_out (act ∷ []) x t k in subst (Before (act ∷ s)) (sym b.is) (further refl (h.0 b.rest b.there)), in_order_after act x h.1)

-- a list whose sequences all begin with this worker's act of this code
pub record Owns (w code : ℕ) (s : List ℕ) : Type 0 where
  pub rest : List ℕ
  pub is : s ≡ act_byte code w ∷ rest

by_worker : (w v c d : ℕ) (s t : List ℕ) → w < 16 → v < 16 → w < v → Owns w c s → Owns v d t → Before s t
by_worker w v c d s t lw lv l o p =
    subst (λ (x : List ℕ). Before x t) (sym o.is) (subst (Before (act_byte c w ∷ o.rest)) (sym p.is) (lower (low c d)))
  where
    low : (c d : ℕ) → act_byte c w % 16 < act_byte d v % 16
    low c d = omega arith

by_code : (w : ℕ) (s t : List ℕ) → w < 16 → Owns w 8 s → Owns w 9 t → Before s t
by_code w s t l o p =
    subst (λ (x : List ℕ). Before x t) (sym o.is) (subst (Before (act_byte 8 w ∷ o.rest)) (sym p.is) (sooner (omega arith) (omega arith)))

module _ (choice : ℕ → ℕ → List (List ℕ)) (ordered : (w code : ℕ) → InOrder (choice w code)) (owns : (w code : ℕ) (s : List ℕ) → Memᴰ s (choice w code) → Owns w code s) where
  in_order_turns : (k w : ℕ) → w + k ≤ 16 → InOrder (in_turn choice k w)
  unfolding in_turn
  in_order_turns zero w l = tt
  in_order_turns (suc k) w l =
      in_order_append (choice w 8) (choice w 9 ++ in_turn choice k (w + 1)) (ordered w 8)
      (in_order_append (choice w 9) (in_turn choice k (w + 1)) (ordered w 9) (in_order_turns k (w + 1) (omega arith)) (λ s t x y. past 9 s t x y))
      (λ s t x y. by s t x (Memᴰ.append_cases (choice w 9) y))
    where
      past : (code : ℕ) (s t : List ℕ) → Memᴰ s (choice w code) → Memᴰ t (in_turn choice k (w + 1)) → Before s t
      past code s t x y =
          let c = turn_out choice k (w + 1) t y in
          by_worker w c.worker code c.code s t (omega arith) (omega (arith, c.high)) (omega (arith, c.low)) (owns w code s x) (owns c.worker c.code t c.there)

      by : (s t : List ℕ) → Memᴰ s (choice w 8) → Memᴰ t (choice w 9) ⊎ Memᴰ t (in_turn choice k (w + 1)) → Before s t
      by s t x (inl y) = by_code w s t (omega arith) (owns w 8 s x) (owns w 9 t y)
      by s t x (inr y) = past 8 s t x y

module _ {M D : Type 0} (refusal : D → ℕ) (machine : D → M) (turn : M → ℕ → ℕ → D) (workers : M → ℕ) (idle : M → Bool) (few : (m : M) → Type 0)
    (least : (m : M) → few m → workers m ≤ 16) (keeps : (m : M) (first : ℕ) → few m → few (machine (turn m first 0))) where
  order_choice : (left : ℕ) (m : M) → ((next : M) → few next → InOrder (walk_by refusal machine turn workers idle left next)) → few m
      → (w code : ℕ) → InOrder (choice_by refusal machine turn workers idle (walk_by refusal machine turn workers idle left) m w code)
  unfolding choice_by
  order_choice left m ih f w code = go (eqb (refusal (turn m (16 * w + code) 0)) 0)
    where
      go : (b : Bool) → InOrder (cond b (after (act_byte code w ∷ []) (walk_by refusal machine turn workers idle left (machine (turn m (16 * w + code) 0)))) [])
      go true = in_order_after (act_byte code w) _ (ih (machine (turn m (16 * w + code) 0)) (keeps m (16 * w + code) f))
      go false = tt

  order_step : (left : ℕ) (m : M) → ((next : M) → few next → InOrder (walk_by refusal machine turn workers idle left next)) → few m → InOrder (walk_by refusal machine turn workers idle (suc left) m)
  unfolding walk_by choice choice_by walk
  order_step left m ih f = go (idle m)
    where
      go : (b : Bool) → InOrder (cond b ([] ∷ []) (in_turn (choice_by refusal machine turn workers idle (walk_by refusal machine turn workers idle left) m) (workers m) 0))
      go true = (λ t k. absurd (Memᴰ.not-nil k), tt)
      go false =
          in_order_turns (choice_by refusal machine turn workers idle (walk_by refusal machine turn workers idle left) m) (order_choice left m ih f)
          (λ w code s x. let t = choice_out refusal machine turn workers idle left m w code s x in record { rest = t.begins.rest; is = t.begins.is })
          (workers m) 0 (omega (arith, least m f))

  pub walk_order : (left : ℕ) (m : M) → few m → InOrder (walk_by refusal machine turn workers idle left m)
  unfolding walk_by
  walk_order zero m f = (λ t k. absurd (Memᴰ.not-nil k), tt)
  walk_order (suc left) m f = order_step left m (walk_order left) f

-- none is there twice
pub not_before : (s : List ℕ) → Before s s → ⊥
not_before [] x = elim x [ ]
not_before (a ∷ s) (lower l) = omega arith
not_before (a ∷ s) (sooner e l) = omega arith
not_before (a ∷ s) (further e b) = not_before s b
