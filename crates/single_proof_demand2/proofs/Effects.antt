-- What a worker has the slot in hand for, and what kind of effect an act has: it rests, closes, locks, writes, swaps, reads or unlocks.
use Prim.Native.Nat.{ℕ}
use mathlib.Core.Path.{◌≡◌, refl, sym, ap, ◌∙◌, subst}
use mathlib.Core.Bool.{Bool, true, false, cond, true≢false}
use mathlib.Core.List.{List, [], ◌∷◌}
use Rattle.single_words.specs.declared.State.{State}
use Rattle.single_words.specs.Words.{state, same, pushed_in, closed_in, filled, unlocked, taken_of, closed_of_word}
use Rattle.single_places.specs.declared.Single.{Single}
use Rattle.single_places.specs.declared.Answer.{Answer}
use Rattle.single_places.specs.declared.Answer.TheVariants.{Nothing, Pushed, Full, Closed, Displaced, Popped, Empty, PopClosed, Len, Yes, No}
use Rattle.single_places.specs.declared.Place.{Place}
use Rattle.single_places.specs.declared.Place.TheVariants.{Idle, A1, A2, A3, B1, B2, B3, B4, B5, C1, C2, C3, Len1, Empty1, Full1, Close1, IsClosed1}
use Rattle.single_places.specs.Places.{view_of}
use Rattle.queue_schedules.proofs.Schedules.{either}
use Rattle.single_acts.specs.declared.Acted.{Acted}
use Rattle.single_acts.specs.Acts.{goes, state_to, value_to, exchanged, unlocked_in, len_of, act_of}
use Rattle.single_demands.specs.Notions.{Access, none, writes, swaps, reads, access_of, HandsOut, popped, displaced, is_close}
use Rattle.single_proof_demand2.proofs.Words.{word, pushed_of, closed_of, same_locked, same_pushed, same_closed, same_is, unlocked_word, taken_word, shut_word}

-- ---- hands
pub data Hand : Type 0 where
  free : Hand
  -- to write an item into an empty slot (A2, B2), and done (A3, B3)
  putting : ℕ → Hand
  put : Hand
  -- to write an item over another (B4), and done, with the old one (B5)
  swapping : ℕ → Hand
  swapped : ℕ → Hand
  -- to read the item (C2), and done, with it (C3)
  taking : Hand
  took : ℕ → Hand

abbrev pub hand_of_worker : Place → Hand
hand_of_worker (Idle a) = free
hand_of_worker (A1 x) = free
hand_of_worker (A2 x) = putting x
hand_of_worker A3 = put
hand_of_worker (B1 e x) = free
hand_of_worker (B2 x) = putting x
hand_of_worker B3 = put
hand_of_worker (B4 x) = swapping x
hand_of_worker (B5 old) = swapped old
hand_of_worker (C1 e) = free
hand_of_worker C2 = taking
hand_of_worker (C3 v) = took v
hand_of_worker Len1 = free
hand_of_worker Empty1 = free
hand_of_worker Full1 = free
hand_of_worker Close1 = free
hand_of_worker IsClosed1 = free

-- PUSHED, while a hand is on the slot
abbrev pub fills : Hand → Bool
fills free = true
fills (putting x) = true
fills put = true
fills (swapping x) = true
fills (swapped old) = true
fills taking = false
fills (took v) = false

abbrev pub holding : Hand → Bool
holding free = false
holding (putting x) = true
holding put = true
holding (swapping x) = true
holding (swapped old) = true
holding taking = true
holding (took v) = true

abbrev pub access_by : Hand → Access
access_by free = none
access_by (putting x) = writes x
access_by put = none
access_by (swapping x) = swaps x
access_by (swapped old) = none
access_by taking = reads
access_by (took v) = none

-- ---- what is read off a place
pub hand_is : (p : Place) → (view_of p).hand ≡ holding (hand_of_worker p)
hand_is (Idle a) = refl
hand_is (A1 x) = refl
hand_is (A2 x) = refl
hand_is A3 = refl
hand_is (B1 e x) = refl
hand_is (B2 x) = refl
hand_is B3 = refl
hand_is (B4 x) = refl
hand_is (B5 old) = refl
hand_is (C1 e) = refl
hand_is C2 = refl
hand_is (C3 v) = refl
hand_is Len1 = refl
hand_is Empty1 = refl
hand_is Full1 = refl
hand_is Close1 = refl
hand_is IsClosed1 = refl

pub access_is : (p : Place) → access_of p ≡ access_by (hand_of_worker p)
access_is (Idle a) = refl
access_is (A1 x) = refl
access_is (A2 x) = refl
access_is A3 = refl
access_is (B1 e x) = refl
access_is (B2 x) = refl
access_is B3 = refl
access_is (B4 x) = refl
access_is (B5 old) = refl
access_is (C1 e) = refl
access_is C2 = refl
access_is (C3 v) = refl
access_is Len1 = refl
access_is Empty1 = refl
access_is Full1 = refl
access_is Close1 = refl
access_is IsClosed1 = refl

-- a worker in hand is busy
pub holding_busy : (p : Place) → holding (hand_of_worker p) ≡ true → (view_of p).busy ≡ true
holding_busy (Idle a) h = absurd (true≢false (sym h))
holding_busy (A1 x) h = refl
holding_busy (A2 x) h = refl
holding_busy A3 h = refl
holding_busy (B1 e x) h = refl
holding_busy (B2 x) h = refl
holding_busy B3 h = refl
holding_busy (B4 x) h = refl
holding_busy (B5 old) h = refl
holding_busy (C1 e) h = refl
holding_busy C2 h = refl
holding_busy (C3 v) h = refl
holding_busy Len1 h = refl
holding_busy Empty1 h = refl
holding_busy Full1 h = refl
holding_busy Close1 h = refl
holding_busy IsClosed1 h = refl

-- what is handed out, if anything is
abbrev pub out_by : Answer → List ℕ
out_by Nothing = []
out_by Pushed = []
out_by (Full x) = []
out_by (Closed x) = []
out_by (Displaced v) = v ∷ []
out_by (Popped v) = v ∷ []
out_by Empty = []
out_by PopClosed = []
out_by (Len n) = []
out_by Yes = []
out_by No = []

abbrev pub out_of : Place → List ℕ
out_of (Idle a) = out_by a
out_of (A1 x) = []
out_of (A2 x) = []
out_of A3 = []
out_of (B1 e x) = []
out_of (B2 x) = []
out_of B3 = []
out_of (B4 x) = []
out_of (B5 old) = []
out_of (C1 e) = []
out_of C2 = []
out_of (C3 v) = []
out_of Len1 = []
out_of Empty1 = []
out_of Full1 = []
out_of Close1 = []
out_of IsClosed1 = []

pub out_is : (p : Place) (v : ℕ) → HandsOut p v → out_of p ≡ v ∷ []
out_is p v popped = refl
out_is p v displaced = refl

pub out_free : (p : Place) (v : ℕ) → HandsOut p v → hand_of_worker p ≡ free
out_free p v popped = refl
out_free p v displaced = refl

-- ---- the words that exchanges expect: force_push's is unlocked and not closed, pop's is unlocked and pushed
abbrev pub Expects : Place → Type 0
Expects (Idle a) = Unit {0}
Expects (A1 x) = Unit {0}
Expects (A2 x) = Unit {0}
Expects A3 = Unit {0}
Expects (B1 e x) = (b : Bool) × (e ≡ word false b false)
Expects (B2 x) = Unit {0}
Expects B3 = Unit {0}
Expects (B4 x) = Unit {0}
Expects (B5 old) = Unit {0}
Expects (C1 e) = (c : Bool) × (e ≡ word false true c)
Expects C2 = Unit {0}
Expects (C3 v) = Unit {0}
Expects Len1 = Unit {0}
Expects Empty1 = Unit {0}
Expects Full1 = Unit {0}
Expects Close1 = Unit {0}
Expects IsClosed1 = Unit {0}

-- ---- the kinds of effect

-- What a hand takes hold of: an empty slot to fill it, or an item to replace it or to take it.
pub data Opens : Bool → Hand → Type 0 where
  opens_put : {x : ℕ} → Opens false (putting x)
  opens_swap : {x : ℕ} → Opens true (swapping x)
  opens_take : Opens true taking

-- What a hand lets go with.
pub data LetsOff : Hand → Place → Type 0 where
  off_put : LetsOff put (Idle Pushed)
  off_swapped : {old : ℕ} → LetsOff (swapped old) (Idle (Displaced old))
  off_took : {v : ℕ} → LetsOff (took v) (Idle (Popped v))

-- Of an act at p, on a queue whose word has these bits.
pub data Effect (s : Single) (l b c : Bool) (p : Place) : Acted → Type 0 where
  rests : (q : Place) → hand_of_worker p ≡ free → hand_of_worker q ≡ free → is_close p ≡ false → out_of q ≡ [] → Effect s l b c p (goes s q)
  shuts : (q : Place) → hand_of_worker p ≡ free → hand_of_worker q ≡ free → is_close p ≡ true → out_of q ≡ []
      → Effect s l b c p (goes (state_to s (word l b true)) q)
  locks : (q : Place) (g : Hand) → hand_of_worker p ≡ free → l ≡ false → hand_of_worker q ≡ g → Opens b g → is_close p ≡ false
      → Effect s l b c p (goes (state_to s (word true (fills g) c)) q)
  puts : (q : Place) (x : ℕ) → hand_of_worker p ≡ putting x → hand_of_worker q ≡ put → is_close p ≡ false → Effect s l b c p (goes (value_to s x) q)
  swaps_in : (q : Place) (x : ℕ) → hand_of_worker p ≡ swapping x → q ≡ B5 s.value → is_close p ≡ false → Effect s l b c p (goes (value_to s x) q)
  gets : (q : Place) → hand_of_worker p ≡ taking → q ≡ C3 s.value → is_close p ≡ false → Effect s l b c p (goes s q)
  unlocks : (q : Place) → LetsOff (hand_of_worker p) q → is_close p ≡ false → Effect s l b c p (goes (state_to s (word false b c)) q)

module _ (s : Single) (l b c : Bool) (is : s.state ≡ word l b c) where
  -- ---- an exchange
  pub won : (e w : State) → same s.state e ≡ true → exchanged s e w ≡ state_to s w
  unfolding exchanged
  won e w h = rw h

  pub lost : (e w : State) → same s.state e ≡ false → exchanged s e w ≡ s
  unfolding exchanged
  lost e w h = rw h

  unlocking : (p q : Place) → LetsOff (hand_of_worker p) q → is_close p ≡ false → Effect s l b c p (goes (unlocked_in s) q)
  unfolding unlocked_in
  unlocking p q k n =
      subst (λ (w : State). Effect s l b c p (goes (state_to s w) q)) (sym (ap unlocked is ∙ unlocked_word l b c)) (unlocks q k n)

  looking : (p q q' : Place) (t : Bool) → hand_of_worker p ≡ free → is_close p ≡ false → hand_of_worker q ≡ free → hand_of_worker q' ≡ free
      → out_of q ≡ [] → out_of q' ≡ [] → Effect s l b c p (goes s (cond t q q'))
  looking p q q' t h n f f' o o' = either (λ (x : Place). Effect s l b c p (goes s x)) t q q' (λ z. rests q h f n o) (λ z. rests q' h f' n o')

  push_takes : (x : ℕ) → Effect s l b c (A1 x) (act_of s (A1 x))
  push_takes x = go (same s.state (state 0)) refl
    where
      go : (t : Bool) → same s.state (state 0) ≡ t → Effect s l b c (A1 x) (act_of s (A1 x))
      go true t =
          let z : s.state ≡ word false false false = same_is s.state (state 0) t in
          let w : word true true c ≡ filled = ap (word true true) (same_closed s.state l b c is false false false z) in
          rw (won (state 0) filled t, t)
          (subst (λ (y : State). Effect s l b c (A1 x) (goes (state_to s y) (A2 x))) w
          (locks (A2 x) (putting x) refl (same_locked s.state l b c is false false false z) refl
          (subst (λ (y : Bool). Opens y (putting x)) (sym (same_pushed s.state l b c is false false false z)) opens_put) refl))
      go false t =
          rw (lost (state 0) filled t, t)
          (looking (A1 x) (Idle (Closed x)) (Idle (Full x)) (closed_in s.state) refl refl refl refl refl refl)

  force_takes : (e : State) (x : ℕ) → Expects (B1 e x) → Effect s l b c (B1 e x) (act_of s (B1 e x))
  force_takes e x k = go (same s.state e) refl (closed_in s.state) refl
    where
      go : (t : Bool) → same s.state e ≡ t → (d : Bool) → closed_in s.state ≡ d → Effect s l b c (B1 e x) (act_of s (B1 e x))
      go true t d h =
          let z : s.state ≡ word false k.0 false = same_is s.state e t ∙ k.1 in
          let open_still : closed_in s.state ≡ false = closed_of s.state false k.0 false z in
          let w : word true true c ≡ filled = ap (word true true) (same_closed s.state l b c is false k.0 false z) in
          rw (won e filled t, open_still, t)
          (subst (λ (y : State). Effect s l b c (B1 e x) (goes (state_to s y) (cond (pushed_in s.state) (B4 x) (B2 x)))) w
          (subst (λ (y : Bool). Effect s l b c (B1 e x) (goes (state_to s (word true true c)) (cond y (B4 x) (B2 x)))) (sym (pushed_of s.state l b c is))
          (takes b (same_locked s.state l b c is false k.0 false z))))
        where
          takes : (b : Bool) → l ≡ false → Effect s l b c (B1 e x) (goes (state_to s (word true true c)) (cond b (B4 x) (B2 x)))
          takes true f = locks (B4 x) (swapping x) refl f refl opens_swap refl
          takes false f = locks (B2 x) (putting x) refl f refl opens_put refl
      go false t true h = rw (lost e filled t, h) (rests (Idle (Closed x)) refl refl refl refl)
      go false t false h = rw (lost e filled t, h, t) (rests (B1 (unlocked s.state) x) refl refl refl refl)

  pop_takes : (e : State) → Expects (C1 e) → Effect s l b c (C1 e) (act_of s (C1 e))
  pop_takes e k = go (same s.state e) refl (pushed_in s.state) refl
    where
      go : (t : Bool) → same s.state e ≡ t → (d : Bool) → pushed_in s.state ≡ d → Effect s l b c (C1 e) (act_of s (C1 e))
      go true t d h =
          let z : s.state ≡ word false true k.0 = same_is s.state e t ∙ k.1 in
          let w : word true false c ≡ taken_of e =
          ap (word true false) (same_closed s.state l b c is false true k.0 z) ∙ sym (ap taken_of k.1 ∙ taken_word false true k.0) in
          rw (won e (taken_of e) t, t)
          (subst (λ (y : State). Effect s l b c (C1 e) (goes (state_to s y) C2)) w
          (locks C2 taking refl (same_locked s.state l b c is false true k.0 z) refl
          (subst (λ (y : Bool). Opens y taking) (sym (same_pushed s.state l b c is false true k.0 z)) opens_take) refl))
      go false t true h = rw (lost e (taken_of e) t, t, h) (rests (C1 (unlocked s.state)) refl refl refl refl)
      go false t false h =
          rw (lost e (taken_of e) t, t, h)
          (looking (C1 e) (Idle PopClosed) (Idle Empty) (closed_in s.state) refl refl refl refl refl refl)

  closes : Effect s l b c Close1 (act_of s Close1)
  closes =
      subst (λ (w : State). Effect s l b c Close1 (goes (state_to s w) (Idle (cond (closed_in s.state) No Yes)))) (sym (ap closed_of_word is ∙ shut_word l b c))
      (go (closed_in s.state))
    where
      go : (t : Bool) → Effect s l b c Close1 (goes (state_to s (word l b true)) (Idle (cond t No Yes)))
      go true = shuts (Idle No) refl refl refl refl
      go false = shuts (Idle Yes) refl refl refl refl

  answers : (p : Place) (a a' : Answer) (t : Bool) → hand_of_worker p ≡ free → is_close p ≡ false → out_by a ≡ [] → out_by a' ≡ [] → Effect s l b c p (goes s (Idle (cond t a a')))
  answers p a a' true h n o o' = rests (Idle a) h refl n o
  answers p a a' false h n o o' = rests (Idle a') h refl n o'

  pub effect : (p : Place) → (view_of p).busy ≡ true → Expects p → Effect s l b c p (act_of s p)
  effect (Idle a) busy k = absurd (true≢false (sym busy))
  effect (A1 x) busy k = push_takes x
  effect (A2 x) busy k = puts A3 x refl refl refl
  effect A3 busy k = unlocking A3 (Idle Pushed) off_put refl
  effect (B1 e x) busy k = force_takes e x k
  effect (B2 x) busy k = puts B3 x refl refl refl
  effect B3 busy k = unlocking B3 (Idle Pushed) off_put refl
  effect (B4 x) busy k = swaps_in (B5 s.value) x refl refl refl
  effect (B5 old) busy k = unlocking (B5 old) (Idle (Displaced old)) off_swapped refl
  effect (C1 e) busy k = pop_takes e k
  effect C2 busy k = gets (C3 s.value) refl refl refl
  effect (C3 v) busy k = unlocking (C3 v) (Idle (Popped v)) off_took refl
  effect Len1 busy k = rests (Idle (Len (len_of s.state))) refl refl refl refl
  effect Empty1 busy k = answers Empty1 No Yes (pushed_in s.state) refl refl refl refl
  effect Full1 busy k = answers Full1 Yes No (pushed_in s.state) refl refl refl refl
  effect Close1 busy k = closes
  effect IsClosed1 busy k = answers IsClosed1 Yes No (closed_in s.state) refl refl refl refl

  -- and an exchange that is tried again expects what it found, unlocked
  pub expects_after : (p : Place) → Expects p → Expects (act_of s p).place
  unfolding goes
  expects_after (Idle a) k = tt
  expects_after (A1 x) k =
      either Expects (same s.state (state 0)) (A2 x) (cond (closed_in s.state) (Idle (Closed x)) (Idle (Full x))) (λ t. tt)
      (λ t. either Expects (closed_in s.state) (Idle (Closed x)) (Idle (Full x)) (λ d. tt) (λ d. tt))
  expects_after (A2 x) k = tt
  expects_after A3 k = tt
  expects_after (B1 e x) k =
      either Expects (closed_in s.state) (Idle (Closed x)) _ (λ d. tt)
      (λ d. either Expects (same s.state e) (cond (pushed_in s.state) (B4 x) (B2 x)) (B1 (unlocked s.state) x)
      (λ t. either Expects (pushed_in s.state) (B4 x) (B2 x) (λ y. tt) (λ y. tt))
      (λ t. (b, ap unlocked is ∙ unlocked_word l b c ∙ ap (word false b) (sym (closed_of s.state l b c is) ∙ d))))
  expects_after (B2 x) k = tt
  expects_after B3 k = tt
  expects_after (B4 x) k = tt
  expects_after (B5 old) k = tt
  expects_after (C1 e) k =
      either Expects (same s.state e) C2 _ (λ t. tt)
      (λ t. either Expects (pushed_in s.state) (C1 (unlocked s.state)) (cond (closed_in s.state) (Idle PopClosed) (Idle Empty))
      (λ d. (c, ap unlocked is ∙ unlocked_word l b c ∙ ap (λ (y : Bool). word false y c) (sym (pushed_of s.state l b c is) ∙ d)))
      (λ d. either Expects (closed_in s.state) (Idle PopClosed) (Idle Empty) (λ y. tt) (λ y. tt)))
  expects_after C2 k = tt
  expects_after (C3 v) k = tt
  expects_after Len1 k = tt
  expects_after Empty1 k = tt
  expects_after Full1 k = tt
  expects_after Close1 k = tt
  expects_after IsClosed1 k = tt
