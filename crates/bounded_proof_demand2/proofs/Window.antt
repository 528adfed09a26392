-- The window in claims: how old the word of each worker is.
use mathlib.Core.Path.{◌≡◌, refl, sym, ap, ◌∙◌}
use mathlib.Core.Bool.{Bool, true, false, cond, true≢false}
use mathlib.Core.List.{List, [], ◌∷◌, ◌++◌}
use Prim.Native.Nat.{ℕ, ◌+◌, ◌*◌, ◌-◌, ◌≤◌, ◌<◌}
use native.Mathlib.Omega.{arith}
use lib.Arith.{digits_div}
use lib.ListN.{length, length-append}
use Rattle.bounded_words.specs.declared.Width.{Width}
use Rattle.bounded_words.specs.Words.{width_of}
use Rattle.bounded_places.specs.declared.Place.{Place}
use Rattle.bounded_places.specs.declared.Place.TheVariants.{Idle, P1, P2, P3, P4, P5, P6, F6, F7, F8, F9, O1, O2, O3, O4, O5, O6, Len1, Len2, Len3, Empty1, Empty2, Full1, Full2, Close1, IsClosed1}
use Rattle.bounded_places.specs.declared.Moved.{Moved}
use Rattle.bounded_places.specs.declared.Moved.TheVariants.{Neither, Tail, Head}
use Rattle.bounded_machine.specs.declared.Event.{Event}
use Rattle.bounded_machine.specs.declared.Tally.{Tally}
use Rattle.bounded_machine.specs.History.{moved_of, reads_at, untallied, tally_of}
use Rattle.bounded_demands.specs.Notions.{tail_by, head_by, tailers_of, takers_of, tally, Holding, NoWord, NewWord, OldWord, holding_at, holds, is_new, gives_to, since_from, turn_length}
use Rattle.bounded_proof_invariant.proofs.Ring.{Shared}
use Rattle.bounded_proof_invariant.proofs.Effects.{Effect, Still, Tailed, Taken, Grabbed, Forced, Fills, Swaps, Frees, Gives, after}
use Rattle.bounded_proof_each_act.proofs.Stamps.{Ground, fixed}
use Rattle.bounded_proof_each_act.proofs.Sight.{Age, aged, look, told, Young, Recent}
use Rattle.bounded_proof_demand2.proofs.Counts.{by_act, tally_end, tally_tail, tally_head}
use Rattle.bounded_proof_demand2.proofs.Logged.{moved_by}

-- ---- the acts since a word was given

-- one act more
pub since_end : (w : ℕ) (acts h : List Event) (e : Event) → since_from w acts (h ++ e ∷ []) ≡ cond (gives_to w e) [] (since_from w acts h ++ e ∷ [])
unfolding since_from
since_end w acts [] e = refl
since_end w acts (a ∷ h) e = since_end w (cond (gives_to w a) [] (acts ++ a ∷ [])) h e

-- no more than there were
pub since_few : (w : ℕ) (acts h : List Event) → length (since_from w acts h) ≤ length acts + length h
unfolding since_from
since_few w acts [] = omega arith
since_few w acts (e ∷ h) = go (gives_to w e) (λ l. since_few w l h)
  where
    go : (b : Bool) → ((l : List Event) → length (since_from w l h) ≤ length l + length h) → length (since_from w (cond b [] (acts ++ e ∷ [])) h) ≤ length acts + length (e ∷ h)
    go true rest = omega (arith, rest [])
    go false rest = omega (arith, rest (acts ++ e ∷ []), length-append acts (e ∷ []))

abbrev pub tails : Moved → ℕ
tails x = length (tail_by x 0)

abbrev pub heads : Moved → ℕ
heads x = length (head_by x 0)

pub tally_more : (l : List Event) (e : Event)
    → ((tally (l ++ e ∷ [])).tail.0 ≡ (tally l).tail.0 + tails (moved_of e.after)) × ((tally (l ++ e ∷ [])).head.0 ≡ (tally l).head.0 + heads (moved_of e.after))
tally_more l e =
    let q = tally_end l e untallied in
    let b = by_act (reads_at e.before) (moved_of e.after) (tally l) 0 in
    (ap (λ (t : Tally). t.tail.0) q ∙ b.0, ap (λ (t : Tally). t.head.0) q ∙ b.1)

-- a claim is an act
pub one_claim : (x : Moved) (w : ℕ) → (length (tail_by x w) ≤ 1) × (length (head_by x w) ≤ 1)
one_claim Neither w = omega arith
one_claim Tail w = omega arith
one_claim Head w = omega arith

pub claims_few : (h : List Event) → (length (tailers_of h) ≤ length h) × (length (takers_of h) ≤ length h)
unfolding tailers_of takers_of
claims_few [] = omega arith
claims_few (e ∷ h) =
    let x = moved_of e.after in
    let o = one_claim x e.worker in
    let r = claims_few h in (
      omega (arith, o.0, r.0, length-append (tail_by x e.worker) (tailers_of h)),
      omega (arith, o.1, r.1, length-append (head_by x e.worker) (takers_of h)),
    )

pub since_claims : (w : ℕ) (h : List Event) → ((tally (since_from w [] h)).tail.0 ≤ length h) × ((tally (since_from w [] h)).head.0 ≤ length h)
since_claims w h =
    let l = since_from w [] h in
    let q = claims_few (since_from w [] h) in
    let s : length (since_from w [] h) ≤ length h = omega (arith, since_few w [] h) in
    (omega (arith, tally_tail l, q.0, s), omega (arith, tally_head l, q.1, s))

-- ---- ages

-- claims at either end since the age
abbrev pub Dated : Shared → Age → List Event → Type 0
Dated s a l = (s.tail ≡ a.tail + (tally l).tail.0) × (s.head ≡ a.head + (tally l).head.0)

-- what an effect adds at either end
pub claims_after : (c : ℕ) (s : Shared) (w i : ℕ) (e : Effect)
    → ((after c w i e s).tail ≡ s.tail + tails (moved_by (told e))) × ((after c w i e s).head ≡ s.head + heads (moved_by (told e)))
claims_after c s w i Still = omega arith
claims_after c s w i (Tailed x) = omega arith
claims_after c s w i Taken = omega arith
claims_after c s w i Grabbed = omega arith
claims_after c s w i (Forced k x) = omega arith
claims_after c s w i (Fills k a) = omega arith
claims_after c s w i (Swaps k a) = omega arith
claims_after c s w i (Frees k y) = omega arith
claims_after c s w i (Gives k y v) = omega arith

-- an act that gives a word is no claim
new_quiet : (q : Place) → is_new (holding_at q) ≡ true → moved_of q ≡ Neither
new_quiet (Idle a) h = refl
new_quiet (P1 k x) h = refl
new_quiet (P2 k t x) h = refl
new_quiet (P3 k t x) h = refl
new_quiet (P4 t x) h = absurd (true≢false (sym h))
new_quiet (P5 t) h = refl
new_quiet (P6 t x) h = refl
new_quiet (F6 t x) h = refl
new_quiet (F7 t x) h = absurd (true≢false (sym h))
new_quiet (F8 t x) h = absurd (true≢false (sym h))
new_quiet (F9 t old) h = refl
new_quiet O1 h = refl
new_quiet (O2 w) h = refl
new_quiet (O3 w) h = refl
new_quiet (O4 w) h = absurd (true≢false (sym h))
new_quiet (O5 w v) h = refl
new_quiet (O6 w) h = refl
new_quiet Len1 h = refl
new_quiet (Len2 t) h = refl
new_quiet (Len3 t w) h = refl
new_quiet Empty1 h = refl
new_quiet (Empty2 w) h = refl
new_quiet Full1 h = refl
new_quiet (Full2 t) h = refl
new_quiet Close1 h = refl
new_quiet IsClosed1 h = refl

module _ (s u : Shared) (a : Age) (l : List Event) (e : Event)
    (grown : (u.tail ≡ s.tail + tails (moved_of e.after)) × (u.head ≡ s.head + heads (moved_of e.after))) where
  -- of a worker that keeps its word, or has none
  pub dated_more : Dated s a l → Dated u a (l ++ e ∷ [])
  dated_more d = let q = tally_more l e in (omega (arith, d.0, q.0, grown.0), omega (arith, d.1, q.1, grown.1))

  -- of the one that acted
  pub dated_own : Dated s a l → (d : Holding) → d ≡ holding_at e.after → Dated u (aged s a d) (cond (is_new d) [] (l ++ e ∷ []))
  unfolding tally_of
  dated_own o NoWord q = dated_more o
  dated_own o OldWord q = dated_more o
  dated_own o NewWord q =
      let z : moved_of e.after ≡ Neither = new_quiet e.after (ap is_new (sym q)) in
      (omega (arith, grown.0, ap tails z), omega (arith, grown.1, ap heads z))

-- ---- the window

module _ (bits : Width) (c mark n ed : ℕ) (g : Ground bits c mark n) where
  pub turn_is : turn_length bits (fixed c mark ed) ≡ n * c
  turn_is =
      let big : 0 < 2 * mark = omega (arith, g.laws.room) in
      let e : c * width_of bits ≡ n * c * (2 * mark) + 0 = rw (← g.whole) (omega arith) in
      rw e (digits_div (n * c) big)

  pub window_young : (s : Shared) (a : Age) (l : List Event) → Dated s a l
      → ((tally l).tail.0 < turn_length bits (fixed c mark ed) - c) × ((tally l).head.0 < turn_length bits (fixed c mark ed) - c) → Young c mark n s a
  window_young s a l d w = (omega (arith, turn_is, d.0, w.0), omega (arith, turn_is, d.1, w.1))

  -- where a worker holds no word, or has a slot in hand, its age does not matter
  pub recent_of : (s : Shared) (a : Age) (p : Place) → (holds (holding_at p) ≡ true → Young c mark n s a) → Recent c mark n s a (look c p)
  recent_of s a (Idle x) y = tt
  recent_of s a (P1 k x) y = tt
  recent_of s a (P2 k t x) y = λ z. y refl
  recent_of s a (P3 k t x) y = λ z. y refl
  recent_of s a (P4 t x) y = λ z. y refl
  recent_of s a (P5 t) y = λ z. y refl
  recent_of s a (P6 t x) y = λ z. y refl
  recent_of s a (F6 t x) y = λ z. y refl
  recent_of s a (F7 t x) y = λ z. y refl
  recent_of s a (F8 t x) y = λ z. y refl
  recent_of s a (F9 t old) y = λ z. y refl
  recent_of s a O1 y = tt
  recent_of s a (O2 h) y = λ z. y refl
  recent_of s a (O3 h) y = λ z. y refl
  recent_of s a (O4 h) y = λ z. y refl
  recent_of s a (O5 h v) y = λ z. y refl
  recent_of s a (O6 h) y = λ z. y refl
  recent_of s a Len1 y = tt
  recent_of s a (Len2 t) y = y refl
  recent_of s a (Len3 t h) y = y refl
  recent_of s a Empty1 y = tt
  recent_of s a (Empty2 h) y = λ z. y refl
  recent_of s a Full1 y = tt
  recent_of s a (Full2 t) y = y refl
  recent_of s a Close1 y = tt
  recent_of s a IsClosed1 y = tt
