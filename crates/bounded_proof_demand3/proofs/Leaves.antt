-- No act of a call that alone is scheduled changes the answer foretold.
use mathlib.Core.Path.{◌≡◌, refl, sym, ap, ◌∙◌}
use mathlib.Core.Bool.{Bool, true, false, cond, true≢false}
use Prim.Native.Nat.{ℕ}
use borrow.Author.Tests.{eqb-true}
use Rattle.bounded_words.specs.declared.Stamp.{Stamp}
use Rattle.bounded_words.specs.declared.Fixed.{Fixed}
use Rattle.bounded_words.specs.declared.Width.{Width}
use Rattle.bounded_words.specs.Words.{stamp, index_of, marked_of, unmarked_of, minus, with_mark, same, one_past, lap_behind, lap_behind_one_past}
use Rattle.bounded_places.specs.declared.Slot.{Slot}
use Rattle.bounded_places.specs.declared.Ends.{Ends}
use Rattle.bounded_places.specs.declared.Kind.{Kind}
use Rattle.bounded_places.specs.declared.Kind.TheVariants.{Push, Force}
use Rattle.bounded_places.specs.declared.Answer.{Answer}
use Rattle.bounded_places.specs.declared.Answer.TheVariants.{Pushed, Full, Closed, Displaced, Popped, Empty, PopClosed, Len, Yes, No}
use Rattle.bounded_places.specs.declared.Exchange.{Exchange}
use Rattle.bounded_places.specs.declared.Exchange.TheVariants.{Won, Differed}
use Rattle.bounded_places.specs.declared.Loss.{Loss}
use Rattle.bounded_places.specs.declared.Loss.TheVariants as loss
use Rattle.bounded_places.specs.declared.Place.{Place}
use Rattle.bounded_places.specs.declared.Place.TheVariants.{Idle, P1, P2, P3, P4, P5, P6, F6, F7, F8, F9, O1, O2, O3, O4, O5, O6, Len1, Len2, Len3, Empty1, Empty2, Full1, Full2, Close1, IsClosed1}
use Rattle.bounded_places.specs.Places.{view_of}
use Rattle.bounded_acts.specs.declared.Acted.{Acted}
use Rattle.bounded_acts.specs.Acts.{goes, losing, exchange_of, after_tail, end_p3, end_f6, end_o3, tail_to, head_to, stamp_to, value_to, act_of, act_p2, full_at, count_of, yes_no}
use Rattle.bounded_machine.specs.Turn.{spot_of}
use Rattle.bounded_machine.proofs.Kept.{either, exchanged}
use Rattle.bounded_demands.specs.Foretold.{full_answer, push_answer, foretold_of}
use Rattle.bounded_proof_demand3.proofs.Falls.{Finds, FindsTail, clear_is}

twice : (b : Bool) (x y : Answer) → cond b x (cond b x y) ≡ cond b x y
twice true x y = refl
twice false x y = refl

same_is : (a b : Stamp) → same a b ≡ true → a ≡ b
unfolding same
same_is a b h = ap stamp (eqb-true a.0 b.0 h)

-- One act at the slot i, in which s is; v is the value in the slot at head.
module _ (bits : Width) (f : Fixed) (e : Ends) (s : Slot) (i v : ℕ) (first : i ≡ index_of f e.head → v ≡ s.value) where
  -- the act leaves the answer r to be given, whatever values are then at head (the same, if the act changed nothing) and in
  -- the worker's slot (what the act left there, if it is the same slot)
  abbrev pub Leaves : Answer → Acted → Type 0
  Leaves r a =
      (v' u' : ℕ) → (a.ends ≡ e → a.slot ≡ s → v' ≡ v) → (spot_of f (view_of a.place).held ≡ i → u' ≡ a.slot.value)
      → foretold_of bits f a.ends v' u' a.place ≡ r

  -- nothing but the place changed
  lost : (l : Loss) (r : Answer) (q : Place) → ((u : ℕ) → foretold_of bits f e v u q ≡ r) → Leaves r (losing e s q l)
  unfolding losing
  lost l r q k v' u' h w = ap (λ (z : ℕ). foretold_of bits f e z u' q) (h refl refl) ∙ k u'

  rest : (r : Answer) (q : Place) → ((u : ℕ) → foretold_of bits f e v u q ≡ r) → Leaves r (goes e s q)
  unfolding goes losing
  rest = lost loss.Nothing

  split : (b : Bool) (a c : Acted) (x y : Answer) → (b ≡ true → Leaves x a) → (b ≡ false → Leaves y c) → Leaves (cond b x y) (cond b a c)
  split true a c x y p q = p refl
  split false a c x y p q = q refl

  -- the same of an exchange
  split_lost : (end : Exchange → Acted) (found expected : Stamp) (x y : Answer) → (same found expected ≡ true → Leaves x (end Won)) → Leaves y (end (Differed found))
      → Leaves (cond (same found expected) x y) (end (exchange_of found expected false))
  unfolding exchange_of
  split_lost end found expected x y p q = go (same found expected) refl
    where
      go : (b : Bool) → same found expected ≡ b → Leaves (cond b x y) (end (cond b Won (Differed found)))
      go true h = p h
      go false h = q

  -- tail loaded, or found
  finds : (l : Loss) (k : Kind) (x : ℕ) → Leaves (push_answer bits f e v k x) (losing e s (after_tail f k e.tail x) l)
  unfolding after_tail
  finds l k x =
      either (λ (q : Place). Leaves (push_answer bits f e v k x) (losing e s q l)) (marked_of f e.tail) (Idle (Closed x)) (P2 k e.tail x)
      (λ h. lost l _ (Idle (Closed x)) (λ u. rw h))
      (λ h. lost l _ (P2 k e.tail x) (λ u. rw (h, clear_is f e.tail h) (twice (lap_behind bits f e.head e.tail) (full_answer k x v) Pushed)))

  told_p2 : (k : Kind) (t : Stamp) (x : ℕ) → FindsTail bits f e s t → Leaves (foretold_of bits f e v s.value (P2 k t x)) (act_p2 bits f e s k t x)
  told_p2 k t x d =
      either (Leaves _) (same s.stamp t) (goes e s (P3 k t x)) _
      (λ h. rest _ (P3 k t x) (λ u. rw (d.free h)))
      (λ h. either (Leaves _) (lap_behind_one_past bits f s.stamp t) (goes e s (full_at k t x)) (goes e s (P1 k x))
      (λ g. full k (d.full g))
      (λ g. rest _ (P1 k x) (λ u. out (lap_behind bits f e.head t) refl h g)))
    where
      full : (k : Kind) → (lap_behind bits f e.head t ≡ true) × (same e.head (minus bits t f.lap) ≡ true)
          → Leaves (foretold_of bits f e v s.value (P2 k t x)) (goes e s (full_at k t x))
      full Push q = rest _ (P6 t x) (λ u. refl)
      full Force q = rest _ (F6 t x) (λ u. rw (q.0, q.1))

      out : (b : Bool) → lap_behind bits f e.head t ≡ b → same s.stamp t ≡ false → lap_behind_one_past bits f s.stamp t ≡ false
          → push_answer bits f e v k x ≡ cond b (full_answer k x v) (push_answer bits f e v k x)
      out true q h g = absurd (d.decides (d.lapped q) h g)
      out false q h g = refl

  pub leaves : (p : Place) → (view_of p).busy ≡ true → i ≡ spot_of f (view_of p).held → Finds bits f e s p → Leaves (foretold_of bits f e v s.value p) (act_of bits f e s p false)
  unfolding goes losing tail_to head_to value_to stamp_to
  leaves (Idle a) busy at d = absurd (true≢false (sym busy))
  leaves (P1 k x) busy at d = finds loss.Nothing k x
  leaves (P2 k t x) busy at d = told_p2 k t x d
  leaves (P3 k t x) busy at d =
      exchanged (λ (y : Exchange). Leaves (foretold_of bits f e v s.value (P3 k t x)) (end_p3 bits f e s k t x y)) e.tail t false (λ h g. absurd (true≢false (sym g)))
      (λ h g v' u' p q. rw ((d h).0, (d h).1)) (λ h. finds loss.ByWords k x)
  leaves (P4 t x) busy at d = λ v' u' p q. refl
  leaves (P5 t) busy at d = λ v' u' p q. refl
  leaves (P6 t x) busy at d =
      split (lap_behind bits f e.head t) (goes e s (Idle (Full x))) (goes e s (P1 Push x)) (Full x) (push_answer bits f e v Push x)
      (λ h. rest _ (Idle (Full x)) (λ u. refl)) (λ h. rest _ (P1 Push x) (λ u. refl))
  leaves (F6 t x) busy at d =
      split_lost (end_f6 bits f e s t x) e.head (minus bits t f.lap) (Displaced v) (push_answer bits f e v Force x)
      (λ h v' u' p q. ap Displaced (q (sym at) ∙ sym (first (at ∙ d h)))) (lost loss.ByWords _ (P1 Force x) (λ u. refl))
  leaves (F7 t x) busy at d = λ v' u' p q. ap Displaced (q (sym at))
  leaves (F8 t x) busy at d = λ v' u' p q. refl
  leaves (F9 t old) busy at d = λ v' u' p q. refl
  leaves O1 busy at d = rest _ (O2 e.head) (λ u. refl)
  leaves (O2 h) busy at d =
      either (Leaves _) (one_past bits s.stamp h) (goes e s (O3 h)) _ (λ p. rest _ (O3 h) (λ u. refl))
      (λ p. either (Leaves _) (same s.stamp h) (goes e s (O6 h)) (goes e s O1) (λ q. rest _ (O6 h) (λ u. refl)) (λ q. rest _ O1 (λ u. refl)))
  leaves (O3 h) busy at d =
      exchanged (λ (y : Exchange). Leaves (foretold_of bits f e v s.value (O3 h)) (end_o3 bits f e s h y)) e.head h false (λ z g. absurd (true≢false (sym g)))
      (λ z g v' u' p q. rw (d z) (ap Popped (q (sym at) ∙ sym (first (at ∙ ap (index_of f) (sym (same_is e.head h z)))))))
      (λ z. lost loss.ByWords _ (O2 e.head) (λ u. refl))
  leaves (O4 h) busy at d = λ v' u' p q. refl
  leaves (O5 h w) busy at d = λ v' u' p q. refl
  leaves (O6 h) busy at d =
      either (Leaves _) (same (unmarked_of f e.tail) h) _ (goes e s O1)
      (λ z. either (Leaves _) (marked_of f e.tail) (goes e s (Idle PopClosed)) (goes e s (Idle Empty))
      (λ g. rest _ (Idle PopClosed) (λ u. rw (d z, g))) (λ g. rest _ (Idle Empty) (λ u. rw (d z, g))))
      (λ z. rest _ O1 (λ u. refl))
  leaves Len1 busy at d = rest _ (Len2 e.tail) (λ u. refl)
  leaves (Len2 t) busy at d = rest _ (Len3 t e.head) (λ u. go (same e.tail t) refl)
    where
      go : (b : Bool) → same e.tail t ≡ b → cond b (Len (count_of f t e.head)) (Len (count_of f e.tail e.head)) ≡ Len (count_of f e.tail e.head)
      go true q = ap (λ (z : Stamp). Len (count_of f z e.head)) (sym (same_is e.tail t q))
      go false q = refl
  leaves (Len3 t h) busy at d =
      split (same e.tail t) (goes e s (Idle (Len (count_of f t h)))) (goes e s Len1) _ _ (λ z. rest _ (Idle (Len (count_of f t h))) (λ u. refl)) (λ z. rest _ Len1 (λ u. refl))
  leaves Empty1 busy at d = rest _ (Empty2 e.head) (λ u. refl)
  leaves (Empty2 h) busy at d = rest _ (Idle (yes_no (same (unmarked_of f e.tail) h))) (λ u. refl)
  leaves Full1 busy at d = rest _ (Full2 e.tail) (λ u. refl)
  leaves (Full2 t) busy at d = rest _ (Idle (yes_no (lap_behind bits f e.head (unmarked_of f t)))) (λ u. refl)
  leaves Close1 busy at d =
      split (marked_of f e.tail) (goes e s (Idle No)) (goes (tail_to e (with_mark bits f e.tail)) s (Idle Yes)) No Yes
      (λ h. rest No (Idle No) (λ u. refl)) (λ h v' u' p q. refl)
  leaves IsClosed1 busy at d = rest _ (Idle (yes_no (marked_of f e.tail))) (λ u. refl)
