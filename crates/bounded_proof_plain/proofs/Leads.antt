-- From which place an act leads to a place that one step goes by, and what it found there.
use mathlib.Core.Path.{◌≡◌, refl}
use mathlib.Core.Logic.{◌⊎◌, inl, inr}
use mathlib.Core.Bool.{Bool, true, true≢false}
use mathlib.Core.Path.{sym}
use Prim.Native.Nat.{ℕ}
use Rattle.bounded_words.specs.declared.Stamp.{Stamp}
use Rattle.bounded_words.specs.declared.Fixed.{Fixed}
use Rattle.bounded_words.specs.declared.Width.{Width}
use Rattle.bounded_words.specs.Words.{marked_of, unmarked_of, minus, with_mark, same, one_past, lap_behind, lap_behind_one_past}
use Rattle.bounded_places.specs.declared.Slot.{Slot}
use Rattle.bounded_places.specs.declared.Ends.{Ends}
use Rattle.bounded_places.specs.declared.Kind.{Kind}
use Rattle.bounded_places.specs.declared.Kind.TheVariants.{Push, Force}
use Rattle.bounded_places.specs.declared.Answer.{Answer}
use Rattle.bounded_places.specs.declared.Answer.TheVariants.{Nothing, Pushed, Full, Closed, Displaced, Popped, Empty, PopClosed, Len, Yes, No}
use Rattle.bounded_places.specs.declared.Exchange.{Exchange}
use Rattle.bounded_places.specs.declared.Place.{Place}
use Rattle.bounded_places.specs.declared.Place.TheVariants.{Idle, P1, P2, P3, P4, P5, P6, F6, F7, F8, F9, O1, O2, O3, O4, O5, O6, Len1, Len2, Len3, Empty1, Empty2, Full1, Full2, Close1, IsClosed1}
use Rattle.bounded_places.specs.Places.{view_of}
use Rattle.bounded_acts.specs.declared.Acted.{Acted}
use Rattle.bounded_acts.specs.Acts.{goes, losing, after_tail, end_p3, end_f6, end_o3, tail_to, full_at, count_of, act_of}
use Rattle.bounded_machine.proofs.Kept.{either, exchanged}

module _ (bits : Width) (f : Fixed) (e : Ends) where
  abbrev pub Says : Place → Answer → Type 0
  Says p Nothing = ⊥
  Says p Pushed = Unit {0}
  Says p (Full x) = (t : Stamp) × (p ≡ P6 t x) × (lap_behind bits f e.head t ≡ true)
  Says p (Closed x) = Unit {0}
  Says p (Displaced v) = Unit {0}
  Says p (Popped v) = Unit {0}
  Says p Empty = (h : Stamp) × (p ≡ O6 h) × (same (unmarked_of f e.tail) h ≡ true)
  Says p PopClosed = (h : Stamp) × (p ≡ O6 h) × (same (unmarked_of f e.tail) h ≡ true)
  Says p (Len n) = Unit {0}
  Says p Yes = Unit {0}
  Says p No = (p ≡ Close1) ⊎ ((p ≡ IsClosed1) ⊎ (((h : Stamp) × (p ≡ Empty2 h)) ⊎ ((t : Stamp) × (p ≡ Full2 t))))

  abbrev pub Leads : Place → Place → Type 0
  Leads p (Idle a) = Says p a
  Leads p (P1 k x) = Unit {0}
  Leads p (P2 k t x) = Unit {0}
  Leads p (P3 k t x) = Unit {0}
  Leads p (P4 t x) = Unit {0}
  Leads p (P5 t) = Unit {0}
  Leads p (P6 t x) = Unit {0}
  Leads p (F6 t x) = Unit {0}
  Leads p (F7 t x) = (p ≡ F6 t x) × (same e.head (minus bits t f.lap) ≡ true)
  Leads p (F8 t x) = p ≡ F7 t x
  Leads p (F9 t old) = Unit {0}
  Leads p O1 = Unit {0}
  Leads p (O2 h) = Unit {0}
  Leads p (O3 h) = Unit {0}
  Leads p (O4 h) = Unit {0}
  Leads p (O5 h v) = Unit {0}
  Leads p (O6 h) = Unit {0}
  Leads p Len1 = Unit {0}
  Leads p (Len2 t) = Unit {0}
  Leads p (Len3 t h) = Unit {0}
  Leads p Empty1 = Unit {0}
  Leads p (Empty2 h) = Unit {0}
  Leads p Full1 = Unit {0}
  Leads p (Full2 t) = Unit {0}
  Leads p Close1 = Unit {0}
  Leads p IsClosed1 = Unit {0}

  finds : (p : Place) (k : Kind) (t : Stamp) (x : ℕ) → Leads p (after_tail f k t x)
  unfolding after_tail
  finds p k t x = either (Leads p) (marked_of f t) (Idle (Closed x)) (P2 k t x) (λ h. tt) (λ h. tt)

  full_kind : (p : Place) (k : Kind) (t : Stamp) (x : ℕ) → Leads p (full_at k t x)
  full_kind p Push t x = tt
  full_kind p Force t x = tt

  abbrev To : Place → Acted → Type 0
  To p a = Leads p a.place

  pub leads : (z : Slot) (p : Place) (lose : Bool) → (view_of p).busy ≡ true → To p (act_of bits f e z p lose)
  unfolding goes losing
  leads z (Idle a) lose busy = absurd (true≢false (sym busy))
  leads z (P1 k x) lose busy = finds (P1 k x) k e.tail x
  leads z (P2 k t x) lose busy =
      either (To (P2 k t x)) (same z.stamp t) (goes e z (P3 k t x)) _ (λ h. tt)
      (λ h. either (To (P2 k t x)) (lap_behind_one_past bits f z.stamp t) (goes e z (full_at k t x)) (goes e z (P1 k x)) (λ d. full_kind (P2 k t x) k t x) (λ d. tt))
  leads z (P3 k t x) lose busy =
      exchanged (λ (y : Exchange). To (P3 k t x) (end_p3 bits f e z k t x y)) e.tail t lose (λ h d. tt) (λ h d. tt) (λ h. finds (P3 k t x) k e.tail x)
  leads z (P4 t x) lose busy = tt
  leads z (P5 t) lose busy = tt
  leads z (P6 t x) lose busy = either (To (P6 t x)) (lap_behind bits f e.head t) (goes e z (Idle (Full x))) (goes e z (P1 Push x)) (λ h. (t, refl, h)) (λ h. tt)
  leads z (F6 t x) lose busy =
      exchanged (λ (y : Exchange). To (F6 t x) (end_f6 bits f e z t x y)) e.head (minus bits t f.lap) lose (λ h d. tt) (λ h d. (refl, h)) (λ h. tt)
  leads z (F7 t x) lose busy = refl
  leads z (F8 t x) lose busy = tt
  leads z (F9 t old) lose busy = tt
  leads z O1 lose busy = tt
  leads z (O2 h) lose busy =
      either (To (O2 h)) (one_past bits z.stamp h) (goes e z (O3 h)) _ (λ d. tt)
      (λ d. either (To (O2 h)) (same z.stamp h) (goes e z (O6 h)) (goes e z O1) (λ y. tt) (λ y. tt))
  leads z (O3 h) lose busy = exchanged (λ (y : Exchange). To (O3 h) (end_o3 bits f e z h y)) e.head h lose (λ d y. tt) (λ d y. tt) (λ d. tt)
  leads z (O4 h) lose busy = tt
  leads z (O5 h v) lose busy = tt
  leads z (O6 h) lose busy =
      either (To (O6 h)) (same (unmarked_of f e.tail) h) _ (goes e z O1)
      (λ d. either (To (O6 h)) (marked_of f e.tail) (goes e z (Idle PopClosed)) (goes e z (Idle Empty)) (λ y. (h, refl, d)) (λ y. (h, refl, d))) (λ d. tt)
  leads z Len1 lose busy = tt
  leads z (Len2 t) lose busy = tt
  leads z (Len3 t h) lose busy = either (To (Len3 t h)) (same e.tail t) (goes e z (Idle (Len (count_of f t h)))) (goes e z Len1) (λ d. tt) (λ d. tt)
  leads z Empty1 lose busy = tt
  leads z (Empty2 h) lose busy = either (Says (Empty2 h)) (same (unmarked_of f e.tail) h) Yes No (λ d. tt) (λ d. inr (inr (inl (h, refl))))
  leads z Full1 lose busy = tt
  leads z (Full2 t) lose busy = either (Says (Full2 t)) (lap_behind bits f e.head (unmarked_of f t)) Yes No (λ d. tt) (λ d. inr (inr (inr (t, refl))))
  leads z Close1 lose busy =
      either (To Close1) (marked_of f e.tail) (goes e z (Idle No)) (goes (tail_to e (with_mark bits f e.tail)) z (Idle Yes)) (λ d. inl refl) (λ d. tt)
  leads z IsClosed1 lose busy = either (Says IsClosed1) (marked_of f e.tail) Yes No (λ d. tt) (λ d. inr (inl refl))
