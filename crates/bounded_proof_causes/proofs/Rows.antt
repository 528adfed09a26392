-- What each act of document 01's tables makes of what its worker knows, by the causes that are kept of it.
use mathlib.Core.Path.{◌≡◌, refl, sym, ap, ◌∙◌}
use mathlib.Core.Logic.{◌≢◌}
use mathlib.Core.Bool.{Bool, true, false, cond, true≢false}
use Prim.Native.Nat.{ℕ}
use borrow.Author.Tests.{eqb-true}
use Rattle.queue_entries.specs.declared.Call.{Call}
use Rattle.queue_entries.specs.declared.Call.TheVariants as call
use Rattle.bounded_words.specs.declared.Stamp.{Stamp}
use Rattle.bounded_words.specs.declared.Fixed.{Fixed}
use Rattle.bounded_words.specs.declared.Width.{Width}
use Rattle.bounded_words.specs.Words.{stamp, marked_of, unmarked_of, plus, minus, with_mark, next_of, same, one_past, lap_behind, lap_behind_one_past}
use Rattle.bounded_places.specs.declared.Slot.{Slot}
use Rattle.bounded_places.specs.declared.Ends.{Ends}
use Rattle.bounded_places.specs.declared.Kind.{Kind}
use Rattle.bounded_places.specs.declared.Kind.TheVariants.{Push, Force}
use Rattle.bounded_places.specs.declared.Answer.TheVariants.{Pushed, Full, Closed, Displaced, Popped, Empty, PopClosed, Len, Yes, No}
use Rattle.bounded_places.specs.declared.Exchange.{Exchange}
use Rattle.bounded_places.specs.declared.Loss.{Loss}
use Rattle.bounded_places.specs.declared.Loss.TheVariants.{Nothing, ByWords, BySchedule}
use Rattle.bounded_places.specs.declared.Place.{Place}
use Rattle.bounded_places.specs.declared.Place.TheVariants.{Idle, P1, P2, P3, P4, P5, P6, F6, F7, F8, F9, O1, O2, O3, O4, O5, O6, Len1, Len2, Len3, Empty1, Empty2, Full1, Full2, Close1, IsClosed1}
use Rattle.bounded_places.specs.declared.Moved.TheVariants.{Tail, Head}
use Rattle.bounded_places.specs.Places.{view_of, begin_of}
use Rattle.bounded_acts.specs.declared.Acted.{Acted}
use Rattle.bounded_acts.specs.Acts.{goes, losing, after_tail, end_p3, end_f6, end_o3, tail_to, head_to, stamp_to, value_to, forced_tail, full_at, count_of, yes_no, act_of}
use Rattle.bounded_machine.specs.History.{moved_of}
use Rattle.bounded_machine.proofs.Kept.{either, exchanged}
use Rattle.bounded_causes.specs.declared.Deed.{Deed}
use Rattle.bounded_causes.specs.declared.Watch.{Watch}
use Rattle.bounded_causes.specs.declared.Causes.{Causes}
use Rattle.bounded_causes.specs.Causes.{stand_of, goes_back_of, claims_tail, claims_head, deed_of, since_with, own_act, other_act, own_in, scheduled, causes_of}
use Rattle.bounded_demands.specs.Notions.{WayBack, p2_p1, p3_p2, p6_p1, f6_p1, o2_o1, o3_o2, o6_o1, len3_len1, Caused, by_schedule, by_own_end, by_other_end, by_hand}
use Rattle.bounded_proof_each_act.proofs.Sight.{look, HandAt}
use Rattle.bounded_proof_demand2.proofs.Pictured.{idle_is}
use Rattle.bounded_proof_causes.proofs.Found.{SeesTail, SeesHead, same_self}

-- ---- what a worker knows

-- Of its own end, untouched since its word was loaded or found: that word. At P6, F6 and O6 of the other end too, where besides it has not moved since the last stamp load, and
-- no other had a slot in hand then: what that load showed.
abbrev pub Knows : Width → Fixed → Ends → Watch → Place → Type 0
Knows bits f e x (Idle a) = Unit {0}
Knows bits f e x (P1 k y) = Unit {0}
Knows bits f e x (P2 k t y) = own_in Tail x.word ≡ false → e.tail ≡ t
Knows bits f e x (P3 k t y) = own_in Tail x.word ≡ false → e.tail ≡ t
Knows bits f e x (P4 t y) = Unit {0}
Knows bits f e x (P5 t) = Unit {0}
Knows bits f e x (P6 t y) = own_in Tail x.word ≡ false → x.stamp.head ≡ false → x.others ≡ false → lap_behind bits f e.head t ≡ true
Knows bits f e x (F6 t y) = own_in Tail x.word ≡ false → x.stamp.head ≡ false → x.others ≡ false → same e.head (minus bits t f.lap) ≡ true
Knows bits f e x (F7 t y) = Unit {0}
Knows bits f e x (F8 t y) = Unit {0}
Knows bits f e x (F9 t old) = Unit {0}
Knows bits f e x O1 = Unit {0}
Knows bits f e x (O2 h) = own_in Head x.word ≡ false → e.head ≡ h
Knows bits f e x (O3 h) = own_in Head x.word ≡ false → e.head ≡ h
Knows bits f e x (O4 h) = Unit {0}
Knows bits f e x (O5 h v) = Unit {0}
Knows bits f e x (O6 h) = own_in Head x.word ≡ false → x.stamp.tail ≡ false → x.others ≡ false → same (unmarked_of f e.tail) h ≡ true
Knows bits f e x Len1 = Unit {0}
Knows bits f e x (Len2 t) = own_in Tail x.word ≡ false → e.tail ≡ t
Knows bits f e x (Len3 t h) = own_in Tail x.word ≡ false → e.tail ≡ t
Knows bits f e x Empty1 = Unit {0}
Knows bits f e x (Empty2 h) = Unit {0}
Knows bits f e x Full1 = Unit {0}
Knows bits f e x (Full2 t) = Unit {0}
Knows bits f e x Close1 = Unit {0}
Knows bits f e x IsClosed1 = Unit {0}

-- None of the three that are kept holds, as far as the call is.
abbrev pub Clean : Watch → Place → Type 0
Clean x (Idle a) = Unit {0}
Clean x (P1 k y) = Unit {0}
Clean x (P2 k t y) = own_in Tail x.word ≡ false
Clean x (P3 k t y) = (own_in Tail x.word ≡ false) × (x.stamp.head ≡ false) × (x.others ≡ false)
Clean x (P4 t y) = Unit {0}
Clean x (P5 t) = Unit {0}
Clean x (P6 t y) = (own_in Tail x.word ≡ false) × (x.stamp.head ≡ false) × (x.others ≡ false)
Clean x (F6 t y) = (own_in Tail x.word ≡ false) × (x.stamp.head ≡ false) × (x.others ≡ false)
Clean x (F7 t y) = Unit {0}
Clean x (F8 t y) = Unit {0}
Clean x (F9 t old) = Unit {0}
Clean x O1 = Unit {0}
Clean x (O2 h) = own_in Head x.word ≡ false
Clean x (O3 h) = (own_in Head x.word ≡ false) × (x.stamp.tail ≡ false) × (x.others ≡ false)
Clean x (O4 h) = Unit {0}
Clean x (O5 h v) = Unit {0}
Clean x (O6 h) = (own_in Head x.word ≡ false) × (x.stamp.tail ≡ false) × (x.others ≡ false)
Clean x Len1 = Unit {0}
Clean x (Len2 t) = own_in Tail x.word ≡ false
Clean x (Len3 t h) = own_in Tail x.word ≡ false
Clean x Empty1 = Unit {0}
Clean x (Empty2 h) = Unit {0}
Clean x Full1 = Unit {0}
Clean x (Full2 t) = Unit {0}
Clean x Close1 = Unit {0}
Clean x IsClosed1 = Unit {0}

-- A call that begins has no word.
pub begin_knows : (bits : Width) (f : Fixed) (e : Ends) (x : Watch) (c : Call) → Knows bits f e x (begin_of c)
begin_knows bits f e x (call.Push y) = tt
begin_knows bits f e x (call.ForcePush y) = tt
begin_knows bits f e x call.Pop = tt
begin_knows bits f e x call.Len = tt
begin_knows bits f e x call.IsEmpty = tt
begin_knows bits f e x call.IsFull = tt
begin_knows bits f e x call.Close = tt
begin_knows bits f e x call.IsClosed = tt

pub begin_clean : (x : Watch) (c : Call) → Clean x (begin_of c)
begin_clean x (call.Push y) = tt
begin_clean x (call.ForcePush y) = tt
begin_clean x call.Pop = tt
begin_clean x call.Len = tt
begin_clean x call.IsEmpty = tt
begin_clean x call.IsFull = tt
begin_clean x call.Close = tt
begin_clean x call.IsClosed = tt

pub begin_hand : (c : Call) → (stand_of (begin_of c)).hand ≡ false
begin_hand (call.Push y) = refl
begin_hand (call.ForcePush y) = refl
begin_hand call.Pop = refl
begin_hand call.Len = refl
begin_hand call.IsEmpty = refl
begin_hand call.IsFull = refl
begin_hand call.Close = refl
begin_hand call.IsClosed = refl

pub idle_hand : (p : Place) → (view_of p).busy ≡ false → (stand_of p).hand ≡ false
idle_hand p h = ap (λ (q : Place). (stand_of q).hand) (idle_is p h).1

-- a hand of the ring is one that is kept
pub hand_stands : (c mark i : ℕ) (p : Place) → HandAt mark (look c p) i → (stand_of p).hand ≡ true
hand_stands c mark i (Idle a) z = absurd z
hand_stands c mark i (P1 k y) z = absurd z
hand_stands c mark i (P2 k t y) z = absurd (true≢false (sym z.0))
hand_stands c mark i (P3 k t y) z = absurd (true≢false (sym z.0))
hand_stands c mark i (P4 t y) z = refl
hand_stands c mark i (P5 t) z = refl
hand_stands c mark i (P6 t y) z = absurd (true≢false (sym z.0))
hand_stands c mark i (F6 t y) z = absurd (true≢false (sym z.0))
hand_stands c mark i (F7 t y) z = refl
hand_stands c mark i (F8 t y) z = refl
hand_stands c mark i (F9 t old) z = refl
hand_stands c mark i O1 z = absurd z
hand_stands c mark i (O2 h) z = absurd (true≢false (sym z.0))
hand_stands c mark i (O3 h) z = absurd (true≢false (sym z.0))
hand_stands c mark i (O4 h) z = refl
hand_stands c mark i (O5 h v) z = refl
hand_stands c mark i (O6 h) z = absurd (true≢false (sym z.0))
hand_stands c mark i Len1 z = absurd z
hand_stands c mark i (Len2 t) z = absurd z
hand_stands c mark i (Len3 t h) z = absurd z
hand_stands c mark i Empty1 z = absurd z
hand_stands c mark i (Empty2 h) z = absurd (true≢false (sym z.0))
hand_stands c mark i Full1 z = absurd z
hand_stands c mark i (Full2 t) z = absurd z
hand_stands c mark i Close1 z = absurd z
hand_stands c mark i IsClosed1 z = absurd z

-- ---- another's act

none_of : (a b : Bool) → cond a true b ≡ false → (a ≡ false) × (b ≡ false)
none_of true b h = absurd (true≢false h)
none_of false b h = (refl, h)

none_of_tail : (a b c k : Bool) → cond (cond a true b) true (cond c true k) ≡ false → (a ≡ false) × (c ≡ false) × (cond b true k ≡ false)
none_of_tail true b c k h = absurd (true≢false h)
none_of_tail false true c k h = absurd (true≢false h)
none_of_tail false false c k h = let z = none_of c k h in (refl, z.0, z.1)

module _ (bits : Width) (f : Fixed) (e u : Ends) (d : Deed) (x : Watch) (tail : d.tail ≡ false → d.mark ≡ false → u.tail ≡ e.tail) (head : d.head ≡ false → u.head ≡ e.head)
    (bare : d.tail ≡ false → unmarked_of f u.tail ≡ unmarked_of f e.tail) where
  own_tail : (t : Stamp) → (own_in Tail x.word ≡ false → e.tail ≡ t) → own_in Tail (other_act d x).word ≡ false → u.tail ≡ t
  unfolding other_act since_with
  own_tail t k o = let z = none_of_tail d.tail x.word.tail d.mark x.word.mark o in tail z.0 z.1 ∙ k z.2

  own_head : (h : Stamp) → (own_in Head x.word ≡ false → e.head ≡ h) → own_in Head (other_act d x).word ≡ false → u.head ≡ h
  unfolding other_act since_with
  own_head h k o = let z = none_of d.head x.word.head o in head z.0 ∙ k z.1

  pub knows_else : (p : Place) → Knows bits f e x p → Knows bits f u (other_act d x) p
  unfolding other_act since_with
  knows_else (Idle a) z = tt
  knows_else (P1 k y) z = tt
  knows_else (P2 k t y) z = own_tail t z
  knows_else (P3 k t y) z = own_tail t z
  knows_else (P4 t y) z = tt
  knows_else (P5 t) z = tt
  knows_else (P6 t y) z =
      λ o n a.
      let q = none_of_tail d.tail x.word.tail d.mark x.word.mark o in
      let r = none_of d.head x.stamp.head n in
      ap (λ (w : Stamp). lap_behind bits f w t) (head r.0) ∙ z q.2 r.1 a
  knows_else (F6 t y) z =
      λ o n a.
      let q = none_of_tail d.tail x.word.tail d.mark x.word.mark o in
      let r = none_of d.head x.stamp.head n in
      ap (λ (w : Stamp). same w (minus bits t f.lap)) (head r.0) ∙ z q.2 r.1 a
  knows_else (F7 t y) z = tt
  knows_else (F8 t y) z = tt
  knows_else (F9 t old) z = tt
  knows_else O1 z = tt
  knows_else (O2 h) z = own_head h z
  knows_else (O3 h) z = own_head h z
  knows_else (O4 h) z = tt
  knows_else (O5 h v) z = tt
  knows_else (O6 h) z =
      λ o n a.
      let q = none_of d.head x.word.head o in
      let r = none_of d.tail x.stamp.tail n in
      ap (λ (w : Stamp). same w h) (bare r.0) ∙ z q.1 r.1 a
  knows_else Len1 z = tt
  knows_else (Len2 t) z = own_tail t z
  knows_else (Len3 t h) z = own_tail t z
  knows_else Empty1 z = tt
  knows_else (Empty2 h) z = tt
  knows_else Full1 z = tt
  knows_else (Full2 t) z = tt
  knows_else Close1 z = tt
  knows_else IsClosed1 z = tt

-- ---- its own act

same_is : (a b : Stamp) → same a b ≡ true → a ≡ b
unfolding same
same_is a b h = ap stamp (eqb-true a.0 b.0 h)

clash : {A : Type 0} (b : Bool) → b ≡ true → b ≡ false → A
clash b p q = absurd (true≢false (sym p ∙ q))

unscheduled : (l : Loss) → l ≢ BySchedule → scheduled l ≡ false
unscheduled Nothing n = refl
unscheduled ByWords n = refl
unscheduled BySchedule n = absurd (n refl)

off : (a b : Bool) → b ≡ false → cond a b false ≡ false
off true b h = h
off false b h = refl

-- each of the eight goes back
pub way_goes : {p q : Place} → WayBack p q → goes_back_of (stand_of p) (stand_of q) ≡ true
unfolding goes_back_of
way_goes p2_p1 = refl
way_goes p3_p2 = refl
way_goes p6_p1 = refl
way_goes f6_p1 = refl
way_goes o2_o1 = refl
way_goes o3_o2 = refl
way_goes o6_o1 = refl
way_goes len3_len1 = refl

-- one holds where not all four fail
caused : (k : Causes) → (k.schedule ≡ false → k.own ≡ false → k.other ≡ false → k.hand ≡ false → ⊥) → Caused k
caused k why = go k.schedule k.own k.other k.hand refl refl refl refl
  where
    go : (a b c d : Bool) → k.schedule ≡ a → k.own ≡ b → k.other ≡ c → k.hand ≡ d → Caused k
    go true b c d p q r s = by_schedule p
    go false true c d p q r s = by_own_end q
    go false false true d p q r s = by_other_end r
    go false false false true p q r s = by_hand s
    go false false false false p q r s = absurd (why p q r s)

module _ (bits : Width) (f : Fixed) (e : Ends) (s : Slot) (x : Watch) (others : Bool) where
  -- what is kept after an act from p to q
  abbrev pub after : Place → Place → Watch
  after p q = own_act others (deed_of (stand_of p) (stand_of q) (moved_of q)) x

  pub record Row (p : Place) (a : Acted) : Type 0 where
    pub way : goes_back_of (stand_of p) (stand_of a.place) ≡ true → WayBack p a.place
    pub cause : goes_back_of (stand_of p) (stand_of a.place) ≡ true → Caused (causes_of (stand_of p) x (after p a.place) a.loss)
    pub knows : Knows bits f a.ends (after p a.place) a.place
    pub tail : claims_tail (moved_of a.place) ≡ false → cond (stand_of p).close (stand_of a.place).yes false ≡ false → a.ends.tail ≡ e.tail
    pub head : claims_head (moved_of a.place) ≡ false → a.ends.head ≡ e.head
    -- alone
    pub clean : others ≡ false → Clean x p → Clean (after p a.place) a.place
    pub cleaned : goes_back_of (stand_of p) (stand_of a.place) ≡ true → Clean (after p a.place) a.place
    pub alone : goes_back_of (stand_of p) (stand_of a.place) ≡ true → others ≡ false → Clean x p → a.loss ≢ BySchedule → ⊥

  -- an act that does not go back; one that leaves the ends as they are; one that does go back
  forth : (p q : Place) (u : Ends) (r : Slot) (l : Loss) → goes_back_of (stand_of p) (stand_of q) ≡ false → Knows bits f u (after p q) q → (others ≡ false → Clean x p → Clean (after p q) q)
      → (claims_tail (moved_of q) ≡ false → cond (stand_of p).close (stand_of q).yes false ≡ false → u.tail ≡ e.tail)
      → (claims_head (moved_of q) ≡ false → u.head ≡ e.head) → Row p (losing u r q l)
  unfolding losing
  forth p q u r l on k c t h =
      record {
        way = λ b. clash _ b on;
        cause = λ b. clash _ b on;
        knows = k;
        tail = t;
        head = h;
        clean = c;
        cleaned = λ b. clash _ b on;
        alone = λ b. clash _ b on;
      }

  on : (p q : Place) (r : Slot) → goes_back_of (stand_of p) (stand_of q) ≡ false → Knows bits f e (after p q) q → (others ≡ false → Clean x p → Clean (after p q) q) → Row p (goes e r q)
  unfolding goes losing
  on p q r b k c = forth p q e r Nothing b k c (λ h d. refl) (λ h. refl)

  back : (p q : Place) (l : Loss) → WayBack p q
      → ((causes_of (stand_of p) x (after p q) l).schedule ≡ false → (causes_of (stand_of p) x (after p q) l).own ≡ false
      → (causes_of (stand_of p) x (after p q) l).other ≡ false → (causes_of (stand_of p) x (after p q) l).hand ≡ false → ⊥)
      → Knows bits f e (after p q) q → Clean (after p q) q
      → (others ≡ false → Clean x p → ((causes_of (stand_of p) x (after p q) l).own ≡ false) × ((causes_of (stand_of p) x (after p q) l).other ≡ false)
      × ((causes_of (stand_of p) x (after p q) l).hand ≡ false))
      → Row p (losing e s q l)
  unfolding losing causes_of
  back p q l way why k c free =
      record {
        way = λ b. way;
        cause = λ b. caused _ why;
        knows = k;
        tail = λ h d. refl;
        head = λ h. refl;
        clean = λ o z. c;
        cleaned = λ b. c;
        alone = λ b o z n. let y = free o z in why (off (stand_of p).stamps (scheduled l) (unscheduled l n)) y.0 y.1 y.2;
      }

  -- with a tail loaded or found
  finds : (p : Place) (k : Kind) (y : ℕ) (l : Loss) → goes_back_of (stand_of p) (stand_of (Idle (Closed y))) ≡ false → Row p (losing e s (P2 k e.tail y) l)
      → Row p (losing e s (after_tail f k e.tail y) l)
  unfolding after_tail
  finds p k y l ends row =
      either (λ (q : Place). Row p (losing e s q l)) (marked_of f e.tail) (Idle (Closed y)) (P2 k e.tail y)
      (λ h. forth p (Idle (Closed y)) e s l ends tt (λ o c. tt) (λ b d. refl) (λ b. refl)) (λ h. row)

  row_p2 : (k : Kind) (t : Stamp) (y : ℕ) → Knows bits f e x (P2 k t y) → (others ≡ false → SeesTail bits f e s t) → Row (P2 k t y) (act_of bits f e s (P2 k t y) false)
  unfolding goes_back_of deed_of since_with own_act causes_of goes losing
  row_p2 k t y z sees =
      either (Row (P2 k t y)) (same s.stamp t) (goes e s (P3 k t y)) _
      (λ h. on (P2 k t y) (P3 k t y) s refl z (λ o c. (c, refl, o)))
      (λ h. either (Row (P2 k t y)) (lap_behind_one_past bits f s.stamp t) (goes e s (full_at k t y)) (goes e s (P1 k y))
      (λ d. full k d)
      (λ d. back (P2 k t y) (P1 k y) Nothing p2_p1 (λ a b c i. (sees i).decides (z b) h d) tt tt (λ o c. (c, refl, o))))
    where
      full : (k : Kind) → lap_behind_one_past bits f s.stamp t ≡ true → Row (P2 k t y) (goes e s (full_at k t y))
      full Push d = on (P2 Push t y) (P6 t y) s refl (λ a b i. ((sees i).full d).0) (λ o c. (c, refl, o))
      full Force d = on (P2 Force t y) (F6 t y) s refl (λ a b i. ((sees i).full d).1) (λ o c. (c, refl, o))

  row_p3 : (k : Kind) (t : Stamp) (y : ℕ) (lose : Bool) → Knows bits f e x (P3 k t y) → Row (P3 k t y) (act_of bits f e s (P3 k t y) lose)
  unfolding goes_back_of deed_of since_with own_act causes_of goes losing tail_to
  row_p3 k t y lose z =
      exchanged (λ (w : Exchange). Row (P3 k t y) (end_p3 bits f e s k t y w)) e.tail t lose
      (λ h d. back (P3 k t y) (P2 k t y) BySchedule p3_p2 (λ a. absurd (true≢false a)) (λ o. same_is e.tail t h) refl (λ o c. c))
      (λ h d. forth (P3 k t y) (P4 t y) (tail_to e (next_of bits f t)) s Nothing refl tt (λ o c. tt) (λ b. absurd (true≢false b)) (λ b. refl))
      (λ h. finds (P3 k t y) k y ByWords refl
      (back (P3 k t y) (P2 k e.tail y) ByWords p3_p2 (λ a b c i. clash _ (same_self e.tail t (z b)) h) (λ o. refl) refl (λ o c. c)))

  row_p6 : (t : Stamp) (y : ℕ) → Knows bits f e x (P6 t y) → Row (P6 t y) (act_of bits f e s (P6 t y) false)
  unfolding goes_back_of deed_of since_with own_act causes_of goes losing
  row_p6 t y z =
      either (Row (P6 t y)) (lap_behind bits f e.head t) (goes e s (Idle (Full y))) (goes e s (P1 Push y))
      (λ h. on (P6 t y) (Idle (Full y)) s refl tt (λ o c. tt))
      (λ h. back (P6 t y) (P1 Push y) Nothing p6_p1 (λ a b c i. clash _ (z b c i) h) tt tt (λ o c. c))

  row_f6 : (t : Stamp) (y : ℕ) (lose : Bool) → Knows bits f e x (F6 t y) → Row (F6 t y) (act_of bits f e s (F6 t y) lose)
  unfolding goes_back_of deed_of since_with own_act causes_of goes losing head_to
  row_f6 t y lose z =
      exchanged (λ (w : Exchange). Row (F6 t y) (end_f6 bits f e s t y w)) e.head (minus bits t f.lap) lose
      (λ h d. back (F6 t y) (P1 Force y) BySchedule f6_p1 (λ a. absurd (true≢false a)) tt tt (λ o c. c))
      (λ h d. forth (F6 t y) (F7 t y) (head_to e (minus bits (next_of bits f t) f.lap)) s Nothing refl tt (λ o c. tt) (λ b d. refl) (λ b. absurd (true≢false b)))
      (λ h. back (F6 t y) (P1 Force y) ByWords f6_p1 (λ a b c i. clash _ (z b c i) h) tt tt (λ o c. c))

  row_o2 : (h : Stamp) → Knows bits f e x (O2 h) → (others ≡ false → SeesHead bits f e s h) → Row (O2 h) (act_of bits f e s (O2 h) false)
  unfolding goes_back_of deed_of since_with own_act causes_of goes losing
  row_o2 h z sees =
      either (Row (O2 h)) (one_past bits s.stamp h) (goes e s (O3 h)) _
      (λ p. on (O2 h) (O3 h) s refl z (λ o c. (c, refl, o)))
      (λ p. either (Row (O2 h)) (same s.stamp h) (goes e s (O6 h)) (goes e s O1)
      (λ d. on (O2 h) (O6 h) s refl (λ a b i. (sees i).empty d) (λ o c. (c, refl, o)))
      (λ d. back (O2 h) O1 Nothing o2_o1 (λ a b c i. (sees i).decides (z b) p d) tt tt (λ o c. (c, refl, o))))

  row_o3 : (h : Stamp) (lose : Bool) → Knows bits f e x (O3 h) → Row (O3 h) (act_of bits f e s (O3 h) lose)
  unfolding goes_back_of deed_of since_with own_act causes_of goes losing head_to
  row_o3 h lose z =
      exchanged (λ (w : Exchange). Row (O3 h) (end_o3 bits f e s h w)) e.head h lose
      (λ p d. back (O3 h) (O2 h) BySchedule o3_o2 (λ a. absurd (true≢false a)) (λ o. same_is e.head h p) refl (λ o c. c))
      (λ p d. forth (O3 h) (O4 h) (head_to e (next_of bits f h)) s Nothing refl tt (λ o c. tt) (λ b d. refl) (λ b. absurd (true≢false b)))
      (λ p. back (O3 h) (O2 e.head) ByWords o3_o2 (λ a b c i. clash _ (same_self e.head h (z b)) p) (λ o. refl) refl (λ o c. c))

  row_o6 : (h : Stamp) → Knows bits f e x (O6 h) → Row (O6 h) (act_of bits f e s (O6 h) false)
  unfolding goes_back_of deed_of since_with own_act causes_of goes losing
  row_o6 h z =
      either (Row (O6 h)) (same (unmarked_of f e.tail) h) _ (goes e s O1)
      (λ p. either (Row (O6 h)) (marked_of f e.tail) (goes e s (Idle PopClosed)) (goes e s (Idle Empty))
      (λ d. on (O6 h) (Idle PopClosed) s refl tt (λ o c. tt)) (λ d. on (O6 h) (Idle Empty) s refl tt (λ o c. tt)))
      (λ p. back (O6 h) O1 Nothing o6_o1 (λ a b c i. clash _ (z b c i) p) tt tt (λ o c. c))

  row_len3 : (t h : Stamp) → Knows bits f e x (Len3 t h) → Row (Len3 t h) (act_of bits f e s (Len3 t h) false)
  unfolding goes_back_of deed_of since_with own_act causes_of goes losing
  row_len3 t h z =
      either (Row (Len3 t h)) (same e.tail t) (goes e s (Idle (Len (count_of f t h)))) (goes e s Len1)
      (λ p. on (Len3 t h) (Idle (Len (count_of f t h))) s refl tt (λ o c. tt))
      (λ p. back (Len3 t h) Len1 Nothing len3_len1 (λ a b c i. clash _ (same_self e.tail t (z b)) p) tt tt (λ o c. (c, refl, refl)))

  row_close : Row Close1 (act_of bits f e s Close1 false)
  unfolding goes_back_of goes losing tail_to
  row_close =
      either (Row Close1) (marked_of f e.tail) (goes e s (Idle No)) (goes (tail_to e (with_mark bits f e.tail)) s (Idle Yes))
      (λ h. on Close1 (Idle No) s refl tt (λ o c. tt))
      (λ h. forth Close1 (Idle Yes) (tail_to e (with_mark bits f e.tail)) s Nothing refl tt (λ o c. tt) (λ b d. absurd (true≢false d)) (λ b. refl))

  pub row : (p : Place) (lose : Bool) → Knows bits f e x p → ((k : Kind) (t : Stamp) (y : ℕ) → p ≡ P2 k t y → others ≡ false → SeesTail bits f e s t)
      → ((h : Stamp) → p ≡ O2 h → others ≡ false → SeesHead bits f e s h) → Row p (act_of bits f e s p lose)
  unfolding goes_back_of deed_of since_with own_act goes losing tail_to
  row (Idle a) lose z tails heads = on (Idle a) (Idle a) s refl tt (λ o c. tt)
  row (P1 k y) lose z tails heads =
      finds (P1 k y) k y Nothing refl (forth (P1 k y) (P2 k e.tail y) e s Nothing refl (λ o. refl) (λ o c. refl) (λ b d. refl) (λ b. refl))
  row (P2 k t y) lose z tails heads = row_p2 k t y z (tails k t y refl)
  row (P3 k t y) lose z tails heads = row_p3 k t y lose z
  row (P4 t y) lose z tails heads = on (P4 t y) (P5 t) (value_to s y) refl tt (λ o c. tt)
  row (P5 t) lose z tails heads = on (P5 t) (Idle Pushed) (stamp_to s (plus bits t 1)) refl tt (λ o c. tt)
  row (P6 t y) lose z tails heads = row_p6 t y z
  row (F6 t y) lose z tails heads = row_f6 t y lose z
  row (F7 t y) lose z tails heads =
      forth (F7 t y) (F8 t y) (tail_to e (forced_tail bits f e.tail t)) s Nothing refl tt (λ o c. tt) (λ b. absurd (true≢false b)) (λ b. refl)
  row (F8 t y) lose z tails heads = on (F8 t y) (F9 t s.value) (value_to s y) refl tt (λ o c. tt)
  row (F9 t old) lose z tails heads = on (F9 t old) (Idle (Displaced old)) (stamp_to s (plus bits t 1)) refl tt (λ o c. tt)
  row O1 lose z tails heads = on O1 (O2 e.head) s refl (λ o. refl) (λ o c. refl)
  row (O2 h) lose z tails heads = row_o2 h z (heads h refl)
  row (O3 h) lose z tails heads = row_o3 h lose z
  row (O4 h) lose z tails heads = on (O4 h) (O5 h s.value) s refl tt (λ o c. tt)
  row (O5 h v) lose z tails heads = on (O5 h v) (Idle (Popped v)) (stamp_to s (plus bits h f.lap)) refl tt (λ o c. tt)
  row (O6 h) lose z tails heads = row_o6 h z
  row Len1 lose z tails heads = on Len1 (Len2 e.tail) s refl (λ o. refl) (λ o c. refl)
  row (Len2 t) lose z tails heads = on (Len2 t) (Len3 t e.head) s refl z (λ o c. c)
  row (Len3 t h) lose z tails heads = row_len3 t h z
  row Empty1 lose z tails heads = on Empty1 (Empty2 e.head) s refl tt (λ o c. tt)
  row (Empty2 h) lose z tails heads = on (Empty2 h) (Idle (yes_no (same (unmarked_of f e.tail) h))) s refl tt (λ o c. tt)
  row Full1 lose z tails heads = on Full1 (Full2 e.tail) s refl tt (λ o c. tt)
  row (Full2 t) lose z tails heads = on (Full2 t) (Idle (yes_no (lap_behind bits f e.head (unmarked_of f t)))) s refl tt (λ o c. tt)
  row Close1 lose z tails heads = row_close
  row IsClosed1 lose z tails heads = on IsClosed1 (Idle (yes_no (marked_of f e.tail))) s refl tt (λ o c. tt)
