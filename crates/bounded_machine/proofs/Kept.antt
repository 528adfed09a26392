-- No accepted begin or act breaks an unbroken machine, reached or not.
use Prim.Native.Nat.{ℕ, zero, suc, ◌+◌, ◌<◌, ◌≤◌}
use mathlib.Core.Path.{◌≡◌, refl, sym, ap, ◌∙◌, subst}
use mathlib.Core.Bool.{Bool, true, false, cond, not, true≢false}
use mathlib.Core.List.{List, [], ◌∷◌}
use native.Mathlib.Omega.{arith}
use native.Mathlib.Decide.{dec_lt}
use lib.Dec.{ltb, eqb}
use lib.ListN.{get_or, set}
use borrow.Author.Tests.{lt-ltb, le-ltb, ltb-true, ltb-false, not-false}
use Rattle.queue_entries.specs.Limits.{workers_most, all, in_limits}
use Rattle.queue_entries.proofs.Pick.{both_left, both_right}
use Rattle.queue_entries.specs.declared.Call.{Call}
use Rattle.queue_entries.specs.declared.Call.TheVariants as call
use Rattle.queue_entries.proofs.Limits.{limit_most}
use Rattle.bounded_words.specs.declared.Stamp.{Stamp}
use Rattle.bounded_words.specs.declared.Fixed.{Fixed}
use Rattle.bounded_words.specs.declared.Width.{Width}
use Rattle.bounded_words.specs.Limits.{slots_most, editions_most}
use Rattle.bounded_words.specs.Words.{marked_of, unmarked_of, next_of, plus, minus, with_mark, same, one_past, lap_behind, lap_behind_one_past, Fair}
use Rattle.bounded_words.proofs.Marks.{Ruled, fair}
use Rattle.bounded_words.proofs.Fits.{Plain, next_plain, minus_plain, mark_index}
use Rattle.bounded_places.specs.declared.Slot.{Slot}
use Rattle.bounded_places.specs.declared.Ends.{Ends}
use Rattle.bounded_places.specs.declared.Kind.{Kind}
use Rattle.bounded_places.specs.declared.Kind.TheVariants.{Push, Force}
use Rattle.bounded_places.specs.declared.Answer.TheVariants.{Closed, Pushed, Full, Displaced, Popped, Empty, PopClosed, Len, Yes, No}
use Rattle.bounded_places.specs.declared.Exchange.{Exchange}
use Rattle.bounded_places.specs.declared.Exchange.TheVariants.{Won, Differed, Failed}
use Rattle.bounded_places.specs.declared.Loss.{Loss}
use Rattle.bounded_places.specs.declared.Loss.TheVariants as loss
use Rattle.bounded_places.specs.declared.Place.{Place}
use Rattle.bounded_places.specs.declared.Place.TheVariants.{Idle, P1, P2, P3, P4, P5, P6, F6, F7, F8, F9, O1, O2, O3, O4, O5, O6, Len1, Len2, Len3, Empty1, Empty2, Full1, Full2, Close1, IsClosed1}
use Rattle.bounded_places.specs.declared.Held.TheVariants as held
use Rattle.bounded_places.specs.declared.Worker.{Worker}
use Rattle.bounded_places.specs.Places.{view_of, inside, fits_of, begin_of}
use Rattle.bounded_acts.specs.declared.Acted.{Acted}
use Rattle.bounded_acts.specs.Acts.{goes, losing, exchange_of, after_tail, end_p3, end_f6, end_o3, tail_to, head_to, stamp_to, value_to, forced_tail, act_of, full_at, yes_no, count_of}
use Rattle.bounded_machine.specs.declared.Machine.{Machine}
use Rattle.bounded_machine.specs.Machine.{record_of_worker, place_of, idler, fixed_on, ends_on}
use Rattle.bounded_machine.specs.Broken.{by_rule, ends_fit, ring_fits, place_fits, record_fits, records_fit, broken_with}
use Rattle.bounded_machine.specs.Turn.{beginner, by_words, by_schedule, record_after, begun, stored, acted, acted_by}
use Rattle.bounded_machine.proofs.Laws.{ruled_of, fitting}

-- ---- tests and facts

pub either : {A : Type 0} (P : A → Type 0) (b : Bool) (x y : A) → (b ≡ true → P x) → (b ≡ false → P y) → P (cond b x y)
either P true x y p q = p refl
either P false x y p q = q refl

-- an exchange, by how it ended
pub exchanged : (P : Exchange → Type 0) (found expected : Stamp) (lose : Bool)
    → (same found expected ≡ true → lose ≡ true → P Failed) → (same found expected ≡ true → lose ≡ false → P Won) → (same found expected ≡ false → P (Differed found))
    → P (exchange_of found expected lose)
unfolding exchange_of
exchanged P found expected lose failed won differed =
    either P (same found expected) (cond lose Failed Won) (Differed found) (λ h. either P lose Failed Won (failed h) (won h)) differed

both : (a b : Bool) → a ≡ true → b ≡ true → cond a b false ≡ true
both a b p q = either (λ (x : Bool). x ≡ true) a b false (λ h. q) (λ h. absurd (true≢false (sym p ∙ h)))

first_clear : (a b : Bool) → cond a false b ≡ true → a ≡ false
first_clear true b h = absurd (true≢false (sym h))
first_clear false b h = refl

then : (a b : Bool) → cond a false b ≡ true → b ≡ true
then true b h = absurd (true≢false (sym h))
then false b h = h

clear_then : (a b : Bool) → a ≡ false → b ≡ true → cond a false b ≡ true
clear_then a b p q = either (λ (x : Bool). x ≡ true) a false b (λ h. absurd (true≢false (sym h ∙ p))) (λ h. q)

-- every test of a range
pub every : (n i : ℕ) (test : ℕ → Bool) → all n i test ≡ true → (k : ℕ) → i ≤ k → k < i + n → test k ≡ true
unfolding all
every zero i test h k l g = absurd (omega arith)
every (suc n) i test h k l g =
    go (λ (m : i < k). every n (i + 1) test (both_right (test i) (all n (i + 1) test) h) k (omega arith) (omega arith)) (dec_lt i k)
  where
    go : (i < k → test k ≡ true) → Dec (i < k) → test k ≡ true
    go later (yes m) = later m
    go later (no m) = let e : i ≡ k = omega arith in subst (λ (j : ℕ). test j ≡ true) e (both_left (test i) (all n (i + 1) test) h)

pub all_of : (n i : ℕ) (test : ℕ → Bool) → ((k : ℕ) → i ≤ k → k < i + n → test k ≡ true) → all n i test ≡ true
unfolding all
all_of zero i test h = refl
all_of (suc n) i test h =
    both (test i) (all n (i + 1) test) (h i (omega arith) (omega arith)) (all_of n (i + 1) test (λ k l g. h k (omega arith) (omega arith)))

-- an element of a list in which one was set
pub placed : {A : Type 0} (xs : List A) (w i : ℕ) (x d : A) (P : A → Type 0) → (i ≡ w → P x) → P (get_or xs i d) → P (get_or (set xs w x) i d)
placed [] w i x d P p q = q
placed (y ∷ ys) zero zero x d P p q = p refl
placed (y ∷ ys) zero (suc i) x d P p q = q
placed (y ∷ ys) (suc w) zero x d P p q = q
placed (y ∷ ys) (suc w) (suc i) x d P p q = placed ys w i x d P (λ e. p (ap suc e)) q

-- ---- an unbroken machine, with so many records
pub record UnbrokenWith (records : ℕ) (m : Machine) : Type 0 where
  pub capacity : in_limits m.ring.capacity slots_most ≡ true
  pub count : in_limits m.count records ≡ true
  pub edition : in_limits m.ring.edition editions_most ≡ true
  pub rule : by_rule (fixed_on m.ring) ≡ true
  pub ends : ends_fit (fixed_on m.ring) (ends_on m.ring) ≡ true
  pub fits : (i : ℕ) → i < records → record_fits (fixed_on m.ring) m.meter (record_of_worker m.workers i) (ltb i m.count) ≡ true

-- document 01's
abbrev pub Unbroken : Machine → Type 0
Unbroken = UnbrokenWith workers_most

-- each test of a row of them that must pass
passes : (a b : Bool) → cond a b true ≡ false → (a ≡ true) × (b ≡ false)
passes true b h = (refl, h)
passes false b h = absurd (true≢false h)

pass : (a b : Bool) → a ≡ true → b ≡ false → cond a b true ≡ false
pass a b p q = either (λ (x : Bool). x ≡ false) a b true (λ h. q) (λ h. absurd (true≢false (sym p ∙ h)))

pub unbroken_of : {records : ℕ} (m : Machine) → broken_with records m ≡ false → UnbrokenWith records m
unfolding broken_with records_fit
unbroken_of {records} m h =
    let x = passes (ring_fits (fixed_on m.ring) (ends_on m.ring)) _ h in
    let b = passes (in_limits m.count records) _ x.1 in
    let ring = fitting (fixed_on m.ring) (ends_on m.ring) x.0 in
    record {
      capacity = ring.capacity;
      count = b.0;
      edition = ring.edition;
      rule = ring.rule;
      ends = ring.ends;
      fits = (λ i l. every records 0 (λ (k : ℕ). record_fits (fixed_on m.ring) m.meter (record_of_worker m.workers k) (ltb k m.count)) (not-false _ b.1) i (omega arith) (omega arith));
    }

-- its ring fits
pub ring_in : {records : ℕ} (m : Machine) → UnbrokenWith records m → ring_fits (fixed_on m.ring) (ends_on m.ring) ≡ true
unfolding ring_fits
ring_in m u = both _ _ u.edition (both _ _ u.capacity (both _ _ u.rule u.ends))

pub of_unbroken : {records : ℕ} (m : Machine) → UnbrokenWith records m → broken_with records m ≡ false
unfolding broken_with records_fit
of_unbroken {records} m u =
    pass _ _ (ring_in m u) (pass _ _ u.count
    (ap not (all_of records 0 (λ (k : ℕ). record_fits (fixed_on m.ring) m.meter (record_of_worker m.workers k) (ltb k m.count)) (λ k l g. u.fits k (omega arith)))))

module _ {records : ℕ} (m : Machine) (u : UnbrokenWith records m) where
  pub ruled_in : Ruled (fixed_on m.ring)
  ruled_in = ruled_of (fixed_on m.ring) u.capacity u.rule

  pub fair_in : Fair (fixed_on m.ring)
  fair_in = fair (fixed_on m.ring) ruled_in

  pub few_workers : m.count ≤ records
  few_workers = limit_most m.count records true (sym u.count) refl

-- ---- words that fit
module _ (f : Fixed) where
  pub plain_fits : (w : Stamp) → Plain f w → fits_of f (held.End w) ≡ true
  unfolding inside
  plain_fits w p = clear_then (marked_of f w) (inside f w) p.unmarked (lt-ltb _ _ p.low)

  pub fits_plain : (w : Stamp) → fits_of f (held.End w) ≡ true → Plain f w
  unfolding inside
  fits_plain w h = record { unmarked = first_clear (marked_of f w) (inside f w) h; low = ltb-true _ _ (then (marked_of f w) (inside f w) h) }

  pub ends_of : (e : Ends) → Plain f e.head → inside f e.tail ≡ true → ends_fit f e ≡ true
  unfolding ends_fit inside
  ends_of e p h = clear_then (marked_of f e.head) _ p.unmarked (both (inside f e.head) (inside f e.tail) (lt-ltb _ _ p.low) h)

  pub head_plain : (e : Ends) → ends_fit f e ≡ true → Plain f e.head
  unfolding ends_fit inside
  head_plain e h =
      record {
        unmarked = first_clear (marked_of f e.head) _ h;
        low = ltb-true _ _ (both_left (inside f e.head) (inside f e.tail) (then (marked_of f e.head) _ h));
      }

  pub head_inside : (e : Ends) → ends_fit f e ≡ true → inside f e.head ≡ true
  unfolding ends_fit
  head_inside e h = both_left (inside f e.head) (inside f e.tail) (then (marked_of f e.head) _ h)

  pub tail_inside : (e : Ends) → ends_fit f e ≡ true → inside f e.tail ≡ true
  unfolding ends_fit
  tail_inside e h = both_right (inside f e.head) (inside f e.tail) (then (marked_of f e.head) _ h)

-- ---- an act leaves words that fit
module _ (f : Fixed) (r : Ruled f) where
  pub record Ok (a : Acted) : Type 0 where
    pub ends : ends_fit f a.ends ≡ true
    pub held : fits_of f (view_of a.place).held ≡ true

  -- the ends as they were, and a place whose words fit
  stays : (e : Ends) (s : Slot) (p : Place) → ends_fit f e ≡ true → fits_of f (view_of p).held ≡ true → Ok (goes e s p)
  unfolding goes
  stays e s p h k = record { ends = h; held = k }

  loses : (e : Ends) (s : Slot) (p : Place) (l : Loss) → ends_fit f e ≡ true → fits_of f (view_of p).held ≡ true → Ok (losing e s p l)
  unfolding losing
  loses e s p l h k = record { ends = h; held = k }

  module _ (bits : Width) (e : Ends) (s : Slot) (h : ends_fit f e ≡ true) where
    plain_tail : marked_of f e.tail ≡ false → Plain f e.tail
    unfolding inside
    plain_tail k = record { unmarked = k; low = ltb-true _ _ (tail_inside f e h) }

    tail_fits : (k : Kind) (x : ℕ) → fits_of f (view_of (after_tail f k e.tail x)).held ≡ true
    unfolding after_tail
    tail_fits k x =
        either (λ (p : Place). fits_of f (view_of p).held ≡ true) (marked_of f e.tail) (Idle (Closed x)) (P2 k e.tail x) (λ q. refl)
        (λ q. plain_fits f e.tail (plain_tail q))

    -- tail to a word whose index is below capacity
    tail_goes : (w : Stamp) (p : Place) → inside f w ≡ true → fits_of f (view_of p).held ≡ true → Ok (goes (tail_to e w) s p)
    unfolding tail_to
    tail_goes w p q k = stays (tail_to e w) s p (ends_of f (tail_to e w) (head_plain f e h) q) k

    next_inside : (t : Stamp) → Plain f t → inside f (next_of bits f t) ≡ true
    unfolding inside
    next_inside t q = lt-ltb _ _ (next_plain f r bits t q).low

    marked_inside : (w : Stamp) → inside f w ≡ true → inside f (with_mark bits f w) ≡ true
    unfolding inside
    marked_inside w q = lt-ltb _ _ (subst (λ (i : ℕ). i < f.capacity) (sym (mark_index f r bits w)) (ltb-true _ _ q))

    forced_inside : (t : Stamp) → Plain f t → inside f (forced_tail bits f e.tail t) ≡ true
    unfolding forced_tail
    forced_inside t q =
        either In (eqb f.edition 2) (cond (marked_of f e.tail) (with_mark bits f (next_of bits f t)) (next_of bits f t)) (next_of bits f t)
        (λ b. either In (marked_of f e.tail) (with_mark bits f (next_of bits f t)) (next_of bits f t) (λ d. marked_inside (next_of bits f t) (next_inside t q)) (λ d. next_inside t q))
        (λ b. next_inside t q)
      where
        In : Stamp → Type 0
        In w = inside f w ≡ true

    head_moves : (w : Stamp) (p : Place) → Plain f w → fits_of f (view_of p).held ≡ true → Ok (goes (head_to e w) s p)
    unfolding head_to
    head_moves w p q k = stays (head_to e w) s p (ends_of f (head_to e w) q (tail_inside f e h)) k

    full_fits : (k : Kind) (t : Stamp) (x : ℕ) → fits_of f (held.End t) ≡ true → fits_of f (view_of (full_at k t x)).held ≡ true
    full_fits Push t x q = q
    full_fits Force t x q = q

    -- act by act: the new place holds t or h as before, or a word just loaded; an end moves to next
    pub keeps : (p : Place) (lose : Bool) → fits_of f (view_of p).held ≡ true → Ok (act_of bits f e s p lose)
    keeps (Idle a) lose q = stays e s (Idle a) h refl
    keeps (P1 k x) lose q = stays e s (after_tail f k e.tail x) h (tail_fits k x)
    keeps (P2 k t x) lose q =
        either Ok (same s.stamp t) (goes e s (P3 k t x)) _ (λ b. stays e s (P3 k t x) h q)
        (λ b. either Ok (lap_behind_one_past bits f s.stamp t) (goes e s (full_at k t x)) (goes e s (P1 k x))
        (λ d. stays e s (full_at k t x) h (full_fits k t x q)) (λ d. stays e s (P1 k x) h refl))
    keeps (P3 k t x) lose q =
        exchanged (λ (y : Exchange). Ok (end_p3 bits f e s k t x y)) e.tail t lose (λ b d. loses e s (P2 k t x) loss.BySchedule h q)
        (λ b d. tail_goes (next_of bits f t) (P4 t x) (next_inside t (fits_plain f t q)) q)
        (λ b. loses e s (after_tail f k e.tail x) loss.ByWords h (tail_fits k x))
    keeps (P4 t x) lose q = stays e (value_to s x) (P5 t) h q
    keeps (P5 t) lose q = stays e (stamp_to s (plus bits t 1)) (Idle Pushed) h refl
    keeps (P6 t x) lose q =
        either Ok (lap_behind bits f e.head t) (goes e s (Idle (Full x))) (goes e s (P1 Push x))
        (λ b. stays e s (Idle (Full x)) h refl) (λ b. stays e s (P1 Push x) h refl)
    keeps (F6 t x) lose q =
        exchanged (λ (y : Exchange). Ok (end_f6 bits f e s t x y)) e.head (minus bits t f.lap) lose (λ b d. loses e s (P1 Force x) loss.BySchedule h refl)
        (λ b d. head_moves (minus bits (next_of bits f t) f.lap) (F7 t x) (minus_plain f r bits (next_of bits f t) (next_plain f r bits t (fits_plain f t q))) q)
        (λ b. loses e s (P1 Force x) loss.ByWords h refl)
    keeps (F7 t x) lose q = tail_goes (forced_tail bits f e.tail t) (F8 t x) (forced_inside t (fits_plain f t q)) q
    keeps (F8 t x) lose q = stays e (value_to s x) (F9 t s.value) h q
    keeps (F9 t old) lose q = stays e (stamp_to s (plus bits t 1)) (Idle (Displaced old)) h refl
    keeps O1 lose q = stays e s (O2 e.head) h (plain_fits f e.head (head_plain f e h))
    keeps (O2 w) lose q =
        either Ok (one_past bits s.stamp w) (goes e s (O3 w)) _ (λ b. stays e s (O3 w) h q)
        (λ b. either Ok (same s.stamp w) (goes e s (O6 w)) (goes e s O1) (λ d. stays e s (O6 w) h q) (λ d. stays e s O1 h refl))
    keeps (O3 w) lose q =
        exchanged (λ (y : Exchange). Ok (end_o3 bits f e s w y)) e.head w lose (λ b d. loses e s (O2 w) loss.BySchedule h q)
        (λ b d. head_moves (next_of bits f w) (O4 w) (next_plain f r bits w (fits_plain f w q)) q)
        (λ b. loses e s (O2 e.head) loss.ByWords h (plain_fits f e.head (head_plain f e h)))
    keeps (O4 w) lose q = stays e s (O5 w s.value) h q
    keeps (O5 w v) lose q = stays e (stamp_to s (plus bits w f.lap)) (Idle (Popped v)) h refl
    keeps (O6 w) lose q =
        either Ok (same (unmarked_of f e.tail) w) _ (goes e s O1)
        (λ b. either Ok (marked_of f e.tail) (goes e s (Idle PopClosed)) (goes e s (Idle Empty))
        (λ d. stays e s (Idle PopClosed) h refl) (λ d. stays e s (Idle Empty) h refl))
        (λ b. stays e s O1 h refl)
    keeps Len1 lose q = stays e s (Len2 e.tail) h (tail_inside f e h)
    keeps (Len2 t) lose q = stays e s (Len3 t e.head) h (both (inside f t) (inside f e.head) q (head_inside f e h))
    keeps (Len3 t w) lose q =
        either Ok (same e.tail t) (goes e s (Idle (Len (count_of f t w)))) (goes e s Len1)
        (λ b. stays e s (Idle (Len (count_of f t w))) h refl) (λ b. stays e s Len1 h refl)
    keeps Empty1 lose q = stays e s (Empty2 e.head) h refl
    keeps (Empty2 w) lose q = stays e s (Idle (yes_no (same (unmarked_of f e.tail) w))) h refl
    keeps Full1 lose q = stays e s (Full2 e.tail) h refl
    keeps (Full2 t) lose q = stays e s (Idle (yes_no (lap_behind bits f e.head (unmarked_of f t)))) h refl
    keeps Close1 lose q =
        either Ok (marked_of f e.tail) (goes e s (Idle No)) (goes (tail_to e (with_mark bits f e.tail)) s (Idle Yes))
        (λ b. stays e s (Idle No) h refl) (λ b. tail_goes (with_mark bits f e.tail) (Idle Yes) (marked_inside e.tail (tail_inside f e h)) refl)
    keeps IsClosed1 lose q = stays e s (Idle (yes_no (marked_of f e.tail))) h refl

-- a call begins with no word loaded
begin_holds : (c : Call) → (view_of (begin_of c)).held ≡ held.Nothing
begin_holds (call.Push x) = refl
begin_holds (call.ForcePush x) = refl
begin_holds call.Pop = refl
begin_holds call.Len = refl
begin_holds call.IsEmpty = refl
begin_holds call.IsFull = refl
begin_holds call.Close = refl
begin_holds call.IsClosed = refl

-- ---- the machine
record_of : (f : Fixed) (n : ℕ) (r : Worker) (b : Bool) → b ≡ true → r.differed ≤ n → r.failed ≤ n → fits_of f (view_of r.place).held ≡ true → record_fits f n r b ≡ true
unfolding record_fits place_fits
record_of f n r b h d s k =
    clear_then (ltb n r.differed) _ (le-ltb n r.differed d) (clear_then (ltb n r.failed) _ (le-ltb n r.failed s)
    (either (λ (x : Bool). x ≡ true) (view_of r.place).busy _ true (λ q. both b _ h k) (λ q. refl)))

module _ (f : Fixed) (n : ℕ) (r : Worker) (b : Bool) (h : record_fits f n r b ≡ true) where
  past_words : cond (ltb n r.failed) false (place_fits f r.place b) ≡ true
  unfolding record_fits
  past_words = then (ltb n r.differed) _ h

  pub few_differed : r.differed ≤ n
  unfolding record_fits
  few_differed = ltb-false n r.differed (first_clear (ltb n r.differed) _ h)

  pub few_failed : r.failed ≤ n
  few_failed = ltb-false n r.failed (first_clear (ltb n r.failed) _ past_words)

  pub place_of_lem : place_fits f r.place b ≡ true
  place_of_lem = then (ltb n r.failed) _ past_words

  pub of_record : (view_of r.place).busy ≡ true → fits_of f (view_of r.place).held ≡ true
  unfolding place_fits
  of_record q = both_right b (fits_of f (view_of r.place).held) (sym (simp q) ∙ place_of_lem)

  -- the meter rises
  record_later : record_fits f (n + 1) r b ≡ true
  unfolding record_fits
  record_later =
      clear_then (ltb (n + 1) r.differed) _ (le-ltb (n + 1) r.differed (omega (arith, few_differed)))
      (clear_then (ltb (n + 1) r.failed) _ (le-ltb (n + 1) r.failed (omega (arith, few_failed))) place_of_lem)

-- an act loses one exchange at most
one_lost : (l : Loss) → (by_words l ≤ 1) × (by_schedule l ≤ 1)
one_lost loss.Nothing = (omega arith, omega arith)
one_lost loss.ByWords = (omega arith, omega arith)
one_lost loss.BySchedule = (omega arith, omega arith)

module _ {records : ℕ} (m : Machine) (u : UnbrokenWith records m) (w : ℕ) (l : w < m.count) where
  own_fits : record_fits (fixed_on m.ring) m.meter (record_of_worker m.workers w) (ltb w m.count) ≡ true
  own_fits = u.fits w (omega (arith, few_workers m u))

  -- the counts of losses are no more than the acts
  pub few_lost : ((record_of_worker m.workers w).differed ≤ m.meter) × ((record_of_worker m.workers w).failed ≤ m.meter)
  few_lost = (few_differed _ _ _ _ own_fits, few_failed _ _ _ _ own_fits)

  records_with : (n : ℕ) (r : Worker) → ((i : ℕ) → i < records → record_fits (fixed_on m.ring) n (record_of_worker m.workers i) (ltb i m.count) ≡ true)
      → r.differed ≤ n → r.failed ≤ n → fits_of (fixed_on m.ring) (view_of r.place).held ≡ true → (i : ℕ) → i < records
      → record_fits (fixed_on m.ring) n (record_of_worker (set m.workers w r) i) (ltb i m.count) ≡ true
  records_with n r others d s k i g =
      placed m.workers w i r idler (λ (x : Worker). record_fits (fixed_on m.ring) n x (ltb i m.count) ≡ true)
      (λ e. record_of (fixed_on m.ring) n r (ltb i m.count) (lt-ltb i m.count (omega arith)) d s k) (others i g)

  pub begun_unbroken : (c : Call) → UnbrokenWith records (begun m w (begin_of c))
  unfolding begun
  begun_unbroken c =
      record {
        capacity = u.capacity;
        count = u.count;
        edition = u.edition;
        rule = u.rule;
        ends = u.ends;
        fits = records_with m.meter (beginner (begin_of c)) u.fits (omega arith) (omega arith) (ap (fits_of (fixed_on m.ring)) (begin_holds c));
      }

  pub word_fits_in : (view_of (place_of m.workers w)).busy ≡ true → fits_of (fixed_on m.ring) (view_of (place_of m.workers w)).held ≡ true
  word_fits_in h = of_record (fixed_on m.ring) m.meter (record_of_worker m.workers w) (ltb w m.count) own_fits h

  pub stored_unbroken : (i : ℕ) (a : Acted) → Ok (fixed_on m.ring) (ruled_in m u) a → UnbrokenWith records (stored m w i a)
  unfolding stored record_after
  stored_unbroken i a k =
      record {
        capacity = u.capacity;
        count = u.count;
        edition = u.edition;
        rule = u.rule;
        ends = k.ends;
        fits = records_with (m.meter + 1) (record_after (record_of_worker m.workers w) a.place a.loss) (λ j g. record_later _ _ _ _ (u.fits j g))
            (omega (arith, few_lost, one_lost a.loss)) (omega (arith, few_lost, one_lost a.loss)) k.held;
      }

  pub acted_unbroken : (bits : Width) (lose : Bool) → (view_of (place_of m.workers w)).busy ≡ true → UnbrokenWith records (acted bits m w (place_of m.workers w) lose)
  unfolding acted_by
  acted_unbroken bits lose h =
      stored_unbroken _ _ (keeps (fixed_on m.ring) (ruled_in m u) bits (ends_on m.ring) _ u.ends (place_of m.workers w) lose (word_fits_in h))
