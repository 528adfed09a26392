-- Records and slots that are read out of words and stored there; words, and what they stand for, are one to one.
use Prim.Native.Nat.{ℕ, zero, suc, ◌+◌, ◌*◌, ◌/◌, ◌%◌, ◌<◌}
use mathlib.Core.Path.{◌≡◌, refl, sym, ap, ◌∙◌}
use mathlib.Core.Bool.{Bool, true, false, cond, true≢false}
use mathlib.Core.List.{List, [], ◌∷◌}
use native.Mathlib.Omega.{arith}
use lib.ListN.{length, get_or, set, length-set}
use lib.Seq.{get_or-set_same, get_or-set_other}
use Rattle.bounded_places.specs.declared.Ends.{Ends}
use Rattle.bounded_places.specs.declared.Slot.{Slot}
use Rattle.bounded_places.specs.declared.Place.{Place}
use Rattle.bounded_places.specs.declared.Worker.{Worker}
use Rattle.bounded_words.specs.Words.{stamp}
use Rattle.bounded_machine.specs.Machine.{slot, idler}
use Rattle.bounded_codes.specs.declared.Coded.{Coded}
use Rattle.bounded_codes.specs.Codes.{triple, code_of, stands_for}
use Rattle.bounded_codes.proofs.Codes.{read_back}
use Rattle.bounded_codes.proofs.Standing.{written_stands, written_back}
use Rattle.queue_entries.proofs.Pick.{both_left, both_right}
use Rattle.bounded_rows.specs.Rows.{words, layout, head_of, slots_of, records_of, fixed_in, ends_in, metered_in, placed, with_head, record_from, record_at, five}
use Rattle.bounded_rows.specs.Rows.{with_record, slot_at, with_slot, slots_in, records_in}

-- ---- records
pub many : (ws : List ℕ) → length (records_in ws) ≡ length ws / 5
unfolding records_in
many [] = refl
many (c ∷ []) = refl
many (c ∷ a ∷ []) = refl
many (c ∷ a ∷ b ∷ []) = refl
many (c ∷ a ∷ b ∷ d ∷ []) = refl
many (c ∷ a ∷ b ∷ d ∷ f ∷ ws) = omega (arith, many ws)

pub room : (ws : List ℕ) (i : ℕ) → i < length (records_in ws) → i * 5 + 4 < length ws
room ws i l = omega (arith, l, many ws)

skip : (c a b d f : ℕ) (ws : List ℕ) (n m v : ℕ) → n ≡ m + 5 → set (c ∷ a ∷ b ∷ d ∷ f ∷ ws) n v ≡ c ∷ a ∷ b ∷ d ∷ f ∷ set ws m v
skip c a b d f ws n m v e = ap (λ (k : ℕ). set (c ∷ a ∷ b ∷ d ∷ f ∷ ws) k v) five_more
  where
    five_more : n ≡ suc (suc (suc (suc (suc m))))
    five_more = omega (arith, e)

pub beyond : (c a b d f : ℕ) (ws : List ℕ) (n m : ℕ) → n ≡ m + 5 → get_or (c ∷ a ∷ b ∷ d ∷ f ∷ ws) n 0 ≡ get_or ws m 0
beyond c a b d f ws n m e = ap (λ (k : ℕ). get_or (c ∷ a ∷ b ∷ d ∷ f ∷ ws) k 0) five_more
  where
    five_more : n ≡ suc (suc (suc (suc (suc m))))
    five_more = omega (arith, e)

pub get : (ws : List ℕ) (i : ℕ) → i < length (records_in ws) → get_or (records_in ws) i idler ≡ record_at ws i
unfolding records_in record_at
get [] i l = absurd (omega (arith, l))
get (c ∷ []) i l = absurd (omega (arith, l))
get (c ∷ a ∷ []) i l = absurd (omega (arith, l))
get (c ∷ a ∷ b ∷ []) i l = absurd (omega (arith, l))
get (c ∷ a ∷ b ∷ d ∷ []) i l = absurd (omega (arith, l))
get (c ∷ a ∷ b ∷ d ∷ f ∷ ws) zero l = refl
get (c ∷ a ∷ b ∷ d ∷ f ∷ ws) (suc i) l =
    get ws i (omega (arith, l))
    ∙ (λ k. record_from (sym (beyond c a b d f ws (suc i * 5) (i * 5) (omega arith)) k) (sym (beyond c a b d f ws (suc i * 5 + 1) (i * 5 + 1) (omega arith)) k)
    (sym (beyond c a b d f ws (suc i * 5 + 2) (i * 5 + 2) (omega arith)) k)
    (sym (beyond c a b d f ws (suc i * 5 + 3) (i * 5 + 3) (omega arith)) k) (sym (beyond c a b d f ws (suc i * 5 + 4) (i * 5 + 4) (omega arith)) k))

five_skip : (c a b d f : ℕ) (ws : List ℕ) (i : ℕ) (x : Coded) (p q : ℕ) → five (c ∷ a ∷ b ∷ d ∷ f ∷ ws) (suc i * 5) x p q ≡ c ∷ a ∷ b ∷ d ∷ f ∷ five ws (i * 5) x p q
five_skip c a b d f ws i x p q =
    ap (λ (l : List ℕ). set (set (set (set l (suc i * 5 + 1) x.first) (suc i * 5 + 2) x.second) (suc i * 5 + 3) p) (suc i * 5 + 4) q)
    (skip c a b d f ws (suc i * 5) (i * 5) x.code (omega arith))
    ∙ ap (λ (l : List ℕ). set (set (set l (suc i * 5 + 2) x.second) (suc i * 5 + 3) p) (suc i * 5 + 4) q)
    (skip c a b d f (set ws (i * 5) x.code) (suc i * 5 + 1) (i * 5 + 1) x.first (omega arith))
    ∙ ap (λ (l : List ℕ). set (set l (suc i * 5 + 3) p) (suc i * 5 + 4) q)
    (skip c a b d f (set (set ws (i * 5) x.code) (i * 5 + 1) x.first) (suc i * 5 + 2) (i * 5 + 2) x.second (omega arith))
    ∙ ap (λ (l : List ℕ). set l (suc i * 5 + 4) q) (skip c a b d f (set (set (set ws (i * 5) x.code) (i * 5 + 1) x.first) (i * 5 + 2) x.second) (suc i * 5 + 3) (i * 5 + 3) p (omega arith))
    ∙ skip c a b d f (set (set (set (set ws (i * 5) x.code) (i * 5 + 1) x.first) (i * 5 + 2) x.second) (i * 5 + 3) p) (suc i * 5 + 4) (i * 5 + 4) q (omega arith)

pub put : (ws : List ℕ) (i : ℕ) (r : Worker) → i < length (records_in ws) → records_in (with_record ws i r) ≡ set (records_in ws) i r
unfolding records_in with_record
put [] i r l = absurd (omega (arith, l))
put (c ∷ []) i r l = absurd (omega (arith, l))
put (c ∷ a ∷ []) i r l = absurd (omega (arith, l))
put (c ∷ a ∷ b ∷ []) i r l = absurd (omega (arith, l))
put (c ∷ a ∷ b ∷ d ∷ []) i r l = absurd (omega (arith, l))
put (c ∷ a ∷ b ∷ d ∷ f ∷ ws) zero r l = ap (λ (p : Place). record { place = p; differed = r.differed; failed = r.failed } ∷ records_in ws) (read_back r.place)
put (c ∷ a ∷ b ∷ d ∷ f ∷ ws) (suc i) r l =
    ap records_in (five_skip c a b d f ws i (code_of r.place) r.differed r.failed) ∙ ap (λ (l : List Worker). record_from c a b d f ∷ l) (put ws i r (omega (arith, l)))

-- ---- slots
pub many_slots : (ws : List ℕ) → length (slots_in ws) ≡ length ws / 2
unfolding slots_in
many_slots [] = refl
many_slots (s ∷ []) = refl
many_slots (s ∷ v ∷ ws) = omega (arith, many_slots ws)

two_more : (n m : ℕ) → n ≡ m + 2 → n ≡ suc (suc m)
two_more n m e = omega (arith, e)

pub get_slot : (ws : List ℕ) (k : ℕ) → k < length (slots_in ws) → get_or (slots_in ws) k (slot 0 0) ≡ slot_at ws k
unfolding slots_in slot_at
get_slot [] k l = absurd (omega (arith, l))
get_slot (s ∷ []) k l = absurd (omega (arith, l))
get_slot (s ∷ v ∷ ws) zero l = refl
get_slot (s ∷ v ∷ ws) (suc k) l =
    get_slot ws k (omega (arith, l))
    ∙ (λ j. slot (get_or (s ∷ v ∷ ws) (sym (two_more (suc k * 2) (k * 2) (omega arith)) j) 0) (get_or (s ∷ v ∷ ws) (sym (two_more (suc k * 2 + 1) (k * 2 + 1) (omega arith)) j) 0))

pub put_slot : (ws : List ℕ) (k : ℕ) (x : Slot) → k < length (slots_in ws) → slots_in (with_slot ws k x) ≡ set (slots_in ws) k x
unfolding slots_in with_slot
put_slot [] k x l = absurd (omega (arith, l))
put_slot (s ∷ []) k x l = absurd (omega (arith, l))
put_slot (s ∷ v ∷ ws) zero x l = refl
put_slot (s ∷ v ∷ ws) (suc k) x l =
    (λ j. slots_in (set (set (s ∷ v ∷ ws) (two_more (suc k * 2) (k * 2) (omega arith) j) x.stamp.0) (two_more (suc k * 2 + 1) (k * 2 + 1) (omega arith) j) x.value))
    ∙ ap (λ (l : List Slot). slot s v ∷ l) (put_slot ws k x (omega (arith, l)))

-- ---- what is stored keeps the lengths
pub long_record : (ws : List ℕ) (i : ℕ) (r : Worker) → length (with_record ws i r) ≡ length ws
unfolding with_record
long_record ws i r = simp length-set

pub long_slot : (ws : List ℕ) (k : ℕ) (x : Slot) → length (with_slot ws k x) ≡ length ws
unfolding with_slot
long_slot ws k x = simp length-set

-- ---- one to one
-- words that stand for records and slots are read as them, and written back
pub whole_records : (ws : List ℕ) → placed ws ≡ true → records_of (records_in ws) ≡ ws
unfolding placed records_in records_of triple
whole_records [] p = refl
whole_records (c ∷ []) p = absurd (true≢false (sym p))
whole_records (c ∷ a ∷ []) p = absurd (true≢false (sym p))
whole_records (c ∷ a ∷ b ∷ []) p = absurd (true≢false (sym p))
whole_records (c ∷ a ∷ b ∷ d ∷ []) p = absurd (true≢false (sym p))
whole_records (c ∷ a ∷ b ∷ d ∷ f ∷ ws) p =
    ap (λ (x : Coded). x.code ∷ x.first ∷ x.second ∷ d ∷ f ∷ records_of (records_in ws)) (written_back c a b (both_left (stands_for c a b) _ p))
    ∙ ap (λ (l : List ℕ). c ∷ a ∷ b ∷ d ∷ f ∷ l) (whole_records ws (both_right (stands_for c a b) _ p))

pub whole_slots : (ws : List ℕ) → length ws % 2 ≡ 0 → slots_of (slots_in ws) ≡ ws
unfolding slots_in slots_of
whole_slots [] e = refl
whole_slots (s ∷ []) e = absurd (omega (arith, e))
whole_slots (s ∷ v ∷ ws) e = ap (λ (l : List ℕ). s ∷ v ∷ l) (whole_slots ws (omega (arith, e)))

pub whole_head : (h ss rs : List ℕ) → length h ≡ 8 → get_or h 7 0 ≡ layout → head_of (metered_in (words h ss rs)) ≡ h
unfolding head_of fixed_in ends_in
whole_head [] ss rs n e = absurd (omega (arith, n))
whole_head (a ∷ []) ss rs n e = absurd (omega (arith, n))
whole_head (a ∷ b ∷ []) ss rs n e = absurd (omega (arith, n))
whole_head (a ∷ b ∷ c ∷ []) ss rs n e = absurd (omega (arith, n))
whole_head (a ∷ b ∷ c ∷ d ∷ []) ss rs n e = absurd (omega (arith, n))
whole_head (a ∷ b ∷ c ∷ d ∷ x ∷ []) ss rs n e = absurd (omega (arith, n))
whole_head (a ∷ b ∷ c ∷ d ∷ x ∷ y ∷ []) ss rs n e = absurd (omega (arith, n))
whole_head (a ∷ b ∷ c ∷ d ∷ x ∷ y ∷ m ∷ []) ss rs n e = absurd (omega (arith, n))
whole_head (a ∷ b ∷ c ∷ d ∷ x ∷ y ∷ m ∷ l ∷ []) ss rs n e = ap (λ (z : ℕ). a ∷ b ∷ c ∷ d ∷ x ∷ y ∷ m ∷ z ∷ []) (sym e)
whole_head (a ∷ b ∷ c ∷ d ∷ x ∷ y ∷ m ∷ l ∷ more ∷ rest) ss rs n e = absurd (omega (arith, n))

-- records and slots are written as words that stand for them, and read back
pub records_back : (ys : List Worker) → records_in (records_of ys) ≡ ys
unfolding records_of records_in
records_back [] = refl
records_back (r ∷ rest) = (λ i. record { place = read_back r.place i; differed = r.differed; failed = r.failed } ∷ records_back rest i)

pub records_placed : (ys : List Worker) → placed (records_of ys) ≡ true
unfolding records_of placed
records_placed [] = refl
records_placed (r ∷ rest) = ap (λ (b : Bool). cond b (placed (records_of rest)) false) (written_stands r.place) ∙ records_placed rest

pub records_long : (ys : List Worker) → length (records_of ys) ≡ length ys * 5
unfolding records_of
records_long [] = refl
records_long (r ∷ rest) = omega (arith, records_long rest)

pub slots_back : (ss : List Slot) → slots_in (slots_of ss) ≡ ss
unfolding slots_of slots_in
slots_back [] = refl
slots_back (s ∷ rest) = ap (λ (l : List Slot). s ∷ l) (slots_back rest)

pub slots_long : (ss : List Slot) → length (slots_of ss) ≡ length ss * 2
unfolding slots_of
slots_long [] = refl
slots_long (s ∷ rest) = omega (arith, slots_long rest)

-- ---- a record that is stored leaves a place in every five
pub still_placed : (ws : List ℕ) (i : ℕ) (r : Worker) → i < length (records_in ws) → placed ws ≡ true → placed (with_record ws i r) ≡ true
unfolding placed records_in with_record
still_placed [] i r l p = absurd (omega (arith, l))
still_placed (c ∷ []) i r l p = absurd (omega (arith, l))
still_placed (c ∷ a ∷ []) i r l p = absurd (omega (arith, l))
still_placed (c ∷ a ∷ b ∷ []) i r l p = absurd (omega (arith, l))
still_placed (c ∷ a ∷ b ∷ d ∷ []) i r l p = absurd (omega (arith, l))
still_placed (c ∷ a ∷ b ∷ d ∷ f ∷ ws) zero r l p = ap (λ (t : Bool). cond t (placed ws) false) (written_stands r.place) ∙ both_right (stands_for c a b) _ p
still_placed (c ∷ a ∷ b ∷ d ∷ f ∷ ws) (suc i) r l p =
    ap placed (five_skip c a b d f ws i (code_of r.place) r.differed r.failed)
    ∙ ap (λ (t : Bool). cond t (placed (with_record ws i r)) false) (both_left (stands_for c a b) _ p)
    ∙ still_placed ws i r (omega (arith, l)) (both_right (stands_for c a b) _ p)

-- ---- the eight words
module _ (h : List ℕ) (e : Ends) (m : ℕ) where
  kept : (i : ℕ) → i < 4 → get_or (with_head h e m) i 0 ≡ get_or h i 0
  unfolding with_head
  kept i l =
      get_or-set_other (set (set h 4 e.head.0) 5 e.tail.0) 6 i m 0 (λ z. omega (arith, l, z))
      ∙ get_or-set_other (set h 4 e.head.0) 5 i e.tail.0 0 (λ z. omega (arith, l, z))
      ∙ get_or-set_other h 4 i e.head.0 0 (λ z. omega (arith, l, z))

  pub same_layout : get_or (with_head h e m) 7 0 ≡ get_or h 7 0
  unfolding with_head
  same_layout =
      get_or-set_other (set (set h 4 e.head.0) 5 e.tail.0) 6 7 m 0 (λ z. omega (arith, z))
      ∙ get_or-set_other (set h 4 e.head.0) 5 7 e.tail.0 0 (λ z. omega (arith, z))
      ∙ get_or-set_other h 4 7 e.head.0 0 (λ z. omega (arith, z))

  pub long_head : length (with_head h e m) ≡ length h
  unfolding with_head
  long_head = simp length-set

  pub same_fixed : fixed_in (with_head h e m) ≡ fixed_in h
  unfolding fixed_in
  same_fixed = λ k. record { mark = kept 0 (omega arith) k; lap = kept 1 (omega arith) k; capacity = kept 2 (omega arith) k; edition = kept 3 (omega arith) k }

  module _ (n : length h ≡ 8) where
    long₄ : length (set h 4 e.head.0) ≡ 8
    long₄ = length-set h 4 e.head.0 ∙ n

    long₅ : length (set (set h 4 e.head.0) 5 e.tail.0) ≡ 8
    long₅ = length-set (set h 4 e.head.0) 5 e.tail.0 ∙ long₄

    new_head : get_or (with_head h e m) 4 0 ≡ e.head.0
    unfolding with_head
    new_head =
        get_or-set_other (set (set h 4 e.head.0) 5 e.tail.0) 6 4 m 0 (λ z. omega (arith, z))
        ∙ get_or-set_other (set h 4 e.head.0) 5 4 e.tail.0 0 (λ z. omega (arith, z))
        ∙ get_or-set_same h 4 e.head.0 0 (omega (arith, n))

    new_tail : get_or (with_head h e m) 5 0 ≡ e.tail.0
    unfolding with_head
    new_tail =
        get_or-set_other (set (set h 4 e.head.0) 5 e.tail.0) 6 5 m 0 (λ z. omega (arith, z))
        ∙ get_or-set_same (set h 4 e.head.0) 5 e.tail.0 0 (omega (arith, long₄))

    pub new_meter : get_or (with_head h e m) 6 0 ≡ m
    unfolding with_head
    new_meter = get_or-set_same (set (set h 4 e.head.0) 5 e.tail.0) 6 m 0 (omega (arith, long₅))

    pub new_ends : ends_in (with_head h e m) ≡ e
    unfolding ends_in
    new_ends = λ k. record { head = stamp (new_head k); tail = stamp (new_tail k) }
