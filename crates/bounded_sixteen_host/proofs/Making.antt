-- A fresh ring written as words, and the refusals of making.
use Prim.Native.Nat.{ℕ, zero, suc, ◌+◌, ◌*◌, ◌/◌, ◌<◌, ◌≤◌}
use mathlib.Core.Path.{◌≡◌, refl, sym, ap, ◌∙◌}
use mathlib.Core.Bool.{Bool, true, false, cond}
use mathlib.Core.List.{List, [], ◌∷◌, ◌++◌, append_assoc, append-nil}
use native.Mathlib.Omega.{arith}
use lib.ListN.{length, get_or, set, drop, replicate, length-set, drop_of_length-le}
use lib.Seq.{drop-cons, set_at}
use native.Mathlib.Numerals.{add-one}
use borrow.Author.Tests.{eq-eqb, ne_eqb}
use Rattle.queue_entries.specs.Limits.{in_limits}
use Rattle.queue_entries.proofs.Limits.{limit_most}
use Rattle.bounded_words.specs.Limits.{slots_most, editions_most}
use Rattle.bounded_words.specs.Words.{mark_of}
use Rattle.bounded_orders.specs.Orders.{records_most, make_refusal_with}
use Rattle.bounded_sixteen_rows.specs.SixteenRows.{shorts, layout, shaped_for, after}
use Rattle.bounded_sixteen_rows.proofs.Lists.{shaped_all}
use Rattle.bounded_sixteen_host.specs.SixteenHost.{numbers, fresh_head, fresh_shorts, make_shorts}

-- ---- the head
pub fresh_written : (h : List ℕ) (c m e : ℕ) → length h ≡ 7 → m ≡ mark_of c
    → set (set (set (set (set (set (set h 0 m) 1 (2 * m)) 2 c) 3 e) 4 0) 5 0) 6 layout ≡ fresh_head c e
unfolding fresh_head
fresh_written [] c m e n is = absurd (omega (arith, n))
fresh_written (x0 ∷ []) c m e n is = absurd (omega (arith, n))
fresh_written (x0 ∷ x1 ∷ []) c m e n is = absurd (omega (arith, n))
fresh_written (x0 ∷ x1 ∷ x2 ∷ []) c m e n is = absurd (omega (arith, n))
fresh_written (x0 ∷ x1 ∷ x2 ∷ x3 ∷ []) c m e n is = absurd (omega (arith, n))
fresh_written (x0 ∷ x1 ∷ x2 ∷ x3 ∷ x4 ∷ []) c m e n is = absurd (omega (arith, n))
fresh_written (x0 ∷ x1 ∷ x2 ∷ x3 ∷ x4 ∷ x5 ∷ []) c m e n is = absurd (omega (arith, n))
fresh_written (x0 ∷ x1 ∷ x2 ∷ x3 ∷ x4 ∷ x5 ∷ x6 ∷ []) c m e n is = ap (λ (k : ℕ). k ∷ 2 * k ∷ c ∷ e ∷ 0 ∷ 0 ∷ layout ∷ []) is
fresh_written (x0 ∷ x1 ∷ x2 ∷ x3 ∷ x4 ∷ x5 ∷ x6 ∷ x7 ∷ rest) c m e n is = absurd (omega (arith, n))

-- ---- the stamps
long_numbers : (n first : ℕ) → length (numbers n first) ≡ n
unfolding numbers
long_numbers zero first = refl
long_numbers (suc n) first = ap suc (long_numbers n (first + 1))

more_numbers : (n first : ℕ) → numbers (suc n) first ≡ numbers n first ++ (first + n) ∷ []
unfolding numbers
more_numbers zero first = let e : first ≡ first + 0 = omega arith in ap (λ (k : ℕ). k ∷ []) e
more_numbers (suc n) first =
    let e : first + 1 + n ≡ first + suc n = omega arith in
    ap (λ (l : List ℕ). first ∷ l) (more_numbers n (first + 1) ∙ ap (λ (k : ℕ). numbers n (first + 1) ++ k ∷ []) e)

all_dropped : (l ws : List ℕ) → l ++ drop (length ws) ws ≡ l
all_dropped l ws = ap (λ (z : List ℕ). l ++ z) (drop_of_length-le ws {i = length ws} (omega arith)) ∙ append-nil l

none_stamped_yet : (ws : List ℕ) → ws ≡ numbers 0 0 ++ drop 0 ws
unfolding numbers
none_stamped_yet ws = refl

module _ (ws : List ℕ) where
  pub record Stamped (n i : ℕ) (zs : List ℕ) : Type 0 where
    pub many_are : n ≡ length ws
    pub few : n ≤ slots_most
    pub low : i ≤ n
    pub long : length zs ≡ length ws
    pub so_far : zs ≡ numbers i 0 ++ drop i ws

  pub none_stamped : length ws ≤ slots_most → Stamped (length ws) 0 ws
  none_stamped few = record { many_are = refl; few = few; low = omega arith; long = refl; so_far = none_stamped_yet ws }

  module _ (n i : ℕ) (zs : List ℕ) (z : Stamped n i zs) where
    pub stamped_long : length zs ≡ length ws
    stamped_long = z.long

    pub stamp_room : i < n → i < length zs
    stamp_room l = omega (arith, l, z.many_are, z.long)

    pub stamp_fits : i < n → i < 65536
    stamp_fits l = omega (arith, l, z.few)

    pub one_stamped : i < n → Stamped n (i + 1) (set zs i i)
    one_stamped l =
        let here : 0 + i ≡ i = omega arith in
        record {
          many_are = z.many_are;
          few = z.few;
          low = omega (arith, l);
          long = length-set zs i i ∙ z.long;
          so_far = ap (λ (r : List ℕ). set r i i) (z.so_far ∙ ap (λ (r : List ℕ). numbers i 0 ++ r) (drop-cons ws i 0 (omega (arith, l, z.many_are))))
              ∙ set_at (numbers i 0) (get_or ws i 0) (drop (suc i) ws) i i (long_numbers i 0)
              ∙ ap (λ (k : ℕ). numbers i 0 ++ k ∷ drop (suc i) ws) (sym here)
              ∙ sym (append_assoc (numbers i 0) ((0 + i) ∷ []) (drop (suc i) ws))
              ∙ ap (λ (r : List ℕ). r ++ drop (suc i) ws) (sym (more_numbers i 0))
              ∙ ap (λ (k : ℕ). numbers k 0 ++ drop k ws) (sym (add-one i));
        }

    pub all_stamped : n ≤ i → zs ≡ numbers (length ws) 0
    all_stamped g =
        let is : i ≡ length ws = omega (arith, g, z.low, z.many_are) in
        z.so_far ∙ ap (λ (k : ℕ). numbers k 0 ++ drop k ws) is ∙ all_dropped (numbers (length ws) 0) ws

-- ---- the head, word after word
same_long : (h : List ℕ) → length h ≡ 7 → (i x : ℕ) → length (set h i x) ≡ 7
same_long h n i x = length-set h i x ∙ n

module _ (h : List ℕ) (a b c d : ℕ) (n : length h ≡ 7) where
  abbrev four_words : List ℕ
  four_words = set (set (set (set h 0 a) 1 b) 2 c) 3 d

  four : length (set (set (set (set h 0 a) 1 b) 2 c) 3 d) ≡ 7
  four =
      let one = same_long h n 0 a in
      let two = same_long (set h 0 a) one 1 b in
      let three = same_long (set (set h 0 a) 1 b) two 2 c in
      same_long (set (set (set h 0 a) 1 b) 2 c) three 3 d

  pub room_5 : 4 < length (set (set (set (set h 0 a) 1 b) 2 c) 3 d)
  room_5 = omega (arith, four)

  pub room_6 : (e : ℕ) → 5 < length (set (set (set (set (set h 0 a) 1 b) 2 c) 3 d) 4 e)
  room_6 e = omega (arith, same_long four_words four 4 e)

  pub room_7 : (e f : ℕ) → 6 < length (set (set (set (set (set (set h 0 a) 1 b) 2 c) 3 d) 4 e) 5 f)
  room_7 e f = omega (arith, same_long (set four_words 4 e) (same_long four_words four 4 e) 5 f)

-- ---- making
limits_kept : (most c n e : ℕ) → make_refusal_with most c n e ≡ 0 → (c ≤ slots_most) × (e ≤ editions_most)
unfolding make_refusal_with
limits_kept most c n e z = go (in_limits c slots_most) refl (in_limits n most) (in_limits e editions_most) refl z
  where
    go : (a : Bool) → in_limits c slots_most ≡ a → (b : Bool) (d : Bool) → in_limits e editions_most ≡ d → ◌≡◌ {A = ℕ} (cond a (cond b (cond d 0 18) 2) 1) 0 → (c ≤ slots_most) × (e ≤ editions_most)
    go true ea true true ed q = (limit_most c slots_most true (sym ea) refl, limit_most e editions_most true (sym ed) refl)
    go true ea true false ed q = absurd (omega (arith, q))
    go true ea false d ed q = absurd (omega (arith, q))
    go false ea b d ed q = absurd (omega (arith, q))

module _ (h : List ℕ) (m : ℕ) (ss vs rs : List ℕ) (c ed : ℕ) (s : Bool) (es : s ≡ shaped_for c (shorts h m ss vs rs)) where
  pub make_six : s ≡ false → after 6 (shorts h m ss vs rs) ≡ make_shorts (shorts h m ss vs rs) c ed
  unfolding make_shorts
  make_six f = rw (sym es ∙ f) refl

  module _ (hs : s ≡ true) (k : ℕ) (ek : k ≡ make_refusal_with records_most c (length rs / 5) ed) where
    pub make_refused : (k ≡ 0 → ⊥) → after k (shorts h m ss vs rs) ≡ make_shorts (shorts h m ss vs rs) c ed
    unfolding make_shorts
    make_refused ne =
        ap (λ (n : ℕ). after n (shorts h m ss vs rs)) ek
        ∙ sym (rw (sym es ∙ hs, ne_eqb (make_refusal_with records_most c (length rs / 5) ed) 0 (λ z. ne (ek ∙ z))) refl)

    module _ (z : k ≡ 0) where
      pub make_seven : length h ≡ 7
      make_seven = (shaped_all c (shorts h m ss vs rs) (sym es ∙ hs)).0

      pub few_slots : c ≤ slots_most
      few_slots = (limits_kept records_most c (length rs / 5) ed (sym ek ∙ z)).0

      pub few_editions : ed ≤ editions_most
      few_editions = (limits_kept records_most c (length rs / 5) ed (sym ek ∙ z)).1

      pub few_stamps : length ss ≤ slots_most
      few_stamps = omega (arith, few_slots, (shaped_all c (shorts h m ss vs rs) (sym es ∙ hs)).1)

      pub make_done : (h' ss' vs' rs' : List ℕ) → h' ≡ fresh_head c ed → ss' ≡ numbers (length ss) 0 → vs' ≡ replicate (length vs) 0 → rs' ≡ replicate (length rs) 0
          → after 0 (shorts h' 0 ss' vs' rs') ≡ make_shorts (shorts h m ss vs rs) c ed
      unfolding make_shorts fresh_shorts
      make_done h' ss' vs' rs' eh e₁ e₂ e₃ =
          let shape = shaped_all c (shorts h m ss vs rs) (sym es ∙ hs) in
          (λ i. after 0 (shorts (eh i) 0 ((e₁ ∙ ap (λ (n : ℕ). numbers n 0) shape.1) i) ((e₂ ∙ ap (λ (n : ℕ). replicate {A = ℕ} n 0) shape.2) i) (e₃ i)))
          ∙ sym (rw (sym es ∙ hs, eq-eqb (make_refusal_with records_most c (length rs / 5) ed) 0 (sym ek ∙ z)) refl)
