-- The items among the values, and what contents answers.
use Prim.Native.Nat.{ℕ, ◌+◌, ◌-◌, ◌%◌, ◌<◌, ◌≤◌}
use mathlib.Core.Path.{◌≡◌, refl, sym, ap, ◌∙◌, subst}
use mathlib.Core.Bool.{Bool, true, false, cond, not}
use mathlib.Core.List.{List, [], ◌++◌}
use native.Mathlib.Omega.{arith}
use lib.ListN.{length, get_or, drop}
use borrow.Author.Tests.{lt-ltb, le-ltb}
use mir.Val.{Fits}
use mir.Syntax.{w64}
use Rattle.std.specs.Prelude.{Result, Ok, Err}
use Rattle.bounded_orders.proofs.Listing as orders
use Rattle.bounded_words.specs.declared.Fixed.{Fixed}
use Rattle.bounded_words.specs.Limits.{slots_most}
use Rattle.bounded_words.specs.Words.{Fair, Indexed}
use Rattle.bounded_places.specs.declared.Ends.{Ends}
use Rattle.bounded_places.specs.declared.Slot.{Slot}
use Rattle.bounded_acts.specs.Acts.{Within, count_of}
use Rattle.bounded_machine.specs.Machine.{slot, ring_of_parts}
use Rattle.bounded_machine.specs.Broken.{ring_fits}
use Rattle.bounded_machine.specs.Contents.{wrapped, item_on, items_on, Counted}
use Rattle.bounded_machine.proofs.Items as items
use Rattle.bounded_machine.proofs.Laws as ring-laws
use Rattle.queue_entries.proofs.Limits.{limit_most}
use Rattle.bounded_machine.proofs.Kept.{ring_in}
use Rattle.bounded_orders.specs.Orders.{filled, contents_by, contents_on}
use Rattle.bounded_lent.specs.Lent.{each_fits, broken_lent, held, contents_lent}
use Rattle.bounded_lent.proofs.Turning.{unbroken_lent, fair_lent}
use Rattle.bounded_lent.proofs.Listing as lent-listing
use Rattle.bounded_rows.specs.Rows.{fixed_in, ends_in, records_in, placed}
use Rattle.bounded_sixteen_rows.specs.SixteenRows.{Shorts, shorts, slots_in, metered_in, broken_shorts}
use Rattle.bounded_sixteen_rows.proofs.Lists.{get_slot, Standing, standing}
use Rattle.bounded_sixteen_rows.proofs.Fitting as fitting
use Rattle.bounded_sixteen_host.specs.declared.Reply.{Reply}
use Rattle.bounded_sixteen_host.specs.SixteenHost.{reply, reply_of, listed, listed_of, contents_shorts}

pub along_told : (t u : Result ℕ ℕ) (r : Reply) → t ≡ u → r ≡ reply_of u → r ≡ reply_of t
along_told t u r h e = e ∙ ap reply_of (sym h)

-- ---- one item
module _ (f : Fixed) (e : Ends) (h : ring_fits f e ≡ true) where
  pub fair_of : Fair f
  fair_of = items.fair_at (ring_of_parts f e []) h

  pub within_of : Within f e.tail e.head
  within_of = items.within_at (ring_of_parts f e []) h

  pub few : (n k : ℕ) → n ≡ count_of f e.tail e.head → k < n → k < f.capacity
  few n k q l = omega (arith, l, (items.counted_at (ring_of_parts f e []) h n q).most)

  few_slots : f.capacity ≤ slots_most
  few_slots = limit_most f.capacity slots_most true (sym (ring-laws.fitting f e h).capacity) refl

  module _ (i k : ℕ) (l : k < f.capacity) (x : Indexed f e.head i) where
    low_index : i < f.capacity
    low_index = omega (arith, within_of.low, x.is)

    pub index_small : Fits w64 (i + k)
    index_small = record { fits = omega (arith, low_index, l, few_slots) }

module _ (f : Fixed) (e : Ends) (ss vs : List ℕ) (h : ring_fits f e ≡ true) where
  counted_of : (n : ℕ) → n ≡ count_of f e.tail e.head → Counted (ring_of_parts f e (slots_in ss vs)) n
  counted_of n q = items.counted_at (ring_of_parts f e (slots_in ss vs)) h n q

  module _ (idle : Bool) (buffer : List ℕ) where
    pub four : idle ≡ false → filled (Err 4) buffer ≡ contents_by false idle (ring_of_parts f e (slots_in ss vs)) buffer
    four d = orders.turned_4 false idle (ring_of_parts f e (slots_in ss vs)) buffer refl d

    module _ (d : idle ≡ true) (n : ℕ) (q : n ≡ count_of f e.tail e.head) where
      pub ten : length buffer < n → filled (Err 10) buffer ≡ contents_by false idle (ring_of_parts f e (slots_in ss vs)) buffer
      ten z = orders.turned_10 false idle (ring_of_parts f e (slots_in ss vs)) buffer refl d n (counted_of n q) z

      pub all_listed : (after : List ℕ) (k : ℕ) → n ≤ length buffer → k ≤ n → n ≤ k → after ≡ items_on (ring_of_parts f e (slots_in ss vs)) k 0 ++ drop k buffer
          → filled (Ok n) after ≡ contents_by false idle (ring_of_parts f e (slots_in ss vs)) buffer
      all_listed after k room low high is = orders.listed false idle (ring_of_parts f e (slots_in ss vs)) buffer refl d n (counted_of n q) after k room (omega (arith, low, high)) is

  module _ (ls : length ss ≡ f.capacity) (lv : length vs ≡ f.capacity) (i k : ℕ) (l : k < f.capacity) (x : Indexed f e.head i) where
    module _ (at : ℕ) (ea : at ≡ wrapped f.capacity (i + k)) (below : at < f.capacity) where
      there : (at < length ss) × (at < length vs)
      there = (omega (arith, below, ls), omega (arith, below, lv))

      item_there : (s : Slot) → s ≡ slot (get_or ss at 0) (get_or vs at 0) → s.value ≡ item_on (ring_of_parts f e (slots_in ss vs)) k
      item_there s es =
          ap (λ (z : Slot). z.value) (es ∙ sym (get_slot ss vs at there.0 there.1)) ∙ items.item_is (ring_of_parts f e (slots_in ss vs)) i k at x ea

    module _ (low : i + k < f.capacity) where
      low_at : i + k ≡ wrapped f.capacity (i + k)
      unfolding wrapped
      low_at = sym (ap (λ (b : Bool). cond b (i + k) (i + k - f.capacity)) (lt-ltb (i + k) f.capacity low))

      pub low_item : (s : Slot) → s ≡ slot (get_or ss (i + k) 0) (get_or vs (i + k) 0) → s.value ≡ item_on (ring_of_parts f e (slots_in ss vs)) k
      low_item = item_there (i + k) low_at low

    module _ (high : f.capacity ≤ i + k) where
      high_at : i + k - f.capacity ≡ wrapped f.capacity (i + k)
      unfolding wrapped
      high_at = sym (ap (λ (b : Bool). cond b (i + k) (i + k - f.capacity)) (le-ltb (i + k) f.capacity high))

      high_below : i + k - f.capacity < f.capacity
      high_below = omega (arith, low_index f e h i k l x, l, high)

      pub high_stamp : i + k - f.capacity < length ss
      high_stamp = (there (i + k - f.capacity) high_at high_below).0

      pub high_value : i + k - f.capacity < length vs
      high_value = (there (i + k - f.capacity) high_at high_below).1

      pub high_item : (s : Slot) → s ≡ slot (get_or ss (i + k - f.capacity) 0) (get_or vs (i + k - f.capacity) 0) → s.value ≡ item_on (ring_of_parts f e (slots_in ss vs)) k
      high_item = item_there (i + k - f.capacity) high_at high_below

-- ---- contents
module _ (h : List ℕ) (m : ℕ) (ss vs rs : List ℕ) (b : Bool) (eb : b ≡ broken_shorts (shorts h m ss vs rs)) where
  abbrev w : Shorts
  w = shorts h m ss vs rs

  pub contents_six : (buffer : List ℕ) → b ≡ true → listed (reply 6 0) buffer ≡ contents_shorts (shorts h m ss vs rs) buffer
  unfolding contents_shorts
  contents_six buffer t =
      fitting.broken_by w b eb t (listed_of (contents_lent (metered_in w) (records_in rs) buffer)) (listed (reply 6 0) buffer)
      (λ st k. ap listed_of (lent-listing.six_first (metered_in w) (records_in rs) buffer k))

  module _ (whole : b ≡ false) where
    known : Standing w
    known = standing w (fitting.stands_so w b eb whole)

    sound : broken_lent (metered_in w) (records_in rs) ≡ false
    sound = fitting.sound w b eb whole

    pub seven : length h ≡ 7
    seven = known.seven

    pub fives : length rs % 5 ≡ 0
    fives = known.fives

    module _ (f : Fixed) (ef : f ≡ fixed_in h) where
      pub fair_so : Fair f
      fair_so = subst Fair (sym ef) (fair_lent (metered_in w) (records_in rs) (unbroken_lent (metered_in w) (records_in rs) sound))

      pub capacity_is : f.capacity ≡ get_or h 2 0
      unfolding fixed_in
      capacity_is = ap (λ (x : Fixed). x.capacity) ef

      pub all_stamps : length ss ≡ f.capacity
      all_stamps = known.all_stamps ∙ sym capacity_is

      pub all_values : length vs ≡ f.capacity
      all_values = known.all_values ∙ sym capacity_is

      module _ (e : Ends) (ee : e ≡ ends_in h) where
        pub ring_fits_lem : ring_fits f e ≡ true
        ring_fits_lem = (λ i. ring_fits (ef i) (ee i)) ∙ ring_in (held (metered_in w) (records_in rs)) (unbroken_lent (metered_in w) (records_in rs) sound)

        pub contents_listed : (idle : Bool) → idle ≡ cond (placed rs) (each_fits f m false (records_in rs)) false → (buffer : List ℕ) (t : Result ℕ ℕ) (buffer' : List ℕ)
            → filled t buffer' ≡ contents_by false idle (ring_of_parts f e (slots_in ss vs)) buffer → (r : Reply) → r ≡ reply_of t → listed r buffer' ≡ contents_shorts (shorts h m ss vs rs) buffer
        unfolding contents_shorts contents_on
        contents_listed idle ei buffer t buffer' et r er =
            ap (λ (x : Reply). listed x buffer') er ∙ ap listed_of (et ∙ (λ i. contents_by false (idle_is i) (ring_of_parts (ef i) (ee i) (slots_in ss vs)) buffer)
            ∙ (λ i. contents_by (not (sym ring_is i)) (each_fits (fixed_in h) m false (records_in rs)) (ring_of_parts (fixed_in h) (ends_in h) (slots_in ss vs)) buffer)
            ∙ lent-listing.listed (metered_in w) (records_in rs) sound buffer)
            ∙ ap (λ (s : Bool). cond s (listed_of (contents_lent (metered_in w) (records_in rs) buffer)) (listed (reply 6 0) buffer)) (sym (fitting.stands_so w b eb whole))
          where
            ring_is : ring_fits (fixed_in h) (ends_in h) ≡ true
            ring_is = ring_in (held (metered_in w) (records_in rs)) (unbroken_lent (metered_in w) (records_in rs) sound)

            idle_is : idle ≡ each_fits (fixed_in h) m false (records_in rs)
            idle_is = ei ∙ (λ i. cond (known.places i) (each_fits (ef i) m false (records_in rs)) false)
