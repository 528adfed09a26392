-- What the functions of the host's face answer, from what they find.
use Prim.Native.Nat.{ℕ, zero, suc, ◌*◌, ◌/◌, ◌%◌, ◌<◌}
use mathlib.Core.Path.{◌≡◌, refl, sym, ap, ◌∙◌, subst}
use mathlib.Core.Bool.{Bool, true, false, cond}
use mathlib.Core.List.{List, ◌∷◌}
use native.Mathlib.Omega.{arith}
use lib.Dec.{eqb}
use lib.ListN.{length, get_or, replicate}
use borrow.Author.Tests.{eq-eqb, ne_eqb, eqb-true}
use Rattle.std.specs.Prelude.{Result}
use Rattle.queue_entries.specs.Told.{told}
use Rattle.bounded_words.specs.declared.Fixed.{Fixed}
use Rattle.bounded_words.specs.Limits.{slots_most}
use Rattle.bounded_words.specs.Words.{Fair}
use Rattle.bounded_places.specs.declared.Ends.{Ends}
use Rattle.bounded_places.specs.declared.Slot.{Slot}
use Rattle.bounded_places.specs.declared.Worker.{Worker}
use Rattle.bounded_machine.specs.Machine.{idler, idlers, fresh_with, fresh_of, blank, accepted, ring_of_parts}
use Rattle.bounded_orders.specs.declared.Metered.{Metered}
use Rattle.bounded_orders.specs.declared.Made.{Made}
use Rattle.bounded_orders.specs.Orders.{make_refusal, metered_of, made_from, made_of, capacity_told, filled, contents_on}
use Rattle.bounded_lent.specs.Lent.{each_fits, broken_lent, lent, lent_of, run_lent, make_lent, contents_lent}
use Rattle.bounded_lent.proofs.Turning.{unbroken_lent, fair_lent}
use Rattle.bounded_lent.proofs.Listing as lent-listing
use Rattle.bounded_codes.specs.Codes.{triple}
use Rattle.bounded_rows.specs.Rows.{Words, words, head_of, slots_of, records_of, words_of, fixed_in, ends_in, slots_in, records_in, metered_in, shaped, placed, stand, after}
use Rattle.bounded_rows.proofs.Lists.{many}
use Rattle.bounded_rows.proofs.Standing.{standing, same_words, shaped_all}
use Rattle.bounded_slices.specs.Slices.{broken_words}
use Rattle.bounded_slices.proofs.Judged as judged
use Rattle.bounded_host.specs.declared.Reply.{Reply}
use Rattle.bounded_host.proofs.Running.{judged_six}
use Rattle.bounded_host.specs.Host as host
use Rattle.bounded_host.specs.Host.{reply, broken_refusal, make_words, ended, run_words, reply_of, capacity_words, Listed, listed, listed_of, contents_words}

pub along_told : (t u : Result ℕ ℕ) (r : Reply) → t ≡ u → r ≡ reply_of u → r ≡ reply_of t
along_told t u r h e = e ∙ ap reply_of (sym h)

-- ---- words that were judged
module _ (h ss rs : List ℕ) (b : Bool) (eb : b ≡ broken_words (words h ss rs)) where
  abbrev w : Words
  w = words h ss rs

  abbrev l : Metered
  l = metered_in (words h ss rs)

  abbrev ys : List Worker
  ys = records_in rs

  pub six : b ≡ true → 6 ≡ broken_refusal (words h ss rs)
  unfolding broken_refusal
  six t = rw (sym eb ∙ t) refl

  pub not_six : b ≡ false → 0 ≡ broken_refusal (words h ss rs)
  unfolding broken_refusal
  not_six f = rw (sym eb ∙ f) refl

  -- not broken
  pub stands_so : b ≡ false → stand (words h ss rs) ≡ true
  stands_so = judged.stands_so h ss rs b eb

  pub sound : b ≡ false → broken_lent (metered_in (words h ss rs)) (records_in rs) ≡ false
  sound = judged.sound h ss rs b eb

  pub eight : b ≡ false → length h ≡ 8
  eight f = (standing w (stands_so f)).eight

  pub second_there : b ≡ false → 2 < length h
  second_there f = omega (arith, eight f)

  pub sixth_there : b ≡ false → 6 < length h
  sixth_there f = omega (arith, eight f)

  pub all_slots : b ≡ false → length ss ≡ slots_most * 2
  all_slots f = (standing w (stands_so f)).all_slots

  pub fives : b ≡ false → length rs % 5 ≡ 0
  fives f = (standing w (stands_so f)).fives

  pub fair_so : b ≡ false → (f : Fixed) → f ≡ fixed_in h → Fair f
  fair_so whole f ef = subst Fair (sym ef) (fair_lent l ys (unbroken_lent l ys (sound whole)))

  broken_by : b ≡ true → {A : Type 0} (x y : A) → (stand w ≡ true → broken_lent l ys ≡ true → y ≡ x) → y ≡ cond (stand w) x y
  broken_by = judged.broken_by h ss rs b eb

  pub run_six : (s : List ℕ) → b ≡ true → ended (reply 6 0) (words h ss rs) ≡ run_words (words h ss rs) s
  unfolding run_words
  run_six s t = broken_by t (host.ended_of (run_lent l ys s)) (ended (reply 6 0) w) (λ st k. ap (ended (reply 6 0)) (sym (same_words w (standing w st))) ∙ ap host.ended_of (judged_six l ys s k))

  pub capacity_six : b ≡ true → reply 6 0 ≡ capacity_words (words h ss rs)
  unfolding capacity_words capacity_told told
  capacity_six t = broken_by t _ (reply 6 0) (λ st k. rw k refl)

  pub capacity_told_lem : b ≡ false → reply 0 (get_or h 2 0) ≡ capacity_words (words h ss rs)
  unfolding capacity_words capacity_told told fixed_in
  capacity_told_lem f = rw (stands_so f, sound f) refl

  module _ (buffer : List ℕ) where
    pub contents_six : b ≡ true → listed (reply 6 0) buffer ≡ contents_words (words h ss rs) buffer
    unfolding contents_words
    contents_six t = broken_by t (listed_of (contents_lent l ys buffer)) (listed (reply 6 0) buffer) (λ st k. ap listed_of (lent-listing.six_first l ys buffer k))

    module _ (whole : b ≡ false) (f : Fixed) (ef : f ≡ fixed_in h) (e : Ends) (ee : e ≡ ends_in h) (idle : Bool)
        (ei : idle ≡ cond (placed rs) (each_fits f (get_or h 6 0) false (records_in rs)) false) (all : List Slot) (ea : all ≡ slots_in ss) where
      pub contents_listed : (t : Result ℕ ℕ) (buffer' : List ℕ) → filled t buffer' ≡ contents_on idle (ring_of_parts f e all) buffer → (r : Reply) → r ≡ reply_of t
          → listed r buffer' ≡ contents_words (words h ss rs) buffer
      unfolding contents_words
      contents_listed t buffer' et r er =
          ap (λ (x : Reply). listed x buffer') er ∙ ap listed_of et
          ∙ (λ i. listed_of (contents_on (idle_is i) (ring_of_parts (ef i) (ee i) (ea i)) buffer))
          ∙ ap listed_of (lent-listing.listed l ys (sound whole) buffer)
          ∙ ap (λ (s : Bool). cond s (listed_of (contents_lent l ys buffer)) (listed (reply 6 0) buffer)) (sym (stands_so whole))
        where
          idle_is : idle ≡ each_fits (fixed_in h) (get_or h 6 0) false ys
          idle_is = ei ∙ (λ i. cond ((standing w (stands_so whole)).places i) (each_fits (ef i) (get_or h 6 0) false ys) false)

-- ---- making
idle_zeros : (n : ℕ) → records_of (replicate n idler) ≡ replicate (n * 5) 0
unfolding records_of triple
idle_zeros zero = refl
idle_zeros (suc n) = ap (λ (zs : List ℕ). 0 ∷ 0 ∷ 0 ∷ 0 ∷ 0 ∷ zs) (idle_zeros n) ∙ ap (λ (k : ℕ). replicate {A = ℕ} k 0) five_more
  where
    five_more : suc (suc (suc (suc (suc (n * 5))))) ≡ suc n * 5
    five_more = omega arith

module _ (h ss rs : List ℕ) (s : Bool) (es : s ≡ shaped (words h ss rs)) (capacity edition : ℕ) where
  pub make_six : s ≡ false → after 6 (words h ss rs) ≡ make_words (words h ss rs) capacity edition
  unfolding make_words
  make_six f = rw (sym es ∙ f) refl

  module _ (hs : s ≡ true) where
    pub made_eight : length h ≡ 8
    made_eight = (shaped_all (words h ss rs) (sym es ∙ hs)).0

    pub made_slots : length ss ≡ slots_most * 2
    made_slots = (shaped_all (words h ss rs) (sym es ∙ hs)).1

    module _ (made : Made) (em : made ≡ made_of (length rs / 5) capacity edition) where
      n : ℕ
      n = length (records_in rs)

      refusal : ℕ
      refusal = make_refusal n capacity edition

      asked : made ≡ made_of n capacity edition
      unfolding n
      asked = em ∙ ap (λ (k : ℕ). made_of k capacity edition) (sym (many rs))

      refusal_is : made.refusal ≡ refusal
      unfolding refusal made_of made_from
      refusal_is = ap (λ (m : Made). m.refusal) asked ∙ go (eqb refusal 0) refl
        where
          go : (b : Bool) → eqb refusal 0 ≡ b → (cond b (made_from 0 (fresh_of capacity n edition)) (made_from refusal blank)).refusal ≡ refusal
          go true e = sym (eqb-true refusal 0 e)
          go false e = refl

      so_made : make_words (words h ss rs) capacity edition ≡ host.made_from (words h ss rs) (make_lent (records_in rs) capacity edition)
      unfolding make_words
      so_made = rw (sym es ∙ hs) refl

      pub make_refused : (made.refusal ≡ 0 → ⊥) → after made.refusal (words h ss rs) ≡ make_words (words h ss rs) capacity edition
      unfolding refusal n make_lent
      make_refused ne = sym (so_made ∙ rw (ne_eqb refusal 0 (λ z. ne (refusal_is ∙ z)), ne_eqb refusal 0 (λ z. ne (refusal_is ∙ z))) (ap (λ (k : ℕ). after k (words h ss rs)) (sym refusal_is)))

      module _ (z : made.refusal ≡ 0) where
        none_refused : eqb refusal 0 ≡ true
        none_refused = eq-eqb refusal 0 (sym refusal_is ∙ z)

        ring_is : made.ring ≡ metered_of (fresh_with n capacity n edition)
        unfolding refusal made_of made_from fresh_with
        ring_is = ap (λ (m : Made). m.ring) asked ∙ ap (λ (b : Bool). (cond b (made_from 0 (fresh_of capacity n edition)) (made_from refusal blank)).ring) none_refused

        lent_is : make_lent (records_in rs) capacity edition ≡ lent_of (accepted (fresh_with n capacity n edition))
        unfolding refusal n make_lent
        lent_is = ap (λ (b : Bool). cond b (lent_of (accepted (fresh_with n capacity n edition))) (lent refusal (metered_of blank) (records_in rs))) none_refused

        records_are : replicate (length rs) 0 ≡ records_of (idlers n)
        unfolding n idlers
        records_are = ap (λ (k : ℕ). replicate {A = ℕ} k 0) fives_of ∙ sym (idle_zeros n)
          where
            fives_of : length rs ≡ length (records_in rs) * 5
            fives_of = omega (arith, many rs, (shaped_all (words h ss rs) (sym es ∙ hs)).2)

        pub make_done : (h' ss' rs' : List ℕ) → h' ≡ head_of made.ring → ss' ≡ slots_of made.ring.ring.slots → rs' ≡ replicate (length rs) 0
            → after 0 (words h' ss' rs') ≡ make_words (words h ss rs) capacity edition
        unfolding accepted words_of fresh_with
        make_done h' ss' rs' e₁ e₂ e₃ =
            (λ i. after 0 (words (e₁ i) (e₂ i) (e₃ i)))
            ∙ (λ i. after 0 (words (head_of (ring_is i)) (slots_of (ring_is i).ring.slots) (records_are i)))
            ∙ sym (so_made ∙ ap (host.made_from (words h ss rs)) lent_is)
