-- In edition 2 a mark that is set stays, on any unbroken machine, reached or not: the tail that P3 exchanges is unmarked, and F7 keeps the mark.
use mathlib.Core.Path.{◌≡◌, refl, sym, ap, ◌∙◌}
use mathlib.Core.Bool.{Bool, true, true≢false}
use mathlib.Core.List.{List, [], ◌++◌}
use Prim.Native.Nat.{ℕ}
use borrow.Author.Tests.{eq-eqb, eqb-true}
use Rattle.queue_entries.specs.declared.Entry.{Entry}
use Rattle.bounded_words.specs.declared.Stamp.{Stamp}
use Rattle.bounded_words.specs.declared.Fixed.{Fixed}
use Rattle.bounded_words.specs.declared.Width.{Width}
use Rattle.bounded_words.specs.Words.{stamp, marked_of, unmarked_of, minus, next_of, with_mark, same, one_past, lap_behind, lap_behind_one_past}
use Rattle.bounded_words.proofs.Marks.{Ruled}
use Rattle.bounded_words.proofs.Fits.{Plain, next_plain, mark_marked}
use Rattle.bounded_places.specs.declared.Slot.{Slot}
use Rattle.bounded_places.specs.declared.Ends.{Ends}
use Rattle.bounded_places.specs.declared.Kind.TheVariants.{Push}
use Rattle.bounded_places.specs.declared.Answer.TheVariants.{Full, Empty, PopClosed, Len, Yes, No}
use Rattle.bounded_places.specs.declared.Exchange.{Exchange}
use Rattle.bounded_places.specs.declared.Place.{Place}
use Rattle.bounded_places.specs.declared.Place.TheVariants.{Idle, P1, P2, P3, P4, P5, P6, F6, F7, F8, F9, O1, O2, O3, O4, O5, O6, Len1, Len2, Len3, Empty1, Empty2, Full1, Full2, Close1, IsClosed1}
use Rattle.bounded_places.specs.Places.{view_of, fits_of}
use Rattle.bounded_acts.specs.declared.Acted.{Acted}
use Rattle.bounded_acts.specs.Acts.{goes, losing, end_p3, end_f6, end_o3, tail_to, head_to, forced_tail, full_at, count_of, act_of}
use Rattle.bounded_machine.specs.Machine.{fixed_on, ends_on}
use Rattle.bounded_machine.specs.declared.Machine.{Machine}
use Rattle.bounded_machine.specs.declared.Event.{Event}
use Rattle.bounded_machine.specs.Turn.{begun, acted_by, stored}
use Rattle.bounded_machine.specs.Run.{run_at}
use Rattle.bounded_machine.proofs.Kept.{either, exchanged, UnbrokenWith, ruled_in, fits_plain, word_fits_in, begun_unbroken, acted_unbroken}
use Rattle.bounded_proof_demand2.proofs.Turns.{Turned, began, did, stood, turned_fixed}
use Rattle.bounded_proof_demand2.proofs.Reached.{along_any}

same_is : (a b : Stamp) → same a b ≡ true → a ≡ b
unfolding same
same_is a b h = ap stamp (eqb-true a.0 b.0 h)

module _ (bits : Width) (f : Fixed) (r : Ruled f) (two : f.edition ≡ 2) (e : Ends) (s : Slot) (marked : marked_of f e.tail ≡ true) where
  abbrev Marked : Acted → Type 0
  Marked a = marked_of f a.ends.tail ≡ true

  -- F7's word, from a marked tail
  forced : (t : Stamp) → Plain f t → marked_of f (forced_tail bits f e.tail t) ≡ true
  unfolding forced_tail
  forced t p = rw (eq-eqb f.edition 2 two, marked) (mark_marked f r bits (next_of bits f t) (next_plain f r bits t p))

  still_marked : (p : Place) (lose : Bool) → fits_of f (view_of p).held ≡ true → Marked (act_of bits f e s p lose)
  unfolding goes losing tail_to head_to
  still_marked (Idle a) lose q = marked
  still_marked (P1 k x) lose q = marked
  still_marked (P2 k t x) lose q =
      either Marked (same s.stamp t) (goes e s (P3 k t x)) _ (λ b. marked)
      (λ b. either Marked (lap_behind_one_past bits f s.stamp t) (goes e s (full_at k t x)) (goes e s (P1 k x)) (λ d. marked) (λ d. marked))
  still_marked (P3 k t x) lose q =
      exchanged (λ (y : Exchange). Marked (end_p3 bits f e s k t x y)) e.tail t lose (λ b d. marked)
      (λ b d. absurd (true≢false (sym marked ∙ ap (marked_of f) (same_is e.tail t b) ∙ (fits_plain f t q).unmarked)))
      (λ b. marked)
  still_marked (P4 t x) lose q = marked
  still_marked (P5 t) lose q = marked
  still_marked (P6 t x) lose q = either Marked (lap_behind bits f e.head t) (goes e s (Idle (Full x))) (goes e s (P1 Push x)) (λ b. marked) (λ b. marked)
  still_marked (F6 t x) lose q =
      exchanged (λ (y : Exchange). Marked (end_f6 bits f e s t x y)) e.head (minus bits t f.lap) lose (λ b d. marked) (λ b d. marked) (λ b. marked)
  still_marked (F7 t x) lose q = forced t (fits_plain f t q)
  still_marked (F8 t x) lose q = marked
  still_marked (F9 t old) lose q = marked
  still_marked O1 lose q = marked
  still_marked (O2 h) lose q =
      either Marked (one_past bits s.stamp h) (goes e s (O3 h)) _ (λ b. marked)
      (λ b. either Marked (same s.stamp h) (goes e s (O6 h)) (goes e s O1) (λ d. marked) (λ d. marked))
  still_marked (O3 h) lose q = exchanged (λ (y : Exchange). Marked (end_o3 bits f e s h y)) e.head h lose (λ b d. marked) (λ b d. marked) (λ b. marked)
  still_marked (O4 h) lose q = marked
  still_marked (O5 h v) lose q = marked
  still_marked (O6 h) lose q =
      either Marked (same (unmarked_of f e.tail) h) _ (goes e s O1)
      (λ b. either Marked (marked_of f e.tail) (goes e s (Idle PopClosed)) (goes e s (Idle Empty)) (λ d. marked) (λ d. marked)) (λ b. marked)
  still_marked Len1 lose q = marked
  still_marked (Len2 t) lose q = marked
  still_marked (Len3 t h) lose q = either Marked (same e.tail t) (goes e s (Idle (Len (count_of f t h)))) (goes e s Len1) (λ b. marked) (λ b. marked)
  still_marked Empty1 lose q = marked
  still_marked (Empty2 h) lose q = marked
  still_marked Full1 lose q = marked
  still_marked (Full2 t) lose q = marked
  still_marked Close1 lose q =
      either Marked (marked_of f e.tail) (goes e s (Idle No)) (goes (tail_to e (with_mark bits f e.tail)) s (Idle Yes)) (λ b. marked)
      (λ b. absurd (true≢false (sym marked ∙ b)))
  still_marked IsClosed1 lose q = marked

-- What is kept along a history.
pub record Shut (m : Machine) (h : List Event) : Type 0 where
  pub records : ℕ
  pub unbroken : UnbrokenWith records m
  pub second : m.ring.edition ≡ 2
  pub marked : marked_of (fixed_on m.ring) m.ring.tail ≡ true

shut_kept : (bits : Width) (m : Machine) (h : List Event) (en : Entry) (next : Machine) (acts : List Event) → Shut m h → Turned bits m en next acts → Shut next (h ++ acts)
unfolding begun acted_by stored
shut_kept bits m h en next acts o (began w call l idle) = record { records = o.records; unbroken = begun_unbroken m o.unbroken w l call; second = o.second; marked = o.marked }
shut_kept bits m h en next acts o (did w lose l busy early) =
    record {
      records = o.records;
      unbroken = acted_unbroken m o.unbroken w l bits lose busy;
      second = o.second;
      marked =
          still_marked bits (fixed_on m.ring) (ruled_in m o.unbroken) o.second (ends_on m.ring) _ o.marked (stood m w) lose (word_fits_in m o.unbroken w l busy);
    }

pub stays_shut : (bits : Width) (m : Machine) (h : List Event) → Shut m h → (s : List ℕ) → marked_of (fixed_on m.ring) (run_at bits m 0 s).machine.ring.tail ≡ true
stays_shut bits m h o s =
    ap (λ (f : Fixed). marked_of f (run_at bits m 0 s).machine.ring.tail) (sym fixed_same) ∙ (along_any bits Shut (shut_kept bits) s m h 0 o).marked
  where
    fixed_same : fixed_on (run_at bits m 0 s).machine.ring ≡ fixed_on m.ring
    fixed_same =
        along_any bits (λ (z : Machine) (k : List Event). fixed_on z.ring ≡ fixed_on m.ring) (λ z k en next acts e t. turned_fixed bits z en next acts t ∙ e) s m [] 0 refl
