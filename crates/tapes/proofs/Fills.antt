-- A tape field by field: what is written, and what is left of it.
use Prim.Native.Nat.{ℕ, ◌+◌, ◌*◌, ◌/◌, ◌-◌, ◌<◌, ◌≤◌}
use mathlib.Core.Path.{◌≡◌, refl, sym, ap, ap₂, ◌∙◌}
use mathlib.Core.Bool.{true}
use mathlib.Core.List.{List, [], ◌∷◌, ◌++◌, append_assoc, append-nil}
use native.Mathlib.Omega.{arith}
use lib.ListN.{get_or, length, take, drop, length-append, length-drop, take-append-drop}
use lib.Seq.{drop-append-add, take-add, drop-drop, take_at, drop_at, length-take-le}
use borrow.Rule.Slice.PartMut.{put_mid, mid_of}
use Rattle.tapes_numbers.specs.declared.Variant.{Variant}
use Rattle.tapes_fields.specs.Fields.{head_of, entry_field_of, end_of, size_of, over}
use Rattle.tapes_fields.proofs.Writing.{length_head, length_entry, length_end, length_over, field_more}
use Rattle.tapes_fields.proofs.Reading.{carried_means}
use Rattle.tapes.specs.declared.Load.TheVariants.{Bytes}
use Rattle.tapes.specs.Written.{entries_of, tape_of, load_from}
use Rattle.tapes.proofs.Pairs.{pair_at, pairs_over}
use Rattle.tapes.proofs.Loads.{load_carried, load_more}

-- any list at a place where a part of it begins
module _ (t f rest : List ℕ) (at : ℕ) (in_it : at ≤ length t) (there : drop at t ≡ f ++ rest) where
  pub past_length : length t ≡ at + length f + length rest
  past_length = omega (arith, length-drop at t, ap length there, length-append f rest)

  pub past_take : (k : ℕ) → k ≡ length f → take (at + k) t ≡ take at t ++ f
  past_take k e = take-add at k t ∙ ap (λ (l : List ℕ). take at t ++ l) (ap (take k) there ∙ take_at f rest k (sym e))

  pub past_drop : (k : ℕ) → k ≡ length f → drop (at + k) t ≡ rest
  past_drop k e = sym (drop-drop k at t) ∙ ap (drop k) there ∙ drop_at f rest k (sym e)

  -- the part written after what is written
  pub past_written : (b x z : List ℕ) → length t ≤ length b → x ≡ over (take at t) b → z ≡ over f (mid_of at (length x - at) x)
      → put_mid at (length x - at) x z ≡ over (take at t ++ f) b
  past_written b x z fits is e =
      let long : at ≡ length (take at t) = sym (length-take-le at t in_it) in
      field_more (take at t) b x f at z is long (omega (arith, past_length)) e

pub over_over : (w h b : List ℕ) → length h ≤ length w → over w (over h b) ≡ over w b
unfolding over
over_over w h b l =
    let k : ℕ = length w - length h in
    let e : length w ≡ length h + k = omega arith in
    ap (λ (r : List ℕ). w ++ r) (ap (λ (n : ℕ). drop n (h ++ drop (length h) b)) e ∙ drop-append-add h (drop (length h) b) k ∙ drop-drop k (length h) b ∙ ap (λ (n : ℕ). drop n b) (sym e))

entries_none : (v : Variant) (l : List ℕ) → length l < 2 → entries_of v l ≡ []
unfolding entries_of
entries_none v [] h = refl
entries_none v (a ∷ []) h = refl
entries_none v (a ∷ b ∷ l) h = absurd (omega arith)

module _ (v : Variant) (capacity workers : ℕ) (words : List ℕ) where
  pub head_taken : take 7 (tape_of v capacity workers words) ≡ head_of v capacity workers
  unfolding tape_of
  head_taken = ap (take 7) (append_assoc (head_of v capacity workers) (entries_of v words) (end_of v))
      ∙ take_at (head_of v capacity workers) (entries_of v words ++ end_of v) 7 (length_head v capacity workers)

  pub head_past : drop 7 (tape_of v capacity workers words) ≡ entries_of v words ++ end_of v
  unfolding tape_of
  head_past = ap (drop 7) (append_assoc (head_of v capacity workers) (entries_of v words) (end_of v))
      ∙ drop_at (head_of v capacity workers) (entries_of v words ++ end_of v) 7 (length_head v capacity workers)

  pub length_tape : length (tape_of v capacity workers words) ≡ 10 + length (entries_of v words)
  unfolding tape_of
  length_tape =
      omega (
        arith,
        length-append (head_of v capacity workers ++ entries_of v words) (end_of v),
        length-append (head_of v capacity workers) (entries_of v words),
        length_head v capacity workers,
        length_end v,
      )

  -- with its first field written
  pub over_itself : (o b : List ℕ) → b ≡ over (head_of v capacity workers) o → b ≡ over (take 7 (tape_of v capacity workers words)) b
  over_itself o b e =
      e ∙ sym (over_over (head_of v capacity workers) (head_of v capacity workers) o (omega arith))
      ∙ ap₂ over (sym head_taken) (sym e)

-- an entry is next, or the end
module _ (v : Variant) (words t : List ℕ) (i at : ℕ) (there : drop at t ≡ entries_of v (drop (2 * i) words) ++ end_of v) where
  pub entry_next : i < length words / 2
      → drop at t ≡ entry_field_of v (get_or words (2 * i) 0) (get_or words (2 * i + 1) 0) ++ (entries_of v (drop (2 * (i + 1)) words) ++ end_of v)
  unfolding entries_of
  entry_next h =
      there ∙ ap (λ (l : List ℕ). entries_of v l ++ end_of v) (pair_at words i h)
      ∙ append_assoc (entry_field_of v (get_or words (2 * i) 0) (get_or words (2 * i + 1) 0)) (entries_of v (drop (2 * (i + 1)) words)) (end_of v)

  pub end_next : length words / 2 ≤ i → drop at t ≡ end_of v ++ []
  end_next h = there ∙ ap (λ (l : List ℕ). l ++ end_of v) (entries_none v (drop (2 * i) words) (pairs_over words i h)) ∙ sym (append-nil (end_of v))

-- ---- the loop of `fill`
module _ (v : Variant) (capacity workers : ℕ) (words b x : List ℕ) (i at n : ℕ)
    (in_it : at ≤ length (tape_of v capacity workers words)) (fits : length (tape_of v capacity workers words) ≤ length b)
    (is : x ≡ over (take at (tape_of v capacity workers words)) b)
    (there : drop at (tape_of v capacity workers words) ≡ entries_of v (drop (2 * i) words) ++ end_of v) where
  written_long : length x ≡ length b
  written_long = ap length is ∙ length_over _ b (omega (arith, length-take-le at (tape_of v capacity workers words) in_it))

  part_long : length (mid_of at (length x - at) x) ≡ length b - at
  part_long = length-take-le (length x - at) (drop at x) (omega (arith, length-drop at x)) ∙ (omega (arith, written_long))

  module _ (h : i < length words / 2) (load : load_from i (at + 3) (drop (2 * i) words) ≡ Bytes n) where
    first : ℕ
    first = get_or words (2 * i) 0

    item : ℕ
    item = get_or words (2 * i + 1) 0

    left : List ℕ
    left = entries_of v (drop (2 * (i + 1)) words) ++ end_of v

    tape_long : length (tape_of v capacity workers words) ≡ at + length (entry_field_of v first item) + length left
    unfolding first item left
    tape_long = past_length (tape_of v capacity workers words) (entry_field_of v first item) left at in_it (entry_next v words _ i at there h)

    pub entry_byte : get_or words (2 * i) 0 < 256
    entry_byte = (carried_means _ _ (load_carried words i (at + 3) n load h)).byte

    pub entry_room : size_of (get_or words (2 * i) 0) ≤ length (mid_of at (length x - at) x)
    unfolding first item left
    entry_room = omega (arith, part_long, tape_long, length_entry v first item)

    module _ (k : ℕ) (k-is : k ≡ size_of (get_or words (2 * i) 0)) where
      pub entry_in : at + k ≤ length (tape_of v capacity workers words)
      unfolding first item left
      entry_in = omega (arith, tape_long, length_entry v first item)

      pub entry_left : drop (at + k) (tape_of v capacity workers words) ≡ entries_of v (drop (2 * (i + 1)) words) ++ end_of v
      unfolding first item left
      entry_left = past_drop (tape_of v capacity workers words) (entry_field_of v first item) left at in_it (entry_next v words _ i at there h) k (k-is ∙ sym (length_entry v first item))

      pub entry_load : load_from (i + 1) (at + k + 3) (drop (2 * (i + 1)) words) ≡ Bytes n
      entry_load =
          let e : at + 3 + k ≡ at + k + 3 = omega arith in
          ap (λ (j : ℕ). load_from (i + 1) j (drop (2 * (i + 1)) words)) (sym e)
          ∙ load_more words i (at + 3) (Bytes n) load h true (sym (load_carried words i (at + 3) n load h)) k refl k-is

      pub entry_written : (z : List ℕ) → z ≡ over (entry_field_of v (get_or words (2 * i) 0) (get_or words (2 * i + 1) 0)) (mid_of at (length x - at) x)
          → put_mid at (length x - at) x z ≡ over (take (at + k) (tape_of v capacity workers words)) b
      unfolding first item left
      entry_written z e =
          past_written (tape_of v capacity workers words) (entry_field_of v first item) left at in_it (entry_next v words _ i at there h) b x z fits is e
          ∙ ap (λ (l : List ℕ). over l b) (sym (past_take (tape_of v capacity workers words) (entry_field_of v first item) left at in_it
          (entry_next v words _ i at there h) k (k-is ∙ sym (length_entry v first item))))

  module _ (h : length words / 2 ≤ i) where
    pub end_room : 3 ≤ length (mid_of at (length x - at) x)
    end_room = omega (arith, part_long, past_length (tape_of v capacity workers words) (end_of v) [] at in_it (end_next v words _ i at there h), length_end v)

    pub end_written : (o z : List ℕ) → b ≡ over (head_of v capacity workers) o → z ≡ over (end_of v) (mid_of at (length x - at) x)
        → put_mid at (length x - at) x z ≡ over (tape_of v capacity workers words) o
    end_written o z first_is e =
        past_written (tape_of v capacity workers words) (end_of v) [] at in_it (end_next v words _ i at there h) b x z fits is e
        ∙ ap (λ (l : List ℕ). over l b) (ap (λ (l : List ℕ). take at (tape_of v capacity workers words) ++ l)
        (sym (end_next v words _ i at there h ∙ append-nil (end_of v))) ∙ take-append-drop at (tape_of v capacity workers words))
        ∙ ap (over (tape_of v capacity workers words)) first_is
        ∙ over_over (tape_of v capacity workers words) (head_of v capacity workers) o (omega (arith, length_head v capacity workers, length_tape v capacity workers words))
