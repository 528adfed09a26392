-- What a recorder's functions answer, from the tests that were made and from what was written.
use Prim.Native.Nat.{ℕ, ◌+◌, ◌*◌, ◌-◌, ◌/◌, ◌%◌, ◌<◌, ◌≤◌}
use mathlib.Core.Path.{◌≡◌, refl, sym, ap, ap₂, ◌∙◌}
use mathlib.Core.Bool.{Bool, true, false, cond}
use mathlib.Core.List.{List, [], ◌∷◌, ◌++◌, append-nil}
use native.Mathlib.Omega.{arith}
use lib.Dec.{eqb, leb, ltb}
use lib.ListN.{length, get_or, take, drop, set, length-drop, drop_of_length-le}
use lib.Seq.{take_all, length-take-le}
use borrow.Rule.Slice.PartMut.{put_mid, mid_of}
use borrow.Author.Tests.{ltb-false, eqb-true}
use Rattle.queue_entries.proofs.Pick.{yes, no, below, above, equal, other}
use Rattle.tapes_numbers.specs.declared.Variant.{Variant}
use Rattle.tapes_numbers.specs.declared.Variant.TheVariants.{BigEndian, LittleEndian}
use Rattle.tapes_numbers.specs.Numbers.{tag_of}
use Rattle.tapes_fields.specs.Fields.{entry_field_of, end_of, size_of, over}
use Rattle.tapes_fields.specs.Judged.{carried}
use Rattle.tapes_fields.proofs.Reading.{carried_means}
use Rattle.tapes_host.specs.declared.Reply.{Reply}
use Rattle.tapes_host.specs.declared.Recorder.{Recorder}
use Rattle.tapes_host.specs.declared.Recorder.TheVariants.{Broken, At}
use Rattle.tapes_host.specs.Host.{reply, name_of, about_of, written, write_tape}
use Rattle.tapes_host.specs.Recorder.{recorded, recorder_of, entries_can, stands, stands_by, recorder_by, recorder_in, begun_by, begin_tape, put_at, append_at}
use Rattle.tapes_host.specs.Recorder.{append_by, append_tape, end_at, end_by, end_tape}

pub three_set : (h : List ℕ) (a b c : ℕ) → length h ≡ 3 → set (set (set h 0 a) 1 b) 2 c ≡ a ∷ b ∷ c ∷ []
three_set [] a b c n = absurd (omega (arith, n))
three_set (x ∷ []) a b c n = absurd (omega (arith, n))
three_set (x ∷ y ∷ []) a b c n = absurd (omega (arith, n))
three_set (x ∷ y ∷ z ∷ []) a b c n = refl
three_set (x ∷ y ∷ z ∷ w ∷ rest) a b c n = absurd (omega (arith, n))

pub about_put : (v : Variant) (capacity workers tag name : ℕ) (about : List ℕ) → tag ≡ tag_of v 1 → name ≡ tag → about ≡ name ∷ capacity ∷ workers ∷ [] → about ≡ about_of v capacity workers
about_put v capacity workers tag name about e k put = put ∙ ap (λ (x : ℕ). x ∷ capacity ∷ workers ∷ []) (k ∙ e)

-- ---- which words are a recorder's
module _ (bytes count : ℕ) where
  pub too_few_bytes : bytes / 4 < count → false ≡ entries_can bytes count
  unfolding entries_can
  too_few_bytes h = below bytes (4 * count) _ _ _ (omega arith) refl

  module _ (enough : count ≤ bytes / 4) where
    pub no_items : ((bytes - 4 * count) % 8 ≡ 0 → ⊥) → false ≡ entries_can bytes count
    unfolding entries_can
    no_items o = above bytes (4 * count) _ _ _ (omega arith) (other _ _ _ _ _ o refl)

    pub items_count : (bytes - 4 * count) % 8 ≡ 0 → leb ((bytes - 4 * count) / 8) count ≡ entries_can bytes count
    unfolding entries_can
    items_count e = above bytes (4 * count) _ _ _ (omega arith) (equal _ _ _ _ _ e refl)

module _ (room long count : ℕ) where
  pub no_head : long < 7 → false ≡ stands room long count
  unfolding stands
  no_head h = below _ _ _ _ _ h refl

  module _ (head : 7 ≤ long) where
    pub no_end : room < 3 → false ≡ stands room long count
    unfolding stands
    no_end h = above _ _ _ _ _ head (below room (long + 3) _ _ _ (omega arith) refl)

    module _ (end : 3 ≤ room) where
      pub past_room : room - 3 < long → false ≡ stands room long count
      unfolding stands
      past_room h = above _ _ _ _ _ head (below room (long + 3) _ _ _ (omega arith) refl)

      pub in_room : long ≤ room - 3 → (r : Bool) → r ≡ entries_can (long - 7) count → r ≡ stands room long count
      unfolding stands
      in_room h r e = above _ _ _ _ _ head (above room (long + 3) _ _ _ (omega arith) e)

module _ (name long count : ℕ) where
  big_stands : name ≡ 1 → At BigEndian long count ≡ stands_by name long count
  unfolding stands_by
  big_stands n = equal _ _ _ _ _ n refl

  little_stands : (name ≡ 1 → ⊥) → name ≡ 129 → At LittleEndian long count ≡ stands_by name long count
  unfolding stands_by
  little_stands o n = other _ _ _ _ _ o (equal _ _ _ _ _ n refl)

  pub one_stands : (v : Variant) → name ≡ name_of v → At v long count ≡ stands_by name long count
  one_stands BigEndian n = big_stands n
  one_stands LittleEndian n = little_stands (λ o. omega arith) n

  pub none_stands : (name ≡ 1 → ⊥) → (name ≡ 129 → ⊥) → Broken ≡ stands_by name long count
  unfolding stands_by
  none_stands o n = other _ _ _ _ _ o (other _ _ _ _ _ n refl)

module _ (room : ℕ) (words : List ℕ) where
  pub not_three_words : (length words ≡ 3 → ⊥) → Broken ≡ recorder_in room words
  unfolding recorder_in
  not_three_words o = other _ _ _ _ _ o refl

  module _ (three : length words ≡ 3) (t : Bool) (test : t ≡ stands room (get_or words 1 0) (get_or words 2 0)) where
    pub words_stand : t ≡ true → (x : Recorder) → x ≡ stands_by (get_or words 0 0) (get_or words 1 0) (get_or words 2 0) → x ≡ recorder_in room words
    unfolding recorder_in recorder_by
    words_stand q x e = equal _ _ _ _ _ three (yes _ t _ _ _ test q e)

    pub words_fall : t ≡ false → Broken ≡ recorder_in room words
    unfolding recorder_in recorder_by
    words_fall q = equal _ _ _ _ _ three (no _ t _ _ _ test q refl)

-- What is known of words that are a recorder's.
pub record Standing (room : ℕ) (words : List ℕ) (v : Variant) (long count : ℕ) : Type 0 where
  pub three : length words ≡ 3
  pub fits : long + 3 ≤ room
  pub few : 4 * count ≤ long

broken_at : (v : Variant) (long count : ℕ) → Broken ≡ At v long count → ⊥
broken_at v long count q = let z : ◌≡◌ {A = ℕ} 0 1 = cc in omega arith

at_long : (v u : Variant) (long count far much : ℕ) → At u far much ≡ At v long count → (long ≡ far) × (count ≡ much)
at_long v u long count far much q = (cc, cc)

by_name : (name far much : ℕ) (v : Variant) (long count : ℕ) → stands_by name far much ≡ At v long count → (long ≡ far) × (count ≡ much)
unfolding stands_by
by_name name far much v long count h = go (eqb name 1) (eqb name 129) h
  where
    go : (a b : Bool) → cond a (At BigEndian far much) (cond b (At LittleEndian far much) Broken) ≡ At v long count → (long ≡ far) × (count ≡ much)
    go true b q = at_long v BigEndian long count far much q
    go false true q = at_long v LittleEndian long count far much q
    go false false q = absurd (broken_at v long count q)

can_means : (bytes count : ℕ) → entries_can bytes count ≡ true → 4 * count ≤ bytes
unfolding entries_can
can_means bytes count h = go (ltb bytes (4 * count)) refl h
  where
    go : (b : Bool) → ltb bytes (4 * count) ≡ b
        → cond b false (cond (eqb ((bytes - 4 * count) % 8) 0) (leb ((bytes - 4 * count) / 8) count) false) ≡ true → 4 * count ≤ bytes
    go true e q = let z : ◌≡◌ {A = ℕ} 0 1 = cc in absurd (omega arith)
    go false e q = ltb-false bytes (4 * count) e

stands_means : (room long count : ℕ) → stands room long count ≡ true → (long + 3 ≤ room) × (4 * count ≤ long)
unfolding stands
stands_means room long count h = go (ltb long 7) (ltb room (long + 3)) refl h
  where
    go : (a b : Bool) → ltb room (long + 3) ≡ b → cond a false (cond b false (entries_can (long - 7) count)) ≡ true → (long + 3 ≤ room) × (4 * count ≤ long)
    go true b e q = let z : ◌≡◌ {A = ℕ} 0 1 = cc in absurd (omega arith)
    go false true e q = let z : ◌≡◌ {A = ℕ} 0 1 = cc in absurd (omega arith)
    go false false e q = let few : 4 * count ≤ long - 7 = can_means (long - 7) count q in (ltb-false room (long + 3) e, omega arith)

pub standing : (room : ℕ) (words : List ℕ) (x : Recorder) (v : Variant) (long count : ℕ) → x ≡ recorder_in room words → x ≡ At v long count → Standing room words v long count
unfolding recorder_in recorder_by
standing room words x v long count is e = go (eqb (length words) 3) (stands room (get_or words 1 0) (get_or words 2 0)) refl refl (sym is ∙ e)
  where
    go : (a b : Bool) → eqb (length words) 3 ≡ a → stands room (get_or words 1 0) (get_or words 2 0) ≡ b
        → cond a (cond b (stands_by (get_or words 0 0) (get_or words 1 0) (get_or words 2 0)) Broken) Broken ≡ At v long count → Standing room words v long count
    go false b p q h = absurd (broken_at v long count h)
    go true false p q h = absurd (broken_at v long count h)
    go true true p q h =
        let same = by_name (get_or words 0 0) (get_or words 1 0) (get_or words 2 0) v long count h in
        let known = stands_means room (get_or words 1 0) (get_or words 2 0) q in
        record { three = eqb-true (length words) 3 p; fits = omega (arith, same.0, known.0); few = omega (arith, same.0, same.1, known.1) }

-- ---- a field at a place of the buffer
pub put_at_lem : (x f z : List ℕ) (at : ℕ) → z ≡ over f (mid_of at (length x - at) x) → put_mid at (length x - at) x z ≡ put_at at f x
unfolding put_at
put_at_lem x f z at e =
    let rest : List ℕ = drop at x in
    let long : length rest ≡ length x - at = length-drop at x in
    let all : take (length x - at) rest ≡ rest = take_all (length x - at) rest (omega arith) in
    let none : drop (length x - at) rest ≡ [] = drop_of_length-le rest {i = length x - at} (omega arith) in
    ap (λ (r : List ℕ). take at x ++ (z ++ r)) none ∙ ap (λ (l : List ℕ). take at x ++ l) (append-nil z ∙ e ∙ ap (over f) all)

part_long : (at : ℕ) (x : List ℕ) → length (mid_of at (length x - at) x) ≡ length x - at
part_long at x = length-take-le (length x - at) (drop at x) (omega (arith, length-drop at x))

pub end_has_room : (tape : List ℕ) (long : ℕ) → long + 3 ≤ length tape → 3 ≤ length (mid_of long (length tape - long) tape)
end_has_room tape long h = omega (arith, part_long long tape)

pub ended_at : (v : Variant) (tape z : List ℕ) (long : ℕ) → z ≡ over (end_of v) (mid_of long (length tape - long) tape)
    → written (reply 0 (long + 3)) (put_mid long (length tape - long) tape z) ≡ end_at v long tape
unfolding end_at
ended_at v tape z long e = ap (written (reply 0 (long + 3))) (put_at_lem tape (end_of v) z long e)

-- ---- one entry more
module _ (v : Variant) (long count : ℕ) (recorder : List ℕ) (first item : ℕ) (tape : List ℕ) (b : Bool) (test : b ≡ carried first item) where
  pub not_carried : b ≡ false → recorded (reply 17 count) recorder tape ≡ append_at v long count recorder first item tape
  unfolding append_at
  not_carried q = no _ b _ _ _ test q refl

  pub entry_byte : b ≡ true → first < 256
  entry_byte q = (carried_means first item (sym test ∙ q)).byte

  module _ (q : b ≡ true) (size : ℕ) (size_is : size ≡ size_of first) where
    pub no_room_left : length tape < long + size + 3 → recorded (reply 16 (long + size + 3)) recorder tape ≡ append_at v long count recorder first item tape
    unfolding append_at
    no_room_left h =
        ap (λ (k : ℕ). recorded (reply 16 (long + k + 3)) recorder tape) size_is
        ∙ yes _ b _ _ _ test q (below (length tape) (long + size_of first + 3) _ _ _ (omega (arith, h, size_is)) refl)

    module _ (fits : long + size + 3 ≤ length tape) where
      pub entry_has_room : size_of first ≤ length (mid_of long (length tape - long) tape)
      entry_has_room = omega (arith, part_long long tape, size_is)

      pub one_more : (name tag : ℕ) (recorder' z : List ℕ) → name ≡ tag → tag ≡ tag_of v 1 → recorder' ≡ name ∷ (long + size) ∷ (count + 1) ∷ []
          → z ≡ over (entry_field_of v first item) (mid_of long (length tape - long) tape)
          → recorded (reply 0 (long + size + 3)) recorder' (put_mid long (length tape - long) tape z) ≡ append_at v long count recorder first item tape
      unfolding append_at
      one_more name tag recorder' z n t r e =
          let words : recorder' ≡ recorder_of (name_of v) (long + size_of first) (count + 1) =
          r ∙ ap₂ (λ (k m : ℕ). k ∷ (long + m) ∷ (count + 1) ∷ []) (n ∙ t) size_is in
          (λ i. recorded (reply 0 (long + size_is i + 3)) (words i) (put_at_lem tape (entry_field_of v first item) z long e i))
          ∙ yes _ b _ _ _ test q (above (length tape) (long + size_of first + 3) _ _ _ (omega (arith, fits, size_is)) refl)

-- ---- the functions
module _ (recorder tape : List ℕ) (x : Recorder) (is : x ≡ recorder_in (length tape) recorder) where
  module _ (v : Variant) (long count : ℕ) (e : x ≡ At v long count) where
    pub three_words : length recorder ≡ 3
    three_words = (standing (length tape) recorder x v long count is e).three

    pub end_fits : long + 3 ≤ length tape
    end_fits = (standing (length tape) recorder x v long count is e).fits

    pub few_entries : 4 * count ≤ long
    few_entries = (standing (length tape) recorder x v long count is e).few

  pub append_broken : (first item : ℕ) → x ≡ Broken → recorded (reply 6 0) recorder tape ≡ append_tape recorder first item tape
  unfolding append_tape append_by
  append_broken first item e = ap (λ (s : Recorder). append_by s recorder first item tape) (sym e ∙ is)

  pub append_told : (first item : ℕ) (v : Variant) (long count : ℕ) (r : Reply) (recorder' tape' : List ℕ) → x ≡ At v long count
      → recorded r recorder' tape' ≡ append_at v long count recorder first item tape → recorded r recorder' tape' ≡ append_tape recorder first item tape
  unfolding append_tape append_by
  append_told first item v long count r recorder' tape' e told = told ∙ ap (λ (s : Recorder). append_by s recorder first item tape) (sym e ∙ is)

  pub end_broken : x ≡ Broken → written (reply 6 0) tape ≡ end_tape recorder tape
  unfolding end_tape end_by
  end_broken e = ap (λ (s : Recorder). end_by s tape) (sym e ∙ is)

  pub end_told : (v : Variant) (long count : ℕ) (r : Reply) (tape' : List ℕ) → x ≡ At v long count → written r tape' ≡ end_at v long tape → written r tape' ≡ end_tape recorder tape
  unfolding end_tape end_by
  end_told v long count r tape' e told = told ∙ ap (λ (s : Recorder). end_by s tape) (sym e ∙ is)

module _ (name capacity workers : ℕ) (recorder tape : List ℕ) where
  pub begin_not_three : (length recorder ≡ 3 → ⊥) → recorded (reply 6 0) recorder tape ≡ begin_tape name capacity workers recorder tape
  unfolding begin_tape
  begin_not_three o = other _ _ _ _ _ o refl

  module _ (three : length recorder ≡ 3) (r : Reply) (z : List ℕ) (w : written r z ≡ write_tape name capacity workers [] tape) where
    pub begin_refused : (r.refusal ≡ 0 → ⊥) → recorded r recorder z ≡ begin_tape name capacity workers recorder tape
    unfolding begin_tape begun_by
    begin_refused o =
        equal _ _ _ _ _ three (ap (λ (l : List ℕ). recorded r l z) (other r.refusal 0 _ (recorder_of name 7 0) _ o refl) ∙ ap (begun_by name recorder) w)

    pub begun : (recorder' : List ℕ) → r.refusal ≡ 0 → recorder' ≡ name ∷ 7 ∷ 0 ∷ [] → recorded r recorder' z ≡ begin_tape name capacity workers recorder tape
    unfolding begin_tape begun_by
    begun recorder' e k =
        equal _ _ _ _ _ three (ap (λ (l : List ℕ). recorded r l z) (k ∙ equal r.refusal 0 _ _ recorder e refl) ∙ ap (begun_by name recorder) w)
