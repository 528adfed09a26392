-- The way that a field is read.
use Prim.Native.Nat.{ℕ, ◌+◌, ◌-◌, ◌/◌, ◌%◌, ◌<◌, ◌≤◌}
use mathlib.Core.Path.{◌≡◌, refl, sym, ap, ap₂, ◌∙◌}
use mathlib.Core.Bool.{Bool, true, false, cond, not, true≢false}
use mathlib.Core.List.{List}
use native.Mathlib.Omega.{arith}
use lib.Dec.{eqb, ltb}
use lib.ListN.{length, get_or, take, drop}
use Rattle.queue_entries.proofs.Pick.{equal, other, below, above, yes, no}
use borrow.Author.Tests.{ltb-true, ltb-false, eqb-true}
use Rattle.queue_entries.specs.declared.Order.{Order}
use Rattle.queue_entries.specs.declared.Order.TheVariants.{Begin, Act}
use Rattle.queue_entries.specs.declared.Entry.{Entry}
use Rattle.queue_entries.specs.declared.Entry.TheVariants.{Unreadable, Asks}
use Rattle.queue_entries.specs.Entries.{call_of, order_of, stray_of, entry_of}
use Rattle.tapes_numbers.specs.declared.Variant.{Variant}
use Rattle.tapes_numbers.specs.declared.Variant.TheVariants.{BigEndian, LittleEndian}
use Rattle.tapes_numbers.specs.Numbers.{tag_of, number_of}
use Rattle.tapes_fields.specs.Judged.{opens, allowed, entry_by, field_in, head_by, head_in, carried_by, carried}
use Rattle.tapes_fields.specs.declared.Field.TheVariants.{Fault, End, Entry as Holds}
use Rattle.tapes_fields.specs.Fields.{swapped, tag_for, item_long, size_of}
use Rattle.tapes_fields.specs.declared.Head.TheVariants as head

module _ (v : Variant) (tag long : ℕ) (s : List ℕ) (t : ℕ) (is : t ≡ tag_of v tag) where
  pub other_tag : (get_or s 0 0 ≡ t → ⊥) → false ≡ opens v tag long s
  unfolding opens
  other_tag h = other _ _ _ _ _ (λ e. h (e ∙ sym is)) refl

  pub same_tag : (n : ℕ) → get_or s 0 0 ≡ t → n ≡ number_of v (take 2 (drop 1 s)) → eqb n long ≡ opens v tag long s
  unfolding opens
  same_tag n h e = equal _ _ _ _ _ (h ∙ is) (ap (λ (k : ℕ). eqb k long) e)

module _ (first item : ℕ) (x : Entry) (is : x ≡ entry_of first item) where
  pub unread : x ≡ Unreadable → false ≡ carried first item
  unfolding carried carried_by
  unread h = sym (ap carried_by (sym is ∙ h))

  pub asks : (worker : ℕ) (o : Order) → x ≡ Asks worker o → ltb worker 16 ≡ carried first item
  unfolding carried carried_by
  asks worker o h = sym (ap carried_by (sym is ∙ h))

module _ (tag code : ℕ) where
  pub allowed_by : (t : ℕ) → code < 10 → t ≡ tag_for code → eqb tag t ≡ allowed tag code
  unfolding allowed
  allowed_by t h e = below _ _ _ _ _ h (ap (eqb tag) e)

  pub too_high : 10 ≤ code → false ≡ allowed tag code
  unfolding allowed
  too_high h = above _ _ _ _ _ h refl

module _ (v : Variant) (tag long : ℕ) (s : List ℕ) where
  pub cut_entry : length s < 3 + long → Fault 12 ≡ entry_by v tag long s
  unfolding entry_by
  cut_entry h = below _ _ _ _ _ h refl

  module _ (b : ℕ) (t : Bool) (whole : 3 + long ≤ length s) (is : b ≡ get_or s 3 0) (test : t ≡ allowed tag (b / 16)) where
    pub barred : t ≡ false → Fault 14 ≡ entry_by v tag long s
    unfolding entry_by
    barred h = above _ _ _ _ _ whole (no _ t _ _ _ (test ∙ ap (λ (k : ℕ). allowed tag (k / 16)) is) h refl)

    pub an_entry : (f n : ℕ) → t ≡ true → f ≡ swapped b → n ≡ number_of v (take (3 + long - 4) (drop 4 s)) → Holds f n ≡ entry_by v tag long s
    unfolding entry_by
    an_entry f n h e k =
        let less : 3 + long - 4 ≡ long - 1 = omega arith in
        above _ _ _ _ _ whole (yes _ t _ _ _ (test ∙ ap (λ (i : ℕ). allowed tag (i / 16)) is) h (ap₂ Holds (e ∙ ap swapped is) (k ∙ ap (λ (i : ℕ). number_of v (take i (drop 4 s))) less)))

-- what it takes to be carried
pub record Carried (first item : ℕ) : Type 0 where
  pub byte : first < 256
  pub code : first % 16 < 10
  pub plain : 1 < first % 16 → item ≡ 0

pub carried_means : (first item : ℕ) → carried first item ≡ true → Carried first item
unfolding carried carried_by entry_of order_of stray_of
carried_means first item = go (ltb 1 (first % 16)) refl (eqb item 0) refl (ltb (first % 16) 8) refl (ltb (first % 16) 10) refl
  where
    worker : ltb (first / 16) 16 ≡ true → first < 256
    worker h = omega (arith, ltb-true (first / 16) 16 h)

    go : (b : Bool) → ltb 1 (first % 16) ≡ b → (z : Bool) → eqb item 0 ≡ z → (c : Bool) → ltb (first % 16) 8 ≡ c → (d : Bool) → ltb (first % 16) 10 ≡ d
        → carried_by (cond (cond b (not z) false) Unreadable (cond c (Asks (first / 16) (Begin (call_of (first % 16) item))) (cond d (Asks (first / 16) (Act (eqb (first % 16) 9))) Unreadable))) ≡ true
        → Carried first item
    go true p true q true r d l h = record { byte = worker h; code = omega (arith, ltb-true (first % 16) 8 r); plain = λ k. eqb-true item 0 q }
    go true p true q false r true l h = record { byte = worker h; code = ltb-true (first % 16) 10 l; plain = λ k. eqb-true item 0 q }
    go true p true q false r false l h = absurd (true≢false (sym h))
    go true p false q c r d l h = absurd (true≢false (sym h))
    go false p z q true r d l h = record { byte = worker h; code = omega (arith, ltb-true (first % 16) 8 r); plain = λ k. absurd (omega (arith, ltb-false 1 (first % 16) p)) }
    go false p z q false r true l h = record { byte = worker h; code = ltb-true (first % 16) 10 l; plain = λ k. absurd (omega (arith, ltb-false 1 (first % 16) p)) }
    go false p z q false r false l h = absurd (true≢false (sym h))

-- ---- what it takes to be read
pub record EntryRead (v : Variant) (s : List ℕ) (first item code : ℕ) : Type 0 where
  pub is : code ≡ get_or s 3 0 / 16
  pub low : code < 10
  pub whole : 4 + item_long code ≤ length s
  pub opened : opens v (tag_for code) (1 + item_long code) s ≡ true
  pub first_is : first ≡ swapped (get_or s 3 0)
  pub item_is : item ≡ number_of v (take (item_long code) (drop 4 s))

allowed_means : (tag code : ℕ) → allowed tag code ≡ true → (code < 10) × (tag ≡ tag_for code)
unfolding allowed
allowed_means tag code = go (ltb code 10) refl
  where
    go : (b : Bool) → ltb code 10 ≡ b → cond b (eqb tag (tag_for code)) false ≡ true → (code < 10) × (tag ≡ tag_for code)
    go true e h = (ltb-true code 10 e, eqb-true tag (tag_for code) h)
    go false e h = absurd (true≢false (sym h))

-- the length that goes with a tag
long_for : (code tag long : ℕ) → tag ≡ tag_for code → (tag ≡ 2 → long ≡ 9) → (tag ≡ 3 → long ≡ 1) → long ≡ 1 + item_long code
unfolding tag_for item_long
long_for code tag long = go (ltb code 2)
  where
    go : (b : Bool) → tag ≡ cond b 2 3 → (tag ≡ 2 → long ≡ 9) → (tag ≡ 3 → long ≡ 1) → long ≡ 1 + cond b 8 0
    go true e p q = p e
    go false e p q = q e

module _ (v : Variant) (s : List ℕ) (first item : ℕ) where
  entry_by_lem : (tag long : ℕ) → (tag ≡ 2 → long ≡ 9) → (tag ≡ 3 → long ≡ 1) → opens v tag long s ≡ true → entry_by v tag long s ≡ Holds first item → EntryRead v s first item (get_or s 3 0 / 16)
  unfolding entry_by
  entry_by_lem tag long p q o = go (ltb (length s) (3 + long)) refl (allowed tag (get_or s 3 0 / 16)) refl
    where
      go : (b : Bool) → ltb (length s) (3 + long) ≡ b → (c : Bool) → allowed tag (get_or s 3 0 / 16) ≡ c
          → cond b (Fault 12) (cond c (Holds (swapped (get_or s 3 0)) (number_of v (take (long - 1) (drop 4 s)))) (Fault 14)) ≡ Holds first item
          → EntryRead v s first item (get_or s 3 0 / 16)
      go true e c k h = let z : ◌≡◌ {A = ℕ} 0 1 = cc in absurd (omega arith)
      go false e false k h = let z : ◌≡◌ {A = ℕ} 0 1 = cc in absurd (omega arith)
      go false e true k h =
          let a = allowed_means tag (get_or s 3 0 / 16) k in
          let long-is : long ≡ 1 + item_long (get_or s 3 0 / 16) = long_for (get_or s 3 0 / 16) tag long a.1 p q in
          let less : long - 1 ≡ item_long (get_or s 3 0 / 16) = omega arith in
          record {
            is = refl;
            low = a.0;
            whole = omega (arith, ltb-false (length s) (3 + long) e);
            opened = sym (ap₂ (λ (i j : ℕ). opens v i j s) a.1 long-is) ∙ o;
            first_is = cc;
            item_is = sym (numbers h) ∙ ap (λ (i : ℕ). number_of v (take i (drop 4 s))) less;
          }
        where
          numbers : Holds (swapped (get_or s 3 0)) (number_of v (take (long - 1) (drop 4 s))) ≡ Holds first item → number_of v (take (long - 1) (drop 4 s)) ≡ item
          numbers h = cc

  pub entry_read : field_in v s ≡ Holds first item → EntryRead v s first item (get_or s 3 0 / 16)
  unfolding field_in
  entry_read = go (ltb (length s) 3) (opens v 2 9 s) refl (opens v 3 1 s) refl (opens v 4 0 s)
    where
      go : (a b : Bool) → opens v 2 9 s ≡ b → (c : Bool) → opens v 3 1 s ≡ c → (d : Bool)
          → cond a (Fault 12) (cond b (entry_by v 2 9 s) (cond c (entry_by v 3 1 s) (cond d End (Fault 13)))) ≡ Holds first item
          → EntryRead v s first item (get_or s 3 0 / 16)
      go true b p c q d h = let z : ◌≡◌ {A = ℕ} 0 1 = cc in absurd (omega arith)
      go false true p c q d h = entry_by_lem 2 9 (λ e. refl) (λ e. omega arith) p h
      go false false p true q d h = entry_by_lem 3 1 (λ e. omega arith) (λ e. refl) q h
      go false false p false q true h = let z : ◌≡◌ {A = ℕ} 0 1 = cc in absurd (omega arith)
      go false false p false q false h = let z : ◌≡◌ {A = ℕ} 0 1 = cc in absurd (omega arith)

  pub entry_code : EntryRead v s first item (get_or s 3 0 / 16) → first % 16 ≡ get_or s 3 0 / 16
  unfolding swapped
  entry_code r = omega (arith, r.first_is, r.low)

  pub entry_whole : field_in v s ≡ Holds first item → size_of first ≤ length s
  unfolding size_of
  entry_whole h = let r = entry_read h in omega (arith, r.whole, ap item_long (entry_code r))

no_end : (v : Variant) (s : List ℕ) (tag long : ℕ) → entry_by v tag long s ≡ End → ⊥
unfolding entry_by
no_end v s tag long = go (ltb (length s) (3 + long)) (allowed tag (get_or s 3 0 / 16))
  where
    go : (b c : Bool) → cond b (Fault 12) (cond c (Holds (swapped (get_or s 3 0)) (number_of v (take (long - 1) (drop 4 s)))) (Fault 14)) ≡ End → ⊥
    go true c h = let z : ◌≡◌ {A = ℕ} 0 1 = cc in omega arith
    go false true h = let z : ◌≡◌ {A = ℕ} 0 1 = cc in omega arith
    go false false h = let z : ◌≡◌ {A = ℕ} 0 1 = cc in omega arith

pub end_read : (v : Variant) (s : List ℕ) → field_in v s ≡ End → (3 ≤ length s) × (opens v 4 0 s ≡ true)
unfolding field_in
end_read v s = go (ltb (length s) 3) refl (opens v 2 9 s) (opens v 3 1 s) (opens v 4 0 s) refl
  where
    go : (a : Bool) → ltb (length s) 3 ≡ a → (b c d : Bool) → opens v 4 0 s ≡ d
        → cond a (Fault 12) (cond b (entry_by v 2 9 s) (cond c (entry_by v 3 1 s) (cond d End (Fault 13)))) ≡ End
        → (3 ≤ length s) × (opens v 4 0 s ≡ true)
    go true p b c d q h = let z : ◌≡◌ {A = ℕ} 0 1 = cc in absurd (omega arith)
    go false p true c d q h = absurd (no_end v s 2 9 h)
    go false p false true d q h = absurd (no_end v s 3 1 h)
    go false p false false true q h = (ltb-false (length s) 3 p, q)
    go false p false false false q h = let z : ◌≡◌ {A = ℕ} 0 1 = cc in absurd (omega arith)

pub record HeadRead (v : Variant) (s : List ℕ) (capacity workers : ℕ) : Type 0 where
  pub whole : 7 ≤ length s
  pub opened : opens v 1 4 s ≡ true
  pub capacity_is : capacity ≡ number_of v (take 2 (drop 3 s))
  pub workers_is : workers ≡ number_of v (take 2 (drop 5 s))

module _ (s : List ℕ) (v : Variant) (capacity workers : ℕ) where
  head_by_lem : (u : Variant) → opens u 1 4 s ≡ true → head_by u s ≡ head.Makes v capacity workers → HeadRead v s capacity workers
  unfolding head_by
  head_by_lem u o = go (ltb (length s) 7) refl
    where
      go : (b : Bool) → ltb (length s) 7 ≡ b
          → cond b (head.Fault 12) (head.Makes u (number_of u (take 2 (drop 3 s))) (number_of u (take 2 (drop 5 s)))) ≡ head.Makes v capacity workers
          → HeadRead v s capacity workers
      go true p h = let z : ◌≡◌ {A = ℕ} 0 1 = cc in absurd (omega arith)
      go false p h =
          let same : u ≡ v = cc in
          let c : number_of u (take 2 (drop 3 s)) ≡ capacity = cc in
          let w : number_of u (take 2 (drop 5 s)) ≡ workers = cc in
          record {
            whole = ltb-false (length s) 7 p;
            opened = sym (ap (λ (x : Variant). opens x 1 4 s) same) ∙ o;
            capacity_is = sym c ∙ ap (λ (x : Variant). number_of x (take 2 (drop 3 s))) same;
            workers_is = sym w ∙ ap (λ (x : Variant). number_of x (take 2 (drop 5 s))) same;
          }

  pub head_read : head_in s ≡ head.Makes v capacity workers → HeadRead v s capacity workers
  unfolding head_in
  head_read = go (ltb (length s) 3) (opens BigEndian 1 4 s) refl (opens LittleEndian 1 4 s) refl
    where
      go : (a b : Bool) → opens BigEndian 1 4 s ≡ b → (c : Bool) → opens LittleEndian 1 4 s ≡ c
          → cond a (head.Fault 12) (cond b (head_by BigEndian s) (cond c (head_by LittleEndian s) (head.Fault 13))) ≡ head.Makes v capacity workers
          → HeadRead v s capacity workers
      go true b p c q h = let z : ◌≡◌ {A = ℕ} 0 1 = cc in absurd (omega arith)
      go false true p c q h = head_by_lem BigEndian p h
      go false false p true q h = head_by_lem LittleEndian q h
      go false false p false q h = let z : ◌≡◌ {A = ℕ} 0 1 = cc in absurd (omega arith)
