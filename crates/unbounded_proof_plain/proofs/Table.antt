-- Every act of the table.
use Prim.Native.Nat.{ℕ, ◌+◌}
use native.Mathlib.Omega.{arith}
use mathlib.Core.Path.{◌≡◌, refl, sym, ap, ◌∙◌}
use mathlib.Core.Bool.{Bool, true, false, true≢false}
use mathlib.Core.List.{List, []}
use lib.Dec.{eqb}
use lib.ListN.{length}
use Rattle.queue_entries.specs.declared.Call.{Call}
use Rattle.queue_entries.specs.declared.Call.TheVariants as call
use Rattle.queue_schedules.proofs.Schedules.{either}
use Rattle.queue_plain.specs.Plain as plain
use Rattle.unbounded_words.specs.declared.Index.{Index}
use Rattle.unbounded_words.specs.declared.Pointer.{Pointer}
use Rattle.unbounded_words.specs.declared.Pointer.TheVariants.{None, To}
use Rattle.unbounded_words.specs.Words.{sizes, offset_of, last_slot, marked_of, same_position, none_of}
use Rattle.unbounded_places.specs.declared.Slot.{Slot}
use Rattle.unbounded_places.specs.declared.Block.{Block}
use Rattle.unbounded_places.specs.declared.Ends.{Ends}
use Rattle.unbounded_places.specs.declared.Answer.{Answer}
use Rattle.unbounded_places.specs.declared.Answer.TheVariants.{Nothing, Pushed, Closed, Popped, Empty, PopClosed, Len, Yes, No}
use Rattle.unbounded_places.specs.declared.Place.{Place}
use Rattle.unbounded_places.specs.declared.Place.TheVariants.{Idle, U1, U2, U3, U4, U5, U6, U7, U8, U9, U10, U11, U12, U13, U14, U15, V1, V2, V3, V4, V5, V6}
use Rattle.unbounded_places.specs.declared.Place.TheVariants.{V7, V8, V9, V10, V11, V12, V13, V14, V15, Len1, Len2, Len3, Empty1, Empty2, Full1, Close1}
use Rattle.unbounded_places.specs.declared.Place.TheVariants.{IsClosed1}
use Rattle.unbounded_places.specs.Places.{view_of}
use Rattle.unbounded_acts.specs.declared.Acted.{Acted}
use Rattle.unbounded_acts.specs.Acts.{leave, head_to, front_to, tail_to, back_to_words, WRITE, READ, DESTROY, has, answered, set_aside, next_index, read_out_of, act_of}
use Rattle.unbounded_demands.specs.Notions.{Sign, Plain, Exchange7, Exchange4, Pops, Pushes, HandsOut, sign_of, item_by, takes_by}
use Rattle.unbounded_demands.specs.Stories.{Story, task_of, closes, Stays, timing_to}
use Rattle.unbounded_proof_invariant.proofs.Queue.{Ptr}
use Rattle.unbounded_proof_invariant.proofs.Views.{Seen}
use Rattle.unbounded_proof_words.proofs.Words.{mark_word}
use Rattle.unbounded_proof_words.proofs.Stands.{Stands, u7}
use Rattle.unbounded_proof_plain.proofs.Work.{Work, EnteredBy, TriesBy, TakesBy, FreesBy, Due}
use Rattle.unbounded_proof_plain.proofs.Scene.{hands12, hands14, hands15, never_full, brings_closed, Scene, Hints, Outcome, now, q₀}
use Rattle.unbounded_proof_plain.proofs.Rows.{Mild, mild, go, says, on, tries, decided, enters, pops, says_closed, says_pushed, tops, firsts, pop_tops}
use Rattle.unbounded_proof_plain.proofs.Rows.{hands_out, destroys, destroys_if, u10, v3, v4}
use Rattle.unbounded_proof_plain.proofs.Rows as rows
use Rattle.unbounded_proof_plain.proofs.Lookers.{close, is_closed, len2, len3, empty1, empty2}

-- a push goes to its exchange with a word that is not marked
unmarked : {n b : Pointer} {t : Index} {x : ℕ} {a c : Ptr} {y : Seen} → Stands (U7 n t b x) a c y → marked_of t ≡ false
unmarked (u7 {p = p} en et ed l) = ap marked_of et ∙ mark_word p false

-- but for the two exchanges no act claims anything
milds : Sign → Bool
milds Plain = true
milds Exchange7 = false
milds Exchange4 = false
milds Pops = true
milds (Pushes x) = true
milds (HandsOut v) = true

module _ (st : Story) (e : Ends) (sc : Scene st e) (w k : ℕ) (g : Block) (s : Slot) (lose : Bool) where
  abbrev Leads : Place → Acted → Type 0
  Leads p a = Outcome st e sc w p a.place a.ends.tail

  abbrev Told : Place → Acted → Type 0
  Told p a = Hints st e sc w p a.place

  calm : {p : Place} → milds (sign_of p) ≡ true → closes (task_of p) ≡ false → Mild st e sc w p
  unfolding milds
  calm {p} m c = mild st e sc w (λ q. ap (λ (l : List ℕ). eqb (length l) 1) (no_item (sign_of p) (sign_of q) m)) (λ q. no_taking (sign_of p) (sign_of q) m) c
    where
      no_item : (a b : Sign) → milds a ≡ true → item_by a b ≡ []
      no_item Plain b z = refl
      no_item Exchange7 b z = absurd (true≢false (sym z))
      no_item Exchange4 b z = refl
      no_item Pops b z = refl
      no_item (Pushes x) b z = refl
      no_item (HandsOut v) b z = refl

      no_taking : (a b : Sign) → milds a ≡ true → takes_by a b ≡ false
      no_taking Plain b z = refl
      no_taking Exchange7 b z = refl
      no_taking Exchange4 b z = absurd (true≢false (sym z))
      no_taking Pops b z = refl
      no_taking (Pushes x) b z = refl
      no_taking (HandsOut v) b z = refl

  abbrev O : Place → Place → Type 0
  O p q = Outcome st e sc w p q e.tail

  -- U1: the word that it is given
  loads : (n : Pointer) (x : ℕ) → TriesBy st w x → O (U1 n x) (U2 n e.tail x)
  unfolding milds
  loads n x o =
      go st e sc w (U1 n x) (calm refl refl) (U2 n e.tail x) refl (
        tries st e sc w (U1 n x) (calm refl refl) (U2 n e.tail x) x o,
        λ m. record {
          call = o.call;
          brings = o.brings;
          decided = decided st e sc w (U1 n x) (calm refl refl) (U2 n e.tail x) refl o.call (plain.Closed x) o.work (brings_closed (q₀ st e sc w) o.call x o.brings (sc.flag ∙ m));
        },
      )

  sets : (n : Pointer) (t : Index) (b : Pointer) → (x : ℕ) × EnteredBy st w x → O (U13 n t b) (answered n Pushed)
  unfolding answered milds
  sets n t b o =
      either (O (U13 n t b)) (none_of n) (Idle Pushed) (U14 n Pushed) (λ z. says_pushed st e sc w (U13 n t b) (calm refl refl) o.0 o.1)
      (λ z. go st e sc w (U13 n t b) (calm refl refl) (U14 n Pushed) refl (o.0, enters st e sc w (U13 n t b) (calm refl refl) (U14 n Pushed) refl o.0 o.1))

  gives : (n : Pointer) (a : Answer) → FreesBy st w a → O (U14 n a) (Idle a)
  unfolding milds
  gives n Nothing o = absurd o
  gives n Pushed o = says_pushed st e sc w (U14 n Pushed) (calm refl refl) o.0 o.1
  gives n (Closed x) o = says_closed st e sc w (U14 n (Closed x)) (calm refl refl) x o
  gives n (Popped v) o = absurd o
  gives n Empty o = absurd o
  gives n PopClosed o = absurd o
  gives n (Len m) o = absurd o
  gives n Yes o = absurd o
  gives n No o = absurd o

  -- a push, a pop goes on
  trying : (p q : Place) (x : ℕ) → milds (sign_of p) ≡ true → closes (task_of p) ≡ false → (view_of sizes q).busy ≡ true →
      (TriesBy (now st e sc w p q) w x → Due (now st e sc w p q) e.tail w (task_of q)) → TriesBy st w x → O p q
  trying p q x m c busy due o = go st e sc w p (calm m c) q busy (due (tries st e sc w p (calm m c) q x o))

  entering : (p q : Place) (x : ℕ) → milds (sign_of p) ≡ true → closes (task_of p) ≡ false → (view_of sizes q).busy ≡ true → timing_to (task_of p) (task_of q) ≡ Stays
      → (EnteredBy (now st e sc w p q) w x → Due (now st e sc w p q) e.tail w (task_of q)) → EnteredBy st w x → O p q
  entering p q x m c busy at due o = go st e sc w p (calm m c) q busy (due (enters st e sc w p (calm m c) q at x o))

  seeking : (p q : Place) → milds (sign_of p) ≡ true → closes (task_of p) ≡ false → (view_of sizes q).busy ≡ true → (c : Call) →
      (Work (now st e sc w p q) w c [] [] → Due (now st e sc w p q) e.tail w (task_of q)) → Work st w c [] [] → O p q
  seeking p q m c busy cl due o = go st e sc w p (calm m c) q busy (due (on st e sc w p (calm m c) q cl [] [] o))

  taking : (p q : Place) → milds (sign_of p) ≡ true → closes (task_of p) ≡ false → (view_of sizes q).busy ≡ true → timing_to (task_of p) (task_of q) ≡ Stays →
      (TakesBy (now st e sc w p q) w → Due (now st e sc w p q) e.tail w (task_of q))
      → TakesBy st w → O p q
  taking p q m c busy at due o = go st e sc w p (calm m c) q busy (due (pops st e sc w p (calm m c) q at busy o))

  pub row : (p : Place) {a n : Ptr} {y : Seen} → Stands p a n y → (view_of sizes p).busy ≡ true → Due st e.tail w (task_of p) → Told p (act_of sizes e k g s p lose) → Leads p
      (act_of sizes e k g s p lose)
  unfolding leave head_to front_to tail_to back_to_words set_aside read_out_of milds
  row (Idle a) at busy o t = absurd (true≢false (sym busy))
  row (U1 n x) at busy o t = loads n x o
  row (U2 n i x) at busy o t = tops st e sc w (U2 n i x) (calm refl refl) n i x o
  row (U3 i b x) at busy o t = firsts st e sc w (U3 i b x) (calm refl refl) (To k) i b x o
  row (U4 n i x) at busy o t = trying (U4 n i x) (U5 n i (To k) x) x refl refl refl (λ d. d) o
  row (U5 n i new x) at busy o t =
      either (Leads (U5 n i new x)) (none_of e.back) _ _ (λ z. trying (U5 n i new x) (U6 n i new x) x refl refl refl (λ d. d) o)
      (λ z. either (O (U5 n i new x)) (none_of n) (U1 new x) (U15 n new x) (λ y. trying (U5 n i new x) (U1 new x) x refl refl refl (λ d. d) o)
      (λ y. trying (U5 n i new x) (U15 n new x) x refl refl refl (λ d. d) o))
  row (U6 n i new x) at busy o t = trying (U6 n i new x) (U7 n i new x) x refl refl refl (λ d. d) o
  row (U7 n i b x) at busy o t = rows.u7 st e sc w g s n i b x lose o (unmarked at)
  row (U8 n i x) at busy o t = tops st e sc w (U8 n i x) (calm refl refl) n i x o
  row (U9 n i b x) at busy o t = entering (U9 n i b x) (U10 n i b x) x refl refl refl refl (λ d. d) o
  row (U10 n i b x) at busy o t = u10 st e sc w n i b x o
  row (U11 n i b x) at busy o t = entering (U11 n i b x) (U12 None i b x) x refl refl refl refl (λ d. d) o
  row (U12 n i b x) at busy o t = entering (U12 n i b x) (U13 n i b) x refl refl refl refl (λ d. (x, d)) o
  row (U13 n i b) at busy o t = sets n i b o
  row (U14 n a) at busy o t = gives n a o
  row (U15 n new x) at busy o t = trying (U15 n new x) (U1 new x) x refl refl refl (λ d. d) o
  row V1 at busy o t = seeking V1 (V2 e.head) refl refl refl call.Pop (λ d. d) o
  row (V2 i) at busy o t = pop_tops st e sc w (V2 i) (calm refl refl) i e.front o
  row (V3 i b) at busy o t = v3 st e sc w g s i b lose o t
  row (V4 i b new) at busy o t = v4 st e sc w g s i b new lose o t
  row (V5 i) at busy o t = pop_tops st e sc w (V5 i) (calm refl refl) i e.front o
  row (V6 i b new) at busy o t =
      either (Leads (V6 i b new)) (none_of g.next) _ _ (λ z. taking (V6 i b new) (V6 i b new) refl refl refl refl (λ d. d) o)
      (λ z. taking (V6 i b new) (V7 i b new g.next) refl refl refl refl (λ d. d) o)
  row (V7 i b new next) at busy o t = taking (V7 i b new next) (V8 i b next (next_index new g.next)) refl refl refl refl (λ d. d) o
  row (V8 i b next j) at busy o t = taking (V8 i b next j) (V9 i b j) refl refl refl refl (λ d. d) o
  row (V9 i b j) at busy o t = taking (V9 i b j) (V10 i b) refl refl refl refl (λ d. d) o
  row (V10 i b) at busy o t =
      either (Leads (V10 i b)) (has WRITE s.state) _ _ (λ z. taking (V10 i b) (V11 i b) refl refl refl refl (λ d. d) o) (λ z. taking (V10 i b) (V10 i b) refl refl refl refl (λ d. d) o)
  row (V11 i b) at busy o t =
      either (O (V11 i b)) (last_slot sizes i) _ (V12 i b s.value) (λ z. destroys st e sc w (V11 i b) (calm refl refl) b 0 s.value o)
      (λ z. taking (V11 i b) (V12 i b s.value) refl refl refl refl (λ d. d) o)
  row (V12 i b v) at busy o t = destroys_if st e sc w (V12 i b v) (calm refl refl) (has DESTROY s.state) b (offset_of sizes i) v hands12 o t
  row (V13 b i v) at busy o t =
      either (Leads (V13 b i v)) (has READ s.state) _ _ (λ z. destroys st e sc w (V13 b i v) (calm refl refl) b (i + 1) v o) (λ z. taking (V13 b i v) (V14 b i v) refl refl refl refl (λ d. d) o)
  row (V14 b i v) at busy o t = destroys_if st e sc w (V14 b i v) (calm refl refl) (has READ s.state) b i v hands14 o t
  row (V15 b v) at busy o t = hands_out st e sc w (V15 b v) (calm refl refl) v hands15 o t
  row Len1 at busy o t = seeking Len1 (Len2 e.tail) refl refl refl call.Len (λ d. (d, omega arith)) o
  row (Len2 i) at busy o t = len2 st e sc w i o
  row (Len3 i j) at busy o t = len3 st e sc w g s i j o lose
  row Empty1 at busy o t = empty1 st e sc w o
  row (Empty2 i) at busy o t = empty2 st e sc w i o (same_position i e.tail) refl
  row Full1 at busy o t = says st e sc w Full1 (calm refl refl) No plain.No refl (rows.quietly st e sc w Full1 No refl) call.IsFull refl
      (decided st e sc w Full1 (calm refl refl) (Idle No) refl call.IsFull plain.No o (never_full (q₀ st e sc w)))
  row Close1 at busy o t = close st e sc w g s lose o
  row IsClosed1 at busy o t = is_closed st e sc w (marked_of e.tail) refl o
