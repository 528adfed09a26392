-- The most stock, of every ring: it is filled, and then as many workers as it has slots, or as there are, force_push up to their read.
use mathlib.Core.Path.{◌≡◌, refl, sym, ap, ◌∙◌, subst}
use mathlib.Core.Logic.{◌≢◌}
use mathlib.Core.Bool.{Bool, true, false, cond}
use mathlib.Core.List.{List, [], ◌∷◌, ◌++◌, append-nil}
use Prim.Native.Nat.{ℕ, zero, suc, ◌+◌, ◌*◌, ◌%◌, ◌/◌, ◌≤◌, ◌<◌}
use native.Mathlib.Omega.{arith}
use native.Mathlib.Nat.{mod-eq_of_lt, add-mod_right}
use native.Mathlib.Decide.{ℕ_discrete}
use lib.Dec.{leb, eqb}
use lib.ListN.{length, get_or, set, length-set, length-replicate, replicate}
use lib.Seq.{set-get_or, get_or-set_other}
use borrow.Author.Tests.{eq-eqb, leb-true, leb-false}
use Rattle.queue_entries.specs.Limits.{meter_most}
use Rattle.queue_entries.specs.Schedules.{history_by}
use Rattle.queue_entries.specs.declared.Call.TheVariants as call
use Rattle.queue_entries.specs.declared.Order.TheVariants.{Begin}
use Rattle.queue_entries.specs.declared.Entry.TheVariants.{Asks}
use Rattle.queue_entries.specs.Entries.{stray_of, order_of, entry_of}
use Rattle.queue_rows.proofs.Alike.{all_alike}
use Rattle.bounded_words.specs.declared.Stamp.{Stamp}
use Rattle.bounded_words.specs.declared.Fixed.{Fixed}
use Rattle.bounded_words.specs.declared.Width.{Width}
use Rattle.bounded_words.specs.Words.{claim, stamp, mark_of, fixed_of, minus, same, lap_behind_one_past}
use Rattle.bounded_places.specs.declared.Slot.{Slot}
use Rattle.bounded_places.specs.declared.Ends.{Ends}
use Rattle.bounded_places.specs.declared.Kind.TheVariants.{Force}
use Rattle.bounded_places.specs.declared.Answer.{Answer}
use Rattle.bounded_places.specs.declared.Answer.TheVariants.{Nothing, Pushed}
use Rattle.bounded_places.specs.declared.Place.TheVariants.{Idle, P1, P2, F6, F7, F8}
use Rattle.bounded_places.specs.declared.Worker.{Worker}
use Rattle.bounded_acts.specs.Acts.{goes, exchange_of, after_tail, tail_to, head_to, forced_tail, act_of}
use Rattle.bounded_machine.specs.declared.Machine.{Machine}
use Rattle.bounded_machine.specs.declared.Event.{Event}
use Rattle.bounded_machine.specs.declared.Tally.{Tally}
use Rattle.bounded_machine.specs.Machine.{slot, idler, idlers, fresh_slots, machine_of, fresh_with, record_of_worker}
use Rattle.bounded_machine.specs.Turn.{beginner}
use Rattle.bounded_machine.specs.History.{history_at, tally_of, untallied, stock_of}
use Rattle.bounded_machine.proofs.Kept.{either}
use Rattle.bounded_demands.specs.Notions.{with_records, AllowedWith, acts_of, acts, stock, lesser}
use Rattle.bounded_demands.specs.Shelves.{pushes, forces, shelving}
use Rattle.bounded_demands.specs.Demands.{StockAttained}
use Rattle.bounded_proof_invariant.proofs.Width.{word, Near, turn_long, word_first}
use Rattle.bounded_proof_each_act.proofs.Stamps as stamps
use Rattle.bounded_proof_each_act.proofs.Stamps.{Ground, fixed, W}
use Rattle.bounded_proof_demand2.proofs.Reached.{laps_of, base_of, fresh_long, fresh_at}
use Rattle.bounded_proof_window.proofs.Paths.{tally_both, Goes, on, ending}
use Rattle.bounded_proof_window.proofs.Acting as acting
use Rattle.bounded_proof_window.proofs.Pushing as pushing
use Rattle.bounded_proof_window.proofs.Pushing.{same_self}

force_entry : (w : ℕ) → entry_of (16 * w + 1) 8 ≡ Asks w (Begin (call.ForcePush 8))
unfolding stray_of order_of entry_of
force_entry w =
    let low : (16 * w + 1) % 16 ≡ 1 = omega arith in
    let top : (16 * w + 1) / 16 ≡ w = omega arith in
    rw (low, top)

either_way : (b : Bool) → cond b false false ≡ false
either_way true = refl
either_way false = refl

module _ (bits : Width) (c mark n ed : ℕ) (g : Ground bits c mark n) where
  abbrev f : Fixed
  f = fixed c mark ed

  abbrev full_stamp : ℕ → Stamp
  full_stamp k = stamp (word c mark n k + 1)

  -- Of the first lap k slots are full, and the others free.
  record Filled (k : ℕ) (slots : List Slot) : Type 0 where
    pub long : c ≤ length slots
    pub full : (j : ℕ) → j < k → (get_or slots j (slot 0 0)).stamp ≡ full_stamp j
    pub free : (j : ℕ) → k ≤ j → j < c → (get_or slots j (slot 0 0)).stamp ≡ W c mark n j

  -- ---- it is filled

  module _ (others : List Worker) (count : ℕ) (some : 0 < count) where
    module _ (k : ℕ) (slots : List Slot) (o : Filled k slots) (small : k < c) where
      here : (get_or slots (k % c) (slot 0 0)).stamp ≡ W c mark n k
      here = ap (λ (j : ℕ). (get_or slots j (slot 0 0)).stamp) (mod-eq_of_lt small) ∙ o.free k (omega arith) small

      abbrev more : List Slot
      more = pushing.full bits c mark n ed g others count some (W c mark n 0) k slots o.long here

      at_k : (W c mark n k).0 % mark ≡ k
      at_k = pushing.at_slot bits c mark n ed g others count some (W c mark n 0) k slots o.long here ∙ mod-eq_of_lt small

      else_stamp : (j : ℕ) → j ≢ k → (get_or more j (slot 0 0)).stamp ≡ (get_or slots j (slot 0 0)).stamp
      else_stamp j ne = ap (λ (z : Slot). z.stamp) (pushing.full_else bits c mark n ed g others count some (W c mark n 0) k slots o.long here j (λ e. ne (e ∙ at_k)))

      filled_more : Filled (k + 1) more
      filled_more =
          record {
            long = omega (arith, o.long, pushing.full_long bits c mark n ed g others count some (W c mark n 0) k slots o.long here);
            full = λ j l. go j l (ℕ_discrete j k);
            free = λ j l s. else_stamp j (λ e. omega arith) ∙ o.free j (omega arith) s;
          }
        where
          go : (j : ℕ) → j < k + 1 → Dec (j ≡ k) → (get_or more j (slot 0 0)).stamp ≡ full_stamp j
          go j l (yes e) =
              ap (λ (x : ℕ). (get_or more x (slot 0 0)).stamp) (e ∙ sym at_k)
              ∙ pushing.full_stamp bits c mark n ed g others count some (W c mark n 0) k slots o.long here
              ∙ stamps.plus_one bits c mark n g k ∙ ap full_stamp (sym e)
          go j l (no ne) = else_stamp j ne ∙ o.full j (omega arith)

    abbrev pushed : ℕ → List Slot → Answer → ℕ → Machine
    pushed k slots a meter = pushing.at bits c mark n ed g others count some (pushing.ends bits c mark n ed g others count some (W c mark n 0) k) slots (Idle a) meter

    record Filling (m : Machine) (r k meter : ℕ) (rest : List ℕ) : Type 0 where
      pub slots : List Slot
      pub answer : Answer
      pub filled : Filled k slots
      pub done : List Event
      pub goes_on : Goes bits m (pushes r ++ rest) (pushed k slots answer meter) rest done
      pub tails : (t : Tally) → (tally_of done t).tail.0 ≡ t.tail.0 + r
      pub reads : (t : Tally) → (tally_of done t).reads ≡ t.reads

    goes_fill : (r k : ℕ) (slots : List Slot) (a : Answer) (meter : ℕ) → Filled k slots → k + r ≤ c → meter + 5 * r ≤ meter_most → (rest : List ℕ)
        → Filling (pushed k slots a meter) r (k + r) (meter + 5 * r) rest
    unfolding pushes acts tally_of
    goes_fill zero k slots a meter o room early rest =
        let number : k ≡ k + 0 = omega arith in
        let acted : meter ≡ meter + 5 * 0 = omega arith in
        record {
          slots = slots;
          answer = a;
          filled = subst (λ (x : ℕ). Filled x slots) number o;
          done = [];
          goes_on = ending bits (ap (λ (x : ℕ). pushed x slots a meter) number ∙ ap (λ (x : ℕ). pushed (k + 0) slots a x) acted) (record { run = refl; history = refl });
          tails = λ t. omega arith;
          reads = λ t. refl;
        }
    goes_fill (suc r) k slots a meter o room early rest =
        let small : k < c = omega arith in
        let one = pushing.pushes_one bits c mark n ed g others count some (W c mark n 0) k slots o.long (here k slots o small) a meter (omega arith) (pushes r ++ rest) in
        let next = goes_fill r (k + 1) (more k slots o small) Pushed (meter + 5) (filled_more k slots o small) (omega arith) (omega arith) rest in
        let number : k + 1 + r ≡ k + suc r = omega arith in
        let acted : meter + 5 + 5 * r ≡ meter + 5 * suc r = omega arith in
        record {
          slots = next.slots;
          answer = next.answer;
          filled = subst (λ (x : ℕ). Filled x next.slots) number next.filled;
          done = one.done ++ next.done;
          goes_on =
              on bits one.goes_on
              (ending bits
              (ap (λ (x : ℕ). pushed x next.slots next.answer (meter + 5 + 5 * r)) number ∙ ap (λ (x : ℕ). pushed (k + suc r) next.slots next.answer x) acted)
              next.goes_on);
          tails = λ t. ap (λ (z : Tally). z.tail.0) (tally_both one.done next.done t ∙ ap (tally_of next.done) (one.tallies t)) ∙ next.tails _ ∙ omega arith;
          reads = λ t. ap (λ (z : Tally). z.reads) (tally_both one.done next.done t ∙ ap (tally_of next.done) (one.tallies t)) ∙ next.reads _;
        }

  -- ---- one force_push after another, each up to its read

  abbrev lapped : ℕ → Ends
  lapped k = record { head = W c mark n k; tail = W c mark n (k + c) }

  module _ (count : ℕ) (slots : List Slot) (o : Filled c slots) where
    module _ (w k : ℕ) (small : k < c) (team : w < count) (ws : List Worker) (seat : w < length ws) where
      abbrev t : Stamp
      t = W c mark n (k + c)

      abbrev i : ℕ
      i = t.0 % mark

      held : (get_or slots i (slot 0 0)).stamp ≡ full_stamp k
      held = ap (λ (j : ℕ). (get_or slots j (slot 0 0)).stamp) (stamps.lap_slot bits c mark n g t k refl ∙ mod-eq_of_lt small) ∙ o.full k small

      turn : 3 * c ≤ n * c
      turn = turn_long c mark n g.laws

      unlike : same (get_or slots i (slot 0 0)).stamp t ≡ false
      unlike =
          let near : Near (n * c) k (k + c) = omega (arith, turn) in
          ap (λ (z : Stamp). same z t) held ∙ stamps.stamp_same bits c mark n g true k (k + c) (sym (add-mod_right k c)) near

      behind : lap_behind_one_past bits f (get_or slots i (slot 0 0)).stamp t ≡ true
      behind =
          let near : Near (n * c) (k + c) (k + c) = omega (arith, turn) in
          ap (λ (z : Stamp). lap_behind_one_past bits f z t) held ∙ stamps.stamp_behind bits c mark n g ed true k (k + c) (sym (add-mod_right k c)) (λ e. near) ∙ eq-eqb (k + c) (k + c) refl

      abbrev half : Ends
      half = record { head = W c mark n (k + 1); tail = W c mark n (k + c) }

      p1 : act_of bits f (lapped k) (get_or slots 0 (slot 0 0)) (P1 Force 8) false ≡ goes (lapped k) (get_or slots 0 (slot 0 0)) (P2 Force t 8)
      unfolding after_tail
      p1 = rw (stamps.marked_tail bits c mark n g ed (k + c) false)

      p2 : act_of bits f (lapped k) (get_or slots i (slot 0 0)) (P2 Force t 8) false ≡ goes (lapped k) (get_or slots i (slot 0 0)) (F6 t 8)
      p2 = rw (unlike, behind)

      f6 : act_of bits f (lapped k) (get_or slots i (slot 0 0)) (F6 t 8) false ≡ goes half (get_or slots i (slot 0 0)) (F7 t 8)
      unfolding exchange_of head_to
      f6 = rw (same_self (W c mark n k) (minus bits t (2 * mark)) (sym (stamps.minus_lap bits c mark n g k)), stamps.next_back bits c mark n g ed k)

      tail_next : forced_tail bits f t t ≡ W c mark n (k + 1 + c)
      tail_next =
          let q : k + c + 1 ≡ k + 1 + c = omega arith in
          stamps.forced_is bits c mark n g ed (k + c) (k + c) false
          ∙ ap (λ (b : Bool). stamps.tail_word c mark n (k + c + 1) b) (either_way (eqb ed 2)) ∙ ap (W c mark n) q

      f7 : act_of bits f half (get_or slots i (slot 0 0)) (F7 t 8) false ≡ goes (lapped (k + 1)) (get_or slots i (slot 0 0)) (F8 t 8)
      unfolding tail_to
      f7 = rw tail_next

      -- one claim at either end
      record Forcing (a : Answer) (meter : ℕ) (rest : List ℕ) : Type 0 where
        pub done : List Event
        pub goes_on : Goes bits (acting.at bits f count w team ws seat (lapped k) slots (Idle a) meter) ((16 * w + 1) ∷ 8 ∷ acts w 4 ++ rest)
            (acting.at bits f count w team ws seat (lapped (k + 1)) slots (F8 t 8) (meter + 4)) rest done
        pub tallies : (t : Tally) → tally_of done t ≡ record { tail = claim (t.tail.0 + 1); head = claim (t.head.0 + 1); reads = t.reads }

      gathered : (a : Answer) (meter : ℕ) (rest : List ℕ) (later : ℕ) → later ≡ meter + 4 → (done : List Event)
          → Goes bits (acting.at bits f count w team ws seat (lapped k) slots (Idle a) meter) ((16 * w + 1) ∷ 8 ∷ acts w 4 ++ rest)
          (acting.at bits f count w team ws seat (lapped (k + 1)) slots (F8 t 8) later) rest done
          → ((t : Tally) → tally_of done t ≡ record { tail = claim (t.tail.0 + 1); head = claim (t.head.0 + 1); reads = t.reads }) → Forcing a meter rest
      gathered a meter rest later four done g tallies =
          record { done = done; goes_on = ending bits (ap (acting.at bits f count w team ws seat (lapped (k + 1)) slots (F8 t 8)) four) g; tallies = tallies }

      forces_one : (a : Answer) (meter : ℕ) → meter + 4 ≤ meter_most → (rest : List ℕ) → Forcing a meter rest
      unfolding acts tally_of
      forces_one a meter early rest =
          let b : ℕ = 16 * w + 8 in
          let s0 = acting.begins bits f count w team ws seat (lapped k) slots a (call.ForcePush 8) (16 * w + 1) 8 meter (force_entry w) (b ∷ 0 ∷ b ∷ 0 ∷ b ∷ 0 ∷ b ∷ 0 ∷ rest) in
          let s1 = acting.looks_to bits f count w team ws seat (lapped k) (lapped k) slots (P1 Force 8) (P2 Force t 8) meter refl (omega arith) p1 (b ∷ 0 ∷ b ∷ 0 ∷ b ∷ 0 ∷ rest) in
          let s2 = acting.looks_to bits f count w team ws seat (lapped k) (lapped k) slots (P2 Force t 8) (F6 t 8) (meter + 1) refl (omega arith) p2 (b ∷ 0 ∷ b ∷ 0 ∷ rest) in
          let s3 = acting.looks_to bits f count w team ws seat (lapped k) half slots (F6 t 8) (F7 t 8) (meter + 1 + 1) refl (omega arith) f6 (b ∷ 0 ∷ rest) in
          let s4 = acting.looks_to bits f count w team ws seat half (lapped (k + 1)) slots (F7 t 8) (F8 t 8) (meter + 1 + 1 + 1) refl (omega arith) f7 rest in
          gathered a meter rest _ (omega arith) _ (on bits s0 (on bits s1 (on bits s2 (on bits s3 s4)))) (λ z. refl)

    -- the first so many workers are idle, and have lost no exchange
    abbrev Resting : ℕ → List Worker → Type 0
    Resting w ws = (v : ℕ) → v < w → (a : Answer) × (record_of_worker ws v ≡ beginner (Idle a))

    record Forced (m : Machine) (w : ℕ) (rest : List ℕ) : Type 0 where
      pub last : Machine
      pub done : List Event
      pub goes_on : Goes bits m (forces w ++ rest) last rest done
      pub tails : (t : Tally) → (tally_of done t).tail.0 ≡ t.tail.0 + w
      pub reads : (t : Tally) → (tally_of done t).reads ≡ t.reads

    goes_force : (w k : ℕ) (ws : List Worker) (meter : ℕ) → k + w ≤ c → w ≤ count → count ≤ length ws → Resting w ws → meter + 4 * w ≤ meter_most → (rest : List ℕ)
        → Forced (machine_of f (lapped k) slots ws count meter) w rest
    unfolding forces acts tally_of
    goes_force zero k ws meter room few long idle early rest =
        record {
          last = machine_of f (lapped k) slots ws count meter;
          done = [];
          goes_on = record { run = refl; history = refl };
          tails = λ t. omega arith;
          reads = λ t. refl;
        }
    goes_force (suc w) k ws meter room few long idle early rest =
        let its = idle w (omega arith) in
        let small : k < c = omega arith in
        let team : w < count = omega arith in
        let seat : w < length ws = omega arith in
        let stands : set ws w (beginner (Idle its.0)) ≡ ws = ap (set ws w) (sym its.1) ∙ set-get_or ws w idler in
        let one = forces_one w k small team ws seat its.0 meter (omega arith) (forces w ++ rest) in
        let next =
        goes_force w (k + 1) (set ws w (beginner (F8 (W c mark n (k + c)) 8))) (meter + 4) (omega arith) (omega arith) (omega (arith, length-set ws w (beginner (F8 (W c mark n (k + c)) 8))))
        (λ v l. let it = idle v (omega arith) in (it.0, get_or-set_other ws w v _ idler (λ e. omega arith) ∙ it.1)) (omega arith) rest in
        record {
          last = next.last;
          done = one.done ++ next.done;
          goes_on =
              subst (λ (l : List Worker). Goes bits (machine_of f (lapped k) slots l count meter) (forces (suc w) ++ rest) next.last rest (one.done ++ next.done)) stands
              (on bits one.goes_on next.goes_on);
          tails = λ t. ap (λ (z : Tally). z.tail.0) (tally_both one.done next.done t ∙ ap (tally_of next.done) (one.tallies t)) ∙ next.tails _ ∙ omega arith;
          reads = λ t. ap (λ (z : Tally). z.reads) (tally_both one.done next.done t ∙ ap (tally_of next.done) (one.tallies t)) ∙ next.reads _;
        }

-- ---- from a fresh machine

least : (a b : ℕ) → (lesser a b ≤ a) × (lesser a b ≤ b)
least a b = either (λ (k : ℕ). (k ≤ a) × (k ≤ b)) (leb a b) a b (λ e. (omega arith, leb-true a b e)) (λ e. (omega (arith, leb-false a b e), omega arith))

module _ (bits : Width) (r c workers edition : ℕ) (a : AllowedWith (suc r) c workers edition) where
  abbrev laps : ℕ
  laps = laps_of bits c

  ground : Ground bits c (mark_of c) laps
  ground = (base_of bits (suc r) c workers edition a).ground

  abbrev start : Machine
  start = pushed bits c (mark_of c) laps edition ground (replicate r idler) workers a.worker_some 0 (fresh_slots c) Nothing 0

  fresh_is : fresh_with (suc r) c workers edition ≡ start
  unfolding fresh_with idlers
  fresh_is =
      ap (λ (x : ℕ). machine_of (fixed_of c edition) (record { head = stamp x; tail = stamp x }) (fresh_slots c) (idlers (suc r)) workers 0)
      (sym (word_first c (mark_of c) laps ground.laws 0 a.slot_some))

  none_filled : Filled bits c (mark_of c) laps edition ground 0 (fresh_slots c)
  none_filled =
      record {
        long = omega (arith, fresh_long c, a.slot_most);
        full = λ j l. absurd (omega arith);
        free = λ j l small. ap (λ (z : Slot). z.stamp) (fresh_at c j a.slot_most small) ∙ ap stamp (sym (word_first c (mark_of c) laps ground.laws j small));
      }

  abbrev many : ℕ
  many = lesser c workers

  fill : Filling bits c (mark_of c) laps edition ground (replicate r idler) workers a.worker_some start c (0 + c) (0 + 5 * c) (forces many ++ [])
  fill =
      goes_fill bits c (mark_of c) laps edition ground (replicate r idler) workers a.worker_some c 0 (fresh_slots c) Nothing 0
      none_filled (omega arith) (omega (arith, a.slot_most)) (forces many ++ [])

  all_filled : Filled bits c (mark_of c) laps edition ground c fill.slots
  all_filled = let whole : 0 + c ≡ c = omega arith in subst (λ (k : ℕ). Filled bits c (mark_of c) laps edition ground k fill.slots) whole fill.filled

  resting : (v : ℕ) → v < many → (x : Answer) × (record_of_worker (beginner (Idle fill.answer) ∷ replicate r idler) v ≡ beginner (Idle x))
  resting zero l = (fill.answer, refl)
  resting (suc v) l = (Nothing, all_alike r v idler)

  force : Forced bits c (mark_of c) laps edition ground workers fill.slots all_filled
      (machine_of (fixed c (mark_of c) edition) (lapped bits c (mark_of c) laps edition ground 0) fill.slots (beginner (Idle fill.answer) ∷ replicate r idler) workers (0 + 5 * c)) many []
  force =
      let few = least c workers in
      goes_force bits c (mark_of c) laps edition ground workers fill.slots all_filled many 0 (beginner (Idle fill.answer) ∷ replicate r idler) (0 + 5 * c) (omega (arith, few.0)) few.1
      (omega (arith, a.worker_most, length-replicate r idler)) resting (omega (arith, few.0, a.slot_most)) []

  acts_are : acts_of (with_records (suc r) bits) c workers edition (shelving c workers) ≡ fill.done ++ force.done
  unfolding history_by
  acts_are =
      ap (λ (m : Machine). history_at bits m (shelving c workers)) fresh_is
      ∙ ap (λ (l : List ℕ). history_at bits start (pushes c ++ l)) (sym (append-nil (forces many)))
      ∙ (on bits fill.goes_on force.goes_on).history ∙ append-nil (fill.done ++ force.done)

  attained : stock (acts_of (with_records (suc r) bits) c workers edition (shelving c workers)) ≡ c + many
  unfolding stock_of
  attained =
      let sums : tally_of (fill.done ++ force.done) untallied ≡ tally_of force.done (tally_of fill.done untallied) = tally_both fill.done force.done untallied in
      let tails : (tally_of (fill.done ++ force.done) untallied).tail.0 ≡ c + many =
      ap (λ (z : Tally). z.tail.0) sums ∙ force.tails _ ∙ ap (λ (x : ℕ). x + many) (fill.tails untallied) ∙ omega arith in
      let reads : (tally_of (fill.done ++ force.done) untallied).reads ≡ 0 = ap (λ (z : Tally). z.reads) sums ∙ force.reads _ ∙ fill.reads untallied in
      ap stock acts_are ∙ omega (arith, tails, reads)

pub stock_attained : (bits : Width) (records : ℕ) → StockAttained (with_records records bits) stock
stock_attained bits zero c workers edition a = absurd (omega (arith, a.worker_some, a.worker_most))
stock_attained bits (suc r) c workers edition a = attained bits r c workers edition a
