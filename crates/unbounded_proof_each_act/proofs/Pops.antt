-- The rows of pop: each is an effect on the queue over positions.
use Prim.Native.Nat.{ℕ, ◌+◌, ◌*◌, ◌/◌, ◌%◌, ◌<◌, ◌≤◌}
use mathlib.Core.Path.{◌≡◌, refl, sym, ap, ◌∙◌, subst}
use mathlib.Core.Logic.{◌≢◌}
use mathlib.Core.Bool.{Bool, true, false, cond, not, true≢false}
use mathlib.Core.List.{List, []}
use native.Mathlib.Omega.{arith}
use native.Mathlib.Decide.{ℕ_discrete, dec_lt}
use lib.Dec.{eqb, ltb}
use lib.ListN.{set}
use borrow.Author.Tests.{eq-eqb, ne_eqb, eqb-true, eqb-false, lt-ltb, ltb-true}
use Rattle.queue_schedules.proofs.Upd.{upd, upd_same, upd_else}
use Rattle.unbounded_words.specs.declared.Index.{Index}
use Rattle.unbounded_words.specs.declared.Pointer.{Pointer}
use Rattle.unbounded_words.specs.declared.Pointer.TheVariants.{None, To}
use Rattle.unbounded_words.specs.Words.{sizes, wide, offset_of, past_slots, last_slot, marked_of, with_mark, later, same, same_position, same_block, none_of}
use Rattle.unbounded_places.specs.declared.Slot.{Slot}
use Rattle.unbounded_places.specs.declared.Block.{Block}
use Rattle.unbounded_places.specs.declared.Ends.{Ends}
use Rattle.unbounded_places.specs.declared.Worker.{Worker}
use Rattle.unbounded_places.specs.declared.Answer.TheVariants.{Popped, Empty, PopClosed}
use Rattle.unbounded_places.specs.declared.Place.{Place}
use Rattle.unbounded_places.specs.declared.Place.TheVariants.{Idle, V1, V2, V3, V4, V5, V6, V7, V8, V9, V10, V11, V12, V13, V14, V15}
use Rattle.unbounded_acts.specs.declared.Acted.{Acted}
use Rattle.unbounded_acts.specs.Acts.{leave, head_to, front_to, freed, state_to, with, has, take_or, pop_from, new_head, taken, next_index, destroy_from, read_out_of}
use Rattle.unbounded_acts.specs.Acts.{destroy_if, act_v2, act_v3, act_v4, act_v6, act_v7, act_v8, act_v9, act_v10, act_v11, act_v12, act_v13, act_v14, act_v15}
use Rattle.unbounded_machine.proofs.Fits.{either}
use Rattle.unbounded_demands.specs.Notions.{Plain, sign_of, item_by, takes_by, Sign}
use Rattle.unbounded_proof_invariant.proofs.Queue.{Ptr, none, to, Hand, Open, Done, By, Dest, Wait, Freed, Walk, Parked, Own, Chain, Shared, DestOk, Inv}
use Rattle.unbounded_proof_invariant.proofs.Kept.{hand_by_done, free_not_chain, done_or_not, takes, takes_kept, moves, moves_kept, heads, heads_kept, reads_last}
use Rattle.unbounded_proof_invariant.proofs.Kept.{reads_last_kept, reads, reads_kept, reads_on, reads_on_kept, walks, walks_kept, destroy_bits, destroys, parks}
use Rattle.unbounded_proof_invariant.proofs.Kept.{parks_kept, frees, frees_kept}
use Rattle.unbounded_proof_invariant.proofs.Views.{Seen, Rest, Head, Looking, Taking, Going, Gone, Leading, Heading, Awaiting, Reading, Destroying, PopIn, SeenOk, Rely}
use Rattle.unbounded_proof_invariant.proofs.Views as views
use Rattle.unbounded_proof_invariant.proofs.Relied.{takes_rely, moves_rely, heads_rely, reads_last_rely, reads_rely, reads_on_rely, walks_rely, parks_rely, frees_rely}
use Rattle.unbounded_proof_invariant.proofs.Own.{Good, take_slot, take_last, move_good, head_good, read_good, destroy_good, walk_good, park_good, free_good}
use Rattle.unbounded_proof_words.proofs.Words.{bit, half, word, past_word, last_word, mark_word, unmarked_word, with_mark_word, later_word, same_yes, position_word, block_word}
use Rattle.unbounded_proof_words.proofs.Stands.{slot, block_at, slot_at, ptr, ends_of_ring, is_done, next_of, HeadRep, read_bit, state_of, idle}
use Rattle.unbounded_proof_words.proofs.Stands.{v1, v2, v3, v4, v5, v6, v7, v8, v9, v10, v11, v12, v13, v14, v15, Standing, Sim}
use Rattle.unbounded_proof_words.proofs.Frames.{write_said, read_said, destroy_said}
use Rattle.unbounded_proof_words.proofs.Loads.{load_head, lost_head, leave_head, looking, taking_marked, leave_looking, both_there, taking, next_known, index_known, written, reads_item, read_out}
use Rattle.unbounded_proof_words.proofs.Live.{pop_live, next_live}
use Rattle.unbounded_proof_words.proofs.Sims.{sim_takes, sim_heads, sim_moves, sim_reads_last, sim_walks}
use Rattle.unbounded_proof_words.proofs.Cells.{cell_at, sim_reads, sim_reads_on, sim_destroys}
use Rattle.unbounded_proof_words.proofs.Blocks.{sim_frees}
use Rattle.unbounded_proof_each_act.proofs.Pushes.{with_clear, in_block, at_slot}
use Rattle.unbounded_proof_each_act.proofs.Step.{counted, held, tale_of, Logs, neither, Quiet, lets_go, holds_on, quiet_logs, standing, Here, Step}
use Rattle.unbounded_proof_each_act.proofs.Step.{TellsTrue, OutOk, small, built, on_ends, on_header, on_slot, loads, looks, still_back}
use Rattle.unbounded_proof_each_act.proofs.Step as step

-- what a bit of a state says
said : (b n : ℕ) (t : Bool) → n / b % 2 ≡ bit t → has b n ≡ t
unfolding has
said b n true e = eq-eqb (n / b % 2) 1 e
said b n false e = ne_eqb (n / b % 2) 1 (λ z. let y : ◌≡◌ {A = ℕ} 0 1 = sym e ∙ z in omega arith)

-- a hand that is done, and one that is not
done_is : (h : Hand) → is_done h ≡ true → h ≡ Done
done_is Open e = absurd (true≢false (sym e))
done_is Done e = refl
done_is (By w) e = absurd (true≢false (sym e))

not_done : (h : Hand) → is_done h ≡ false → h ≢ Done
not_done h e z = true≢false (sym (ap is_done z) ∙ e)

by_not_done : (h : Hand) (w : ℕ) → h ≡ By w → is_done h ≡ false
by_not_done h w e = ap is_done e

module _ (blocks : List Block) (slots : List Slot) (ws : List Worker) (meter : ℕ) (s : Shared) (w : ℕ) (here : Here blocks slots ws meter s w) where
  abbrev Does : Place → ℕ → ℕ → Acted → Type 0
  Does p k i a = Step blocks slots ws meter s w p k i slots a

  abbrev E : Ends
  E = ends_of_ring s

  abbrev G : ℕ → Block
  G k = block_at blocks k

  abbrev S : ℕ → ℕ → Slot
  S k i = slot_at slots k i

  inv : Inv s
  inv = here.sim.inv

  -- no sum wraps
  narrow : (p : ℕ) → p ≤ s.head + 1 → p ≤ s.tail → 2 * p + 3 < wide
  narrow p l t = omega (arith, small blocks slots ws meter s w here V1)

  -- V1
  pub pop_loads : Good s w none none Rest → Does V1 0 0 (leave E (G 0) (S 0 0) (V2 E.head))
  pop_loads g = looks blocks slots ws meter s w here V1 (V2 E.head) (standing s w (V2 E.head) (v2 refl) (load_head s inv w none none g)) (lets_go refl refl refl) tt tt

  -- V2, V5: the top of the loop
  module _ (p0 : Place) (plain : sign_of p0 ≡ Plain) where
    goes : (q : Place) → Standing s w q → held (tale_of q) ≡ false → TellsTrue E (tale_of q) → OutOk s w p0 (sign_of q) → Does p0 0 0 (leave E (G 0) (S 0 0) q)
    goes q n h = looks blocks slots ws meter s w here p0 q n (lets_go (ap (λ (z : Sign). item_by z (sign_of q)) plain) (ap (λ (z : Sign). takes_by z (sign_of q)) plain) h)

    abbrev To' : Place → Type 0
    To' q = Does p0 0 0 (leave E (G 0) (S 0 0) q)

    with_front : (p : ℕ) → Good s w none none (Head p true) → p % 32 < 31 → (d : Ptr) → s.front ≡ d → To' (take_or (word p true) (ptr d) (later (word p true)))
    unfolding take_or
    with_front p g l none e = goes V1 (standing s w V1 v1 (leave_head s inv w none none p true g)) refl tt tt
    with_front p g l (to b) e =
        let far = g.seen.1 refl in
        goes (V4 (word p true) (To b) (later (word p true)))
        (standing s w (V4 (word p true) (To b) (later (word p true)))
        (v4 true refl refl (later_word p true (narrow p (omega (arith, g.seen.0)) (omega arith)))) (taking_marked s inv w none none p b g l e)) refl tt tt

    pub pop_tops : (p : ℕ) (m : Bool) → Good s w none none (Head p m) → Does p0 0 0 (act_v2 sizes E (G 0) (S 0 0) (word p m))
    unfolding pop_from
    pop_tops p m g =
        either To' (past_slots sizes (word p m)) V1 _
        (λ h. goes V1 (standing s w V1 v1 (leave_head s inv w none none p m g)) refl tt tt)
        (λ h. let l : p % 32 < 31 = (let ne = eqb-false (p % 32) 31 (sym (past_word p m) ∙ h) in omega arith) in go m g l)
      where
        go : (k : Bool) → Good s w none none (Head p k) → p % 32 < 31 → To' (cond (marked_of (word p k)) (take_or (word p k) (ptr s.front) (later (word p k))) (V3 (word p k) (ptr s.front)))
        go true z l =
            either To' (marked_of (word p true)) _ _ (λ h. with_front p z l s.front refl) (λ h. absurd (true≢false (sym (mark_word p true) ∙ h)))
        go false z l =
            either To' (marked_of (word p false)) _ _ (λ h. absurd (true≢false (sym h ∙ mark_word p false)))
            (λ h. goes (V3 (word p false) (ptr s.front)) (standing s w (V3 (word p false) (ptr s.front)) (v3 refl refl) (looking s inv w none none p false z l)) refl tt tt)

  -- V3
  new_head_is : (p : ℕ) → 2 * p + 3 < wide → new_head sizes (word p false) E.tail ≡ word (p + 1) (not (eqb (p / 32) (s.tail / 32)))
  unfolding new_head
  new_head_is p l =
      either (λ (i : Index). i ≡ word (p + 1) (not (eqb (p / 32) (s.tail / 32)))) (same_block sizes (word p false) E.tail) (later (word p false)) (with_mark (later (word p false)))
      (λ h. later_word p false l ∙ ap (λ (t : Bool). word (p + 1) (not t)) (sym (sym (block_word p s.tail false s.closed) ∙ h)))
      (λ h. ap with_mark (later_word p false l) ∙ with_mark_word (p + 1) false ∙ ap (λ (t : Bool). word (p + 1) (not t)) (sym (sym (block_word p s.tail false s.closed) ∙ h)))

  pub pop_looks : (p : ℕ) (b : Ptr) → Good s w none none (Looking p b) → Does (V3 (word p false) (ptr b)) 0 0 (act_v3 sizes E (G 0) (S 0 0) (word p false) (ptr b))
  unfolding take_or
  pop_looks p b g =
      either (λ (z : Acted). Does (V3 (word p false) (ptr b)) 0 0 z) (same_position (word p false) E.tail) _ _
      (λ h. let e : p ≡ s.tail = eqb-true p s.tail (sym (position_word p s.tail false s.closed) ∙ h) in
      let both : s.tail ≡ s.head = both_there s inv w none none p b g e in
      either (λ (z : Acted). Does (V3 (word p false) (ptr b)) 0 0 z) (marked_of E.tail) _ _
      (λ k. ends (Idle PopClosed) (standing s w (Idle PopClosed) idle (leave_looking s inv w none none p b g)) refl refl refl (k, positions both) tt)
      (λ k. ends (Idle Empty) (standing s w (Idle Empty) idle (leave_looking s inv w none none p b g)) refl refl refl (k, positions both) tt))
      (λ h. let ne : p ≢ s.tail = eqb-false p s.tail (sym (position_word p s.tail false s.closed) ∙ h) in go b g ne)
    where
      positions : s.tail ≡ s.head → (2 * s.tail + bit s.closed) / 2 ≡ (2 * s.head + bit s.mark) / 2
      positions e = half s.tail s.closed ∙ e ∙ sym (half s.head s.mark)

      ends : (q : Place) → Standing s w q → item_by Plain (sign_of q) ≡ [] → takes_by Plain (sign_of q) ≡ false → held (tale_of q) ≡ false → TellsTrue E (tale_of q)
          → OutOk s w (V3 (word p false) (ptr b)) (sign_of q)
          → Does (V3 (word p false) (ptr b)) 0 0 (leave E (G 0) (S 0 0) q)
      ends q n a c h t o = looks blocks slots ws meter s w here (V3 (word p false) (ptr b)) q n (lets_go a c h) t o

      go : (d : Ptr) → Good s w none none (Looking p d) → p ≢ s.tail
          → Does (V3 (word p false) (ptr b)) 0 0 (leave E (G 0) (S 0 0) (take_or (word p false) (ptr d) (new_head sizes (word p false) E.tail)))
      go none z ne = ends V1 (standing s w V1 v1 (leave_looking s inv w none none p none z)) refl refl refl tt tt
      go (to c) z ne =
          ends (V4 (word p false) (To c) (new_head sizes (word p false) E.tail))
          (standing s w (V4 (word p false) (To c) (new_head sizes (word p false) E.tail))
          (v4 false refl refl (new_head_is p (narrow p (omega (arith, z.seen.1)) (omega (arith, z.seen.1, inv.ends.low)))))
          (taking s inv w none none p c z ne)) refl refl refl tt tt

  -- V4
  pub pop_takes : (p b : ℕ) (m k lose : Bool) → Good s w none none (Taking p b k)
      → Does (V4 (word p m) (To b) (word (p + 1) k)) 0 0 (act_v4 sizes E (G 0) (S 0 0) (word p m) (To b) (word (p + 1) k) lose)
  unfolding head_to taken
  pop_takes p b m k lose g =
      either P (same E.head (word p m)) _ _
      (λ h. either P lose _ _
      (λ l. looks blocks slots ws meter s w here p0 (V5 (word p m))
      (standing s w (V5 (word p m)) (v5 {p = p} {m = m} refl) (again (same_yes s.head p s.mark m h).0 (same_yes s.head p s.mark m h).1))
      (lets_go refl refl refl) tt tt)
      (λ l. won (same_yes s.head p s.mark m h).0))
      (λ h. looks blocks slots ws meter s w here p0 (V5 E.head) (standing s w (V5 E.head) (v5 refl) (lost_head s inv w none none p b k g)) (lets_go refl refl refl) tt tt)
    where
      p0 : Place
      p0 = V4 (word p m) (To b) (word (p + 1) k)

      P : Acted → Type 0
      P z = Does (V4 (word p m) (To b) (word (p + 1) k)) 0 0 z

      again : s.head ≡ p → s.mark ≡ m → Good s w none none (Head p m)
      again eh em = subst (λ (i : ℕ). Good s w none none (Head i m)) eh (subst (λ (t : Bool). Good s w none none (Head s.head t)) em (lost_head s inv w none none p b k g))

      take : s.head ≡ p → (q : Place) → Standing (takes w k s) w q → item_by (sign_of (V4 (word p m) (To b) (word (p + 1) k))) (sign_of q) ≡ []
          → takes_by (sign_of (V4 (word p m) (To b) (word (p + 1) k))) (sign_of q) ≡ true
          → TellsTrue E (tale_of q) → OutOk s w (V4 (word p m) (To b) (word (p + 1) k)) (sign_of q) → P (leave (head_to E (word (p + 1) k)) (G 0) (S 0 0) q)
      take eh q n ei et t o =
          let o' = g.seen in
          on_ends blocks slots ws meter s w here (V4 (word p m) (To b) (word (p + 1) k)) 0 0 (omega arith) (omega arith) (head_to E (word (p + 1) k)) q (takes w k s)
          (sim_takes E blocks slots ws meter s here.sim w here.known q k (word (p + 1) k) (ap (λ (i : ℕ). word (i + 1) k) (sym eh))
          (takes_kept s inv w k (omega (arith, o'.0)) o'.2 (omega (arith, o'.4)) (λ e. let z = o'.5 e in omega arith)) (λ v ne. takes_rely s inv w v ne k (omega (arith, o'.0))) n)
          (step.takes ei et (omega (arith, o'.0)) (omega (arith, o'.4)) refl refl refl refl) t o

      won : s.head ≡ p → P (leave (head_to E (word (p + 1) k)) (G 0) (S 0 0) (taken sizes (word p m) (To b) (word (p + 1) k)))
      won eh =
          either (λ (q : Place). P (leave (head_to E (word (p + 1) k)) (G 0) (S 0 0) q)) (last_slot sizes (word p m)) (V6 (word p m) (To b) (word (p + 1) k)) (V10 (word p m) (To b))
          (λ h. let l : p % 32 ≡ 30 = (let e = eqb-true (p % 32 + 1) 31 (sym (last_word p m) ∙ h) in omega arith) in
          take eh (V6 (word p m) (To b) (word (p + 1) k)) (standing (takes w k s) w (V6 (word p m) (To b) (word (p + 1) k)) (v6 m k refl refl refl)
          (take_last s inv w none none p b k g eh l)) refl refl tt tt)
          (λ h. let l : p % 32 < 30 = (let e = eqb-false (p % 32 + 1) 31 (sym (last_word p m) ∙ h) in omega (arith, g.seen.0)) in
          take eh (V10 (word p m) (To b)) (standing (takes w k s) w (V10 (word p m) (To b)) (v10 m refl refl) (take_slot s inv w none none p b k g eh l)) refl refl tt tt)

  -- the header of a block of the chain
  next_is : (b j : ℕ) → s.own b ≡ Chain j → (G b).next ≡ next_of s.link s.phys j
  next_is b j own = ap (λ (g : Block). g.next) (subst (λ (o : Own). HeadRep s.link s.phys o (G b)) own (here.sim.headers b (few b j own)))
    where
      few : (c k : ℕ) → s.own c ≡ Chain k → c < 64
      few c k e = here.sim.pool c (λ z. free_not_chain (s.own c) k z e)

  in_pool : (b j : ℕ) → s.own b ≡ Chain j → b < 64
  in_pool b j own = here.sim.pool b (λ z. free_not_chain (s.own b) j z own)

  -- V6
  pub pop_waits_next : (p b : ℕ) (m k : Bool) → Good s w none none (Going p b) → Does (V6 (word p m) (To b) (word (p + 1) k)) b 0 (act_v6 E (G b) (S b 0) (word p m) (To b) (word (p + 1) k))
  pop_waits_next p b m k g = subst P (sym (next_is b (p / 32) live)) (go (s.link (p / 32)) refl)
    where
      live : s.own b ≡ Chain (p / 32)
      live = pop_live s inv w p b g.seen.0

      p0 : Place
      p0 = V6 (word p m) (To b) (word (p + 1) k)

      P : Pointer → Type 0
      P d = Does (V6 (word p m) (To b) (word (p + 1) k)) b 0 (cond (none_of d) (leave E (G b) (S b 0) (V6 (word p m) (To b) (word (p + 1) k)))
          (leave E (G b) (S b 0) (V7 (word p m) (To b) (word (p + 1) k) d)))

      go : (t : Bool) → s.link (p / 32) ≡ t → P (cond t (To (s.phys (p / 32 + 1))) None)
      go true e =
          loads blocks slots ws meter s w here (V6 (word p m) (To b) (word (p + 1) k)) b 0 (in_pool b (p / 32) live) (omega arith) (V7 (word p m) (To b) (word (p + 1) k) (To (s.phys (p / 32 + 1))))
          (standing s w (V7 (word p m) (To b) (word (p + 1) k) (To (s.phys (p / 32 + 1)))) (v7 m k refl refl refl refl) (next_known s inv w none none p b g e)) (holds_on refl refl refl) tt tt
      go false e =
          loads blocks slots ws meter s w here (V6 (word p m) (To b) (word (p + 1) k)) b 0 (in_pool b (p / 32) live) (omega arith) (V6 (word p m) (To b) (word (p + 1) k))
          (standing s w (V6 (word p m) (To b) (word (p + 1) k)) (v6 m k refl refl refl) g) (holds_on refl refl refl) tt tt

  -- V7
  next_index_is : (p : ℕ) (k t : Bool) (d : ℕ) → 2 * (p + 1) + 3 < wide → next_index (word (p + 1) k) (cond t (To d) None) ≡ word (p + 2) t
  unfolding next_index
  next_index_is p k true d l = ap (λ (i : Index). with_mark (later i)) (unmarked_word (p + 1) k) ∙ ap with_mark (later_word (p + 1) false l)
      ∙ with_mark_word (p + 1 + 1) false ∙ ap (λ (i : ℕ). word i true) (omega arith)
  next_index_is p k false d l = ap later (unmarked_word (p + 1) k) ∙ later_word (p + 1) false l ∙ ap (λ (i : ℕ). word i false) (omega arith)

  pub pop_looks_next : (p b c : ℕ) (m k : Bool) → Good s w none none (Gone p b c)
      → Does (V7 (word p m) (To b) (word (p + 1) k) (To c)) c 0 (act_v7 E (G c) (S c 0) (word p m) (To b) (word (p + 1) k) (To c))
  pop_looks_next p b c m k g =
      let o = g.seen in
      let live = next_live s inv w p c o.1 o.2 o.3 o.4 in
      let i = next_index (word (p + 1) k) (G c).next in
      let is : next_index (word (p + 1) k) (G c).next ≡ word (p + 2) (s.link (p / 32 + 1)) = ap (next_index (word (p + 1) k)) (next_is c (p / 32 + 1) live)
      ∙ next_index_is p k (s.link (p / 32 + 1)) (s.phys (p / 32 + 1 + 1)) (narrow (p + 1) (omega (arith, o.2)) (omega (arith, o.2, o.3))) in
      loads blocks slots ws meter s w here (V7 (word p m) (To b) (word (p + 1) k) (To c)) c 0 (in_pool c (p / 32 + 1) live) (omega arith)
      (V8 (word p m) (To b) (To c) (next_index (word (p + 1) k) (G c).next))
      (standing s w (V8 (word p m) (To b) (To c) (next_index (word (p + 1) k) (G c).next)) (v8 m refl refl refl is) (index_known s inv w none none p b c g)) (holds_on refl refl refl) tt tt

  -- head has moved, so there is a first block
  begun : 0 < s.head → s.first ≡ Done
  begun l = go (done_or_not s.first)
    where
      go : Dec (s.first ≡ Done) → s.first ≡ Done
      go (yes e) = e
      go (no n) = absurd (omega (arith, (inv.ends.unfronted n).1))

  -- V8
  pub pop_moves : (p b c : ℕ) (m k : Bool) → Good s w none none (Leading p b c k)
      → Does (V8 (word p m) (To b) (To c) (word (p + 2) k)) 0 0 (act_v8 E (G 0) (S 0 0) (word p m) (To b) (To c) (word (p + 2) k))
  unfolding front_to
  pop_moves p b c m k g =
      let o = g.seen in
      on_ends blocks slots ws meter s w here (V8 (word p m) (To b) (To c) (word (p + 2) k)) 0 0 (omega arith) (omega arith) (front_to E (To c)) (V9 (word p m) (To b) (word (p + 2) k)) (moves c s)
      (sim_moves E blocks slots ws meter s here.sim w here.known (V9 (word p m) (To b) (word (p + 2) k)) c (To c) refl
      (moves_kept s inv c (begun (omega (arith, o.2))) (omega (arith, o.1, o.2))) (λ v ne. moves_rely s inv w v ne c p o.0.0 o.2)
      (standing (moves c s) w (V9 (word p m) (To b) (word (p + 2) k)) (v9 m refl refl refl) (move_good s inv w none none p b c k g)))
      (quiet_logs s (moves c s) w (V8 (word p m) (To b) (To c) (word (p + 2) k)) (V9 (word p m) (To b) (word (p + 2) k)) (holds_on refl refl refl) refl refl refl refl) tt tt

  -- V9
  pub pop_heads : (p b : ℕ) (m k : Bool) → Good s w none none (Heading p b k) → Does (V9 (word p m) (To b) (word (p + 2) k)) 0 0 (act_v9 E (G 0) (S 0 0) (word p m) (To b) (word (p + 2) k))
  unfolding head_to
  pop_heads p b m k g =
      let o = g.seen in
      let block : p / 32 ≡ s.head / 32 = omega (arith, o.1, o.2) in
      on_ends blocks slots ws meter s w here (V9 (word p m) (To b) (word (p + 2) k)) 0 0 (omega arith) (omega arith) (head_to E (word (p + 2) k)) (V10 (word p m) (To b)) (heads k s)
      (sim_heads E blocks slots ws meter s here.sim w here.known (V10 (word p m) (To b)) k (word (p + 2) k) (ap (λ (i : ℕ). word i k) (omega (arith, o.2)))
      (heads_kept s inv k (omega (arith, o.1, o.2)) (begun (omega (arith, o.2))) o.3 (o.4 ∙ ap (λ (i : ℕ). to (s.phys (i + 1))) block)
      (λ e. let z = o.5 e in omega arith)) (λ v ne. heads_rely s inv w v ne k p o.0.0 o.2)
      (standing (heads k s) w (V10 (word p m) (To b)) (v10 m refl refl) (head_good s inv w none none p b k g)))
      (neither refl refl (omega arith) refl refl (omega arith) (omega (arith, o.1, o.2)) refl (λ e. refl)) tt tt

  -- ---- the slot of a pop in hand
  slot_is : (b j i : ℕ) → s.own b ≡ Chain j → i < 31 → S b i ≡ slot (state_of (is_done (s.push (32 * j + i))) (read_bit i (s.pop (32 * j + i))) (s.destroy j i)) (s.val (32 * j + i))
  slot_is b j i own l = cell_at E blocks slots ws meter s here.sim w here.known V1 b j i own l

  -- V10
  pub pop_waits : (p b : ℕ) (m : Bool) → Good s w none none (Awaiting p b)
      → Does (V10 (word p m) (To b)) b (offset_of sizes (word p m)) (act_v10 E (G b) (S b (offset_of sizes (word p m))) (word p m) (To b))
  pop_waits p b m g =
      at_slot blocks slots ws meter s w here (V10 (word p m) (To b)) b p m (λ i. act_v10 E (G b) (S b i) (word p m) (To b))
      (either (λ (z : Acted). Does (V10 (word p m) (To b)) b (p % 32) z) (has 1 (S b (p % 32)).state) (leave E (G b) (S b (p % 32)) (V11 (word p m) (To b)))
      (leave E (G b) (S b (p % 32)) (V10 (word p m) (To b)))
      (λ h. goes (V11 (word p m) (To b)) (standing s w (V11 (word p m) (To b)) (v11 m refl refl) (written s inv w none none p b g (done_is (s.push p) (sym bit_is ∙ h)))) refl refl refl tt tt)
      (λ h. goes (V10 (word p m) (To b)) (standing s w (V10 (word p m) (To b)) (v10 m refl refl) g) refl refl refl tt tt))
    where
      live : s.own b ≡ Chain (p / 32)
      live = pop_live s inv w p b g.seen.0

      bit_is : has 1 (S b (p % 32)).state ≡ is_done (s.push p)
      bit_is =
          said 1 (S b (p % 32)).state (is_done (s.push p))
          (ap (λ (y : Slot). y.state / 1 % 2) (slot_is b (p / 32) (p % 32) live g.seen.0.2)
          ∙ write_said (is_done (s.push (32 * (p / 32) + p % 32))) (read_bit (p % 32) (s.pop (32 * (p / 32) + p % 32))) (s.destroy (p / 32) (p % 32))
          ∙ ap (λ (i : ℕ). bit (is_done (s.push i))) (sym (in_block p)))

      goes : (q : Place) → Standing s w q → item_by (sign_of (V10 (word p m) (To b))) (sign_of q) ≡ []
          → takes_by (sign_of (V10 (word p m) (To b))) (sign_of q) ≡ false → held (tale_of (V10 (word p m) (To b))) ≡ true
          → TellsTrue E (tale_of q) → OutOk s w (V10 (word p m) (To b)) (sign_of q) → Does (V10 (word p m) (To b)) b (p % 32) (leave E (G b) (S b (p % 32)) q)
      goes q n a c h = loads blocks slots ws meter s w here (V10 (word p m) (To b)) b (p % 32) (in_pool b (p / 32) live) g.seen.0.2 q n (holds_on a c h)

  -- V11
  pub pop_reads : (p b : ℕ) (m : Bool) → Good s w none none (Reading p b)
      → Does (V11 (word p m) (To b)) b (offset_of sizes (word p m)) (act_v11 sizes E (G b) (S b (offset_of sizes (word p m))) (word p m) (To b))
  unfolding read_out_of destroy_from
  pop_reads p b m g =
      at_slot blocks slots ws meter s w here (V11 (word p m) (To b)) b p m (λ i. act_v11 sizes E (G b) (S b i) (word p m) (To b))
      (either (λ (q : Place). Does (V11 (word p m) (To b)) b (p % 32) (leave E (G b) (S b (p % 32)) q)) (last_slot sizes (word p m))
      (V13 (To b) 0 (S b (p % 32)).value) (V12 (word p m) (To b) (S b (p % 32)).value)
      (λ h. last (let e = eqb-true (p % 32 + 1) 31 (sym (last_word p m) ∙ h) in omega arith))
      (λ h. other (let e = eqb-false (p % 32 + 1) 31 (sym (last_word p m) ∙ h) in omega (arith, g.seen.0.2))))
    where
      live : s.own b ≡ Chain (p / 32)
      live = pop_live s inv w p b g.seen.0

      v : ℕ
      v = (S b (p % 32)).value

      value_is : (S b (p % 32)).value ≡ s.val p
      value_is = ap (λ (y : Slot). y.value) (slot_is b (p / 32) (p % 32) live g.seen.0.2) ∙ ap s.val (sym (in_block p))

      other : p % 32 < 30 → Does (V11 (word p m) (To b)) b (p % 32) (leave E (G b) (S b (p % 32)) (V12 (word p m) (To b) (S b (p % 32)).value))
      other l =
          loads blocks slots ws meter s w here (V11 (word p m) (To b)) b (p % 32) (in_pool b (p / 32) live) g.seen.0.2 (V12 (word p m) (To b) (S b (p % 32)).value)
          (standing s w (V12 (word p m) (To b) (S b (p % 32)).value) (v12 m refl refl)
          (subst (λ (i : ℕ). Good s w none none (views.Popped p b i)) (sym value_is) (read_out s inv w none none p b g l))) (holds_on refl refl refl) tt tt

      last : p % 32 ≡ 30 → Does (V11 (word p m) (To b)) b (p % 32) (leave E (G b) (S b (p % 32)) (V13 (To b) 0 (S b (p % 32)).value))
      last l =
          let at : p ≡ 32 * (p / 32) + 30 = omega arith in
          let mine = subst (λ (i : ℕ). s.pop i ≡ By w) at g.seen.0.0 in
          let done = subst (λ (i : ℕ). s.push i ≡ Done) at g.seen.2 in
          let far = g.seen.1 l in
          on_ends blocks slots ws meter s w here (V11 (word p m) (To b)) b (p % 32) (in_pool b (p / 32) live) g.seen.0.2 E (V13 (To b) 0 (S b (p % 32)).value) (reads_last w (p / 32) s)
          (sim_reads_last E blocks slots ws meter s here.sim w here.known (V13 (To b) 0 (S b (p % 32)).value) (p / 32) (reads_last_kept s inv w (p / 32) mine done far)
          (λ u ne. reads_last_rely s inv w u ne (p / 32) mine (inv.dests.waits (p / 32) (λ e. hand_by_done (s.pop (32 * (p / 32) + 30)) w mine e)))
          (standing (reads_last w (p / 32) s) w (V13 (To b) 0 (S b (p % 32)).value) (v13 {b = b} {i = 0} refl (omega arith))
          (destroy_good s inv w p b none none (Reading p b) g refl refl refl g.seen.0 g.seen.2 (p / 32) 0 (S b (p % 32)).value refl
          (reads_last w (p / 32) s) refl refl (ap (λ (i : ℕ). upd s.pop i Done) (sym at)) refl refl refl refl refl
          (value_is ∙ reads_item s inv w none none p b g) live)))
          (quiet_logs s (reads_last w (p / 32) s) w (V11 (word p m) (To b)) (V13 (To b) 0 (S b (p % 32)).value) (holds_on refl refl refl) refl refl refl refl) tt tt

  -- what the bits of the slot of a block of the chain say
  module _ (b j i : ℕ) (own : s.own b ≡ Chain j) (l : i < 31) where
    read_there : (S b i).state / 2 % 2 ≡ bit (read_bit i (s.pop (32 * j + i)))
    read_there = ap (λ (y : Slot). y.state / 2 % 2) (slot_is b j i own l) ∙ read_said (is_done (s.push (32 * j + i))) (read_bit i (s.pop (32 * j + i))) (s.destroy j i)

    destroy_there : (S b i).state / 4 % 2 ≡ bit (s.destroy j i)
    destroy_there = ap (λ (y : Slot). y.state / 4 % 2) (slot_is b j i own l) ∙ destroy_said (is_done (s.push (32 * j + i))) (read_bit i (s.pop (32 * j + i))) (s.destroy j i)

  read_below : (i : ℕ) (h : Hand) → i < 30 → read_bit i h ≡ is_done h
  read_below i h l = ap (λ (t : Bool). cond t (is_done h) false) (lt-ltb i 30 l)

  -- DESTROY of a slot that is not read out: its reader is waited for
  parked_there : (j i : ℕ) → i < 30 → s.pop (32 * j + i) ≡ By w → s.destroy j i ≡ true → s.dest j ≡ Parked i
  parked_there j i l mine set = go (s.dest j) refl (inv.dests.dests j)
    where
      go : (d : Dest) → s.dest j ≡ d → DestOk (s.destroy j) s.pop j d → s.dest j ≡ Parked i
      go Wait e o = absurd (true≢false (sym set ∙ o i (omega arith)))
      go Freed e o = absurd (hand_by_done (s.pop (32 * j + i)) w mine (o i (omega arith)))
      go (Walk v k) e o = by (dec_lt i k)
        where
          by : Dec (i < k) → s.dest j ≡ Parked i
          by (yes z) = absurd (hand_by_done (s.pop (32 * j + i)) w mine (o.1 i z))
          by (no z) = absurd (true≢false (sym set ∙ o.2 i (omega arith) (omega arith)))
      go (Parked k) e o = by (dec_lt i k) (ℕ_discrete i k)
        where
          by : Dec (i < k) → Dec (i ≡ k) → s.dest j ≡ Parked i
          by (yes z) n = absurd (hand_by_done (s.pop (32 * j + i)) w mine (o.1 i z))
          by (no z) (yes y) = e ∙ ap Parked (sym y)
          by (no z) (no y) = absurd (true≢false (sym set ∙ o.4 i (omega arith) (omega arith)))

  none_parked : (j i : ℕ) → s.destroy j i ≡ false → s.dest j ≢ Parked i
  none_parked j i clear e = true≢false (sym (subst (DestOk (s.destroy j) s.pop j) e (inv.dests.dests j)).3 ∙ clear)

  -- "Destroy from i": V13 while i is below 30, then V15
  from_there : (u : Shared) (b i v : ℕ) (P : Place → Type 0) → i ≤ 30 → Good u w none none (Destroying b i v)
      → ((q : Place) → Standing u w q → sign_of q ≡ Plain → tale_of q ≡ step.holds → P q) → P (destroy_from sizes (To b) i v)
  unfolding destroy_from
  from_there u b i v P l g f =
      either P (ltb (i + 1) 31) (V13 (To b) i v) (V15 (To b) v)
      (λ h. let k : i < 30 = (let z = ltb-true (i + 1) 31 h in omega arith) in f (V13 (To b) i v) (standing u w (V13 (To b) i v) (v13 refl k) g) refl refl)
      (λ h. f (V15 (To b) v) (standing u w (V15 (To b) v) (v15 refl) (subst (λ (k : ℕ). Good u w none none (Destroying b k v)) (end h (dec_lt (i + 1) 31)) g)) refl refl)
    where
      end : ltb (i + 1) 31 ≡ false → Dec (i + 1 < 31) → i ≡ 30
      end h (yes z) = absurd (true≢false (sym (lt-ltb (i + 1) 31 z) ∙ h))
      end h (no z) = omega arith

  -- an act of a worker with a head claim that goes on with it
  goes_on : (u : Shared) (p0 q : Place) → held (tale_of p0) ≡ true → sign_of p0 ≡ Plain → sign_of q ≡ Plain → u.tail ≡ s.tail → u.item ≡ s.item → u.head ≡ s.head → u.got ≡ s.got → Logs s u w p0 q
  goes_on u p0 q h ep eq =
      quiet_logs s u w p0 q (holds_on (ap (λ (z : Sign). item_by z (sign_of q)) ep) (ap (λ (z : Sign). takes_by z (sign_of q)) ep) h)

  -- V12
  pub pop_sets : (p b v : ℕ) (m : Bool) → Good s w none none (views.Popped p b v)
      → Does (V12 (word p m) (To b) v) b (offset_of sizes (word p m)) (act_v12 sizes E (G b) (S b (offset_of sizes (word p m))) (word p m) (To b) v)
  unfolding destroy_if state_to
  pop_sets p b v m g =
      at_slot blocks slots ws meter s w here p0 b p m (λ k. leave E (G b) (state_to (S b k) (with 2 (S b k).state)) (destroy_if sizes (has 4 (S b k).state) (To b) k v))
      (either (λ (q : Place). Does p0 b i (leave E (G b) (state_to (S b i) (with 2 (S b i).state)) q)) (has 4 (S b i).state)
      (destroy_from sizes (To b) (i + 1) v) (Idle (Popped v)) (λ h. on (sym marked ∙ h)) (λ h. ends (sym marked ∙ h)))
    where
      i : ℕ
      i = p % 32

      j : ℕ
      j = p / 32

      p0 : Place
      p0 = V12 (word p m) (To b) v

      o : SeenOk s w (views.Popped p b v)
      o = g.seen

      live : s.own b ≡ Chain (p / 32)
      live = pop_live s inv w p b o.0

      mine : s.pop (32 * j + i) ≡ By w
      mine = subst (λ (k : ℕ). s.pop k ≡ By w) (in_block p) o.0.0

      done : s.push (32 * j + i) ≡ Done
      done = subst (λ (k : ℕ). s.push k ≡ Done) (in_block p) o.1

      marked : has 4 (S b i).state ≡ s.destroy j i
      marked = said 4 (S b i).state (s.destroy j i) (destroy_there b j i live o.0.2)

      with_read : with 2 (S b i).state ≡ (S b i).state + 2
      with_read = with_clear 2 (S b i).state (read_there b j i live o.0.2 ∙ ap bit (read_below i (s.pop (32 * j + i)) o.2 ∙ ap is_done mine))

      stored : (u : Shared) (q : Place) → Sim E blocks (set slots (b * 31 + i) (record { state = (S b i).state + 2; value = (S b i).value })) (set ws w (record { place = q })) (meter + 1) u
          → Sim E blocks (set slots (b * 31 + i) (state_to (S b i) (with 2 (S b i).state))) (set ws w (record { place = q })) (meter + 1) u
      stored u q z = subst (λ (k : ℕ). Sim E blocks (set slots (b * 31 + i) (record { state = k; value = (S b i).value })) (set ws w (record { place = q })) (meter + 1) u) (sym with_read) z

      ends : s.destroy j i ≡ false → Does p0 b i (leave E (G b) (state_to (S b i) (with 2 (S b i).state)) (Idle (Popped v)))
      ends clear =
          on_slot blocks slots ws meter s w here p0 b i (in_pool b j live) o.0.2 (state_to (S b i) (with 2 (S b i).state)) (Idle (Popped v)) (reads (32 * j + i) s)
          (stored (reads (32 * j + i) s) (Idle (Popped v)) (sim_reads E blocks slots ws meter s here.sim w here.known (Idle (Popped v)) b j i live o.0.2 w o.2 mine
          (reads_kept s inv w j i o.2 mine done (none_parked j i clear)) (λ u ne. reads_rely s inv w u ne (32 * j + i) mine)
          (standing (reads (32 * j + i) s) w (Idle (Popped v)) idle (subst (λ (k : ℕ). Good (reads k s) w none none Rest) (in_block p) (read_good s inv w none none p b v g)))))
          (quiet_logs s (reads (32 * j + i) s) w p0 (Idle (Popped v)) (lets_go refl refl refl) refl refl refl refl) tt
          (refl, omega (arith, o.0.1, o.0.4, inv.ends.low), o.3 ∙ ap s.item (sym o.0.4))

      on : s.destroy j i ≡ true → Does p0 b i (leave E (G b) (state_to (S b i) (with 2 (S b i).state)) (destroy_from sizes (To b) (i + 1) v))
      on set =
          let parked = parked_there j i o.2 mine set in
          from_there (reads_on w j i s) b (i + 1) v (λ q. Does p0 b i (leave E (G b) (state_to (S b i) (with 2 (S b i).state)) q)) (omega (arith, o.2))
          (destroy_good s inv w p b none none (views.Popped p b v) g refl refl refl o.0 o.1 j (i + 1) v refl (reads_on w j i s) refl refl
          (ap (λ (k : ℕ). upd s.pop k Done) (sym (in_block p))) refl refl refl refl refl o.3 live)
          (λ q n eq et. on_slot blocks slots ws meter s w here p0 b i (in_pool b j live) o.0.2 (state_to (S b i) (with 2 (S b i).state)) q (reads_on w j i s)
          (stored (reads_on w j i s) q (sim_reads_on E blocks slots ws meter s here.sim w here.known q b j i live o.0.2 w o.2 mine
          (reads_on_kept s inv w j i mine done parked) (λ u ne. reads_on_rely s inv w u ne j i mine parked) n))
          (goes_on (reads_on w j i s) p0 q refl refl eq refl refl refl refl) (subst (TellsTrue E) (sym et) tt) (subst (OutOk s w p0) (sym eq) tt))

  -- ---- V13 to V15: worker w destroys block j, from slot i on
  module _ (b i v : ℕ) (g : Good s w none none (Destroying b i v)) where
    live : s.own b ≡ Chain g.seen.0
    live = g.seen.2

    walk_ok : DestOk (s.destroy g.seen.0) s.pop g.seen.0 (Walk w i)
    walk_ok = subst (DestOk (s.destroy g.seen.0) s.pop g.seen.0) g.seen.1 (inv.dests.dests g.seen.0)

    read_is : i < 30 → has 2 (S b i).state ≡ is_done (s.pop (32 * g.seen.0 + i))
    read_is l = said 2 (S b i).state (is_done (s.pop (32 * g.seen.0 + i))) (read_there b g.seen.0 i live (omega arith) ∙ ap bit (read_below i (s.pop (32 * g.seen.0 + i)) l))

    -- V13
    pub pop_looks_read : i < 30 → Does (V13 (To b) i v) b i (act_v13 sizes E (G b) (S b i) (To b) i v)
    pop_looks_read l =
        either (λ (z : Acted). Does (V13 (To b) i v) b i z) (has 2 (S b i).state) _ _
        (λ h. from_there (walks s.destroy w g.seen.0 i s) b (i + 1) v (λ q. Does (V13 (To b) i v) b i (leave E (G b) (S b i) q)) (omega arith) (walk_good s inv w b i v none none g s.destroy)
        (λ q n eq et. on_ends blocks slots ws meter s w here (V13 (To b) i v) b i (in_pool b g.seen.0 live) (omega arith) E q (walks s.destroy w g.seen.0 i s)
        (sim_walks E blocks slots ws meter s here.sim w here.known q g.seen.0 i
        (walks_kept s inv w g.seen.0 i g.seen.1 l s.destroy (λ k ne. refl) (λ k z. refl) (done_is (s.pop (32 * g.seen.0 + i)) (sym (read_is l) ∙ h)))
        (λ u ne. walks_rely s inv w u ne g.seen.0 i g.seen.1 s.destroy) n)
        (goes_on (walks s.destroy w g.seen.0 i s) (V13 (To b) i v) q refl refl eq refl refl refl refl) (subst (TellsTrue E) (sym et) tt) (subst (OutOk s w (V13 (To b) i v)) (sym eq) tt)))
        (λ h. loads blocks slots ws meter s w here (V13 (To b) i v) b i (in_pool b g.seen.0 live) (omega arith) (V14 (To b) i v)
        (standing s w (V14 (To b) i v) (v14 refl l) g) (holds_on refl refl refl) tt tt)

    -- V14
    pub pop_destroys : i < 30 → Does (V14 (To b) i v) b i (act_v14 sizes E (G b) (S b i) (To b) i v)
    unfolding destroy_if state_to
    pop_destroys l =
        either (λ (q : Place). Does (V14 (To b) i v) b i (leave E (G b) (state_to (S b i) (with 4 (S b i).state)) q)) (has 2 (S b i).state) (destroy_from sizes (To b) (i + 1) v) (Idle (Popped v))
        (λ h. from_there (walks (destroy_bits k i s) w k i s) b (i + 1) v
        (λ q. Does (V14 (To b) i v) b i (leave E (G b) (state_to (S b i) (with 4 (S b i).state)) q)) (omega arith)
        (walk_good s inv w b i v none none g (destroy_bits k i s))
        (λ q n eq et. sets (Walk w (i + 1)) q
        (walks_kept s inv w k i g.seen.1 l (destroy_bits k i s) (λ m ne. upd_else s.destroy k m (upd (s.destroy k) i true) ne)
        (λ m z. ap (λ (f : ℕ → Bool). f m) (upd_same s.destroy k (upd (s.destroy k) i true)) ∙ upd_else (s.destroy k) i m true (λ y. omega arith))
        (done_is (s.pop (32 * k + i)) (sym (read_is l) ∙ h)))
        (λ u ne. walks_rely s inv w u ne k i g.seen.1 (destroy_bits k i s)) n
        (goes_on (walks (destroy_bits k i s) w k i s) (V14 (To b) i v) q refl refl eq refl refl refl refl) (subst (TellsTrue E) (sym et) tt) (subst (OutOk s w (V14 (To b) i v)) (sym eq) tt)))
        (λ h. sets (Parked i) (Idle (Popped v)) (parks_kept s inv w k i g.seen.1 l (not_done (s.pop (32 * k + i)) (sym (read_is l) ∙ h))) (λ u ne. parks_rely s inv w u ne k i g.seen.1)
        (standing (parks k i s) w (Idle (Popped v)) idle (park_good s inv w b i v none none g))
        (quiet_logs s (parks k i s) w (V14 (To b) i v) (Idle (Popped v)) (lets_go refl refl refl) refl refl refl refl) tt (refl, g.seen.3, g.seen.4))
      where
        k : ℕ
        k = g.seen.0

        clear : s.destroy k i ≡ false
        clear = walk_ok.2 i (omega arith) (omega arith)

        sets : (d : Dest) (q : Place) → Inv (destroys d k i s) → ((u : ℕ) → u ≢ w → Rely s (destroys d k i s) u) → Standing (destroys d k i s) w q → Logs s (destroys d k i s) w (V14 (To b) i v) q
            → TellsTrue E (tale_of q) → OutOk s w (V14 (To b) i v) (sign_of q) → Does (V14 (To b) i v) b i (leave E (G b) (state_to (S b i) (with 4 (S b i).state)) q)
        sets d q inv' r n =
            on_slot blocks slots ws meter s w here (V14 (To b) i v) b i (in_pool b k live) (omega arith) (state_to (S b i) (with 4 (S b i).state)) q (destroys d k i s)
            (subst (λ (y : ℕ). Sim E blocks (set slots (b * 31 + i) (record { state = y; value = (S b i).value })) (set ws w (record { place = q })) (meter + 1) (destroys d k i s))
            (sym (with_clear 4 (S b i).state (destroy_there b k i live (omega arith) ∙ ap bit clear)))
            (sim_destroys E blocks slots ws meter s here.sim w here.known q d b k i live (omega arith) clear inv' r n))

  -- V15
  pub pop_frees : (b v : ℕ) → Good s w none none (Destroying b 30 v) → Does (V15 (To b) v) b 0 (act_v15 E (G b) (S b 0) v)
  unfolding freed
  pop_frees b v g =
      let c = inv.owns.chain b g.seen.0 g.seen.2 in
      on_header blocks slots ws meter s w here (V15 (To b) v) b (in_pool b g.seen.0 g.seen.2) (freed (G b)) (Idle (Popped v)) (frees g.seen.0 s)
      (sim_frees E blocks slots ws meter s here.sim w here.known (Idle (Popped v)) b (in_pool b g.seen.0 g.seen.2) g.seen.0 (sym c.2)
      (frees_kept s inv w g.seen.0 g.seen.1 c.0)
      (λ u ne. frees_rely s inv w u ne g.seen.0 g.seen.1 (ap s.own c.2 ∙ g.seen.2))
      (standing (frees g.seen.0 s) w (Idle (Popped v)) idle (free_good s inv w b 30 v none none g c.2)))
      (quiet_logs s (frees g.seen.0 s) w (V15 (To b) v) (Idle (Popped v)) (lets_go refl refl refl) refl refl refl refl) tt (refl, g.seen.3, g.seen.4)
