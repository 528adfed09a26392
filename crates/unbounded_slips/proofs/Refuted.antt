-- Each slip, refuted by computing its schedule.
use Prim.Native.Nat.{ℕ, ◌+◌, ◌*◌}
use mathlib.Core.Path.{◌≡◌, refl, sym, ap, ◌∙◌}
use mathlib.Core.Bool.{Bool, true, false, cond, true≢false}
use mathlib.Core.List.{List, [], ◌∷◌, ◌++◌}
use native.Mathlib.Omega.{arith}
use lib.ListN.{length, get_or, length-append}
use Rattle.queue_entries.specs.declared.Order.TheVariants.{Act}
use Rattle.queue_entries.specs.declared.Entry.TheVariants.{Asks}
use Rattle.queue_entries.specs.declared.Entry.TheVariants.{Unreadable}
use Rattle.queue_entries.specs.Schedules.{run_by, search_by, schedule_by, history_by}
use Rattle.queue_entries.specs.Entries.{stray_of, order_of, entry_of, entry_but}
use Rattle.queue_entries.specs.Limits.{all, in_limits}
use Rattle.unbounded_words.specs.declared.Pointer.TheVariants.{To}
use Rattle.unbounded_words.specs.Words.{index, past_slots, last_slot, marked_of, unmarked_of, with_mark, later, same, same_position, same_block, minus, settled, behind, count_of}
use Rattle.unbounded_places.specs.declared.Answer.{Answer}
use Rattle.unbounded_places.specs.declared.Answer.TheVariants.{Closed, Popped, Empty}
use Rattle.unbounded_places.specs.declared.Place.TheVariants.{Idle, V1, V2, V3, V12}
use Rattle.unbounded_places.specs.Places.{view_of}
use Rattle.unbounded_acts.specs.Acts.{leave, head_to, front_to, tail_to, back_to_words, next_to, freed, state_to, value_to, has, with, first_or, answered, lacks_next}
use Rattle.unbounded_acts.specs.Acts.{push_from, set_aside, claimed, take_or, pop_from, new_head, taken, next_index, destroy_from, read_out_of, destroy_if, act_of}
use Rattle.unbounded_machine.specs.declared.Machine.{Machine}
use Rattle.unbounded_machine.specs.declared.Ran.{Ran}
use Rattle.unbounded_machine.specs.declared.Event.{Event}
use Rattle.unbounded_machine.specs.Machine.{live, free_blocks, empty_slots, idlers, fresh_of, blank, refused, accepted, place_of}
use Rattle.unbounded_machine.specs.Drop.{last_fits, without, walk_from, items_from, walk_of}
use Rattle.unbounded_machine.specs.Drop as drop
use Rattle.unbounded_machine.specs.Broken.{record_fits, records_fit, all_idle, drop_fits, broken_in}
use Rattle.unbounded_machine.specs.Turn.{entry_here, lowest_from, lowest_free, cleared_from, cleared, begun, stored, acted_at, moved_by, turn_with}
use Rattle.unbounded_machine.specs.Contents.{contents_of}
use Rattle.unbounded_machine.specs.Run.{ran}
use Rattle.unbounded_machine.specs.History.{event}
use Rattle.unbounded_demands.specs.Notions.{Definition, definition, Acts, acts, Truth, Allowed, machine_after, acts_of, Sign, Plain, Exchange7, Exchange4, Pops}
use Rattle.unbounded_demands.specs.Notions.{Pushes, HandsOut, sign_of, item_by, takes_by, item_of, takes, items_of, takers_of, takings_of, freeings_of, LatestIn}
use Rattle.unbounded_demands.specs.Notions.{ItemIn, Fifo, start, enqueue, dequeue, rest, push12, read11}
use Rattle.unbounded_demands.specs.Notions as notions
use Rattle.unbounded_demands.specs.Demands.{AnswersTrue}
use Rattle.unbounded_demands.specs.Runs.{short}
use Rattle.unbounded_proof_demand2.proofs.Logged.{items_more, takers_more}
use Rattle.unbounded_slips.specs.Slips.{slipped, closed_unseen, empty_unseen, hands_out_again, reads_early}
use Rattle.unbounded_slips.specs.Refuted.{reached, past, does, Refuted, push_loses, pop_looks, pop_of_nothing}

two : Allowed 2
two = record { worker_some = omega arith; worker_most = omega arith }

abbrev busy_at : Machine → ℕ → Bool
busy_at m w = (view_of short (place_of m.workers w)).busy

-- The one claim that there is.
pub sole : (w : ℕ) → LatestIn (w ∷ []) w 0
sole w = record { made = omega arith; its = refl; last = λ n a b. absurd (omega arith) }

-- Where there is one claim, of the item x, no other item is its.
pub other_item : (h : List Event) (w x v : ℕ) → items_of h ≡ x ∷ [] → (x ≡ v → ⊥) → ((k : ℕ) × LatestIn (takers_of h) w k × ItemIn h k v) → ⊥
other_item h w x v one ne (k, l, i) =
    let z : k ≡ 0 = omega (arith, i.made, ap length one) in
    ne (sym (ap (λ (y : List ℕ). get_or y k 0) one ∙ ap (λ (n : ℕ). get_or (x ∷ []) n 0) z) ∙ i.is)

-- If the next act of w answers, what it answers is true.
pub said : (d : Definition) (m : Machine) (w : ℕ) (a : Answer) → AnswersTrue d m → entry_here (16 * w + 8) 0 ≡ Asks w (Act false)
    → d.turn m (16 * w + 8) 0 ≡ accepted (d.turn m (16 * w + 8) 0).machine → place_of (d.turn m (16 * w + 8) 0).machine.workers w ≡ Idle a → Truth m.ends a
said d m w a true_then asks done ends =
    true_then w (d.turn m (16 * w + 8) 0).machine a (record { first = 16 * w + 8; second = 0; lose = false; asks = asks; done = done }) ends

-- An act that puts takes nothing, and one that takes puts nothing.
puts_only : (a b : Sign) (x : ℕ) → item_by a b ≡ x ∷ [] → takes_by a b ≡ false
puts_only Plain b x e = refl
puts_only Exchange7 b x e = refl
puts_only Exchange4 b x e = absurd (let q = ap length e in omega arith)
puts_only Pops b x e = refl
puts_only (Pushes y) b x e = refl
puts_only (HandsOut v) b x e = refl

takes_only : (a b : Sign) → takes_by a b ≡ true → item_by a b ≡ []
takes_only Plain b e = refl
takes_only Exchange7 b e = absurd (true≢false (sym e))
takes_only Exchange4 b e = refl
takes_only Pops b e = refl
takes_only (Pushes y) b e = refl
takes_only (HandsOut v) b e = refl

-- A plain queue has what was put and not taken.
more : (g : List Event) (e : Event) (l : List ℕ) (t : Bool) → item_of e ≡ l → takes e ≡ t → length (items_of (g ++ e ∷ [])) ≡ length (items_of g) + length l
more g e l t a b = ap length (items_more g e ∙ ap (λ (y : List ℕ). items_of g ++ y) a) ∙ length-append (items_of g) l

fewer : (g : List Event) (e : Event) (t : Bool) → takes e ≡ t → length (takers_of (g ++ e ∷ [])) ≡ length (takers_of g) + length (cond t (e.worker ∷ []) [])
fewer g e t b = ap length (takers_more g e ∙ ap (λ (y : Bool). takers_of g ++ cond y (e.worker ∷ []) []) b) ∙ length-append (takers_of g) (cond t (e.worker ∷ []) [])

pub balanced : (h : List Event) (q : List ℕ) → Fifo h q → length (items_of h) ≡ length (takers_of h) + length q
unfolding items_of takers_of
balanced h q start = refl
balanced h q (enqueue g p e x f is) =
    more g e (x ∷ []) false is (puts_only (sign_of e.before) (sign_of e.after) x is)
    ∙ omega (arith, balanced g p f, length-append p (x ∷ []), fewer g e false (puts_only (sign_of e.before) (sign_of e.after) x is))
balanced h q (dequeue g p e x f is) = more g e [] true (takes_only (sign_of e.before) (sign_of e.after) is) is ∙ omega (arith, balanced g (x ∷ q) f, fewer g e true is)
balanced h q (rest g p e f none is) = more g e [] false none is ∙ omega (arith, balanced g p f, fewer g e false is)

readable : entry_here 0 5 ≡ Unreadable → ⊥
unfolding stray_of order_of entry_of entry_but
readable e = let q : ◌≡◌ {A = ℕ} 0 1 = cc in omega arith

pub refuted : Refuted
unfolding past_slots last_slot marked_of unmarked_of with_mark later same same_position same_block minus settled behind count_of stray_of order_of entry_of leave head_to
    front_to tail_to back_to_words next_to freed state_to value_to has with first_or answered lacks_next push_from set_aside claimed take_or pop_from new_head taken next_index
    destroy_from read_out_of destroy_if live free_blocks empty_slots idlers fresh_of blank refused accepted last_fits without walk_from items_from walk_of drop.items_of all
    in_limits record_fits records_fit all_idle drop_fits broken_in entry_but lowest_from lowest_free cleared_from cleared begun stored acted_at moved_by turn_with contents_of
    ran run_by search_by schedule_by history_by acts items_of takers_of takings_of freeings_of notions.chained
refuted =
    record {
      act_by_act = λ a. true≢false (sym (ap (λ (m : Machine). busy_at m 0) (a (fresh_of short 2) [] 0 5 refl refl refl).0));
      whole_schedules = λ w. true≢false (ap (λ (r : Ran). busy_at r.machine 0) ((w 2 two (0 ∷ 5 ∷ [])).0 refl (readable, tt)));
      no_block =
          λ n.
          let q : ◌≡◌ {A = ℕ} 23 0 = (n (machine_after (definition short act_of) 2 (does 0 0 5 8 ++ does 0 0 6 2)) 0 8 0 refl
          (record { asks = refl; known = omega arith; busy = refl; in_time = omega arith })).2 refl (omega arith) in
          omega arith;
      unbroken = true≢false;
      claim_rule =
          λ r.
          other_item _ 1 5 0 refl (λ z. omega arith)
          (r (acts_of (slipped reads_early) 2 (does 0 0 5 6 ++ does 1 2 0 6)) [] (event 1 (V12 (index 0) (To 0) 0) (Idle (Popped 0))) 0 refl refl);
      once_out =
          λ o.
          o (acts_of (slipped hands_out_again) 2 (does 0 0 5 8 ++ does 0 2 0 6)) (event 0 V1 (V2 (index 2)) ∷ event 0 (V2 (index 2)) (V3 (index 2) (To 0)) ∷ []) []
          (event 0 (V12 (index 0) (To 0) 5) (Idle (Popped 5))) (event 0 (V3 (index 2) (To 0)) (Idle (Popped 0))) 5 0 0 refl refl refl (sole 0) (sole 0);
      one_hand = λ h. let q : ◌≡◌ {A = ℕ} 0 1 = h.0 0 1 (index 0) (index 0) push12 push12 refl in omega arith;
      reads = λ r. true≢false (sym (r 1 (To 0) (index 0) read11).3);
      none_free = λ f. true≢false (sym (f 0));
      answers_empty = λ a. let q = (said (slipped empty_unseen) (reached pop_looks) 1 Empty a refl refl refl).1 in omega arith;
      answers_closed = λ a. true≢false (sym (said (slipped closed_unseen) (reached push_loses) 0 (Closed 5) a refl refl refl));
      freed_once = λ f. let q : ◌≡◌ {A = ℕ} 1 2 = f 0 (omega arith) in omega arith;
      freed_once_aside = λ f. let q : ◌≡◌ {A = ℕ} 1 2 = f 1 (omega arith) in omega arith;
      chained = λ c. true≢false ((c refl).0 1 (omega arith));
      contents = λ c. let q : ◌≡◌ {A = ℕ} 0 5 = ap (λ (l : List ℕ). get_or l 0 0) (c refl) in omega arith;
      fifo = λ f. let q : ◌≡◌ {A = ℕ} 1 2 = balanced (past pop_of_nothing) [] f in omega arith;
    }
