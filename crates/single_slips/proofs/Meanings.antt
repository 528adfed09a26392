-- What an answer means, refuted of each slip: its schedule's story is computed, and the plain queue along it.
use Prim.Native.Nat.{ℕ, ◌≤◌, ◌<◌}
use native.Mathlib.Omega.{arith}
use mathlib.Core.List.{[], ◌∷◌, ◌++◌}
use mathlib.Core.Path.{◌≡◌, refl, sym, ap, ◌∙◌, subst}
use mathlib.Core.Logic.{inr}
use Rattle.queue_entries.specs.declared.Call.{Call}
use Rattle.queue_entries.specs.declared.Call.TheVariants as call
use Rattle.queue_entries.specs.Schedules.{run_by, history_by}
use Rattle.queue_entries.specs.Entries.{stray_of, order_of, entry_of}
use Rattle.queue_entries.specs.Limits.{all, in_limits}
use Rattle.queue_schedules.specs.Alone.{acts}
use Rattle.queue_schedules.proofs.Splits.{cons_first, no_cons}
use Rattle.queue_plain.specs.Plain.{answer_of}
use Rattle.queue_plain.specs.Plain as plain
use Rattle.queue_plain.specs.Story.{Begun, Does, items_of, known_from, followed_from}
use Rattle.single_words.specs.declared.State.{State}
use Rattle.single_words.specs.Words.{state, same, locked_in, pushed_in, closed_in, unlocked, taken_of}
use Rattle.single_places.specs.declared.Answer.{Answer}
use Rattle.single_places.specs.declared.Answer.TheVariants.{Pushed, Full, Displaced, Popped, Empty, Len, Yes}
use Rattle.single_places.specs.declared.Place.TheVariants.{Idle, A1, A2, A3, B1, B4, B5, C1, C2, C3, Len1, Close1}
use Rattle.single_acts.specs.Acts.{goes, state_to, value_to, exchanged, unlocked_in}
use Rattle.single_machine.specs.declared.Event.{Event}
use Rattle.single_machine.specs.Machine.{idlers, fresh_of, refused, accepted}
use Rattle.single_machine.specs.Broken.{record_fits, idle_from}
use Rattle.single_machine.specs.Contents.{contents_of}
use Rattle.single_machine.specs.Turn.{begun, stored, acted_by, turn_of_by}
use Rattle.single_machine.specs.Run.{ran}
use Rattle.single_machine.specs.History.{event}
use Rattle.single_demands.specs.Stories.{Story, known, reply_of, room_taken, asked_at, moment_of}
use Rattle.single_demands.specs.Demands.{Answered, Meant, Changes}
use Rattle.single_slips.specs.Slips.{always_full, unlock_clears_pushed, push_drops, pushes_another, pops_another}
use Rattle.single_slips.specs.Refuted.{told, PlainIn, one_push, push_acts, push_pop, push_peek, force_displaces, force_past_pop, pop_while_push, push_while_pop}
use Rattle.single_slips.specs.Refuted.{pop_while_pop, force_while_pop, close_twice, len_while_push}

-- ---- the stories, up to the act that is wrong

abbrev push_begun : Story
push_begun = Begun 0 (call.Push 5) ∷ []

abbrev push_takes : Story
push_takes = Begun 0 (call.Push 5) ∷ Does (event 0 (A1 5) (A2 5)) ∷ []

abbrev push_done : Story
push_done = push_takes ++ Does (event 0 (A2 5) A3) ∷ Does (event 0 A3 (Idle Pushed)) ∷ []

abbrev pop_begun : Story
pop_begun = push_done ++ Begun 0 call.Pop ∷ []

abbrev pop_takes : Story
pop_takes = pop_begun ++ Does (event 0 (C1 (state 2)) C2) ∷ []

abbrev force_past : Story
force_past =
    push_done ++ Begun 1 (call.ForcePush 6) ∷ Does (event 1 (B1 (state 0) 6) (B1 (state 2) 6)) ∷ Begun 0 call.Pop
    ∷ Does (event 0 (C1 (state 2)) C2) ∷ Does (event 0 C2 (C3 5)) ∷ Does (event 0 (C3 5) (Idle (Popped 5))) ∷ []

abbrev force_swaps : Story
force_swaps =
    push_done ++ Begun 0 (call.ForcePush 6) ∷ Does (event 0 (B1 (state 0) 6) (B1 (state 2) 6)) ∷ Does (event 0 (B1 (state 2) 6) (B4 6)) ∷ Does (event 0 (B4 6) (B5 6)) ∷ []

-- ---- the plain queue's answer, at the moment and to the call that a story has
asked_so : (earlier : Story) (act : Event) (a : Answer) (c : Call) (n : ℕ) → ((known earlier).each act.worker).calls ≡ c ∷ [] → moment_of act.worker (earlier ++ Does act ∷ []) ≡ n
    → Answered earlier act a → answer_of (asked_at n earlier c) c ∷ [] ≡ reply_of a
asked_so earlier act a c n its named o =
    let same_call : o.call ≡ c = cons_first (sym o.its ∙ its) in
    let same_moment : o.moment ≡ n = sym o.named ∙ named in
    subst (λ (x : Call). answer_of (asked_at n earlier x) x ∷ [] ≡ reply_of a) same_call
    (subst (λ (k : ℕ). answer_of (asked_at k earlier o.call) o.call ∷ [] ≡ reply_of a) same_moment o.plain)

-- ---- Pushed, and the item not put in

pushed_unput : Meant push_begun (event 0 (A1 5) (Idle Pushed)) Pushed → ⊥
unfolding items_of known_from
pushed_unput o = no_cons o.put

forced_unput : Meant force_past (event 1 (B1 (state 2) 6) (Idle Pushed)) Pushed → ⊥
unfolding items_of known_from
forced_unput o = no_cons o.put

pub plain_push_drops : PlainIn (push_acts push_drops) → ⊥
unfolding same stray_of order_of entry_of goes idlers fresh_of refused accepted begun stored acted_by turn_of_by history_by acts
plain_push_drops p = pushed_unput (p.answers push_begun [] (event 0 (A1 5) (Idle Pushed)) Pushed refl refl).1

pub plain_force_drops : PlainIn force_past_pop → ⊥
unfolding same locked_in pushed_in closed_in unlocked taken_of stray_of order_of entry_of goes state_to value_to exchanged unlocked_in idlers fresh_of refused accepted
    begun stored acted_by turn_of_by history_by acts
plain_force_drops p = forced_unput (p.answers force_past [] (event 1 (B1 (state 2) 6) (Idle Pushed)) Pushed refl refl).1

-- ---- another item put in, another handed out, or none taken out

pub plain_another_in : PlainIn (push_acts pushes_another) → ⊥
unfolding same stray_of order_of entry_of goes state_to idlers fresh_of refused accepted begun stored acted_by turn_of_by ran run_by history_by acts items_of known_from
plain_another_in p = let q : ◌≡◌ {A = ℕ} 5 6 = cons_first {xs = []} {ys = []} (p.item_kept 0 6 refl) in omega arith

popped_other : Meant (pop_takes ++ Does (event 0 C2 (C3 6)) ∷ []) (event 0 (C3 6) (Idle (Popped 6))) (Popped 6) → ⊥
unfolding items_of known_from
popped_other o = let q : ◌≡◌ {A = ℕ} 5 6 = cons_first {xs = []} {ys = []} o.took in omega arith

displaced_own : Meant force_swaps (event 0 (B5 6) (Idle (Displaced 6))) (Displaced 6) → ⊥
unfolding items_of known_from
displaced_own o = let q : ◌≡◌ {A = ℕ} 5 6 = cons_first {xs = []} {ys = []} o.took in omega arith

popped_untaken : Meant pop_begun (event 0 (C1 (state 2)) (Idle (Popped 5))) (Popped 5) → ⊥
unfolding items_of known_from
popped_untaken o = no_cons o.took

pub plain_another_out : PlainIn (push_pop pops_another) → ⊥
unfolding same locked_in pushed_in closed_in unlocked taken_of stray_of order_of entry_of goes state_to value_to exchanged unlocked_in idlers fresh_of refused accepted
    begun stored acted_by turn_of_by history_by acts
plain_another_out p = popped_other (p.answers (pop_takes ++ Does (event 0 C2 (C3 6)) ∷ []) [] (event 0 (C3 6) (Idle (Popped 6))) (Popped 6) refl refl).1

pub plain_own_out : PlainIn force_displaces → ⊥
unfolding same locked_in pushed_in closed_in unlocked taken_of stray_of order_of entry_of goes state_to value_to exchanged unlocked_in idlers fresh_of refused accepted
    begun stored acted_by turn_of_by history_by acts
plain_own_out p = displaced_own (p.answers force_swaps [] (event 0 (B5 6) (Idle (Displaced 6))) (Displaced 6) refl refl).1

pub plain_peeks : PlainIn push_peek → ⊥
unfolding same locked_in pushed_in closed_in unlocked taken_of stray_of order_of entry_of goes state_to value_to exchanged unlocked_in idlers fresh_of refused accepted
    begun stored acted_by turn_of_by history_by acts
plain_peeks p = popped_untaken (p.answers pop_begun [] (event 0 (C1 (state 2)) (Idle (Popped 5))) (Popped 5) refl refl).1

-- ---- Full of a queue with room, Empty of one where an item waits, a second close that says yes, len 0 where one waits

full_untrue : Answered push_begun (event 0 (A1 5) (Idle (Full 5))) (Full 5) → ⊥
unfolding known_from followed_from
full_untrue o =
    let e : plain.Pushed ≡ plain.Full 5 = cons_first {xs = []} {ys = []} (asked_so push_begun (event 0 (A1 5) (Idle (Full 5))) (Full 5) (call.Push 5) 1 refl refl o) in
    let q : ◌≡◌ {A = ℕ} 0 1 = cc in omega arith

abbrev pop_besides : Story
pop_besides = push_takes ++ Begun 1 call.Pop ∷ []

empty_untrue : Answered pop_besides (event 1 (C1 (state 2)) (Idle Empty)) Empty → ⊥
unfolding items_of known_from followed_from
empty_untrue o =
    let e : plain.Popped 5 ≡ plain.Empty = cons_first {xs = []} {ys = []} (asked_so pop_besides (event 1 (C1 (state 2)) (Idle Empty)) Empty call.Pop 3 refl refl o) in
    let q : ◌≡◌ {A = ℕ} 0 1 = cc in omega arith

abbrev len_besides : Story
len_besides = push_takes ++ Begun 1 call.Len ∷ []

len_untrue : Answered len_besides (event 1 Len1 (Idle (Len 0))) (Len 0) → ⊥
unfolding items_of known_from followed_from
len_untrue o =
    let e : plain.Count 1 ≡ plain.Count 0 = cons_first {xs = []} {ys = []} (asked_so len_besides (event 1 Len1 (Idle (Len 0))) (Len 0) call.Len 3 refl refl o) in
    let q : ◌≡◌ {A = ℕ} 1 0 = cc in omega arith

abbrev closed_once : Story
closed_once = Begun 0 call.Close ∷ Does (event 0 Close1 (Idle Yes)) ∷ Begun 0 call.Close ∷ []

yes_untrue : Answered closed_once (event 0 Close1 (Idle Yes)) Yes → ⊥
unfolding known_from followed_from
yes_untrue o =
    let e : plain.No ≡ plain.Yes = cons_first {xs = []} {ys = []} (asked_so closed_once (event 0 Close1 (Idle Yes)) Yes call.Close 3 refl refl o) in
    let q : ◌≡◌ {A = ℕ} 0 1 = cc in omega arith

pub plain_full : PlainIn (push_acts always_full) → ⊥
unfolding same stray_of order_of entry_of goes idlers fresh_of refused accepted begun stored acted_by turn_of_by history_by acts
plain_full p = full_untrue (p.answers push_begun [] (event 0 (A1 5) (Idle (Full 5))) (Full 5) refl refl).0

pub plain_empty : PlainIn pop_while_push → ⊥
unfolding same locked_in closed_in stray_of order_of entry_of goes state_to exchanged idlers fresh_of refused accepted begun stored acted_by turn_of_by history_by acts
plain_empty p = empty_untrue (p.answers pop_besides [] (event 1 (C1 (state 2)) (Idle Empty)) Empty refl refl).0

pub plain_close : PlainIn close_twice → ⊥
unfolding stray_of order_of entry_of goes idlers fresh_of refused accepted begun stored acted_by turn_of_by history_by acts
plain_close p = yes_untrue (p.answers closed_once [] (event 0 Close1 (Idle Yes)) Yes refl refl).0

pub plain_len : PlainIn len_while_push → ⊥
unfolding same locked_in closed_in stray_of order_of entry_of goes state_to exchanged idlers fresh_of refused accepted begun stored acted_by turn_of_by history_by acts
plain_len p = len_untrue (p.answers len_besides [] (event 1 Len1 (Idle (Len 0))) (Len 0) refl refl).0

-- ---- an item put in while a pop has not let go

abbrev push_besides : Story
push_besides = pop_takes ++ Begun 1 (call.Push 6) ∷ []

put_beside_pop : Changes push_besides (event 1 (A1 6) (A2 6)) → ⊥
unfolding followed_from
put_beside_pop o = let q : ◌≡◌ {A = ℕ} 1 0 = o.let_go (inr refl) in omega arith

pub plain_room : PlainIn push_while_pop → ⊥
unfolding same locked_in pushed_in closed_in unlocked taken_of stray_of order_of entry_of goes state_to value_to exchanged unlocked_in idlers fresh_of refused accepted
    begun stored acted_by turn_of_by history_by acts
plain_room p = put_beside_pop (p.changes push_besides [] (event 1 (A1 6) (A2 6)) refl)

second_pop : Story
second_pop = pop_takes ++ Begun 1 call.Pop ∷ Does (event 1 (C1 (state 2)) C2) ∷ []

two_rooms : room_taken second_pop ≤ 1 → ⊥
unfolding followed_from second_pop
two_rooms o = omega arith

pub plain_two_pops : PlainIn pop_while_pop → ⊥
unfolding same locked_in pushed_in closed_in unlocked taken_of stray_of order_of entry_of goes state_to value_to exchanged unlocked_in idlers fresh_of refused accepted
    begun stored acted_by turn_of_by history_by acts second_pop
plain_two_pops p = let is : told pop_while_pop ≡ second_pop = refl in two_rooms (subst (λ (z : Story). room_taken z ≤ 1) is p.room.most)

-- ---- a force_push that keeps LOCKED in the word that it expects

abbrev force_besides : Story
force_besides = pop_takes ++ Begun 1 (call.ForcePush 6) ∷ []

kept_locked : Changes force_besides (event 1 (B1 (state 0) 6) (B1 (state 1) 6)) → ⊥
unfolding followed_from known_from
kept_locked o =
    let e : B1 (state 1) 6 ≡ B1 (state 0) 6 = o.goes_back (state 0) 6 refl (let q : 0 < 1 = omega arith in q) refl in
    let words : state 1 ≡ state 0 = cc in
    let q : ◌≡◌ {A = ℕ} 1 0 = ap (λ (z : State). z.0) words in omega arith

pub plain_goes_back : PlainIn force_while_pop → ⊥
unfolding same locked_in pushed_in closed_in unlocked taken_of stray_of order_of entry_of goes state_to value_to exchanged unlocked_in idlers fresh_of refused accepted
    begun stored acted_by turn_of_by history_by acts
plain_goes_back p = kept_locked (p.changes force_besides [] (event 1 (B1 (state 0) 6) (B1 (state 1) 6)) refl)

-- ---- an item that waits, and is not in the contents

pub plain_lost : PlainIn (one_push unlock_clears_pushed) → ⊥
unfolding same locked_in pushed_in closed_in unlocked taken_of stray_of order_of entry_of goes state_to value_to exchanged unlocked_in idlers fresh_of refused accepted all
    in_limits record_fits idle_from contents_of begun stored acted_by turn_of_by ran run_by history_by acts items_of known_from
plain_lost p = no_cons (p.nothing_lost.contents refl)
