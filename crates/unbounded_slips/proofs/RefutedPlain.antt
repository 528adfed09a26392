-- Each table that is no plain queue's, refuted by computing its schedule's story, and the plain queue along it.
use Prim.Native.Nat.{ℕ, ◌<◌}
use native.Mathlib.Omega.{arith}
use mathlib.Core.Bool.{Bool, true, false, cond, true≢false}
use mathlib.Core.List.{List, [], ◌∷◌, ◌++◌}
use mathlib.Core.Path.{◌≡◌, refl, sym, ap, ◌∙◌, subst}
use mathlib.Core.Logic.{◌⊎◌, inl, inr}
use lib.Dec.{eqb}
use Rattle.queue_entries.specs.declared.Call.{Call}
use Rattle.queue_entries.specs.declared.Call.TheVariants as call
use Rattle.queue_entries.specs.Schedules.{run_by, history_by}
use Rattle.queue_entries.specs.Entries.{stray_of, order_of, entry_of, entry_but}
use Rattle.queue_entries.specs.Limits.{all, in_limits}
use Rattle.queue_schedules.proofs.Splits.{cons_first, cons_rest, no_cons, no_split}
use Rattle.queue_plain.specs.Plain.{answer_of}
use Rattle.queue_plain.specs.Plain as plain
use Rattle.queue_plain.specs.Story.{Begun, Does, items_of, known_from, followed_from}
use Rattle.unbounded_words.specs.declared.Pointer.TheVariants.{None, To}
use Rattle.unbounded_words.specs.Words.{index, past_slots, last_slot, marked_of, unmarked_of, with_mark, later, same, same_position, same_block, minus, settled, behind, count_of}
use Rattle.unbounded_places.specs.declared.Answer.{Answer}
use Rattle.unbounded_places.specs.declared.Answer.TheVariants.{Nothing, Pushed, Closed, Popped, Empty, PopClosed, Len, Yes, No}
use Rattle.unbounded_places.specs.declared.Place.{Place}
use Rattle.unbounded_places.specs.declared.Place.TheVariants.{Idle, U1, U7, U12, V3, V4, V6, V12, Len3, Empty1, Empty2, Full1, Close1, IsClosed1}
use Rattle.unbounded_acts.specs.Acts.{leave, head_to, front_to, tail_to, back_to_words, next_to, freed, state_to, value_to, has, with, first_or, answered, lacks_next}
use Rattle.unbounded_acts.specs.Acts.{push_from, set_aside, claimed, take_or, pop_from, new_head, taken, next_index, destroy_from, read_out_of, destroy_if}
use Rattle.unbounded_machine.specs.declared.Event.{Event}
use Rattle.unbounded_machine.specs.Machine.{live, free_blocks, empty_slots, idlers, fresh_of, blank, refused, accepted}
use Rattle.unbounded_machine.specs.Drop.{last_fits, without, walk_from, items_from, walk_of}
use Rattle.unbounded_machine.specs.Drop as drop
use Rattle.unbounded_machine.specs.Broken.{record_fits, records_fit, all_idle, drop_fits, broken_in}
use Rattle.unbounded_machine.specs.Turn.{lowest_from, lowest_free, cleared_from, cleared, begun, stored, acted_at, moved_by, turn_with}
use Rattle.unbounded_machine.specs.Contents.{contents_of}
use Rattle.unbounded_machine.specs.Run.{ran}
use Rattle.unbounded_machine.specs.History.{event}
use Rattle.unbounded_demands.specs.Notions.{acts, acts_of, takers_of, Sign, Plain, Exchange7, Exchange4, Pops, Pushes, HandsOut, sign_of}
use Rattle.unbounded_demands.specs.Claims.{Writes, writes12, WrittenIn, closed_by}
use Rattle.unbounded_demands.specs.Stories.{Story, story_of, known, queue_at, reply_of, Moment, At, AfterNextTail, moment_of, often, place_in, Emptying, leaving6, leaving7, leaving8, leaving9}
use Rattle.unbounded_demands.specs.Demands.{Answered, AtBlocksEnd}
use Rattle.unbounded_slips.specs.Slips.{slipped, hands_out_again, reads_early, push_drops, closed_after_claim, claims_closed, pops_another, empty_after_taking, takes_unseen, len_none, empty_yes, close_idle}
use Rattle.unbounded_slips.specs.Refuted.{does}
use Rattle.unbounded_slips.specs.RefutedPlain.{pushed, RefutedPlain}

-- the plain queue's answer at the moment and to the call that a story has, and another
pub untrue : (earlier : Story) (act : Event) (a : Answer) (c : Call) (n : ℕ) → ((known earlier).each act.worker).calls ≡ c ∷ [] → moment_of act.worker (earlier ++ Does act ∷ []) ≡ At n
    → (answer_of (queue_at n earlier) c ∷ [] ≡ reply_of a → ⊥) → Answered earlier act a ⊎ AtBlocksEnd earlier act a → ⊥
untrue earlier act a c n its named other (inl o) =
    let same_call : o.call ≡ c = cons_first (sym o.its ∙ its) in
    let one : At o.moment ≡ At n = sym o.named ∙ named in
    let same_moment : o.moment ≡ n = cc in
    other (subst (λ (x : Call). answer_of (queue_at n earlier) x ∷ [] ≡ reply_of a) same_call (subst (λ (k : ℕ). answer_of (queue_at k earlier) o.call ∷ [] ≡ reply_of a) same_moment o.plain))
untrue earlier act a c n its named other (inr o) =
    let none : ◌≡◌ {A = Moment} (At n) AfterNextTail = sym named ∙ o.unnamed in
    let q : ◌≡◌ {A = ℕ} 0 1 = cc in omega arith

-- no worker is at a block's end where worker 1 begins is_empty first of all
abbrev asks : Story
asks = Begun 1 call.IsEmpty ∷ Does (event 1 Empty1 (Empty2 (index 0))) ∷ []

pub none_leaving : (v : ℕ) (b : Bool) → Emptying (cond b Empty1 (Idle Nothing)) → ⊥
none_leaving v true o = absurd (not_first Empty1 refl o)
  where
    not_first : (p : Place) → p ≡ Empty1 → Emptying p → ⊥
    not_first p e leaving6 = let q : ◌≡◌ {A = ℕ} 0 1 = cc in omega arith
    not_first p e leaving7 = let q : ◌≡◌ {A = ℕ} 0 1 = cc in omega arith
    not_first p e leaving8 = let q : ◌≡◌ {A = ℕ} 0 1 = cc in omega arith
    not_first p e leaving9 = let q : ◌≡◌ {A = ℕ} 0 1 = cc in omega arith
none_leaving v false o = absurd (not_idle (Idle Nothing) refl o)
  where
    not_idle : (p : Place) → p ≡ Idle Nothing → Emptying p → ⊥
    not_idle p e leaving6 = let q : ◌≡◌ {A = ℕ} 0 1 = cc in omega arith
    not_idle p e leaving7 = let q : ◌≡◌ {A = ℕ} 0 1 = cc in omega arith
    not_idle p e leaving8 = let q : ◌≡◌ {A = ℕ} 0 1 = cc in omega arith
    not_idle p e leaving9 = let q : ◌≡◌ {A = ℕ} 0 1 = cc in omega arith

no_end : (before : Story) (load : Event) (since : Story) → asks ≡ before ++ Does load ∷ since → (v : ℕ) → Emptying (place_in v before) → ⊥
unfolding followed_from
no_end [] load since e v o = let z : Begun 1 call.IsEmpty ≡ Does load = cons_first e in let q : ◌≡◌ {A = ℕ} 0 1 = cc in omega arith
no_end (x ∷ []) load since e v o = none_leaving v (eqb v 1) (subst (λ (s : Story). Emptying (place_in v s)) (sym (ap (λ (y : _). y ∷ []) (cons_first e))) o)
no_end (x ∷ y ∷ before) load since e v o = no_split before (Does load) since (cons_rest (cons_rest e))

-- where after s no worker is there, a no of is_empty with no moment is no answer of a plain queue's, nor the exception
pub unended : (s : Story) → ((before : Story) (load : Event) (since : Story) → s ≡ before ++ Does load ∷ since → (v : ℕ) → Emptying (place_in v before) → ⊥)
    → (act : Event) (a : Answer) → moment_of act.worker (s ++ Does act ∷ []) ≡ AfterNextTail → Answered s act a ⊎ AtBlocksEnd s act a → ⊥
unended s nobody act a unnamed (inl o) =
    let none : ◌≡◌ {A = Moment} (At o.moment) AfterNextTail = sym o.named ∙ unnamed in
    let q : ◌≡◌ {A = ℕ} 0 1 = cc in omega arith
unended s nobody act a unnamed (inr o) = nobody o.before o.load o.since o.is o.leaving.0 o.leaving.1

-- no act of these is at a write
abbrev is_pushes : Sign → Bool
is_pushes Plain = false
is_pushes Exchange7 = false
is_pushes Exchange4 = false
is_pushes Pops = false
is_pushes (Pushes x) = true
is_pushes (HandsOut v) = false

unfoldable pub writes_in : List Event → Bool
writes_in [] = false
writes_in (e ∷ h) = cond (is_pushes (sign_of e.before)) true (writes_in h)

writing : (p : Place) (v : ℕ) → Writes p v → is_pushes (sign_of p) ≡ true
writing p v writes12 = refl

wrote_in : (xs : List Event) (e : Event) (ys : List Event) → is_pushes (sign_of e.before) ≡ true → writes_in (xs ++ e ∷ ys) ≡ true
unfolding writes_in
wrote_in [] e ys z = ap (λ (b : Bool). cond b true (writes_in ys)) z
wrote_in (x ∷ xs) e ys z = ap (λ (b : Bool). cond (is_pushes (sign_of x.before)) true b) (wrote_in xs e ys z) ∙ go (is_pushes (sign_of x.before))
  where
    go : (b : Bool) → cond b true true ≡ true
    go true = refl
    go false = refl

pub unwritten_in : (h : List Event) (k v : ℕ) → writes_in h ≡ false → WrittenIn h k v → ⊥
unwritten_in h k v none o = true≢false (sym (ap writes_in o.is ∙ wrote_in o.earlier o.act o.later (writing o.act.before v o.writes)) ∙ none)

pub no_is_yes : plain.No ∷ [] ≡ plain.Yes ∷ [] → ⊥
no_is_yes e = let z : plain.No ≡ plain.Yes = cons_first {xs = []} {ys = []} e in let q : ◌≡◌ {A = ℕ} 0 1 = cc in omega arith

pub one_is_none : plain.Count 1 ∷ [] ≡ plain.Count 0 ∷ [] → ⊥
one_is_none e = let z : plain.Count 1 ≡ plain.Count 0 = cons_first {xs = []} {ys = []} e in let q : ◌≡◌ {A = ℕ} 1 0 = cc in omega arith

yes_is_no : Idle Yes ≡ Idle No → ⊥
yes_is_no e = let q : ◌≡◌ {A = ℕ} 0 1 = cc in omega arith

pub refuted_plain : RefutedPlain
unfolding past_slots last_slot marked_of unmarked_of with_mark later same same_position same_block minus settled behind count_of stray_of order_of entry_of leave head_to
    front_to tail_to back_to_words next_to freed state_to value_to has with first_or answered lacks_next push_from set_aside claimed take_or pop_from new_head taken next_index
    destroy_from read_out_of destroy_if live free_blocks empty_slots idlers fresh_of blank refused accepted last_fits without walk_from items_from walk_of drop.items_of all
    in_limits record_fits records_fit all_idle drop_fits broken_in entry_but lowest_from lowest_free cleared_from cleared begun stored acted_at moved_by turn_with contents_of
    ran run_by history_by acts often items_of known_from followed_from takers_of closed_by writes_in
refuted_plain =
    record {
      tables =
          record {
            push_drops_lem = λ p. no_cons (p.answers (story_of (slipped push_drops) 2 (does 0 0 5 0)) [] (event 0 (U1 None 5) (Idle Pushed)) Pushed refl refl).1.put;
            closed_after_claim_lem =
                λ p. no_cons (sym (p.answers (story_of (slipped closed_after_claim) 2 (does 0 0 5 6)) [] (event 0 (U12 None (index 0) (To 0) 5) (Idle (Closed 5))) (Closed 5) refl refl).1.put);
            pushes_another_lem = λ p. let q : ◌≡◌ {A = ℕ} 5 6 = cons_first {xs = []} {ys = []} (p.item_kept 0 6 refl) in omega arith;
            pops_another_lem =
                λ p. let q : ◌≡◌ {A = ℕ} 5 6 = cons_first {xs = []} {ys = []}
                (p.answers (story_of (slipped pops_another) 2 (pushed ++ does 1 2 0 6)) [] (event 1 (V12 (index 0) (To 0) 6) (Idle (Popped 6))) (Popped 6) refl refl).1.took in omega arith;
            empty_after_taking_lem =
                λ p. no_cons (sym (p.answers (story_of (slipped empty_after_taking) 2 (pushed ++ does 1 2 0 6)) [] (event 1 (V12 (index 0) (To 0) 5) (Idle Empty)) Empty refl refl).1.took);
            claims_closed_lem =
                λ p. true≢false ((p.changes (story_of (slipped claims_closed) 2 (does 0 0 5 5 ++ does 1 6 0 1)) []
                (event 0 (U7 None (index 0) (To 0) 5) (U12 None (index 0) (To 0) 5)) refl).while_open refl);
            takes_unseen_lem = λ p. let q : 0 < 0 = (p.changes (story_of (slipped takes_unseen) 2 (pushed ++ does 1 2 0 7 ++ does 1 2 0 3)) []
                (event 1 (V4 (index 2) (To 0) (index 4)) (V6 (index 2) (To 0) (index 4))) refl).takes refl in omega arith;
            unwritten = λ p. let q : ◌≡◌ {A = ℕ} 0 5 = cons_first {xs = []} {ys = []} (p.nothing_lost.contents refl) in omega arith;
            len_none_lem =
                λ p. untrue (story_of (slipped len_none) 2 (pushed ++ does 1 3 0 2)) (event 1 (Len3 (index 2) (index 0)) (Idle (Len 0))) (Len 0) call.Len 11 refl refl
                one_is_none (p.answers _ [] _ (Len 0) refl refl).0;
            empty_yes_lem =
                λ p. untrue (story_of (slipped empty_yes) 2 (pushed ++ does 1 4 0 1)) (event 1 (Empty2 (index 0)) (Idle Yes)) Yes call.IsEmpty 11 refl refl
                no_is_yes (p.answers _ [] _ Yes refl refl).0;
            empty_no_lem = λ p. unended asks no_end (event 1 (Empty2 (index 0)) (Idle No)) No refl (p.answers asks [] (event 1 (Empty2 (index 0)) (Idle No)) No refl refl).0;
            full_yes_lem =
                λ p. untrue (Begun 1 call.IsFull ∷ []) (event 1 Full1 (Idle Yes)) Yes call.IsFull 1 refl refl
                no_is_yes (p.answers _ [] _ Yes refl refl).0;
            closed_yes_lem =
                λ p. untrue (Begun 1 call.IsClosed ∷ []) (event 1 IsClosed1 (Idle Yes)) Yes call.IsClosed 1 refl refl
                no_is_yes (p.answers _ [] _ Yes refl refl).0;
            close_idle_lem =
                λ p. untrue (story_of (slipped close_idle) 2 (does 0 6 0 1 ++ does 0 6 0 0)) (event 0 Close1 (Idle Yes)) Yes call.Close 3 refl refl
                no_is_yes (p.answers _ [] _ Yes refl refl).0;
            mark = λ c. true≢false (sym c.mark);
            yes_once = λ c. c.yes_once [] [] [] (event 0 Close1 (Idle Yes)) (event 0 Close1 (Idle Yes)) refl (refl, refl) (refl, refl);
            none_after =
                λ c. no_cons (sym (c.none_after (acts_of (slipped claims_closed) 2 (does 0 0 5 5 ++ does 1 6 0 1 ++ does 1 2 0 2))
                (event 0 (U7 None (index 0) (To 0) 5) (U12 None (index 0) (To 0) 5) ∷ [])
                (event 1 (V3 (index 0) (To 0)) (Idle PopClosed)) refl refl).0);
            own_claim =
                λ o. let k = (o (acts_of (slipped hands_out_again) 2 (does 0 2 0 2)) [] (event 0 (V3 (index 0) None) (Idle (Popped 0))) 0 refl refl).2.made in omega arith;
            unwritten_out =
                λ o. let z = o (acts_of (slipped reads_early) 2 (does 0 0 0 6 ++ does 1 2 0 6)) [] (event 1 (V12 (index 0) (To 0) 0) (Idle (Popped 0))) 0 refl refl in
                unwritten_in (acts_of (slipped reads_early) 2 (does 0 0 0 6 ++ does 1 2 0 6)) z.0 0 refl z.4;
          };
      said_at_blocks_end = λ p. yes_is_no p.empty;
    }
