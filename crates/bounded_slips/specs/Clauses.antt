-- The clauses of `AnswersPlain` (crates/bounded_demands/specs/Demands.antt), each by itself, and of each a table of which that very clause is false. (`in_order` of `NothingLost` has none: what came in is
-- what went out and what waits in every story, crates/queue_plain/proofs/Stories.antt. Its `contents` is refuted as `ContentsWait` of demand 2: Refuted.antt.)
use Rattle.std.specs.Prelude.{ℕ, ◌<◌, true, false, List, [], ◌∷◌, ◌++◌, ◌≡◌, ◌↔◌, length}
use Rattle.queue_entries.specs.declared.Call.TheVariants.{Close}
use Rattle.queue_plain.specs.Plain.{Queue}
use Rattle.queue_plain.specs.Story.{Does}
use Rattle.queue_plain.specs.Story.{items_of as items_begun}
use Rattle.bounded_words.specs.declared.Stamp.{Stamp}
use Rattle.bounded_places.specs.declared.Answer.{Answer}
use Rattle.bounded_places.specs.declared.Place.TheVariants.{Idle, F7}
use Rattle.bounded_places.specs.declared.Moved.TheVariants.{Neither}
use Rattle.bounded_places.specs.Places.{view_of}
use Rattle.bounded_machine.specs.declared.Machine.{Machine}
use Rattle.bounded_machine.specs.declared.Event.{Event}
use Rattle.bounded_machine.specs.Machine.{place_of}
use Rattle.bounded_machine.specs.History.{moved_of}
use Rattle.bounded_demands.specs.Notions.{Definition, AllowedWith, machine_after, InHand, acts}
use Rattle.bounded_demands.specs.Stories.{Story, story_of, known, change_of, put_by, taken_by, given_back}
use Rattle.bounded_demands.specs.Demands.{Meant, Changes, InCallOrder}
use Rattle.bounded_slips.specs.Slips.{lost_push_goes_on, never_lets_go, hands_out_again, push_stamp_untested, full_gives_another, close_says_no, slipped}
use Rattle.bounded_slips.specs.Refuted.{Trial, trial, does}
use Rattle.bounded_slips.specs.RefutedPlain.{push_drops, pop_of_none, force_of_nothing, closed_twice}

-- ---- `Meant`

abbrev pub Put : ℕ → ℕ → Story → Event → Answer → Type 0
Put capacity edition earlier act a =
    ((known capacity edition (earlier ++ Does act ∷ [])).each act.worker).puts ≡ put_by a (items_begun ((known capacity edition earlier).each act.worker).calls)

abbrev pub Took : ℕ → ℕ → Story → Event → Answer → Type 0
Took capacity edition earlier act a = ((known capacity edition (earlier ++ Does act ∷ [])).each act.worker).takes ≡ taken_by a

abbrev pub Back : ℕ → ℕ → Story → Event → Answer → Type 0
Back capacity edition earlier act a = (x : ℕ) → given_back a ≡ x ∷ [] → items_begun ((known capacity edition earlier).each act.worker).calls ≡ x ∷ []

abbrev pub ClosedThen : ℕ → ℕ → Story → Event → Answer → Type 0
ClosedThen capacity edition earlier act a =
    ((known capacity edition earlier).each act.worker).calls ≡ Close ∷ [] → (known capacity edition (earlier ++ Does act ∷ [])).queue.closed ≡ true

-- ---- `Changes`

abbrev pub Takes : ℕ → Queue → Event → Type 0
Takes edition q act = (change_of edition act).takes ≡ true → 0 < length q.items

abbrev pub Puts : ℕ → Queue → Event → Type 0
Puts edition q act = (change_of edition act).puts ≡ true → length q.items < q.capacity

abbrev pub WhileOpen : ℕ → Queue → Event → Type 0
WhileOpen edition q act = (change_of edition act).puts ≡ true → moved_of act.before ≡ Neither → q.closed ≡ false

abbrev pub FullThen : ℕ → Queue → Event → Type 0
FullThen edition q act = (t : Stamp) (x : ℕ) → act.after ≡ F7 t x → length q.items ≡ q.capacity

abbrev pub Closes : ℕ → Queue → Event → Type 0
Closes edition q act = (change_of edition act).closes ≡ true → q.closed ≡ false

-- ---- `NothingLost`

abbrev pub Hands : ℕ → ℕ → Machine → Story → Type 0
Hands capacity edition m s =
    (w v : ℕ) (more : List ℕ) → (view_of (place_of m.workers w)).busy ≡ true → ((known capacity edition s).each w).takes ≡ v ∷ more
    → (more ≡ []) × (t : Stamp) × InHand (place_of m.workers w) t

-- They are the clauses, and all of them.
pub record TheClauses : Type 0 where
  pub meant : (capacity edition : ℕ) (earlier : Story) (act : Event) (a : Answer)
      → Meant capacity edition earlier act a
      ↔ (Put capacity edition earlier act a × Took capacity edition earlier act a × Back capacity edition earlier act a × ClosedThen capacity edition earlier act a)
  pub changes : (edition : ℕ) (q : Queue) (act : Event)
      → Changes edition q act ↔ (Takes edition q act × Puts edition q act × WhileOpen edition q act × FullThen edition q act × Closes edition q act)

-- ---- one clause, of every schedule: at each answer, at each act, after the whole

abbrev pub AtAnswers : (ℕ → ℕ → Story → Event → Answer → Type 0) → Definition → Type 0
AtAnswers clause d =
    (capacity workers edition : ℕ) → AllowedWith d.records capacity workers edition → (s : List ℕ) (earlier later : Story) (act : Event) (a : Answer)
    → story_of d capacity workers edition s ≡ earlier ++ Does act ∷ later → act.after ≡ Idle a → clause capacity edition earlier act a

abbrev pub AtActs : (ℕ → Queue → Event → Type 0) → Definition → Type 0
AtActs clause d =
    (capacity workers edition : ℕ) → AllowedWith d.records capacity workers edition → (s : List ℕ) (earlier later : Story) (act : Event)
    → story_of d capacity workers edition s ≡ earlier ++ Does act ∷ later → clause edition (known capacity edition earlier).queue act

abbrev pub Afterwards : (ℕ → ℕ → Machine → Story → Type 0) → Definition → Type 0
Afterwards clause d =
    (capacity workers edition : ℕ) → AllowedWith d.records capacity workers edition → (s : List ℕ)
    → clause capacity edition (machine_after d capacity workers edition s) (story_of d capacity workers edition s)

-- ---- the schedules, beside those of RefutedPlain.antt

-- a push onto a full ring is given back another item; one claims all the same
abbrev pub push_of_another : Trial
push_of_another = trial full_gives_another 1 (does 0 0 5 5 ++ does 0 0 6 3)

abbrev pub push_beyond : Trial
push_beyond = trial push_stamp_untested 1 (does 0 0 5 5 ++ does 0 0 6 3)

-- a close of an open queue
abbrev pub close_of_open : Trial
close_of_open = trial close_says_no 1 (does 0 6 0 1)

-- a push at its exchange while another closes
abbrev pub push_into_closed : Trial
push_into_closed = trial lost_push_goes_on 1 (does 0 0 5 2 ++ does 1 6 0 1 ++ acts 0 1)

-- two items in, and a pop that claims twice
abbrev pub pop_of_two : Trial
pop_of_two = trial never_lets_go 2 (does 0 0 5 5 ++ does 0 0 6 5 ++ does 1 2 0 5)

-- a close, and then a pop that no act of its own gave a moment
abbrev pub pop_after_close : Trial
pop_after_close = trial hands_out_again 1 (does 0 6 0 1 ++ does 1 2 0 3)

pub record RefutedClauses : Type 0 where
  -- `Meant`
  pub put : AtAnswers Put (slipped push_drops.slip) → ⊥
  pub took : AtAnswers Took (slipped pop_of_none.slip) → ⊥
  pub back : AtAnswers Back (slipped push_of_another.slip) → ⊥
  pub closed : AtAnswers ClosedThen (slipped close_of_open.slip) → ⊥
  -- `Changes`
  pub takes : AtActs Takes (slipped force_of_nothing.slip) → ⊥
  pub puts : AtActs Puts (slipped push_beyond.slip) → ⊥
  pub while_open : AtActs WhileOpen (slipped push_into_closed.slip) → ⊥
  pub full : AtActs FullThen (slipped force_of_nothing.slip) → ⊥
  pub closes : AtActs Closes (slipped closed_twice.slip) → ⊥
  -- `NothingLost`
  pub hands : Afterwards Hands (slipped pop_of_two.slip) → ⊥
  pub call_order : Afterwards (λ capacity edition m s. InCallOrder capacity edition s) (slipped pop_after_close.slip) → ⊥
