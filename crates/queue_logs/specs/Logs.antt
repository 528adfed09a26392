-- What a log shows: the calls, and of each where it began, what it answered and where. And what it never shows. No act, claim or moment is in it.
use Rattle.std.specs.Prelude.{ℕ, zero, suc, ◌+◌, ◌≤◌, ◌<◌, Bool, true, false, cond, List, [], ◌∷◌, ◌≢◌, ◌≡◌, eqb, ltb, length}
use Rattle.queue_entries.specs.declared.Call.{Call}
use Rattle.queue_entries.specs.declared.Call.TheVariants as call
use Rattle.queue_plain.specs.Plain.{Reply, Pushed, Empty, EmptyAndClosed, Yes, No, Full, Closed, Displaced, Count, meaning_of, taken_by, given_back}
use Rattle.queue_plain.specs.Story.{Element, Begun, Does, Story, Change, Known, fresh, items_of, followed_from}

-- One call of it.
pub record Line : Type 0 where
  pub worker : ℕ
  -- none: at this place of the log no call began
  pub calls : List Call
  -- where its begin stands
  pub from : ℕ
  -- none while it is under way
  pub reply : List Reply
  -- where its answer stands
  pub to : ℕ

-- So many places, and of each the call that began there.
pub record Log : Type 0 where
  pub size : ℕ
  pub line : ℕ → Line

-- ---- sums

unfoldable pub total : ℕ → (ℕ → ℕ) → ℕ
total zero f = 0
total (suc n) f = total n f + f n

unfoldable pub weigh : (ℕ → ℕ) → List ℕ → ℕ
weigh f [] = 0
weigh f (x ∷ l) = f x + weigh f l

-- 1 of this item, of any item
abbrev pub only : ℕ → ℕ → ℕ
only v x = cond (eqb v x) 1 0

abbrev pub any : ℕ → ℕ
any x = 1

-- ---- of a call

abbrev pub ended : List Reply → Bool
ended [] = false
ended (r ∷ more) = true

abbrev pub unless : List ℕ → List ℕ → List ℕ
unless [] x = x
unless (y ∷ back) x = []

-- The item that it came with, if it is not given back: Full and Closed are left out, a call under way is not.
abbrev pub handed_in : Line → List ℕ
handed_in x = unless (meaning_of given_back x.reply) (items_of x.calls)

abbrev pub handed_out : Line → List ℕ
handed_out x = meaning_of taken_by x.reply

abbrev pub takes : Call → Bool
takes (call.Push x) = false
takes (call.ForcePush x) = true
takes call.Pop = true
takes call.Len = false
takes call.IsEmpty = false
takes call.IsFull = false
takes call.Close = false
takes call.IsClosed = false

abbrev pub taker : List Call → ℕ
taker [] = 0
taker (c ∷ more) = cond (takes c) 1 0

-- What it may have taken out, weighed: a pop or force_push under way one item, whichever.
abbrev pub may_take : (ℕ → ℕ) → Line → ℕ
may_take f x = cond (ended x.reply) (weigh f (handed_out x)) (taker x.calls)

-- ---- of a log

-- Call x had answered before call y began. (Its contrary is: y had begun before x answered.)
abbrev pub before : Log → ℕ → ℕ → Bool
before l x y = cond (ended (l.line x).reply) (ltb (l.line x).to (l.line y).from) false

-- Handed in for certain before y began; handed out for certain.
abbrev pub sure_in_count : (ℕ → ℕ) → Log → ℕ → ℕ
sure_in_count f l y = total l.size (λ x. cond (before l x y) (weigh f (handed_in (l.line x))) 0)

abbrev pub sure_out : (ℕ → ℕ) → Log → ℕ → ℕ
sure_out f l y = total l.size (λ x. cond (before l x y) (weigh f (handed_out (l.line x))) 0)

-- Handed in by others, or taken out, at most, before y answered.
abbrev pub may_in : (ℕ → ℕ) → Log → ℕ → ℕ
may_in f l y = total l.size (λ x. cond (eqb x y) 0 (cond (before l y x) 0 (weigh f (handed_in (l.line x)))))

abbrev pub may_out : (ℕ → ℕ) → Log → ℕ → ℕ
may_out f l y = total l.size (λ x. cond (before l y x) 0 (may_take f (l.line x)))

abbrev pub Says : Log → ℕ → Call → Reply → Type 0
Says l y c r = (y < l.size) × ((l.line y).calls ≡ c ∷ []) × ((l.line y).reply ≡ r ∷ [])

pub data SaysEmpty (l : Log) (y : ℕ) : Type 0 where
  says_empty : Says l y call.Pop Empty → SaysEmpty l y
  says_empty_closed : Says l y call.Pop EmptyAndClosed → SaysEmpty l y
  says_is_empty : Says l y call.IsEmpty Yes → SaysEmpty l y

pub data SaysFull (l : Log) (y : ℕ) : Type 0 where
  push_full_said : (x : ℕ) → Says l y (call.Push x) (Full x) → SaysFull l y
  displaces_said : (x v : ℕ) → Says l y (call.ForcePush x) (Displaced v) → SaysFull l y
  is_full_said : Says l y call.IsFull Yes → SaysFull l y

pub data SaysClosed (l : Log) (y : ℕ) : Type 0 where
  push_closed_said : (x : ℕ) → Says l y (call.Push x) (Closed x) → SaysClosed l y
  force_closed_said : (x : ℕ) → Says l y (call.ForcePush x) (Closed x) → SaysClosed l y
  pop_closed_said : Says l y call.Pop EmptyAndClosed → SaysClosed l y
  is_closed_said : Says l y call.IsClosed Yes → SaysClosed l y
  close_no_said : Says l y call.Close No → SaysClosed l y

pub data SaysOpen (l : Log) (y : ℕ) : Type 0 where
  pushed_said : (x : ℕ) → Says l y (call.Push x) Pushed → SaysOpen l y
  forced_said : (x : ℕ) → Says l y (call.ForcePush x) Pushed → SaysOpen l y
  displaces_open : (x v : ℕ) → Says l y (call.ForcePush x) (Displaced v) → SaysOpen l y
  empty_said : Says l y call.Pop Empty → SaysOpen l y
  is_closed_no : Says l y call.IsClosed No → SaysOpen l y
  close_yes_said : Says l y call.Close Yes → SaysOpen l y

pub data SaysRoom (l : Log) (y : ℕ) : Type 0 where
  pushed_into : (x : ℕ) → Says l y (call.Push x) Pushed → SaysRoom l y
  forced_into : (x : ℕ) → Says l y (call.ForcePush x) Pushed → SaysRoom l y
  is_full_no : Says l y call.IsFull No → SaysRoom l y

-- ---- the rows

-- 1. y hands out v, and whatever other call handed v in began after that answer.
pub record FromNowhere (l : Log) (y v : ℕ) : Type 0 where
  pub there : y < l.size
  pub out : handed_out (l.line y) ≡ v ∷ []
  pub later : (x : ℕ) → x < l.size → x ≢ y → 0 < weigh (only v) (handed_in (l.line x)) → before l y x ≡ true

-- 2. v is handed out more often than it was handed in.
abbrev pub Twice : Log → ℕ → Type 0
Twice l v = total l.size (λ x. weigh (only v) (handed_in (l.line x))) < total l.size (λ x. weigh (only v) (handed_out (l.line x)))

-- 3. a's way in had answered before b's began, and b's way out before a's began; both were handed in once.
pub record Overtaken (l : Log) (a b in-a in_b out-a out-b : ℕ) : Type 0 where
  pub there : (in-a < l.size) × (in_b < l.size) × (out-a < l.size) × (out-b < l.size)
  pub a_in : handed_in (l.line in-a) ≡ a ∷ []
  pub b_in : handed_in (l.line in_b) ≡ b ∷ []
  pub a_out : handed_out (l.line out-a) ≡ a ∷ []
  pub b_out : handed_out (l.line out-b) ≡ b ∷ []
  pub a_once : total l.size (λ x. weigh (only a) (handed_in (l.line x))) ≡ 1
  pub b_once : total l.size (λ x. weigh (only b) (handed_in (l.line x))) ≡ 1
  pub in_order : before l in-a in_b ≡ true
  pub out_of_order : before l out-b out-a ≡ true

-- 4. y finds nothing, and of some items (f is 1 of them and 0 of others: of one item, `only v`; of all, `any`) more had been handed in before it began than can have been taken out before
-- its answer.
abbrev pub EmptyBeside : Log → ℕ → (ℕ → ℕ) → Type 0
EmptyBeside l y f = ((v : ℕ) → f v ≤ 1) × SaysEmpty l y × (may_out f l y < sure_in_count f l y)

-- 5. y finds it full, and less than capacity can have been in.
abbrev pub FullBeside : Log → ℕ → ℕ → Type 0
FullBeside l capacity y = SaysFull l y × (may_in any l y < capacity + sure_out any l y)

-- 6. y finds it closed, and whatever other close there is began after that answer.
pub record ClosedNever (l : Log) (y : ℕ) : Type 0 where
  pub says : SaysClosed l y
  pub later : (x : ℕ) → x < l.size → x ≢ y → (l.line x).calls ≡ call.Close ∷ [] → before l y x ≡ true

-- and y finds it open, though close x had answered before it began
pub record OpenAfter (l : Log) (x y : ℕ) : Type 0 where
  pub there : x < l.size
  pub closes : (l.line x).calls ≡ call.Close ∷ []
  pub earlier : before l x y ≡ true
  pub says : SaysOpen l y

-- 7. y counts n: more than can have been in, more than capacity, or less than was in for certain.
pub data WrongCount (l : Log) (capacity y n : ℕ) : Type 0 where
  too_many : Says l y call.Len (Count n) → may_in any l y < n + sure_out any l y → WrongCount l capacity y n
  beyond : Says l y call.Len (Count n) → capacity < n → WrongCount l capacity y n
  too_few : Says l y call.Len (Count n) → n + may_out any l y < sure_in_count any l y → WrongCount l capacity y n

-- 8. y finds room, and as much as capacity was in throughout
abbrev pub RoomBeside : Log → ℕ → ℕ → Type 0
RoomBeside l capacity y = SaysRoom l y × (capacity + may_out any l y ≤ sure_in_count any l y)

-- and y finds something, and nothing can have been in
abbrev pub SomeBeside : Log → ℕ → Type 0
SomeBeside l y = Says l y call.IsEmpty No × (may_in any l y ≤ sure_out any l y)

-- None of them, in a queue of this capacity. `stays`: a closed queue is never opened again; `sees`: is_empty's no is read too.
pub record NeverShown (capacity : ℕ) (stays sees : Bool) (l : Log) : Type 0 where
  pub from_nowhere : (y v : ℕ) → FromNowhere l y v → ⊥
  pub twice : (v : ℕ) → Twice l v → ⊥
  pub overtaken : (a b in-a in_b out-a out-b : ℕ) → Overtaken l a b in-a in_b out-a out-b → ⊥
  pub empty_beside : (y : ℕ) (f : ℕ → ℕ) → EmptyBeside l y f → ⊥
  pub full_beside : (y : ℕ) → FullBeside l capacity y → ⊥
  pub closed_never : (y : ℕ) → ClosedNever l y → ⊥
  pub open_after : stays ≡ true → (x y : ℕ) → OpenAfter l x y → ⊥
  pub wrong_count : (y n : ℕ) → WrongCount l capacity y n → ⊥
  pub room_beside : (y : ℕ) → RoomBeside l capacity y → ⊥
  pub some_beside : sees ≡ true → (y : ℕ) → SomeBeside l y → ⊥

-- ---- a log seen late: the same calls with the same answers, and only those answers before those begins that were before them in truth. So it is where begins stand earlier and
-- answers later.
pub record Seen (l seen : Log) : Type 0 where
  pub size : seen.size ≡ l.size
  pub calls : (x : ℕ) → (seen.line x).calls ≡ (l.line x).calls
  pub reply : (x : ℕ) → (seen.line x).reply ≡ (l.line x).reply
  pub order : (x y : ℕ) → before seen x y ≡ true → before l x y ≡ true

-- ---- the log of a story. Of each act its worker, what it does to the plain queue, and what it answers, if it ends its call.

abbrev pub nobody : Line
nobody = record { worker = 0; calls = []; from = 0; reply = []; to = 0 }

abbrev pub begins : ℕ → Call → ℕ → Line
begins w c n = record { worker = w; calls = c ∷ []; from = n; reply = []; to = 0 }

abbrev pub answers : ℕ → List Reply → Line → Line
answers n [] x = x
answers n (r ∷ more) x = record { worker = x.worker; calls = x.calls; from = x.from; reply = r ∷ []; to = n }

module _ {E : Type 0} (worker : E → ℕ) (change : E → Change) (answered : E → List Reply) where
  abbrev pub line_with : Known → (ℕ → Line) → Element E → ℕ → Line
  line_with k l (Begun w c) b = cond (eqb b k.count) (begins w c k.count) (l b)
  line_with k l (Does e) b = cond (eqb b (k.each (worker e)).begun) (answers k.count (answered e) (l b)) (l b)

  abbrev pub log_of : ℕ → Story E → Log
  log_of capacity s = record { size = length s; line = followed_from worker change line_with (fresh capacity) (λ b. nobody) s }
