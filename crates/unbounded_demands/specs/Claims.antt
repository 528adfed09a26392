-- A call's own claim, what was written for a claim, and the closes of a history.
use Rattle.std.specs.Prelude.{ℕ, Bool, true, false, cond, List, [], ◌∷◌, ◌++◌, ◌≡◌, eqb, length}
use Rattle.unbounded_words.specs.declared.Index.{Index}
use Rattle.unbounded_words.specs.declared.Pointer.{Pointer}
use Rattle.unbounded_places.specs.declared.Answer.{Answer}
use Rattle.unbounded_places.specs.declared.Answer.TheVariants.{Yes}
use Rattle.unbounded_places.specs.declared.Place.{Place}
use Rattle.unbounded_places.specs.declared.Place.TheVariants.{Idle, U12, Close1}
use Rattle.unbounded_machine.specs.declared.Event.{Event}
use Rattle.unbounded_demands.specs.Notions.{item_of, takes, takers_of, LatestIn}
use Rattle.unbounded_demands.specs.Stories.{task_of, closes}

-- Worker w has answered nothing in these acts.
abbrev pub Unanswered : ℕ → List Event → Type 0
Unanswered w [] = Unit {0}
Unanswered w (e ∷ h) = (e.worker ≡ w → (a : Answer) → e.after ≡ Idle a → ⊥) × Unanswered w h

-- Head claim number k was made by w, in the call that it is in.
pub record CallClaim (h : List Event) (w k : ℕ) : Type 0 where
  pub earlier : List Event
  pub act : Event
  pub later : List Event
  pub is : h ≡ earlier ++ act ∷ later
  pub by : act.worker ≡ w
  pub claims : takes act ≡ true
  pub number : length (takers_of earlier) ≡ k
  pub same_call : Unanswered w later

-- Of the tail claims in order: their workers.
unfoldable pub tailers_of : List Event → List ℕ
tailers_of [] = []
tailers_of (e ∷ h) = cond (eqb (length (item_of e)) 1) (e.worker ∷ []) [] ++ tailers_of h

-- The next act writes the item x.
pub data Writes : Place → ℕ → Type 0 where
  writes12 : {n b : Pointer} {t : Index} {x : ℕ} → Writes (U12 n t b x) x

-- The item v of tail claim number k was written: at U12, by the worker whose latest tail claim that was.
pub record WrittenIn (h : List Event) (k v : ℕ) : Type 0 where
  pub earlier : List Event
  pub act : Event
  pub later : List Event
  pub is : h ≡ earlier ++ act ∷ later
  pub claim : LatestIn (tailers_of earlier) act.worker k
  pub writes : Writes act.before v

-- A close was made.
unfoldable pub closed_by : List Event → Bool
closed_by [] = false
closed_by (e ∷ h) = cond (closes (task_of e.before)) true (closed_by h)

abbrev pub ClosesYes : Event → Type 0
ClosesYes e = (e.before ≡ Close1) × (e.after ≡ Idle Yes)

-- None of these acts is a claim.
abbrev pub NoClaims : List Event → Type 0
NoClaims [] = Unit {0}
NoClaims (e ∷ h) = (item_of e ≡ []) × (takes e ≡ false) × NoClaims h
