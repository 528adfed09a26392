-- Ways to refute a statement by what a schedule computes to.
use Prim.Native.Nat.{ℕ, zero, suc, ◌+◌, ◌*◌, ◌≤◌, ◌<◌}
use native.Mathlib.Omega.{arith}
use native.Mathlib.Decide.{ℕ_discrete}
use mathlib.Core.Bool.{Bool, true, false, cond, true≢false}
use mathlib.Core.List.{List, [], ◌∷◌, ◌++◌}
use mathlib.Core.Path.{◌≡◌, refl, sym, ap, subst, ◌∙◌}
use mathlib.Core.Logic.{◌≢◌}
use lib.Dec.{eqb}
use borrow.Author.Tests.{eq-eqb, ne_eqb}
use lib.ListN.{length, get_or, replicate}
use Rattle.queue_entries.specs.declared.Order.TheVariants.{Act}
use Rattle.queue_entries.specs.declared.Entry.TheVariants.{Asks}
use Rattle.queue_entries.specs.Entries.{entry_of}
use Rattle.queue_entries.specs.Schedules.{run_by}
use Rattle.bounded_words.specs.declared.Width.TheVariants.{SixtyFour}
use Rattle.bounded_places.specs.declared.Answer.{Answer}
use Rattle.bounded_places.specs.declared.Answer.TheVariants.{Nothing}
use Rattle.bounded_places.specs.declared.Worker.{Worker}
use Rattle.bounded_places.specs.declared.Place.{Place}
use Rattle.bounded_places.specs.declared.Place.TheVariants.{Idle}
use Rattle.bounded_places.specs.Places.{view_of}
use Rattle.bounded_machine.specs.declared.Machine.{Machine}
use Rattle.bounded_machine.specs.declared.Event.{Event}
use Rattle.bounded_machine.specs.Machine.{idler, place_of, accepted, fixed_on, ends_on}
use Rattle.bounded_machine.specs.Run.{ran}
use Rattle.bounded_machine.specs.Turn.{Table, turn_of_by}
use Rattle.bounded_demands.specs.Notions.{Definition, Acts, acts, Truth, item_in, items_of, takers_of, LatestIn, ItemIn, WrittenIn, CallClaim, Fifo, start}
use Rattle.bounded_demands.specs.Notions.{enqueue, dequeue, rest, OtherHand, passed, LetsGo, by_table}
use Rattle.bounded_demands.specs.Demands.{AnswersTrue, EndsAlone}
use Rattle.bounded_demands.specs.Foretold.{foretold}
use Rattle.bounded_proof_each_act.proofs.Sight.{look, answer_in}
use Rattle.bounded_proof_demand2.proofs.Logged.{items_end, takers_end}
use Rattle.queue_rows.proofs.Alike.{all_alike}
use Rattle.bounded_proof_demand3.proofs.Hand.{hand_busy}

abbrev pub busy_at : Machine → ℕ → Bool
busy_at m w = (view_of (place_of m.workers w)).busy

both : (b c : Bool) → cond b c false ≡ true → (b ≡ true) × (c ≡ true)
both true c e = (refl, e)
both false c e = absurd (true≢false (sym e))

-- ---- the claim rule

-- No claim of worker w among these takers has the item v.
unfoldable pub nowhere : List ℕ → List ℕ → ℕ → ℕ → Bool
nowhere [] items w v = true
nowhere (t ∷ takers) [] w v = true
nowhere (t ∷ takers) (i ∷ items) w v = cond (eqb t w) (cond (eqb i v) false (nowhere takers items w v)) (nowhere takers items w v)

not_there : (takers items : List ℕ) (w v k : ℕ) → nowhere takers items w v ≡ true → k < length takers → k < length items
    → get_or takers k 0 ≡ w → get_or items k 0 ≡ v → ⊥
unfolding nowhere
not_there [] items w v k free a b c d = omega arith
not_there (t ∷ takers) [] w v k free a b c d = omega arith
not_there (t ∷ takers) (i ∷ items) w v zero free a b c d = absurd (true≢false (sym free ∙ rw (eq-eqb t w c, eq-eqb i v d)))
not_there (t ∷ takers) (i ∷ items) w v (suc k) free a b c d = not_there takers items w v k (on (eqb t w) (eqb i v) free) (omega arith) (omega arith) c d
  where
    on : (b c : Bool) → cond b (cond c false (nowhere takers items w v)) (nowhere takers items w v) ≡ true → nowhere takers items w v ≡ true
    on true true e = absurd (true≢false (sym e))
    on true false e = e
    on false c e = e

pub wrong_item : (h : List Event) (w v : ℕ) → nowhere (takers_of h) (items_of h) w v ≡ true
    → ((k : ℕ) × CallClaim h w k × LatestIn (takers_of h) w k × ItemIn h k v) → ⊥
wrong_item h w v free (k, c, l, i) = not_there (takers_of h) (items_of h) w v k free l.made i.made l.its i.is

-- Nothing was claimed, so nothing of a claim is read.
pub unclaimed : (h : List Event) (w v : ℕ) → items_of h ≡ []
    → ((k : ℕ) × LatestIn (takers_of h) w k × ItemIn h k v × WrittenIn h k v) → ⊥
unclaimed h w v none (k, l, i, o) = omega (arith, i.made, ap length none)

-- The one claim that there is.
pub sole : LatestIn (0 ∷ []) 0 0
sole = record { made = omega arith; its = refl; last = λ n a b. absurd (omega arith) }

-- ---- answers

-- The next act of w, where it is accepted.
pub acting : (d : Definition) (m : Machine) (w : ℕ) → entry_of (16 * w + 8) 0 ≡ Asks w (Act false)
    → d.turn m (16 * w + 8) 0 ≡ accepted (d.turn m (16 * w + 8) 0).machine → Acts d m w (d.turn m (16 * w + 8) 0).machine
acting d m w asks done = record { first = 16 * w + 8; second = 0; lose = false; asks = asks; done = done }

-- If it answers, what it answers is true.
pub said : (d : Definition) (m : Machine) (w : ℕ) (a : Answer) → AnswersTrue d m → entry_of (16 * w + 8) 0 ≡ Asks w (Act false)
    → d.turn m (16 * w + 8) 0 ≡ accepted (d.turn m (16 * w + 8) 0).machine
    → place_of (d.turn m (16 * w + 8) 0).machine.workers w ≡ Idle a → Truth d.width (fixed_on m.ring) (ends_on m.ring) a
said d m w a all asks done ends =
    all w (d.turn m (16 * w + 8) 0).machine a (acting d m w asks done) ends

-- ---- a plain queue

pub no_cons : {x : ℕ} {l : List ℕ} → x ∷ l ≡ [] → ⊥
no_cons e = let q = ap length e in omega arith

no_end : (l : List ℕ) (x : ℕ) → l ++ x ∷ [] ≡ [] → ⊥
no_end [] x e = no_cons e
no_end (y ∷ l) x e = no_cons e

first_part : (l r : List ℕ) → l ++ r ≡ [] → l ≡ []
first_part [] r e = refl
first_part (y ∷ l) r e = absurd (no_cons e)

-- Of acts without a tail claim a plain queue stays empty, and nothing is taken from it.
pub untouched : (h : List Event) (q : List ℕ) → Fifo h q → items_of h ≡ [] → (takers_of h ≡ []) × (q ≡ [])
unfolding takers_of
untouched h q start none = (refl, refl)
untouched h q (enqueue g p e x f is) none =
    absurd (no_end (items_of g) x (sym (ap (λ (l : List ℕ). items_of g ++ l) is) ∙ sym (items_end g e) ∙ none))
untouched h q (dequeue g p e x f is) none = absurd (no_cons (untouched g (x ∷ q) f (first_part (items_of g) (item_in e.after) (sym (items_end g e) ∙ none))).1)
untouched h q (rest g p e f is) none =
    let u = untouched g q f (first_part (items_of g) (item_in e.after) (sym (items_end g e) ∙ none)) in
    (takers_end g e ∙ rw (is, u.0), u.1)

-- ---- alone

-- Two workers, and of the two only w is busy; fourteen were never begun.
pub quiet : (v : ℕ) → (get_or (replicate 14 idler) v idler).place ≡ Idle Nothing
quiet v = ap (λ (z : Worker). z.place) (all_alike 14 v idler)

pub no_hand : (m : Machine) (w : ℕ) → cond (eqb 0 w) false (busy_at m 0) ≡ false → cond (eqb 1 w) false (busy_at m 1) ≡ false
    → ((v : ℕ) → place_of m.workers (suc (suc v)) ≡ Idle Nothing) → OtherHand m w → ⊥
no_hand m w a b c (zero, other, t, hand) = absurd (true≢false (sym (hand_busy _ t hand) ∙ sym (rw (ne_eqb 0 w other)) ∙ a))
no_hand m w a b c (suc zero, other, t, hand) = absurd (true≢false (sym (hand_busy _ t hand) ∙ sym (rw (ne_eqb 1 w other)) ∙ b))
no_hand m w a b c (suc (suc v), other, t, hand) =
    absurd (true≢false (sym (hand_busy _ t hand) ∙ ap (λ (p : Place). (view_of p).busy) (c v)))

-- After each of 1 to so many acts of w alone it is busy.
unfoldable pub still_busy : Definition → Machine → ℕ → ℕ → Bool
still_busy d m w zero = true
still_busy d m w (suc n) = cond (busy_at (d.run m 0 (acts w (suc n))).machine w) (still_busy d m w n) false

busy_by : (d : Definition) (m : Machine) (w n k : ℕ) → still_busy d m w n ≡ true → k + 1 ≤ n → busy_at (d.run m 0 (acts w (suc k))).machine w ≡ true
unfolding still_busy
busy_by d m w zero k b l = absurd (omega arith)
busy_by d m w (suc n) k b l = go (ℕ_discrete k n) (λ e. busy_by d m w n k (both (busy_at (d.run m 0 (acts w (suc n))).machine w) (still_busy d m w n) b).1 (omega arith))
  where
    go : Dec (k ≡ n) → (k ≢ n → busy_at (d.run m 0 (acts w (suc k))).machine w ≡ true) → busy_at (d.run m 0 (acts w (suc k))).machine w ≡ true
    go (yes e) on = subst (λ (z : ℕ). busy_at (d.run m 0 (acts w (suc z))).machine w ≡ true) (sym e) (both (busy_at (d.run m 0 (acts w (suc n))).machine w) (still_busy d m w n) b).0
    go (no e) on = on e

pub late : (d : Definition) (m : Machine) (h : List Event) (w most : ℕ) → still_busy d m w most ≡ true → EndsAlone d m h w most → ⊥
late d m h w most b e =
    absurd (true≢false (sym (busy_by d m w most e.before b e.within) ∙ ap (λ (p : Place). (view_of p).busy) e.ends))

-- A worker that is refused leaves the machine as it is.
pub rests : (table : Table) (m : Machine) (place w k : ℕ) → eqb (turn_of_by table m (16 * w + 8) 0).refusal 0 ≡ false → ((by_table SixtyFour table).run m place (acts w k)).machine ≡ m
unfolding run_by acts ran
rests table m place w zero e = refl
rests table m place w (suc k) e = rw e

-- A call that ends with its next act, and is idle from then on, gives the answer of that act.
pub at_once : (d : Definition) (m : Machine) (h : List Event) (w most : ℕ) (a : Answer)
    → place_of (d.run m 0 (acts w 1)).machine.workers w ≡ Idle a
    → ((n : ℕ) → busy_at (d.run m 0 (acts w (suc n))).machine w ≡ false)
    → EndsAlone d m h w most → Truth d.width (fixed_on m.ring) (ends_on (d.run m 0 (acts w 0)).machine.ring) a × (a ≡ foretold d.width m w)
at_once d m h w most a ends idle e = go e.before refl
  where
    go : (n : ℕ) → e.before ≡ n → Truth d.width (fixed_on m.ring) (ends_on (d.run m 0 (acts w 0)).machine.ring) a × (a ≡ foretold d.width m w)
    go zero first =
        let same : e.answer ≡ a =
        ap (λ (p : Place). answer_in (look 1 p))
        (sym (subst (λ (n : ℕ). place_of (d.run m 0 (acts w (suc n))).machine.workers w ≡ Idle e.answer) first e.ends) ∙ ends) in (
          subst (Truth d.width (fixed_on m.ring) (ends_on (d.run m 0 (acts w 0)).machine.ring)) same
              (subst (λ (n : ℕ). Truth d.width (fixed_on m.ring) (ends_on (d.run m 0 (acts w n)).machine.ring) e.answer) first e.true_then),
          sym same ∙ e.foretold_answer,
        )
    go (suc n) later = absurd (true≢false (sym (subst (λ (n : ℕ). busy_at (d.run m 0 (acts w n)).machine w ≡ true) later e.busy) ∙ idle n))

-- ---- letting go

-- Before and after each of these entries w is busy.
unfoldable pub busy_along : Definition → Machine → ℕ → List ℕ → Bool
busy_along d m w [] = busy_at m w
busy_along d m w (first ∷ []) = busy_at m w
busy_along d m w (first ∷ second ∷ others) = cond (busy_at m w) (busy_along d (d.turn m first second).machine w others) false

pub holds_on : (d : Definition) (m : Machine) (w n : ℕ) (entries : List ℕ) → busy_along d m w entries ≡ true → LetsGo d m w entries n → ⊥
unfolding busy_along passed
holds_on d m w n entries b l =
    absurd (true≢false (sym (along m l.before l.after (ap (busy_along d m w) (sym l.split) ∙ b)) ∙ ap (λ (p : Place). (view_of p).busy) l.ends))
  where
    here : (m : Machine) (entries : List ℕ) → busy_along d m w entries ≡ true → busy_at m w ≡ true
    here m [] b = b
    here m (first ∷ []) b = b
    here m (first ∷ second ∷ others) b = (both (busy_at m w) _ b).0

    along : (m : Machine) (before after : List ℕ) → busy_along d m w (before ++ after) ≡ true → busy_at (passed d m before) w ≡ true
    along m [] after b = here m after b
    along m (first ∷ []) after b = here m (first ∷ after) b
    along m (first ∷ second ∷ others) after b = along (d.turn m first second).machine others after (both (busy_at m w) _ b).1
