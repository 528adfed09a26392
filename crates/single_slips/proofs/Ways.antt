-- Ways to refute a statement by what a schedule computes to.
use Prim.Native.Nat.{ℕ, zero, suc, ◌+◌, ◌*◌, ◌≤◌}
use mathlib.Core.Bool.{Bool, true, false, cond, not, true≢false}
use mathlib.Core.List.{List, [], ◌∷◌, ◌++◌}
use mathlib.Core.Path.{◌≡◌, refl, sym, ap, subst, ◌∙◌}
use mathlib.Core.Logic.{◌≢◌}
use native.Mathlib.Omega.{arith}
use native.Mathlib.Decide.{ℕ_discrete}
use lib.Dec.{eqb}
use lib.ListN.{get_or, replicate}
use borrow.Author.Tests.{eq-eqb}
use Rattle.queue_entries.specs.declared.Order.TheVariants.{Act}
use Rattle.queue_entries.specs.declared.Entry.TheVariants.{Asks}
use Rattle.queue_entries.specs.Entries.{entry_of}
use Rattle.queue_entries.proofs.Pick.{both_left, both_right}
use Rattle.queue_rows.proofs.Alike.{all_alike}
use Rattle.queue_schedules.specs.Alone.{acts, passed_by}
use Rattle.single_places.specs.declared.Answer.{Answer}
use Rattle.single_places.specs.declared.Answer.TheVariants.{Nothing}
use Rattle.single_places.specs.declared.Worker.{Worker}
use Rattle.single_places.specs.declared.Place.{Place}
use Rattle.single_places.specs.declared.Place.TheVariants.{Idle}
use Rattle.single_places.specs.Places.{view_of}
use Rattle.single_machine.specs.declared.Machine.{Machine}
use Rattle.single_machine.specs.declared.Event.{Event}
use Rattle.single_machine.specs.Machine.{idler, place_of, accepted}
use Rattle.single_demands.specs.Notions.{Definition, Acts, OtherHand, Popping, popping_c2, popping_c3, Access, none, writes, swaps, reads, access_of, item_of}
use Rattle.single_demands.specs.Notions.{is_read, Holds, holds_c3, holds_b5, Latest, Stands, Came, Took, waits_after, waiting_from, waiting, OneSlot, start, enters}
use Rattle.single_demands.specs.Notions.{displaces, leaves, rests, passed, LetsGo}
use Rattle.single_demands.specs.Foretold.{foretold}
use Rattle.single_demands.specs.Demands.{EndsAlone}
use Rattle.single_proof_demand2.proofs.Effects.{Hand, free, putting, put, swapping, swapped, taking, took, hand_of_worker, hand_is, holding_busy}
use Rattle.queue_schedules.proofs.Splits.{no_cons}
use Rattle.single_proof_demand2.proofs.Log.{waiting_more}

abbrev pub busy_at : Machine → ℕ → Bool
busy_at m w = (view_of (place_of m.workers w)).busy

-- ---- of the acts of a history, one is such
unfoldable pub any_in : (Event → Bool) → List Event → Bool
any_in test [] = false
any_in test (e ∷ h) = cond (test e) true (any_in test h)

any_at : (test : Event → Bool) (xs ys : List Event) (e : Event) → test e ≡ true → any_in test (xs ++ e ∷ ys) ≡ true
unfolding any_in
any_at test [] ys e t = rw t
any_at test (x ∷ xs) ys e t = go (test x) (any_at test xs ys e t)
  where
    go : (b : Bool) → any_in test (xs ++ e ∷ ys) ≡ true → cond b true (any_in test (xs ++ e ∷ ys)) ≡ true
    go true q = refl
    go false q = q

any_in_lem : (test : Event → Bool) (h xs ys : List Event) (e : Event) → h ≡ xs ++ e ∷ ys → test e ≡ true → any_in test h ≡ true
any_in_lem test h xs ys e q t = ap (any_in test) q ∙ any_at test xs ys e t

any_before : (test : Event → Bool) (xs ys : List Event) → any_in test xs ≡ true → any_in test (xs ++ ys) ≡ true
unfolding any_in
any_before test [] ys t = absurd (true≢false (sym t))
any_before test (x ∷ xs) ys t = go (test x) t (any_before test xs ys)
  where
    go : (b : Bool) → cond b true (any_in test xs) ≡ true → (any_in test xs ≡ true → any_in test (xs ++ ys) ≡ true) → cond b true (any_in test (xs ++ ys)) ≡ true
    go true q more = refl
    go false q more = more q

-- the item v was written
abbrev pub is_item : ℕ → List ℕ → Bool
is_item v [] = false
is_item v (x ∷ q) = eqb x v

abbrev pub wrote_it : ℕ → Event → Bool
wrote_it v e = is_item v (item_of (access_of e.before))

latest_wrote : (h : List Event) (v k : ℕ) → Latest h v k → any_in (wrote_it v) h ≡ true
latest_wrote h v k l = any_in_lem (wrote_it v) h l.earlier l.since l.write l.is (ap (is_item v) l.item ∙ eq-eqb v v refl)

pub never_written : (h : List Event) (w v : ℕ) → any_in (wrote_it v) h ≡ false → ((k : ℕ) × Came h w v k) → ⊥
never_written h w v n (k, c) =
    true≢false (sym (ap (any_in (wrote_it v)) c.is ∙ any_before (wrote_it v) c.earlier (c.read ∷ c.since) (latest_wrote c.earlier v k c.of)) ∙ n)

pub not_latest : (h : List Event) (v k : ℕ) → any_in (wrote_it v) h ≡ false → Latest h v k → ⊥
not_latest h v k n l = true≢false (sym (latest_wrote h v k l) ∙ n)

-- the value v was taken along
unfoldable pub held_by : Hand → ℕ → Bool
held_by free v = false
held_by (putting x) v = false
held_by put v = false
held_by (swapping x) v = false
held_by (swapped old) v = eqb old v
held_by taking v = false
held_by (took u) v = eqb u v

abbrev pub got_it : ℕ → Event → Bool
got_it v e = held_by (hand_of_worker e.after) v

pub holds_got : (p : Place) (v : ℕ) → Holds p v → held_by (hand_of_worker p) v ≡ true
unfolding held_by
holds_got p v holds_c3 = eq-eqb v v refl
holds_got p v holds_b5 = eq-eqb v v refl

pub never_got : (h : List Event) (w v : ℕ) → any_in (got_it v) h ≡ false → ((k : ℕ) × Came h w v k) → ⊥
never_got h w v n (k, c) =
    true≢false (sym (any_in_lem (got_it v) h c.earlier c.since c.read c.is (holds_got c.read.after v c.got)) ∙ n)

-- worker w took something out
abbrev pub took_out : ℕ → Event → Bool
took_out w e = cond (eqb e.worker w) (is_read (access_of e.after)) false

pub never_took : (h : List Event) (w v : ℕ) → any_in (took_out w) h ≡ false → Took h w v → ⊥
never_took h w v n t =
    true≢false (sym (any_in_lem (took_out w) h t.earlier t.since t.exchange t.is (rw (eq-eqb t.exchange.worker w t.by) t.takes)) ∙ n)

-- ---- something stands in the slot, unread
abbrev stands_after : Access → Bool → Bool
stands_after none b = b
stands_after (writes x) b = true
stands_after (swaps x) b = true
stands_after reads b = false

unfoldable pub standing : Bool → List Event → Bool
standing b [] = b
standing b (e ∷ h) = standing (stands_after (access_of e.before) b) h

stands_write : (a : Access) (b : Bool) (v : ℕ) → item_of a ≡ v ∷ [] → stands_after a b ≡ true
stands_write none b v e = absurd (no_cons e)
stands_write (writes x) b v e = refl
stands_write (swaps x) b v e = refl
stands_write reads b v e = absurd (no_cons e)

stands_rest : (a : Access) → is_read a ≡ false → item_of a ≡ [] → stands_after a true ≡ true
stands_rest none i n = refl
stands_rest (writes x) i n = refl
stands_rest (swaps x) i n = refl
stands_rest reads i n = absurd (true≢false i)

pub stands_there : (h : List Event) (v k : ℕ) → Stands h v k → standing false h ≡ true
unfolding standing
stands_there h v k s = ap (standing false) s.latest.is ∙ at false s.latest.earlier
  where
    rest : (l : List Event) → Rattle.single_demands.specs.Notions.Unwritten l → Rattle.single_demands.specs.Notions.Unread l → standing true l ≡ true
    rest [] u r = refl
    rest (e ∷ l) u r =
        ap (λ (b : Bool). standing b l) (stands_rest (access_of e.before) r.0 u.0) ∙ rest l u.1 r.1

    at : (b : Bool) (xs : List Event) → standing b (xs ++ s.latest.write ∷ s.latest.since) ≡ true
    at b [] =
        ap (λ (c : Bool). standing c s.latest.since) (stands_write (access_of s.latest.write.before) b v s.latest.item)
        ∙ rest s.latest.since s.latest.unwritten s.unread
    at b (x ∷ xs) = at (stands_after (access_of x.before) b) xs

pub nothing_stands : (h : List Event) (v k : ℕ) → standing false h ≡ false → Stands h v k → ⊥
nothing_stands h v k n s = true≢false (sym (stands_there h v k s) ∙ n)

-- ---- a run of a plain one-slot queue
abbrev fits : Access → List ℕ → Bool
fits none q = true
fits (writes x) [] = true
fits (writes x) (v ∷ q) = false
fits (swaps x) [] = false
fits (swaps x) (v ∷ q) = true
fits reads [] = false
fits reads (v ∷ q) = true

unfoldable pub runs_from : List ℕ → List Event → Bool
runs_from q [] = true
runs_from q (e ∷ h) = cond (fits (access_of e.after) q) (runs_from (waits_after (access_of e.after) q) h) false

runs_more : (q : List ℕ) (h : List Event) (e : Event) → runs_from q h ≡ true → fits (access_of e.after) (waiting_from q h) ≡ true → runs_from q (h ++ e ∷ []) ≡ true
unfolding runs_from waiting_from
runs_more q [] e r f = rw f
runs_more q (x ∷ h) e r f =
    rw (both_left (fits (access_of x.after) q) _ r) (runs_more (waits_after (access_of x.after) q) h e (both_right (fits (access_of x.after) q) _ r) f)

pub plain_runs : (h : List Event) (q : List ℕ) → OneSlot h q → (runs_from [] h ≡ true) × (q ≡ waiting h)
unfolding runs_from waiting_from
plain_runs h q start = (refl, refl)
plain_runs h q (enters g e x o a) =
    let p = plain_runs g [] o in
    (runs_more [] g e p.0 (ap (λ (b : Access). fits b (waiting g)) a ∙ ap (fits (writes x)) (sym p.1)), sym (waiting_more g e ∙ ap (λ (b : Access). waits_after b (waiting g)) a))
plain_runs h q (displaces g e x old o a) =
    let p = plain_runs g (old ∷ []) o in
    (runs_more [] g e p.0 (ap (λ (b : Access). fits b (waiting g)) a ∙ ap (fits (swaps x)) (sym p.1)), sym (waiting_more g e ∙ ap (λ (b : Access). waits_after b (waiting g)) a))
plain_runs h q (leaves g e x o a) =
    let p = plain_runs g (x ∷ []) o in
    (runs_more [] g e p.0 (ap (λ (b : Access). fits b (waiting g)) a ∙ ap (fits reads) (sym p.1)), sym (waiting_more g e ∙ ap (λ (b : Access). waits_after b (waiting g)) a))
plain_runs h q (rests g r e o a) =
    let p = plain_runs g r o in
    (runs_more [] g e p.0 (ap (λ (b : Access). fits b (waiting g)) a), p.1 ∙ sym (waiting_more g e ∙ ap (λ (b : Access). waits_after b (waiting g)) a))

-- ---- the next act of w, where it is accepted
pub acting : (d : Definition) (m : Machine) (w : ℕ) → entry_of (16 * w + 8) 0 ≡ Asks w (Act false)
    → d.turn m (16 * w + 8) 0 ≡ accepted (d.turn m (16 * w + 8) 0).machine → Acts d m w (d.turn m (16 * w + 8) 0).machine
acting d m w asks done = record { first = 16 * w + 8; second = 0; lose = false; asks = asks; done = done }

-- ---- two workers; fourteen were never begun
pub quiet : (v : ℕ) → (get_or (replicate 14 idler) v idler).place ≡ Idle Nothing
quiet v = ap (λ (z : Worker). z.place) (all_alike 14 v idler)

pub popping_busy : (p : Place) → Popping p → (view_of p).busy ≡ true
popping_busy p popping_c2 = refl
popping_busy p popping_c3 = refl

-- what is said of no worker
pub nobody : (P : Place → Type 0) (m : Machine) → (P (place_of m.workers 0) → ⊥) → (P (place_of m.workers 1) → ⊥) → (P (Idle Nothing) → ⊥)
    → ((v : ℕ) → place_of m.workers (suc (suc v)) ≡ Idle Nothing) → (v : ℕ) → P (place_of m.workers v) → ⊥
nobody P m a b c rest zero p = a p
nobody P m a b c rest (suc zero) p = b p
nobody P m a b c rest (suc (suc v)) p = c (subst P (rest v) p)

pub no_hand : (m : Machine) (w : ℕ) → (0 ≢ w → busy_at m 0 ≡ false) → (1 ≢ w → busy_at m 1 ≡ false)
    → ((v : ℕ) → place_of m.workers (suc (suc v)) ≡ Idle Nothing) → OtherHand m w → ⊥
no_hand m w a b rest (v, ne, i) = go v ne (holding_busy (place_of m.workers v) (sym (hand_is (place_of m.workers v)) ∙ i))
  where
    go : (v : ℕ) → v ≢ w → busy_at m v ≡ true → ⊥
    go zero ne q = true≢false (sym q ∙ a ne)
    go (suc zero) ne q = true≢false (sym q ∙ b ne)
    go (suc (suc v)) ne q = true≢false (sym q ∙ ap (λ (p : Place). (view_of p).busy) (rest v))

-- ---- alone

-- After each of 1 to so many acts of w alone it is busy, or idle.
unfoldable pub always : Bool → Definition → Machine → ℕ → ℕ → Bool
always b d m w zero = true
always b d m w (suc n) = cond (cond b (busy_at (d.run m 0 (acts w (suc n))).machine w) (not (busy_at (d.run m 0 (acts w (suc n))).machine w))) (always b d m w n) false

always_at : (b : Bool) (d : Definition) (m : Machine) (w n k : ℕ) → always b d m w n ≡ true → k + 1 ≤ n → busy_at (d.run m 0 (acts w (suc k))).machine w ≡ b
unfolding always
always_at b d m w zero k a l = absurd (omega arith)
always_at b d m w (suc n) k a l = go (ℕ_discrete k n) (λ e. always_at b d m w n k (both_right (is_b n) (always b d m w n) a) (omega arith))
  where
    is_b : ℕ → Bool
    is_b j = cond b (busy_at (d.run m 0 (acts w (suc j))).machine w) (not (busy_at (d.run m 0 (acts w (suc j))).machine w))

    read_off : (b c : Bool) → cond b c (not c) ≡ true → c ≡ b
    read_off true c q = q
    read_off false true q = absurd (true≢false (sym q))
    read_off false false q = refl

    go : Dec (k ≡ n) → (k ≢ n → busy_at (d.run m 0 (acts w (suc k))).machine w ≡ b) → busy_at (d.run m 0 (acts w (suc k))).machine w ≡ b
    go (yes e) on =
        subst (λ (z : ℕ). busy_at (d.run m 0 (acts w (suc z))).machine w ≡ b) (sym e) (read_off b (busy_at (d.run m 0 (acts w (suc n))).machine w) (both_left (is_b n) (always b d m w n) a))
    go (no e) on = on e

pub late : (d : Definition) (m : Machine) (h : List Event) (w most : ℕ) → always true d m w most ≡ true → EndsAlone d m h w most → ⊥
late d m h w most b e =
    true≢false (sym (always_at true d m w most e.before b e.within) ∙ ap (λ (p : Place). (view_of p).busy) e.ends)

-- A call that ends with its next act, and is idle from then on, gives the answer of that act: the one foretold.
pub at_once : (d : Definition) (m : Machine) (h : List Event) (w most : ℕ) (answer_in : Place → Answer) (a : Answer) → answer_in (Idle a) ≡ a
    → answer_in (place_of (d.run m 0 (acts w 1)).machine.workers w) ≡ a → ((b : Answer) → answer_in (Idle b) ≡ b)
    → always false d m w most ≡ true → EndsAlone d m h w most → a ≡ foretold m w
at_once d m h w most answer_in a is first read idle e = go e.before refl
  where
    go : (n : ℕ) → e.before ≡ n → a ≡ foretold m w
    go zero z =
        sym first ∙ ap answer_in (subst (λ (n : ℕ). place_of (d.run m 0 (acts w (suc n))).machine.workers w ≡ Idle e.answer) z e.ends)
        ∙ read e.answer ∙ e.as_foretold
    go (suc n) z =
        absurd (true≢false (sym (subst (λ (k : ℕ). busy_at (d.run m 0 (acts w k)).machine w ≡ true) z e.busy)
        ∙ always_at false d m w most n idle (omega (arith, e.within))))

-- ---- letting go

-- Before and after each of these entries w is busy.
unfoldable pub busy_along : Definition → Machine → ℕ → List ℕ → Bool
busy_along d m w [] = busy_at m w
busy_along d m w (first ∷ []) = busy_at m w
busy_along d m w (first ∷ second ∷ others) = cond (busy_at m w) (busy_along d (d.turn m first second).machine w others) false

pub holds_on : (d : Definition) (m : Machine) (w n : ℕ) (entries : List ℕ) → busy_along d m w entries ≡ true → LetsGo d m w entries n → ⊥
unfolding busy_along passed_by
holds_on d m w n entries b l =
    true≢false (sym (along m l.before l.after (ap (busy_along d m w) (sym l.split) ∙ b)) ∙ ap (λ (p : Place). (view_of p).busy) l.ends)
  where
    here : (m : Machine) (entries : List ℕ) → busy_along d m w entries ≡ true → busy_at m w ≡ true
    here m [] b = b
    here m (first ∷ []) b = b
    here m (first ∷ second ∷ others) b = both_left (busy_at m w) _ b

    along : (m : Machine) (before after : List ℕ) → busy_along d m w (before ++ after) ≡ true → busy_at (passed d m before) w ≡ true
    along m [] after b = here m after b
    along m (first ∷ []) after b = here m (first ∷ after) b
    along m (first ∷ second ∷ others) after b = along (d.turn m first second).machine others after (both_right (busy_at m w) _ b)
