-- A history without the loads: one worker alone, after 16,383 rounds, seems to sleep on its word for all of them.
use Prim.Native.Nat.{ℕ}
use mathlib.Core.Path.{◌≡◌, refl, sym, ap, ◌∙◌}
use mathlib.Core.Bool.{Bool, true, false, cond, true≢false}
use mathlib.Core.List.{List, [], ◌∷◌, ◌++◌, append_assoc, append-nil}
use native.Mathlib.Omega.{arith}
use lib.Dec.{eqb}
use lib.ListN.{length, replicate}
use Rattle.queue_entries.specs.Schedules.{run_by, history_by}
use Rattle.queue_entries.specs.Entries.{stray_of, order_of, entry_of}
use Rattle.bounded_words.specs.declared.Width.TheVariants.{Sixteen}
use Rattle.bounded_words.specs.Words.{doubled, mark_of, marked_of, fixed_of}
use Rattle.bounded_places.specs.declared.Place.{Place}
use Rattle.bounded_places.specs.declared.Place.TheVariants.{Idle, P1, P2, P3, P4, P5, P6, F6, F7, F8, F9, O1, O2, O3, O4, O5, O6, Len1, Len2, Len3, Empty1, Empty2, Full1, Full2, Close1, IsClosed1}
use Rattle.bounded_acts.specs.Acts.{goes, after_tail}
use Rattle.bounded_machine.specs.declared.Machine.{Machine}
use Rattle.bounded_machine.specs.declared.Event.{Event}
use Rattle.bounded_machine.specs.declared.Tally.{Tally}
use Rattle.bounded_machine.specs.Machine.{fresh_of, place_of, accepted, idler, fixed_on}
use Rattle.bounded_machine.specs.Turn.{record_after, begun, stored, acted_by, turn_of_by}
use Rattle.bounded_machine.specs.Run.{ran, run_at}
use Rattle.bounded_machine.specs.History.{history_at, moved_of, untallied, tally_of}
use Rattle.bounded_demands.specs.Notions.{Allowed, rounds, tally, tail_by, tailers_of, is_new, holding_at, holds, gives_to, since_from, since, window_length}
use Rattle.bounded_demands.specs.Demands.{AloneKeeps}
use Rattle.bounded_proof_demand2.proofs.Counts.{tally_tail}
use Rattle.bounded_proof_each_act.proofs.Stamps.{W, marked_tail}
use Rattle.bounded_proof_window.proofs.Paths.{tally_both}
use Rattle.bounded_proof_window.proofs.Rounds.{at, both, Rounds}
use Rattle.bounded_proof_window.proofs.Kept.{laps, ground, one, first, fresh_is, made}
use Rattle.bounded_slips.specs.Slips.{unloaded, forgetful}

-- an act that gives a word claims nothing
load_claims : (p : Place) (w : ℕ) → is_new (holding_at p) ≡ true → tail_by (moved_of p) w ≡ []
load_claims (Idle a) w h = refl
load_claims (P1 k x) w h = refl
load_claims (P2 k t x) w h = refl
load_claims (P3 k t x) w h = refl
load_claims (P4 t x) w h = absurd (true≢false (sym h))
load_claims (P5 t) w h = refl
load_claims (P6 t x) w h = refl
load_claims (F6 t x) w h = refl
load_claims (F7 t x) w h = refl
load_claims (F8 t x) w h = absurd (true≢false (sym h))
load_claims (F9 t old) w h = refl
load_claims O1 w h = refl
load_claims (O2 t) w h = refl
load_claims (O3 t) w h = refl
load_claims (O4 t) w h = refl
load_claims (O5 t v) w h = refl
load_claims (O6 t) w h = refl
load_claims Len1 w h = refl
load_claims (Len2 t) w h = refl
load_claims (Len3 t u) w h = refl
load_claims Empty1 w h = refl
load_claims (Empty2 t) w h = refl
load_claims Full1 w h = refl
load_claims (Full2 t) w h = refl
load_claims Close1 w h = refl
load_claims IsClosed1 w h = refl

-- so the claims are told all the same
claims_told : (h : List Event) → tailers_of (unloaded h) ≡ tailers_of h
unfolding unloaded tailers_of
claims_told [] = refl
claims_told (e ∷ h) = go (claims_told h) (is_new (holding_at e.after)) refl
  where
    go : tailers_of (unloaded h) ≡ tailers_of h → (b : Bool) → is_new (holding_at e.after) ≡ b
        → tailers_of (cond b (unloaded h) (e ∷ unloaded h)) ≡ tail_by (moved_of e.after) e.worker ++ tailers_of h
    go rest true q = rest ∙ ap (λ (l : List ℕ). l ++ tailers_of h) (sym (load_claims e.after e.worker q))
    go rest false q = ap (λ (l : List ℕ). tail_by (moved_of e.after) e.worker ++ l) rest

-- and nothing that is told gives a word
all_since : (w : ℕ) (h past : List Event) → since_from w past (unloaded h) ≡ past ++ unloaded h
unfolding unloaded since_from
all_since w [] past = sym (append-nil past)
all_since w (e ∷ h) past = go (λ (l : List Event). all_since w h l) (is_new (holding_at e.after)) refl
  where
    go : ((l : List Event) → since_from w l (unloaded h) ≡ l ++ unloaded h) → (b : Bool) → is_new (holding_at e.after) ≡ b
        → since_from w past (cond b (unloaded h) (e ∷ unloaded h)) ≡ past ++ cond b (unloaded h) (e ∷ unloaded h)
    go rest true q = rest past
    go rest false q =
        ap (λ (l : List Event). since_from w l (unloaded h)) (gives q) ∙ rest (past ++ e ∷ []) ∙ append_assoc past (e ∷ []) (unloaded h)
      where
        gives : is_new (holding_at e.after) ≡ false → cond (gives_to w e) [] (past ++ e ∷ []) ≡ past ++ e ∷ []
        gives q = picks (eqb e.worker w)
          where
            picks : (b : Bool) → cond (cond b (is_new (holding_at e.after)) false) [] (past ++ e ∷ []) ≡ past ++ e ∷ []
            picks true = rw q
            picks false = refl

one_one : Allowed 1 1 1
one_one =
    record {
      slot_some = omega arith;
      slot_most = omega arith;
      worker_some = omega arith;
      worker_most = omega arith;
      edition_some = omega arith;
      edition_most = omega arith;
    }

-- after the rounds a push loads tail
abbrev loads : List ℕ
loads = 0 ∷ 7 ∷ 8 ∷ 0 ∷ []

abbrev start : Machine
start = fresh_of 1 1 1

-- the machine and the acts up to there, with what the rounds did and what they left
module _ (g : Rounds Sixteen 1 (mark_of 1) (laps Sixteen 1 1 one_one) 1 (ground Sixteen 1 1 one_one) (replicate 15 idler) 1 (one Sixteen 1 1 one_one)
    (first Sixteen 1 1 one_one) 16383 16383 163830 loads) where
  abbrev left : Machine
  left =
      at Sixteen 1 (mark_of 1) (laps Sixteen 1 1 one_one) 1 (ground Sixteen 1 1 one_one) (replicate 15 idler) 1 (one Sixteen 1 1 one_one)
      (both Sixteen 1 (mark_of 1) (laps Sixteen 1 1 one_one) 1 (ground Sixteen 1 1 one_one) (replicate 15 idler) 1 (one Sixteen 1 1 one_one) 16383) g.slots (Idle g.answer) 163830

  ran_is : (run_at Sixteen start 0 (rounds 16383 ++ loads)).machine ≡ (run_at Sixteen left 0 loads).machine
  ran_is = ap (λ (m : Machine). (run_at Sixteen m 0 (rounds 16383 ++ loads)).machine) (fresh_is Sixteen 1 1 one_one) ∙ g.goes_on.run

  told_is : history_at Sixteen start (rounds 16383 ++ loads) ≡ g.done ++ history_at Sixteen left loads
  told_is = ap (λ (m : Machine). history_at Sixteen m (rounds 16383 ++ loads)) (fresh_is Sixteen 1 1 one_one) ∙ g.goes_on.history

  unmarked : marked_of (fixed_of 1 1) (W 1 2 (laps Sixteen 1 1 one_one) 16383) ≡ false
  unfolding doubled mark_of
  unmarked = marked_tail Sixteen 1 2 (laps Sixteen 1 1 one_one) (ground Sixteen 1 1 one_one) 1 16383 false

  -- it holds the word that it has just loaded
  held : holds (holding_at (place_of (run_at Sixteen left 0 loads).machine.workers 0)) ≡ true
  unfolding doubled mark_of marked_of stray_of order_of entry_of goes after_tail accepted record_after begun stored acted_by turn_of_by ran run_by
  held = rw unmarked

  window : window_length Sixteen (fixed_on (run_at Sixteen left 0 loads).machine.ring) ≡ 16382
  unfolding doubled mark_of marked_of stray_of order_of entry_of goes after_tail accepted record_after begun stored acted_by turn_of_by ran run_by
  window = refl

  last_claims : (t : Tally) → (tally_of (history_at Sixteen left loads) t).tail.0 ≡ t.tail.0
  unfolding doubled mark_of marked_of stray_of order_of entry_of goes after_tail accepted record_after begun stored acted_by turn_of_by ran run_by history_by tally_of
  last_claims t = rw unmarked

  claimed : (tally (since 0 (unloaded (history_at Sixteen start (rounds 16383 ++ loads))))).tail.0 ≡ 16383
  claimed =
      ap (λ (h : List Event). (tally h).tail.0) (all_since 0 (history_at Sixteen start (rounds 16383 ++ loads)) [])
      ∙ tally_tail (unloaded (history_at Sixteen start (rounds 16383 ++ loads))) ∙ ap length (claims_told (history_at Sixteen start (rounds 16383 ++ loads)))
      ∙ sym (tally_tail (history_at Sixteen start (rounds 16383 ++ loads))) ∙ ap (λ (h : List Event). (tally h).tail.0) told_is
      ∙ ap (λ (t : Tally). t.tail.0) (tally_both g.done (history_at Sixteen left loads) untallied) ∙ last_claims (tally_of g.done untallied) ∙ g.tails untallied

  forgets : AloneKeeps forgetful → ⊥
  forgets keeps =
      let q = (keeps 1 1 one_one (rounds 16383 ++ loads) (rounds 16383 ++ loads) [] (sym (append-nil (rounds 16383 ++ loads))) 0
      (ap (λ (m : Machine). holds (holding_at (place_of m.workers 0))) ran_is ∙ held)).0 in
      let size : window_length Sixteen (fixed_on (run_at Sixteen start 0 (rounds 16383 ++ loads)).machine.ring) ≡ 16382 = ap
      (λ (m : Machine). window_length Sixteen (fixed_on m.ring)) ran_is ∙ window in
      omega (arith, q, claimed, size)

pub alone_keeps : AloneKeeps forgetful → ⊥
alone_keeps = forgets (made Sixteen 1 1 one_one 16383 (omega arith) loads)
