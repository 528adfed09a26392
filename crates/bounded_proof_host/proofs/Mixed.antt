-- A host's steps and schedules in any mixture are those of the lent face on what the words stand for.
use Prim.Native.Nat.{ℕ}
use mathlib.Core.Path.{◌≡◌, refl, sym, ap, ◌∙◌, subst}
use mathlib.Core.Bool.{true, false}
use mathlib.Core.List.{List, [], ◌∷◌, ◌++◌}
use lib.ListN.{length}
use Rattle.queue_entries.specs.Entries.{entry_of}
use Rattle.queue_entries.specs.Schedules.{search_by}
use Rattle.bounded_words.specs.declared.Width.TheVariants.{SixtyFour}
use Rattle.bounded_places.specs.declared.Worker.{Worker}
use Rattle.bounded_machine.specs.declared.Machine.{Machine}
use Rattle.bounded_orders.specs.declared.Metered.{Metered}
use Rattle.bounded_lent.specs.Lent.{broken_lent, Lent, lent, Gone, make_lent}
use Rattle.bounded_rows.specs.Rows.{Words, metered_in, records_in, stand, After}
use Rattle.bounded_host.specs.Host.{make_words, Ended}
use Rattle.bounded_demands.specs.Notions.{with_records, ran_of, entry_unless}
use Rattle.bounded_demands.specs.Lending.{item11, held_in, Doing, stepping, running, done_lent, left_lent, taken_lent, all_taken_lent}
use Rattle.bounded_demands.specs.Demands.{AsOneSchedule, Throughout}
use Rattle.bounded_proof_lent.proofs.Mixed.{lent_mixed}
use Rattle.bounded_proof_host.specs.Hosted.{face, held_words, done_by, left_by, taken_words, all_taken_words, HostedMixed}
use Rattle.bounded_proof_host.proofs.Hosted.{lent_in, step_is, run_is, ring_after, records_after, read_run, kept, fresh, stands₀, in-is₀, sound₀}

-- what the number of an answer was does not matter to what is done next
left_any : (doings : List Doing) (k j : ℕ) (l : Metered) (ys : List Worker) → held_in (left_lent item11 (lent k l ys) doings) ≡ held_in (left_lent item11 (lent j l ys) doings)
unfolding left_lent
left_any [] k j l ys = refl
left_any (stepping first second ∷ rest) k j l ys = refl
left_any (running s ∷ rest) k j l ys = refl

taken_any : (doings : List Doing) (k j : ℕ) (l : Metered) (ys : List Worker) → all_taken_lent item11 (lent k l ys) doings ≡ all_taken_lent item11 (lent j l ys) doings
unfolding all_taken_lent
taken_any [] k j l ys = refl
taken_any (stepping first second ∷ rest) k j l ys = refl
taken_any (running s ∷ rest) k j l ys = refl

module _ (w : Words) (s : stand w ≡ true) where
  -- the words after it are read as what the lent face leaves
  done_is : (y : Doing) → lent_in (done_by face w y) ≡ lent 0 (done_lent item11 (lent_in w) y).ring (done_lent item11 (lent_in w) y).records
  done_is (stepping first second) = λ i. lent 0 (ring_after w s first second i) (records_after w s first second i)
  done_is (running e) = ap (λ (g : Gone). lent 0 g.ring g.records) (read_run w s e)

  taken_is : (y : Doing) → taken_words face w y ≡ taken_lent item11 (lent_in w) y
  taken_is (stepping first second) = ap (λ (x : After). entry_unless x.answer first second) (step_is w s first second)
  taken_is (running e) = ap (λ (x : Ended). ran_of (search_by entry_of 0 e) x.answer.number e) (run_is w s e)

record Same (w : Words) (doings : List Doing) : Type 0 where
  machine : held_words (left_by face w doings) ≡ held_in (left_lent item11 (lent_in w) doings)
  taken : all_taken_words face w doings ≡ all_taken_lent item11 (lent_in w) doings

same : (doings : List Doing) (w : Words) → stand w ≡ true → broken_lent (metered_in w) (records_in w.records) ≡ false → Same w doings
unfolding left_by left_lent all_taken_words all_taken_lent
same [] w s h = record { machine = refl; taken = refl }
same (y ∷ rest) w s h =
    let then = kept y w s h in
    let more = same rest (done_by face w y) then.0 then.1 in
    let x = done_lent item11 (lent_in w) y in
    record {
      machine = more.machine ∙ ap (λ (z : Lent). held_in (left_lent item11 z rest)) (done_is w s y) ∙ left_any rest 0 x.answer x.ring x.records;
      taken =
          (λ i. taken_is w s y i ++ all_taken_words face (done_by face w y) rest)
          ∙ ap (λ (e : List ℕ). taken_lent item11 (lent_in w) y ++ e) (more.taken ∙ ap (λ (z : Lent). all_taken_lent item11 z rest) (done_is w s y) ∙ taken_any rest 0 x.answer x.ring x.records);
    }

pub hosted_mixed : HostedMixed face
hosted_mixed w capacity edition made doings =
    let ys = records_in w.records in
    let x = make_lent ys capacity edition in
    let w₀ = (make_words w capacity edition).words in
    let alike = same doings w₀ (stands₀ w capacity edition made) (sound₀ w capacity edition made) in
    let machine_is : held_in (left_lent item11 x doings) ≡ held_words (left_by face w₀ doings) =
    sym (alike.machine ∙ ap (λ (z : Lent). held_in (left_lent item11 z doings)) (in-is₀ w capacity edition made) ∙ left_any doings 0 x.answer x.ring x.records) in
    let taken_are : all_taken_lent item11 x doings ≡ all_taken_words face w₀ doings =
    sym (alike.taken ∙ ap (λ (z : Lent). all_taken_lent item11 z doings) (in-is₀ w capacity edition made) ∙ taken_any doings 0 x.answer x.ring x.records) in
    let so = lent_mixed ys capacity edition (fresh w capacity edition made).accepted_too doings in (
      subst (λ (m : Machine). AsOneSchedule (with_records (length ys) SixtyFour) capacity (length ys) edition m (all_taken_words face w₀ doings)) machine_is
          (subst (λ (e : List ℕ). AsOneSchedule (with_records (length ys) SixtyFour) capacity (length ys) edition (held_in (left_lent item11 x doings)) e) taken_are so.0),
      subst (λ (e : List ℕ). Throughout (with_records (length ys) SixtyFour) capacity (length ys) edition e) taken_are so.1,
    )
