-- What the functions of the face find out on their way, and so what they answer.
use Prim.Native.Nat.{ℕ}
use mathlib.Core.Path.{◌≡◌, refl, sym, ap, ◌∙◌}
use mathlib.Core.Bool.{Bool, true, false, cond}
use mathlib.Core.List.{List}
use lib.Dec.{eqb}
use lib.ListN.{length}
use borrow.Author.Tests.{eq-eqb, ne_eqb, eqb-true}
use Rattle.std.specs.Prelude.{Result}
use Rattle.queue_entries.specs.Told.{told}
use Rattle.queue_entries.proofs.Pick.{along, both_left, both_right}
use Rattle.single_machine.specs.declared.Machine.{Machine}
use Rattle.single_machine.specs.declared.Did.{Did}
use Rattle.single_machine.specs.declared.Ran.{Ran}
use Rattle.single_machine.specs.Broken.{broken_of}
use Rattle.single_machine.specs.Contents.{count_in, contents_refusal, written}
use Rattle.single_machine.specs.Run.{run_of}
use Rattle.single.specs.Single.{make_of, step_of}
use Rattle.single_rows.specs.Rows.{words, head_of, records_of, machine_in, shaped, stand}
use Rattle.single_rows.proofs.Standing.{standing}
use Rattle.single_host.specs.declared.Reply.{Reply}
use Rattle.single_host.specs.Host.{reply, broken_refusal, broken_words, after, after_of, make_words, step_words_of, ended, ended_of, run_words, reply_of, listed, contents_in, contents_words}

pub along_reply : (p q : Result ℕ ℕ) (r : Reply) → p ≡ q → r ≡ reply_of q → r ≡ reply_of p
along_reply = along reply_of

-- ---- words that stand for nothing
module _ (h rs : List ℕ) (b : Bool) (eb : b ≡ stand (words h rs)) where
  module _ (no : b ≡ false) where
    pub step_six : (first second : ℕ) → after 6 (words h rs) ≡ step_words_of (words h rs) first second
    unfolding step_words_of
    step_six first second = sym (rw (sym eb ∙ no) refl)

    pub run_six : (s : List ℕ) → ended (reply 6 0) (words h rs) ≡ run_words (words h rs) s
    unfolding run_words
    run_six s = sym (rw (sym eb ∙ no) refl)

    pub contents_six : (buffer : List ℕ) → listed (reply 6 0) buffer ≡ contents_words (words h rs) buffer
    unfolding contents_words
    contents_six buffer = sym (rw (sym eb ∙ no) refl)

    pub broken_six : 6 ≡ broken_refusal (words h rs)
    unfolding broken_refusal broken_words
    broken_six = sym (rw (sym eb ∙ no) refl)

  -- ---- words that stand for a machine
  module _ (yes : b ≡ true) where
    pub five_words : length h ≡ 5
    five_words = (standing (words h rs) (sym eb ∙ yes)).five_words

    pub all_words : length rs ≡ 48
    all_words = (standing (words h rs) (sym eb ∙ yes)).all_words

    module _ (m : Machine) (em : m ≡ machine_in (words h rs)) where
      pub stepped : (first second : ℕ) (d : Did) → d ≡ step_of m first second → (h' rs' : List ℕ) → h' ≡ head_of d.machine → rs' ≡ records_of d.machine.workers
          → after d.refusal (words h' rs') ≡ step_words_of (words h rs) first second
      unfolding step_words_of
      stepped first second d ed h' rs' eh er =
          (λ i. after d.refusal (words (eh i) (er i))) ∙ ap after_of (ed ∙ ap (λ (x : Machine). step_of x first second) em)
          ∙ sym (ap (λ (t : Bool). cond t (after_of (step_of (machine_in (words h rs)) first second)) (after 6 (words h rs))) (sym eb ∙ yes))

      pub went : (s : List ℕ) (r : Ran) → r ≡ run_of m s → (h' rs' : List ℕ) → h' ≡ head_of r.machine → rs' ≡ records_of r.machine.workers
          → ended (reply r.refusal r.place) (words h' rs') ≡ run_words (words h rs) s
      unfolding run_words
      went s r er h' rs' eh ers =
          (λ i. ended (reply r.refusal r.place) (words (eh i) (ers i))) ∙ ap ended_of (er ∙ ap (λ (x : Machine). run_of x s) em)
          ∙ sym (ap (λ (t : Bool). cond t (ended_of (run_of (machine_in (words h rs)) s)) (ended (reply 6 0) (words h rs))) (sym eb ∙ yes))

      pub looked : (t : Bool) → t ≡ broken_of m → cond t 6 0 ≡ broken_refusal (words h rs)
      unfolding broken_refusal broken_words
      looked t et = ap (λ (x : Bool). cond x 6 0) (et ∙ ap broken_of em) ∙ sym (ap (λ (x : Bool). cond (cond x (broken_of (machine_in (words h rs))) true) 6 0) (sym eb ∙ yes))

      pub is_broken : (t : Bool) → t ≡ broken_of m → t ≡ true → 6 ≡ broken_refusal (words h rs)
      is_broken t et e = ap (λ (x : Bool). cond x 6 0) (sym e) ∙ looked t et

      pub is_sound : (t : Bool) → t ≡ broken_of m → t ≡ false → 0 ≡ broken_refusal (words h rs)
      is_sound t et e = ap (λ (x : Bool). cond x 6 0) (sym e) ∙ looked t et

      pub contents_listed : (buffer buffer' : List ℕ) (t : Result ℕ ℕ) (r : Reply) → t ≡ told (contents_refusal m (length buffer)) (count_in m) → buffer' ≡ written m buffer → r ≡ reply_of t
          → listed r buffer' ≡ contents_words (words h rs) buffer
      unfolding contents_words
      contents_listed buffer buffer' t r et eu er =
          (λ i. listed ((er ∙ ap reply_of et) i) (eu i)) ∙ ap (λ (x : Machine). contents_in x buffer) em
          ∙ sym (ap (λ (x : Bool). cond x (contents_in (machine_in (words h rs)) buffer) (listed (reply 6 0) buffer)) (sym eb ∙ yes))

-- ---- making
module _ (h rs : List ℕ) (b : Bool) (eb : b ≡ shaped (words h rs)) where
  pub make_six : b ≡ false → (workers : ℕ) → after 6 (words h rs) ≡ make_words (words h rs) workers
  unfolding make_words
  make_six f workers = sym (rw (sym eb ∙ f) refl)

  module _ (yes : b ≡ true) where
    pub five_long : length h ≡ 5
    unfolding shaped
    five_long = eqb-true (length h) 5 (both_left (eqb (length h) 5) _ (sym eb ∙ yes))

    pub all_long : length rs ≡ 48
    unfolding shaped
    all_long = eqb-true (length rs) 48 (both_right (eqb (length h) 5) _ (sym eb ∙ yes))

    module _ (workers : ℕ) (d : Did) (ed : d ≡ make_of workers) where
      asked : cond (eqb d.refusal 0) (after_of d) (after d.refusal (words h rs)) ≡ make_words (words h rs) workers
      unfolding make_words
      asked =
          ap (λ (x : Did). cond (eqb x.refusal 0) (after_of x) (after x.refusal (words h rs))) ed
          ∙ sym (ap (λ (t : Bool). cond t (cond (eqb (make_of workers).refusal 0) (after_of (make_of workers)) (after (make_of workers).refusal (words h rs))) (after 6 (words h rs))) (sym eb ∙ yes))

      pub not_made : (d.refusal ≡ 0 → ⊥) → after d.refusal (words h rs) ≡ make_words (words h rs) workers
      not_made ne = sym (ap (λ (t : Bool). cond t (after_of d) (after d.refusal (words h rs))) (ne_eqb d.refusal 0 ne)) ∙ asked

      pub made : d.refusal ≡ 0 → (h' rs' : List ℕ) → h' ≡ head_of d.machine → rs' ≡ records_of d.machine.workers → after 0 (words h' rs') ≡ make_words (words h rs) workers
      made zero_is h' rs' eh er =
          (λ i. after (sym zero_is i) (words (eh i) (er i)))
          ∙ sym (ap (λ (t : Bool). cond t (after_of d) (after d.refusal (words h rs))) (eq-eqb d.refusal 0 zero_is)) ∙ asked
