-- What the functions of the face find out on their way, and so what they answer.
use Prim.Native.Nat.{ℕ, ◌<◌}
use mathlib.Core.Path.{◌≡◌, refl, sym, ap, ◌∙◌}
use mathlib.Core.Bool.{Bool, true, false, cond}
use mathlib.Core.List.{List}
use native.Mathlib.Omega.{arith}
use lib.Dec.{eqb}
use lib.ListN.{length}
use borrow.Author.Tests.{eq-eqb, ne_eqb}
use Rattle.std.specs.Prelude.{Result}
use Rattle.queue_entries.specs.Told.{told}
use Rattle.queue_entries.proofs.Pick.{along, both_left}
use Rattle.unbounded_words.specs.Words.{sizes}
use Rattle.unbounded_places.specs.declared.Block.{Block}
use Rattle.unbounded_places.specs.declared.Ends.{Ends}
use Rattle.unbounded_places.specs.declared.Worker.{Worker}
use Rattle.unbounded_machine.specs.declared.Machine.{Machine}
use Rattle.unbounded_machine.specs.declared.Did.{Did}
use Rattle.unbounded_machine.specs.declared.Ran.{Ran}
use Rattle.unbounded_machine.specs.Broken.{broken_in, broken_of}
use Rattle.unbounded_machine.specs.Contents.{count_in, contents_refusal, written}
use Rattle.unbounded_machine.specs.Run.{run_of}
use Rattle.unbounded.specs.Unbounded.{make_of, step_of}
use Rattle.unbounded_rows.specs.Rows.{words, head_of, pool_of, records_of, word_at, ends_in, blocks_in, records_in, machine_in, shaped, stand}
use Rattle.unbounded_rows.proofs.Standing.{standing, shape_of}
use Rattle.unbounded_host.specs.declared.Reply.{Reply}
use Rattle.unbounded_host.specs.Host.{reply, broken_refusal, broken_words, after, after_of, make_words, step_words_of, ended, ended_of, run_words, reply_of, listed, contents_in, contents_words}

pub along_reply : (p q : Result ℕ ℕ) (r : Reply) → p ≡ q → r ≡ reply_of q → r ≡ reply_of p
along_reply = along reply_of

-- ---- words that stand for nothing
module _ (h p rs : List ℕ) (b : Bool) (eb : b ≡ stand (words h p rs)) where
  module _ (no : b ≡ false) where
    pub step_six : (first second : ℕ) → after 6 (words h p rs) ≡ step_words_of (words h p rs) first second
    unfolding step_words_of
    step_six first second = sym (rw (sym eb ∙ no) refl)

    pub run_six : (s : List ℕ) → ended (reply 6 0) (words h p rs) ≡ run_words (words h p rs) s
    unfolding run_words
    run_six s = sym (rw (sym eb ∙ no) refl)

    pub contents_six : (buffer : List ℕ) → listed (reply 6 0) buffer ≡ contents_words (words h p rs) buffer
    unfolding contents_words
    contents_six buffer = sym (rw (sym eb ∙ no) refl)

    pub broken_six : 6 ≡ broken_refusal (words h p rs)
    unfolding broken_refusal broken_words
    broken_six = sym (rw (sym eb ∙ no) refl)

  -- ---- words that stand for a machine
  module _ (yes : b ≡ true) where
    pub head_words : length h ≡ 8
    head_words = (standing (words h p rs) (sym eb ∙ yes)).head_words

    pub fifth_word : 4 < length h
    fifth_word = omega (arith, head_words)

    pub pool_words : length p ≡ 4096
    pool_words = (standing (words h p rs) (sym eb ∙ yes)).pool_words

    pub record_words : length rs ≡ 80
    record_words = (standing (words h p rs) (sym eb ∙ yes)).record_words

    module _ (m : Machine) (em : m ≡ machine_in (words h p rs)) where
      pub looked : (t : Bool) → t ≡ broken_of sizes m → cond t 6 0 ≡ broken_refusal (words h p rs)
      unfolding broken_refusal broken_words
      looked t et = ap (λ (x : Bool). cond x 6 0) (et ∙ ap (broken_of sizes) em) ∙ sym (ap (λ (x : Bool). cond (cond x (broken_of sizes (machine_in (words h p rs))) true) 6 0) (sym eb ∙ yes))

      pub is_broken : (t : Bool) → t ≡ broken_of sizes m → t ≡ true → 6 ≡ broken_refusal (words h p rs)
      is_broken t et e = ap (λ (x : Bool). cond x 6 0) (sym e) ∙ looked t et

      pub is_sound : (t : Bool) → t ≡ broken_of sizes m → t ≡ false → 0 ≡ broken_refusal (words h p rs)
      is_sound t et e = ap (λ (x : Bool). cond x 6 0) (sym e) ∙ looked t et

      pub contents_listed : (buffer buffer' : List ℕ) (t : Result ℕ ℕ) (r : Reply) → t ≡ told (contents_refusal sizes m (length buffer)) (count_in sizes m) → buffer' ≡ written sizes m buffer → r ≡ reply_of t
          → listed r buffer' ≡ contents_words (words h p rs) buffer
      unfolding contents_words
      contents_listed buffer buffer' t r et eu er =
          (λ i. listed ((er ∙ ap reply_of et) i) (eu i)) ∙ ap (λ (x : Machine). contents_in x buffer) em
          ∙ sym (ap (λ (x : Bool). cond x (contents_in (machine_in (words h p rs)) buffer) (listed (reply 6 0) buffer)) (sym eb ∙ yes))

    -- judged by the parts that are asked for
    module _ (e : Ends) (gs : List Block) (ws : List Worker) (t : Bool) (ee : e ≡ ends_in h) (eg : gs ≡ blocks_in p) (ew : ws ≡ records_in rs) (et : t ≡ broken_in sizes e gs ws (word_at h 4)) where
      as_machine : t ≡ broken_of sizes (machine_in (words h p rs))
      unfolding machine_in
      as_machine = et ∙ (λ i. broken_in sizes (ee i) (eg i) (ew i) (word_at h 4))

      pub parts_broken : t ≡ true → 6 ≡ broken_refusal (words h p rs)
      parts_broken = is_broken (machine_in (words h p rs)) refl t as_machine

      pub parts_sound : t ≡ false → 0 ≡ broken_refusal (words h p rs)
      parts_sound = is_sound (machine_in (words h p rs)) refl t as_machine

-- ---- lengths
module _ (h p rs : List ℕ) where
  pub shape_so : (b : Bool) → b ≡ stand (words h p rs) → b ≡ true → shaped (words h p rs) ≡ true
  unfolding stand
  shape_so b eb so = both_left (shaped (words h p rs)) _ (sym eb ∙ so)

  pub long_head : shaped (words h p rs) ≡ true → length h ≡ 8
  long_head s = (shape_of h p rs s).head_words

  pub long_pool : shaped (words h p rs) ≡ true → length p ≡ 4096
  long_pool s = (shape_of h p rs s).pool_words

  pub long_records : shaped (words h p rs) ≡ true → length rs ≡ 80
  long_records s = (shape_of h p rs s).record_words

-- ---- words that are read, and what is left of them
module _ (h p rs : List ℕ) (m : Machine) (em : m ≡ machine_in (words h p rs)) (h' p' rs' : List ℕ) where
  pub stepped_on : (first second : ℕ) (d : Did) → d ≡ step_of sizes m first second → h' ≡ head_of d.machine
      → p' ≡ pool_of d.machine.blocks d.machine.slots → rs' ≡ records_of d.machine.workers
      → after d.refusal (words h' p' rs') ≡ after_of (step_of sizes (machine_in (words h p rs)) first second)
  stepped_on first second d ed eh ep er = (λ i. after d.refusal (words (eh i) (ep i) (er i))) ∙ ap after_of (ed ∙ ap (λ (x : Machine). step_of sizes x first second) em)

  pub went_on : (s : List ℕ) (r : Ran) → r ≡ run_of sizes m s → h' ≡ head_of r.machine → p' ≡ pool_of r.machine.blocks r.machine.slots → rs' ≡ records_of r.machine.workers
      → ended (reply r.refusal r.place) (words h' p' rs') ≡ ended_of (run_of sizes (machine_in (words h p rs)) s)
  went_on s r er eh ep ers = (λ i. ended (reply r.refusal r.place) (words (eh i) (ep i) (ers i))) ∙ ap ended_of (er ∙ ap (λ (x : Machine). run_of sizes x s) em)

module _ (h p rs : List ℕ) (b : Bool) (eb : b ≡ stand (words h p rs)) (yes : b ≡ true) (h' p' rs' : List ℕ) where
  pub by_step : (first second r : ℕ) → after r (words h' p' rs') ≡ after_of (step_of sizes (machine_in (words h p rs)) first second) → after r (words h' p' rs') ≡ step_words_of (words h p rs) first second
  unfolding step_words_of
  by_step first second r e = e ∙ sym (ap (λ (t : Bool). cond t (after_of (step_of sizes (machine_in (words h p rs)) first second)) (after 6 (words h p rs))) (sym eb ∙ yes))

  pub by_run : (s : List ℕ) (r : Reply) → ended r (words h' p' rs') ≡ ended_of (run_of sizes (machine_in (words h p rs)) s) → ended r (words h' p' rs') ≡ run_words (words h p rs) s
  unfolding run_words
  by_run s r e = e ∙ sym (ap (λ (t : Bool). cond t (ended_of (run_of sizes (machine_in (words h p rs)) s)) (ended (reply 6 0) (words h p rs))) (sym eb ∙ yes))

-- ---- making
module _ (h p rs : List ℕ) (b : Bool) (eb : b ≡ shaped (words h p rs)) where
  pub make_six : b ≡ false → (workers : ℕ) → after 6 (words h p rs) ≡ make_words (words h p rs) workers
  unfolding make_words
  make_six f workers = sym (rw (sym eb ∙ f) refl)

  module _ (yes : b ≡ true) where
    pub head_long : length h ≡ 8
    head_long = (shape_of h p rs (sym eb ∙ yes)).head_words

    pub pool_long : length p ≡ 4096
    pool_long = (shape_of h p rs (sym eb ∙ yes)).pool_words

    pub records_long : length rs ≡ 80
    records_long = (shape_of h p rs (sym eb ∙ yes)).record_words

    module _ (workers : ℕ) (d : Did) (ed : d ≡ make_of sizes workers) where
      asked : cond (eqb d.refusal 0) (after_of d) (after d.refusal (words h p rs)) ≡ make_words (words h p rs) workers
      unfolding make_words
      asked =
          ap (λ (x : Did). cond (eqb x.refusal 0) (after_of x) (after x.refusal (words h p rs))) ed
          ∙ sym (ap (λ (t : Bool). cond t (cond (eqb (make_of sizes workers).refusal 0) (after_of (make_of sizes workers))
          (after (make_of sizes workers).refusal (words h p rs))) (after 6 (words h p rs))) (sym eb ∙ yes))

      pub not_made : (d.refusal ≡ 0 → ⊥) → after d.refusal (words h p rs) ≡ make_words (words h p rs) workers
      not_made ne = sym (ap (λ (t : Bool). cond t (after_of d) (after d.refusal (words h p rs))) (ne_eqb d.refusal 0 ne)) ∙ asked

      pub made : d.refusal ≡ 0 → (h' p' rs' : List ℕ) → h' ≡ head_of d.machine → p' ≡ pool_of d.machine.blocks d.machine.slots
          → rs' ≡ records_of d.machine.workers → after 0 (words h' p' rs') ≡ make_words (words h p rs) workers
      made zero_is h' p' rs' eh ep er =
          (λ i. after (sym zero_is i) (words (eh i) (ep i) (er i)))
          ∙ sym (ap (λ (t : Bool). cond t (after_of d) (after d.refusal (words h p rs))) (eq-eqb d.refusal 0 zero_is)) ∙ asked
