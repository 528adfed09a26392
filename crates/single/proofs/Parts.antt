-- What the public functions answer, by the way that the code took.
use Prim.Native.Nat.{ℕ, ◌%◌, ◌<◌, ◌≤◌}
use mathlib.Core.Path.{◌≡◌, refl, sym, ap, ◌∙◌}
use mathlib.Core.Bool.{Bool, true, false}
use mathlib.Core.List.{List, [], ◌∷◌}
use native.Mathlib.Omega.{arith}
use lib.ListN.{length, set, drop}
use borrow.Author.Tests.{lt-ltb, le-ltb}
use Rattle.queue_entries.proofs.Pick.{yes, no, below, above}
use Rattle.queue_entries.specs.Limits.{workers_most, in_limits}
use Rattle.std.specs.Prelude.{Result, Ok, Err}
use Rattle.queue_entries.specs.Told.{told}
use Rattle.queue_schedules.proofs.Schedules.{schedule_broken, schedule_one}
use Rattle.single_words.specs.Words.{pushed_in}
use Rattle.single_machine.specs.declared.Machine.{Machine}
use Rattle.single_machine.specs.declared.Did.{Did}
use Rattle.single_machine.specs.declared.Ran.{Ran}
use Rattle.single_machine.specs.Machine.{fresh_of, blank, refused, accepted}
use Rattle.single_machine.specs.Broken.{broken_of, idle_from}
use Rattle.single_machine.specs.Contents.{contents_of, count_in, contents_refusal, written, capacity_of}
use Rattle.single_machine.specs.Run.{run_of}
use Rattle.single_machine.specs.Turn.{turn_of}
use Rattle.single_machine.proofs.Turns.{single_queue, ran_refusal, ran_machine, turn_of_unread}
use Rattle.single.specs.Single.{make_of, step_of, begin_step_of, act_step_of}

-- ---- making
module _ (workers : ℕ) (b : Bool) (e : b ≡ in_limits workers workers_most) (m : Machine) (r : Did) where
  pub make_0 : b ≡ true → m ≡ fresh_of workers → r ≡ accepted m → r ≡ make_of workers
  unfolding make_of
  make_0 h k q = yes _ b _ _ _ e h (q ∙ ap accepted k)

  pub make_2 : b ≡ false → m ≡ blank → r ≡ refused 2 m → r ≡ make_of workers
  unfolding make_of
  make_2 h k q = no _ b _ _ _ e h (q ∙ ap (refused 2) k)

-- ---- capacity
module _ (m : Machine) (b : Bool) (e : b ≡ broken_of m) where
  pub capacity_6 : b ≡ true → Err 6 ≡ capacity_of m
  unfolding capacity_of told
  capacity_6 h = rw (sym e ∙ h) refl

  pub capacity_1 : b ≡ false → Ok 1 ≡ capacity_of m
  unfolding capacity_of told
  capacity_1 h = rw (sym e ∙ h) refl

-- ---- contents: the answer and the buffer
abbrev Answers : Machine → List ℕ → List ℕ → Result ℕ ℕ → Type 0
Answers m before after r = (r ≡ told (contents_refusal m (length before)) (count_in m)) × (after ≡ written m before)

module _ (m : Machine) (buffer : List ℕ) (b : Bool) (eb : b ≡ broken_of m) where
  pub contents_6 : b ≡ true → Answers m buffer buffer (Err 6)
  unfolding told written contents_refusal
  contents_6 h = let q = sym eb ∙ h in (rw q refl, rw q refl)

  module _ (hb : b ≡ false) (d : Bool) (ed : d ≡ idle_from 0 m.workers) where
    pub contents_4 : d ≡ false → Answers m buffer buffer (Err 4)
    unfolding told written contents_refusal
    contents_4 h = let q = sym eb ∙ hb in let k = sym ed ∙ h in (rw (q, k) refl, rw (q, k) refl)

    module _ (hd : d ≡ true) (p : Bool) (ep : p ≡ pushed_in m.single.state) where
      pub contents_none : p ≡ false → Answers m buffer buffer (Ok 0)
      unfolding told written contents_refusal contents_of
      contents_none h =
          let q = sym eb ∙ hb in let k = sym ed ∙ hd in let u = sym ep ∙ h in
          let z = le-ltb (length buffer) 0 (omega arith) in
          (rw (q, k, u, z) refl, rw (q, k, u, z) refl)

      module _ (hp : p ≡ true) where
        pub contents_10 : length buffer < 1 → Answers m buffer buffer (Err 10)
        unfolding told written contents_refusal
        contents_10 h =
            let q = sym eb ∙ hb in let k = sym ed ∙ hd in let u = sym ep ∙ hp in let z = lt-ltb (length buffer) 1 h in
            (rw (q, k, u, z) refl, rw (q, k, u, z) refl)

        pub contents_one : 1 ≤ length buffer → Answers m buffer (set buffer 0 m.single.value) (Ok 1)
        unfolding told written contents_refusal contents_of
        contents_one h =
            let q = sym eb ∙ hb in let k = sym ed ∙ hd in let u = sym ep ∙ hp in let z = le-ltb (length buffer) 1 h in
            (rw (q, k, u, z) refl, rw (q, k, u, z) (go buffer h))
          where
            go : (l : List ℕ) → 1 ≤ length l → set l 0 m.single.value ≡ m.single.value ∷ drop 1 l
            go [] g = absurd (omega arith)
            go (x ∷ l) g = refl

-- ---- a schedule of one entry
abbrev whole : Ran → Did
whole r = record { refusal = r.refusal; machine = r.machine }

pub one_entry : (m : Machine) (first second : ℕ) (r : Ran) → r ≡ run_of m (first ∷ second ∷ []) → whole r ≡ step_of m first second
unfolding step_of refused
one_entry m first second r e = ap whole e ∙ go (broken_of m) refl
  where
    go : (b : Bool) → broken_of m ≡ b → whole (run_of m (first ∷ second ∷ [])) ≡ step_of m first second
    go true q =
        let s = schedule_broken single_queue broken_of m (first ∷ second ∷ []) q in
        ap whole s ∙ rw (ran_refusal 6 0 m, ran_machine 6 0 m, q) refl
    go false q =
        let s = schedule_one single_queue broken_of m first second q (turn_of_unread m first second) in
        let d = turn_of m first second in
        rw q (ap (λ (k : ℕ). record { refusal = k; machine = (run_of m (first ∷ second ∷ [])).machine }) s.0
        ∙ ap (λ (x : Machine). record { refusal = d.refusal; machine = x }) s.1)

-- ---- one that begins, one that acts
module _ (m : Machine) (first second : ℕ) (r : Did) (b : Bool) (e : b ≡ broken_of m) where
  pub begin_6 : b ≡ true → r ≡ refused 6 m → r ≡ begin_step_of m first second
  unfolding begin_step_of
  begin_6 h q = yes _ b _ _ _ e h q

  pub act_6 : b ≡ true → r ≡ refused 6 m → r ≡ act_step_of m first second
  unfolding act_step_of
  act_6 h q = yes _ b _ _ _ e h q

  module _ (h : b ≡ false) where
    steps : r ≡ step_of m first second → r ≡ turn_of m first second
    unfolding step_of
    steps q = q ∙ sym (no _ b _ _ _ e h refl)

    pub begin_9 : 8 ≤ first % 16 → r ≡ refused 9 m → r ≡ begin_step_of m first second
    unfolding begin_step_of
    begin_9 g q = no _ b _ _ _ e h (above (first % 16) 8 _ _ _ g q)

    pub begin_step : first % 16 < 8 → r ≡ step_of m first second → r ≡ begin_step_of m first second
    unfolding begin_step_of
    begin_step g q = no _ b _ _ _ e h (below (first % 16) 8 _ _ _ g (steps q))

    pub act_9 : first % 16 < 8 → r ≡ refused 9 m → r ≡ act_step_of m first second
    unfolding act_step_of
    act_9 g q = no _ b _ _ _ e h (below (first % 16) 8 _ _ _ g q)

    pub act_step : 8 ≤ first % 16 → r ≡ step_of m first second → r ≡ act_step_of m first second
    unfolding act_step_of
    act_step g q = no _ b _ _ _ e h (above (first % 16) 8 _ _ _ g (steps q))
