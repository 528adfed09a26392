-- One worker's acts: how their entries are read; entries that are all accepted; and a call that alone is scheduled, whose rank falls with every act, ends.
use Prim.Native.Nat.{ℕ, zero, suc, ◌+◌, ◌*◌, ◌/◌, ◌%◌, ◌<◌, ◌≤◌}
use mathlib.Core.Path.{◌≡◌, refl, sym, ap, ◌∙◌, subst}
use mathlib.Core.Bool.{Bool, true, false, cond}
use mathlib.Core.List.{List, [], ◌∷◌, ◌++◌, append_assoc, append-nil}
use native.Mathlib.Omega.{arith}
use lib.Dec.{eqb}
use borrow.Author.Tests.{eq-eqb, ne_eqb, eqb-false}
use Rattle.queue_entries.specs.declared.Order.TheVariants.{Act}
use Rattle.queue_entries.specs.declared.Entry.{Entry}
use Rattle.queue_entries.specs.declared.Entry.TheVariants.{Asks}
use Rattle.queue_entries.specs.Entries.{stray_of, order_of, entry_of}
use Rattle.queue_schedules.specs.Alone.{acts, act_by, passed_by, own_acts_by}
use Rattle.queue_schedules.proofs.Schedules.{Queue, run_in, taken, run_none, run_half, run_on, run_halt}
use Rattle.queue_schedules.proofs.Histories.{history_in, acts_at, history_none, history_on}

-- code 8 of worker w
pub act_entry : (w : ℕ) → entry_of (16 * w + 8) 0 ≡ Asks w (Act false)
unfolding entry_of stray_of order_of
act_entry w =
    let low : (16 * w + 8) % 16 ≡ 8 = omega arith in
    let top : (16 * w + 8) / 16 ≡ w = omega arith in
    rw (low, top)

module _ {M D R : Type 0} (q : Queue M D R) where
  -- one act more, accepted or not
  pub acts_on : (m : M) (i w k : ℕ) → q.refusal (q.turn m (16 * w + 8) 0) ≡ 0 → run_in q m i (acts w (suc k)) ≡ run_in q (q.machine (q.turn m (16 * w + 8) 0)) (i + 1) (acts w k)
  unfolding acts
  acts_on m i w k e = run_on q m i (16 * w + 8) 0 (acts w k) (eq-eqb _ 0 e)

  pub acts_none : (m : M) (i w : ℕ) → run_in q m i (acts w 0) ≡ q.ran 0 i m
  unfolding acts
  acts_none m i w = run_none q m i

  pub acts_halt : (m : M) (i w k : ℕ) → taken q m (16 * w + 8) 0 ≡ false → run_in q m i (acts w (suc k)) ≡ q.ran (q.refusal (q.turn m (16 * w + 8) 0)) i m
  unfolding acts
  acts_halt m i w k e = run_halt q m i (16 * w + 8) 0 (acts w k) e

  -- entries that are all accepted are passed as a schedule runs them
  pub passed_as_run : (s : List ℕ) (m : M) (i : ℕ) → q.refusal_in (run_in q m i s) ≡ 0 → passed_by q.refusal q.machine q.turn m s ≡ q.machine_in (run_in q m i s)
  unfolding passed_by
  passed_as_run [] m i z = sym (ap q.machine_in (run_none q m i) ∙ q.machine_is 0 i m)
  passed_as_run (a ∷ []) m i z = sym (ap q.machine_in (run_half q m i a) ∙ q.machine_is 0 i m)
  passed_as_run (a ∷ b ∷ s) m i z = go (passed_as_run s (q.machine (q.turn m a b)) (i + 1)) (taken q m a b) refl
    where
      next : M
      next = q.machine (q.turn m a b)

      go : (q.refusal_in (run_in q next (i + 1) s) ≡ 0 → passed_by q.refusal q.machine q.turn next s ≡ q.machine_in (run_in q next (i + 1) s))
          → (c : Bool) → taken q m a b ≡ c → passed_by q.refusal q.machine q.turn next s ≡ q.machine_in (run_in q m i (a ∷ b ∷ s))
      go more true e = more (ap q.refusal_in (sym (run_on q m i a b s e)) ∙ z) ∙ ap q.machine_in (sym (run_on q m i a b s e))
      go more false e =
          absurd (eqb-false _ 0 e (sym (q.refusal_is (q.refusal (q.turn m a b)) i m) ∙ ap q.refusal_in (sym (run_halt q m i a b s e)) ∙ z))

-- ---- a call that alone is scheduled
module _ {M D R E : Type 0} (q : Queue M D R) (events : M → Entry → M → List E) (w : ℕ) (busy : M → Bool) (rank : M → ℕ)
    -- what holds of machine and history with so many acts to come
    (Holds : ℕ → M → List E → Type 0) where
  abbrev pub next : M → M
  next m = q.machine (q.turn m (16 * w + 8) 0)

  -- an act of a busy worker
  pub record Stepped (n : ℕ) (m : M) (h : List E) : Type 0 where
    pub accepted : q.refusal (q.turn m (16 * w + 8) 0) ≡ 0
    pub holds : Holds n (next m) (h ++ acts_at q events m (16 * w + 8) 0)
    pub falls : rank (next m) < rank m

  -- It ends within so many acts. `last` is the machine before the last of them, and `log` the acts up to it.
  pub record Ends (m : M) (h : List E) (i most : ℕ) : Type 0 where
    pub before : ℕ
    pub within : before + 1 ≤ most
    pub accepted_all : q.refusal_in (run_in q m i (acts w (suc before))) ≡ 0
    pub last : M
    pub last_is : q.machine_in (run_in q m i (acts w before)) ≡ last
    pub log : List E
    pub log_is : h ++ history_in q events m (acts w before) ≡ log
    pub left : ℕ
    pub holds : Holds (suc left) last log
    pub busy_yet : busy last ≡ true
    pub ends_at : q.machine_in (run_in q m i (acts w (suc before))) ≡ next last
    pub idle_then : busy (next last) ≡ false
    -- and acts past the end change nothing
    pub idle_by : busy (q.machine_in (run_in q m i (acts w most))) ≡ false

  -- acts of an idle worker are refused
  module _ (refused : (m : M) → busy m ≡ false → q.refusal (q.turn m (16 * w + 8) 0) ≡ 0 → ⊥) where
    pub idle_stays : (m : M) (i k : ℕ) → busy m ≡ false → q.machine_in (run_in q m i (acts w k)) ≡ m
    idle_stays m i zero idle = ap q.machine_in (acts_none q m i w) ∙ q.machine_is 0 i m
    idle_stays m i (suc k) idle = ap q.machine_in (acts_halt q m i w k (ne_eqb _ 0 (refused m idle))) ∙ q.machine_is _ i m

    history_acts : (m : M) (h : List E) (k : ℕ) → q.refusal (q.turn m (16 * w + 8) 0) ≡ 0
        → (h ++ acts_at q events m (16 * w + 8) 0) ++ history_in q events (next m) (acts w k) ≡ h ++ history_in q events m (acts w (suc k))
    unfolding acts
    history_acts m h k e =
        append_assoc h (acts_at q events m (16 * w + 8) 0) (history_in q events (next m) (acts w k))
        ∙ ap (λ (l : List E). h ++ l) (sym (history_on q events m (16 * w + 8) 0 (acts w k) (eq-eqb _ 0 e)))

    no_acts : (m : M) (h : List E) → h ++ history_in q events m (acts w 0) ≡ h
    unfolding acts
    no_acts m h = ap (λ (l : List E). h ++ l) (history_none q events m) ∙ append-nil h

    module _ (some : (m : M) → busy m ≡ true → 0 < rank m) (step : (n : ℕ) (m : M) (h : List E) → Holds (suc n) m h → busy m ≡ true → Stepped n m h) where
      pub ends_by : (k : ℕ) (m : M) (h : List E) (i : ℕ) → Holds k m h → busy m ≡ true → rank m ≤ k → Ends m h i k
      ends_by zero m h i a b low = absurd (omega (arith, some m b))
      ends_by (suc k) m h i a b low =
          go (busy (next m)) refl
          (λ (c : busy (next m) ≡ true). ends_by k (next m) (h ++ acts_at q events m (16 * w + 8) 0) (i + 1) s.holds c (omega (arith, s.falls)))
        where
          s : Stepped k m h
          s = step k m h a b

          on : (n : ℕ) → run_in q m i (acts w (suc n)) ≡ run_in q (next m) (i + 1) (acts w n)
          on n = acts_on q m i w n s.accepted

          none : run_in q m i (acts w 0) ≡ q.ran 0 i m
          none = acts_none q m i w

          -- the last act
          here : busy (next m) ≡ false → Ends m h i (suc k)
          here e =
              let one = on 0 ∙ acts_none q (next m) (i + 1) w in
              record {
                before = 0;
                within = omega arith;
                accepted_all = ap q.refusal_in one ∙ q.refusal_is 0 (i + 1) (next m);
                last = m;
                last_is = ap q.machine_in none ∙ q.machine_is 0 i m;
                log = h;
                log_is = no_acts m h;
                left = k;
                holds = a;
                busy_yet = b;
                ends_at = ap q.machine_in one ∙ q.machine_is 0 (i + 1) (next m);
                idle_then = e;
                idle_by = ap (λ (r : R). busy (q.machine_in r)) (on k) ∙ ap busy (idle_stays (next m) (i + 1) k e) ∙ e;
              }

          -- one act more before it
          more : Ends (next m) (h ++ acts_at q events m (16 * w + 8) 0) (i + 1) k → Ends m h i (suc k)
          more d =
              record {
                before = suc d.before;
                within = omega (arith, d.within);
                accepted_all = ap q.refusal_in (on (suc d.before)) ∙ d.accepted_all;
                last = d.last;
                last_is = ap q.machine_in (on d.before) ∙ d.last_is;
                log = d.log;
                log_is = sym (history_acts m h d.before s.accepted) ∙ d.log_is;
                left = d.left;
                holds = d.holds;
                busy_yet = d.busy_yet;
                ends_at = ap q.machine_in (on (suc d.before)) ∙ d.ends_at;
                idle_then = d.idle_then;
                idle_by = ap (λ (r : R). busy (q.machine_in r)) (on k) ∙ d.idle_by;
              }

          go : (c : Bool) → busy (next m) ≡ c → (busy (next m) ≡ true → Ends (next m) (h ++ acts_at q events m (16 * w + 8) 0) (i + 1) k) → Ends m h i (suc k)
          go true e later = more (later e)
          go false e later = here e

-- ---- a worker whose own acts are numbered, whatever entries of others come between
module _ {M D R : Type 0} (q : Queue M D R) (w : ℕ) (In : M → Type 0) (Out : M → Type 0) (most : M → ℕ) where
  abbrev own : M → List ℕ → ℕ
  own = own_acts_by q.refusal q.machine q.turn w

  abbrev pass : M → List ℕ → M
  pass = passed_by q.refusal q.machine q.turn

  -- an entry's part of the count
  abbrev pub part : M → ℕ → ℕ → ℕ
  part m a b = cond (eqb (q.refusal (q.turn m a b)) 0) (act_by w (entry_of a b)) 0

  -- What an entry is to worker w: another's, its own act, or its last.
  pub data Was (m next : M) (count : ℕ) : Type 0 where
    others : In next → most next ≡ most m → count ≡ 0 → Was m next count
    its_own : In next → most next + 1 ≡ most m → count ≡ 1 → Was m next count
    its_last : Out next → most m ≡ 1 → count ≡ 1 → Was m next count

  pub record Gone (m : M) (entries : List ℕ) (n : ℕ) : Type 0 where
    pub before : List ℕ
    pub after : List ℕ
    pub split : entries ≡ before ++ after
    pub count : own m before ≡ n
    pub out : Out (pass m before)

  -- one entry more before it, and none more
  more_before : (m : M) (a b k : ℕ) (s : List ℕ) → Gone (q.machine (q.turn m a b)) s k → Gone m (a ∷ b ∷ s) (part m a b + k)
  unfolding passed_by own_acts_by
  more_before m a b k s d =
      record {
        before = a ∷ b ∷ d.before;
        after = d.after;
        split = ap (λ (l : List ℕ). a ∷ b ∷ l) d.split;
        count = ap (λ (z : ℕ). part m a b + z) d.count;
        out = d.out;
      }

  gone_here : (m : M) (s : List ℕ) → Out m → Gone m s 0
  unfolding passed_by own_acts_by
  gone_here m s o = record { before = []; after = s; split = refl; count = refl; out = o }

  module _ (some : (m : M) → In m → 0 < most m) (each : (m : M) (a b : ℕ) → In m → Was m (q.machine (q.turn m a b)) (part m a b)) where
    pub goes : (s : List ℕ) (m : M) → In m → most m ≤ own m s → Gone m s (most m)
    unfolding own_acts_by
    goes [] m i enough = absurd (omega (arith, some m i))
    goes (a ∷ []) m i enough = absurd (omega (arith, some m i))
    goes (a ∷ b ∷ s) m i enough = go (each m a b i) (λ (k : In (q.machine (q.turn m a b))). goes s (q.machine (q.turn m a b)) k)
      where
        after : M
        after = q.machine (q.turn m a b)

        go : Was m after (part m a b) → (In after → most after ≤ own after s → Gone after s (most after)) → Gone m (a ∷ b ∷ s) (most m)
        go (others k e z) again = subst (Gone m (a ∷ b ∷ s)) (omega arith) (more_before m a b (most after) s (again k (omega arith)))
        go (its_own k e z) again = subst (Gone m (a ∷ b ∷ s)) (omega arith) (more_before m a b (most after) s (again k (omega arith)))
        go (its_last o e z) again = subst (Gone m (a ∷ b ∷ s)) (omega arith) (more_before m a b 0 s (gone_here after s o))
