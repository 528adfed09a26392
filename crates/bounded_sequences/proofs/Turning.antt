-- What the state walker has told and has to tell, and what the worker chooser tells.
use Prim.Native.Nat.{ℕ, zero, suc, ◌+◌, ◌-◌, ◌<◌, ◌≤◌}
use mathlib.Core.Path.{◌≡◌, refl, sym, ap, ◌∙◌, subst}
use mathlib.Core.Bool.{Bool, true, false, cond, true≢false}
use mathlib.Core.List.{List, [], ◌∷◌, ◌++◌, append-nil}
use Rattle.queue_entries.proofs.Pick.{other}
use native.Mathlib.Numerals.{add-one}
use native.Mathlib.Omega.{arith}
use lib.ListN.{length, get_or, set, take}
use lib.Seq.{sets, set-set, set-get_or, take-suc-set}
use Rattle.queue_walks.specs.declared.Walked.{Walked}
use Rattle.queue_walks.specs.Walks.{act_byte, after, in_turn, walk_by}
use Rattle.queue_walks.specs.Listed.{bytes_of, walked, counted, Room}
use Rattle.queue_walks.proofs.Listing.{after_append, after_after, Ahead, ahead_all, ahead_done, ahead_first, ahead_next}
use Rattle.bounded_words.specs.Limits.{slots_most}
use Rattle.bounded_machine.specs.declared.Machine.{Machine}
use Rattle.bounded_machine.specs.Machine.{record_of_worker}
use Rattle.bounded_machine.specs.Broken.{all_idle}
use Rattle.bounded_sequences.specs.declared.State.{State}
use Rattle.bounded_sequences.specs.declared.After.{After}
use Rattle.bounded_sequences.specs.Sequences.{walk_of, choice_of, code_of, machine_in, may_act, spot_in, after_of, ends_here, walk_from, choice_from, Sound}
use Rattle.bounded_sequences.proofs.Acting.{in_time, choice_on, choice_stays}

-- ---- nothing is told
pub nothing_told : (l : List (List ℕ)) → l ≡ [] → (r : Walked) (out : List ℕ) → (r ≡ counted r l) × (out ≡ sets out r.bytes (bytes_of l))
unfolding counted bytes_of
nothing_told l e r out =
    (ap (λ (k : ℕ). walked k r.bytes) (omega arith) ∙ ap (walked (r.sequences + 0)) (omega arith) ∙ sym (ap (counted r) e), sym (ap (λ (x : List (List ℕ)). sets out r.bytes (bytes_of x)) e))

-- ---- a loop over the workers, each with both codes
in_turn_lem : (choice : ℕ → ℕ → List (List ℕ)) (p : List ℕ) (count w : ℕ) → w < count
    → after p (in_turn choice (count - w) w) ≡ after p (choice w 8) ++ (after p (choice w 9) ++ after p (in_turn choice (count - (w + 1)) (w + 1)))
unfolding in_turn
in_turn_lem choice p count w l =
    ap (λ (k : ℕ). after p (in_turn choice k w)) (one_of l)
    ∙ after_append p (choice w 8) (choice w 9 ++ in_turn choice (count - (w + 1)) (w + 1))
    ∙ ap (λ (x : List (List ℕ)). after p (choice w 8) ++ x) (after_append p (choice w 9) (in_turn choice (count - (w + 1)) (w + 1)))
  where
    one_of : w < count → count - w ≡ suc (count - (w + 1))
    one_of h = omega arith

all_of : (n : ℕ) → n ≡ n - 0
all_of n = omega arith

in_turn_none : (choice : ℕ → ℕ → List (List ℕ)) (p : List ℕ) (count w : ℕ) → count ≤ w → after p (in_turn choice (count - w) w) ≡ []
unfolding in_turn after
in_turn_none choice p count w g = ap (λ (k : ℕ). after p (in_turn choice k w)) (none_of g)
  where
    none_of : count ≤ w → count - w ≡ 0
    none_of h = omega arith

module _ (choice : ℕ → ℕ → List (List ℕ)) (count : ℕ) (p : List ℕ) (whole : List (List ℕ)) (out₀ : List ℕ) (r₀ : Walked) where
  abbrev rest : ℕ → List (List ℕ)
  rest w = after p (in_turn choice (count - w) w)

  -- before worker w, and between its two codes
  pub record Turn (out : List ℕ) (r : Walked) (w : ℕ) : Type 0 where
    pub low : w ≤ count
    pub long : length out ≡ length out₀
    pub ahead : Ahead r₀ out₀ whole r out (rest w)

  pub record Between (out : List ℕ) (r : Walked) (w : ℕ) : Type 0 where
    pub low : w < count
    pub long : length out ≡ length out₀
    pub ahead : Ahead r₀ out₀ whole r out (after p (choice w 9) ++ rest (w + 1))

  pub turn_begins : whole ≡ after p (in_turn choice count 0) → Room r₀ whole → Turn out₀ r₀ 0
  turn_begins e g = record {
    low = omega arith;
    long = refl;
    ahead = subst (Ahead r₀ out₀ whole r₀ out₀) (e ∙ ap (λ (k : ℕ). after p (in_turn choice k 0)) (all_of count)) (ahead_all r₀ out₀ whole g);
  }

  module _ (out : List ℕ) (r : Walked) (w : ℕ) where
    module _ (g : Turn out r w) (l : w < count) where
      first : Ahead r₀ out₀ whole r out (after p (choice w 8) ++ (after p (choice w 9) ++ rest (w + 1)))
      first = subst (Ahead r₀ out₀ whole r out) (in_turn_lem choice p count w l) g.ahead

      pub turn_8 : Room r (after p (choice w 8))
      turn_8 = ahead_first r₀ out₀ whole r out _ _ first

      pub turn_half : (out' : List ℕ) (r' : Walked) → r' ≡ counted r (after p (choice w 8)) → out' ≡ sets out r.bytes (bytes_of (after p (choice w 8))) → length out' ≡ length out
          → Between out' r' w
      turn_half out' r' e o len = record {
        low = l;
        long = len ∙ g.long;
        ahead = ahead_next r₀ out₀ whole r out (after p (choice w 8)) (after p (choice w 9) ++ rest (w + 1)) first r' out' e o;
      }

    module _ (g : Between out r w) where
      pub turn_9 : Room r (after p (choice w 9))
      turn_9 = ahead_first r₀ out₀ whole r out _ _ g.ahead

      pub turn_again : (out' : List ℕ) (r' : Walked) → r' ≡ counted r (after p (choice w 9)) → out' ≡ sets out r.bytes (bytes_of (after p (choice w 9))) → length out' ≡ length out
          → Turn out' r' (w + 1)
      turn_again out' r' e o len = record {
        low = omega (arith, g.low);
        long = len ∙ g.long;
        ahead = ahead_next r₀ out₀ whole r out (after p (choice w 9)) (rest (w + 1)) g.ahead r' out' e o;
      }

    pub turn_done : Turn out r w → count ≤ w → (r ≡ counted r₀ whole) × (out ≡ sets out₀ r₀.bytes (bytes_of whole))
    turn_done g l = ahead_done r₀ out₀ whole r out (subst (Ahead r₀ out₀ whole r out) (in_turn_none choice p count w l) g.ahead)

-- ---- the state walker
pub one_less : (s : State) (n more : ℕ) → 1 ≤ more → Sound s n more → Sound s n (more - 1 + 1)
one_less s n more h = subst (Sound s n) same
  where
    same : more ≡ more - 1 + 1
    same = omega arith

pub some_left : (s : State) (more : ℕ) → ends_here s more ≡ false → 1 ≤ more
unfolding ends_here
some_left s zero h = absurd (true≢false h)
some_left s (suc more) h = omega arith

pub idle_here : (s : State) (more : ℕ) (b : Bool) → ends_here s (suc more) ≡ b → all_idle s.workers ≡ b
unfolding ends_here
idle_here s more b h = other (suc more) 0 (all_idle s.workers) true (all_idle s.workers) (λ z. omega arith) refl ∙ h

walk_ends : (more : ℕ) (s : State) (stamps values : List ℕ) → ends_here s more ≡ true → walk_of more (machine_in s stamps values) ≡ [] ∷ []
unfolding walk_by
walk_ends zero s stamps values h = refl
walk_ends (suc more) s stamps values h =
    ap (λ (b : Bool). cond b ([] ∷ []) (in_turn (choice_of more (machine_in s stamps values)) s.count 0)) (idle_here s more true h)

walk_goes : (more : ℕ) (s : State) (stamps values : List ℕ) → ends_here s more ≡ false
    → walk_of more (machine_in s stamps values) ≡ in_turn (choice_of (more - 1) (machine_in s stamps values)) s.count 0
unfolding ends_here walk_by
walk_goes zero s stamps values h = absurd (true≢false h)
walk_goes (suc more) s stamps values h =
    let e : more ≡ suc more - 1 = omega arith in
    ap (λ (b : Bool). cond b ([] ∷ []) (in_turn (choice_of more (machine_in s stamps values)) s.count 0)) (idle_here s more false h)
    ∙ ap (λ (k : ℕ). in_turn (choice_of k (machine_in s stamps values)) s.count 0) e

module _ (s : State) (path : List ℕ) (n more : ℕ) (stamps₀ values₀ : List ℕ) where
  pub ended : ends_here s more ≡ true → walk_from s stamps₀ values₀ path n more ≡ take n path ∷ []
  unfolding after
  ended h = ap (after (take n path)) (walk_ends more s stamps₀ values₀ h) ∙ ap (λ (l : List ℕ). l ∷ []) (append-nil (take n path))

  pub goes_on : ends_here s more ≡ false → walk_from s stamps₀ values₀ path n more ≡ after (take n path) (in_turn (choice_of (more - 1) (machine_in s stamps₀ values₀)) s.count 0)
  goes_on h = ap (after (take n path)) (walk_goes more s stamps₀ values₀ h)

  module _ (out₀ : List ℕ) (r₀ : Walked) where
    abbrev choice : ℕ → ℕ → List (List ℕ)
    choice = choice_of (more - 1) (machine_in s stamps₀ values₀)

    abbrev whole : List (List ℕ)
    whole = walk_from s stamps₀ values₀ path n more

    -- before worker w, and between its two codes, with the slots as they were
    pub record Going (stamps values out : List ℕ) (r : Walked) (w : ℕ) : Type 0 where
      pub lent_stamps : stamps ≡ stamps₀
      pub lent_values : values ≡ values₀
      pub ahead : Turn choice s.count (take n path) whole out₀ r₀ out r w

    pub record Halfway (stamps values out : List ℕ) (r : Walked) (w : ℕ) : Type 0 where
      pub lent_stamps : stamps ≡ stamps₀
      pub lent_values : values ≡ values₀
      pub ahead : Between choice s.count (take n path) whole out₀ r₀ out r w

    pub begins : ends_here s more ≡ false → Room r₀ whole → Going stamps₀ values₀ out₀ r₀ 0
    begins h g = record { lent_stamps = refl; lent_values = refl; ahead = turn_begins choice s.count (take n path) whole out₀ r₀ (goes_on h) g }

    chosen : (stamps values : List ℕ) → stamps ≡ stamps₀ → values ≡ values₀ → (w : ℕ) (lose : Bool)
        → choice_from s stamps values path n (more - 1) w lose ≡ after (take n path) (choice w (code_of lose))
    chosen stamps values p q w lose = ap (λ (x : List ℕ). choice_from s x values path n (more - 1) w lose) p ∙ ap (λ (x : List ℕ). choice_from s stamps₀ x path n (more - 1) w lose) q

    module _ (stamps values out : List ℕ) (r : Walked) (w : ℕ) where
      -- what the chooser told, of the slots as they were
      module _ (p : stamps ≡ stamps₀) (q : values ≡ values₀) (lose : Bool) (out' : List ℕ) (r' : Walked) where
        counts : r' ≡ counted r (choice_from s stamps values path n (more - 1) w lose) → r' ≡ counted r (after (take n path) (choice w (code_of lose)))
        counts e = e ∙ ap (counted r) (chosen stamps values p q w lose)

        bytes : out' ≡ sets out r.bytes (bytes_of (choice_from s stamps values path n (more - 1) w lose)) → out' ≡ sets out r.bytes (bytes_of (after (take n path) (choice w (code_of lose))))
        bytes o = o ∙ ap (λ (x : List (List ℕ)). sets out r.bytes (bytes_of x)) (chosen stamps values p q w lose)

      module _ (g : Going stamps values out r w) (l : w < s.count) where
        pub asks_8 : Room r (choice_from s stamps values path n (more - 1) w false)
        asks_8 = subst (Room r) (sym (chosen stamps values g.lent_stamps g.lent_values w false)) (turn_8 choice s.count (take n path) whole out₀ r₀ out r w g.ahead l)

        pub half : (stamps' values' out' : List ℕ) (r' : Walked) → r' ≡ counted r (choice_from s stamps values path n (more - 1) w false)
            → out' ≡ sets out r.bytes (bytes_of (choice_from s stamps values path n (more - 1) w false)) → stamps' ≡ stamps → values' ≡ values → length out' ≡ length out
            → Halfway stamps' values' out' r' w
        half stamps' values' out' r' e o p q len = record {
          lent_stamps = p ∙ g.lent_stamps;
          lent_values = q ∙ g.lent_values;
          ahead = turn_half choice s.count (take n path) whole out₀ r₀ out r w g.ahead l out' r'
              (counts g.lent_stamps g.lent_values false out' r' e) (bytes g.lent_stamps g.lent_values false out' r' o) len;
        }

      module _ (g : Halfway stamps values out r w) where
        pub asks_9 : Room r (choice_from s stamps values path n (more - 1) w true)
        asks_9 = subst (Room r) (sym (chosen stamps values g.lent_stamps g.lent_values w true)) (turn_9 choice s.count (take n path) whole out₀ r₀ out r w g.ahead)

        pub again : (stamps' values' out' : List ℕ) (r' : Walked) → r' ≡ counted r (choice_from s stamps values path n (more - 1) w true)
            → out' ≡ sets out r.bytes (bytes_of (choice_from s stamps values path n (more - 1) w true)) → stamps' ≡ stamps → values' ≡ values → length out' ≡ length out
            → Going stamps' values' out' r' (w + 1)
        again stamps' values' out' r' e o p q len = record {
          lent_stamps = p ∙ g.lent_stamps;
          lent_values = q ∙ g.lent_values;
          ahead = turn_again choice s.count (take n path) whole out₀ r₀ out r w g.ahead out' r'
              (counts g.lent_stamps g.lent_values true out' r' e) (bytes g.lent_stamps g.lent_values true out' r' o) len;
        }

      pub done : Going stamps values out r w → s.count ≤ w
          → (r ≡ counted r₀ (walk_from s stamps₀ values₀ path n more)) × (out ≡ sets out₀ r₀.bytes (bytes_of (walk_from s stamps₀ values₀ path n more)))
      done g l = turn_done choice s.count (take n path) whole out₀ r₀ out r w g.ahead l

-- ---- the worker chooser
module _ (s : State) (n more : ℕ) (sound : Sound s n (more + 1)) (w : ℕ) (l : w < s.count) (lose : Bool) (path stamps values : List ℕ) where
  pub none_told : may_act (record_of_worker s.workers w) lose ≡ false → (r : Walked) (out : List ℕ)
      → (r ≡ counted r (choice_from s stamps values path n more w lose)) × (out ≡ sets out r.bytes (bytes_of (choice_from s stamps values path n more w lose)))
  unfolding after
  none_told h = nothing_told (choice_from s stamps values path n more w lose) (ap (after (take n path)) (choice_stays (machine_in s stamps values) w l lose (in_time s n more sound w l) more h))

  module _ (may : may_act (record_of_worker s.workers w) lose ≡ true) (k : ℕ) (at : k ≡ spot_in s.fixed (record_of_worker s.workers w)) (many : length stamps ≡ slots_most)
      (as_many : length values ≡ slots_most) (short : n < length path) where
    pub one_told : (a : After) → a ≡ after_of s (get_or stamps k 0) (get_or values k 0) w lose → (b : ℕ) → b ≡ act_byte (code_of lose) w
        → (stamps' values' : List ℕ) → stamps' ≡ set stamps k a.stamp → values' ≡ set values k a.value
        → walk_from a.state stamps' values' (set path n b) (n + 1) more ≡ choice_from s stamps values path n more w lose
    one_told a ea b eb stamps' values' p q =
        ap (λ (x : List ℕ). walk_from a.state x values' (set path n b) (n + 1) more) p
        ∙ ap (λ (x : List ℕ). walk_from a.state (set stamps k a.stamp) x (set path n b) (n + 1) more) q
        ∙ ap (λ (x : After). walk_from x.state (set stamps k x.stamp) (set values k x.value) (set path n b) (n + 1) more) ea
        ∙ ap (λ (x : ℕ). after (take x (set path n b)) (walk_of more next)) (add-one n)
        ∙ ap (λ (x : List ℕ). after x (walk_of more next)) (take-suc-set path n b short)
        ∙ ap (λ (x : ℕ). after (take n path ++ (x ∷ [])) (walk_of more next)) eb
        ∙ sym (after_after (take n path) (act_byte (code_of lose) w ∷ []) (walk_of more next))
        ∙ sym (ap (after (take n path)) (choice_on s n more sound w l lose may stamps values k at many as_many))
      where
        next : Machine
        next = machine_in (after_of s (get_or stamps k 0) (get_or values k 0) w lose).state (set stamps k (after_of s (get_or stamps k 0) (get_or values k 0) w lose).stamp) (set values k (after_of s
            (get_or stamps k 0) (get_or values k 0) w lose).value)

-- a slot set back
pub set_back : (l : List ℕ) (k v : ℕ) (l' l'' : List ℕ) → l' ≡ set l k v → l'' ≡ set l' k (get_or l k 0) → l'' ≡ l
set_back l k v l' l'' p q = q ∙ ap (λ (x : List ℕ). set x k (get_or l k 0)) p ∙ set-set l k v (get_or l k 0) ∙ set-get_or l k 0
