-- The rows, by an account.
use Prim.Native.Nat.{ℕ, zero, suc, ◌+◌, ◌≤◌, ◌<◌}
use native.Mathlib.Omega.{arith}
use mathlib.Core.Bool.{Bool, true, false, cond, not, true≢false}
use mathlib.Core.List.{List, [], ◌∷◌, ◌++◌}
use mathlib.Core.Logic.{◌≢◌, ◌⊎◌, inl, inr}
use mathlib.Core.Path.{◌≡◌, refl, sym, ap, ◌∙◌, subst}
use lib.Dec.{eqb, ltb}
use lib.ListN.{length}
use borrow.Author.Tests.{ltb-true, ltb-false, eqb-true}
use Rattle.queue_entries.specs.declared.Call.{Call}
use Rattle.queue_entries.specs.declared.Call.TheVariants as call
use Rattle.queue_plain.specs.Plain.{Queue, Reply, answer_of, taken_by, given_back, meaning_of, full_of}
use Rattle.queue_plain.specs.Story.{items_of}
use Rattle.queue_plain.specs.Plain as plain
use Rattle.queue_plain.proofs.Answers.{none_of}
use Rattle.queue_logs.specs.Logs.{Line, Log, weigh, only, any, ended, handed_in, handed_out, may_take, before, sure_in_count, sure_out, may_in, may_out, SaysEmpty}
use Rattle.queue_logs.specs.Logs.{says_empty, says_empty_closed, says_is_empty, SaysFull, push_full_said, displaces_said, is_full_said, SaysClosed}
use Rattle.queue_logs.specs.Logs.{push_closed_said, force_closed_said, pop_closed_said, is_closed_said, close_no_said, SaysOpen, pushed_said, forced_said}
use Rattle.queue_logs.specs.Logs.{displaces_open, empty_said, is_closed_no, close_yes_said, FullBeside, ClosedNever, OpenAfter, WrongCount, too_many}
use Rattle.queue_logs.specs.Logs.{beyond, too_few, SaysRoom, pushed_into, forced_into, is_full_no, RoomBeside, SomeBeside, NeverShown, unless}
use Rattle.queue_logs.specs.Logs.{FromNowhere, Twice, Overtaken, EmptyBeside}
use Rattle.queue_logs.proofs.Sums.{total_le, total_lt, total_some, weigh_append, weigh_one, weigh_none, weigh_first, only_own, weigh_any, weigh_front, total_but}
use Rattle.queue_logs.proofs.Account.{Account, AskedOf}

-- before, taken apart
pub before_ended : (l : Log) (x y : ℕ) → before l x y ≡ true → ended (l.line x).reply ≡ true
before_ended l x y b = go (ended (l.line x).reply) b
  where
    go : (e : Bool) → cond e (ltb (l.line x).to (l.line y).from) false ≡ true → e ≡ true
    go true b = refl
    go false b = absurd (true≢false (sym b))

pub before_lt : (l : Log) (x y : ℕ) → before l x y ≡ true → (l.line x).to < (l.line y).from
before_lt l x y b = go (ended (l.line x).reply) b
  where
    go : (e : Bool) → cond e (ltb (l.line x).to (l.line y).from) false ≡ true → (l.line x).to < (l.line y).from
    go true b = ltb-true _ _ b
    go false b = absurd (true≢false (sym b))

out_ended : (x : Line) (v : ℕ) → handed_out x ≡ v ∷ [] → ended x.reply ≡ true
out_ended x v h = go x.reply h
  where
    go : (r : List Reply) → meaning_of taken_by r ≡ v ∷ [] → ended r ≡ true
    go [] h = absurd (let q : ◌≡◌ {A = ℕ} 0 1 = ap length h in omega (arith, q))
    go (r ∷ more) h = refl

-- what the plain queue's answers say of it
code_of : Reply → ℕ
code_of plain.Pushed = 0
code_of plain.Empty = 1
code_of plain.EmptyAndClosed = 2
code_of plain.Yes = 3
code_of plain.No = 4
code_of (plain.Full x) = 5
code_of (plain.Closed x) = 6
code_of (plain.Displaced x) = 7
code_of (plain.Popped x) = 8
code_of (plain.Count n) = 9

count_of : Reply → ℕ
count_of plain.Pushed = 0
count_of plain.Empty = 0
count_of plain.EmptyAndClosed = 0
count_of plain.Yes = 0
count_of plain.No = 0
count_of (plain.Full x) = 0
count_of (plain.Closed x) = 0
count_of (plain.Displaced x) = 0
count_of (plain.Popped x) = 0
count_of (plain.Count n) = n

pop_none : (q : Queue) (r : Reply) → code_of r < 3 → answer_of q call.Pop ≡ r → q.items ≡ []
unfolding code_of
pop_none q r less e = go q.items (ap code_of e)
  where
    go : (i : List ℕ) → code_of (plain.front_of plain.Popped (cond q.closed plain.EmptyAndClosed plain.Empty) i) ≡ code_of r → i ≡ []
    go [] e = refl
    go (v ∷ i) e = absurd (omega (arith, less, e))

yes_is : (b : Bool) → plain.yes_if b ≡ plain.Yes → b ≡ true
unfolding code_of
yes_is true e = refl
yes_is false e = absurd (let q : ◌≡◌ {A = ℕ} 4 3 = ap code_of e in omega (arith, q))

empty_none : (q : Queue) → answer_of q call.IsEmpty ≡ plain.Yes → q.items ≡ []
empty_none q e = none_of q.items (eqb-true _ _ (yes_is _ e))

push_full : (q : Queue) (x y : ℕ) → answer_of q (call.Push x) ≡ plain.Full y → full_of q ≡ true
unfolding code_of
push_full q x y e = go q.closed (full_of q) (ap code_of e)
  where
    go : (a b : Bool) → code_of (cond a (plain.Closed x) (cond b (plain.Full x) plain.Pushed)) ≡ 5 → b ≡ true
    go true b e = absurd (omega (arith, e))
    go false true e = refl
    go false false e = absurd (omega (arith, e))

force_full : (q : Queue) (x v : ℕ) → answer_of q (call.ForcePush x) ≡ plain.Displaced v → full_of q ≡ true
unfolding code_of
force_full q x v e = go q.closed (full_of q) q.items (ap code_of e)
  where
    go : (a b : Bool) (i : List ℕ) → code_of (cond a (plain.Closed x) (cond b (plain.front_of plain.Displaced plain.Pushed i) plain.Pushed)) ≡ 7 → b ≡ true
    go true b i e = absurd (omega (arith, e))
    go false true i e = refl
    go false false i e = absurd (omega (arith, e))

no_is : (b : Bool) → plain.yes_if b ≡ plain.No → b ≡ false
unfolding code_of
no_is false e = refl
no_is true e = absurd (let q : ◌≡◌ {A = ℕ} 3 4 = ap code_of e in omega (arith, q))

push_room : (q : Queue) (x : ℕ) → answer_of q (call.Push x) ≡ plain.Pushed → full_of q ≡ false
unfolding code_of
push_room q x e = go q.closed (full_of q) (ap code_of e)
  where
    go : (a b : Bool) → code_of (cond a (plain.Closed x) (cond b (plain.Full x) plain.Pushed)) ≡ 0 → b ≡ false
    go true b e = absurd (omega (arith, e))
    go false true e = absurd (omega (arith, e))
    go false false e = refl

force_room : (q : Queue) (x : ℕ) → answer_of q (call.ForcePush x) ≡ plain.Pushed → (full_of q ≡ false) ⊎ (q.items ≡ [])
unfolding code_of
force_room q x e = go q.closed (full_of q) q.items (ap code_of e)
  where
    go : (a b : Bool) (i : List ℕ) → code_of (cond a (plain.Closed x) (cond b (plain.front_of plain.Displaced plain.Pushed i) plain.Pushed)) ≡ 0 → (b ≡ false) ⊎ (i ≡ [])
    go true b i e = absurd (omega (arith, e))
    go false true [] e = inr refl
    go false true (v ∷ i) e = absurd (omega (arith, e))
    go false false i e = inl refl

some_is : (q : Queue) → answer_of q call.IsEmpty ≡ plain.No → 0 < length q.items
some_is q e = go (length q.items) (no_is _ e)
  where
    go : (n : ℕ) → eqb n 0 ≡ false → 0 < n
    go zero e = absurd (true≢false e)
    go (suc n) e = omega arith

-- a queue that answers so is closed, or open
push_shut : (q : Queue) (x : ℕ) (r : Reply) → answer_of q (call.Push x) ≡ r → eqb (code_of r) 6 ≡ q.closed
unfolding code_of
push_shut q x r e = ap (λ (z : Reply). eqb (code_of z) 6) (sym e) ∙ go q.closed (full_of q)
  where
    go : (a b : Bool) → eqb (code_of (cond a (plain.Closed x) (cond b (plain.Full x) plain.Pushed))) 6 ≡ a
    go true b = refl
    go false true = refl
    go false false = refl

force_shut : (q : Queue) (x : ℕ) (r : Reply) → answer_of q (call.ForcePush x) ≡ r → eqb (code_of r) 6 ≡ q.closed
unfolding code_of
force_shut q x r e = ap (λ (z : Reply). eqb (code_of z) 6) (sym e) ∙ go q.closed (full_of q) q.items
  where
    go : (a b : Bool) (i : List ℕ) → eqb (code_of (cond a (plain.Closed x) (cond b (plain.front_of plain.Displaced plain.Pushed i) plain.Pushed))) 6 ≡ a
    go true b i = refl
    go false true [] = refl
    go false true (v ∷ i) = refl
    go false false i = refl

pop_shut : (q : Queue) (r : Reply) → code_of r < 3 → answer_of q call.Pop ≡ r → eqb (code_of r) 2 ≡ q.closed
unfolding code_of
pop_shut q r less e = ap (λ (z : Reply). eqb (code_of z) 2) (sym e) ∙ go q.closed q.items (omega (arith, less, ap code_of e))
  where
    go : (a : Bool) (i : List ℕ) → code_of (plain.front_of plain.Popped (cond a plain.EmptyAndClosed plain.Empty) i) < 3
        → eqb (code_of (plain.front_of plain.Popped (cond a plain.EmptyAndClosed plain.Empty) i)) 2 ≡ a
    go true [] l = refl
    go false [] l = refl
    go a (v ∷ i) l = absurd (omega (arith, l))

close_shut : (q : Queue) (r : Reply) → answer_of q call.Close ≡ r → eqb (code_of r) 4 ≡ q.closed
unfolding code_of
close_shut q r e = ap (λ (z : Reply). eqb (code_of z) 4) (sym e) ∙ go q.closed
  where
    go : (a : Bool) → eqb (code_of (cond a plain.No plain.Yes)) 4 ≡ a
    go true = refl
    go false = refl

ask_shut : (q : Queue) (r : Reply) → answer_of q call.IsClosed ≡ r → eqb (code_of r) 3 ≡ q.closed
unfolding code_of
ask_shut q r e = ap (λ (z : Reply). eqb (code_of z) 3) (sym e) ∙ go q.closed
  where
    go : (a : Bool) → eqb (code_of (plain.yes_if a)) 3 ≡ a
    go true = refl
    go false = refl

call_code : Call → ℕ
call_code (call.Push x) = 0
call_code (call.ForcePush x) = 0
call_code call.Pop = 0
call_code call.Len = 0
call_code call.IsEmpty = 0
call_code call.IsFull = 0
call_code call.Close = 1
call_code call.IsClosed = 0

first_code : List Call → ℕ
first_code [] = 0
first_code (c ∷ more) = call_code c

first_reply : List Reply → ℕ
first_reply [] = 0
first_reply (r ∷ more) = code_of r

module _ (capacity : ℕ) (stays sees : Bool) (l : Log) (o : Account capacity stays sees l) where
  -- 1. what goes out came in, by a call that had begun
  pub from_nowhere : (y v : ℕ) → FromNowhere l y v → ⊥
  from_nowhere y v s =
      let t = o.taking y v s.there s.out in
      let n = t.0 in
      let here : 0 < weigh (only v) (o.came n) =
      omega (arith, ap (weigh (only v)) (o.in_order n), weigh_append (only v) (o.went n) (o.queue n).items, ap (weigh (only v)) t.4, weigh_first (only v) v t.1, only_own v) in
      let some = total_some l.size (λ x. weigh (only v) (o.puts n x)) (omega (arith, here, o.came_is (only v) n)) in
      let x = some.0 in
      let other : x ≢ y = λ e. absurd (omega (arith, some.2, ap (λ (z : ℕ). weigh (only v) (o.puts n z)) e, ap (weigh (only v)) t.5, weigh_none (only v))) in
      let later = before_lt l y x (s.later x some.1 other (omega (arith, some.2, o.put_most (only v) n x some.1))) in
      omega (arith, some.2, ap (weigh (only v)) (o.put_late n x (omega (arith, later, t.3))), weigh_none (only v))

  -- 2. nothing goes out more often than it came in
  pub twice : (v : ℕ) → Twice l v → ⊥
  twice v s =
      let n = o.end in
      let f = only v in
      let outs = total_le l.size (λ x. weigh f (handed_out (l.line x))) (λ x. weigh f (o.takes n x)) (λ x i. out x i (l.line x).reply refl) in
      let ins = total_le l.size (λ x. weigh f (o.puts n x)) (λ x. weigh f (handed_in (l.line x))) (λ x i. o.put_most f n x i) in
      omega (arith, s, outs, ins, o.came_is f n, o.went_is f n, ap (weigh f) (o.in_order n), weigh_append f (o.went n) (o.queue n).items)
    where
      out : (x : ℕ) → x < l.size → (r : List Reply) → (l.line x).reply ≡ r → weigh (only v) (handed_out (l.line x)) ≤ weigh (only v) (o.takes o.end x)
      out x i [] e = omega (arith, ap (λ (z : List Reply). weigh (only v) (meaning_of taken_by z)) e, weigh_none (only v))
      out x i (r ∷ more) e =
          let done = ap ended e in
          omega (arith, ap (weigh (only v)) (o.take_done o.end x i done (o.all_by x i done)))

  -- 3. by then a had gone out too, before b
  pub overtaken : (a b in-a in_b out-a out-b : ℕ) → Overtaken l a b in-a in_b out-a out-b → ⊥
  overtaken a b in-a in_b out-a out-b s =
      let f = only a in
      let ta = o.taking out-a a s.there.2 s.a_out in
      let tb = o.taking out-b b s.there.3 s.b_out in
      let na = ta.0 in
      let nb = tb.0 in
      let m = (l.line in_b).from in
      let apart = before_lt l out-b out-a s.out_of_order in
      -- when b's way in begins, a has come and b has not
      let a-came : 0 < weigh f (o.came m) =
      let one : weigh f (o.puts m in-a) ≡ 1 =
      ap (weigh f) (o.put_done m in-a s.there.0 (before_ended l in-a in_b s.in_order) (before_lt l in-a in_b s.in_order) ∙ s.a_in) ∙ weigh_one f a ∙ only_own a in
      let less = total_lt l.size (λ x. 0) (λ x. weigh f (o.puts m x)) (λ x i. omega arith) in-a s.there.0 (omega (arith, one)) in
      omega (arith, less, o.came_is f m) in
      let b-late : weigh (only b) (o.came m) ≡ 0 =
      let none : weigh (only b) (o.puts m in_b) ≡ 0 = ap (weigh (only b)) (o.put_late m in_b (omega arith)) ∙ weigh_none (only b) in
      let one : weigh (only b) (handed_in (l.line in_b)) ≡ 1 = ap (weigh (only b)) s.b_in ∙ weigh_one (only b) b ∙ only_own b in
      let less = total_lt l.size (λ x. weigh (only b) (o.puts m x)) (λ x. weigh (only b) (handed_in (l.line x))) (λ x i. o.put_most (only b) m x i) in_b
      s.there.1 (omega (arith, none, one)) in
      omega (arith, less, o.came_is (only b) m, s.b_once) in
      -- so that a went before b did, and goes again
      let gone : 0 < weigh f (o.went nb) = go m nb tb.1 b f a-came b-late tb.4 (ltb nb m) refl in
      let on = o.went_on nb na (omega (arith, apart, ta.2, tb.3)) in
      let ins = total_le l.size (λ x. weigh f (o.puts na x)) (λ x. weigh f (handed_in (l.line x))) (λ x i. o.put_most f na x i) in
      omega (
        arith,
        gone,
        ap (weigh f) on.1,
        weigh_append f (o.went nb) on.0,
        ap (weigh f) (o.in_order na),
        weigh_append f (o.went na) (o.queue na).items,
        ap (weigh f) ta.4,
        weigh_first f a ta.1,
        only_own a,
        o.came_is f na,
        ins,
        s.a_once,
      )
    where
      go : (m nb : ℕ) (rest : List ℕ) (b : ℕ) (f : ℕ → ℕ) → 0 < weigh f (o.came m) → weigh (only b) (o.came m) ≡ 0 → (o.queue nb).items ≡ b ∷ rest
          → (t : Bool) → ltb nb m ≡ t → 0 < weigh f (o.went nb)
      go m nb rest b f here none items true e =
          let on = o.came_on nb m (omega (arith, ltb-true nb m e)) in
          absurd (omega (
            arith,
            none,
            ap (weigh (only b)) on.1,
            weigh_append (only b) (o.came nb) on.0,
            ap (weigh (only b)) (o.in_order nb),
            weigh_append (only b) (o.went nb) (o.queue nb).items,
            ap (weigh (only b)) items,
            weigh_first (only b) b rest,
            only_own b,
          ))
      go m nb rest b f here none items false e =
          let on = o.came_on m nb (ltb-false nb m e) in
          omega (arith, here, weigh_front f (o.came m) on.0 (o.went nb) rest b (sym on.1 ∙ o.in_order nb ∙ ap (λ (z : List ℕ). o.went nb ++ z) items) none)

  -- ---- the sums at a moment of call y
  module _ (y n : ℕ) (there : y < l.size) (after : (l.line y).from < n) (by : n ≤ (l.line y).to) (f : ℕ → ℕ) where
    sure_in : sure_in_count f l y ≤ weigh f (o.came n)
    sure_in =
        omega (arith, o.came_is f n, total_le l.size (λ x. cond (before l x y) (weigh f (handed_in (l.line x))) 0) (λ x. weigh f (o.puts n x)) (λ x i. go x i (before l x y) refl))
      where
        go : (x : ℕ) → x < l.size → (t : Bool) → before l x y ≡ t → cond t (weigh f (handed_in (l.line x))) 0 ≤ weigh f (o.puts n x)
        go x i true e = omega (arith, ap (weigh f) (o.put_done n x i (before_ended l x y e) (omega (arith, before_lt l x y e, after))))
        go x i false e = omega arith

    may_out_lem : ((v : ℕ) → f v ≤ 1) → weigh f (o.went n) ≤ may_out f l y
    may_out_lem small =
        omega (arith, o.went_is f n, total_le l.size (λ x. weigh f (o.takes n x)) (λ x. cond (before l y x) 0 (may_take f (l.line x))) (λ x i. go x i (before l y x) refl))
      where
        go : (x : ℕ) → x < l.size → (t : Bool) → before l y x ≡ t → weigh f (o.takes n x) ≤ cond t 0 (may_take f (l.line x))
        go x i true e = omega (arith, ap (weigh f) (o.take_late n x (omega (arith, before_lt l y x e, by))), weigh_none f)
        go x i false e = o.take_most f small n x i

    may_in_lem : weigh f (o.came n) ≤ may_in f l y + weigh f (o.puts n y)
    may_in_lem =
        omega (
          arith,
          o.came_is f n,
          total_but l.size (λ x. weigh f (o.puts n x)) y there,
          total_le l.size (λ x. cond (eqb x y) 0 (weigh f (o.puts n x))) (λ x. cond (eqb x y) 0 (cond (before l y x) 0 (weigh f (handed_in (l.line x)))))
              (λ x i. go x i (eqb x y) (before l y x) refl),
        )
      where
        go : (x : ℕ) → x < l.size → (s t : Bool) → before l y x ≡ t → cond s 0 (weigh f (o.puts n x)) ≤ cond s 0 (cond t 0 (weigh f (handed_in (l.line x))))
        go x i true t e = omega arith
        go x i false true e = omega (arith, ap (weigh f) (o.put_late n x (omega (arith, before_lt l y x e, by))), weigh_none f)
        go x i false false e = o.put_most f n x i

    -- beside what a call has taken that had not answered before y began
    sure_out_but : (z : ℕ) → z < l.size → before l z y ≡ false → sure_out f l y + weigh f (o.takes n z) ≤ weigh f (o.went n)
    sure_out_but z in-log apart =
        omega (
          arith,
          o.went_is f n,
          total_but l.size (λ x. weigh f (o.takes n x)) z in-log,
          total_le l.size (λ x. cond (before l x y) (weigh f (handed_out (l.line x))) 0) (λ x. cond (eqb x z) 0 (weigh f (o.takes n x))) (λ x i. go x i (eqb x z) refl (before l x y) refl),
        )
      where
        go : (x : ℕ) → x < l.size → (s : Bool) → eqb x z ≡ s → (t : Bool) → before l x y ≡ t → cond t (weigh f (handed_out (l.line x))) 0 ≤ cond s 0 (weigh f (o.takes n x))
        go x i s d false e = omega arith
        go x i true d true e = absurd (true≢false (sym e ∙ ap (λ (q : ℕ). before l q y) (eqb-true x z d) ∙ apart))
        go x i false d true e = omega (arith, ap (weigh f) (o.take_done n x i (before_ended l x y e) (omega (arith, before_lt l x y e, after))))

    not_before : (z : ℕ) → (ended (l.line z).reply ≡ true → n ≤ (l.line z).to) → before l z y ≡ false
    not_before z late = go (before l z y) refl
      where
        go : (t : Bool) → before l z y ≡ t → t ≡ false
        go false e = refl
        go true e = absurd (omega (arith, before_lt l z y e, late (before_ended l z y e), after))

    sure_out_lem : sure_out f l y + weigh f (o.takes n y) ≤ weigh f (o.went n)
    sure_out_lem = sure_out_but y there (not_before y (λ h. by))

    came_weighs : weigh f (o.came n) ≡ weigh f (o.went n) + weigh f (o.queue n).items
    came_weighs = ap (weigh f) (o.in_order n) ∙ weigh_append f (o.went n) (o.queue n).items

  -- 4. where nothing waits, all that came has gone
  pub empty_beside : (y : ℕ) (f : ℕ → ℕ) → EmptyBeside l y f → ⊥
  unfolding code_of
  empty_beside y f s = go s.1 s.2
    where
      by_none : (n : ℕ) → y < l.size → (l.line y).from < n → n ≤ (l.line y).to → (o.queue n).items ≡ [] → may_out f l y < sure_in_count f l y → ⊥
      by_none n there after by none less =
          omega (
            arith,
            less,
            sure_in y n there after by f,
            may_out_lem y n there after by f s.0,
            came_weighs y n there after by f,
            ap (weigh f) none,
            weigh_none f,
          )

      go : SaysEmpty l y → may_out f l y < sure_in_count f l y → ⊥
      go (says_empty r) less =
          let t = o.moment y call.Pop plain.Empty r.0 r.1 r.2 refl in
          by_none t.0 r.0 t.1 t.2 (sym t.3.items ∙ pop_none t.3.asked plain.Empty (omega arith) t.3.says) less
      go (says_empty_closed r) less =
          let t = o.moment y call.Pop plain.EmptyAndClosed r.0 r.1 r.2 refl in
          by_none t.0 r.0 t.1 t.2 (sym t.3.items ∙ pop_none t.3.asked plain.EmptyAndClosed (omega arith) t.3.says) less
      go (says_is_empty r) less =
          let t = o.moment y call.IsEmpty plain.Yes r.0 r.1 r.2 refl in by_none t.0 r.0 t.1 t.2 (sym t.3.items ∙ empty_none t.3.asked t.3.says) less

  -- 5. where it is full, as much came as capacity and what went
  own_none : (y n : ℕ) → y < l.size → handed_in (l.line y) ≡ [] → weigh any (o.puts n y) ≤ weigh any (o.takes n y)
  own_none y n there none = omega (arith, o.put_most any n y there, ap (weigh any) none, weigh_none any)

  pub full_beside : (y : ℕ) → FullBeside l capacity y → ⊥
  unfolding items_of
  full_beside y s = go s.0 s.1
    where
      by_full : (n : ℕ) → y < l.size → (l.line y).from < n → n ≤ (l.line y).to → capacity ≤ length (o.queue n).items
          → weigh any (o.puts n y) ≤ weigh any (o.takes n y) → may_in any l y < capacity + sure_out any l y → ⊥
      by_full n there after by full own less =
          omega (
            arith,
            less,
            may_in_lem y n there after by any,
            sure_out_lem y n there after by any,
            came_weighs y n there after by any,
            weigh_any (o.queue n).items,
            full,
            own,
          )

      -- or by held room: who holds it has taken that out, and it is not answered for certain
      by_held : (n : ℕ) → y < l.size → (l.line y).from < n → n ≤ (l.line y).to → capacity ≤ length (o.queue n).items + o.held n → handed_in (l.line y) ≡ []
          → may_in any l y < capacity + sure_out any l y → ⊥
      by_held n there after by full none less = who (o.holds n)
        where
          own : weigh any (o.puts n y) ≤ 0
          own = omega (arith, o.put_most any n y there, ap (weigh any) none, weigh_none any)

          who : (o.held n ≡ 0) ⊎ ((z : ℕ) × (z < l.size) × (o.held n ≤ weigh any (o.takes n z)) × (ended (l.line z).reply ≡ true → n ≤ (l.line z).to)) → ⊥
          who (inl z) = by_full n there after by (omega (arith, full, z)) (omega (arith, own)) less
          who (inr z) =
              omega (
                arith,
                less,
                may_in_lem y n there after by any,
                sure_out_but y n there after by any z.0 z.1 (not_before y n there after by any z.0 z.3),
                came_weighs y n there after by any,
                weigh_any (o.queue n).items,
                full,
                own,
                z.2,
              )

      go : SaysFull l y → may_in any l y < capacity + sure_out any l y → ⊥
      go (push_full_said x r) less =
          let t = o.moment y (call.Push x) (plain.Full x) r.0 r.1 r.2 refl in
          by_held t.0 r.0 t.1 t.2 (t.3.full (push_full t.3.asked x x t.3.says)) (ap (λ (z : List Reply). unless (meaning_of given_back z) (items_of (l.line y).calls)) r.2) less
      go (displaces_said x v r) less =
          let t = o.moment y (call.ForcePush x) (plain.Displaced v) r.0 r.1 r.2 refl in
          by_full t.0 r.0 t.1 t.2 (omega (arith, t.3.full (force_full t.3.asked x v t.3.says))) (o.swaps t.0 y v r.0 (ap (meaning_of taken_by) r.2)) less
      go (is_full_said r) less =
          let t = o.moment y call.IsFull plain.Yes r.0 r.1 r.2 refl in
          by_held t.0 r.0 t.1 t.2 (t.3.full (yes_is (full_of t.3.asked) t.3.says))
          (ap (λ (z : List Reply). unless (meaning_of given_back z) (items_of (l.line y).calls)) r.2 ∙ ap items_of r.1) less

  -- 6. it was closed by a close that answered yes
  pub closed_never : (y : ℕ) → ClosedNever l y → ⊥
  unfolding code_of call_code first_code first_reply
  closed_never y s = go s.says
    where
      by_shut : (n : ℕ) → n ≤ (l.line y).to → (o.queue n).closed ≡ true → ((l.line y).calls ≡ call.Close ∷ [] → (l.line y).reply ≡ plain.Yes ∷ [] → ⊥) → ⊥
      by_shut n by shut other =
          let t = o.closed_by n shut in
          let apart : t.0 ≢ y = λ e. other (subst (λ (z : ℕ). (l.line z).calls ≡ call.Close ∷ []) e t.2) (subst (λ (z : ℕ). (l.line z).reply ≡ plain.Yes ∷ []) e t.3) in
          omega (arith, before_lt l y t.0 (s.later t.0 t.1 apart t.2), t.4, by)

      no_close : (c : Call) → call_code c ≡ 0 → (l.line y).calls ≡ c ∷ [] → (l.line y).calls ≡ call.Close ∷ [] → ⊥
      no_close c z e d = omega (arith, z, ap first_code (sym e ∙ d))

      go : SaysClosed l y → ⊥
      go (push_closed_said x r) =
          let t = o.moment y (call.Push x) (plain.Closed x) r.0 r.1 r.2 refl in
          by_shut t.0 t.2 (sym (push_shut t.3.asked x (plain.Closed x) t.3.says ∙ t.3.closed)) (λ c d. no_close (call.Push x) refl r.1 c)
      go (force_closed_said x r) =
          let t = o.moment y (call.ForcePush x) (plain.Closed x) r.0 r.1 r.2 refl in
          by_shut t.0 t.2 (sym (force_shut t.3.asked x (plain.Closed x) t.3.says ∙ t.3.closed)) (λ c d. no_close (call.ForcePush x) refl r.1 c)
      go (pop_closed_said r) =
          let t = o.moment y call.Pop plain.EmptyAndClosed r.0 r.1 r.2 refl in
          by_shut t.0 t.2 (sym (pop_shut t.3.asked plain.EmptyAndClosed (omega arith) t.3.says ∙ t.3.closed)) (λ c d. no_close call.Pop refl r.1 c)
      go (is_closed_said r) =
          let t = o.moment y call.IsClosed plain.Yes r.0 r.1 r.2 refl in
          by_shut t.0 t.2 (sym (ask_shut t.3.asked plain.Yes t.3.says ∙ t.3.closed)) (λ c d. no_close call.IsClosed refl r.1 c)
      go (close_no_said r) =
          let t = o.moment y call.Close plain.No r.0 r.1 r.2 refl in
          by_shut t.0 t.2 (sym (close_shut t.3.asked plain.No t.3.says ∙ t.3.closed))
          (λ c d. absurd (let q : ◌≡◌ {A = ℕ} 4 3 = ap first_reply (sym r.2 ∙ d) in omega (arith, q)))

  pub open_after : stays ≡ true → (x y : ℕ) → OpenAfter l x y → ⊥
  unfolding code_of
  open_after still x y s = go s.says
    where
      by_open : (n : ℕ) → (l.line y).from < n → false ≡ (o.queue n).closed → ⊥
      by_open n after unshut =
          true≢false (sym (o.closed_on still n x s.there s.closes (before_ended l x y s.earlier) (omega (arith, before_lt l x y s.earlier, after))) ∙ sym unshut)

      go : SaysOpen l y → ⊥
      go (pushed_said v r) =
          let t = o.moment y (call.Push v) plain.Pushed r.0 r.1 r.2 refl in by_open t.0 t.1 (push_shut t.3.asked v plain.Pushed t.3.says ∙ t.3.closed)
      go (forced_said v r) =
          let t = o.moment y (call.ForcePush v) plain.Pushed r.0 r.1 r.2 refl in by_open t.0 t.1 (force_shut t.3.asked v plain.Pushed t.3.says ∙ t.3.closed)
      go (displaces_open v u r) =
          let t = o.moment y (call.ForcePush v) (plain.Displaced u) r.0 r.1 r.2 refl in by_open t.0 t.1 (force_shut t.3.asked v (plain.Displaced u) t.3.says ∙ t.3.closed)
      go (empty_said r) =
          let t = o.moment y call.Pop plain.Empty r.0 r.1 r.2 refl in by_open t.0 t.1 (pop_shut t.3.asked plain.Empty (omega arith) t.3.says ∙ t.3.closed)
      go (is_closed_no r) =
          let t = o.moment y call.IsClosed plain.No r.0 r.1 r.2 refl in by_open t.0 t.1 (ask_shut t.3.asked plain.No t.3.says ∙ t.3.closed)
      go (close_yes_said r) =
          let t = o.moment y call.Close plain.Yes r.0 r.1 r.2 refl in by_open t.0 t.1 (close_shut t.3.asked plain.Yes t.3.says ∙ t.3.closed)

  -- 7. a count is that of a moment
  pub wrong_count : (y n : ℕ) → WrongCount l capacity y n → ⊥
  unfolding count_of items_of
  wrong_count y n s = go s
    where
      go : WrongCount l capacity y n → ⊥
      go (too_many r less) =
          let t = o.moment y call.Len (plain.Count n) r.0 r.1 r.2 refl in
          let k = t.0 in
          let own = own_none y k r.0 (ap (λ (z : List Reply). unless (meaning_of given_back z) (items_of (l.line y).calls)) r.2 ∙ ap items_of r.1) in
          omega (
            arith,
            less,
            may_in_lem y k r.0 t.1 t.2 any,
            sure_out_lem y k r.0 t.1 t.2 any,
            came_weighs y k r.0 t.1 t.2 any,
            weigh_any (o.queue k).items,
            ap count_of t.3.says,
            ap length t.3.items,
            own,
          )
      go (beyond r less) =
          let t = o.moment y call.Len (plain.Count n) r.0 r.1 r.2 refl in omega (arith, less, o.most t.0, ap count_of t.3.says, ap length t.3.items)
      go (too_few r less) =
          let t = o.moment y call.Len (plain.Count n) r.0 r.1 r.2 refl in
          let k = t.0 in
          omega (
            arith,
            less,
            sure_in y k r.0 t.1 t.2 any,
            may_out_lem y k r.0 t.1 t.2 any (λ v. omega arith),
            came_weighs y k r.0 t.1 t.2 any,
            weigh_any (o.queue k).items,
            ap count_of t.3.says,
            ap length t.3.items,
          )

  -- 8. where there is room fewer came than capacity and what went; where something waits more came than went
  pub room_beside : (y : ℕ) → RoomBeside l capacity y → ⊥
  room_beside y s = go s.0 s.1
    where
      by_room : (n : ℕ) → y < l.size → (l.line y).from < n → n ≤ (l.line y).to → length (o.queue n).items ≢ capacity → capacity + may_out any l y ≤ sure_in_count any l y → ⊥
      by_room n there after by less more =
          less (omega (
            arith,
            o.most n,
            more,
            sure_in y n there after by any,
            may_out_lem y n there after by any (λ v. omega arith),
            came_weighs y n there after by any,
            weigh_any (o.queue n).items,
          ))

      forced : (n : ℕ) (c : Call) (a : Reply) (t : AskedOf capacity (o.held n) (o.queue n) c a) → (full_of t.asked ≡ false) ⊎ (t.asked.items ≡ []) → length (o.queue n).items ≢ capacity
      forced n c a t (inl e) = t.room e
      forced n c a t (inr e) = λ q. absurd (omega (arith, q, o.roomy, ap length (sym t.items ∙ e)))

      go : SaysRoom l y → capacity + may_out any l y ≤ sure_in_count any l y → ⊥
      go (pushed_into x r) more =
          let t = o.moment y (call.Push x) plain.Pushed r.0 r.1 r.2 refl in by_room t.0 r.0 t.1 t.2 (t.3.room (push_room t.3.asked x t.3.says)) more
      go (forced_into x r) more =
          let t = o.moment y (call.ForcePush x) plain.Pushed r.0 r.1 r.2 refl in
          by_room t.0 r.0 t.1 t.2 (forced t.0 (call.ForcePush x) plain.Pushed t.3 (force_room t.3.asked x t.3.says)) more
      go (is_full_no r) more =
          let t = o.moment y call.IsFull plain.No r.0 r.1 r.2 refl in by_room t.0 r.0 t.1 t.2 (t.3.room (no_is (full_of t.3.asked) t.3.says)) more

  pub some_beside : sees ≡ true → (y : ℕ) → SomeBeside l y → ⊥
  unfolding items_of
  some_beside read y s =
      let r = s.0 in
      let t = o.moment y call.IsEmpty plain.No r.0 r.1 r.2 (ap not read) in
      let k = t.0 in
      let own = own_none y k r.0 (ap (λ (z : List Reply). unless (meaning_of given_back z) (items_of (l.line y).calls)) r.2 ∙ ap items_of r.1) in
      omega (
        arith,
        s.1,
        may_in_lem y k r.0 t.1 t.2 any,
        sure_out_lem y k r.0 t.1 t.2 any,
        came_weighs y k r.0 t.1 t.2 any,
        weigh_any (o.queue k).items,
        ap length t.3.items,
        some_is t.3.asked t.3.says,
        own,
      )

  -- None of them is shown.
  pub never_shown : NeverShown capacity stays sees l
  never_shown =
      record {
        from_nowhere = from_nowhere;
        twice = twice;
        overtaken = overtaken;
        empty_beside = empty_beside;
        full_beside = full_beside;
        closed_never = closed_never;
        open_after = open_after;
        wrong_count = wrong_count;
        room_beside = room_beside;
        some_beside = some_beside;
      }
