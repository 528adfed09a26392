-- What a log never shows, one seen late never shows.
use Prim.Native.Nat.{ℕ, ◌≤◌, ◌<◌}
use native.Mathlib.Omega.{arith}
use mathlib.Core.Bool.{Bool, true, false, cond, true≢false}
use mathlib.Core.List.{List}
use mathlib.Core.Path.{◌≡◌, refl, sym, ap, ◌∙◌, subst}
use lib.Dec.{eqb, ltb}
use borrow.Author.Tests.{lt-ltb, ltb-true}
use Rattle.queue_entries.specs.declared.Call.{Call}
use Rattle.queue_plain.specs.Plain.{Reply, meaning_of, taken_by, given_back}
use Rattle.queue_plain.specs.Story.{items_of}
use Rattle.queue_logs.specs.Logs.{Log, Seen, total, weigh, only, any, ended, handed_in, handed_out, may_take, taker, before, sure_in_count, sure_out, may_in, may_out}
use Rattle.queue_logs.specs.Logs.{Says, SaysEmpty, says_empty, says_empty_closed, says_is_empty, SaysFull, push_full_said, displaces_said, is_full_said}
use Rattle.queue_logs.specs.Logs.{SaysClosed, push_closed_said, force_closed_said, pop_closed_said, is_closed_said, close_no_said, SaysOpen, pushed_said}
use Rattle.queue_logs.specs.Logs.{forced_said, displaces_open, empty_said, is_closed_no, close_yes_said, FromNowhere, Twice, Overtaken, EmptyBeside}
use Rattle.queue_logs.specs.Logs.{FullBeside, ClosedNever, OpenAfter, WrongCount, too_many, beyond, too_few, SaysRoom, pushed_into, forced_into}
use Rattle.queue_logs.specs.Logs.{is_full_no, RoomBeside, SomeBeside, NeverShown, unless}
use Rattle.queue_logs.proofs.Sums.{total_le}

-- so it is where begins stand no later and answers no earlier
pub seen_by : (l seen : Log) → seen.size ≡ l.size → ((x : ℕ) → (seen.line x).calls ≡ (l.line x).calls) → ((x : ℕ) → (seen.line x).reply ≡ (l.line x).reply)
    → ((x : ℕ) → (seen.line x).from ≤ (l.line x).from) → ((x : ℕ) → (l.line x).to ≤ (seen.line x).to) → Seen l seen
seen_by l seen size calls reply from to = record { size = size; calls = calls; reply = reply; order = λ x y h. go x y (ended (seen.line x).reply) refl h }
  where
    go : (x y : ℕ) (e : Bool) → ended (seen.line x).reply ≡ e → cond e (ltb (seen.line x).to (seen.line y).from) false ≡ true → before l x y ≡ true
    go x y false q h = absurd (true≢false (sym h))
    go x y true q h =
        ap (λ (e : Bool). cond e (ltb (l.line x).to (l.line y).from) false) (ap ended (sym (reply x)) ∙ q)
        ∙ lt-ltb (l.line x).to (l.line y).from (omega (arith, ltb-true (seen.line x).to (seen.line y).from h, from y, to x))

module _ (l seen : Log) (o : Seen l seen) where
  same_in : (x : ℕ) → handed_in (seen.line x) ≡ handed_in (l.line x)
  same_in x = ap (λ (z : List Reply). unless (meaning_of given_back z) (items_of (seen.line x).calls)) (o.reply x)
      ∙ ap (λ (z : List Call). unless (meaning_of given_back (l.line x).reply) (items_of z)) (o.calls x)

  same_out : (x : ℕ) → handed_out (seen.line x) ≡ handed_out (l.line x)
  same_out x = ap (meaning_of taken_by) (o.reply x)

  same_may : (f : ℕ → ℕ) (x : ℕ) → may_take f (seen.line x) ≡ may_take f (l.line x)
  same_may f x =
      ap (λ (z : List Reply). cond (ended z) (weigh f (meaning_of taken_by z)) (taker (seen.line x).calls)) (o.reply x)
      ∙ ap (λ (z : List Call). cond (ended (l.line x).reply) (weigh f (handed_out (l.line x))) (taker z)) (o.calls x)

  total_seen : (f g : ℕ → ℕ) → ((x : ℕ) → f x ≤ g x) → total seen.size f ≤ total l.size g
  total_seen f g h = subst (λ (n : ℕ). total seen.size f ≤ total n g) o.size (total_le seen.size f g (λ x i. h x))

  seen_total : (f g : ℕ → ℕ) → ((x : ℕ) → g x ≤ f x) → total l.size g ≤ total seen.size f
  seen_total f g h = subst (λ (n : ℕ). total n g ≤ total seen.size f) o.size (total_le seen.size g f (λ x i. h x))

  -- a test that is seen only where it is true
  fewer : (s t : Bool) (a b : ℕ) → (s ≡ true → t ≡ true) → a ≡ b → cond s a 0 ≤ cond t b 0
  fewer true true a b h e = omega (arith, e)
  fewer true false a b h e = absurd (true≢false (sym (h refl)))
  fewer false t a b h e = omega arith

  more : (s t : Bool) (a b : ℕ) → (s ≡ true → t ≡ true) → a ≡ b → cond t 0 b ≤ cond s 0 a
  more true true a b h e = omega arith
  more true false a b h e = absurd (true≢false (sym (h refl)))
  more false true a b h e = omega arith
  more false false a b h e = omega (arith, e)

  but : (s : Bool) (a b : ℕ) → a ≤ b → cond s 0 a ≤ cond s 0 b
  but true a b h = omega arith
  but false a b h = h

  sure_in : (f : ℕ → ℕ) (y : ℕ) → sure_in_count f seen y ≤ sure_in_count f l y
  sure_in f y = total_seen _ _ (λ x. fewer (before seen x y) (before l x y) _ _ (o.order x y) (ap (weigh f) (same_in x)))

  sure_out_lem : (f : ℕ → ℕ) (y : ℕ) → sure_out f seen y ≤ sure_out f l y
  sure_out_lem f y = total_seen _ _ (λ x. fewer (before seen x y) (before l x y) _ _ (o.order x y) (ap (weigh f) (same_out x)))

  may_in_lem : (f : ℕ → ℕ) (y : ℕ) → may_in f l y ≤ may_in f seen y
  may_in_lem f y = seen_total _ _ (λ x. but (eqb x y) _ _ (more (before seen y x) (before l y x) _ _ (o.order y x) (ap (weigh f) (same_in x))))

  may_out_lem : (f : ℕ → ℕ) (y : ℕ) → may_out f l y ≤ may_out f seen y
  may_out_lem f y = seen_total _ _ (λ x. more (before seen y x) (before l y x) _ _ (o.order y x) (same_may f x))

  there : (x : ℕ) → x < seen.size → x < l.size
  there x h = subst (λ (n : ℕ). x < n) o.size h

  says : (y : ℕ) (c : Call) (r : Reply) → Says seen y c r → Says l y c r
  says y c r s = (there y s.0, sym (o.calls y) ∙ s.1, sym (o.reply y) ∙ s.2)

  empty : (y : ℕ) → SaysEmpty seen y → SaysEmpty l y
  empty y (says_empty s) = says_empty (says y _ _ s)
  empty y (says_empty_closed s) = says_empty_closed (says y _ _ s)
  empty y (says_is_empty s) = says_is_empty (says y _ _ s)

  full : (y : ℕ) → SaysFull seen y → SaysFull l y
  full y (push_full_said x s) = push_full_said x (says y _ _ s)
  full y (displaces_said x v s) = displaces_said x v (says y _ _ s)
  full y (is_full_said s) = is_full_said (says y _ _ s)

  closed : (y : ℕ) → SaysClosed seen y → SaysClosed l y
  closed y (push_closed_said x s) = push_closed_said x (says y _ _ s)
  closed y (force_closed_said x s) = force_closed_said x (says y _ _ s)
  closed y (pop_closed_said s) = pop_closed_said (says y _ _ s)
  closed y (is_closed_said s) = is_closed_said (says y _ _ s)
  closed y (close_no_said s) = close_no_said (says y _ _ s)

  unshut : (y : ℕ) → SaysOpen seen y → SaysOpen l y
  unshut y (pushed_said x s) = pushed_said x (says y _ _ s)
  unshut y (forced_said x s) = forced_said x (says y _ _ s)
  unshut y (displaces_open x v s) = displaces_open x v (says y _ _ s)
  unshut y (empty_said s) = empty_said (says y _ _ s)
  unshut y (is_closed_no s) = is_closed_no (says y _ _ s)
  unshut y (close_yes_said s) = close_yes_said (says y _ _ s)

  -- each row that the late log shows, the true one shows
  row1 : (y v : ℕ) → FromNowhere seen y v → FromNowhere l y v
  row1 y v s =
      record {
        there = there y s.there;
        out = sym (same_out y) ∙ s.out;
        later = λ x i ne h. o.order y x (s.later x (subst (λ (n : ℕ). x < n) (sym o.size) i) ne (omega (arith, h, ap (weigh (only v)) (same_in x))));
      }

  row2 : (v : ℕ) → Twice seen v → Twice l v
  row2 v s =
      omega (
        arith,
        s,
        total_seen (λ x. weigh (only v) (handed_out (seen.line x))) (λ x. weigh (only v) (handed_out (l.line x))) (λ x. omega (arith, ap (weigh (only v)) (same_out x))),
        seen_total (λ x. weigh (only v) (handed_in (seen.line x))) (λ x. weigh (only v) (handed_in (l.line x))) (λ x. omega (arith, ap (weigh (only v)) (same_in x))),
      )

  once : (v : ℕ) → total seen.size (λ x. weigh (only v) (handed_in (seen.line x))) ≡ 1 → total l.size (λ x. weigh (only v) (handed_in (l.line x))) ≡ 1
  once v e =
      omega (
        arith,
        e,
        total_seen (λ x. weigh (only v) (handed_in (seen.line x))) (λ x. weigh (only v) (handed_in (l.line x))) (λ x. omega (arith, ap (weigh (only v)) (same_in x))),
        seen_total (λ x. weigh (only v) (handed_in (seen.line x))) (λ x. weigh (only v) (handed_in (l.line x))) (λ x. omega (arith, ap (weigh (only v)) (same_in x))),
      )

  row3 : (a b in-a in_b out-a out-b : ℕ) → Overtaken seen a b in-a in_b out-a out-b → Overtaken l a b in-a in_b out-a out-b
  row3 a b in-a in_b out-a out-b s =
      record {
        there = (there in-a s.there.0, there in_b s.there.1, there out-a s.there.2, there out-b s.there.3);
        a_in = sym (same_in in-a) ∙ s.a_in;
        b_in = sym (same_in in_b) ∙ s.b_in;
        a_out = sym (same_out out-a) ∙ s.a_out;
        b_out = sym (same_out out-b) ∙ s.b_out;
        a_once = once a s.a_once;
        b_once = once b s.b_once;
        in_order = o.order in-a in_b s.in_order;
        out_of_order = o.order out-b out-a s.out_of_order;
      }

  row4 : (y : ℕ) (f : ℕ → ℕ) → EmptyBeside seen y f → EmptyBeside l y f
  row4 y f s = (s.0, empty y s.1, omega (arith, s.2, sure_in f y, may_out_lem f y))

  row5 : (capacity y : ℕ) → FullBeside seen capacity y → FullBeside l capacity y
  row5 capacity y s = (full y s.0, omega (arith, s.1, may_in_lem any y, sure_out_lem any y))

  row6 : (y : ℕ) → ClosedNever seen y → ClosedNever l y
  row6 y s =
      record {
        says = closed y s.says;
        later = λ x i ne c. o.order y x (s.later x (subst (λ (n : ℕ). x < n) (sym o.size) i) ne (o.calls x ∙ c));
      }

  row6_after : (x y : ℕ) → OpenAfter seen x y → OpenAfter l x y
  row6_after x y s = record { there = there x s.there; closes = sym (o.calls x) ∙ s.closes; earlier = o.order x y s.earlier; says = unshut y s.says }

  row7 : (capacity y n : ℕ) → WrongCount seen capacity y n → WrongCount l capacity y n
  row7 capacity y n (too_many s less) = too_many (says y _ _ s) (omega (arith, less, may_in_lem any y, sure_out_lem any y))
  row7 capacity y n (beyond s less) = beyond (says y _ _ s) less
  row7 capacity y n (too_few s less) = too_few (says y _ _ s) (omega (arith, less, sure_in any y, may_out_lem any y))

  room : (y : ℕ) → SaysRoom seen y → SaysRoom l y
  room y (pushed_into x s) = pushed_into x (says y _ _ s)
  room y (forced_into x s) = forced_into x (says y _ _ s)
  room y (is_full_no s) = is_full_no (says y _ _ s)

  row8 : (capacity y : ℕ) → RoomBeside seen capacity y → RoomBeside l capacity y
  row8 capacity y s = (room y s.0, omega (arith, s.1, may_out_lem any y, sure_in any y))

  row8_some : (y : ℕ) → SomeBeside seen y → SomeBeside l y
  row8_some y s = (says y _ _ s.0, omega (arith, s.1, may_in_lem any y, sure_out_lem any y))

  pub never_late : (capacity : ℕ) (stays sees : Bool) → NeverShown capacity stays sees l → NeverShown capacity stays sees seen
  never_late capacity stays sees n =
      record {
        from_nowhere = λ y v s. n.from_nowhere y v (row1 y v s);
        twice = λ v s. n.twice v (row2 v s);
        overtaken = λ a b in-a in_b out-a out-b s. n.overtaken a b in-a in_b out-a out-b (row3 a b in-a in_b out-a out-b s);
        empty_beside = λ y f s. n.empty_beside y f (row4 y f s);
        full_beside = λ y s. n.full_beside y (row5 capacity y s);
        closed_never = λ y s. n.closed_never y (row6 y s);
        open_after = λ still x y s. n.open_after still x y (row6_after x y s);
        wrong_count = λ y k s. n.wrong_count y k (row7 capacity y k s);
        room_beside = λ y s. n.room_beside y (row8 capacity y s);
        some_beside = λ read y s. n.some_beside read y (row8_some y s);
      }
