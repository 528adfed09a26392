-- The account of a whole story, at each time of it.
use Prim.Native.Nat.{ℕ, zero, suc, ◌+◌, ◌≤◌, ◌<◌}
use native.Mathlib.Omega.{arith}
use native.Mathlib.Decide.{ℕ_discrete}
use mathlib.Core.Bool.{Bool, true, false, cond, true≢false}
use mathlib.Core.List.{List, [], ◌∷◌, ◌++◌, append-nil, append_assoc}
use mathlib.Core.Logic.{◌≢◌, ◌⊎◌, inl, inr}
use mathlib.Core.Path.{◌≡◌, refl, sym, ap, ◌∙◌, subst}
use lib.ListN.{length, take}
use Rattle.queue_entries.specs.declared.Call.{Call}
use Rattle.queue_plain.specs.Plain.{Queue, Reply, taken_by, given_back, meaning_of}
use Rattle.queue_plain.specs.Story.{Element, Begun, Does, Story, Change, fresh, items_of, followed_from}
use Rattle.queue_logs.specs.Logs.{Line, Log, NeverShown, total, weigh, any, ended, unless, handed_out, nobody, begins, answers, line_with, log_of}
use Rattle.queue_logs.proofs.Sums.{weigh_append, weigh_none, weigh_one}
use Rattle.queue_logs.proofs.Account.{Account}
use Rattle.queue_logs.proofs.Rows.{never_shown}
use Rattle.queue_logs.proofs.Book.{Book, its, in_now, out_now, book_with, book_from, Fact, Along, Asked, Kept, kept_act, kept_begin, kept_on, upd_same, upd_else}

-- What stays as a story goes on.
pub record Later (o u : Book) : Type 0 where
  pub counts : o.known.count ≤ u.known.count
  pub puts : (x : ℕ) → (more : List ℕ) × (u.puts x ≡ o.puts x ++ more)
  pub takes : (x : ℕ) → (more : List ℕ) × (u.takes x ≡ o.takes x ++ more)
  pub came : (more : List ℕ) × (u.came ≡ o.came ++ more)
  pub went : (more : List ℕ) × (u.went ≡ o.went ++ more)
  pub room : u.known.queue.capacity ≡ o.known.queue.capacity
  -- a call that has answered
  pub done : (x : ℕ) → ended (o.line x).reply ≡ true → (u.line x ≡ o.line x) × (u.puts x ≡ o.puts x) × (u.takes x ≡ o.takes x)
  -- one that has not yet
  pub since : (x : ℕ) → ended (o.line x).reply ≡ false → ended (u.line x).reply ≡ true → o.known.count ≤ (u.line x).to
  -- one that has put in takes no more
  pub stuck : (x : ℕ) → 0 < weigh any (o.puts x) → u.takes x ≡ o.takes x

later_self : (o : Book) → Later o o
later_self o =
    record {
      counts = omega arith;
      puts = λ x. ([], sym (append-nil (o.puts x)));
      takes = λ x. ([], sym (append-nil (o.takes x)));
      came = ([], sym (append-nil o.came));
      went = ([], sym (append-nil o.went));
      room = refl;
      done = λ x h. (refl, refl, refl);
      since = λ x h i. absurd (true≢false (sym i ∙ h));
      stuck = λ x h. refl;
    }

joined : (a b c d e : List ℕ) → b ≡ a ++ d → c ≡ b ++ e → c ≡ a ++ (d ++ e)
joined a b c d e p q = q ∙ ap (λ (z : List ℕ). z ++ e) p ∙ append_assoc a d e

later_on_on : (o v u : Book) → Later o v → Later v u → Later o u
later_on_on o v u a b =
    record {
      counts = omega (arith, a.counts, b.counts);
      puts = λ x. ((a.puts x).0 ++ (b.puts x).0, joined (o.puts x) (v.puts x) (u.puts x) (a.puts x).0 (b.puts x).0 (a.puts x).1 (b.puts x).1);
      takes = λ x. ((a.takes x).0 ++ (b.takes x).0, joined (o.takes x) (v.takes x) (u.takes x) (a.takes x).0 (b.takes x).0 (a.takes x).1 (b.takes x).1);
      came = (a.came.0 ++ b.came.0, joined o.came v.came u.came a.came.0 b.came.0 a.came.1 b.came.1);
      went = (a.went.0 ++ b.went.0, joined o.went v.went u.went a.went.0 b.went.0 a.went.1 b.went.1);
      room = b.room ∙ a.room;
      done =
          λ x h.
          let p = a.done x h in
          let q = b.done x (ap (λ (l : Line). ended l.reply) p.0 ∙ h) in
          (q.0 ∙ p.0, q.1 ∙ p.1, q.2 ∙ p.2);
      since = λ x h i. go x h i (ended (v.line x).reply) refl;
      stuck = λ x h. b.stuck x (omega (arith, h, ap (weigh any) (a.puts x).1, weigh_append any (o.puts x) (a.puts x).0)) ∙ a.stuck x h;
    }
  where
    go : (x : ℕ) → ended (o.line x).reply ≡ false → ended (u.line x).reply ≡ true → (t : Bool) → ended (v.line x).reply ≡ t → o.known.count ≤ (u.line x).to
    go x h i true d = omega (arith, a.since x h d, ap (λ (l : Line). l.to) (b.done x d).0)
    go x h i false d = omega (arith, a.counts, b.since x d i)

module _ {E : Type 0} (worker : E → ℕ) (change : E → Change) (answered : E → List Reply) where
  module _ (stays sees : Bool) (limit : ℕ) (held_then : ℕ → ℕ) (queue_then : ℕ → Queue) (puts_then : ℕ → ℕ → List ℕ) where
    module _ (o : Book) (e : E) (a : Fact worker change answered stays sees limit held_then queue_then puts_then o e) where
      abbrev u : Book
      u = book_with worker change answered o (Does e)

      abbrev b : ℕ
      b = its worker change answered o e

      not_own : (x : ℕ) → ended (o.line x).reply ≡ true → x ≢ b
      not_own x h d = true≢false (sym h ∙ ap (λ (z : ℕ). ended (o.line z).reply) d ∙ ap ended a.under_way)

      put_go : (x : ℕ) → Dec (x ≡ b) → (more : List ℕ) × (u.puts x ≡ o.puts x ++ more)
      put_go x (yes d) = (in_now worker change answered o e, subst (λ (z : ℕ). u.puts z ≡ o.puts z ++ in_now worker change answered o e) (sym d) (upd_same b _ o.puts))
      put_go x (no ne) = ([], upd_else b _ o.puts x ne ∙ sym (append-nil (o.puts x)))

      take_go : (x : ℕ) → Dec (x ≡ b) → (more : List ℕ) × (u.takes x ≡ o.takes x ++ more)
      take_go x (yes d) = (out_now worker change answered o e, subst (λ (z : ℕ). u.takes z ≡ o.takes z ++ out_now worker change answered o e) (sym d) (upd_same b _ o.takes))
      take_go x (no ne) = ([], upd_else b _ o.takes x ne ∙ sym (append-nil (o.takes x)))

      since_own : (r : List Reply) → ended (answers o.known.count r (o.line b)).reply ≡ true → o.known.count ≤ (answers o.known.count r (o.line b)).to
      since_own [] h = absurd (true≢false (sym h ∙ ap ended a.under_way))
      since_own (r ∷ more) h = omega arith

      since_go : (x : ℕ) → ended (o.line x).reply ≡ false → ended (u.line x).reply ≡ true → Dec (x ≡ b) → o.known.count ≤ (u.line x).to
      since_go x h i (yes d) =
          let is : u.line x ≡ answers o.known.count (answered e) (o.line b) = ap u.line d ∙ upd_same b _ o.line in
          omega (arith, ap (λ (l : Line). l.to) is, since_own (answered e) (ap (λ (l : Line). ended l.reply) (sym is) ∙ i))
      since_go x h i (no ne) = absurd (true≢false (sym i ∙ ap (λ (l : Line). ended l.reply) (upd_else b _ o.line x ne) ∙ h))

      stuck_own : (t : Bool) → (change e).takes ≡ t → 0 < weigh any (o.puts b) → o.takes b ++ cond t (take 1 o.known.queue.items) [] ≡ o.takes b
      stuck_own true q h = absurd (omega (arith, h, ap (weigh any) (a.first q), weigh_none any))
      stuck_own false q h = append-nil (o.takes b)

      stuck_go : (x : ℕ) → 0 < weigh any (o.puts x) → Dec (x ≡ b) → u.takes x ≡ o.takes x
      stuck_go x h (yes d) =
          subst (λ (z : ℕ). u.takes z ≡ o.takes z) (sym d) (upd_same b _ o.takes ∙ stuck_own (change e).takes refl (subst (λ (z : ℕ). 0 < weigh any (o.puts z)) d h))
      stuck_go x h (no ne) = upd_else b _ o.takes x ne

      later_act : Later o u
      later_act =
          record {
            counts = omega arith;
            puts = λ x. put_go x (ℕ_discrete x b);
            takes = λ x. take_go x (ℕ_discrete x b);
            came = (in_now worker change answered o e, refl);
            went = (out_now worker change answered o e, refl);
            room = refl;
            done = λ x h. (upd_else b _ o.line x (not_own x h), upd_else b _ o.puts x (not_own x h), upd_else b _ o.takes x (not_own x h));
            since = λ x h i. since_go x h i (ℕ_discrete x b);
            stuck = λ x h. stuck_go x h (ℕ_discrete x b);
          }

    module _ (o : Book) (w : ℕ) (c : Call) (k : Kept worker change answered stays sees limit held_then queue_then puts_then o) where
      abbrev n : Book
      n = book_with worker change answered o (Begun w c)

      abbrev here : ℕ
      here = o.known.count

      not_here : (x : ℕ) → ended (o.line x).reply ≡ true → x ≢ here
      not_here x h d = true≢false (sym h ∙ ap (λ (l : Line). ended l.reply) (k.unbegun x (omega (arith, d))).2)

      from_here : (x : ℕ) → ended (o.line x).reply ≡ false → ended (n.line x).reply ≡ true → Dec (x ≡ here) → here ≤ (n.line x).to
      from_here x h i (yes d) = absurd (true≢false (sym i ∙ ap (λ (z : ℕ). ended (n.line z).reply) d ∙ ap (λ (l : Line). ended l.reply) (upd_same here (begins w c here) o.line)))
      from_here x h i (no ne) = absurd (true≢false (sym i ∙ ap (λ (l : Line). ended l.reply) (upd_else here _ o.line x ne) ∙ h))

      later_begin : Later o n
      later_begin =
          record {
            counts = omega arith;
            puts = λ x. ([], sym (append-nil (o.puts x)));
            takes = λ x. ([], sym (append-nil (o.takes x)));
            came = ([], sym (append-nil o.came));
            went = ([], sym (append-nil o.went));
            room = refl;
            done = λ x h. (upd_else here _ o.line x (not_here x h), refl, refl);
            since = λ x h i. from_here x h i (ℕ_discrete x here);
            stuck = λ x h. refl;
          }

    abbrev Right-on : Book → Type 0
    Right-on = Kept worker change answered stays sees limit held_then queue_then puts_then

    abbrev Facts : Book → Story E → Type 0
    Facts = Along worker change answered stays sees limit held_then queue_then puts_then

    abbrev from : Book → Story E → Book
    from = book_from worker change answered

    pub step : (o : Book) (x : Element E) → Asked worker change answered stays sees limit held_then queue_then puts_then o x → Right-on o
        → Right-on (book_with worker change answered o x) × Later o (book_with worker change answered o x)
    step o (Begun w c) a k = (kept_begin worker change answered stays sees limit held_then queue_then puts_then o w c k, later_begin o w c k)
    step o (Does e) a k = (kept_act worker change answered stays sees limit held_then queue_then puts_then o e a k, later_act o e a)

    pub kept_at : (n : ℕ) (s : Story E) (o : Book) → Facts o s → Right-on o → Right-on (from o (take n s))
    unfolding book_from
    kept_at zero s o a k = k
    kept_at (suc n) [] o a k = k
    kept_at (suc n) (x ∷ s) o a k = kept_at n s (book_with worker change answered o x) a.1 (step o x a.0 k).0

    pub later_from : (m : ℕ) (s : Story E) (o : Book) → Facts o s → Right-on o → Later o (from o (take m s))
    unfolding book_from
    later_from zero s o a k = later_self o
    later_from (suc m) [] o a k = later_self o
    later_from (suc m) (x ∷ s) o a k =
        let t = step o x a.0 k in
        later_on_on o (book_with worker change answered o x) _ t.1 (later_from m s (book_with worker change answered o x) a.1 t.0)

    pub later_at : (n m : ℕ) (s : Story E) (o : Book) → Facts o s → Right-on o → n ≤ m → Later (from o (take n s)) (from o (take m s))
    unfolding book_from
    later_at zero m s o a k h = later_from m s o a k
    later_at (suc n) zero s o a k h = absurd (omega (arith, h))
    later_at (suc n) (suc m) [] o a k h = later_self o
    later_at (suc n) (suc m) (x ∷ s) o a k h = later_at n m s (book_with worker change answered o x) a.1 (step o x a.0 k).0 (omega (arith, h))

    pub later_end : (n : ℕ) (s : Story E) (o : Book) → Facts o s → Right-on o → Later (from o (take n s)) (from o s)
    unfolding book_from
    later_end zero [] o a k = later_self o
    later_end zero (x ∷ s) o a k =
        let t = step o x a.0 k in
        later_on_on o (book_with worker change answered o x) _ t.1 (later_end zero s (book_with worker change answered o x) a.1 t.0)
    later_end (suc n) [] o a k = later_self o
    later_end (suc n) (x ∷ s) o a k = later_end n s (book_with worker change answered o x) a.1 (step o x a.0 k).0

    pub kept_end : (s : Story E) (o : Book) → Facts o s → Right-on o → Right-on (from o s)
    kept_end s o a k = kept_on worker change answered stays sees limit held_then queue_then puts_then o s a k

    one_more : (o : Book) (x : Element E) → (book_with worker change answered o x).known.count ≡ o.known.count + 1
    one_more o (Begun w c) = refl
    one_more o (Does e) = refl

    -- how many elements it has seen
    pub count_end : (s : Story E) (o : Book) → (from o s).known.count ≡ o.known.count + length s
    unfolding book_from
    count_end [] o = omega arith
    count_end (x ∷ s) o = omega (arith, count_end s (book_with worker change answered o x), one_more o x)

    pub count_most : (n : ℕ) (s : Story E) (o : Book) → (from o (take n s)).known.count ≤ o.known.count + n
    unfolding book_from
    count_most zero s o = omega arith
    count_most (suc n) [] o = omega arith
    count_most (suc n) (x ∷ s) o = omega (arith, count_most n s (book_with worker change answered o x), one_more o x)

    pub count_by : (n : ℕ) (s : Story E) (o : Book) → (o.known.count + n ≤ (from o (take n s)).known.count) ⊎ ((from o s).known.count ≤ (from o (take n s)).known.count)
    unfolding book_from
    count_by zero s o = inl (omega arith)
    count_by (suc n) [] o = inr (omega arith)
    count_by (suc n) (x ∷ s) o = go (count_by n s (book_with worker change answered o x))
      where
        go : ((book_with worker change answered o x).known.count + n ≤ (from (book_with worker change answered o x) (take n s)).known.count)
            ⊎ ((from (book_with worker change answered o x) s).known.count ≤ (from (book_with worker change answered o x) (take n s)).known.count)
            → (o.known.count + suc n ≤ (from (book_with worker change answered o x) (take n s)).known.count)
            ⊎ ((from (book_with worker change answered o x) s).known.count ≤ (from (book_with worker change answered o x) (take n s)).known.count)
        go (inl h) = inl (omega (arith, h, one_more o x))
        go (inr h) = inr h

  -- ---- the account

  abbrev pub start : ℕ → Book
  start capacity = record { known = fresh capacity; line = λ b. nobody; puts = λ b. []; takes = λ b. []; came = []; went = [] }

  total_none : (f : ℕ → ℕ) (n : ℕ) → 0 ≡ total n (λ x. weigh f [])
  unfolding total
  total_none f zero = refl
  total_none f (suc n) = omega (arith, total_none f n, weigh_none f)

  pub kept_start : (stays sees : Bool) (limit : ℕ) (held_then : ℕ → ℕ) (queue_then : ℕ → Queue) (puts_then : ℕ → ℕ → List ℕ) (capacity : ℕ)
      → Kept worker change answered stays sees limit held_then queue_then puts_then (start capacity)
  unfolding items_of weigh
  kept_start stays sees limit held_then queue_then puts_then capacity =
      record {
        right = λ x. record { put_most = λ f. omega arith; take_most = λ f small. omega arith; put_done = λ h. absurd (true≢false (sym h)); take_done = λ h. absurd (true≢false (sym h)) };
        unbegun = λ x l. (refl, refl, refl);
        from_le = λ x. omega arith;
        to_less = λ x h. absurd (true≢false (sym h));
        short = λ x. omega arith;
        moments = λ x c r more h i u. absurd (true≢false (sym (ap ended i)));
        takings = λ x v more q. absurd (let z : ◌≡◌ {A = ℕ} 0 (suc (length more)) = ap length q in omega (arith, z));
        closed_by = λ h. absurd (true≢false (sym h));
        closed_on = λ still x c h. absurd (true≢false (sym h));
        most = omega arith;
        came_is = λ f n l. total_none f n;
        went_is = λ f n l. total_none f n;
        in_order = refl;
      }

  pub line_is : (s : Story E) (o : Book) → (book_from worker change answered o s).line ≡ followed_from worker change (line_with worker change answered) o.known o.line s
  unfolding book_from followed_from
  line_is [] o = refl
  line_is (Begun w c ∷ s) o = line_is s (book_with worker change answered o (Begun w c))
  line_is (Does e ∷ s) o = line_is s (book_with worker change answered o (Does e))

  module _ (stays sees : Bool) (limit : ℕ) (held : Story E → ℕ) (capacity : ℕ) (s : Story E) where
    abbrev pub book_at : ℕ → Book
    book_at n = book_from worker change answered (start capacity) (take n s)

    abbrev pub held_then : ℕ → ℕ
    held_then n = held (take n s)

    abbrev pub queue_then : ℕ → Queue
    queue_then n = (book_at n).known.queue

    abbrev pub puts_then : ℕ → ℕ → List ℕ
    puts_then n = (book_at n).puts

    -- Room that is held: by a call that has taken so much out and has not answered.
    abbrev pub Holds : ℕ → Type 0
    Holds n = (held_then n ≡ 0) ⊎ ((z : ℕ) × (z < (book_at n).known.count) × (ended ((book_at n).line z).reply ≡ false) × (held_then n ≤ weigh any ((book_at n).takes z)))

    module _ (roomy : 0 < limit) (along : Along worker change answered stays sees limit held_then queue_then puts_then (start capacity) s) (holding : (n : ℕ) → Holds n) where
      abbrev whole : Book
      whole = book_from worker change answered (start capacity) s

      abbrev l : Log
      l = record { size = length s; line = whole.line }

      kept : (n : ℕ) → Kept worker change answered stays sees limit held_then queue_then puts_then (book_at n)
      kept n = kept_at stays sees limit held_then queue_then puts_then n s (start capacity) along (kept_start stays sees limit held_then queue_then puts_then capacity)

      end : Kept worker change answered stays sees limit held_then queue_then puts_then whole
      end = kept_end stays sees limit held_then queue_then puts_then s (start capacity) along (kept_start stays sees limit held_then queue_then puts_then capacity)

      later : (n : ℕ) → Later (book_at n) whole
      later n = later_end stays sees limit held_then queue_then puts_then n s (start capacity) along (kept_start stays sees limit held_then queue_then puts_then capacity)

      on : (n m : ℕ) → n ≤ m → Later (book_at n) (book_at m)
      on n m h = later_at stays sees limit held_then queue_then puts_then n m s (start capacity) along (kept_start stays sees limit held_then queue_then puts_then capacity) h

      long : whole.known.count ≡ length s
      long = count_end stays sees limit held_then queue_then puts_then s (start capacity) ∙ omega arith

      few : (n : ℕ) → (book_at n).known.count ≤ n
      few n = omega (arith, count_most stays sees limit held_then queue_then puts_then n s (start capacity))

      within : (n : ℕ) → (book_at n).known.count ≤ length s
      within n = omega (arith, (later n).counts, long)

      -- a call that answered before time n had answered then
      by_then : (n x : ℕ) → ended (whole.line x).reply ≡ true → (whole.line x).to < n → ended ((book_at n).line x).reply ≡ true
      by_then n x h i = go (ended ((book_at n).line x).reply) refl (count_by stays sees limit held_then queue_then puts_then n s (start capacity))
        where
          go : (t : Bool) → ended ((book_at n).line x).reply ≡ t → (0 + n ≤ (book_at n).known.count) ⊎ (whole.known.count ≤ (book_at n).known.count) → t ≡ true
          go true d q = refl
          go false d (inl q) = absurd (omega (arith, q, i, (later n).since x d h))
          go false d (inr q) = absurd (omega (arith, q, end.to_less x h, (later n).since x d h))

      less : (f : ℕ → ℕ) (a b more : List ℕ) → b ≡ a ++ more → weigh f a ≤ weigh f b
      less f a b more q = omega (arith, ap (weigh f) q, weigh_append f a more)

      in_few : (back x : List ℕ) → weigh any (unless back x) ≤ weigh any x
      in_few [] x = omega arith
      in_few (y ∷ back) x = omega (arith, weigh_none any)

      swaps_go : (n y v : ℕ) → handed_out (whole.line y) ≡ v ∷ [] → ended (whole.line y).reply ≡ true → (z : ℕ) → weigh any ((book_at n).puts y) ≡ z
          → weigh any ((book_at n).puts y) ≤ weigh any ((book_at n).takes y)
      swaps_go n y v out h zero q = omega (arith, q)
      swaps_go n y v out h (suc z) q =
          omega (
            arith,
            ap (weigh any) (sym ((later n).stuck y (omega (arith, q))) ∙ (end.right y).take_done h ∙ out),
            weigh_one any v,
            less any ((book_at n).puts y) (whole.puts y) ((later n).puts y).0 ((later n).puts y).1,
            (end.right y).put_most any,
            in_few (meaning_of given_back (whole.line y).reply) (items_of (whole.line y).calls),
            end.short y,
          )

      out_ended : (r : List Reply) (v : ℕ) → meaning_of taken_by r ≡ v ∷ [] → ended r ≡ true
      out_ended [] v h = absurd (let q : ◌≡◌ {A = ℕ} 0 1 = ap length h in omega (arith, q))
      out_ended (r ∷ more) v h = refl

      held_on : (n : ℕ) → Holds n → (held_then n ≡ 0) ⊎ ((z : ℕ) × (z < length s) × (held_then n ≤ weigh any ((book_at n).takes z)) × (ended (whole.line z).reply ≡ true → n ≤ (whole.line z).to))
      held_on n (inl e) = inl e
      held_on n (inr h) = inr (h.0, omega (arith, h.1, within n), h.3, λ e. go e (count_by stays sees limit held_then queue_then puts_then n s (start capacity)))
        where
          go : ended (whole.line h.0).reply ≡ true → (0 + n ≤ (book_at n).known.count) ⊎ (whole.known.count ≤ (book_at n).known.count) → n ≤ (whole.line h.0).to
          go e (inl q) = omega (arith, q, (later n).since h.0 h.2 e)
          go e (inr q) = absurd (omega (arith, q, end.to_less h.0 e, (later n).since h.0 h.2 e))

      pub account : Account limit stays sees l
      unfolding book_from
      account =
          record {
            roomy = roomy;
            queue = queue_then;
            held = held_then;
            came = λ n. (book_at n).came;
            went = λ n. (book_at n).went;
            puts = puts_then;
            takes = λ n. (book_at n).takes;
            in_order = λ n. (kept n).in_order;
            came_on = λ n m h. (on n m h).came;
            went_on = λ n m h. (on n m h).went;
            came_is = λ f n. (kept n).came_is f (length s) (within n);
            went_is = λ f n. (kept n).went_is f (length s) (within n);
            put_late = λ n x h. ((kept n).unbegun x (omega (arith, few n, h, end.from_le x))).0;
            take_late = λ n x h. ((kept n).unbegun x (omega (arith, few n, h, end.from_le x))).1;
            put_most = λ f n x i. omega (arith, less f ((book_at n).puts x) (whole.puts x) ((later n).puts x).0 ((later n).puts x).1, (end.right x).put_most f);
            take_most = λ f small n x i. omega (arith, less f ((book_at n).takes x) (whole.takes x) ((later n).takes x).0 ((later n).takes x).1, (end.right x).take_most f small);
            put_done = λ n x i h j. sym ((later n).done x (by_then n x h j)).1 ∙ (end.right x).put_done h;
            take_done = λ n x i h j. sym ((later n).done x (by_then n x h j)).2 ∙ (end.right x).take_done h;
            end = length s;
            all_by = λ x i h. omega (arith, end.to_less x h, long);
            holds = λ n. held_on n (holding n);
            moment = λ y c r i a b u. end.moments y c r [] a b u;
            taking =
                λ y v i out.
                let h = out_ended (whole.line y).reply v out in
                let t = end.takings y v [] ((end.right y).take_done h ∙ out) in
                (t.0, t.1, t.2, t.4 h, t.5, t.6);
            swaps = λ n y v i out. swaps_go n y v out (out_ended (whole.line y).reply v out) (weigh any ((book_at n).puts y)) refl;
            most = λ n. (kept n).most;
            closed_by =
                λ n h.
                let t = (kept n).closed_by h in
                let same = ((later n).done t.0 (ap ended t.3)).0 in
                (t.0, omega (arith, t.1, within n), ap (λ (z : Line). z.calls) same ∙ t.2, ap (λ (z : Line). z.reply) same ∙ t.3, omega (arith, end.from_le t.0, t.1, few n));
            closed_on =
                λ still n x i c h j.
                let then = by_then n x h j in
                (kept n).closed_on still x (ap (λ (z : Line). z.calls) (sym ((later n).done x then).0) ∙ c) then;
          }

      pub shows_none : NeverShown limit stays sees (log_of worker change answered capacity s)
      shows_none =
          subst (λ (z : ℕ → Line). NeverShown limit stays sees (record { size = length s; line = z })) (line_is s (start capacity)) (never_shown limit stays sees l account)
