-- The same by what is said of a story: at each of its acts, of what is known before it.
use Prim.Native.Nat.{ℕ, zero, suc, ◌+◌, ◌≤◌, ◌<◌}
use native.Mathlib.Omega.{arith}
use native.Mathlib.Decide.{ℕ_discrete}
use mathlib.Core.Bool.{Bool, true, false, cond, not, true≢false}
use mathlib.Core.List.{List, [], ◌∷◌, ◌++◌, append-nil, append_assoc}
use mathlib.Core.Logic.{◌≢◌, ◌⊎◌, inl, inr}
use mathlib.Core.Path.{◌≡◌, refl, sym, ap, ◌∙◌, subst}
use lib.Dec.{eqb}
use lib.ListN.{length, take, drop}
use borrow.Author.Tests.{eq-eqb, ne_eqb}
use Rattle.queue_entries.specs.declared.Call.{Call}
use Rattle.queue_entries.specs.declared.Call.TheVariants.{Push, ForcePush, Pop, Len, IsEmpty, IsFull, Close, IsClosed}
use Rattle.queue_plain.specs.Plain.{Queue, Reply, Yes, answer_of, taken_by, given_back, put_by, full_of, front_of, yes_if}
use Rattle.queue_plain.specs.Plain as plain
use Rattle.queue_plain.specs.Story.{Element, Begun, Does, Story, Change, Doing, Known, fresh, beginning, doing_with, items_of, known_with, known_from, known, queue_at, followed_from}
use Rattle.queue_plain.proofs.Stories.{followed_end, take_whole}
use Rattle.queue_logs.specs.Logs.{Line, NeverShown, weigh, any, ended, unless, taker, begins, answers, log_of}
use Rattle.queue_logs.proofs.Account.{AskedOf, unread}
use Rattle.queue_logs.proofs.Working.{same_call, split_at}
use Rattle.queue_logs.proofs.Book.{Book, in_now, out_now, book_with, book_from, Fact, Along, Asked, Kept, upd_same, upd_else}
use Rattle.queue_logs.proofs.Whole.{start, step, kept_start, held_then, queue_then, puts_then, Holds, shows_none}

-- what an answer means that a plain queue gives to this call: its item is in unless it is given back
pub put_is : (q : Queue) (c : Call) → put_by (items_of (c ∷ [])) (answer_of q c) ≡ unless (given_back (answer_of q c)) (items_of (c ∷ []))
unfolding items_of
put_is q (Push x) = go q.closed (full_of q)
  where
    go : (a b : Bool) → put_by (x ∷ []) (cond a (plain.Closed x) (cond b (plain.Full x) plain.Pushed)) ≡ unless (given_back (cond a (plain.Closed x) (cond b (plain.Full x) plain.Pushed))) (x ∷ [])
    go true b = refl
    go false true = refl
    go false false = refl
put_is q (ForcePush x) = go q.closed (full_of q) q.items
  where
    go : (a b : Bool) (i : List ℕ)
        → put_by (x ∷ []) (cond a (plain.Closed x) (cond b (front_of plain.Displaced plain.Pushed i) plain.Pushed)) ≡ unless
        (given_back (cond a (plain.Closed x) (cond b (front_of plain.Displaced plain.Pushed i) plain.Pushed))) (x ∷ [])
    go true b i = refl
    go false true [] = refl
    go false true (v ∷ i) = refl
    go false false i = refl
put_is q Pop = go q.closed q.items
  where
    go : (a : Bool) (i : List ℕ) → put_by [] (front_of plain.Popped (cond a plain.EmptyAndClosed plain.Empty) i) ≡ unless
        (given_back (front_of plain.Popped (cond a plain.EmptyAndClosed plain.Empty) i)) []
    go true [] = refl
    go false [] = refl
    go a (v ∷ i) = refl
put_is q Len = refl
put_is q IsEmpty = go (eqb (length q.items) 0)
  where
    go : (a : Bool) → put_by [] (yes_if a) ≡ unless (given_back (yes_if a)) []
    go true = refl
    go false = refl
put_is q IsFull = go (full_of q)
  where
    go : (a : Bool) → put_by [] (yes_if a) ≡ unless (given_back (yes_if a)) []
    go true = refl
    go false = refl
put_is q Close = go q.closed
  where
    go : (a : Bool) → put_by [] (cond a plain.No plain.Yes) ≡ unless (given_back (cond a plain.No plain.Yes)) []
    go true = refl
    go false = refl
put_is q IsClosed = go q.closed
  where
    go : (a : Bool) → put_by [] (yes_if a) ≡ unless (given_back (yes_if a)) []
    go true = refl
    go false = refl

put_nothing : (r : Reply) → put_by [] r ≡ unless (given_back r) []
put_nothing plain.Pushed = refl
put_nothing plain.Empty = refl
put_nothing plain.EmptyAndClosed = refl
put_nothing plain.Yes = refl
put_nothing plain.No = refl
put_nothing (plain.Full x) = refl
put_nothing (plain.Closed x) = refl
put_nothing (plain.Displaced v) = refl
put_nothing (plain.Popped v) = refl
put_nothing (plain.Count n) = refl

put_unread : (sees : Bool) (c : Call) (r : Reply) → unread sees c r ≡ true → put_by (items_of (c ∷ [])) r ≡ unless (given_back r) (items_of (c ∷ []))
unfolding items_of
put_unread sees (Push x) r u = absurd (true≢false (sym u))
put_unread sees (ForcePush x) r u = absurd (true≢false (sym u))
put_unread sees Pop r u = put_nothing r
put_unread sees Len r u = put_nothing r
put_unread sees IsEmpty r u = put_nothing r
put_unread sees IsFull r u = put_nothing r
put_unread sees Close r u = put_nothing r
put_unread sees IsClosed r u = put_nothing r

take_front : {A : Type 0} (n : ℕ) (a b : List A) → n ≤ length a → take n (a ++ b) ≡ take n a
take_front zero a b h = refl
take_front (suc n) [] b h = absurd (omega (arith, h))
take_front (suc n) (x ∷ a) b h = ap (λ (z : List _). x ∷ z) (take_front n a b (omega (arith, h)))

module _ {E : Type 0} (worker : E → ℕ) (change : E → Change) (answered : E → List Reply) (stays sees : Bool) (limit : ℕ) (held : Story E → ℕ) (capacity : ℕ) where
  abbrev pub before : Story E → Known
  before = known worker change capacity

  -- of the act's call, with the act
  abbrev pub puts_with : Story E → E → List ℕ
  puts_with s e = ((before s).each (worker e)).puts ++ cond (change e).puts (items_of ((before s).each (worker e)).calls) []

  abbrev pub takes_with : Story E → E → List ℕ
  takes_with s e = ((before s).each (worker e)).takes ++ cond (change e).takes (take 1 (before s).queue.items) []

  -- Whether worker w's latest call is under way: it has begun, and none of its acts since has answered.
  abbrev pub busy_with : ℕ → Known → Bool → Element E → Bool
  busy_with w k was (Begun v c) = cond (eqb w v) true was
  busy_with w k was (Does e) = cond (eqb w (worker e)) (not (ended (answered e))) was

  abbrev pub busy_in : ℕ → Story E → Bool
  busy_in w s = followed_from worker change (busy_with w) (fresh capacity) false s

  -- What is to be said of each act, after the story `earlier`.
  pub record Accounted (earlier : Story E) (e : E) : Type 0 where
    pub call : Call
    pub calls : ((before earlier).each (worker e)).calls ≡ call ∷ []
    pub under_way : busy_in (worker e) earlier ≡ true
    -- while it has not, it has put in at most its item, and taken out at most one, if it is a pop or a force_push
    pub not_yet : answered e ≡ [] → ((f : ℕ → ℕ) → weigh f (puts_with earlier e) ≤ weigh f (items_of (call ∷ [])))
        × ((f : ℕ → ℕ) → ((v : ℕ) → f v ≤ 1) → weigh f (takes_with earlier e) ≤ taker (call ∷ []))
    -- `Meant` and `Answered`
    pub meant : (r : Reply) (more : List Reply) → answered e ≡ r ∷ more → (puts_with earlier e ≡ put_by (items_of (call ∷ [])) r) × (takes_with earlier e ≡ taken_by r)
    pub moment : (r : Reply) (more : List Reply) → answered e ≡ r ∷ more → unread sees call r ≡ false
        → (n : ℕ) × (((before earlier).each (worker e)).begun < n) × (n ≤ length earlier) × AskedOf limit (held (take n earlier)) (queue_at worker change capacity n earlier) call r
    -- a call takes out before it puts in
    pub first : (change e).takes ≡ true → ((before earlier).each (worker e)).puts ≡ []
    pub closing : (change e).closes ≡ true → (before earlier).queue.closed ≡ false → (call ≡ Close) × (answered e ≡ Yes ∷ [])
    pub shut : (r : Reply) (more : List Reply) → call ≡ Close → answered e ≡ r ∷ more → (known_with worker change (before earlier) (Does e)).queue.closed ≡ true
    pub unopened : stays ≡ true → (change e).opens ≡ false
    pub fits : length (known_with worker change (before earlier) (Does e)).queue.items ≤ limit

  -- Room that is held after it: by a worker whose call is under way and has taken so much out.
  abbrev pub HeldBy : Story E → Type 0
  HeldBy earlier = (held earlier ≡ 0) ⊎ ((w : ℕ) × (busy_in w earlier ≡ true) × (held earlier ≤ weigh any ((before earlier).each w).takes))

  abbrev with : Book → Element E → Book
  with = book_with worker change answered

  abbrev book : Story E → Book
  book = book_from worker change answered (start worker change answered capacity)

  book_end : (a : Story E) (x : Element E) (o : Book) → book_from worker change answered o (a ++ x ∷ []) ≡ with (book_from worker change answered o a) x
  unfolding book_from
  book_end [] x o = refl
  book_end (y ∷ a) x o = book_end a x (with o y)

  known_is : (a : Story E) (o : Book) → (book_from worker change answered o a).known ≡ known_from worker change o.known a
  unfolding book_from known_from
  known_is [] o = refl
  known_is (Begun w c ∷ a) o = known_is a (with o (Begun w c))
  known_is (Does e ∷ a) o = known_is a (with o (Does e))

  counted : (a : Story E) (o : Book) → (book_from worker change answered o a).known.count ≡ o.known.count + length a
  unfolding book_from
  counted [] o = omega arith
  counted (Begun w c ∷ a) o = omega (arith, counted a (with o (Begun w c)))
  counted (Does e ∷ a) o = omega (arith, counted a (with o (Does e)))

  -- the call that a worker is in is the one of its line
  pub record CurrentBy (o : Book) (w : ℕ) (c : Call) (d : Doing) : Type 0 where
    pub begun : d.begun < o.known.count
    pub whose : (o.line d.begun).worker ≡ w
    pub calls : (o.line d.begun).calls ≡ c ∷ []
    pub puts : o.puts d.begun ≡ d.puts
    pub takes : o.takes d.begun ≡ d.takes

  abbrev Current : Book → ℕ → Call → Type 0
  Current o w c = CurrentBy o w c (o.known.each w)

  abbrev Currents : Book → Type 0
  Currents o = (w : ℕ) (c : Call) → (o.known.each w).calls ≡ c ∷ [] → Current o w c

  module _ (s : Story E) where
    abbrev held_s : ℕ → ℕ
    held_s = held_then worker change answered stays sees limit held capacity s

    abbrev queue_s : ℕ → Queue
    queue_s = queue_then worker change answered stays sees limit held capacity s

    abbrev puts_s : ℕ → ℕ → List ℕ
    puts_s = puts_then worker change answered stays sees limit held capacity s

    abbrev Keeps : Book → Type 0
    Keeps = Kept worker change answered stays sees limit held_s queue_s puts_s

    current_begin : (o : Book) (w : ℕ) (c : Call) → Keeps o → Currents o → Currents (with o (Begun w c))
    current_begin o w c k cur v d h = go (ℕ_discrete v w)
      where
        go : Dec (v ≡ w) → Current (with o (Begun w c)) v d
        go (yes e) =
            let is : (with o (Begun w c)).known.each v ≡ beginning c o.known.count = ap (λ (b : Bool). cond b (beginning c o.known.count) (o.known.each v)) (eq-eqb v w e) in
            let line : (with o (Begun w c)).line o.known.count ≡ begins w c o.known.count = upd_same o.known.count (begins w c o.known.count) o.line in
            let none = k.unbegun o.known.count (omega arith) in
            let same : c ≡ d = same_call c d (ap (λ (z : Doing). z.calls) (sym is) ∙ h) in
            subst (CurrentBy (with o (Begun w c)) v d) (sym is)
            (record {
              begun = omega arith;
              whose = ap (λ (l : Line). l.worker) line ∙ sym e;
              calls = ap (λ (l : Line). l.calls) line ∙ ap (λ (z : Call). z ∷ []) same;
              puts = none.0;
              takes = none.1;
            })
        go (no ne) =
            let is : (with o (Begun w c)).known.each v ≡ o.known.each v = ap (λ (b : Bool). cond b (beginning c o.known.count) (o.known.each v)) (ne_eqb v w ne) in
            let t = cur v d (ap (λ (z : Doing). z.calls) (sym is) ∙ h) in
            let line : (with o (Begun w c)).line (o.known.each v).begun ≡ o.line (o.known.each v).begun =
            upd_else o.known.count _ o.line (o.known.each v).begun (λ q. absurd (omega (arith, q, t.begun))) in
            subst (CurrentBy (with o (Begun w c)) v d) (sym is)
            (record {
              begun = omega (arith, t.begun);
              whose = ap (λ (l : Line). l.worker) line ∙ t.whose;
              calls = ap (λ (l : Line). l.calls) line ∙ t.calls;
              puts = t.puts;
              takes = t.takes;
            })

    module _ (o : Book) (e : E) (call : Call) (its_call : (o.known.each (worker e)).calls ≡ call ∷ []) (cur : Currents o) where
      abbrev b : ℕ
      b = (o.known.each (worker e)).begun

      abbrev mine : Current o (worker e) call
      mine = cur (worker e) call its_call

      kept_worker : (r : List Reply) → (answers o.known.count r (o.line b)).worker ≡ (o.line b).worker
      kept_worker [] = refl
      kept_worker (r ∷ more) = refl

      kept_calls : (r : List Reply) → (answers o.known.count r (o.line b)).calls ≡ (o.line b).calls
      kept_calls [] = refl
      kept_calls (r ∷ more) = refl

      current_act : Currents (with o (Does e))
      current_act v d h = go (ℕ_discrete v (worker e))
        where
          go : Dec (v ≡ worker e) → Current (with o (Does e)) v d
          go (yes q) =
              let is : (with o (Does e)).known.each (worker e) ≡ doing_with (change e) o.known.queue (o.known.each (worker e)) =
              ap (λ (t : Bool). cond t (doing_with (change e) o.known.queue (o.known.each (worker e))) (o.known.each (worker e))) (eq-eqb (worker e) (worker e) refl) in
              let line : (with o (Does e)).line b ≡ answers o.known.count (answered e) (o.line b) = upd_same b _ o.line in
              let same : call ≡ d = same_call call d (sym its_call ∙ ap (λ (z : Doing). z.calls) (sym is) ∙ ap (λ (z : ℕ). ((with o (Does e)).known.each z).calls) (sym q) ∙ h) in
              subst (λ (z : ℕ). Current (with o (Does e)) z d) (sym q)
              (subst (CurrentBy (with o (Does e)) (worker e) d) (sym is)
              (record {
                begun = omega (arith, mine.begun);
                whose = ap (λ (l : Line). l.worker) line ∙ kept_worker (answered e) ∙ mine.whose;
                calls = ap (λ (l : Line). l.calls) line ∙ kept_calls (answered e) ∙ mine.calls ∙ ap (λ (z : Call). z ∷ []) same;
                puts = upd_same b _ o.puts ∙ ap (λ (z : List ℕ). z ++ in_now worker change answered o e) mine.puts;
                takes = upd_same b _ o.takes ∙ ap (λ (z : List ℕ). z ++ out_now worker change answered o e) mine.takes;
              }))
          go (no ne) =
              let is : (with o (Does e)).known.each v ≡ o.known.each v =
              ap (λ (t : Bool). cond t (doing_with (change e) o.known.queue (o.known.each v)) (o.known.each v)) (ne_eqb v (worker e) ne) in
              let t = cur v d (ap (λ (z : Doing). z.calls) (sym is) ∙ h) in
              let far : (o.known.each v).begun ≢ b = λ q. ne (sym t.whose ∙ ap (λ (z : ℕ). (o.line z).worker) q ∙ mine.whose) in
              let line : (with o (Does e)).line (o.known.each v).begun ≡ o.line (o.known.each v).begun = upd_else b _ o.line (o.known.each v).begun far in
              subst (CurrentBy (with o (Does e)) v d) (sym is)
              (record {
                begun = omega (arith, t.begun);
                whose = ap (λ (l : Line). l.worker) line ∙ t.whose;
                calls = ap (λ (l : Line). l.calls) line ∙ t.calls;
                puts = upd_else b _ o.puts (o.known.each v).begun far ∙ t.puts;
                takes = upd_else b _ o.takes (o.known.each v).begun far ∙ t.takes;
              })

    -- a call under way has no answer in its line
    abbrev Opens : Book → (ℕ → Bool) → Type 0
    Opens o busy = (w : ℕ) → busy w ≡ true → (c : Call) × ((o.known.each w).calls ≡ c ∷ []) × ((o.line (o.known.each w).begun).reply ≡ [])

    opens_begin : (o : Book) (w : ℕ) (c : Call) (busy : ℕ → Bool) → Currents o → Opens o busy → Opens (with o (Begun w c)) (λ v. busy_with v o.known (busy v) (Begun w c))
    opens_begin o w c busy cur op v h = go (ℕ_discrete v w)
      where
        go : Dec (v ≡ w) → (d : Call) × (((with o (Begun w c)).known.each v).calls ≡ d ∷ []) × (((with o (Begun w c)).line ((with o (Begun w c)).known.each v).begun).reply ≡ [])
        go (yes e) =
            let is : (with o (Begun w c)).known.each v ≡ beginning c o.known.count = ap (λ (b : Bool). cond b (beginning c o.known.count) (o.known.each v)) (eq-eqb v w e) in (
              c,
              ap (λ (z : Doing). z.calls) is,
              ap (λ (z : Doing). ((with o (Begun w c)).line z.begun).reply) is ∙ ap (λ (l : Line). l.reply) (upd_same o.known.count (begins w c o.known.count) o.line),
            )
        go (no ne) =
            let is : (with o (Begun w c)).known.each v ≡ o.known.each v = ap (λ (b : Bool). cond b (beginning c o.known.count) (o.known.each v)) (ne_eqb v w ne) in
            let t = op v (ap (λ (b : Bool). cond b true (busy v)) (sym (ne_eqb v w ne)) ∙ h) in
            let m = cur v t.0 t.1 in (
              t.0,
              ap (λ (z : Doing). z.calls) is ∙ t.1,
              ap (λ (z : Doing). ((with o (Begun w c)).line z.begun).reply) is
                  ∙ ap (λ (l : Line). l.reply) (upd_else o.known.count _ o.line (o.known.each v).begun (λ q. absurd (omega (arith, q, m.begun)))) ∙ t.2,
            )

    module _ (o : Book) (e : E) (busy : ℕ → Bool) (now : busy (worker e) ≡ true) (cur : Currents o) (op : Opens o busy) where
      abbrev place : ℕ
      place = (o.known.each (worker e)).begun

      still : (r : List Reply) → not (ended r) ≡ true → (answers o.known.count r (o.line place)).reply ≡ (o.line place).reply
      still [] h = refl
      still (r ∷ more) h = absurd (true≢false (sym h))

      opens_act : Opens (with o (Does e)) (λ v. busy_with v o.known (busy v) (Does e))
      opens_act v h = go (ℕ_discrete v (worker e))
        where
          go : Dec (v ≡ worker e) → (d : Call) × (((with o (Does e)).known.each v).calls ≡ d ∷ []) × (((with o (Does e)).line ((with o (Does e)).known.each v).begun).reply ≡ [])
          go (yes q) =
              let is : (with o (Does e)).known.each v ≡ doing_with (change e) o.known.queue (o.known.each v) =
              ap (λ (t : Bool). cond t (doing_with (change e) o.known.queue (o.known.each v)) (o.known.each v)) (eq-eqb v (worker e) q) in
              let mine : not (ended (answered e)) ≡ true = ap (λ (b : Bool). cond b (not (ended (answered e))) (busy v)) (sym (eq-eqb v (worker e) q)) ∙ h in
              let t = op (worker e) now in (
                t.0,
                ap (λ (z : Doing). z.calls) is ∙ ap (λ (z : ℕ). (o.known.each z).calls) q ∙ t.1,
                ap (λ (z : Doing). ((with o (Does e)).line z.begun).reply) is ∙ ap (λ (z : ℕ). ((with o (Does e)).line (o.known.each z).begun).reply) q
                    ∙ ap (λ (l : Line). l.reply) (upd_same place (answers o.known.count (answered e) (o.line place)) o.line) ∙ still (answered e) mine ∙ t.2,
              )
          go (no ne) =
              let is : (with o (Does e)).known.each v ≡ o.known.each v =
              ap (λ (t : Bool). cond t (doing_with (change e) o.known.queue (o.known.each v)) (o.known.each v)) (ne_eqb v (worker e) ne) in
              let t = op v (ap (λ (b : Bool). cond b (not (ended (answered e))) (busy v)) (sym (ne_eqb v (worker e) ne)) ∙ h) in
              let u = op (worker e) now in
              let far : (o.known.each v).begun ≢ place = λ q. ne (sym (cur v t.0 t.1).whose ∙ ap (λ (z : ℕ). (o.line z).worker) q ∙ (cur (worker e) u.0 u.1).whose) in (
                t.0,
                ap (λ (z : Doing). z.calls) is ∙ t.1,
                ap (λ (z : Doing). ((with o (Does e)).line z.begun).reply) is ∙ ap (λ (l : Line). l.reply) (upd_else place _ o.line (o.known.each v).begun far) ∙ t.2,
              )

    -- the fact of an act, by what is told of it
    module _ (earlier later : Story E) (e : E) (split : s ≡ earlier ++ Does e ∷ later) (t : Accounted earlier e) (cur : Currents (book earlier))
        (op : Opens (book earlier) (λ w. busy_in w earlier)) where
      abbrev o : Book
      o = book earlier

      known_here : o.known ≡ before earlier
      known_here = known_is earlier (start worker change answered capacity)

      count_here : o.known.count ≡ length earlier
      count_here = counted earlier (start worker change answered capacity) ∙ omega arith

      its_call : (o.known.each (worker e)).calls ≡ t.call ∷ []
      its_call = ap (λ (k : Known). (k.each (worker e)).calls) known_here ∙ t.calls

      abbrev own : Current o (worker e) t.call
      own = cur (worker e) t.call its_call

      abbrev at : ℕ
      at = (o.known.each (worker e)).begun

      puts_are : o.puts at ++ in_now worker change answered o e ≡ puts_with earlier e
      puts_are =
          ap (λ (z : List ℕ). z ++ in_now worker change answered o e) own.puts
          ∙ ap (λ (k : Known). (k.each (worker e)).puts ++ cond (change e).puts (items_of (k.each (worker e)).calls) []) known_here

      takes_are : o.takes at ++ out_now worker change answered o e ≡ takes_with earlier e
      takes_are =
          ap (λ (z : List ℕ). z ++ out_now worker change answered o e) own.takes
          ∙ ap (λ (k : Known). (k.each (worker e)).takes ++ cond (change e).takes (take 1 k.queue.items) []) known_here

      front_is : (n : ℕ) → n ≤ length earlier → take n s ≡ take n earlier
      front_is n h = ap (take n) split ∙ take_front n earlier (Does e ∷ later) h

      all_is : take o.known.count s ≡ earlier
      all_is = ap (λ (n : ℕ). take n s) count_here ∙ front_is (length earlier) (omega arith) ∙ take_whole earlier

      held_is : (n : ℕ) → n ≤ length earlier → held_s n ≡ held (take n earlier)
      held_is n h = ap held (front_is n h)

      then_is : (n : ℕ) → n ≤ length earlier → queue_s n ≡ queue_at worker change capacity n earlier
      then_is n h =
          ap (λ (z : Story E). (book z).known.queue) (front_is n h) ∙ ap (λ (k : Known). k.queue) (known_is (take n earlier) (start worker change answered capacity))

      shape : (r : Reply) (more : List Reply) → answered e ≡ r ∷ more → (u : Bool) → unread sees t.call r ≡ u → put_by (items_of (t.call ∷ [])) r ≡ unless (given_back r) (items_of (t.call ∷ []))
      shape r more q true u = put_unread sees t.call r u
      shape r more q false u =
          let n = t.moment r more q u in
          subst (λ (z : Reply). put_by (items_of (t.call ∷ [])) z ≡ unless (given_back z) (items_of (t.call ∷ []))) n.3.says (put_is n.3.asked t.call)

      pub fact : Fact worker change answered stays sees limit held_s queue_s puts_s o e
      fact =
          record {
            call = t.call;
            calls = own.calls;
            under_way = (op (worker e) t.under_way).2;
            begun = own.begun;
            not_yet =
                λ q. (
                  (λ f. omega (arith, (t.not_yet q).0 f, ap (weigh f) puts_are)),
                  λ f small. omega (arith, (t.not_yet q).1 f small, ap (weigh f) takes_are),
                );
            ends = λ r more q. (puts_are ∙ (t.meant r more q).0 ∙ shape r more q (unread sees t.call r) refl, takes_are ∙ (t.meant r more q).1);
            moment =
                λ r more q u.
                let n = t.moment r more q u in (
                  n.0,
                  omega (arith, n.1, ap (λ (k : Known). (k.each (worker e)).begun) known_here),
                  omega (arith, n.2, count_here),
                  subst (λ (h : ℕ). AskedOf limit h (queue_s n.0) t.call r) (sym (held_is n.0 n.2))
                      (subst (λ (z : Queue). AskedOf limit (held (take n.0 earlier)) z t.call r) (sym (then_is n.0 n.2)) n.3),
                );
            first = λ q. own.puts ∙ ap (λ (k : Known). (k.each (worker e)).puts) known_here ∙ t.first q;
            closing = λ q h. t.closing q (ap (λ (k : Known). k.queue.closed) (sym known_here) ∙ h);
            shut = λ r more c q. ap (λ (k : Known). (known_with worker change k (Does e)).queue.closed) known_here ∙ t.shut r more c q;
            unopened = t.unopened;
            fits =
                omega (
                  arith,
                  t.fits,
                  ap (λ (k : Known). length (known_with worker change k (Does e)).queue.items) known_here,
                  ap (λ (k : Known). k.queue.capacity) known_here,
                );
            queue_here = ap (λ (z : Story E). (book z).known.queue) all_is;
            puts_here = λ x. ap (λ (z : Story E). (book z).puts x) all_is;
          }

    -- ---- and so the whole

    module _ (told : (earlier later : Story E) (e : E) → s ≡ earlier ++ Does e ∷ later → Accounted earlier e) where
      abbrev Facts : Book → Story E → Type 0
      Facts = Along worker change answered stays sees limit held_s queue_s puts_s

      busy_end : (earlier : Story E) (x : Element E) (w : ℕ) → busy_in w (earlier ++ x ∷ []) ≡ busy_with w (book earlier).known (busy_in w earlier) x
      busy_end earlier x w =
          followed_end worker change (busy_with w) (fresh capacity) false earlier x
          ∙ ap (λ (k : Known). busy_with w k (busy_in w earlier) x) (sym (known_is earlier (start worker change answered capacity)))

      -- as the story goes on
      opens_on : (earlier : Story E) (x : Element E) → Opens (with (book earlier) x) (λ w. busy_with w (book earlier).known (busy_in w earlier) x)
          → Opens (book (earlier ++ x ∷ [])) (λ w. busy_in w (earlier ++ x ∷ []))
      opens_on earlier x op w h =
          subst (λ (z : Book). (c : Call) × ((z.known.each w).calls ≡ c ∷ []) × ((z.line (z.known.each w).begun).reply ≡ [])) (sym (book_end earlier x (start worker change answered capacity)))
          (op w (sym (busy_end earlier x w) ∙ h))

      pub record Stands (earlier : Story E) : Type 0 where
        pub keeps : Keeps (book earlier)
        pub currents : Currents (book earlier)
        pub opens : Opens (book earlier) (λ w. busy_in w earlier)

      one_on : (earlier : Story E) (x : Element E) (rest : Story E) → s ≡ earlier ++ x ∷ rest → Stands earlier
          → Asked worker change answered stays sees limit held_s queue_s puts_s (book earlier) x × Stands (earlier ++ x ∷ [])
      one_on earlier (Begun w c) rest q o =
          let is = book_end earlier (Begun w c) (start worker change answered capacity) in (
            tt,
            record {
              keeps = subst Keeps (sym is) (step worker change answered stays sees limit _ _ _ (book earlier) (Begun w c) tt o.keeps).0;
              currents = subst Currents (sym is) (current_begin (book earlier) w c o.keeps o.currents);
              opens = opens_on earlier (Begun w c) (opens_begin (book earlier) w c (λ v. busy_in v earlier) o.currents o.opens);
            },
          )
      one_on earlier (Does e) rest q o =
          let t = told earlier rest e q in
          let f = fact earlier rest e q t o.currents o.opens in
          let is = book_end earlier (Does e) (start worker change answered capacity) in (
            f,
            record {
              keeps = subst Keeps (sym is) (step worker change answered stays sees limit _ _ _ (book earlier) (Does e) f o.keeps).0;
              currents = subst Currents (sym is) (current_act (book earlier) e t.call (its_call earlier rest e q t o.currents o.opens) o.currents);
              opens = opens_on earlier (Does e) (opens_act (book earlier) e (λ v. busy_in v earlier) t.under_way o.currents o.opens);
            },
          )

      along_from : (rest earlier : Story E) → s ≡ earlier ++ rest → Stands earlier → Facts (book earlier) rest
      along_from [] earlier q o = tt
      along_from (x ∷ rest) earlier q o =
          let n = one_on earlier x rest q o in (
            n.0,
            subst (λ (z : Book). Facts z rest) (book_end earlier x (start worker change answered capacity))
                (along_from rest (earlier ++ x ∷ []) (q ∙ sym (append_assoc earlier (x ∷ []) rest)) n.1),
          )

      stands_from : (n : ℕ) (rest earlier : Story E) → s ≡ earlier ++ rest → Stands earlier → Stands (earlier ++ take n rest)
      stands_from zero rest earlier q o = subst Stands (sym (append-nil earlier)) o
      stands_from (suc n) [] earlier q o = subst Stands (sym (append-nil earlier)) o
      stands_from (suc n) (x ∷ rest) earlier q o =
          subst Stands (append_assoc earlier (x ∷ []) (take n rest)) (stands_from n rest (earlier ++ x ∷ []) (q ∙ sym (append_assoc earlier (x ∷ []) rest)) (one_on earlier x rest q o).1)

      none_yet : Currents (book [])
      unfolding book_from
      none_yet w c h = absurd (let z : ◌≡◌ {A = ℕ} 0 1 = ap length h in omega (arith, z))

      none_open : Opens (book []) (λ w. busy_in w [])
      unfolding book_from followed_from
      none_open w h = absurd (true≢false (sym h))

      none_kept : Keeps (book [])
      unfolding book_from
      none_kept = kept_start worker change answered stays sees limit _ _ _ capacity

      first : Stands []
      first = record { keeps = none_kept; currents = none_yet; opens = none_open }

      -- and room that is held
      module _ (roomy : 0 < limit) (holds : (earlier later : Story E) → s ≡ earlier ++ later → HeldBy earlier) where
        holding : (n : ℕ) → Holds worker change answered stays sees limit held capacity s n
        holding n = go (holds (take n s) (drop n s) (split_at n s))
          where
            go : HeldBy (take n s) → Holds worker change answered stays sees limit held capacity s n
            go (inl e) = inl e
            go (inr h) =
                let o = stands_from n s [] refl first in
                let p = o.opens h.0 h.1 in
                let m = o.currents h.0 p.0 p.1 in
                inr (
                  ((book (take n s)).known.each h.0).begun,
                  m.begun,
                  ap ended p.2,
                  omega (arith, h.2, ap (weigh any) (m.takes ∙ ap (λ (k : Known). (k.each h.0).takes) (known_is (take n s) (start worker change answered capacity)))),
                )

        pub never : NeverShown limit stays sees (log_of worker change answered capacity s)
        unfolding book_from
        never = shows_none worker change answered stays sees limit held capacity s roomy (along_from s [] refl first) holding
