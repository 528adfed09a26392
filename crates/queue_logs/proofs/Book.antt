-- The account of a story, kept element by element.
use Prim.Native.Nat.{ℕ, suc, ◌+◌, ◌≤◌, ◌<◌}
use native.Mathlib.Omega.{arith}
use native.Mathlib.Decide.{ℕ_discrete}
use mathlib.Core.Bool.{Bool, true, false, cond, true≢false}
use mathlib.Core.List.{List, [], ◌∷◌, ◌++◌, append_assoc}
use mathlib.Core.Logic.{◌≢◌}
use mathlib.Core.Path.{◌≡◌, refl, sym, ap, ◌∙◌, subst}
use lib.Dec.{eqb}
use lib.ListN.{length, take, drop}
use borrow.Author.Tests.{eq-eqb, ne_eqb}
use Rattle.queue_entries.specs.declared.Call.{Call}
use Rattle.queue_entries.specs.declared.Call.TheVariants.{Push, ForcePush, Pop, Len, IsEmpty, IsFull, Close, IsClosed}
use Rattle.queue_plain.specs.Plain.{Queue, Reply, Yes, taken_by, given_back, meaning_of}
use Rattle.queue_plain.specs.Story.{Element, Begun, Does, Story, Change, Known, items_of, known_with}
use Rattle.queue_logs.specs.Logs.{Line, total, weigh, any, ended, unless, handed_in, handed_out, may_take, taker, nobody, begins, answers, line_with}
use Rattle.queue_logs.proofs.Account.{AskedOf, unread}
use Rattle.queue_logs.proofs.Sums.{total_same, total_but, weigh_append, weigh_none}
use Rattle.queue_logs.proofs.Working.{same_call, same_reply}

abbrev pub upd : {A : Type 0} → ℕ → A → (ℕ → A) → ℕ → A
upd b a f x = cond (eqb x b) a (f x)

pub upd_same : {A : Type 0} (b : ℕ) (a : A) (f : ℕ → A) → upd b a f b ≡ a
upd_same b a f = ap (λ (t : Bool). cond t a (f b)) (eq-eqb b b refl)

pub upd_else : {A : Type 0} (b : ℕ) (a : A) (f : ℕ → A) (x : ℕ) → x ≢ b → upd b a f x ≡ f x
upd_else b a f x ne = ap (λ (t : Bool). cond t a (f x)) (ne_eqb x b ne)

-- one list of them grows
total_grows : (f : ℕ → ℕ) (g : ℕ → List ℕ) (b : ℕ) (d : List ℕ) (n : ℕ) → b < n
    → total n (λ x. weigh f (upd b (g b ++ d) g x)) ≡ total n (λ x. weigh f (g x)) + weigh f d
total_grows f g b d n l =
    let u : ℕ → ℕ = λ x. weigh f (upd b (g b ++ d) g x) in
    let v : ℕ → ℕ = λ x. weigh f (g x) in
    omega (
      arith,
      total_but n u b l,
      total_but n v b l,
      ap (weigh f) (upd_same b (g b ++ d) g),
      weigh_append f (g b) d,
      total_same n (λ x. cond (eqb x b) 0 (u x)) (λ x. cond (eqb x b) 0 (v x)) (λ x i. even x (eqb x b)),
    )
  where
    even : (x : ℕ) (t : Bool) → cond t 0 (weigh f (cond t (g b ++ d) (g x))) ≡ cond t 0 (weigh f (g x))
    even x true = refl
    even x false = refl

head_n : ℕ → List ℕ → ℕ
head_n d [] = d
head_n d (x ∷ l) = x

same_item : (r q : ℕ) (l k : List ℕ) → r ∷ l ≡ q ∷ k → r ≡ q
unfolding head_n
same_item r q l k e = ap (head_n r) e

open_yet : {P : Type 0} (l : Line) → l.reply ≡ [] → ended l.reply ≡ true → P
open_yet l e h = absurd (true≢false (sym h ∙ ap ended e))

one_item : (c : Call) → weigh any (items_of (c ∷ [])) ≤ 1
unfolding items_of weigh
one_item (Push x) = omega arith
one_item (ForcePush x) = omega arith
one_item Pop = omega arith
one_item Len = omega arith
one_item IsEmpty = omega arith
one_item IsFull = omega arith
one_item Close = omega arith
one_item IsClosed = omega arith

first_of : (l : List ℕ) (v : ℕ) (more : List ℕ) → take 1 l ≡ v ∷ more → (rest : List ℕ) × (l ≡ v ∷ rest)
first_of [] v more e = absurd (let q : ◌≡◌ {A = ℕ} 0 (suc (length more)) = ap length e in omega (arith, q))
first_of (x ∷ l) v more e = (l, ap (λ (z : ℕ). z ∷ l) (same_item x v [] more e))

-- By time n: after the first n elements.
pub record Book : Type 0 where
  pub known : Known
  pub line : ℕ → Line
  pub puts : ℕ → List ℕ
  pub takes : ℕ → List ℕ
  pub came : List ℕ
  pub went : List ℕ

module _ {E : Type 0} (worker : E → ℕ) (change : E → Change) (answered : E → List Reply) where
  abbrev pub its : Book → E → ℕ
  its o e = (o.known.each (worker e)).begun

  abbrev pub in_now : Book → E → List ℕ
  in_now o e = cond (change e).puts (items_of (o.known.each (worker e)).calls) []

  abbrev pub out_now : Book → E → List ℕ
  out_now o e = cond (change e).takes (take 1 o.known.queue.items) []

  abbrev pub book_with : Book → Element E → Book
  book_with o (Begun w c) =
      record {
        known = known_with worker change o.known (Begun w c);
        line = line_with worker change answered o.known o.line (Begun w c);
        puts = o.puts;
        takes = o.takes;
        came = o.came;
        went = o.went;
      }
  book_with o (Does e) =
      record {
        known = known_with worker change o.known (Does e);
        line = line_with worker change answered o.known o.line (Does e);
        puts = upd (its o e) (o.puts (its o e) ++ in_now o e) o.puts;
        takes = upd (its o e) (o.takes (its o e) ++ out_now o e) o.takes;
        came = o.came ++ in_now o e;
        went = o.went ++ out_now o e;
      }

  unfoldable pub book_from : Book → Story E → Book
  book_from o [] = o
  book_from o (x ∷ s) = book_from (book_with o x) s

  module _ (stays sees : Bool) (limit : ℕ) (held_then : ℕ → ℕ) (queue_then : ℕ → Queue) (puts_then : ℕ → ℕ → List ℕ) where
    -- What an act is asked: its call is under way, with what it has put in and taken out as its call and answer mean.
    pub record Fact (o : Book) (e : E) : Type 0 where
      pub call : Call
      pub calls : (o.line (its o e)).calls ≡ call ∷ []
      pub under_way : (o.line (its o e)).reply ≡ []
      pub begun : its o e < o.known.count
      pub not_yet : answered e ≡ [] → ((f : ℕ → ℕ) → weigh f (o.puts (its o e) ++ in_now o e) ≤ weigh f (items_of (call ∷ [])))
          × ((f : ℕ → ℕ) → ((v : ℕ) → f v ≤ 1) → weigh f (o.takes (its o e) ++ out_now o e) ≤ taker (call ∷ []))
      pub ends : (r : Reply) (more : List Reply) → answered e ≡ r ∷ more
          → (o.puts (its o e) ++ in_now o e ≡ unless (given_back r) (items_of (call ∷ []))) × (o.takes (its o e) ++ out_now o e ≡ taken_by r)
      -- at a moment inside it the plain queue answers so
      pub moment : (r : Reply) (more : List Reply) → answered e ≡ r ∷ more → unread sees call r ≡ false → (n : ℕ) × (its o e < n) × (n ≤ o.known.count)
          × AskedOf limit (held_then n) (queue_then n) call r
      -- it takes out before it puts in, and only what waits
      pub first : (change e).takes ≡ true → o.puts (its o e) ≡ []
      -- closed by a close that answers yes; a close that has answered leaves it closed; never opened, where closed stays closed
      pub closing : (change e).closes ≡ true → o.known.queue.closed ≡ false → (call ≡ Close) × (answered e ≡ Yes ∷ [])
      pub shut : (r : Reply) (more : List Reply) → call ≡ Close → answered e ≡ r ∷ more → (known_with worker change o.known (Does e)).queue.closed ≡ true
      pub unopened : stays ≡ true → (change e).opens ≡ false
      pub fits : length (known_with worker change o.known (Does e)).queue.items ≤ limit
      -- and what is told of this time
      pub queue_here : queue_then o.known.count ≡ o.known.queue
      pub puts_here : (x : ℕ) → puts_then o.known.count x ≡ o.puts x

    abbrev pub Asked : Book → Element E → Type 0
    Asked o (Begun w c) = Unit {0}
    Asked o (Does e) = Fact o e

    abbrev pub Along : Book → Story E → Type 0
    Along o [] = Unit {0}
    Along o (x ∷ s) = Asked o x × Along (book_with o x) s

    -- What a call has done is within what its line says.
    pub record Right (o : Book) (x : ℕ) : Type 0 where
      pub put_most : (f : ℕ → ℕ) → weigh f (o.puts x) ≤ weigh f (handed_in (o.line x))
      pub take_most : (f : ℕ → ℕ) → ((v : ℕ) → f v ≤ 1) → weigh f (o.takes x) ≤ may_take f (o.line x)
      pub put_done : ended (o.line x).reply ≡ true → o.puts x ≡ handed_in (o.line x)
      pub take_done : ended (o.line x).reply ≡ true → o.takes x ≡ handed_out (o.line x)

    pub record Kept (o : Book) : Type 0 where
      pub right : (x : ℕ) → Right o x
      pub unbegun : (x : ℕ) → o.known.count ≤ x → (o.puts x ≡ []) × (o.takes x ≡ []) × (o.line x ≡ nobody)
      pub from_le : (x : ℕ) → (o.line x).from ≤ x
      pub to_less : (x : ℕ) → ended (o.line x).reply ≡ true → (o.line x).to < o.known.count
      pub short : (x : ℕ) → weigh any (items_of (o.line x).calls) ≤ 1
      pub moments : (x : ℕ) (c : Call) (r : Reply) (more : List Reply) → (o.line x).calls ≡ c ∷ [] → (o.line x).reply ≡ r ∷ more → unread sees c r ≡ false
          → (n : ℕ) × ((o.line x).from < n) × (n ≤ (o.line x).to) × AskedOf limit (held_then n) (queue_then n) c r
      pub takings : (x v : ℕ) (more : List ℕ) → o.takes x ≡ v ∷ more
          → (n : ℕ) × (rest : List ℕ) × ((o.line x).from < n) × (n < o.known.count) × (ended (o.line x).reply ≡ true → n ≤ (o.line x).to) × ((queue_then n).items ≡ v ∷ rest) × (puts_then n x ≡ [])
      pub closed_by : o.known.queue.closed ≡ true → (x : ℕ) × (x < o.known.count) × ((o.line x).calls ≡ Close ∷ []) × ((o.line x).reply ≡ Yes ∷ [])
      pub closed_on : stays ≡ true → (x : ℕ) → (o.line x).calls ≡ Close ∷ [] → ended (o.line x).reply ≡ true → o.known.queue.closed ≡ true
      pub most : length o.known.queue.items ≤ limit
      pub came_is : (f : ℕ → ℕ) (n : ℕ) → o.known.count ≤ n → weigh f o.came ≡ total n (λ x. weigh f (o.puts x))
      pub went_is : (f : ℕ → ℕ) (n : ℕ) → o.known.count ≤ n → weigh f o.went ≡ total n (λ x. weigh f (o.takes x))
      pub in_order : o.came ≡ o.went ++ o.known.queue.items

    -- of a line that is not its act's
    right_same : (o u : Book) (x : ℕ) → u.line x ≡ o.line x → u.puts x ≡ o.puts x → u.takes x ≡ o.takes x → Right o x → Right u x
    right_same o u x a b c r =
        record {
          put_most = λ f. omega (arith, ap (weigh f) b, ap (λ (z : Line). weigh f (handed_in z)) a, r.put_most f);
          take_most = λ f small. omega (arith, ap (weigh f) c, ap (λ (z : Line). may_take f z) a, r.take_most f small);
          put_done = λ e. b ∙ r.put_done (ap (λ (z : Line). ended z.reply) (sym a) ∙ e) ∙ ap handed_in (sym a);
          take_done = λ e. c ∙ r.take_done (ap (λ (z : Line). ended z.reply) (sym a) ∙ e) ∙ ap handed_out (sym a);
        }

    -- of a line that is this
    right_is : (u : Book) (x : ℕ) (l : Line) (p t : List ℕ) → u.line x ≡ l → u.puts x ≡ p → u.takes x ≡ t
        → ((f : ℕ → ℕ) → weigh f p ≤ weigh f (handed_in l)) → ((f : ℕ → ℕ) → ((v : ℕ) → f v ≤ 1) → weigh f t ≤ may_take f l)
        → (ended l.reply ≡ true → p ≡ handed_in l) → (ended l.reply ≡ true → t ≡ handed_out l) → Right u x
    right_is u x l p t a b c most-in most-out done-in done-out =
        record {
          put_most = λ f. omega (arith, ap (weigh f) b, ap (λ (z : Line). weigh f (handed_in z)) a, most-in f);
          take_most = λ f small. omega (arith, ap (weigh f) c, ap (λ (z : Line). may_take f z) a, most-out f small);
          put_done = λ e. b ∙ done-in (ap (λ (z : Line). ended z.reply) (sym a) ∙ e) ∙ ap handed_in (sym a);
          take_done = λ e. c ∙ done-out (ap (λ (z : Line). ended z.reply) (sym a) ∙ e) ∙ ap handed_out (sym a);
        }

    front : (b : Bool) (l : List ℕ) → l ≡ cond b (take 1 l) [] ++ cond b (drop 1 l) l
    front true [] = refl
    front true (x ∷ l) = refl
    front false l = refl

    module _ (o : Book) (e : E) (a : Fact o e) (k : Kept o) where
      abbrev b : ℕ
      b = its o e

      abbrev after : List Reply → Line
      after r = answers o.known.count r (o.line b)

      own : (r : List Reply) → answered e ≡ r → Right (book_with o (Does e)) b
      own [] q =
          let is : handed_in (o.line b) ≡ items_of (a.call ∷ []) = ap (λ (z : List Reply). unless (meaning_of given_back z) (items_of (o.line b).calls)) a.under_way ∙ ap items_of a.calls in
          let may : (f : ℕ → ℕ) → may_take f (o.line b) ≡ taker (a.call ∷ []) =
          λ f. ap (λ (z : List Reply). cond (ended z) (weigh f (meaning_of taken_by z)) (taker (o.line b).calls)) a.under_way ∙ ap taker a.calls in
          let open_yet : ended (o.line b).reply ≡ true → ⊥ = λ h. true≢false (sym h ∙ ap ended a.under_way) in
          right_is (book_with o (Does e)) b (o.line b) (o.puts b ++ in_now o e) (o.takes b ++ out_now o e) (upd_same b (after (answered e)) o.line ∙ ap after q)
          (upd_same b (o.puts b ++ in_now o e) o.puts) (upd_same b (o.takes b ++ out_now o e) o.takes) (λ f. omega (arith, (a.not_yet q).0 f, ap (weigh f) is))
          (λ f small. omega (arith, (a.not_yet q).1 f small, may f)) (λ h. absurd (open_yet h)) (λ h. absurd (open_yet h))
      own (r ∷ more) q =
          let said = a.ends r more q in
          let is : o.puts b ++ in_now o e ≡ handed_in (after (r ∷ more)) = said.0 ∙ ap (λ (z : List Call). unless (given_back r) (items_of z)) (sym a.calls) in
          right_is (book_with o (Does e)) b (after (r ∷ more)) (o.puts b ++ in_now o e) (o.takes b ++ out_now o e) (upd_same b (after (answered e)) o.line ∙ ap after q)
          (upd_same b (o.puts b ++ in_now o e) o.puts) (upd_same b (o.takes b ++ out_now o e) o.takes) (λ f. omega (arith, ap (weigh f) is))
          (λ f small. omega (arith, ap (weigh f) said.1)) (λ h. is) (λ h. said.1)

      go : (x : ℕ) → Dec (x ≡ its o e) → Right (book_with o (Does e)) x
      go x (yes d) = subst (λ (z : ℕ). Right (book_with o (Does e)) z) (sym d) (own (answered e) refl)
      go x (no ne) = right_same o (book_with o (Does e)) x (upd_else b _ o.line x ne) (upd_else b _ o.puts x ne) (upd_else b _ o.takes x ne) (k.right x)

      order : o.came ++ in_now o e ≡ (o.went ++ out_now o e) ++ (cond (change e).takes (drop 1 o.known.queue.items) o.known.queue.items ++ in_now o e)
      order =
          ap (λ (z : List ℕ). z ++ in_now o e) (k.in_order ∙ ap (λ (z : List ℕ). o.went ++ z) (front (change e).takes o.known.queue.items)
          ∙ sym (append_assoc o.went (out_now o e) (cond (change e).takes (drop 1 o.known.queue.items) o.known.queue.items)))
          ∙ append_assoc (o.went ++ out_now o e) (cond (change e).takes (drop 1 o.known.queue.items) o.known.queue.items) (in_now o e)

      line_own : (book_with o (Does e)).line b ≡ after (answered e)
      line_own = upd_same b (after (answered e)) o.line

      line_else : (x : ℕ) → x ≢ b → (book_with o (Does e)).line x ≡ o.line x
      line_else x ne = upd_else b _ o.line x ne

      each : (Q : ℕ → Line → Type 0) → Q b (after (answered e)) → ((x : ℕ) → x ≢ b → Q x (o.line x)) → (x : ℕ) → Q x ((book_with o (Does e)).line x)
      each Q own others x = pick (ℕ_discrete x b)
        where
          pick : Dec (x ≡ b) → Q x ((book_with o (Does e)).line x)
          pick (yes d) = subst (λ (z : ℕ). Q z ((book_with o (Does e)).line z)) (sym d) (subst (Q b) (sym line_own) own)
          pick (no ne) = subst (Q x) (sym (line_else x ne)) (others x ne)

      own_from : (r : List Reply) → (after r).from ≤ b
      own_from [] = k.from_le b
      own_from (r ∷ more) = k.from_le b

      own_to : (r : List Reply) → ended (after r).reply ≡ true → (after r).to < o.known.count + 1
      own_to [] h = open_yet (o.line b) a.under_way h
      own_to (r ∷ more) h = omega arith

      own_short : (r : List Reply) → weigh any (items_of (after r).calls) ≤ 1
      own_short [] = k.short b
      own_short (r ∷ more) = k.short b

      own_moment : (s : List Reply) → answered e ≡ s → (c : Call) (r : Reply) (more : List Reply) → (after s).calls ≡ c ∷ [] → (after s).reply ≡ r ∷ more → unread sees c r ≡ false
          → (n : ℕ) × ((after s).from < n) × (n ≤ (after s).to) × AskedOf limit (held_then n) (queue_then n) c r
      own_moment [] q c r more h i d = open_yet (o.line b) a.under_way (ap ended i)
      own_moment (z ∷ zs) q c r more h i d =
          let same : a.call ≡ c = same_call a.call c (sym a.calls ∙ h) in
          let said : z ≡ r = same_reply z r [] more i in
          let t = a.moment z zs q (ap (λ (y : Call). unread sees y z) same ∙ ap (unread sees c) said ∙ d) in (
            t.0,
            omega (arith, t.1, k.from_le b),
            t.2,
            subst (AskedOf limit (held_then t.0) (queue_then t.0) c) said
                (subst (λ (y : Call). AskedOf limit (held_then t.0) (queue_then t.0) y z) same t.3),
          )

      abbrev next_queue : Queue
      next_queue = (book_with o (Does e)).known.queue

      own_shut : (s : List Reply) → answered e ≡ s → (after s).calls ≡ Close ∷ [] → ended (after s).reply ≡ true → next_queue.closed ≡ true
      own_shut [] q c h = open_yet (o.line b) a.under_way h
      own_shut (z ∷ zs) q c h = a.shut z zs (same_call a.call Close (sym a.calls ∙ c)) q

      closed_stays : stays ≡ true → (t : Bool) → o.known.queue.closed ≡ true → cond t true (cond (change e).opens false o.known.queue.closed) ≡ true
      closed_stays still true h = refl
      closed_stays still false h = ap (λ (z : Bool). cond z false o.known.queue.closed) (a.unopened still) ∙ h

      abbrev Closer : Type 0
      Closer = (x : ℕ) × (x < o.known.count + 1) × (((book_with o (Does e)).line x).calls ≡ Close ∷ []) × (((book_with o (Does e)).line x).reply ≡ Yes ∷ [])

      closed_yet : o.known.queue.closed ≡ true → Closer
      closed_yet h =
          let t = k.closed_by h in
          let ne : t.0 ≢ b = λ d. open_yet (o.line b) a.under_way (ap (λ (z : ℕ). ended (o.line z).reply) (sym d) ∙ ap ended t.3) in
          (t.0, omega (arith, t.1), ap (λ (l : Line). l.calls) (line_else t.0 ne) ∙ t.2, ap (λ (l : Line). l.reply) (line_else t.0 ne) ∙ t.3)

      closed_now : (change e).closes ≡ true → (was : Bool) → o.known.queue.closed ≡ was → Closer
      closed_now q true h = closed_yet h
      closed_now q false h =
          let t = a.closing q h in
          let is : (book_with o (Does e)).line b ≡ after (Yes ∷ []) = line_own ∙ ap after t.1 in
          (b, omega (arith, a.begun), ap (λ (l : Line). l.calls) is ∙ a.calls ∙ ap (λ (z : Call). z ∷ []) t.0, ap (λ (l : Line). l.reply) is)

      closed_go : (t : Bool) → (change e).closes ≡ t → (u : Bool) → cond t true (cond u false o.known.queue.closed) ≡ true → Closer
      closed_go true q u h = closed_now q o.known.queue.closed refl
      closed_go false q true h = absurd (true≢false (sym h))
      closed_go false q false h = closed_yet h

      abbrev Taking : ℕ → ℕ → Line → Type 0
      Taking x v l =
          (n : ℕ) × (rest : List ℕ) × (l.from < n) × (n < o.known.count + 1) × (ended l.reply ≡ true → n ≤ l.to) × ((queue_then n).items ≡ v ∷ rest) × (puts_then n x ≡ [])

      -- at time n, up to now
      own_taking : (v n : ℕ) (rest : List ℕ) → (o.line b).from < n → n ≤ o.known.count → (queue_then n).items ≡ v ∷ rest → puts_then n b ≡ [] → (r : List Reply) → Taking b v (after r)
      own_taking v n rest h i q p [] = (n, rest, h, omega (arith, i), (λ d. open_yet (o.line b) a.under_way d), q, p)
      own_taking v n rest h i q p (r ∷ more) = (n, rest, h, omega (arith, i), (λ d. i), q, p)

      take_own : (v : ℕ) (more was : List ℕ) → o.takes b ≡ was → was ++ out_now o e ≡ v ∷ more → Taking b v (after (answered e))
      take_own v more [] d q = taken (change e).takes refl q
        where
          taken : (t : Bool) → (change e).takes ≡ t → cond t (take 1 o.known.queue.items) [] ≡ v ∷ more → Taking b v (after (answered e))
          taken false c h = absurd (let z : ◌≡◌ {A = ℕ} 0 (suc (length more)) = ap length h in omega (arith, z))
          taken true c h =
              let w = first_of o.known.queue.items v more h in
              own_taking v o.known.count w.0 (omega (arith, k.from_le b, a.begun)) (omega arith) (ap (λ (z : Queue). z.items) a.queue_here ∙ w.1)
              (a.puts_here b ∙ a.first c) (answered e)
      take_own v more (y ∷ ys) d q =
          let t = k.takings b y ys d in
          own_taking v t.0 t.1 t.2 (omega (arith, t.3)) (t.5 ∙ ap (λ (z : ℕ). z ∷ t.1) (same_item y v (ys ++ out_now o e) more q)) t.6 (answered e)

      take_go : (x v : ℕ) (more : List ℕ) → (book_with o (Does e)).takes x ≡ v ∷ more → Dec (x ≡ b) → Taking x v ((book_with o (Does e)).line x)
      take_go x v more q (yes d) =
          subst (λ (z : ℕ). Taking z v ((book_with o (Does e)).line z)) (sym d)
          (subst (Taking b v) (sym line_own)
          (take_own v more (o.takes b) refl (sym (upd_same b (o.takes b ++ out_now o e) o.takes) ∙ ap (book_with o (Does e)).takes (sym d) ∙ q)))
      take_go x v more q (no ne) =
          let t = k.takings x v more (sym (upd_else b _ o.takes x ne) ∙ q) in
          subst (Taking x v) (sym (line_else x ne)) (t.0, t.1, t.2, omega (arith, t.3), t.4, t.5, t.6)

      pub kept_act : Kept (book_with o (Does e))
      kept_act =
          record {
            right = λ x. go x (ℕ_discrete x (its o e));
            unbegun =
                λ x l.
                let ne : x ≢ its o e = λ q. absurd (omega (arith, q, l, a.begun)) in
                let was = k.unbegun x (omega (arith, l)) in
                (upd_else (its o e) _ o.puts x ne ∙ was.0, upd_else (its o e) _ o.takes x ne ∙ was.1, line_else x ne ∙ was.2);
            from_le = each (λ x l. l.from ≤ x) (own_from (answered e)) (λ x ne. k.from_le x);
            to_less = each (λ x l. ended l.reply ≡ true → l.to < o.known.count + 1) (own_to (answered e)) (λ x ne h. omega (arith, k.to_less x h));
            short = each (λ x l. weigh any (items_of l.calls) ≤ 1) (own_short (answered e)) (λ x ne. k.short x);
            moments =
                each (λ x l. (c : Call) (r : Reply) (more : List Reply) → l.calls ≡ c ∷ [] → l.reply ≡ r ∷ more → unread sees c r ≡ false → (n : ℕ)
                × (l.from < n) × (n ≤ l.to) × AskedOf limit (held_then n) (queue_then n) c r)
                (own_moment (answered e) refl) (λ x ne. k.moments x);
            takings = λ x v more q. take_go x v more q (ℕ_discrete x b);
            closed_by = λ h. closed_go (change e).closes refl (change e).opens h;
            closed_on =
                λ still.
                each (λ x l. l.calls ≡ Close ∷ [] → ended l.reply ≡ true → next_queue.closed ≡ true) (own_shut (answered e) refl)
                (λ x ne c h. closed_stays still (change e).closes (k.closed_on still x c h));
            most = a.fits;
            came_is =
                λ f n l.
                weigh_append f o.came (in_now o e) ∙ ap (λ (z : ℕ). z + weigh f (in_now o e)) (k.came_is f n (omega (arith, l)))
                ∙ sym (total_grows f o.puts (its o e) (in_now o e) n (omega (arith, l, a.begun)));
            went_is =
                λ f n l.
                weigh_append f o.went (out_now o e) ∙ ap (λ (z : ℕ). z + weigh f (out_now o e)) (k.went_is f n (omega (arith, l)))
                ∙ sym (total_grows f o.takes (its o e) (out_now o e) n (omega (arith, l, a.begun)));
            in_order = order;
          }

    module _ (o : Book) (w : ℕ) (c : Call) (k : Kept o) where
      abbrev new : Book
      new = book_with o (Begun w c)

      abbrev here : ℕ
      here = o.known.count

      here_line : new.line here ≡ begins w c here
      here_line = upd_same here (begins w c here) o.line

      else_line : (x : ℕ) → x ≢ here → new.line x ≡ o.line x
      else_line x ne = upd_else here _ o.line x ne

      both : (Q : ℕ → Line → Type 0) → Q here (begins w c here) → ((x : ℕ) → x ≢ here → Q x (o.line x)) → (x : ℕ) → Q x (new.line x)
      both Q own others x = pick (ℕ_discrete x here)
        where
          pick : Dec (x ≡ here) → Q x (new.line x)
          pick (yes d) = subst (λ (z : ℕ). Q z (new.line z)) (sym d) (subst (Q here) (sym here_line) own)
          pick (no ne) = subst (Q x) (sym (else_line x ne)) (others x ne)

      right_go : (x : ℕ) → Dec (x ≡ here) → Right new x
      right_go x (yes d) =
          let was = k.unbegun x (omega (arith, d)) in
          right_is new x (begins w c here) [] [] (ap (λ (t : Bool). cond t (begins w c here) (o.line x)) (eq-eqb x here d)) was.0 was.1
          (λ f. omega (arith, weigh_none f)) (λ f small. omega (arith, weigh_none f)) (λ h. absurd (true≢false (sym h))) (λ h. absurd (true≢false (sym h)))
      right_go x (no ne) = right_same o new x (else_line x ne) refl refl (k.right x)

      none_here : {P : Type 0} (v : ℕ) (more : List ℕ) → o.takes here ≡ v ∷ more → P
      none_here v more q = absurd (let z : ◌≡◌ {A = ℕ} 0 (suc (length more)) = ap length (sym (k.unbegun here (omega arith)).1 ∙ q) in omega (arith, z))

      not_said : {P : Type 0} (r : Reply) (more : List Reply) → [] ≡ r ∷ more → P
      not_said r more q = absurd (true≢false (sym (ap ended q)))

      pub kept_begin : Kept new
      kept_begin =
          record {
            right = λ x. right_go x (ℕ_discrete x here);
            unbegun =
                λ x l.
                let was = k.unbegun x (omega (arith, l)) in
                (was.0, was.1, else_line x (λ d. absurd (omega (arith, d, l))) ∙ was.2);
            from_le = both (λ x l. l.from ≤ x) (omega arith) (λ x ne. k.from_le x);
            to_less = both (λ x l. ended l.reply ≡ true → l.to < here + 1) (λ h. absurd (true≢false (sym h))) (λ x ne h. omega (arith, k.to_less x h));
            short = both (λ x l. weigh any (items_of l.calls) ≤ 1) (one_item c) (λ x ne. k.short x);
            moments =
                both (λ x l. (d : Call) (r : Reply) (more : List Reply) → l.calls ≡ d ∷ [] → l.reply ≡ r ∷ more → unread sees d r ≡ false → (n : ℕ)
                × (l.from < n) × (n ≤ l.to) × AskedOf limit (held_then n) (queue_then n) d r)
                (λ d r more h i u. not_said r more i) (λ x ne. k.moments x);
            takings =
                both (λ x l. (v : ℕ) (more : List ℕ) → o.takes x ≡ v ∷ more
                → (n : ℕ) × (rest : List ℕ) × (l.from < n) × (n < here + 1) × (ended l.reply ≡ true → n ≤ l.to) × ((queue_then n).items ≡ v ∷ rest) × (puts_then n x ≡ []))
                (λ v more q. none_here v more q)
                (λ x ne v more q. let t = k.takings x v more q in (t.0, t.1, t.2, omega (arith, t.3), t.4, t.5, t.6));
            closed_by =
                λ h.
                let t = k.closed_by h in
                let same = else_line t.0 (λ d. absurd (omega (arith, d, t.1))) in
                (t.0, omega (arith, t.1), ap (λ (l : Line). l.calls) same ∙ t.2, ap (λ (l : Line). l.reply) same ∙ t.3);
            closed_on = λ still. both (λ x l. l.calls ≡ Close ∷ [] → ended l.reply ≡ true → o.known.queue.closed ≡ true) (λ d h. absurd (true≢false (sym h))) (λ x ne. k.closed_on still x);
            most = k.most;
            came_is = λ f n l. k.came_is f n (omega (arith, l));
            went_is = λ f n l. k.went_is f n (omega (arith, l));
            in_order = k.in_order;
          }

    pub kept_on : (o : Book) (s : Story E) → Along o s → Kept o → Kept (book_from o s)
    unfolding book_from
    kept_on o [] a k = k
    kept_on o (Begun w c ∷ s) a k = kept_on (book_with o (Begun w c)) s a.1 (kept_begin o w c k)
    kept_on o (Does e ∷ s) a k = kept_on (book_with o (Does e)) s a.1 (kept_act o e a.0 k)
