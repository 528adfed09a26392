-- The same by what is said of a story at each of its times: what each call under way has put in and taken out by then; and of each act. Kept element by element, beside which workers are busy.
use Prim.Native.Nat.{ℕ, ◌+◌, ◌≤◌, ◌<◌}
use native.Mathlib.Omega.{arith}
use native.Mathlib.Decide.{ℕ_discrete}
use mathlib.Core.Bool.{Bool, true, false, cond, not, true≢false}
use mathlib.Core.List.{List, [], ◌∷◌, ◌++◌, append_assoc}
use mathlib.Core.Logic.{◌≢◌, ◌⊎◌, inl, inr}
use mathlib.Core.Path.{◌≡◌, refl, sym, ap, ◌∙◌, subst}
use lib.Dec.{eqb}
use lib.ListN.{length, take}
use borrow.Author.Tests.{eq-eqb, ne_eqb}
use Rattle.queue_entries.specs.declared.Call.{Call}
use Rattle.queue_entries.specs.declared.Call.TheVariants.{Close}
use Rattle.queue_plain.specs.Plain.{Reply, Yes, put_by, taken_by, meaning_of}
use Rattle.queue_plain.specs.Story.{Element, Begun, Does, Story, Change, Doing, Known, fresh, doing_with, items_of, known, queue_at, followed_from}
use Rattle.queue_plain.proofs.Stories.{followed_end, known_act, each_own}
use Rattle.queue_logs.specs.Logs.{NeverShown, weigh, any, ended, taker, log_of}
use Rattle.queue_logs.proofs.Account.{AskedOf, unread}
use Rattle.queue_logs.proofs.Working.{Working, same_call}
use Rattle.queue_logs.proofs.Acts.{busy_with, busy_in, Accounted, never}

-- ---- lists

-- a beginning of a list with one more is the whole of it, or a beginning of the list
pub data Front {A : Type 0} (l : List A) (x : A) (earlier : List A) : Type 0 where
  whole : earlier ≡ l ++ x ∷ [] → Front l x earlier
  part : (left : List A) → l ≡ earlier ++ left → Front l x earlier

tail_of : {A : Type 0} → List A → List A
tail_of [] = []
tail_of (x ∷ l) = l

head_or : {A : Type 0} → A → List A → A
head_or d [] = d
head_or d (x ∷ l) = x

pub front_of : {A : Type 0} (l : List A) (x : A) (earlier later : List A) → l ++ x ∷ [] ≡ earlier ++ later → Front l x earlier
unfolding tail_of head_or
front_of l x [] later e = part l refl
front_of [] x (y ∷ []) later e = whole (ap (λ (z : _). z ∷ []) (sym (ap (head_or x) e)))
front_of [] x (y ∷ z ∷ earlier) later e = absurd (let q : ◌≡◌ {A = List _} [] (z ∷ earlier ++ later) = ap tail_of e in
    let n : ◌≡◌ {A = ℕ} 0 (length (z ∷ earlier ++ later)) = ap length q in omega (arith, n))
front_of (a ∷ l) x (y ∷ earlier) later e = go (front_of l x earlier later (ap tail_of e))
  where
    same : a ≡ y
    same = ap (head_or a) e

    go : Front l x earlier → Front (a ∷ l) x (y ∷ earlier)
    go (whole q) = whole (ap (λ (z : _). z ∷ earlier) (sym same) ∙ ap (λ (z : List _). a ∷ z) q)
    go (part left q) = part left (ap (λ (z : _). z ∷ l) same ∙ ap (λ (z : List _). y ∷ z) q)

-- an element of it is the last, or one of the list
pub data Where {A : Type 0} (l : List A) (x : A) (earlier : List A) (y : A) : Type 0 where
  last : earlier ≡ l → y ≡ x → Where l x earlier y
  inside : (left : List A) → l ≡ earlier ++ y ∷ left → Where l x earlier y

pub where_of : {A : Type 0} (l : List A) (x : A) (earlier : List A) (y : A) (later : List A) → l ++ x ∷ [] ≡ earlier ++ y ∷ later → Where l x earlier y
unfolding tail_of head_or
where_of [] x [] y later e = last refl (sym (ap (head_or x) e))
where_of (a ∷ l) x [] y later e = inside l (ap (λ (z : _). z ∷ l) (ap (head_or a) e))
where_of [] x (b ∷ earlier) y later e = absurd (go earlier (ap tail_of e))
  where
    go : (earlier : List _) → [] ≡ earlier ++ y ∷ later → ⊥
    go [] q = let n : ◌≡◌ {A = ℕ} 0 (length (y ∷ later)) = ap length q in omega (arith, n)
    go (z ∷ earlier) q = let n : ◌≡◌ {A = ℕ} 0 (length (z ∷ earlier ++ y ∷ later)) = ap length q in omega (arith, n)
where_of (a ∷ l) x (b ∷ earlier) y later e = go (where_of l x earlier y later (ap tail_of e))
  where
    same : a ≡ b
    same = ap (head_or a) e

    go : Where l x earlier y → Where (a ∷ l) x (b ∷ earlier) y
    go (last p q) = last (ap (λ (z : _). z ∷ earlier) (sym same) ∙ ap (λ (z : List _). a ∷ z) p) q
    go (inside left q) = inside left (ap (λ (z : _). z ∷ l) same ∙ ap (λ (z : List _). b ∷ z) q)

none_first : {P : Type 0} {A : Type 0} (earlier : List A) (x : A) (later : List A) → [] ≡ earlier ++ x ∷ later → P
none_first [] x later q = absurd (let n : ◌≡◌ {A = ℕ} 0 (length (x ∷ later)) = ap length q in omega (arith, n))
none_first (y ∷ earlier) x later q = absurd (let n : ◌≡◌ {A = ℕ} 0 (length (y ∷ earlier ++ x ∷ later)) = ap length q in omega (arith, n))

does_one : {E : Type 0} → E → Element E → E
does_one d (Begun w c) = d
does_one d (Does e) = e

is_does : {E : Type 0} → Element E → Bool
is_does (Begun w c) = false
is_does (Does e) = true

module _ {E : Type 0} (worker : E → ℕ) (change : E → Change) (answered : E → List Reply) (stays sees : Bool) (limit : ℕ) (held : Story E → ℕ) (capacity : ℕ) where
  abbrev after : Story E → Known
  after = known worker change capacity

  abbrev busy_at : ℕ → Story E → Bool
  busy_at = busy_in worker change answered stays sees limit held capacity

  -- At a time at which these workers are busy.
  pub record TimeBy (busy : ℕ → Bool) (s : Story E) : Type 0 where
    pub working : (w : ℕ) → busy w ≡ true → Working worker change capacity s w
    pub fits : length (after s).queue.items + held s ≤ limit
    pub holds : (held s ≡ 0) ⊎ ((w : ℕ) × (busy w ≡ true) × (held s ≤ weigh any ((after s).each w).takes))

  abbrev pub Time : Story E → Type 0
  Time s = TimeBy (λ w. busy_at w s) s

  -- An act: a call takes out before it puts in; one that closes is a close's that answers yes; none opens, where closed stays closed.
  pub record Acting (s : Story E) (e : E) : Type 0 where
    pub under_way : busy_at (worker e) s ≡ true
    pub first : (change e).takes ≡ true → ((after s).each (worker e)).puts ≡ []
    pub closing : (change e).closes ≡ true → (after s).queue.closed ≡ false → (((after s).each (worker e)).calls ≡ Close ∷ []) × (answered e ≡ Yes ∷ [])
    pub unopened : stays ≡ true → (change e).opens ≡ false

  -- And one that answers: `Answered` and `Meant`.
  pub record Answering (s : Story E) (e : E) (r : Reply) : Type 0 where
    pub call : Call
    pub calls : ((after s).each (worker e)).calls ≡ call ∷ []
    pub put : ((after (s ++ Does e ∷ [])).each (worker e)).puts ≡ put_by (items_of (call ∷ [])) r
    pub took : ((after (s ++ Does e ∷ [])).each (worker e)).takes ≡ taken_by r
    pub moment : unread sees call r ≡ false
        → (n : ℕ) × (((after s).each (worker e)).begun < n) × (n ≤ length s) × AskedOf limit (held (take n s)) (queue_at worker change capacity n s) call r
    pub shut : call ≡ Close → (after (s ++ Does e ∷ [])).queue.closed ≡ true

  -- by what its replies mean
  pub answering : (s : Story E) (e : E) (c : Call) (r : Reply) (more replies : List Reply) → replies ≡ r ∷ more → ((after s).each (worker e)).calls ≡ c ∷ []
      → ((after (s ++ Does e ∷ [])).each (worker e)).puts ≡ meaning_of (put_by (items_of ((after s).each (worker e)).calls)) replies
      → ((after (s ++ Does e ∷ [])).each (worker e)).takes ≡ meaning_of taken_by replies
      → (((after s).each (worker e)).calls ≡ Close ∷ [] → (after (s ++ Does e ∷ [])).queue.closed ≡ true)
      → (unread sees c r ≡ false → (n : ℕ) × (((after s).each (worker e)).begun < n) × (n ≤ length s) × AskedOf limit (held (take n s)) (queue_at worker change capacity n s) c r)
      → Answering s e r
  answering s e c r more replies is its put took shut moment =
      record {
        call = c;
        calls = its;
        put = put ∙ ap (meaning_of (put_by (items_of ((after s).each (worker e)).calls))) is ∙ ap (λ (l : List Call). put_by (items_of l) r) its;
        took = took ∙ ap (meaning_of taken_by) is;
        moment = moment;
        shut = λ q. shut (its ∙ ap (λ (z : Call). z ∷ []) q);
      }

  -- ---- so that it is accounted for
  module _ (s : Story E) (e : E) (was : Time s) (now : Time (s ++ Does e ∷ [])) (a : Acting s e) (said : (r : Reply) (more : List Reply) → answered e ≡ r ∷ more → Answering s e r) where
    own : (after (s ++ Does e ∷ [])).each (worker e) ≡ doing_with (change e) (after s).queue ((after s).each (worker e))
    own = each_own worker change capacity s e

    mine : Working worker change capacity s (worker e)
    mine = was.working (worker e) a.under_way

    busy_yet : answered e ≡ [] → busy_at (worker e) (s ++ Does e ∷ []) ≡ true
    busy_yet q =
        followed_end worker change (busy_with worker change answered stays sees limit held capacity (worker e)) (fresh capacity) false s (Does e)
        ∙ ap (λ (b : Bool). cond b (not (ended (answered e))) (busy_at (worker e) s)) (eq-eqb (worker e) (worker e) refl) ∙ ap (λ (r : List Reply). not (ended r)) q

    its : (r : Reply) (t : Answering s e r) → t.call ≡ mine.call
    its r t = same_call t.call mine.call (sym t.calls ∙ mine.calls)

    pub accounted : Accounted worker change answered stays sees limit held capacity s e
    accounted =
        record {
          call = mine.call;
          calls = mine.calls;
          under_way = a.under_way;
          not_yet =
              λ q.
              let then = now.working (worker e) (busy_yet q) in
              let same : then.call ≡ mine.call = same_call then.call mine.call (sym then.calls ∙ ap (λ (d : Doing). d.calls) own ∙ mine.calls) in (
                (λ f. omega (arith, then.put_most f, ap (λ (d : Doing). weigh f d.puts) own, ap (λ (c : Call). weigh f (items_of (c ∷ []))) same)),
                λ f small. omega (arith, then.took_most f small, ap (λ (d : Doing). weigh f d.takes) own, ap (λ (c : Call). taker (c ∷ [])) same),
              );
          meant =
              λ r more q.
              let t = said r more q in (
                sym (ap (λ (d : Doing). d.puts) own) ∙ t.put ∙ ap (λ (c : Call). put_by (items_of (c ∷ [])) r) (its r t),
                sym (ap (λ (d : Doing). d.takes) own) ∙ t.took,
              );
          moment =
              λ r more q u.
              let t = said r more q in
              let n = t.moment (ap (λ (c : Call). unread sees c r) (its r t) ∙ u) in
              (n.0, n.1, n.2, subst (λ (c : Call). AskedOf limit (held (take n.0 s)) (queue_at worker change capacity n.0 s) c r) (its r t) n.3);
          first = a.first;
          closing = λ q h. let t = a.closing q h in (same_call mine.call Close (sym mine.calls ∙ t.0), t.1);
          shut = λ r more c q. let t = said r more q in ap (λ (k : Known). k.queue.closed) (sym (known_act worker change capacity s e)) ∙ t.shut (its r t ∙ c);
          unopened = a.unopened;
          fits = omega (arith, now.fits, ap (λ (k : Known). length k.queue.items) (known_act worker change capacity s e));
        }

  -- ---- kept element by element, these workers being busy
  pub record Along (busy : ℕ → Bool) (s : Story E) : Type 0 where
    pub busy_is : (w : ℕ) → busy_at w s ≡ busy w
    pub times : (earlier later : Story E) → s ≡ earlier ++ later → Time earlier
    pub acting : (earlier later : Story E) (e : E) → s ≡ earlier ++ Does e ∷ later → Acting earlier e

  time_is : (busy other : ℕ → Bool) (s : Story E) → ((w : ℕ) → other w ≡ busy w) → TimeBy busy s → TimeBy other s
  time_is busy other s even t = record { working = λ w h. t.working w (sym (even w) ∙ h); fits = t.fits; holds = go t.holds }
    where
      go : (held s ≡ 0) ⊎ ((w : ℕ) × (busy w ≡ true) × (held s ≤ weigh any ((after s).each w).takes)) → (held s ≡ 0) ⊎ ((w : ℕ) × (other w ≡ true) × (held s ≤ weigh any ((after s).each w).takes))
      go (inl z) = inl z
      go (inr z) = inr (z.0, even z.0 ∙ z.1, z.2)

  pub along_first : (busy : ℕ → Bool) → ((w : ℕ) → busy w ≡ false) → TimeBy busy [] → Along busy []
  unfolding followed_from
  along_first busy none t =
      record {
        busy_is = λ w. sym (none w);
        times = λ earlier later q. subst Time (nil earlier later q) (time_is busy (λ w. busy_at w []) [] (λ w. sym (none w)) t);
        acting = λ earlier later e q. none_first earlier (Does e) later q;
      }
    where
      nil : (earlier later : Story E) → [] ≡ earlier ++ later → [] ≡ earlier
      nil [] later q = refl
      nil (x ∷ earlier) later q = none_first [] x (earlier ++ later) q

  module _ (s : Story E) (x : Element E) (was busy : ℕ → Bool) (o : Along was s) (even : (w : ℕ) → busy_at w (s ++ x ∷ []) ≡ busy w)
      (t : TimeBy busy (s ++ x ∷ [])) (does : (e : E) → x ≡ Does e → Acting s e) where
    along_on : Along busy (s ++ x ∷ [])
    along_on =
        record {
          busy_is = even;
          times = λ earlier later q. time (front_of s x earlier later q);
          acting = λ earlier later e q. act e (where_of s x earlier (Does e) later q);
        }
      where
        time : {earlier : Story E} → Front s x earlier → Time earlier
        time {earlier} (whole q) = subst Time (sym q) (time_is busy (λ w. busy_at w (s ++ x ∷ [])) (s ++ x ∷ []) even t)
        time {earlier} (part left q) = o.times earlier left q

        act : {earlier : Story E} (e : E) → Where s x earlier (Does e) → Acting earlier e
        act {earlier} e (last p q) = subst (λ (z : Story E). Acting z e) (sym p) (does e (sym q))
        act {earlier} e (inside left q) = o.acting earlier left e q

  -- a call begun
  pub along_begun : (s : Story E) (w : ℕ) (c : Call) (was busy : ℕ → Bool) → Along was s → busy w ≡ true → ((v : ℕ) → v ≢ w → busy v ≡ was v) → TimeBy busy (s ++ Begun w c ∷ [])
      → Along busy (s ++ Begun w c ∷ [])
  unfolding is_does
  along_begun s w c was busy o own others t = along_on s (Begun w c) was busy o (λ v. even v (ℕ_discrete v w)) t (λ e q. absurd (true≢false (sym (ap is_does q))))
    where
      step : (v : ℕ) → busy_at v (s ++ Begun w c ∷ []) ≡ cond (eqb v w) true (busy_at v s)
      step v = followed_end worker change (busy_with worker change answered stays sees limit held capacity v) (fresh capacity) false s (Begun w c)

      even : (v : ℕ) → Dec (v ≡ w) → busy_at v (s ++ Begun w c ∷ []) ≡ busy v
      even v (yes q) = step v ∙ ap (λ (b : Bool). cond b true (busy_at v s)) (eq-eqb v w q) ∙ sym own ∙ ap busy (sym q)
      even v (no ne) = step v ∙ ap (λ (b : Bool). cond b true (busy_at v s)) (ne_eqb v w ne) ∙ o.busy_is v ∙ sym (others v ne)

  -- an act
  pub along_act : (s : Story E) (e : E) (was busy : ℕ → Bool) → Along was s → was (worker e) ≡ true → busy (worker e) ≡ not (ended (answered e)) → ((v : ℕ) → v ≢ worker e → busy v ≡ was v)
      → TimeBy busy (s ++ Does e ∷ [])
      → ((change e).takes ≡ true → ((after (s ++ Does e ∷ [])).each (worker e)).puts ≡ cond (change e).puts (items_of ((after s).each (worker e)).calls) [])
      → ((change e).closes ≡ true → (after s).queue.closed ≡ false → (((after s).each (worker e)).calls ≡ Close ∷ []) × (answered e ≡ Yes ∷ [])) → (stays ≡ true → (change e).opens ≡ false)
      → Along busy (s ++ Does e ∷ [])
  unfolding does_one
  along_act s e was busy o under own others t first closing unopened =
      along_on s (Does e) was busy o (λ v. even v (ℕ_discrete v (worker e))) t (λ d q. subst (Acting s) (ap (does_one e) q) acts)
    where
      step : (v : ℕ) → busy_at v (s ++ Does e ∷ []) ≡ cond (eqb v (worker e)) (not (ended (answered e))) (busy_at v s)
      step v = followed_end worker change (busy_with worker change answered stays sees limit held capacity v) (fresh capacity) false s (Does e)

      even : (v : ℕ) → Dec (v ≡ worker e) → busy_at v (s ++ Does e ∷ []) ≡ busy v
      even v (yes q) = step v ∙ ap (λ (b : Bool). cond b (not (ended (answered e))) (busy_at v s)) (eq-eqb v (worker e) q) ∙ sym own ∙ ap busy (sym q)
      even v (no ne) = step v ∙ ap (λ (b : Bool). cond b (not (ended (answered e))) (busy_at v s)) (ne_eqb v (worker e) ne) ∙ o.busy_is v ∙ sym (others v ne)

      before : (a b : List ℕ) → a ++ b ≡ b → a ≡ []
      before [] b q = refl
      before (x ∷ a) b q = absurd (omega (arith, longer a b, ap length q))
        where
          longer : (a b : List ℕ) → length b ≤ length (a ++ b)
          longer [] b = omega arith
          longer (y ∷ a) b = omega (arith, longer a b)

      acts : Acting s e
      acts =
          record {
            under_way = o.busy_is (worker e) ∙ under;
            first = λ q. before ((after s).each (worker e)).puts _ (sym (ap (λ (d : Doing). d.puts) (each_own worker change capacity s e)) ∙ first q);
            closing = closing;
            unopened = unopened;
          }

  -- ---- None of the rows is shown.
  pub never_along : 0 < limit → (busy : ℕ → Bool) (s : Story E) → Along busy s
      → ((earlier later : Story E) (e : E) (r : Reply) (more : List Reply) → s ≡ earlier ++ Does e ∷ later → answered e ≡ r ∷ more → Answering earlier e r)
      → NeverShown limit stays sees (log_of worker change answered capacity s)
  never_along roomy busy s o said =
      never worker change answered stays sees limit held capacity s
      (λ earlier later e q.
      accounted earlier e (o.times earlier (Does e ∷ later) q) (o.times (earlier ++ Does e ∷ []) later (q ∙ sym (append_assoc earlier (Does e ∷ []) later))) (o.acting earlier later e q)
      (λ r more a. said earlier later e r more q a))
      roomy (λ earlier later q. (o.times earlier later q).holds)
