-- A worker's own acts: what it relies on before and after, and that nothing is in its hands but what its place says.
use mathlib.Core.Path.{◌≡◌, refl, sym, ap, ◌∙◌}
use mathlib.Core.Logic.{◌≢◌, ◌⊎◌, inl, inr}
use mathlib.Core.Bool.{Bool, true}
use Prim.Native.Nat.{ℕ, ◌+◌, ◌*◌, ◌/◌, ◌%◌, ◌<◌}
use native.Mathlib.Omega.{arith}
use Rattle.queue_schedules.proofs.Upd.{upd, upd_same, upd_else, upd_at}
use Rattle.unbounded_proof_invariant.proofs.Queue.{Ptr, none, to, Hand, Done, By, Dest, Freed, Walk, Parked, Own, Free, Aside, Chain, Shared, Inv}
use Rattle.unbounded_proof_invariant.proofs.Kept.{hand_open_done, hand_by_done, chain_number, aside_not_chain, walk_not_wait}
use Rattle.unbounded_proof_invariant.proofs.Kept.{walk_not_freed, at_or_else, claims, installs, fronts, moves, appends, steps, ties, writes, sets, takes}
use Rattle.unbounded_proof_invariant.proofs.Kept.{heads, reads, walks, parks, owned, frees}
use Rattle.unbounded_proof_invariant.proofs.Views.{Seen, Rest, Installing, Tail, Claiming, Fronting, Back, Adding, Tying, Writing, Setting, Head}
use Rattle.unbounded_proof_invariant.proofs.Views.{Looking, Taking, Going, Gone, Leading, Heading, Awaiting, Reading, Popped, Destroying, PushIn, PopIn}
use Rattle.unbounded_proof_invariant.proofs.Views.{SeenOk, Rely, seen_on}
use Rattle.unbounded_proof_invariant.proofs.Relied.{walk_not_parked, free_not_aside}

-- ---- what is in hand at a place
abbrev pub push_of : Seen → Ptr
push_of Rest = none
push_of Installing = none
push_of (Tail p m) = none
push_of (Claiming p b) = none
push_of (Fronting b) = none
push_of (Back p b x) = to p
push_of (Adding p b n x) = to p
push_of (Tying p b n x) = to p
push_of (Writing p b x) = to p
push_of (Setting p b) = to p
push_of (Head p m) = none
push_of (Looking p b) = none
push_of (Taking p b m) = none
push_of (Going p b) = none
push_of (Gone p b n) = none
push_of (Leading p b n m) = none
push_of (Heading p b m) = none
push_of (Awaiting p b) = none
push_of (Reading p b) = none
push_of (Popped p b v) = none
push_of (Destroying b i v) = none

abbrev pub pop_of : Seen → Ptr
pop_of Rest = none
pop_of Installing = none
pop_of (Tail p m) = none
pop_of (Claiming p b) = none
pop_of (Fronting b) = none
pop_of (Back p b x) = none
pop_of (Adding p b n x) = none
pop_of (Tying p b n x) = none
pop_of (Writing p b x) = none
pop_of (Setting p b) = none
pop_of (Head p m) = none
pop_of (Looking p b) = none
pop_of (Taking p b m) = none
pop_of (Going p b) = to p
pop_of (Gone p b n) = to p
pop_of (Leading p b n m) = to p
pop_of (Heading p b m) = to p
pop_of (Awaiting p b) = to p
pop_of (Reading p b) = to p
pop_of (Popped p b v) = to p
pop_of (Destroying b i v) = none

-- the first block, or a block to destroy
abbrev pub block_of : Seen → Ptr
block_of Rest = none
block_of Installing = none
block_of (Tail p m) = none
block_of (Claiming p b) = none
block_of (Fronting b) = to b
block_of (Back p b x) = none
block_of (Adding p b n x) = none
block_of (Tying p b n x) = none
block_of (Writing p b x) = none
block_of (Setting p b) = none
block_of (Head p m) = none
block_of (Looking p b) = none
block_of (Taking p b m) = none
block_of (Going p b) = none
block_of (Gone p b n) = none
block_of (Leading p b n m) = none
block_of (Heading p b m) = none
block_of (Awaiting p b) = none
block_of (Reading p b) = none
block_of (Popped p b v) = none
block_of (Destroying b i v) = to b

free_chain : (x : Own) (j : ℕ) → x ≡ Free → x ≡ Chain j → ⊥
free_chain x j p q = let z : ◌≡◌ {A = ℕ} 0 1 = cc in omega arith

pub none_not_to : (x : Ptr) (p : ℕ) → x ≡ none → x ≡ to p → ⊥
none_not_to x p a b = let z : ◌≡◌ {A = ℕ} 0 1 = cc in omega arith

to_one : (p q : ℕ) → to p ≡ to q → p ≡ q
to_one p q e = cc

-- a is the block set aside, n one that was taken to be installed
pub record Good (s : Shared) (w : ℕ) (a n : Ptr) (x : Seen) : Type 0 where
  pub aside : (b : ℕ) → a ≡ to b → s.own b ≡ Aside w
  pub new : (b : ℕ) → n ≡ to b → s.own b ≡ Aside w
  pub apart : (b : ℕ) → a ≡ to b → n ≡ to b → ⊥
  pub seen : SeenOk s w x
  pub pushes : (p : ℕ) → s.push p ≡ By w → push_of x ≡ to p
  pub pops : (p : ℕ) → s.pop p ≡ By w → pop_of x ≡ to p
  pub firsts : s.first ≡ By w → (b : ℕ) × (block_of x ≡ to b)
  pub walks : (j i : ℕ) → s.dest j ≡ Walk w i → (b : ℕ) × (block_of x ≡ to b) × (s.own b ≡ Chain j)
  pub asides : (b : ℕ) → s.own b ≡ Aside w → (a ≡ to b) ⊎ (n ≡ to b)

-- acts of others
pub good_on : (s u : Shared) (w : ℕ) → Inv s → Rely s u w → (a n : Ptr) (x : Seen) → Good s w a n x → Good u w a n x
good_on s u w inv r a n x g = record {
  aside = (λ b e. r.aside_mine b (g.aside b e));
  new = (λ b e. r.aside_mine b (g.new b e));
  apart = g.apart;
  seen = seen_on s u w inv r x g.seen;
  pushes = (λ p e. g.pushes p (r.push_only p e));
  pops = (λ p e. g.pops p (r.pop_only p e));
  firsts = (λ e. g.firsts (r.first_only e));
  walks = (λ j i e. let d = r.walk_only j i e in let o = g.walks j i d in (o.0, o.1, r.chain_mine o.0 j i o.2 d));
  asides = (λ b e. g.asides b (r.aside_only b e));
}

-- ---- an act that changes nothing, from a place to one with the same in hand
pub still : (s : Shared) (w : ℕ) (a n : Ptr) (x y : Seen) → Good s w a n x → push_of y ≡ push_of x → pop_of y ≡ pop_of x → block_of y ≡ block_of x → SeenOk s w y → Good s w a n y
still s w a n x y g p q b o = record {
  aside = g.aside;
  new = g.new;
  apart = g.apart;
  seen = o;
  pushes = (λ i e. p ∙ g.pushes i e);
  pops = (λ i e. q ∙ g.pops i e);
  firsts = (λ e. let f = g.firsts e in (f.0, b ∙ f.1));
  walks = (λ j i e. let f = g.walks j i e in (f.0, b ∙ f.1, f.2));
  asides = g.asides;
}

-- a lost U5 without another set aside: new is set aside
pub new_aside : (s : Shared) (w : ℕ) (n : Ptr) (x y : Seen) → Good s w none n x → push_of y ≡ push_of x → pop_of y ≡ pop_of x → block_of y ≡ block_of x → SeenOk s w y → Good s w n none y
new_aside s w n x y g p q b o = record {
  aside = g.new;
  new = (λ c e. absurd (none_not_to none c refl e));
  apart = (λ c e k. none_not_to none c refl k);
  seen = o;
  pushes = (λ i e. p ∙ g.pushes i e);
  pops = (λ i e. q ∙ g.pops i e);
  firsts = (λ e. let f = g.firsts e in (f.0, b ∙ f.1));
  walks = (λ j i e. let f = g.walks j i e in (f.0, b ∙ f.1, f.2));
  asides = (λ c e. flip c (g.asides c e));
}
  where
    flip : (c : ℕ) → (none ≡ to c) ⊎ (n ≡ to c) → (n ≡ to c) ⊎ (none ≡ to c)
    flip c (inl e) = inr e
    flip c (inr e) = inl e

-- ---- U7: a tail claim
module _ (s : Shared) (inv : Inv s) (w : ℕ) (a n : Ptr) (p b x : ℕ) (g : Good s w a n (Claiming p b)) (at : s.tail ≡ p) where
  claim_push : PushIn (claims w x s) w p b
  claim_push = (upd_at s.push s.tail p (By w) (sym at), omega arith, g.seen.0, g.seen.3 at)

  claim_good : (y : Seen) → push_of y ≡ to p → pop_of y ≡ none → block_of y ≡ none → SeenOk (claims w x s) w y → Good (claims w x s) w a n y
  claim_good y e f k o = record {
    aside = g.aside;
    new = g.new;
    apart = g.apart;
    seen = o;
    pushes = (λ q. at_or_else (λ (h : Hand). h ≡ By w → push_of y ≡ to q) s.push s.tail q (By w) (λ z i. e ∙ ap to (sym at ∙ sym z)) (λ z i. absurd (none_not_to none q refl (g.pushes q i))));
    pops = (λ q i. absurd (none_not_to none q refl (g.pops q i)));
    firsts = (λ i. absurd (none_not_to none (g.firsts i).0 refl (g.firsts i).1));
    walks = (λ j i z. let o = g.walks j i z in absurd (none_not_to none o.0 refl o.1));
    asides = g.asides;
  }

  pub claim_slot : p % 32 < 30 → Good (claims w x s) w a n (Writing p b x)
  claim_slot l = claim_good (Writing p b x) refl refl refl (claim_push, upd_at s.item s.tail p x (sym at), λ e. absurd (omega arith))

  pub claim_last : p % 32 ≡ 30 → Good (claims w x s) w a n (Back p b x)
  claim_last e = claim_good (Back p b x) refl refl refl (claim_push, upd_at s.item s.tail p x (sym at), e, omega arith, (let o = inv.ends.one g.seen.2 (omega arith) in omega arith))

-- ---- V4: a head claim
module _ (s : Shared) (inv : Inv s) (w : ℕ) (a n : Ptr) (p b : ℕ) (m : Bool) (g : Good s w a n (Taking p b m)) (at : s.head ≡ p) where
  take_pop : PopIn (takes w m s) w p b
  take_pop = (upd_at s.pop s.head p (By w) (sym at), omega arith, g.seen.0, g.seen.3 at, upd_same s.got w s.head ∙ at)

  take_good : (y : Seen) → push_of y ≡ none → pop_of y ≡ to p → block_of y ≡ none → SeenOk (takes w m s) w y → Good (takes w m s) w a n y
  take_good y e f k o = record {
    aside = g.aside;
    new = g.new;
    apart = g.apart;
    seen = o;
    pushes = (λ q i. absurd (none_not_to none q refl (g.pushes q i)));
    pops = (λ q. at_or_else (λ (h : Hand). h ≡ By w → pop_of y ≡ to q) s.pop s.head q (By w) (λ z i. f ∙ ap to (sym at ∙ sym z)) (λ z i. absurd (none_not_to none q refl (g.pops q i))));
    firsts = (λ i. absurd (none_not_to none (g.firsts i).0 refl (g.firsts i).1));
    walks = (λ j i z. let o = g.walks j i z in absurd (none_not_to none o.0 refl o.1));
    asides = g.asides;
  }

  pub take_slot : p % 32 < 30 → Good (takes w m s) w a n (Awaiting p b)
  take_slot l = take_good (Awaiting p b) refl refl refl (take_pop, λ e. absurd (omega arith))

  pub take_last : p % 32 ≡ 30 → Good (takes w m s) w a n (Going p b)
  take_last e = take_good (Going p b) refl refl refl (take_pop, e, omega arith)

-- ---- an act that changes nothing that is in anybody's hand, from a place to one with the same in hand
alike : (s u : Shared) (w : ℕ) (a n : Ptr) (x y : Seen) → Good s w a n x → u.own ≡ s.own → u.push ≡ s.push → u.pop ≡ s.pop → u.first ≡ s.first → u.dest ≡ s.dest
    → push_of y ≡ push_of x → pop_of y ≡ pop_of x → block_of y ≡ block_of x → SeenOk u w y → Good u w a n y
alike s u w a n x y g eo eu ep ef ed p q b o = record {
  aside = (λ c e. ap (λ (f : ℕ → Own). f c) eo ∙ g.aside c e);
  new = (λ c e. ap (λ (f : ℕ → Own). f c) eo ∙ g.new c e);
  apart = g.apart;
  seen = o;
  pushes = (λ i e. p ∙ g.pushes i (sym (ap (λ (f : ℕ → Hand). f i) eu) ∙ e));
  pops = (λ i e. q ∙ g.pops i (sym (ap (λ (f : ℕ → Hand). f i) ep) ∙ e));
  firsts = (λ e. let f = g.firsts (sym ef ∙ e) in (f.0, b ∙ f.1));
  walks = (λ j i e. let f = g.walks j i (sym (ap (λ (f : ℕ → Dest). f j) ed) ∙ e) in (f.0, b ∙ f.1, ap (λ (h : ℕ → Own). h f.0) eo ∙ f.2));
  asides = (λ c e. g.asides c (sym (ap (λ (f : ℕ → Own). f c) eo) ∙ e));
}

module _ (s : Shared) (inv : Inv s) (w : ℕ) (a n : Ptr) where
  -- U10, U11, U12
  pub step_good : (p b c x : ℕ) → Good s w a n (Adding p b c x) → Good (steps s) w a n (Tying p b c x)
  step_good p b c x g =
      let o = g.seen in
      alike s (steps s) w a n (Adding p b c x) (Tying p b c x) g refl refl refl refl refl refl refl refl
      ((o.0.0, omega (arith, o.0.1), o.0.2, o.0.3), o.1, o.2, omega (arith, o.2, o.3), o.5)

  pub tie_good : (p b c x : ℕ) → Good s w a n (Tying p b c x) → Good (ties (p / 32) s) w a n (Writing p b x)
  tie_good p b c x g =
      let o = g.seen in
      alike s (ties (p / 32) s) w a n (Tying p b c x) (Writing p b x) g refl refl refl refl refl refl refl refl
      (o.0, o.1, λ e. upd_same s.link (p / 32) true)

  pub write_good : (p b x : ℕ) → Good s w a n (Writing p b x) → Good (writes p x s) w a n (Setting p b)
  write_good p b x g =
      let o = g.seen in
      alike s (writes p x s) w a n (Writing p b x) (Setting p b) g refl refl refl refl refl refl refl refl
      (o.0, o.2, upd_same s.val p x ∙ sym o.1)

  -- V8, V9
  pub move_good : (p b c : ℕ) (m : Bool) → Good s w a n (Leading p b c m) → Good (moves c s) w a n (Heading p b m)
  move_good p b c m g =
      let o = g.seen in
      alike s (moves c s) w a n (Leading p b c m) (Heading p b m) g refl refl refl refl refl refl refl refl
      (o.0, o.1, o.2, o.3, ap to o.4, o.5)

  pub head_good : (p b : ℕ) (m : Bool) → Good s w a n (Heading p b m) → Good (heads m s) w a n (Awaiting p b)
  head_good p b m g =
      let o = g.seen in
      alike s (heads m s) w a n (Heading p b m) (Awaiting p b) g refl refl refl refl refl refl refl refl
      ((o.0.0, omega (arith, o.0.1), o.0.2, o.0.3, o.0.4), λ e. omega (arith, o.1, o.2))

  -- U13
  pub set_good : (p b : ℕ) → Good s w a n (Setting p b) → Good (sets p s) w a n Rest
  set_good p b g = record {
    aside = g.aside;
    new = g.new;
    apart = g.apart;
    seen = tt;
    pushes = (λ q. at_or_else (λ (h : Hand). h ≡ By w → none ≡ to q) s.push p q Done (λ z i. absurd (hand_by_done Done w i refl)) (λ z i. absurd (z (sym (to_one p q (g.pushes q i))))));
    pops = g.pops;
    firsts = g.firsts;
    walks = g.walks;
    asides = g.asides;
  }

  -- V12 with no destroyer parked
  pub read_good : (p b v : ℕ) → Good s w a n (Popped p b v) → Good (reads p s) w a n Rest
  read_good p b v g = record {
    aside = g.aside;
    new = g.new;
    apart = g.apart;
    seen = tt;
    pushes = g.pushes;
    pops = (λ q. at_or_else (λ (h : Hand). h ≡ By w → none ≡ to q) s.pop p q Done (λ z i. absurd (hand_by_done Done w i refl)) (λ z i. absurd (z (sym (to_one p q (g.pops q i))))));
    firsts = g.firsts;
    walks = g.walks;
    asides = g.asides;
  }

-- ---- U3 and U4: a block is taken; U14 and U15: one is freed
module _ (s : Shared) (inv : Inv s) (w b : ℕ) (x y : Seen) (p : push_of y ≡ push_of x) (q : pop_of y ≡ pop_of x) (k : block_of y ≡ block_of x) where
  module _ (free : s.own b ≡ Free) (o : SeenOk (owned b (Aside w) s) w y) where
    not_b : (c : ℕ) → s.own c ≡ Aside w → c ≢ b
    not_b c e z = free_not_aside (s.own b) w free (ap s.own (sym z) ∙ e)

    held : (c : ℕ) → s.own c ≡ Aside w → upd s.own b (Aside w) c ≡ Aside w
    held c e = upd_else s.own b c (Aside w) (not_b c e) ∙ e

    chain_held : (c j : ℕ) → s.own c ≡ Chain j → upd s.own b (Aside w) c ≡ Chain j
    chain_held c j e = upd_else s.own b c (Aside w) (λ z. free_chain (s.own b) j free (ap s.own (sym z) ∙ e)) ∙ e

    pub take_aside : (n : Ptr) → Good s w none n x → Good (owned b (Aside w) s) w (to b) n y
    take_aside n g = record {
      aside = (λ c e. upd_at s.own b c (Aside w) (sym (to_one b c e)));
      new = (λ c e. held c (g.new c e));
      apart = (λ c e f. not_b c (g.new c f) (sym (to_one b c e)));
      seen = o;
      pushes = (λ i e. p ∙ g.pushes i e);
      pops = (λ i e. q ∙ g.pops i e);
      firsts = (λ e. let f = g.firsts e in (f.0, k ∙ f.1));
      walks = (λ j i e. let f = g.walks j i e in (f.0, k ∙ f.1, chain_held f.0 j f.2));
      asides = (λ c. at_or_else (λ (h : Own). h ≡ Aside w → (to b ≡ to c) ⊎ (n ≡ to c)) s.own b c (Aside w) (λ e z. inl (ap to (sym e))) (λ e z. some_other c (g.asides c z)));
    }
      where
        some_other : (c : ℕ) → (none ≡ to c) ⊎ (n ≡ to c) → (to b ≡ to c) ⊎ (n ≡ to c)
        some_other c (inl e) = absurd (none_not_to none c refl e)
        some_other c (inr e) = inr e

    pub take_new : (a : Ptr) → Good s w a none x → Good (owned b (Aside w) s) w a (to b) y
    take_new a g = record {
      aside = (λ c e. held c (g.aside c e));
      new = (λ c e. upd_at s.own b c (Aside w) (sym (to_one b c e)));
      apart = (λ c e f. not_b c (g.aside c e) (sym (to_one b c f)));
      seen = o;
      pushes = (λ i e. p ∙ g.pushes i e);
      pops = (λ i e. q ∙ g.pops i e);
      firsts = (λ e. let f = g.firsts e in (f.0, k ∙ f.1));
      walks = (λ j i e. let f = g.walks j i e in (f.0, k ∙ f.1, chain_held f.0 j f.2));
      asides = (λ c. at_or_else (λ (h : Own). h ≡ Aside w → (a ≡ to c) ⊎ (to b ≡ to c)) s.own b c (Aside w) (λ e z. inr (ap to (sym e))) (λ e z. some_other c (g.asides c z)));
    }
      where
        some_other : (c : ℕ) → (a ≡ to c) ⊎ (none ≡ to c) → (a ≡ to c) ⊎ (to b ≡ to c)
        some_other c (inl e) = inl e
        some_other c (inr e) = absurd (none_not_to none c refl e)

  -- the block set aside is freed; a block taken besides is then the one set aside
  pub give_back : (n : Ptr) → SeenOk (owned b Free s) w y → Good s w (to b) n x → Good (owned b Free s) w n none y
  give_back n o g = record {
    aside = (λ c e. upd_else s.own b c Free (λ z. g.apart b refl (e ∙ ap to z)) ∙ g.new c e);
    new = (λ c e. absurd (none_not_to none c refl e));
    apart = (λ c e f. none_not_to none c refl f);
    seen = o;
    pushes = (λ i e. p ∙ g.pushes i e);
    pops = (λ i e. q ∙ g.pops i e);
    firsts = (λ e. let f = g.firsts e in (f.0, k ∙ f.1));
    walks = (λ j i e. let f = g.walks j i e in (f.0, k ∙ f.1, upd_else s.own b f.0 Free (λ z. aside_not_chain (s.own b) w j (g.aside b refl) (ap s.own (sym z) ∙ f.2)) ∙ f.2));
    asides = (λ c. at_or_else (λ (h : Own). h ≡ Aside w → (n ≡ to c) ⊎ (none ≡ to c)) s.own b c Free (λ e z. absurd (free_not_aside Free w refl z)) (λ e z. left c e (g.asides c z)));
  }
    where
      left : (c : ℕ) → c ≢ b → (to b ≡ to c) ⊎ (n ≡ to c) → (n ≡ to c) ⊎ (none ≡ to c)
      left c e (inl z) = absurd (e (sym (to_one b c z)))
      left c e (inr z) = inl z

-- ---- U5: the first block is installed, and U6: head's block is stored
module _ (s : Shared) (inv : Inv s) (w b : ℕ) (a : Ptr) (g : Good s w a (to b) Installing) where
  pub install_good : s.blocks ≡ 0 → Good (installs w b s) w a none (Fronting b)
  install_good empty = record {
    aside = (λ c e. upd_else s.own b c (Chain 0) (λ z. g.apart c e (ap to (sym z))) ∙ g.aside c e);
    new = (λ c e. absurd (none_not_to none c refl e));
    apart = (λ c e f. none_not_to none c refl f);
    seen = (refl, omega arith, sym (upd_same s.phys 0 b));
    pushes = g.pushes;
    pops = g.pops;
    firsts = (λ e. (b, refl));
    walks = (λ j i e. let f = g.walks j i e in absurd (none_not_to none f.0 refl f.1));
    asides = (λ c. at_or_else (λ (h : Own). h ≡ Aside w → (a ≡ to c) ⊎ (none ≡ to c)) s.own b c (Chain 0) (λ e z. absurd (aside_not_chain (Chain 0) w 0 z refl)) (λ e z. left c e (g.asides c z)));
  }
    where
      left : (c : ℕ) → c ≢ b → (a ≡ to c) ⊎ (to b ≡ to c) → (a ≡ to c) ⊎ (none ≡ to c)
      left c e (inl z) = inl z
      left c e (inr z) = absurd (e (sym (to_one b c z)))

pub front_good : (s : Shared) (w b : ℕ) (a n : Ptr) → Inv s → Good s w a n (Fronting b) → Good (fronts b s) w a n (Claiming 0 b)
front_good s w b a n inv g = record {
  aside = g.aside;
  new = g.new;
  apart = g.apart;
  seen = (omega arith, omega arith, g.seen.1, λ e. g.seen.2);
  pushes = g.pushes;
  pops = g.pops;
  firsts = (λ e. absurd (hand_by_done Done w e refl));
  walks = (λ j i e. absurd (no_walk j i e));
  asides = g.asides;
}
  where
    -- with head still at 0 nothing has been popped, so no block is being destroyed
    no_walk : (j i : ℕ) → s.dest j ≡ Walk w i → ⊥
    no_walk j i e =
        let z : s.head ≡ 0 = (inv.ends.unfronted (λ d. hand_by_done s.first w g.seen.0 d)).1 in
        walk_not_wait (s.dest j) w i e (inv.dests.waits j (λ d. hand_open_done (s.pop (32 * j + 30)) (inv.hands.pop_open (32 * j + 30) (omega arith)) d))

-- ---- U9: the block set aside becomes tail's
module _ (s : Shared) (inv : Inv s) (w b c x p : ℕ) (n : Ptr) (g : Good s w (to b) n (Back p c x)) where
  pub append_good : Good (appends b s) w none n (Adding p c b x)
  append_good =
      let o = g.seen in
      record {
        aside = (λ d e. absurd (none_not_to none d refl e));
        new = (λ d e. upd_else s.own b d (Chain s.blocks) (λ z. g.apart d (ap to (sym z)) e) ∙ g.new d e);
        apart = (λ d e f. none_not_to none d refl e);
        seen = (
          (o.0.0, o.0.1, o.0.2, o.0.3 ∙ sym (upd_else s.phys s.blocks (p / 32) b (λ z. omega (arith, o.4)))),
          o.1,
          o.2,
          o.3,
          omega (arith, o.4),
          sym (upd_at s.phys s.blocks (p / 32 + 1) b (sym o.4)),
        );
        pushes = g.pushes;
        pops = g.pops;
        firsts = g.firsts;
        walks = (λ j i e. let f = g.walks j i e in absurd (none_not_to none f.0 refl f.1));
        asides = (λ d. at_or_else (λ (h : Own). h ≡ Aside w → (none ≡ to d) ⊎ (n ≡ to d)) s.own b d (Chain s.blocks)
            (λ e z. absurd (aside_not_chain (Chain s.blocks) w s.blocks z refl)) (λ e z. left d e (g.asides d z)));
      }
    where
      left : (d : ℕ) → d ≢ b → (to b ≡ to d) ⊎ (n ≡ to d) → (none ≡ to d) ⊎ (n ≡ to d)
      left d e (inl z) = absurd (e (sym (to_one b d z)))
      left d e (inr z) = inr z

-- ---- V11 at a block's last slot, and V12 where a destroyer is parked: the pop is done, and w destroys
module _ (s : Shared) (inv : Inv s) (w p b : ℕ) (a n : Ptr) (x : Seen) (g : Good s w a n x) (hands : pop_of x ≡ to p) (no_push : push_of x ≡ none)
    (no_block : block_of x ≡ none) (in_hand : PopIn s w p b) (written : s.push p ≡ Done)
    (j i v : ℕ) (block : p / 32 ≡ j) (u : Shared) (eo : u.own ≡ s.own) (eu : u.push ≡ s.push) (ep : u.pop ≡ upd s.pop p Done) (ef : u.first ≡ s.first)
    (ed : u.dest ≡ upd s.dest j (Walk w i)) (eg : u.got ≡ s.got) (ei : u.item ≡ s.item) (et : u.tail ≡ s.tail)
    (value : v ≡ s.item p) (live : s.own b ≡ Chain j) where
  pub destroy_good : Good u w a n (Destroying b i v)
  destroy_good = record {
    aside = (λ c e. ap (λ (f : ℕ → Own). f c) eo ∙ g.aside c e);
    new = (λ c e. ap (λ (f : ℕ → Own). f c) eo ∙ g.new c e);
    apart = g.apart;
    seen = (
      j,
      ap (λ (f : ℕ → Dest). f j) ed ∙ upd_same s.dest j (Walk w i),
      ap (λ (f : ℕ → Own). f b) eo ∙ live,
      omega (arith, ap (λ (f : ℕ → ℕ). f w) eg, in_hand.1, in_hand.4, inv.ends.low, et),
      value ∙ sym (ap (λ (f : ℕ → ℕ). f (u.got w)) ei ∙ ap s.item (ap (λ (f : ℕ → ℕ). f w) eg ∙ in_hand.4)),
    );
    pushes = (λ q e. absurd (none_not_to (push_of x) q no_push (g.pushes q (sym (ap (λ (f : ℕ → Hand). f q) eu) ∙ e))));
    pops = (λ q e. at_or_else (λ (h : Hand). h ≡ By w → none ≡ to q) s.pop p q Done (λ z k. absurd (hand_by_done Done w k refl))
        (λ z k. absurd (z (sym (to_one p q (sym hands ∙ g.pops q k))))) (sym (ap (λ (f : ℕ → Hand). f q) ep) ∙ e));
    firsts = (λ e. (b, refl));
    walks = (λ k m e. at_or_else (λ (d : Dest). d ≡ Walk w m → (c : ℕ) × (to b ≡ to c) × (u.own c ≡ Chain k)) s.dest j k (Walk w i)
        (λ z q. (b, refl, ap (λ (f : ℕ → Own). f b) eo ∙ live ∙ ap Chain (sym z)))
        (λ z q. let f = g.walks k m q in absurd (none_not_to (block_of x) f.0 no_block f.1)) (sym (ap (λ (f : ℕ → Dest). f k) ed) ∙ e));
    asides = (λ c e. g.asides c (sym (ap (λ (f : ℕ → Own). f c) eo) ∙ e));
  }

-- ---- V13 to V15: w goes on, leaves the block to a reader, or frees it
module _ (s : Shared) (inv : Inv s) (w b i v : ℕ) (a n : Ptr) (g : Good s w a n (Destroying b i v)) where
  -- w destroys no other block
  one_walk : (k m : ℕ) → s.dest k ≡ Walk w m → k ≡ g.seen.0
  one_walk k m e = let f = g.walks k m e in chain_number k g.seen.0 (sym f.2 ∙ ap s.own (sym (to_one b f.0 f.1)) ∙ g.seen.2)

  pub walk_good : (bits : ℕ → ℕ → Bool) → Good (walks bits w g.seen.0 i s) w a n (Destroying b (i + 1) v)
  walk_good bits = record {
    aside = g.aside;
    new = g.new;
    apart = g.apart;
    seen = (g.seen.0, upd_same s.dest g.seen.0 (Walk w (i + 1)), g.seen.2, g.seen.3, g.seen.4);
    pushes = g.pushes;
    pops = g.pops;
    firsts = (λ e. (b, refl));
    walks = (λ k m. at_or_else (λ (d : Dest). d ≡ Walk w m → (c : ℕ) × (to b ≡ to c) × (s.own c ≡ Chain k)) s.dest g.seen.0 k (Walk w (i + 1))
        (λ z q. (b, refl, g.seen.2 ∙ ap Chain (sym z))) (λ z q. absurd (z (one_walk k m q))));
    asides = g.asides;
  }

  pub park_good : Good (parks g.seen.0 i s) w a n Rest
  park_good = record {
    aside = g.aside;
    new = g.new;
    apart = g.apart;
    seen = tt;
    pushes = g.pushes;
    pops = g.pops;
    firsts = (λ e. absurd (not_first e));
    walks = (λ k m. at_or_else (λ (d : Dest). d ≡ Walk w m → (c : ℕ) × (none ≡ to c) × (s.own c ≡ Chain k)) s.dest g.seen.0 k (Parked i)
        (λ z q. absurd (walk_not_parked (Parked i) w m i q refl)) (λ z q. absurd (z (one_walk k m q))));
    asides = g.asides;
  }
    where
      not_first : s.first ≡ By w → ⊥
      not_first e =
          let z : s.head ≡ 0 = (inv.ends.unfronted (λ d. hand_by_done s.first w e d)).1 in
          walk_not_wait (s.dest g.seen.0) w i g.seen.1 (inv.dests.waits g.seen.0
          (λ d. hand_open_done (s.pop (32 * g.seen.0 + 30)) (inv.hands.pop_open (32 * g.seen.0 + 30) (omega arith)) d))

  pub free_good : s.phys g.seen.0 ≡ b → Good (frees g.seen.0 s) w a n Rest
  free_good at = record {
    aside = (λ c e. upd_else s.own (s.phys g.seen.0) c Free (λ z. aside_not_chain (s.own c) w g.seen.0 (g.aside c e) (ap s.own (z ∙ at) ∙ g.seen.2)) ∙ g.aside c e);
    new = (λ c e. upd_else s.own (s.phys g.seen.0) c Free (λ z. aside_not_chain (s.own c) w g.seen.0 (g.new c e) (ap s.own (z ∙ at) ∙ g.seen.2)) ∙ g.new c e);
    apart = g.apart;
    seen = tt;
    pushes = g.pushes;
    pops = g.pops;
    firsts = (λ e. absurd (not_first e));
    walks = (λ k m. at_or_else (λ (d : Dest). d ≡ Walk w m → (c : ℕ) × (none ≡ to c) × (upd s.own (s.phys g.seen.0) Free c ≡ Chain k)) s.dest g.seen.0 k Freed
        (λ z q. absurd (walk_not_freed Freed w m q refl)) (λ z q. absurd (z (one_walk k m q))));
    asides = (λ c. at_or_else (λ (h : Own). h ≡ Aside w → (a ≡ to c) ⊎ (n ≡ to c)) s.own (s.phys g.seen.0) c Free (λ e z. absurd (free_not_aside Free w refl z)) (λ e z. g.asides c z));
  }
    where
      not_first : s.first ≡ By w → ⊥
      not_first e =
          let z : s.head ≡ 0 = (inv.ends.unfronted (λ d. hand_by_done s.first w e d)).1 in
          walk_not_wait (s.dest g.seen.0) w i g.seen.1 (inv.dests.waits g.seen.0
          (λ d. hand_open_done (s.pop (32 * g.seen.0 + 30)) (inv.hands.pop_open (32 * g.seen.0 + 30) (omega arith)) d))
