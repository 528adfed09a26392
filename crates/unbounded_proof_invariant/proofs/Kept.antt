-- The kinds of effect, each of which keeps the invariant.
use mathlib.Core.Path.{◌≡◌, refl, sym, ap, ◌∙◌, subst}
use mathlib.Core.Logic.{◌≢◌}
use mathlib.Core.Bool.{Bool, true, false, true≢false}
use Prim.Native.Nat.{ℕ, ◌+◌, ◌*◌, ◌/◌, ◌%◌, ◌≤◌, ◌<◌}
use native.Mathlib.Omega.{arith}
use native.Mathlib.Decide.{ℕ_discrete}
use Rattle.queue_schedules.proofs.Upd.{upd, upd_same, upd_else, upd_at}
use Rattle.unbounded_proof_invariant.proofs.Queue.{none, to, Hand, Open, Done, By, Dest, Wait, Freed, Walk, Parked, Own, Free, Aside, Chain, Shared}
use Rattle.unbounded_proof_invariant.proofs.Queue.{HandsOk, DestOk, DestsOk, OwnsOk, Inv}

-- ---- constructors differ
pub hand_open_done : (x : Hand) → x ≡ Open → x ≡ Done → ⊥
hand_open_done x p q = let z : ◌≡◌ {A = ℕ} 0 1 = cc in omega arith

pub hand_by_open : (x : Hand) (w : ℕ) → x ≡ By w → x ≡ Open → ⊥
hand_by_open x w p q = let z : ◌≡◌ {A = ℕ} 0 1 = cc in omega arith

pub hand_by_done : (x : Hand) (w : ℕ) → x ≡ By w → x ≡ Done → ⊥
hand_by_done x w p q = let z : ◌≡◌ {A = ℕ} 0 1 = cc in omega arith

pub wait_not_freed : (x : Dest) → x ≡ Wait → x ≡ Freed → ⊥
wait_not_freed x p q = let z : ◌≡◌ {A = ℕ} 0 1 = cc in omega arith

pub chain_number : (i j : ℕ) → Chain i ≡ Chain j → i ≡ j
chain_number i j p = cc

pub aside_not_chain : (x : Own) (w j : ℕ) → x ≡ Aside w → x ≡ Chain j → ⊥
aside_not_chain x w j p q = let z : ◌≡◌ {A = ℕ} 0 1 = cc in omega arith

pub walk_not_wait : (x : Dest) (w k : ℕ) → x ≡ Walk w k → x ≡ Wait → ⊥
walk_not_wait x w k p q = let z : ◌≡◌ {A = ℕ} 0 1 = cc in omega arith

pub walk_not_freed : (x : Dest) (w k : ℕ) → x ≡ Walk w k → x ≡ Freed → ⊥
walk_not_freed x w k p q = let z : ◌≡◌ {A = ℕ} 0 1 = cc in omega arith

pub wait_not_parked : (x : Dest) (k : ℕ) → x ≡ Wait → x ≡ Parked k → ⊥
wait_not_parked x k p q = let z : ◌≡◌ {A = ℕ} 0 1 = cc in omega arith

pub parked_not_freed : (x : Dest) (k : ℕ) → x ≡ Parked k → x ≡ Freed → ⊥
parked_not_freed x k p q = let z : ◌≡◌ {A = ℕ} 0 1 = cc in omega arith

pub free_not_chain : (x : Own) (j : ℕ) → x ≡ Free → x ≡ Chain j → ⊥
free_not_chain x j p q = let z : ◌≡◌ {A = ℕ} 0 1 = cc in omega arith

-- at one place or another
pub at_or_else : {A : Type 0} (P : A → Type 0) (f : ℕ → A) (i j : ℕ) (a : A) → (j ≡ i → P a) → (j ≢ i → P (f j)) → P (upd f i a j)
at_or_else P f i j a here there = go (ℕ_discrete j i)
  where
    go : Dec (j ≡ i) → P (upd f i a j)
    go (yes e) = rw (upd_at f i j a e) (here e)
    go (no n) = rw (upd_else f i j a n) (there n)

-- ---- K1: a tail claim by w, of the item x
abbrev pub claims : ℕ → ℕ → Shared → Shared
claims w x s =
    record {
      tail = s.tail + 1;
      head = s.head;
      blocks = s.blocks;
      mark = s.mark;
      front = s.front;
      first = s.first;
      phys = s.phys;
      link = s.link;
      dest = s.dest;
      destroy = s.destroy;
      push = upd s.push s.tail (By w);
      pop = s.pop;
      item = upd s.item s.tail x;
      val = s.val;
      own = s.own;
      got = s.got;
      closed = s.closed;
    }

module _ (s : Shared) (inv : Inv s) (w x : ℕ) (slot : s.tail % 32 < 31) (some : 0 < s.blocks) where
  pub claims_kept : Inv (claims w x s)
  claims_kept = record {
    ends = record {
      low = omega (arith, inv.ends.low);
      none_yet = (λ e. absurd (omega arith));
      some = (λ l. let a = inv.ends.some l in omega (arith, inv.ends.one l slot));
      one = (λ l k. let a = inv.ends.one l slot in omega arith);
      opens = inv.ends.opens;
      opened = inv.ends.opened;
      fronted = inv.ends.fronted;
      unfronted = inv.ends.unfronted;
      at_head = inv.ends.at_head;
      marked = (λ e. let a = inv.ends.marked e in omega arith);
    };
    hands = record {
      push_open = (λ p l. at_or_else (λ (h : Hand). h ≡ Open) s.push s.tail p (By w) (λ e. absurd (omega arith)) (λ n. inv.hands.push_open p (omega arith)));
      pushed = (λ p l k. at_or_else (λ (h : Hand). h ≢ Open) s.push s.tail p (By w) (λ e q. hand_by_open (By w) w refl q) (λ n. inv.hands.pushed p (omega arith) k));
      pop_open = inv.hands.pop_open;
      popped = inv.hands.popped;
      order = (λ p e. at_or_else (λ (h : Hand). h ≡ Done) s.push s.tail p (By w)
          (λ q. absurd (hand_open_done (s.pop p) (inv.hands.pop_open p (omega (arith, inv.ends.low))) e)) (λ n. inv.hands.order p e));
      linked = (λ j e. let a = inv.hands.linked j e in omega arith);
      links = (λ j e. inv.hands.links j (other_done (32 * j + 30) e));
      passed = inv.hands.passed;
    };
    dests = inv.dests;
    items = (λ p e. let d = other_done p e in inv.items p d ∙ sym (upd_else s.item s.tail p x (not_tail p d)));
    owns = inv.owns;
  }
    where
      not_tail : (p : ℕ) → s.push p ≡ Done → p ≢ s.tail
      not_tail p d e = hand_open_done (s.push p) (inv.hands.push_open p (omega arith)) d

      other_done : (p : ℕ) → upd s.push s.tail (By w) p ≡ Done → s.push p ≡ Done
      other_done p = at_or_else (λ (h : Hand). h ≡ Done → s.push p ≡ Done) s.push s.tail p (By w) (λ e q. absurd (hand_by_done (By w) w refl q)) (λ n q. q)

-- ---- K2: w's block b becomes the first of the chain
abbrev pub installs : ℕ → ℕ → Shared → Shared
installs w b s =
    record {
      tail = s.tail;
      head = s.head;
      blocks = 1;
      mark = s.mark;
      front = s.front;
      first = By w;
      phys = upd s.phys 0 b;
      link = s.link;
      dest = s.dest;
      destroy = s.destroy;
      push = s.push;
      pop = s.pop;
      item = s.item;
      val = s.val;
      own = upd s.own b (Chain 0);
      got = s.got;
      closed = s.closed;
    }

module _ (s : Shared) (inv : Inv s) (w b : ℕ) (empty : s.blocks ≡ 0) (mine : s.own b ≡ Aside w) where
  pub installs_kept : Inv (installs w b s)
  installs_kept = record {
    ends = record {
      low = inv.ends.low;
      none_yet = (λ e. absurd (omega arith));
      some = (λ l. omega (arith, inv.ends.none_yet empty));
      one = (λ l k. omega (arith, inv.ends.none_yet empty));
      opens = (λ e. absurd (hand_by_open (By w) w refl e));
      opened = (λ e. absurd (omega arith));
      fronted = (λ e. absurd (hand_by_done (By w) w refl e));
      unfronted = (λ n. inv.ends.unfronted (λ e. hand_open_done s.first (inv.ends.opened empty) e));
      at_head = (λ e k. absurd (hand_by_done (By w) w refl e));
      marked = inv.ends.marked;
    };
    hands = inv.hands;
    dests = inv.dests;
    items = inv.items;
    owns = record {
      chain = (λ c j. at_or_else (λ (o : Own). o ≡ Chain j → (j < 1) × (s.dest j ≢ Freed) × (upd s.phys 0 b j ≡ c)) s.own b c (Chain 0)
          (λ e q. let z : 0 ≡ j = chain_number 0 j q in (omega arith, subst (λ (k : ℕ). s.dest k ≢ Freed) z (unfreed 0), upd_at s.phys 0 j b (sym z) ∙ sym e))
          (λ n q. absurd (omega (arith, (inv.owns.chain c j q).0))));
      chained = (λ j l d. let z : j ≡ 0 = omega arith in rw (upd_at s.phys 0 j b z) (upd_same s.own b (Chain 0) ∙ ap Chain (sym z)));
    };
  }
    where
      -- nothing was popped, so nothing was freed
      unfreed : (j : ℕ) → s.dest j ≢ Freed
      unfreed j e =
          wait_not_freed (s.dest j) (inv.dests.waits j (λ q. hand_open_done (s.pop (32 * j + 30))
          (inv.hands.pop_open (32 * j + 30) (omega (arith, inv.ends.low, inv.ends.none_yet empty))) q)) e

-- ---- K8: head's block, where it is the first; and where head is at a gap
abbrev pub fronts : ℕ → Shared → Shared
fronts b s =
    record {
      tail = s.tail;
      head = s.head;
      blocks = s.blocks;
      mark = s.mark;
      front = to b;
      first = Done;
      phys = s.phys;
      link = s.link;
      dest = s.dest;
      destroy = s.destroy;
      push = s.push;
      pop = s.pop;
      item = s.item;
      val = s.val;
      own = s.own;
      got = s.got;
      closed = s.closed;
    }

module _ (s : Shared) (inv : Inv s) (w b : ℕ) (mine : s.first ≡ By w) (is : b ≡ s.phys 0) where
  pub fronts_kept : Inv (fronts b s)
  fronts_kept = record {
    ends = record {
      low = inv.ends.low;
      none_yet = inv.ends.none_yet;
      some = inv.ends.some;
      one = inv.ends.one;
      opens = (λ e. absurd (hand_open_done Done e refl));
      opened = (λ e. absurd (hand_by_open s.first w mine (inv.ends.opened e)));
      fronted = (λ e. (b, refl));
      unfronted = (λ n. absurd (n refl));
      at_head = (λ e k. let z : s.head ≡ 0 = (inv.ends.unfronted (λ d. hand_by_done s.first w mine d)).1 in let q : s.head / 32 ≡ 0 = omega arith in ap to (is ∙ ap s.phys (sym q)));
      marked = inv.ends.marked;
    };
    hands = inv.hands;
    dests = inv.dests;
    items = inv.items;
    owns = inv.owns;
  }

abbrev pub moves : ℕ → Shared → Shared
moves b s =
    record {
      tail = s.tail;
      head = s.head;
      blocks = s.blocks;
      mark = s.mark;
      front = to b;
      first = s.first;
      phys = s.phys;
      link = s.link;
      dest = s.dest;
      destroy = s.destroy;
      push = s.push;
      pop = s.pop;
      item = s.item;
      val = s.val;
      own = s.own;
      got = s.got;
      closed = s.closed;
    }

module _ (s : Shared) (inv : Inv s) (b : ℕ) (done : s.first ≡ Done) (gap : s.head % 32 ≡ 31) where
  pub moves_kept : Inv (moves b s)
  moves_kept = record {
    ends = record {
      low = inv.ends.low;
      none_yet = inv.ends.none_yet;
      some = inv.ends.some;
      one = inv.ends.one;
      opens = inv.ends.opens;
      opened = inv.ends.opened;
      fronted = (λ e. (b, refl));
      unfronted = (λ n. absurd (n done));
      at_head = (λ e k. absurd (omega arith));
      marked = inv.ends.marked;
    };
    hands = inv.hands;
    dests = inv.dests;
    items = inv.items;
    owns = inv.owns;
  }

-- ---- K2: w's block b becomes the next of the chain, with tail at the gap before it
abbrev pub appends : ℕ → Shared → Shared
appends b s =
    record {
      tail = s.tail;
      head = s.head;
      blocks = s.blocks + 1;
      mark = s.mark;
      front = s.front;
      first = s.first;
      phys = upd s.phys s.blocks b;
      link = s.link;
      dest = s.dest;
      destroy = s.destroy;
      push = s.push;
      pop = s.pop;
      item = s.item;
      val = s.val;
      own = upd s.own b (Chain s.blocks);
      got = s.got;
      closed = s.closed;
    }

module _ (s : Shared) (inv : Inv s) (w b : ℕ) (mine : s.own b ≡ Aside w) (gap : s.tail % 32 ≡ 31) (one : s.blocks ≡ s.tail / 32 + 1) where
  pub appends_kept : Inv (appends b s)
  appends_kept = record {
    ends = record {
      low = inv.ends.low;
      none_yet = (λ e. absurd (omega arith));
      some = (λ l. omega arith);
      one = (λ l k. absurd (omega arith));
      opens = (λ e. absurd (omega (arith, inv.ends.opens e)));
      opened = (λ e. absurd (omega arith));
      fronted = inv.ends.fronted;
      unfronted = inv.ends.unfronted;
      at_head = (λ e k. inv.ends.at_head e k ∙ ap to (sym (upd_else s.phys s.blocks (s.head / 32) b (λ q. omega (arith, inv.ends.low)))));
      marked = inv.ends.marked;
    };
    hands = inv.hands;
    dests = inv.dests;
    items = inv.items;
    owns = record {
      chain = (λ c j. at_or_else (λ (o : Own). o ≡ Chain j → (j < s.blocks + 1) × (s.dest j ≢ Freed) × (upd s.phys s.blocks b j ≡ c)) s.own b c (Chain s.blocks)
          (λ e q. let z : s.blocks ≡ j = chain_number s.blocks j q in (omega arith, subst (λ (k : ℕ). s.dest k ≢ Freed) z unfreed, upd_at s.phys s.blocks j b (sym z) ∙ sym e))
          (λ n q. let o = inv.owns.chain c j q in (omega (arith, o.0), o.1, upd_else s.phys s.blocks j b (λ e. omega (arith, o.0)) ∙ o.2)));
      chained = (λ j l d. link_on j l d (ℕ_discrete j s.blocks));
    };
  }
    where
      unfreed : s.dest s.blocks ≢ Freed
      unfreed e =
          wait_not_freed (s.dest s.blocks) (inv.dests.waits s.blocks
          (λ q. hand_open_done (s.pop (32 * s.blocks + 30)) (inv.hands.pop_open (32 * s.blocks + 30) (omega (arith, inv.ends.low))) q)) e

      -- the block set aside was none of the chain
      not_in : (j : ℕ) → j < s.blocks → s.dest j ≢ Freed → s.phys j ≢ b
      not_in j l d e = aside_not_chain (s.own b) w j mine (ap s.own (sym e) ∙ inv.owns.chained j l d)

      link_on : (j : ℕ) → j < s.blocks + 1 → s.dest j ≢ Freed → Dec (j ≡ s.blocks) → upd s.own b (Chain s.blocks) (upd s.phys s.blocks b j) ≡ Chain j
      link_on j l d (yes e) = rw (upd_at s.phys s.blocks j b e) (upd_same s.own b (Chain s.blocks) ∙ ap Chain (sym e))
      link_on j l d (no n) =
          let k : j < s.blocks = omega arith in
          rw (upd_else s.phys s.blocks j b n) (upd_else s.own b (s.phys j) (Chain s.blocks) (not_in j k d) ∙ inv.owns.chained j k d)

-- ---- K3: tail leaves the gap
abbrev pub steps : Shared → Shared
steps s =
    record {
      tail = s.tail + 1;
      head = s.head;
      blocks = s.blocks;
      mark = s.mark;
      front = s.front;
      first = s.first;
      phys = s.phys;
      link = s.link;
      dest = s.dest;
      destroy = s.destroy;
      push = s.push;
      pop = s.pop;
      item = s.item;
      val = s.val;
      own = s.own;
      got = s.got;
      closed = s.closed;
    }

module _ (s : Shared) (inv : Inv s) (gap : s.tail % 32 ≡ 31) (two : s.blocks ≡ s.tail / 32 + 2) where
  pub steps_kept : Inv (steps s)
  steps_kept = record {
    ends = record {
      low = omega (arith, inv.ends.low);
      none_yet = (λ e. absurd (omega arith));
      some = (λ l. omega arith);
      one = (λ l k. omega arith);
      opens = inv.ends.opens;
      opened = inv.ends.opened;
      fronted = inv.ends.fronted;
      unfronted = inv.ends.unfronted;
      at_head = inv.ends.at_head;
      marked = (λ e. let a = inv.ends.marked e in omega arith);
    };
    hands = record {
      push_open = (λ p l. inv.hands.push_open p (omega arith));
      pushed = (λ p l k. inv.hands.pushed p (omega arith) k);
      pop_open = inv.hands.pop_open;
      popped = inv.hands.popped;
      order = inv.hands.order;
      linked = (λ j e. let a = inv.hands.linked j e in omega arith);
      links = inv.hands.links;
      passed = inv.hands.passed;
    };
    dests = inv.dests;
    items = inv.items;
    owns = inv.owns;
  }

-- ---- K4: the next of block j is stored
abbrev pub ties : ℕ → Shared → Shared
ties j s =
    record {
      tail = s.tail;
      head = s.head;
      blocks = s.blocks;
      mark = s.mark;
      front = s.front;
      first = s.first;
      phys = s.phys;
      link = upd s.link j true;
      dest = s.dest;
      destroy = s.destroy;
      push = s.push;
      pop = s.pop;
      item = s.item;
      val = s.val;
      own = s.own;
      got = s.got;
      closed = s.closed;
    }

module _ (s : Shared) (inv : Inv s) (j : ℕ) (behind : 32 * (j + 1) ≤ s.tail) where
  pub ties_kept : Inv (ties j s)
  ties_kept = record {
    ends = inv.ends;
    hands = record {
      push_open = inv.hands.push_open;
      pushed = inv.hands.pushed;
      pop_open = inv.hands.pop_open;
      popped = inv.hands.popped;
      order = inv.hands.order;
      linked = (λ k. at_or_else (λ (b : Bool). b ≡ true → 32 * (k + 1) ≤ s.tail) s.link j k true (λ e q. omega arith) (λ n q. inv.hands.linked k q));
      links = (λ k e. at_or_else (λ (b : Bool). b ≡ true) s.link j k true (λ q. refl) (λ n. inv.hands.links k e));
      passed = inv.hands.passed;
    };
    dests = inv.dests;
    items = inv.items;
    owns = inv.owns;
  }

-- ---- K5: a value in hand is written. K6: WRITE is set
abbrev pub writes : ℕ → ℕ → Shared → Shared
writes p x s =
    record {
      tail = s.tail;
      head = s.head;
      blocks = s.blocks;
      mark = s.mark;
      front = s.front;
      first = s.first;
      phys = s.phys;
      link = s.link;
      dest = s.dest;
      destroy = s.destroy;
      push = s.push;
      pop = s.pop;
      item = s.item;
      val = upd s.val p x;
      own = s.own;
      got = s.got;
      closed = s.closed;
    }

module _ (s : Shared) (inv : Inv s) (p x : ℕ) (is : x ≡ s.item p) where
  pub writes_kept : Inv (writes p x s)
  writes_kept = record {
    ends = inv.ends;
    hands = inv.hands;
    dests = inv.dests;
    items = (λ q e. at_or_else (λ (v : ℕ). v ≡ s.item q) s.val p q x (λ k. is ∙ ap s.item (sym k)) (λ n. inv.items q e));
    owns = inv.owns;
  }

abbrev pub sets : ℕ → Shared → Shared
sets p s =
    record {
      tail = s.tail;
      head = s.head;
      blocks = s.blocks;
      mark = s.mark;
      front = s.front;
      first = s.first;
      phys = s.phys;
      link = s.link;
      dest = s.dest;
      destroy = s.destroy;
      push = upd s.push p Done;
      pop = s.pop;
      item = s.item;
      val = s.val;
      own = s.own;
      got = s.got;
      closed = s.closed;
    }

module _ (s : Shared) (inv : Inv s) (w p : ℕ) (mine : s.push p ≡ By w) (is : s.val p ≡ s.item p) (tied : (j : ℕ) → p ≡ 32 * j + 30 → s.link j ≡ true) where
  pub sets_kept : Inv (sets p s)
  sets_kept = record {
    ends = inv.ends;
    hands = record {
      push_open = (λ q l. at_or_else (λ (h : Hand). h ≡ Open) s.push p q Done
          (λ e. absurd (hand_by_open (s.push p) w mine (inv.hands.push_open p (omega arith)))) (λ n. inv.hands.push_open q l));
      pushed = (λ q l k. at_or_else (λ (h : Hand). h ≢ Open) s.push p q Done (λ e z. hand_open_done Done z refl) (λ n. inv.hands.pushed q l k));
      pop_open = inv.hands.pop_open;
      popped = inv.hands.popped;
      order = (λ q e. at_or_else (λ (h : Hand). h ≡ Done) s.push p q Done (λ k. refl) (λ n. inv.hands.order q e));
      linked = inv.hands.linked;
      links = (λ j. at_or_else (λ (h : Hand). h ≡ Done → s.link j ≡ true) s.push p (32 * j + 30) Done (λ e q. tied j (sym e)) (λ n q. inv.hands.links j q));
      passed = inv.hands.passed;
    };
    dests = inv.dests;
    items = (λ q. at_or_else (λ (h : Hand). h ≡ Done → s.val q ≡ s.item q) s.push p q Done (λ e k. ap s.val e ∙ is ∙ ap s.item (sym e)) (λ n k. inv.items q k));
    owns = inv.owns;
  }

-- ---- K7: a head claim by w, which leaves this mark
abbrev pub takes : ℕ → Bool → Shared → Shared
takes w m s =
    record {
      tail = s.tail;
      head = s.head + 1;
      blocks = s.blocks;
      mark = m;
      front = s.front;
      first = s.first;
      phys = s.phys;
      link = s.link;
      dest = s.dest;
      destroy = s.destroy;
      push = s.push;
      pop = upd s.pop s.head (By w);
      item = s.item;
      val = s.val;
      own = s.own;
      got = upd s.got w s.head;
      closed = s.closed;
    }

-- a pop that was nobody's changes no block's destruction
module _ (s : Shared) (inv : Inv s) (w p : ℕ) (untouched : s.pop p ≡ Open) where
  pop_done : (q : ℕ) → upd s.pop p (By w) q ≡ Done → s.pop q ≡ Done
  pop_done q = at_or_else (λ (h : Hand). h ≡ Done → s.pop q ≡ Done) s.pop p q (By w) (λ e k. absurd (hand_by_done (By w) w refl k)) (λ n k. k)

  done_pop : (q : ℕ) → s.pop q ≡ Done → upd s.pop p (By w) q ≡ Done
  done_pop q d = upd_else s.pop p q (By w) (λ e. hand_open_done (s.pop q) (ap s.pop e ∙ untouched) d) ∙ d

  dests_on : DestsOk s.dest s.destroy (upd s.pop p (By w))
  dests_on = record {
    waiting = (λ j e k. inv.dests.waiting j e (pop_done (32 * j + 30) k));
    waits = (λ j n. inv.dests.waits j (λ k. n (done_pop (32 * j + 30) k)));
    dests = (λ j. go j (s.dest j) (inv.dests.dests j));
  }
    where
      go : (j : ℕ) (d : Dest) → DestOk (s.destroy j) s.pop j d → DestOk (s.destroy j) (upd s.pop p (By w)) j d
      go j Wait o = o
      go j Freed o = (λ i l. done_pop (32 * j + i) (o i l))
      go j (Walk v k) o = (o.0, (λ i l. done_pop (32 * j + i) (o.1 i l)), o.2)
      go j (Parked k) o = (o.0, (λ i l. done_pop (32 * j + i) (o.1 i l)), (λ e. o.2 (pop_done (32 * j + k) e)), o.3, o.4)

module _ (s : Shared) (inv : Inv s) (w : ℕ) (m : Bool) (slot : s.head % 32 < 31) (done : s.first ≡ Done) (more : s.head < s.tail) (marks : m ≡ true → s.head / 32 < s.tail / 32) where
  pub takes_kept : Inv (takes w m s)
  takes_kept = record {
    ends = record {
      low = omega arith;
      none_yet = inv.ends.none_yet;
      some = inv.ends.some;
      one = inv.ends.one;
      opens = inv.ends.opens;
      opened = inv.ends.opened;
      fronted = inv.ends.fronted;
      unfronted = (λ n. absurd (n done));
      at_head = (λ e k. let q : (s.head + 1) / 32 ≡ s.head / 32 = omega arith in inv.ends.at_head e slot ∙ ap (λ (j : ℕ). to (s.phys j)) (sym q));
      marked = (λ e. let a = marks e in omega arith);
    };
    hands = record {
      push_open = inv.hands.push_open;
      pushed = inv.hands.pushed;
      pop_open = (λ p l. at_or_else (λ (h : Hand). h ≡ Open) s.pop s.head p (By w) (λ e. absurd (omega arith)) (λ n. inv.hands.pop_open p (omega arith)));
      popped = (λ p l k. at_or_else (λ (h : Hand). h ≢ Open) s.pop s.head p (By w) (λ e q. hand_by_open (By w) w refl q) (λ n. inv.hands.popped p (omega arith) k));
      order = (λ p e. inv.hands.order p (pop_done s inv w s.head untaken p e));
      linked = inv.hands.linked;
      links = inv.hands.links;
      passed = (λ j e. let a = inv.hands.passed j (pop_done s inv w s.head untaken (32 * j + 30) e) in omega arith);
    };
    dests = dests_on s inv w s.head untaken;
    items = inv.items;
    owns = inv.owns;
  }
    where
      untaken : s.pop s.head ≡ Open
      untaken = inv.hands.pop_open s.head (omega arith)

-- ---- K9: head leaves the gap, with this mark
abbrev pub heads : Bool → Shared → Shared
heads m s =
    record {
      tail = s.tail;
      head = s.head + 1;
      blocks = s.blocks;
      mark = m;
      front = s.front;
      first = s.first;
      phys = s.phys;
      link = s.link;
      dest = s.dest;
      destroy = s.destroy;
      push = s.push;
      pop = s.pop;
      item = s.item;
      val = s.val;
      own = s.own;
      got = s.got;
      closed = s.closed;
    }

module _ (s : Shared) (inv : Inv s) (m : Bool) (gap : s.head % 32 ≡ 31) (done : s.first ≡ Done) (more : s.head < s.tail)
    (at : s.front ≡ to (s.phys (s.head / 32 + 1))) (marks : m ≡ true → s.head / 32 + 1 < s.tail / 32) where
  pub heads_kept : Inv (heads m s)
  heads_kept = record {
    ends = record {
      low = omega arith;
      none_yet = inv.ends.none_yet;
      some = inv.ends.some;
      one = inv.ends.one;
      opens = inv.ends.opens;
      opened = inv.ends.opened;
      fronted = inv.ends.fronted;
      unfronted = (λ n. absurd (n done));
      at_head = (λ e k. let q : (s.head + 1) / 32 ≡ s.head / 32 + 1 = omega arith in at ∙ ap (λ (j : ℕ). to (s.phys j)) (sym q));
      marked = (λ e. let a = marks e in omega arith);
    };
    hands = record {
      push_open = inv.hands.push_open;
      pushed = inv.hands.pushed;
      pop_open = (λ p l. inv.hands.pop_open p (omega arith));
      popped = (λ p l k. inv.hands.popped p (omega arith) k);
      order = inv.hands.order;
      linked = inv.hands.linked;
      links = inv.hands.links;
      passed = (λ j e. let a = inv.hands.passed j e in omega arith);
    };
    dests = inv.dests;
    items = inv.items;
    owns = inv.owns;
  }

-- ---- what happens to the destruction of one block, j, leaves that of the others
pub done_or_not : (h : Hand) → Dec (h ≡ Done)
done_or_not Done = yes refl
done_or_not Open = no (λ e. hand_open_done Open refl e)
done_or_not (By w) = no (λ e. hand_by_done (By w) w refl e)

-- the same pops and the same DESTROY bits
dest_agree : (j : ℕ) (x y : ℕ → Bool) (f g : ℕ → Hand) → y ≡ x → ((i : ℕ) → i < 31 → g (32 * j + i) ≡ f (32 * j + i)) → (d : Dest) → DestOk x f j d → DestOk y g j d
dest_agree j x y f g e a Wait o = (λ i l. ap (λ (h : ℕ → Bool). h i) e ∙ o i l)
dest_agree j x y f g e a Freed o = (λ i l. a i l ∙ o i l)
dest_agree j x y f g e a (Walk w k) o =
    (o.0, (λ i l. a i (omega (arith, o.0)) ∙ o.1 i l), (λ i l m. ap (λ (h : ℕ → Bool). h i) e ∙ o.2 i l m))
dest_agree j x y f g e a (Parked k) o = (
  o.0,
  (λ i l. a i (omega (arith, o.0)) ∙ o.1 i l),
  (λ q. o.2 (sym (a k (omega (arith, o.0))) ∙ q)),
  ap (λ (h : ℕ → Bool). h k) e ∙ o.3,
  (λ i l m. ap (λ (h : ℕ → Bool). h i) e ∙ o.4 i l m),
)

module _ (dest : ℕ → Dest) (destroy new : ℕ → ℕ → Bool) (pop after : ℕ → Hand) (old : DestsOk dest destroy pop) (j : ℕ)
    (agree : (k : ℕ) → k ≢ j → (i : ℕ) → i < 31 → after (32 * k + i) ≡ pop (32 * k + i)) (bits : (k : ℕ) → k ≢ j → new k ≡ destroy k)
    (d : Dest) (ok : DestOk (new j) after j d) (to_wait : d ≡ Wait → after (32 * j + 30) ≢ Done) (from_wait : after (32 * j + 30) ≢ Done → d ≡ Wait) where
  dests_at : DestsOk (upd dest j d) new after
  dests_at = record {
    waiting = (λ k. at_or_else (λ (x : Dest). x ≡ Wait → after (32 * k + 30) ≢ Done) dest j k d
        (λ e q. subst (λ (i : ℕ). after (32 * i + 30) ≢ Done) (sym e) (to_wait q))
        (λ n q z. old.waiting k q (sym (agree k n 30 (omega arith)) ∙ z)));
    waits = (λ k z. at_or_else (λ (x : Dest). x ≡ Wait) dest j k d
        (λ e. from_wait (subst (λ (i : ℕ). after (32 * i + 30) ≢ Done) e z))
        (λ n. old.waits k (λ q. z (agree k n 30 (omega arith) ∙ q))));
    dests = (λ k. at_or_else (λ (x : Dest). DestOk (new k) after k x) dest j k d
        (λ e. subst (λ (i : ℕ). DestOk (new i) after i d) (sym e) ok)
        (λ n. dest_agree k (destroy k) (new k) pop after (bits k n) (agree k n) (dest k) (old.dests k)));
  }

-- a block that is not freed stays of the chain
owns_at : (own : ℕ → Own) (blocks : ℕ) (dest : ℕ → Dest) (phys : ℕ → ℕ) (j : ℕ) (d : Dest) → OwnsOk own blocks dest phys → d ≢ Freed → dest j ≢ Freed → OwnsOk own blocks (upd dest j d) phys
owns_at own blocks dest phys j d o n m = record {
  chain = (λ b k e. let c = o.chain b k e in (c.0, at_or_else (λ (x : Dest). x ≢ Freed) dest j k d (λ q. n) (λ q. c.1), c.2));
  chained = (λ k l z. o.chained k l (λ q. at_or_else (λ (x : Dest). x ≢ Freed → ⊥) dest j k d (λ e f. m (ap dest (sym e) ∙ q)) (λ e f. f q) z));
}

-- a pop in hand is done
module _ (s : Shared) (inv : Inv s) (w p : ℕ) (mine : s.pop p ≡ By w) (written : s.push p ≡ Done) (far : (j : ℕ) → 32 * j + 30 ≡ p → 32 * (j + 1) ≤ s.head) where
  hands_read : HandsOk s.tail s.head s.push (upd s.pop p Done) s.link
  hands_read = record {
    push_open = inv.hands.push_open;
    pushed = inv.hands.pushed;
    pop_open = (λ q l. at_or_else (λ (h : Hand). h ≡ Open) s.pop p q Done (λ e. absurd (hand_by_open (s.pop p) w mine (inv.hands.pop_open p (omega arith)))) (λ n. inv.hands.pop_open q l));
    popped = (λ q l k. at_or_else (λ (h : Hand). h ≢ Open) s.pop p q Done (λ e z. hand_open_done Done z refl) (λ n. inv.hands.popped q l k));
    order = (λ q. at_or_else (λ (h : Hand). h ≡ Done → s.push q ≡ Done) s.pop p q Done (λ e z. ap s.push e ∙ written) (λ n z. inv.hands.order q z));
    linked = inv.hands.linked;
    links = inv.hands.links;
    passed = (λ j. at_or_else (λ (h : Hand). h ≡ Done → 32 * (j + 1) ≤ s.head) s.pop p (32 * j + 30) Done (λ e z. far j e) (λ n z. inv.hands.passed j z));
  }

  done_on : (q : ℕ) → s.pop q ≡ Done → upd s.pop p Done q ≡ Done
  done_on q e = at_or_else (λ (h : Hand). h ≡ Done) s.pop p q Done (λ k. refl) (λ n. e)

-- ---- K10: w reads the value of block j's last slot, and has to destroy the block from its first slot on
abbrev pub reads_last : ℕ → ℕ → Shared → Shared
reads_last w j s =
    record {
      tail = s.tail;
      head = s.head;
      blocks = s.blocks;
      mark = s.mark;
      front = s.front;
      first = s.first;
      phys = s.phys;
      link = s.link;
      dest = upd s.dest j (Walk w 0);
      destroy = s.destroy;
      push = s.push;
      pop = upd s.pop (32 * j + 30) Done;
      item = s.item;
      val = s.val;
      own = s.own;
      got = s.got;
      closed = s.closed;
    }

module _ (s : Shared) (inv : Inv s) (w j : ℕ) (mine : s.pop (32 * j + 30) ≡ By w) (written : s.push (32 * j + 30) ≡ Done) (behind : 32 * (j + 1) ≤ s.head) where
  waited : s.dest j ≡ Wait
  waited = inv.dests.waits j (λ e. hand_by_done (s.pop (32 * j + 30)) w mine e)

  pub reads_last_kept : Inv (reads_last w j s)
  reads_last_kept = record {
    ends = inv.ends;
    hands = hands_read s inv w (32 * j + 30) mine written (λ k e. omega arith);
    dests = dests_at s.dest s.destroy s.destroy s.pop (upd s.pop (32 * j + 30) Done) inv.dests j
        (λ k n i l. upd_else s.pop (32 * j + 30) (32 * k + i) Done (λ e. n (omega arith))) (λ k n. refl) (Walk w 0)
        (omega arith, (λ i l. absurd (omega arith)), (λ i l m. subst (DestOk (s.destroy j) s.pop j) waited (inv.dests.dests j) i m))
        (λ e. absurd (walk_not_wait (Walk w 0) w 0 refl e)) (λ n. absurd (n (upd_same s.pop (32 * j + 30) Done)));
    items = inv.items;
    owns = owns_at s.own s.blocks s.dest s.phys j (Walk w 0) inv.owns (walk_not_freed (Walk w 0) w 0 refl) (λ e. wait_not_freed (s.dest j) waited e);
  }

-- ---- K10: w sets READ in slot i of block j, where no destroyer is parked
abbrev pub reads : ℕ → Shared → Shared
reads p s =
    record {
      tail = s.tail;
      head = s.head;
      blocks = s.blocks;
      mark = s.mark;
      front = s.front;
      first = s.first;
      phys = s.phys;
      link = s.link;
      dest = s.dest;
      destroy = s.destroy;
      push = s.push;
      pop = upd s.pop p Done;
      item = s.item;
      val = s.val;
      own = s.own;
      got = s.got;
      closed = s.closed;
    }

module _ (s : Shared) (inv : Inv s) (w j i : ℕ) (small : i < 30) (mine : s.pop (32 * j + i) ≡ By w) (written : s.push (32 * j + i) ≡ Done) (nobody : s.dest j ≢ Parked i) where
  pub reads_kept : Inv (reads (32 * j + i) s)
  reads_kept = record {
    ends = inv.ends;
    hands = hands_read s inv w (32 * j + i) mine written (λ k e. absurd (omega arith));
    dests = record {
      waiting = (λ k e q. inv.dests.waiting k e (sym (apart k) ∙ q));
      waits = (λ k n. inv.dests.waits k (λ q. n (apart k ∙ q)));
      dests = (λ k. go k (s.dest k) refl (inv.dests.dests k));
    };
    items = inv.items;
    owns = inv.owns;
  }
    where
      on : (q : ℕ) → s.pop q ≡ Done → upd s.pop (32 * j + i) Done q ≡ Done
      on = done_on s inv w (32 * j + i) mine written (λ k e. absurd (omega arith))

      apart : (k : ℕ) → upd s.pop (32 * j + i) Done (32 * k + 30) ≡ s.pop (32 * k + 30)
      apart k = upd_else s.pop (32 * j + i) (32 * k + 30) Done (λ e. omega arith)

      go : (k : ℕ) (d : Dest) → s.dest k ≡ d → DestOk (s.destroy k) s.pop k d → DestOk (s.destroy k) (upd s.pop (32 * j + i) Done) k d
      go k Wait e o = o
      go k Freed e o = (λ n l. on (32 * k + n) (o n l))
      go k (Walk v m) e o = (o.0, (λ n l. on (32 * k + n) (o.1 n l)), o.2)
      go k (Parked m) e o = (
        o.0,
        (λ n l. on (32 * k + n) (o.1 n l)),
        (λ z. o.2 (sym (upd_else s.pop (32 * j + i) (32 * k + m) Done
            (λ q. let a : k ≡ j = omega (arith, o.0) in let b : m ≡ i = omega (arith, o.0) in nobody (ap s.dest (sym a) ∙ e ∙ ap Parked b))) ∙ z)),
        o.3,
        o.4,
      )

-- ---- K10: the same where a destroyer is parked: w goes on from the next slot
abbrev pub reads_on : ℕ → ℕ → ℕ → Shared → Shared
reads_on w j i s =
    record {
      tail = s.tail;
      head = s.head;
      blocks = s.blocks;
      mark = s.mark;
      front = s.front;
      first = s.first;
      phys = s.phys;
      link = s.link;
      dest = upd s.dest j (Walk w (i + 1));
      destroy = s.destroy;
      push = s.push;
      pop = upd s.pop (32 * j + i) Done;
      item = s.item;
      val = s.val;
      own = s.own;
      got = s.got;
      closed = s.closed;
    }

module _ (s : Shared) (inv : Inv s) (w j i : ℕ) (mine : s.pop (32 * j + i) ≡ By w) (written : s.push (32 * j + i) ≡ Done) (parked : s.dest j ≡ Parked i) where
  parked_ok : DestOk (s.destroy j) s.pop j (Parked i)
  parked_ok = subst (DestOk (s.destroy j) s.pop j) parked (inv.dests.dests j)

  pub last_done : s.pop (32 * j + 30) ≡ Done
  last_done = go (done_or_not (s.pop (32 * j + 30)))
    where
      go : Dec (s.pop (32 * j + 30) ≡ Done) → s.pop (32 * j + 30) ≡ Done
      go (yes e) = e
      go (no n) = absurd (wait_not_parked (s.dest j) i (inv.dests.waits j n) parked)

  pub reads_on_kept : Inv (reads_on w j i s)
  reads_on_kept = record {
    ends = inv.ends;
    hands = hands_read s inv w (32 * j + i) mine written (λ k e. absurd (omega (arith, parked_ok.0)));
    dests = dests_at s.dest s.destroy s.destroy s.pop (upd s.pop (32 * j + i) Done) inv.dests j
        (λ k n m l. upd_else s.pop (32 * j + i) (32 * k + m) Done (λ e. n (omega (arith, parked_ok.0)))) (λ k n. refl) (Walk w (i + 1))
        (omega (arith, parked_ok.0), (λ m l. below m (ℕ_discrete m i) l), (λ m l k. parked_ok.4 m (omega arith) k))
        (λ e. absurd (walk_not_wait (Walk w (i + 1)) w (i + 1) refl e))
        (λ n. absurd (n (done_on s inv w (32 * j + i) mine written (λ k e. absurd (omega (arith, parked_ok.0))) (32 * j + 30) last_done)));
    items = inv.items;
    owns = owns_at s.own s.blocks s.dest s.phys j (Walk w (i + 1)) inv.owns (walk_not_freed (Walk w (i + 1)) w (i + 1) refl) (λ e. parked_not_freed (s.dest j) i parked e);
  }
    where
      below : (m : ℕ) → Dec (m ≡ i) → m < i + 1 → upd s.pop (32 * j + i) Done (32 * j + m) ≡ Done
      below m (yes e) l = upd_at s.pop (32 * j + i) (32 * j + m) Done (ap (λ (k : ℕ). 32 * j + k) e)
      below m (no n) l = done_on s inv w (32 * j + i) mine written (λ k e. absurd (omega (arith, parked_ok.0))) (32 * j + m) (parked_ok.1 m (omega arith))

-- ---- K11: w goes on past a slot that is read; or leaves the rest to the slot's reader
-- (At V14 it has set DESTROY there before it knew.)
abbrev pub walks : (ℕ → ℕ → Bool) → ℕ → ℕ → ℕ → Shared → Shared
walks bits w j k s =
    record {
      tail = s.tail;
      head = s.head;
      blocks = s.blocks;
      mark = s.mark;
      front = s.front;
      first = s.first;
      phys = s.phys;
      link = s.link;
      dest = upd s.dest j (Walk w (k + 1));
      destroy = bits;
      push = s.push;
      pop = s.pop;
      item = s.item;
      val = s.val;
      own = s.own;
      got = s.got;
      closed = s.closed;
    }

module _ (s : Shared) (inv : Inv s) (w j k : ℕ) (walking : s.dest j ≡ Walk w k) where
  walk_ok : DestOk (s.destroy j) s.pop j (Walk w k)
  walk_ok = subst (DestOk (s.destroy j) s.pop j) walking (inv.dests.dests j)

  pub last_read : s.pop (32 * j + 30) ≡ Done
  last_read = go (done_or_not (s.pop (32 * j + 30)))
    where
      go : Dec (s.pop (32 * j + 30) ≡ Done) → s.pop (32 * j + 30) ≡ Done
      go (yes e) = e
      go (no n) = absurd (walk_not_wait (s.dest j) w k walking (inv.dests.waits j n))

  module _ (small : k < 30) (bits : ℕ → ℕ → Bool) (elsewhere : (i : ℕ) → i ≢ j → bits i ≡ s.destroy i) (above : (i : ℕ) → k < i → bits j i ≡ s.destroy j i) where
    pub walks_kept : s.pop (32 * j + k) ≡ Done → Inv (walks bits w j k s)
    walks_kept read = record {
      ends = inv.ends;
      hands = inv.hands;
      dests = dests_at s.dest s.destroy bits s.pop s.pop inv.dests j (λ i n m l. refl) elsewhere (Walk w (k + 1))
          (omega arith, (λ m l. below m (ℕ_discrete m k) l), (λ m l i. above m (omega arith) ∙ walk_ok.2 m (omega arith) i))
          (λ e. absurd (walk_not_wait (Walk w (k + 1)) w (k + 1) refl e)) (λ n. absurd (n last_read));
      items = inv.items;
      owns = owns_at s.own s.blocks s.dest s.phys j (Walk w (k + 1)) inv.owns (walk_not_freed (Walk w (k + 1)) w (k + 1) refl) (walk_not_freed (s.dest j) w k walking);
    }
      where
        below : (m : ℕ) → Dec (m ≡ k) → m < k + 1 → s.pop (32 * j + m) ≡ Done
        below m (yes e) l = ap (λ (i : ℕ). s.pop (32 * j + i)) e ∙ read
        below m (no n) l = walk_ok.1 m (omega arith)

-- DESTROY is set in slot k of block j, whose destroyer is then d
abbrev pub destroy_bits : ℕ → ℕ → Shared → ℕ → ℕ → Bool
destroy_bits j k s = upd s.destroy j (upd (s.destroy j) k true)

abbrev pub destroys : Dest → ℕ → ℕ → Shared → Shared
destroys d j k s =
    record {
      tail = s.tail;
      head = s.head;
      blocks = s.blocks;
      mark = s.mark;
      front = s.front;
      first = s.first;
      phys = s.phys;
      link = s.link;
      dest = upd s.dest j d;
      destroy = destroy_bits j k s;
      push = s.push;
      pop = s.pop;
      item = s.item;
      val = s.val;
      own = s.own;
      got = s.got;
      closed = s.closed;
    }

abbrev pub parks : ℕ → ℕ → Shared → Shared
parks j k s = destroys (Parked k) j k s

module _ (s : Shared) (inv : Inv s) (w j k : ℕ) (walking : s.dest j ≡ Walk w k) (small : k < 30) (unread : s.pop (32 * j + k) ≢ Done) where
  pub parks_kept : Inv (parks j k s)
  parks_kept =
      let o = walk_ok s inv w j k walking in
      record {
        ends = inv.ends;
        hands = inv.hands;
        dests = dests_at s.dest s.destroy (upd s.destroy j (upd (s.destroy j) k true)) s.pop s.pop inv.dests j (λ i n m l. refl)
            (λ i n. upd_else s.destroy j i (upd (s.destroy j) k true) n) (Parked k)
            (rw (upd_same s.destroy j (upd (s.destroy j) k true)) (
              small,
              o.1,
              unread,
              upd_same (s.destroy j) k true,
              (λ i l m. upd_else (s.destroy j) k i true (λ e. omega arith) ∙ o.2 i (omega arith) m),
            ))
            (λ e. absurd (wait_not_parked (Parked k) k e refl)) (λ n. absurd (n (last_read s inv w j k walking)));
        items = inv.items;
        owns = owns_at s.own s.blocks s.dest s.phys j (Parked k) inv.owns (parked_not_freed (Parked k) k refl) (walk_not_freed (s.dest j) w k walking);
      }

-- ---- K12: w takes a free block. K13: a block set aside is freed
abbrev pub owned : ℕ → Own → Shared → Shared
owned b o s =
    record {
      tail = s.tail;
      head = s.head;
      blocks = s.blocks;
      mark = s.mark;
      front = s.front;
      first = s.first;
      phys = s.phys;
      link = s.link;
      dest = s.dest;
      destroy = s.destroy;
      push = s.push;
      pop = s.pop;
      item = s.item;
      val = s.val;
      own = upd s.own b o;
      got = s.got;
      closed = s.closed;
    }

-- a block that is not of the chain may change hands outside it
module _ (s : Shared) (inv : Inv s) (b : ℕ) (o : Own) (was : (j : ℕ) → s.own b ≢ Chain j) (is : (j : ℕ) → o ≢ Chain j) where
  pub owned_kept : Inv (owned b o s)
  owned_kept = record {
    ends = inv.ends;
    hands = inv.hands;
    dests = inv.dests;
    items = inv.items;
    owns = record {
      chain = (λ c j. at_or_else (λ (x : Own). x ≡ Chain j → (j < s.blocks) × (s.dest j ≢ Freed) × (s.phys j ≡ c)) s.own b c o (λ e q. absurd (is j q)) (λ n q. inv.owns.chain c j q));
      chained = (λ j l d. upd_else s.own b (s.phys j) o (λ e. was j (ap s.own (sym e) ∙ inv.owns.chained j l d)) ∙ inv.owns.chained j l d);
    };
  }

-- ---- K14: w frees block j, all of whose slots are read
abbrev pub frees : ℕ → Shared → Shared
frees j s =
    record {
      tail = s.tail;
      head = s.head;
      blocks = s.blocks;
      mark = s.mark;
      front = s.front;
      first = s.first;
      phys = s.phys;
      link = s.link;
      dest = upd s.dest j Freed;
      destroy = s.destroy;
      push = s.push;
      pop = s.pop;
      item = s.item;
      val = s.val;
      own = upd s.own (s.phys j) Free;
      got = s.got;
      closed = s.closed;
    }

module _ (s : Shared) (inv : Inv s) (w j : ℕ) (walking : s.dest j ≡ Walk w 30) (there : j < s.blocks) where
  pub frees_kept : Inv (frees j s)
  frees_kept = record {
    ends = inv.ends;
    hands = inv.hands;
    dests = dests_at s.dest s.destroy s.destroy s.pop s.pop inv.dests j (λ i n m l. refl) (λ i n. refl) Freed
        (λ i l. all i (ℕ_discrete i 30) l) (λ e. absurd (wait_not_freed Freed e refl)) (λ n. absurd (n (last_read s inv w j 30 walking)));
    items = inv.items;
    owns = record {
      chain = (λ b k. at_or_else (λ (x : Own). x ≡ Chain k → (k < s.blocks) × (upd s.dest j Freed k ≢ Freed) × (s.phys k ≡ b)) s.own (s.phys j) b Free
          (λ e q. absurd (free_not_chain Free k refl q))
          (λ n q. let c = inv.owns.chain b k q in (c.0, (λ z. n (other b k c (ℕ_discrete k j) z)), c.2)));
      chained = (λ k l d. keeps k l d (ℕ_discrete k j));
    };
  }
    where
      all : (i : ℕ) → Dec (i ≡ 30) → i < 31 → s.pop (32 * j + i) ≡ Done
      all i (yes e) l = ap (λ (m : ℕ). s.pop (32 * j + m)) e ∙ last_read s inv w j 30 walking
      all i (no n) l = (walk_ok s inv w j 30 walking).1 i (omega arith)

      other : (b k : ℕ) → (k < s.blocks) × (s.dest k ≢ Freed) × (s.phys k ≡ b) → Dec (k ≡ j) → upd s.dest j Freed k ≡ Freed → b ≡ s.phys j
      other b k c (yes e) z = sym c.2 ∙ ap s.phys e
      other b k c (no n) z = absurd (c.1 (sym (upd_else s.dest j k Freed n) ∙ z))

      own_j : s.own (s.phys j) ≡ Chain j
      own_j = inv.owns.chained j there (walk_not_freed (s.dest j) w 30 walking)

      keeps : (k : ℕ) → k < s.blocks → upd s.dest j Freed k ≢ Freed → Dec (k ≡ j) → upd s.own (s.phys j) Free (s.phys k) ≡ Chain k
      keeps k l d (yes e) = absurd (d (upd_at s.dest j k Freed e))
      keeps k l d (no n) =
          let f : s.dest k ≢ Freed = (λ q. d (upd_else s.dest j k Freed n ∙ q)) in
          upd_else s.own (s.phys j) (s.phys k) Free (λ e. n (chain_number k j (sym (inv.owns.chained k l f) ∙ ap s.own e ∙ own_j))) ∙ inv.owns.chained k l f

-- ---- tail's mark
abbrev pub closes : Shared → Shared
closes s =
    record {
      tail = s.tail;
      head = s.head;
      blocks = s.blocks;
      mark = s.mark;
      front = s.front;
      first = s.first;
      phys = s.phys;
      link = s.link;
      dest = s.dest;
      destroy = s.destroy;
      push = s.push;
      pop = s.pop;
      item = s.item;
      val = s.val;
      own = s.own;
      got = s.got;
      closed = true;
    }

pub closes_kept : (s : Shared) → Inv s → Inv (closes s)
closes_kept s inv = record { ends = inv.ends; hands = inv.hands; dests = inv.dests; items = inv.items; owns = inv.owns }

-- ---- the beginning
abbrev pub start : Shared
start =
    record {
      tail = 0;
      head = 0;
      blocks = 0;
      mark = false;
      front = none;
      first = Open;
      phys = λ j. 0;
      link = λ j. false;
      dest = λ j. Wait;
      destroy = λ j i. false;
      push = λ p. Open;
      pop = λ p. Open;
      item = λ p. 0;
      val = λ p. 0;
      own = λ b. Free;
      got = λ w. 0;
      closed = false;
    }

pub start_ok : Inv start
start_ok = record {
  ends = record {
    low = omega arith;
    none_yet = (λ e. refl);
    some = (λ l. absurd (omega arith));
    one = (λ l k. absurd (omega arith));
    opens = (λ e. refl);
    opened = (λ e. refl);
    fronted = (λ e. absurd (hand_open_done Open refl e));
    unfronted = (λ n. (refl, refl));
    at_head = (λ e k. absurd (hand_open_done Open refl e));
    marked = (λ e. absurd (true≢false (sym e)));
  };
  hands = record {
    push_open = (λ p l. refl);
    pushed = (λ p l k. absurd (omega arith));
    pop_open = (λ p l. refl);
    popped = (λ p l k. absurd (omega arith));
    order = (λ p e. e);
    linked = (λ j e. absurd (true≢false (sym e)));
    links = (λ j e. absurd (hand_open_done Open refl e));
    passed = (λ j e. absurd (hand_open_done Open refl e));
  };
  dests = record { waiting = (λ j e q. hand_open_done Open refl q); waits = (λ j n. refl); dests = (λ j i l. refl) };
  items = (λ p e. absurd (hand_open_done Open refl e));
  owns = record { chain = (λ b j e. absurd (free_not_chain Free j refl e)); chained = (λ j l d. absurd (omega arith)) };
}
