-- Every kind of effect of worker w leaves to another, v, what it relies on.
use mathlib.Core.Path.{◌≡◌, refl, sym, ap, ◌∙◌}
use mathlib.Core.Logic.{◌≢◌}
use mathlib.Core.Bool.{Bool, true}
use Prim.Native.Nat.{ℕ, ◌+◌, ◌*◌, ◌%◌, ◌<◌}
use native.Mathlib.Omega.{arith}
use Rattle.queue_schedules.proofs.Upd.{upd, upd_else}
use Rattle.unbounded_proof_invariant.proofs.Queue.{Hand, Done, By, Dest, Wait, Freed, Walk, Parked, Own, Free, Aside, Chain, Shared, Inv}
use Rattle.unbounded_proof_invariant.proofs.Kept.{hand_open_done, hand_by_open, hand_by_done, chain_number, aside_not_chain, walk_not_wait}
use Rattle.unbounded_proof_invariant.proofs.Kept.{walk_not_freed, at_or_else, claims, installs, fronts, moves, appends, steps, ties, writes, sets, takes}
use Rattle.unbounded_proof_invariant.proofs.Kept.{heads, reads_last, reads, reads_on, walks, parks, owned, frees}
use Rattle.unbounded_proof_invariant.proofs.Views.{Rely}

-- ---- one thing is in one hand
by_one : (x : Hand) (v w : ℕ) → x ≡ By v → x ≡ By w → v ≡ w
by_one x v w p q = cc

walk_one : (x : Dest) (v w i k : ℕ) → x ≡ Walk v i → x ≡ Walk w k → v ≡ w
walk_one x v w i k p q = cc

aside_one : (x : Own) (v w : ℕ) → x ≡ Aside v → x ≡ Aside w → v ≡ w
aside_one x v w p q = cc

pub walk_not_parked : (x : Dest) (w i k : ℕ) → x ≡ Walk w i → x ≡ Parked k → ⊥
walk_not_parked x w i k p q = let z : ◌≡◌ {A = ℕ} 0 1 = cc in omega arith

pub free_not_aside : (x : Own) (w : ℕ) → x ≡ Free → x ≡ Aside w → ⊥
free_not_aside x w p q = let z : ◌≡◌ {A = ℕ} 0 1 = cc in omega arith

-- a function that changes where v has nothing, to what is not v's: v keeps and gains nothing
module _ {A : Type 0} (f : ℕ → A) (i : ℕ) (a mine : A) (was : f i ≢ mine) (is : a ≢ mine) where
  keeps : (j : ℕ) → f j ≡ mine → upd f i a j ≡ mine
  keeps j e = upd_else f i j a (λ q. was (ap f (sym q) ∙ e)) ∙ e

  gains_none : (j : ℕ) → upd f i a j ≡ mine → f j ≡ mine
  gains_none j = at_or_else (λ (x : A). x ≡ mine → f j ≡ mine) f i j a (λ e q. absurd (is q)) (λ n q. q)

module _ (s : Shared) (inv : Inv s) (w v : ℕ) (ne : v ≢ w) (x : ℕ) (slot : s.tail % 32 < 31) where
  pub claims_rely : Rely s (claims w x s) v
  claims_rely = record {
    tail_up = omega arith;
    head_up = omega arith;
    blocks_up = omega arith;
    phys_old = (λ j l. refl);
    link_on = (λ j e. e);
    item_old = (λ p l. upd_else s.item s.tail p x (λ q. omega arith));
    push_mine = keeps s.push s.tail (By w) (By v) (λ q. hand_by_open _ v q (inv.hands.push_open s.tail (omega arith))) (λ q. ne (by_one (By w) v w q refl));
    push_only = gains_none s.push s.tail (By w) (By v) (λ q. hand_by_open _ v q (inv.hands.push_open s.tail (omega arith))) (λ q. ne (by_one (By w) v w q refl));
    push_done = keeps s.push s.tail (By w) Done (λ q. hand_open_done _ (inv.hands.push_open s.tail (omega arith)) q) (λ q. hand_by_done (By w) w refl q);
    pop_mine = (λ p e. e);
    pop_only = (λ p e. e);
    first_mine = (λ e. e);
    first_only = (λ e. e);
    first_done = (λ e. e);
    walk_mine = (λ j i e. e);
    walk_only = (λ j i e. e);
    aside_mine = (λ b e. e);
    aside_only = (λ b e. e);
    chain_mine = (λ b j i e q. e);
    val_mine = (λ p e. refl);
    got_mine = refl;
    closed_on = (λ e. e);
    tail_still = (λ p e k q. absurd (omega arith));
    head_still = (λ p e k q. (refl, refl));
  }

module _ (s : Shared) (inv : Inv s) (w v : ℕ) (ne : v ≢ w) (b : ℕ) (empty : s.blocks ≡ 0) (mine : s.own b ≡ Aside w) where
  pub installs_rely : Rely s (installs w b s) v
  installs_rely = record {
    tail_up = omega arith;
    head_up = omega arith;
    blocks_up = omega arith;
    phys_old = (λ j l. absurd (omega arith));
    link_on = (λ j e. e);
    item_old = (λ p l. refl);
    push_mine = (λ p e. e);
    push_only = (λ p e. e);
    push_done = (λ p e. e);
    pop_mine = (λ p e. e);
    pop_only = (λ p e. e);
    first_mine = (λ e. absurd (hand_by_open _ v e (inv.ends.opened empty)));
    first_only = (λ e. absurd (ne (by_one (By w) v w e refl)));
    first_done = (λ e. absurd (hand_open_done _ (inv.ends.opened empty) e));
    walk_mine = (λ j i e. e);
    walk_only = (λ j i e. e);
    aside_mine = keeps s.own (b) (Chain 0) (Aside v) (λ q. ne (aside_one _ v w q mine)) (λ q. aside_not_chain _ v 0 q refl);
    aside_only = gains_none s.own (b) (Chain 0) (Aside v) (λ q. ne (aside_one _ v w q mine)) (λ q. aside_not_chain _ v 0 q refl);
    chain_mine = (λ c j i e q. absurd (omega (arith, (inv.owns.chain c j e).0)));
    val_mine = (λ p e. refl);
    got_mine = refl;
    closed_on = (λ e. e);
    tail_still = (λ p e k q. absurd (omega (arith, inv.ends.none_yet empty)));
    head_still = (λ p e k q. (refl, refl));
  }

module _ (s : Shared) (inv : Inv s) (w v : ℕ) (ne : v ≢ w) (b : ℕ) (mine : s.first ≡ By w) where
  pub fronts_rely : Rely s (fronts b s) v
  fronts_rely = record {
    tail_up = omega arith;
    head_up = omega arith;
    blocks_up = omega arith;
    phys_old = (λ j l. refl);
    link_on = (λ j e. e);
    item_old = (λ p l. refl);
    push_mine = (λ p e. e);
    push_only = (λ p e. e);
    push_done = (λ p e. e);
    pop_mine = (λ p e. e);
    pop_only = (λ p e. e);
    first_mine = (λ e. absurd (ne (by_one _ v w e mine)));
    first_only = (λ e. absurd (hand_by_done Done v e refl));
    first_done = (λ e. refl);
    walk_mine = (λ j i e. e);
    walk_only = (λ j i e. e);
    aside_mine = (λ b e. e);
    aside_only = (λ b e. e);
    chain_mine = (λ b j i e q. e);
    val_mine = (λ p e. refl);
    got_mine = refl;
    closed_on = (λ e. e);
    tail_still = (λ p e k q. (refl, refl));
    head_still = (λ p e k q. absurd (omega (arith, (inv.ends.unfronted (λ d. hand_by_done _ w mine d)).1)));
  }

module _ (s : Shared) (inv : Inv s) (w v : ℕ) (ne : v ≢ w) (b q : ℕ) (mine : s.pop q ≡ By w) (at : s.head ≡ q + 1) where
  pub moves_rely : Rely s (moves b s) v
  moves_rely = record {
    tail_up = omega arith;
    head_up = omega arith;
    blocks_up = omega arith;
    phys_old = (λ j l. refl);
    link_on = (λ j e. e);
    item_old = (λ p l. refl);
    push_mine = (λ p e. e);
    push_only = (λ p e. e);
    push_done = (λ p e. e);
    pop_mine = (λ p e. e);
    pop_only = (λ p e. e);
    first_mine = (λ e. e);
    first_only = (λ e. e);
    first_done = (λ e. e);
    walk_mine = (λ j i e. e);
    walk_only = (λ j i e. e);
    aside_mine = (λ b e. e);
    aside_only = (λ b e. e);
    chain_mine = (λ b j i e q. e);
    val_mine = (λ p e. refl);
    got_mine = refl;
    closed_on = (λ e. e);
    tail_still = (λ p e k q. (refl, refl));
    head_still = (λ p e k z. let same : p ≡ q = omega arith in absurd (ne (by_one _ v w (ap s.pop (sym same) ∙ e) mine)));
  }

module _ (s : Shared) (inv : Inv s) (w v : ℕ) (ne : v ≢ w) (b q : ℕ) (aside : s.own b ≡ Aside w) (mine : s.push q ≡ By w) (at : s.tail ≡ q + 1) where
  pub appends_rely : Rely s (appends b s) v
  appends_rely = record {
    tail_up = omega arith;
    head_up = omega arith;
    blocks_up = omega arith;
    phys_old = (λ j l. upd_else s.phys s.blocks j b (λ e. omega arith));
    link_on = (λ j e. e);
    item_old = (λ p l. refl);
    push_mine = (λ p e. e);
    push_only = (λ p e. e);
    push_done = (λ p e. e);
    pop_mine = (λ p e. e);
    pop_only = (λ p e. e);
    first_mine = (λ e. e);
    first_only = (λ e. e);
    first_done = (λ e. e);
    walk_mine = (λ j i e. e);
    walk_only = (λ j i e. e);
    aside_mine = keeps s.own (b) (Chain s.blocks) (Aside v) (λ q. ne (aside_one _ v w q aside)) (λ q. aside_not_chain _ v s.blocks q refl);
    aside_only = gains_none s.own (b) (Chain s.blocks) (Aside v) (λ q. ne (aside_one _ v w q aside)) (λ q. aside_not_chain _ v s.blocks q refl);
    chain_mine = (λ c j i e z. upd_else s.own b c (Chain s.blocks) (λ k. aside_not_chain _ w j (ap s.own k ∙ aside) e) ∙ e);
    val_mine = (λ p e. refl);
    got_mine = refl;
    closed_on = (λ e. e);
    tail_still = (λ p e k z. let same : p ≡ q = omega arith in absurd (ne (by_one _ v w (ap s.push (sym same) ∙ e) mine)));
    head_still = (λ p e k q. (refl, refl));
  }

module _ (s : Shared) (inv : Inv s) (w v : ℕ) (ne : v ≢ w) (q : ℕ) (mine : s.push q ≡ By w) (at : s.tail ≡ q + 1) where
  pub steps_rely : Rely s (steps s) v
  steps_rely = record {
    tail_up = omega arith;
    head_up = omega arith;
    blocks_up = omega arith;
    phys_old = (λ j l. refl);
    link_on = (λ j e. e);
    item_old = (λ p l. refl);
    push_mine = (λ p e. e);
    push_only = (λ p e. e);
    push_done = (λ p e. e);
    pop_mine = (λ p e. e);
    pop_only = (λ p e. e);
    first_mine = (λ e. e);
    first_only = (λ e. e);
    first_done = (λ e. e);
    walk_mine = (λ j i e. e);
    walk_only = (λ j i e. e);
    aside_mine = (λ b e. e);
    aside_only = (λ b e. e);
    chain_mine = (λ b j i e q. e);
    val_mine = (λ p e. refl);
    got_mine = refl;
    closed_on = (λ e. e);
    tail_still = (λ p e k z. let same : p ≡ q = omega arith in absurd (ne (by_one _ v w (ap s.push (sym same) ∙ e) mine)));
    head_still = (λ p e k q. (refl, refl));
  }

module _ (s : Shared) (inv : Inv s) (w v : ℕ) (ne : v ≢ w) (j : ℕ) where
  pub ties_rely : Rely s (ties j s) v
  ties_rely = record {
    tail_up = omega arith;
    head_up = omega arith;
    blocks_up = omega arith;
    phys_old = (λ j l. refl);
    link_on = (λ k e. at_or_else (λ (b : Bool). b ≡ true) s.link j k true (λ q. refl) (λ n. e));
    item_old = (λ p l. refl);
    push_mine = (λ p e. e);
    push_only = (λ p e. e);
    push_done = (λ p e. e);
    pop_mine = (λ p e. e);
    pop_only = (λ p e. e);
    first_mine = (λ e. e);
    first_only = (λ e. e);
    first_done = (λ e. e);
    walk_mine = (λ j i e. e);
    walk_only = (λ j i e. e);
    aside_mine = (λ b e. e);
    aside_only = (λ b e. e);
    chain_mine = (λ b j i e q. e);
    val_mine = (λ p e. refl);
    got_mine = refl;
    closed_on = (λ e. e);
    tail_still = (λ p e k q. (refl, refl));
    head_still = (λ p e k q. (refl, refl));
  }

module _ (s : Shared) (inv : Inv s) (w v : ℕ) (ne : v ≢ w) (p x : ℕ) (mine : s.push p ≡ By w) where
  pub writes_rely : Rely s (writes p x s) v
  writes_rely = record {
    tail_up = omega arith;
    head_up = omega arith;
    blocks_up = omega arith;
    phys_old = (λ j l. refl);
    link_on = (λ j e. e);
    item_old = (λ p l. refl);
    push_mine = (λ p e. e);
    push_only = (λ p e. e);
    push_done = (λ p e. e);
    pop_mine = (λ p e. e);
    pop_only = (λ p e. e);
    first_mine = (λ e. e);
    first_only = (λ e. e);
    first_done = (λ e. e);
    walk_mine = (λ j i e. e);
    walk_only = (λ j i e. e);
    aside_mine = (λ b e. e);
    aside_only = (λ b e. e);
    chain_mine = (λ b j i e q. e);
    val_mine = (λ q e. upd_else s.val p q x (λ k. ne (by_one _ v w (ap s.push (sym k) ∙ e) mine)));
    got_mine = refl;
    closed_on = (λ e. e);
    tail_still = (λ p e k q. (refl, refl));
    head_still = (λ p e k q. (refl, refl));
  }

module _ (s : Shared) (inv : Inv s) (w v : ℕ) (ne : v ≢ w) (p : ℕ) (mine : s.push p ≡ By w) where
  pub sets_rely : Rely s (sets p s) v
  sets_rely = record {
    tail_up = omega arith;
    head_up = omega arith;
    blocks_up = omega arith;
    phys_old = (λ j l. refl);
    link_on = (λ j e. e);
    item_old = (λ p l. refl);
    push_mine = keeps s.push (p) (Done) (By v) (λ q. ne (by_one _ v w q (mine))) (λ q. hand_by_done Done v q refl);
    push_only = gains_none s.push (p) (Done) (By v) (λ q. ne (by_one _ v w q (mine))) (λ q. hand_by_done Done v q refl);
    push_done = (λ q e. at_or_else (λ (h : Hand). h ≡ Done) s.push p q Done (λ k. refl) (λ n. e));
    pop_mine = (λ p e. e);
    pop_only = (λ p e. e);
    first_mine = (λ e. e);
    first_only = (λ e. e);
    first_done = (λ e. e);
    walk_mine = (λ j i e. e);
    walk_only = (λ j i e. e);
    aside_mine = (λ b e. e);
    aside_only = (λ b e. e);
    chain_mine = (λ b j i e q. e);
    val_mine = (λ p e. refl);
    got_mine = refl;
    closed_on = (λ e. e);
    tail_still = (λ p e k q. (refl, refl));
    head_still = (λ p e k q. (refl, refl));
  }

module _ (s : Shared) (inv : Inv s) (w v : ℕ) (ne : v ≢ w) (m : Bool) (slot : s.head % 32 < 31) where
  pub takes_rely : Rely s (takes w m s) v
  takes_rely = record {
    tail_up = omega arith;
    head_up = omega arith;
    blocks_up = omega arith;
    phys_old = (λ j l. refl);
    link_on = (λ j e. e);
    item_old = (λ p l. refl);
    push_mine = (λ p e. e);
    push_only = (λ p e. e);
    push_done = (λ p e. e);
    pop_mine = keeps s.pop s.head (By w) (By v) (λ q. hand_by_open _ v q (inv.hands.pop_open s.head (omega arith))) (λ q. ne (by_one (By w) v w q refl));
    pop_only = gains_none s.pop s.head (By w) (By v) (λ q. hand_by_open _ v q (inv.hands.pop_open s.head (omega arith))) (λ q. ne (by_one (By w) v w q refl));
    first_mine = (λ e. e);
    first_only = (λ e. e);
    first_done = (λ e. e);
    walk_mine = (λ j i e. e);
    walk_only = (λ j i e. e);
    aside_mine = (λ b e. e);
    aside_only = (λ b e. e);
    chain_mine = (λ b j i e q. e);
    val_mine = (λ p e. refl);
    got_mine = upd_else s.got w v s.head ne;
    closed_on = (λ e. e);
    tail_still = (λ p e k q. (refl, refl));
    head_still = (λ p e k q. absurd (omega arith));
  }

module _ (s : Shared) (inv : Inv s) (w v : ℕ) (ne : v ≢ w) (m : Bool) (q : ℕ) (mine : s.pop q ≡ By w) (at : s.head ≡ q + 1) where
  pub heads_rely : Rely s (heads m s) v
  heads_rely = record {
    tail_up = omega arith;
    head_up = omega arith;
    blocks_up = omega arith;
    phys_old = (λ j l. refl);
    link_on = (λ j e. e);
    item_old = (λ p l. refl);
    push_mine = (λ p e. e);
    push_only = (λ p e. e);
    push_done = (λ p e. e);
    pop_mine = (λ p e. e);
    pop_only = (λ p e. e);
    first_mine = (λ e. e);
    first_only = (λ e. e);
    first_done = (λ e. e);
    walk_mine = (λ j i e. e);
    walk_only = (λ j i e. e);
    aside_mine = (λ b e. e);
    aside_only = (λ b e. e);
    chain_mine = (λ b j i e q. e);
    val_mine = (λ p e. refl);
    got_mine = refl;
    closed_on = (λ e. e);
    tail_still = (λ p e k q. (refl, refl));
    head_still = (λ p e k z. let same : p ≡ q = omega arith in absurd (ne (by_one _ v w (ap s.pop (sym same) ∙ e) mine)));
  }

module _ (s : Shared) (inv : Inv s) (w v : ℕ) (ne : v ≢ w) (j : ℕ) (mine : s.pop (32 * j + 30) ≡ By w) (waited : s.dest j ≡ Wait) where
  pub reads_last_rely : Rely s (reads_last w j s) v
  reads_last_rely = record {
    tail_up = omega arith;
    head_up = omega arith;
    blocks_up = omega arith;
    phys_old = (λ j l. refl);
    link_on = (λ j e. e);
    item_old = (λ p l. refl);
    push_mine = (λ p e. e);
    push_only = (λ p e. e);
    push_done = (λ p e. e);
    pop_mine = keeps s.pop (32 * j + 30) (Done) (By v) (λ q. ne (by_one _ v w q (mine))) (λ q. hand_by_done Done v q refl);
    pop_only = gains_none s.pop (32 * j + 30) (Done) (By v) (λ q. ne (by_one _ v w q (mine))) (λ q. hand_by_done Done v q refl);
    first_mine = (λ e. e);
    first_only = (λ e. e);
    first_done = (λ e. e);
    walk_mine = (λ m n. keeps s.dest j (Walk w 0) (Walk v n) (λ q. walk_not_wait _ v n q waited) (λ q. ne (walk_one _ v w n 0 q refl)) m);
    walk_only = (λ m n. gains_none s.dest j (Walk w 0) (Walk v n) (λ q. walk_not_wait _ v n q waited) (λ q. ne (walk_one _ v w n 0 q refl)) m);
    aside_mine = (λ b e. e);
    aside_only = (λ b e. e);
    chain_mine = (λ b j i e q. e);
    val_mine = (λ p e. refl);
    got_mine = refl;
    closed_on = (λ e. e);
    tail_still = (λ p e k q. (refl, refl));
    head_still = (λ p e k q. (refl, refl));
  }

module _ (s : Shared) (inv : Inv s) (w v : ℕ) (ne : v ≢ w) (p : ℕ) (mine : s.pop p ≡ By w) where
  pub reads_rely : Rely s (reads p s) v
  reads_rely = record {
    tail_up = omega arith;
    head_up = omega arith;
    blocks_up = omega arith;
    phys_old = (λ j l. refl);
    link_on = (λ j e. e);
    item_old = (λ p l. refl);
    push_mine = (λ p e. e);
    push_only = (λ p e. e);
    push_done = (λ p e. e);
    pop_mine = keeps s.pop (p) (Done) (By v) (λ q. ne (by_one _ v w q (mine))) (λ q. hand_by_done Done v q refl);
    pop_only = gains_none s.pop (p) (Done) (By v) (λ q. ne (by_one _ v w q (mine))) (λ q. hand_by_done Done v q refl);
    first_mine = (λ e. e);
    first_only = (λ e. e);
    first_done = (λ e. e);
    walk_mine = (λ j i e. e);
    walk_only = (λ j i e. e);
    aside_mine = (λ b e. e);
    aside_only = (λ b e. e);
    chain_mine = (λ b j i e q. e);
    val_mine = (λ p e. refl);
    got_mine = refl;
    closed_on = (λ e. e);
    tail_still = (λ p e k q. (refl, refl));
    head_still = (λ p e k q. (refl, refl));
  }

module _ (s : Shared) (inv : Inv s) (w v : ℕ) (ne : v ≢ w) (j i : ℕ) (mine : s.pop (32 * j + i) ≡ By w) (parked : s.dest j ≡ Parked i) where
  pub reads_on_rely : Rely s (reads_on w j i s) v
  reads_on_rely = record {
    tail_up = omega arith;
    head_up = omega arith;
    blocks_up = omega arith;
    phys_old = (λ j l. refl);
    link_on = (λ j e. e);
    item_old = (λ p l. refl);
    push_mine = (λ p e. e);
    push_only = (λ p e. e);
    push_done = (λ p e. e);
    pop_mine = keeps s.pop (32 * j + i) (Done) (By v) (λ q. ne (by_one _ v w q (mine))) (λ q. hand_by_done Done v q refl);
    pop_only = gains_none s.pop (32 * j + i) (Done) (By v) (λ q. ne (by_one _ v w q (mine))) (λ q. hand_by_done Done v q refl);
    first_mine = (λ e. e);
    first_only = (λ e. e);
    first_done = (λ e. e);
    walk_mine = (λ m n. keeps s.dest j (Walk w (i + 1)) (Walk v n) (λ q. walk_not_parked _ v n i q parked) (λ q. ne (walk_one _ v w n (i + 1) q refl)) m);
    walk_only = (λ m n. gains_none s.dest j (Walk w (i + 1)) (Walk v n) (λ q. walk_not_parked _ v n i q parked) (λ q. ne (walk_one _ v w n (i + 1) q refl)) m);
    aside_mine = (λ b e. e);
    aside_only = (λ b e. e);
    chain_mine = (λ b j i e q. e);
    val_mine = (λ p e. refl);
    got_mine = refl;
    closed_on = (λ e. e);
    tail_still = (λ p e k q. (refl, refl));
    head_still = (λ p e k q. (refl, refl));
  }

module _ (s : Shared) (inv : Inv s) (w v : ℕ) (ne : v ≢ w) (j k : ℕ) (walking : s.dest j ≡ Walk w k) (bits : ℕ → ℕ → Bool) where
  pub walks_rely : Rely s (walks bits w j k s) v
  walks_rely = record {
    tail_up = omega arith;
    head_up = omega arith;
    blocks_up = omega arith;
    phys_old = (λ j l. refl);
    link_on = (λ j e. e);
    item_old = (λ p l. refl);
    push_mine = (λ p e. e);
    push_only = (λ p e. e);
    push_done = (λ p e. e);
    pop_mine = (λ p e. e);
    pop_only = (λ p e. e);
    first_mine = (λ e. e);
    first_only = (λ e. e);
    first_done = (λ e. e);
    walk_mine = (λ m n. keeps s.dest j (Walk w (k + 1)) (Walk v n) (λ q. ne (walk_one _ v w n k q walking)) (λ q. ne (walk_one _ v w n (k + 1) q refl)) m);
    walk_only = (λ m n. gains_none s.dest j (Walk w (k + 1)) (Walk v n) (λ q. ne (walk_one _ v w n k q walking)) (λ q. ne (walk_one _ v w n (k + 1) q refl)) m);
    aside_mine = (λ b e. e);
    aside_only = (λ b e. e);
    chain_mine = (λ b j i e q. e);
    val_mine = (λ p e. refl);
    got_mine = refl;
    closed_on = (λ e. e);
    tail_still = (λ p e k q. (refl, refl));
    head_still = (λ p e k q. (refl, refl));
  }

module _ (s : Shared) (inv : Inv s) (w v : ℕ) (ne : v ≢ w) (j k : ℕ) (walking : s.dest j ≡ Walk w k) where
  pub parks_rely : Rely s (parks j k s) v
  parks_rely = record {
    tail_up = omega arith;
    head_up = omega arith;
    blocks_up = omega arith;
    phys_old = (λ j l. refl);
    link_on = (λ j e. e);
    item_old = (λ p l. refl);
    push_mine = (λ p e. e);
    push_only = (λ p e. e);
    push_done = (λ p e. e);
    pop_mine = (λ p e. e);
    pop_only = (λ p e. e);
    first_mine = (λ e. e);
    first_only = (λ e. e);
    first_done = (λ e. e);
    walk_mine = (λ m n. keeps s.dest j (Parked k) (Walk v n) (λ q. ne (walk_one _ v w n k q walking)) (λ q. walk_not_parked _ v n k q refl) m);
    walk_only = (λ m n. gains_none s.dest j (Parked k) (Walk v n) (λ q. ne (walk_one _ v w n k q walking)) (λ q. walk_not_parked _ v n k q refl) m);
    aside_mine = (λ b e. e);
    aside_only = (λ b e. e);
    chain_mine = (λ b j i e q. e);
    val_mine = (λ p e. refl);
    got_mine = refl;
    closed_on = (λ e. e);
    tail_still = (λ p e k q. (refl, refl));
    head_still = (λ p e k q. (refl, refl));
  }

module _ (s : Shared) (inv : Inv s) (w v : ℕ) (ne : v ≢ w) (b : ℕ) (o : Own) (was : s.own b ≢ Aside v) (is : o ≢ Aside v) (loose : (j : ℕ) → s.own b ≢ Chain j) where
  pub owned_rely : Rely s (owned b o s) v
  owned_rely = record {
    tail_up = omega arith;
    head_up = omega arith;
    blocks_up = omega arith;
    phys_old = (λ j l. refl);
    link_on = (λ j e. e);
    item_old = (λ p l. refl);
    push_mine = (λ p e. e);
    push_only = (λ p e. e);
    push_done = (λ p e. e);
    pop_mine = (λ p e. e);
    pop_only = (λ p e. e);
    first_mine = (λ e. e);
    first_only = (λ e. e);
    first_done = (λ e. e);
    walk_mine = (λ j i e. e);
    walk_only = (λ j i e. e);
    aside_mine = keeps s.own b o (Aside v) was is;
    aside_only = gains_none s.own b o (Aside v) was is;
    chain_mine = (λ c j i e z. upd_else s.own b c o (λ k. loose j (ap s.own (sym k) ∙ e)) ∙ e);
    val_mine = (λ p e. refl);
    got_mine = refl;
    closed_on = (λ e. e);
    tail_still = (λ p e k q. (refl, refl));
    head_still = (λ p e k q. (refl, refl));
  }

module _ (s : Shared) (inv : Inv s) (w v : ℕ) (ne : v ≢ w) (j : ℕ) (walking : s.dest j ≡ Walk w 30) (chained : s.own (s.phys j) ≡ Chain j) where
  pub frees_rely : Rely s (frees j s) v
  frees_rely = record {
    tail_up = omega arith;
    head_up = omega arith;
    blocks_up = omega arith;
    phys_old = (λ j l. refl);
    link_on = (λ j e. e);
    item_old = (λ p l. refl);
    push_mine = (λ p e. e);
    push_only = (λ p e. e);
    push_done = (λ p e. e);
    pop_mine = (λ p e. e);
    pop_only = (λ p e. e);
    first_mine = (λ e. e);
    first_only = (λ e. e);
    first_done = (λ e. e);
    walk_mine = (λ m n. keeps s.dest j Freed (Walk v n) (λ q. ne (walk_one _ v w n 30 q walking)) (λ q. walk_not_freed _ v n q refl) m);
    walk_only = (λ m n. gains_none s.dest j Freed (Walk v n) (λ q. ne (walk_one _ v w n 30 q walking)) (λ q. walk_not_freed _ v n q refl) m);
    aside_mine = keeps s.own (s.phys j) Free (Aside v) (λ q. aside_not_chain _ v j q chained) (λ q. free_not_aside _ v refl q);
    aside_only = gains_none s.own (s.phys j) Free (Aside v) (λ q. aside_not_chain _ v j q chained) (λ q. free_not_aside _ v refl q);
    chain_mine = (λ c k i e z. upd_else s.own (s.phys j) c Free
        (λ q. let same : k ≡ j = chain_number k j (sym e ∙ ap s.own q ∙ chained) in ne (walk_one _ v w i 30 (ap s.dest (sym same) ∙ z) walking)) ∙ e);
    val_mine = (λ p e. refl);
    got_mine = refl;
    closed_on = (λ e. e);
    tail_still = (λ p e k q. (refl, refl));
    head_still = (λ p e k q. (refl, refl));
  }
