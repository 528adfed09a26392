-- The rows of push: each is an effect on the queue over positions.
use Prim.Native.Nat.{ℕ, ◌+◌, ◌*◌, ◌/◌, ◌%◌, ◌<◌}
use mathlib.Core.Path.{◌≡◌, refl, sym, ap, ◌∙◌, subst}
use mathlib.Core.Bool.{Bool, true, false, cond, true≢false}
use mathlib.Core.List.{List, [], ◌∷◌}
use native.Mathlib.Omega.{arith}
use lib.ListN.{set}
use borrow.Author.Tests.{eq-eqb, ne_eqb, eqb-true, eqb-false}
use Rattle.unbounded_words.specs.declared.Index.{Index}
use Rattle.unbounded_words.specs.declared.Pointer.{Pointer}
use Rattle.unbounded_words.specs.declared.Pointer.TheVariants.{None, To}
use Rattle.unbounded_words.specs.Words.{sizes, offset_of, past_slots, last_slot, marked_of, later, same, none_of}
use Rattle.unbounded_places.specs.declared.Slot.{Slot}
use Rattle.unbounded_places.specs.declared.Block.{Block}
use Rattle.unbounded_places.specs.declared.Ends.{Ends}
use Rattle.unbounded_places.specs.declared.Worker.{Worker}
use Rattle.unbounded_places.specs.declared.Answer.{Answer}
use Rattle.unbounded_places.specs.declared.Answer.TheVariants.{Pushed, Closed}
use Rattle.unbounded_places.specs.declared.Place.{Place}
use Rattle.unbounded_places.specs.declared.Place.TheVariants.{Idle, U1, U2, U3, U4, U5, U6, U7, U8, U9, U10, U11, U12, U13, U14, U15}
use Rattle.unbounded_acts.specs.declared.Acted.{Acted}
use Rattle.unbounded_acts.specs.Acts.{leave, tail_to, front_to, back_to_words, next_to, freed, state_to, value_to, with, has, first_or, answered, lacks_next, push_from}
use Rattle.unbounded_acts.specs.Acts.{set_aside, claimed, act_u2, act_u3, act_u4, act_u5, act_u6, act_u7, act_u9, act_u10, act_u11, act_u12, act_u13, act_u14, act_u15}
use Rattle.unbounded_machine.specs.Turn.{cleared}
use Rattle.unbounded_machine.proofs.Fits.{either}
use Rattle.unbounded_demands.specs.Notions.{Plain, sign_of, item_by, takes_by, Sign, Truth}
use Rattle.unbounded_proof_invariant.proofs.Queue.{Ptr, none, to, Hand, By, Own, Free, Aside, Chain, Shared, Inv}
use Rattle.unbounded_proof_invariant.proofs.Kept.{aside_not_chain, free_not_chain, claims, claims_kept, installs, installs_kept, fronts}
use Rattle.unbounded_proof_invariant.proofs.Kept.{fronts_kept, appends, appends_kept, steps, steps_kept, ties, ties_kept, writes, writes_kept, sets, sets_kept}
use Rattle.unbounded_proof_invariant.proofs.Kept.{owned, owned_kept}
use Rattle.unbounded_proof_invariant.proofs.Views.{Rest, Installing, Tail, Claiming, Fronting, Back, Adding, Tying, Writing, Setting, SeenOk}
use Rattle.unbounded_proof_invariant.proofs.Relied.{free_not_aside, claims_rely, installs_rely, fronts_rely, appends_rely, steps_rely, ties_rely, writes_rely, sets_rely, owned_rely}
use Rattle.unbounded_proof_invariant.proofs.Own.{Good, still, new_aside, claim_slot, claim_last, step_good, tie_good, write_good, set_good, take_aside}
use Rattle.unbounded_proof_invariant.proofs.Own.{take_new, give_back, install_good, front_good, append_good}
use Rattle.unbounded_proof_words.proofs.Words.{bit, word, offset_word, past_word, last_word, mark_word, same_yes}
use Rattle.unbounded_proof_words.proofs.Stands.{new_block, slot, block_at, slot_at, ptr, back_of, ends_of_ring, is_done, read_bit, PushAnswers, pushed, closed}
use Rattle.unbounded_proof_words.proofs.Stands.{idle, u1, u2, u3, u4, u5, u6, u7, u8, u9, u10, u11, u12, u13, u14, u15, Standing, Sim}
use Rattle.unbounded_proof_words.proofs.Frames.{set_same, write_said}
use Rattle.unbounded_proof_words.proofs.Loads.{back_none, load_tail, lost_tail, same_tail, leave_tail, first_of_all, claiming}
use Rattle.unbounded_proof_words.proofs.Live.{push_live}
use Rattle.unbounded_proof_words.proofs.Sims.{sim_claims, sim_steps, sim_fronts}
use Rattle.unbounded_proof_words.proofs.Cells.{cell_at, small_at, sim_ties, sim_writes, sim_sets}
use Rattle.unbounded_proof_words.proofs.Blocks.{sim_installs, sim_appends, sim_takes_block, sim_gives_back}
use Rattle.unbounded_proof_each_act.proofs.Takings.{cleared_long, cleared_here, cleared_there}
use Rattle.unbounded_proof_each_act.proofs.Step.{held, tale_of, puts, neither, Quiet, lets_go, quiet_logs, standing, Here, Step}
use Rattle.unbounded_proof_each_act.proofs.Step.{TellsTrue, OutOk, small, built, on_ends, on_header, on_slot, looks, still_back}

-- a block set aside is not free, and not of the chain
aside_not_free : (x : Own) (w : ℕ) → x ≡ Aside w → x ≡ Free → ⊥
aside_not_free x w p q = free_not_aside x w q p

aside_one : (v w : ℕ) → Aside v ≡ Aside w → v ≡ w
aside_one v w e = cc

-- a bit that is clear is added
pub with_clear : (b n : ℕ) → n / b % 2 ≡ 0 → with b n ≡ n + b
unfolding with has
with_clear b n e = ap (λ (t : Bool). cond t n (n + b)) (ne_eqb (n / b % 2) 1 (λ z. let y : ◌≡◌ {A = ℕ} 0 1 = sym e ∙ z in omega arith))

-- the place of a position in its block
pub in_block : (p : ℕ) → p ≡ 32 * (p / 32) + p % 32
in_block p = omega arith

module _ (blocks : List Block) (slots : List Slot) (ws : List Worker) (meter : ℕ) (s : Shared) (w : ℕ) (here : Here blocks slots ws meter s w) where
  abbrev Does : Place → ℕ → ℕ → Acted → Type 0
  Does p k i a = Step blocks slots ws meter s w p k i slots a

  abbrev E : Ends
  E = ends_of_ring s

  abbrev G : ℕ → Block
  G k = block_at blocks k

  abbrev S : ℕ → ℕ → Slot
  S k i = slot_at slots k i

  inv : Inv s
  inv = here.sim.inv

  move_to : Place → List Worker
  move_to q = set ws w (record { place = q })

  -- U1
  pub push_loads : (a : Ptr) (x : ℕ) → Good s w a none Rest → Does (U1 (ptr a) x) 0 0 (leave E (G 0) (S 0 0) (U2 (ptr a) E.tail x))
  push_loads a x g =
      looks blocks slots ws meter s w here (U1 (ptr a) x) (U2 (ptr a) E.tail x) (standing s w (U2 (ptr a) E.tail x) (u2 refl refl) (load_tail s inv w a none g)) (lets_go refl refl refl) tt tt

  true_then : (r : Answer) (m : Bool) → PushAnswers r m → (m ≡ true → s.closed ≡ true) → Truth E r
  true_then r m pushed shut = tt
  true_then r m closed shut = mark_word s.tail s.closed ∙ shut refl

  plain_then : (r : Answer) (m : Bool) → PushAnswers r m → sign_of (Idle r) ≡ Plain
  plain_then r m pushed = refl
  plain_then r m closed = refl

  -- the answer of a push, with U14 first if a block is set aside
  says : (p : Place) (k i : ℕ) (u : Shared) (e : Ends) (g : Block) (y : Slot) (a : Ptr) (m : Bool) (r : Answer) → PushAnswers r m → sign_of p ≡ Plain → Good u w a none (Tail 0 m)
      → (m ≡ true → s.closed ≡ true) → u.tail ≡ s.tail → u.item ≡ s.item → u.head ≡ s.head → u.got ≡ s.got
      → ((q : Place) → Standing u w q → Sim e (set blocks k g) (set slots (k * 31 + i) y) (set ws w (record { place = q })) (meter + 1) u)
      → Does p k i (leave e g y (answered (ptr a) r))
  unfolding answered
  says p k i u e g y none m r ok plain good shut et ei eh eg sim =
      built blocks slots ws meter s w here p k i slots e g y (Idle r) u (sim (Idle r) (standing u w (Idle r) idle (still u w none none (Tail 0 m) Rest good refl refl refl tt)))
      (quiet_logs s u w p (Idle r) (lets_go (ap (λ (z : Sign). item_by z (sign_of (Idle r))) plain) (ap (λ (z : Sign). takes_by z (sign_of (Idle r))) plain) refl) et ei eh eg)
      (true_then r m ok shut) (subst (OutOk s w p) (sym (plain_then r m ok)) tt)
  says p k i u e g y (to c) m r ok plain good shut et ei eh eg sim =
      built blocks slots ws meter s w here p k i slots e g y (U14 (To c) r) u (sim (U14 (To c) r) (standing u w (U14 (To c) r) (u14 refl ok) good))
      (quiet_logs s u w p (U14 (To c) r) (lets_go (ap (λ (z : Sign). item_by z Plain) plain) (ap (λ (z : Sign). takes_by z Plain) plain) refl) et ei eh eg) tt tt

  is_none : (a : Ptr) → none_of (ptr a) ≡ true → a ≡ none
  is_none none e = refl
  is_none (to c) e = absurd (true≢false (sym e))

  last_of : (a : Ptr) (p : ℕ) → lacks_next sizes (ptr a) (word p false) ≡ true → (p % 32 ≡ 30) × (a ≡ none)
  unfolding lacks_next
  last_of a p k =
      either (λ (t : Bool). t ≡ true → (p % 32 ≡ 30) × (a ≡ none)) (last_slot sizes (word p false)) (none_of (ptr a)) false
      (λ h z. (let e = eqb-true (p % 32 + 1) 31 (sym (last_word p false) ∙ h) in omega arith, is_none a z)) (λ h z. absurd (true≢false (sym z))) k

  not_last : (a : Ptr) (p : ℕ) → lacks_next sizes (ptr a) (word p false) ≡ false → p % 32 ≡ 30 → none_of (ptr a) ≡ false
  unfolding lacks_next
  not_last a p k e = sym (ap (λ (t : Bool). cond t (none_of (ptr a)) false) (last_word p false ∙ eq-eqb (p % 32 + 1) 31 (omega arith))) ∙ k

  none_or_to : (a : Ptr) → none_of (ptr a) ≡ false → (c : ℕ) × (a ≡ to c)
  none_or_to none e = absurd (true≢false e)
  none_or_to (to c) e = (c, refl)

  -- U2, U8: the top of the loop
  module _ (p0 : Place) (plain : sign_of p0 ≡ Plain) where
    goes : (q : Place) → Standing s w q → held (tale_of q) ≡ false → TellsTrue E (tale_of q) → OutOk s w p0 (sign_of q) → Does p0 0 0 (leave E (G 0) (S 0 0) q)
    goes q n h = looks blocks slots ws meter s w here p0 q n (lets_go (ap (λ (z : Sign). item_by z (sign_of q)) plain) (ap (λ (z : Sign). takes_by z (sign_of q)) plain) h)

    abbrev To' : Place → Type 0
    To' q = Does p0 0 0 (leave E (G 0) (S 0 0) q)

    -- where tail's block is d
    with_block : (a : Ptr) (p x : ℕ) → Good s w a none (Tail p false) → p % 32 < 31 → (d : Pointer) → back_of s.blocks s.phys ≡ d → (lacks : Bool) → lacks_next sizes (ptr a) (word p false) ≡ lacks
        → To' (cond lacks (U3 (word p false) d x) (first_or (ptr a) (word p false) d x))
    unfolding first_or lacks_next
    with_block a p x g l None e true k = absurd (omega (arith, first_of_all s inv w a none p false g e, (last_of a p k).0))
    with_block a p x g l None e false k =
        goes (U4 (ptr a) (word p false) x) (standing s w (U4 (ptr a) (word p false) x)
        (u4 refl (ap (λ (i : ℕ). word i false) (first_of_all s inv w a none p false g e))) (leave_tail s inv w a none p false g)) refl tt tt
    with_block a p x g l (To b) e true k =
        goes (U3 (word p false) (To b) x)
        (standing s w (U3 (word p false) (To b) x) (u3 refl refl (last_of a p k).0)
        (subst (λ (c : Ptr). Good s w c none (Claiming p b)) (last_of a p k).1 (claiming s inv w a none p b false g l e))) refl tt tt
    with_block a p x g l (To b) e false k =
        goes (U7 (ptr a) (word p false) (To b) x)
        (standing s w (U7 (ptr a) (word p false) (To b) x) (u7 refl refl refl (λ z. none_or_to a (not_last a p k z))) (claiming s inv w a none p b false g l e)) refl tt tt

    pub push_tops : (a : Ptr) (p x : ℕ) (m : Bool) → Good s w a none (Tail p m) → Does p0 0 0 (act_u2 sizes E (G 0) (S 0 0) (ptr a) (word p m) x)
    unfolding push_from
    push_tops a p x true g =
        either To' (marked_of (word p true)) (answered (ptr a) (Closed x)) _
        (λ h. says p0 0 0 s E (G 0) (S 0 0) a true (Closed x) closed plain
        (still s w a none (Tail p true) (Tail 0 true) g refl refl refl (omega arith, g.seen.1)) g.seen.1 refl refl refl refl
        (λ q n. still_back blocks slots ws meter s w here p0 0 0 (omega arith) (omega arith) q n))
        (λ h. absurd (true≢false (sym (mark_word p true) ∙ h)))
    push_tops a p x false g =
        either To' (marked_of (word p false)) (answered (ptr a) (Closed x)) _
        (λ h. absurd (true≢false (sym h ∙ mark_word p false)))
        (λ h. either To' (past_slots sizes (word p false)) (U1 (ptr a) x) _
        (λ k. goes (U1 (ptr a) x) (standing s w (U1 (ptr a) x) (u1 refl) (leave_tail s inv w a none p false g)) refl tt tt)
        (λ k. with_block a p x g (let ne = eqb-false (p % 32) 31 (sym (past_word p false) ∙ k) in omega arith) (back_of s.blocks s.phys) refl (lacks_next sizes (ptr a) (word p false)) refl))

  -- U3: block k is taken and set aside
  module _ (k : ℕ) (few : k < 64) (free : s.own k ≡ Free) where
    abbrev clean : List Slot
    clean = cleared sizes slots k

    takes_block : (p0 q : Place) → Standing (owned k (Aside w) s) w q → Quiet p0 q → TellsTrue E (tale_of q) → OutOk s w p0 (sign_of q)
        → Step blocks slots ws meter s w p0 k 0 clean (leave E new_block (slot_at clean k 0) q)
    takes_block p0 q n z t o =
        built blocks slots ws meter s w here p0 k 0 clean E new_block (slot_at clean k 0) q (owned k (Aside w) s)
        (subst (λ (y : List Slot). Sim E (set blocks k new_block) y (set ws w (record { place = q })) (meter + 1) (owned k (Aside w) s))
        (sym (set_same clean (k * 31 + 0) (slot 0 0) (omega (arith, cleared_long slots k, here.sim.slots_long))))
        (sim_takes_block E blocks slots ws meter s here.sim w here.known q k clean free few (cleared_long slots k ∙ here.sim.slots_long)
        (cleared_here slots k here.sim.slots_long few) (cleared_there slots k)
        (owned_kept s inv k (Aside w) (λ j e. free_not_chain (s.own k) j free e) (λ j e. aside_not_chain (Aside w) w j refl e))
        (λ v ne. owned_rely s inv w v ne k (Aside w) (λ e. free_not_aside (s.own k) v free e) (λ e. ne (aside_one v w (sym e))) (λ j e. free_not_chain (s.own k) j free e)) n))
        (quiet_logs s (owned k (Aside w) s) w p0 q z refl refl refl refl) t o

    pub push_takes : (p b x : ℕ) → p % 32 ≡ 30 → Good s w none none (Claiming p b)
        → Step blocks slots ws meter s w (U3 (word p false) (To b) x) k 0 clean (act_u3 E k (slot_at clean k 0) (word p false) (To b) x)
    unfolding first_or
    push_takes p b x l g =
        takes_block (U3 (word p false) (To b) x) (U7 (To k) (word p false) (To b) x)
        (standing (owned k (Aside w) s) w (U7 (To k) (word p false) (To b) x) (u7 {a = to k} refl refl refl (λ z. (k, refl)))
        (take_aside s inv w k (Claiming p b) (Claiming p b) refl refl refl free g.seen none g)) (lets_go refl refl refl) tt tt

    -- U4
    pub push_takes_first : (a : Ptr) (x : ℕ) → Good s w a none Rest → Step blocks slots ws meter s w (U4 (ptr a) (word 0 false) x) k 0 clean (act_u4 E k (slot_at clean k 0) (ptr a) (word 0 false) x)
    push_takes_first a x g =
        takes_block (U4 (ptr a) (word 0 false) x) (U5 (ptr a) (word 0 false) (To k) x)
        (standing (owned k (Aside w) s) w (U5 (ptr a) (word 0 false) (To k) x) (u5 refl refl refl) (take_new s inv w k Rest Installing refl refl refl free tt a g)) (lets_go refl refl refl) tt tt

  -- U5
  pub push_installs : (a : Ptr) (b x : ℕ) → Good s w a (to b) Installing → Does (U5 (ptr a) (word 0 false) (To b) x) 0 0 (act_u5 E (G 0) (S 0 0) (ptr a) (word 0 false) (To b) x)
  unfolding back_to_words set_aside
  push_installs a b x g = go (back_of s.blocks s.phys) refl
    where
      won : s.blocks ≡ 0 → Does (U5 (ptr a) (word 0 false) (To b) x) 0 0 (leave (back_to_words E (To b)) (G 0) (S 0 0) (U6 (ptr a) (word 0 false) (To b) x))
      won e =
          on_ends blocks slots ws meter s w here (U5 (ptr a) (word 0 false) (To b) x) 0 0 (omega arith) (omega arith) (back_to_words E (To b)) (U6 (ptr a) (word 0 false) (To b) x) (installs w b s)
          (sim_installs E blocks slots ws meter s here.sim w here.known (U6 (ptr a) (word 0 false) (To b) x) b (To b) refl e (g.new b refl)
          (installs_kept s inv w b e (g.new b refl)) (λ v ne. installs_rely s inv w v ne b e (g.new b refl))
          (standing (installs w b s) w (U6 (ptr a) (word 0 false) (To b) x) (u6 refl refl refl) (install_good s inv w b a g e)))
          (quiet_logs s (installs w b s) w (U5 (ptr a) (word 0 false) (To b) x) (U6 (ptr a) (word 0 false) (To b) x) (lets_go refl refl refl) refl refl refl refl) tt tt

      lost : (d : Ptr) → a ≡ d → Does (U5 (ptr a) (word 0 false) (To b) x) 0 0 (leave E (G 0) (S 0 0) (set_aside (ptr d) (To b) x))
      lost none e =
          looks blocks slots ws meter s w here (U5 (ptr a) (word 0 false) (To b) x) (U1 (To b) x)
          (standing s w (U1 (To b) x) (u1 {a = to b} refl) (new_aside s w (to b) Installing Rest
          (subst (λ (z : Ptr). Good s w z (to b) Installing) e g) refl refl refl tt)) (lets_go refl refl refl) tt tt
      lost (to c) e =
          looks blocks slots ws meter s w here (U5 (ptr a) (word 0 false) (To b) x) (U15 (To c) (To b) x)
          (standing s w (U15 (To c) (To b) x) (u15 refl refl) (still s w (to c) (to b) Installing Rest
          (subst (λ (z : Ptr). Good s w z (to b) Installing) e g) refl refl refl tt)) (lets_go refl refl refl) tt tt

      go : (d : Pointer) → back_of s.blocks s.phys ≡ d
          → Does (U5 (ptr a) (word 0 false) (To b) x) 0 0 (cond (none_of d) (leave (back_to_words E (To b)) (G 0) (S 0 0) (U6 (ptr a) (word 0 false) (To b) x))
          (leave E (G 0) (S 0 0) (set_aside (ptr a) (To b) x)))
      go None e = won (back_none s.blocks s.phys e)
      go (To d) e = lost a refl

  -- U6
  pub push_fronts : (a : Ptr) (b x : ℕ) → Good s w a none (Fronting b) → Does (U6 (ptr a) (word 0 false) (To b) x) 0 0 (act_u6 E (G 0) (S 0 0) (ptr a) (word 0 false) (To b) x)
  unfolding front_to
  push_fronts a b x g =
      on_ends blocks slots ws meter s w here (U6 (ptr a) (word 0 false) (To b) x) 0 0 (omega arith) (omega arith) (front_to E (To b)) (U7 (ptr a) (word 0 false) (To b) x) (fronts b s)
      (sim_fronts E blocks slots ws meter s here.sim w here.known (U7 (ptr a) (word 0 false) (To b) x) b (To b) refl
      (fronts_kept s inv w b g.seen.0 g.seen.2) (λ v ne. fronts_rely s inv w v ne b g.seen.0)
      (standing (fronts b s) w (U7 (ptr a) (word 0 false) (To b) x) (u7 refl refl refl (λ z. absurd (omega arith))) (front_good s w b a none inv g)))
      (quiet_logs s (fronts b s) w (U6 (ptr a) (word 0 false) (To b) x) (U7 (ptr a) (word 0 false) (To b) x) (lets_go refl refl refl) refl refl refl refl) tt tt

  -- U7
  pub push_claims : (a : Ptr) (p b x : ℕ) (lose : Bool) → (p % 32 ≡ 30 → (c : ℕ) × (a ≡ to c)) → Good s w a none (Claiming p b)
      → Does (U7 (ptr a) (word p false) (To b) x) 0 0 (act_u7 sizes E (G 0) (S 0 0) (ptr a) (word p false) (To b) x lose)
  unfolding tail_to claimed
  push_claims a p b x lose has_next g =
      either P (same E.tail (word p false)) (cond lose (leave E (G 0) (S 0 0) (U8 (ptr a) (word p false) x)) _) (leave E (G 0) (S 0 0) (U8 (ptr a) E.tail x))
      (λ h. either P lose (leave E (G 0) (S 0 0) (U8 (ptr a) (word p false) x)) _
      (λ k. looks blocks slots ws meter s w here p0 (U8 (ptr a) (word p false) x)
      (standing s w (U8 (ptr a) (word p false) x) (u8 refl refl) (same_tail s inv w a none p b g)) (lets_go refl refl refl) tt tt)
      (λ k. won (same_yes s.tail p s.closed false h).0 (same_yes s.tail p s.closed false h).1))
      (λ h. looks blocks slots ws meter s w here p0 (U8 (ptr a) E.tail x) (standing s w (U8 (ptr a) E.tail x) (u8 refl refl) (lost_tail s inv w a none p b g)) (lets_go refl refl refl) tt tt)
    where
      p0 : Place
      p0 = U7 (ptr a) (word p false) (To b) x

      P : Acted → Type 0
      P z = Does (U7 (ptr a) (word p false) (To b) x) 0 0 z

      won : s.tail ≡ p → s.closed ≡ false → P (leave (tail_to E (later (word p false))) (G 0) (S 0 0) (claimed sizes (ptr a) (word p false) (To b) x))
      won et ec =
          either (λ (q : Place). P (leave (tail_to E (later (word p false))) (G 0) (S 0 0) q)) (last_slot sizes (word p false)) (U9 (ptr a) (word p false) (To b) x) (U12 (ptr a) (word p false) (To b) x)
          (λ h. let l : p % 32 ≡ 30 = (let e = eqb-true (p % 32 + 1) 31 (sym (last_word p false) ∙ h) in omega arith) in
          let c = has_next l in
          claim (U9 (ptr a) (word p false) (To b) x) (standing (claims w x s) w (U9 (ptr a) (word p false) (To b) x) (u9 {c = c.0} (ap ptr c.1) refl refl)
          (subst (λ (z : Ptr). Good (claims w x s) w z none (Back p b x)) c.1 (claim_last s inv w a none p b x g et l))) refl refl refl tt tt)
          (λ h. let l : p % 32 < 30 = (let e = eqb-false (p % 32 + 1) 31 (sym (last_word p false) ∙ h) in omega (arith, g.seen.0)) in
          claim (U12 (ptr a) (word p false) (To b) x) (standing (claims w x s) w (U12 (ptr a) (word p false) (To b) x) (u12 refl refl refl)
          (claim_slot s inv w a none p b x g et l)) refl refl refl tt tt)
        where
          claim : (q : Place) → Standing (claims w x s) w q → item_by (sign_of (U7 (ptr a) (word p false) (To b) x)) (sign_of q) ≡ x ∷ []
              → takes_by (sign_of (U7 (ptr a) (word p false) (To b) x)) (sign_of q) ≡ false
              → held (tale_of q) ≡ false → TellsTrue E (tale_of q) → OutOk s w (U7 (ptr a) (word p false) (To b) x) (sign_of q) → P (leave (tail_to E (later (word p false))) (G 0) (S 0 0) q)
          claim q n ei et' eh t o =
              on_ends blocks slots ws meter s w here (U7 (ptr a) (word p false) (To b) x) 0 0 (omega arith) (omega arith) (tail_to E (later (word p false))) q (claims w x s)
              (subst (λ (z : Index). Sim (record { head = E.head; front = E.front; tail = later z; back = E.back }) blocks slots
              (set ws w (record { place = q })) (meter + 1) (claims w x s)) (ap (λ (i : ℕ). word i s.closed) et ∙ ap (word p) ec)
              (sim_claims E blocks slots ws meter s here.sim w here.known q x ec (small blocks slots ws meter s w here q)
              (claims_kept s inv w x (omega (arith, g.seen.0)) g.seen.2) (λ v ne. claims_rely s inv w v ne x (omega (arith, g.seen.0))) n))
              (puts x ei et' (omega (arith, g.seen.0)) refl refl refl refl eh) t o

  -- U9
  pub push_appends : (c p b x : ℕ) → Good s w (to c) none (Back p b x) → Does (U9 (To c) (word p false) (To b) x) c 0 (act_u9 E (G c) (S c 0) (To c) (word p false) (To b) x)
  unfolding back_to_words
  push_appends c p b x g =
      let o = g.seen in
      let mine = g.aside c refl in
      on_ends blocks slots ws meter s w here (U9 (To c) (word p false) (To b) x) c 0 (here.sim.pool c (aside_not_free (s.own c) w mine)) (omega arith)
      (back_to_words E (To c)) (U10 (To c) (word p false) (To b) x) (appends c s)
      (sim_appends E blocks slots ws meter s here.sim w here.known (U10 (To c) (word p false) (To b) x) c (To c) refl (omega (arith, o.4)) mine
      (appends_kept s inv w c mine (omega (arith, o.2, o.3)) (omega (arith, o.2, o.3, o.4))) (λ v ne. appends_rely s inv w v ne c p mine o.0.0 o.3)
      (standing (appends c s) w (U10 (To c) (word p false) (To b) x) (u10 refl refl refl) (append_good s inv w c b x p none g)))
      (quiet_logs s (appends c s) w (U9 (To c) (word p false) (To b) x) (U10 (To c) (word p false) (To b) x) (lets_go refl refl refl) refl refl refl refl) tt tt

  -- U10
  pub push_steps : (c p b x : ℕ) → Good s w none none (Adding p b c x) → Does (U10 (To c) (word p false) (To b) x) 0 0 (act_u10 E (G 0) (S 0 0) (To c) (word p false) (To b) x)
  unfolding tail_to
  push_steps c p b x g =
      let o = g.seen in
      on_ends blocks slots ws meter s w here (U10 (To c) (word p false) (To b) x) 0 0 (omega arith) (omega arith) (tail_to E (later E.tail)) (U11 (To c) (word p false) (To b) x) (steps s)
      (sim_steps E blocks slots ws meter s here.sim w here.known (U11 (To c) (word p false) (To b) x) (small blocks slots ws meter s w here (U11 (To c) (word p false) (To b) x))
      (steps_kept s inv (omega (arith, o.2, o.3)) (omega (arith, o.2, o.3, o.4))) (λ v ne. steps_rely s inv w v ne p o.0.0 o.3)
      (standing (steps s) w (U11 (To c) (word p false) (To b) x) (u11 refl refl refl) (step_good s inv w none none p b c x g)))
      (neither refl refl (omega arith) (omega (arith, o.2, o.3)) refl (omega arith) refl refl (λ e. absurd (true≢false (sym e)))) tt tt

  -- U11
  pub push_ties : (c p b x : ℕ) → Good s w none none (Tying p b c x) → Does (U11 (To c) (word p false) (To b) x) b 0 (act_u11 E (G b) (S b 0) (To c) (word p false) (To b) x)
  unfolding next_to
  push_ties c p b x g =
      let o = g.seen in
      let live = push_live s inv w p b o.0 in
      on_header blocks slots ws meter s w here (U11 (To c) (word p false) (To b) x) b (here.sim.pool b (λ z. free_not_chain (s.own b) (p / 32) z live))
      (next_to (G b) (To c)) (U12 None (word p false) (To b) x) (ties (p / 32) s)
      (sim_ties E blocks slots ws meter s here.sim w here.known (U12 None (word p false) (To b) x) b (p / 32) (To c) live (ap To o.4)
      (ties_kept s inv (p / 32) o.3) (λ v ne. ties_rely s inv w v ne (p / 32))
      (standing (ties (p / 32) s) w (U12 None (word p false) (To b) x) (u12 {a = none} refl refl refl) (tie_good s inv w none none p b c x g)))
      (quiet_logs s (ties (p / 32) s) w (U11 (To c) (word p false) (To b) x) (U12 None (word p false) (To b) x) (lets_go refl refl refl) refl refl refl refl) tt tt

  -- the slot of a position in hand
  pub at_slot : (p0 : Place) (b p : ℕ) (m : Bool) (f : ℕ → Acted) → Does p0 b (p % 32) (f (p % 32)) → Does p0 b (offset_of sizes (word p m)) (f (offset_of sizes (word p m)))
  at_slot p0 b p m f z = subst (λ (i : ℕ). Does p0 b i (f i)) (sym (offset_word p m)) z

  -- U12
  pub push_writes : (a : Ptr) (p b x : ℕ) → Good s w a none (Writing p b x)
      → Does (U12 (ptr a) (word p false) (To b) x) b (offset_of sizes (word p false)) (act_u12 E (G b) (S b (offset_of sizes (word p false))) (ptr a) (word p false) (To b) x)
  unfolding value_to
  push_writes a p b x g =
      at_slot (U12 (ptr a) (word p false) (To b) x) b p false (λ i. act_u12 E (G b) (S b i) (ptr a) (word p false) (To b) x)
      (on_slot blocks slots ws meter s w here (U12 (ptr a) (word p false) (To b) x) b (p % 32)
      (small_at E blocks slots ws meter s here.sim w here.known q b (p / 32) live) o.0.2 (value_to (S b (p % 32)) x) q
      (writes (32 * (p / 32) + p % 32) x s)
      (sim_writes E blocks slots ws meter s here.sim w here.known q b (p / 32) (p % 32) live o.0.2 x w (subst (λ (i : ℕ). s.push i ≡ By w) (in_block p) o.0.0)
      (writes_kept s inv (32 * (p / 32) + p % 32) x (subst (λ (i : ℕ). x ≡ s.item i) (in_block p) (sym o.1)))
      (λ v ne. writes_rely s inv w v ne (32 * (p / 32) + p % 32) x (subst (λ (i : ℕ). s.push i ≡ By w) (in_block p) o.0.0))
      (standing (writes (32 * (p / 32) + p % 32) x s) w q (u13 refl refl refl) (subst (λ (i : ℕ). Good (writes i x s) w a none (Setting p b)) (in_block p) (write_good s inv w a none p b x g))))
      (quiet_logs s (writes (32 * (p / 32) + p % 32) x s) w (U12 (ptr a) (word p false) (To b) x) q (lets_go refl refl refl) refl refl refl refl) tt tt)
    where
      q : Place
      q = U13 (ptr a) (word p false) (To b)

      o : SeenOk s w (Writing p b x)
      o = g.seen

      live : s.own b ≡ Chain (p / 32)
      live = push_live s inv w p b o.0

  -- U13
  pub push_sets : (a : Ptr) (p b : ℕ) → Good s w a none (Setting p b)
      → Does (U13 (ptr a) (word p false) (To b)) b (offset_of sizes (word p false)) (act_u13 E (G b) (S b (offset_of sizes (word p false))) (ptr a))
  unfolding state_to
  push_sets a p b g =
      at_slot p0 b p false (λ i. act_u13 E (G b) (S b i) (ptr a))
      (says p0 b (p % 32) u E (G b) (state_to (S b (p % 32)) (with 1 (S b (p % 32)).state)) a false Pushed pushed refl
      (still u w a none Rest (Tail 0 false) (subst (λ (i : ℕ). Good (sets i s) w a none Rest) (in_block p) (set_good s inv w a none p b g)) refl refl refl
      (omega arith, λ e. absurd (true≢false (sym e)))) (λ e. absurd (true≢false (sym e)))
      refl refl refl refl simulates)
    where
      p0 : Place
      p0 = U13 (ptr a) (word p false) (To b)

      u : Shared
      u = sets (32 * (p / 32) + p % 32) s

      live : s.own b ≡ Chain (p / 32)
      live = push_live s inv w p b g.seen.0

      mine : s.push (32 * (p / 32) + p % 32) ≡ By w
      mine = subst (λ (i : ℕ). s.push i ≡ By w) (in_block p) g.seen.0.0

      clear : (S b (p % 32)).state / 1 % 2 ≡ 0
      clear =
          ap (λ (y : Slot). y.state / 1 % 2) (cell_at E blocks slots ws meter s here.sim w here.known p0 b (p / 32) (p % 32) live g.seen.0.2)
          ∙ write_said (is_done (s.push (32 * (p / 32) + p % 32))) (read_bit (p % 32) (s.pop (32 * (p / 32) + p % 32))) (s.destroy (p / 32) (p % 32)) ∙ ap (λ (h : Hand). bit (is_done h)) mine

      simulates : (q : Place) → Standing u w q → Sim E (set blocks b (G b))
          (set slots (b * 31 + p % 32) (state_to (S b (p % 32)) (with 1 (S b (p % 32)).state))) (set ws w (record { place = q })) (meter + 1) u
      simulates q n =
          let few = small_at E blocks slots ws meter s here.sim w here.known q b (p / 32) live in
          subst (λ (l : List Block). Sim E l (set slots (b * 31 + p % 32) (record { state = with 1 (S b (p % 32)).state; value = (S b (p % 32)).value }))
          (set ws w (record { place = q })) (meter + 1) u)
          (sym (set_same blocks b new_block (omega (arith, here.sim.blocks_long))))
          (subst (λ (k : ℕ). Sim E blocks (set slots (b * 31 + p % 32) (record { state = k; value = (S b (p % 32)).value })) (set ws w (record { place = q }))
          (meter + 1) u) (sym (with_clear 1 (S b (p % 32)).state clear))
          (sim_sets E blocks slots ws meter s here.sim w here.known q b (p / 32) (p % 32) live g.seen.0.2 w mine
          (sets_kept s inv w (32 * (p / 32) + p % 32) mine (subst (λ (i : ℕ). s.val i ≡ s.item i) (in_block p) g.seen.2)
          (λ j e. let z : j ≡ p / 32 = omega arith in ap s.link z ∙ g.seen.1 (omega arith)))
          (λ v ne. sets_rely s inv w v ne (32 * (p / 32) + p % 32) mine) n))

  -- U14 and U15: a block set aside is freed
  gives : (p0 q : Place) (c : ℕ) → s.own c ≡ Aside w → Standing (owned c Free s) w q → Quiet p0 q → TellsTrue E (tale_of q) → OutOk s w p0 (sign_of q)
      → Does p0 c 0 (leave E (freed (G c)) (S c 0) q)
  unfolding freed
  gives p0 q c mine n z t o =
      let few = here.sim.pool c (aside_not_free (s.own c) w mine) in
      on_header blocks slots ws meter s w here p0 c few (freed (G c)) q (owned c Free s)
      (sim_gives_back E blocks slots ws meter s here.sim w here.known q c few
      (owned_kept s inv c Free (λ j e. aside_not_chain (s.own c) w j mine e) (λ j e. free_not_chain Free j refl e))
      (λ v ne. owned_rely s inv w v ne c Free (λ e. ne (aside_one v w (sym e ∙ mine))) (λ e. free_not_aside Free v refl e) (λ j e. aside_not_chain (s.own c) w j mine e)) n)
      (quiet_logs s (owned c Free s) w p0 q z refl refl refl refl) t o

  pub push_gives : (c p : ℕ) (r : Answer) (m : Bool) → PushAnswers r m → Good s w (to c) none (Tail p m) → Does (U14 (To c) r) c 0 (act_u14 E (G c) (S c 0) r)
  push_gives c p r m ok g =
      gives (U14 (To c) r) (Idle r) c (g.aside c refl) (standing (owned c Free s) w (Idle r) idle (give_back s inv w c (Tail p m) Rest refl refl refl none tt g))
      (lets_go refl refl refl) (true_then r m ok g.seen.1) (subst (OutOk s w (U14 (To c) r)) (sym (plain_then r m ok)) tt)

  pub push_drops_lem : (c b x : ℕ) → Good s w (to c) (to b) Rest → Does (U15 (To c) (To b) x) c 0 (act_u15 E (G c) (S c 0) (To b) x)
  push_drops_lem c b x g =
      gives (U15 (To c) (To b) x) (U1 (To b) x) c (g.aside c refl)
      (standing (owned c Free s) w (U1 (To b) x) (u1 {a = to b} refl) (give_back s inv w c Rest Rest refl refl refl (to b) tt g))
      (lets_go refl refl refl) tt tt
