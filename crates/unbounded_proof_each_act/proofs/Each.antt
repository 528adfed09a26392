-- Every act of request 12's table, from wherever a worker stands, is an effect on the queue over positions.
use Prim.Native.Nat.{ℕ, ◌+◌, ◌<◌}
use mathlib.Core.Path.{◌≡◌, refl, sym, ap, subst}
use mathlib.Core.Bool.{Bool, true, false, true≢false}
use mathlib.Core.List.{List}
use native.Mathlib.Omega.{arith}
use Rattle.unbounded_words.specs.declared.Pointer.TheVariants.{To}
use Rattle.unbounded_words.specs.Words.{sizes, marked_of, with_mark, same, same_position, count_of}
use Rattle.unbounded_places.specs.declared.Slot.{Slot}
use Rattle.unbounded_places.specs.declared.Block.{Block}
use Rattle.unbounded_places.specs.declared.Ends.{Ends}
use Rattle.unbounded_places.specs.declared.Worker.{Worker}
use Rattle.unbounded_places.specs.declared.Answer.TheVariants.{Len, Yes, No}
use Rattle.unbounded_places.specs.declared.Place.{Place}
use Rattle.unbounded_places.specs.declared.Place.TheVariants.{Idle, U1, U2, U3, U4, U5, U6, U7, U8, U9, U10, U11, U12, U13, U14, U15, V2, V3, V4, V5, V6}
use Rattle.unbounded_places.specs.declared.Place.TheVariants.{V7, V8, V9, V10, V11, V12, V13, V14, V15, Len1, Len2, Len3, Empty1, Empty2, Full1, Close1}
use Rattle.unbounded_places.specs.declared.Place.TheVariants.{IsClosed1}
use Rattle.unbounded_places.specs.Places.{view_of}
use Rattle.unbounded_acts.specs.declared.Acted.{Acted}
use Rattle.unbounded_acts.specs.Acts.{leave, tail_to, yes_no, act_of}
use Rattle.unbounded_machine.specs.Turn.{cleared, block_used, slot_used}
use Rattle.unbounded_machine.proofs.Fits.{either}
use Rattle.unbounded_demands.specs.Notions.{Plain, sign_of, item_by, takes_by, Sign}
use Rattle.unbounded_proof_invariant.proofs.Queue.{Ptr, none, Free, Shared}
use Rattle.unbounded_proof_invariant.proofs.Kept.{closes, closes_kept}
use Rattle.unbounded_proof_invariant.proofs.Views.{Seen, Rest, Rely}
use Rattle.unbounded_proof_invariant.proofs.Own.{Good}
use Rattle.unbounded_proof_words.proofs.Words.{word}
use Rattle.unbounded_proof_words.proofs.Stands.{block_at, slot_at, ptr, ends_of_ring, Stands, idle, u1, u2, u3, u4, u5, u6, u7, u8, u9, u10, u11, u12, u13, u14, u15}
use Rattle.unbounded_proof_words.proofs.Stands.{v1, v2, v3, v4, v5, v6, v7, v8, v9, v10, v11, v12, v13, v14, v15, len1, len2, len3, empty1, empty2, full1}
use Rattle.unbounded_proof_words.proofs.Stands.{close1, closed1}
use Rattle.unbounded_proof_words.proofs.Sims.{rely_still, sim_closes}
use Rattle.unbounded_proof_each_act.proofs.Step.{held, tale_of, lets_go, quiet_logs, standing, Here, Step, TellsTrue, OutOk, on_ends, looks}
use Rattle.unbounded_proof_each_act.proofs.Pushes.{push_loads, push_tops, push_takes, push_takes_first, push_installs, push_fronts, push_claims}
use Rattle.unbounded_proof_each_act.proofs.Pushes.{push_appends, push_steps, push_ties, push_writes, push_sets, push_gives, push_drops_lem}
use Rattle.unbounded_proof_each_act.proofs.Pops.{pop_loads, pop_tops, pop_looks, pop_takes, pop_waits_next, pop_looks_next, pop_moves, pop_heads}
use Rattle.unbounded_proof_each_act.proofs.Pops.{pop_waits, pop_reads, pop_sets, pop_looks_read, pop_destroys, pop_frees}

module _ (blocks : List Block) (slots : List Slot) (ws : List Worker) (meter : ℕ) (s : Shared) (w : ℕ) (here : Here blocks slots ws meter s w) where
  abbrev E : Ends
  E = ends_of_ring s

  -- ---- the lookers: nothing is in their hands
  module _ (p : Place) (g : Good s w none none Rest) where
    abbrev Looks : Acted → Type 0
    Looks a = Step blocks slots ws meter s w p 0 0 slots a

    look : (q : Place) → Stands q none none Rest → sign_of p ≡ Plain → held (tale_of q) ≡ false → TellsTrue E (tale_of q) → OutOk s w p (sign_of q)
        → Looks (leave E (block_at blocks 0) (slot_at slots 0 0) q)
    look q st plain h =
        looks blocks slots ws meter s w here p q (standing s w q st g) (lets_go (ap (λ (z : Sign). item_by z (sign_of q)) plain) (ap (λ (z : Sign). takes_by z (sign_of q)) plain) h)

    answer : (b : Bool) → sign_of p ≡ Plain → Looks (leave E (block_at blocks 0) (slot_at slots 0 0) (Idle (yes_no b)))
    answer true plain = look (Idle Yes) idle plain refl tt tt
    answer false plain = look (Idle No) idle plain refl tt tt

  closes_rely : (v : ℕ) → Rely s (closes s) v
  closes_rely v =
      let r = rely_still s v in
      record {
        tail_up = r.tail_up;
        head_up = r.head_up;
        blocks_up = r.blocks_up;
        phys_old = r.phys_old;
        link_on = r.link_on;
        item_old = r.item_old;
        push_mine = r.push_mine;
        push_only = r.push_only;
        push_done = r.push_done;
        pop_mine = r.pop_mine;
        pop_only = r.pop_only;
        first_mine = r.first_mine;
        first_only = r.first_only;
        first_done = r.first_done;
        walk_mine = r.walk_mine;
        walk_only = r.walk_only;
        aside_mine = r.aside_mine;
        aside_only = r.aside_only;
        chain_mine = r.chain_mine;
        val_mine = r.val_mine;
        got_mine = r.got_mine;
        closed_on = (λ e. refl);
        tail_still = r.tail_still;
        head_still = r.head_still;
      }

  close : (g : Good s w none none Rest) → Step blocks slots ws meter s w Close1 0 0 slots (act_of sizes E 0 (block_at blocks 0) (slot_at slots 0 0) Close1 false)
  unfolding tail_to
  close g =
      either (λ (a : Acted). Step blocks slots ws meter s w Close1 0 0 slots a) (marked_of E.tail) _ _
      (λ h. look Close1 g (Idle No) idle refl refl tt tt)
      (λ h. on_ends blocks slots ws meter s w here Close1 0 0 (omega arith) (omega arith) (tail_to E (with_mark E.tail)) (Idle Yes) (closes s)
      (sim_closes E blocks slots ws meter s here.sim w here.known (Idle Yes) (closes_kept s here.sim.inv) (λ v ne. closes_rely v)
      (standing (closes s) w (Idle Yes) idle
      (record { aside = g.aside; new = g.new; apart = g.apart; seen = tt; pushes = g.pushes; pops = g.pops; firsts = g.firsts; walks = g.walks; asides = g.asides })))
      (quiet_logs s (closes s) w Close1 (Idle Yes) (lets_go refl refl refl) refl refl refl refl) tt tt)

  -- ---- every place
  module _ (lose : Bool) where
    -- an act on what it uses, and one that takes a free block
    abbrev pub Acts : Place → Bool → Type 0
    Acts p true = (k : ℕ) → k < 64 → s.own k ≡ Free → Step blocks slots ws meter s w p k 0 (cleared sizes slots k) (act_of sizes E k (block_at blocks k) (slot_at (cleared sizes slots k) k 0) p lose)
    Acts p false =
        Step blocks slots ws meter s w p (block_used (view_of sizes p).uses) (slot_used (view_of sizes p).uses) slots
        (act_of sizes E (block_used (view_of sizes p).uses) (block_at blocks (block_used (view_of sizes p).uses))
        (slot_at slots (block_used (view_of sizes p).uses) (slot_used (view_of sizes p).uses)) p lose)

    abbrev Goes : Place → Type 0
    Goes p = Acts p (view_of sizes p).takes

    at : (p q : Place) → p ≡ q → Goes q → Goes p
    at p q e = subst Goes (sym e)

    pub each : (p : Place) (a n : Ptr) (x : Seen) → (view_of sizes p).busy ≡ true → Stands p a n x → Good s w a n x → Goes p
    each p a n x busy idle g = absurd (true≢false (sym busy))
    each p a n x busy (u1 {a = c} {n = d} {x = y} en) g = at (U1 d y) (U1 (ptr c) y) (cc) (push_loads blocks slots ws meter s w here c y g)
    each p a n x busy (u2 {a = c} {n = d} {t = t} {p = i} {x = y} {m = m} en et) g = at (U2 d t y) (U2 (ptr c) (word i m) y) (cc)
        (push_tops blocks slots ws meter s w here (U2 (ptr c) (word i m) y) refl c i y m g)
    each p a n x busy (u3 {t = t} {d = d} {p = i} {b = b} {x = y} et ed l) g = at (U3 t d y) (U3 (word i false) (To b) y) (cc)
        (λ k few free. push_takes blocks slots ws meter s w here k few free i b y l g)
    each p a n x busy (u4 {a = c} {n = d} {t = t} {x = y} en et) g = at (U4 d t y) (U4 (ptr c) (word 0 false) y) (cc) (λ k few free. push_takes_first blocks slots ws meter s w here k few free c y g)
    each p a n x busy (u5 {a = c} {n = d} {d = f} {t = t} {b = b} {x = y} en et ed) g = at (U5 d t f y) (U5 (ptr c) (word 0 false) (To b) y) (cc) (push_installs blocks slots ws meter s w here c b y g)
    each p a n x busy (u6 {a = c} {n = d} {d = f} {t = t} {b = b} {x = y} en et ed) g = at (U6 d t f y) (U6 (ptr c) (word 0 false) (To b) y) (cc) (push_fronts blocks slots ws meter s w here c b y g)
    each p a n x busy (u7 {a = c} {n = d} {d = f} {t = t} {p = i} {b = b} {x = y} en et ed l) g = at (U7 d t f y) (U7 (ptr c) (word i false) (To b) y) (cc)
        (push_claims blocks slots ws meter s w here c i b y lose l g)
    each p a n x busy (u8 {a = c} {n = d} {t = t} {p = i} {x = y} {m = m} en et) g = at (U8 d t y) (U8 (ptr c) (word i m) y) (cc)
        (push_tops blocks slots ws meter s w here (U8 (ptr c) (word i m) y) refl c i y m g)
    each p a n x busy (u9 {n = d} {d = f} {t = t} {c = c} {p = i} {b = b} {x = y} en et ed) g = at (U9 d t f y) (U9 (To c) (word i false) (To b) y) (cc)
        (push_appends blocks slots ws meter s w here c i b y g)
    each p a n x busy (u10 {n = d} {d = f} {t = t} {c = c} {p = i} {b = b} {x = y} en et ed) g = at (U10 d t f y) (U10 (To c) (word i false) (To b) y) (cc)
        (push_steps blocks slots ws meter s w here c i b y g)
    each p a n x busy (u11 {n = d} {d = f} {t = t} {c = c} {p = i} {b = b} {x = y} en et ed) g = at (U11 d t f y) (U11 (To c) (word i false) (To b) y) (cc)
        (push_ties blocks slots ws meter s w here c i b y g)
    each p a n x busy (u12 {a = c} {n = d} {d = f} {t = t} {p = i} {b = b} {x = y} en et ed) g = at (U12 d t f y) (U12 (ptr c) (word i false) (To b) y) (cc)
        (push_writes blocks slots ws meter s w here c i b y g)
    each p a n x busy (u13 {a = c} {n = d} {d = f} {t = t} {p = i} {b = b} en et ed) g = at (U13 d t f) (U13 (ptr c) (word i false) (To b)) (cc) (push_sets blocks slots ws meter s w here c i b g)
    each p a n x busy (u14 {n = d} {c = c} {p = i} {a = r} {m = m} en ok) g = at (U14 d r) (U14 (To c) r) (cc) (push_gives blocks slots ws meter s w here c i r m ok g)
    each p a n x busy (u15 {n = d} {d = f} {c = c} {b = b} {x = y} en ed) g = at (U15 d f y) (U15 (To c) (To b) y) (cc) (push_drops_lem blocks slots ws meter s w here c b y g)
    each p a n x busy v1 g = pop_loads blocks slots ws meter s w here g
    each p a n x busy (v2 {h = h} {p = i} {m = m} eh) g = at (V2 h) (V2 (word i m)) (cc) (pop_tops blocks slots ws meter s w here (V2 (word i m)) refl i m g)
    each p a n x busy (v3 {h = h} {d = d} {p = i} {b = b} eh ed) g = at (V3 h d) (V3 (word i false) (ptr b)) (cc) (pop_looks blocks slots ws meter s w here i b g)
    each p a n x busy (v4 {h = h} {new = new} {d = d} {p = i} {b = b} {k = k} m eh ed ew) g = at (V4 h d new) (V4 (word i m) (To b) (word (i + 1) k)) (cc)
        (pop_takes blocks slots ws meter s w here i b m k lose g)
    each p a n x busy (v5 {h = h} {p = i} {m = m} eh) g = at (V5 h) (V5 (word i m)) (cc) (pop_tops blocks slots ws meter s w here (V5 (word i m)) refl i m g)
    each p a n x busy (v6 {h = h} {new = new} {d = d} {p = i} {b = b} m k eh ed ew) g = at (V6 h d new) (V6 (word i m) (To b) (word (i + 1) k)) (cc)
        (pop_waits_next blocks slots ws meter s w here i b m k g)
    each p a n x busy (v7 {h = h} {new = new} {d = d} {e = f} {p = i} {b = b} {c = c} m k eh ed ew ec) g = at (V7 h d new f)
        (V7 (word i m) (To b) (word (i + 1) k) (To c)) (cc) (pop_looks_next blocks slots ws meter s w here i b c m k g)
    each p a n x busy (v8 {h = h} {new = new} {d = d} {e = f} {p = i} {b = b} {c = c} {k = k} m eh ed ec ew) g = at (V8 h d f new)
        (V8 (word i m) (To b) (To c) (word (i + 2) k)) (cc) (pop_moves blocks slots ws meter s w here i b c m k g)
    each p a n x busy (v9 {h = h} {new = new} {d = d} {p = i} {b = b} {k = k} m eh ed ew) g = at (V9 h d new) (V9 (word i m) (To b) (word (i + 2) k)) (cc)
        (pop_heads blocks slots ws meter s w here i b m k g)
    each p a n x busy (v10 {h = h} {d = d} {p = i} {b = b} m eh ed) g = at (V10 h d) (V10 (word i m) (To b)) (cc) (pop_waits blocks slots ws meter s w here i b m g)
    each p a n x busy (v11 {h = h} {d = d} {p = i} {b = b} m eh ed) g = at (V11 h d) (V11 (word i m) (To b)) (cc) (pop_reads blocks slots ws meter s w here i b m g)
    each p a n x busy (v12 {h = h} {d = d} {p = i} {b = b} {v = v} m eh ed) g = at (V12 h d v) (V12 (word i m) (To b) v) (cc) (pop_sets blocks slots ws meter s w here i b v m g)
    each p a n x busy (v13 {d = d} {b = b} {i = i} {v = v} ed l) g = at (V13 d i v) (V13 (To b) i v) (cc) (pop_looks_read blocks slots ws meter s w here b i v g l)
    each p a n x busy (v14 {d = d} {b = b} {i = i} {v = v} ed l) g = at (V14 d i v) (V14 (To b) i v) (cc) (pop_destroys blocks slots ws meter s w here b i v g l)
    each p a n x busy (v15 {d = d} {b = b} {v = v} ed) g = at (V15 d v) (V15 (To b) v) (cc) (pop_frees blocks slots ws meter s w here b v g)
    each p a n x busy len1 g = look Len1 g (Len2 E.tail) len2 refl refl tt tt
    each p a n x busy (len2 {t = t}) g = look (Len2 t) g (Len3 t E.head) len3 refl refl tt tt
    each p a n x busy (len3 {t = t} {h = h}) g = either (Looks (Len3 t h) g) (same E.tail t) _ _
        (λ z. look (Len3 t h) g (Idle (Len (count_of sizes t h))) idle refl refl tt tt) (λ z. look (Len3 t h) g Len1 len1 refl refl tt tt)
    each p a n x busy empty1 g = look Empty1 g (Empty2 E.head) empty2 refl refl tt tt
    each p a n x busy (empty2 {h = h}) g = answer (Empty2 h) g (same_position h E.tail) refl
    each p a n x busy full1 g = look Full1 g (Idle No) idle refl refl tt tt
    each p a n x busy close1 g = close g
    each p a n x busy closed1 g = answer IsClosed1 g (marked_of E.tail) refl
