-- What an act of a worker comes to: the queue over positions that the machine then stands for, what a history reads off it, and that its answer is true.
use Prim.Native.Nat.{ℕ, ◌+◌, ◌*◌, ◌-◌, ◌/◌, ◌%◌, ◌<◌, ◌≤◌}
use mathlib.Core.Path.{◌≡◌, refl, sym, ap, ◌∙◌, subst}
use mathlib.Core.Bool.{Bool, true, false, true≢false}
use mathlib.Core.List.{List, [], ◌∷◌}
use native.Mathlib.Omega.{arith}
use lib.ListN.{set}
use Rattle.queue_entries.specs.Limits.{workers_most, meter_most}
use Rattle.queue_schedules.proofs.Upd.{upd}
use Rattle.unbounded_words.specs.Words.{wide}
use Rattle.unbounded_places.specs.declared.Slot.{Slot}
use Rattle.unbounded_places.specs.declared.Block.{Block}
use Rattle.unbounded_places.specs.declared.Ends.{Ends}
use Rattle.unbounded_places.specs.declared.Worker.{Worker}
use Rattle.unbounded_places.specs.declared.Answer.{Answer}
use Rattle.unbounded_places.specs.declared.Place.{Place}
use Rattle.unbounded_places.specs.declared.Place.TheVariants.{Idle, U1, U2, U3, U4, U5, U6, U7, U8, U9, U10, U11, U12, U13, U14, U15, V1, V2, V3, V4, V5, V6}
use Rattle.unbounded_places.specs.declared.Place.TheVariants.{V7, V8, V9, V10, V11, V12, V13, V14, V15, Len1, Len2, Len3, Empty1, Empty2, Full1, Close1}
use Rattle.unbounded_places.specs.declared.Place.TheVariants.{IsClosed1}
use Rattle.unbounded_acts.specs.declared.Acted.{Acted}
use Rattle.unbounded_acts.specs.Acts.{leave}
use Rattle.unbounded_demands.specs.Notions.{Sign, Plain, Exchange7, Exchange4, Pops, Pushes, HandsOut, sign_of, item_by, takes_by, Truth}
use Rattle.unbounded_proof_invariant.proofs.Queue.{Ptr, Shared}
use Rattle.unbounded_proof_invariant.proofs.Views.{Seen}
use Rattle.unbounded_proof_invariant.proofs.Own.{Good}
use Rattle.unbounded_proof_words.proofs.Stands.{new_block, slot, block_at, slot_at, ends_of_ring, Stands, Standing, Sim}
use Rattle.unbounded_proof_words.proofs.Frames.{set_same}
use Rattle.unbounded_proof_words.proofs.Sims.{sim_still}

-- How many slots there are below a position.
abbrev pub counted : ℕ → ℕ
counted p = p - p / 32

-- What a place tells: the answer it is idle with; or that its worker has a head claim whose value is not handed out yet.
pub data Tale : Type 0 where
  quiet holds : Tale
  tells : Answer → Tale

abbrev pub tale_of : Place → Tale
tale_of (Idle a) = tells a
tale_of (U1 n x) = quiet
tale_of (U2 n t x) = quiet
tale_of (U3 t b x) = quiet
tale_of (U4 n t x) = quiet
tale_of (U5 n t new x) = quiet
tale_of (U6 n t new x) = quiet
tale_of (U7 n t b x) = quiet
tale_of (U8 n t x) = quiet
tale_of (U9 n t b x) = quiet
tale_of (U10 n t b x) = quiet
tale_of (U11 n t b x) = quiet
tale_of (U12 n t b x) = quiet
tale_of (U13 n t b) = quiet
tale_of (U14 n a) = quiet
tale_of (U15 n new x) = quiet
tale_of V1 = quiet
tale_of (V2 h) = quiet
tale_of (V3 h b) = quiet
tale_of (V4 h b new) = quiet
tale_of (V5 h) = quiet
tale_of (V6 h b new) = holds
tale_of (V7 h b new next) = holds
tale_of (V8 h b next i) = holds
tale_of (V9 h b i) = holds
tale_of (V10 h b) = holds
tale_of (V11 h b) = holds
tale_of (V12 h b v) = holds
tale_of (V13 b i v) = holds
tale_of (V14 b i v) = holds
tale_of (V15 b v) = holds
tale_of Len1 = quiet
tale_of (Len2 t) = quiet
tale_of (Len3 t h) = quiet
tale_of Empty1 = quiet
tale_of (Empty2 h) = quiet
tale_of Full1 = quiet
tale_of Close1 = quiet
tale_of IsClosed1 = quiet

abbrev pub held : Tale → Bool
held quiet = false
held holds = true
held (tells a) = false

abbrev pub TellsTrue : Ends → Tale → Type 0
TellsTrue e quiet = Unit {0}
TellsTrue e holds = Unit {0}
TellsTrue e (tells a) = Truth e a

-- A value is handed out only by a worker with a head claim, and is the item of that claim.
abbrev pub OutOk : Shared → ℕ → Place → Sign → Type 0
OutOk s w p Plain = Unit {0}
OutOk s w p Exchange7 = Unit {0}
OutOk s w p Exchange4 = Unit {0}
OutOk s w p Pops = Unit {0}
OutOk s w p (Pushes x) = Unit {0}
OutOk s w p (HandsOut v) = (held (tale_of p) ≡ true) × (s.got w < s.tail) × (v ≡ s.item (s.got w))

-- What a history reads off an act from p to q: a tail claim, a head claim, or neither.
pub data Logs (s u : Shared) (w : ℕ) (p q : Place) : Type 0 where
  puts : (x : ℕ) → item_by (sign_of p) (sign_of q) ≡ x ∷ [] → takes_by (sign_of p) (sign_of q) ≡ false → s.tail % 32 < 31
      → u.tail ≡ s.tail + 1 → u.item ≡ upd s.item s.tail x → u.head ≡ s.head → u.got ≡ s.got → held (tale_of q) ≡ false → Logs s u w p q
  takes : item_by (sign_of p) (sign_of q) ≡ [] → takes_by (sign_of p) (sign_of q) ≡ true → s.head % 32 < 31 → s.head < s.tail
      → u.tail ≡ s.tail → u.item ≡ s.item → u.head ≡ s.head + 1 → u.got ≡ upd s.got w s.head → Logs s u w p q
  neither : item_by (sign_of p) (sign_of q) ≡ [] → takes_by (sign_of p) (sign_of q) ≡ false → s.tail ≤ u.tail → counted u.tail ≡ counted s.tail
      → u.item ≡ s.item → s.head ≤ u.head → counted u.head ≡ counted s.head → u.got ≡ s.got
      → (held (tale_of q) ≡ true → held (tale_of p) ≡ true) → Logs s u w p q

-- An act that claims nothing.
pub record Quiet (p q : Place) : Type 0 where
  pub no_item : item_by (sign_of p) (sign_of q) ≡ []
  pub no_taking : takes_by (sign_of p) (sign_of q) ≡ false
  pub no_more : held (tale_of q) ≡ true → held (tale_of p) ≡ true

-- it ends with nothing in hand, or comes from a head claim
pub lets_go : {p q : Place} → item_by (sign_of p) (sign_of q) ≡ [] → takes_by (sign_of p) (sign_of q) ≡ false → held (tale_of q) ≡ false → Quiet p q
lets_go a b h = record { no_item = a; no_taking = b; no_more = (λ e. absurd (true≢false (sym e ∙ h))) }

pub holds_on : {p q : Place} → item_by (sign_of p) (sign_of q) ≡ [] → takes_by (sign_of p) (sign_of q) ≡ false → held (tale_of p) ≡ true → Quiet p q
holds_on a b h = record { no_item = a; no_taking = b; no_more = (λ e. h) }

pub quiet_logs : (s u : Shared) (w : ℕ) (p q : Place) → Quiet p q → u.tail ≡ s.tail → u.item ≡ s.item → u.head ≡ s.head → u.got ≡ s.got → Logs s u w p q
quiet_logs s u w p q z t i h g =
    neither z.no_item z.no_taking (omega arith) (ap counted t) i (omega arith) (ap counted h) g z.no_more

pub standing : (u : Shared) (w : ℕ) (q : Place) {a n : Ptr} {x : Seen} → Stands q a n x → Good u w a n x → Standing u w q
standing u w q {a = a} {n = n} {x = x} t g = record { aside = a; new = n; seen = x; at = t; good = g }

-- A machine by its parts, and worker w of it.
pub record Here (blocks : List Block) (slots : List Slot) (ws : List Worker) (meter : ℕ) (s : Shared) (w : ℕ) : Type 0 where
  pub sim : Sim (ends_of_ring s) blocks slots ws meter s
  pub known : w < workers_most
  pub in_time : meter < meter_most

module _ (blocks : List Block) (slots : List Slot) (ws : List Worker) (meter : ℕ) (s : Shared) (w : ℕ) where
  -- The act a from the place p, on the block k and its slot i, the slots being as `clean` (a taken block's are cleared first).
  pub record Step (p : Place) (k i : ℕ) (clean : List Slot) (a : Acted) : Type 0 where
    pub after : Shared
    pub sim : Sim a.ends (set blocks k a.block) (set clean (k * 31 + i) a.slot) (set ws w (record { place = a.place })) (meter + 1) after
    pub logs : Logs s after w p a.place
    pub truth : TellsTrue (ends_of_ring s) (tale_of a.place)
    pub out : OutOk s w p (sign_of a.place)

  module _ (here : Here blocks slots ws meter s w) (p : Place) where
    -- no sum wraps
    pub small : 2 * s.tail + 3 < wide
    small = omega (arith, here.sim.metered, here.in_time)

    pub built : (k i : ℕ) (clean : List Slot) (e : Ends) (g : Block) (x : Slot) (q : Place) (u : Shared)
        → Sim e (set blocks k g) (set clean (k * 31 + i) x) (set ws w (record { place = q })) (meter + 1) u → Logs s u w p q → TellsTrue (ends_of_ring s) (tale_of q) → OutOk s w p (sign_of q)
        → Step p k i clean (leave e g x q)
    unfolding leave
    built k i clean e g x q u m l t o = record { after = u; sim = m; logs = l; truth = t; out = o }

    -- what was read out is stored back
    header_back : (k : ℕ) → k < 64 → set blocks k (block_at blocks k) ≡ blocks
    header_back k l = set_same blocks k new_block (omega (arith, here.sim.blocks_long))

    slot_back : (k i : ℕ) → k < 64 → i < 31 → set slots (k * 31 + i) (slot_at slots k i) ≡ slots
    slot_back k i l m = set_same slots (k * 31 + i) (slot 0 0) (omega (arith, here.sim.slots_long))

    pub back : (k i : ℕ) → k < 64 → i < 31 → (e : Ends) (q : Place) (u : Shared) → Sim e blocks slots (set ws w (record { place = q })) (meter + 1) u
        → Sim e (set blocks k (block_at blocks k)) (set slots (k * 31 + i) (slot_at slots k i)) (set ws w (record { place = q })) (meter + 1) u
    back k i l m e q u z =
        subst (λ (b : List Block). Sim e b (set slots (k * 31 + i) (slot_at slots k i)) (set ws w (record { place = q })) (meter + 1) u) (sym (header_back k l))
        (subst (λ (y : List Slot). Sim e blocks y (set ws w (record { place = q })) (meter + 1) u) (sym (slot_back k i l m)) z)

    pub still_back : (k i : ℕ) → k < 64 → i < 31 → (q : Place) → Standing s w q
        → Sim (ends_of_ring s) (set blocks k (block_at blocks k)) (set slots (k * 31 + i) (slot_at slots k i)) (set ws w (record { place = q })) (meter + 1) s
    still_back k i l m q n = back k i l m (ends_of_ring s) q s (sim_still (ends_of_ring s) blocks slots ws meter s here.sim w here.known q (meter + 1) (omega arith) n)

    -- an act on the ends, on a header, on a slot
    pub on_ends : (k i : ℕ) → k < 64 → i < 31 → (e : Ends) (q : Place) (u : Shared) → Sim e blocks slots (set ws w (record { place = q })) (meter + 1) u
        → Logs s u w p q → TellsTrue (ends_of_ring s) (tale_of q)
        → OutOk s w p (sign_of q) → Step p k i slots (leave e (block_at blocks k) (slot_at slots k i) q)
    on_ends k i l m e q u z = built k i slots e (block_at blocks k) (slot_at slots k i) q u (back k i l m e q u z)

    pub on_header : (k : ℕ) → k < 64 → (g : Block) (q : Place) (u : Shared)
        → Sim (ends_of_ring s) (set blocks k g) slots (set ws w (record { place = q })) (meter + 1) u → Logs s u w p q → TellsTrue (ends_of_ring s) (tale_of q)
        → OutOk s w p (sign_of q) → Step p k 0 slots (leave (ends_of_ring s) g (slot_at slots k 0) q)
    on_header k l g q u z =
        built k 0 slots (ends_of_ring s) g (slot_at slots k 0) q u
        (subst (λ (y : List Slot). Sim (ends_of_ring s) (set blocks k g) y (set ws w (record { place = q })) (meter + 1) u) (sym (slot_back k 0 l (omega arith))) z)

    pub on_slot : (k i : ℕ) → k < 64 → i < 31 → (x : Slot) (q : Place) (u : Shared) → Sim (ends_of_ring s) blocks (set slots (k * 31 + i) x) (set ws w (record { place = q })) (meter + 1) u → Logs s u w p q
        → TellsTrue (ends_of_ring s) (tale_of q) → OutOk s w p (sign_of q) → Step p k i slots (leave (ends_of_ring s) (block_at blocks k) x q)
    on_slot k i l m x q u z =
        built k i slots (ends_of_ring s) (block_at blocks k) x q u
        (subst (λ (b : List Block). Sim (ends_of_ring s) b (set slots (k * 31 + i) x) (set ws w (record { place = q })) (meter + 1) u) (sym (header_back k l)) z)

    -- an act that changes nothing but its worker's place
    pub loads : (k i : ℕ) → k < 64 → i < 31 → (q : Place) → Standing s w q → Quiet p q → TellsTrue (ends_of_ring s) (tale_of q) → OutOk s w p (sign_of q)
        → Step p k i slots (leave (ends_of_ring s) (block_at blocks k) (slot_at slots k i) q)
    loads k i l m q n z =
        on_ends k i l m (ends_of_ring s) q s (sim_still (ends_of_ring s) blocks slots ws meter s here.sim w here.known q (meter + 1) (omega arith) n) (quiet_logs s s w p q z refl refl refl refl)

    -- and where it uses no block
    pub looks : (q : Place) → Standing s w q → Quiet p q → TellsTrue (ends_of_ring s) (tale_of q) → OutOk s w p (sign_of q)
        → Step p 0 0 slots (leave (ends_of_ring s) (block_at blocks 0) (slot_at slots 0 0) q)
    looks q = loads 0 0 (omega arith) (omega arith) q
