-- What a worker's place relies on, what an act of another leaves it, and that this is enough.
use mathlib.Core.Path.{◌≡◌, refl, sym, ap, ◌∙◌}
use mathlib.Core.Bool.{Bool, true}
use Prim.Native.Nat.{ℕ, ◌+◌, ◌*◌, ◌/◌, ◌%◌, ◌≤◌, ◌<◌}
use native.Mathlib.Omega.{arith}
use native.Mathlib.Decide.{dec_lt}
use Rattle.unbounded_proof_invariant.proofs.Queue.{Ptr, none, to, Done, By, Walk, Aside, Chain, Shared, Inv}
use Rattle.unbounded_proof_invariant.proofs.Kept.{hand_open_done}

-- By the places of request 12's table; p is the position of the loaded word, b its block, x the item.
pub data Seen : Type 0 where
  -- nothing (idle, U1, U4, U14, V1, lookers); U5
  Rest Installing : Seen
  -- U2, U8, with the word's mark; U3 and U7; U6
  Tail : ℕ → Bool → Seen
  Claiming : ℕ → ℕ → Seen
  Fronting : ℕ → Seen
  -- U9; U10 and U11, with the block set aside; U12; U13
  Back : ℕ → ℕ → ℕ → Seen
  Adding Tying : ℕ → ℕ → ℕ → ℕ → Seen
  Writing : ℕ → ℕ → ℕ → Seen
  Setting : ℕ → ℕ → Seen
  -- V2 and V5, with the word's mark; V3; V4, with the mark of new
  Head : ℕ → Bool → Seen
  Looking : ℕ → Ptr → Seen
  Taking : ℕ → ℕ → Bool → Seen
  -- V6; V7; V8 and V9, with the mark of index; V10, V11; V12 with its value
  Going : ℕ → ℕ → Seen
  Gone : ℕ → ℕ → ℕ → Seen
  Leading : ℕ → ℕ → ℕ → Bool → Seen
  Heading : ℕ → ℕ → Bool → Seen
  Awaiting Reading : ℕ → ℕ → Seen
  Popped : ℕ → ℕ → ℕ → Seen
  -- V13 to V15: the block, the slot (30 at V15), the value
  Destroying : ℕ → ℕ → ℕ → Seen

module _ (s : Shared) (w : ℕ) where
  -- a push, and a pop, in hand
  abbrev pub PushIn : ℕ → ℕ → Type 0
  PushIn p b = (s.push p ≡ By w) × (p < s.tail) × (p % 32 < 31) × (b ≡ s.phys (p / 32))

  abbrev pub PopIn : ℕ → ℕ → Type 0
  PopIn p b = (s.pop p ≡ By w) × (p < s.head) × (p % 32 < 31) × (b ≡ s.phys (p / 32)) × (s.got w ≡ p)

  abbrev pub LookOk : ℕ → Ptr → Type 0
  LookOk p none = Unit {0}
  LookOk p (to b) = (s.first ≡ Done) × (s.head ≡ p → b ≡ s.phys (p / 32))

  abbrev pub SeenOk : Seen → Type 0
  SeenOk Rest = Unit {0}
  SeenOk Installing = Unit {0}
  SeenOk (Tail p m) = (p ≤ s.tail) × (m ≡ true → s.closed ≡ true)
  SeenOk (Claiming p b) = (p % 32 < 31) × (p ≤ s.tail) × (0 < s.blocks) × (s.tail ≡ p → b ≡ s.phys (p / 32))
  SeenOk (Fronting b) = (s.first ≡ By w) × (0 < s.blocks) × (b ≡ s.phys 0)
  SeenOk (Back p b x) = PushIn p b × (s.item p ≡ x) × (p % 32 ≡ 30) × (s.tail ≡ p + 1) × (s.blocks ≡ p / 32 + 1)
  SeenOk (Adding p b n x) = PushIn p b × (s.item p ≡ x) × (p % 32 ≡ 30) × (s.tail ≡ p + 1) × (s.blocks ≡ p / 32 + 2) × (n ≡ s.phys (p / 32 + 1))
  SeenOk (Tying p b n x) = PushIn p b × (s.item p ≡ x) × (p % 32 ≡ 30) × (32 * (p / 32 + 1) ≤ s.tail) × (n ≡ s.phys (p / 32 + 1))
  SeenOk (Writing p b x) = PushIn p b × (s.item p ≡ x) × (p % 32 ≡ 30 → s.link (p / 32) ≡ true)
  SeenOk (Setting p b) = PushIn p b × (p % 32 ≡ 30 → s.link (p / 32) ≡ true) × (s.val p ≡ s.item p)
  SeenOk (Head p m) = (p ≤ s.head) × (m ≡ true → p / 32 < s.tail / 32)
  SeenOk (Looking p b) = (p % 32 < 31) × (p ≤ s.head) × LookOk p b
  SeenOk (Taking p b m) = (p % 32 < 31) × (p ≤ s.head) × (s.first ≡ Done) × (s.head ≡ p → b ≡ s.phys (p / 32)) × (p < s.tail) × (m ≡ true → p / 32 < s.tail / 32)
  SeenOk (Going p b) = PopIn p b × (p % 32 ≡ 30) × (s.head ≡ p + 1)
  SeenOk (Gone p b n) = PopIn p b × (p % 32 ≡ 30) × (s.head ≡ p + 1) × (s.head < s.tail) × (n ≡ s.phys (p / 32 + 1))
  SeenOk (Leading p b n m) = PopIn p b × (p % 32 ≡ 30) × (s.head ≡ p + 1) × (s.head < s.tail) × (n ≡ s.phys (p / 32 + 1)) × (m ≡ true → p / 32 + 1 < s.tail / 32)
  SeenOk (Heading p b m) = PopIn p b × (p % 32 ≡ 30) × (s.head ≡ p + 1) × (s.head < s.tail) × (s.front ≡ to (s.phys (p / 32 + 1))) × (m ≡ true → p / 32 + 1 < s.tail / 32)
  SeenOk (Awaiting p b) = PopIn p b × (p % 32 ≡ 30 → 32 * (p / 32 + 1) ≤ s.head)
  SeenOk (Reading p b) = PopIn p b × (p % 32 ≡ 30 → 32 * (p / 32 + 1) ≤ s.head) × (s.push p ≡ Done)
  SeenOk (Popped p b v) = PopIn p b × (s.push p ≡ Done) × (p % 32 < 30) × (v ≡ s.item p)
  SeenOk (Destroying b i v) = (j : ℕ) × (s.dest j ≡ Walk w i) × (s.own b ≡ Chain j) × (s.got w < s.tail) × (v ≡ s.item (s.got w))

-- What acts of others leave to worker w.
pub record Rely (s u : Shared) (w : ℕ) : Type 0 where
  pub tail_up : s.tail ≤ u.tail
  pub head_up : s.head ≤ u.head
  pub blocks_up : s.blocks ≤ u.blocks
  pub phys_old : (j : ℕ) → j < s.blocks → u.phys j ≡ s.phys j
  pub link_on : (j : ℕ) → s.link j ≡ true → u.link j ≡ true
  pub item_old : (p : ℕ) → p < s.tail → u.item p ≡ s.item p
  pub push_mine : (p : ℕ) → s.push p ≡ By w → u.push p ≡ By w
  pub push_only : (p : ℕ) → u.push p ≡ By w → s.push p ≡ By w
  pub push_done : (p : ℕ) → s.push p ≡ Done → u.push p ≡ Done
  pub pop_mine : (p : ℕ) → s.pop p ≡ By w → u.pop p ≡ By w
  pub pop_only : (p : ℕ) → u.pop p ≡ By w → s.pop p ≡ By w
  pub first_mine : s.first ≡ By w → u.first ≡ By w
  pub first_only : u.first ≡ By w → s.first ≡ By w
  pub first_done : s.first ≡ Done → u.first ≡ Done
  pub walk_mine : (j i : ℕ) → s.dest j ≡ Walk w i → u.dest j ≡ Walk w i
  pub walk_only : (j i : ℕ) → u.dest j ≡ Walk w i → s.dest j ≡ Walk w i
  pub aside_mine : (b : ℕ) → s.own b ≡ Aside w → u.own b ≡ Aside w
  pub aside_only : (b : ℕ) → u.own b ≡ Aside w → s.own b ≡ Aside w
  pub chain_mine : (b j i : ℕ) → s.own b ≡ Chain j → s.dest j ≡ Walk w i → u.own b ≡ Chain j
  pub val_mine : (p : ℕ) → s.push p ≡ By w → u.val p ≡ s.val p
  pub got_mine : u.got w ≡ s.got w
  pub closed_on : s.closed ≡ true → u.closed ≡ true
  pub tail_still : (p : ℕ) → s.push p ≡ By w → p % 32 ≡ 30 → s.tail ≡ p + 1 → (u.tail ≡ s.tail) × (u.blocks ≡ s.blocks)
  pub head_still : (p : ℕ) → s.pop p ≡ By w → p % 32 ≡ 30 → s.head ≡ p + 1 → (u.head ≡ s.head) × (u.front ≡ s.front)

module _ (s u : Shared) (w : ℕ) (inv : Inv s) (r : Rely s u w) where
  -- a block of a position that tail has reached is one of the chain
  in_chain : (p : ℕ) → 0 < s.blocks → p ≤ s.tail → p / 32 < s.blocks
  in_chain p l k = let a = inv.ends.some l in omega arith

  some_blocks : 0 < s.tail → 0 < s.blocks
  some_blocks l = go (dec_lt 0 s.blocks)
    where
      go : Dec (0 < s.blocks) → 0 < s.blocks
      go (yes k) = k
      go (no n) = absurd (omega (arith, inv.ends.none_yet (omega arith)))

  done_blocks : s.first ≡ Done → 0 < s.blocks
  done_blocks d = go (dec_lt 0 s.blocks)
    where
      go : Dec (0 < s.blocks) → 0 < s.blocks
      go (yes k) = k
      go (no n) = absurd (hand_open_done s.first (inv.ends.opened (omega arith)) d)

  phys_at : (p b : ℕ) → 0 < s.blocks → p ≤ s.tail → b ≡ s.phys (p / 32) → b ≡ u.phys (p / 32)
  phys_at p b l k e = e ∙ sym (r.phys_old (p / 32) (in_chain p l k))

  push_on : (p b : ℕ) → PushIn s w p b → PushIn u w p b
  push_on p b o = (r.push_mine p o.0, omega (arith, r.tail_up, o.1), o.2, phys_at p b (some_blocks (omega (arith, o.1))) (omega (arith, o.1)) o.3)

  item_on : (p x : ℕ) → p < s.tail → s.item p ≡ x → u.item p ≡ x
  item_on p x l e = r.item_old p l ∙ e

  pop_on : (p b : ℕ) → PopIn s w p b → PopIn u w p b
  pop_on p b o = (
    r.pop_mine p o.0,
    omega (arith, r.head_up, o.1),
    o.2,
    phys_at p b (some_blocks (omega (arith, o.1, inv.ends.low))) (omega (arith, o.1, inv.ends.low)) o.3,
    r.got_mine ∙ o.4,
  )

  -- the block after one whose last position tail has passed
  phys_next : (p n : ℕ) → 32 * (p / 32 + 1) ≤ s.tail → n ≡ s.phys (p / 32 + 1) → n ≡ u.phys (p / 32 + 1)
  phys_next p n l e = e ∙ sym (r.phys_old (p / 32 + 1) (let a = inv.ends.some (some_blocks (omega arith)) in omega arith))

  look_on : (p : ℕ) (b : Ptr) → p ≤ s.head → LookOk s w p b → LookOk u w p b
  look_on p none l o = tt
  look_on p (to b) l o = (r.first_done o.0, λ e. let q : s.head ≡ p = omega (arith, r.head_up) in phys_at p b (done_blocks o.0) (omega (arith, inv.ends.low)) (o.1 q))

  mark_on : {a b : ℕ} (m : Bool) → a ≤ b → (m ≡ true → a < s.tail / 32) → m ≡ true → a < u.tail / 32
  mark_on m l f e = let g = f e in omega (arith, r.tail_up)

  pub seen_on : (x : Seen) → SeenOk s w x → SeenOk u w x
  seen_on Rest o = tt
  seen_on Installing o = tt
  seen_on (Tail p m) o = (omega (arith, r.tail_up, o.0), λ e. r.closed_on (o.1 e))
  seen_on (Claiming p b) o = (
    o.0,
    omega (arith, r.tail_up, o.1),
    omega (arith, r.blocks_up, o.2),
    (λ e. let q : s.tail ≡ p = omega (arith, r.tail_up, o.1) in phys_at p b o.2 o.1 (o.3 q)),
  )
  seen_on (Fronting b) o = (r.first_mine o.0, omega (arith, r.blocks_up, o.1), o.2 ∙ sym (r.phys_old 0 o.1))
  seen_on (Back p b x) o =
      let f = r.tail_still p o.0.0 o.2 o.3 in
      (push_on p b o.0, item_on p x o.0.1 o.1, o.2, f.0 ∙ o.3, f.1 ∙ o.4)
  seen_on (Adding p b n x) o =
      let f = r.tail_still p o.0.0 o.2 o.3 in
      (push_on p b o.0, item_on p x o.0.1 o.1, o.2, f.0 ∙ o.3, f.1 ∙ o.4, o.5 ∙ sym (r.phys_old (p / 32 + 1) (omega (arith, o.4))))
  seen_on (Tying p b n x) o = (push_on p b o.0, item_on p x o.0.1 o.1, o.2, omega (arith, r.tail_up, o.3), phys_next p n o.3 o.4)
  seen_on (Writing p b x) o = (push_on p b o.0, item_on p x o.0.1 o.1, λ e. r.link_on (p / 32) (o.2 e))
  seen_on (Setting p b) o = (push_on p b o.0, (λ e. r.link_on (p / 32) (o.1 e)), r.val_mine p o.0.0 ∙ o.2 ∙ sym (r.item_old p o.0.1))
  seen_on (Head p m) o = (omega (arith, r.head_up, o.0), λ e. let g = o.1 e in omega (arith, r.tail_up))
  seen_on (Looking p b) o = (o.0, omega (arith, r.head_up, o.1), look_on p b o.1 o.2)
  seen_on (Taking p b m) o =
      let l = look_on p (to b) o.1 (o.2, o.3) in
      (o.0, omega (arith, r.head_up, o.1), l.0, l.1, omega (arith, r.tail_up, o.4), (λ e. let g = o.5 e in omega (arith, r.tail_up)))
  seen_on (Going p b) o = let f = r.head_still p o.0.0 o.1 o.2 in (pop_on p b o.0, o.1, f.0 ∙ o.2)
  seen_on (Gone p b n) o =
      let f = r.head_still p o.0.0 o.1 o.2 in
      (pop_on p b o.0, o.1, f.0 ∙ o.2, omega (arith, r.tail_up, f.0, o.3), phys_next p n (omega (arith, o.1, o.2, o.3)) o.4)
  seen_on (Leading p b n m) o =
      let f = r.head_still p o.0.0 o.1 o.2 in
      (pop_on p b o.0, o.1, f.0 ∙ o.2, omega (arith, r.tail_up, f.0, o.3), phys_next p n (omega (arith, o.1, o.2, o.3)) o.4, (λ e. let g = o.5 e in omega (arith, r.tail_up)))
  seen_on (Heading p b m) o =
      let f = r.head_still p o.0.0 o.1 o.2 in (
        pop_on p b o.0,
        o.1,
        f.0 ∙ o.2,
        omega (arith, r.tail_up, f.0, o.3),
        f.1 ∙ o.4 ∙ ap to (phys_next p (s.phys (p / 32 + 1)) (omega (arith, o.1, o.2, o.3)) refl),
        (λ e. let g = o.5 e in omega (arith, r.tail_up)),
      )
  seen_on (Awaiting p b) o = (pop_on p b o.0, λ e. let g = o.1 e in omega (arith, r.head_up))
  seen_on (Reading p b) o = (pop_on p b o.0, (λ e. let g = o.1 e in omega (arith, r.head_up)), r.push_done p o.2)
  seen_on (Popped p b v) o = (pop_on p b o.0, r.push_done p o.1, o.2, o.3 ∙ sym (r.item_old p (omega (arith, o.0.1, inv.ends.low))))
  seen_on (Destroying b i v) o = (
    o.0,
    r.walk_mine o.0 i o.1,
    r.chain_mine b o.0 i o.2 o.1,
    omega (arith, r.tail_up, r.got_mine, o.3),
    o.4 ∙ sym (ap u.item r.got_mine ∙ r.item_old (s.got w) o.3),
  )
