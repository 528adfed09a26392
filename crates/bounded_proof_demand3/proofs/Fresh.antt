-- A worker that alone is scheduled keeps its word young: no other claims, and after its own claim it tests no word.
use mathlib.Core.Path.{◌≡◌, refl}
use mathlib.Core.Bool.{Bool, cond, true≢false}
use Prim.Native.Nat.{ℕ, ◌+◌}
use native.Mathlib.Omega.{arith}
use lib.ListN.{length}
use Rattle.bounded_words.specs.declared.Stamp.{Stamp}
use Rattle.bounded_words.specs.declared.Fixed.{Fixed}
use Rattle.bounded_words.specs.declared.Width.{Width}
use Rattle.bounded_words.specs.Words.{marked_of, unmarked_of, minus, same, one_past, lap_behind, lap_behind_one_past, with_mark}
use Rattle.bounded_places.specs.declared.Slot.{Slot}
use Rattle.bounded_places.specs.declared.Ends.{Ends}
use Rattle.bounded_places.specs.declared.Kind.{Kind}
use Rattle.bounded_places.specs.declared.Kind.TheVariants.{Push, Force}
use Rattle.bounded_places.specs.declared.Answer.TheVariants.{Full, Closed, Empty, PopClosed, Len, Yes, No}
use Rattle.bounded_places.specs.declared.Exchange.{Exchange}
use Rattle.bounded_places.specs.declared.Place.{Place}
use Rattle.bounded_places.specs.declared.Place.TheVariants.{Idle, P1, P2, P3, P4, P5, P6, F6, F7, F8, F9, O1, O2, O3, O4, O5, O6, Len1, Len2, Len3, Empty1, Empty2, Full1, Full2, Close1, IsClosed1}
use Rattle.bounded_acts.specs.declared.Acted.{Acted}
use Rattle.bounded_acts.specs.Acts.{goes, losing, after_tail, end_p3, end_f6, end_o3, tail_to, full_at, count_of, act_of}
use Rattle.bounded_machine.specs.History.{moved_of}
use Rattle.bounded_machine.proofs.Kept.{either, exchanged}
use Rattle.bounded_demands.specs.Notions.{tail_by, head_by, holding_at}
use Rattle.bounded_proof_invariant.proofs.Width.{Wide, turn_long}
use Rattle.bounded_proof_invariant.proofs.Ring.{Shared}
use Rattle.bounded_proof_each_act.proofs.Sight.{Age, aged, look, Young, Recent}

module _ (c mark n : ℕ) (s : Shared) (a : Age) where
  -- from p an act leads to q: a word that is still to be tested there was to be tested at p
  abbrev Leads : Place → Place → Type 0
  Leads p (Idle x) = Unit {0}
  Leads p (P1 k x) = Unit {0}
  Leads p (P2 k t x) = Unit {0}
  Leads p (P3 k t x) = Recent c mark n s a (look c p) → Young c mark n s a
  Leads p (P4 t x) = Unit {0}
  Leads p (P5 t) = Unit {0}
  Leads p (P6 t x) = Recent c mark n s a (look c p) → Young c mark n s a
  Leads p (F6 t x) = Recent c mark n s a (look c p) → Young c mark n s a
  Leads p (F7 t x) = Unit {0}
  Leads p (F8 t x) = Unit {0}
  Leads p (F9 t old) = Unit {0}
  Leads p O1 = Unit {0}
  Leads p (O2 h) = Unit {0}
  Leads p (O3 h) = Recent c mark n s a (look c p) → Young c mark n s a
  Leads p (O4 h) = Unit {0}
  Leads p (O5 h v) = Unit {0}
  Leads p (O6 h) = Recent c mark n s a (look c p) → Young c mark n s a
  Leads p Len1 = Unit {0}
  Leads p (Len2 t) = Unit {0}
  Leads p (Len3 t h) = Recent c mark n s a (look c p) → Young c mark n s a
  Leads p Empty1 = Unit {0}
  Leads p (Empty2 h) = Unit {0}
  Leads p Full1 = Unit {0}
  Leads p (Full2 t) = Unit {0}
  Leads p Close1 = Unit {0}
  Leads p IsClosed1 = Unit {0}

  finds : (f : Fixed) (t : Stamp) (k : Kind) (x : ℕ) (p : Place) → Leads p (after_tail f k t x)
  unfolding after_tail
  finds f t k x p = either (Leads p) (marked_of f t) (Idle (Closed x)) (P2 k t x) (λ z. tt) (λ z. tt)

  full_leads : (k j : Kind) (t : Stamp) (x : ℕ) → Leads (P2 j t x) (full_at k t x)
  full_leads Push j t x = λ r. r refl
  full_leads Force j t x = λ r. r refl

  pub leads_on : (bits : Width) (f : Fixed) (e : Ends) (z : Slot) (p : Place) (lose : Bool) → Leads p (act_of bits f e z p lose).place
  unfolding goes losing
  leads_on bits f e z (Idle x) lose = tt
  leads_on bits f e z (P1 k x) lose = finds f e.tail k x (P1 k x)
  leads_on bits f e z (P2 k t x) lose =
      either (λ (y : Acted). Leads (P2 k t x) y.place) (same z.stamp t) (goes e z (P3 k t x)) (cond (lap_behind_one_past bits f z.stamp t) (goes e z (full_at k t x)) (goes e z (P1 k x)))
      (λ b r. r refl)
      (λ b. either (λ (y : Acted). Leads (P2 k t x) y.place) (lap_behind_one_past bits f z.stamp t) (goes e z (full_at k t x)) (goes e z (P1 k x)) (λ d. full_leads k k t x) (λ d. tt))
  leads_on bits f e z (P3 k t x) lose =
      exchanged (λ (y : Exchange). Leads (P3 k t x) (end_p3 bits f e z k t x y).place) e.tail t lose (λ b d. tt) (λ b d. tt) (λ b. finds f e.tail k x (P3 k t x))
  leads_on bits f e z (P4 t x) lose = tt
  leads_on bits f e z (P5 t) lose = tt
  leads_on bits f e z (P6 t x) lose =
      either (λ (y : Acted). Leads (P6 t x) y.place) (lap_behind bits f e.head t) (goes e z (Idle (Full x))) (goes e z (P1 Push x)) (λ b. tt) (λ b. tt)
  leads_on bits f e z (F6 t x) lose =
      exchanged (λ (y : Exchange). Leads (F6 t x) (end_f6 bits f e z t x y).place) e.head (minus bits t f.lap) lose (λ b d. tt) (λ b d. tt) (λ b. tt)
  leads_on bits f e z (F7 t x) lose = tt
  leads_on bits f e z (F8 t x) lose = tt
  leads_on bits f e z (F9 t old) lose = tt
  leads_on bits f e z O1 lose = tt
  leads_on bits f e z (O2 h) lose =
      either (λ (y : Acted). Leads (O2 h) y.place) (one_past bits z.stamp h) (goes e z (O3 h)) (cond (same z.stamp h) (goes e z (O6 h)) (goes e z O1)) (λ b r. r refl)
      (λ b. either (λ (y : Acted). Leads (O2 h) y.place) (same z.stamp h) (goes e z (O6 h)) (goes e z O1) (λ d r. r refl) (λ d. tt))
  leads_on bits f e z (O3 h) lose =
      exchanged (λ (y : Exchange). Leads (O3 h) (end_o3 bits f e z h y).place) e.head h lose (λ b d. tt) (λ b d. tt) (λ b. tt)
  leads_on bits f e z (O4 h) lose = tt
  leads_on bits f e z (O5 h v) lose = tt
  leads_on bits f e z (O6 h) lose =
      either (λ (y : Acted). Leads (O6 h) y.place) (same (unmarked_of f e.tail) h) (cond (marked_of f e.tail) (goes e z (Idle PopClosed)) (goes e z (Idle Empty))) (goes e z O1)
      (λ b. either (λ (y : Acted). Leads (O6 h) y.place) (marked_of f e.tail) (goes e z (Idle PopClosed)) (goes e z (Idle Empty)) (λ d. tt) (λ d. tt)) (λ b. tt)
  leads_on bits f e z Len1 lose = tt
  leads_on bits f e z (Len2 t) lose = λ r. r
  leads_on bits f e z (Len3 t h) lose =
      either (λ (y : Acted). Leads (Len3 t h) y.place) (same e.tail t) (goes e z (Idle (Len (count_of f t h)))) (goes e z Len1) (λ b. tt) (λ b. tt)
  leads_on bits f e z Empty1 lose = tt
  leads_on bits f e z (Empty2 h) lose = tt
  leads_on bits f e z Full1 lose = tt
  leads_on bits f e z (Full2 t) lose = tt
  leads_on bits f e z Close1 lose =
      either (λ (y : Acted). Leads Close1 y.place) (marked_of f e.tail) (goes e z (Idle No)) (goes (tail_to e (with_mark bits f e.tail)) z (Idle Yes)) (λ b. tt) (λ b. tt)
  leads_on bits f e z IsClosed1 lose = tt

  -- the ring afterwards
  module _ (laws : Wide c mark n) (u : Shared) where
    abbrev Grown : Place → Type 0
    Grown q = (u.tail ≡ s.tail + length (tail_by (moved_of q) 0)) × (u.head ≡ s.head + length (head_by (moved_of q) 0))

    -- a word just given
    new : (u.tail ≡ s.tail + 0) × (u.head ≡ s.head + 0) → Young c mark n u (record { tail = s.tail; head = s.head })
    new g = (omega (arith, g.0, turn_long c mark n laws, laws.some), omega (arith, g.1, turn_long c mark n laws, laws.some))

    -- a word from before
    old : (u.tail ≡ s.tail + 0) × (u.head ≡ s.head + 0) → Young c mark n s a → Young c mark n u a
    old g y = (omega (arith, g.0, y.0), omega (arith, g.1, y.1))

    pub stays_recent : (p q : Place) → Leads p q → Grown q → Recent c mark n s a (look c p) → Recent c mark n u (aged s a (holding_at q)) (look c q)
    stays_recent p (Idle x) l g r = tt
    stays_recent p (P1 k x) l g r = tt
    stays_recent p (P2 k t x) l g r = λ z. new g
    stays_recent p (P3 k t x) l g r = λ z. old g (l r)
    stays_recent p (P4 t x) l g r = λ z. absurd (true≢false z)
    stays_recent p (P5 t) l g r = λ z. absurd (true≢false z)
    stays_recent p (P6 t x) l g r = λ z. old g (l r)
    stays_recent p (F6 t x) l g r = λ z. old g (l r)
    stays_recent p (F7 t x) l g r = λ z. absurd (true≢false z)
    stays_recent p (F8 t x) l g r = λ z. absurd (true≢false z)
    stays_recent p (F9 t x) l g r = λ z. absurd (true≢false z)
    stays_recent p O1 l g r = tt
    stays_recent p (O2 h) l g r = λ z. new g
    stays_recent p (O3 h) l g r = λ z. old g (l r)
    stays_recent p (O4 h) l g r = λ z. absurd (true≢false z)
    stays_recent p (O5 h v) l g r = λ z. absurd (true≢false z)
    stays_recent p (O6 h) l g r = λ z. old g (l r)
    stays_recent p Len1 l g r = tt
    stays_recent p (Len2 t) l g r = new g
    stays_recent p (Len3 t h) l g r = old g (l r)
    stays_recent p Empty1 l g r = tt
    stays_recent p (Empty2 h) l g r = λ z. new g
    stays_recent p Full1 l g r = tt
    stays_recent p (Full2 t) l g r = new g
    stays_recent p Close1 l g r = tt
    stays_recent p IsClosed1 l g r = tt
