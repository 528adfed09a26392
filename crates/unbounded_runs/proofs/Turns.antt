-- A schedule's loop, from what is left of the run; and what comes before it.
use Prim.Native.Nat.{ℕ, zero, suc, ◌+◌, ◌*◌, ◌/◌, ◌%◌, ◌<◌, ◌≤◌}
use mathlib.Core.Path.{◌≡◌, refl, sym, ap, ◌∙◌, subst}
use mathlib.Core.Bool.{Bool, true, false, cond, not}
use mathlib.Core.List.{List, [], ◌∷◌}
use native.Mathlib.Omega.{arith}
use lib.ListN.{get_or, set, length, drop, length-drop, length-set}
use borrow.Author.Tests.{ne_eqb, eq-eqb}
use Rattle.queue_entries.specs.Limits.{workers_most}
use Rattle.queue_entries.specs.declared.Order.{Order}
use Rattle.queue_entries.specs.declared.Order.TheVariants.{Begin, Act}
use Rattle.std.specs.Prelude.{Option, Some, None}
use Rattle.queue_entries.specs.Schedules.{run_by, search_by, schedule_by}
use Rattle.queue_entries.proofs.Searching.{two_words}
use Rattle.queue_entries.proofs.Pick.{yes, no, on, off}
use Rattle.unbounded_words.specs.Words.{sizes, wide}
use Rattle.unbounded_places.specs.declared.Block.{Block}
use Rattle.unbounded_places.specs.declared.Slot.{Slot}
use Rattle.unbounded_places.specs.declared.Worker.{Worker}
use Rattle.unbounded_places.specs.Places.{view_of}
use Rattle.unbounded_machine.specs.declared.Machine.{Machine}
use Rattle.unbounded_machine.specs.declared.Ran.{Ran}
use Rattle.unbounded_machine.specs.Machine.{block_at, place_of, refused, accepted}
use Rattle.unbounded_machine.specs.Broken.{records_fit, drop_fits, broken_of}
use Rattle.unbounded_machine.specs.Turn.{entry_here, cleared, lowest_free}
use Rattle.unbounded_machine.specs.Run.{ran, run_from, run_of}
use Rattle.unbounded_machine.proofs.Fits.{unbroken_count}
use Rattle.unbounded_judged.specs.declared.Known.{Known}
use Rattle.unbounded_judged.specs.declared.Rest.{Rest}
use Rattle.unbounded_judged.specs.Judged.{frees_it, busy_in, unknown, due_of, rest_of}
use Rattle.unbounded_judged.proofs.Judged.{frees_none, fits_kept, broken_after, one_begins, one_goes_on, one_ends, busy_most}
use Rattle.unbounded_judged.proofs.Knows.{Knows, knows_nothing, rest_knows, not_due, is_due}
use Rattle.unbounded_entries.specs.declared.Ask.{Ask}
use Rattle.unbounded_entries.specs.declared.Aim.{Aim}
use Rattle.unbounded_entries.specs.declared.Done.{Done}
use Rattle.unbounded_entries.specs.declared.Look.{Look}
use Rattle.unbounded_entries.specs.Aims.{ask_of, way_of, aim_at}
use Rattle.unbounded_entries.specs.Looks.{look_at, fits_at, same_header, tallied}
use Rattle.unbounded_entries.proofs.Outcome.{slots_for, done_in, stored_by, aim_here, turned_refused, turned_done, in_parts, aim_unbroken, aim_counted, WasBusy}
use Rattle.unbounded_entries.proofs.Outcome.{aim_fits, aim_was, done_busy, look_told, look_fits, headers}

as_it_was : (l : List Block) (k : ℕ) → set l k (block_at l k) ≡ l
as_it_was [] k = refl
as_it_was (x ∷ l) zero = refl
as_it_was (x ∷ l) (suc k) = ap (λ (r : List Block). x ∷ r) (as_it_was l k)

module _ (m : Machine) (a : Aim) (l : List Slot) where
  pub clears : (r : List Slot) → a.takes ≡ true → r ≡ cleared sizes m.slots a.block → l ≡ r → l ≡ slots_for m a
  clears r t e q = on a.takes l _ _ t (q ∙ e)

  pub keeps : a.takes ≡ false → l ≡ m.slots → l ≡ slots_for m a
  keeps t q = off a.takes l _ _ t q

-- What stands before each entry: what the loop has kept is true of the machine, and what is left to run gives the whole run.
unfoldable pub Stand : List ℕ → ℕ → ℕ → Machine → Bool → ℕ → Known → Ran → Type 0
Stand s n i m sound busy known whole =
    (i ≤ n) × (n ≡ length s / 2) × (m.count ≤ workers_most) × (length m.workers ≡ workers_most) × (broken_of sizes m ≡ not sound)
    × (busy ≡ busy_in sizes m.workers) × Knows known m.blocks × (run_from sizes m i (drop (2 * i) s) ≡ whole)

pub first_stand : (s : List ℕ) (n : ℕ) (m : Machine) (busy : ℕ) (known : Known) → n ≡ length s / 2 → length m.workers ≡ workers_most → broken_of sizes m ≡ false
    → busy ≡ busy_in sizes m.workers → known ≡ unknown → Stand s n 0 m true busy known (run_from sizes m 0 s)
unfolding Stand
first_stand s n m busy known h l u b k = (omega arith, h, unbroken_count m u, l, u, b, knows_nothing known m.blocks k, refl)

module _ (s : List ℕ) (n i : ℕ) (m : Machine) (sound : Bool) (busy : ℕ) (known : Known) (whole : Ran) (st : Stand s n i m sound busy known whole) where
  pub stand_few : m.count ≤ workers_most
  unfolding Stand
  stand_few = st.2

  pub aims : (ask : Ask) → ask ≡ ask_of sound m.count (get_or s (2 * i) 0) (get_or s (2 * i + 1) 0) → (way : Aim) → way ≡ way_of sizes m.meter ask (place_of m.workers ask.worker)
      → (k : ℕ) → k ≡ cond way.takes (lowest_free sizes m.blocks) way.block → (a : Aim) → a ≡ aim_at sizes way k → a ≡ aim_here m (get_or s (2 * i) 0) (get_or s (2 * i + 1) 0)
  unfolding Stand
  aims = in_parts m (get_or s (2 * i) 0) (get_or s (2 * i + 1) 0) sound st.4

  -- where the loop reads and stores
  pub place_fits : (ask : Ask) → ask ≡ ask_of sound m.count (get_or s (2 * i) 0) (get_or s (2 * i + 1) 0) → (way : Aim) → way ≡ way_of sizes m.meter ask (place_of m.workers ask.worker)
      → (k : ℕ) → k ≡ cond way.takes (lowest_free sizes m.blocks) way.block → (a : Aim) → a ≡ aim_at sizes way k → a.refusal ≡ 0
      → (a.worker < workers_most) × (a.block < 64) × (a.slot < 31)
  place_fits ask ea way ew k ek a e ok = aim_fits m _ _ a (aims ask ea way ew k ek a e) ok

  module _ (lt : i < n) (a : Aim) (e : a ≡ aim_here m (get_or s (2 * i) 0) (get_or s (2 * i + 1) 0)) where
    whole_from : run_from sizes m i (get_or s (2 * i) 0 ∷ get_or s (2 * i + 1) 0 ∷ drop (2 * (i + 1)) s) ≡ whole
    unfolding Stand
    whole_from = let half = st.1 in sym (ap (run_from sizes m i) (two_words s i (omega arith))) ∙ st.7

    pub stops : 0 < a.refusal → ran a.refusal i m ≡ whole
    unfolding run_by refused
    stops h = sym (simp (turned_refused m _ _ a e h, ne_eqb a.refusal 0 (λ z. omega arith))) ∙ whole_from

    module _ (ok : a.refusal ≡ 0) (l : List Slot) (el : l ≡ slots_for m a) (d : Done) (ed : d ≡ done_in m a l) where
      goes : run_from sizes (stored_by m a l d) (i + 1) (drop (2 * (i + 1)) s) ≡ whole
      unfolding run_by accepted
      goes = sym (simp (turned_done m _ _ a e l d ok el ed)) ∙ whole_from

      u : broken_of sizes m ≡ false
      u = aim_unbroken m _ _ a e ok

      low : a.worker < m.count
      low = aim_counted m _ _ a e ok

      abbrev headers_then : List Block
      headers_then = set m.blocks a.block d.block

      abbrev workers_then : List Worker
      workers_then = set m.workers a.worker d.worker

      abbrev fits : Bool
      fits = records_fit sizes headers_then m.count workers_then

      same_block : same_header sizes (block_at m.blocks a.block) d.block ≡ true → block_at m.blocks a.block ≡ d.block
      same_block h = headers (block_at m.blocks a.block) d.block h

      -- with the header as it was
      pub same_fits : (look : Look) → look ≡ look_at sizes d.worker.place → same_header sizes (block_at m.blocks a.block) d.block ≡ true
          → fits_at look (block_at headers_then look.block) ≡ fits
      unfolding Stand
      same_fits look q h =
          look_fits d.worker.place look q headers_then
          ∙ fits_kept m u a.worker low st.2 st.3 d.worker.place a.block d.block
          (ap (frees_it (block_at m.blocks a.block)) (sym (same_block h)) ∙ frees_none (block_at m.blocks a.block))

      pub same_knows : same_header sizes (block_at m.blocks a.block) d.block ≡ true → Knows known headers_then
      unfolding Stand
      same_knows h = subst (Knows known) (sym (ap (set m.blocks a.block) (sym (same_block h)) ∙ as_it_was m.blocks a.block)) st.6

      pub counted : (look : Look) → look ≡ look_at sizes d.worker.place → (b : ℕ) → b ≡ tallied busy a.order look.busy → b ≡ busy_in sizes workers_then
      unfolding Stand
      counted look q b h = h ∙ ap (λ (k : ℕ). tallied k a.order look.busy) st.5 ∙ by a.order refl (aim_was m _ _ a e ok)
        where
          near : a.worker < workers_most
          near = let few = st.2 in let c = low in omega arith

          ends_by : (f : Bool) → look.busy ≡ f → (view_of sizes (place_of m.workers a.worker)).busy ≡ true
              → cond f (busy_in sizes m.workers) ((busy_in sizes m.workers + 18446744073709551615) % wide) ≡ busy_in sizes workers_then
          ends_by true z p = sym (one_goes_on m.workers a.worker d.worker near st.3 p (sym (look_told d.worker.place look q) ∙ z))
          ends_by false z p =
              let c = one_ends m.workers a.worker d.worker near st.3 p (sym (look_told d.worker.place look q) ∙ z) in
              let most = busy_most m.workers in
              omega (arith, c, most)

          by : (o : Order) → a.order ≡ o → WasBusy o (view_of sizes (place_of m.workers a.worker)).busy → tallied (busy_in sizes m.workers) o look.busy ≡ busy_in sizes workers_then
          by (Begin c) z p =
              let one = one_begins m.workers a.worker d.worker near st.3 p (done_busy m a l d ed c z) in
              let most = busy_most m.workers in
              omega (arith, one, most)
          by (Act lose) z p = ends_by look.busy refl p

      stands : (b : ℕ) (s2 : Bool) (k2 : Known) → b ≡ busy_in sizes workers_then → s2 ≡ cond fits (drop_fits sizes d.ends headers_then workers_then) false → Knows k2 headers_then
          → Stand s n (i + 1) (stored_by m a l d) s2 b k2 whole
      unfolding Stand
      stands b s2 k2 eb es kn = (
        omega arith,
        st.1,
        st.2,
        length-set m.workers a.worker d.worker ∙ st.3,
        broken_after m u a.worker low st.2 st.3 d.worker.place a.block d.block d.ends ∙ ap not (sym es),
        eb,
        kn,
        goes,
      )

      module _ (b : ℕ) (eb : b ≡ busy_in sizes workers_then) (s1 : Bool) (e1 : s1 ≡ fits) (k1 : Known) (kn : Knows k1 headers_then) (s2 : Bool) (k2 : Known) where
        pub stays : due_of sizes b k1 d.ends ≡ false → s2 ≡ s1 → k2 ≡ k1 → Stand s n (i + 1) (stored_by m a l d) s2 b k2 whole
        stays h es ek =
            stands b s2 k2 eb (es ∙ e1 ∙ sym (ap (λ (x : Bool). cond fits x false) (not_due d.ends headers_then workers_then k1 kn b eb h) ∙ all_true fits))
            (subst (λ (x : Known). Knows x headers_then) (sym ek) kn)
          where
            all_true : (f : Bool) → cond f true false ≡ f
            all_true true = refl
            all_true false = refl

        pub walks : due_of sizes b k1 d.ends ≡ true → (r : Rest) → r ≡ rest_of sizes d.ends headers_then → s2 ≡ cond s1 r.sound false → k2 ≡ r.known
            → Stand s n (i + 1) (stored_by m a l d) s2 b k2 whole
        walks h r q es ek =
            stands b s2 k2 eb (es ∙ ap (λ (x : Bool). cond x r.sound false) e1
            ∙ ap (λ (x : Bool). cond fits x false) (is_due d.ends headers_then workers_then k1 kn b eb h r q))
            (subst (λ (x : Known). Knows x headers_then) (sym (ek ∙ ap (λ (x : Rest). x.known) q)) (rest_knows d.ends headers_then))

  short : (l : List ℕ) → length l ≤ 1 → run_from sizes m i l ≡ ran 0 i m
  unfolding run_by
  short [] h = refl
  short (a ∷ []) h = refl
  short (a ∷ b ∷ l) h = absurd (omega arith)

  pub ends : n ≤ i → i ≤ n → ran 0 n m ≡ whole
  unfolding Stand
  ends ge le = let half = st.1 in let e : n ≡ i = omega arith in ap (λ (k : ℕ). ran 0 k m) e ∙ sym (short (drop (2 * i) s) (omega (arith, length-drop (2 * i) s))) ∙ st.7

module _ (m : Machine) (s : List ℕ) (b : Bool) (e : b ≡ broken_of sizes m) where
  pub broken_run : b ≡ true → ran 6 0 m ≡ run_of sizes m s
  unfolding schedule_by
  broken_run h = yes _ b _ _ _ e h refl

  module _ (h : b ≡ false) where
    pub odd_run : length s % 2 ≡ 1 → ran 11 0 m ≡ run_of sizes m s
    unfolding schedule_by
    odd_run k = no _ b _ _ _ e h (sym (simp (eq-eqb _ _ k)))

    module _ (k : length s % 2 ≡ 1 → ⊥) (f : Option ℕ) (g : f ≡ search_by entry_here 0 s) where
      pub unread_run : (i : ℕ) → f ≡ Some i → ran 9 i m ≡ run_of sizes m s
      unfolding schedule_by
      unread_run i z = no _ b _ _ _ e h (sym (simp (ne_eqb _ _ k, sym g ∙ z)))

      pub read_run : f ≡ None → run_from sizes m 0 s ≡ run_of sizes m s
      unfolding schedule_by
      read_run z = no _ b _ _ _ e h (sym (simp (ne_eqb _ _ k, sym g ∙ z)))
