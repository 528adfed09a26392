-- Counts of claims: from the history, and from the words of the ends.
use mathlib.Core.Path.{◌≡◌, refl, sym, ap, ◌∙◌}
use mathlib.Core.Logic.{◌≢◌}
use mathlib.Core.Bool.{Bool, true, false, cond}
use mathlib.Core.List.{List, [], ◌∷◌, ◌++◌}
use Prim.Native.Nat.{ℕ, ◌+◌, ◌*◌, ◌-◌, ◌/◌, ◌%◌, ◌≤◌, ◌<◌}
use native.Mathlib.Omega.{arith}
use native.Mathlib.Nat.{mod-lt, div-add-mod'}
use native.Mathlib.Decide.{dec_lt}
use lib.Arith.{digits_mod}
use lib.Dec.{ltb, eqb}
use lib.ListN.{length, length-append}
use borrow.Author.Tests.{ltb-true, ltb-false, eqb-true, eqb-false}
use Rattle.bounded_words.specs.declared.Width.{Width}
use Rattle.bounded_places.specs.declared.Moved.{Moved}
use Rattle.bounded_places.specs.declared.Moved.TheVariants.{Neither, Tail, Head}
use Rattle.bounded_acts.specs.Acts.{count_of}
use Rattle.bounded_machine.specs.declared.Event.{Event}
use Rattle.bounded_machine.specs.declared.Tally.{Tally}
use Rattle.bounded_machine.specs.Contents.{wrapped}
use Rattle.bounded_machine.specs.History.{moved_of, reads_at, read_on, untallied, tally_of}
use Rattle.bounded_machine.specs.History as history
use Rattle.bounded_machine.proofs.Kept.{either}
use Rattle.bounded_demands.specs.Notions.{tail_by, head_by, tailers_of, takers_of, tally}
use Rattle.bounded_proof_invariant.proofs.Width.{Near, index_word, turn_long}
use Rattle.bounded_proof_each_act.proofs.Stamps.{Ground, fixed, W, tail_word, index_tail, unmarked_tail, same_is}

-- the tally counts the claims and the values read
by_moved : (x : Moved) (t : Tally) (w : ℕ)
    → ((history.counted x t).tail.0 ≡ t.tail.0 + length (tail_by x w)) × ((history.counted x t).head.0 ≡ t.head.0 + length (head_by x w))
    × ((history.counted x t).reads ≡ t.reads)
by_moved Neither t w = omega arith
by_moved Tail t w = omega arith
by_moved Head t w = omega arith

pub by_act : (b : Bool) (x : Moved) (t : Tally) (w : ℕ)
    → ((read_on b (history.counted x t)).tail.0 ≡ t.tail.0 + length (tail_by x w)) × ((read_on b (history.counted x t)).head.0 ≡ t.head.0 + length (head_by x w))
    × ((read_on b (history.counted x t)).reads ≡ t.reads + cond b 1 0)
by_act true x t w = omega (arith, by_moved x t w)
by_act false x t w = omega (arith, by_moved x t w)

tally_from : (h : List Event) (t : Tally)
    → ((tally_of h t).tail.0 ≡ t.tail.0 + length (tailers_of h)) × ((tally_of h t).head.0 ≡ t.head.0 + length (takers_of h))
unfolding tally_of tailers_of takers_of
tally_from [] t = omega arith
tally_from (e ∷ h) t =
    let x = moved_of e.after in
    let reads = reads_at e.before in
    let a = tally_from h (read_on reads (history.counted x t)) in
    let b = by_act reads x t e.worker in (
      omega (arith, a.0, b.0, length-append (tail_by x e.worker) (tailers_of h)),
      omega (arith, a.1, b.1, length-append (head_by x e.worker) (takers_of h)),
    )

-- one act more
pub tally_end : (h : List Event) (e : Event) (t : Tally)
    → tally_of (h ++ e ∷ []) t ≡ read_on (reads_at e.before) (history.counted (moved_of e.after) (tally_of h t))
unfolding tally_of
tally_end [] e t = refl
tally_end (a ∷ h) e t = tally_end h e (read_on (reads_at a.before) (history.counted (moved_of a.after) t))

pub tally_tail : (h : List Event) → (tally h).tail.0 ≡ length (tailers_of h)
tally_tail h = (tally_from h untallied).0 ∙ omega arith

pub tally_head : (h : List Event) → (tally h).head.0 ≡ length (takers_of h)
tally_head h = (tally_from h untallied).1 ∙ omega arith

-- the index of a claim so many on, within the lap or over its end
pub mod_within : (c k d : ℕ) → 0 < c → k % c + d < c → (k + d) % c ≡ k % c + d
mod_within c k d some l =
    let e : k + d ≡ k / c * c + (k % c + d) = omega (arith, div-add-mod' k c) in
    rw e (digits_mod (k / c) l)

pub mod_over : (c k d : ℕ) → 0 < c → d ≤ c → c ≤ k % c + d → (k + d) % c + c ≡ k % c + d
mod_over c k d some most l =
    let r : ℕ = k % c + d - c in
    let small : k % c + d - c < c = omega (arith, mod-lt k some) in
    let e : k + d ≡ (k / c + 1) * c + (k % c + d - c) = omega (arith, div-add-mod' k c) in
    let q : (k + d) % c ≡ k % c + d - c = ap (λ (z : ℕ). z % c) e ∙ digits_mod (k / c + 1) small in
    omega arith

pub wrapped_is : (c k d : ℕ) → 0 < c → d < c → wrapped c (k % c + d) ≡ (k + d) % c
unfolding wrapped
wrapped_is c k d some l =
    either (λ (z : ℕ). z ≡ (k + d) % c) (ltb (k % c + d) c) (k % c + d) (k % c + d - c)
    (λ b. sym (mod_within c k d some (ltb-true (k % c + d) c b)))
    (λ b. let q : (k + d) % c + c ≡ k % c + d = mod_over c k d some (omega arith) (ltb-false (k % c + d) c b) in omega arith)

-- `len`'s count of two words is the difference of their numbers
abbrev counted : ℕ → ℕ → ℕ → ℕ
counted c j k = cond (ltb (j % c) (k % c)) (k % c - j % c) (cond (ltb (k % c) (j % c)) (c - j % c + k % c) (cond (eqb k j) 0 c))

numbers_count : (c j k : ℕ) → 0 < c → j ≤ k → k ≤ j + c
    → counted c j k ≡ k - j
numbers_count c j k some low high = go (dec_lt (j % c + (k - j)) c)
  where
    split : k ≡ j + (k - j)
    split = omega arith

    within : j % c + (k - j) < c → k % c ≡ j % c + (k - j)
    within l = ap (λ (z : ℕ). z % c) split ∙ mod_within c j (k - j) some l

    over : c ≤ j % c + (k - j) → k % c + c ≡ j % c + (k - j)
    over l = ap (λ (z : ℕ). z % c + c) split ∙ mod_over c j (k - j) some (omega arith) l

    count : (k % c ≡ j % c + (k - j)) → counted c j k ≡ k - j
    count e =
        either (λ (z : ℕ). z ≡ k - j) (ltb (j % c) (k % c)) (k % c - j % c) _ (λ b. omega arith)
        (λ b. either (λ (z : ℕ). z ≡ k - j) (ltb (k % c) (j % c)) (c - j % c + k % c) _
        (λ d. absurd (omega (arith, ltb-true (k % c) (j % c) d)))
        (λ d. either (λ (z : ℕ). z ≡ k - j) (eqb k j) 0 c
        (λ q. omega (arith, eqb-true k j q))
        (λ q. let ne : k ≢ j = eqb-false k j q in absurd (omega (arith, ltb-false (j % c) (k % c) b)))))

    count_over : (k % c + c ≡ j % c + (k - j)) → counted c j k ≡ k - j
    count_over e =
        either (λ (z : ℕ). z ≡ k - j) (ltb (j % c) (k % c)) (k % c - j % c) _
        (λ b. absurd (omega (arith, ltb-true (j % c) (k % c) b)))
        (λ b. either (λ (z : ℕ). z ≡ k - j) (ltb (k % c) (j % c)) (c - j % c + k % c) _
        (λ d. omega (arith, ltb-true (k % c) (j % c) d, mod-lt j some))
        (λ d. either (λ (z : ℕ). z ≡ k - j) (eqb k j) 0 c
        (λ q. absurd (omega (arith, eqb-true k j q, mod-lt j some)))
        (λ q. omega (arith, ltb-false (k % c) (j % c) d))))

    go : Dec (j % c + (k - j) < c) → counted c j k ≡ k - j
    go (yes l) = count (within l)
    go (no l) = count_over (over (omega arith))

pub count_is : (bits : Width) (c mark n ed : ℕ) → Ground bits c mark n → (j k : ℕ) (b : Bool) → j ≤ k → k ≤ j + c
    → count_of (fixed c mark ed) (tail_word c mark n k b) (W c mark n j) ≡ k - j
unfolding count_of
count_is bits c mark n ed g j k b low high =
    let r : Near (n * c) k j = omega (arith, turn_long c mark n g.laws, g.laws.some) in
    rw (index_tail bits c mark n g k b, index_word c mark n g.laws j, unmarked_tail bits c mark n g ed k b, same_is bits c mark n g k j r)
    (numbers_count c j k g.laws.some low high)
