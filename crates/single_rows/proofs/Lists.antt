-- Records that are read out of words and stored there.
use Prim.Native.Nat.{ℕ, zero, suc, ◌+◌, ◌*◌, ◌/◌, ◌<◌}
use mathlib.Core.Path.{◌≡◌, refl, sym, ap, ◌∙◌, subst}
use mathlib.Core.Bool.{Bool}
use mathlib.Core.List.{List, [], ◌∷◌}
use native.Mathlib.Numerals.{add-one}
use native.Mathlib.Omega.{arith}
use lib.ListN.{length, get_or, set, length-set}
use Rattle.single_places.specs.declared.Place.{Place}
use Rattle.single_places.specs.declared.Worker.{Worker}
use Rattle.single_machine.specs.Machine.{idler}
use Rattle.single_codes.specs.declared.Coded.{Coded}
use Rattle.single_codes.specs.Codes.{code_of, place_in, stands_for}
use Rattle.single_rows.specs.Rows.{record_from, records_in, records_of, record_at, placed_at, three, with_record}

pub many : (ws : List ℕ) → length (records_in ws) ≡ length ws / 3
unfolding records_in
many [] = refl
many (c ∷ []) = refl
many (c ∷ a ∷ []) = refl
many (c ∷ a ∷ b ∷ ws) = omega (arith, many ws)

three_more : (n m : ℕ) → n ≡ m + 3 → n ≡ suc (suc (suc m))
three_more n m e = omega (arith, e)

pub beyond : (c a b : ℕ) (ws : List ℕ) (n m : ℕ) → n ≡ m + 3 → get_or (c ∷ a ∷ b ∷ ws) n 0 ≡ get_or ws m 0
beyond c a b ws n m e = ap (λ (k : ℕ). get_or (c ∷ a ∷ b ∷ ws) k 0) (three_more n m e)

skip : (c a b : ℕ) (ws : List ℕ) (n m v : ℕ) → n ≡ m + 3 → set (c ∷ a ∷ b ∷ ws) n v ≡ c ∷ a ∷ b ∷ set ws m v
skip c a b ws n m v e = ap (λ (k : ℕ). set (c ∷ a ∷ b ∷ ws) k v) (three_more n m e)

pub still_in : (l : List ℕ) (j i a : ℕ) → j < length l → j < length (set l i a)
still_in l j i a = subst (λ (n : ℕ). j < n) (sym (length-set l i a))

-- ---- one record
pub after_one : (ws : List ℕ) (i x : ℕ) → i * 3 + 2 < length ws → i * 3 + 1 < length (set ws (i * 3) x)
after_one ws i x h = still_in ws (i * 3 + 1) (i * 3) x (omega (arith, h))

pub record_read : (ws : List ℕ) (i : ℕ) (p : Place) → p ≡ place_in (get_or ws (i * 3) 0) (get_or ws (i * 3 + 1) 0) (get_or ws (i * 3 + 2) 0) → record { place = p } ≡ record_at ws i
unfolding record_at
record_read ws i p e = λ k. record { place = e k }

pub placed_read : (ws : List ℕ) (i : ℕ) (b : Bool) → b ≡ stands_for (get_or ws (i * 3) 0) (get_or ws (i * 3 + 1) 0) (get_or ws (i * 3 + 2) 0) → b ≡ placed_at ws i
unfolding placed_at
placed_read ws i b e = e

pub record_put : (ws : List ℕ) (i : ℕ) (r : Worker) (c : Coded) → c ≡ code_of r.place → three ws (i * 3) c ≡ with_record ws i r
unfolding with_record
record_put ws i r c e = ap (three ws (i * 3)) e

pub get : (ws : List ℕ) (i : ℕ) → i < length (records_in ws) → get_or (records_in ws) i idler ≡ record_at ws i
unfolding records_in record_at
get [] i l = absurd (omega (arith, l))
get (c ∷ []) i l = absurd (omega (arith, l))
get (c ∷ a ∷ []) i l = absurd (omega (arith, l))
get (c ∷ a ∷ b ∷ ws) zero l = refl
get (c ∷ a ∷ b ∷ ws) (suc i) l =
    get ws i (omega (arith, l))
    ∙ (λ k. record_from (sym (beyond c a b ws (suc i * 3) (i * 3) (omega arith)) k) (sym (beyond c a b ws (suc i * 3 + 1) (i * 3 + 1) (omega arith)) k)
    (sym (beyond c a b ws (suc i * 3 + 2) (i * 3 + 2) (omega arith)) k))

pub long_record : (ws : List ℕ) (i : ℕ) (r : Worker) → length (with_record ws i r) ≡ length ws
unfolding with_record
long_record ws i r = simp length-set

three_skip : (c a b : ℕ) (ws : List ℕ) (i : ℕ) (x : Coded) → three (c ∷ a ∷ b ∷ ws) (suc i * 3) x ≡ c ∷ a ∷ b ∷ three ws (i * 3) x
three_skip c a b ws i x =
    ap (λ (l : List ℕ). set (set l (suc i * 3 + 1) x.first) (suc i * 3 + 2) x.second) (skip c a b ws (suc i * 3) (i * 3) x.code (omega arith))
    ∙ ap (λ (l : List ℕ). set l (suc i * 3 + 2) x.second) (skip c a b (set ws (i * 3) x.code) (suc i * 3 + 1) (i * 3 + 1) x.first (omega arith))
    ∙ skip c a b (set (set ws (i * 3) x.code) (i * 3 + 1) x.first) (suc i * 3 + 2) (i * 3 + 2) x.second (omega arith)

-- ---- the words of the first so many of ys, over ws
pub over : ℕ → List Worker → List ℕ → List ℕ
over zero ys ws = ws
over (suc i) [] ws = ws
over (suc i) (y ∷ ys) [] = []
over (suc i) (y ∷ ys) (c ∷ []) = c ∷ []
over (suc i) (y ∷ ys) (c ∷ a ∷ []) = c ∷ a ∷ []
over (suc i) (y ∷ ys) (c ∷ a ∷ b ∷ ws) = (code_of y.place).code ∷ (code_of y.place).first ∷ (code_of y.place).second ∷ over i ys ws

pub over_none : (ys : List Worker) (ws : List ℕ) → ws ≡ over 0 ys ws
unfolding over
over_none ys ws = refl

over_next : (i : ℕ) (ys : List Worker) (ws : List ℕ) → i < length ys → i * 3 + 2 < length ws → with_record (over i ys ws) i (get_or ys i idler) ≡ over (suc i) ys ws
unfolding over with_record
over_next i [] ws l g = absurd (omega (arith, l))
over_next i (y ∷ ys) [] l g = absurd (omega (arith, g))
over_next i (y ∷ ys) (c ∷ []) l g = absurd (omega (arith, g))
over_next i (y ∷ ys) (c ∷ a ∷ []) l g = absurd (omega (arith, g))
over_next zero (y ∷ ys) (c ∷ a ∷ b ∷ ws) l g = refl
over_next (suc i) (y ∷ ys) (c ∷ a ∷ b ∷ ws) l g =
    let x = code_of y.place in
    three_skip x.code x.first x.second (over i ys ws) i (code_of (get_or ys i idler).place)
    ∙ ap (λ (zs : List ℕ). x.code ∷ x.first ∷ x.second ∷ zs) (over_next i ys ws (omega (arith, l)) (omega (arith, g)))

pub over_one : (i : ℕ) (ys : List Worker) (ws zs zs' : List ℕ) → i < length ys → i * 3 + 2 < length ws → zs ≡ over i ys ws → zs' ≡ with_record zs i (get_or ys i idler) → zs' ≡ over (i + 1) ys ws
over_one i ys ws zs zs' l g e h = h ∙ ap (λ (z : List ℕ). with_record z i (get_or ys i idler)) e ∙ over_next i ys ws l g ∙ ap (λ (k : ℕ). over k ys ws) (sym (add-one i))

pub over_all : (ys : List Worker) (ws : List ℕ) → length ws ≡ length ys * 3 → over (length ys) ys ws ≡ records_of ys
unfolding over records_of
over_all [] [] e = refl
over_all [] (c ∷ ws) e = absurd (omega (arith, e))
over_all (y ∷ ys) [] e = absurd (omega (arith, e))
over_all (y ∷ ys) (c ∷ []) e = absurd (omega (arith, e))
over_all (y ∷ ys) (c ∷ a ∷ []) e = absurd (omega (arith, e))
over_all (y ∷ ys) (c ∷ a ∷ b ∷ ws) e =
    ap (λ (zs : List ℕ). (code_of y.place).code ∷ (code_of y.place).first ∷ (code_of y.place).second ∷ zs) (over_all ys ws (omega (arith, e)))
