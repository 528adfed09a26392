-- A verdict asks last whether an exchange is weak, and of one that is to fail alone.
use Prim.Native.Nat.{ℕ}
use mathlib.Core.Path.{◌≡◌, refl, sym, ap, ◌∙◌}
use mathlib.Core.Bool.{Bool, true, false, cond}
use lib.Dec.{ltb}
use Rattle.queue_entries.specs.Limits.{meter_most}
use Rattle.queue_entries.specs.declared.Call.{Call}
use Rattle.queue_entries.specs.declared.Order.{Order}
use Rattle.queue_entries.specs.declared.Order.TheVariants.{Begin, Act}
use Rattle.queue_entries.specs.declared.Verdict.{Verdict}
use Rattle.queue_entries.specs.declared.Verdict.TheVariants.{Refuse, Start, Move}
use Rattle.queue_entries.specs.Entries.{verdict_for}
use Rattle.bounded_places.specs.declared.Place.{Place}
use Rattle.bounded_places.specs.Places.{view_of}
use Rattle.bounded_machine.specs.Turn.{verdict_of}

abbrev asked : Bool → Verdict → Verdict
asked weak (Refuse k) = Refuse k
asked weak (Start c) = Start c
asked weak (Move lose) = cond lose (cond weak (Move true) (Refuse 8)) (Move false)

asked_last : (meter : ℕ) (busy weak : Bool) (o : Order) → asked weak (verdict_for meter busy true o) ≡ verdict_for meter busy weak o
asked_last meter true weak (Begin c) = refl
asked_last meter false weak (Begin c) = refl
asked_last meter false weak (Act lose) = refl
asked_last meter true weak (Act lose) = go (ltb meter meter_most) lose
  where
    go : (t lose : Bool)
        → asked weak (cond t (cond lose (cond true (Move true) (Refuse 8)) (Move false)) (Refuse 7)) ≡ cond t (cond lose (cond weak (Move true) (Refuse 8)) (Move false)) (Refuse 7)
    go true true = refl
    go true false = refl
    go false lose = refl

module _ (meter : ℕ) (p : Place) (o : Order) (busy : Bool) (eb : busy ≡ (view_of p).busy) (v : Verdict) (ev : v ≡ verdict_for meter busy true o) where
  told : asked (view_of p).weak v ≡ verdict_of meter p o
  told = ap (asked (view_of p).weak) (ev ∙ ap (λ (b : Bool). verdict_for meter b true o) eb) ∙ asked_last meter (view_of p).busy (view_of p).weak o

  pub refuses : (k : ℕ) → v ≡ Refuse k → Refuse k ≡ verdict_of meter p o
  refuses k q = ap (asked (view_of p).weak) (sym q) ∙ told

  pub starts : (c : Call) → v ≡ Start c → Start c ≡ verdict_of meter p o
  starts c q = ap (asked (view_of p).weak) (sym q) ∙ told

  module _ (lose : Bool) (q : v ≡ Move lose) where
    moves : cond lose (cond (view_of p).weak (Move true) (Refuse 8)) (Move false) ≡ verdict_of meter p o
    moves = ap (asked (view_of p).weak) (sym q) ∙ told

    pub goes : lose ≡ false → Move false ≡ verdict_of meter p o
    goes h = sym (ap (λ (x : Bool). cond x (cond (view_of p).weak (Move true) (Refuse 8)) (Move false)) h) ∙ moves

    module _ (h : lose ≡ true) (weak : Bool) (ew : weak ≡ (view_of p).weak) where
      fails : cond weak (Move true) (Refuse 8) ≡ verdict_of meter p o
      fails =
          ap (λ (x : Bool). cond x (Move true) (Refuse 8)) ew
          ∙ sym (ap (λ (x : Bool). cond x (cond (view_of p).weak (Move true) (Refuse 8)) (Move false)) h) ∙ moves

      pub loses : weak ≡ true → Move true ≡ verdict_of meter p o
      loses t = sym (ap (λ (x : Bool). cond x (Move true) (Refuse 8)) t) ∙ fails

      pub cannot_lose : weak ≡ false → Refuse 8 ≡ verdict_of meter p o
      cannot_lose t = sym (ap (λ (x : Bool). cond x (Move true) (Refuse 8)) t) ∙ fails
