use mathlib.Core.Path.{◌≡◌, refl, sym, ◌∙◌}
use mathlib.Core.Bool.{Bool, true, false, not}
use borrow.Author.Rules.{rules}
use Rattle.bounded_sequences.proofs.Acting.{first_busy, second_busy, third_busy}
use Rattle.bounded_sequences.proofs.none_busy.Goals as goal
use Rattle.bounded_sequences.proofs.none_busy.Goals.{then-not-may_act, else-not-may_act}

not_false : (b : Bool) → not b ≡ false → b ≡ true
not_false true e = refl
not_false false e = sym e

pub returns-then-not-may_act-2 : goal.returns-then-not-may_act-2
returns-then-not-may_act-2 c = search (rules, third_busy)

pub returns-else-not-may_act-2 : goal.returns-else-not-may_act-2
returns-else-not-may_act-2 c =
    let none = c.if-not-may_act-2.false in
    elim c.if-not-may_act.branch [
      | then-not-may_act w ↦ let busy : w.may_act-then-not-may_act.result ≡ true = not_false _ (sym w.value-is ∙ none) in none ∙ (search (rules, second_busy))
      | else-not-may_act w ↦ none ∙ (search (rules, first_busy))
    ]
