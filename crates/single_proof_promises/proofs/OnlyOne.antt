-- Only one answer meets each promise of the one-slot queue's functions, as their own contracts say it.
use mathlib.Core.Path.{sym, ◌∙◌}
use Rattle.single_proof_promises.specs.Own.{OnlyOneOwn}

pub only_one_own : OnlyOneOwn
only_one_own =
    record {
      of_make = λ workers x y p q. p ∙ sym q;
      of_step = λ m first second x y p q. p ∙ sym q;
      of_begin = λ m first second x y p q. p ∙ sym q;
      of_act = λ m first second x y p q. p ∙ sym q;
      of_run = λ κ r m x y p q. p ∙ sym q;
      of_contents = λ κ ptr name m before x y a b p q. (p.0 ∙ sym q.0, p.1 ∙ sym q.1);
      of_capacity = λ m x y p q. p ∙ sym q;
      of_broken = λ m x y p q. p ∙ sym q;
    }
