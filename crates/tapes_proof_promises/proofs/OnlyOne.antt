-- Only one answer and one buffer meet each promise of tapes, as their own contracts say it.
use mathlib.Core.Path.{sym, ◌∙◌}
use Rattle.tapes_proof_promises.specs.Own.{OnlyOneOwn}

pub only_one_own : OnlyOneOwn
only_one_own =
    record {
      of_write = λ κ κ' ptr name v capacity workers words before x y a b p q. (p.0 ∙ sym q.0, p.1 ∙ sym q.1);
      of_read = λ κ κ' ptr name bytes before x y a b p q. (p.0 ∙ sym q.0, p.1 ∙ sym q.1);
    }
