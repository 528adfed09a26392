-- Only one answer meets each promise of the ring's functions, as their own contracts say it.
use mathlib.Core.Path.{refl, sym, ◌∙◌, subst}
use Rattle.bounded_demands.specs.Notions.{sixty_four, sixteen}
use Rattle.bounded_demands.specs.Demands.{OnlyOneMeets}
use Rattle.bounded_demands.proofs.EachNumber.{only_one_meets}
use Rattle.bounded_proof_promises.specs.Own.{AsWritten, OnlyOneOwn}

pub as_written : AsWritten
as_written = record { of_sixty_four = λ κ ptr name. refl; of_sixteen = λ κ ptr name. refl }

pub only_one_own : OnlyOneOwn
only_one_own =
    record {
      of_sixty_four = λ κ ptr name. subst OnlyOneMeets (sym (as_written.of_sixty_four κ ptr name)) (only_one_meets sixty_four);
      of_sixteen = λ κ ptr name. subst OnlyOneMeets (sym (as_written.of_sixteen κ ptr name)) (only_one_meets sixteen);
      of_walk = λ κ ptr name m depth before x y a b p q. (p.0 ∙ sym q.0, p.1 ∙ sym q.1);
      of_size = λ m depth x y p q. p ∙ sym q;
      of_moved_by = λ w x y p q. p ∙ sym q;
      of_reads_at = λ w x y p q. p ∙ sym q;
      of_tally = λ t w v x y p q. p ∙ sym q;
      of_stock = λ t x y p q. p ∙ sym q;
      of_causes_start = λ x y p q. p ∙ sym q;
      of_name_causes = λ ws w u v l x y p q. p ∙ sym q;
      of_stand_of = λ w x y p q. p ∙ sym q;
      of_goes_back = λ s t x y p q. p ∙ sym q;
      of_claims_tail = λ m x y p q. p ∙ sym q;
      of_claims_head = λ m x y p q. p ∙ sym q;
      of_moments_start = λ capacity x y p q. p ∙ sym q;
      of_begun = λ ms x y p q. p ∙ sym q;
      of_name_moment = λ ms w u v x y p q. p ∙ sym q;
    }
