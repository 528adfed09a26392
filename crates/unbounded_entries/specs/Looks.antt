-- What the loop asks after an entry, of its worker's record and of its block's header. That it is enough: crate unbounded_judged, proofs/Judged.antt.
use Rattle.std.specs.Prelude.{ℕ, ◌+◌, ◌%◌, Bool, true, false, cond, not, ◌==◌, nat_lt}
use Rattle.queue_entries.specs.declared.Order.{Order}
use Rattle.queue_entries.specs.declared.Order.TheVariants.{Begin, Act}
use Rattle.unbounded_words.specs.declared.Pointer.{Pointer}
use Rattle.unbounded_words.specs.Words.{Sizes, wide, none_of, number_of}
use Rattle.unbounded_places.specs.declared.Block.{Block}
use Rattle.unbounded_places.specs.declared.Place.{Place}
use Rattle.unbounded_places.specs.declared.Uses.{Uses}
use Rattle.unbounded_places.specs.declared.Uses.TheVariants as uses
use Rattle.unbounded_places.specs.Places.{view_of}
use Rattle.unbounded_entries.specs.declared.Look.{Look}

abbrev pub looked : Bool → Bool → Bool → ℕ → Look
looked busy asks fits k = record { busy = busy; asks = asks; fits = fits; block = k }

unfoldable pub look_block : Sizes → ℕ → Look
look_block z k = cond (nat_lt k z.blocks) (looked true true true k) (looked true false false 0)

unfoldable pub look_slot : Sizes → ℕ → ℕ → Look
look_slot z k i = cond (nat_lt i z.slots) (look_block z k) (looked true false false 0)

abbrev pub look_uses : Sizes → Uses → Look
look_uses z uses.Nothing = looked true false true 0
look_uses z (uses.Block k) = look_block z k
look_uses z (uses.Slot k i) = look_slot z k i

unfoldable pub look_at : Sizes → Place → Look
look_at z p = cond (view_of z p).busy (look_uses z (view_of z p).uses) (looked false false true 0)

unfoldable pub fits_at : Look → Block → Bool
fits_at look g = cond look.asks (not g.free) look.fits

unfoldable pub same_pointer : Sizes → Pointer → Pointer → Bool
same_pointer z p q = cond (none_of p) (none_of q) (cond (none_of q) false (number_of z p == number_of z q))

unfoldable pub same_header : Sizes → Block → Block → Bool
same_header z a b = cond (same_pointer z a.next b.next) (cond a.free b.free (not b.free)) false

abbrev pub tallied : ℕ → Order → Bool → ℕ
tallied busy (Begin c) after = (busy + 1) % wide
tallied busy (Act lose) after = cond after busy ((busy + 18446744073709551615) % wide)
