-- What `search` is given at the returns of an act: the parts of what it leaves, one at a time.
use Prim.Native.Nat.{ℕ}
use mathlib.Core.Path.{◌≡◌, ap, ◌∙◌}
use Rattle.queue_entries.proofs.Pick.{along}
use Rattle.single_words.specs.declared.State.{State}
use Rattle.single_places.specs.declared.Single.{Single}
use Rattle.single_places.specs.declared.Answer.{Answer}
use Rattle.single_places.specs.declared.Answer.TheVariants.{Len}
use Rattle.single_places.specs.declared.Place.{Place}
use Rattle.single_places.specs.declared.Place.TheVariants.{Idle, B1, C1}
use Rattle.single_acts.specs.declared.Acted.{Acted}
use Rattle.single_acts.specs.Acts.{goes, state_to, exchanged, act_of}

pub singles : (s s' : Single) (p : Place) (r : Acted) → r ≡ goes s' p → s' ≡ s → r ≡ goes s p
singles s s' p r q h = q ∙ ap (λ (x : Single). goes x p) h

pub places : (s : Single) (p p' : Place) (r : Acted) → r ≡ goes s p' → p' ≡ p → r ≡ goes s p
places s p p' r q h = q ∙ ap (goes s) h

pub answers : (s : Single) (a a' : Answer) (r : Acted) → r ≡ goes s (Idle a') → a' ≡ a → r ≡ goes s (Idle a)
answers s a a' r q h = q ∙ ap (λ (x : Answer). goes s (Idle x)) h

pub lens : (s : Single) (n k : ℕ) (r : Acted) → r ≡ goes s (Idle (Len n)) → n ≡ k → r ≡ goes s (Idle (Len k))
lens s n k r q h = q ∙ ap (λ (x : ℕ). goes s (Idle (Len x))) h

pub states : (s : Single) (w w' : State) (r : Single) → r ≡ state_to s w' → w' ≡ w → r ≡ state_to s w
states s w w' r q h = q ∙ ap (state_to s) h

pub exchanges : (s : Single) (e w w' : State) (r : Single) → r ≡ exchanged s e w' → w' ≡ w → r ≡ exchanged s e w
exchanges s e w w' r q h = q ∙ ap (exchanged s e) h

-- the word that a retry expects
pub again_b : (e e' : State) (x : ℕ) → e' ≡ e → B1 e' x ≡ B1 e x
again_b e e' x h = ap (λ (w : State). B1 w x) h

pub again_c : (e e' : State) → e' ≡ e → C1 e' ≡ C1 e
again_c e e' h = ap C1 h

pub ruleset parts = (singles, places, answers, lens, states, exchanges, again_b, again_c)

pub along_act : (s : Single) (p q : Place) (r : Acted) → p ≡ q → r ≡ act_of s q → r ≡ act_of s p
along_act s = along (act_of s)
