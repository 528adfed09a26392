-- A function changed at one place.
use mathlib.Core.Path.{◌≡◌, refl}
use mathlib.Core.Logic.{◌≢◌}
use Prim.Native.Nat.{ℕ}
use native.Mathlib.Decide.{ℕ_discrete}

abbrev pub choose {ℓ} : {A : Type ℓ} {P : Type 0} → Dec P → A → A → A
choose (yes p) a b = a
choose (no n) a b = b

unfoldable pub upd : {A : Type 0} → (ℕ → A) → ℕ → A → ℕ → A
upd f i a j = choose (ℕ_discrete j i) a (f j)

pub choose_yes {ℓ} : {A : Type ℓ} {P : Type 0} (d : Dec P) (a b : A) → P → choose d a b ≡ a
choose_yes (yes p) a b h = refl
choose_yes (no n) a b h = absurd (n h)

pub choose_no {ℓ} : {A : Type ℓ} {P : Type 0} (d : Dec P) (a b : A) → ¬ P → choose d a b ≡ b
choose_no (yes p) a b h = absurd (h p)
choose_no (no n) a b h = refl

pub upd_same : {A : Type 0} (f : ℕ → A) (i : ℕ) (a : A) → upd f i a i ≡ a
unfolding upd
upd_same f i a = choose_yes (ℕ_discrete i i) a (f i) refl

pub upd_at : {A : Type 0} (f : ℕ → A) (i j : ℕ) (a : A) → j ≡ i → upd f i a j ≡ a
unfolding upd
upd_at f i j a e = choose_yes (ℕ_discrete j i) a (f j) e

pub upd_else : {A : Type 0} (f : ℕ → A) (i j : ℕ) (a : A) → j ≢ i → upd f i a j ≡ f j
unfolding upd
upd_else f i j a h = choose_no (ℕ_discrete j i) a (f j) h
