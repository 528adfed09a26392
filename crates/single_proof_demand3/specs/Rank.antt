-- How many acts a call that alone is scheduled is from its end: a number that falls with every act.
use Rattle.std.specs.Prelude.{ℕ, cond}
use Rattle.single_words.specs.Words.{state, same, pushed_in, closed_in}
use Rattle.single_places.specs.declared.Single.{Single}
use Rattle.single_places.specs.declared.Place.{Place}
use Rattle.single_places.specs.declared.Place.TheVariants.{Idle, A1, A2, A3, B1, B2, B3, B4, B5, C1, C2, C3, Len1, Empty1, Full1, Close1, IsClosed1}

-- An exchange that is won, one that is lost and answers, one that is lost and tried again.
abbrev pub rank_of : Single → Place → ℕ
rank_of s (Idle a) = 0
rank_of s (A1 x) = cond (same s.state (state 0)) 3 1
rank_of s (A2 x) = 2
rank_of s A3 = 1
rank_of s (B1 e x) = cond (closed_in s.state) 1 (cond (same s.state e) 3 4)
rank_of s (B2 x) = 2
rank_of s B3 = 1
rank_of s (B4 x) = 2
rank_of s (B5 old) = 1
rank_of s (C1 e) = cond (same s.state e) 3 (cond (pushed_in s.state) 4 1)
rank_of s C2 = 2
rank_of s (C3 v) = 1
rank_of s Len1 = 1
rank_of s Empty1 = 1
rank_of s Full1 = 1
rank_of s Close1 = 1
rank_of s IsClosed1 = 1
