-- How many acts a call that alone is scheduled is from its end: a number that falls with every act. It goes by the words
-- alone; what the ring adds is what a stamp load finds when no slot is in another's hand (`Finds`).
use Rattle.std.specs.Prelude.{cond, ℕ, ◌+◌}
use Rattle.bounded_words.specs.declared.Fixed.{Fixed}
use Rattle.bounded_words.specs.declared.Width.{Width}
use Rattle.bounded_words.specs.Words.{unmarked_of, minus, same, lap_behind}
use Rattle.bounded_places.specs.declared.Ends.{Ends}
use Rattle.bounded_places.specs.declared.Place.{Place}
use Rattle.bounded_places.specs.declared.Place.TheVariants.{Idle, P1, P2, P3, P4, P5, P6, F6, F7, F8, F9, O1, O2, O3, O4, O5, O6, Len1, Len2, Len3, Empty1, Empty2, Full1, Full2, Close1, IsClosed1}
use Rattle.bounded_demands.specs.Notions.{one_more_act}

-- A word that is not out of date costs fewer acts: then the rank is the first number, else the second. Beside others' hands a word of tail that is out of date costs
-- `more` at P2, the round through P6 or F6.
abbrev pub rank_beside : ℕ → Width → Fixed → Ends → Place → ℕ
rank_beside more bits f e (Idle a) = 0
rank_beside more bits f e (P1 k x) = 5 + one_more_act k
rank_beside more bits f e (P2 k t x) = cond (same (unmarked_of f e.tail) t) (4 + one_more_act k) (6 + more + one_more_act k)
rank_beside more bits f e (P3 k t x) = cond (same (unmarked_of f e.tail) t) 3 (5 + one_more_act k)
rank_beside more bits f e (P4 t x) = 2
rank_beside more bits f e (P5 t) = 1
rank_beside more bits f e (P6 t x) = cond (lap_behind bits f e.head t) 1 6
rank_beside more bits f e (F6 t x) = cond (same e.head (minus bits t f.lap)) 4 7
rank_beside more bits f e (F7 t x) = 3
rank_beside more bits f e (F8 t x) = 2
rank_beside more bits f e (F9 t old) = 1
rank_beside more bits f e O1 = 5
rank_beside more bits f e (O2 h) = cond (same e.head h) 4 6
rank_beside more bits f e (O3 h) = cond (same e.head h) 3 5
rank_beside more bits f e (O4 h) = 2
rank_beside more bits f e (O5 h v) = 1
rank_beside more bits f e (O6 h) = cond (same (unmarked_of f e.tail) h) 1 6
rank_beside more bits f e Len1 = 3
rank_beside more bits f e (Len2 t) = cond (same e.tail t) 2 5
rank_beside more bits f e (Len3 t h) = cond (same e.tail t) 1 4
rank_beside more bits f e Empty1 = 2
rank_beside more bits f e (Empty2 h) = 1
rank_beside more bits f e Full1 = 2
rank_beside more bits f e (Full2 t) = 1
rank_beside more bits f e Close1 = 1
rank_beside more bits f e IsClosed1 = 1

-- With no slot in another's hand.
abbrev pub rank_of : Width → Fixed → Ends → Place → ℕ
rank_of = rank_beside 0
