-- The answer that a call alone gives, foretold from the queue's word and value, for a call that has only begun and for one under way.
-- That it is the answer given: `EndsAlone` of Demands.antt; rows of Runs.antt have it computed.
use Rattle.std.specs.Prelude.{ℕ, cond}
use Rattle.single_words.specs.Words.{pushed_in, closed_in}
use Rattle.single_places.specs.declared.Single.{Single}
use Rattle.single_places.specs.declared.Answer.{Answer}
use Rattle.single_places.specs.declared.Answer.TheVariants.{Pushed, Full, Closed, Displaced, Popped, Empty, PopClosed, Len, Yes, No}
use Rattle.single_places.specs.declared.Place.{Place}
use Rattle.single_places.specs.declared.Place.TheVariants.{Idle, A1, A2, A3, B1, B2, B3, B4, B5, C1, C2, C3, Len1, Empty1, Full1, Close1, IsClosed1}
use Rattle.single_acts.specs.Acts.{len_of}
use Rattle.single_machine.specs.declared.Machine.{Machine}
use Rattle.single_machine.specs.Machine.{place_of}

-- The word that an exchange expects counts for nothing: one that is out of date costs an act and no more.
abbrev pub foretold_of : Single → Place → Answer
foretold_of s (Idle a) = a
foretold_of s (A1 x) = cond (closed_in s.state) (Closed x) (cond (pushed_in s.state) (Full x) Pushed)
foretold_of s (A2 x) = Pushed
foretold_of s A3 = Pushed
foretold_of s (B1 e x) = cond (closed_in s.state) (Closed x) (cond (pushed_in s.state) (Displaced s.value) Pushed)
foretold_of s (B2 x) = Pushed
foretold_of s B3 = Pushed
foretold_of s (B4 x) = Displaced s.value
foretold_of s (B5 old) = Displaced old
foretold_of s (C1 e) = cond (pushed_in s.state) (Popped s.value) (cond (closed_in s.state) PopClosed Empty)
foretold_of s C2 = Popped s.value
foretold_of s (C3 v) = Popped v
foretold_of s Len1 = Len (len_of s.state)
foretold_of s Empty1 = cond (pushed_in s.state) No Yes
foretold_of s Full1 = cond (pushed_in s.state) Yes No
foretold_of s Close1 = cond (closed_in s.state) No Yes
foretold_of s IsClosed1 = cond (closed_in s.state) Yes No

-- Of worker w's call on this machine.
abbrev pub foretold : Machine → ℕ → Answer
foretold m w = foretold_of m.single (place_of m.workers w)
