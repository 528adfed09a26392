-- Each row is shown by some log: by computing.
use Prim.Native.Nat.{ℕ, zero, suc, ◌≤◌, ◌<◌}
use native.Mathlib.Omega.{arith}
use mathlib.Core.Bool.{Bool, true, false, cond}
use mathlib.Core.List.{List, [], ◌∷◌}
use mathlib.Core.Logic.{◌≢◌}
use mathlib.Core.Path.{◌≡◌, refl}
use lib.Dec.{eqb}
use lib.ListN.{length, get_or}
use Rattle.queue_entries.specs.declared.Call.{Call}
use Rattle.queue_entries.specs.declared.Call.TheVariants.{Push, Pop, Len, IsEmpty, Close, IsClosed}
use Rattle.queue_plain.specs.Plain.{Reply, Pushed, Empty, Yes, No, Full, Popped, Count}
use Rattle.queue_plain.specs.Story.{items_of}
use Rattle.queue_logs.specs.Logs.{Line, Log, nobody, total, weigh, only, any, handed_in, before, FromNowhere, Twice, Overtaken, EmptyBeside, says_empty}
use Rattle.queue_logs.specs.Logs.{FullBeside, push_full_said, ClosedNever, is_closed_said, OpenAfter, pushed_said, WrongCount, too_many, too_few}
use Rattle.queue_logs.specs.Logs.{RoomBeside, pushed_into, SomeBeside}

-- a call that began here, answered there
line : Call → Reply → ℕ → ℕ → Line
line c r from to = record { worker = 0; calls = c ∷ []; from = from; reply = r ∷ []; to = to }

-- one that began here
under_way : Call → ℕ → Line
under_way c from = record { worker = 1; calls = c ∷ []; from = from; reply = []; to = 0 }

only_small : (v x : ℕ) → only v x ≤ 1
only_small v x = go (eqb v x)
  where
    go : (b : Bool) → cond b 1 0 ≤ 1
    go true = omega arith
    go false = omega arith

log : List Line → Log
log l = record { size = length l; line = λ x. get_or l x nobody }

row2 : Twice (log (line (Push 5) Pushed 0 1 ∷ line Pop (Popped 5) 2 3 ∷ line Pop (Popped 5) 4 5 ∷ [])) 5
unfolding log line weigh items_of total
row2 = omega arith

row3 : Overtaken (log (line (Push 5) Pushed 0 1 ∷ line (Push 6) Pushed 2 3 ∷ line Pop (Popped 6) 4 5 ∷ line Pop (Popped 5) 6 7 ∷ [])) 5 6 0 1 3 2
unfolding log line weigh items_of total
row3 =
    record {
      there = (omega arith, omega arith, omega arith, omega arith);
      a_in = refl;
      b_in = refl;
      a_out = refl;
      b_out = refl;
      a_once = refl;
      b_once = refl;
      in_order = refl;
      out_of_order = refl;
    }

row4 : EmptyBeside (log (line (Push 5) Pushed 0 1 ∷ line Pop Empty 2 3 ∷ [])) 1 (only 5)
unfolding log line weigh items_of total
row4 = (only_small 5, says_empty (omega arith, refl, refl), omega arith)

-- of two items, where one pop is under way
row4_two : EmptyBeside (log (line (Push 5) Pushed 0 1 ∷ line (Push 6) Pushed 2 3 ∷ under_way Pop 4 ∷ line Pop Empty 5 6 ∷ [])) 3 any
unfolding log line under_way weigh items_of total
row4_two = ((λ v. omega arith), says_empty (omega arith, refl, refl), omega arith)

row5 : FullBeside (log (line (Push 5) Pushed 0 1 ∷ line (Push 6) (Full 6) 2 3 ∷ [])) 2 1
unfolding log line weigh items_of total
row5 = (push_full_said 6 (omega arith, refl, refl), omega arith)

row6_after : OpenAfter (log (line Close Yes 0 1 ∷ line (Push 6) Pushed 2 3 ∷ [])) 0 1
unfolding log line
row6_after = record { there = omega arith; closes = refl; earlier = refl; says = pushed_said 6 (omega arith, refl, refl) }

row7 : WrongCount (log (line (Push 5) Pushed 0 1 ∷ line Len (Count 0) 2 3 ∷ [])) 4 1 0
unfolding log line weigh items_of total
row7 = too_few (omega arith, refl, refl) (omega arith)

row7_more : WrongCount (log (line (Push 5) Pushed 0 1 ∷ line Len (Count 2) 2 3 ∷ [])) 4 1 2
unfolding log line weigh items_of total
row7_more = too_many (omega arith, refl, refl) (omega arith)

row8 : RoomBeside (log (line (Push 5) Pushed 0 1 ∷ line (Push 6) Pushed 2 3 ∷ [])) 1 1
unfolding log line weigh items_of total
row8 = (pushed_into 6 (omega arith, refl, refl), omega arith)

row8_some : SomeBeside (log (line (Push 5) Pushed 0 1 ∷ line Pop (Popped 5) 2 3 ∷ line IsEmpty No 4 5 ∷ [])) 2
unfolding log line weigh items_of total
row8_some = ((omega arith, refl, refl), omega arith)

-- the rows that ask of every other call
below_two : (P : ℕ → Type 0) → P 0 → P 1 → (x : ℕ) → x < 2 → P x
below_two P p q zero h = p
below_two P p q (suc zero) h = q
below_two P p q (suc (suc x)) h = absurd (omega (arith, h))

abbrev log1 : Log
log1 = log (line Pop (Popped 5) 0 1 ∷ line (Push 5) Pushed 2 3 ∷ [])

row1 : FromNowhere log1 0 5
unfolding log line weigh items_of
row1 =
    record {
      there = omega arith;
      out = refl;
      later = below_two (λ x. x ≢ 0 → 0 < weigh (only 5) (handed_in (log1.line x)) → before log1 0 x ≡ true) (λ ne h. absurd (ne refl)) (λ ne h. refl);
    }

abbrev log6 : Log
log6 = log (line IsClosed Yes 0 1 ∷ line Close Yes 2 3 ∷ [])

row6 : ClosedNever log6 0
unfolding log line
row6 =
    record {
      says = is_closed_said (omega arith, refl, refl);
      later = below_two (λ x. x ≢ 0 → (log6.line x).calls ≡ Close ∷ [] → before log6 0 x ≡ true) (λ ne h. absurd (ne refl)) (λ ne h. refl);
    }
