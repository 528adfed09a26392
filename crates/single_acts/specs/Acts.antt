-- The acts of src/single.rs, row by row: place | action | then. Beside each row the source's lines; `state` is the word that was found.
use Rattle.std.specs.Prelude.{ℕ, cond}
use Rattle.single_words.specs.declared.State.{State}
use Rattle.single_words.specs.Words.{state, same, pushed_in, closed_in, filled, unlocked, taken_of, closed_of_word}
use Rattle.single_places.specs.declared.Single.{Single}
use Rattle.single_places.specs.declared.Answer.TheVariants.{Pushed, Full, Closed, Displaced, Popped, Empty, PopClosed, Len, Yes, No}
use Rattle.single_places.specs.declared.Place.{Place}
use Rattle.single_places.specs.declared.Place.TheVariants.{Idle, A1, A2, A3, B1, B2, B3, B4, B5, C1, C2, C3, Len1, Empty1, Full1, Close1, IsClosed1}
use Rattle.single_acts.specs.declared.Acted.{Acted}

-- The queue is this, and the worker goes to p.
unfoldable pub goes : Single → Place → Acted
goes s p = record { single = s; place = p }

-- The kinds of effect: the word, the value.
unfoldable pub state_to : Single → State → Single
state_to s w = record { state = w; value = s.value }

unfoldable pub value_to : Single → ℕ → Single
value_to s v = record { state = s.state; value = v }

-- self.state.compare_exchange(e, w): a strong exchange
unfoldable pub exchanged : Single → State → State → Single
exchanged s e w = cond (same s.state e) (state_to s w) s

-- self.state.fetch_and(!LOCKED)
unfoldable pub unlocked_in : Single → Single
unlocked_in s = state_to s (unlocked s.state)

-- ---- push

-- A1 | exchange 0 for LOCKED | PUSHED | found 0: A2; else Closed where it is closed, else Full
--   if state == 0 {  ..  } else if state & CLOSED != 0 { Err(PushError::Closed(value)) } else { Err(PushError::Full(value)) }
abbrev pub act_a1 : Single → ℕ → Acted
act_a1 s x =
    goes (exchanged s (state 0) filled)
    (cond (same s.state (state 0)) (A2 x) (cond (closed_in s.state) (Idle (Closed x)) (Idle (Full x))))

-- A2 | write the item | A3
--   slot.write(MaybeUninit::new(value));
abbrev pub act_a2 : Single → ℕ → Acted
act_a2 s x = goes (value_to s x) A3

-- A3 | unlock | Pushed
--   self.state.fetch_and(!LOCKED, Ordering::Release); Ok(())
abbrev pub act_a3 : Single → Acted
act_a3 s = goes (unlocked_in s) (Idle Pushed)

-- ---- force_push

-- B1 | exchange e (0 at first) for LOCKED | PUSHED | closed: Closed, also of an exchange that was won; won: B4 where it is pushed, else
--    B2; lost: B1 with the word found, LOCKED cleared
--   if prev & CLOSED != 0 { return Err(ForcePushError(value)); }
--   if prev == state { if prev & PUSHED == 0 {  write  } else {  replace  } .. }
--   if prev & LOCKED == 0 { state = prev; } else { busy_wait(); state = prev & !LOCKED; }
abbrev pub act_b1 : Single → State → ℕ → Acted
act_b1 s e x =
    goes (exchanged s e filled)
    (cond (closed_in s.state) (Idle (Closed x))
    (cond (same s.state e) (cond (pushed_in s.state) (B4 x) (B2 x)) (B1 (unlocked s.state) x)))

-- B2 | write the item | B3
--   slot.write(MaybeUninit::new(value));
abbrev pub act_b2 : Single → ℕ → Acted
act_b2 s x = goes (value_to s x) B3

-- B3 | unlock | Pushed
--   self.state.fetch_and(!LOCKED, Ordering::Release); return Ok(None)
abbrev pub act_b3 : Single → Acted
act_b3 s = goes (unlocked_in s) (Idle Pushed)

-- B4 | replace the value by the item | B5 with the old one
--   ptr::replace(slot, MaybeUninit::new(value)).assume_init()
abbrev pub act_b4 : Single → ℕ → Acted
act_b4 s x = goes (value_to s x) (B5 s.value)

-- B5 | unlock | Displaced(old)
--   self.state.fetch_and(!LOCKED, Ordering::Release); return Ok(Some(prev_value))
abbrev pub act_b5 : Single → ℕ → Acted
act_b5 s old = goes (unlocked_in s) (Idle (Displaced old))

-- ---- pop

-- C1 | exchange e (PUSHED at first) for (e | LOCKED) & !PUSHED | won: C2; not pushed: Closed where it is closed, else Empty; lost: C1 with
--    the word found, LOCKED cleared
--   if prev == state {  ..  }
--   if prev & PUSHED == 0 { if prev & CLOSED == 0 { return Err(PopError::Empty); } else { return Err(PopError::Closed); } }
--   if prev & LOCKED == 0 { state = prev; } else { busy_wait(); state = prev & !LOCKED; }
abbrev pub act_c1 : Single → State → Acted
act_c1 s e =
    goes (exchanged s e (taken_of e))
    (cond (same s.state e) C2
    (cond (pushed_in s.state) (C1 (unlocked s.state)) (cond (closed_in s.state) (Idle PopClosed) (Idle Empty))))

-- C2 | read the value | C3 with it
--   slot.read().assume_init()
abbrev pub act_c2 : Single → Acted
act_c2 s = goes s (C3 s.value)

-- C3 | unlock | Popped(value)
--   self.state.fetch_and(!LOCKED, Ordering::Release); return Ok(value);
abbrev pub act_c3 : Single → ℕ → Acted
act_c3 s v = goes (unlocked_in s) (Idle (Popped v))

-- ---- the lookers, one load each, and close

-- usize::from(self.state.load(Ordering::SeqCst) & PUSHED != 0)
abbrev pub len_of : State → ℕ
len_of w = cond (pushed_in w) 1 0

abbrev pub act_len1 : Single → Acted
act_len1 s = goes s (Idle (Len (len_of s.state)))

-- self.len() == 0
abbrev pub act_empty1 : Single → Acted
act_empty1 s = goes s (Idle (cond (pushed_in s.state) No Yes))

-- self.len() == 1
abbrev pub act_full1 : Single → Acted
act_full1 s = goes s (Idle (cond (pushed_in s.state) Yes No))

-- let state = self.state.fetch_or(CLOSED, Ordering::SeqCst); state & CLOSED == 0
abbrev pub act_close1 : Single → Acted
act_close1 s = goes (state_to s (closed_of_word s.state)) (Idle (cond (closed_in s.state) No Yes))

-- self.state.load(Ordering::SeqCst) & CLOSED != 0
abbrev pub act_is_closed1 : Single → Acted
act_is_closed1 s = goes s (Idle (cond (closed_in s.state) Yes No))

-- The act at a place. (An idle worker does not act: refusal 5.)
abbrev pub act_of : Single → Place → Acted
act_of s (Idle a) = goes s (Idle a)
act_of s (A1 x) = act_a1 s x
act_of s (A2 x) = act_a2 s x
act_of s A3 = act_a3 s
act_of s (B1 e x) = act_b1 s e x
act_of s (B2 x) = act_b2 s x
act_of s B3 = act_b3 s
act_of s (B4 x) = act_b4 s x
act_of s (B5 old) = act_b5 s old
act_of s (C1 e) = act_c1 s e
act_of s C2 = act_c2 s
act_of s (C3 v) = act_c3 s v
act_of s Len1 = act_len1 s
act_of s Empty1 = act_empty1 s
act_of s Full1 = act_full1 s
act_of s Close1 = act_close1 s
act_of s IsClosed1 = act_is_closed1 s
