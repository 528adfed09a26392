-- Why a call goes back to an earlier place (document 02, item 9): what is kept of every worker act by act, and which of the four causes hold.
use Rattle.std.specs.Prelude.{ℕ, zero, suc, Bool, true, false, cond, not, List, ltb, eqb, set, get_or, replicate}
use Rattle.queue_entries.specs.Limits.{all}
use Rattle.bounded_places.specs.declared.Loss.{Loss}
use Rattle.bounded_places.specs.declared.Loss.TheVariants as loss
use Rattle.bounded_places.specs.declared.Loss.TheVariants.{ByWords, BySchedule}
use Rattle.bounded_places.specs.declared.Place.{Place}
use Rattle.bounded_places.specs.declared.Moved.{Moved}
use Rattle.bounded_places.specs.declared.Moved.TheVariants.{Neither, Tail, Head}
use Rattle.bounded_places.specs.declared.Stand.{Stand}
use Rattle.bounded_places.specs.Places.{view_of}
use Rattle.bounded_machine.specs.History.{moved_of}
use Rattle.bounded_causes.specs.declared.Deed.{Deed}
use Rattle.bounded_causes.specs.declared.Since.{Since}
use Rattle.bounded_causes.specs.declared.Watch.{Watch}
use Rattle.bounded_causes.specs.declared.Watches.{Watches}
use Rattle.bounded_causes.specs.declared.Causes.{Causes}
use Rattle.bounded_causes.specs.declared.Named.{Named}

-- ---- places

abbrev pub stand_of : Place → Stand
stand_of p = (view_of p).stand

-- An act that leads from the one to the other goes back to an earlier place of its call.
unfoldable pub goes_back_of : Stand → Stand → Bool
goes_back_of s t = cond (eqb t.far 0) false (ltb t.far s.far)

-- ---- acts

abbrev pub claims_tail : Moved → Bool
claims_tail Neither = false
claims_tail Tail = true
claims_tail Head = false

abbrev pub claims_head : Moved → Bool
claims_head Neither = false
claims_head Tail = false
claims_head Head = true

-- Moved: a claim at that end. Marked: a close that answered yes. The act that leads to P2, O2 or len's second load has loaded or found the word that the
-- call then works with. A stamp load is the act at P2 or O2.
unfoldable pub deed_of : Stand → Stand → Moved → Deed
deed_of s t m =
    record {
      tail = claims_tail m;
      head = claims_head m;
      mark = cond s.close t.yes false;
      word = eqb t.far 2;
      stamp = cond s.stamps (eqb s.far 2) false;
      hand = t.hand;
    }

-- ---- what is kept of a worker

abbrev pub untouched : Since
untouched = record { tail = false; head = false; mark = false }

unfoldable pub since_with : Deed → Since → Since
since_with d s = record { tail = cond d.tail true s.tail; head = cond d.head true s.head; mark = cond d.mark true s.mark }

-- By an act of its own; `others`: another worker has a slot in hand at it.
unfoldable pub own_act : Bool → Deed → Watch → Watch
own_act others d x =
    record {
      word = cond d.word untouched (since_with d x.word);
      stamp = cond d.stamp untouched (since_with d x.stamp);
      others = cond d.stamp others x.others;
      hand = d.hand;
    }

-- By another's act.
unfoldable pub other_act : Deed → Watch → Watch
other_act d x = record { word = since_with d x.word; stamp = since_with d x.stamp; others = x.others; hand = x.hand }

abbrev pub watch_with : Bool → Bool → Deed → Watch → Watch
watch_with own others d x = cond own (own_act others d x) (other_act d x)

-- ---- of all workers

abbrev pub unwatched : Watch
unwatched = record { word = untouched; stamp = untouched; others = false; hand = false }

-- So many workers are watched: as many as can be lent (document 02, item 11).
abbrev pub watched_most : ℕ
watched_most = 64

-- before the first act
abbrev pub start : Watches
start = record { each = replicate watched_most unwatched }

abbrev pub watch_of : List Watch → ℕ → Watch
watch_of xs w = get_or xs w unwatched

-- A worker other than w has a slot in hand: its latest act left it there.
unfoldable pub others_hold : List Watch → ℕ → Bool
others_hold xs w = not (all watched_most 0 (λ (i : ℕ). cond (eqb i w) true (not (watch_of xs i).hand)))

-- So many of them, after an act of worker w.
unfoldable pub watched_to : ℕ → ℕ → Bool → Deed → List Watch → List Watch
watched_to zero w others d xs = xs
watched_to (suc n) w others d xs = set (watched_to n w others d xs) n (watch_with (eqb n w) others d (watch_of xs n))

unfoldable pub watched_of : ℕ → Deed → List Watch → List Watch
watched_of w d xs = watched_to watched_most w (others_hold xs w) d xs

-- ---- the causes

-- "its own end .. has moved or been marked"
abbrev pub own_in : Moved → Since → Bool
own_in Neither s = false
own_in Tail s = cond s.tail true s.mark
own_in Head s = s.head

-- "the other end has moved"
abbrev pub other_in : Moved → Since → Bool
other_in Neither s = false
other_in Tail s = s.head
other_in Head s = s.tail

abbrev pub scheduled : Loss → Bool
scheduled loss.Nothing = false
scheduled ByWords = false
scheduled BySchedule = true

-- Of an act at a place, by what was kept of its worker before it and after it: the word that a lost exchange worked with is the one from before it, and at P2 and
-- O2 the last stamp load is the act itself. "For len only the second counts."
unfoldable pub causes_of : Stand → Watch → Watch → Loss → Causes
causes_of s x y l =
    record {
      schedule = cond s.stamps (scheduled l) false;
      own = own_in s.end x.word;
      other = cond s.stamps (other_in s.end y.stamp) false;
      hand = cond s.stamps y.others false;
    }

-- An act of worker w from p to q: what is kept after it, whether it goes back, and the causes.
unfoldable pub named_of : Watches → ℕ → Place → Place → Loss → Named
named_of ws w p q l =
    record {
      watches = record { each = watched_of w (deed_of (stand_of p) (stand_of q) (moved_of q)) ws.each };
      back = goes_back_of (stand_of p) (stand_of q);
      causes = causes_of (stand_of p) (watch_of ws.each w) (watch_of (watched_of w (deed_of (stand_of p) (stand_of q) (moved_of q)) ws.each) w) l;
    }
