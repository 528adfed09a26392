-- With no slip the reader is document 02's; each slip, refuted by computing.
use Prim.Native.Nat.{ℕ}
use mathlib.Core.List.{List, [], ◌∷◌, ◌++◌}
use mathlib.Core.Path.{◌≡◌, refl, ap}
use mathlib.Core.Logic.{inl, inr}
use native.Mathlib.Omega.{arith}
use lib.ListN.{get_or, replicate}
use Rattle.queue_entries.specs.Entries.{entry_of, stray_of, order_of}
use Rattle.tapes_numbers.specs.declared.Variant.TheVariants.{BigEndian}
use Rattle.tapes_numbers.specs.Numbers.{in_order, digits_of, value_of, bytes_of, number_of}
use Rattle.tapes_fields.specs.Fields.{opening_of, field_of, end_of, swapped, tag_for, item_long, body_of, size_of, over, head_of, entry_field_of}
use Rattle.tapes_fields.specs.Judged.{opens, allowed, head_by, head_in, entry_by, field_in, carried_by, carried}
use Rattle.tapes.specs.declared.Reading.{Reading}
use Rattle.tapes.specs.declared.Reading.TheVariants.{Refused, Schedule}
use Rattle.tapes.specs.declared.Writing.{Writing}
use Rattle.tapes.specs.declared.Writing.TheVariants as writing
use Rattle.tapes.specs.Written.{entries_of, tape_of, load_from, fitted, write_of, accepted, written_of}
use Rattle.tapes.specs.Written as writer
use Rattle.tapes.specs.Heard.{words_in, taken, read_into, joined, long_of, heard_by, hear_from, hear_in, count_in, read_by, read_after, read_of, number_in, value_in}
use Rattle.tapes_demands.specs.Notions.{Below, OneOf, Carriable, entries_long, about_of}
use Rattle.tapes_demands.specs.Cases.{first}
use Rattle.tapes_demands.specs.Recording.{entry}
use Rattle.tapes_host.specs.declared.Reply.{Reply}
use Rattle.tapes_host.specs.Host.{Written, write_tape}
use Rattle.tapes_host.specs.Recorder.{entries_can, stands, stands_by, recorder_by, recorder_in, begun_by, begin_tape, put_at, append_at, append_by, append_tape, end_at, end_by, end_tape}
use Rattle.tapes_slips.specs.Slips.{none, amiss, reported, turned, Faithful}
use Rattle.tapes_slips.specs.Refuted.{Refuted}

pub faithful : Faithful
faithful = record {
  read = λ s room. go s room (read_of s room);
  face = λ capacity workers words room. wrote (write_of capacity workers words room);
  face_read = λ s room. turns (read_of s room);
  begin = λ name capacity workers recorder tape. refl;
  append = λ recorder first item tape. refl;
  end = λ recorder tape. refl;
}
  where
    go : (s : List ℕ) (room : ℕ) (r : Reading) → amiss none s room r ≡ r
    go s room (Refused number value) = refl
    go s room (Schedule v capacity workers count) = refl

    wrote : (w : Writing) → reported none w ≡ w
    wrote (writing.Refused number value) = refl
    wrote (writing.Tape count) = refl

    turns : (r : Reading) → turned none r ≡ r
    turns (Refused number value) = refl
    turns (Schedule v capacity workers count) = refl

-- twelve is no refusal of an end
not_an_end : OneOf 12 (0 ∷ 6 ∷ []) → ⊥
not_an_end (inl e) = omega arith
not_an_end (inr (inl e)) = omega arith
not_an_end (inr (inr x'')) = elim x'' [ ]

-- twelve is none of the writer's
not_twelve : OneOf 12 (0 ∷ 11 ∷ 17 ∷ 16 ∷ []) → ⊥
not_twelve (inl e) = omega arith
not_twelve (inr (inl e)) = omega arith
not_twelve (inr (inr (inl e))) = omega arith
not_twelve (inr (inr (inr (inl e)))) = omega arith
not_twelve (inr (inr (inr (inr x4)))) = elim x4 [ ]

-- a tape of capacity 2 and one worker with no entry
bare : List ℕ
bare = first ++ 0x04 ∷ 0x00 ∷ 0x00 ∷ []

bare_low : Below 256 bare
unfolding bare
bare_low = (omega arith, (omega arith, (omega arith, (omega arith, (omega arith, (omega arith, (omega arith, (omega arith, (omega arith, (omega arith, tt))))))))))

first_low : Below 256 first
first_low = (omega arith, (omega arith, (omega arith, (omega arith, (omega arith, (omega arith, (omega arith, tt)))))))

-- a schedule of no entry can be carried
empty : Carriable 2 1 []
empty = record { whole = refl; narrow = omega arith; few = omega arith; carries = tt }

pub refuted : Refuted
unfolding bare entries_long accepted over head_of entry_field_of entries_of tape_of load_from fitted write_of written_of writer.number_in taken words_in read_into in_order
    digits_of value_of bytes_of number_of opening_of field_of end_of swapped tag_for size_of opens allowed head_by head_in entry_by field_in joined long_of heard_by hear_from
    hear_in count_in read_by read_after read_of number_in value_in writer.value_in entry_of stray_of order_of carried carried_by item_long body_of write_tape entries_can stands stands_by recorder_by recorder_in
    begun_by begin_tape put_at append_at append_by append_tape end_at end_by end_tape
refuted =
    record {
      -- code 1 under tag 3, and then an unknown tag
      later =
          λ r. let q : ◌≡◌ {A = ℕ} 13 14 = ap number_in (r.later first (0x03 ∷ 0x00 ∷ 0x01 ∷ 0x10 ∷ 0x05 ∷ 0x00 ∷ 0x00 ∷ []) BigEndian 2 1 0 0 0 14 first_low refl refl) in omega arith;
      first = λ r. let q : ◌≡◌ {A = ℕ} 1 0 = ap value_in (r.first (0x00 ∷ 0x00 ∷ 0x00 ∷ []) 0 13 refl) in omega arith;
      past = λ r. let q : ◌≡◌ {A = ℕ} 0 15 = ap number_in (r.past first [] BigEndian 2 1 0 0 0 7 first_low refl) in omega arith;
      -- an unknown tag, and no room
      short = λ r. let q : ◌≡◌ {A = ℕ} 13 0 = ap number_in (r.short (first ++ 0x05 ∷ 0x00 ∷ 0x00 ∷ []) 0 1 refl).3 in omega arith;
      both_ways_written = λ b. let q : ◌≡◌ {A = ℕ} 0 11 = (b.write_kept 11 0).0 in omega arith;
      unchanged = λ r. let q : ◌≡◌ {A = ℕ} 1 0 = ap (λ (l : List ℕ). get_or l 0 0) (r.write BigEndian 2 1 (5 ∷ []) (0 ∷ []) (λ e. omega (arith, e))) in omega arith;
      numbered = λ n. not_twelve (n.write 2 1 (5 ∷ []) 0);
      length_told = λ l. let q : ◌≡◌ {A = ℕ} 11 10 = (l BigEndian 2 1 [] (replicate 10 0) 11 refl).0 in omega arith;
      reading_written = λ r. let q : ◌≡◌ {A = ℕ} 1 2 = ap (λ (x : Reading). (about_of x).1) ((r BigEndian 2 1 [] (replicate 10 0) 10 tt refl).fits [] (omega arith)).0 in omega arith;
      writing_read = λ w. let q : ◌≡◌ {A = ℕ} 1 2 = ap (λ (l : List ℕ). get_or l 4 0) (w bare [] BigEndian 1 2 0 bare_low refl (replicate 10 0) (omega arith)).1 in omega arith;
      different = λ d. let q : ◌≡◌ {A = ℕ} 1 2 = (d BigEndian BigEndian 2 2 1 2 [] [] 10 10 10 10 tt tt refl refl refl).2 in omega arith;
      writer_order = λ w. let q : ◌≡◌ {A = ℕ} 17 0 = ap writer.number_in (w.written 2 1 [] 10 empty (omega arith)) in omega arith;
      writer_odd = λ w. let q : ◌≡◌ {A = ℕ} 12 11 = ap writer.number_in (w.odd 2 1 (5 ∷ []) 0 refl) in omega arith;
      every_tape = λ e. let q : ◌≡◌ {A = ℕ} 12 0 = ap number_in (e BigEndian 2 1 [] [] empty tt (omega arith)).0 in omega arith;
      both_ways_read = λ b. let q : ◌≡◌ {A = ℕ} 0 12 = (b.read_kept 12 0 (BigEndian, 0, 0)).0 in omega arith;
      -- capacity 2, one worker, a buffer of zeros; a pop of worker 0, and an entry whose code there is none of
      begins = λ r. let q : ◌≡◌ {A = ℕ} 0 1 = ap (λ (l : List ℕ). get_or l 0 0) (r 1 2 1 (0 ∷ 0 ∷ 0 ∷ []) (replicate 10 0) refl).begins.1 in omega arith;
      appends = λ r. let q : ◌≡◌ {A = ℕ} 0 1 = ap (λ (a : Reply). a.number) ((r 1 2 1 (0 ∷ 0 ∷ 0 ∷ []) (replicate 14 0) refl).appends refl (entry 2 0 ∷ []) 15 0) in omega arith;
      ends = λ r. let q : ◌≡◌ {A = ℕ} 0 4 = ap (λ (w : Written). get_or w.tape 11 0) ((r 1 2 1 (0 ∷ 0 ∷ 0 ∷ []) (replicate 14 0) refl).ends refl (entry 2 0 ∷ [])) in omega arith;
      whole = λ r. let q : ◌≡◌ {A = ℕ} 6 0 = ap (λ (w : Written). w.answer.refusal) ((r 1 2 1 (0 ∷ 0 ∷ 0 ∷ []) (replicate 14 0) refl).whole (2 ∷ 0 ∷ []) refl) in omega arith;
      begin_refused = λ r. let q : ◌≡◌ {A = ℕ} 7 0 = ap (λ (l : List ℕ). get_or l 1 0) (r.begin_unchanged 5 2 1 (0 ∷ 0 ∷ 0 ∷ []) [] (λ e. omega (arith, e))).0 in omega arith;
      end_refused = λ r. not_an_end (r.end [] []);
    }
