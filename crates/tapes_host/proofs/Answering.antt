-- What the functions for tapes of the host's face answer, from what the writer and the reader do.
use Prim.Native.Nat.{ℕ}
use mathlib.Core.Path.{◌≡◌, refl, sym, ap, ◌∙◌}
use mathlib.Core.List.{List}
use native.Mathlib.Omega.{arith}
use lib.ListN.{length}
use Rattle.queue_entries.proofs.Pick.{equal, other}
use Rattle.tapes_numbers.specs.declared.Variant.{Variant}
use Rattle.tapes_numbers.specs.declared.Variant.TheVariants.{BigEndian, LittleEndian}
use Rattle.tapes.specs.declared.Writing.{Writing}
use Rattle.tapes.specs.declared.Writing.TheVariants as writing
use Rattle.tapes.specs.declared.Reading.{Reading}
use Rattle.tapes.specs.declared.Reading.TheVariants as reading
use Rattle.tapes.specs.Written as writer
use Rattle.tapes.specs.Written.{write_of, written_of}
use Rattle.tapes.specs.Heard as reader
use Rattle.tapes.specs.Heard.{read_of, read_into}
use Rattle.tapes_host.specs.declared.Reply.{Reply}
use Rattle.tapes_host.specs.Host.{reply, name_of, written, writing_reply, write_tape, read_out_of, reading_reply, about_of, about_after, read_tape}

-- ---- the writer
pub reply_refused : (w : Writing) (number value : ℕ) → w ≡ writing.Refused number value → reply number value ≡ writing_reply w
unfolding writer.number_in writer.value_in
reply_refused w number value e = ap writing_reply (sym e)

pub reply_tape : (w : Writing) (count : ℕ) → w ≡ writing.Tape count → reply 0 count ≡ writing_reply w
unfolding writer.number_in writer.value_in
reply_tape w count e = ap writing_reply (sym e)

module _ (name capacity workers : ℕ) (words tape : List ℕ) where
  module _ (x : Writing) (r : Reply) (z : List ℕ) (answer : x ≡ write_of capacity workers words (length tape)) (told : r ≡ writing_reply x) where
    wrote_big : name ≡ 1 → z ≡ written_of BigEndian capacity workers words tape → written r z ≡ write_tape name capacity workers words tape
    unfolding write_tape
    wrote_big n e = equal _ _ _ _ _ n (λ i. written ((told ∙ ap writing_reply answer) i) (e i))

    wrote_little : (name ≡ 1 → ⊥) → name ≡ 129 → z ≡ written_of LittleEndian capacity workers words tape → written r z ≡ write_tape name capacity workers words tape
    unfolding write_tape
    wrote_little o n e = other _ _ _ _ _ o (equal _ _ _ _ _ n (λ i. written ((told ∙ ap writing_reply answer) i) (e i)))

    pub wrote : (v : Variant) → name ≡ name_of v → z ≡ written_of v capacity workers words tape → written r z ≡ write_tape name capacity workers words tape
    wrote BigEndian n e = wrote_big n e
    wrote LittleEndian n e = wrote_little (λ o. omega arith) n e

  pub no_variant : (name ≡ 1 → ⊥) → (name ≡ 129 → ⊥) → written (reply 13 0) tape ≡ write_tape name capacity workers words tape
  unfolding write_tape
  no_variant o n = other _ _ _ _ _ o (other _ _ _ _ _ n refl)

-- ---- the reader
module _ (tape about schedule : List ℕ) where
  pub not_three : (length about ≡ 3 → ⊥) → read_out_of (reply 6 0) about schedule ≡ read_tape tape about schedule
  unfolding read_tape
  not_three o = other _ _ _ _ _ o refl

  module _ (three : length about ≡ 3) (x : Reading) (z : List ℕ) (answer : x ≡ read_of tape (length schedule)) (lent : z ≡ read_into tape schedule) where
    pub refused_read : (number value : ℕ) → x ≡ reading.Refused number value → read_out_of (reply number value) about z ≡ read_tape tape about schedule
    unfolding read_tape reader.number_in reader.value_in
    refused_read number value e =
        let is : reading.Refused number value ≡ read_of tape (length schedule) = sym e ∙ answer in
        equal _ _ _ _ _ three (λ i. read_out_of (reading_reply (is i)) (about_after (is i) about) (lent i))

    pub all_read : (v : Variant) (capacity workers count : ℕ) (about' : List ℕ) → x ≡ reading.Schedule v capacity workers count → about' ≡ about_of v capacity workers
        → read_out_of (reply 0 count) about' z ≡ read_tape tape about schedule
    unfolding read_tape reader.number_in reader.value_in
    all_read v capacity workers count about' e k =
        let is : reading.Schedule v capacity workers count ≡ read_of tape (length schedule) = sym e ∙ answer in
        ap (λ (a : List ℕ). read_out_of (reply 0 count) a z) k
        ∙ equal _ _ _ _ _ three (λ i. read_out_of (reading_reply (is i)) (about_after (is i) about) (lent i))
