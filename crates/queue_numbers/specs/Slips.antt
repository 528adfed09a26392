-- The functions of a face with a slip at one point, all else as it is; of any queue's.
use Rattle.std.specs.Prelude.{ℕ, cond, List, [], eqb, length}
use Rattle.queue_numbers.specs.Numbers.{Functions}

abbrev pub none : ℕ
none = 0

-- a refused step moves the meter
abbrev pub refused_moves : ℕ
refused_moves = 1

-- a schedule is run up to the entry that can't be read
abbrev pub unsearched : ℕ
unsearched = 2

-- refused contents leave an empty buffer
abbrev pub refused_empties : ℕ
refused_empties = 3

-- What these slips are made of.
pub record Parts (M D R : Type 0) : Type 0 where
  pub refusal : D → ℕ
  pub refused : ℕ → M → D
  -- the machine with its meter one on
  pub metered : M → M
  -- the entries of a schedule, one after another
  pub entries : M → List ℕ → R
  -- the refusal of contents, with room for so many items
  pub unfit : M → ℕ → ℕ

-- With slip number n.
abbrev pub functions_with : {M D R : Type 0} → Parts M D R → Functions M D R → ℕ → Functions M D R
functions_with p f n =
    record {
      make = f.make;
      step =
          λ m first second.
          cond (eqb n refused_moves)
          (cond (eqb (p.refusal (f.step m first second)) 0) (f.step m first second) (p.refused (p.refusal (f.step m first second)) (p.metered m)))
          (f.step m first second);
      begin = f.begin;
      act = f.act;
      run = λ m s. cond (eqb n unsearched) (p.entries m s) (f.run m s);
      written = λ m buffer. cond (eqb n refused_empties) (cond (eqb (p.unfit m (length buffer)) 0) (f.written m buffer) []) (f.written m buffer);
    }
