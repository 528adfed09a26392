-- Whoever drops its words soon keeps the window: since a word was given there were no more claims than acts.
use mathlib.Core.List.{List}
use Prim.Native.Nat.{ℕ}
use native.Mathlib.Omega.{arith}
use Rattle.bounded_words.specs.declared.Fixed.{Fixed}
use Rattle.bounded_words.specs.declared.Width.{Width}
use Rattle.bounded_machine.specs.declared.Event.{Event}
use Rattle.bounded_demands.specs.Notions.{with_records, acts_of, since}
use Rattle.bounded_demands.specs.Demands.{PromptKeeps}
use Rattle.bounded_proof_demand2.proofs.Counts.{tally_tail, tally_head}
use Rattle.bounded_proof_demand2.proofs.Window.{claims_few}

pub prompt_keeps : (many : Width → Fixed → ℕ) (bits : Width) (records : ℕ) → PromptKeeps many many (with_records records bits)
prompt_keeps many bits records capacity workers edition a s soon before after e w held =
    let l : List Event = since w (acts_of (with_records records bits) capacity workers edition before) in
    let few = claims_few l in
    let late = soon before after e w held in
    (omega (arith, tally_tail l, few.0, late), omega (arith, tally_head l, few.1, late))
