-- A run of a plain queue in which every call is one step: what it answers and what it leaves, at one point.
use Rattle.std.specs.Prelude.{ℕ, List, [], ◌∷◌, ◌≡◌}
use Rattle.queue_entries.specs.declared.Call.{Call}
use Rattle.queue_plain.specs.Plain.{Queue, Reply, answer_of, left_by}

pub record Step : Type 0 where
  pub worker : ℕ
  pub call : Call
  pub reply : Reply

-- These steps lead from q to p.
abbrev pub Follows : Queue → List Step → Queue → Type 0
Follows q [] p = p ≡ q
Follows q (x ∷ more) p = (x.reply ≡ answer_of q x.call) × Follows (left_by q x.call) more p
