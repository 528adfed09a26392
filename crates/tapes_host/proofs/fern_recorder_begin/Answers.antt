use Rattle.tapes_host.proofs.Recording.{begin_not_three, begin_refused, begun}
use borrow.Author.Rules.{rules}
use Rattle.tapes_host.proofs.fern_recorder_begin.Goals as goal

pub returns-then-recorder-ne-ABOUT : goal.returns-then-recorder-ne-ABOUT
returns-then-recorder-ne-ABOUT c = search (rules, begin_not_three)

pub returns-then-reply-ne0 : goal.returns-then-reply-ne0
returns-then-reply-ne0 c = search (rules, begin_refused)

pub returns : goal.returns
returns c = search (rules, begun)
