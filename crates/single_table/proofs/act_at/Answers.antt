use Rattle.single_acts.proofs.Arms.{along_act}
use borrow.Author.Rules.{rules}
use Rattle.single_table.proofs.act_at.Goals as goal

pub returns-in-Idle : goal.returns-in-Idle
returns-in-Idle c = search (rules, along_act)

pub returns-in-A1 : goal.returns-in-A1
returns-in-A1 c = search (rules, along_act)

pub returns-in-A2 : goal.returns-in-A2
returns-in-A2 c = search (rules, along_act)

pub returns-in-A3 : goal.returns-in-A3
returns-in-A3 c = search (rules, along_act)

pub returns-in-B1 : goal.returns-in-B1
returns-in-B1 c = search (rules, along_act)

pub returns-in-B2 : goal.returns-in-B2
returns-in-B2 c = search (rules, along_act)

pub returns-in-B3 : goal.returns-in-B3
returns-in-B3 c = search (rules, along_act)

pub returns-in-B4 : goal.returns-in-B4
returns-in-B4 c = search (rules, along_act)

pub returns-in-B5 : goal.returns-in-B5
returns-in-B5 c = search (rules, along_act)

pub returns-in-C1 : goal.returns-in-C1
returns-in-C1 c = search (rules, along_act)

pub returns-in-C2 : goal.returns-in-C2
returns-in-C2 c = search (rules, along_act)

pub returns-in-C3 : goal.returns-in-C3
returns-in-C3 c = search (rules, along_act)

pub returns-in-Len1 : goal.returns-in-Len1
returns-in-Len1 c = search (rules, along_act)

pub returns-in-Empty1 : goal.returns-in-Empty1
returns-in-Empty1 c = search (rules, along_act)

pub returns-in-Full1 : goal.returns-in-Full1
returns-in-Full1 c = search (rules, along_act)

pub returns-in-Close1 : goal.returns-in-Close1
returns-in-Close1 c = search (rules, along_act)

pub returns-in-IsClosed1 : goal.returns-in-IsClosed1
returns-in-IsClosed1 c = search (rules, along_act)
