use Rattle.unbounded_codes.proofs.Along.{along_code, answer_told}
use borrow.Author.Rules.{rules}
use Rattle.unbounded_codes.proofs.code_of.Goals as goal

pub returns-in-Idle : goal.returns-in-Idle
returns-in-Idle c = search (rules, along_code)

pub returns-in-U1 : goal.returns-in-U1
returns-in-U1 c = search (rules, along_code)

pub returns-in-U2 : goal.returns-in-U2
returns-in-U2 c = search (rules, along_code)

pub returns-in-U3 : goal.returns-in-U3
returns-in-U3 c = search (rules, along_code)

pub returns-in-U4 : goal.returns-in-U4
returns-in-U4 c = search (rules, along_code)

pub returns-in-U5 : goal.returns-in-U5
returns-in-U5 c = search (rules, along_code)

pub returns-in-U6 : goal.returns-in-U6
returns-in-U6 c = search (rules, along_code)

pub returns-in-U7 : goal.returns-in-U7
returns-in-U7 c = search (rules, along_code)

pub returns-in-U8 : goal.returns-in-U8
returns-in-U8 c = search (rules, along_code)

pub returns-in-U9 : goal.returns-in-U9
returns-in-U9 c = search (rules, along_code)

pub returns-in-U10 : goal.returns-in-U10
returns-in-U10 c = search (rules, along_code)

pub returns-in-U11 : goal.returns-in-U11
returns-in-U11 c = search (rules, along_code)

pub returns-in-U12 : goal.returns-in-U12
returns-in-U12 c = search (rules, along_code)

pub returns-in-U13 : goal.returns-in-U13
returns-in-U13 c = search (rules, along_code)

pub returns-in-U14 : goal.returns-in-U14
returns-in-U14 c = search (rules, along_code, answer_told)

pub returns-in-U15 : goal.returns-in-U15
returns-in-U15 c = search (rules, along_code)

pub returns-in-V1 : goal.returns-in-V1
returns-in-V1 c = search (rules, along_code)

pub returns-in-V2 : goal.returns-in-V2
returns-in-V2 c = search (rules, along_code)

pub returns-in-V3 : goal.returns-in-V3
returns-in-V3 c = search (rules, along_code)

pub returns-in-V4 : goal.returns-in-V4
returns-in-V4 c = search (rules, along_code)

pub returns-in-V5 : goal.returns-in-V5
returns-in-V5 c = search (rules, along_code)

pub returns-in-V6 : goal.returns-in-V6
returns-in-V6 c = search (rules, along_code)

pub returns-in-V7 : goal.returns-in-V7
returns-in-V7 c = search (rules, along_code)

pub returns-in-V8 : goal.returns-in-V8
returns-in-V8 c = search (rules, along_code)

pub returns-in-V9 : goal.returns-in-V9
returns-in-V9 c = search (rules, along_code)

pub returns-in-V10 : goal.returns-in-V10
returns-in-V10 c = search (rules, along_code)

pub returns-in-V11 : goal.returns-in-V11
returns-in-V11 c = search (rules, along_code)

pub returns-in-V12 : goal.returns-in-V12
returns-in-V12 c = search (rules, along_code)

pub returns-in-V13 : goal.returns-in-V13
returns-in-V13 c = search (rules, along_code)

pub returns-in-V14 : goal.returns-in-V14
returns-in-V14 c = search (rules, along_code)

pub returns-in-V15 : goal.returns-in-V15
returns-in-V15 c = search (rules, along_code)

pub returns-in-Len1 : goal.returns-in-Len1
returns-in-Len1 c = search (rules, along_code)

pub returns-in-Len2 : goal.returns-in-Len2
returns-in-Len2 c = search (rules, along_code)

pub returns-in-Len3 : goal.returns-in-Len3
returns-in-Len3 c = search (rules, along_code)

pub returns-in-Empty1 : goal.returns-in-Empty1
returns-in-Empty1 c = search (rules, along_code)

pub returns-in-Empty2 : goal.returns-in-Empty2
returns-in-Empty2 c = search (rules, along_code)

pub returns-in-Full1 : goal.returns-in-Full1
returns-in-Full1 c = search (rules, along_code)

pub returns-in-Close1 : goal.returns-in-Close1
returns-in-Close1 c = search (rules, along_code)

pub returns-in-IsClosed1 : goal.returns-in-IsClosed1
returns-in-IsClosed1 c = search (rules, along_code)
