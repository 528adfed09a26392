use Rattle.bounded_rows.proofs.Words.{after_one, after_two, after_three, record_put}
use Rattle.bounded_rows.proofs.put_record.Goals as goal

pub bounds-records-at-2 : goal.bounds-records-at-2
bounds-records-at-2 c = after_one c.args.records.now c.args.i c.code_of-c.result.code c.requires

pub bounds-records-at-3 : goal.bounds-records-at-3
bounds-records-at-3 c = after_two c.args.records.now c.args.i c.code_of-c.result.code c.code_of-c.result.first c.requires

pub bounds-records-at-4 : goal.bounds-records-at-4
bounds-records-at-4 c = after_three c.args.records.now c.args.i c.code_of-c.result.code
    c.code_of-c.result.first c.code_of-c.result.second c.requires

pub returns : goal.returns
returns c = record_put c.args.records.now c.args.i c.args.r c.code_of-c.result c.code_of-c.ensures
