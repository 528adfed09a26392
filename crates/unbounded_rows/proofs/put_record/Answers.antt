use Rattle.unbounded_rows.proofs.Standing.{record_put, after_code, after_first, after_second}
use Rattle.unbounded_rows.proofs.put_record.Goals as goal

pub bounds-records-at-2 : goal.bounds-records-at-2
bounds-records-at-2 c = after_code c.args.records.now c.args.i c.code_of-x.result.code c.requires

pub bounds-records-at-3 : goal.bounds-records-at-3
bounds-records-at-3 c = after_first c.args.records.now c.args.i c.code_of-x.result.code c.requires c.code_of-x.result.first

pub bounds-records-at-4 : goal.bounds-records-at-4
bounds-records-at-4 c = after_second c.args.records.now c.args.i c.code_of-x.result.code c.requires
    c.code_of-x.result.first c.code_of-x.result.second

pub returns : goal.returns
returns c = record_put c.args.records.now c.args.i c.args.r c.code_of-x.result c.code_of-x.ensures
