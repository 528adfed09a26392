use Rattle.single_rows.proofs.Lists.{after_one, record_put}
use Rattle.single_rows.proofs.put_record.Goals as goal

pub bounds-records-at-2 : goal.bounds-records-at-2
bounds-records-at-2 c = after_one c.args.records.now c.args.i c.code_of-c.result.code c.requires

pub returns : goal.returns
returns c = record_put c.args.records.now c.args.i c.args.r c.code_of-c.result c.code_of-c.ensures
