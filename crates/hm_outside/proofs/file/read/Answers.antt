use Rattle.hm_outside.proofs.file.read.Goals as goal

pub returns-in-Ok-None : goal.returns-in-Ok-None
returns-in-Ok-None g c = c.read_nothing.ensures c.args.limit
