use Rattle.hm_outside.specs.InMemory.{mem_store}
use Rattle.hm_outside.proofs.InMemory.{load_rises}
use Rattle.hm_outside.proofs.memory.MemStoreStore.load.Goals as goal

pub returns-clause-cause : goal.returns-clause-cause
returns-clause-cause c =
    load_rises c.args.name.now c.args.limit (mem_store c.args.self.now) (mem_store c.load_next.new.self) c.load_next.result c.load_next.ensures.loads
