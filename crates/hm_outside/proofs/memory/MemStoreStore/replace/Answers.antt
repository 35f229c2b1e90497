use Rattle.hm_outside.specs.InMemory.{mem_store}
use Rattle.hm_outside.proofs.InMemory.{replace_extends, replace_rises}
use Rattle.hm_outside.proofs.memory.MemStoreStore.replace.Goals as goal

pub returns-clause-cause : goal.returns-clause-cause
returns-clause-cause c =
    replace_rises c.args.name.now c.args.bytes.now (mem_store c.args.self.now) (mem_store c.replace_next.new.self) c.replace_next.result c.replace_next.ensures

pub returns-clause-failed : goal.returns-clause-failed
returns-clause-failed c =
    replace_extends c.args.name.now c.args.bytes.now (mem_store c.args.self.now) (mem_store c.replace_next.new.self) c.replace_next.result c.replace_next.ensures
