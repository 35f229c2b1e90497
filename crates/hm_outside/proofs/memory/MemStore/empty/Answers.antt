use Rattle.std.proofs.Common.{rules}
use Rattle.hm_outside.proofs.Places.{contents_of-empty, room_sizes-empty}
use Rattle.hm_outside.proofs.memory.MemStore.empty.Goals as goal

pub returns : goal.returns
returns c = λ i. record {
  contents = contents_of-empty c.new.result (search rules) i;
  rooms = room_sizes-empty c.new.result (search rules) i;
  failed = c.new-2.ensures.items i;
  loads = c.new-3.ensures i;
  replaces = c.new-4.ensures i;
}
