use Rattle.std.proofs.Common.{rules}
use Rattle.hm_outside.proofs.Places.{held-contents_of}
use Rattle.hm_outside.proofs.room.file_at.Goals as goal

pub returns-then-room : goal.returns-then-room
returns-then-room c = rw held-contents_of (search rules)

pub returns-else-room : goal.returns-else-room
returns-else-room c = rw held-contents_of (search rules)

pub returns-in-None : goal.returns-in-None
returns-in-None c = rw held-contents_of (search rules)
