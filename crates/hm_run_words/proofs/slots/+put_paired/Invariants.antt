use Rattle.std.proofs.Common.{length}
use Rattle.hm_run_words.proofs.slots.+put_paired.Given as goal

abbrev pub decreases-put_paired : goal.decreases-put_paired
decreases-put_paired l = length l.slots.now
