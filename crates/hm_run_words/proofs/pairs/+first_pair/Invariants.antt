use Rattle.std.proofs.Common.{length}
use Rattle.hm_run_words.proofs.pairs.+first_pair.Given as goal

abbrev pub decreases-first_pair : goal.decreases-first_pair
decreases-first_pair l = length l.files.now
