use Rattle.std.proofs.Common.{◌≡◌, ◌<◌, ℕ, take, true, get_or}
use Rattle.hm_lines.specs.Content.{colon, opens_quotes}
use Rattle.hm_lines.proofs.content.first_colon.Given as goal

abbrev pub invariant-loop-place : goal.invariant-loop-place
invariant-loop-place l = record {
  quoted : l.quoted ≡ opens_quotes (take l.place l.bytes);
  first : (k : ℕ) → k < l.place → get_or l.bytes k 0 ≡ colon → opens_quotes (take k l.bytes) ≡ true;
}
