use Rattle.std.proofs.Common.{◌≡◌, drop}
use Rattle.hm_outside.specs.Numbered.{naming}
use Rattle.hm_outside.proofs.numbered.Numbered.naming.Given as goal

abbrev pub invariant-loop-place : goal.invariant-loop-place
invariant-loop-place l = naming l.number (drop l.place l.self.named.items) ≡ naming l.number l.self.named.items
