use Rattle.std.proofs.Common.{◌≡◌, map, drop}
use Rattle.hm_text_lens.specs.Naming.{first_named}
use Rattle.hm_text_lens.proofs.named.first_named.Given as goal

abbrev pub invariant-loop-lens : goal.invariant-loop-lens
invariant-loop-lens g l =
    first_named l.name (map (λ b. (goal.TextLens-dyn g (b.vtable, b.value)).meaning b.value) (drop l.lens-index l.texts)) ≡ first_named l.name (map (λ b. (goal.TextLens-dyn g (b.vtable, b.value)).meaning b.value) l.texts)
