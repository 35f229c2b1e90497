use Rattle.std.proofs.Common.{◌≡◌, All, map, take}
use Rattle.hm_text_lens.specs.Meanings.{IsLawful}
use Rattle.hm_types_terms.specs.TextTypes.{text_type}
use Rattle.hm_types_terms.proofs.texts.text_types.Given as goal

abbrev pub invariant-loop-text : goal.invariant-loop-text
invariant-loop-text g l = record {
  types : l.types.items ≡ map text_type (map (λ b. (goal.TextLens-dyn g (b.vtable, b.value)).meaning b.value) (take l.text-index l.texts));
  lawful : All IsLawful (map (λ b. (goal.TextLens-dyn g (b.vtable, b.value)).meaning b.value) (take l.text-index l.texts));
}
