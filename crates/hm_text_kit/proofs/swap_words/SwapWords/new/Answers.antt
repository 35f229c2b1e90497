use Rattle.hm_text_kit.specs.WordLaws.{swapped_in-IsSwap}
use Rattle.hm_text_kit.proofs.Swaps.{same_meaning}
use Rattle.hm_text_kit.proofs.swap_words.SwapWords.new.Goals as goal

pub invariant_of-result : goal.invariant_of-result
invariant_of-result c = record { swaps = swapped_in-IsSwap c.args.pairs.items c.in_ok-partners_of.field-0 c.requires c.in_ok-partners_of.ensures.partners c.in_ok-partners_of.ensures.texts }

pub returns : goal.returns
returns c = same_meaning c.args.name c.args.pairs.items c.in_ok-partners_of.field-0 c.in_ok-partners_of.ensures.partners
