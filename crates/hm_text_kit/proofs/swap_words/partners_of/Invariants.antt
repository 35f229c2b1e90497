use Rattle.std.proofs.Common.{◌≡◌, List, vec_len}
use Rattle.std.specs.BTreeMap.{BTreeMap, get}
use Rattle.std.specs.Option.{option_or}
use Rattle.hm_tree.specs.Names.{Name, name_cmp}
use Rattle.hm_text_kit.specs.WordTables.{HasTexts, partner}
use Rattle.hm_text_kit.proofs.swap_words.partners_of.Given as goal

pub record Gathers (whole left : List (Name × Name)) (partners : BTreeMap Name Name) : Type 0 where
  pub all : (q : Name) → option_or (partner left q) (get name_cmp partners q) ≡ partner whole q
  pub texts : HasTexts partners

abbrev pub invariant-loop-one : goal.invariant-loop-one
invariant-loop-one l = Gathers l.initial.pairs.items l.pairs.items l.partners

abbrev pub decreases-loop-one : goal.decreases-loop-one
decreases-loop-one l = vec_len l.pairs
