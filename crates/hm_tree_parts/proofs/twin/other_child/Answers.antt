use Rattle.std.proofs.Common.{sym, ◌∙◌}
use mathlib.Core.Bool.{false≢true}
use Rattle.hm_tree_parts.proofs.Merged.{from_none, from_same, from_other}
use Rattle.hm_tree_parts.proofs.twin.other_child.Goals as goal

pub returns-in_default : goal.returns-in_default
returns-in_default c = from_none _ _ _ c.in_default.is

pub returns-then-has_twice : goal.returns-then-has_twice
returns-then-has_twice c = from_same _ _ _ _ c.in-Some.is c.requires (c.has_twice.ensures.0 c.if-has_twice.true)

pub returns : goal.returns
returns c =
    from_other _ _ _ _ c.in-Some.is c.requires (λ same. false≢true (sym c.if-has_twice.false ∙ c.has_twice.ensures.1 same)) _ c.without.ensures.taken
