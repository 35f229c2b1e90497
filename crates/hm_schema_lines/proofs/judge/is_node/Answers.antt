use Rattle.std.proofs.Common.{◌≡◌, inl, inr, List, sym, ◌∙◌}
use Rattle.hm_tree.specs.Names.{Name}
use Rattle.hm_schema_lines.specs.Entries.{EntryValue}
use Rattle.hm_schema_lines.specs.Judging.{lines_of}
use Rattle.hm_schema_lines.specs.Firsts.{place_in, node_names}
use Rattle.hm_schema_lines.specs.BadLines.{Declares, IsNode}
use Rattle.hm_schema_lines.proofs.Judging.{declares, is_declared, found, findable}
use Rattle.hm_schema_lines.proofs.judge.is_node.Goals as goal
use Rattle.hm_facts.proofs.Booleans.{refuted}

pub returns : goal.returns
returns c = (
  λ some. inl (declares es name (found c.first_place.result name (node_names es) table (sym c.is_some.ensures ∙ some))),
  λ node. c.is_some.ensures ∙ findable c.first_place.result name (node_names es) table (is_declared es name (not_empty node)),
)
  where
    es : List EntryValue
    es = lines_of c.args.line.now

    name : Name
    name = c.args.name.now

    table : c.first_place.result ≡ place_in name (node_names es)
    table = c.first_place.ensures ∙ c.requires.declared name

    not_empty : IsNode es name → Declares es name
    not_empty (inl d) = d
    not_empty (inr e) = absurd (refuted (c.if-is_empty_node.ensures.1 e))
