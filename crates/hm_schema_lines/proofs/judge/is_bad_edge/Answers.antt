use Rattle.std.proofs.Common.{ℕ, List, Some, sym, ◌∙◌, ap, refl}
use Rattle.hm_tree.specs.Names.{Name}
use Rattle.hm_schema_lines.specs.NodeLines.{edge}
use Rattle.hm_schema_lines.specs.Entries.{EntryValue}
use Rattle.hm_schema_lines.specs.Judging.{lines_of}
use Rattle.hm_schema_lines.specs.BadLines.{in_no_node, IsNode, names_no_node, listed_twice}
use Rattle.hm_schema_lines.proofs.Judging.{always, turned, not_bad, one_name, listed_again, twice_listed}
use Rattle.hm_schema_lines.proofs.judge.is_bad_edge.Goals as goal
use Rattle.hm_facts.proofs.Booleans.{refuted}

pub returns-then-line-eq0 : goal.returns-then-line-eq0
returns-then-line-eq0 c = always (in_no_node c.requires.says refl (sym c.requires.known.before.nodes ∙ c.if-line-eq0.true))

pub returns-then-not-is_node : goal.returns-then-not-is_node
returns-then-not-is_node c = always (names_no_node c.requires.says refl (λ node. refuted (c.if-not-is_node.ensures.1 node)))

pub returns : goal.returns
returns c = turned c.is_first.result
    (λ first. not_bad es i (edge name child) c.requires.says (record {
      housed = λ inside none. c.if-line-eq0.false (c.requires.known.before.nodes ∙ none);
      names = one_name (IsNode es) child (c.if-not-is_node.ensures.0 refl);
      rest = listed_again es i name child c.requires.says (sym (c.requires.known.section.listed name) ∙ c.is_first.ensures.0 first
          ∙ ap Some c.requires.known.before.edges);
    }))
    (λ none. listed_twice c.requires.says (twice_listed es i name child c.requires.says
    (λ first. none (c.is_first.ensures.1 (c.requires.known.section.listed name ∙ first ∙ ap Some (sym c.requires.known.before.edges))))))
  where
    es : List EntryValue
    es = lines_of c.args.line.now

    i : ℕ
    i = c.args.line.now.place

    name : Name
    name = c.args.name.now

    child : Name
    child = c.args.child.now
