use Rattle.std.proofs.Common.{◌<◌, ◌≤◌, ℕ, List, Some, sym, ◌∙◌, ap, subst, refl, count_by}
use Rattle.hm_tree.specs.Names.{Name}
use Rattle.hm_schema_lines.specs.NodeLines.{node}
use Rattle.hm_schema_lines.specs.Entries.{EntryValue, says}
use Rattle.hm_schema_lines.specs.Judging.{lines_of}
use Rattle.hm_schema_lines.specs.BadLines.{is_shape, behind, declared_twice, no_shape, too_many_nodes}
use Rattle.hm_schema_lines.proofs.Sections.{around_begun}
use Rattle.hm_schema_lines.proofs.Counted.{has_shape}
use Rattle.hm_schema_lines.proofs.Judging.{always, turned, not_bad, declared_again, twice_declared}
use Rattle.hm_schema_lines.proofs.judge.is_bad_node.Goals as goal
use Rattle.hm_facts.proofs.Booleans.{refuted}

pub returns-then-line-ge-MOST_NODES : goal.returns-then-line-ge-MOST_NODES
returns-then-line-ge-MOST_NODES c =
    always (too_many_nodes c.requires.says (subst (λ n. 1000 ≤ n) c.requires.known.before.nodes c.if-line-ge-MOST_NODES.true))

pub returns-then-line-eq0 : goal.returns-then-line-eq0
returns-then-line-eq0 c = always (no_shape c.requires.says (λ shape. (has_shape (behind (lines_of c.args.line.now) c.args.line.now.place)).0 shape
    (ap (count_by is_shape) (sym (around_begun (lines_of c.args.line.now) c.args.line.now.place (says (node c.args.name.now)) c.requires.says
    refl)) ∙ sym c.requires.known.section.shapes ∙ c.if-line-eq0.true)))

pub returns : goal.returns
returns c = turned c.is_first.result
    (λ first. not_bad es i (node name) c.requires.says (record {
      housed = λ f. absurd (refuted f);
      names = λ w e. let no : ⊥ = cc in absurd no;
      rest = (
        declared_again es i name c.requires.says (sym (c.requires.known.declared name) ∙ c.is_first.ensures.0 first
            ∙ ap Some c.requires.known.before.nodes),
        λ e. refuted (c.if-is_empty_node.ensures.1 e),
        λ none. none ((has_shape (behind es i)).1
            (λ zero. c.if-line-eq0.false (c.requires.known.section.shapes
            ∙ ap (count_by is_shape) (around_begun es i (says (node name)) c.requires.says refl) ∙ zero))),
        subst (λ n. n < 1000) c.requires.known.before.nodes c.if-line-ge-MOST_NODES.false,
      );
    }))
    (λ none. declared_twice c.requires.says
    (twice_declared es i name c.requires.says
    (λ first. none (c.is_first.ensures.1 (c.requires.known.declared name ∙ first ∙ ap Some (sym c.requires.known.before.nodes))))))
  where
    es : List EntryValue
    es = lines_of c.args.line.now

    i : ℕ
    i = c.args.line.now.place

    name : Name
    name = c.args.name.now
