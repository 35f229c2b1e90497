use Rattle.std.proofs.Common.{eqb-true, ℕ, List, sym, ◌∙◌, refl}
use Rattle.std.specs.Prelude.{◌==◌}
use Rattle.hm_tree.specs.Names.{Name}
use Rattle.hm_tree.specs.declared.class.Class.{Class}
use Rattle.hm_schema_lines.specs.declared.before.Before.{Before}
use Rattle.hm_schema_lines.specs.NodeLines.{other}
use Rattle.hm_schema_lines.specs.Entries.{EntryValue}
use Rattle.hm_schema_lines.specs.Judging.{lines_of}
use Rattle.hm_schema_lines.specs.BadLines.{in_no_node, IsNode, earlier, names_no_node, others_twice}
use Rattle.hm_schema_lines.proofs.Counted.{has_others}
use Rattle.hm_schema_lines.proofs.Judging.{always, turned, equals, not_bad, one_name}
use Rattle.hm_schema_lines.proofs.judge.is_bad_other.Goals as goal
use Rattle.hm_facts.proofs.Booleans.{refuted}

pub returns-then-line-eq0 : goal.returns-then-line-eq0
returns-then-line-eq0 c = always (in_no_node c.requires.says refl (sym c.requires.known.before.nodes ∙ c.if-line-eq0.true))

pub returns-then-not-is_node : goal.returns-then-not-is_node
returns-then-not-is_node c = always (names_no_node c.requires.says refl (λ node. refuted (c.if-not-is_node.ensures.1 node)))

pub returns : goal.returns
returns c = turned (before.others == 0)
    (λ zero. not_bad es i (other class child) c.requires.says (record {
      housed = λ inside none. c.if-line-eq0.false (c.requires.known.before.nodes ∙ none);
      names = one_name (IsNode es) child (c.if-not-is_node.ensures.0 refl);
      rest = λ spoken. (has_others (earlier es i)).0 spoken (sym c.requires.known.before.others ∙ eqb-true before.others 0 zero);
    }))
    (λ some. others_twice c.requires.says
    ((has_others (earlier es i)).1 (λ none. some (equals before.others 0 (c.requires.known.before.others ∙ none)))))
  where
    es : List EntryValue
    es = lines_of c.args.line.now

    i : ℕ
    i = c.args.line.now.place

    before : Before
    before = c.args.line.now.before

    class : Class
    class = c.args.class

    child : Name
    child = c.args.child.now
