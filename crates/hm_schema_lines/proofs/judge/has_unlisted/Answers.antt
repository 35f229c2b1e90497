use Rattle.std.proofs.Common.{suc, sym, refl}
use Rattle.std.proofs.lemmas.List.Elements.{All-contains}
use Rattle.hm_schema.proofs.Lists.{all_next, all_done}
use Rattle.hm_schema_lines.specs.Judging.{lines_of}
use Rattle.hm_schema_lines.specs.BadLines.{Lists, around}
use Rattle.hm_schema_lines.proofs.Judging.{always, never}
use Rattle.hm_schema_lines.proofs.judge.has_unlisted.Goals as goal
use Rattle.hm_facts.proofs.Booleans.{refuted}

pub loop-name-preserved : goal.loop-name-preserved
loop-name-preserved c =
    all_next (Lists (around (lines_of c.args.line.now) (suc c.args.line.now.place))) c.args.names.now c.loop-name.name-index c.name-item.result
    c.loop-name-test.true c.name-item.is c.loop-name.invariant (c.if-not-is_listed.ensures.0 refl)

pub returns-then-not-is_listed : goal.returns-then-not-is_listed
returns-then-not-is_listed c = always (
  c.name-item.result,
  (c.loop-name.name-index, c.loop-name-test.true, sym c.name-item.is),
  λ listed. refuted (c.if-not-is_listed.ensures.1 listed),
)

pub returns : goal.returns
returns c = never (λ some. some.2 (All-contains (Lists (around (lines_of c.args.line.now) (suc c.args.line.now.place))) c.args.names.now some.0
    (all_done (Lists (around (lines_of c.args.line.now) (suc c.args.line.now.place))) c.args.names.now c.loop-name.name-index
    c.loop-name-test.false c.loop-name.invariant) some.1))
