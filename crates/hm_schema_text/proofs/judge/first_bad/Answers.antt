use Rattle.std.proofs.Common.{add-one, sym, subst, ◌∙◌, arith, true≢false}
use borrow.Author.Count.{below_more}
use Rattle.std.proofs.lemmas.List.{length-map}
use Rattle.hm_schema_lines.specs.Entries.{entry_value, entry_values}
use Rattle.hm_schema_lines.specs.BadLines.{around}
use Rattle.hm_schema_lines.specs.Sections.{IsSection}
use Rattle.hm_schema_text.specs.BadLines.{IsBadLine}
use Rattle.hm_schema_text.proofs.Judging.{bad_within}
use Rattle.hm_schema_text.proofs.judge.first_bad.Goals as goal

pub loop-place-init : goal.loop-place-init
loop-place-init c = record {
  before = c.none-before.ensures (entry_values c.args.entries.now);
  section = c.in_ok-section.ensures;
  good = λ j below bad. omega arith;
}

pub returns-then-branch : goal.returns-then-branch
returns-then-branch c = record { bad = c.in_ok-is_bad.ensures.0 c.if-branch.true; first = c.loop-place.invariant.good }

pub loop-place-preserved : goal.loop-place-preserved
loop-place-preserved c = record {
  before = c.next-before.ensures;
  section = subst (λ n. IsSection (around (entry_values c.args.entries.now) n) c.in_ok-section-2.section) (sym (add-one c.loop-place.place))
      c.in_ok-section-2.ensures;
  good = below_more (λ j. ¬ (IsBadLine c.args.bytes.now (entry_values c.args.entries.now) j)) c.loop-place.place c.loop-place.invariant.good
      (λ bad. true≢false (sym (c.in_ok-is_bad.ensures.1 bad) ∙ c.if-branch.false));
}

pub returns : goal.returns
returns c = λ i bad.
    let within = bad_within c.args.bytes.now (entry_values c.args.entries.now) i bad in
    c.loop-place.invariant.good i (omega (arith, length-map c.args.entries.now entry_value, c.loop-place-test.false)) bad
