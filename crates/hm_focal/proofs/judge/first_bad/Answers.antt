use Rattle.std.proofs.Common.{◌+◌, ◌<◌, ◌≤◌, ◌^◌, rules, add-one, refl, sym, ap, subst, ◌∙◌, arith, true≢false, take, count_by}
use borrow.Author.Count.{below_more}
use Rattle.std.specs.Int.{from_bool}
use Rattle.std.proofs.lemmas.Grind.{common_steps}
use Rattle.std.proofs.lemmas.List.{length-map, length-take}
use Rattle.std.proofs.lemmas.List.Sums.{count_by-le-length}
use Rattle.hm_schema_lines.specs.Entries.{entry_value, entry_values}
use Rattle.hm_schema_lines.specs.BadLines.{around}
use Rattle.hm_schema_lines.specs.Sections.{IsSection}
use Rattle.hm_focal.specs.OwnLines.{own_value, own_values, is_lens}
use Rattle.hm_focal.specs.BadLines.{IsBadLine}
use Rattle.hm_focal.proofs.LensNames.{own_at}
use Rattle.hm_focal.proofs.JudgingOwn.{bad_within, lenses_next}
use Rattle.hm_focal.proofs.judge.first_bad.Goals as goal

pub loop-place-init : goal.loop-place-init
loop-place-init c = record {
  before = c.none-before.ensures (entry_values c.args.entries.now);
  section = c.in_ok-section.ensures;
  lenses = refl;
  good = λ j below bad. omega arith;
}

pub overflow_add-lenses_before : goal.overflow_add-lenses_before
overflow_add-lenses_before c =
    let lenses = c.loop-place.invariant.lenses in
    let counted = count_by-le-length is_lens (take c.loop-place.place (own_values c.args.own.now)) in
    let taken = length-take c.loop-place.place (own_values c.args.own.now) in
    let few : c.loop-place.lenses_before ≤ c.loop-place.place = omega arith in
    let one : c.from-lenses_before.result ≤ 1 = grind (arith, common_steps) in
    let below : c.loop-place.place < 2 ^ 63 = search rules in
    search rules

pub returns-then-branch : goal.returns-then-branch
returns-then-branch c = record { bad = c.in_ok-is_bad.ensures.0 c.if-branch.true; first = c.loop-place.invariant.good }

pub loop-place-preserved : goal.loop-place-preserved
loop-place-preserved c = record {
  before = c.next-before.ensures;
  section = subst (λ n. IsSection (around (entry_values c.args.entries.now) n) c.in_ok-section-2.section) (sym (add-one c.loop-place.place))
      c.in_ok-section-2.ensures;
  lenses =
      ap (λ n. n + c.from-lenses_before.result) c.loop-place.invariant.lenses
      ∙ ap (λ n. count_by is_lens (take c.loop-place.place (own_values c.args.own.now)) + n)
      (c.from-lenses_before.ensures ∙ ap from_bool c.is_lens.ensures)
      ∙ lenses_next (own_values c.args.own.now) c.loop-place.place (own_value c.index-own-place.result)
      (own_at c.args.own.now c.loop-place.place c.index-own-place.result (omega (arith, c.loop-place-test.true, c.requires.long)) c.index-own-place.is);
  good = below_more (λ j. ¬ (IsBadLine (entry_values c.args.entries.now) (own_values c.args.own.now) j)) c.loop-place.place c.loop-place.invariant.good
      (λ bad. true≢false (sym (c.in_ok-is_bad.ensures.1 bad) ∙ c.if-branch.false));
}

pub returns : goal.returns
returns c = λ i bad.
    let within = bad_within (entry_values c.args.entries.now) (own_values c.args.own.now) i
    (length-map c.args.own.now own_value ∙ c.requires.long ∙ sym (length-map c.args.entries.now entry_value)) bad in
    c.loop-place.invariant.good i (omega (arith, length-map c.args.entries.now entry_value, c.loop-place-test.false)) bad
