use Rattle.std.proofs.Common.{◌≡◌, refl, sym, ap, ◌∙◌, arith}
use Rattle.std.proofs.lemmas.Map.Text.{text_keys}
use Rattle.std.proofs.lemmas.Option.{slice_get_read}
use Rattle.indexmap.specs.IndexMap.{get_by_text}
use Rattle.std.specs.Prelude.{is_some}
use Rattle.hm_schema_lines.proofs.Doubles.{no_double, double, single_next}
use Rattle.hm_schema_lines.proofs.judge.has_double.Goals as goal

pub loop-place-init : goal.loop-place-init
loop-place-init c = record { firsts = λ q. grind (arith, text_keys); single = λ i j k below none at_i at_j. omega arith }

pub returns-then-is_some : goal.returns-then-is_some
returns-then-is_some c =
    let is = slice_get_read c.args.names.now _ c.loop-place.place c.index-names-place.result refl c.loop-place-test.true c.index-names-place.is in
    let found = double _ _ _ c.loop-place.invariant c.index-names-place.result is
    (ap is_some (sym c.first_place.ensures) ∙ sym c.is_some.ensures ∙ c.if-is_some.true) in
    ((λ yes. found), (λ d. refl))

pub loop-place-preserved : goal.loop-place-preserved
loop-place-preserved c =
    let tested = slice_get_read c.args.names.now _ c.loop-place.place c.index-names-place.result refl c.loop-place-test.true c.index-names-place.is in
    let kept = slice_get_read c.args.names.now _ c.loop-place.place c.index-names-place-in-loop-place.result refl c.loop-place-test.true
    c.index-names-place-in-loop-place.is in
    let same : c.index-names-place-in-loop-place.result ≡ c.index-names-place.result = cc in
    let none = ap (λ z. is_some (get_by_text c.loop-place.firsts z)) same ∙ ap is_some (sym c.first_place.ensures) ∙ sym c.is_some.ensures
    ∙ c.if-is_some.false in
    single_next _ _ _ c.loop-place.invariant c.index-names-place-in-loop-place.result kept none c.keep_first.new.firsts c.in_ok-keep_first.ensures

pub returns : goal.returns
returns c = (
  (λ no. let f : ⊥ = cc in absurd f),
  (λ d. absurd (no_double c.args.names.now c.loop-place.firsts c.loop-place.place c.loop-place.invariant
      (omega (arith, c.loop-place-test.false)) d)),
)
