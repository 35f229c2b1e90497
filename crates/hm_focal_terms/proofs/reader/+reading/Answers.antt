use Rattle.std.proofs.Common.{◌<◌, ◌≤◌, ◌++◌, ◌∷◌, [], length, arith, refl, sym, subst, ap, ◌∙◌}
use mathlib.Core.Bool.{true≢false}
use Rattle.hm_schema_lines.specs.BadLines.{HasDouble}
use Rattle.hm_terms.specs.Programs.{lens_of}
use Rattle.hm_focal_terms.specs.TermText.{one_part, more_parts, id_form, fork_form, map_form, list_form, concrete_form, view_form, parentheses, two_terms}
use Rattle.hm_focal_terms.proofs.Sets.{sign_shorter}
use Rattle.hm_focal_terms.proofs.Shorter.{falls, less_less, word_shorter, part_shorter, behind_sign_shorter, edge_behind_shorter, set_behind_shorter}
use Rattle.hm_focal_terms.proofs.Terms.{no_more, parentheses_part, no_keyword, keyword_part, term_behind, no_close, no_second_term, no_end, no_fork, no_fork_second, no_fork_terms, no_concrete, no_concrete_terms, no_view, no_view_second, no_view_terms}
use Rattle.hm_focal_terms.proofs.Pairs.{no_pairs_yet, no_name, no_lens, pair_read, all_read, name_twice}
use Rattle.hm_focal_terms.proofs.reader.+reading.Goals as goal

pub read_behind_sign-read_sequence-requires : goal.read_behind_sign-read_sequence-requires
read_behind_sign-read_sequence-requires t c =
    (falls c.in-Some.inner.now c.args.text.now 6 1 t c.decreases (sign_shorter c.args.sign _ _ c.in-Some.ensures) (omega arith), tt)

pub read_behind_sign-returns-in-Some : goal.read_behind_sign-returns-in-Some
read_behind_sign-returns-in-Some t c = term_behind c.args.sign c.args.text.now _ c.in-Some.ensures _ c.read_sequence.ensures

pub read_by_concrete-returns-in_default : goal.read_by_concrete-returns-in_default
read_by_concrete-returns-in_default t c = no_concrete _ (rw c.in_default.is at c.in_ok-name.ensures)

pub read_by_concrete-read_two_terms-requires : goal.read_by_concrete-read_two_terms-requires
read_by_concrete-read_two_terms-requires t c =
    (falls c.in-Some.one.now c.args.text.now 2 3 t c.decreases (edge_behind_shorter 40 _ _ _ (rw c.in-Some.is at c.in_ok-name.ensures)) (omega arith), tt)

pub read_by_concrete-returns-in_default-2 : goal.read_by_concrete-returns-in_default-2
read_by_concrete-returns-in_default-2 t c =
    no_concrete_terms _ c.in-Some.name c.in-Some.one.now (rw c.in-Some.is at c.in_ok-name.ensures) (rw c.in_default-2.is at c.in_ok-yes.ensures)

pub read_by_concrete-returns : goal.read_by_concrete-returns
read_by_concrete-returns t c =
    rw (c.in_ok-yes-2.ensures.ok, c.in_ok-no.ensures.ok)
    (concrete_form (rw c.in-Some.is at c.in_ok-name.ensures) (rw c.in-Some-2.is at c.in_ok-yes.ensures))

pub read_by_view-returns-in_default : goal.read_by_view-returns-in_default
read_by_view-returns-in_default t c = no_view _ (rw c.in_default.is at c.in_ok-name.ensures)

pub read_by_view-returns-in_default-2 : goal.read_by_view-returns-in_default-2
read_by_view-returns-in_default-2 t c =
    no_view_second _ c.in-Some.name c.in-Some.one.now (rw c.in-Some.is at c.in_ok-name.ensures) (rw c.in_default-2.is at c.in_ok-shown.ensures)

pub read_by_view-read_two_terms-requires : goal.read_by_view-read_two_terms-requires
read_by_view-read_two_terms-requires t c =
    let a : length c.in-Some.one.now < length c.args.text.now = edge_behind_shorter 40 _ _ _ (rw c.in-Some.is at c.in_ok-name.ensures) in
    let b : length c.in-Some-2.two.now < length c.in-Some.one.now = edge_behind_shorter 44 _ _ _ (rw c.in-Some-2.is at c.in_ok-shown.ensures) in
    (falls c.in-Some-2.two.now c.args.text.now 2 3 t c.decreases (omega (arith, a, b)) (omega arith), tt)

pub read_by_view-returns-in_default-3 : goal.read_by_view-returns-in_default-3
read_by_view-returns-in_default-3 t c =
    no_view_terms _ c.in-Some.name c.in-Some.one.now (rw c.in-Some.is at c.in_ok-name.ensures) c.in-Some-2.shown c.in-Some-2.two.now
    (rw c.in-Some-2.is at c.in_ok-shown.ensures) (rw c.in_default-3.is at c.in_ok-yes.ensures)

pub read_by_view-returns : goal.read_by_view-returns
read_by_view-returns t c =
    rw (c.in_ok-yes-2.ensures.ok, c.in_ok-no.ensures.ok)
    (view_form (rw c.in-Some.is at c.in_ok-name.ensures) (rw c.in-Some-2.is at c.in_ok-shown.ensures) (rw c.in-Some-3.is at c.in_ok-yes.ensures))

pub read_fork-returns-in_default : goal.read_fork-returns-in_default
read_fork-returns-in_default t c = no_fork _ (rw c.in_default.is at c.in_ok-concrete.ensures)

pub read_fork-returns-in_default-2 : goal.read_fork-returns-in_default-2
read_fork-returns-in_default-2 t c =
    no_fork_second _ c.in-Some.concrete c.in-Some.one.now (rw c.in-Some.is at c.in_ok-concrete.ensures) (rw c.in_default-2.is at c.in_ok-shown.ensures)

pub read_fork-read_two_terms-requires : goal.read_fork-read_two_terms-requires
read_fork-read_two_terms-requires t c =
    let a : length c.in-Some.one.now < length c.args.text.now = set_behind_shorter 40 _ _ _ (rw c.in-Some.is at c.in_ok-concrete.ensures) in
    let b : length c.in-Some-2.two.now < length c.in-Some.one.now = set_behind_shorter 44 _ _ _ (rw c.in-Some-2.is at c.in_ok-shown.ensures) in
    (falls c.in-Some-2.two.now c.args.text.now 2 3 t c.decreases (omega (arith, a, b)) (omega arith), tt)

pub read_fork-returns-in_default-3 : goal.read_fork-returns-in_default-3
read_fork-returns-in_default-3 t c =
    no_fork_terms _ c.in-Some.concrete c.in-Some.one.now (rw c.in-Some.is at c.in_ok-concrete.ensures) c.in-Some-2.shown c.in-Some-2.two.now
    (rw c.in-Some-2.is at c.in_ok-shown.ensures) (rw c.in_default-3.is at c.in_ok-inside.ensures)

pub read_fork-returns : goal.read_fork-returns
read_fork-returns t c =
    rw (c.in_ok-inside-2.ensures.ok, c.in_ok-outside.ensures.ok)
    (fork_form (rw c.in-Some.is at c.in_ok-concrete.ensures) (rw c.in-Some-2.is at c.in_ok-shown.ensures) (rw c.in-Some-3.is at c.in_ok-inside.ensures))

pub read_form-returns-in-Id : goal.read_form-returns-in-Id
read_form-returns-in-Id t c = rw c.in-Id.is id_form

pub read_form-returns-in_ok-new-in-Some : goal.read_form-returns-in_ok-new-in-Some
read_form-returns-in_ok-new-in-Some t c =
    rw (c.in-Map.is, c.in_ok-new-in-Some.ensures.ok) (map_form (rw c.in-Some.is at c.in_ok-inner-in-Map.ensures))

pub read_form-returns-in_ok-new-in-Some-2 : goal.read_form-returns-in_ok-new-in-Some-2
read_form-returns-in_ok-new-in-Some-2 t c =
    rw (c.in-List.is, c.in_ok-new-in-Some-2.ensures.ok) (list_form (rw c.in-Some-2.is at c.in_ok-inner-in-List.ensures))

pub read_in_parentheses-returns-in-Some-read_sign : goal.read_in_parentheses-returns-in-Some-read_sign
read_in_parentheses-returns-in-Some-read_sign t c = parentheses (rw c.in-Some.is at c.in_ok-term.ensures) c.in-Some-read_sign.ensures

pub read_in_parentheses-returns-in-None : goal.read_in_parentheses-returns-in-None
read_in_parentheses-returns-in-None t c =
    no_close _ (lens_of c.in-Some.term) c.in-Some.inner.now (rw c.in-Some.is at c.in_ok-term.ensures) c.in-None.ensures

pub read_part-returns-in_default : goal.read_part-returns-in_default
read_part-returns-in_default t c = parentheses_part _ (rw c.in_default.is at c.in_ok-word.ensures) _ c.read_in_parentheses.ensures

pub read_part-read_form-requires : goal.read_part-read_form-requires
read_part-read_form-requires t c = (
  falls c.in-Some.behind.now c.args.text.now 4 5 t c.decreases
      (word_shorter _ c.in-Some.word _ (rw c.in-Some.is at c.in_ok-word.ensures)) (omega arith),
  tt,
)

pub read_part-returns-in-Some-read_keyword : goal.read_part-returns-in-Some-read_keyword
read_part-returns-in-Some-read_keyword t c =
    keyword_part _ c.in-Some.word c.in-Some.behind.now (rw c.in-Some.is at c.in_ok-word.ensures) c.in-Some-read_keyword.keyword
    c.in-Some-read_keyword.ensures _ c.read_form.ensures

pub read_part-returns : goal.read_part-returns
read_part-returns t c =
    no_keyword _ c.in-Some.word c.in-Some.behind.now (rw c.in-Some.is at c.in_ok-word.ensures) c.in-None.ensures

pub read_sequence-returns-in_default-read_sign : goal.read_sequence-returns-in_default-read_sign
read_sequence-returns-in_default-read_sign t c = one_part (rw c.in-Some.is at c.in_ok-first.ensures) c.in_default-read_sign.ensures

pub read_sequence-read_sequence-requires : goal.read_sequence-read_sequence-requires
read_sequence-read_sequence-requires t c =
    let a : length c.in-Some.behind.now < length c.args.text.now = part_shorter (rw c.in-Some.is at c.in_ok-first.ensures) in
    let b : length c.in-Some-read_sign.inner.now < length c.in-Some.behind.now = sign_shorter 59 _ _ c.in-Some-read_sign.ensures in
    (falls c.in-Some-read_sign.inner.now c.args.text.now 6 6 t c.decreases (omega (arith, a, b)) (omega arith), tt)

pub read_sequence-returns-in_default-2 : goal.read_sequence-returns-in_default-2
read_sequence-returns-in_default-2 t c =
    no_more _ (lens_of c.in-Some.first) c.in-Some.behind.now (rw c.in-Some.is at c.in_ok-first.ensures) c.in-Some-read_sign.inner.now
    c.in-Some-read_sign.ensures (rw c.in_default-2.is at c.in_ok-second.ensures)

pub read_sequence-returns : goal.read_sequence-returns
read_sequence-returns t c =
    rw (c.in_ok-first-2.ensures.ok, c.in_ok-second-2.ensures.ok)
    (more_parts (rw c.in-Some.is at c.in_ok-first.ensures) c.in-Some-read_sign.ensures (rw c.in-Some-2.is at c.in_ok-second.ensures))

pub read_two_terms-read_behind_sign-requires-2 : goal.read_two_terms-read_behind_sign-requires-2
read_two_terms-read_behind_sign-requires-2 t c =
    (falls c.in-Some.middle.now c.args.text.now 1 2 t c.decreases (behind_sign_shorter (rw c.in-Some.is at c.in_ok-first.ensures)) (omega arith), tt)

pub read_two_terms-returns-in_default-2 : goal.read_two_terms-returns-in_default-2
read_two_terms-returns-in_default-2 t c =
    no_second_term _ (lens_of c.in-Some.first) c.in-Some.middle.now (rw c.in-Some.is at c.in_ok-first.ensures)
    (rw c.in_default-2.is at c.in_ok-second.ensures)

pub read_two_terms-returns-in-Some-read_sign : goal.read_two_terms-returns-in-Some-read_sign
read_two_terms-returns-in-Some-read_sign t c =
    two_terms (rw c.in-Some.is at c.in_ok-first.ensures) (rw c.in-Some-2.is at c.in_ok-second.ensures) c.in-Some-read_sign.ensures

pub read_two_terms-returns-in-None : goal.read_two_terms-returns-in-None
read_two_terms-returns-in-None t c =
    no_end _ (lens_of c.in-Some.first) c.in-Some.middle.now (rw c.in-Some.is at c.in_ok-first.ensures) (lens_of c.in-Some-2.second)
    c.in-Some-2.inner.now (rw c.in-Some-2.is at c.in_ok-second.ensures) c.in-None.ensures

pub read_each-pairs-init : goal.read_each-pairs-init
read_each-pairs-init t c = (no_pairs_yet _ _ _ c.new-terms.ensures.items c.new-names.ensures.items, omega arith)

pub read_each-returns-in_default : goal.read_each-returns-in_default
read_each-returns-in_default t c = no_name _ _ _ _ _ c.pairs.invariant.0 (rw c.in_default.is at c.in_ok-name.ensures)

pub read_each-read_behind_sign-requires : goal.read_each-read_behind_sign-requires
read_each-read_behind_sign-requires t c =
    let a : length c.in-Some.one.now < length c.pairs.left.now =
    edge_behind_shorter c.pairs.sign _ _ _ (rw c.in-Some.is at c.in_ok-name.ensures) in
    let b : length c.pairs.left.now ≤ length c.args.text.now = c.pairs.invariant.1 in
    (falls c.in-Some.one.now c.args.text.now 1 3 t c.decreases (omega (arith, a, b)) (omega arith), tt)

pub read_each-returns-in_default-2 : goal.read_each-returns-in_default-2
read_each-returns-in_default-2 t c =
    no_lens _ _ _ _ _ c.pairs.invariant.0 c.in-Some.name c.in-Some.one.now (rw c.in-Some.is at c.in_ok-name.ensures)
    (rw c.in_default-2.is at c.in_ok-term.ensures)

pub read_each-returns-then-branch : goal.read_each-returns-then-branch
read_each-returns-then-branch t c =
    let double : HasDouble c.push.new.self.items = subst HasDouble c.deref.ensures.value (c.in_ok-has_double.ensures.0 c.if-branch.true) in
    name_twice _ _ _ _ _ c.pairs.invariant.0 c.in-Some.name c.in-Some.one.now (rw c.in-Some.is at c.in_ok-name.ensures) c.in-Some-2.term
    c.in-Some-2.two.now (rw c.in-Some-2.is at c.in_ok-term.ensures) _ c.in_ok-push-2.ensures.items _
    (c.in_ok-push.ensures.items ∙ ap (λ n. c.pairs.names.items ++ n ∷ []) c.in_ok-copy.ensures.value) c.in-Some-read_sign.rest.now
    c.in-Some-read_sign.ensures double

pub read_each-returns-in-Some-read_sign : goal.read_each-returns-in-Some-read_sign
read_each-returns-in-Some-read_sign t c =
    let single : HasDouble c.push.new.self.items → ⊥ = λ d.
    true≢false (sym (c.in_ok-has_double.ensures.1 (subst HasDouble (sym c.deref.ensures.value) d)) ∙ c.if-branch.false) in
    all_read _ _ _ _ _ c.pairs.invariant.0 c.in-Some.name c.in-Some.one.now (rw c.in-Some.is at c.in_ok-name.ensures) c.in-Some-2.term
    c.in-Some-2.two.now (rw c.in-Some-2.is at c.in_ok-term.ensures) _ c.in_ok-push-2.ensures.items _
    (c.in_ok-push.ensures.items ∙ ap (λ n. c.pairs.names.items ++ n ∷ []) c.in_ok-copy.ensures.value) c.in-Some-read_sign.rest.now
    c.in-Some-read_sign.ensures single c.push-in-pairs.new.self refl

pub read_each-pairs-smaller : goal.read_each-pairs-smaller
read_each-pairs-smaller t c =
    less_less (length c.in-Some-2.two.now) (length c.in-Some.one.now) (length c.pairs.left.now)
    (behind_sign_shorter (rw c.in-Some-2.is at c.in_ok-term.ensures))
    (edge_behind_shorter c.pairs.sign _ _ _ (rw c.in-Some.is at c.in_ok-name.ensures))

pub read_each-pairs-preserved : goal.read_each-pairs-preserved
read_each-pairs-preserved t c =
    let a : length c.in-Some.one.now < length c.pairs.left.now =
    edge_behind_shorter c.pairs.sign _ _ _ (rw c.in-Some.is at c.in_ok-name.ensures) in
    let b : length c.in-Some-2.two.now < length c.in-Some.one.now = behind_sign_shorter (rw c.in-Some-2.is at c.in_ok-term.ensures) in
    let d : length c.pairs.left.now ≤ length c.args.text.now = c.pairs.invariant.1 in (
      pair_read _ _ _ _ _ c.pairs.invariant.0 c.in-Some.name c.in-Some.one.now (rw c.in-Some.is at c.in_ok-name.ensures) c.in-Some-2.term
          c.in-Some-2.two.now (rw c.in-Some-2.is at c.in_ok-term.ensures) _ c.in_ok-push-2.ensures.items _
          (c.in_ok-push.ensures.items ∙ ap (λ n. c.pairs.names.items ++ n ∷ []) c.in_ok-copy.ensures.value) c.in_default-read_sign.ensures,
      omega (arith, a, b, d),
    )
