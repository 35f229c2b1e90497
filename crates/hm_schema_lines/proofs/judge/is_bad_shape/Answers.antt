use Rattle.std.proofs.Common.{◌≡◌, inl, inr, ◌<◌, ◌≤◌, ℕ, suc, List, Bool, true, false, sym, subst, ◌∙◌, refl, Result, Ok, Err}
use Rattle.std.specs.Prelude.{IfOk, IsTrue, ◌↔◌}
use Rattle.std.specs.List.{Contains}
use Rattle.hm_tree.specs.Names.{Name}
use Rattle.hm_tree.specs.declared.memory.Memory.{Memory}
use Rattle.hm_schema_lines.specs.NodeLines.{ShapeValue, shape, shape_value}
use Rattle.hm_schema_lines.specs.Entries.{EntryValue, says}
use Rattle.hm_schema_lines.specs.Judging.{lines_of, MayCount}
use Rattle.hm_schema_lines.specs.BadLines.{in_no_node, around, names_of_shape, HasDouble, Lists, SpeaksOfOthers, IsNoneCounted, IsBadNodeLine, unlisted_name, name_twice, least_above_most, no_others_to_count, too_many_shapes}
use Rattle.hm_schema_lines.proofs.Sections.{around_next}
use Rattle.hm_schema_lines.proofs.Judging.{always, not_bad}
use Rattle.hm_schema_lines.proofs.judge.is_bad_shape.Goals as goal
use Rattle.hm_facts.proofs.Booleans.{refuted}

pub returns-then-line-eq0 : goal.returns-then-line-eq0
returns-then-line-eq0 c = always (in_no_node c.requires.says refl (sym c.requires.known.before.nodes ∙ c.if-line-eq0.true))

pub returns-then-line-ge-MOST_SHAPES : goal.returns-then-line-ge-MOST_SHAPES
returns-then-line-ge-MOST_SHAPES c =
    always (too_many_shapes c.requires.says (subst (λ n. 256 ≤ n) c.requires.known.before.shapes c.if-line-ge-MOST_SHAPES.true))

pub returns-then-is_turned : goal.returns-then-is_turned
returns-then-is_turned c = let above = c.if-is_turned.ensures.0 refl in always (least_above_most c.requires.says above.1 above.2)

pub returns-then-not-may_count : goal.returns-then-not-may_count
returns-then-not-may_count c = always (no_others_to_count c.requires.says
    (λ none. refuted (c.if-not-may_count.ensures.1 (inl none)))
    (λ spoken. refuted (c.if-not-may_count.ensures.1
    (inr (subst SpeaksOfOthers
    (sym (around_next (lines_of c.args.line.now) c.args.line.now.place (says (shape (shape_value c.args.parts.now))) c.requires.says refl))
    spoken)))))

pub returns-then-has_unlisted : goal.returns-then-has_unlisted
returns-then-has_unlisted c =
    let lacking = c.if-has_unlisted.ensures.0 refl in
    always (unlisted_name c.requires.says
    (subst (λ z. Contains z lacking.0) (c.deref.ensures.value ∙ c.in_ok-names.ensures) lacking.1)
    (λ listed. lacking.2 (subst (λ z. Lists z lacking.0)
    (sym (around_next (lines_of c.args.line.now) c.args.line.now.place (says (shape (shape_value c.args.parts.now))) c.requires.says refl))
    listed)))

pub returns : goal.returns
returns c = by c.has_double.result (subst (λ z. IfOk c.has_double.result (λ found. IsTrue found ↔ HasDouble z))
    (c.deref-2.ensures.value ∙ c.in_ok-names.ensures) c.has_double.ensures)
  where
    es : List EntryValue
    es = lines_of c.args.line.now

    i : ℕ
    i = c.args.line.now.place

    parts : ShapeValue
    parts = shape_value c.args.parts.now

    node_lines : around es (suc i) ≡ around es i
    node_lines = around_next es i (says (shape parts)) c.requires.says refl

    all_listed : (k : Name) → Contains (names_of_shape parts) k → ¬ (¬ (Lists (around es i) k))
    all_listed k there none =
        refuted (c.if-has_unlisted.ensures.1 (
          k,
          subst (λ z. Contains z k) (sym (c.deref.ensures.value ∙ c.in_ok-names.ensures)) there,
          λ listed. none (subst (λ z. Lists z k) node_lines listed),
        ))

    counted : MayCount es i parts.count → ¬ (IsNoneCounted parts.count) → ¬ (¬ (SpeaksOfOthers (around es i)))
    counted (inl none) some silent = some none
    counted (inr spoken) some silent = silent (subst SpeaksOfOthers node_lines spoken)

    single : ¬ (HasDouble (names_of_shape parts)) → IsBadNodeLine es i → ⊥
    single no_double = not_bad es i (shape parts) c.requires.says (record {
      housed = λ inside none. c.if-line-eq0.false (c.requires.known.before.nodes ∙ none);
      names = λ w e. let no : ⊥ = cc in absurd no;
      rest = (
        all_listed,
        no_double,
        λ most is above. refuted (c.if-is_turned.ensures.1 (most, is, above)),
        counted (c.if-not-may_count.ensures.0 refl),
        subst (λ n. n < 256) c.requires.known.before.shapes c.if-line-ge-MOST_SHAPES.false,
      );
    })

    by : (r : Result Bool Memory) → IfOk r (λ found. IsTrue found ↔ HasDouble (names_of_shape parts))
        → IfOk r (λ bad. IsTrue bad ↔ IsBadNodeLine es i)
    by (Err e) h = tt
    by (Ok true) h = (λ t. name_twice c.requires.says (h.0 refl), λ bad. refl)
    by (Ok false) h = (λ f. absurd (refuted f), λ bad. absurd (single (λ twice. refuted (h.1 twice)) bad))
