use Rattle.std.proofs.Common.{rules, ◌≡◌, ◌∷◌, true, IsTrue, All, [], length, sym, ap, subst, ◌∙◌}
use mathlib.Core.Bool.{true≢false}
use Rattle.std.specs.FinSet.{from_list}
use Rattle.hm_schema.specs.declared.node.Shape.{Shape}
use Rattle.hm_schema_lists.specs.Plain.{exact_shape}
use Rattle.hm_types_table.specs.Tables.{seat}
use Rattle.hm_types_table.proofs.Sets.{no_names}
use Rattle.hm_types_views.proofs.OneName.{hoist_faults, hoist_found, child_in_range}
use Rattle.hm_types_views.proofs.hoisting.hoisted.Goals.{then-not-is_empty-via-then-not-is_empty, then-not-is_empty-via-else-not-is_empty+then-not-all_alone}
use Rattle.hm_types_views.proofs.hoisting.hoisted.Goals as goal

pub returns-then-not-is_empty-clause-goes : goal.returns-then-not-is_empty-clause-goes
returns-then-not-is_empty-clause-goes c =
    let n = seat c.at.result.0.now c.at.result.1.now in
    hoist_faults c.args.table.now c.at.ensures.formed c.args.id n c.at.ensures.node c.args.name.now
    (λ alone. elim c.then-not-is_empty.branch [
      | then-not-is_empty-via-then-not-is_empty w ↦
          let size : length c.at.result.0.now.twins.items ≡ 0 = ap length alone.plain in
          let none : c.is_empty.result ≡ true = search rules in
          true≢false (sym none ∙ w.if-not-is_empty.true)
      | then-not-is_empty-via-else-not-is_empty+then-not-all_alone w ↦ let all : IsTrue w.all_alone.result = w.all_alone.ensures.1 (subst (All (λ (a : Shape). a ≡ exact_shape (from_list (c.args.name.now ∷ [])))) (sym w.deref.ensures.value) alone.shapes) in
          true≢false (sym all ∙ w.if-not-all_alone.true)
    ])

pub returns-clause-in_range : goal.returns-clause-in_range
returns-clause-in_range c =
    let n = seat c.at.result.0.now c.at.result.1.now in
    child_in_range c.args.table.now c.at.ensures.formed c.args.id n c.at.ensures.node c.args.name.now c.child.result (c.child.ensures n c.at.ensures.node)

pub returns-clause-goes : goal.returns-clause-goes
returns-clause-goes c =
    let n = seat c.at.result.0.now c.at.result.1.now in
    let size : length c.at.result.0.now.twins.items ≡ 0 = search rules in
    let alone : All (λ (a : Shape). a ≡ exact_shape (from_list (c.args.name.now ∷ []))) c.at.result.0.now.shapes.items =
    subst (All (λ (a : Shape). a ≡ exact_shape (from_list (c.args.name.now ∷ [])))) c.deref.ensures.value (c.all_alone.ensures.0 c.if-not-all_alone.false) in
    hoist_found c.args.table.now c.at.ensures.formed c.args.id n c.at.ensures.node c.args.name.now c.child.result (c.child.ensures n c.at.ensures.node)
    (no_names c.at.result.0.now.twins.items size) alone
