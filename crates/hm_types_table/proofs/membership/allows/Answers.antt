use Rattle.std.proofs.Common.{Some, All, sym, subst, ◌∙◌}
use mathlib.Core.Bool.{true≢false}
use Rattle.std.proofs.lemmas.Option.{same_Some}
use Rattle.std.proofs.lemmas.List.Elements.{All-weaker}
use Rattle.hm_tree.specs.Names.{Name}
use Rattle.hm_tree.specs.States.{state}
use Rattle.hm_schema.specs.Values.{NodeValue}
use Rattle.hm_schema.specs.Permitted.{Permits, names_of}
use Rattle.hm_schema.specs.Membership.{IsTwin}
use Rattle.hm_schema.specs.Standing.{HasTwin}
use Rattle.hm_schema.proofs.StandingTrees.{twin_from, twin_to}
use Rattle.hm_types_table.specs.Tables.{seat}
use Rattle.hm_types_table.proofs.membership.allows.Goals as goal

pub returns-then-permits : goal.returns-then-permits
returns-then-permits c n e =
    let t = c.args.tree.now in
    let twins = c.at.result.0.now.twins.items in
    let is = same_Some (seat c.at.result.0.now c.at.result.1.now) n (sym c.at.ensures.node ∙ e) in
    let By = λ (twin : Name × Name). IsTwin (state (Some t)) twin.0 twin.1 in (
      λ r. record {
        permitted = subst (λ (n : NodeValue). Permits n (names_of t)) is (c.permits.ensures.0 c.if-permits.true);
        twins = subst (λ (n : NodeValue). All (HasTwin t) n.twins) is
            (All-weaker By (HasTwin t) (twin_from t) twins (subst (All By) c.deref.ensures.value (c.have_twins.ensures.0 r)));
      },
      λ a. c.have_twins.ensures.1 (subst (All By) (sym c.deref.ensures.value)
          (All-weaker (HasTwin t) By (twin_to t) twins (subst (λ (n : NodeValue). All (HasTwin t) n.twins) (sym is) a.twins))),
    )

pub returns-else-permits : goal.returns-else-permits
returns-else-permits c n e =
    let t = c.args.tree.now in
    let is = same_Some (seat c.at.result.0.now c.at.result.1.now) n (sym c.at.ensures.node ∙ e) in (
      λ r. absurd (true≢false (sym r ∙ c.if-permits.false)),
      λ a. c.permits.ensures.1 (subst (λ (n : NodeValue). Permits n (names_of t)) (sym is) a.permitted),
    )
