use Rattle.std.proofs.Common.{rules, ◌≡◌, take, map, subst}
use Rattle.std.proofs.lemmas.List.{take_all}
use Rattle.hm_terms.specs.Programs.{definition_value}
use Rattle.hm_types.specs.DeclaredNodes.{DeclaresAll}
use Rattle.hm_types.proofs.DeclaringSteps.{declares_next, declares_none}
use Rattle.hm_types.proofs.declaring.declared_of.Goals as goal

pub loop-definition-init : goal.loop-definition-init
loop-definition-init c = declares_none c.args.by c.in_ok-declared.declared.items c.in_ok-declared.ensures.items

pub add_name-requires : goal.add_name-requires
add_name-requires c = c.loop-definition.invariant.sorted

pub loop-definition-preserved : goal.loop-definition-preserved
loop-definition-preserved c =
    declares_next c.args.definitions.now c.args.by c.loop-definition.definition-index c.definition-item.result c.loop-definition.declared.items c.add_name.new.places.items
    (c.behind.result, c.behind-in-loop-definition.result) (search rules) c.definition-item.is c.loop-definition.invariant
    (λ t. (c.behind.ensures t, c.behind-in-loop-definition.ensures t)) c.in_ok-add_name.ensures.put

pub returns : goal.returns
returns c =
    let all : take c.loop-definition.definition-index c.args.definitions.now ≡ c.args.definitions.now =
    take_all c.loop-definition.definition-index c.args.definitions.now (search rules) in
    subst (λ ds. DeclaresAll (map definition_value ds) c.args.by c.loop-definition.declared.items) all c.loop-definition.invariant
