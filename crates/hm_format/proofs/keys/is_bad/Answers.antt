use Rattle.std.proofs.Common.{rules, Bool, IfOk, List, [], map, take, ◌≡◌, ◌∙◌, sym, subst, ap, Some}
use Rattle.std.specs.FinMap.{find}
use Rattle.std.proofs.lemmas.List.{take-map, get_or-map}
use Rattle.hm_tree.specs.Names.{Name, name_cmp}
use Rattle.hm_schema.specs.Values.{pair_value, options_value}
use Rattle.hm_format.specs.Options.{Pairs, rule_of, breaks}
use Rattle.hm_format.proofs.Judging.{by_rule}
use Rattle.hm_format.proofs.keys.is_bad.Goals as goal

pub returns-in-Some : goal.returns-in-Some
returns-in-Some c =
    let key : Name = c.index-pair.result.now.0 in
    let values : List Name = c.index-pair.result.now.1.items in
    let known : find name_cmp key (map rule_of c.args.keys.now) ≡ Some (rule_of c.in-Some.key.now).1 = search rules in
    let here = get_or-map pair_value c.args.options.now.pairs.items c.args.place c.index-pair.result.now ([], []) c.requires in
    let is = here ∙ ap pair_value (sym c.index-pair.ensures) in
    let judged = by_rule (map rule_of c.args.keys.now) (options_value c.args.options.now) c.args.place key values is (rule_of c.in-Some.key.now).1 known in
    let earlier = ap (λ (e : Pairs). breaks (Some (rule_of c.in-Some.key.now).1) c.args.options.now.type_names.items e (key, values))
    (sym (take-map pair_value c.args.place c.args.options.now.pairs.items)) in
    subst (λ (x : Bool). IfOk c.breaks.result (λ bad. bad ≡ x)) ((λ i.
    breaks (Some (rule_of c.in-Some.key.now).1) (c.deref.ensures.value i) (map pair_value (take c.args.place (c.deref-in-Some.ensures.value i)))
    (key, values)) ∙ earlier ∙ sym judged) c.breaks.ensures
