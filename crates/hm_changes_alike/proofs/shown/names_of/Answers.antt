use Rattle.std.proofs.Common.{◌∙◌, [], ◌∷◌, ap, map, Bor}
use Rattle.std.proofs.lemmas.List.{map-append}
use Rattle.hm_tree.specs.Names.{Name}
use Rattle.hm_changes_alike.proofs.Uniting.{none_united, united_more, all_united}
use Rattle.hm_changes_alike.proofs.shown.names_of.Goals as goal

pub loop-taken-init : goal.loop-taken-init
loop-taken-init c = none_united c.args.ones.now c.args.others.now _ (ap (map (λ n. n.now)) c.new-names.ensures.items) c.requires.ones c.requires.others

pub loop-taken-preserved : goal.loop-taken-preserved
loop-taken-preserved c = united_more c.args.ones.now c.args.others.now _ _ _ _ _ _ _ _ _ c.loop-taken.invariant c.in-Some.ensures
    (ap (map (λ n. n.now)) c.in_ok-push.ensures.items ∙ map-append (λ (n : Bor Name). n.now) c.loop-taken.names.items (c.in-Some.taken.name ∷ []))

pub returns : goal.returns
returns c = all_united c.args.ones.now c.args.others.now _ _ _ c.in_default.ensures c.loop-taken.invariant
