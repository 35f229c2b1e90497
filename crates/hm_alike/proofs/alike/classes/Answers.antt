use Rattle.std.proofs.Common.{◌≡◌, rules, tests, filter, nat_lt, length, sym, ap, subst, ◌∙◌}
use Rattle.std.proofs.lemmas.Fn.{filter_same}
use Rattle.hm_alike.specs.Alike.{AreClasses}
use Rattle.hm_alike.specs.Groups.{lent, lent_lists}
use Rattle.hm_alike.proofs.Classed.{classed, lent_two}
use Rattle.hm_alike.proofs.alike.classes.Goals as goal

pub returns : goal.returns
returns c =
    let groups = c.in_ok-groups.ensures in
    let kept : c.retain.new.self.items ≡ filter (λ l. nat_lt 1 (length l.items)) c.in_ok-groups.groups.items =
    filter_same _ _ _ (λ x b f' k. search (rules, tests)) _ _ c.retain.ensures.filtered in
    subst (AreClasses (lent c.args.names.now)) (sym (ap lent_lists kept ∙ lent_two c.in_ok-groups.groups.items))
    (classed (lent c.args.names.now) groups.0 (lent_lists c.in_ok-groups.groups.items) groups.1)
