use Rattle.std.proofs.Common.{rules}
use Rattle.hm_tree.proofs.SetEdits.{inside_rises, outside_rises, inside_set, outside_set}
use Rattle.hm_tree.proofs.name_set.NameSet.parts.Goals as goal

pub invariant_of-result : goal.invariant_of-result
invariant_of-result c =
    let l = c.loop-name in
    inside_rises c.args.names.now c.args.self.now c.self.inside.names.items l.inside.items l.outside.items l.name-index (search rules) (search rules)
    c.self.invariant c.self.view_is

pub invariant_of-result-2 : goal.invariant_of-result-2
invariant_of-result-2 c =
    let l = c.loop-name in
    outside_rises c.args.names.now c.args.self.now c.self.inside.names.items l.inside.items l.outside.items l.name-index (search rules) (search rules)
    c.self.invariant c.self.view_is

pub returns-clause-inside : goal.returns-clause-inside
returns-clause-inside c =
    let l = c.loop-name in
    inside_set c.args.names.now c.args.self.now c.self.inside.names.items l.inside.items l.outside.items l.name-index (search rules) (search rules)
    c.self.invariant c.self.view_is

pub returns-clause-outside : goal.returns-clause-outside
returns-clause-outside c =
    let l = c.loop-name in
    outside_set c.args.names.now c.args.self.now c.self.inside.names.items l.inside.items l.outside.items l.name-index (search rules) (search rules)
    c.self.invariant c.self.view_is
