use Rattle.std.proofs.Common.{sym}
use Rattle.std.specs.Ordering.{eq_by_cmp}
use Rattle.std.proofs.lemmas.Map.Keys.{any_passes_from_place}
use Rattle.hm_tree.specs.Names.{name_cmp}
use Rattle.hm_tree.proofs.NameSets.{tied_self}
use Rattle.hm_types_table.proofs.names.is_in.Goals as goal

pub returns-in-Some : goal.returns-in-Some
returns-in-Some c = sym (any_passes_from_place (eq_by_cmp name_cmp c.args.name.now) c.args.names.now c.in-Some.field-0 c.args.name.now
    (c.in-Some.ensures) (tied_self c.args.name.now))
