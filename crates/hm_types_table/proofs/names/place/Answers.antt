use Rattle.std.proofs.Common.{rules}
use Rattle.std.proofs.lemmas.Fn.{always_returns_same}
use Rattle.hm_tree.specs.Names.{name_cmp}
use Rattle.hm_types_table.proofs.Sets.{place_found, place_none}
use Rattle.hm_types_table.proofs.names.place.Goals as goal

pub returns-in-Ok : goal.returns-in-Ok
returns-in-Ok c =
    let facts = c.in-Ok.ensures in
    place_found c.args.name.now c.args.names.now c.requires c.in-Ok.place facts.bound
    (facts.position (λ e. name_cmp e c.args.name.now) (always_returns_same _ _ _ (λ a r h called. search rules)))

pub returns-in-Err : goal.returns-in-Err
returns-in-Err c =
    let facts = c.in-Err.ensures in
    place_none c.args.name.now c.args.names.now c.requires c.in-Err.field-0 facts.bound
    (facts.position (λ e. name_cmp e c.args.name.now) (always_returns_same _ _ _ (λ a r h called. search rules)))
