use Rattle.std.proofs.Common.{◌≡◌, Option, Some, None, is_some, option_copied, Bor, add-one, sym, ap, ◌∙◌, refl, arith}
use Rattle.std.proofs.lemmas.Grind.{common_steps}
use Rattle.hm_schema_lines.specs.Entries.{entry_value, entry_values}
use Rattle.hm_schema_lines.proofs.Counted.{inside, begun, edges_few, earlier_few}
use Rattle.hm_schema_lines.proofs.Made.{entry_at}
use Rattle.hm_schema_lines.proofs.before.Before.next.Goals as goal

seen : {T : Type 0} (o : Option (Bor T)) → is_some o ≡ is_some (option_copied o)
seen None = refl
seen (Some x) = refl

pub returns-then-begins_node : goal.returns-then-begins_node
returns-then-begins_node c =
    let is = entry_at c.args.entries.now c.args.place c.index-entries-place.result c.requires.place c.index-entries-place.is in
    rw (add-one, c.from.ensures, c.is_counted.ensures)
    (begun (entry_values c.args.entries.now) c.args.place (entry_value c.index-entries-place.result) is c.args.self c.requires.before
    (sym c.begins_node.ensures ∙ c.if-begins_node.true))

pub overflow_add-result-2 : goal.overflow_add-result-2
overflow_add-result-2 c = let few = edges_few (entry_values c.args.entries.now) c.args.place in grind (arith, common_steps)

pub overflow_add-result-3 : goal.overflow_add-result-3
overflow_add-result-3 c = let few = earlier_few (entry_values c.args.entries.now) c.args.place in grind (arith, common_steps)

pub overflow_add-result-4 : goal.overflow_add-result-4
overflow_add-result-4 c = let few = earlier_few (entry_values c.args.entries.now) c.args.place in grind (arith, common_steps)

pub returns : goal.returns
returns c =
    let is = entry_at c.args.entries.now c.args.place c.index-entries-place.result c.requires.place c.index-entries-place.is in
    rw (
      add-one,
      c.from.ensures,
      c.is_counted.ensures,
      c.from-2.ensures,
      c.is_some.ensures ∙ seen c.listed.result ∙ ap is_some c.listed.ensures,
      c.from-3.ensures,
      c.speaks_of_others.ensures,
      c.from-4.ensures,
      c.is_shape.ensures,
    )
    (inside (entry_values c.args.entries.now) c.args.place (entry_value c.index-entries-place.result) is c.args.self c.requires.before
    (sym c.begins_node.ensures ∙ c.if-begins_node.false))
