use Rattle.std.proofs.Common.{true, false, sym, ◌∙◌}
use Rattle.std.proofs.lemmas.Result.{on_ok_weaker}
use Rattle.hm_alike.specs.Groups.{lent_lists}
use Rattle.hm_alike.proofs.Keyed.{IsPut, add_there, add_new}
use Rattle.hm_alike.proofs.groups.add.Goals as goal

pub returns-then-is_new : goal.returns-then-is_new
returns-then-is_new c = λ names rise g.
    let put : IsPut c.args.texts.now.keys c.insert_full.new.self.keys c.in_ok-fold.field-0 c.in_ok-place.place true = record {
      added = sym c.if-is_new.true ∙ c.in_ok-place.ensures.added;
      keys = c.in_ok-place.ensures.keys;
      stored = c.in_ok-place.ensures.stored;
    } in
    on_ok_weaker c.push_alone.result
    (λ e. add_new names c.args.name.now (lent_lists c.args.groups.now.items) (lent_lists c.push_alone.new.groups.items) put c.in_ok-fold.ensures e rise g)
    c.push_alone.ensures

pub returns-else-is_new : goal.returns-else-is_new
returns-else-is_new c = λ names rise g.
    let put : IsPut c.args.texts.now.keys c.insert_full.new.self.keys c.in_ok-fold.field-0 c.in_ok-place.place false = record {
      added = sym c.if-is_new.false ∙ c.in_ok-place.ensures.added;
      keys = c.in_ok-place.ensures.keys;
      stored = c.in_ok-place.ensures.stored;
    } in
    on_ok_weaker c.put.result
    (λ e. add_there names c.args.name.now (lent_lists c.args.groups.now.items) (lent_lists c.put.new.groups.items) put c.in_ok-fold.ensures e g)
    c.put.ensures
