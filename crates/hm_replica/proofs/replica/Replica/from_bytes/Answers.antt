use Rattle.std.proofs.Common.{None, Some, map, sym, ◌∙◌}
use Rattle.hm_replica.specs.Replicas.{typed_value, main_in}
use Rattle.hm_replica.proofs.Closing.{may_show, opened, with_tree, without_tree}
use Rattle.hm_replica.proofs.replica.Replica.from_bytes.Goals as goal

pub get_owned-requires : goal.get_owned-requires
get_owned-requires g c =
    may_show ((goal.Format-dyn g (c.args.format.now.vtable, c.args.format.now.value)).means c.args.format.now.value)
    (map (λ b. (goal.TextLens-dyn g (b.vtable, b.value)).meaning b.value) c.args.texts.now) (typed_value c.args.typed.now) c.laws.ensures c.requires
    c.deref.result.now c.in_ok-concrete.concrete c.in_ok-concrete.ensures

pub get-requires : goal.get-requires
get-requires g c =
    may_show ((goal.Format-dyn g (c.args.format.now.vtable, c.args.format.now.value)).means c.args.format.now.value)
    (map (λ b. (goal.TextLens-dyn g (b.vtable, b.value)).meaning b.value) c.args.texts.now) (typed_value c.args.typed.now) c.laws.ensures c.requires
    c.deref.result.now c.in_ok-concrete.concrete c.in_ok-concrete.ensures

pub returns-then-is_oblivious : goal.returns-then-is_oblivious
returns-then-is_oblivious g c =
    opened ((goal.Format-dyn g (c.args.format.now.vtable, c.args.format.now.value)).means c.args.format.now.value)
    (map (λ b. (goal.TextLens-dyn g (b.vtable, b.value)).meaning b.value) c.args.texts.now) (typed_value c.args.typed.now) c.laws.ensures c.requires
    c.args.bytes.items c.deref.result.now c.in_ok-concrete.concrete c.in_ok-view.view None c.deref.ensures.value c.in_ok-concrete.ensures
    c.in_ok-view.ensures
    (without_tree (main_in (typed_value c.args.typed.now)) c.in_ok-concrete.concrete (sym c.is_oblivious.ensures.form ∙ c.if-is_oblivious.true))

pub returns : goal.returns
returns g c =
    opened ((goal.Format-dyn g (c.args.format.now.vtable, c.args.format.now.value)).means c.args.format.now.value)
    (map (λ b. (goal.TextLens-dyn g (b.vtable, b.value)).meaning b.value) c.args.texts.now) (typed_value c.args.typed.now) c.laws.ensures c.requires
    c.args.bytes.items c.deref.result.now c.in_ok-concrete.concrete c.in_ok-view-2.view (Some c.in_ok-concrete.concrete) c.deref.ensures.value
    c.in_ok-concrete.ensures c.in_ok-view-2.ensures
    (with_tree (main_in (typed_value c.args.typed.now)) c.in_ok-concrete.concrete (sym c.is_oblivious.ensures.form ∙ c.if-is_oblivious.false))
