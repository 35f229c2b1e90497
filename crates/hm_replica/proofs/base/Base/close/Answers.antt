use Rattle.std.proofs.Common.{map, ◌∙◌}
use Rattle.hm_replica.specs.Replicas.{typed_value}
use Rattle.hm_replica.proofs.Closing.{may_put_over, put_again_over, put_over, kept_alike, may_write, closes, stays_behind}
use Rattle.hm_replica.proofs.base.Base.close.Goals as goal

pub put_back-requires-clause-put : goal.put_back-requires-clause-put
put_back-requires-clause-put g c =
    let one = c.requires.replica in
    may_put_over ((goal.Format-dyn g (c.args.format.now.vtable, c.args.format.now.value)).means c.args.format.now.value)
    (map (λ b. (goal.TextLens-dyn g (b.vtable, b.value)).meaning b.value) c.args.texts.now) (typed_value c.args.typed.now) c.laws.ensures
    c.requires.typed
    one.0 one.2 c.args.shown c.requires.member c.args.self.kept one.1.kept

pub put_back-requires-clause-back : goal.put_back-requires-clause-back
put_back-requires-clause-back g c =
    let one = c.requires.replica in
    put_again_over ((goal.Format-dyn g (c.args.format.now.vtable, c.args.format.now.value)).means c.args.format.now.value)
    (map (λ b. (goal.TextLens-dyn g (b.vtable, b.value)).meaning b.value) c.args.texts.now) (typed_value c.args.typed.now) c.laws.ensures
    c.requires.typed
    one.0 one.2 c.args.shown c.requires.member c.args.self.kept one.1.kept

pub write-made-requires : goal.write-made-requires
write-made-requires g c =
    let one = c.requires.replica in
    may_write ((goal.Format-dyn g (c.args.format.now.vtable, c.args.format.now.value)).means c.args.format.now.value)
    (map (λ b. (goal.TextLens-dyn g (b.vtable, b.value)).meaning b.value) c.args.texts.now) (typed_value c.args.typed.now) c.laws.ensures
    c.requires.typed
    one.0 one.2 c.args.shown c.requires.member c.in_ok-tree.tree c.deref.result.now (c.deref.ensures.value ∙ one.1.bytes)
    (put_over ((goal.Format-dyn g (c.args.format.now.vtable, c.args.format.now.value)).means c.args.format.now.value)
    (map (λ b. (goal.TextLens-dyn g (b.vtable, b.value)).meaning b.value) c.args.texts.now) (typed_value c.args.typed.now) c.laws.ensures
    c.requires.typed
    one.0 one.2 c.args.shown c.requires.member c.args.self.kept c.in_ok-tree.tree one.1.kept c.in_ok-tree.ensures)

pub returns : goal.returns
returns g c = λ r base replica.
    closes ((goal.Format-dyn g (c.args.format.now.vtable, c.args.format.now.value)).means c.args.format.now.value)
    (map (λ b. (goal.TextLens-dyn g (b.vtable, b.value)).meaning b.value) c.args.texts.now) (typed_value c.args.typed.now) c.laws.ensures
    c.requires.typed
    r replica c.args.shown c.requires.member c.in_ok-tree.tree c.deref.result.now c.write-made.result (c.deref.ensures.value ∙ base.bytes)
    (put_over ((goal.Format-dyn g (c.args.format.now.vtable, c.args.format.now.value)).means c.args.format.now.value)
    (map (λ b. (goal.TextLens-dyn g (b.vtable, b.value)).meaning b.value) c.args.texts.now) (typed_value c.args.typed.now) c.laws.ensures
    c.requires.typed
    r replica c.args.shown c.requires.member c.args.self.kept c.in_ok-tree.tree base.kept c.in_ok-tree.ensures) c.write-made.ensures

pub returns-then-is_kept : goal.returns-then-is_kept
returns-then-is_kept g c = λ r base replica.
    stays_behind ((goal.Format-dyn g (c.args.format.now.vtable, c.args.format.now.value)).means c.args.format.now.value)
    (map (λ b. (goal.TextLens-dyn g (b.vtable, b.value)).meaning b.value) c.args.texts.now) (typed_value c.args.typed.now) c.laws.ensures
    c.requires.typed
    r replica c.args.shown c.requires.member c.args.self.bytes.items base.bytes
    (kept_alike ((goal.Format-dyn g (c.args.format.now.vtable, c.args.format.now.value)).means c.args.format.now.value)
    (map (λ b. (goal.TextLens-dyn g (b.vtable, b.value)).meaning b.value) c.args.texts.now) (typed_value c.args.typed.now) c.laws.ensures
    c.requires.typed
    r replica c.args.shown c.requires.member c.args.self.kept base.kept (c.is_kept.ensures c.if-is_kept.true))
