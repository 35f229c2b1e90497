use Rattle.std.proofs.Common.{rules, ◌≡◌, ◌<◌, length, slice_get, Some, refl}
use Rattle.std.proofs.lemmas.Option.{slice_get_read}
use Rattle.hm_types_terms.proofs.TextTypes.{types_next, lawful_next}
use Rattle.hm_types_terms.proofs.texts.text_types.Goals as goal

pub loop-text-preserved : goal.loop-text-preserved
loop-text-preserved g c =
    let xs = c.args.texts.now in
    let i = c.loop-text.text-index in
    let lt : i < length xs = search rules in
    let at : slice_get xs i ≡ Some c.text-item.result = slice_get_read xs _ i c.text-item.result refl lt c.text-item.is in
    record {
      types = types_next xs (λ b. (goal.TextLens-dyn g (b.vtable, b.value)).meaning b.value) i c.text-item.result at c.loop-text.types.items
          c.push.new.self.items c.in_ok-type_of.field-0 c.loop-text.invariant.types c.in_ok-type_of.ensures.text_type c.in_ok-push.ensures.items;
      lawful = lawful_next xs (λ b. (goal.TextLens-dyn g (b.vtable, b.value)).meaning b.value) i c.text-item.result at c.loop-text.invariant.lawful
          c.in_ok-type_of.ensures.lawful;
    }
