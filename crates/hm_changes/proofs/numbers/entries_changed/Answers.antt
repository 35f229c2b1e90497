use Rattle.std.proofs.Common.{◌≡◌, ap, ◌∙◌, length, rules}
use Rattle.std.specs.List.{dedup}
use Rattle.std.specs.Ordering.{eq_by_cmp}
use Rattle.std.proofs.lemmas.Fn.{dedup_same}
use Rattle.hm_tree.specs.Names.{name_cmp}
use Rattle.hm_changes.proofs.Runs.{tied_there, once_each}
use Rattle.hm_changes.proofs.numbers.entries_changed.Goals as goal

pub returns : goal.returns
returns c =
    let once : c.dedup_by.new.self.items ≡ dedup tied_there c.in_ok-names.names.items =
    dedup_same _ tied_there _ (λ x y b f' x' y' called. search rules) _ _ c.dedup_by.ensures.filtered in
    let counted : c.len.result ≡ length c.dedup_by.new.self.items = search rules in
    counted ∙ ap length once ∙ once_each c.in_ok-names.names.items ∙ ap (λ l. length (dedup (eq_by_cmp name_cmp) l)) c.in_ok-names.ensures
