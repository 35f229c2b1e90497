use mathlib.Core.Bool.{true≢false}
use Rattle.std.proofs.Common.{rules, ◌≡◌, true, All, length, sym, ap, subst, ◌∙◌}
use Rattle.std.specs.List.{list_any}
use Rattle.std.specs.Ordering.{eq_by_cmp}
use Rattle.std.proofs.lemmas.Option.{same_Some}
use Rattle.hm_tree.specs.Names.{name_cmp}
use Rattle.hm_types_nodes.specs.Copying.{CanCopy}
use Rattle.hm_types_views.specs.Conditions.{MayCopy}
use Rattle.hm_types_table.specs.Tables.{seat}
use Rattle.hm_types_table.proofs.BesideNames.{listed_beside}
use Rattle.hm_types_table.proofs.Sets.{no_names}
use Rattle.hm_types_views.proofs.CopiedNode.{may_can, can_may, source_found}
use Rattle.hm_types_views.proofs.copying.source.Goals.{then-not-is_empty-via-then-not-is_empty, then-not-is_empty-via-else-not-is_empty+then-not-all_may}
use Rattle.hm_types_views.proofs.copying.source.Goals as goal

pub returns-then-not-is_empty : goal.returns-then-not-is_empty
returns-then-not-is_empty c n e can =
    let k = c.at.result.0.now in
    let v = c.at.result.1.now in
    let is = same_Some (seat k v) n (sym c.at.ensures.node ∙ e) in
    let m = c.args.first.now in
    let o = c.args.second.now in
    let here : CanCopy m o (seat k v) = subst (CanCopy m o) (sym is) can in
    let listed = c.is_in-listed.ensures ∙ ap (list_any (eq_by_cmp name_cmp o)) c.deref.ensures.value
    ∙ sym (listed_beside k.names.items v.next.items o c.at.ensures.count) in
    elim c.then-not-is_empty.branch [
      | then-not-is_empty-via-then-not-is_empty w ↦
          let size : length k.twins.items ≡ 0 = ap length here.plain in
          let none : c.is_empty.result ≡ true = search rules in
          true≢false (sym none ∙ w.if-not-is_empty.true)
      | then-not-is_empty-via-else-not-is_empty+then-not-all_may w ↦
          let all = can_may (seat k v) m o c.is_in-listed.result listed here in
          let may = w.all_may.ensures.1 (subst (All (MayCopy m o c.is_in-listed.result)) (sym w.deref-else-not-is_empty.ensures.value) all) in
          true≢false (sym may ∙ w.if-not-all_may.true)
    ]

pub returns : goal.returns
returns c n e =
    let k = c.at.result.0.now in
    let v = c.at.result.1.now in
    let is = same_Some (seat k v) n (sym c.at.ensures.node ∙ e) in
    let m = c.args.first.now in
    let o = c.args.second.now in
    let listed = c.is_in-listed.ensures ∙ ap (list_any (eq_by_cmp name_cmp o)) c.deref.ensures.value
    ∙ sym (listed_beside k.names.items v.next.items o c.at.ensures.count) in
    let size : length k.twins.items ≡ 0 = search rules in
    let all = subst (All (MayCopy m o c.is_in-listed.result)) c.deref-else-not-is_empty.ensures.value (c.all_may.ensures.0 c.if-not-all_may.false) in
    let can : CanCopy m o n = subst (CanCopy m o) is (may_can (seat k v) m o c.is_in-listed.result listed (no_names k.twins.items size) all) in
    source_found c.args.table.now c.at.ensures.formed c.args.id n e m o c.child.result (c.child.ensures n e) can
