use Rattle.std.proofs.Common.{rules, ◌≡◌, ℕ, ◌<◌, Bool, ◌||◌, ◌++◌, cond, None, [], ◌∷◌, map, take, length, slice_get, Some, sym, ap, ◌∙◌}
use Rattle.std.proofs.lemmas.List.{map-append}
use Rattle.std.proofs.lemmas.Option.{get_or_from_slice_get}
use Rattle.hm_schema.specs.declared.node.NodeId.{NodeId}
use Rattle.hm_types_table.specs.Classes.{left, other_ends}
use Rattle.hm_types_table.proofs.Places.{there}
use Rattle.hm_types_table.proofs.Left.{left_taken, left_skipped, left_whole}
use Rattle.hm_types_table.proofs.edges.edges_left.Goals as goal
use Rattle.hm_types_table.proofs.edges.edges_left.Goals.{then-is_left+in_ok-push, else-is_left}

pub loop-place-preserved : goal.loop-place-preserved
loop-place-preserved c =
    let all = c.args.outline.now.lets_in in
    let bs = c.args.outline.now.standing.items in
    let js = c.args.next.now in
    let i = c.loop-place.place in
    let lt : i < length js = search rules in
    let place : NodeId → ℕ = λ j. j.place in
    let same : (b : Bool) → slice_get bs i ≡ Some b → c.is_left.result ≡ (all || b) =
    λ b e. c.is_left.ensures b (ap (λ l. slice_get l i) c.deref.ensures.value ∙ e) in
    elim c.if-is_left.branch [
      | then-is_left+in_ok-push w ↦
          let item = there js i lt in
          let root : NodeId = record { place = 0 } in
          ap (λ v. v.items) w.edges-is ∙ w.in_ok-push.ensures.items
          ∙ (λ t. c.loop-place.invariant t ++ (get_or_from_slice_get js i item.0 root item.1 t).place ∷ [])
          ∙ sym (map-append place (left all (take i bs) (take i js)) (item.0 ∷ []))
          ∙ sym (ap (map place) (left_taken all bs js i c.is_left.result same c.requires lt item.0 item.1 w.if-is_left.true))
      | else-is_left w ↦
          ap (λ v. v.items) w.edges-is ∙ c.loop-place.invariant
          ∙ sym (ap (map place) (left_skipped all bs js i c.is_left.result same c.requires lt w.if-is_left.false))
    ]

pub returns : goal.returns
returns c =
    let all = c.args.outline.now.lets_in in
    let bs = c.args.outline.now.standing.items in
    let js = c.args.next.now in
    let place : NodeId → ℕ = λ j. j.place in
    c.in_ok-push_other.ensures ∙ ap (λ l. l ++ map place (other_ends (cond all c.args.other None)))
    (c.loop-place.invariant ∙ ap (map place) (left_whole all bs js c.loop-place.place (search rules) c.requires))
    ∙ sym (map-append place (left all bs js) (other_ends (cond all c.args.other None)))
