use Rattle.std.proofs.Common.{◌≡◌, ◌++◌, ◌∷◌, [], List, sym, ap, subst, ◌∙◌, append-nil}
use Rattle.hm_tree.specs.Names.{Name}
use Rattle.hm_tree.specs.Nodes.{Tree}
use Rattle.hm_book_cards.proofs.CardTrees.{no_edge, one_edge}
use Rattle.hm_book_cards.proofs.card.push_edge.Goals as goal

pub returns-in_ok-push : goal.returns-in_ok-push
returns-in_ok-push c =
    let made = one_edge c.args.name c.args.set c.into_names-texts.result.items c.into_names-texts.ensures.ascending c.into_names-texts.ensures.same
    c.into_names-texts.result.len c.into_names-texts.result.ok.0 (sym c.is_empty.ensures ∙ c.if-not-is_empty.true) c.in_ok-texts_tree.field-0 c.in_ok-texts_tree.ensures in
    subst (λ (es : List (Name × Tree)). c.push.new.self.items ≡ c.args.edges.now.items ++ es) (sym made)
    (subst (λ (n : Name). c.push.new.self.items ≡ c.args.edges.now.items ++ (n, c.in_ok-texts_tree.field-0) ∷ []) c.name.view_is c.in_ok-push.ensures.items)

pub returns-else-not-is_empty : goal.returns-else-not-is_empty
returns-else-not-is_empty c =
    let none = no_edge c.args.name c.args.set c.into_names-texts.result.items c.into_names-texts.ensures.ascending c.into_names-texts.ensures.same
    c.into_names-texts.result.len c.into_names-texts.result.ok.0 (sym c.is_empty.ensures ∙ c.if-not-is_empty.false) in
    sym (append-nil c.args.edges.now.items) ∙ ap (λ (es : List (Name × Tree)). c.args.edges.now.items ++ es) (sym none)
