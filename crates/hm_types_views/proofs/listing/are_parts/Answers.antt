use Rattle.std.proofs.Common.{◌≡◌, [], ◌∷◌, length, get_or, sym, ap, ◌∙◌}
use mathlib.Core.Bool.{true≢false}
use Rattle.std.specs.FinSet.{from_list}
use Rattle.hm_tree.specs.Names.{name_cmp}
use Rattle.hm_tree_parts.specs.Lists.{head, tail}
use Rattle.hm_types_views.proofs.ListRead.{part_names, read_two}
use Rattle.hm_types_views.proofs.listing.are_parts.Goals as goal

pub returns-then-names-ne2 : goal.returns-then-names-ne2
returns-then-names-ne2 c = (
  λ t. absurd (true≢false (sym t)),
  λ g. absurd (c.if-names-ne2.true (ap length (part_names c.names-names.result.now c.args.names.now c.names-names.ensures.ascending c.names-names.ensures.same g))),
)

pub returns-then-is_text : goal.returns-then-is_text
returns-then-is_text c =
    let names = c.names-names.result.now in
    let first : c.index-names-0.result ≡ head = c.is_text.ensures.0 c.if-is_text.true in (
      λ t.
          let second : c.index-names-1.result ≡ tail = c.is_text-then-is_text.ensures.0 t in
          sym c.names-names.ensures.same
          ∙ ap (from_list {R = name_cmp}) (read_two names c.index-names-0.result c.index-names-1.result c.if-names-ne2.false c.index-names-0.is c.index-names-1.is)
          ∙ (λ i. from_list {R = name_cmp} (first i ∷ second i ∷ [])),
      λ g.
          let is = part_names names c.args.names.now c.names-names.ensures.ascending c.names-names.ensures.same g in
          c.is_text-then-is_text.ensures.1 (c.index-names-1.is ∙ ap (λ l. get_or l 1 c.index-names-1.result) is),
    )

pub returns-else-is_text : goal.returns-else-is_text
returns-else-is_text c = (
  λ t. absurd (true≢false (sym t ∙ c.if-is_text.false)),
  λ g.
      let is = part_names c.names-names.result.now c.args.names.now c.names-names.ensures.ascending c.names-names.ensures.same g in
      c.is_text.ensures.1 (c.index-names-0.is ∙ ap (λ l. get_or l 0 c.index-names-0.result) is),
)
