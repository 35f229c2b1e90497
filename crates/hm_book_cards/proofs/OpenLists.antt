-- Which trees stand at a node whose names are of a class and lead to lists.
use Rattle.std.proofs.Common.{ℕ, All, get_or, None, sym, ◌∙◌, arith}
use Rattle.std.proofs.lemmas.Option.{slice_get-get_or}
use Rattle.hm_facts.proofs.Options.{is_there}
use Rattle.hm_tree.specs.declared.class.Class.{Class}
use Rattle.hm_tree.specs.Classes.{IsInClass}
use Rattle.hm_tree.specs.Names.{Name}
use Rattle.hm_tree.specs.Nodes.{Tree, edges, below}
use Rattle.hm_tree.proofs.Sorted.{below_edge}
use Rattle.hm_schema.specs.declared.node.NodeId.{NodeId}
use Rattle.hm_schema.specs.Standing.{Stands, Alike}
use Rattle.hm_schema.proofs.NamesOf.{names_of-below, found_value}
use Rattle.hm_schema.proofs.StandingTrees.{alike_then, has_below}
use Rattle.hm_book_cards.specs.Books.{id, open_node}
use Rattle.hm_book_cards.proofs.CardLists.{Items}
use Rattle.hm_book_cards.proofs.BookTrees.{IsEntry}
use Rattle.hm_book_cards.proofs.OpenNodes.{IsOpen, open_alike}

module _ (In : NodeId → Tree → Type 0) (class : Class) (place : ℕ) (C : Tree → Type 0) (lists : Alike (In (id place)) (Items C)) where
  abbrev AreEntries : Tree → Type 0
  AreEntries t = All (IsEntry (IsInClass class) C) (edges t)

  to_entries : (t : Tree) → IsOpen In class 0 None place t → AreEntries t
  to_entries t h = λ i d lt.
      let e : Name × Tree = get_or (edges t) i d in
      let there = below_edge t i e.0 e.1 (slice_get-get_or (edges t) i d lt) in
      (h.classed e.0 (has_below t e.0 e.1 there), lists.into e.1 (h.children e.0 e.1 there))

  from_entries : (t : Tree) → AreEntries t → IsOpen In class 0 None place t
  from_entries t all =
      let entry = found_value (λ k x. IsEntry (IsInClass class) C (k, x)) (edges t) all in
      record {
        classed = λ k at. let there = is_there (below k t) (sym (names_of-below t k) ∙ at) in (entry k there.0 there.1).0;
        least_is = omega arith;
        most_is = tt;
        children = λ k x there. lists.from x (entry k x there).1;
      }

  pub open_lists : Alike (Stands In (open_node class 0 None place)) (λ t. All (IsEntry (IsInClass class) C) (edges t))
  open_lists = alike_then (open_alike In class 0 None place) (record { into = to_entries; from = from_entries })
