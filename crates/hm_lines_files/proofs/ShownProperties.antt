-- The properties that options show are some of those that may be shown.
use Rattle.std.proofs.Common.{◌≢◌, Bool, true, false, cond, T, List, [], ◌∷◌, filter}
use Rattle.std.specs.Prelude.{All}
use Rattle.std.specs.Ordering.{is_lt}
use Rattle.std.proofs.lemmas.List.Elements.{All-filter}
use Rattle.hm_tree.specs.Names.{Name, name_cmp}
use Rattle.hm_tree.specs.Nodes.{are_edges, below_all, edges_head, edges_below, edges_tail, edges_cons, both, first, second}
use Rattle.hm_schema.specs.Values.{OptionsValue}
use Rattle.hm_lines.specs.Content.{IsWord}
use Rattle.hm_book_cards.specs.Cards.{Shown}
use Rattle.hm_lines_cards.specs.Lines.{IsCapital, AreProperties}
use Rattle.hm_lines_files.specs.Forms.{shown_by}

module _ {X : Type 0} (test : Name × X → Bool) where
  below_kept : (k : Name) (es : List (Name × X)) → T (below_all k es) → T (below_all k (filter test es))
  below_kept k [] h = tt
  below_kept k (e ∷ es) h = go (test e) (below_kept k es (second (is_lt (name_cmp k e.0)) _ h))
    where
      go : (b : Bool) → T (below_all k (filter test es)) → T (below_all k (cond b (e ∷ filter test es) (filter test es)))
      go true rest = both _ _ (first _ _ h) rest
      go false rest = rest

  -- some of the edges of a node are edges
  pub edges_kept : (es : List (Name × X)) → T (are_edges es) → T (are_edges (filter test es))
  edges_kept [] h = h
  edges_kept (e ∷ es) h = go (test e) (edges_kept es (edges_tail e es h))
    where
      go : (b : Bool) → T (are_edges (filter test es)) → T (are_edges (cond b (e ∷ filter test es) (filter test es)))
      go true rest = edges_cons e (filter test es) (edges_head e es h) (below_kept e.0 es (edges_below e es h)) rest
      go false rest = rest

module _ (properties : Shown) (o : OptionsValue) where
  pub shown_edges : T (are_edges properties) → T (are_edges (shown_by properties o))
  shown_edges names = edges_kept _ properties names

  pub shown_properties : AreProperties properties → AreProperties (shown_by properties o)
  shown_properties are = record {
    names = shown_edges are.names;
    words = All-filter _ (λ (p : Name × Bool). IsWord p.0) properties are.words;
    capitals = All-filter _ (λ (p : Name × Bool). All IsCapital p.0) properties are.capitals;
  }

  pub shown_apart : (key : Name) → All (λ (p : Name × Bool). p.0 ≢ key) properties → All (λ (p : Name × Bool). p.0 ≢ key) (shown_by properties o)
  shown_apart key apart = All-filter _ (λ (p : Name × Bool). p.0 ≢ key) properties apart
