-- One node is read after another.
use Rattle.std.proofs.Common.{◌≡◌, ℕ, ◌+◌, suc, true, false, List, [], ◌∷◌, ◌++◌, length, Vec, Global, refl, sym, ap, ◌∙◌, subst, arith, rules, append-nil}
use Rattle.std.proofs.lemmas.List.{length-append}
use Rattle.std.proofs.lemmas.List.Elements.{All-cons, All-nil}
use Rattle.std.proofs.lemmas.Bool.{or_right}
use Rattle.hm_tree.specs.Cleaned.{cleaned}
use Rattle.hm_tree.specs.Names.{Name}
use Rattle.serde_json.specs.Data.{Data, object, Items, no_items, item}
use Rattle.hm_marks.specs.Contents.{nothing, link, folder, a_link, a_folder}
use Rattle.hm_marks_trees.specs.Nodes as trees
use Rattle.hm_marks_trees.specs.Nodes.{Plain, PlainItem, in_front, seen, view}
use Rattle.hm_marks_trees.specs.declared.node.Node.{Node, the_lemmas}
use Rattle.hm_marks_trees.proofs.Items.{view_folder}
use Rattle.hm_marks_trees.specs.declared.node.Node.TheVariants.{Link, Folder}
use Rattle.hm_json_nodes.specs.Nodes.{Contents, AreNodes, no_nodes, a_link_node, a_folder_node, emptied, json, name_at, name_key, url_key}
use Rattle.hm_json_nodes.specs.Numbers.{listed, below, is_node, IsFirstBad}
use Rattle.hm_json_nodes.specs.Reading.{AreRead, IsMisfit}
use Rattle.hm_json_nodes.proofs.Filled.{name_filled}
use Rattle.hm_json_nodes.proofs.Seen.{IsALink, IsAFolder}
use Rattle.hm_json_nodes.proofs.Listed.{below_folder}
use Rattle.hm_json_nodes.proofs.FirstBad.{bad_first, bad_followed, bad_behind}
use Rattle.hm_json_nodes.proofs.EachNode.{below_link, all_nodes}

pub none_read : (n : ℕ) → AreRead no_items n n []
none_read n = record { contents = nothing; are = no_nodes; show = refl; count = omega arith }

-- ---- one node

view_link : (k n : Name) → view (Link k n) ≡ a_link (k, n)
view_link k n = search (rules, the_lemmas)

pub link_read : (d : Data) (n a : List ℕ) (from to : ℕ) → IsALink d n a → to ≡ from + 1 → AreRead (item d no_items) from to (Link (cleaned n) (cleaned a) ∷ [])
link_read d n a from to h one =
    let ms = h.members in
    subst (λ d. AreRead (item d no_items) from to (Link (cleaned n) (cleaned a) ∷ [])) (sym h.is)
    (record {
      contents = link ms nothing;
      are = a_link_node h.kind no_nodes;
      show = ap (λ i. in_front i nothing) (view_link (cleaned n) (cleaned a)) ∙ (λ i. link (cleaned (h.name i), cleaned (h.address i)) nothing);
      count = one ∙ ap (λ (l : List Data). from + suc (length (l ++ []))) (sym (below_link ms h.kind));
    })

pub folder_read : (d : Data) (n : List ℕ) (children : Items) (from to : ℕ) (nodes : Vec Node Global) → IsAFolder d n children
    → AreRead children (from + 1) to nodes.items → AreRead (item d no_items) from to (Folder (cleaned n) nodes ∷ [])
folder_read d n children from to nodes h inner =
    let ms = h.members in
    subst (λ d. AreRead (item d no_items) from to (Folder (cleaned n) nodes ∷ [])) (sym h.is)
    (record {
      contents = folder (emptied ms) inner.contents nothing;
      are = a_folder_node h.kind h.children_are inner.are no_nodes;
      show = ap (λ i. in_front i nothing) (view_folder (cleaned n) nodes) ∙ (λ i. folder ((ap cleaned h.name ∙ sym (name_filled no_items ms)) i) (inner.show i) nothing);
      count =
          let many = ap length (append-nil (below (object ms)) ∙ below_folder ms children h.kind h.children_are) in
          let all = inner.count in omega (arith, many, all);
    })

-- ---- one in front of others

in_front_of : (i : PlainItem) (rest : Plain) (c : Contents) → in_front i nothing ≡ seen json c → (d : Data) → AreNodes (item d no_items) c
    → (ds : Items) (more : Contents) → AreNodes ds more → rest ≡ seen json more → (all : Contents) × (AreNodes (item d ds) all × (in_front i rest ≡ seen json all))
in_front_of i rest _ e _ (a_link_node {ms = ms} kind no_nodes) ds more are also =
    (link ms more, (a_link_node kind are, front_link i e))
  where
    front_link : (i : PlainItem) → in_front i nothing ≡ link (name_at name_key ms, name_at url_key ms) nothing
        → in_front i rest ≡ link (name_at name_key ms, name_at url_key ms) (seen json more)
    front_link (a_link l) e = cc
    front_link (a_folder k inside) e = absurd cc
in_front_of i rest _ e _ (a_folder_node {ms = ms} {inside = inside} kind children within no_nodes) ds more are also =
    (folder (emptied ms) inside more, (a_folder_node kind children within are, front_folder i e))
  where
    front_folder : (i : PlainItem) → in_front i nothing ≡ folder (name_at name_key (emptied ms)) (seen json inside) nothing
        → in_front i rest ≡ folder (name_at name_key (emptied ms)) (seen json inside) (seen json more)
    front_folder (a_link l) e = absurd cc
    front_folder (a_folder k c) e = cc

pub read_more : (d : Data) (ds : Items) (from next to : ℕ) (node : Node) (nodes : List Node) → AreRead (item d no_items) from next (node ∷ [])
    → AreRead ds next to nodes → AreRead (item d ds) from to (node ∷ nodes)
read_more d ds from next to node nodes one others =
    let all = in_front_of (view node) (trees.contents nodes) one.contents one.show d one.are ds others.contents others.are others.show in
    record {
      contents = all.0;
      are = all.1.0;
      show = all.1.1;
      count =
          let here = one.count in
          let many = ap length (append-nil (below d)) in
          let after = others.count in
          let sum = length-append (below d) (listed ds) in omega (arith, here, many, after, sum);
    }

-- ---- misfits

pub misfit_here : (d : Data) (from : ℕ) → is_node d ≡ false → IsMisfit (listed (item d no_items)) from (from + 1)
misfit_here d from isnt = record { place = 1; first = bad_first is_node d (below d ++ []) isnt; is = refl }

pub misfit_inside : (d : Data) (n : List ℕ) (children : Items) (from number : ℕ) → IsAFolder d n children → IsMisfit (listed children) (from + 1) number
    → IsMisfit (listed (item d no_items)) from number
misfit_inside d n children from number h m =
    let ms = h.members in
    let are : object ms ∷ (listed children ++ []) ≡ listed (item (object ms) no_items) =
    ap (λ (l : List Data). object ms ∷ (l ++ [])) (sym (below_folder ms children h.kind h.children_are)) in
    subst (λ d. IsMisfit (listed (item d no_items)) from number) (sym h.is)
    (record {
      place = 1 + m.place;
      first =
          subst (λ l. IsFirstBad is_node l (1 + m.place)) are
          (bad_behind is_node (object ms ∷ []) (listed children ++ []) m.place
          (All-cons (λ d. is_node d ≡ true) (object ms) [] (or_right _ _ h.kind) (All-nil (λ d. is_node d ≡ true)))
          (bad_followed is_node (listed children) [] m.place m.first));
      is = let is = m.is in omega (arith, is);
    })

pub misfit_first : (d : Data) (ds : Items) (from number : ℕ) → IsMisfit (listed (item d no_items)) from number → IsMisfit (listed (item d ds)) from number
misfit_first d ds from number m =
    record {
      place = m.place;
      first =
          subst (λ l. IsFirstBad is_node l m.place) (ap (λ (l : List Data). d ∷ (l ++ listed ds)) (append-nil (below d)))
          (bad_followed is_node (listed (item d no_items)) (listed ds) m.place m.first);
      is = m.is;
    }

pub misfit_later : (d : Data) (ds : Items) (from next number : ℕ) (node : Node) → AreRead (item d no_items) from next (node ∷ [])
    → IsMisfit (listed ds) next number → IsMisfit (listed (item d ds)) from number
misfit_later d ds from next number node one m =
    record {
      place = length (listed (item d no_items)) + m.place;
      first =
          subst (λ l. IsFirstBad is_node l (length (listed (item d no_items)) + m.place)) (ap (λ (l : List Data). d ∷ (l ++ listed ds)) (append-nil (below d)))
          (bad_behind is_node (listed (item d no_items)) (listed ds) m.place (all_nodes (item d no_items) one.contents one.are) m.first);
      is =
          let here = one.count in
          let place = m.is in omega (arith, here, place);
    }
