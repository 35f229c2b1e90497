-- The nodes of the two roots, read one after another.
use Rattle.std.proofs.Common.{◌≡◌, ◌+◌, ℕ, true, false, List, [], ◌∷◌, length, map, refl, sym, ap, ◌∙◌, subst, arith}
use Rattle.std.specs.Prelude.{All}
use Rattle.std.proofs.lemmas.List.{length-map, map-append}
use Rattle.std.proofs.lemmas.List.Elements.{All-nil, All-cons, All-head, All-tail}
use Rattle.serde_json.specs.Data.{Data, object, Items}
use Rattle.hm_marks_trees.specs.declared.node.Node.{Node}
use Rattle.hm_json_nodes.specs.Nodes.{is_folder}
use Rattle.hm_json_nodes.specs.Numbers.{listed, below, is_node, IsFirstBad}
use Rattle.hm_json_nodes.specs.Reading.{AreRead, IsMisfit}
use Rattle.hm_json_nodes.proofs.Seen.{IsALink, IsAFolder}
use Rattle.hm_json_nodes.proofs.Listed.{below_folder}
use Rattle.hm_json_nodes.proofs.EachNode.{link_no_folder, all_nodes}
use Rattle.hm_json_nodes.proofs.FirstBad.{bad_first, bad_followed, bad_behind}
use Rattle.std.proofs.lemmas.Bool.{or_parts}
use Rattle.hm_json_marks.specs.Roots.{inner, from_root, numbered, fits}
use Rattle.hm_json_marks.specs.Reading.{IsRootRead, IsRootCounted, IsMisfitIn}

-- ---- the first place that doesn't fit, below a root

places_good : (ds : List Data) → All (λ d. is_node d ≡ true) ds → All (λ p. fits p ≡ true) (map inner ds)
places_good [] good = All-nil (λ p. fits p ≡ true)
places_good (d ∷ ds) good =
    All-cons (λ p. fits p ≡ true) (inner d) (map inner ds) (All-head (λ d. is_node d ≡ true) d ds good)
    (places_good ds (All-tail (λ d. is_node d ≡ true) d ds good))

first_inner : (ds : List Data) (n : ℕ) → IsFirstBad is_node ds n → IsFirstBad fits (map inner ds) n
first_inner ds n h = record {
  before = map inner h.before;
  bad = inner h.bad;
  after = map inner h.after;
  are = ap (map inner) h.are ∙ map-append inner h.before (h.bad ∷ h.after);
  good = places_good h.before h.good;
  isnt = h.isnt;
  place = h.place ∙ ap (λ n. n + 1) (sym (length-map h.before inner));
}

-- ---- one root

root_good : (d : Data) → is_folder d ≡ true → All (λ p. fits p ≡ true) ((true, d) ∷ [])
root_good d kind = All-cons (λ p. fits p ≡ true) (true, d) [] kind (All-nil (λ p. fits p ≡ true))

pub root_read : (d : Data) (n : List ℕ) (children : Items) (from to : ℕ) (nodes : List Node) → IsAFolder d n children → AreRead children (from + 1) to nodes
    → IsRootCounted d from to nodes
root_read d n children from to nodes h inside = record {
  read = record {
    root = record {
      kind = subst (λ d. is_folder d ≡ true) (sym h.is) h.kind;
      members = h.members;
      children = children;
      contents = inside.contents;
      folder = record { is = h.is; children_are = h.children_are; nodes = inside.are };
    };
    show = inside.show;
  };
  count =
      let many = ap length (ap below h.is ∙ below_folder h.members children h.kind h.children_are) in
      let places = length-map (below d) inner in
      let all = inside.count in omega (arith, many, places, all);
}

pub root_misfit : (d : Data) (n : List ℕ) (children : Items) (from number : ℕ) → IsAFolder d n children → IsMisfit (listed children) (from + 1) number
    → IsMisfitIn (from_root d) from number
root_misfit d n children from number h m = record {
  place = 1 + m.place;
  first =
      bad_behind fits ((true, d) ∷ []) (map inner (below d)) m.place (root_good d (subst (λ d. is_folder d ≡ true) (sym h.is) h.kind))
      (first_inner (below d) m.place (subst (λ l. IsFirstBad is_node l m.place) (sym (ap below h.is ∙ below_folder h.members children h.kind h.children_are)) m.first));
  is = let is = m.is in omega (arith, is);
}

pub no_root : (d : Data) (from : ℕ) → is_folder d ≡ false → IsMisfitIn (from_root d) from (from + 1)
no_root d from isnt = record { place = 1; first = bad_first fits (true, d) (map inner (below d)) isnt; is = refl }

pub link_root : (d : Data) (n a : List ℕ) → IsALink d n a → is_folder d ≡ false
link_root d n a h = subst (λ d. is_folder d ≡ false) (sym h.is) (link_no_folder (object h.members) h.kind)

pub neither_root : (d : Data) → is_node d ≡ false → is_folder d ≡ false
neither_root d isnt = (or_parts _ _ isnt).1

-- ---- both

pub bar_misfit : (bar other : Data) (number : ℕ) → IsMisfitIn (from_root bar) 0 number → IsFirstBad fits (numbered bar other) number
bar_misfit bar other number m =
    subst (IsFirstBad fits (numbered bar other)) (let is = m.is in omega (arith, is)) (bad_followed fits (from_root bar) (from_root other) m.place m.first)

root_all_good : (d : Data) (nodes : List Node) → IsRootRead d nodes → All (λ p. fits p ≡ true) (from_root d)
root_all_good d nodes r =
    let f = r.root.folder in
    let kind : is_folder (object r.root.members) ≡ true = subst (λ d. is_folder d ≡ true) f.is r.root.kind in
    All-cons (λ p. fits p ≡ true) (true, d) (map inner (below d)) r.root.kind
    (places_good (below d) (subst (All (λ d. is_node d ≡ true)) (sym (ap below f.is ∙ below_folder r.root.members r.root.children kind f.children_are))
    (all_nodes r.root.children r.root.contents f.nodes)))

pub other_misfit : (bar other : Data) (next number : ℕ) (nodes : List Node) → IsRootCounted bar 0 next nodes → IsMisfitIn (from_root other) next number
    → IsFirstBad fits (numbered bar other) number
other_misfit bar other next number nodes c m =
    subst (IsFirstBad fits (numbered bar other)) (let is = m.is in let count = c.count in omega (arith, is, count))
    (bad_behind fits (from_root bar) (from_root other) m.place (root_all_good bar nodes c.read) m.first)
