-- Nodes that are written one after another.
use Rattle.std.proofs.Common.{◌≡◌, List, [], ◌∷◌, ◌++◌, map, Option, refl, sym, ap, ◌∙◌, subst, append_assoc, append-nil}
use Rattle.std.proofs.lemmas.List.{map-append}
use Rattle.hm_tree.specs.Names.{Name, name_cmp}
use Rattle.hm_tree.specs.Classes.{IsClean}
use Rattle.hm_tree.specs.Nodes.{Tree, edges}
use Rattle.hm_book_items.specs.Items.{IsTree, added}
use Rattle.hm_book_items.specs.ItemTrees.{Lists, AreLists}
use Rattle.hm_marks.specs.Contents.{nothing, link, folder}
use Rattle.hm_marks.specs.Layouts.{items_of as entries_of}
use Rattle.hm_marks.specs.FolderTrees.{IsLinkTree, IsFolderTree}
use Rattle.hm_marks.specs.Pieces.{an_item, staying, pieces}
use Rattle.hm_marks.specs.Writing.{AreMade, made_nothing, made_link, made_folder, link_for, folder_for, inside_of}
use Rattle.serde_json.specs.Data.{Data, object, Items, no_items, item}
use Rattle.serde_json.specs.View.{view, items_of, items_view}
use Rattle.serde_json.specs.declared.value.Value.{Value}
use Rattle.hm_json_nodes.specs.Nodes.{json, Contents, filled, spelled}
use Rattle.hm_json_nodes.specs.Anew.{OldItem, Piece, onto, Spell, IsNodeAnew, AreSpelledAnew, Adds}

onto-append : (es fs : List Data) (ds : Items) → onto (es ++ fs) ds ≡ onto es (onto fs ds)
onto-append [] fs ds = refl
onto-append (e ∷ es) fs ds = ap (item e) (onto-append es fs ds)

spell_append : (ps qs : List Piece) (ds es : List Data) → Spell ps ds → Spell qs es → Spell (ps ++ qs) (ds ++ es)
spell_append ps qs ds es one other rs rest m =
    let behind = other rs rest m in
    let whole = one (qs ++ rs) behind.0 behind.1.0 in (
      whole.0,
      (
        subst (λ (l : List Piece). AreMade json l whole.0) (sym (append_assoc ps qs rs)) whole.1.0,
        whole.1.1 ∙ ap (onto ds) behind.1.1 ∙ sym (onto-append ds es (spelled rest)),
      ),
    )

-- ---- one node

pub link_node : (k n : Name) (o : Option OldItem) (t : Tree) (d : Data) → IsClean k → IsClean n → IsLinkTree n t → d ≡ object (link_for json k o n)
    → IsNodeAnew k o t d
link_node k n o t d clean also tree is = λ qs rest m. (
  link (link_for json k o n) rest,
  (made_link {x = (k, o, t)} clean also tree m, ap (λ d. item d (spelled rest)) (sym is)),
)

pub folder_node : (k : Name) (o : Option OldItem) (u t : Tree) (ds : Items) (d : Data) → IsClean k → IsFolderTree u t → AreSpelledAnew (inside_of json o) u ds
    → d ≡ object (filled ds (folder_for json k o)) → IsNodeAnew k o t d
folder_node k o u t ds d clean tree anew is = λ qs rest m. (
  folder (folder_for json k o) anew.contents rest,
  (
    made_folder {x = (k, o, t)} clean tree anew.anew.below anew.anew.tree anew.anew.made m,
    ap (λ d. item d (spelled rest)) (ap (λ ds. object (filled ds (folder_for json k o))) (sym anew.items_are) ∙ sym is),
  ),
)

-- ---- nodes behind others

pub adds_none : (vs : List Value) → Adds vs vs []
adds_none vs = record { added = []; are = sym (append-nil (map view vs)); spell = λ qs rest m. (rest, (m, refl)) }

pub adds_more : (a b c : List Value) (ps qs : List Piece) → Adds a b ps → Adds b c qs → Adds a c (ps ++ qs)
adds_more a b c ps qs one other =
    record {
      added = one.added ++ other.added;
      are = other.are ∙ ap (λ (l : List Data). l ++ other.added) one.are ∙ append_assoc (map view a) one.added other.added;
      spell = spell_append ps qs one.added other.added one.spell other.spell;
    }

pub adds_one : (old new : List Value) (v : Value) (k : Name) (o : Option OldItem) (t : Tree) → new ≡ old ++ v ∷ [] → IsNodeAnew k o t (view v)
    → Adds old new (an_item (k, o, t) ∷ [])
adds_one old new v k o t is anew = record { added = view v ∷ []; are = ap (map view) is ∙ map-append view old (v ∷ []); spell = anew }

-- ---- all of a folder

onto_none : (ds : List Data) → onto ds no_items ≡ items_of ds
onto_none [] = refl
onto_none (d ∷ ds) = ap (item d) (onto_none ds)

pub spelled_all : (all : Contents) (t : Tree) (lists : Lists) → AreLists (edges t) lists → IsTree name_cmp lists → (old new : List Value) → old ≡ []
    → Adds old new (staying json lists [] all ++ map an_item (added name_cmp (entries_of json all) lists)) → AreSpelledAnew all t (items_view new)
spelled_all all t lists below tree old new none adds =
    let made = adds.spell [] nothing made_nothing in
    record {
      contents = made.0;
      anew = record { lists = lists; below = below; tree = tree; made = subst (λ (ps : List Piece). AreMade json ps made.0) (append-nil (pieces json lists all)) made.1.0 };
      items_are = ap items_of (adds.are ∙ ap (λ (vs : List Value). map view vs ++ adds.added) none) ∙ sym (onto_none adds.added) ∙ sym made.1.1;
    }
