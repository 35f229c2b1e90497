-- All bytes are read as bookmarks, or refused for a fault.
use Rattle.std.proofs.Common.{◌≡◌, inl, inr, ℕ, zero, suc, true, List, [], ◌∷◌, ◌++◌, length, Option, Some, None, IsUtf8, refl, sym, ap, ◌∙◌, subst, arith}
use Rattle.std.specs.Prelude.{All, Result, Ok, Err, map, unwrap_or}
use Rattle.std.specs.Str.Lossy.{utf8_valid_len}
use Rattle.std.proofs.Math.Seq.{take-append_seam}
use Rattle.std.proofs.lemmas.List.Elements.{All-nil, All-cons, All-head, All-tail, All-take}
use Rattle.hm_facts.proofs.Lists.{behind}
use Rattle.hm_existence.specs.Existence.{IsThere}
use Rattle.hm_existence.proofs.Existence.{from_one, from_there, by_cases}
use Rattle.hm_tree.specs.Nodes.{Tree}
use Rattle.serde_json.specs.Data.{Data, array, no_items}
use Rattle.serde_json.specs.Find.{get}
use Rattle.hm_json_documents.specs.Documents.{IsSound}
use Rattle.hm_json_documents.proofs.Members.{found_sound}
use Rattle.hm_marks_schema.specs.Bookmarks.{AreBookmarks, HaveUtf8Texts}
use Rattle.hm_marks_schema.specs.Nesting.{marks_over}
use Rattle.hm_marks_schema.proofs.SomeTree.{some_tree}
use Rattle.hm_json_nodes.specs.Nodes.{is_folder, children_of, children_key, json}
use Rattle.hm_json_nodes.specs.Numbers.{below, is_node, IsFirstBad}
use Rattle.hm_json_nodes.proofs.Deep.{children_found, array_there}
use Rattle.hm_json_nodes.proofs.FirstBad.{first_bad_or_all}
use Rattle.hm_json_nodes.proofs.Listed.{below_folder}
use Rattle.hm_json_nodes.proofs.Seen.{children_there}
use Rattle.hm_json_nodes.proofs.SomeNodes.{some_nodes}
use Rattle.hm_json_nodes.proofs.Texts.{nodes_texts}
use Rattle.hm_format.specs.declared.fault.FormatFault.{FormatFault}
use Rattle.hm_format.specs.declared.fault.FormatFault.TheVariants.{NotUtf8, BadItem, TooDeep}
use Rattle.hm_json_marks.specs.Roots.{HasRoots, Place, inner, from_root, numbered, fits}
use Rattle.hm_json_marks.specs.Files.{IsRoot, IsFile, IsBookmarkFile, JsonReads}
use Rattle.hm_json_marks.proofs.FineFiles.{bar_fine, other_fine}
use Rattle.hm_json_marks.proofs.Found.{has_members, file_members}
use Rattle.hm_json_marks.proofs.RootLaws.{AllFit}

-- ---- a root whose nodes fit

nodes_fit : (ds : List Data) → AllFit (map inner ds) → All (λ d. is_node d ≡ true) ds
nodes_fit [] all = All-nil (λ d. is_node d ≡ true)
nodes_fit (d ∷ ds) all =
    All-cons (λ d. is_node d ≡ true) d ds (All-head (λ p. fits p ≡ true) (inner d) (map inner ds) all)
    (nodes_fit ds (All-tail (λ p. fits p ≡ true) (inner d) (map inner ds) all))

folder_root : (d : Data) → is_folder d ≡ true → All (λ d. is_node d ≡ true) (below d) → IsRoot d
folder_root d kind all =
    let children = unwrap_or (children_of d) no_items in
    let are = children_there d kind in
    let ms = has_members children_key d (array children) (array_there (get children_key d) children are) in
    let children_are = sym (ap children_of ms.1) ∙ are in
    let same = ap below ms.1 ∙ below_folder ms.0 children (sym (ap is_folder ms.1) ∙ kind) children_are in
    let contents = some_nodes children (subst (λ ds. All (λ d. is_node d ≡ true) ds) same all) in
    record {
      kind = kind;
      members = ms.0;
      children = children;
      contents = contents.0;
      folder = record { is = ms.1; children_are = children_are; nodes = contents.1 };
    }

root_there : (d : Data) → AllFit (from_root d) → IsRoot d
root_there d all =
    folder_root d (All-head (λ p. fits p ≡ true) (true, d) (map inner (below d)) all)
    (nodes_fit (below d) (All-tail (λ p. fits p ≡ true) (true, d) (map inner (below d)) all))

in_front : (ps qs : List Place) → AllFit (ps ++ qs) → AllFit ps
in_front ps qs all = subst AllFit (take-append_seam ps qs) (All-take (λ p. fits p ≡ true) (length ps) (ps ++ qs) all)

root_texts : (d : Data) (h : IsRoot d) → IsSound d → HaveUtf8Texts json h.contents
root_texts d h sound =
    nodes_texts h.children h.contents h.folder.nodes
    (found_sound children_key (array h.children) h.members (children_found h.members h.children h.folder.children_are) (subst IsSound h.folder.is sound))

-- ---- answers

module _ (bytes : List ℕ) where
  abbrev Answers : Result Tree FormatFault → Type 0
  Answers = JsonReads bytes

  module _ (utf8 : IsUtf8 bytes) where
    book_there : (t : Tree) → IsBookmarkFile bytes t → (o : Option ℕ) → marks_over t ≡ o → IsThere Answers
    book_there t book (Some d) over = from_one Answers (Err (TooDeep d)) (utf8, record { tree = t; book = book; over = over })
    book_there t book None over = from_one Answers (Ok t) (utf8, book, over)

    file_there : IsFile bytes → IsThere Answers
    file_there h =
        let m = file_members h.roots in
        from_there (AreBookmarks json h.bar.contents h.other.contents) Answers
        (some_tree json h.bar.contents h.other.contents (root_texts h.bar_node h.bar (bar_fine bytes utf8 h.roots m).0)
        (root_texts h.other_node h.other (other_fine bytes utf8 h.roots m).0))
        (λ t tree. book_there t (record { file = h; tree = tree }) (marks_over t) refl)

    bad_there : (bar other : Data) → HasRoots bytes bar other → (n : ℕ) → IsFirstBad fits (numbered bar other) n → IsThere Answers
    bad_there bar other roots zero bad = absurd (let place = bad.place in omega (arith, place))
    bad_there bar other roots (suc n) bad = from_one Answers (Err (BadItem (suc n))) (utf8, (bar, other, roots, bad))

    roots_there : (bar other : Data) → HasRoots bytes bar other → IsThere Answers
    roots_there bar other roots = elim (first_bad_or_all fits (numbered bar other)) [
      | inl all ↦ file_there (record {
        bar_node = bar;
        other_node = other;
        roots = roots;
        bar = root_there bar (in_front (from_root bar) (from_root other) all);
        other = root_there other (behind (λ p. fits p ≡ true) (from_root bar) (from_root other) all);
      })
      | inr bad ↦ bad_there bar other roots bad.0 bad.1
    ]

    text_there : IsThere Answers
    text_there =
        by_cases Answers ((bar : Data) × (other : Data) × HasRoots bytes bar other) (λ h. roots_there h.0 h.1 h.2)
        (λ none. from_one Answers (Err (BadItem 0)) (utf8, (λ bar other h. none (bar, other, h))))

  pub some_read : IsThere Answers
  some_read = by_cases Answers (IsUtf8 bytes) text_there (λ broken. from_one Answers (Err (NotUtf8 (utf8_valid_len bytes))) (broken, refl))
