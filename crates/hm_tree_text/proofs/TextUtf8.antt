-- The text of a tree, and that of an archive, is UTF-8.
use Rattle.std.proofs.Common.{Bool, true, false, T, Some, None, refl}
use Rattle.std.specs.Str.{IsUtf8}
use Rattle.std.proofs.lemmas.Str.{IsUtf8-nil, IsUtf8-append}
use Rattle.hm_tree.specs.Nodes.{Shape, bare, mark, edge, is_node, leads, first, second, Tree}
use Rattle.hm_tree.specs.Archives.{Archive}
use Rattle.hm_tree_spelling.specs.Spelling.{spelled}
use Rattle.hm_tree.proofs.Texts.{ascii_test, text_tested}
use Rattle.hm_tree_spelling.proofs.SpelledText.{spelled_utf8}
use Rattle.hm_tree_text.specs.Text.{Position, whole, below, further, none, exclaimed, before, text, line_feed, tree_text, archive_text}

none_utf8 : (p : Position) → IsUtf8 (none p)
none_utf8 whole = text_tested _ (ascii_test (none whole) refl)
none_utf8 below = IsUtf8-nil
none_utf8 further = text_tested _ (ascii_test (none further) refl)

exclaimed_utf8 : (p : Position) → IsUtf8 (exclaimed p)
exclaimed_utf8 whole = text_tested _ (ascii_test (exclaimed whole) refl)
exclaimed_utf8 below = text_tested _ (ascii_test (exclaimed below) refl)
exclaimed_utf8 further = text_tested _ (ascii_test (exclaimed further) refl)

before_utf8 : (p : Position) → IsUtf8 (before p)
before_utf8 whole = text_tested _ (ascii_test (before whole) refl)
before_utf8 below = text_tested _ (ascii_test (before below) refl)
before_utf8 further = text_tested _ (ascii_test (before further) refl)

text_utf8 : (m w : Bool) (p : Position) (s : Shape) → T (is_node m w s) → IsUtf8 (text p s)
text_utf8 m w p bare h = none_utf8 p
text_utf8 m w p mark h = exclaimed_utf8 p
text_utf8 m w p (edge n c r) h =
    let name = spelled_utf8 n (text_tested n (first _ _ (first (leads n r) _ h))) in
    let child = text_utf8 m true below c (first (is_node m true c) _ (second (leads n r) _ h)) in
    let rest = text_utf8 m false further r (second (is_node m true c) _ (second (leads n r) _ h)) in
    IsUtf8-append (before p) _ (before_utf8 p) (IsUtf8-append (spelled n) _ name (IsUtf8-append (text below c) (text further r) child rest))

feed_utf8 : IsUtf8 line_feed
feed_utf8 = text_tested _ (ascii_test line_feed refl)

pub tree_text_utf8 : (t : Tree) → IsUtf8 (tree_text t)
tree_text_utf8 t = IsUtf8-append (text whole t.shape) line_feed (text_utf8 false true whole t.shape t.sound) feed_utf8

pub archive_text_utf8 : (o : Archive) → IsUtf8 (archive_text o)
archive_text_utf8 None = IsUtf8-nil
archive_text_utf8 (Some t) = IsUtf8-append (text whole t.shape) line_feed (text_utf8 true true whole t.shape t.sound) feed_utf8
