-- The bytes of what is written anew of the outermost folder for a tree are UTF-8.
use Rattle.std.proofs.Common.{ℕ, Bool, true, false, cond, List, [], ◌++◌, codes, Option, Some, None, refl, sym, subst}
use Rattle.std.specs.Prelude.{IfSome}
use Rattle.std.specs.Str.{IsUtf8, bytes_eq}
use Rattle.std.proofs.lemmas.Str.{IsUtf8-nil, IsUtf8-append}
use Rattle.hm_tree.specs.Names.{Name, name_cmp}
use Rattle.hm_tree.specs.Nodes.{Tree, edges, empty}
use Rattle.hm_tree.proofs.Sorted.{name_total, name_one}
use Rattle.hm_book_items.specs.Items.{Each}
use Rattle.hm_book_items.specs.ItemTrees.{Lists, AreLists}
use Rattle.hm_book_items.proofs.Fitting.{all_fit}
use Rattle.hm_marks.specs.Contents.{nothing, link, folder, separator, Item, a_link, a_folder}
use Rattle.hm_marks.specs.Layouts.{items_of, AreSound}
use Rattle.hm_marks.specs.Pieces.{NewItem, Piece, new_items, staying, pieces}
use Rattle.hm_marks.specs.Writing.{link_for, folder_for, inside_of, AreMade, made_nothing, made_link, made_folder, made_separator, AreWrittenAnew}
use Rattle.hm_marks.proofs.Pieces.{pieces_rewritten}
use Rattle.hm_marks.proofs.Sound.{anew_sound}
use Rattle.hm_marks_schema.proofs.Utf8Keys.{word_utf8, edge_utf8, keys_utf8}
use Rattle.hm_marks_tokens.specs.Entities.{escaped}
use Rattle.hm_marks_tokens.specs.Grammar.{Entry, Contents}
use Rattle.hm_marks_tokens.proofs.Utf8.{escaped_utf8}
use Rattle.hm_netscape_entries.specs.Entries.{html, address_in, readdressed, IsEntry, IsLinkEntry, IsSameLink, MayStand}
use Rattle.hm_netscape_entries.specs.Next.{IsUtf8Entry}
use Rattle.hm_netscape_entries.specs.Toolbars.{bar_of, other_of}
use Rattle.hm_netscape_entries.proofs.Layouts.{html_layout}
use Rattle.hm_netscape_files.specs.Anew.{in_front_of_bar, bar_entry, new_bar, IsAnew}
use Rattle.hm_netscape_files.proofs.AddressTexts.{with_address_text}
use Rattle.hm_netscape_files.proofs.BarParts.{bar_holds, other_holds, with_holds}
use Rattle.hm_netscape_files.proofs.EntryTexts.{HaveUtf8Bytes}

abbrev OldItem : Type 0
OldItem = Item Entry Entry (List ℕ)

-- ---- pieces

abbrev ItemIsUtf8 : OldItem → Type 0
ItemIsUtf8 (a_link e) = IsUtf8Entry e
ItemIsUtf8 (a_folder e inside) = IsUtf8Entry e × HaveUtf8Bytes inside

-- the keys of items are UTF-8, and so are the bytes of what survives of them
abbrev ItemsAreUtf8 : List (NewItem Entry Entry (List ℕ)) → Type 0
ItemsAreUtf8 xs = Each name_cmp (λ (x : NewItem Entry Entry (List ℕ)). IsUtf8 x.0 × IfSome x.1 ItemIsUtf8) xs

old_items : (c : Contents) → HaveUtf8Bytes c → Each name_cmp (λ (x : Name × OldItem). ItemIsUtf8 x.1) (items_of html c)
old_items nothing h = tt
old_items (link e c) h = (h.0, old_items c h.1)
old_items (folder e inside c) h = ((h.0, h.1), old_items c h.2)
old_items (separator a c) h = old_items c h.1

pieces_texts : (old : Contents) (t : Tree) (lists : Lists) → AreLists (edges t) lists → HaveUtf8Bytes old → ItemsAreUtf8 (new_items (pieces html lists old))
pieces_texts old t lists below h =
    all_fit name_cmp name_total name_one (λ k t. IsUtf8 k) (λ k i. ItemIsUtf8 i) (items_of html old) lists (new_items (pieces html lists old))
    (keys_utf8 t lists below) (old_items old h) (pieces_rewritten html lists old)

-- ---- one item

new_link_text : (k a : Name) → IsUtf8 k → IsUtf8 a → IsUtf8Entry (html.new_link k a)
new_link_text k a key address =
    record {
      attributes =
          IsUtf8-append (codes " HREF=\"") (escaped a ++ codes "\"") (word_utf8 (codes " HREF=\"") refl)
          (IsUtf8-append (escaped a) (codes "\"") (escaped_utf8 a address) (word_utf8 (codes "\"") refl));
      title = escaped_utf8 k key;
      note = tt;
    }

addressed_text : (e : Entry) (a : Name) (t : Bool) → IsUtf8Entry e → IsUtf8 a → IsUtf8Entry (cond t e (readdressed e a))
addressed_text e a true h address = h
addressed_text e a false h address =
    record { attributes = with_address_text (escaped a) (escaped_utf8 a address) e.attributes h.attributes; title = h.title; note = h.note }

link_text : (k a : Name) (o : Option OldItem) → IsUtf8 k → IsUtf8 a → IfSome o ItemIsUtf8 → IsUtf8Entry (link_for html k o a)
link_text k a None key address h = new_link_text k a key address
link_text k a (Some (a_link e)) key address h = addressed_text e a (bytes_eq (address_in e.attributes) a) h address
link_text k a (Some (a_folder e inside)) key address h = new_link_text k a key address

new_folder_text : (k : Name) → IsUtf8 k → IsUtf8Entry (html.new_folder k)
new_folder_text k key = record { attributes = IsUtf8-nil; title = escaped_utf8 k key; note = tt }

folder_text : (k : Name) (o : Option OldItem) → IsUtf8 k → IfSome o ItemIsUtf8 → IsUtf8Entry (folder_for html k o)
folder_text k None key h = new_folder_text k key
folder_text k (Some (a_link e)) key h = new_folder_text k key
folder_text k (Some (a_folder e inside)) key h = h.0

inside_text : (o : Option OldItem) → IfSome o ItemIsUtf8 → HaveUtf8Bytes (inside_of html o)
inside_text None h = tt
inside_text (Some (a_link e)) h = tt
inside_text (Some (a_folder e inside)) h = h.1

-- ---- what is made of pieces

-- separators are among what stood before
abbrev HaveUtf8Rules : Contents → Type 0
HaveUtf8Rules c = AreSound IsLinkEntry IsEntry IsUtf8 c

made_texts : (ps : List (Piece Entry Entry (List ℕ))) (new : Contents) → AreMade html ps new → ItemsAreUtf8 (new_items ps) → HaveUtf8Rules new → HaveUtf8Bytes new
made_texts _ _ made_nothing h rules = tt
made_texts _ _ (made_link {x = x} {n = a} {ps = ps} {rest = rest} key address tree m) h rules =
    (link_text x.0 a x.1 h.0.0 (edge_utf8 a empty tree.value tree.text) h.0.1, made_texts ps rest m h.1 rules.1)
made_texts _ _ (made_folder {x = x} {u = u} {lists = lists} {ps = ps} {inside = inside} {rest = rest} key tree below is_tree mine m) h rules =
    let old = inside_of html x.1 in (
      folder_text x.0 x.1 h.0.0 h.0.1,
      made_texts (pieces html lists old) inside mine (pieces_texts old u lists below (inside_text x.1 h.0.1)) rules.1,
      made_texts ps rest m h.1 rules.2,
    )
made_texts _ _ (made_separator {ps = ps} {rest = rest} m) h rules = (rules.0, made_texts ps rest m h rules.1)

old_rules : (c : Contents) → MayStand c → HaveUtf8Bytes c → HaveUtf8Rules c
old_rules nothing sound h = tt
old_rules (link e c) sound h = (sound.0, old_rules c sound.1 h.1)
old_rules (folder e inside c) sound h = (sound.0, old_rules inside sound.1 h.1, old_rules c sound.2 h.2)
old_rules (separator a c) sound h = (h.0, old_rules c sound.1 h.1)

folder_anew : (old : Contents) (t : Tree) (new : Contents) → HaveUtf8Rules old → HaveUtf8Bytes old → AreWrittenAnew html old t new → HaveUtf8Bytes new
folder_anew old t new rules h is =
    made_texts (pieces html is.lists old) new is.made (pieces_texts old t is.lists is.below h)
    (anew_sound html IsLinkEntry IsEntry IsUtf8 IsSameLink html_layout old t new rules is)

-- ---- the outermost folder

new_bar_text : IsUtf8Entry new_bar
new_bar_text =
    record {
      attributes = word_utf8 (codes " PERSONAL_TOOLBAR_FOLDER=\"true\"") refl;
      title = escaped_utf8 (codes "Bookmarks bar") (word_utf8 (codes "Bookmarks bar") refl);
      note = tt;
    }

pub anew_texts : (old : Contents) (t : Tree) (new : Contents) → MayStand old → HaveUtf8Bytes old → IsAnew old t new → HaveUtf8Bytes new
anew_texts old t new sound h is =
    let rules = old_rules old sound h in
    let bar = folder_anew (bar_of old) is.made.bar_tree is.bar (bar_holds IsLinkEntry IsEntry IsUtf8 old rules) (bar_holds IsUtf8Entry IsUtf8Entry IsUtf8 old h) is.made.bar in
    let other = folder_anew (other_of old) is.made.other_tree is.other (other_holds IsLinkEntry IsEntry IsUtf8 old rules) (other_holds IsUtf8Entry IsUtf8Entry IsUtf8 old h) is.made.other in
    subst HaveUtf8Bytes (sym is.new_is)
    (with_holds IsUtf8Entry IsUtf8Entry IsUtf8 old (bar_entry old) (staying html is.made.other.lists [] (in_front_of_bar old)) is.bar is.other new_bar_text h refl bar other)
