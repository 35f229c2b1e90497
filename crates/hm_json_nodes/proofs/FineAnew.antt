-- What is written anew is sound, and no deeper than what it is written over or than its folders ask for.
use Rattle.std.proofs.Common.{◌≤◌, ◌-◌, ◌+◌, ◌*◌, ℕ, Bool, true, false, cond, List, Option, Some, None, IsUtf8, refl, arith}
use Rattle.std.specs.Prelude.{IfSome}
use Rattle.std.specs.Str.{bytes_eq}
use Rattle.hm_tree.specs.Names.{Name, name_cmp}
use Rattle.hm_tree.specs.Nodes.{Tree, edges, empty}
use Rattle.hm_tree.proofs.Sorted.{name_total, name_one}
use Rattle.hm_book_items.specs.Items.{Each}
use Rattle.hm_book_items.specs.ItemTrees.{Lists, AreLists}
use Rattle.hm_book_items.proofs.Fitting.{all_fit}
use Rattle.hm_marks.specs.Contents.{nothing, link, folder, separator, a_link, a_folder}
use Rattle.hm_marks.specs.Layouts.{items_of}
use Rattle.hm_marks.specs.Pieces.{NewItem, new_items, pieces}
use Rattle.hm_marks.specs.Writing.{link_for, folder_for, inside_of, AreMade, made_nothing, made_link, made_folder, made_separator, AreWrittenAnew}
use Rattle.hm_marks.proofs.Pieces.{pieces_rewritten}
use Rattle.hm_marks_schema.specs.Nesting.{nesting}
use Rattle.hm_marks_schema.proofs.Utf8Keys.{word_utf8, edge_utf8, keys_utf8}
use Rattle.hm_json_documents.proofs.Members.{put_sound, put_depth}
use Rattle.serde_json.specs.Data.{string, array, object, Items, item, Members, members_depth}
use Rattle.hm_json_nodes.specs.Nodes.{type_key, name_key, url_key, children_key, folder_type, filled, json, Contents, spelled}
use Rattle.hm_json_nodes.specs.Anew.{OldItem, Piece}
use Rattle.hm_json_nodes.proofs.Fine.{ItemsAreFine, MembersAreFine, IsFineAt, children_utf8}

-- ---- pieces

abbrev ItemIsFine : ℕ → OldItem → Type 0
ItemIsFine n (a_link ms) = MembersAreFine n ms
ItemIsFine n (a_folder f inside) = MembersAreFine n f × IsFineAt (n - 2) inside

-- the keys of items are UTF-8, and what survives of them is fine
abbrev ItemsFit : ℕ → List (NewItem Members Members ⊥) → Type 0
ItemsFit n xs = Each name_cmp (λ (x : NewItem Members Members ⊥). IsUtf8 x.0 × IfSome x.1 (ItemIsFine n)) xs

old_fine : (n : ℕ) (c : Contents) → IsFineAt n c → Each name_cmp (λ (x : Name × OldItem). ItemIsFine n x.1) (items_of json c)
old_fine n nothing fine = tt
old_fine n (link ms rest) fine = (fine.0, old_fine n rest fine.1)
old_fine n (folder f inside rest) fine = ((fine.0, fine.1), old_fine n rest fine.2)
old_fine n (separator s rest) fine = old_fine n rest fine

pieces_fit : (n : ℕ) (old : Contents) (t : Tree) (lists : Lists) → AreLists (edges t) lists → IsFineAt n old → ItemsFit n (new_items (pieces json lists old))
pieces_fit n old t lists below fine =
    all_fit name_cmp name_total name_one (λ k t. IsUtf8 k) (λ k i. ItemIsFine n i) (items_of json old) lists (new_items (pieces json lists old))
    (keys_utf8 t lists below) (old_fine n old fine) (pieces_rewritten json lists old)

-- ---- one item

new_link_fine : (n : ℕ) (k a : Name) → IsUtf8 k → IsUtf8 a → 1 ≤ n → MembersAreFine n (json.new_link k a)
new_link_fine n k a key address lt = (
  (
    word_utf8 name_key refl,
    key,
    refl,
    (word_utf8 type_key refl, word_utf8 url_key refl, refl, (word_utf8 url_key refl, address, tt, tt)),
  ),
  omega (arith, lt),
)

addressed_fine : (n : ℕ) (ms : Members) (a : Name) (b : Bool) → MembersAreFine n ms → IsUtf8 a → 1 ≤ n → MembersAreFine n (cond b ms (json.readdressed ms a))
addressed_fine n ms a true fine address lt = fine
addressed_fine n ms a false fine address lt =
    let deep = fine.1 in
    let still = put_depth url_key (string a) ms (members_depth ms) (omega arith) (omega arith) in
    (put_sound url_key (string a) ms (word_utf8 url_key refl) address fine.0, omega (arith, deep, still))

link_fine : (n : ℕ) (k a : Name) (o : Option OldItem) → IsUtf8 k → IsUtf8 a → 1 ≤ n → IfSome o (ItemIsFine n) → MembersAreFine n (link_for json k o a)
link_fine n k a None key address lt fine = new_link_fine n k a key address lt
link_fine n k a (Some (a_link ms)) key address lt fine = addressed_fine n ms a (bytes_eq (json.address ms) a) fine address lt
link_fine n k a (Some (a_folder f inside)) key address lt fine = new_link_fine n k a key address lt

new_folder_fine : (n : ℕ) (k : Name) → IsUtf8 k → 2 ≤ n → MembersAreFine n (json.new_folder k)
new_folder_fine n k key lt = (
  (
    children_utf8,
    tt,
    refl,
    (word_utf8 name_key refl, key, refl, (word_utf8 type_key refl, word_utf8 folder_type refl, tt, tt)),
  ),
  omega (arith, lt),
)

folder_fine : (n : ℕ) (k : Name) (o : Option OldItem) → IsUtf8 k → 2 ≤ n → IfSome o (ItemIsFine n) → MembersAreFine n (folder_for json k o)
folder_fine n k None key lt fine = new_folder_fine n k key lt
folder_fine n k (Some (a_link ms)) key lt fine = new_folder_fine n k key lt
folder_fine n k (Some (a_folder f inside)) key lt fine = fine.0

inside_fine : (n : ℕ) (o : Option OldItem) → IfSome o (ItemIsFine n) → IsFineAt (n - 2) (inside_of json o)
inside_fine n None fine = tt
inside_fine n (Some (a_link ms)) fine = tt
inside_fine n (Some (a_folder f inside)) fine = fine.1

filled_fine : (n : ℕ) (ds : Items) (f : Members) → 2 ≤ n → MembersAreFine n f → ItemsAreFine (n - 2) ds → MembersAreFine n (filled ds f)
filled_fine n ds f lt fine inner =
    let deep = fine.1 in
    let within = inner.1 in
    let whole = put_depth children_key (array ds) f (n - 1) (omega (arith, lt, within)) (omega (arith, deep)) in
    (put_sound children_key (array ds) f children_utf8 inner.0 fine.0, omega (arith, lt, whole))

item_fine : (n : ℕ) (ms : Members) (ds : Items) → MembersAreFine n ms → ItemsAreFine n ds → ItemsAreFine n (item (object ms) ds)
item_fine n ms ds fine others =
    let deep = fine.1 in
    let rest = others.1 in
    ((fine.0, others.0), omega (arith, deep, rest))

-- ---- all

made_fine : (n : ℕ) (ps : List Piece) (new : Contents) → AreMade json ps new → ItemsFit n (new_items ps) → 2 * nesting new + 1 ≤ n
    → ItemsAreFine n (spelled new)
made_fine n _ _ made_nothing fit le = (tt, omega arith)
made_fine n _ _ (made_link {x = x} {n = a} {ps = ps} {rest = rest} key address tree m) fit le =
    item_fine n (link_for json x.0 x.1 a) (spelled rest)
    (link_fine n x.0 a x.1 fit.0.0 (edge_utf8 a empty tree.value tree.text) (omega (arith, le)) fit.0.1) (made_fine n ps rest m fit.1 le)
made_fine n _ _ (made_folder {x = x} {u = u} {lists = lists} {ps = ps} {inside = inside} {rest = rest} key tree below is_tree mine m) fit le =
    let old = inside_of json x.1 in
    let within = made_fine (n - 2) (pieces json lists old) inside mine (pieces_fit (n - 2) old u lists below (inside_fine n x.1 fit.0.1)) (omega (arith, le)) in
    item_fine n (filled (spelled inside) (folder_for json x.0 x.1)) (spelled rest)
    (filled_fine n (spelled inside) (folder_for json x.0 x.1) (omega (arith, le)) (folder_fine n x.0 x.1 fit.0.0 (omega (arith, le)) fit.0.1) within)
    (made_fine n ps rest m fit.1 (omega (arith, le)))
made_fine n _ _ (made_separator {s = s} m) fit le = absurd s

pub anew_fine : (n : ℕ) (old new : Contents) (t : Tree) → IsFineAt n old → AreWrittenAnew json old t new → 2 * nesting new + 1 ≤ n → ItemsAreFine n (spelled new)
anew_fine n old new t fine is le = made_fine n (pieces json is.lists old) new is.made (pieces_fit n old t is.lists is.below fine) le
