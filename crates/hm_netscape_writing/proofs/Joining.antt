-- What stands in a folder, one behind another: its items, and what stays of it.
use Rattle.std.proofs.Common.{◌≡◌, ℕ, List, [], ◌∷◌, ◌++◌, refl, sym, ap, ◌∙◌, append_assoc, append-nil}
use Rattle.hm_tree.specs.Names.{Name}
use Rattle.hm_book_items.specs.ItemTrees.{Lists}
use Rattle.hm_marks.specs.Contents.{nothing, link, folder, separator, Item, a_link, a_folder}
use Rattle.hm_marks.specs.Layouts.{items_of}
use Rattle.hm_marks.specs.Pieces.{a_separator, surviving, staying}
use Rattle.hm_marks.specs.Writing.{AreMade, made_nothing, made_link, made_folder, made_separator}
use Rattle.hm_marks_tokens.specs.Grammar.{Entry, Contents}
use Rattle.hm_netscape_entries.specs.Entries.{html}
use Rattle.hm_netscape_lines.specs.Behind.{joined}
use Rattle.hm_netscape_writing.specs.Added.{Piece, Before, first_of, rest_of}

pub joined_nothing : (c : Contents) → joined c nothing ≡ c
joined_nothing nothing = refl
joined_nothing (link e c) = ap (link e) (joined_nothing c)
joined_nothing (folder e inside c) = ap (folder e inside) (joined_nothing c)
joined_nothing (separator a c) = ap (separator a) (joined_nothing c)

pub joined_again : (a b c : Contents) → joined (joined a b) c ≡ joined a (joined b c)
joined_again nothing b c = refl
joined_again (link e a) b c = ap (link e) (joined_again a b c)
joined_again (folder e inside a) b c = ap (folder e inside) (joined_again a b c)
joined_again (separator s a) b c = ap (separator s) (joined_again a b c)

pub first_joined : (c : Contents) → joined (first_of c) (rest_of c) ≡ c
first_joined nothing = refl
first_joined (link e c) = refl
first_joined (folder e inside c) = refl
first_joined (separator a c) = refl

pub items_joined : (c d : Contents) → items_of html (joined c d) ≡ items_of html c ++ items_of html d
items_joined nothing d = refl
items_joined (link e c) d = ap (λ (xs : Before). (html.link_key e, a_link e) ∷ xs) (items_joined c d)
items_joined (folder e inside c) d = ap (λ (xs : Before). (html.folder_key e, a_folder e inside) ∷ xs) (items_joined c d)
items_joined (separator a c) d = items_joined c d

module _ (lists : Lists) (d : Contents) where
  -- an item that stands behind others, and what stands behind it
  one_more : (before : Before) (x : Name × Item Entry Entry (List ℕ)) (c : Contents)
      → staying html lists (before ++ x ∷ []) (joined c d)
      ≡ staying html lists (before ++ x ∷ []) c ++ staying html lists ((before ++ x ∷ []) ++ items_of html c) d
      → surviving html lists before x ++ staying html lists (before ++ x ∷ []) (joined c d)
      ≡ (surviving html lists before x ++ staying html lists (before ++ x ∷ []) c) ++ staying html lists (before ++ x ∷ items_of html c) d
  one_more before x c more =
      let mine = surviving html lists before x in
      let behind = staying html lists (before ++ x ∷ []) c in
      ap (λ (ps : List Piece). mine ++ ps) (more ∙ ap (λ (xs : Before). behind ++ staying html lists xs d) (append_assoc before (x ∷ []) (items_of html c)))
      ∙ sym (append_assoc mine behind (staying html lists (before ++ x ∷ items_of html c) d))

  pub staying_joined : (before : Before) (c : Contents)
      → staying html lists before (joined c d) ≡ staying html lists before c ++ staying html lists (before ++ items_of html c) d
  staying_joined before nothing = ap (λ (xs : Before). staying html lists xs d) (sym (append-nil before))
  staying_joined before (link e c) =
      let x : Name × Item Entry Entry (List ℕ) = (html.link_key e, a_link e) in one_more before x c (staying_joined (before ++ x ∷ []) c)
  staying_joined before (folder e inside c) =
      let x : Name × Item Entry Entry (List ℕ) = (html.folder_key e, a_folder e inside) in one_more before x c (staying_joined (before ++ x ∷ []) c)
  staying_joined before (separator a c) = ap (λ (ps : List Piece). a_separator a ∷ ps) (staying_joined before c)

pub made_joined : (ps qs : List Piece) (c d : Contents) → AreMade html ps c → AreMade html qs d → AreMade html (ps ++ qs) (joined c d)
made_joined _ qs _ d made_nothing more = more
made_joined _ qs _ d (made_link {x = x} {ps = ps} {rest = rest} key address tree m) more =
    made_link {x = x} key address tree (made_joined ps qs rest d m more)
made_joined _ qs _ d (made_folder {x = x} {ps = ps} {rest = rest} key tree below is_tree mine m) more =
    made_folder {x = x} key tree below is_tree mine (made_joined ps qs rest d m more)
made_joined _ qs _ d (made_separator {ps = ps} {rest = rest} m) more = made_separator (made_joined ps qs rest d m more)
