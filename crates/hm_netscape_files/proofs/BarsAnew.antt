-- What is put together with a bookmarks bar falls apart into the same.
use Rattle.std.proofs.Common.{◌≡◌, ℕ, Bool, true, false, cond, List, [], ◌∷◌, ◌++◌, map, Option, Some, None, refl, sym, ap, ◌∙◌, subst}
use Rattle.std.specs.Prelude.{slice_get, drop, length}
use Rattle.std.proofs.lemmas.List.{append_assoc}
use Rattle.std.proofs.lemmas.Option.{none-some, same_Some}
use Rattle.hm_tree.specs.Names.{Name, name_cmp}
use Rattle.hm_tree.specs.Nodes.{Tree}
use Rattle.hm_book_items.specs.Items.{of_key, below_key, survivor, fresh, added}
use Rattle.hm_book_items.specs.ItemTrees.{Lists}
use Rattle.hm_marks.specs.Contents.{nothing, link, folder, separator, Item, a_link, a_folder}
use Rattle.hm_marks.specs.Layouts.{items_of}
use Rattle.hm_marks.specs.Pieces.{NewItem, Piece, an_item, a_separator, surviving, staying, pieces}
use Rattle.hm_marks.specs.Writing.{link_for, folder_for, AreMade, made_nothing, made_link, made_folder, made_separator}
use Rattle.hm_marks_tokens.specs.Attributes.{attributes_of}
use Rattle.hm_marks_tokens.specs.Grammar.{Entry, Contents}
use Rattle.hm_netscape_entries.specs.Entries.{html}
use Rattle.hm_netscape_entries.specs.Toolbars.{is_toolbar, bar_of, other_of}
use Rattle.hm_netscape_files.specs.Anew.{in_front_of_bar, bar_entry, new_bar, put_behind, is_something, with_bar}

abbrev pub Pieces : Type 0
Pieces = List (Piece Entry Entry (List ℕ))

no_toolbar : is_toolbar [] ≡ false
unfolding attributes_of
no_toolbar = refl

new_toolbar : is_toolbar new_bar.attributes ≡ true
unfolding attributes_of
new_toolbar = refl

-- ---- no piece is the bookmarks bar

-- an item from before is none
abbrev pub IsOther : Option (Item Entry Entry (List ℕ)) → Type 0
IsOther None = Unit {0}
IsOther (Some (a_link e)) = Unit {0}
IsOther (Some (a_folder e inside)) = is_toolbar e.attributes ≡ false

abbrev pub AreOthers : Pieces → Type 0
AreOthers [] = Unit {0}
AreOthers (an_item x ∷ ps) = IsOther x.1 × AreOthers ps
AreOthers (a_separator a ∷ ps) = AreOthers ps

others_append : (ps qs : Pieces) → AreOthers ps → AreOthers qs → AreOthers (ps ++ qs)
others_append [] qs a b = b
others_append (an_item x ∷ ps) qs a b = (a.0, others_append ps qs a.1 b)
others_append (a_separator s ∷ ps) qs a b = others_append ps qs a b

one_other : (k : Name) (i : Item Entry Entry (List ℕ)) (o : Option Tree) → IsOther (Some i) → AreOthers (map an_item (survivor name_cmp (k, i) o))
one_other k i None is = tt
one_other k i (Some t) is = (is, tt)

-- what stays of what stands in front of it
pub front_others : (lists : Lists) (before : List (Name × Item Entry Entry (List ℕ))) (c : Contents) → AreOthers (staying html lists before (in_front_of_bar c))
front_others lists before nothing = tt
front_others lists before (link e c) =
    let k = html.link_key e in
    others_append (surviving html lists before (k, a_link e)) (staying html lists (before ++ (k, a_link e) ∷ []) (in_front_of_bar c))
    (one_other k (a_link e) (slice_get (below_key name_cmp k lists) (length (of_key name_cmp k before))) tt)
    (front_others lists (before ++ (k, a_link e) ∷ []) c)
front_others lists before (folder e inside c) =
    go (is_toolbar e.attributes) refl (front_others lists (before ++ (html.folder_key e, a_folder e inside) ∷ []) c)
  where
    go : (t : Bool) → is_toolbar e.attributes ≡ t
        → AreOthers (staying html lists (before ++ (html.folder_key e, a_folder e inside) ∷ []) (in_front_of_bar c))
        → AreOthers (staying html lists before (cond t nothing (folder e inside (in_front_of_bar c))))
    go true is more = tt
    go false is more =
        let k = html.folder_key e in
        others_append (surviving html lists before (k, a_folder e inside)) (staying html lists (before ++ (k, a_folder e inside) ∷ []) (in_front_of_bar c))
        (one_other k (a_folder e inside) (slice_get (below_key name_cmp k lists) (length (of_key name_cmp k before))) is) more
front_others lists before (separator a c) = front_others lists before c

fresh_others : (k : Name) (ts : List Tree) → AreOthers (map an_item (fresh name_cmp k ts))
fresh_others k [] = tt
fresh_others k (t ∷ ts) = (tt, fresh_others k ts)

-- ---- it stands behind what stays of what stood in front of it

-- what stays beside it begins with what stays in front of it
front_first : (lists : Lists) (before : List (Name × Item Entry Entry (List ℕ))) (c : Contents)
    → (qs : Pieces) × (staying html lists before (other_of c) ≡ staying html lists before (in_front_of_bar c) ++ qs)
front_first lists before nothing = ([], refl)
front_first lists before (link e c) =
    let k = html.link_key e in
    let mine = surviving html lists before (k, a_link e) in
    let r = front_first lists (before ++ (k, a_link e) ∷ []) c in
    (r.0, ap (λ ps. mine ++ ps) r.1 ∙ sym (append_assoc mine (staying html lists (before ++ (k, a_link e) ∷ []) (in_front_of_bar c)) r.0))
front_first lists before (folder e inside c) =
    go (is_toolbar e.attributes) (front_first lists (before ++ (html.folder_key e, a_folder e inside) ∷ []) c)
  where
    go : (t : Bool) → (qs : Pieces) × (staying html lists (before ++ (html.folder_key e, a_folder e inside) ∷ []) (other_of c)
        ≡ staying html lists (before ++ (html.folder_key e, a_folder e inside) ∷ []) (in_front_of_bar c) ++ qs)
        → (qs : Pieces) × (staying html lists before (cond t c (folder e inside (other_of c)))
        ≡ staying html lists before (cond t nothing (folder e inside (in_front_of_bar c))) ++ qs)
    go true r = (staying html lists before c, refl)
    go false r =
        let k = html.folder_key e in
        let mine = surviving html lists before (k, a_folder e inside) in
        (r.0, ap (λ ps. mine ++ ps) r.1 ∙ sym (append_assoc mine (staying html lists (before ++ (k, a_folder e inside) ∷ []) (in_front_of_bar c)) r.0))
front_first lists before (separator a c) =
    let r = front_first lists before c in (r.0, ap (λ ps. a_separator a ∷ ps) r.1)

-- what is made of an item that isn't the bookmarks bar isn't either
pub made_other : (k : Name) (o : Option (Item Entry Entry (List ℕ))) → IsOther o → is_toolbar (folder_for html k o).attributes ≡ false
made_other k None is = no_toolbar
made_other k (Some (a_link e)) is = no_toolbar
made_other k (Some (a_folder e inside)) is = is

-- in front of it there is no other one
pub record AreApart (whole bar other : Contents) : Type 0 where
  pub bar_is : bar_of whole ≡ bar
  pub other_is : other_of whole ≡ other

put_apart : (ps qs : Pieces) (new : Contents) (e : Entry) (inside : Contents) → AreMade html (ps ++ qs) new → AreOthers ps → is_toolbar e.attributes ≡ true
    → AreApart (put_behind ps e inside new) inside new
put_apart [] qs new e inside made others is =
    record {
      bar_is = ap (λ t. cond t inside (bar_of new)) is;
      other_is = ap (λ t. cond t new (folder e inside (other_of new))) is;
    }
put_apart (an_item x ∷ ps) qs _ e inside (made_link {n = n} {rest = rest} key address tree m) others is =
    let r = put_apart ps qs rest e inside m others.1 is in record { bar_is = r.bar_is; other_is = ap (link (link_for html x.0 x.1 n)) r.other_is }
put_apart (an_item x ∷ ps) qs _ e inside (made_folder {inside = within} {rest = rest} key tree below is_tree mine m) others is =
    let r = put_apart ps qs rest e inside m others.1 is in
    let f = folder_for html x.0 x.1 in
    let other = made_other x.0 x.1 others.0 in
    let whole = put_behind ps e inside rest in
    record {
      bar_is = ap (λ t. cond t within (bar_of whole)) other ∙ r.bar_is;
      other_is = ap (λ t. cond t whole (folder f within (other_of whole))) other ∙ ap (folder f within) r.other_is;
    }
put_apart (a_separator a ∷ ps) qs _ e inside (made_separator {rest = rest} m) others is =
    let r = put_apart ps qs rest e inside m others is in record { bar_is = r.bar_is; other_is = ap (separator a) r.other_is }

none_apart : (ps : Pieces) (new : Contents) → AreMade html ps new → AreOthers ps → AreApart new nothing new
none_apart _ _ made_nothing others = record { bar_is = refl; other_is = refl }
none_apart _ _ (made_link {x = x} {n = n} {ps = ps} {rest = rest} key address tree m) others =
    let r = none_apart ps rest m others.1 in record { bar_is = r.bar_is; other_is = ap (link (link_for html x.0 x.1 n)) r.other_is }
none_apart _ _ (made_folder {x = x} {ps = ps} {inside = within} {rest = rest} key tree below is_tree mine m) others =
    let r = none_apart ps rest m others.1 in
    let f = folder_for html x.0 x.1 in
    let other = made_other x.0 x.1 others.0 in
    record {
      bar_is = ap (λ t. cond t within (bar_of rest)) other ∙ r.bar_is;
      other_is = ap (λ t. cond t rest (folder f within (other_of rest))) other ∙ ap (folder f within) r.other_is;
    }
none_apart _ _ (made_separator {s = s} {ps = ps} {rest = rest} m) others =
    let r = none_apart ps rest m others in record { bar_is = r.bar_is; other_is = ap (separator s) r.other_is }

-- ---- the whole

fresh_before : (k : Name) (ts : List Tree) (xs : List (NewItem Entry Entry (List ℕ))) → AreOthers (map an_item xs) → AreOthers (map an_item (fresh name_cmp k ts ++ xs))
fresh_before k [] xs h = h
fresh_before k (t ∷ ts) xs h = (tt, fresh_before k ts xs h)

added_others : (old : List (Name × Item Entry Entry (List ℕ))) (lists : Lists) → AreOthers (map an_item (added name_cmp old lists))
added_others old [] = tt
added_others old (l ∷ lists) = fresh_before l.0 (drop (length (of_key name_cmp l.0 old)) l.1) (added name_cmp old lists) (added_others old lists)

pub entry_toolbar : (c : Contents) (e : Entry) → bar_entry c ≡ Some e → is_toolbar e.attributes ≡ true
entry_toolbar nothing e is = absurd (none-some e is)
entry_toolbar (link f c) e is = entry_toolbar c e is
entry_toolbar (folder f inside c) e is = go (is_toolbar f.attributes) refl is (λ h. entry_toolbar c e h)
  where
    go : (t : Bool) → is_toolbar f.attributes ≡ t → cond t (Some f) (bar_entry c) ≡ Some e → (bar_entry c ≡ Some e → is_toolbar e.attributes ≡ true)
        → is_toolbar e.attributes ≡ true
    go true it is more = ap (λ (x : Entry). is_toolbar x.attributes) (sym (same_Some f e is)) ∙ it
    go false it is more = more is
entry_toolbar (separator a c) e is = entry_toolbar c e is

-- without a bookmarks bar all stands in front of it
none_front : (c : Contents) → bar_entry c ≡ None → other_of c ≡ in_front_of_bar c
none_front nothing is = refl
none_front (link f c) is = ap (link f) (none_front c is)
none_front (folder f inside c) is = go (is_toolbar f.attributes) is (λ h. none_front c h)
  where
    go : (t : Bool) → cond t (Some f) (bar_entry c) ≡ None → (bar_entry c ≡ None → other_of c ≡ in_front_of_bar c)
        → cond t c (folder f inside (other_of c)) ≡ cond t nothing (folder f inside (in_front_of_bar c))
    go true is more = absurd (none-some f (sym is))
    go false is more = ap (folder f inside) (more is)
none_front (separator a c) is = ap (separator a) (none_front c is)

module _ (old : Contents) (lists : Lists) (bar new : Contents) (made : AreMade html (pieces html lists (other_of old)) new) where
  front : Pieces
  front = staying html lists [] (in_front_of_bar old)

  last : Pieces
  last = map an_item (added name_cmp (items_of html (other_of old)) lists)

  with_entry : (e : Entry) → bar_entry old ≡ Some e → AreApart (put_behind front e bar new) bar new
  unfolding front last
  with_entry e is =
      let first = front_first lists [] old in
      let all : pieces html lists (other_of old) ≡ front ++ (first.0 ++ last) = ap (λ ps. ps ++ last) first.1 ∙ append_assoc front first.0 last in
      put_apart front (first.0 ++ last) new e bar (subst (λ (ps : Pieces). AreMade html ps new) all made) (front_others lists [] old) (entry_toolbar old e is)

  without : bar_entry old ≡ None → AreApart (cond (is_something bar) (folder new_bar bar new) new) bar new
  unfolding front last
  without is =
      let all = subst (λ (c : Contents). AreOthers (staying html lists [] c)) (sym (none_front old is)) (front_others lists [] old) in
      let apart = none_apart (pieces html lists (other_of old)) new made
      (others_append (staying html lists [] (other_of old)) last all (added_others (items_of html (other_of old)) lists)) in
      go bar apart
    where
      first : (c : Contents) → AreApart (folder new_bar c new) c new
      first c =
          record {
            bar_is = ap (λ t. cond t c (bar_of new)) new_toolbar;
            other_is = ap (λ t. cond t new (folder new_bar c (other_of new))) new_toolbar;
          }

      go : (c : Contents) → AreApart new nothing new → AreApart (cond (is_something c) (folder new_bar c new) new) c new
      go nothing apart = apart
      go (link e c) apart = first (link e c)
      go (folder e inside c) apart = first (folder e inside c)
      go (separator a c) apart = first (separator a c)

  pub whole_apart : AreApart (with_bar (bar_entry old) (staying html lists [] (in_front_of_bar old)) bar new) bar new
  unfolding front
  whole_apart = go (bar_entry old) refl
    where
      go : (o : Option Entry) → bar_entry old ≡ o → AreApart (with_bar o front bar new) bar new
      go (Some e) is = with_entry e is
      go None is = without is
