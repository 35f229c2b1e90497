-- The outermost folder, put together again with the bookmarks bar in its place.
use Rattle.std.proofs.Common.{◌≡◌, ℕ, Bool, true, false, cond, List, [], ◌++◌, map, Some, None, refl, sym, ap, ◌∙◌, subst}
use Rattle.std.proofs.lemmas.Option.{none-some}
use Rattle.hm_tree.specs.Names.{name_cmp}
use Rattle.hm_tree.specs.Nodes.{Tree, edges}
use Rattle.hm_book_items.specs.Items.{IsTree, added}
use Rattle.hm_book_items.specs.ItemTrees.{Lists, AreLists}
use Rattle.hm_marks.specs.Contents.{nothing, link, folder, separator}
use Rattle.hm_marks.specs.Layouts.{items_of}
use Rattle.hm_marks.specs.Pieces.{an_item, staying, pieces}
use Rattle.hm_marks.specs.Writing.{AreMade, made_nothing, made_link, made_folder, made_separator, AreWrittenAnew, link_for, folder_for}
use Rattle.hm_marks_schema.specs.Members.{AreFoldersOf}
use Rattle.hm_marks_tokens.specs.Grammar.{Entry, Contents}
use Rattle.hm_netscape_entries.specs.Entries.{html}
use Rattle.hm_netscape_entries.specs.Toolbars.{is_toolbar, bar_of, other_of}
use Rattle.hm_netscape_files.specs.Anew.{in_front_of_bar, bar_entry, new_bar, put_behind, is_something, with_bar}
use Rattle.hm_netscape_lines.specs.Behind.{joined}
use Rattle.hm_netscape_lines.proofs.Joined.{lines_joined}
use Rattle.hm_netscape_writing.specs.Added.{Piece, Adds, AddsFolder}
use Rattle.hm_netscape_writing.specs.Outermost.{AddsOutermost, IsMissing}
use Rattle.hm_netscape_writing.proofs.Joining.{joined_again, staying_joined, made_joined}
use Rattle.hm_netscape_writing.proofs.BarLeft.{none_joined}

-- ---- what stands around the bookmarks bar

module _ (e : Entry) (inside behind : Contents) (is : is_toolbar e.attributes ≡ true) where
  abbrev whole : Contents → Contents
  whole front = joined front (folder e inside behind)

  -- the bookmarks bar, and what stands beside it and in front of it
  pub record IsAround (front : Contents) : Type 0 where
    pub bar : bar_of (whole front) ≡ inside
    pub other : other_of (whole front) ≡ joined front behind
    pub first : in_front_of_bar (whole front) ≡ front

  pub around : (front : Contents) → bar_entry front ≡ None → IsAround front
  around nothing none =
      record {
        bar = ap (λ t. cond t inside (bar_of behind)) is;
        other = ap (λ t. cond t behind (folder e inside (other_of behind))) is;
        first = ap (λ t. cond t nothing (folder e inside (in_front_of_bar behind))) is;
      }
  around (link f front) none =
      let r = around front none in record { bar = r.bar; other = ap (link f) r.other; first = ap (link f) r.first }
  around (separator a front) none =
      let r = around front none in record { bar = r.bar; other = ap (separator a) r.other; first = ap (separator a) r.first }
  around (folder f within front) none = go (is_toolbar f.attributes) refl none (λ h. around front h)
    where
      go : (t : Bool) → is_toolbar f.attributes ≡ t → cond t (Some f) (bar_entry front) ≡ None → (bar_entry front ≡ None → IsAround front) → IsAround (folder f within front)
      go true it bad more = absurd (none-some f (sym bad))
      go false it none more =
          let r = more none in
          record {
            bar = ap (λ t. cond t within (bar_of (whole front))) it ∙ r.bar;
            other = ap (λ t. cond t (whole front) (folder f within (other_of (whole front)))) it ∙ ap (folder f within) r.other;
            first = ap (λ t. cond t nothing (folder f within (in_front_of_bar (whole front)))) it ∙ ap (folder f within) r.first;
          }

  pub entry_is : (front : Contents) → bar_entry front ≡ None → bar_entry (whole front) ≡ Some e
  entry_is front none = none_joined front (folder e inside behind) none ∙ ap (λ t. cond t (Some e) (bar_entry behind)) is

-- without one all stands beside it, and in front of it
record IsBeside (c : Contents) : Type 0 where
  bar : bar_of c ≡ nothing
  other : other_of c ≡ c
  first : in_front_of_bar c ≡ c

beside : (c : Contents) → bar_entry c ≡ None → IsBeside c
beside nothing none = record { bar = refl; other = refl; first = refl }
beside (link f c) none = let r = beside c none in record { bar = r.bar; other = ap (link f) r.other; first = ap (link f) r.first }
beside (separator a c) none = let r = beside c none in record { bar = r.bar; other = ap (separator a) r.other; first = ap (separator a) r.first }
beside (folder f within c) none = go (is_toolbar f.attributes) refl none (λ h. beside c h)
  where
    go : (t : Bool) → is_toolbar f.attributes ≡ t → cond t (Some f) (bar_entry c) ≡ None → (bar_entry c ≡ None → IsBeside c) → IsBeside (folder f within c)
    go true it bad more = absurd (none-some f (sym bad))
    go false it none more =
        let r = more none in
        record {
          bar = ap (λ t. cond t within (bar_of c)) it ∙ r.bar;
          other = ap (λ t. cond t c (folder f within (other_of c))) it ∙ ap (folder f within) r.other;
          first = ap (λ t. cond t nothing (folder f within (in_front_of_bar c))) it ∙ ap (folder f within) r.first;
        }

new_joined : (b : Bool) (bar other : Contents) → joined (cond b (folder new_bar bar nothing) nothing) other ≡ cond b (folder new_bar bar other) other
new_joined true bar other = refl
new_joined false bar other = refl

-- it stands behind what is made of as many pieces
put_made : (ps : List Piece) (c d : Contents) (e : Entry) (inside : Contents) → AreMade html ps c → put_behind ps e inside (joined c d) ≡ joined c (folder e inside d)
put_made _ _ d e inside made_nothing = refl
put_made _ _ d e inside (made_link {x = x} {n = n} {ps = ps} {rest = rest} key address tree m) = ap (link (link_for html x.0 x.1 n)) (put_made ps rest d e inside m)
put_made _ _ d e inside (made_folder {x = x} {ps = ps} {inside = within} {rest = rest} key tree below is_tree mine m) =
    ap (folder (folder_for html x.0 x.1) within) (put_made ps rest d e inside m)
put_made _ _ d e inside (made_separator {s = s} {ps = ps} {rest = rest} m) = ap (separator s) (put_made ps rest d e inside m)

module _ (t bar_tree other_tree : Tree) (parts : AreFoldersOf t bar_tree other_tree) (lists : Lists) (below : AreLists (edges other_tree) lists) (tree : IsTree name_cmp lists) where
  -- where there is one
  module _ (e : Entry) (front inside behind : Contents) (none : bar_entry front ≡ None) (is : is_toolbar e.attributes ≡ true) (v w x y z : List ℕ) where
    pub with_entry : Adds 1 v w (staying html lists [] front) → AddsFolder 1 w x e inside bar_tree → Adds 1 x y (staying html lists (items_of html front) behind)
        → Adds 1 y z (map an_item (added name_cmp (items_of html (joined front behind)) lists)) → AddsOutermost v z (joined front (folder e inside behind)) t
    with_entry first bar more new =
        let stays = staying html lists [] front in
        let behind_stays = staying html lists (items_of html front) behind in
        let fresh = map an_item (added name_cmp (items_of html (joined front behind)) lists) in
        let h = around e inside behind is front none in
        let other = joined (joined first.made more.made) new.made in
        let made = made_joined (stays ++ behind_stays) fresh (joined first.made more.made) new.made (made_joined stays behind_stays first.made more.made first.of more.of) new.of in
        let made_as : AreMade html (pieces html lists (joined front behind)) other =
        subst (λ (ps : List Piece). AreMade html (ps ++ fresh) other) (sym (staying_joined lists behind [] front)) made in
        let new_is : joined first.made (folder e bar.after (joined more.made new.made)) ≡ put_behind stays e bar.after other =
        sym (ap (put_behind stays e bar.after) (joined_again first.made more.made new.made) ∙ put_made stays first.made (joined more.made new.made) e bar.after first.of) in
        record {
          after = joined first.made (folder e bar.after (joined more.made new.made));
          anew = record {
            bar = bar.after;
            other = other;
            made = record {
              bar_tree = bar_tree;
              other_tree = other_tree;
              tree = parts.tree;
              bar = subst (λ (c : Contents). AreWrittenAnew html c bar_tree bar.after) (sym h.bar) bar.anew;
              other = record {
                lists = lists;
                below = below;
                tree = tree;
                made = subst (λ (c : Contents). AreMade html (pieces html lists c) other) (sym h.other) made_as;
              };
            };
            new_is = new_is ∙ (λ i. with_bar (sym (entry_is e inside behind is front none) i) (staying html lists [] (sym h.first i)) bar.after other);
          };
          lines = lines_joined 1 v w z first.made (folder e bar.after (joined more.made new.made)) first.lines
              (lines_joined 1 w x z (folder e bar.after nothing) (joined more.made new.made) bar.lines (lines_joined 1 x y z more.made new.made more.lines new.lines));
        }

  -- where there is none
  module _ (c : Contents) (none : bar_entry c ≡ None) (w x y z : List ℕ) where
    pub without_entry : IsMissing None bar_tree w x → Adds 1 x y (staying html lists [] c) → Adds 1 y z (map an_item (added name_cmp (items_of html c) lists))
        → AddsOutermost w z c t
    without_entry missing stays new =
        let h = beside c none in
        let bar = missing.0 in
        let other = joined stays.made new.made in
        let made = made_joined (staying html lists [] c) (map an_item (added name_cmp (items_of html c) lists)) stays.made new.made stays.of new.of in
        let front = cond (is_something bar) (folder new_bar bar nothing) nothing in
        record {
          after = joined front other;
          anew = record {
            bar = bar;
            other = other;
            made = record {
              bar_tree = bar_tree;
              other_tree = other_tree;
              tree = parts.tree;
              bar = subst (λ (c : Contents). AreWrittenAnew html c bar_tree bar) (sym h.bar) missing.1;
              other = record {
                lists = lists;
                below = below;
                tree = tree;
                made = subst (λ (c : Contents). AreMade html (pieces html lists c) other) (sym h.other) made;
              };
            };
            new_is = new_joined (is_something bar) bar other ∙ (λ i. with_bar (sym none i) (staying html lists [] (in_front_of_bar c)) bar other);
          };
          lines = lines_joined 1 w x z front other missing.2 (lines_joined 1 x y z stays.made new.made stays.lines new.lines);
        }
