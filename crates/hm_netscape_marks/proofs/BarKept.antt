-- Of what stood in the outermost folder all stays that has to, where it is written anew.
use Rattle.std.proofs.Common.{◌≡◌, ℕ, Bool, true, false, cond, List, [], ◌∷◌, ◌++◌, map, Option, Some, None, refl, sym, ap, ◌∙◌, subst}
use Rattle.std.proofs.lemmas.List.{append_assoc}
use Rattle.std.proofs.lemmas.Option.{none-some}
use Rattle.hm_tree.specs.Names.{Name, name_cmp}
use Rattle.hm_tree.specs.Nodes.{Tree}
use Rattle.hm_book_items.specs.Items.{added}
use Rattle.hm_book_items.specs.ItemTrees.{Lists}
use Rattle.hm_marks.specs.Contents.{nothing, link, folder, separator, Item, a_link, a_folder}
use Rattle.hm_marks.specs.Kept.{Keeps}
use Rattle.hm_marks.specs.Layouts.{AreSound, items_of}
use Rattle.hm_marks.specs.Pieces.{an_item, a_separator, surviving, staying, pieces}
use Rattle.hm_marks.specs.Writing.{folder_for, AreMade, made_link, made_folder, made_separator}
use Rattle.hm_marks.proofs.KeptContents.{anew_kept}
use Rattle.hm_marks.proofs.KeptItself.{keeps_itself}
use Rattle.hm_marks_tokens.specs.Grammar.{Entry, Contents}
use Rattle.hm_netscape_entries.specs.Entries.{html, IsEntry, IsLinkEntry, IsRule, IsSameLink, MayStand}
use Rattle.hm_netscape_entries.specs.Toolbars.{is_toolbar, bar_of, other_of}
use Rattle.hm_netscape_entries.proofs.Layouts.{html_layout}
use Rattle.hm_netscape_files.specs.Anew.{in_front_of_bar, bar_entry, put_behind, with_bar, IsAnew}
use Rattle.hm_netscape_files.proofs.BarParts.{bar_holds, other_holds}
use Rattle.hm_netscape_files.proofs.BarsAnew.{Pieces, AreOthers, front_others, made_other, entry_toolbar, whole_apart}
use Rattle.hm_netscape_marks.specs.Kept.{mark, with_separator, BarStaysWhere, BarStays, OutermostKeeps}

-- ---- with a separator in the place of the bookmarks bar

abbrev Before : Type 0
Before = List (Name × Item Entry Entry (List ℕ))

-- it is no item
same_items : (c : Contents) → items_of html (with_separator c) ≡ items_of html (other_of c)
same_items nothing = refl
same_items (link f c) = ap (λ (xs : Before). (html.link_key f, a_link f) ∷ xs) (same_items c)
same_items (folder f inside c) = go (is_toolbar f.attributes) (same_items c)
  where
    go : (t : Bool) → items_of html (with_separator c) ≡ items_of html (other_of c)
        → items_of html (cond t (separator mark c) (folder f inside (with_separator c))) ≡ items_of html (cond t c (folder f inside (other_of c)))
    go true more = refl
    go false more = ap (λ (xs : Before). (html.folder_key f, a_folder f inside) ∷ xs) more
same_items (separator a c) = same_items c

-- what stays with it is what stays beside the bar, and the separator behind what stays in front of it
abbrev AreCut : Lists → Before → Contents → Contents → Contents → Type 0
AreCut lists before front other marked =
    (behind : Pieces) × (staying html lists before other ≡ staying html lists before front ++ behind)
    × (staying html lists before marked ≡ staying html lists before front ++ a_separator mark ∷ behind)

-- and so it is behind pieces of one item more
abbrev AreCutBehind : Pieces → Pieces → Pieces → Pieces → Type 0
AreCutBehind mine front other marked = (behind : Pieces) × (mine ++ other ≡ (mine ++ front) ++ behind) × (mine ++ marked ≡ (mine ++ front) ++ a_separator mark ∷ behind)

cut_behind : (lists : Lists) (later : Before) (front other marked : Contents) (mine : Pieces) → AreCut lists later front other marked
    → AreCutBehind mine (staying html lists later front) (staying html lists later other) (staying html lists later marked)
cut_behind lists later front other marked mine r = (
  r.0,
  ap (λ ps. mine ++ ps) r.1 ∙ sym (append_assoc mine (staying html lists later front) r.0),
  ap (λ ps. mine ++ ps) r.2 ∙ sym (append_assoc mine (staying html lists later front) (a_separator mark ∷ r.0)),
)

cut : (lists : Lists) (before : Before) (c : Contents) (e : Entry) → bar_entry c ≡ Some e → AreCut lists before (in_front_of_bar c) (other_of c) (with_separator c)
cut lists before nothing e is = absurd (none-some e is)
cut lists before (link f c) e is =
    let k = html.link_key f in
    let later = before ++ (k, a_link f) ∷ [] in
    cut_behind lists later (in_front_of_bar c) (other_of c) (with_separator c) (surviving html lists before (k, a_link f)) (cut lists later c e is)
cut lists before (folder f inside c) e is =
    go (is_toolbar f.attributes) is (λ h. cut lists (before ++ (html.folder_key f, a_folder f inside) ∷ []) c e h)
  where
    go : (t : Bool) → cond t (Some f) (bar_entry c) ≡ Some e
        → (bar_entry c ≡ Some e → AreCut lists (before ++ (html.folder_key f, a_folder f inside) ∷ []) (in_front_of_bar c) (other_of c) (with_separator c))
        → AreCut lists before (cond t nothing (folder f inside (in_front_of_bar c))) (cond t c (folder f inside (other_of c)))
        (cond t (separator mark c) (folder f inside (with_separator c)))
    go true is more = (staying html lists before c, refl, refl)
    go false is more =
        let k = html.folder_key f in
        let later = before ++ (k, a_folder f inside) ∷ [] in
        cut_behind lists later (in_front_of_bar c) (other_of c) (with_separator c) (surviving html lists before (k, a_folder f inside)) (more is)
cut lists before (separator a c) e is =
    let r = cut lists before c e is in (r.0, ap (λ ps. a_separator a ∷ ps) r.1, ap (λ ps. a_separator a ∷ ps) r.2)

-- ---- what is put together with the bar

-- it has this bar, and its pieces are those beside the bar and the separator in the bar's place
record IsMarked (front behind : Pieces) (e : Entry) (whole : Contents) : Type 0 where
  entry : bar_entry whole ≡ Some e
  made : AreMade html (front ++ a_separator mark ∷ behind) (with_separator whole)

put_marked : (front behind : Pieces) (new : Contents) (e : Entry) (inside : Contents) → AreMade html (front ++ behind) new → AreOthers front
    → is_toolbar e.attributes ≡ true → IsMarked front behind e (put_behind front e inside new)
put_marked [] behind new e inside made others is =
    record {
      entry = ap (λ t. cond t (Some e) (bar_entry new)) is;
      made = subst (λ (c : Contents). AreMade html (a_separator mark ∷ behind) c) (sym (ap (λ t. cond t (separator mark new) (folder e inside (with_separator new))) is)) (made_separator made);
    }
put_marked (an_item x ∷ front) behind _ e inside (made_link {rest = rest} key address tree m) others is =
    let r = put_marked front behind rest e inside m others.1 is in record { entry = r.entry; made = made_link key address tree r.made }
put_marked (an_item x ∷ front) behind _ e inside (made_folder {inside = within} {rest = rest} key tree below is_tree mine m) others is =
    let r = put_marked front behind rest e inside m others.1 is in
    let f = folder_for html x.0 x.1 in
    let other = made_other x.0 x.1 others.0 in
    let whole = put_behind front e inside rest in
    record {
      entry = ap (λ t. cond t (Some f) (bar_entry whole)) other ∙ r.entry;
      made = subst (λ (c : Contents). AreMade html (an_item x ∷ (front ++ a_separator mark ∷ behind)) c)
          (sym (ap (λ t. cond t (separator mark whole) (folder f within (with_separator whole))) other)) (made_folder key tree below is_tree mine r.made);
    }
put_marked (a_separator a ∷ front) behind _ e inside (made_separator {rest = rest} m) others is =
    let r = put_marked front behind rest e inside m others is in record { entry = r.entry; made = made_separator r.made }

-- ---- the whole

-- all but the separator may stand in a file
marked_sound : (c : Contents) → MayStand c → AreSound IsLinkEntry IsEntry (λ (a : List ℕ). Unit {0}) c
marked_sound nothing h = tt
marked_sound (link e c) h = (h.0, marked_sound c h.1)
marked_sound (folder e inside c) h = (h.0, marked_sound inside h.1, marked_sound c h.2)
marked_sound (separator a c) h = (tt, marked_sound c h.1)

separator_sound : (c : Contents) → MayStand c → AreSound IsLinkEntry IsEntry (λ (a : List ℕ). Unit {0}) (with_separator c)
separator_sound nothing h = tt
separator_sound (link e c) h = (h.0, separator_sound c h.1)
separator_sound (folder e inside c) h = go (is_toolbar e.attributes) (separator_sound c h.2)
  where
    go : (t : Bool) → AreSound IsLinkEntry IsEntry (λ (a : List ℕ). Unit {0}) (with_separator c)
        → AreSound IsLinkEntry IsEntry (λ (a : List ℕ). Unit {0}) (cond t (separator mark c) (folder e inside (with_separator c)))
    go true more = (tt, marked_sound c h.2)
    go false more = (h.0, marked_sound inside h.1, more)
separator_sound (separator a c) h = (tt, separator_sound c h.1)

module _ (old : Contents) (t : Tree) (new : Contents) (sound : MayStand old) (is : IsAnew old t new) where
  lists : Lists
  lists = is.made.other.lists

  front : Pieces
  front = staying html is.made.other.lists [] (in_front_of_bar old)

  last : Pieces
  last = map an_item (added name_cmp (items_of html (other_of old)) is.made.other.lists)

  bar_stays : (e : Entry) → bar_entry old ≡ Some e → BarStays e old (put_behind front e is.bar is.other)
  unfolding front last lists
  bar_stays e there =
      let r = cut lists [] old e there in
      let other : pieces html lists (other_of old) ≡ front ++ (r.0 ++ last) = ap (λ ps. ps ++ last) r.1 ∙ append_assoc front r.0 last in
      let all : pieces html lists (with_separator old) ≡ front ++ a_separator mark ∷ (r.0 ++ last) =
      (λ i. r.2 i ++ map an_item (added name_cmp (same_items old i) lists)) ∙ append_assoc front (a_separator mark ∷ r.0) last in
      let marked = put_marked front (r.0 ++ last) is.other e is.bar (subst (λ (ps : Pieces). AreMade html ps is.other) other is.made.other.made)
      (front_others lists [] old) (entry_toolbar old e there) in
      let whole = put_behind front e is.bar is.other in
      record {
        entry = marked.entry;
        place = anew_kept html IsLinkEntry IsEntry (λ (a : List ℕ). Unit {0}) IsSameLink html_layout (with_separator old) is.made.other_tree (with_separator whole) (separator_sound old sound)
            (record {
              lists = lists;
              below = is.made.other.below;
              tree = is.made.other.tree;
              made = subst (λ (ps : Pieces). AreMade html ps (with_separator whole)) (sym all) marked.made;
            });
      }

  bar_kept : BarStaysWhere (bar_entry old) old new
  unfolding front
  bar_kept = subst (λ (c : Contents). BarStaysWhere (bar_entry old) old c) (sym is.new_is) (go (bar_entry old) refl)
    where
      go : (o : Option Entry) → bar_entry old ≡ o → BarStaysWhere o old (with_bar o front is.bar is.other)
      go None there = tt
      go (Some e) there = bar_stays e there

  pub outermost_kept : OutermostKeeps old new
  unfolding front
  outermost_kept =
      let apart = whole_apart old is.made.other.lists is.bar is.other is.made.other.made in
      let bar_is : bar_of new ≡ is.bar = ap bar_of is.new_is ∙ apart.bar_is in
      let other_is : other_of new ≡ is.other = ap other_of is.new_is ∙ apart.other_is in
      record {
        bar = subst (λ (c : Contents). Keeps html IsSameLink (bar_of old) c) (sym bar_is)
            (anew_kept html IsLinkEntry IsEntry IsRule IsSameLink html_layout (bar_of old) is.made.bar_tree is.bar (bar_holds IsLinkEntry IsEntry IsRule old sound) is.made.bar);
        other = subst (λ (c : Contents). Keeps html IsSameLink (other_of old) c) (sym other_is)
            (anew_kept html IsLinkEntry IsEntry IsRule IsSameLink html_layout (other_of old) is.made.other_tree is.other (other_holds IsLinkEntry IsEntry IsRule old sound)
            is.made.other);
        bar_itself = bar_kept;
      }

-- what stays keeps all of itself
pub outermost_itself : (c : Contents) → OutermostKeeps c c
outermost_itself c =
    record { bar = keeps_itself html IsSameLink (bar_of c); other = keeps_itself html IsSameLink (other_of c); bar_itself = go (bar_entry c) refl }
  where
    go : (o : Option Entry) → bar_entry c ≡ o → BarStaysWhere o c c
    go None is = tt
    go (Some e) is = record { entry = is; place = keeps_itself html IsSameLink (with_separator c) }
