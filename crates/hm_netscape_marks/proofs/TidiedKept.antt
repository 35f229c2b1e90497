-- What stays of a folder stays of it without the white space at the end of notes.
use Rattle.std.proofs.Common.{◌≡◌, ◌<◌, ◌≤◌, suc, ℕ, Bool, true, false, cond, List, [], ◌∷◌, ◌++◌, map, length, Option, Some, None, refl, sym, ap, ◌∙◌, subst, arith}
use Rattle.std.specs.Ordering.{eq_by_cmp}
use Rattle.std.specs.Option.{option_map}
use Rattle.std.proofs.lemmas.List.{map-append}
use Rattle.hm_tree.specs.Names.{Name, name_cmp}
use Rattle.hm_book_items.specs.Items.{of_key}
use Rattle.hm_marks.specs.Contents.{nothing, link, folder, separator, Item, a_link, a_folder, separators_of}
use Rattle.hm_marks.specs.Layouts.{items_of}
use Rattle.hm_marks.specs.Kept.{IsKeptLink, count_of, AreKept, Keeps, behind, separator_stays, link_survives, folder_survives, link_replaced, folder_replaced, link_goes, folder_goes}
use Rattle.hm_marks_tokens.specs.Grammar.{Entry, Contents}
use Rattle.hm_netscape_entries.specs.Entries.{html, IsSameLink}
use Rattle.hm_netscape_entries.specs.Toolbars.{is_toolbar, bar_of, other_of}
use Rattle.hm_netscape_entries.specs.Written.{trimmed, tidied_entry, tidied}
use Rattle.hm_netscape_files.specs.Anew.{bar_entry}
use Rattle.hm_netscape_files.proofs.AnewParts.{tidied_bar, tidied_other}
use Rattle.hm_netscape_marks.specs.Kept.{mark, with_separator, BarStaysWhere, OutermostKeeps}

-- ---- items

abbrev Items : Type 0
Items = List (Name × Item Entry Entry (List ℕ))

abbrev tidied_item : Item Entry Entry (List ℕ) → Item Entry Entry (List ℕ)
tidied_item (a_link e) = a_link (tidied_entry e)
tidied_item (a_folder e inside) = a_folder (tidied_entry e) (tidied inside)

abbrev tidied_items : Items → Items
tidied_items xs = map (λ (x : Name × Item Entry Entry (List ℕ)). (x.0, tidied_item x.1)) xs

items_tidied : (c : Contents) → items_of html (tidied c) ≡ tidied_items (items_of html c)
items_tidied nothing = refl
items_tidied (link e c) = ap (λ (xs : Items). (html.link_key e, a_link (tidied_entry e)) ∷ xs) (items_tidied c)
items_tidied (folder e inside c) = ap (λ (xs : Items). (html.folder_key e, a_folder (tidied_entry e) (tidied inside)) ∷ xs) (items_tidied c)
items_tidied (separator a c) = items_tidied c

-- as many have a key
same_count : (k : Name) (xs : Items) → count_of k (tidied_items xs) ≡ count_of k xs
same_count k [] = refl
same_count k (x ∷ xs) = go (eq_by_cmp name_cmp k x.0) (same_count k xs)
  where
    go : (t : Bool) → count_of k (tidied_items xs) ≡ count_of k xs
        → length (cond t (tidied_item x.1 ∷ of_key name_cmp k (tidied_items xs)) (of_key name_cmp k (tidied_items xs))) ≡ length (cond t (x.1 ∷ of_key name_cmp k xs) (of_key name_cmp k xs))
    go true same = ap suc same
    go false same = same

-- ---- what is kept

separators_tidied : (c : Contents) → separators_of (tidied c) ≡ separators_of c
separators_tidied nothing = refl
separators_tidied (link e c) = separators_tidied c
separators_tidied (folder e inside c) = separators_tidied c
separators_tidied (separator a c) = ap (λ l. a ∷ l) (separators_tidied c)

link_tidied : (d e : Entry) → IsKeptLink html IsSameLink d e → IsKeptLink html IsSameLink (tidied_entry d) (tidied_entry e)
link_tidied d e is =
    record {
      key_is = is.key_is;
      same = λ same. ap tidied_entry (is.same same);
      alike = λ other.
          let alike = is.alike other in record { attributes = alike.attributes; title = alike.title; note = ap (option_map trimmed) alike.note };
    }

module _ (now before : Items) where
  there : (k : Name) → count_of k before < count_of k now → count_of k (tidied_items before) < count_of k (tidied_items now)
  there k lt = let one = same_count k before in let other = same_count k now in omega (arith, lt, one, other)

  gone : (k : Name) → count_of k now ≤ count_of k before → count_of k (tidied_items now) ≤ count_of k (tidied_items before)
  gone k le = let one = same_count k before in let other = same_count k now in omega (arith, le, one, other)

  -- behind one item more
  more : (x : Name × Item Entry Entry (List ℕ)) (old new : Contents) → AreKept html IsSameLink (tidied_items now) (tidied_items (before ++ x ∷ [])) old new
      → AreKept html IsSameLink (tidied_items now) (tidied_items before ++ (x.0, tidied_item x.1) ∷ []) old new
  more x old new h =
      subst (λ (xs : Items). AreKept html IsSameLink (tidied_items now) xs old new) (map-append (λ (x : Name × Item Entry Entry (List ℕ)). (x.0, tidied_item x.1)) before (x ∷ [])) h

kept_tidied : (now before : Items) (old new : Contents) → AreKept html IsSameLink now before old new
    → AreKept html IsSameLink (tidied_items now) (tidied_items before) (tidied old) (tidied new)
kept_tidied _ _ _ _ (behind {new = new} none) = behind (separators_tidied new ∙ none)
kept_tidied _ _ _ _ (separator_stays {now = now} {before = before} {old = old} {new = new} h) = separator_stays (kept_tidied now before old new h)
kept_tidied _ _ _ _ (link_survives {now = now} {before = before} {l = d} {m = e} {old = old} {new = new} lt is h) =
    let x : Name × Item Entry Entry (List ℕ) = (html.link_key d, a_link d) in
    link_survives (there now before x.0 lt) (link_tidied d e is) (more now before x (tidied old) (tidied new) (kept_tidied now (before ++ x ∷ []) old new h))
kept_tidied _ _ _ _ (folder_survives {now = now} {before = before} {f = e} {was = was} {is = is} {old = old} {new = new} lt inner h) =
    let x : Name × Item Entry Entry (List ℕ) = (html.folder_key e, a_folder e was) in
    folder_survives (there now before x.0 lt)
    (subst (λ (xs : Items). AreKept html IsSameLink xs [] (tidied was) (tidied is)) (sym (items_tidied is)) (kept_tidied (items_of html is) [] was is inner))
    (more now before x (tidied old) (tidied new) (kept_tidied now (before ++ x ∷ []) old new h))
kept_tidied _ _ _ _ (link_replaced {now = now} {before = before} {l = d} {old = old} {new = new} lt key h) =
    let x : Name × Item Entry Entry (List ℕ) = (html.link_key d, a_link d) in
    link_replaced (there now before x.0 lt) key (more now before x (tidied old) (tidied new) (kept_tidied now (before ++ x ∷ []) old new h))
kept_tidied _ _ _ _ (folder_replaced {now = now} {before = before} {f = e} {inside = was} {old = old} {new = new} lt key h) =
    let x : Name × Item Entry Entry (List ℕ) = (html.folder_key e, a_folder e was) in
    folder_replaced (there now before x.0 lt) key (more now before x (tidied old) (tidied new) (kept_tidied now (before ++ x ∷ []) old new h))
kept_tidied _ _ _ _ (link_goes {now = now} {before = before} {l = d} {old = old} {new = new} le h) =
    let x : Name × Item Entry Entry (List ℕ) = (html.link_key d, a_link d) in
    link_goes (gone now before x.0 le) (more now before x (tidied old) (tidied new) (kept_tidied now (before ++ x ∷ []) old new h))
kept_tidied _ _ _ _ (folder_goes {now = now} {before = before} {f = e} {inside = was} {old = old} {new = new} le h) =
    let x : Name × Item Entry Entry (List ℕ) = (html.folder_key e, a_folder e was) in
    folder_goes (gone now before x.0 le) (more now before x (tidied old) (tidied new) (kept_tidied now (before ++ x ∷ []) old new h))

keeps_tidied : (old new : Contents) → Keeps html IsSameLink old new → Keeps html IsSameLink (tidied old) (tidied new)
keeps_tidied old new h =
    subst (λ (xs : Items). AreKept html IsSameLink xs [] (tidied old) (tidied new)) (sym (items_tidied new)) (kept_tidied (items_of html new) [] old new h)

-- ---- the outermost folder

entry_tidied : (c : Contents) → bar_entry (tidied c) ≡ option_map tidied_entry (bar_entry c)
entry_tidied nothing = refl
entry_tidied (link e c) = entry_tidied c
entry_tidied (folder e inside c) = go (is_toolbar e.attributes) (entry_tidied c)
  where
    go : (t : Bool) → bar_entry (tidied c) ≡ option_map tidied_entry (bar_entry c)
        → cond t (Some (tidied_entry e)) (bar_entry (tidied c)) ≡ option_map tidied_entry (cond t (Some e) (bar_entry c))
    go true same = refl
    go false same = same
entry_tidied (separator a c) = entry_tidied c

separator_tidied : (c : Contents) → with_separator (tidied c) ≡ tidied (with_separator c)
separator_tidied nothing = refl
separator_tidied (link e c) = ap (link (tidied_entry e)) (separator_tidied c)
separator_tidied (folder e inside c) = go (is_toolbar e.attributes) (separator_tidied c)
  where
    go : (t : Bool) → with_separator (tidied c) ≡ tidied (with_separator c)
        → cond t (separator mark (tidied c)) (folder (tidied_entry e) (tidied inside) (with_separator (tidied c))) ≡ tidied (cond t (separator mark c) (folder e inside (with_separator c)))
    go true same = refl
    go false same = ap (folder (tidied_entry e) (tidied inside)) same
separator_tidied (separator a c) = ap (separator a) (separator_tidied c)

-- parts that are kept, where a part is taken of tidied contents as well
part_tidied : (part : Contents → Contents) → ((c : Contents) → part (tidied c) ≡ tidied (part c)) → (old new : Contents) → Keeps html IsSameLink (part old) (part new)
    → Keeps html IsSameLink (part (tidied old)) (part (tidied new))
part_tidied part same old new h =
    subst (λ (c : Contents). Keeps html IsSameLink c (part (tidied new))) (sym (same old))
    (subst (λ (c : Contents). Keeps html IsSameLink (tidied (part old)) c) (sym (same new)) (keeps_tidied (part old) (part new) h))

pub outermost_tidied : (old new : Contents) → OutermostKeeps old new → OutermostKeeps (tidied old) (tidied new)
outermost_tidied old new h =
    record {
      bar = part_tidied bar_of tidied_bar old new h.bar;
      other = part_tidied other_of tidied_other old new h.other;
      bar_itself = subst (λ (o : Option Entry). BarStaysWhere o (tidied old) (tidied new)) (sym (entry_tidied old)) (go (bar_entry old) h.bar_itself);
    }
  where
    go : (o : Option Entry) → BarStaysWhere o old new → BarStaysWhere (option_map tidied_entry o) (tidied old) (tidied new)
    go None is = tt
    go (Some e) is =
        record {
          entry = entry_tidied new ∙ ap (option_map tidied_entry) is.entry;
          place = part_tidied with_separator separator_tidied old new is.place;
        }
