-- What is alike but for white space at the end of notes has the same bookmarks bar, and the same beside it.
use Rattle.std.proofs.Common.{◌≡◌, Bool, true, false, cond, refl, sym, ap, subst}
use Rattle.hm_tree.specs.Nodes.{Tree}
use Rattle.hm_marks.specs.Contents.{nothing, link, folder, separator}
use Rattle.hm_marks.specs.FolderTrees.{IsContentsTree}
use Rattle.hm_marks_schema.specs.Bookmarks.{AreBookmarks}
use Rattle.hm_marks_tokens.specs.Grammar.{Entry, Contents}
use Rattle.hm_netscape_entries.specs.Entries.{html}
use Rattle.hm_netscape_entries.specs.Toolbars.{is_toolbar, bar_of, other_of}
use Rattle.hm_netscape_entries.specs.Written.{tidied_entry, tidied, IsEntryAlike, AreAlike, alike_nothing, alike_links, alike_folders, alike_separators}
use Rattle.hm_netscape_entries.proofs.Tidied.{tidied_tree}
use Rattle.hm_netscape_entries.proofs.ReadAgain.{same_tree}

-- ---- with notes without the white space at their end

pub tidied_bar : (c : Contents) → bar_of (tidied c) ≡ tidied (bar_of c)
tidied_bar nothing = refl
tidied_bar (link e c) = tidied_bar c
tidied_bar (folder e inside c) = go (is_toolbar e.attributes) (tidied_bar c)
  where
    go : (t : Bool) → bar_of (tidied c) ≡ tidied (bar_of c) → cond t (tidied inside) (bar_of (tidied c)) ≡ tidied (cond t inside (bar_of c))
    go true more = refl
    go false more = more
tidied_bar (separator a c) = tidied_bar c

pub tidied_other : (c : Contents) → other_of (tidied c) ≡ tidied (other_of c)
tidied_other nothing = refl
tidied_other (link e c) = ap (link (tidied_entry e)) (tidied_other c)
tidied_other (folder e inside c) = go (is_toolbar e.attributes) (tidied_other c)
  where
    go : (t : Bool) → other_of (tidied c) ≡ tidied (other_of c)
        → cond t (tidied c) (folder (tidied_entry e) (tidied inside) (other_of (tidied c))) ≡ tidied (cond t c (folder e inside (other_of c)))
    go true more = refl
    go false more = ap (folder (tidied_entry e) (tidied inside)) more
tidied_other (separator a c) = ap (separator a) (tidied_other c)

-- ---- alike

module _ (d e : Entry) (b inside c rest : Contents) (is : IsEntryAlike d e) (inner : AreAlike b inside) where
  chosen_bar : (s t : Bool) → t ≡ s → AreAlike (bar_of c) (bar_of rest) → AreAlike (cond s b (bar_of c)) (cond t inside (bar_of rest))
  chosen_bar true true same more = inner
  chosen_bar true false same more = let bad : ⊥ = cc in absurd bad
  chosen_bar false true same more = let bad : ⊥ = cc in absurd bad
  chosen_bar false false same more = more

  chosen_other : (s t : Bool) → t ≡ s → AreAlike c rest → AreAlike (other_of c) (other_of rest)
      → AreAlike (cond s c (folder d b (other_of c))) (cond t rest (folder e inside (other_of rest)))
  chosen_other true true same here more = here
  chosen_other true false same here more = let bad : ⊥ = cc in absurd bad
  chosen_other false true same here more = let bad : ⊥ = cc in absurd bad
  chosen_other false false same here more = alike_folders is inner more

alike_bar : (c d : Contents) → AreAlike c d → AreAlike (bar_of c) (bar_of d)
alike_bar _ _ alike_nothing = alike_nothing
alike_bar _ _ (alike_links {c = c} {rest = rest} is more) = alike_bar c rest more
alike_bar _ _ (alike_folders {d = d} {e = e} {b = b} {inside = inside} {c = c} {rest = rest} is inner more) =
    chosen_bar d e b inside c rest is inner (is_toolbar d.attributes) (is_toolbar e.attributes) (ap is_toolbar is.attributes) (alike_bar c rest more)
alike_bar _ _ (alike_separators {c = c} {rest = rest} more) = alike_bar c rest more

alike_other : (c d : Contents) → AreAlike c d → AreAlike (other_of c) (other_of d)
alike_other _ _ alike_nothing = alike_nothing
alike_other _ _ (alike_links {c = c} {rest = rest} is more) = alike_links is (alike_other c rest more)
alike_other _ _ (alike_folders {d = d} {e = e} {b = b} {inside = inside} {c = c} {rest = rest} is inner more) =
    chosen_other d e b inside c rest is inner (is_toolbar d.attributes) (is_toolbar e.attributes) (ap is_toolbar is.attributes) more (alike_other c rest more)
alike_other _ _ (alike_separators {c = c} {rest = rest} more) = alike_separators (alike_other c rest more)

-- ---- the same tree

pub same_bookmarks : (new found : Contents) (t : Tree) → AreAlike (tidied new) found → AreBookmarks html (bar_of new) (other_of new) t
    → AreBookmarks html (bar_of found) (other_of found) t
same_bookmarks new found t alike is =
    record {
      bar_tree = is.bar_tree;
      other_tree = is.other_tree;
      tree = is.tree;
      bar = same_tree (bar_of (tidied new)) (bar_of found) is.bar_tree (alike_bar (tidied new) found alike)
          (subst (λ (c : Contents). IsContentsTree html c is.bar_tree) (sym (tidied_bar new)) (tidied_tree (bar_of new) is.bar_tree is.bar));
      other = same_tree (other_of (tidied new)) (other_of found) is.other_tree (alike_other (tidied new) found alike)
          (subst (λ (c : Contents). IsContentsTree html c is.other_tree) (sym (tidied_other new)) (tidied_tree (other_of new) is.other_tree is.other));
    }
