-- What was sought in front of the bookmarks bar, and in it.
use Rattle.std.proofs.Common.{◌≡◌, ℕ, cond, List, [], ◌∷◌, ◌++◌, length, get_or, drop, refl, sym, ap, ◌∙◌, subst}
use Rattle.hm_tree.specs.Names.{Name}
use Rattle.hm_tree.specs.Nodes.{Tree, edges}
use Rattle.hm_marks.specs.Among.{HasLeft, HasAll}
use Rattle.hm_marks.specs.Contents.{folder}
use Rattle.hm_marks.proofs.Among.{tree_has_all, none_missing}
use Rattle.hm_marks_schema.specs.Schema.{bar_name, other_name}
use Rattle.hm_marks_schema.specs.Members.{AreFoldersOf}
use Rattle.hm_marks_schema.specs.Bookmarks.{AreBookmarks}
use Rattle.hm_marks_tokens.specs.Symbols as symbols
use Rattle.hm_marks_tokens.specs.Symbols.{Symbol}
use Rattle.hm_marks_tokens.specs.Grammar.{Contents, contents_symbols, IsListOf}
use Rattle.hm_netscape_entries.specs.Entries.{html}
use Rattle.hm_netscape_entries.specs.Next.{Next, an_end, a_folder, IsLeft, Begins, begins_end, begins_link, begins_folder, begins_separator}
use Rattle.hm_netscape_entries.specs.Toolbars.{bar_of, other_of}
use Rattle.hm_netscape_files.specs.Heads.{IsHead}
use Rattle.hm_netscape_files.specs.Files.{IsFile}
use Rattle.hm_netscape_files.proofs.ReadOnce.{at_head}
use Rattle.hm_netscape_lines.specs.Behind.{joined}
use Rattle.hm_netscape_writing.specs.Added.{first_of, rest_of}
use Rattle.hm_netscape_writing.specs.Outermost.{IsNoBar}
use Rattle.hm_netscape_marks.specs.Seeking.{IsLacking, IsPassed, IsBar, IsInBar}

-- what is left of the outermost folder, where the bookmarks bar isn't among what was passed: of this, and of what stands beside
-- it, trees have all where they had all of the whole
pub record IsFront (bar other : Tree) (all : Contents) (missing : ℕ) (bytes : List ℕ) (more : List Symbol) (rest : List ℕ) : Type 0 where
  pub after : Contents
  pub left : IsLeft bytes after more rest
  pub in_bar : HasAll html bar (bar_of all) → HasAll html bar (bar_of after)
  pub beside : HasAll html other (other_of all) → HasLeft html other missing (other_of after)

pub is_front : (bar other : Tree) (all : Contents) (bytes : List ℕ) (more : List Symbol) (rest : List ℕ) → IsLeft bytes all more rest
    → IsFront bar other all (length (edges other)) bytes more rest
is_front bar other all bytes more rest left = record { after = all; left = left; in_bar = λ h. h; beside = λ h. h }

-- the bookmarks bar, and what stands beside it, where that isn't the first
record IsBeside (c : Contents) : Type 0 where
  bar_is : bar_of c ≡ bar_of (rest_of c)
  other_is : other_of c ≡ joined (first_of c) (other_of (rest_of c))

is_beside : (k : Next) (c : Contents) (bytes : List ℕ) (more : List Symbol) (rest : List ℕ) → Begins bytes more rest c k → (k ≡ an_end → ⊥) → IsNoBar k → IsBeside c
is_beside _ _ bytes more rest (begins_end has) some no_bar = absurd (some refl)
is_beside _ _ bytes more rest (begins_link left) some no_bar = record { bar_is = refl; other_is = refl }
is_beside _ _ bytes more rest (begins_folder {e = e} {inside = inside} {c = d} left) some no_bar =
    record { bar_is = ap (λ t. cond t inside (bar_of d)) no_bar; other_is = ap (λ t. cond t d (folder e inside (other_of d))) no_bar }
is_beside _ _ bytes more rest (begins_separator left) some no_bar = record { bar_is = refl; other_is = refl }

module _ (bar other : Tree) (all : Contents) (missing : ℕ) (bytes back : List ℕ) (more : List Symbol) (rest : List ℕ)
    (is : IsFront bar other all missing bytes more rest) where
  abbrev Lacks : Type 0
  Lacks = HasAll html bar (bar_of all) → HasAll html other (other_of all) → ⊥

  module _ (k : Next) (begins : Begins back more rest is.after k) (some : k ≡ an_end → ⊥) (no_bar : IsNoBar k) where
    pub front_passed : (now : ℕ) (end : List ℕ) → IsPassed other missing is.after now end more rest → IsFront bar other all now end more rest
    front_passed now end passed =
        let b = is_beside k is.after back more rest begins some no_bar in
        record {
          after = rest_of is.after;
          left = passed.left;
          in_bar = λ h. subst (HasAll html bar) b.bar_is (is.in_bar h);
          beside = λ h. passed.has (other_of (rest_of is.after)) (subst (HasLeft html other missing) b.other_is (is.beside h));
        }

    pub front_lacking : IsLacking other (first_of is.after) → Lacks
    front_lacking lacks = λ h g.
        let b = is_beside k is.after back more rest begins some no_bar in
        lacks missing (other_of (rest_of is.after)) (subst (HasLeft html other missing) b.other_is (is.beside g))

  pub front_ended : Begins back more rest is.after an_end → (missing ≡ 0 → length (edges bar) ≡ 0 → ⊥) → Lacks
  front_ended ends few = λ h g. go is.after ends (is.in_bar h) (is.beside g)
    where
      go : (d : Contents) → Begins back more rest d an_end → HasAll html bar (bar_of d) → HasLeft html other missing (other_of d) → ⊥
      go _ (begins_end has) h g = few (none_missing html other missing g) (none_missing html bar (length (edges bar)) h)

  -- the bookmarks bar stands next
  pub in_bar : (k : Next) → Begins back more rest is.after k → IsBar k → IsInBar back
  in_bar k begins bar_next = go is.after (subst (Begins back more rest is.after) bar_next.is begins)
    where
      go : (d : Contents) → Begins back more rest d (a_folder bar_next.entry) → IsInBar back
      go _ (begins_folder {inside = inside} {c = d} left) = (inside, d, more, rest, left)

  pub bar_lacking : (k : Next) → Begins back more rest is.after k → IsBar k
      → ((inside c : Contents) → IsLeft back inside (contents_symbols c ++ symbols.list_end ∷ more) rest → HasAll html bar inside → HasLeft html other missing c → ⊥) → Lacks
  bar_lacking k begins bar_next lacks = λ h g.
      go is.after (subst (Begins back more rest is.after) bar_next.is begins) (is.in_bar h) (is.beside g)
    where
      go : (d : Contents) → Begins back more rest d (a_folder bar_next.entry) → HasAll html bar (bar_of d) → HasLeft html other missing (other_of d) → ⊥
      go _ (begins_folder {e = e} {inside = inside} {c = d} left) h g =
          lacks inside d left (subst (HasAll html bar) (ap (λ t. cond t inside (bar_of d)) bar_next.toolbar) h)
          (subst (HasLeft html other missing) (ap (λ t. cond t d (folder e inside (other_of d))) bar_next.toolbar) g)

-- ---- the whole file

module _ (t bar other : Tree) (folders : AreFoldersOf t bar other) (c : Contents) (is : AreBookmarks html (bar_of c) (other_of c) t) where
  both : ◌≡◌ {A = List (Name × Tree)} ((bar_name, is.bar_tree) ∷ (other_name, is.other_tree) ∷ []) ((bar_name, bar) ∷ (other_name, other) ∷ [])
  both = sym is.tree ∙ folders.tree

  child_at : (i : ℕ) (es : List (Name × Tree)) → Tree
  child_at i es = (get_or es i (bar_name, bar)).1

  pub bar_has_all : HasAll html bar (bar_of c)
  unfolding child_at
  bar_has_all =
      let same : is.bar_tree ≡ bar = ap (child_at 0) both in
      subst (λ (x : Tree). HasAll html x (bar_of c)) same (tree_has_all html (bar_of c) is.bar_tree is.bar)

  pub other_has_all : HasAll html other (other_of c)
  unfolding child_at
  other_has_all =
      let same : is.other_tree ≡ other = ap (child_at 1) both in
      subst (λ (x : Tree). HasAll html x (other_of c)) same (tree_has_all html (other_of c) is.other_tree is.other)

-- what stands in the outermost folder of a file stands behind the tag that begins a list at its head
pub file_left : (bytes list : List ℕ) (head : ℕ) (c : Contents) (file : IsFile bytes c) → IsHead bytes head → list ≡ drop head bytes → IsListOf list c file.tail
file_left bytes list head c file is at =
    subst (λ (b : List ℕ). IsListOf b c file.tail) (sym at) (at_head bytes head file.head c file.tail is file.head_is file.list)
