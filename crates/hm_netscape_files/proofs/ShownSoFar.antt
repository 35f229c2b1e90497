-- What was read of a folder, and what is left of it.
use Rattle.std.proofs.Common.{◌≡◌, ℕ, ◌&&◌, Bool, true, false, not, cond, List, [], ◌∷◌, ◌++◌, refl, sym, ap, ◌∙◌}
use Rattle.hm_marks.specs.Contents as marks
use Rattle.hm_marks.specs.Contents.{nothing, link, folder, separator}
use Rattle.hm_marks_trees.specs.Nodes.{Plain, PlainItem, in_front, contents_of}
use Rattle.hm_marks_tokens.specs.Symbols.{Symbol, HasSymbols}
use Rattle.hm_marks_tokens.specs.Grammar.{Entry, Contents}
use Rattle.hm_marks_tokens.proofs.Unambiguous.{ended}
use Rattle.hm_netscape_entries.specs.Entries.{text_of, address_in}
use Rattle.hm_netscape_entries.specs.Next.{an_end, a_link, a_folder, a_separator, IsLeft, Begins, begins_end, begins_link, begins_folder, begins_separator}
use Rattle.hm_netscape_entries.specs.Toolbars.{is_toolbar, bar_of, other_of}
use Rattle.hm_netscape_files.specs.Shown.{shown_of}
use Rattle.hm_netscape_files.proofs.Before.{before, before_nothing, before_append}

-- a link and a folder as a tree shows them
abbrev pub link_item : Entry → PlainItem
link_item e = marks.a_link (text_of e.title, address_in e.attributes)

abbrev pub folder_item : Entry → Plain → PlainItem
folder_item e inside = marks.a_folder (text_of e.title) inside

behind_one : (p : Plain) (is : List PlainItem) (i : PlainItem) (q : Plain) → p ≡ before is (in_front i q) → p ≡ before (is ++ i ∷ []) q
behind_one p is i q e = e ∙ sym (before_append is (i ∷ []) q)

all_read : (p : Plain) (is : List PlainItem) → p ≡ before is nothing → contents_of is ≡ p
all_read p is e = sym (e ∙ before_nothing is)

-- ---- one folder

-- of what stands in a folder these items were read, and this is left
pub record IsShown (p : Plain) (is : List PlainItem) (bytes : List ℕ) (more : List Symbol) (rest : List ℕ) : Type 0 where
  pub contents : Contents
  pub left : IsLeft bytes contents more rest
  pub shown : p ≡ before is (shown_of contents)

pub is_shown : (c : Contents) (bytes : List ℕ) (more : List Symbol) (rest : List ℕ) → IsLeft bytes c more rest → IsShown (shown_of c) [] bytes more rest
is_shown c bytes more rest left = record { contents = c; left = left; shown = refl }

module _ (p : Plain) (is : List PlainItem) (back : List ℕ) (more : List Symbol) (rest : List ℕ) where
  pub shown_end : (d : Contents) → p ≡ before is (shown_of d) → Begins back more rest d an_end → (contents_of is ≡ p) × HasSymbols false back more rest
  shown_end _ e (begins_end has) = (all_read p is e, has)

  pub shown_link : (x : Entry) (d : Contents) → p ≡ before is (shown_of d) → Begins back more rest d (a_link x) → IsShown p (is ++ link_item x ∷ []) back more rest
  shown_link x _ e (begins_link {c = d} left) = record { contents = d; left = left; shown = behind_one p is (link_item x) (shown_of d) e }

  pub shown_separator : (a : List ℕ) (d : Contents) → p ≡ before is (shown_of d) → Begins back more rest d (a_separator a) → IsShown p is back more rest
  shown_separator a _ e (begins_separator {c = d} left) = record { contents = d; left = left; shown = e }

  pub record IsFolderShown (x : Entry) : Type 0 where
    pub inside : Contents
    pub behind : Contents
    pub left : IsLeft back inside (ended behind more) rest
    pub shown : p ≡ before is (in_front (folder_item x (shown_of inside)) (shown_of behind))

  pub shown_folder : (x : Entry) (d : Contents) → p ≡ before is (shown_of d) → Begins back more rest d (a_folder x) → IsFolderShown x
  shown_folder x _ e (begins_folder {inside = inside} {c = d} left) = record { inside = inside; behind = d; left = left; shown = e }

  pub past_shown : (x : Entry) (f : IsFolderShown x) (q : Plain) (end : List ℕ) → q ≡ shown_of f.inside → IsLeft end f.behind more rest
      → IsShown p (is ++ folder_item x q ∷ []) end more rest
  past_shown x f q end same left =
      record {
        contents = f.behind;
        left = left;
        shown = behind_one p is (folder_item x q) (shown_of f.behind)
            (f.shown ∙ ap (λ (r : Plain). before is (in_front (folder_item x r) (shown_of f.behind))) (sym same));
      }

-- ---- the outermost one

-- what is left of the bookmarks bar and beside it
abbrev pub bar_left : Bool → Plain → Contents → Plain
bar_left true bar d = bar
bar_left false bar d = shown_of (bar_of d)

abbrev pub other_left : Bool → Contents → Contents
other_left true d = d
other_left false d = other_of d

-- the bookmarks bar was found or wasn't, and of what stands beside it these items were read
pub record AreShown (bar other : Plain) (found : Bool) (now : Plain) (is : List PlainItem) (bytes : List ℕ) (more : List Symbol) (rest : List ℕ) : Type 0 where
  pub contents : Contents
  pub left : IsLeft bytes contents more rest
  pub bar_is : bar ≡ bar_left found now contents
  pub other_is : other ≡ before is (shown_of (other_left found contents))

pub are_shown : (c : Contents) (bytes : List ℕ) (more : List Symbol) (rest : List ℕ) → IsLeft bytes c more rest
    → AreShown (shown_of (bar_of c)) (shown_of (other_of c)) false nothing [] bytes more rest
are_shown c bytes more rest left = record { contents = c; left = left; bar_is = refl; other_is = refl }

module _ (bar other : Plain) (now : Plain) (is : List PlainItem) (back : List ℕ) (more : List Symbol) (rest : List ℕ) where
  pub bar_end : (found : Bool) (d : Contents) → (found ≡ false → now ≡ nothing) → bar ≡ bar_left found now d → Begins back more rest d an_end → now ≡ bar
  bar_end true _ none e (begins_end has) = sym e
  bar_end false _ none e (begins_end has) = none refl ∙ sym e

  pub other_end : (found : Bool) (d : Contents) → other ≡ before is (shown_of (other_left found d)) → Begins back more rest d an_end → contents_of is ≡ other
  other_end true _ e (begins_end has) = all_read other is e
  other_end false _ e (begins_end has) = all_read other is e

  pub bar_link : (found : Bool) (x : Entry) (d : Contents) → bar ≡ bar_left found now d → other ≡ before is (shown_of (other_left found d))
      → Begins back more rest d (a_link x) → AreShown bar other found now (is ++ link_item x ∷ []) back more rest
  bar_link true x _ b e (begins_link {c = d} left) =
      record { contents = d; left = left; bar_is = b; other_is = behind_one other is (link_item x) (shown_of d) e }
  bar_link false x _ b e (begins_link {c = d} left) =
      record { contents = d; left = left; bar_is = b; other_is = behind_one other is (link_item x) (shown_of (other_of d)) e }

  pub bar_separator : (found : Bool) (a : List ℕ) (d : Contents) → bar ≡ bar_left found now d → other ≡ before is (shown_of (other_left found d))
      → Begins back more rest d (a_separator a) → AreShown bar other found now is back more rest
  bar_separator true a _ b e (begins_separator {c = d} left) = record { contents = d; left = left; bar_is = b; other_is = e }
  bar_separator false a _ b e (begins_separator {c = d} left) = record { contents = d; left = left; bar_is = b; other_is = e }

  pub record IsBarFolder (found : Bool) (x : Entry) : Type 0 where
    pub inside : Contents
    pub behind : Contents
    pub left : IsLeft back inside (ended behind more) rest
    pub bar_is : bar ≡ bar_left found now (folder x inside behind)
    pub other_is : other ≡ before is (shown_of (other_left found (folder x inside behind)))

  pub bar_folder : (found : Bool) (x : Entry) (d : Contents) → bar ≡ bar_left found now d → other ≡ before is (shown_of (other_left found d))
      → Begins back more rest d (a_folder x) → IsBarFolder found x
  bar_folder found x _ b e (begins_folder {inside = inside} {c = d} left) =
      record { inside = inside; behind = d; left = left; bar_is = b; other_is = e }

  -- it is the bookmarks bar
  pub past_bar : (found : Bool) (x : Entry) (f : IsBarFolder found x) (q : Plain) (end : List ℕ) → q ≡ shown_of f.inside → IsLeft end f.behind more rest
      → (not found && is_toolbar x.attributes) ≡ true → AreShown bar other true q is end more rest
  past_bar true x f q end same left it = let bad : ⊥ = cc in absurd bad
  past_bar false x f q end same left it =
      record {
        contents = f.behind;
        left = left;
        bar_is = f.bar_is ∙ ap (λ t. shown_of (cond t f.inside (bar_of f.behind))) it ∙ sym same;
        other_is = f.other_is ∙ ap (λ t. before is (shown_of (cond t f.behind (folder x f.inside (other_of f.behind))))) it;
      }

  -- or another one
  pub past_other : (found : Bool) (x : Entry) (f : IsBarFolder found x) (q : Plain) (end : List ℕ) → q ≡ shown_of f.inside → IsLeft end f.behind more rest
      → (not found && is_toolbar x.attributes) ≡ false → AreShown bar other found now (is ++ folder_item x q ∷ []) end more rest
  past_other true x f q end same left isnt =
      record {
        contents = f.behind;
        left = left;
        bar_is = f.bar_is;
        other_is = behind_one other is (folder_item x q) (shown_of f.behind)
            (f.other_is ∙ ap (λ (r : Plain). before is (in_front (folder_item x r) (shown_of f.behind))) (sym same));
      }
  past_other false x f q end same left isnt =
      record {
        contents = f.behind;
        left = left;
        bar_is = f.bar_is ∙ ap (λ t. shown_of (cond t f.inside (bar_of f.behind))) isnt;
        other_is = behind_one other is (folder_item x q) (shown_of (other_of f.behind))
            (f.other_is ∙ ap (λ t. before is (shown_of (cond t f.behind (folder x f.inside (other_of f.behind))))) isnt
            ∙ ap (λ (r : Plain). before is (in_front (folder_item x r) (shown_of (other_of f.behind)))) (sym same));
      }
