-- What was sought of a folder, one entry after another.
use Rattle.std.proofs.Common.{◌≡◌, ◌-◌, ℕ, List, ◌∷◌, ◌++◌, false, Option, Some, None, sym, subst}
use Rattle.std.specs.Prelude.{MatchOption}
use Rattle.hm_tree.specs.Names.{Name}
use Rattle.hm_tree.specs.Nodes.{Tree}
use Rattle.hm_marks.specs.Among.{IsAmong, HasLeft, HasAll}
use Rattle.hm_marks.specs.Contents.{nothing, link, folder}
use Rattle.hm_marks.specs.FolderTrees.{IsLinkTree, IsFolderTree}
use Rattle.hm_marks.proofs.Among.{none_missing, past_rule, link_there, past_link, folder_there, one_has_all, past_folder}
use Rattle.hm_marks_tokens.specs.Symbols as symbols
use Rattle.hm_marks_tokens.specs.Symbols.{Symbol, HasSymbols}
use Rattle.hm_marks_tokens.specs.Grammar.{Entry, Contents, contents_symbols}
use Rattle.hm_netscape_entries.specs.Entries.{html}
use Rattle.hm_netscape_entries.specs.Next.{an_end, a_link, a_folder, a_separator, IsLeft, IsInFolder, Begins, begins_end, begins_link, begins_folder, begins_separator}
use Rattle.hm_netscape_lines.specs.Behind.{joined}
use Rattle.hm_netscape_writing.specs.Added.{first_of, rest_of}
use Rattle.hm_netscape_writing.proofs.Joining.{first_joined}
use Rattle.hm_netscape_marks.specs.Seeking.{IsLacking, IsPassed}

pub option_weaker : {X : Type 0} (o : Option X) (P Q : Type 0) (R : X → Type 0) → (P → Q) → MatchOption o P R → MatchOption o Q R
option_weaker None P Q R more h = more h
option_weaker (Some x) P Q R more h = h

-- ---- one entry

module _ (t : Tree) (n : ℕ) (e : Entry) (c : Contents) (back : List ℕ) (more : List Symbol) (rest : List ℕ) where
  pub link_passed : Begins back more rest c (a_link e) → IsPassed t n c (n - 1) back more rest
  link_passed begins = go c begins
    where
      go : (c : Contents) → Begins back more rest c (a_link e) → IsPassed t n c (n - 1) back more rest
      go _ (begins_link left) = record { left = left; has = λ d h. past_link html t n e d h }

  pub link_lacking : Begins back more rest c (a_link e) → IsLacking t (link e nothing) → IsLacking t (first_of c)
  link_lacking begins lacks = go c begins
    where
      go : (c : Contents) → Begins back more rest c (a_link e) → IsLacking t (first_of c)
      go _ (begins_link left) = lacks

  -- a folder, where it is known what stands behind any in these bytes
  pub folder_passed : Begins back more rest c (a_folder e) → (end : List ℕ)
      → ((inside : Contents) (ms : List Symbol) → IsLeft back inside ms rest → HasSymbols false end ms rest) → IsPassed t n c (n - 1) end more rest
  folder_passed begins end passes = go c begins
    where
      go : (c : Contents) → Begins back more rest c (a_folder e) → IsPassed t n c (n - 1) end more rest
      go _ (begins_folder {inside = inside} {c = d} left) =
          record { left = passes inside (contents_symbols d ++ symbols.list_end ∷ more) left; has = λ d h. past_folder html t n e inside d h }

  pub folder_lacking : Begins back more rest c (a_folder e) → ((inside : Contents) (ms : List Symbol) → IsLeft back inside ms rest → IsLacking t (folder e inside nothing))
      → IsLacking t (first_of c)
  folder_lacking begins lacks = go c begins
    where
      go : (c : Contents) → Begins back more rest c (a_folder e) → IsLacking t (first_of c)
      go _ (begins_folder {inside = inside} {c = d} left) = lacks inside (contents_symbols d ++ symbols.list_end ∷ more) left

  pub in_inner : Begins back more rest c (a_folder e) → IsInFolder back
  in_inner begins = go c begins
    where
      go : (c : Contents) → Begins back more rest c (a_folder e) → IsInFolder back
      go _ (begins_folder {inside = inside} {c = d} left) = (inside, (contents_symbols d ++ symbols.list_end ∷ more, (rest, left)))

pub rule_passed : (t : Tree) (n : ℕ) (a : List ℕ) (c : Contents) (back : List ℕ) (more : List Symbol) (rest : List ℕ) → Begins back more rest c (a_separator a)
    → IsPassed t n c n back more rest
rule_passed t n a _ back more rest (begins_separator left) = record { left = left; has = λ d h. past_rule html t n a d h }

-- ---- what a tree lacks

module _ (t : Tree) (k : Name) (e : Entry) where
  pub link_sought : (address : Name) → html.link_key e ≡ k → html.address e ≡ address → ((x : Tree) → IsLinkTree address x → IsAmong k t x → ⊥) → IsLacking t (link e nothing)
  link_sought address key is none = λ n d has.
      link_there html t n e d has
      (λ x tree among. none x (subst (λ (m : Name). IsLinkTree m x) is tree) (subst (λ (m : Name). IsAmong m t x) key among))

  pub folder_sought : html.folder_key e ≡ k → ((u x : Tree) → IsFolderTree u x → IsAmong k t x → ⊥) → (inside : Contents) → IsLacking t (folder e inside nothing)
  folder_sought key none inside = λ n d has.
      folder_there html t n e inside d has (λ u x tree among. none u x tree (subst (λ (m : Name). IsAmong m t x) key among))

  pub inner_sought : html.folder_key e ≡ k → (v : Tree) → ((u x : Tree) → IsFolderTree u x → IsAmong k t x → u ≡ v) → (inside : Contents) → (HasAll html v inside → ⊥)
      → IsLacking t (folder e inside nothing)
  inner_sought key v one inside other = λ n d has.
      other (one_has_all html t n e inside d has v (λ u x tree among. one u x tree (subst (λ (m : Name). IsAmong m t x) key among)))

-- ---- one after another

-- what is left of a folder, of which a tree has all where it has all of the folder
pub record IsAhead (t : Tree) (whole : ℕ) (c : Contents) (missing : ℕ) (bytes : List ℕ) (more : List Symbol) (rest : List ℕ) : Type 0 where
  pub after : Contents
  pub left : IsLeft bytes after more rest
  pub has : HasLeft html t whole c → HasLeft html t missing after

pub is_ahead : (t : Tree) (whole : ℕ) (c : Contents) (bytes : List ℕ) (more : List Symbol) (rest : List ℕ) → IsLeft bytes c more rest
    → IsAhead t whole c whole bytes more rest
is_ahead t whole c bytes more rest left = record { after = c; left = left; has = λ h. h }

module _ (t : Tree) (whole : ℕ) (c : Contents) (missing : ℕ) (bytes : List ℕ) (more : List Symbol) (rest : List ℕ) (is : IsAhead t whole c missing bytes more rest) where
  all_ahead : HasLeft html t whole c → HasLeft html t missing (joined (first_of is.after) (rest_of is.after))
  all_ahead h = subst (HasLeft html t missing) (sym (first_joined is.after)) (is.has h)

  pub more_ahead : (now : ℕ) (back : List ℕ) → IsPassed t missing is.after now back more rest → IsAhead t whole c now back more rest
  more_ahead now back passed = record { after = rest_of is.after; left = passed.left; has = λ h. passed.has (rest_of is.after) (all_ahead h) }

  pub none_ahead : IsLacking t (first_of is.after) → HasLeft html t whole c → ⊥
  none_ahead lacks h = lacks missing (rest_of is.after) (all_ahead h)

  pub too_few : (back : List ℕ) → Begins back more rest is.after an_end → (missing ≡ 0 → ⊥) → HasLeft html t whole c → ⊥
  too_few back ends some h = go is.after ends (is.has h)
    where
      go : (d : Contents) → Begins back more rest d an_end → HasLeft html t missing d → ⊥
      go _ (begins_end has) h = some (none_missing html t missing h)

pub ends_there : (d : Contents) (back : List ℕ) (more : List Symbol) (rest : List ℕ) → Begins back more rest d an_end → HasSymbols false back more rest
ends_there _ back more rest (begins_end has) = has
