-- What stands in a folder, entry after entry, sought in the tree of what is to stand there.
use Rattle.std.specs.Prelude.{◌≡◌, ◌∷◌, ◌++◌, ℕ, true, List}
use Rattle.hm_tree.specs.Nodes.{Tree}
use Rattle.hm_marks.specs.Among.{HasLeft}
use Rattle.hm_marks_tokens.specs.Symbols as symbols
use Rattle.hm_marks_tokens.specs.Symbols.{Symbol}
use Rattle.hm_marks_tokens.specs.Grammar.{Entry, Contents, contents_symbols}
use Rattle.hm_netscape_entries.specs.Entries.{html}
use Rattle.hm_netscape_entries.specs.Next.{Next, a_folder, IsLeft}
use Rattle.hm_netscape_entries.specs.Toolbars.{is_toolbar}
use Rattle.hm_netscape_lines.specs.Behind.{joined}
use Rattle.hm_netscape_writing.specs.Added.{first_of, rest_of}

-- a tree hasn't all of what is left of a folder, where this stands first
abbrev pub IsLacking : Tree → Contents → Type 0
IsLacking t first = (missing : ℕ) (behind : Contents) → HasLeft html t missing (joined first behind) → ⊥

-- the first of what was left of a folder was passed: bytes begin with what stands behind it, of which a tree has all where it had
-- all before, with so many links and folders that are missing now
pub record IsPassed (t : Tree) (missing : ℕ) (c : Contents) (now : ℕ) (bytes : List ℕ) (more : List Symbol) (rest : List ℕ) : Type 0 where
  pub left : IsLeft bytes (rest_of c) more rest
  pub has : (behind : Contents) → HasLeft html t missing (joined (first_of c) behind) → HasLeft html t now behind

-- what stands next is the bookmarks bar
pub record IsBar (next : Next) : Type 0 where
  pub entry : Entry
  pub is : next ≡ a_folder entry
  pub toolbar : is_toolbar entry.attributes ≡ true

-- bytes begin with what stands in a folder, and behind its end with what is left of the folder in which it stands
abbrev pub IsInBar : List ℕ → Type 0
IsInBar bytes = (inside c : Contents) × (more : List Symbol) × (rest : List ℕ) × IsLeft bytes inside (contents_symbols c ++ symbols.list_end ∷ more) rest
