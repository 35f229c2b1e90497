-- What is left of the outermost folder, where the bookmarks bar was found before or wasn't.
use Rattle.std.proofs.Common.{◌≡◌, ℕ, ◌+◌, ◌&&◌, max, Bool, true, false, not, cond, List, ◌∷◌, ◌++◌, Option, refl, arith}
use Rattle.std.specs.Borrow.{Bor}
use Rattle.hm_marks.specs.Contents.{nothing, link, folder, separator}
use Rattle.hm_marks_tokens.specs.Symbols as symbols
use Rattle.hm_marks_tokens.specs.Symbols.{Symbol, HasSymbols}
use Rattle.hm_marks_tokens.specs.Grammar.{Entry, Contents, contents_symbols}
use Rattle.hm_netscape_entries.specs.declared.next.Next.{Next as LentNext}
use Rattle.hm_netscape_entries.specs.declared.next.Next.TheVariants.{End, Link, Folder, Separator}
use Rattle.hm_netscape_entries.specs.Next.{entry_seen, next_seen, Next, an_end, a_link, a_folder, a_separator, IsLeft, IsInFolder, Begins, begins_end, begins_link, begins_folder, begins_separator}
use Rattle.hm_netscape_entries.specs.Toolbars.{is_toolbar, bar_of, other_of}
use Rattle.hm_marks_schema.specs.Nesting.{nesting}
use Rattle.hm_netscape_files.specs.Opened.{folders_within}

-- how many folders lie one within another in what is left
abbrev pub within_left : Bool → Contents → ℕ
within_left true d = nesting d
within_left false d = folders_within d

-- so deep lies the deepest folder that was found, and so deep the deepest of all
pub record IsWithin (whole : ℕ) (found : Bool) (deepest : ℕ) (bytes : List ℕ) (more : List Symbol) (rest : List ℕ) : Type 0 where
  pub contents : Contents
  pub left : IsLeft bytes contents more rest
  pub nested : max deepest (within_left found contents) ≡ whole

pub is_within : (c : Contents) (bytes : List ℕ) (more : List Symbol) (rest : List ℕ) → IsLeft bytes c more rest
    → IsWithin (folders_within c) false 0 bytes more rest
is_within c bytes more rest left = record { contents = c; left = left; nested = omega arith }

module _ (whole : ℕ) (found : Bool) (deepest : ℕ) (bytes : List ℕ) (more : List Symbol) (rest : List ℕ) where
  abbrev pub NextIs : Next → List ℕ → IsWithin whole found deepest bytes more rest → Type 0
  NextIs next back is = Begins back more rest is.contents next

  pub left_over : (back : List ℕ) (is : IsWithin whole found deepest bytes more rest) → NextIs an_end back is → deepest ≡ whole
  left_over back is next = go is.contents next is.nested
    where
      both : (t : Bool) → max deepest (within_left t nothing) ≡ whole → deepest ≡ whole
      both true e = omega arith
      both false e = omega arith

      go : (d : Contents) → Begins back more rest d an_end → max deepest (within_left found d) ≡ whole → deepest ≡ whole
      go _ (begins_end has) e = both found e

  pub left_link : (e : Entry) (back : List ℕ) (is : IsWithin whole found deepest bytes more rest) → NextIs (a_link e) back is
      → IsWithin whole found deepest back more rest
  left_link e back is next = go is.contents next is.nested
    where
      both : (t : Bool) (d : Contents) → max deepest (within_left t (link e d)) ≡ whole → max deepest (within_left t d) ≡ whole
      both true d e = e
      both false d e = e

      go : (d : Contents) → Begins back more rest d (a_link e) → max deepest (within_left found d) ≡ whole → IsWithin whole found deepest back more rest
      go _ (begins_link {c = d} left) e = record { contents = d; left = left; nested = both found d e }

  pub left_separator : (a back : List ℕ) (is : IsWithin whole found deepest bytes more rest) → NextIs (a_separator a) back is
      → IsWithin whole found deepest back more rest
  left_separator a back is next = go is.contents next is.nested
    where
      both : (t : Bool) (d : Contents) → max deepest (within_left t (separator a d)) ≡ whole → max deepest (within_left t d) ≡ whole
      both true d e = e
      both false d e = e

      go : (d : Contents) → Begins back more rest d (a_separator a) → max deepest (within_left found d) ≡ whole → IsWithin whole found deepest back more rest
      go _ (begins_separator {c = d} left) e = record { contents = d; left = left; nested = both found d e }

  -- a link or a separator
  pub left_other : (k : LentNext) → (k ≡ End → ⊥) → ((a t : Bor (List ℕ)) (n : Option (Bor (List ℕ))) → k ≡ Folder a t n → ⊥) → (back : List ℕ)
      → (is : IsWithin whole found deepest bytes more rest) → NextIs (next_seen k) back is → IsWithin whole found deepest back more rest
  left_other End no_end no_folder back is next = absurd (no_end refl)
  left_other (Link a t n) no_end no_folder back is next = left_link (entry_seen a t n) back is next
  left_other (Folder a t n) no_end no_folder back is next = absurd (no_folder a t n refl)
  left_other (Separator a) no_end no_folder back is next = left_separator a.now back is next

  -- a folder, and what is found in it
  pub record IsFolderLeft (e : Entry) (back : List ℕ) : Type 0 where
    pub inside : Contents
    pub behind : Contents
    pub left : IsLeft back inside (contents_symbols behind ++ symbols.list_end ∷ more) rest
    pub nested : max deepest (within_left found (folder e inside behind)) ≡ whole

  pub left_folder : (e : Entry) (back : List ℕ) (is : IsWithin whole found deepest bytes more rest) → NextIs (a_folder e) back is → IsFolderLeft e back
  left_folder e back is next = go is.contents next is.nested
    where
      go : (d : Contents) → Begins back more rest d (a_folder e) → max deepest (within_left found d) ≡ whole → IsFolderLeft e back
      go _ (begins_folder {inside = inside} {c = d} left) nested = record { inside = inside; behind = d; left = left; nested = nested }

  pub in_folder : (e : Entry) (back : List ℕ) → IsFolderLeft e back → IsInFolder back
  in_folder e back is = (is.inside, (contents_symbols is.behind ++ symbols.list_end ∷ more, (rest, is.left)))

  -- it is the bookmarks bar
  pub past_bar : (e : Entry) (back end : List ℕ) (is : IsFolderLeft e back) (n : ℕ) → n ≡ nesting is.inside → IsLeft end is.behind more rest
      → (not found && is_toolbar e.attributes) ≡ true → IsWithin whole true (max deepest n) end more rest
  past_bar e back end is n same left bar = record { contents = is.behind; left = left; nested = go found bar is.nested }
    where
      first : (t : Bool) → t ≡ true
          → max deepest (max (nesting (cond t is.inside (bar_of is.behind))) (nesting (cond t is.behind (folder e is.inside (other_of is.behind))))) ≡ whole
          → max (max deepest n) (nesting is.behind) ≡ whole
      first true h nested = omega arith
      first false h nested = let bad : ⊥ = cc in absurd bad

      go : (f : Bool) → (not f && is_toolbar e.attributes) ≡ true → max deepest (within_left f (folder e is.inside is.behind)) ≡ whole
          → max (max deepest n) (nesting is.behind) ≡ whole
      go true h nested = let bad : ⊥ = cc in absurd bad
      go false h nested = first (is_toolbar e.attributes) h nested

  -- or another one
  pub past_folder : (e : Entry) (back end : List ℕ) (is : IsFolderLeft e back) (n : ℕ) → n ≡ nesting is.inside → IsLeft end is.behind more rest
      → (not found && is_toolbar e.attributes) ≡ false → IsWithin whole found (max deepest (n + 1)) end more rest
  past_folder e back end is n same left other = record { contents = is.behind; left = left; nested = go found other is.nested }
    where
      plain : (t : Bool) → t ≡ false
          → max deepest (max (nesting (cond t is.inside (bar_of is.behind))) (nesting (cond t is.behind (folder e is.inside (other_of is.behind))))) ≡ whole
          → max (max deepest (n + 1)) (folders_within is.behind) ≡ whole
      plain true h nested = let bad : ⊥ = cc in absurd bad
      plain false h nested = omega arith

      go : (f : Bool) → (not f && is_toolbar e.attributes) ≡ false → max deepest (within_left f (folder e is.inside is.behind)) ≡ whole
          → max (max deepest (n + 1)) (within_left f is.behind) ≡ whole
      go true h nested = omega arith
      go false h nested = plain (is_toolbar e.attributes) h nested
