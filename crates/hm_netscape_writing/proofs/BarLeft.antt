-- What is left of the outermost folder, where the bookmarks bar is looked for.
use Rattle.std.proofs.Common.{◌≡◌, ℕ, Bool, true, false, cond, List, ◌∷◌, ◌++◌, Option, Some, None, refl, sym, ap, ◌∙◌}
use Rattle.std.specs.Borrow.{Bor}
use Rattle.std.proofs.lemmas.Option.{none-some}
use Rattle.std.specs.Option.{is_some}
use Rattle.hm_marks.specs.Contents.{nothing, link, folder, separator}
use Rattle.hm_marks_tokens.specs.Symbols as symbols
use Rattle.hm_marks_tokens.specs.Symbols.{Symbol, HasSymbols}
use Rattle.hm_marks_tokens.specs.Grammar.{Entry, Contents, contents_symbols}
use Rattle.hm_netscape_entries.specs.Next as next
use Rattle.hm_netscape_entries.specs.Next.{Next, an_end, entry_seen, next_seen, IsLeft, IsInFolder, Begins, begins_end, begins_link, begins_folder, begins_separator}
use Rattle.hm_netscape_entries.specs.declared.next.Next.{Next as LentNext}
use Rattle.hm_netscape_entries.specs.declared.next.Next.TheVariants.{End, Link, Folder, Separator}
use Rattle.hm_netscape_entries.specs.Toolbars.{is_toolbar}
use Rattle.hm_netscape_files.specs.Anew.{bar_entry}
use Rattle.hm_netscape_lines.specs.Behind.{joined}
use Rattle.hm_netscape_writing.specs.Added.{first_of}
use Rattle.hm_netscape_writing.specs.Outermost.{IsNoBar}
use Rattle.hm_netscape_writing.proofs.Staying.{IsFolderNext}

-- ---- whether there is one

-- it is in what is left, or nowhere
pub record IsBarLeft (c : Contents) (bytes : List ℕ) (more : List Symbol) (rest : List ℕ) : Type 0 where
  pub after : Contents
  pub left : IsLeft bytes after more rest
  pub same : bar_entry c ≡ bar_entry after

pub bar_begun : (c : Contents) (bytes : List ℕ) (more : List Symbol) (rest : List ℕ) → IsLeft bytes c more rest → IsBarLeft c bytes more rest
bar_begun c bytes more rest left = record { after = c; left = left; same = refl }

module _ (c : Contents) (bytes next_bytes : List ℕ) (more : List Symbol) (rest : List ℕ) (is : IsBarLeft c bytes more rest) where
  pub in_left : IsInFolder bytes
  in_left = (is.after, (more, (rest, is.left)))

  pub no_bar : Begins next_bytes more rest is.after an_end → false ≡ is_some (bar_entry c)
  no_bar ends = sym (ap is_some is.same ∙ go is.after ends)
    where
      go : (d : Contents) → Begins next_bytes more rest d an_end → is_some (bar_entry d) ≡ false
      go _ (begins_end has) = refl

  pub bar_there : (e : Entry) → Begins next_bytes more rest is.after (next.a_folder e) → is_toolbar e.attributes ≡ true → true ≡ is_some (bar_entry c)
  bar_there e begins bar = sym (ap is_some is.same ∙ go is.after begins)
    where
      go : (d : Contents) → Begins next_bytes more rest d (next.a_folder e) → is_some (bar_entry d) ≡ true
      go _ (begins_folder {c = d} left) = ap (λ t. is_some (cond t (Some e) (bar_entry d))) bar

  pub bar_behind : (e : Entry) → (f : IsFolderNext is.after e next_bytes more rest) → is_toolbar e.attributes ≡ false → (end : List ℕ)
      → HasSymbols false end (contents_symbols f.behind ++ symbols.list_end ∷ more) rest → IsBarLeft c end more rest
  bar_behind e f other end left = record {
    after = f.behind;
    left = left;
    same = is.same ∙ ap bar_entry f.are ∙ ap (λ t. cond t (Some e) (bar_entry f.behind)) other;
  }

  pub bar_passed : (k : LentNext) → (k ≡ End → ⊥) → ((a t : Bor (List ℕ)) (n : Option (Bor (List ℕ))) → k ≡ Folder a t n → ⊥)
      → Begins next_bytes more rest is.after (next_seen k) → IsBarLeft c next_bytes more rest
  bar_passed End no_end no_folder begins = absurd (no_end refl)
  bar_passed (Folder a t n) no_end no_folder begins = absurd (no_folder a t n refl)
  bar_passed (Link a t n) no_end no_folder begins = go is.after begins is.same
    where
      go : (d : Contents) → Begins next_bytes more rest d (next.a_link (entry_seen a t n)) → bar_entry c ≡ bar_entry d → IsBarLeft c next_bytes more rest
      go _ (begins_link {c = d} left) same = record { after = d; left = left; same = same }
  bar_passed (Separator a) no_end no_folder begins = go is.after begins is.same
    where
      go : (d : Contents) → Begins next_bytes more rest d (next.a_separator a.now) → bar_entry c ≡ bar_entry d → IsBarLeft c next_bytes more rest
      go _ (begins_separator {c = d} left) same = record { after = d; left = left; same = same }

-- ---- what was passed in front of it

-- what stands next is not it, so it isn't the first
pub not_first : (c : Contents) (k : Next) (bytes : List ℕ) (more : List Symbol) (rest : List ℕ) → Begins bytes more rest c k → IsNoBar k → bar_entry (first_of c) ≡ None
not_first _ _ bytes more rest (begins_end has) other = refl
not_first _ _ bytes more rest (begins_link left) other = refl
not_first _ _ bytes more rest (begins_folder {e = e} left) other = ap (λ t. cond t (Some e) None) other
not_first _ _ bytes more rest (begins_separator left) other = refl

pub none_joined : (c d : Contents) → bar_entry c ≡ None → bar_entry (joined c d) ≡ bar_entry d
none_joined nothing d none = refl
none_joined (link e c) d none = none_joined c d none
none_joined (folder e inside c) d none = go (is_toolbar e.attributes) none (λ h. none_joined c d h)
  where
    go : (t : Bool) → cond t (Some e) (bar_entry c) ≡ None → (bar_entry c ≡ None → bar_entry (joined c d) ≡ bar_entry d)
        → cond t (Some e) (bar_entry (joined c d)) ≡ bar_entry d
    go true bad more = absurd (none-some e (sym bad))
    go false none more = more none
none_joined (separator a c) d none = none_joined c d none

-- nor is it anywhere, where the end of the folder stands next
pub none_at_end : (all passed after : Contents) (bytes : List ℕ) (more : List Symbol) (rest : List ℕ) → all ≡ joined passed after → Begins bytes more rest after an_end
    → bar_entry passed ≡ None → bar_entry all ≡ None
none_at_end all passed after bytes more rest are ends none = ap bar_entry are ∙ none_joined passed after none ∙ go after ends
  where
    go : (d : Contents) → Begins bytes more rest d an_end → bar_entry d ≡ None
    go _ (begins_end has) = refl
