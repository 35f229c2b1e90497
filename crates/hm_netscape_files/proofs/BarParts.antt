-- What holds of all that stands in a folder holds in its bookmarks bar and beside it, and of what is put together with one.
use Rattle.std.proofs.Common.{◌≡◌, ℕ, Bool, true, false, cond, List, [], ◌∷◌, Option, Some, None, subst}
use Rattle.std.proofs.lemmas.Option.{none-some, same_Some}
use Rattle.hm_marks.specs.Contents.{nothing, link, folder, separator}
use Rattle.hm_marks.specs.Layouts.{AreSound}
use Rattle.hm_marks_tokens.specs.Grammar.{Entry, Contents}
use Rattle.hm_netscape_entries.specs.Toolbars.{is_toolbar, bar_of, other_of}
use Rattle.hm_netscape_files.specs.Anew.{bar_entry, new_bar, put_behind, is_something, with_bar}

module _ (IsLink IsFolder : Entry → Type 0) (IsSeparator : List ℕ → Type 0) where
  abbrev Holds : Contents → Type 0
  Holds c = AreSound IsLink IsFolder IsSeparator c

  -- ---- in parts

  pub bar_holds : (c : Contents) → Holds c → Holds (bar_of c)
  bar_holds nothing h = tt
  bar_holds (link e c) h = bar_holds c h.1
  bar_holds (folder e inside c) h = go (is_toolbar e.attributes) (bar_holds c h.2)
    where
      go : (t : Bool) → Holds (bar_of c) → Holds (cond t inside (bar_of c))
      go true more = h.1
      go false more = more
  bar_holds (separator a c) h = bar_holds c h.1

  pub other_holds : (c : Contents) → Holds c → Holds (other_of c)
  other_holds nothing h = tt
  other_holds (link e c) h = (h.0, other_holds c h.1)
  other_holds (folder e inside c) h = go (is_toolbar e.attributes) (other_holds c h.2)
    where
      go : (t : Bool) → Holds (other_of c) → Holds (cond t c (folder e inside (other_of c)))
      go true more = h.2
      go false more = (h.0, h.1, more)
  other_holds (separator a c) h = (h.0, other_holds c h.1)

  entry_holds : (c : Contents) (e : Entry) → Holds c → bar_entry c ≡ Some e → IsFolder e
  entry_holds nothing e h is = absurd (none-some e is)
  entry_holds (link f c) e h is = entry_holds c e h.1 is
  entry_holds (folder f inside c) e h is = go (is_toolbar f.attributes) is (λ i. entry_holds c e h.2 i)
    where
      go : (t : Bool) → cond t (Some f) (bar_entry c) ≡ Some e → (bar_entry c ≡ Some e → IsFolder e) → IsFolder e
      go true is more = subst IsFolder (same_Some f e is) h.0
      go false is more = more is
  entry_holds (separator a c) e h is = entry_holds c e h.1 is

  -- ---- put together

  put_holds : {X : Type 0} (xs : List X) (e : Entry) (inside c : Contents) → IsFolder e → Holds inside → Holds c → Holds (put_behind xs e inside c)
  put_holds [] e inside c is within h = (is, within, h)
  put_holds (x ∷ xs) e inside nothing is within h = (is, within, tt)
  put_holds (x ∷ xs) e inside (link f c) is within h = (h.0, put_holds xs e inside c is within h.1)
  put_holds (x ∷ xs) e inside (folder f b c) is within h = (h.0, h.1, put_holds xs e inside c is within h.2)
  put_holds (x ∷ xs) e inside (separator a c) is within h = (h.0, put_holds xs e inside c is within h.1)

  pub with_holds : {X : Type 0} (old : Contents) (o : Option Entry) (xs : List X) (bar other : Contents) → IsFolder new_bar → Holds old → bar_entry old ≡ o
      → Holds bar → Holds other → Holds (with_bar o xs bar other)
  with_holds old (Some e) xs bar other new h is one two = put_holds xs e bar other (entry_holds old e h is) one two
  with_holds old None xs bar other new h is one two = go (is_something bar)
    where
      go : (t : Bool) → Holds (cond t (folder new_bar bar other) other)
      go true = (new, one, two)
      go false = two
