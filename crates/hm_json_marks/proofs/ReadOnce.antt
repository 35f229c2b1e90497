-- Bytes are read as one tree of bookmarks, or refused for one fault.
use Rattle.std.proofs.Common.{◌≡◌, ℕ, zero, suc, List, None, refl, sym, ap, ◌∙◌, subst}
use Rattle.std.specs.Prelude.{Result, Ok, Err}
use Rattle.std.proofs.lemmas.Option.{same_Some, none-some}
use Rattle.hm_tree.specs.Nodes.{Tree}
use Rattle.serde_json.specs.Data.{Data}
use Rattle.hm_marks_schema.specs.Bookmarks.{AreBookmarks}
use Rattle.hm_marks_schema.specs.Nesting.{marks_over}
use Rattle.hm_marks_schema.proofs.WholeFiles.{bookmarks_once}
use Rattle.hm_json_nodes.specs.Nodes.{json}
use Rattle.hm_json_nodes.specs.Numbers.{IsFirstBad}
use Rattle.hm_json_nodes.proofs.FirstBad as misfits
use Rattle.hm_format.specs.declared.fault.FormatFault.{FormatFault}
use Rattle.hm_format.specs.declared.fault.FormatFault.TheVariants.{BadOption, NotUtf8, BadItem, NoKey, TooDeep, Outside, Memory}
use Rattle.hm_format.specs.Formats.{IsReadFault}
use Rattle.hm_json_marks.specs.Roots.{HasRoots, numbered, fits, IsBadItem}
use Rattle.hm_json_marks.specs.Files.{IsFile, IsBookmarkFile, IsTooDeep, JsonReads}
use Rattle.hm_json_marks.proofs.RootLaws.{bar_once, other_once, contents_once, all_fit}

module _ (bytes : List ℕ) where
  -- ---- the tree

  pub book_once : (t u : Tree) → IsBookmarkFile bytes t → IsBookmarkFile bytes u → t ≡ u
  book_once t u h k =
      let bar = contents_once (bar_once h.file.roots k.file.roots) h.file.bar k.file.bar in
      let other = contents_once (other_once h.file.roots k.file.roots) h.file.other k.file.other in
      bookmarks_once json k.file.bar.contents k.file.other.contents t u
      (subst (λ c. AreBookmarks json k.file.bar.contents c t) other (subst (λ c. AreBookmarks json c h.file.other.contents t) bar h.tree)) k.tree

  over_once : (t u : Tree) → IsBookmarkFile bytes t → IsBookmarkFile bytes u → marks_over t ≡ marks_over u
  over_once t u h k = ap marks_over (book_once t u h k)

  not_over : (t : Tree) (d : ℕ) → IsBookmarkFile bytes t → marks_over t ≡ None → ¬ (IsTooDeep bytes d)
  not_over t d h none deep = none-some d (sym none ∙ over_once t deep.tree h deep.book ∙ deep.over)

  deep_once : (d e : ℕ) → IsTooDeep bytes d → IsTooDeep bytes e → d ≡ e
  deep_once d e h k = same_Some d e (sym h.over ∙ over_once h.tree k.tree h.book k.book ∙ k.over)

  -- ---- misfits

  -- the first misfit of these roots is that of the others
  moved : (b o c p : Data) (n : ℕ) → HasRoots bytes b o → HasRoots bytes c p → IsFirstBad fits (numbered b o) n → IsFirstBad fits (numbered c p) n
  moved b o c p n h k bad =
      subst (λ o. IsFirstBad fits (numbered c o) n) (other_once h k) (subst (λ b. IsFirstBad fits (numbered b o) n) (bar_once h k) bad)

  no_bad : (n : ℕ) (h : IsFile bytes) → ¬ (IsBadItem bytes n)
  no_bad zero h none = none h.bar_node h.other_node h.roots
  no_bad (suc n) h (b, o, roots, bad) =
      misfits.none_bad fits (numbered h.bar_node h.other_node) (suc n) (all_fit h) (moved b o h.bar_node h.other_node (suc n) roots h.roots bad)

  bad_once : (n m : ℕ) → IsBadItem bytes n → IsBadItem bytes m → n ≡ m
  bad_once zero zero h k = refl
  bad_once zero (suc m) h (c, p, roots, bad) = absurd (h c p roots)
  bad_once (suc n) zero (b, o, roots, bad) k = absurd (k b o roots)
  bad_once (suc n) (suc m) (b, o, roots, bad) (c, p, too, also) =
      misfits.bad_once fits (numbered c p) (suc n) (suc m) (moved b o c p (suc n) roots too bad) also

  -- ---- answers

  pub read_once : (r q : Result Tree FormatFault) → JsonReads bytes r → JsonReads bytes q → r ≡ q
  read_once (Err (BadOption key)) q h k = absurd h
  read_once (Err (NoKey n)) q h k = absurd h
  read_once (Err (Outside path)) q h k = absurd h
  read_once (Err Memory) q h k = absurd h
  read_once r (Err (BadOption key)) h k = absurd k
  read_once r (Err (NoKey n)) h k = absurd k
  read_once r (Err (Outside path)) h k = absurd k
  read_once r (Err Memory) h k = absurd k
  read_once (Ok t) (Ok u) h k = ap Ok (book_once t u h.1 k.1)
  read_once (Ok t) (Err (NotUtf8 at)) h k = absurd (k.0 h.0)
  read_once (Ok t) (Err (BadItem n)) h k = absurd (no_bad n h.1.file k.1)
  read_once (Ok t) (Err (TooDeep d)) h k = absurd (not_over t d h.1 h.2 k.1)
  read_once (Err (NotUtf8 at)) (Ok u) h k = absurd (h.0 k.0)
  read_once (Err (NotUtf8 at)) (Err (NotUtf8 place)) h k = ap (λ n. Err (NotUtf8 n)) (h.1 ∙ sym k.1)
  read_once (Err (NotUtf8 at)) (Err (BadItem n)) h k = absurd (h.0 k.0)
  read_once (Err (NotUtf8 at)) (Err (TooDeep d)) h k = absurd (h.0 k.0)
  read_once (Err (BadItem n)) (Ok u) h k = absurd (no_bad n k.1.file h.1)
  read_once (Err (BadItem n)) (Err (NotUtf8 at)) h k = absurd (k.0 h.0)
  read_once (Err (BadItem n)) (Err (BadItem m)) h k = ap (λ n. Err (BadItem n)) (bad_once n m h.1 k.1)
  read_once (Err (BadItem n)) (Err (TooDeep d)) h k = absurd (no_bad n k.1.book.file h.1)
  read_once (Err (TooDeep d)) (Ok u) h k = absurd (not_over u d k.1 k.2 h.1)
  read_once (Err (TooDeep d)) (Err (NotUtf8 at)) h k = absurd (k.0 h.0)
  read_once (Err (TooDeep d)) (Err (BadItem n)) h k = absurd (no_bad n h.1.book.file k.1)
  read_once (Err (TooDeep d)) (Err (TooDeep e)) h k = ap (λ n. Err (TooDeep n)) (deep_once d e h.1 k.1)

  pub read_faults : (f : FormatFault) → JsonReads bytes (Err f) → IsReadFault f
  read_faults (BadOption key) h = absurd h
  read_faults (NotUtf8 at) h = tt
  read_faults (BadItem n) h = tt
  read_faults (NoKey n) h = absurd h
  read_faults (TooDeep d) h = tt
  read_faults (Outside path) h = absurd h
  read_faults Memory h = absurd h
