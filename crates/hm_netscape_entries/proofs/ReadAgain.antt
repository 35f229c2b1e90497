-- What is written anew for a tree is read as it.
use Rattle.std.proofs.Common.{◌≡◌, ℕ, false, List, [], ◌∷◌, ◌++◌, sym, ap, ◌∙◌, refl, subst}
use Rattle.hm_tree.specs.Names.{Name}
use Rattle.hm_tree.specs.Nodes.{Tree}
use Rattle.hm_marks.specs.Contents.{link, folder}
use Rattle.hm_marks.specs.FolderTrees.{IsLinkTree, ShowItems, show_nothing, show_link, show_folder, hide_separator, IsContentsTree}
use Rattle.hm_marks.specs.Writing.{AreWrittenAnew}
use Rattle.hm_marks.proofs.ReadBack.{put_get}
use Rattle.hm_marks.proofs.Sound.{anew_sound}
use Rattle.hm_marks_tokens.specs.Symbols as symbols
use Rattle.hm_marks_tokens.specs.Symbols.{Symbol, HasSymbols}
use Rattle.hm_marks_tokens.specs.Grammar.{Entry, Contents}
use Rattle.hm_marks_tokens.specs.Lines.{opens, closes, symbols_of, laid_list}
use Rattle.hm_marks_tokens.proofs.Spelled.{laid_read}
use Rattle.hm_netscape_entries.specs.Entries.{text_of, address_in, html, IsEntry, IsLinkEntry, IsRule, IsSameLink, MayStand}
use Rattle.hm_netscape_entries.specs.Written.{tidied, contents_lines, list_lines, IsEntryAlike, AreAlike, alike_nothing, alike_links, alike_folders, alike_separators, IsReadAlike, IsReadAgain}
use Rattle.hm_netscape_entries.proofs.Layouts.{html_layout}
use Rattle.hm_netscape_entries.proofs.Tidied.{tidied_sound, tidied_tree}
use Rattle.hm_netscape_entries.proofs.Lines.{lines_stand, lines_are, have_tags, headed, contents_found}

-- ---- what is alike shows the same

same_key : (d e : Entry) → IsEntryAlike d e → text_of d.title ≡ text_of e.title
same_key d e alike = ap text_of (sym alike.title)

same_address : (d e : Entry) → IsEntryAlike d e → address_in d.attributes ≡ address_in e.attributes
same_address d e alike = ap address_in (sym alike.attributes)

pub same_items : (c d : Contents) (xs : List (Name × Tree)) → AreAlike c d → ShowItems html c xs → ShowItems html d xs
same_items _ _ _ alike_nothing show_nothing = show_nothing
same_items _ _ _ (alike_links {d = d} {e = e} {c = c} {rest = rest} is more) (show_link {t = t} {items = items} tree show) =
    subst (λ k. ShowItems html (link e rest) ((k, t) ∷ items)) (sym (same_key d e is))
    (show_link (subst (λ n. IsLinkTree n t) (same_address d e is) tree) (same_items c rest items more show))
same_items _ _ _ (alike_folders {d = d} {e = e} {b = b} {inside = inside} {c = c} {rest = rest} is inner more)
    (show_folder {t = t} {inner = within} {items = items} shown grouped tree show) =
    subst (λ k. ShowItems html (folder e inside rest) ((k, t) ∷ items)) (sym (same_key d e is))
    (show_folder (same_items b inside within inner shown) grouped tree (same_items c rest items more show))
same_items _ _ _ (alike_separators {c = c} {rest = rest} more) (hide_separator {items = items} show) =
    hide_separator (same_items c rest items more show)

pub same_tree : (c d : Contents) (t : Tree) → AreAlike c d → IsContentsTree html c t → IsContentsTree html d t
same_tree c d t alike is = record { items = is.items; show = same_items c d is.items alike is.show; tree = is.tree }

-- ---- what is read

pub read_alike : (c : Contents) (rest : List ℕ) → MayStand c → IsReadAlike (laid_list 0 (list_lines c) ++ rest) c rest
read_alike c rest sound =
    let read = laid_read 0 (list_lines c) rest (tt, lines_stand c sound) in
    let first = headed opens (λ white. refl) (contents_lines c) read.found read.alike in
    let f = contents_found c first.back sound first.alike in
    let lines : read.found ≡ list_lines f.new = first.are ∙ ap (λ ls. opens ∷ ls) f.are in
    let symbols_are = ap (λ ls. symbols_of (ls ++ closes ∷ [])) lines ∙ ap (λ ms. symbols.list ∷ ms) (lines_are f.new []) in
    record {
      found = f.new;
      alike = f.alike;
      list = record {
        sound = have_tags f.new f.sound;
        has = subst (λ (ms : List Symbol). HasSymbols false (laid_list 0 (list_lines c) ++ rest) ms rest) symbols_are read.symbols;
      };
      sound = f.sound;
    }

pub anew_read : (old : Contents) (t : Tree) (new : Contents) (rest : List ℕ) → MayStand old → AreWrittenAnew html old t new
    → IsReadAgain (laid_list 0 (list_lines (tidied new)) ++ rest) (tidied new) t rest
anew_read old t new rest sound made =
    let r = read_alike (tidied new) rest (tidied_sound new (anew_sound html IsLinkEntry IsEntry IsRule IsSameLink html_layout old t new sound made)) in
    record { read = r; tree = same_tree (tidied new) r.found t r.alike (tidied_tree new t (put_get html IsLinkEntry IsEntry IsRule IsSameLink html_layout old t new sound made)) }
