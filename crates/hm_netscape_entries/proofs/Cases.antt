-- A small folder as it is written, and its bookmarks bar, computed from the definitions.
use Rattle.std.proofs.Common.{◌≡◌, ℕ, true, false, List, [], ◌∷◌, ◌++◌, codes, Some, None, refl}
use Rattle.hm_marks.specs.Contents.{nothing, link, folder, separator}
use Rattle.hm_marks_tokens.specs.Attributes.{attributes_of}
use Rattle.hm_marks_tokens.specs.Lines.{laid_list}
use Rattle.hm_marks_tokens.specs.Grammar.{Entry, Contents}
use Rattle.hm_netscape_entries.specs.Toolbars.{is_toolbar}
use Rattle.hm_netscape_entries.specs.Written.{tidied, list_lines}

abbrev news : Entry
news = record { attributes = codes " ADD_DATE=\"1\""; title = codes "News"; note = Some (codes "old \n") }

abbrev page : Entry
page = record { attributes = codes " HREF=\"https://n.example/\""; title = codes "N"; note = None }

abbrev written : Contents
written = folder news (link page nothing) (separator (codes " X=1") nothing)

line : List ℕ → List ℕ
line bytes = bytes ++ 10 ∷ []

in_lines : laid_list 0 (list_lines (tidied written))
    ≡ line (codes "<DL><p>")
    ++ (line (codes "    <DT><H3 ADD_DATE=\"1\">News</H3>")
    ++ (line (codes "    <DD>old")
    ++ (line (codes "    <DL><p>")
    ++ (line (codes "        <DT><A HREF=\"https://n.example/\">N</A>")
    ++ (line (codes "    </DL><p>") ++ (line (codes "    <HR X=1>") ++ codes "</DL>"))))))
unfolding line
in_lines = refl

-- the name and the value are in any case, and any attribute of the name counts
a_bar : is_toolbar (codes " Personal_Toolbar_Folder=no PERSONAL_TOOLBAR_FOLDER=\"True\"") ≡ true
unfolding attributes_of
a_bar = refl

no_bar : is_toolbar (codes " PERSONAL_TOOLBAR_FOLDER=\"yes\"") ≡ false
unfolding attributes_of
no_bar = refl
