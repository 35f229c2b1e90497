-- Small tags, attributes, entities and a small file, computed from the definitions.
use Rattle.std.proofs.Common.{◌≡◌, ℕ, true, false, List, [], ◌∷◌, ◌++◌, Some, None, codes, refl, ◌&&◌}
use Rattle.hm_marks_tokens.specs.Tokens.{tag, inside_len}
use Rattle.hm_marks_tokens.specs.Symbols.{list, words, stray, symbol_of, is_skipped}
use Rattle.hm_marks_tokens.specs.Attributes.{quoted, attribute_at, attributes_of, are_attributes, are_of_link, address_of}
use Rattle.hm_marks_tokens.specs.Entities.{unescaped, escaped}
use Rattle.hm_marks_tokens.specs.Lines.{opens, closes, links, heads, laid}

-- ---- tags

-- a `>` in quotes ends no tag
in_quotes : inside_len false (codes "A HREF=\"a>b\">c") ≡ 12
in_quotes = refl

any_case : symbol_of (tag (codes "dL ")) ≡ list
any_case = refl

another_tag : symbol_of (tag (codes "DLX")) ≡ stray
another_tag = refl

-- white space and `<p>` are skipped outside of titles
skipped : is_skipped (words (codes "\n ")) && is_skipped (symbol_of (tag (codes "P"))) ≡ true
skipped = refl

-- ---- attributes

attribute : attribute_at (codes " HREF=\"a>b\" X=1") ≡ Some (record { blank = codes " "; name = codes "HREF"; value = quoted (codes "a>b") }, codes " X=1")
attribute = refl

unparted : attribute_at (codes " HREF=\"a\"X=1") ≡ None
unparted = refl

-- a name alone, and a run; and white space at the end
several : are_attributes (codes " FEED ADD_DATE=1 ") ≡ true
unfolding attributes_of
several = refl

no_name : are_attributes (codes " =1") ≡ false
unfolding attributes_of
no_name = refl

first_address : address_of (codes " href=a HREF=\"b\"") ≡ Some (codes "a")
unfolding attributes_of
first_address = refl

no_link : are_of_link (codes " NAME=\"a\"") ≡ false
unfolding attributes_of
no_link = refl

-- ---- entities

entities : unescaped (codes "&#39;&amp;&x;&lt;") ≡ codes "'&&x;<"
unfolding lib.Utf8.encode
entities = refl

-- what is read is not read again
once : unescaped (codes "&amp;lt;") ≡ codes "&lt;"
once = refl

-- eight digits are too many
many_digits : unescaped (codes "&#00000039;") ≡ codes "&#00000039;"
many_digits = refl

written : escaped (codes "a<b & \"c\"") ≡ codes "a&lt;b &amp; &quot;c&quot;"
written = refl

-- ---- a file

line : List ℕ → List ℕ
line bytes = bytes ++ 10 ∷ []

-- a link and a folder in another one
file : laid 0 (opens ∷ heads (codes " PERSONAL_TOOLBAR_FOLDER=\"true\"") (codes "Bookmarks bar") ∷ opens
    ∷ links (codes " HREF=\"https://a.example/?x=1&amp;y=2\" ADD_DATE=\"1\"") [] ∷ heads [] (codes "News") ∷ opens
    ∷ links (codes " HREF=\"https://n.example/\"") (codes "N") ∷ closes ∷ closes ∷ closes ∷ [])
    ≡ line (codes "<DL><p>")
    ++ (line (codes "    <DT><H3 PERSONAL_TOOLBAR_FOLDER=\"true\">Bookmarks bar</H3>")
    ++ (line (codes "    <DL><p>")
    ++ (line (codes "        <DT><A HREF=\"https://a.example/?x=1&amp;y=2\" ADD_DATE=\"1\"></A>")
    ++ (line (codes "        <DT><H3>News</H3>")
    ++ (line (codes "        <DL><p>")
    ++ (line (codes "            <DT><A HREF=\"https://n.example/\">N</A>")
    ++ (line (codes "        </DL><p>") ++ (line (codes "    </DL><p>") ++ line (codes "</DL><p>")))))))))
unfolding line
file = refl
