-- The bytes of a file that is written anew.
use Rattle.std.proofs.Common.{◌≡◌, ℕ, ◌-◌, List, ◌++◌, codes, sym, ap, ◌∙◌, append_assoc}
use Rattle.hm_marks_tokens.specs.Grammar.{Contents}
use Rattle.hm_marks_tokens.specs.Lines.{indent, laid, laid_list}
use Rattle.hm_netscape_entries.specs.Written.{tidied, contents_lines, list_lines}
use Rattle.hm_netscape_lines.specs.Behind.{StandBehind}
use Rattle.hm_netscape_lines.proofs.Joined.{open_contents}

-- a list has the line that opens it, those of what stands in it, and its end
list_bytes : (c : Contents) → laid_list 0 (list_lines c) ≡ codes "<DL><p>\n" ++ (laid 1 (contents_lines c) ++ codes "</DL>")
list_bytes c = ap (λ k. laid 0 (list_lines c) ++ (indent (k - 1) ++ codes "</DL>")) (open_contents 1 c)

-- behind a head, and with a tail
pub file_bytes : (front tail a b d e f : List ℕ) (c : Contents) → a ≡ front → b ≡ a ++ codes "<DL><p>\n" → StandBehind 1 b d c → e ≡ d ++ codes "</DL>" → f ≡ e ++ tail
    → f ≡ front ++ (laid_list 0 (list_lines (tidied c)) ++ tail)
file_bytes front tail a b d e f c one two three four five =
    let inner = laid 1 (contents_lines (tidied c)) in
    let open_tag = codes "<DL><p>\n" in
    five
    ∙ ap (λ l. l ++ tail)
    (four ∙ ap (λ l. l ++ codes "</DL>") (three ∙ ap (λ l. l ++ inner) (two ∙ ap (λ l. l ++ open_tag) one))
    ∙ append_assoc (front ++ open_tag) inner (codes "</DL>") ∙ append_assoc front open_tag (inner ++ codes "</DL>")
    ∙ ap (λ l. front ++ l) (sym (list_bytes (tidied c))))
    ∙ append_assoc front (laid_list 0 (list_lines (tidied c))) tail
