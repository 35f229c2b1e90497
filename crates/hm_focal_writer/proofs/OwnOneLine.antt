-- A line of the file's own stands on one line.
use Rattle.std.proofs.Common.{ℕ, List, ◌∷◌, sym, subst, arith}
use Rattle.hm_tree.specs.Names.{Name}
use Rattle.hm_terms.specs.Lenses.{Lens}
use Rattle.hm_schema_lines.specs.declared.token.Token.{Token}
use Rattle.hm_schema_lines.specs.declared.token.Token.TheVariants.{Word}
use Rattle.hm_schema_lines.specs.Tokens.{token_text}
use Rattle.hm_schema_writer.proofs.Laws.{IsOneLine, line_both, token_line, spaces_line}
use Rattle.hm_focal.specs.Front.{IsFront, IsGap, IsWordBefore}
use Rattle.hm_focal.specs.OwnLines.{term, AreEdges, last, more, AreOptions, no_option, an_option, IsFormat, IsHeaded, equals, word, IsLensLine, IsMainLine}
use Rattle.hm_focal_writer.proofs.TermLines.{term_text_line}

module _ (bytes rest : List ℕ) (h : IsOneLine rest) where
  front_line : (t : Token) → IsFront bytes t rest → IsOneLine bytes
  front_line t f = subst IsOneLine (sym f.is) (line_both (token_text t) rest (token_line t f.sound) h)

  gap_line : IsGap bytes rest → IsOneLine bytes
  gap_line g = subst IsOneLine (sym g.is) (line_both g.gap rest (spaces_line g.gap g.spaces) h)

before_line : (bytes : List ℕ) (w : Name) (rest : List ℕ) → IsOneLine rest → IsWordBefore bytes w rest → IsOneLine bytes
before_line bytes w rest h f = front_line bytes f.0 (gap_line f.0 rest h f.2) (Word w) f.1

edges_line : (bytes : List ℕ) (ks : List Name) (rest : List ℕ) → AreEdges bytes ks rest → IsOneLine rest → IsOneLine bytes
edges_line bytes _ rest (last {k} f stop) h = front_line bytes rest h f.0 f.2
edges_line bytes _ rest (more {k} {next} {ks} f g) h = front_line bytes (44 ∷ next) (omega arith, edges_line next ks rest g h) f.0 f.2

options_line : (bytes : List ℕ) (ps : List (Name × List Name)) → AreOptions bytes ps → IsOneLine bytes
options_line _ _ no_option = tt
options_line bytes _ (an_option {p} {rest} {ps} o h) =
    let values = edges_line o.2.edges p.1 rest o.2.values (options_line rest ps h) in
    gap_line bytes o.0 (front_line o.0 (61 ∷ o.2.edges) (omega arith, values) (Word p.0) o.2.key) o.1

pub format_line : (line : List ℕ) (w : Name) (ps : List (Name × List Name)) → IsFormat line w ps → IsOneLine line
format_line line w ps h =
    before_line line _ h.text (front_line h.text h.rest (options_line h.rest ps h.options) (Word w) h.name) h.front

headed_line : (bytes : List ℕ) (ws : List Name) (text : List ℕ) → IsHeaded bytes ws text → IsOneLine text → IsOneLine bytes
headed_line bytes _ text (equals {behind} e g) h = subst IsOneLine (sym e) (omega arith, gap_line behind text h g)
headed_line bytes _ text (word {w} {next} {ws} f g) h = before_line bytes w next (headed_line next ws text g h) f

pub lens_line_line : (line : List ℕ) (n s v : Name) (l : Lens) → IsLensLine line (record { name = n; source = s; view = v; body = term l }) → IsOneLine line
lens_line_line line n s v l h = headed_line line _ h.0 h.1 (term_text_line h.0 l h.2.2)

pub main_line_line : (line : List ℕ) (l : Lens) → IsMainLine line (term l) → IsOneLine line
main_line_line line l h = headed_line line _ h.0 h.1 (term_text_line h.0 l h.2.2)
