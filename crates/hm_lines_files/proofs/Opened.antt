-- A file that is opened under options, of which the grammar gives the layout.
use Rattle.std.proofs.Common.{◌≡◌, T, List, Result, sym, ap, ◌∙◌, subst}
use Rattle.std.specs.Prelude.{IfOk, IfErr}
use Rattle.hm_tree.specs.Nodes.{Tree, are_edges}
use Rattle.hm_schema.specs.Values.{OptionsValue}
use Rattle.hm_lines.specs.Unfolding.{unfolded, lines}
use Rattle.hm_book_cards.specs.Cards.{Shown}
use Rattle.hm_format.specs.declared.fault.FormatFault.{FormatFault}
use Rattle.hm_format.specs.Formats.{deepest}
use Rattle.hm_lines_files.specs.Components.{Bytes, Component, Layout}
use Rattle.hm_lines_files.specs.Rewriting.{Template}
use Rattle.hm_lines_files.specs.Reading.{IsTreeOf}
use Rattle.hm_lines_files.specs.Forms.{Form, shown_by, shown_of}
use Rattle.hm_lines_files.specs.FormLaws.{IsForm}
use Rattle.hm_lines_files.specs.Files.{full, lines_in}
use Rattle.hm_lines_files.proofs.ShownProperties.{shown_properties}
use Rattle.hm_lines_files.specs.Faults.{IsBookFault}
use Rattle.hm_lines_files.specs.WrittenFiles.{IsWritten}

-- the properties that are shown, as they are lent
pub shown_is : (f : Form) (o : OptionsValue) (found lent shown : Shown) → found ≡ f.properties → lent ≡ found → shown ≡ shown_by lent o → shown ≡ shown_of f o
shown_is f o found lent shown properties value by = by ∙ ap (λ (ps : Shown). shown_by ps o) (value ∙ properties)

-- their names rise
pub names_rise : (f : Form) → IsForm f → (o : OptionsValue) (shown : Shown) → shown ≡ shown_of f o → T (are_edges shown)
names_rise f law o shown same = subst (λ (s : Shown). T (are_edges s)) (sym same) (shown_properties f.properties o law.properties).names

-- the lines of a file that aren't empty
pub lines_are : (bytes opened : Bytes) (found : List Bytes) → opened ≡ unfolded bytes → found ≡ full (lines opened) → found ≡ full (lines_in bytes)
lines_are bytes opened found made full_are = full_are ∙ ap (λ (b : Bytes). full (lines b)) made

-- what is said of a tree by the key and the properties as they are lent is said by those of the form
pub tree_said : (f : Form) (o : OptionsValue) (template : Template) (shown : Shown) (cs : List Component) (r : Result Tree FormatFault) → template ≡ f.template
    → shown ≡ shown_of f o → IfOk r (IsTreeOf template.key shown cs deepest) → IfOk r (IsTreeOf f.template.key (shown_of f o) cs deepest)
tree_said f o template shown cs r same_kind same_shown h =
    subst (λ (k : Template). IfOk r (IsTreeOf k.key (shown_of f o) cs deepest)) same_kind
    (subst (λ (s : Shown). IfOk r (IsTreeOf template.key s cs deepest)) same_shown h)

pub fault_said : (f : Form) (o : OptionsValue) (template : Template) (shown : Shown) (cs : List Component) (r : Result Tree FormatFault) → template ≡ f.template
    → shown ≡ shown_of f o → IfErr r (IsBookFault template.key shown cs) → IfErr r (IsBookFault f.template.key (shown_of f o) cs)
fault_said f o template shown cs r same_kind same_shown h =
    subst (λ (k : Template). IfErr r (IsBookFault k.key (shown_of f o) cs)) same_kind
    (subst (λ (s : Shown). IfErr r (IsBookFault template.key s cs)) same_shown h)

pub written_said : (f : Form) (o : OptionsValue) (template : Template) (shown : Shown) (t : Tree) (old : Layout) (before after : Bytes) → template ≡ f.template
    → shown ≡ shown_of f o → IsWritten template shown t old before after → IsWritten f.template (shown_of f o) t old before after
written_said f o template shown t old before after same_kind same_shown h =
    subst (λ (k : Template). IsWritten k (shown_of f o) t old before after) same_kind
    (subst (λ (s : Shown). IsWritten template s t old before after) same_shown h)
