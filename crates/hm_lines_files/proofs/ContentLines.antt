-- Content lines aren't empty.
use Rattle.std.proofs.Common.{◌≡◌, true, [], ◌∷◌, ◌++◌, length, refl, ap, ◌∙◌, arith}
use Rattle.std.proofs.lemmas.List.{length-append}
use Rattle.hm_lines.specs.Content.{colon, IsContentLine}
use Rattle.hm_lines_files.specs.Components.{Bytes}
use Rattle.hm_lines_files.specs.Forms.{is_full}
use Rattle.hm_lines.specs.declared.content.LineParts.{LineParts}

pub content_full : (line : Bytes) (parts : LineParts) → IsContentLine line parts → is_full line ≡ true
content_full [] parts is =
    let one = ap length is.bytes ∙ length-append is.group (is.name ++ (is.parameters ++ colon ∷ is.value)) in
    let two = length-append is.name (is.parameters ++ colon ∷ is.value) in
    let three = length-append is.parameters (colon ∷ is.value) in
    absurd (omega (arith, one, two, three))
content_full (b ∷ line) parts is = refl
