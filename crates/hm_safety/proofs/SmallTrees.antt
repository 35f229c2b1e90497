-- Small trees and archives, on which definitions are tried.
use Rattle.std.proofs.Common.{refl}
use Rattle.std.specs.Prelude.{codes, Bool, false, true, T, Some}
use Rattle.std.specs.Str.{is_utf8}
use Rattle.hm_tree.specs.Names.{Name}
use Rattle.hm_tree.specs.Nodes.{bare, edge, is_node, both, Tree}
use Rattle.hm_tree.specs.Archives.{Archive}
use Rattle.hm_tree.proofs.Texts.{ascii_test}

abbrev pub nothing : Tree
nothing = record { shape = bare; sound = tt }

abbrev pub ann : Name
ann = codes "Ann"

abbrev pub bob : Name
bob = codes "Bob"

abbrev pub tel : Name
tel = codes "tel"

-- each is UTF-8

pub ann_text : T (is_utf8 ann)
ann_text = ascii_test ann refl

pub bob_text : T (is_utf8 bob)
bob_text = ascii_test bob refl

pub tel_text : T (is_utf8 tel)
tel_text = ascii_test tel refl

-- one edge, to nothing, in a tree and in an archive
pub leaf_sound : (m : Bool) (n : Name) → T (is_utf8 n) → T (is_node m true (edge n bare bare))
leaf_sound m n text = both _ _ (both _ _ text tt) tt

abbrev pub leaf : (n : Name) → T (is_utf8 n) → Tree
leaf n text = record { shape = edge n bare bare; sound = leaf_sound false n text }

abbrev pub holds : (n : Name) → T (is_utf8 n) → Archive
holds n text = Some (record { shape = edge n bare bare; sound = leaf_sound true n text })

abbrev pub has_ann : Tree
has_ann = leaf ann ann_text

abbrev pub has_bob : Tree
has_bob = leaf bob bob_text

abbrev pub holds_ann : Archive
holds_ann = holds ann ann_text

abbrev pub holds_bob : Archive
holds_bob = holds bob bob_text

abbrev pub holds_nothing : Archive
holds_nothing = Some (record { shape = bare; sound = tt })
