-- Names that are alike, and names that aren't, computed from the definitions.
use Rattle.std.proofs.Common.{◌≡◌, Bool, true, false, [], ◌∷◌, refl, codes, bytes_eq}
use Rattle.std.specs.Str.{chars}
use Rattle.std.specs.Char.{encode_utf8}
use Rattle.caseless.proofs.Computing.{caseless}
use Rattle.hm_tree.specs.Names.{Name}
use Rattle.hm_alike.specs.Alike.{folded}

abbrev alike : Name → Name → Bool
alike a b = bytes_eq (folded a) (folded b)

-- José in NFC and in NFD
normal_forms : alike (74 ∷ 111 ∷ 115 ∷ 0xC3 ∷ 0xA9 ∷ []) (74 ∷ 111 ∷ 115 ∷ 101 ∷ 0xCC ∷ 0x81 ∷ []) ≡ true
unfolding folded caseless chars encode_utf8
normal_forms = refl

case : alike (codes "BOB") (codes "bob") ≡ true
unfolding folded caseless chars encode_utf8
case = refl

ends : alike (codes " Bob") (codes "Bob ") ≡ true
unfolding folded caseless chars encode_utf8
ends = refl

doubled : alike (codes "a  b") (codes "a b") ≡ true
unfolding folded caseless chars encode_utf8
doubled = refl

-- the ligature of f and i
compatible : alike (0xEF ∷ 0xAC ∷ 0x81 ∷ []) (codes "fi") ≡ true
unfolding folded caseless chars encode_utf8
compatible = refl

-- a sharp s
sharp : alike (0xC3 ∷ 0x9F ∷ []) (codes "ss") ≡ true
unfolding folded caseless chars encode_utf8
sharp = refl

spaces_alone : folded (codes "  ") ≡ []
unfolding folded caseless chars encode_utf8
spaces_alone = refl

other_names : alike (codes "Bob") (codes "Rob") ≡ false
unfolding folded caseless chars encode_utf8
other_names = refl

-- a space between two letters stays
one_word : alike (codes "a b") (codes "ab") ≡ false
unfolding folded caseless chars encode_utf8
one_word = refl

-- an accent stays
accent : alike (codes "Jose") (74 ∷ 111 ∷ 115 ∷ 0xC3 ∷ 0xA9 ∷ []) ≡ false
unfolding folded caseless chars encode_utf8
accent = refl
