-- Keys of caseless matches.
use Rattle.std.proofs.Common.{◌≡◌, ℕ, List, map, IsAscii, sym, ap, ◌∙◌, chars, encode_utf8_all, String, string_bytes}
use Rattle.std.specs.declared.alloc.Global.{Global}
use Rattle.std.proofs.lemmas.Str.{chars_from_encodes, IsUtf8-string_bytes}
use Rattle.std.specs.Char.{to_ascii_lowercase}
use Rattle.std.proofs.lemmas.Str.{chars-IsAscii, encodes-IsAscii}
use Rattle.std.proofs.lemmas.Str.Ascii.{IsAscii-map, lowercase_ascii, All-from_ascii}
use Rattle.caseless.specs.Caseless.{default_case_fold}
use Rattle.caseless.proofs.CaselessLemmas.{default_case_fold-ascii, compatibility_key-ascii, All-chars}
use Rattle.hm_alike.specs.Alike.{caseless_key}

-- one step of a key: what a call gives of a text whose characters are known
pub next_key : (step : List ℕ → List ℕ) (text : String Global) (seen cs given : List ℕ) → string_bytes text ≡ encode_utf8_all cs
    → seen ≡ string_bytes text → given ≡ encode_utf8_all (step (chars seen)) → given ≡ encode_utf8_all (step cs)
next_key step text seen cs given is same e =
    let known : cs ≡ chars (string_bytes text) = chars_from_encodes cs (string_bytes text) (IsUtf8-string_bytes text) (sym is) in
    e ∙ ap (λ s. encode_utf8_all (step (chars s))) same ∙ ap (λ l. encode_utf8_all (step l)) (sym known)

-- that of ASCII
pub caseless_key-ascii : (t : List ℕ) → IsAscii t → caseless_key t ≡ map to_ascii_lowercase t
caseless_key-ascii t h =
    ap encode_utf8_all (compatibility_key-ascii (chars t) (All-chars t h))
    ∙ ap (λ l. encode_utf8_all (default_case_fold l)) (chars-IsAscii t h)
    ∙ ap encode_utf8_all (default_case_fold-ascii t (All-from_ascii t h))
    ∙ encodes-IsAscii (map to_ascii_lowercase t) (IsAscii-map to_ascii_lowercase t lowercase_ascii h)
