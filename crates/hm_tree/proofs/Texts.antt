-- Which bytes are UTF-8, by a test.
use Rattle.std.proofs.Common.{◌≡◌, ℕ, ◌<◌, Bool, true, false, T, List, [], ◌∷◌, refl, sym, subst}
use Rattle.std.specs.Bool.{nat_lt}
use Rattle.std.specs.List.{All, list_all}
use Rattle.std.specs.Str.{IsUtf8, is_utf8}
use Rattle.std.proofs.lemmas.Bool.{ltb-true, and_parts}
use Rattle.std.proofs.lemmas.List.Elements.{All-nil, All-cons}
use Rattle.std.proofs.lemmas.Str.{IsUtf8-from_is_utf8, is_utf8-from_IsUtf8, IsUtf8-from_ascii}
use Rattle.std.proofs.lemmas.Str.Ascii.{IsAscii-from_all}
use Rattle.hm_tree.specs.Names.{Name}

pub text_test : (k : Name) → IsUtf8 k → T (is_utf8 k)
text_test k u = subst T (sym (is_utf8-from_IsUtf8 k u)) tt

from_test : (b : Bool) → T b → b ≡ true
from_test true h = refl
from_test false h = absurd h

pub text_tested : (k : Name) → T (is_utf8 k) → IsUtf8 k
text_tested k h = IsUtf8-from_is_utf8 k (from_test (is_utf8 k) h)

all_low : (k : List ℕ) → list_all (λ b. nat_lt b 128) k ≡ true → All (λ b. b < 128) k
all_low [] h = All-nil (λ b. b < 128)
all_low (b ∷ k) h = let parts = and_parts (nat_lt b 128) (list_all (λ b. nat_lt b 128) k) h in
    All-cons (λ b. b < 128) b k (ltb-true b 128 parts.0) (all_low k parts.1)

-- characters of ASCII are, each in its one byte
pub ascii_test : (k : Name) → list_all (λ b. nat_lt b 128) k ≡ true → T (is_utf8 k)
ascii_test k h = text_test k (IsUtf8-from_ascii k (IsAscii-from_all k (all_low k h)))
