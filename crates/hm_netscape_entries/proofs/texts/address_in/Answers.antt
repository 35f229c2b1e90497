use Rattle.std.proofs.Common.{List, ℕ, Option, sym, subst}
use Rattle.std.specs.Prelude.{IfSome}
use Rattle.std.specs.Str.{IsUtf8}
use Rattle.hm_netscape_entries.proofs.Addresses.{address_utf8}
use Rattle.hm_netscape_entries.proofs.texts.address_in.Goals as goal

pub text_of-requires : goal.text_of-requires
text_of-requires c =
    subst (λ (o : Option (List ℕ)). IfSome o IsUtf8) (sym c.in-Some.ensures) (address_utf8 c.args.attributes.now c.requires)
