use Rattle.std.proofs.Common.{[], length, refl, sym, ap, subst, ◌∙◌}
use Rattle.std.proofs.lemmas.List.{append-nil}
use Rattle.hm_terms.specs.Programs.{lens_of}
use Rattle.hm_types_terms.specs.Numbers.{parts_of}
use Rattle.hm_types_terms.specs.Alike.{AreAlike}
use Rattle.hm_types_terms.proofs.Contained.{contained_stands}
use Rattle.hm_types_terms.proofs.body.view_of.Goals as goal

pub view-requires : goal.view-requires
view-requires c =
    let all = parts_of (lens_of c.args.term.now) in
    record {
      start = c.requires.start;
      memo = record {
        in_range = λ n i j e. absurd (c.new-memo.ensures n i j e);
        each = λ n i j e l s. absurd (c.new-memo.ensures n i j e);
      };
      stand = record { before = []; after = []; is = sym (append-nil all); number = refl };
      sized = record {
        parts = c.deref.ensures.value ∙ c.in_ok-parts.ensures.parts;
        count = ap length c.deref-2.ensures.value ∙ c.in_ok-alike.ensures.count;
        alike = subst (AreAlike all) (sym c.deref-2.ensures.value) c.in_ok-alike.ensures.alike;
        room = c.in_ok-parts.ensures.room;
      };
      rows = λ ls has. c.requires.rows ls (contained_stands (lens_of c.args.term.now) _ has);
    }
