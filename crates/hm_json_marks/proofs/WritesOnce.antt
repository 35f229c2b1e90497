-- Of a tree one text is written, and there is one.
use Rattle.std.proofs.Common.{◌≡◌, ℕ, List, refl, sym, ◌∙◌, subst}
use Rattle.std.specs.Prelude.{Ok}
use Rattle.hm_existence.specs.Existence.{IsThere}
use Rattle.hm_existence.proofs.Existence.{from_one, from_there, by_cases}
use Rattle.hm_schema.specs.Membership.{IsMemberTree}
use Rattle.hm_tree.specs.Nodes.{Tree}
use Rattle.serde_json.specs.Data.{object}
use Rattle.serde_json.specs.Written.{compact_text}
use Rattle.hm_marks_schema.specs.Schema.{marks_schema}
use Rattle.hm_marks_schema.specs.Bookmarks.{AreBookmarksAnew}
use Rattle.hm_marks_schema.proofs.SomeAnew.{some_anew}
use Rattle.hm_marks_schema.proofs.WholeFiles as whole
use Rattle.hm_json_nodes.specs.Nodes.{Contents, json, filled, spelled}
use Rattle.hm_json_marks.specs.Files.{IsFile, JsonReads}
use Rattle.hm_json_marks.specs.Writing.{with_roots, IsWrittenAnew, JsonWrites, stays, anew}
use Rattle.hm_json_marks.proofs.Found.{file_members, file_members_once, roots_members_once}
use Rattle.hm_json_marks.proofs.RootLaws.{file_once, bar_once, other_once, members_once, contents_once}

module _ (t : Tree) (before : List ℕ) where
  anew_once : (one other : List ℕ) → IsWrittenAnew t before one → IsWrittenAnew t before other → one ≡ other
  anew_once one other h k =
      let file = file_once h.old.roots k.old.roots in
      let at_bar = bar_once h.old.roots k.old.roots in
      let at_other = other_once h.old.roots k.old.roots in
      let in_bar = contents_once at_bar h.old.bar k.old.bar in
      let in_other = contents_once at_other h.old.other k.old.other in
      let same : AreBookmarksAnew json k.old.bar.contents k.old.other.contents t h.bar h.other =
      subst (λ c. AreBookmarksAnew json k.old.bar.contents c t h.bar h.other) in_other
      (subst (λ c. AreBookmarksAnew json c h.old.other.contents t h.bar h.other) in_bar h.anew) in
      let new = whole.anew_once json k.old.bar.contents k.old.other.contents t h.bar h.other k.bar k.other same k.anew in
      let in_file = file_members_once file h.members k.members in
      let in_roots = roots_members_once file h.members k.members in
      let of_bar = members_once at_bar h.old.bar k.old.bar in
      let of_other = members_once at_other h.old.other k.old.other in
      h.text
      ∙ (λ i. compact_text (with_roots (in_file i) (in_roots i) (object (filled (spelled (new.0 i)) (of_bar i))) (object (filled (spelled (new.1 i)) (of_other i)))))
      ∙ sym k.text

  pub writes_once : (one other : List ℕ) → JsonWrites t before one → JsonWrites t before other → one ≡ other
  writes_once one other (stays h) (stays k) = refl
  writes_once one other (stays h) (anew not_read w) = absurd (not_read h)
  writes_once one other (anew not_read w) (stays k) = absurd (not_read k)
  writes_once one other (anew a h) (anew b k) = anew_once one other h k

  -- ---- there is one

  abbrev Texts : List ℕ → Type 0
  Texts = JsonWrites t before

  abbrev NewContents : IsFile before → Contents × Contents → Type 0
  NewContents old new = AreBookmarksAnew json old.bar.contents old.other.contents t new.0 new.1

  anew_there : (old : IsFile before) → ¬ (JsonReads before (Ok t)) → (new : Contents × Contents) → NewContents old new → IsThere Texts
  anew_there old other new is =
      let m = file_members old.roots in
      from_one Texts _ (anew other (record { old = old; members = m; bar = new.0; other = new.1; anew = is; text = refl }))

  pub some_written : IsFile before → IsMemberTree marks_schema t → IsThere Texts
  some_written old member =
      by_cases Texts (JsonReads before (Ok t)) (λ read. from_one Texts before (stays read))
      (λ other. from_there (NewContents old) Texts (some_anew json old.bar.contents old.other.contents t member) (anew_there old other))
