-- A file has its two roots and what stands in them once, and no node of it is a misfit.
use Rattle.std.proofs.Common.{◌≡◌, ℕ, Bool, true, List, sym, ap, ◌∙◌, subst}
use Rattle.std.specs.Prelude.{All, map}
use Rattle.std.proofs.lemmas.Option.{same_Some}
use Rattle.std.proofs.lemmas.List.Elements.{All-append, All-cons, All-map}
use Rattle.serde_json.specs.Data.{Data, object}
use Rattle.hm_json_documents.proofs.Read.{document_known}
use Rattle.hm_json_nodes.specs.Nodes.{children_of, is_folder, AreNodes}
use Rattle.hm_json_nodes.specs.Numbers.{below, is_node, listed}
use Rattle.hm_json_nodes.proofs.EachNode.{all_nodes}
use Rattle.hm_json_nodes.proofs.Listed.{below_folder}
use Rattle.hm_json_nodes.proofs.NodesOnce.{nodes_once}
use Rattle.hm_json_marks.specs.Roots.{bar_key, other_key, root_at, HasRoots, inner, from_root, numbered, fits}
use Rattle.hm_json_marks.specs.Files.{IsRoot, IsFile}

-- ---- roots

module _ {bytes : List ℕ} {b c o p : Data} (h : HasRoots bytes b o) (k : HasRoots bytes c p) where
  pub file_once : h.file ≡ k.file
  file_once = document_known bytes h.file k.file h.document k.document

  pub bar_once : b ≡ c
  bar_once = same_Some b c (sym h.bar_is ∙ ap (root_at bar_key) file_once ∙ k.bar_is)

  pub other_once : o ≡ p
  other_once = same_Some o p (sym h.other_is ∙ ap (root_at other_key) file_once ∙ k.other_is)

-- a root has its members and its contents once
module _ {d e : Data} (same : d ≡ e) (h : IsRoot d) (k : IsRoot e) where
  pub members_once : h.members ≡ k.members
  members_once = let both : object h.members ≡ object k.members = sym h.folder.is ∙ same ∙ k.folder.is in cc

  children_once : h.children ≡ k.children
  children_once =
      same_Some h.children k.children (sym h.folder.children_are ∙ ap (λ ms. children_of (object ms)) members_once ∙ k.folder.children_are)

  pub contents_once : h.contents ≡ k.contents
  contents_once = nodes_once k.children h.contents k.contents (subst (λ ds. AreNodes ds h.contents) children_once h.folder.nodes) k.folder.nodes

-- ---- misfits

abbrev pub AllFit : List (Bool × Data) → Type 0
AllFit ps = All (λ p. fits p ≡ true) ps

root_fits : (d : Data) → IsRoot d → AllFit (from_root d)
root_fits d h =
    All-cons (λ p. fits p ≡ true) (true, d) (map inner (below d)) h.kind
    (All-map (λ p. fits p ≡ true) inner (below d) (subst (λ ds. All (λ d. is_node d ≡ true) ds) (sym same) (all_nodes h.children h.contents h.folder.nodes)))
  where
    same : below d ≡ listed h.children
    same = ap below h.folder.is ∙ below_folder h.members h.children (sym (ap is_folder h.folder.is) ∙ h.kind) h.folder.children_are

-- all nodes of a file fit
pub all_fit : {bytes : List ℕ} (h : IsFile bytes) → AllFit (numbered h.bar_node h.other_node)
all_fit h =
    All-append (λ p. fits p ≡ true) (from_root h.bar_node) (from_root h.other_node) (root_fits h.bar_node h.bar) (root_fits h.other_node h.other)
