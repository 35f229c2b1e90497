-- What follows for a result that is certified.
use Rattle.std.proofs.Common.{◌≡◌, ℕ, ◌<◌, List, length, get_or, sym, ap, subst, ◌∙◌, arith, inl, inr}
use Rattle.std.specs.List.{Contains}
use Rattle.std.proofs.lemmas.List.{length-map, get_or-map}
use Rattle.std.proofs.lemmas.Option.{slice_get_cases}
use Rattle.hm_tree.specs.States.{Path}
use Rattle.hm_safety.specs.Views.{Views}
use Rattle.hm_schema.specs.declared.node.NodeId.{NodeId}
use Rattle.hm_schema.specs.Values.{SchemaValue}
use Rattle.hm_outcome.specs.Trios.{Trio, views}
use Rattle.hm_outcome.specs.Contested.{IsContested, earlier, lost, refused}
use Rattle.hm_outcome.specs.Outcomes.{IsMaximal}
use Rattle.hm_outcome.proofs.Best.{MarksContested, contested_maximal, outcome_only}
use Rattle.hm_report.specs.declared.conflict.Conflict.{Conflict}
use Rattle.hm_report.specs.declared.conflict.Why.{Why}
use Rattle.hm_report.specs.Reasons as reasons
use Rattle.hm_report.specs.Reasons.{ShowsWhy}
use Rattle.hm_certify.specs.Certificates.{IsCertified, HasOutcomeSides}
use Rattle.hm_certify.proofs.ConflictPaths.{paths_of}

-- what shows why contests its path
shown_contested : (s : SchemaValue) (i : NodeId) (v : Views) (p : Path) (w : Why) → ShowsWhy s i v p w → IsContested s i v p
shown_contested s i v p w (reasons.earlier m d) = earlier m d
shown_contested s i v p w (reasons.lost h (inl f)) = lost h (inl f.lost)
shown_contested s i v p w (reasons.lost h (inr f)) = lost h (inr f.lost)
shown_contested s i v p w (reasons.refused r) = refused r

-- the conflict that stands at a path
conflict_at : (cs : List Conflict) (p : Path) → Contains (paths_of cs) p
    → (k : ℕ) × (k < length cs) × ((c : Conflict) × (get_or cs k c ≡ c) × (c.path ≡ p))
conflict_at cs p at =
    let long = length-map cs (λ (x : Conflict). x.path) in
    elim ((slice_get_cases cs at.0).1) [
      | inl there ↦ (
        at.0,
        there.1,
        (
          there.0,
          there.3,
          ap (λ (x : Conflict). x.path) (sym there.3)
              ∙ sym (get_or-map (λ (x : Conflict). x.path) cs at.0 there.0 p there.1) ∙ at.2,
        ),
      )
      | inr past ↦ (let lt = at.1 in let l = past.0 in absurd (omega arith))
    ]

module _ (s : SchemaValue) (i : NodeId) (before after : Trio) (cs : List Conflict) (h : IsCertified s i before after cs) where
  marks_contested : MarksContested s i before after
  marks_contested p top =
      let at = conflict_at cs p ((h.explained.at_marks.each p).1 top) in
      let c : Conflict = at.2.0 in
      let shown = subst (λ (x : Conflict). ShowsWhy s i (views before) x.path x.why) at.2.1 (h.explained.each at.0 c at.1) in
      subst (IsContested s i (views before)) at.2.2 (shown_contested s i (views before) c.path c.why shown)

  pub certified_maximal : IsMaximal s i before after
  certified_maximal = contested_maximal s i before after h.safe marks_contested

  pub certified_sides : HasOutcomeSides s i before after
  certified_sides = record {
    left = λ outcome is. (outcome_only s i before outcome is).left after h.safe (certified_maximal.best outcome is.safe);
    right = λ outcome is. (outcome_only s i before outcome is).right after h.safe (certified_maximal.best outcome is.safe);
  }
