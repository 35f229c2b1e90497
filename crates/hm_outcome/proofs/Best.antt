-- The outcome is the one best result: it agrees wherever any safe result does, and no other does.
use Rattle.std.proofs.Common.{◌≡◌, ◌≢◌, sym, ap, subst, ◌∙◌, inl, inr}
use Rattle.hm_tree.specs.declared.archive.State.TheVariants.{Marked}
use Rattle.hm_tree.specs.States.{Path, state}
use Rattle.hm_tree.proofs.States.{state_unmarked}
use Rattle.hm_tree.proofs.Extent.{same_option}
use Rattle.hm_schema.specs.declared.node.NodeId.{NodeId}
use Rattle.hm_schema.specs.Values.{SchemaValue}
use Rattle.hm_outcome.specs.Trios.{Trio, views, IsSafeUnder}
use Rattle.hm_safety.specs.Safety.{IsTopmostMark}
use Rattle.hm_outcome.specs.Contested.{IsContested}
use Rattle.hm_outcome.specs.Outcomes.{IsOutcome, AgreesWherever, IsMaximal, IsOnlyOne}
use Rattle.hm_outcome.proofs.Marks.{agree_same, agree_of, agrees, state_reaches, topmost_above, is_marked_or_not}
use Rattle.hm_outcome.proofs.Forced.{StayAt, alike_stays, contested_stays}

-- each topmost mark of a safe result stands where it is contested
abbrev pub MarksContested : SchemaValue → NodeId → Trio → Trio → Type 0
MarksContested s i before after = (p : Path) → IsTopmostMark (state after.archive) p → IsContested s i (views before) p

module _ (s : SchemaValue) (i : NodeId) (before after other : Trio) (this : IsSafeUnder s i (views before) (views after))
    (contested : MarksContested s i before after) (safe : IsSafeUnder s i (views before) (views other)) where
  -- where the result is marked each safe result leaves both sides
  stays : (p : Path) → state after.archive p ≡ Marked → StayAt before other p
  stays p m =
      let under = topmost_above (state after.archive) p m in
      subst (StayAt before other) (sym under.is) (contested_stays s i before other safe.safe safe.members under.top under.rest
      (contested under.top under.mark))

  agrees_too : AgreesWherever other after
  agrees_too p agree = agree_of alike (state_unmarked after.left p)
    where
      alike : state after.left p ≡ state after.right p
      alike = elim (this.safe.agrees_or_stops p) [
        | inl m ↦ this.safe.stop_leaves_left p m ∙ sym (stays p m).0 ∙ agree_same agree ∙ (stays p m).1 ∙ sym (this.safe.stop_leaves_right p m)
        | inr all ↦ sym all.0 ∙ all.1
      ]

  -- where the sides of both agree: if a side has changed both are as that side, else both sides were alike
  agreed_left : (p : Path) → state after.left p ≡ state after.right p → state other.left p ≡ state other.right p
      → state other.left p ≡ state after.left p
  agreed_left p here there = elim (agrees (state before.archive p) (state before.left p)) [
    | inr changed ↦ safe.safe.keeps_left p changed ∙ sym (this.safe.keeps_left p changed)
    | inl left ↦ elim (agrees (state before.archive p) (state before.right p)) [
      | inr changed ↦ there ∙ safe.safe.keeps_right p changed ∙ sym (this.safe.keeps_right p changed) ∙ sym here
      | inl right ↦ (let alike = sym (agree_same left) ∙ agree_same right in
          alike_stays before other safe.safe p alike ∙ sym (alike_stays before after this.safe p alike))
    ]
  ]

  same_sides : AgreesWherever after other → (p : Path) → StayAt after other p
  same_sides wherever p = elim (this.safe.agrees_or_stops p) [
    | inl m ↦ ((stays p m).0 ∙ sym (this.safe.stop_leaves_left p m), (stays p m).1 ∙ sym (this.safe.stop_leaves_right p m))
    | inr all ↦ (
        let here = sym all.0 ∙ all.1 in
        let there = agree_same (wherever p (agree_of here (state_unmarked after.left p))) in
        let left = agreed_left p here there in
        (left, sym there ∙ left ∙ here))
  ]

module _ (s : SchemaValue) (i : NodeId) (before after : Trio) where
  -- a safe result that is marked only where it is contested agrees wherever any safe result does, and no other does
  pub contested_maximal : IsSafeUnder s i (views before) (views after) → MarksContested s i before after → IsMaximal s i before after
  contested_maximal this contested = record { safe = this; best = λ other safe. agrees_too s i before after other this contested safe }

  pub contested_only : IsSafeUnder s i (views before) (views after) → MarksContested s i before after → IsOnlyOne s i before after
  contested_only this contested = record {
    left = λ other safe wherever. same_option other.left after.left (λ p. (same_sides s i before after other this contested safe wherever p).0);
    right = λ other safe wherever. same_option other.right after.right (λ p. (same_sides s i before after other this contested safe wherever p).1);
  }

  contested_marks : IsOutcome s i before after → MarksContested s i before after
  contested_marks outcome p m = ((outcome.marks p).0 m).contested

  pub outcome_maximal : IsOutcome s i before after → IsMaximal s i before after
  outcome_maximal outcome = contested_maximal outcome.safe (contested_marks outcome)

  pub outcome_only : IsOutcome s i before after → IsOnlyOne s i before after
  outcome_only outcome = contested_only outcome.safe (contested_marks outcome)

-- ---- there is one outcome

-- the topmost marks are the same, and each reaches down
marked_too : (s : SchemaValue) (i : NodeId) (before one other : Trio) → IsOutcome s i before one → IsOutcome s i before other → (p : Path)
    → state one.archive p ≡ Marked → state other.archive p ≡ Marked
marked_too s i before one other first second p m =
    let under = topmost_above (state one.archive) p m in
    let mark = (second.marks under.top).1 ((first.marks under.top).0 under.mark) in
    ap (state other.archive) under.is ∙ state_reaches other.archive under.top under.rest mark.marked

module _ (s : SchemaValue) (i : NodeId) (before one other : Trio) (first : IsOutcome s i before one) (second : IsOutcome s i before other) where
  wherever : AgreesWherever other one
  wherever = (outcome_maximal s i before one first).best other second.safe

  same_left : one.left ≡ other.left
  same_left = (outcome_only s i before other second).left one first.safe wherever

  same_right : one.right ≡ other.right
  same_right = (outcome_only s i before other second).right one first.safe wherever

  -- what isn't marked is as on the left side
  same_unmarked : (p : Path) → state one.archive p ≢ Marked → state other.archive p ≢ Marked → state one.archive p ≡ state other.archive p
  same_unmarked p here there = elim (first.safe.safe.agrees_or_stops p) [
    | inl m ↦ absurd (here m)
    | inr all ↦ elim (second.safe.safe.agrees_or_stops p) [
      | inl m ↦ absurd (there m)
      | inr too ↦ all.0 ∙ ap (λ t. state t p) same_left ∙ sym too.0
    ]
  ]

  same_archive : one.archive ≡ other.archive
  same_archive = same_option one.archive other.archive (λ p. elim (is_marked_or_not (state one.archive p)) [
    | inl m ↦ m ∙ sym (marked_too s i before one other first second p m)
    | inr n ↦ same_unmarked p n (λ m. n (marked_too s i before other one second first p m))
  ])

pub outcome_once : (s : SchemaValue) (i : NodeId) (before one other : Trio) → IsOutcome s i before one → IsOutcome s i before other → one ≡ other
outcome_once s i before one other first second = λ x. record {
  archive = same_archive s i before one other first second x;
  left = same_left s i before one other first second x;
  right = same_right s i before one other first second x;
}
