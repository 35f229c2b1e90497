-- That something with a property is there. The logic is constructive: to give a witness of what bytes are read as is to
-- read them. So it is said that there can't be none, and this is told by cases on any claim, whether or not it is decided.

-- it can't be that nothing has the property
abbrev pub IsThere : {X : Type 0} → (X → Type 0) → Type 0
IsThere {X} P = ¬ ((x : X) → ¬ (P x))
