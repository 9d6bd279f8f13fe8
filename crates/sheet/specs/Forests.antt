-- Rows of trees, and how a list with child counts spells one.
use Rattle.std.specs.Prelude.{ℕ, suc, List, [], ◌∷◌, ◌++◌}

-- A row of trees: none, or a tree with the row of its children, and the rest of the row.
pub data Forest (A : Type 0) : Type 0 where
  none : Forest A
  tree : A → Forest A → Forest A → Forest A

-- How many trees stand in a row.
abbrev pub width : {A : Type 0} → Forest A → ℕ
width none = 0
width (tree x kids rest) = suc (width rest)

-- The nodes in preorder, each with the count of its children.
abbrev pub counted : {A : Type 0} → Forest A → List (A × ℕ)
counted none = []
counted (tree x kids rest) = (x, width kids) ∷ (counted kids ++ counted rest)

-- The same row with each node changed.
abbrev pub mapped_forest : {A B : Type 0} → (A → B) → Forest A → Forest B
mapped_forest f none = none
mapped_forest f (tree x kids rest) = tree (f x) (mapped_forest f kids) (mapped_forest f rest)
