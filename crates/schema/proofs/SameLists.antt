-- Whether two lists are equal, element by element.
use Rattle.std.proofs.Common.{◌≡◌, List}

-- Two lists are equal exactly if what is left of them is.
abbrev pub SameSoFar : {V : Type 0} → List V → List V → List V → List V → Type 0
SameSoFar us vs ls ms = (us ≡ vs → ls ≡ ms) × (ls ≡ ms → us ≡ vs)
