use Rattle.std.proofs.Common.{◌≡◌, ◌≢◌, ℕ, Option, Some, None, MatchOption, ◌<◌, List, length, slice_index, rules, tests, arith}
use Rattle.std.proofs.lemmas.Iterator.{IsFirst-from_position, YieldsList-from_slice}
use Rattle.std.specs.List.{AllWithin, HoldsAt}
use Rattle.std.specs.Option.{unwrap_or}
use Rattle.listing_words.specs.Tokens.{kind_of}
use Rattle.listing_words.proofs.token.run_len.Goals as goal

-- Each number before the first that is a Q is a P.
before_first : (P Q : ℕ → Type 0) (r : Option ℕ) (xs : List ℕ) → MatchOption r (AllWithin P xs 0 (length xs)) (λ i. (i < length xs) × HoldsAt Q xs i × AllWithin P xs 0 i) → (k : ℕ) → k < unwrap_or r (length xs) → P (slice_index xs k)
before_first P Q None xs all k h = all k 0 (omega arith) h
before_first P Q (Some i) xs all k h = all.2 k 0 (omega arith) h

pub returns-clause-all : goal.returns-clause-all
returns-clause-all c i h =
    let P = λ (b : ℕ). kind_of b ≡ c.args.k in
    let Q = λ (b : ℕ). kind_of b ≢ c.args.k in
    before_first P Q c.position.result c.args.s.now (IsFirst-from_position _ _ c.position.result Q P c.position.ensures.ran (YieldsList-from_slice c.args.s.now cc) (λ x q k. search (rules, tests)) (λ x q k. search (rules, tests))) i (omega (arith, c.unwrap_or.ensures))
