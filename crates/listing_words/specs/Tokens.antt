-- What the bytes of a line are, and what a hexadecimal digit stands for.
use Rattle.std.specs.Prelude.{◌≡◌, ℕ, ◌+◌, ◌-◌, Bool, cond, List, ◌++◌, Some, None, Option, ◌==◌, nat_le}
use Rattle.listing_words.specs.declared.token.Kind.{Kind}
use Rattle.listing_words.specs.declared.token.Kind.TheVariants.{Space, Word, Mark}

abbrev between : ℕ → ℕ → ℕ → Bool
between low high b = cond (nat_le low b) (nat_le b high) (nat_le 1 0)

-- A byte is a space, part of a word (letters, digits and the sign of a number), or a mark.
abbrev pub kind_of : ℕ → Kind
kind_of b =
    cond (b == 32) Space
    (cond (b == 9) Space
    (cond (b == 13) Space
    (cond (b == 45) Word
    (cond (between 48 57 b) Word
    (cond (between 65 90 b) Word
    (cond (between 97 122 b) Word Mark))))))

-- What a hexadecimal digit stands for.
abbrev pub hex_value : ℕ → Option ℕ
hex_value b =
    cond (between 48 57 b) (Some (b - 48))
    (cond (between 97 102 b) (Some (b - 97 + 10))
    (cond (between 65 70 b) (Some (b - 65 + 10)) None))

-- Reading went past these bytes, and perhaps past others before them: what is left is what is behind them.
abbrev pub Passes : List ℕ → List ℕ → List ℕ → Type 0
Passes line bytes left = (before : List ℕ) × (line ≡ before ++ (bytes ++ left))

-- Something was added at the end, or nothing.
abbrev pub Grown : List ℕ → List ℕ → Type 0
Grown old new = (more : List ℕ) × (new ≡ old ++ more)
