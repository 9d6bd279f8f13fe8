-- The tests of the check, each a computation.
use Rattle.std.specs.Prelude.{ℕ, ◌+◌, Bool, true, not, ◌&&◌, List, [], ◌∷◌, map, length, Some, None, sum_by, Option, ◌==◌, nat_le}
use Rattle.std.proofs.Math.Utf8.{scalars, encodes}
use Rattle.std.specs.List.{list_all, list_any}
use Rattle.std.specs.Str.{chars, bytes_eq}
use Rattle.types.specs.declared.Text.{Text}
use Rattle.types.specs.declared.Pair.{Pair}
use Rattle.types.specs.declared.FieldRecord.{FieldRecord}
use Rattle.sheet.specs.Contents.{Content}
use Rattle.sheet.specs.Texts.{said}
use Rattle.types.specs.Types.{zone_of}
use Rattle.rules.specs.Sites.{Row, plain, inside_union}

-- The limits of a sheet.
abbrev pub max_records : ℕ
max_records = 1024

abbrev pub max_pairs : ℕ
max_pairs = 1024

abbrev pub max_bytes : ℕ
max_bytes = 32768

abbrev pub max_depth : ℕ
max_depth = 32

abbrev pub max_type_id : ℕ
max_type_id = 127

-- The length of a zone, 0 where there is none.
abbrev pub zone_length : Option Text → ℕ
zone_length None = 0
zone_length (Some t) = t.len

-- The lengths of the texts of a record and of a pair.
abbrev pub record_length : FieldRecord → ℕ
record_length x = x.name.len + zone_length (zone_of x.data_type)

abbrev pub pair_length : Pair → ℕ
pair_length p = p.key.len + p.value.len

-- The lengths of all texts of a sheet, summed up.
abbrev pub summed_lengths : Content → ℕ
summed_lengths c = sum_by record_length c.records + sum_by pair_length c.pairs

-- A type id does for a row: 0, or in a union at most 127 and new.
abbrev pub among : ℕ → List ℕ → Bool
among id ids = list_any (λ other. other == id) ids

abbrev pub id_fits : Row → ℕ → Bool
id_fits plain id = id == 0
id_fits (inside_union ids) id = nat_le id max_type_id && not (among id ids)

-- A zone is missing or not empty.
abbrev pub zone_fits : Option Text → Bool
zone_fits None = true
zone_fits (Some t) = not (t.len == 0)

-- Bytes are UTF-8: what they decode to are characters, and encodes to the same bytes again.
abbrev pub is_utf8 : List ℕ → Bool
is_utf8 bs = scalars (chars bs) && bytes_eq (encodes (chars bs)) bs

-- A text lies within the bytes and is UTF-8.
abbrev pub text_fits : List ℕ → Text → Bool
text_fits bytes t = nat_le (t.start + t.len) (length bytes) && is_utf8 (said bytes t)

abbrev pub zone_text_fits : List ℕ → Option Text → Bool
zone_text_fits bytes None = true
zone_text_fits bytes (Some t) = text_fits bytes t

abbrev pub pair_fits : List ℕ → Pair → Bool
pair_fits bytes p = text_fits bytes p.key && text_fits bytes p.value

-- A test holds of each element.
abbrev pub every : {A : Type 0} → (A → Bool) → List A → Bool
every test xs = list_all test xs

-- The texts of a record with these pairs.
abbrev pub texts_fit : List ℕ → FieldRecord → List Pair → Bool
texts_fit bytes x ps = (text_fits bytes x.name && zone_text_fits bytes (zone_of x.data_type)) && every (pair_fits bytes) ps

-- The keys of pairs, as bytes.
abbrev pub keys : List ℕ → List Pair → List (List ℕ)
keys bytes ps = map (λ p. said bytes p.key) ps

-- No two keys are the same bytes.
abbrev pub lacks : List ℕ → List (List ℕ) → Bool
lacks k ks = every (λ other. not (bytes_eq other k)) ks

abbrev pub all_differ : List (List ℕ) → Bool
all_differ [] = true
all_differ (k ∷ ks) = lacks k ks && all_differ ks
