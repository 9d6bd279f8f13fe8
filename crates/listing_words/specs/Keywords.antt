-- How the keywords of a listing are spelt.
use Rattle.std.specs.Prelude.{ℕ, List, codes}
use Rattle.listing_words.specs.declared.names.Keyword.{Keyword}
use Rattle.listing_words.specs.declared.names.Keyword.TheVariants.{Schema, Pair, Field, Required, Nullable, Dictionary, Ordered, Unordered, Sorted, Unsorted, Id}

abbrev pub keyword_name : Keyword → List ℕ
keyword_name Schema = codes "schema"
keyword_name Pair = codes "pair"
keyword_name Field = codes "field"
keyword_name Required = codes "required"
keyword_name Nullable = codes "nullable"
keyword_name Dictionary = codes "dictionary"
keyword_name Ordered = codes "ordered"
keyword_name Unordered = codes "unordered"
keyword_name Sorted = codes "sorted"
keyword_name Unsorted = codes "unsorted"
keyword_name Id = codes "id"
