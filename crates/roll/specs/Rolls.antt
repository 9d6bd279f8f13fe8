-- What a roll holds: its elements, and the places past them.
use Rattle.std.specs.Prelude.{List, take, drop}
use Rattle.roll.specs.declared.Roll.{Roll}

-- The elements of a roll, in order.
abbrev pub items : {T : Type 0} → Roll T → List T
items r = take r.used r.places.now

-- What the places hold that are not used.
abbrev pub free : {T : Type 0} → Roll T → List T
free r = drop r.used r.places.now
