-- Which transitions may meet.
use Rattle.std.specs.Prelude.{Bool, if◌then◌else◌}
use Rattle.weighted_automata.specs.declared.place.Place.{Place}
use Rattle.weighted_automata.specs.declared.transitions.Entry.{Entry}
use Rattle.weighted_automata.specs.Entries.{is_out_of, is_empty_into}
use Rattle.direction_parts.specs.Places.{reads_symbol}

-- one that reads a symbol meets the empty ones that lead to where it begins, and an empty one those from where it ends
abbrev pub may_glue : {S W Map : Type 0} → Place → Entry S W Map → Bool
may_glue x u = if reads_symbol x.label then is_empty_into x.from u else is_out_of x.to u
