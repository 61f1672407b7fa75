-- What a table knows: a number at three numbers.
use Rattle.std.specs.Prelude.{ℕ, Bool, ◌&&◌, nat_eq, List, [], ◌∷◌, Option, None, Some, if◌then◌else◌}
use Rattle.diagram_store.specs.declared.triple_chains.Entry.{Entry}

abbrev pub same_key : ℕ × ℕ × ℕ → ℕ × ℕ × ℕ → Bool
same_key a b = (nat_eq a.0 b.0 && nat_eq a.1 b.1) && nat_eq a.2 b.2

abbrev pub or_else : Option ℕ → Option ℕ → Option ℕ
or_else (Some v) o = Some v
or_else None o = o

abbrev pub value_there : Entry → ℕ × ℕ × ℕ → Option ℕ
value_there e key = if same_key (e.x, e.y, e.z) key then Some e.value else None

abbrev pub newest_there : List Entry → ℕ × ℕ × ℕ → Option ℕ
newest_there [] key = None
newest_there (e ∷ es) key = or_else (newest_there es key) (value_there e key)

-- the number of the newest entry at three numbers
abbrev pub known : List Entry → ℕ → ℕ → ℕ → Option ℕ
known es x y z = newest_there es (x, y, z)
