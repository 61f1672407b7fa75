-- A number above 0 at some places of a list, where 0 stands for none.
use Rattle.std.specs.Prelude.{ℕ, zero, suc, List, Option, None, Some, get_or}

abbrev pub number_of : ℕ → Option ℕ
number_of zero = None
number_of (suc n) = Some (suc n)

abbrev pub placed : List ℕ → ℕ → Option ℕ
placed numbers k = number_of (get_or numbers k 0)
