-- The seats that have hands.
use Rattle.std.specs.Prelude.{ℕ, List, [], ◌∷◌, Option, is_some, ◌+◌, ◌*◌, if◌then◌else◌}
use Rattle.saturation_laws.specs.declared.holding.Holding.{Holding}

module _ {S W Map : Type 0} where
  -- how many hands are out
  abbrev pub hands_out : List (Option (Holding S W Map)) → ℕ
  hands_out [] = 0
  hands_out (h ∷ hs) = (if is_some h then 1 else 0) + hands_out hs

  -- the number whose bits are the seats with hands, the lowest bit seat 0
  abbrev pub seat_bits : List (Option (Holding S W Map)) → ℕ
  seat_bits [] = 0
  seat_bits (h ∷ hs) = (if is_some h then 1 else 0) + 2 * seat_bits hs
