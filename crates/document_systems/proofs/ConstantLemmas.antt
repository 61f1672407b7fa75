-- How a constant is written.
use Rattle.std.proofs.Common.{◌≡◌, ℕ, List, refl}
use Rattle.std.specs.Prelude.{ℤ, Option, None, Some, option_map, option_to_list}
use Rattle.std.specs.Fmt.{signed_decimal}
use Rattle.document_forms.specs.Writing.{constant_texts}

pub constant_is : (names : List (List ℕ)) (c : Option ℤ) → option_to_list (option_map signed_decimal c) ≡ constant_texts names c
constant_is names None = refl
constant_is names (Some k) = refl
