-- Parts of a line that are written from its end.
use Rattle.std.proofs.Common.{◌≡◌, ℕ, List, [], ◌++◌, refl, append_assoc, append-nil}
use Rattle.std.specs.Prelude.{Option, None, Some, codes, option_map, option_to_list, is_some, ◌||◌, false}
use Rattle.std.specs.List.{join_by}
use Rattle.report_text.specs.private.{part_text}

three : (a t b c rest : List ℕ) → (a ++ t) ++ ((b ++ t) ++ ((c ++ []) ++ rest)) ≡ (a ++ ((t ++ b) ++ ((t ++ c) ++ []))) ++ rest
three a t b c rest = simp (append_assoc, append-nil)

module _ (f g h : ℕ → List ℕ) where
  -- three parts, the last first
  abbrev pub put_parts : (a b c : Option ℕ) → List ℕ → List ℕ
  put_parts a b c rest =
      part_text (option_map f a) ((false || is_some c) || is_some b) ++ (part_text (option_map g b) (false || is_some c) ++ (part_text (option_map h c) false ++ rest))

  pub parts_joined : (a b c : Option ℕ) (rest : List ℕ)
      → put_parts a b c rest ≡ join_by (λ t. t) (codes " then ") (option_to_list (option_map f a) ++ (option_to_list (option_map g b) ++ option_to_list (option_map h c))) ++ rest
  parts_joined None None None rest = refl
  parts_joined None None (Some c) rest = simp append-nil
  parts_joined None (Some b) None rest = simp append-nil
  parts_joined None (Some b) (Some c) rest = simp (append_assoc, append-nil)
  parts_joined (Some a) None None rest = simp append-nil
  parts_joined (Some a) None (Some c) rest = simp (append_assoc, append-nil)
  parts_joined (Some a) (Some b) None rest = simp (append_assoc, append-nil)
  parts_joined (Some a) (Some b) (Some c) rest = three (f a) (codes " then ") (g b) (h c) rest
