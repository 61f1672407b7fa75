-- Lists in which 0 stands for none.
use Rattle.std.proofs.Common.{◌≡◌, ℕ, zero, suc, List, [], ◌++◌, take, replicate, refl, ap, ◌∙◌}
use Rattle.std.specs.Prelude.{None}
use Rattle.diagram_ops.specs.private.Places.{placed}

none_repeated : (count k : ℕ) → placed (replicate count 0) k ≡ None
none_repeated zero zero = refl
none_repeated zero (suc k) = refl
none_repeated (suc count) zero = refl
none_repeated (suc count) (suc k) = none_repeated count k

none_taken : (count : ℕ) → take {A = ℕ} count [] ≡ []
none_taken zero = refl
none_taken (suc count) = refl

-- a list that was empty, filled up
pub none_filled : (numbers : List ℕ) (cut count k : ℕ) → numbers ≡ [] → placed (take cut numbers ++ replicate count 0) k ≡ None
none_filled numbers cut count k empty =
    ap (λ l. placed (take cut l ++ replicate count 0) k) empty ∙ ap (λ l. placed (l ++ replicate count 0) k) (none_taken cut) ∙ none_repeated count k
