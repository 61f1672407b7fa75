-- Lists of symbols, place by place.
use Rattle.std.proofs.Common.{◌≡◌, ℕ, zero, suc, ◌+◌, ◌<◌, false, List, [], ◌∷◌, ◌++◌, length, get_or, take, drop, refl, ap, ap₂, ◌∙◌, arith}
use Rattle.std.specs.Prelude.{◌&&◌, not, nat_le, Some, All, slice_get}
use Rattle.std.specs.List.{list_any}
use Rattle.std.proofs.lemmas.Bool.Decides.{nat_tests}
use Rattle.std.proofs.lemmas.Option.{same_Some, none-some}
use Rattle.std.proofs.lemmas.List.{at_drop_more, map_push}
use Rattle.std.proofs.lemmas.List.Elements.{All-head, All-tail}
use Rattle.config_patterns.specs.Membership.{has_symbol}
use Rattle.config_patterns.specs.Edges.{edges_into}
use Rattle.config_patterns.specs.Validity.{is_set}

-- one symbol more
pub symbol_more : (symbols : List ℕ) (i : ℕ) → i < length symbols
    → is_set (drop i symbols) ≡ (not (has_symbol (get_or symbols i 0) (drop (i + 1) symbols)) && is_set (drop (i + 1) symbols))
symbol_more symbols i less = at_drop_more is_set symbols i 0 less

pub take_one : (xs : List ℕ) (k x : ℕ) → slice_get xs k ≡ Some x → take (k + 1) xs ≡ take k xs ++ x ∷ []
take_one [] k x at = absurd (none-some x at)
take_one (y ∷ ys) zero x at = ap (λ z. z ∷ []) (same_Some y x at)
take_one (y ∷ ys) (suc k) x at =
    let next : suc k + 1 ≡ suc (k + 1) = omega arith in
    ap (λ n. take n (y ∷ ys)) next ∙ ap (λ l. y ∷ l) (take_one ys k x at)

-- lists with the same at each place
pub same_places : (xs ys : List ℕ) → length xs ≡ length ys → ((k : ℕ) → k < length xs → slice_get xs k ≡ slice_get ys k) → xs ≡ ys
same_places [] [] long same = refl
same_places [] (y ∷ ys) long same = absurd (omega (arith, long))
same_places (x ∷ xs) [] long same = absurd (omega (arith, long))
same_places (x ∷ xs) (y ∷ ys) long same =
    ap₂ (λ z zs. z ∷ zs) (same_Some x y (same 0 (omega arith))) (same_places xs ys (omega (arith, long)) (λ k low. same (suc k) (omega arith)))

-- none is out of reach
pub none_outside : (n : ℕ) (set : List ℕ) → All (λ g. g < n) set → list_any (λ g. nat_le n g) set ≡ false
none_outside n [] low = refl
none_outside n (g ∷ gs) low =
    let first : g < n = All-head (λ g. g < n) g gs low in
    let out : nat_le n g ≡ false = grind (arith, nat_tests) in
    rw out (none_outside n gs (All-tail (λ g. g < n) g gs low))

-- the edge of one symbol more
pub edge_more : (from to : ℕ) (set : List ℕ) (k g : ℕ) → slice_get set k ≡ Some g
    → edges_into from to (take (k + 1) set) ≡ edges_into from to (take k set) ++ record { from = from; symbol = g; to = to } ∷ []
edge_more from to set k g at = ap (edges_into from to) (take_one set k g at) ∙ map_push _ (take k set) g
