-- Moves of a return map, one by one.
use Rattle.std.proofs.Common.{◌≡◌, ℕ, zero, suc, ◌<◌, ◌≤◌, cond, List, [], ◌∷◌, length, get_or, drop, refl, sym, ap, arith}
use Rattle.std.specs.Prelude.{nat_eq}
use Rattle.document_forms.specs.declared.document.Move.{Move}
use Rattle.document_systems.specs.RelationWeights.{moved_from}

pub moves_step : (ms : List Move) (i : ℕ) (m : Move) (v : ℕ) → i < length ms → m ≡ get_or ms i m → moved_from (drop i ms) v ≡ cond (nat_eq m.to v) m.from (moved_from (drop (suc i) ms) v)
moves_step [] i m v low at = absurd (omega (arith, low))
moves_step (x ∷ ms) zero m v low at = ap (λ (y : Move). cond (nat_eq y.to v) y.from (moved_from ms v)) (sym at)
moves_step (x ∷ ms) (suc i) m v low at = moves_step ms i m v (omega (arith, low)) at

pub moves_end : (ms : List Move) (i v : ℕ) → length ms ≤ i → moved_from (drop i ms) v ≡ v
moves_end [] zero v low = refl
moves_end [] (suc i) v low = refl
moves_end (x ∷ ms) zero v low = absurd (omega (arith, low))
moves_end (x ∷ ms) (suc i) v low = moves_end ms i v (omega (arith, low))
