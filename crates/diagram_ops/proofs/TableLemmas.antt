-- A table of two places as one of three.
use Rattle.std.proofs.Common.{◌≡◌, ℕ, ◌+◌, ◌*◌, Bool, true, false, ◌&&◌, refl, ap, ◌∙◌}
use Rattle.std.specs.Prelude.{cond}
use Rattle.std.proofs.lemmas.Bool.{and_parts}
use mir.Val.{bool_byte}
use Rattle.truth_tables.specs.Tables.{value2_of, value3_of}

abbrev both : (Bool → Bool) → Bool
both f = f true && f false

at_each : (f : Bool → Bool) → both f ≡ true → (b : Bool) → f b ≡ true
at_each f e true = (and_parts (f true) (f false) e).0
at_each f e false = (and_parts (f true) (f false) e).1

abbrev agree : Bool → Bool → Bool
agree true b = b
agree false true = false
agree false false = true

agree_is : (a b : Bool) → agree a b ≡ true → a ≡ b
agree_is true true e = refl
agree_is true false e = cc
agree_is false true e = cc
agree_is false false e = refl

abbrev spread : Bool → Bool → Bool → Bool → ℕ
spread b0 b1 b2 b3 = ((bool_byte b0 + 4 * bool_byte b1) + 16 * bool_byte b2) + 64 * bool_byte b3

abbrev row : Bool → Bool → Bool → Bool → Bool → Bool → Bool
row b0 b1 b2 b3 p q = agree (value3_of (spread b0 b1 b2 b3) p q false) (cond p (cond q b3 b2) (cond q b1 b0))

all_rows : both (λ b0. both (λ b1. both (λ b2. both (λ b3. both (λ p. both (λ q. row b0 b1 b2 b3 p q)))))) ≡ true
all_rows = refl

pub spread_value : (b0 b1 b2 b3 p q : Bool) → value3_of (spread b0 b1 b2 b3) p q false ≡ cond p (cond q b3 b2) (cond q b1 b0)
spread_value b0 b1 b2 b3 p q =
    agree_is (value3_of (spread b0 b1 b2 b3) p q false) (cond p (cond q b3 b2) (cond q b1 b0))
    (at_each (λ y. row b0 b1 b2 b3 p y)
    (at_each (λ x. both (λ y. row b0 b1 b2 b3 x y))
    (at_each (λ c3. both (λ x. both (λ y. row b0 b1 b2 c3 x y)))
    (at_each (λ c2. both (λ c3. both (λ x. both (λ y. row b0 b1 c2 c3 x y))))
    (at_each (λ c1. both (λ c2. both (λ c3. both (λ x. both (λ y. row b0 c1 c2 c3 x y)))))
    (at_each (λ c0. both (λ c1. both (λ c2. both (λ c3. both (λ x. both (λ y. row c0 c1 c2 c3 x y)))))) all_rows b0) b1) b2) b3) p) q)

by_rows : (table : ℕ) (b0 b1 b2 b3 : Bool) → b0 ≡ value2_of table false false → b1 ≡ value2_of table false true → b2 ≡ value2_of table true false → b3 ≡ value2_of table true true
    → (p q : Bool) → cond p (cond q b3 b2) (cond q b1 b0) ≡ value2_of table p q
by_rows table b0 b1 b2 b3 e0 e1 e2 e3 true true = e3
by_rows table b0 b1 b2 b3 e0 e1 e2 e3 true false = e2
by_rows table b0 b1 b2 b3 e0 e1 e2 e3 false true = e1
by_rows table b0 b1 b2 b3 e0 e1 e2 e3 false false = e0

-- as the code makes the table
pub widened_value : (table x0 x1 x2 x3 : ℕ) (b0 b1 b2 b3 : Bool) → x0 ≡ bool_byte b0 → x1 ≡ bool_byte b1 → x2 ≡ bool_byte b2 → x3 ≡ bool_byte b3
    → b0 ≡ value2_of table false false → b1 ≡ value2_of table false true → b2 ≡ value2_of table true false → b3 ≡ value2_of table true true
    → (p q : Bool) → value3_of (((x0 + 4 * x1) + 16 * x2) + 64 * x3) p q false ≡ value2_of table p q
widened_value table x0 x1 x2 x3 b0 b1 b2 b3 f0 f1 f2 f3 e0 e1 e2 e3 p q =
    let sum : ((x0 + 4 * x1) + 16 * x2) + 64 * x3 ≡ spread b0 b1 b2 b3 = cc in
    ap (λ k. value3_of k p q false) sum ∙ spread_value b0 b1 b2 b3 p q ∙ by_rows table b0 b1 b2 b3 e0 e1 e2 e3 p q
