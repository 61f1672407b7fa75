-- The least width for so many facts.
use Rattle.std.proofs.Common.{◌≡◌, ℕ, zero, suc, ◌*◌, ◌<◌, ◌≤◌, ◌⊎◌, refl, sym, subst, ◌∙◌, inl, inr, arith, lit<}
use Rattle.std.specs.Prelude.{Contains}
use Rattle.std.proofs.lemmas.Bool.{cases_lt}
use Rattle.std.proofs.lemmas.Bool.Decides.{nat_tests}
use Rattle.wpds_base.specs.Limits.{most_facts}
use Rattle.genkill_weights.specs.Widths.{widths, width_for, IsLeastWidth}

is_one_of : (m : ℕ) → Contains widths m → (m ≡ 1) ⊎ ((m ≡ 2) ⊎ ((m ≡ 4) ⊎ ((m ≡ 8) ⊎ (m ≡ 16))))
is_one_of m (zero, low, e) = inl (sym e)
is_one_of m (suc zero, low, e) = inr (inl (sym e))
is_one_of m (suc (suc zero), low, e) = inr (inr (inl (sym e)))
is_one_of m (suc (suc (suc zero)), low, e) = inr (inr (inr (inl (sym e))))
is_one_of m (suc (suc (suc (suc zero))), low, e) = inr (inr (inr (inr (sym e))))
is_one_of m (suc (suc (suc (suc (suc k)))), low, e) = absurd (omega (arith, low))

-- ---- the first that has room

pub width_1 : (facts : ℕ) → facts ≤ 64 → width_for facts ≡ 1
width_1 facts low = grind (arith, nat_tests)

pub width_2 : (facts : ℕ) → 64 < facts → facts ≤ 128 → width_for facts ≡ 2
width_2 facts more low = grind (arith, nat_tests)

pub width_4 : (facts : ℕ) → 128 < facts → facts ≤ 256 → width_for facts ≡ 4
width_4 facts more low = grind (arith, nat_tests)

pub width_8 : (facts : ℕ) → 256 < facts → facts ≤ 512 → width_for facts ≡ 8
width_8 facts more low = grind (arith, nat_tests)

pub width_16 : (facts : ℕ) → 512 < facts → width_for facts ≡ 16
width_16 facts more = grind (arith, nat_tests)

-- ---- and none that is less

-- a width that is less is half of it at most
half : (m n : ℕ) → (m ≡ 1) ⊎ ((m ≡ 2) ⊎ ((m ≡ 4) ⊎ ((m ≡ 8) ⊎ (m ≡ 16)))) → (n ≡ 1) ⊎ ((n ≡ 2) ⊎ ((n ≡ 4) ⊎ ((n ≡ 8) ⊎ (n ≡ 16)))) → m < n → (0 < m) × (2 * m ≤ n)
half m n is other less = grind arith

pub least_is : (facts n : ℕ) → Contains widths n → facts ≤ 64 * n → (n ≡ 1) ⊎ (32 * n < facts) → IsLeastWidth facts n
least_is facts n is room more = record {
  width = is;
  room = room;
  least = λ m other few. elim (cases_lt m n) [
    | inl less ↦
        let h = half m n (is_one_of m other) (is_one_of n is) less in
        absurd (elim more [ inl e ↦ omega (arith, e, h.0, less) | inr over ↦ omega (arith, h.1, over, few) ])
    | inr most ↦ omega (arith, most)
  ];
}

one_is : Contains widths 1
one_is = (0, lit< tt, refl)

two_is : Contains widths 2
two_is = (1, lit< tt, refl)

four_is : Contains widths 4
four_is = (2, lit< tt, refl)

eight_is : Contains widths 8
eight_is = (3, lit< tt, refl)

sixteen_is : Contains widths 16
sixteen_is = (4, lit< tt, refl)

at_width : (facts n : ℕ) → width_for facts ≡ n → IsLeastWidth facts n → IsLeastWidth facts (width_for facts)
at_width facts n e h = subst (IsLeastWidth facts) (sym e) h

pub least_width : (facts : ℕ) → facts ≤ most_facts → IsLeastWidth facts (width_for facts)
least_width facts few = elim (cases_lt 64 facts) [
  | inr low ↦ at_width facts 1 (width_1 facts low) (least_is facts 1 one_is (omega (arith, low)) (inl refl))
  | inl over64 ↦ elim (cases_lt 128 facts) [
    | inr low ↦ at_width facts 2 (width_2 facts over64 low) (least_is facts 2 two_is (omega (arith, low)) (inr (omega (arith, over64))))
    | inl over128 ↦ elim (cases_lt 256 facts) [
      | inr low ↦ at_width facts 4 (width_4 facts over128 low) (least_is facts 4 four_is (omega (arith, low)) (inr (omega (arith, over128))))
      | inl over256 ↦ elim (cases_lt 512 facts) [
        | inr low ↦ at_width facts 8 (width_8 facts over256 low) (least_is facts 8 eight_is (omega (arith, low)) (inr (omega (arith, over256))))
        | inl over512 ↦ at_width facts 16 (width_16 facts over512) (least_is facts 16 sixteen_is (omega (arith, few)) (inr (omega (arith, over512))))
      ]
    ]
  ]
]

no_room : (facts m n : ℕ) → ((k : ℕ) → Contains widths k → facts ≤ 64 * k → n ≤ k) → Contains widths m → m < n → 64 * m < facts
no_room facts m n least is less = elim (cases_lt (64 * m) facts) [
  | inl over ↦ over
  | inr low ↦ let most = least m is low in absurd (omega (arith, most, less))
]

-- where a width is the least, the one before it has no room
pub width_is_least : (facts n : ℕ) → IsLeastWidth facts n → width_for facts ≡ n
width_is_least facts n h =
    let over = λ (m : ℕ) (is : Contains widths m) (less : m < n). no_room facts m n h.least is less in
    elim (is_one_of n h.width) [
      | inl e ↦ width_1 facts (omega (arith, h.room, e)) ∙ sym e
      | inr (inl e) ↦ width_2 facts (over 1 one_is (omega (arith, e))) (omega (arith, h.room, e)) ∙ sym e
      | inr (inr (inl e)) ↦ width_4 facts (over 2 two_is (omega (arith, e))) (omega (arith, h.room, e)) ∙ sym e
      | inr (inr (inr (inl e))) ↦ width_8 facts (over 4 four_is (omega (arith, e))) (omega (arith, h.room, e)) ∙ sym e
      | inr (inr (inr (inr e))) ↦ width_16 facts (over 8 eight_is (omega (arith, e))) ∙ sym e
    ]

pub least_of : (facts n result : ℕ) → result ≡ n → width_for facts ≡ n → facts ≤ most_facts → IsLeastWidth facts result
least_of facts n result is e few = subst (IsLeastWidth facts) (e ∙ sym is) (least_width facts few)
