-- The symbols of a set are below the count of symbols, and none stands twice.
use Rattle.std.proofs.Common.{◌≡◌, ℕ, zero, suc, ◌+◌, ◌<◌, ◌≤◌, Bool, true, false, List, [], ◌∷◌, ◌++◌, length, refl, ap, ◌∙◌, ◌||◌, inl, inr, arith}
use Rattle.std.specs.Prelude.{nat_eq, nat_le, ◌⊎◌}
use Rattle.std.specs.List.{list_any, range_with_len, AllByRecursion}
use Rattle.std.proofs.lemmas.Bool.{eqb-true}
use Rattle.std.proofs.lemmas.Bool.Decides.{nat_tests}
use Rattle.std.proofs.lemmas.List.Elements.{recursion_from_All}
use Rattle.std.proofs.lemmas.List.FromFn.{length-range_with_len}
use Rattle.wpds_base.specs.Lists.{IsIn, IsOnce}
use Rattle.config_patterns.specs.Membership.{has_symbol}
use Rattle.config_patterns.specs.Validity.{is_set}
use Rattle.document_forms.specs.Lawful.{IsSetText, set_count}
use Rattle.document_forms.specs.declared.pattern.SetText.{SetText}
use Rattle.document_forms.specs.declared.pattern.SetText.TheVariants.{All as AllSymbols, Listed}
use Rattle.document_systems.specs.Systems.{set_of}
use Rattle.document_systems.proofs.LineLemmas.{none_from}

-- ---- all symbols

all_below : (n a k : ℕ) → a + k ≤ n → AllByRecursion (λ g. g < n) (range_with_len a k)
all_below n a zero low = tt
all_below n a (suc k) low = (omega arith, all_below n (a + 1) k (omega arith))

differ : (g h : ℕ) → g < h → nat_eq h g ≡ false
differ g h low = grind (arith, nat_tests)

not_among : (g a k : ℕ) → g < a → has_symbol g (range_with_len a k) ≡ false
not_among g a zero low = refl
not_among g a (suc k) low = rw (differ g a low, not_among g (a + 1) k (omega arith)) refl

all_once : (a k : ℕ) → is_set (range_with_len a k) ≡ true
all_once a zero = refl
all_once a (suc k) = rw (not_among a (a + 1) k (omega arith), all_once (a + 1) k) refl

-- ---- symbols that are listed

among : (g : ℕ) (gs : List ℕ) → has_symbol g gs ≡ true → IsIn g gs
among g [] e = cc
among g (h ∷ gs) e = go (nat_eq h g) refl e (among g gs)
  where
    go : (b : Bool) → nat_eq h g ≡ b → (b || has_symbol g gs) ≡ true → (has_symbol g gs ≡ true → IsIn g gs) → (h ≡ g) ⊎ IsIn g gs
    go true is e rest = inl (eqb-true h g is)
    go false is e rest = inr (rest e)

absent : (g : ℕ) (gs : List ℕ) → (IsIn g gs → ⊥) → has_symbol g gs ≡ false
absent g gs out = go (has_symbol g gs) refl
  where
    go : (b : Bool) → has_symbol g gs ≡ b → b ≡ false
    go true is = absurd (out (among g gs is))
    go false is = refl

listed_once : (gs : List ℕ) → IsOnce gs → is_set gs ≡ true
listed_once [] once = refl
listed_once (g ∷ gs) once = rw (absent g gs once.0, listed_once gs once.1) refl

-- ---- sets as they are written

pub none_outside : (n : ℕ) (set : SetText) → IsSetText n set → list_any (λ g. nat_le n g) (set_of n set) ≡ false
none_outside n AllSymbols is = none_from n (range_with_len 0 n) (all_below n 0 n (omega arith))
none_outside n (Listed gs) is = none_from n gs (recursion_from_All (λ g. g < n) gs is.0)

pub sets_are_once : (n : ℕ) (set : SetText) → IsSetText n set → is_set (set_of n set) ≡ true
sets_are_once n AllSymbols is = all_once 0 n
sets_are_once n (Listed gs) is = listed_once gs is.1

pub set_length : (n : ℕ) (set : SetText) → length (set_of n set) ≡ set_count n set
set_length n AllSymbols = length-range_with_len 0 n
set_length n (Listed gs) = refl
