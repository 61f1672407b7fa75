-- The symbols of a ladder are names, each once.
use Rattle.std.proofs.Common.{◌≡◌, ◌⊎◌, inl, inr, ℕ, zero, suc, ◌+◌, ◌*◌, ◌%◌, ◌^◌, ◌<◌, ◌≤◌, Bool, true, false, not, List, [], ◌∷◌, ◌++◌, length, refl, sym, ap, ◌∙◌, arith, decimal, append_assoc, ◌-◌}
use Rattle.std.specs.Prelude.{All, bytes_eq, nat_le}
use Rattle.std.specs.List.{list_all}
use Rattle.std.proofs.lemmas.Bool.{and_parts, and_from, or_from, or_left, or_right, le-leb, false_from_ne_true}
use Rattle.std.proofs.lemmas.List.Elements.{All-nil, All-cons}
use Rattle.std.proofs.lemmas.Slice.Eq.{bytes_eq-Decides}
use Rattle.std.proofs.lemmas.Fmt.{decimal_by_steps, decimal_injective, length-decimal-le}
use Rattle.wpds_base.specs.Limits.{most_rungs, most_symbols}
use Rattle.wpds_base.specs.Lists.{IsIn, IsOnce}
use Rattle.wpds_port.specs.Tokens.{is_digit, begins_name, goes_on_name}
use Rattle.document_forms.specs.Names.{reserved, is_among, is_reserved}
use Rattle.document_forms.specs.Lawful.{IsName, AreNames}
use Rattle.ladder.specs.Ladders.{entry, middle, exit, rung_symbols, symbols_from}

-- ---- digits

record AreDigits (n : ℕ) (ds : List ℕ) : Type 0 where
  some : 0 < length ds
  each : list_all is_digit ds ≡ true

digit_within : (d : ℕ) → 48 ≤ d → d ≤ 57 → is_digit d ≡ true
digit_within d l u = and_from (nat_le 48 d) (nat_le d 57) (le-leb 48 d l) (le-leb d 57 u)

one_more : (ds : List ℕ) (d : ℕ) → list_all is_digit ds ≡ true → is_digit d ≡ true → list_all is_digit (ds ++ d ∷ []) ≡ true
one_more [] d all last = and_from (is_digit d) true last refl
one_more (e ∷ es) d all last =
    let parts = and_parts (is_digit e) (list_all is_digit es) all in
    and_from (is_digit e) (list_all is_digit (es ++ d ∷ [])) parts.0 (one_more es d parts.1 last)

digits_of : (n : ℕ) → n < 2 ^ 64 → AreDigits n (decimal n)
digits_of =
    decimal_by_steps AreDigits
    (λ m l. record { some = omega arith; each = and_from (is_digit (48 + m)) true (digit_within (48 + m) (omega arith) (omega arith)) refl })
    (λ m ds l h. record {
      some = longer ds (48 + m % 10);
      each = one_more ds (48 + m % 10) h.each (digit_within (48 + m % 10) (omega arith) (omega arith));
    })
  where
    longer : (ds : List ℕ) (d : ℕ) → 0 < length (ds ++ d ∷ [])
    longer [] d = omega arith
    longer (e ∷ es) d = omega arith

go_on : (ds : List ℕ) → list_all is_digit ds ≡ true → list_all goes_on_name ds ≡ true
go_on [] all = refl
go_on (d ∷ ds) all =
    let parts = and_parts (is_digit d) (list_all is_digit ds) all in
    and_from (goes_on_name d) (list_all goes_on_name ds)
    (or_left _ _ (or_left _ _ (or_right (begins_name d) (is_digit d) parts.0)))
    (go_on ds parts.1)

-- ---- no reserved word has a digit behind its first letter

abbrev second_is_digit : List ℕ → Bool
second_is_digit [] = false
second_is_digit (b ∷ []) = false
second_is_digit (b ∷ c ∷ bs) = is_digit c

none_among : (x : List ℕ) (ys : List (List ℕ)) → second_is_digit x ≡ true → list_all (λ y. not (second_is_digit y)) ys ≡ true → is_among ys x ≡ false
none_among x [] digit all = refl
none_among x (y ∷ ys) digit all =
    let parts = and_parts (not (second_is_digit y)) (list_all (λ z. not (second_is_digit z)) ys) all in
    let other : bytes_eq x y ≡ false =
    false_from_ne_true (bytes_eq x y) (λ e.
    let same : second_is_digit y ≡ true = ap second_is_digit (sym ((bytes_eq-Decides x y).0 e)) ∙ digit in
    absurd (let bad : false ≡ true = sym (ap not same) ∙ parts.0 in cc)) in
    or_from (bytes_eq x y) (is_among ys x) other (none_among x ys digit parts.1)

free : (x : List ℕ) → second_is_digit x ≡ true → is_reserved x ≡ false
free x digit = none_among x reserved digit refl

-- ---- a letter and a number are a name

lettered : (b n : ℕ) → begins_name b ≡ true → n ≤ most_rungs → IsName (b ∷ decimal n)
lettered b n letter few =
    let digits = digits_of n (omega (arith, few)) in
    record {
      text = and_from (begins_name b) (list_all goes_on_name (decimal n)) letter (go_on (decimal n) digits.each);
      short = omega (arith, length-decimal-le 5 n (omega arith) (omega (arith, few)) (omega (arith, few)));
      free = free (b ∷ decimal n) (second (decimal n) digits.some digits.each);
    }
  where
    second : (ds : List ℕ) → 0 < length ds → list_all is_digit ds ≡ true → second_is_digit (b ∷ ds) ≡ true
    second [] some all = absurd (omega (arith, some))
    second (d ∷ ds) some all = (and_parts (is_digit d) (list_all is_digit ds) all).0

-- ---- which names there are

-- one of the three symbols of a rung between two
record IsOf (low high : ℕ) (x : List ℕ) : Type 0 where
  rung : ℕ
  least : low ≤ rung
  most : rung ≤ high
  which : (x ≡ entry rung) ⊎ ((x ≡ middle rung) ⊎ (x ≡ exit rung))

wider : (i n : ℕ) (x : List ℕ) → IsOf (i + 1) (i + 1 + n) x → IsOf i (i + suc n) x
wider i n x is = record { rung = is.rung; least = omega (arith, is.least); most = omega (arith, is.most); which = is.which }

in_symbols : (i n : ℕ) (x : List ℕ) → IsIn x (symbols_from i n) → IsOf i (i + n) x
in_symbols i zero x (inl same) = record { rung = i; least = omega arith; most = omega arith; which = inl (sym same) }
in_symbols i zero x (inr none) = absurd none
in_symbols i (suc n) x (inl same) = record { rung = i; least = omega arith; most = omega arith; which = inl (sym same) }
in_symbols i (suc n) x (inr (inl same)) = record { rung = i; least = omega arith; most = omega arith; which = inr (inl (sym same)) }
in_symbols i (suc n) x (inr (inr (inl same))) = record { rung = i; least = omega arith; most = omega arith; which = inr (inr (sym same)) }
in_symbols i (suc n) x (inr (inr (inr more))) = wider i n x (in_symbols (i + 1) n x more)

-- texts with other letters in front are others
abbrev first : List ℕ → ℕ
first [] = 0
first (b ∷ bs) = b

apart : (b c : ℕ) (bs cs : List ℕ) → (b ≡ c → ⊥) → b ∷ bs ≡ c ∷ cs → ⊥
apart b c bs cs other same = other (ap first same)

e_is_no_m : (i j : ℕ) → entry i ≡ middle j → ⊥
e_is_no_m i j = apart 101 109 (decimal i) (decimal j) (λ bad. omega (arith, bad))

e_is_no_x : (i j : ℕ) → entry i ≡ exit j → ⊥
e_is_no_x i j = apart 101 120 (decimal i) (decimal j) (λ bad. omega (arith, bad))

m_is_no_x : (i j : ℕ) → middle i ≡ exit j → ⊥
m_is_no_x i j = apart 109 120 (decimal i) (decimal j) (λ bad. omega (arith, bad))

-- texts with one letter in front have one number
same_number : (b i j : ℕ) → i ≤ most_rungs → j ≤ most_rungs → b ∷ decimal i ≡ b ∷ decimal j → i ≡ j
same_number b i j few less same =
    let digits : decimal i ≡ decimal j = cc in
    decimal_injective i j (omega (arith, few)) (omega (arith, less)) digits

-- a symbol of a rung is none of those of later rungs
entry_new : (i n : ℕ) → i + suc n ≤ most_rungs → IsIn (entry i) (symbols_from (i + 1) n) → ⊥
entry_new i n few there = go (in_symbols (i + 1) n (entry i) there)
  where
    go : IsOf (i + 1) (i + 1 + n) (entry i) → ⊥
    go is = which is.which
      where
        which : (entry i ≡ entry is.rung) ⊎ ((entry i ≡ middle is.rung) ⊎ (entry i ≡ exit is.rung)) → ⊥
        which (inl same) =
            let one : i ≡ is.rung = same_number 101 i is.rung (omega (arith, few)) (omega (arith, few, is.most)) same in
            omega (arith, one, is.least)
        which (inr (inl other)) = e_is_no_m i is.rung other
        which (inr (inr other)) = e_is_no_x i is.rung other

middle_new : (i n : ℕ) → i + suc n ≤ most_rungs → IsIn (middle i) (symbols_from (i + 1) n) → ⊥
middle_new i n few there = go (in_symbols (i + 1) n (middle i) there)
  where
    go : IsOf (i + 1) (i + 1 + n) (middle i) → ⊥
    go is = which is.which
      where
        which : (middle i ≡ entry is.rung) ⊎ ((middle i ≡ middle is.rung) ⊎ (middle i ≡ exit is.rung)) → ⊥
        which (inl other) = e_is_no_m is.rung i (sym other)
        which (inr (inl same)) =
            let one : i ≡ is.rung = same_number 109 i is.rung (omega (arith, few)) (omega (arith, few, is.most)) same in
            omega (arith, one, is.least)
        which (inr (inr other)) = m_is_no_x i is.rung other

exit_new : (i n : ℕ) → i + suc n ≤ most_rungs → IsIn (exit i) (symbols_from (i + 1) n) → ⊥
exit_new i n few there = go (in_symbols (i + 1) n (exit i) there)
  where
    go : IsOf (i + 1) (i + 1 + n) (exit i) → ⊥
    go is = which is.which
      where
        which : (exit i ≡ entry is.rung) ⊎ ((exit i ≡ middle is.rung) ⊎ (exit i ≡ exit is.rung)) → ⊥
        which (inl other) = e_is_no_x is.rung i (sym other)
        which (inr (inl other)) = m_is_no_x is.rung i (sym other)
        which (inr (inr same)) =
            let one : i ≡ is.rung = same_number 120 i is.rung (omega (arith, few)) (omega (arith, few, is.most)) same in
            omega (arith, one, is.least)

symbols_once : (i n : ℕ) → i + n ≤ most_rungs → IsOnce (symbols_from i n)
symbols_once i zero few = ((λ none. none), tt)
symbols_once i (suc n) few =
    (entry_apart, (middle_apart, (exit_new i n few, symbols_once (i + 1) n (omega (arith, few)))))
  where
    entry_apart : IsIn (entry i) (middle i ∷ exit i ∷ symbols_from (i + 1) n) → ⊥
    entry_apart (inl other) = e_is_no_m i i (sym other)
    entry_apart (inr (inl other)) = e_is_no_x i i (sym other)
    entry_apart (inr (inr more)) = entry_new i n few more

    middle_apart : IsIn (middle i) (exit i ∷ symbols_from (i + 1) n) → ⊥
    middle_apart (inl other) = m_is_no_x i i (sym other)
    middle_apart (inr more) = middle_new i n few more

pub symbol_count : (i n : ℕ) → length (symbols_from i n) ≡ 3 * n + 1
symbol_count i zero = refl
symbol_count i (suc n) = omega (arith, symbol_count (i + 1) n)

symbols_lawful : (i n : ℕ) → i + n ≤ most_rungs → All IsName (symbols_from i n)
symbols_lawful i zero few = All-cons IsName (entry i) [] (lettered 101 i refl (omega (arith, few))) (All-nil IsName)
symbols_lawful i (suc n) few =
    let rest = symbols_from (i + 1) n in
    All-cons IsName (entry i) (middle i ∷ exit i ∷ rest) (lettered 101 i refl (omega (arith, few)))
    (All-cons IsName (middle i) (exit i ∷ rest) (lettered 109 i refl (omega (arith, few)))
    (All-cons IsName (exit i) rest (lettered 120 i refl (omega (arith, few))) (symbols_lawful (i + 1) n (omega (arith, few)))))

pub symbols_are_names : (n : ℕ) → n ≤ most_rungs → AreNames most_symbols (symbols_from 0 n)
symbols_are_names n few = record {
  few = omega (arith, symbol_count 0 n, few);
  once = symbols_once 0 n (omega (arith, few));
  lawful = symbols_lawful 0 n (omega (arith, few));
}

-- ---- one rung more

pub symbols_step : (names : List (List ℕ)) (i n : ℕ) → i < n
    → (names ++ rung_symbols i) ++ symbols_from (i + 1) (n - (i + 1)) ≡ names ++ symbols_from i (n - i)
symbols_step names i n below =
    let more : suc (n - (i + 1)) ≡ n - i = omega (arith, below) in
    append_assoc names (rung_symbols i) (symbols_from (i + 1) (n - (i + 1))) ∙ ap (λ k. names ++ symbols_from i k) more
