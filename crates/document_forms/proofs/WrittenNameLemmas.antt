-- Names and numbers are read as they are written.
use Rattle.std.proofs.Common.{◌≡◌, ◌⊎◌, inl, inr, ℕ, zero, suc, ◌+◌, ◌-◌, ◌*◌, ◌/◌, ◌%◌, ◌^◌, ◌<◌, ◌≤◌, true, false, not, cond, ◌==◌, List, [], ◌∷◌, ◌++◌, map, length, get_or, refl, sym, ap, ap₂, ◌∙◌, subst, arith, decimal}
use Rattle.std.specs.Prelude.{All, bytes_eq, nat_le}
use Rattle.std.specs.List.{list_all}
use Rattle.std.proofs.lemmas.Bool.{and_parts, and_from, or_from, or_left, or_right, le-leb, false_from_ne_true, eqb-true}
use Rattle.std.proofs.lemmas.List.Elements.{All-head, All-tail, All-get_or}
use Rattle.std.proofs.lemmas.Slice.Eq.{bytes_eq-Decides}
use Rattle.std.proofs.lemmas.Fmt.{decimal_by_steps}
use Rattle.std.proofs.Math.ListN.{get_or-append}
use Rattle.wpds_base.specs.Limits.{longest_name}
use Rattle.wpds_base.specs.Lists.{IsIn, IsOnce}
use Rattle.wpds_port.specs.declared.Word.TheVariants.{Name, Number}
use Rattle.wpds_port.specs.Tokens.{is_digit, is_number_text, has_leading_zero}
use Rattle.truth_tables.specs.Grammar.{number_onto, number_of}
use Rattle.document_forms.specs.Names.{is_among, has_twice, has_unknown, number_in, name}
use Rattle.document_forms.specs.Lawful.{AreBelow, IsName}
use Rattle.document_forms.proofs.NameLemmas.{twice_is_once}
use Rattle.document_forms.proofs.WrittenWordLemmas.{Says, says_word, SayAll, say_more}

-- ---- the number of the name with a number

in_names : (names : List (List ℕ)) (k : ℕ) → k < length names → IsIn (name names k) names
in_names [] k h = absurd (omega arith)
in_names (y ∷ ys) zero h = inl refl
in_names (y ∷ ys) (suc k) h = inr (in_names ys k (omega arith))

same_bytes : (x : List ℕ) → bytes_eq x x ≡ true
same_bytes x = (bytes_eq-Decides x x).1 refl

pub name_among : (names : List (List ℕ)) (k : ℕ) → k < length names → is_among names (name names k) ≡ true
name_among [] k h = absurd (omega arith)
name_among (y ∷ ys) zero h = or_left (bytes_eq y y) (is_among ys y) (same_bytes y)
name_among (y ∷ ys) (suc k) h = or_right (bytes_eq (name ys k) y) (is_among ys (name ys k)) (name_among ys k (omega arith))

pub number_named : (names : List (List ℕ)) (k : ℕ) → IsOnce names → k < length names → number_in names (name names k) ≡ k
number_named [] k o h = absurd (omega arith)
number_named (y ∷ ys) zero o h = ap (λ t. cond t 0 (number_in ys y + 1)) (same_bytes y)
number_named (y ∷ ys) (suc k) o h =
    let x = name ys k in
    let other : bytes_eq x y ≡ false = false_from_ne_true (bytes_eq x y) (λ e. o.0 (subst (λ z. IsIn z ys) ((bytes_eq-Decides x y).0 e) (in_names ys k (omega arith)))) in
    ap (λ t. cond t 0 (number_in ys x + 1)) other ∙ ap (λ n. n + 1) (number_named ys k o.1 (omega arith)) ∙ omega arith

pub numbers_named : (names : List (List ℕ)) (ks : List ℕ) → IsOnce names → AreBelow (length names) ks → map (number_in names) (map (name names) ks) ≡ ks
numbers_named names [] o b = refl
numbers_named names (k ∷ ks) o b =
    ap₂ (λ x xs. x ∷ xs) (number_named names k o (All-head (λ n. n < length names) k ks b)) (numbers_named names ks o (All-tail (λ n. n < length names) k ks b))

pub known_more : (names : List (List ℕ)) (x : List ℕ) (xs : List (List ℕ)) → is_among names x ≡ true → has_unknown names xs ≡ false → has_unknown names (x ∷ xs) ≡ false
known_more names x xs h k = or_from (not (is_among names x)) (has_unknown names xs) (ap not h) k

pub names_known : (names : List (List ℕ)) (ks : List ℕ) → AreBelow (length names) ks → has_unknown names (map (name names) ks) ≡ false
names_known names [] b = refl
names_known names (k ∷ ks) b =
    known_more names (name names k) (map (name names) ks) (name_among names k (All-head (λ n. n < length names) k ks b))
    (names_known names ks (All-tail (λ n. n < length names) k ks b))

-- ---- names of different numbers differ

named_in : (names : List (List ℕ)) (k : ℕ) (ks : List ℕ) → IsOnce names → k < length names → AreBelow (length names) ks → IsIn (name names k) (map (name names) ks) → IsIn k ks
named_in names k [] o h b i = absurd i
named_in names k (j ∷ ks) o h b (inl e) =
    inl (sym (number_named names j o (All-head (λ n. n < length names) j ks b)) ∙ ap (number_in names) e ∙ number_named names k o h)
named_in names k (j ∷ ks) o h b (inr i) = inr (named_in names k ks o h (All-tail (λ n. n < length names) j ks b) i)

named_once : (names : List (List ℕ)) (ks : List ℕ) → IsOnce names → AreBelow (length names) ks → IsOnce ks → IsOnce (map (name names) ks)
named_once names [] o b s = tt
named_once names (k ∷ ks) o b s = (
  λ i. s.0 (named_in names k ks o (All-head (λ n. n < length names) k ks b) (All-tail (λ n. n < length names) k ks b) i),
  named_once names ks o (All-tail (λ n. n < length names) k ks b) s.1,
)

pub none_named_twice : (names : List (List ℕ)) (ks : List ℕ) → IsOnce names → AreBelow (length names) ks → IsOnce ks → has_twice (map (name names) ks) ≡ false
none_named_twice names ks o b s = (twice_is_once (map (name names) ks)).1 (named_once names ks o b s)

-- ---- names are words

pub says_name : (x : List ℕ) → IsName x → Says x (Name x ∷ [])
says_name x h = says_word (Name x) h.text (le-leb (length x) longest_name h.short)

pub name_at : (names : List (List ℕ)) (k : ℕ) → All IsName names → k < length names → IsName (name names k)
name_at names k h l = All-get_or IsName names k [] l h

pub says_named : (names : List (List ℕ)) (k : ℕ) → All IsName names → k < length names → Says (name names k) (Name (name names k) ∷ [])
says_named names k h l = says_name (name names k) (name_at names k h l)

pub say_names : (xs : List (List ℕ)) → All IsName xs → SayAll xs (map Name xs)
say_names [] h = refl
say_names (x ∷ xs) h = say_more x xs (Name x ∷ []) (map Name xs) (says_name x (All-head IsName x xs h)) (say_names xs (All-tail IsName x xs h))

pub say_named : (names : List (List ℕ)) (ks : List ℕ) → All IsName names → AreBelow (length names) ks → SayAll (map (name names) ks) (map Name (map (name names) ks))
say_named names [] h b = refl
say_named names (k ∷ ks) h b =
    say_more (name names k) (map (name names) ks) (Name (name names k) ∷ []) (map Name (map (name names) ks))
    (says_named names k h (All-head (λ n. n < length names) k ks b))
    (say_named names ks h (All-tail (λ n. n < length names) k ks b))

-- ---- numbers are words

onto_last : (n : ℕ) (ds : List ℕ) (c : ℕ) → number_onto n (ds ++ c ∷ []) ≡ 10 * number_onto n ds + (c - 48)
onto_last n [] c = refl
onto_last n (d ∷ ds) c = onto_last (10 * n + (d - 48)) ds c

-- The digits write the number, without a zero in front of other digits.
record IsNumeralOf (n : ℕ) (ds : List ℕ) : Type 0 where
  digits : is_number_text ds ≡ true
  first : (length ds ≡ 1) ⊎ (48 < get_or ds 0 0)
  large : 0 < n → 48 < get_or ds 0 0
  value : number_of ds ≡ n

is_digit_within : (d : ℕ) → 48 ≤ d → d ≤ 57 → is_digit d ≡ true
is_digit_within d l u = and_from (nat_le 48 d) (nat_le d 57) (le-leb 48 d l) (le-leb d 57 u)

number_last : (ds : List ℕ) (c : ℕ) → is_number_text ds ≡ true → is_digit c ≡ true → is_number_text (ds ++ c ∷ []) ≡ true
number_last [] c h k = cc
number_last (d ∷ ds) c h k = let p = and_parts (is_digit d) (list_all is_digit ds) h in and_from (is_digit d) (list_all is_digit (ds ++ c ∷ [])) p.0 (all_last ds p.1)
  where
    all_last : (es : List ℕ) → list_all is_digit es ≡ true → list_all is_digit (es ++ c ∷ []) ≡ true
    all_last [] e = and_from (is_digit c) true k refl
    all_last (e ∷ es) f = let q = and_parts (is_digit e) (list_all is_digit es) f in and_from (is_digit e) (list_all is_digit (es ++ c ∷ [])) q.0 (all_last es q.1)

some_digits : (ds : List ℕ) → is_number_text ds ≡ true → 0 < length ds
some_digits [] h = cc
some_digits (d ∷ ds) h = omega arith

one_digit : (m : ℕ) → m < 10 → IsNumeralOf m ((48 + m) ∷ [])
one_digit m l = record {
  digits = and_from (is_digit (48 + m)) true (is_digit_within (48 + m) (omega arith) (omega arith)) refl;
  first = inl refl;
  large = λ p. omega arith;
  value = omega arith;
}

digit_more : (m : ℕ) (ds : List ℕ) → 10 ≤ m → IsNumeralOf (m / 10) ds → IsNumeralOf m (ds ++ (48 + m % 10) ∷ [])
digit_more m ds l h =
    let c = 48 + m % 10 in
    let some = some_digits ds h.digits in
    let first : 48 < get_or (ds ++ c ∷ []) 0 0 = omega (arith, get_or-append ds (c ∷ []) 0 0 some, h.large (omega arith)) in
    record {
      digits = number_last ds c h.digits (is_digit_within c (omega arith) (omega arith));
      first = inr first;
      large = λ p. first;
      value = onto_last 0 ds c ∙ omega (arith, h.value);
    }

numeral : (n : ℕ) → n < 2 ^ 64 → IsNumeralOf n (decimal n)
numeral = decimal_by_steps IsNumeralOf one_digit digit_more

no_zero_first : (ds : List ℕ) → (length ds ≡ 1) ⊎ (48 < get_or ds 0 0) → has_leading_zero ds ≡ false
no_zero_first [] h = refl
no_zero_first (d ∷ []) h = refl
no_zero_first (d ∷ e ∷ ds) (inl h) = absurd (omega arith)
no_zero_first (d ∷ e ∷ ds) (inr h) = false_from_ne_true (d == 48) (λ z. absurd (omega (arith, eqb-true d 48 z)))

pub says_digits : (ds : List ℕ) → is_number_text ds ≡ true → has_leading_zero ds ≡ false → Says ds (Number ds ∷ [])
says_digits ds h z = says_word (Number ds) h (ap not z)

pub decimal_text : (n : ℕ) → n < 2 ^ 64 → is_number_text (decimal n) ≡ true
decimal_text n l = (numeral n l).digits

pub decimal_leads : (n : ℕ) → n < 2 ^ 64 → has_leading_zero (decimal n) ≡ false
decimal_leads n l = no_zero_first (decimal n) (numeral n l).first

pub number_written : (n : ℕ) → n < 2 ^ 64 → number_of (decimal n) ≡ n
number_written n l = (numeral n l).value

pub says_number : (n : ℕ) → n < 2 ^ 64 → Says (decimal n) (Number (decimal n) ∷ [])
says_number n l = says_digits (decimal n) (decimal_text n l) (decimal_leads n l)
