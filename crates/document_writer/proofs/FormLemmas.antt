-- The parts of a copy's form.
use Rattle.std.proofs.Common.{◌≡◌, ◌<◌, ◌+◌, ◌-◌, ◌/◌, ◌%◌, ◌^◌, ◌==◌, ◌||◌, suc, ℕ, ℤ, Bool, true, false, cond, List, [], ◌∷◌, ◌++◌, map, length, filter, Option, Some, None, is_some, refl, sym, ap, ◌∙◌, append_assoc, get_or, if◌then◌else◌, arith, codes}
use Rattle.std.proofs.lemmas.List.{get_or_read}
use Rattle.std.specs.List.{range_with_len}
use Rattle.std.specs.Fmt.{signed_decimal}
use Rattle.document_forms.specs.declared.weight.FormText.TheVariants.{Meet}
use Rattle.document_forms.specs.Names.{name}
use Rattle.document_forms.specs.Writing.{members, constant_texts, or_undef, form_text}
use Rattle.document_writer.specs.private.Forms.{constant_text, members_from}
use Rattle.document_writer.specs.private.Rows.{marked, has_some}
use Rattle.document_writer.proofs.RowLemmas.{listed_marked}

-- ---- one variable more

members_more : (names : List (List ℕ)) (bits k : ℕ) → k < length names → members_from names bits k ≡ cond (bits / 2 ^ k % 2 == 1) (k ∷ members_from names bits (k + 1)) (members_from names bits (k + 1))
members_more names bits k below =
    let left : length names - k ≡ suc (length names - (k + 1)) = omega arith in
    ap (λ n. filter (λ v. bits / 2 ^ v % 2 == 1) (range_with_len k n)) left

pub members_hit : (names : List (List ℕ)) (bits k : ℕ) → k < length names → (bits / 2 ^ k % 2 == 1) ≡ true → members_from names bits k ≡ k ∷ members_from names bits (k + 1)
members_hit names bits k below hit = members_more names bits k below ∙ ap (λ b. cond b (k ∷ members_from names bits (k + 1)) (members_from names bits (k + 1))) hit

pub members_missed : (names : List (List ℕ)) (bits k : ℕ) → k < length names → (bits / 2 ^ k % 2 == 1) ≡ false → members_from names bits k ≡ members_from names bits (k + 1)
members_missed names bits k below missed = members_more names bits k below ∙ ap (λ b. cond b (k ∷ members_from names bits (k + 1)) (members_from names bits (k + 1))) missed

-- what is written of one that is there
pub member_written : (names : List (List ℕ)) (bits k : ℕ) (some : Bool) (before item : List ℕ) → k < length names → (bits / 2 ^ k % 2 == 1) ≡ true → item ≡ get_or names k item → ((before ++ (if some then codes ", " else [])) ++ item) ++ marked (codes ", ") true (map (name names) (members_from names bits (k + 1))) ≡ before ++ marked (codes ", ") some (map (name names) (members_from names bits k))
member_written names bits k some before item below hit is =
    let mark = if some then codes ", " else [] in
    let rest = marked (codes ", ") true (map (name names) (members_from names bits (k + 1))) in
    append_assoc (before ++ mark) item rest
    ∙ append_assoc before mark (item ++ rest)
    ∙ ap (λ t. before ++ t) (sym (append_assoc mark item rest))
    ∙ ap (λ t. before ++ ((mark ++ t) ++ rest)) (get_or_read names k item below is [])
    ∙ ap (λ ks. before ++ marked (codes ", ") some (map (name names) ks)) (sym (members_hit names bits k below hit))

or_true : (b : Bool) → (b || true) ≡ true
or_true true = refl
or_true false = refl

pub member_some : (names : List (List ℕ)) (bits k : ℕ) (some : Bool) → k < length names → (bits / 2 ^ k % 2 == 1) ≡ true → (some || has_some (members_from names bits k)) ≡ true
member_some names bits k some below hit = ap (λ ks. some || has_some ks) (members_hit names bits k below hit) ∙ or_true some

-- ---- the whole form

some_text : (names : List (List ℕ)) (f : ℕ → List ℕ) (c : Option ℤ) (ms : List ℕ) → (is_some c || has_some ms) ≡ true → or_undef names (constant_texts names c ++ map f ms) ≡ constant_text c ++ marked (codes ", ") (is_some c) (map f ms)
some_text names f None [] h = absurd cc
some_text names f None (m ∷ ms) h = listed_marked (f m ∷ map f ms)
some_text names f (Some c) ms h = listed_marked (signed_decimal c ∷ map f ms)

pub form_some : (names : List (List ℕ)) (c : Option ℤ) (bits : ℕ) → (is_some c || has_some (members names bits)) ≡ true → form_text names (Meet c bits) ≡ constant_text c ++ marked (codes ", ") (is_some c) (map (name names) (members names bits))
form_some names c bits = some_text names (name names) c (members names bits)
