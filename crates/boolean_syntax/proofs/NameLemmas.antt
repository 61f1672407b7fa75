-- Names that lines declare.
use Rattle.std.proofs.Common.{◌≡◌, ℕ, zero, suc, ◌+◌, Bool, true, false, not, ◌||◌, List, [], ◌∷◌, ◌++◌, length, Option, None, Some, refl, sym, ap, ap₂, ◌∙◌, arith}
use Rattle.std.specs.Prelude.{option_map, filter_map, ◌==◌, bytes_eq}
use Rattle.std.specs.List.{list_any}
use Rattle.std.proofs.lemmas.Bool.{or_parts}
use Rattle.std.proofs.lemmas.List.{length-append}
use Rattle.std.proofs.lemmas.List.Folds.{list_any-append}
use Rattle.wpds_base.specs.Lists.{IsOnce}
use Rattle.wpds_port.specs.declared.Word.{Word}
use Rattle.wpds_port.specs.declared.Word.TheVariants.{Name, Number, Mark as Sign}
use Rattle.document_forms.specs.Forms.{names_of}
use Rattle.document_forms.specs.Names.{is_among, has_twice, once, is_reserved}
use Rattle.document_forms.specs.Words.{name_of, each, guarded, ◌>>=◌}
use Rattle.document_forms.proofs.CallerLemmas.{once_joined}
use Rattle.program_forms.specs.Kinds.{has_known}

-- ---- names of a line

names_each : (ws : List Word) (xs : List (List ℕ)) → each name_of ws ≡ Some xs → filter_map name_of ws ≡ xs
names_each [] xs e = cc
names_each (Name x ∷ ws) xs e = go (each name_of ws) (names_each ws) e
  where
    go : (o : Option (List (List ℕ))) → ((ys : List (List ℕ)) → o ≡ Some ys → filter_map name_of ws ≡ ys)
        → option_map (λ ys. x ∷ ys) o ≡ Some xs → x ∷ filter_map name_of ws ≡ xs
    go None h k = cc
    go (Some ys) h k = ap (λ l. x ∷ l) (h ys refl) ∙ cc
names_each (Number n ∷ ws) xs e = cc
names_each (Sign m ∷ ws) xs e = cc

pub names_said : (ws : List Word) (xs : List (List ℕ)) → names_of ws ≡ Some xs → filter_map name_of ws ≡ xs
names_said [] xs e = cc
names_said (w ∷ ws) xs e = go (each name_of (w ∷ ws)) refl e
  where
    go : (o : Option (List (List ℕ))) → each name_of (w ∷ ws) ≡ o → (o >>= λ ys. guarded (not (list_any is_reserved ys)) (Some ys)) ≡ Some xs
        → filter_map name_of (w ∷ ws) ≡ xs
    go None h k = cc
    go (Some ys) h k = here (list_any is_reserved ys) k
      where
        here : (b : Bool) → guarded (not b) (Some ys) ≡ Some xs → filter_map name_of (w ∷ ws) ≡ xs
        here true k = cc
        here false k = names_each (w ∷ ws) ys h ∙ cc

-- ---- names among two lists

any_either : {A : Type 0} (f g : A → Bool) (xs : List A) → list_any (λ x. f x || g x) xs ≡ (list_any f xs || list_any g xs)
any_either f g [] = refl
any_either f g (x ∷ xs) = ap (λ t. (f x || g x) || t) (any_either f g xs) ∙ regroup (f x) (g x) (list_any f xs) (list_any g xs)
  where
    regroup : (a b c d : Bool) → ((a || b) || (c || d)) ≡ ((a || c) || (b || d))
    regroup true b c d = refl
    regroup false true true d = refl
    regroup false true false d = refl
    regroup false false c d = refl

pub any_same : {A : Type 0} (f g : A → Bool) (xs : List A) → ((x : A) → f x ≡ g x) → list_any f xs ≡ list_any g xs
any_same f g [] e = refl
any_same f g (x ∷ xs) e = ap₂ (λ a b. a || b) (e x) (any_same f g xs e)

known_in_both : (known own xs : List (List ℕ)) → has_known (known ++ own) xs ≡ (has_known known xs || has_known own xs)
known_in_both known own xs =
    any_same (is_among (known ++ own)) (λ x. is_among known x || is_among own x) xs (λ x. list_any-append (bytes_eq x) known own)
    ∙ any_either (is_among known) (is_among own) xs

pub one_known : (known : List (List ℕ)) (x : List ℕ) → has_known known (x ∷ []) ≡ is_among known x
one_known known x = go (is_among known x)
  where
    go : (b : Bool) → (b || false) ≡ b
    go true = refl
    go false = refl

-- a name that stands twice among a procedure's names and the globals
pub local_twice : (known own xs : List (List ℕ))
    → (has_twice xs || has_known (known ++ own) xs) ≡ ((has_twice xs || has_known own xs) || has_known known xs)
local_twice known own xs = ap (λ t. has_twice xs || t) (known_in_both known own xs) ∙ turned (has_twice xs) (has_known known xs) (has_known own xs)
  where
    turned : (a b c : Bool) → (a || (b || c)) ≡ ((a || c) || b)
    turned true b c = refl
    turned false true true = refl
    turned false true false = refl
    turned false false true = refl
    turned false false false = refl

pub proc_twice : (a b c : Bool) → (not (not a) || (b || c)) ≡ ((a || b) || c)
proc_twice true b c = refl
proc_twice false b c = refl

-- ---- names that are added

-- where none stands twice, they stand behind those that were there
pub names_joined : (old new xs : List (List ℕ)) → IsOnce old → new ≡ once (old ++ xs) → (has_twice xs || has_known old xs) ≡ false → new ≡ old ++ xs
names_joined old new xs o n e =
    let p = or_parts (has_twice xs) (has_known old xs) e in
    n ∙ once_joined old xs o p.1 p.0

pub joined_length : (old new xs : List (List ℕ)) → new ≡ old ++ xs → length new ≡ length old + length xs
joined_length old new xs e = ap length e ∙ length-append old xs

same_test : (x y : ℕ) → x ≡ y → (x == y) ≡ true
same_test x y h = grind (arith, h)

other_test : (x y : ℕ) → (x ≡ y → ⊥) → (x == y) ≡ false
other_test x y h = grind (arith, h)

-- as many as before, where there are none
pub none_more : (a b n : ℕ) → a ≡ b + n → (a == b) ≡ (n == 0)
none_more a b zero e = same_test a b (omega (arith, e))
none_more a b (suc n) e = other_test a b (omega (arith, e)) ∙ sym (other_test (suc n) 0 (omega arith))
