-- Words that are names, and words that begin with some.
use Rattle.std.proofs.Common.{◌≡◌, ◌∙◌, ◌<◌, ℕ, true, false, List, [], ◌∷◌, ◌++◌, length, Option, Some, None, refl, sym, ap, option_map, append_assoc, append-nil, arith}
use Rattle.std.specs.Prelude.{is_some, MatchOption}
use Rattle.wpds_port.specs.declared.Lexeme.{Lexeme}
use Rattle.wpds_port.specs.declared.Word.{Word}
use Rattle.wpds_port.specs.declared.Word.TheVariants.{Name, Number, Mark as Sign}
use Rattle.wpds_port.specs.Words.{word_of}
use Rattle.document_forms.specs.Words.{name_of, each, each_of_some}
use Rattle.rule_reader.specs.Names.{begins_with_name, names_in_front, behind_names}

pub names_whole : (ws : List Word) → behind_names ws ≡ [] → each name_of ws ≡ Some (names_in_front ws)
names_whole [] e = refl
names_whole (Name x ∷ ws) e = ap (option_map (λ xs. x ∷ xs)) (names_whole ws e)
names_whole (Number n ∷ ws) e = cc
names_whole (Sign m ∷ ws) e = cc

pub names_broken : (ws : List Word) (w : Word) (vs : List Word) → behind_names ws ≡ w ∷ vs → each name_of ws ≡ None
names_broken [] w vs e = cc
names_broken (Name x ∷ ws) w vs e = ap (option_map (λ xs. x ∷ xs)) (names_broken ws w vs e)
names_broken (Number n ∷ ws) w vs e = refl
names_broken (Sign m ∷ ws) w vs e = refl

-- the same of one name at least

pub some_broken : (ws : List Word) (w : Word) (vs : List Word) → behind_names ws ≡ w ∷ vs → each_of_some name_of ws ≡ None
some_broken [] w vs e = refl
some_broken (u ∷ ws) w vs e = names_broken (u ∷ ws) w vs e

pub some_whole : (ws : List Word) → behind_names ws ≡ [] → 0 < length (names_in_front ws) → each_of_some name_of ws ≡ Some (names_in_front ws)
some_whole [] e n = absurd (omega (arith, n))
some_whole (u ∷ ws) e n = names_whole (u ∷ ws) e

-- ---- names that are read from the left

pub front_goes_on :
    (left rest : List Word) (x : List ℕ) (done all : List (List ℕ)) → left ≡ Name x ∷ rest
    → done ++ names_in_front left ≡ all → (done ++ x ∷ []) ++ names_in_front rest ≡ all
front_goes_on left rest x done all e same =
    append_assoc done (x ∷ []) (names_in_front rest) ∙ ap (λ ws. done ++ names_in_front ws) (sym e) ∙ same

no_front : (ws : List Word) → begins_with_name ws ≡ false → (names_in_front ws ≡ []) × (behind_names ws ≡ ws)
no_front [] h = (refl, refl)
no_front (Name x ∷ ws) h = cc
no_front (Number n ∷ ws) h = (refl, refl)
no_front (Sign m ∷ ws) h = (refl, refl)

pub front_ends :
    (left : List Word) (done all : List (List ℕ)) → begins_with_name left ≡ false
    → done ++ names_in_front left ≡ all → done ≡ all
front_ends left done all h same =
    sym (append-nil done) ∙ ap (λ xs. done ++ xs) (sym (no_front left h).0) ∙ same

pub rest_ends : (left all : List Word) → begins_with_name left ≡ false → behind_names left ≡ all → left ≡ all
rest_ends left all h same = sym (no_front left h).1 ∙ same

-- ---- whether words are left

abbrev IsSplit : List Word → Option (Lexeme × List Word) → Type 0
IsSplit ws o = MatchOption o (ws ≡ []) (λ p. ws ≡ word_of p.0 ∷ p.1)

pub some_left : (ws : List Word) (o : Option (Lexeme × List Word)) → IsSplit ws o → is_some o ≡ true → (w : Word) × (vs : List Word) × (ws ≡ w ∷ vs)
some_left ws None m h = cc
some_left ws (Some p) m h = (word_of p.0, p.1, m)

pub none_left : (ws : List Word) (o : Option (Lexeme × List Word)) → IsSplit ws o → is_some o ≡ false → ws ≡ []
none_left ws None m h = m
none_left ws (Some p) m h = cc
