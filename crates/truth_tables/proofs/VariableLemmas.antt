-- The variables of an expression stand among its words.
use Rattle.std.proofs.Common.{◌≡◌, ℕ, Bool, true, false, not, ◌&&◌, ◌||◌, List, [], ◌∷◌, ◌++◌, map, refl, sym, ap, ap₂, ◌∙◌, append-nil, append_assoc}
use Rattle.std.specs.Prelude.{codes, bytes_eq, filter}
use Rattle.std.proofs.lemmas.Bool.{and_parts}
use Rattle.std.proofs.lemmas.List.{map-append}
use Rattle.std.proofs.lemmas.List.Elements.{filter-append}
use Rattle.wpds_port.specs.declared.Mark.TheVariants.{Comma, Close}
use Rattle.wpds_port.specs.declared.Word.{Word}
use Rattle.wpds_port.specs.declared.Word.TheVariants.{Name, Mark as Sign}
use Rattle.wpds_port.specs.Tokens.{word_text}
use Rattle.truth_tables.specs.Grammar.{operator_mark, Tree, Constant, Variable, Bracket, Inverse, Two, Table2, Table3, tree_words, is_grouped, is_variable_word, tree_variables, IsExpression}
use Rattle.truth_tables.proofs.Trees.{two_parts}

abbrev pub variables_among : List Word → List (List ℕ)
variables_among ws = map word_text (filter is_variable_word ws)

among-append : (xs ys : List Word) → variables_among (xs ++ ys) ≡ variables_among xs ++ variables_among ys
among-append xs ys = ap (map word_text) (filter-append is_variable_word xs ys) ∙ map-append word_text (filter is_variable_word xs) (filter is_variable_word ys)

-- a variable, which is none of the three words
alone : (x : List ℕ) → is_grouped (Variable x) ≡ true → x ∷ [] ≡ variables_among (Name x ∷ [])
alone x g = rw (go (bytes_eq x (codes "return")) (bytes_eq x (codes "tab2")) (bytes_eq x (codes "tab3")) g) refl
  where
    go : (r s t : Bool) → not (r || s || t) ≡ true → not (s || t) ≡ true
    go true s t h = cc
    go false s t h = h

behind : {xs ys : List (List ℕ)} (us vs : List Word) → xs ≡ variables_among us → ys ≡ variables_among vs → xs ++ ys ≡ variables_among (us ++ vs)
behind us vs h k = ap₂ (λ x y. x ++ y) h k ∙ sym (among-append us vs)

closed : {xs : List (List ℕ)} (us : List Word) → xs ≡ variables_among us → xs ≡ variables_among (us ++ Sign Close ∷ [])
closed {xs} us h = sym (append-nil xs) ∙ behind us (Sign Close ∷ []) h refl

in_order : (e : Tree) → is_grouped e ≡ true → tree_variables e ≡ variables_among (tree_words e)
in_order (Constant b) g = refl
in_order (Variable x) g = alone x g
in_order (Bracket e) g = closed (tree_words e) (in_order e g)
in_order (Inverse e) g = in_order e (and_parts (is_grouped e) _ g).0
in_order (Two o a b) g =
    let p = two_parts o a b g in
    behind (tree_words a) (Sign (operator_mark o) ∷ tree_words b) (in_order a p.left) (in_order b p.right)
in_order (Table2 n a b) g =
    let p = and_parts (is_grouped a) (is_grouped b) g in
    closed (tree_words a ++ Sign Comma ∷ tree_words b) (behind (tree_words a) (Sign Comma ∷ tree_words b) (in_order a p.0) (in_order b p.1))
in_order (Table3 n a b c) g =
    let p = and_parts (is_grouped a && is_grouped b) (is_grouped c) g in
    let q = and_parts (is_grouped a) (is_grouped b) p.0 in
    let ab = behind (tree_words a) (Sign Comma ∷ tree_words b) (in_order a q.0) (in_order b q.1) in
    sym (append_assoc (tree_variables a) (tree_variables b) (tree_variables c))
    ∙ closed (tree_words a ++ Sign Comma ∷ tree_words b ++ Sign Comma ∷ tree_words c) (behind (tree_words a ++ Sign Comma ∷ tree_words b) (Sign Comma ∷ tree_words c) ab (in_order c p.1))

pub variables_in_order : (ws : List Word) (e : Tree) → IsExpression ws e → tree_variables e ≡ variables_among ws
variables_in_order ws e h = in_order e h.1.0 ∙ ap variables_among h.1.1
